use Rattle.arc_book.proofs.Books.{nothing_told}
use Rattle.arc_book.proofs.book.book.Goals as goal

pub returns-in_default : goal.returns-in_default
returns-in_default g c = nothing_told c.args.options.now (g.S.Ends.seen c.args.source.now).left (g.S.Ends.seen c.args.source.now) (g.K.Ends.seen c.args.sink.now)

pub returns : goal.returns
returns g c =
    let s = g.S.Ends.seen c.args.source.now in
    c.finish.ensures c.args.options.now s.left s (g.S.Ends.seen c.compile-status.new.source) (g.K.Ends.seen c.args.sink.now) c.compile-status.ensures.compiled
