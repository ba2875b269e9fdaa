use Rattle.std.proofs.Common.{sym, subst}
use Rattle.mirror_centre.specs.Feeding.{IsReadAlone, ReadsNone}
use Rattle.mirror_centre.proofs.Asks.{alone_before, none_before}
use Rattle.mirror_centre.proofs.feed.read_letter.Goals as goal

pub returns-in-Err-clause-none : goal.returns-in-Err-clause-none
returns-in-Err-clause-none g c =
    subst (λ e. ReadsNone e c.args.answered (g.P.Ends.seen c.args.port.now) (g.P.Ends.seen c.read_next.new.port)) (sym c.end_before.ensures)
    (none_before c.in-Err.short c.args.answered (g.P.Ends.seen c.args.port.now) (g.P.Ends.seen c.read_next.new.port) c.in-Err.ensures.short)

pub returns-in-Err-clause-stop : goal.returns-in-Err-clause-stop
returns-in-Err-clause-stop g c = subst IsReadAlone (sym c.end_before.ensures) (alone_before c.in-Err.short)
