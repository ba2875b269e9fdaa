use Rattle.std.proofs.Common.{ap, subst, ◌∙◌}
use Rattle.std.specs.Io.KnownBytes.{append_known}
use Rattle.arc_book.specs.Compiled.{IsFrontWritten}
use Rattle.arc_book.proofs.Books.{short_as, told_front, told_whole}
use Rattle.arc_book.proofs.book.finish.Goals as goal

pub returns-in-WriteFault : goal.returns-in-WriteFault
returns-in-WriteFault g c o all s s' k compiled = short_as o c.args.status all s s' k (g.K.Ends.seen c.args.sink.now) c.args.page.now c.in-WriteFault.is compiled

pub returns-in-Err : goal.returns-in-Err
returns-in-Err g c o all s s' k compiled =
    let before = g.K.Ends.seen c.args.sink.now in
    let after = g.K.Ends.seen c.put.new.sink in
    told_front o all s s' k before after c.args.page.now c.put.ensures.others c.args.status compiled c.in_default.not-WriteFault
    (subst (IsFrontWritten before.written after.written) (c.bytes.ensures ∙ c.put_last.ensures) c.in-Err.ensures.taken) c.in-Err.ensures.cause.failed

pub returns-in-Ok : goal.returns-in-Ok
returns-in-Ok g c o all s s' k compiled =
    let before = g.K.Ends.seen c.args.sink.now in
    let after = g.K.Ends.seen c.put.new.sink in
    told_whole o all s s' k before after c.args.page.now c.put.ensures.others c.args.status compiled c.in_default.not-WriteFault
    (c.in-Ok.ensures.taken ∙ ap (append_known before.written) (c.bytes.ensures ∙ c.put_last.ensures))
