use Rattle.std.proofs.Common.{◌≡◌, List, length, take, sym, ap, ◌∙◌, subst, arith}
use Rattle.std.proofs.lemmas.List.{length-take-le}
use Rattle.centre_core.specs.declared.batch.Submission.{Submission}
use Rattle.line_gate.specs.Entries.{Entry, AreBy}
use Rattle.line_gate.proofs.Told.{told_length, told_by}
use Rattle.line_gate.proofs.locked_store.enter_all.Goals as goal

pub enter-requires-clause-count : goal.enter-requires-clause-count
enter-requires-clause-count g c =
    let calls : List Submission = take (length c.args.done.now) c.args.of.now.value in
    let long : length calls ≡ length c.args.done.now = length-take-le (length c.args.done.now) c.args.of.now.value c.requires.count.0 in
    let same = ap length c.requires.entries ∙ told_length calls c.args.done.now long in
    (same ∙ sym c.count-count.ensures, omega (arith, c.if-count-gt0.true), omega (arith, c.requires.count.1, c.count-count.ensures))

pub enter-requires-clause-by : goal.enter-requires-clause-by
enter-requires-clause-by g c =
    subst (AreBy c.args.pass.now.number) (sym c.requires.entries)
    (told_by c.args.pass.now.number (take (length c.args.done.now) c.args.of.now.value) c.args.done.now c.requires.by)
