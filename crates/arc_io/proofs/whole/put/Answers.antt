use Rattle.std.proofs.Common.{List, ℕ, take, drop, ◌∙◌, ap, arith}
use Rattle.std.specs.Prelude.{Option}
use Rattle.std.proofs.lemmas.List.{take_rest}
use Rattle.std.specs.Io.KnownBytes.{append_known}
use Rattle.arc_io.proofs.KnownMore.{known_more}
use Rattle.arc_io.proofs.Frames.{writes_more}
use Rattle.arc_io.proofs.whole.put.Goals as goal

pub loop-done-preserved : goal.loop-done-preserved
loop-done-preserved g c =
    let old = c.loop-done.invariant in
    let told = c.in_ok-done.ensures.told in
    let bytes = c.args.bytes.now in
    let done = c.loop-done.done in
    let n = c.in_ok-done.field-0 in
    let first = (g.K.Ends.seen c.args.sink.now).written in
    let piece = told.taken ∙ ap (λ (l : List ℕ). append_known (g.K.Ends.seen c.loop-done.sink).written (take n l)) (take_rest bytes done) in
    record {
      within = omega (arith, c.in_ok-done.ensures.bound);
      written = piece ∙ ap (λ (o : Option (List ℕ)). append_known o (take n (drop done bytes))) old.written ∙ known_more first bytes done n;
      faults = omega (arith, told.cause.later);
      others = writes_more old.others told.others;
    }
