use Rattle.std.proofs.Common.{◌≤◌, ◌^◌, List, [], take, drop, ap, subst, sym, ◌∙◌, arith}
use Rattle.std.proofs.lemmas.List.{drop-drop}
use Rattle.centre_store.specs.Calls.{Submission}
use Rattle.centre_store.specs.Gathered.{AreTakenUp}
use Rattle.centre_store.proofs.Gathered.{taken_then, take_next}
use Rattle.centre_store.proofs.Written.{same_then}
use Rattle.centre_store.proofs.gather.gather.Goals as goal

pub loop-preserved : goal.loop-preserved
loop-preserved g c =
    let i = c.loop.counter in
    let calls = c.args.batch.now in
    let at = c.loop.invariant in
    let done = c.in_default.ensures in
    let next : AreTakenUp c.args.caller (take 1 (drop i calls)) c.loop.centre c.take_first.new.centre c.loop.set.bodies c.take_first.new.bodies
    c.loop.set.dones c.take_first.new.dones =
    subst (λ (l : List Submission). AreTakenUp c.args.caller (take 1 l) c.loop.centre c.take_first.new.centre c.loop.set.bodies c.take_first.new.bodies
    c.loop.set.dones c.take_first.new.dones) at.off done.taken in
    record {
      within = omega (arith, c.loop-test.true, c.count-end.ensures.count);
      taken = subst (λ (l : List Submission). AreTakenUp c.args.caller l c.args.centre.now c.take_first.new.centre [] c.take_first.new.bodies [] c.take_first.new.dones)
          (sym (take_next i calls))
          (taken_then c.args.caller (take i calls) (take 1 (drop i calls)) c.args.centre.now c.loop.centre c.take_first.new.centre [] c.loop.set.bodies
          c.take_first.new.bodies [] c.loop.set.dones c.take_first.new.dones at.taken next);
      off = done.off ∙ ap (drop 1) at.off ∙ drop-drop 1 i calls;
      same = same_then c.args.journal.now c.loop.journal c.take_first.new.journal at.same c.take_first.ensures.same;
      room = c.take_first.ensures.room;
      worn = λ many.
          let full : 2 ^ 48 ≤ c.loop.centre.entries = omega (arith, many, at.taken.entries) in
          let e = done.worn full in
          cc;
    }
