-- The moments of a window, the oldest first.
use Rattle.std.proofs.Common.{◌≤◌, ◌-◌, ◌+◌, length, refl, arith}
use Rattle.std.specs.Prelude.{reverse}
use Rattle.std.proofs.lemmas.Bool.{false≢true}
use Rattle.std.proofs.lemmas.List.{length-reverse}
use Rattle.arc_data.specs.declared.event.Past.{Past}
use Rattle.summary_rules.specs.Conditions.{IsNoOlder}
use Rattle.centre_core.proofs.Growing.{two_step_at, two_neighbours_at, two_part, two_whole, two_reverse, two_turned}
use Rattle.centre_core.proofs.conditions.do_not_fall.Goals as goal

abbrev IsNoNewer : Past → Past → Type 0
IsNoNewer p other = p.at ≤ other.at

pub returns-then-at : goal.returns-then-at
returns-then-at c = (
  λ e. absurd (false≢true e),
  λ w.
      let xs = reverse c.args.window.now in
      let i = c.loop-i.i in
      let le = two_neighbours_at IsNoNewer xs i (i - 1) c.at-in-loop-i.result.now c.at.result.now (omega (arith, c.loop-i.auto.i)) c.at-in-loop-i.ensures c.at.ensures
      (two_part IsNoNewer xs (i + 1) (two_reverse IsNoOlder c.args.window.now w)) in
      absurd (omega (arith, le)),
)

pub loop-i-preserved : goal.loop-i-preserved
loop-i-preserved c =
    let i = c.loop-i.i in
    two_step_at IsNoNewer (λ x y z p q. omega (arith, p, q)) (reverse c.args.window.now) i (i - 1) c.at-in-loop-i.result.now c.at.result.now (omega (arith, c.loop-i.auto.i))
    c.at-in-loop-i.ensures c.at.ensures c.if-at.false c.loop-i.invariant

pub returns : goal.returns
returns c =
    let w = c.args.window.now in
    let end : length (reverse w) ≤ c.loop-i.i = omega (arith, length-reverse w, c.count-i-end.ensures.count, c.loop-i-test.false) in
    (λ t. two_turned IsNoOlder w (two_whole IsNoNewer (reverse w) c.loop-i.i end c.loop-i.invariant), λ all. refl)
