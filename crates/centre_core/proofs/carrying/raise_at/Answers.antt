-- One account more of those that were found.
use Rattle.std.proofs.Common.{◌≡◌, ◌<◌, ◌∙◌, ◌∷◌, [], ◌++◌, ℕ, List, Some, true, length, sym, ap, arith, slice_get, get_or}
use Rattle.accounts.specs.Accounts.{defined}
use Rattle.alarm_rules.specs.Setups.{meaning}
use Rattle.centre_rules.specs.Carrying.{carried, own_signal}
use Rattle.centre_rules.specs.Marks.{Carried}
use Rattle.centre_core.proofs.RaisedAt.{found_at, raised_next, raised_all, long_of}
use Rattle.centre_core.proofs.carrying.raise_at.Goals as goal

pub loop-i-preserved : goal.loop-i-preserved
loop-i-preserved c =
    let setup = meaning c.args.setup.now in
    let places = c.args.places.now in
    let i = c.loop-i.i in
    let old = c.loop-i.raised.items in
    let x = defined c.account-account.result.now in
    let within : i < length places = omega (arith, c.loop-i-test.true, c.count-i-end.ensures) in
    let here : slice_get setup.accounts (get_or places i 0) ≡ Some x = ap (slice_get setup.accounts) (sym c.at.ensures) ∙ c.account-account.ensures.value in
    let pushed : c.push.new.carried.items ≡ old ++ carried setup x.number c.args.at true [] (own_signal c.args.class) ∷ [] =
    c.in_ok-push.ensures.pushed
    ∙ ap (λ (y : Carried). old ++ y ∷ []) (c.carried.ensures
    ∙ ap (λ (via : List ℕ). carried setup x.number c.args.at true via c.own_signal-signal.result) c.empty-none.ensures
    ∙ ap (carried setup x.number c.args.at true []) c.own_signal-signal.ensures) in
    let few = c.in_ok-push.ensures.few in
    record {
      so_far = λ found are.
          raised_next c.args.class c.args.at setup found i x c.args.raised.now.items old c.push.new.carried.items
          (found_at setup.accounts places found i 0 x are within here) (c.loop-i.invariant.so_far found are) pushed;
      few = omega (arith, few, c.loop-i.invariant.few);
    }

pub returns : goal.returns
returns c =
    let setup = meaning c.args.setup.now in
    record {
      raised = λ found are.
          raised_all c.args.class c.args.at setup found c.loop-i.i c.args.raised.now.items c.loop-i.raised.items
          (omega (arith, c.loop-i-test.false, c.count-i-end.ensures, long_of setup.accounts c.args.places.now found are))
          (c.loop-i.invariant.so_far found are);
      few = omega (arith, c.loop-i.invariant.few, c.loop-i.auto.i-end, c.count-i-end.ensures);
    }
