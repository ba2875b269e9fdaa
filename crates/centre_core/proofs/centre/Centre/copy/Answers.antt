-- The copy keeps the same.
use Rattle.std.proofs.Common.{◌≡◌, ◌∙◌, ℕ, List, Option, sym, ap, subst, arith}
use Rattle.std.specs.Prelude.{IfSome, IsOk}
use Rattle.alarm_rules.specs.Setups.{setup_of}
use Rattle.centre_rules.specs.State.{State}
use Rattle.centre_core.specs.Taken.{sum_of}
use Rattle.open_incidents.specs.Marked.{HaveActRoom}
use Rattle.centre_core.proofs.Applied.{stands_same}
use Rattle.centre_core.proofs.centre.Centre.copy.Goals as goal

pub copy-requires : goal.copy-requires
copy-requires c = omega (arith, c.self.invariant.counts.opened, c.self.invariant.few, c.self.invariant.bound)

pub invariant_of-result : goal.invariant_of-result
invariant_of-result c = record {
  few = c.self.invariant.few;
  bound = c.self.invariant.bound;
  moment = c.self.invariant.moment;
  valid = subst (λ (o : Option (List ℕ)). IfSome o (λ x. IsOk (setup_of x))) (sym c.in_ok-accounts.ensures.text) c.self.invariant.valid;
  counts = rw (c.in_ok-queued.ensures.opened, c.in_ok-queued.ensures.incidents) c.self.invariant.counts;
  acts = subst HaveActRoom (sym c.in_ok-queued.ensures.incidents) c.self.invariant.acts;
}

pub returns-clause-sum : goal.returns-clause-sum
returns-clause-sum c =
    let same : sum_of c.self.inside.last c.self.inside.recorded c.in_ok-accounts.accounts.text c.in_ok-accounts.accounts.rows c.in_ok-queued.queued
    ≡ sum_of c.self.inside.last c.self.inside.recorded c.self.inside.accounts.text c.self.inside.accounts.rows c.self.inside.queued = λ i. record {
      last = c.self.inside.last;
      recorded = c.self.inside.recorded;
      opened = c.in_ok-queued.ensures.opened i;
      start = c.in_ok-accounts.ensures.start i;
      text = c.in_ok-accounts.ensures.text i;
      rows = c.in_ok-accounts.ensures.rows i;
      incidents = c.in_ok-queued.ensures.incidents i;
    } in
    same ∙ ap (λ (s : State). s.sum) c.self.view_is

pub returns-clause-stands : goal.returns-clause-stands
returns-clause-stands c b h stands =
    stands_same b c.args.self.now _ h (ap (λ (s : State). s.entries) c.self.view_is) (returns-clause-sum c) stands
