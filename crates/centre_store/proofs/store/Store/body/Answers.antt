use Rattle.std.proofs.Common.{◌-◌, ℕ, List, [], ◌∷◌, ◌++◌, refl, sym, ap, subst, ◌∙◌, arith}
use Rattle.std.proofs.lemmas.Bool.{false≢true}
use Rattle.centre_store.specs.Stores.{Stored, HasFailed}
use Rattle.centre_store.proofs.Entered.{stored, whole, some_of}
use Rattle.centre_store.proofs.Followed.{given_of, stands_read, stands_refused}
use Rattle.centre_store.proofs.Holding.{recorded_works}
use Rattle.centre_store.proofs.store.Store.body.Goals as goal

pub body-requires-clause-works : goal.body-requires-clause-works
body-requires-clause-works g c =
    let some = some_of g.D.Disk.seen c.args.self.now c.self.inside.centre c.self.inside.journal c.self.inside.at_open c.self.view_is c.self.invariant c.in_ok-check_disk.ensures.up in
    let b = some.base in
    let h = some.history in
    let up = λ (f : HasFailed g.D.Disk.seen (stored c.self.inside.centre c.self.inside.journal c.self.inside.at_open)).
    c.in_ok-check_disk.ensures.up (subst (λ (x : Stored g.row.D.Denot). HasFailed g.D.Disk.seen x) c.self.view_is f) in
    recorded_works g.D.Disk.seen c.self.inside.journal b h (whole g.D.Disk.seen b (stored c.self.inside.centre c.self.inside.journal c.self.inside.at_open) c.self.inside.centre c.self.inside.journal c.self.inside.at_open h refl up some.stands).holds

pub returns-in-Ok-clause-given : goal.returns-in-Ok-clause-given
returns-in-Ok-clause-given g c b h w behind within =
    given_of g.D.Disk.seen b c.args.self.now c.self.inside.centre c.self.inside.journal c.self.inside.at_open h c.self.view_is c.in_ok-check_disk.ensures.up w c.args.number
    (c.args.number - c.since-since.result - 1) _ c.body.new.out c.pop.new.self c.of_vec.result behind
    (ap (λ (n : ℕ). c.args.number - n - 1) c.since-since.ensures.numbers) c.in-Ok.ensures.given
    (c.in-Some.ensures.last ∙ ap (λ (l : List ℕ). c.pop.new.self ++ l ∷ []) (sym c.of_vec.ensures))

pub returns-in-Ok-clause-stands : goal.returns-in-Ok-clause-stands
returns-in-Ok-clause-stands g c b h w =
    stands_read g.D.Disk.seen b c.args.self.now c.self.inside.centre c.self.inside.journal c.body.new.self c.self.inside.at_open h c.self.view_is
    c.in_ok-check_disk.ensures.up w (c.body.ensures.holds (λ t. false≢true (sym c.in-Ok.ensures.up ∙ t)))

pub invariant_of-self : goal.invariant_of-self
invariant_of-self g c =
    let some = some_of g.D.Disk.seen c.args.self.now c.self.inside.centre c.self.inside.journal c.self.inside.at_open c.self.view_is c.self.invariant c.in_ok-check_disk.ensures.up in
    let b = some.base in
    let h = some.history in
    let up = λ (f : HasFailed g.D.Disk.seen (stored c.self.inside.centre c.self.inside.journal c.self.inside.at_open)).
    c.in_ok-check_disk.ensures.up (subst (λ (x : Stored g.row.D.Denot). HasFailed g.D.Disk.seen x) c.self.view_is f) in
    record {
      some = λ _. record {
        base = b;
        history = h;
        stands = stands_read g.D.Disk.seen b (stored c.self.inside.centre c.self.inside.journal c.self.inside.at_open) c.self.inside.centre c.self.inside.journal c.body.new.self c.self.inside.at_open h refl up
            some.stands (c.body.ensures.holds (λ t. false≢true (sym c.in-Ok.ensures.up ∙ t)));
      };
      few = c.self.invariant.few;
      later = omega (arith, c.self.invariant.later, c.body.ensures.later);
    }

-- The record was not read.

pub returns-clause-stands : goal.returns-clause-stands
returns-clause-stands g c b h w =
    stands_refused g.D.Disk.seen b c.args.self.now c.self.inside.centre c.self.inside.journal c.body.new.self c.self.inside.at_open h c.self.view_is
    c.in_ok-check_disk.ensures.up w c.in-Err-DiskFault.field-0 c.in-Err-DiskFault.ensures.failed c.self.invariant.later c.in-Err-DiskFault.ensures.counts c.body.ensures.quiet c.body.ensures.holds

pub invariant_of-self-2 : goal.invariant_of-self-2
invariant_of-self-2 g c =
    let some = some_of g.D.Disk.seen c.args.self.now c.self.inside.centre c.self.inside.journal c.self.inside.at_open c.self.view_is c.self.invariant c.in_ok-check_disk.ensures.up in
    let b = some.base in
    let h = some.history in
    let up = λ (f : HasFailed g.D.Disk.seen (stored c.self.inside.centre c.self.inside.journal c.self.inside.at_open)).
    c.in_ok-check_disk.ensures.up (subst (λ (x : Stored g.row.D.Denot). HasFailed g.D.Disk.seen x) c.self.view_is f) in
    record {
      some = λ _. record {
        base = b;
        history = h;
        stands = stands_refused g.D.Disk.seen b (stored c.self.inside.centre c.self.inside.journal c.self.inside.at_open) c.self.inside.centre c.self.inside.journal c.body.new.self c.self.inside.at_open h refl up
            some.stands c.in-Err-DiskFault.field-0 c.in-Err-DiskFault.ensures.failed c.self.invariant.later c.in-Err-DiskFault.ensures.counts c.body.ensures.quiet c.body.ensures.holds;
      };
      few = c.self.invariant.few;
      later = omega (arith, c.self.invariant.later, c.body.ensures.later);
    }
