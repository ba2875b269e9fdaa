use Rattle.std.proofs.Common.{◌≡◌, ◌≤◌, ◌<◌, ◌+◌, ℕ, inr, refl, rules, ap, sym, subst, ◌∙◌, arith}
use Rattle.std.specs.Prelude.{Err, IfErr}
use Rattle.centre_core.specs.declared.hall.Stop.TheVariants.{Full}
use Rattle.centre_store.specs.Stores.{Stored, HasFailed}
use Rattle.centre_store.specs.Writes.{IsSummedUp, IsSummedSize, IsUnmade}
use Rattle.centre_store.proofs.Checkpoints.{whole, stands_summed, summed_moments, size_is, unmade}
use Rattle.centre_store.proofs.Entered.{held, some_of}
use Rattle.centre_store.proofs.Holding.{recorded_there, still_stands}
use Rattle.centre_store.proofs.Written.{ok_map}
use Rattle.centre_store.proofs.store.Store.checkpoint.Goals as goal

pub next_summary-requires-clause-had : goal.next_summary-requires-clause-had
next_summary-requires-clause-had g c =
    let some = some_of g.D.Disk.seen c.args.self.now c.self.inside.centre c.self.inside.journal c.self.inside.at_open c.self.view_is c.self.invariant c.in_ok-check_disk.ensures.up in
    let b = some.base in
    let h = some.history in
    let up = λ (f : HasFailed g.D.Disk.seen (record { state = c.self.inside.centre; journal = c.self.inside.journal; at_open = c.self.inside.at_open })).
    c.in_ok-check_disk.ensures.up (subst (λ (x : Stored g.row.D.Denot). HasFailed g.D.Disk.seen x) c.self.view_is f) in
    record {
      base = b;
      history = h;
      all = whole g.D.Disk.seen (record { state = c.self.inside.centre; journal = c.self.inside.journal; at_open = c.self.inside.at_open })
          c.self.inside.centre c.self.inside.journal c.self.inside.at_open refl up b h some.stands;
    }

pub sum_up-requires-clause-had : goal.sum_up-requires-clause-had
sum_up-requires-clause-had g c =
    let some = some_of g.D.Disk.seen c.args.self.now c.self.inside.centre c.self.inside.journal c.self.inside.at_open c.self.view_is c.self.invariant c.in_ok-check_disk.ensures.up in
    let b = some.base in
    let h = some.history in
    let up = λ (f : HasFailed g.D.Disk.seen (record { state = c.self.inside.centre; journal = c.self.inside.journal; at_open = c.self.inside.at_open })).
    c.in_ok-check_disk.ensures.up (subst (λ (x : Stored g.row.D.Denot). HasFailed g.D.Disk.seen x) c.self.view_is f) in
    record {
      base = b;
      history = h;
      all = whole g.D.Disk.seen (record { state = c.self.inside.centre; journal = c.self.inside.journal; at_open = c.self.inside.at_open })
          c.self.inside.centre c.self.inside.journal c.self.inside.at_open refl up b h some.stands;
    }

pub returns-in_err-summary-clause-any_moment : goal.returns-in_err-summary-clause-any_moment
returns-in_err-summary-clause-any_moment g c b h w up =
    still_stands g.D.Disk.seen c.args.self.now.journal b h g.met.D.Disk.only_now (held g.D.Disk.seen b c.args.self.now h up w)

pub returns-in_err-summary-clause-met : goal.returns-in_err-summary-clause-met
returns-in_err-summary-clause-met g c b h w up = recorded_there g.D.Disk.seen c.args.self.now.journal b h (held g.D.Disk.seen b c.args.self.now h up w)

pub returns-then-records-eq0-clause-any_moment : goal.returns-then-records-eq0-clause-any_moment
returns-then-records-eq0-clause-any_moment g c b h w up =
    still_stands g.D.Disk.seen c.args.self.now.journal b h g.met.D.Disk.only_now (held g.D.Disk.seen b c.args.self.now h up w)

pub returns-then-records-eq0-clause-met : goal.returns-then-records-eq0-clause-met
returns-then-records-eq0-clause-met g c b h w up = recorded_there g.D.Disk.seen c.args.self.now.journal b h (held g.D.Disk.seen b c.args.self.now h up w)

pub returns-then-used-limits-clause-any_moment : goal.returns-then-used-limits-clause-any_moment
returns-then-used-limits-clause-any_moment g c b h w up =
    still_stands g.D.Disk.seen c.args.self.now.journal b h g.met.D.Disk.only_now (held g.D.Disk.seen b c.args.self.now h up w)

pub returns-then-used-limits-clause-met : goal.returns-then-used-limits-clause-met
returns-then-used-limits-clause-met g c b h w up = recorded_there g.D.Disk.seen c.args.self.now.journal b h (held g.D.Disk.seen b c.args.self.now h up w)

pub returns-clause-stands : goal.returns-clause-stands
returns-clause-stands g c b h w =
    let all = whole g.D.Disk.seen c.args.self.now c.self.inside.centre c.self.inside.journal c.self.inside.at_open c.self.view_is c.in_ok-check_disk.ensures.up b h w in
    stands_summed g.D.Disk.seen c.args.self.now c.self.inside.centre c.self.inside.journal c.self.inside.at_open c.self.view_is c.in_ok-check_disk.ensures.up b h
    c.sum_up.new.journal c.sum_up.result w (c.sum_up.ensures.has b h all) c.sum_up.ensures.down (c.sum_up.ensures.met b h all)

pub invariant_of-self : goal.invariant_of-self
invariant_of-self g c =
    let some = some_of g.D.Disk.seen c.args.self.now c.self.inside.centre c.self.inside.journal c.self.inside.at_open c.self.view_is c.self.invariant c.in_ok-check_disk.ensures.up in
    let b = some.base in
    let h = some.history in
    let up = λ (f : HasFailed g.D.Disk.seen (record { state = c.self.inside.centre; journal = c.self.inside.journal; at_open = c.self.inside.at_open })).
    c.in_ok-check_disk.ensures.up (subst (λ (x : Stored g.row.D.Denot). HasFailed g.D.Disk.seen x) c.self.view_is f) in
    let all = whole g.D.Disk.seen (record { state = c.self.inside.centre; journal = c.self.inside.journal; at_open = c.self.inside.at_open })
    c.self.inside.centre c.self.inside.journal c.self.inside.at_open refl up b h some.stands in
    record {
      some = λ _. record {
        base = b;
        history = h;
        stands = stands_summed g.D.Disk.seen (record { state = c.self.inside.centre; journal = c.self.inside.journal; at_open = c.self.inside.at_open })
            c.self.inside.centre c.self.inside.journal c.self.inside.at_open refl up b h c.sum_up.new.journal c.sum_up.result some.stands
            (c.sum_up.ensures.has b h all) c.sum_up.ensures.down (c.sum_up.ensures.met b h all);
      };
      few = c.self.invariant.few;
      later = omega (arith, c.self.invariant.later, c.sum_up.ensures.later);
    }

pub returns-clause-any_moment : goal.returns-clause-any_moment
returns-clause-any_moment g c b h w up =
    summed_moments g.D.Disk.seen c.args.self.now c.self.inside.centre c.self.inside.journal c.self.inside.at_open c.self.view_is up b h c.sum_up.new.journal.disk w (c.sum_up.ensures.any_moment b h)

pub returns-clause-met : goal.returns-clause-met
returns-clause-met g c b h w up =
    c.sum_up.ensures.met b h (whole g.D.Disk.seen c.args.self.now c.self.inside.centre c.self.inside.journal c.self.inside.at_open c.self.view_is up b h w)

pub returns-clause-cause : goal.returns-clause-cause
returns-clause-cause g c =
    subst (λ (x : Stored g.row.D.Denot). IfErr c.sum_up.result (IsUnmade g.D.Disk.seen x.at_open x.journal c.sum_up.new.journal x.state)) c.self.view_is
    (unmade g.D.Disk.seen c.self.inside.journal c.sum_up.new.journal c.self.inside.centre c.self.inside.at_open c.sum_up.result c.sum_up.ensures.down)

pub returns-clause-next : goal.returns-clause-next
returns-clause-next g c =
    ok_map c.sum_up.result
    (λ t _. subst (λ (x : Stored g.row.D.Denot). c.sum_up.new.journal.generation ≡ x.journal.generation + 1) c.self.view_is t.generation)
    c.sum_up.ensures.turned

pub returns-then-used-limits-clause-cause : goal.returns-then-used-limits-clause-cause
returns-then-used-limits-clause-cause g c =
    let size : IsSummedSize g.D.Disk.seen c.self.inside.journal c.self.inside.centre c.used_by-used.result =
    size_is g.D.Disk.seen c.self.inside.journal c.self.inside.centre c.deref.result.now c.used_by-used.result
    (λ b h given stands. c.deref.ensures.value ∙ c.in_ok-summary.ensures.spelled b h given stands) c.used_by-used.ensures in
    let over : c.args.self.now.journal.limits.bytes < c.used_by-used.result = search rules in
    let behind : IsSummedUp c.self.inside.journal → ⊥ = search rules in (
      refl,
      record {
        used_is = subst (λ (x : Stored g.row.D.Denot). IsSummedSize g.D.Disk.seen x.journal x.state c.used_by-used.result) c.self.view_is size;
        need_is = refl;
        records_is = refl;
        over = over;
        behind = λ s. behind (subst (λ (x : Stored g.row.D.Denot). IsSummedUp x.journal) (sym c.self.view_is) s);
      },
    )

pub returns-then-used-limits-clause-full : goal.returns-then-used-limits-clause-full
returns-then-used-limits-clause-full g c up further b h w over =
    let size : IsSummedSize g.D.Disk.seen c.self.inside.journal c.self.inside.centre c.used_by-used.result =
    size_is g.D.Disk.seen c.self.inside.journal c.self.inside.centre c.deref.result.now c.used_by-used.result
    (λ b h given stands. c.deref.ensures.value ∙ c.in_ok-summary.ensures.spelled b h given stands) c.used_by-used.ensures in
    inr (ap (λ (n : ℕ). Err (Full n 0 0)) (size b h (whole g.D.Disk.seen c.args.self.now c.self.inside.centre c.self.inside.journal c.self.inside.at_open c.self.view_is up b h w)))

pub returns-clause-full : goal.returns-clause-full
returns-clause-full g c up further b h w over =
    let size : IsSummedSize g.D.Disk.seen c.self.inside.journal c.self.inside.centre c.used_by-used.result =
    size_is g.D.Disk.seen c.self.inside.journal c.self.inside.centre c.deref.result.now c.used_by-used.result
    (λ b h given stands. c.deref.ensures.value ∙ c.in_ok-summary.ensures.spelled b h given stands) c.used_by-used.ensures in
    let fits : c.used_by-used.result ≤ c.args.self.now.journal.limits.bytes = search rules in
    absurd (omega (arith, size b h (whole g.D.Disk.seen c.args.self.now c.self.inside.centre c.self.inside.journal c.self.inside.at_open c.self.view_is up b h w), fits, over))
