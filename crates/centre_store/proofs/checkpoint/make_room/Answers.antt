use Rattle.std.proofs.Common.{◌≡◌, ◌+◌, ℕ, inr, refl, rules, ap, sym, subst, ◌∙◌}
use Rattle.std.specs.Prelude.{Err}
use Rattle.centre_core.specs.declared.hall.Stop.TheVariants.{Full}
use Rattle.centre_store.specs.Given.{summed_size}
use Rattle.centre_store.specs.Writes.{IsOverAt, IsOverThen, IsTurned}
use Rattle.centre_store.proofs.Holding.{recorded_there, still_stands}
use Rattle.centre_store.proofs.NextSummary.{not_summed}
use Rattle.centre_store.proofs.Written.{summed_long, ok_map}
use Rattle.centre_store.proofs.checkpoint.make_room.Goals as goal

pub returns-then-not-is_over-clause-any_moment : goal.returns-then-not-is_over-clause-any_moment
returns-then-not-is_over-clause-any_moment g c b h all = still_stands g.D.Disk.seen c.args.journal.now b h g.met.D.Disk.only_now all.holds

pub returns-then-not-is_over-clause-met : goal.returns-then-not-is_over-clause-met
returns-then-not-is_over-clause-met g c b h all = recorded_there g.D.Disk.seen c.args.journal.now b h all.holds

pub returns-in_err-summary-clause-any_moment : goal.returns-in_err-summary-clause-any_moment
returns-in_err-summary-clause-any_moment g c b h all = still_stands g.D.Disk.seen c.args.journal.now b h g.met.D.Disk.only_now all.holds

pub returns-in_err-summary-clause-met : goal.returns-in_err-summary-clause-met
returns-in_err-summary-clause-met g c b h all = recorded_there g.D.Disk.seen c.args.journal.now b h all.holds

pub returns-then-is_over-clause-any_moment : goal.returns-then-is_over-clause-any_moment
returns-then-is_over-clause-any_moment g c b h all = still_stands g.D.Disk.seen c.args.journal.now b h g.met.D.Disk.only_now all.holds

pub returns-then-is_over-clause-met : goal.returns-then-is_over-clause-met
returns-then-is_over-clause-met g c b h all = recorded_there g.D.Disk.seen c.args.journal.now b h all.holds

pub returns-then-is_over-clause-stop : goal.returns-then-is_over-clause-stop
returns-then-is_over-clause-stop g c =
    let now : IsOverAt c.args.journal.now c.args.need = search rules in
    let then : IsOverThen c.args.journal.now c.used_by-used.result c.args.need = search rules in (
      refl,
      record {
        used_is = λ b h all. c.used_by-used.ensures
            ∙ summed_long (c.args.journal.now.generation + 1) b h c.deref.result.now (c.deref.ensures.value ∙ c.in_ok-summary.ensures.spelled b h all.given all.stands);
        need_is = refl;
        records_is = refl;
        now = now;
        then = then;
      },
    )

pub returns-then-is_over-clause-full : goal.returns-then-is_over-clause-full
returns-then-is_over-clause-full g c b h all over then =
    let used : c.used_by-used.result ≡ summed_size b h = c.used_by-used.ensures
    ∙ summed_long (c.args.journal.now.generation + 1) b h c.deref.result.now (c.deref.ensures.value ∙ c.in_ok-summary.ensures.spelled b h all.given all.stands) in
    inr (ap (λ (n : ℕ). Err (Full n c.args.need 0)) used)

pub sum_up-requires-clause-further : goal.sum_up-requires-clause-further
sum_up-requires-clause-further g c =
    let b = c.requires.had.base in
    let h = c.requires.had.history in
    let all = c.requires.had.all in
    let used : c.used_by-used.result ≡ summed_size b h = c.used_by-used.ensures
    ∙ summed_long (c.args.journal.now.generation + 1) b h c.deref.result.now (c.deref.ensures.value ∙ c.in_ok-summary.ensures.spelled b h all.given all.stands) in
    let over : IsOverAt c.args.journal.now c.args.need = search rules in
    let never : IsOverThen c.args.journal.now c.used_by-used.result c.args.need → ⊥ = search rules in
    not_summed g.D.Disk.seen c.args.journal.now b h all.holds c.args.need over
    (λ then. never (subst (λ (n : ℕ). IsOverThen c.args.journal.now n c.args.need) (sym used) then))

pub returns-clause-turned : goal.returns-clause-turned
returns-clause-turned g c =
    ok_map c.sum_up.result
    (λ t b h all over. subst (λ (n : ℕ). IsTurned c.args.journal.now c.sum_up.new.journal n)
    (summed_long (c.args.journal.now.generation + 1) b h c.deref-2.result.now (c.deref-2.ensures.value ∙ c.in_ok-summary.ensures.spelled b h all.given all.stands)) t)
    c.sum_up.ensures.turned

pub returns-clause-full : goal.returns-clause-full
returns-clause-full g c b h all over then =
    let used : c.used_by-used.result ≡ summed_size b h = c.used_by-used.ensures
    ∙ summed_long (c.args.journal.now.generation + 1) b h c.deref.result.now (c.deref.ensures.value ∙ c.in_ok-summary.ensures.spelled b h all.given all.stands) in
    let never : IsOverThen c.args.journal.now c.used_by-used.result c.args.need → ⊥ = search rules in
    absurd (never (subst (λ (n : ℕ). IsOverThen c.args.journal.now n c.args.need) (sym used) then))
