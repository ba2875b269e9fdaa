use Rattle.std.proofs.Common.{◌≡◌, ◌⊎◌, ◌+◌, inr, ℕ, List, length, refl, rules, sym, ap, subst, arith}
use Rattle.std.specs.Prelude.{Err}
use Rattle.centre_core.specs.declared.hall.Stop.TheVariants.{Memory, Full}
use Rattle.centre_rules.specs.State.{entry_of}
use Rattle.centre_rules.specs.Summary.{Summary}
use Rattle.centre_store.specs.Bodies.{need_of}
use Rattle.centre_store.specs.Followings.{ShowsOfReplay}
use Rattle.centre_store.specs.Given.{HasEither, summed_size}
use Rattle.centre_store.specs.Stores.{Stored}
use Rattle.centre_store.specs.Writes.{IsWrittenOn}
use Rattle.centre_store.proofs.Entered.{stored, between, up_between, moments_as, still_either, still_met}
use Rattle.centre_store.proofs.Followed.{goes_with, need_is, one_recorded, over_in, replay_shown}
use Rattle.centre_store.proofs.OpeningSteps.{found_so}
use Rattle.centre_store.proofs.Ordered.{one_of_stops, never_stopped}
use Rattle.centre_store.proofs.store.Store.replay.Goals as goal

pub returns-clause-taken : goal.returns-clause-taken
returns-clause-taken g c same b h w =
    let m = between g.D.Disk.seen b c.args.self.now c.self.inside.centre c.entry_in.new.centre c.self.inside.journal c.self.inside.at_open h c.self.view_is
    (c.entry_in.ensures.stays b h) w in
    let goes = goes_with b h c.in-Some.ready c.args.body.now ((found_so _ c.in-Ok.found c.in-Some.ready c.in-Some.is c.in-Ok.ensures.follows) b h m.centre)
    (found_so _ c.in-Ok.found c.in-Some.ready c.in-Some.is c.in-Ok.ensures.recorded) (found_so _ c.in-Ok.found c.in-Some.ready c.in-Some.is c.in-Ok.ensures.spelled) in
    (entry_of 0 c.in-Some.ready, goes, c.in_ok-commit.ensures.taken b h 0 m)

pub returns-clause-recorded : goal.returns-clause-recorded
returns-clause-recorded g c same =
    let one = one_recorded (entry_of 0 c.in-Some.ready) (found_so _ c.in-Ok.found c.in-Some.ready c.in-Some.is c.in-Ok.ensures.recorded) in
    omega (
      arith,
      c.in_ok-commit.ensures.grows.recorded,
      one,
      ap (λ (t : Summary). t.recorded) c.entry_in.ensures.sum,
      ap (λ (x : Stored g.row.D.Denot). x.state.sum.recorded) c.self.view_is,
    )

pub returns-clause-goes_on : goal.returns-clause-goes_on
returns-clause-goes_on g c b h w =
    let m = between g.D.Disk.seen b c.args.self.now c.self.inside.centre c.entry_in.new.centre c.self.inside.journal c.self.inside.at_open h c.self.view_is
    (c.entry_in.ensures.stays b h) w in
    let goes = goes_with b h c.in-Some.ready c.args.body.now ((found_so _ c.in-Ok.found c.in-Some.ready c.in-Some.is c.in-Ok.ensures.follows) b h m.centre)
    (found_so _ c.in-Ok.found c.in-Some.ready c.in-Some.is c.in-Ok.ensures.recorded) (found_so _ c.in-Ok.found c.in-Some.ready c.in-Some.is c.in-Ok.ensures.spelled) in
    inr (entry_of 0 c.in-Some.ready, goes)

pub returns-in_err-commit-clause-goes_on : goal.returns-in_err-commit-clause-goes_on
returns-in_err-commit-clause-goes_on g c b h w =
    let m = between g.D.Disk.seen b c.args.self.now c.self.inside.centre c.entry_in.new.centre c.self.inside.journal c.self.inside.at_open h c.self.view_is
    (c.entry_in.ensures.stays b h) w in
    let goes = goes_with b h c.in-Some.ready c.args.body.now ((found_so _ c.in-Ok.found c.in-Some.ready c.in-Some.is c.in-Ok.ensures.follows) b h m.centre)
    (found_so _ c.in-Ok.found c.in-Some.ready c.in-Some.is c.in-Ok.ensures.recorded) (found_so _ c.in-Ok.found c.in-Some.ready c.in-Some.is c.in-Ok.ensures.spelled) in
    inr (entry_of 0 c.in-Some.ready, goes)

pub returns-clause-written : goal.returns-clause-written
returns-clause-written g c same b h w =
    let m = between g.D.Disk.seen b c.args.self.now c.self.inside.centre c.entry_in.new.centre c.self.inside.journal c.self.inside.at_open h c.self.view_is
    (c.entry_in.ensures.stays b h) w in
    subst (λ (x : Stored g.row.D.Denot). IsWrittenOn x.journal c.commit.new.self.journal (summed_size b h) (5 + length c.args.body.now)) c.self.view_is
    (subst (λ (n : ℕ). IsWrittenOn c.self.inside.journal c.commit.new.self.journal (summed_size b h) n)
    (need_is c.in-Some.ready c.args.body.now ((found_so _ c.in-Ok.found c.in-Some.ready c.in-Some.is c.in-Ok.ensures.spelled)).1) (c.in_ok-commit.ensures.written b h m))

pub returns-in_err-commit-clause-stands : goal.returns-in_err-commit-clause-stands
returns-in_err-commit-clause-stands g c other b h w =
    let m = between g.D.Disk.seen b c.args.self.now c.self.inside.centre c.entry_in.new.centre c.self.inside.journal c.self.inside.at_open h c.self.view_is
    (c.entry_in.ensures.stays b h) w in
    c.in_err-commit.ensures.stop b h m

pub returns-in_err-commit-clause-cause : goal.returns-in_err-commit-clause-cause
returns-in_err-commit-clause-cause g c =
    let said : ShowsOfReplay g.D.Disk.seen c.commit.new.self c.args.body.now c.in_err-commit.field-0.0 =
    replay_shown g.D.Disk.seen (stored c.entry_in.new.centre c.self.inside.journal c.self.inside.at_open) c.commit.new.self c.args.body.now c.in-Some.ready
    c.in_err-commit.ensures.state c.commit.ensures.at_open
    (up_between g.D.Disk.seen c.args.self.now c.self.inside.centre c.entry_in.new.centre c.self.inside.journal c.self.inside.at_open c.self.view_is c.in_ok-check_disk.ensures.up)
    (found_so _ c.in-Ok.found c.in-Some.ready c.in-Some.is c.in-Ok.ensures.follows) (found_so _ c.in-Ok.found c.in-Some.ready c.in-Some.is c.in-Ok.ensures.recorded)
    (found_so _ c.in-Ok.found c.in-Some.ready c.in-Some.is c.in-Ok.ensures.spelled) c.in_err-commit.field-0.0 c.in_err-commit.ensures.cause in
    search rules

pub returns-clause-full : goal.returns-clause-full
returns-clause-full g c up few b h e w goes over =
    let m = between g.D.Disk.seen b c.args.self.now c.self.inside.centre c.entry_in.new.centre c.self.inside.journal c.self.inside.at_open h c.self.view_is
    (c.entry_in.ensures.stays b h) w in
    let both = over_in g.D.Disk.seen c.args.self.now c.self.inside.centre c.self.inside.journal c.self.inside.at_open (summed_size b h) (need_of c.in-Some.ready.event)
    c.args.body.now c.self.view_is (need_is c.in-Some.ready c.args.body.now ((found_so _ c.in-Ok.found c.in-Some.ready c.in-Some.is c.in-Ok.ensures.spelled)).1) over in
    absurd (never_stopped c.commit.result _ c.in_ok-commit.was (c.commit.ensures.full b h m both.0 both.1))

pub returns-in_err-commit-clause-full : goal.returns-in_err-commit-clause-full
returns-in_err-commit-clause-full g c up few b h e w goes over =
    let m = between g.D.Disk.seen b c.args.self.now c.self.inside.centre c.entry_in.new.centre c.self.inside.journal c.self.inside.at_open h c.self.view_is
    (c.entry_in.ensures.stays b h) w in
    let both = over_in g.D.Disk.seen c.args.self.now c.self.inside.centre c.self.inside.journal c.self.inside.at_open (summed_size b h) (need_of c.in-Some.ready.event)
    c.args.body.now c.self.view_is (need_is c.in-Some.ready c.args.body.now ((found_so _ c.in-Ok.found c.in-Some.ready c.in-Some.is c.in-Ok.ensures.spelled)).1) over in
    let made : (c.commit.result ≡ Err Memory) ⊎ (c.commit.result ≡ Err (Full (summed_size b h) (5 + length c.args.body.now) 0)) =
    subst (λ (n : ℕ). (c.commit.result ≡ Err Memory) ⊎ (c.commit.result ≡ Err (Full (summed_size b h) n 0)))
    (need_is c.in-Some.ready c.args.body.now ((found_so _ c.in-Ok.found c.in-Some.ready c.in-Some.is c.in-Ok.ensures.spelled)).1) (c.commit.ensures.full b h m both.0 both.1) in
    let result = c.from_residual-in_err-commit.result in
    let on : result ≡ Err c.in_err-commit.field-0.0 = search rules in
    one_of_stops c.commit.result result c.in_err-commit.field-0.0 Memory (Full (summed_size b h) (5 + length c.args.body.now) 0) c.in_err-commit.was on made

pub returns-clause-any_moment : goal.returns-clause-any_moment
returns-clause-any_moment g c b h w up =
    let m = between g.D.Disk.seen b c.args.self.now c.self.inside.centre c.entry_in.new.centre c.self.inside.journal c.self.inside.at_open h c.self.view_is
    (c.entry_in.ensures.stays b h) w in
    moments_as g.D.Disk.seen b c.args.self.now c.self.inside.centre c.self.inside.journal c.self.inside.at_open c.commit.new.self.journal.disk h c.self.view_is
    _ _ (sym ((found_so _ c.in-Ok.found c.in-Some.ready c.in-Some.is c.in-Ok.ensures.spelled)).1) (c.commit.ensures.any_moment b h m)

pub returns-clause-met : goal.returns-clause-met
returns-clause-met g c b h w up =
    let m = between g.D.Disk.seen b c.args.self.now c.self.inside.centre c.entry_in.new.centre c.self.inside.journal c.self.inside.at_open h c.self.view_is
    (c.entry_in.ensures.stays b h) w in
    subst (λ (l : List ℕ). HasEither (g.D.Disk.seen c.commit.new.self.journal.disk) b h l) (sym ((found_so _ c.in-Ok.found c.in-Some.ready c.in-Some.is c.in-Ok.ensures.spelled)).1)
    (c.commit.ensures.met b h m)

pub returns-in_err-commit-clause-any_moment : goal.returns-in_err-commit-clause-any_moment
returns-in_err-commit-clause-any_moment g c b h w up =
    let m = between g.D.Disk.seen b c.args.self.now c.self.inside.centre c.entry_in.new.centre c.self.inside.journal c.self.inside.at_open h c.self.view_is
    (c.entry_in.ensures.stays b h) w in
    moments_as g.D.Disk.seen b c.args.self.now c.self.inside.centre c.self.inside.journal c.self.inside.at_open c.commit.new.self.journal.disk h c.self.view_is
    _ _ (sym ((found_so _ c.in-Ok.found c.in-Some.ready c.in-Some.is c.in-Ok.ensures.spelled)).1) (c.commit.ensures.any_moment b h m)

pub returns-in_err-commit-clause-met : goal.returns-in_err-commit-clause-met
returns-in_err-commit-clause-met g c b h w up =
    let m = between g.D.Disk.seen b c.args.self.now c.self.inside.centre c.entry_in.new.centre c.self.inside.journal c.self.inside.at_open h c.self.view_is
    (c.entry_in.ensures.stays b h) w in
    subst (λ (l : List ℕ). HasEither (g.D.Disk.seen c.commit.new.self.journal.disk) b h l) (sym ((found_so _ c.in-Ok.found c.in-Some.ready c.in-Some.is c.in-Ok.ensures.spelled)).1)
    (c.commit.ensures.met b h m)

-- No entry goes on with the body, or memory was wanted.

pub returns-in_default-found-clause-stands : goal.returns-in_default-found-clause-stands
returns-in_default-found-clause-stands g c other b h w =
    between g.D.Disk.seen b c.args.self.now c.self.inside.centre c.entry_in.new.centre c.self.inside.journal c.self.inside.at_open h c.self.view_is
    (c.entry_in.ensures.stays b h) w

pub returns-in_default-found-clause-any_moment : goal.returns-in_default-found-clause-any_moment
returns-in_default-found-clause-any_moment g c b h w up =
    still_either g.D.Disk.seen b c.args.self.now (stored c.self.inside.centre c.self.inside.journal c.self.inside.at_open) h
    c.args.body.now c.self.view_is g.met.D.Disk.only_now up w

pub returns-in_default-found-clause-met : goal.returns-in_default-found-clause-met
returns-in_default-found-clause-met g c b h w up =
    still_met g.D.Disk.seen b c.args.self.now (stored c.self.inside.centre c.self.inside.journal c.self.inside.at_open) h c.args.body.now c.self.view_is up w

pub returns-in_default-clause-stands : goal.returns-in_default-clause-stands
returns-in_default-clause-stands g c other b h w =
    between g.D.Disk.seen b c.args.self.now c.self.inside.centre c.entry_in.new.centre c.self.inside.journal c.self.inside.at_open h c.self.view_is
    (c.entry_in.ensures.stays b h) w

pub returns-in_default-clause-any_moment : goal.returns-in_default-clause-any_moment
returns-in_default-clause-any_moment g c b h w up =
    still_either g.D.Disk.seen b c.args.self.now (stored c.self.inside.centre c.self.inside.journal c.self.inside.at_open) h
    c.args.body.now c.self.view_is g.met.D.Disk.only_now up w

pub returns-in_default-clause-met : goal.returns-in_default-clause-met
returns-in_default-clause-met g c b h w up =
    still_met g.D.Disk.seen b c.args.self.now (stored c.self.inside.centre c.self.inside.journal c.self.inside.at_open) h c.args.body.now c.self.view_is up w

pub returns-in_err-check_count-clause-any_moment : goal.returns-in_err-check_count-clause-any_moment
returns-in_err-check_count-clause-any_moment g c b h w up =
    still_either g.D.Disk.seen b c.args.self.now c.args.self.now h c.args.body.now refl g.met.D.Disk.only_now up w

pub returns-in_err-check_count-clause-met : goal.returns-in_err-check_count-clause-met
returns-in_err-check_count-clause-met g c b h w up = still_met g.D.Disk.seen b c.args.self.now c.args.self.now h c.args.body.now refl up w
