use Rattle.std.proofs.Common.{◌≡◌, ◌⊎◌, ℕ, List, ◌∷◌, refl, rules, sym, ap, subst, ◌∙◌, arith}
use Rattle.std.specs.Prelude.{Err}
use Rattle.arc_data.specs.declared.event.Event.{Event}
use Rattle.centre_core.specs.declared.hall.Stop.TheVariants.{Memory, Full}
use Rattle.std.proofs.lemmas.Bool.{false≢true}
use Rattle.centre_rules.specs.Answers.{answer}
use Rattle.centre_rules.specs.History.{is_recorded, moment_after}
use Rattle.centre_rules.specs.State.{entry_of}
use Rattle.centre_core.proofs.Applied.{is_quiet, not_quiet}
use Rattle.event_codec.specs.Spelling.{spelling}
use Rattle.centre_store.specs.Bodies.{need_of}
use Rattle.centre_store.specs.Stores.{Stored, HasFailed, StoreStands, Shows, IsOverWith}
use Rattle.centre_store.specs.Given.{HasEither, summed_size}
use Rattle.centre_store.specs.Writes.{IsWrittenOn}
use Rattle.centre_store.proofs.Begun.{on_err}
use Rattle.centre_store.proofs.Entered.{stored, between, up_between, next_of, body_is, moments_as, takes_of, to_record, shown_by, still_either, still_met, takes_quiet, some_of}
use Rattle.centre_store.proofs.Ordered.{one_of_stops, never_stopped}
use Rattle.centre_store.proofs.store.Store.enter.Goals as goal

pub returns-then-quiet-clause-done : goal.returns-then-quiet-clause-done
returns-then-quiet-clause-done g c b h caller w =
    let p = c.in-Ok.ready in
    takes_quiet g.D.Disk.seen b c.args.self.now c.self.inside.centre c.prepare.new.self c.self.inside.journal c.self.inside.at_open h
    c.self.view_is c.in_ok-check_disk.ensures.up w (c.in-Ok.ensures.stays b h) c.apply.new.self c.args.clock caller c.args.event c.apply.result.at c.apply.result.reply p
    c.in-Ok.ensures.event c.apply.ensures.at c.apply.ensures.reply (c.in-Ok.ensures.at b h) (c.apply.ensures.entry b h caller) (is_quiet _ _ c.quiet.ensures c.if-quiet.true)

pub invariant_of-self-then-quiet : goal.invariant_of-self-then-quiet
invariant_of-self-then-quiet g c =
    let p = c.in-Ok.ready in
    let some = some_of g.D.Disk.seen c.args.self.now c.self.inside.centre c.self.inside.journal c.self.inside.at_open c.self.view_is c.self.invariant c.in_ok-check_disk.ensures.up in
    let b = some.base in
    let h = some.history in
    let up = λ (f : HasFailed g.D.Disk.seen (record { state = c.self.inside.centre; journal = c.self.inside.journal; at_open = c.self.inside.at_open })).
    c.in_ok-check_disk.ensures.up (subst (λ (x : Stored g.row.D.Denot). HasFailed g.D.Disk.seen x) c.self.view_is f) in
    record {
      some = λ _. record {
        base = b;
        history = entry_of 0 p ∷ h;
        stands = (takes_quiet g.D.Disk.seen b (record { state = c.self.inside.centre; journal = c.self.inside.journal; at_open = c.self.inside.at_open })
            c.self.inside.centre c.prepare.new.self c.self.inside.journal c.self.inside.at_open h refl up some.stands (c.in-Ok.ensures.stays b h)
            c.apply.new.self c.args.clock 0 p.event p.at p.reply p refl refl refl
            (c.in-Ok.ensures.at b h) (c.apply.ensures.entry b h 0) (is_quiet _ _ c.quiet.ensures c.if-quiet.true)).stands;
      };
      few = omega (arith, c.apply.ensures.grows.entries, c.prepare.ensures.entries, ap (λ (x : Stored g.row.D.Denot). x.state.entries) c.self.view_is, c.in_ok-check_count.ensures.few);
      later = c.self.invariant.later;
    }

pub returns-in_err-check_count-clause-any_moment : goal.returns-in_err-check_count-clause-any_moment
returns-in_err-check_count-clause-any_moment g c b h w up =
    still_either g.D.Disk.seen b c.args.self.now c.args.self.now h (spelling c.args.event (moment_after b h c.args.clock)) refl g.met.D.Disk.only_now up w

pub returns-in_err-check_count-clause-met : goal.returns-in_err-check_count-clause-met
returns-in_err-check_count-clause-met g c b h w up =
    still_met g.D.Disk.seen b c.args.self.now c.args.self.now h (spelling c.args.event (moment_after b h c.args.clock)) refl up w

pub returns-in_default-clause-any_moment : goal.returns-in_default-clause-any_moment
returns-in_default-clause-any_moment g c b h w up =
    still_either g.D.Disk.seen b c.args.self.now
    (record { state = c.self.inside.centre; journal = c.self.inside.journal; at_open = c.self.inside.at_open }) h
    (spelling c.args.event (moment_after b h c.args.clock)) c.self.view_is g.met.D.Disk.only_now up w

pub returns-in_default-clause-met : goal.returns-in_default-clause-met
returns-in_default-clause-met g c b h w up =
    still_met g.D.Disk.seen b c.args.self.now
    (record { state = c.self.inside.centre; journal = c.self.inside.journal; at_open = c.self.inside.at_open }) h
    (spelling c.args.event (moment_after b h c.args.clock)) c.self.view_is up w

pub returns-then-quiet-clause-any_moment : goal.returns-then-quiet-clause-any_moment
returns-then-quiet-clause-any_moment g c b h w up =
    still_either g.D.Disk.seen b c.args.self.now
    (record { state = c.self.inside.centre; journal = c.self.inside.journal; at_open = c.self.inside.at_open }) h
    (spelling c.args.event (moment_after b h c.args.clock)) c.self.view_is g.met.D.Disk.only_now up w

pub returns-then-quiet-clause-met : goal.returns-then-quiet-clause-met
returns-then-quiet-clause-met g c b h w up =
    still_met g.D.Disk.seen b c.args.self.now
    (record { state = c.self.inside.centre; journal = c.self.inside.journal; at_open = c.self.inside.at_open }) h
    (spelling c.args.event (moment_after b h c.args.clock)) c.self.view_is up w

pub returns-in_default-clause-stop : goal.returns-in_default-clause-stop
returns-in_default-clause-stop g c b h w =
    let was = subst (λ (x : Stored g.row.D.Denot). StoreStands g.D.Disk.seen b x h) (sym c.self.view_is) w in
    record { given = was.given; centre = c.prepare.ensures.stays b h was.centre; journal = was.journal }

pub returns-then-quiet-clause-full : goal.returns-then-quiet-clause-full
returns-then-quiet-clause-full g c up few b h w to over =
    let was = subst (λ (x : Stored g.row.D.Denot). StoreStands g.D.Disk.seen b x h) (sym c.self.view_is) w in
    let stands = c.in-Ok.ensures.stays b h was.centre in
    let same : c.in-Ok.ready.reply ≡ answer b h c.args.event (moment_after b h c.args.clock) =
    c.in-Ok.ensures.reply b h stands ∙ ap (answer b h c.args.event) (c.in-Ok.ensures.at b h stands) in
    absurd (false≢true (sym (is_quiet _ _ c.quiet.ensures c.if-quiet.true) ∙ ap is_recorded same ∙ to))

-- A record is to be written.

pub commit-requires-clause-up : goal.commit-requires-clause-up
commit-requires-clause-up g c =
    up_between g.D.Disk.seen c.args.self.now c.self.inside.centre c.prepare.new.self c.self.inside.journal c.self.inside.at_open c.self.view_is
    c.in_ok-check_disk.ensures.up

pub commit-requires-clause-next : goal.commit-requires-clause-next
commit-requires-clause-next g c b h stands =
    next_of b h c.args.event c.args.clock c.in-Ok.ready c.in-Ok.ensures.event c.requires.formed (c.in-Ok.ensures.at b h stands) (c.in-Ok.ensures.reply b h stands)

pub returns-clause-done : goal.returns-clause-done
returns-clause-done g c b h caller w =
    let p = c.in-Ok.ready in
    let m = between g.D.Disk.seen b c.args.self.now c.self.inside.centre c.prepare.new.self c.self.inside.journal c.self.inside.at_open h c.self.view_is
    (c.in-Ok.ensures.stays b h) w in
    takes_of g.D.Disk.seen b c.commit.new.self h c.args.clock caller c.args.event c.in_ok-done.done.at c.in_ok-done.done.reply p c.in-Ok.ensures.event
    c.in_ok-done.ensures.done.0 c.in_ok-done.ensures.done.1 (c.in-Ok.ensures.at b h m.centre) (c.in_ok-done.ensures.taken b h caller m)

pub returns-in_err-done-clause-stop : goal.returns-in_err-done-clause-stop
returns-in_err-done-clause-stop g c =
    on_err c.from_residual-in_err-done.result
    (λ b h w. c.in_err-done.ensures.stop b h
    (between g.D.Disk.seen b c.args.self.now c.self.inside.centre c.prepare.new.self c.self.inside.journal c.self.inside.at_open h c.self.view_is
    (c.in-Ok.ensures.stays b h) w))

pub returns-in_err-done-clause-cause : goal.returns-in_err-done-clause-cause
returns-in_err-done-clause-cause g c =
    let said : Shows g.D.Disk.seen c.commit.new.self c.in_err-done.field-0.0 c.args.event c.args.clock =
    shown_by g.D.Disk.seen (stored c.prepare.new.self c.self.inside.journal c.self.inside.at_open) c.commit.new.self c.args.clock c.args.event c.in-Ok.ready
    c.in_err-done.ensures.state c.commit.ensures.at_open c.in-Ok.ensures.event
    (up_between g.D.Disk.seen c.args.self.now c.self.inside.centre c.prepare.new.self c.self.inside.journal c.self.inside.at_open c.self.view_is c.in_ok-check_disk.ensures.up)
    c.in-Ok.ensures.at c.in-Ok.ensures.reply (not_quiet _ _ c.quiet.ensures c.if-quiet.false) c.in_err-done.field-0.0 c.in_err-done.ensures.cause in
    search rules

pub returns-clause-any_moment : goal.returns-clause-any_moment
returns-clause-any_moment g c b h w up =
    let m = between g.D.Disk.seen b c.args.self.now c.self.inside.centre c.prepare.new.self c.self.inside.journal c.self.inside.at_open h c.self.view_is
    (c.in-Ok.ensures.stays b h) w in
    moments_as g.D.Disk.seen b c.args.self.now c.self.inside.centre c.self.inside.journal c.self.inside.at_open c.commit.new.self.journal.disk h c.self.view_is
    _ _ (body_is b h c.args.clock c.args.event c.in-Ok.ready c.in-Ok.ensures.event (c.in-Ok.ensures.at b h m.centre)) (c.commit.ensures.any_moment b h m)

pub returns-in_err-done-clause-any_moment : goal.returns-in_err-done-clause-any_moment
returns-in_err-done-clause-any_moment g c b h w up =
    let m = between g.D.Disk.seen b c.args.self.now c.self.inside.centre c.prepare.new.self c.self.inside.journal c.self.inside.at_open h c.self.view_is
    (c.in-Ok.ensures.stays b h) w in
    moments_as g.D.Disk.seen b c.args.self.now c.self.inside.centre c.self.inside.journal c.self.inside.at_open c.commit.new.self.journal.disk h c.self.view_is
    _ _ (body_is b h c.args.clock c.args.event c.in-Ok.ready c.in-Ok.ensures.event (c.in-Ok.ensures.at b h m.centre)) (c.commit.ensures.any_moment b h m)

pub returns-clause-met : goal.returns-clause-met
returns-clause-met g c b h w up =
    let m = between g.D.Disk.seen b c.args.self.now c.self.inside.centre c.prepare.new.self c.self.inside.journal c.self.inside.at_open h c.self.view_is
    (c.in-Ok.ensures.stays b h) w in
    subst (λ (l : List ℕ). HasEither (g.D.Disk.seen c.commit.new.self.journal.disk) b h l)
    (body_is b h c.args.clock c.args.event c.in-Ok.ready c.in-Ok.ensures.event (c.in-Ok.ensures.at b h m.centre)) (c.commit.ensures.met b h m)

pub returns-in_err-done-clause-met : goal.returns-in_err-done-clause-met
returns-in_err-done-clause-met g c b h w up =
    let m = between g.D.Disk.seen b c.args.self.now c.self.inside.centre c.prepare.new.self c.self.inside.journal c.self.inside.at_open h c.self.view_is
    (c.in-Ok.ensures.stays b h) w in
    subst (λ (l : List ℕ). HasEither (g.D.Disk.seen c.commit.new.self.journal.disk) b h l)
    (body_is b h c.args.clock c.args.event c.in-Ok.ready c.in-Ok.ensures.event (c.in-Ok.ensures.at b h m.centre)) (c.commit.ensures.met b h m)

pub returns-clause-written : goal.returns-clause-written
returns-clause-written g c b h w recorded =
    let m = between g.D.Disk.seen b c.args.self.now c.self.inside.centre c.prepare.new.self c.self.inside.journal c.self.inside.at_open h c.self.view_is
    (c.in-Ok.ensures.stays b h) w in
    subst (λ (x : Stored g.row.D.Denot). IsWrittenOn x.journal c.commit.new.self.journal (summed_size b h) (need_of c.args.event)) c.self.view_is
    (subst (λ (e : Event). IsWrittenOn c.self.inside.journal c.commit.new.self.journal (summed_size b h) (need_of e)) c.in-Ok.ensures.event
    (c.in_ok-done.ensures.written b h m))

pub returns-clause-full : goal.returns-clause-full
returns-clause-full g c up few b h w to over =
    let m = between g.D.Disk.seen b c.args.self.now c.self.inside.centre c.prepare.new.self c.self.inside.journal c.self.inside.at_open h c.self.view_is
    (c.in-Ok.ensures.stays b h) w in
    let there : IsOverWith (stored c.self.inside.centre c.self.inside.journal c.self.inside.at_open) (summed_size b h) (need_of c.in-Ok.ready.event) =
    subst (λ (e : Event). IsOverWith {D = g.row.D.Denot} (stored c.self.inside.centre c.self.inside.journal c.self.inside.at_open) (summed_size b h) (need_of e)) (sym c.in-Ok.ensures.event)
    (subst (λ (x : Stored g.row.D.Denot). IsOverWith x (summed_size b h) (need_of c.args.event)) (sym c.self.view_is) over) in
    absurd (never_stopped c.commit.result _ c.in_ok-done.was (c.commit.ensures.full b h m there.now there.then))

pub returns-in_err-done-clause-full : goal.returns-in_err-done-clause-full
returns-in_err-done-clause-full g c up few b h w to over =
    let m = between g.D.Disk.seen b c.args.self.now c.self.inside.centre c.prepare.new.self c.self.inside.journal c.self.inside.at_open h c.self.view_is
    (c.in-Ok.ensures.stays b h) w in
    let there : IsOverWith (stored c.self.inside.centre c.self.inside.journal c.self.inside.at_open) (summed_size b h) (need_of c.in-Ok.ready.event) =
    subst (λ (e : Event). IsOverWith {D = g.row.D.Denot} (stored c.self.inside.centre c.self.inside.journal c.self.inside.at_open) (summed_size b h) (need_of e)) (sym c.in-Ok.ensures.event)
    (subst (λ (x : Stored g.row.D.Denot). IsOverWith x (summed_size b h) (need_of c.args.event)) (sym c.self.view_is) over) in
    let made : (c.commit.result ≡ Err Memory) ⊎ (c.commit.result ≡ Err (Full (summed_size b h) (need_of c.args.event) 0)) =
    subst (λ (e : Event). (c.commit.result ≡ Err Memory) ⊎ (c.commit.result ≡ Err (Full (summed_size b h) (need_of e) 0))) c.in-Ok.ensures.event
    (c.commit.ensures.full b h m there.now there.then) in
    let result = c.from_residual-in_err-done.result in
    let on : result ≡ Err c.in_err-done.field-0.0 = search rules in
    one_of_stops c.commit.result result c.in_err-done.field-0.0 Memory (Full (summed_size b h) (need_of c.args.event) 0) c.in_err-done.was on made

pub returns-clause-unrecorded : goal.returns-clause-unrecorded
returns-clause-unrecorded g c b h w none =
    let m = between g.D.Disk.seen b c.args.self.now c.self.inside.centre c.prepare.new.self c.self.inside.journal c.self.inside.at_open h c.self.view_is
    (c.in-Ok.ensures.stays b h) w in
    absurd (none (to_record b h c.args.event c.args.clock c.in-Ok.ready (c.in-Ok.ensures.at b h m.centre)
    (c.in-Ok.ensures.reply b h m.centre) (not_quiet _ _ c.quiet.ensures c.if-quiet.false)))

pub returns-in_err-done-clause-unrecorded : goal.returns-in_err-done-clause-unrecorded
returns-in_err-done-clause-unrecorded g c b h w none =
    let m = between g.D.Disk.seen b c.args.self.now c.self.inside.centre c.prepare.new.self c.self.inside.journal c.self.inside.at_open h c.self.view_is
    (c.in-Ok.ensures.stays b h) w in
    absurd (none (to_record b h c.args.event c.args.clock c.in-Ok.ready (c.in-Ok.ensures.at b h m.centre)
    (c.in-Ok.ensures.reply b h m.centre) (not_quiet _ _ c.quiet.ensures c.if-quiet.false)))
