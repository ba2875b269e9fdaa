use Rattle.std.proofs.Common.{ℕ, List, Ok, refl, sym, subst}
use Rattle.std.specs.Prelude.{Err}
use Rattle.arc_data.specs.declared.event.Event.{Event}
use Rattle.centre_core.specs.declared.hall.Stop.TheVariants.{Memory, Full}
use Rattle.centre_rules.specs.History.{moment_after}
use Rattle.event_codec.specs.Spelling.{spelling}
use Rattle.centre_store.specs.Bodies.{need_of}
use Rattle.centre_store.specs.Given.{HasEither, summed_size}
use Rattle.centre_store.specs.Stores.{Stored, StoreStands, IsOverWith}
use Rattle.centre_store.specs.Writes.{IsWrittenOn}
use Rattle.centre_store.proofs.Entered.{stored, some_of, between, up_between, body_is, moments_as, takes_of, shown_by, still_either, still_met}
use Rattle.centre_store.proofs.Filled.{Stops}
use Rattle.centre_store.proofs.Ordered.{never_stopped}
use Rattle.centre_store.proofs.Together.{recorded_of}
use Rattle.centre_store.proofs.store.Store.enter_alone.Goals as goal

-- There was no memory.

pub returns-in-Err-clause-any_moment : goal.returns-in-Err-clause-any_moment
returns-in-Err-clause-any_moment g c b h w =
    still_either g.D.Disk.seen b c.args.self.now (stored c.self.inside.centre c.self.inside.journal c.self.inside.at_open) h
    (spelling c.args.call.event (moment_after b h c.args.call.clock)) c.self.view_is g.met.D.Disk.only_now c.requires.up w

pub returns-in-Err-clause-met : goal.returns-in-Err-clause-met
returns-in-Err-clause-met g c b h w =
    still_met g.D.Disk.seen b c.args.self.now (stored c.self.inside.centre c.self.inside.journal c.self.inside.at_open) h
    (spelling c.args.call.event (moment_after b h c.args.call.clock)) c.self.view_is c.requires.up w

-- A record is to be written.

pub returns-in-Ok-commit_or_return-clause-done : goal.returns-in-Ok-commit_or_return-clause-done
returns-in-Ok-commit_or_return-clause-done g c b h caller w =
    let m = between g.D.Disk.seen b c.args.self.now c.self.inside.centre c.prepare.new.self c.self.inside.journal c.self.inside.at_open h c.self.view_is (c.in-Ok.ensures.stays b h) w in
    takes_of g.D.Disk.seen b c.commit_or_return.new.self h c.args.call.clock caller c.args.call.event c.in-Ok-commit_or_return.done.at c.in-Ok-commit_or_return.done.reply c.in-Ok.ready c.in-Ok.ensures.event
    c.in-Ok-commit_or_return.ensures.done.0 c.in-Ok-commit_or_return.ensures.done.1 (c.in-Ok.ensures.at b h m.centre) (c.in-Ok-commit_or_return.ensures.taken b h caller m)

pub returns-in-Ok-commit_or_return-clause-any_moment : goal.returns-in-Ok-commit_or_return-clause-any_moment
returns-in-Ok-commit_or_return-clause-any_moment g c b h w =
    let m = between g.D.Disk.seen b c.args.self.now c.self.inside.centre c.prepare.new.self c.self.inside.journal c.self.inside.at_open h c.self.view_is (c.in-Ok.ensures.stays b h) w in
    moments_as g.D.Disk.seen b c.args.self.now c.self.inside.centre c.self.inside.journal c.self.inside.at_open c.commit_or_return.new.self.journal.disk h c.self.view_is
    _ _ (body_is b h c.args.call.clock c.args.call.event c.in-Ok.ready c.in-Ok.ensures.event (c.in-Ok.ensures.at b h m.centre)) (c.commit_or_return.ensures.any_moment b h m)

pub returns-in-Ok-commit_or_return-clause-met : goal.returns-in-Ok-commit_or_return-clause-met
returns-in-Ok-commit_or_return-clause-met g c b h w =
    let m = between g.D.Disk.seen b c.args.self.now c.self.inside.centre c.prepare.new.self c.self.inside.journal c.self.inside.at_open h c.self.view_is (c.in-Ok.ensures.stays b h) w in
    subst (λ (l : List ℕ). HasEither (g.D.Disk.seen c.commit_or_return.new.self.journal.disk) b h l)
    (body_is b h c.args.call.clock c.args.call.event c.in-Ok.ready c.in-Ok.ensures.event (c.in-Ok.ensures.at b h m.centre)) (c.commit_or_return.ensures.met b h m)

pub returns-in-Ok-commit_or_return-clause-written : goal.returns-in-Ok-commit_or_return-clause-written
returns-in-Ok-commit_or_return-clause-written g c b h w =
    let m = between g.D.Disk.seen b c.args.self.now c.self.inside.centre c.prepare.new.self c.self.inside.journal c.self.inside.at_open h c.self.view_is (c.in-Ok.ensures.stays b h) w in
    subst (λ (x : Stored g.row.D.Denot). IsWrittenOn x.journal c.commit_or_return.new.self.journal (summed_size b h) (need_of c.args.call.event)) c.self.view_is
    (subst (λ (e : Event). IsWrittenOn c.self.inside.journal c.commit_or_return.new.self.journal (summed_size b h) (need_of e)) c.in-Ok.ensures.event
    (c.in-Ok-commit_or_return.ensures.written b h m))

pub returns-in-Ok-commit_or_return-clause-full : goal.returns-in-Ok-commit_or_return-clause-full
returns-in-Ok-commit_or_return-clause-full g c b h w over =
    let m = between g.D.Disk.seen b c.args.self.now c.self.inside.centre c.prepare.new.self c.self.inside.journal c.self.inside.at_open h c.self.view_is (c.in-Ok.ensures.stays b h) w in
    let there : IsOverWith (stored c.self.inside.centre c.self.inside.journal c.self.inside.at_open) (summed_size b h) (need_of c.in-Ok.ready.event) =
    subst (λ (e : Event). IsOverWith {D = g.row.D.Denot} (stored c.self.inside.centre c.self.inside.journal c.self.inside.at_open) (summed_size b h) (need_of e)) (sym c.in-Ok.ensures.event)
    (subst (λ (x : Stored g.row.D.Denot). IsOverWith x (summed_size b h) (need_of c.args.call.event)) (sym c.self.view_is) over) in
    absurd (never_stopped (Ok c.in-Ok-commit_or_return.done) c.in-Ok-commit_or_return.done refl (c.in-Ok-commit_or_return.ensures.full b h m there.now there.then))

pub returns-in-Err-commit_or_return-clause-full : goal.returns-in-Err-commit_or_return-clause-full
returns-in-Err-commit_or_return-clause-full g c b h w over =
    let m = between g.D.Disk.seen b c.args.self.now c.self.inside.centre c.prepare.new.self c.self.inside.journal c.self.inside.at_open h c.self.view_is (c.in-Ok.ensures.stays b h) w in
    let there : IsOverWith (stored c.self.inside.centre c.self.inside.journal c.self.inside.at_open) (summed_size b h) (need_of c.in-Ok.ready.event) =
    subst (λ (e : Event). IsOverWith {D = g.row.D.Denot} (stored c.self.inside.centre c.self.inside.journal c.self.inside.at_open) (summed_size b h) (need_of e)) (sym c.in-Ok.ensures.event)
    (subst (λ (x : Stored g.row.D.Denot). IsOverWith x (summed_size b h) (need_of c.args.call.event)) (sym c.self.view_is) over) in
    subst (λ (e : Event). Stops (Err c.in-Err-commit_or_return.stop) Memory (Full (summed_size b h) (need_of e) 0))
    c.in-Ok.ensures.event (c.in-Err-commit_or_return.ensures.full b h m there.now there.then)

pub returns-in-Err-commit_or_return-clause-stop : goal.returns-in-Err-commit_or_return-clause-stop
returns-in-Err-commit_or_return-clause-stop g c b h w = c.in-Err-commit_or_return.ensures.stop b h (between g.D.Disk.seen b c.args.self.now c.self.inside.centre c.prepare.new.self c.self.inside.journal c.self.inside.at_open h c.self.view_is (c.in-Ok.ensures.stays b h) w)

pub returns-in-Err-commit_or_return-clause-cause : goal.returns-in-Err-commit_or_return-clause-cause
returns-in-Err-commit_or_return-clause-cause g c =
    let some = some_of g.D.Disk.seen c.args.self.now c.self.inside.centre c.self.inside.journal c.self.inside.at_open c.self.view_is c.self.invariant c.requires.up in
    let to = c.requires.to_record some.base some.history (subst (λ (x : Stored g.row.D.Denot). StoreStands g.D.Disk.seen some.base x some.history) c.self.view_is some.stands) in
    let stands = c.in-Ok.ensures.stays some.base some.history some.stands.centre in
    let recorded = recorded_of some.base some.history c.args.call.event c.args.call.clock c.in-Ok.ready (c.in-Ok.ensures.at some.base some.history stands)
    (c.in-Ok.ensures.reply some.base some.history stands) to in
    shown_by g.D.Disk.seen (stored c.prepare.new.self c.self.inside.journal c.self.inside.at_open) c.commit_or_return.new.self c.args.call.clock c.args.call.event c.in-Ok.ready
    c.in-Err-commit_or_return.ensures.state c.commit_or_return.ensures.at_open c.in-Ok.ensures.event
    (up_between g.D.Disk.seen c.args.self.now c.self.inside.centre c.prepare.new.self c.self.inside.journal c.self.inside.at_open c.self.view_is c.requires.up)
    c.in-Ok.ensures.at c.in-Ok.ensures.reply recorded c.in-Err-commit_or_return.stop c.in-Err-commit_or_return.ensures.cause

pub returns-in-Err-commit_or_return-clause-any_moment : goal.returns-in-Err-commit_or_return-clause-any_moment
returns-in-Err-commit_or_return-clause-any_moment g c b h w =
    let m = between g.D.Disk.seen b c.args.self.now c.self.inside.centre c.prepare.new.self c.self.inside.journal c.self.inside.at_open h c.self.view_is (c.in-Ok.ensures.stays b h) w in
    moments_as g.D.Disk.seen b c.args.self.now c.self.inside.centre c.self.inside.journal c.self.inside.at_open c.commit_or_return.new.self.journal.disk h c.self.view_is
    _ _ (body_is b h c.args.call.clock c.args.call.event c.in-Ok.ready c.in-Ok.ensures.event (c.in-Ok.ensures.at b h m.centre)) (c.commit_or_return.ensures.any_moment b h m)

pub returns-in-Err-commit_or_return-clause-met : goal.returns-in-Err-commit_or_return-clause-met
returns-in-Err-commit_or_return-clause-met g c b h w =
    let m = between g.D.Disk.seen b c.args.self.now c.self.inside.centre c.prepare.new.self c.self.inside.journal c.self.inside.at_open h c.self.view_is (c.in-Ok.ensures.stays b h) w in
    subst (λ (l : List ℕ). HasEither (g.D.Disk.seen c.commit_or_return.new.self.journal.disk) b h l)
    (body_is b h c.args.call.clock c.args.call.event c.in-Ok.ready c.in-Ok.ensures.event (c.in-Ok.ensures.at b h m.centre)) (c.commit_or_return.ensures.met b h m)
