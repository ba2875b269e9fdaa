use Rattle.std.proofs.Common.{◌≡◌, ◌∷◌, true, refl, sym, ap, subst, arith}
use Rattle.centre_core.specs.declared.hall.Stop.TheVariants.{Memory, Full}
use Rattle.arc_data.specs.declared.reply.Reply.{Reply}
use Rattle.centre_rules.specs.History.{is_recorded}
use Rattle.centre_rules.specs.State.{StandsFor, entry_of}
use Rattle.centre_store.specs.Bodies.{need_of}
use Rattle.centre_store.specs.Given.{summed_size}
use Rattle.centre_store.specs.Stores.{Stored, HasFailed}
use Rattle.centre_store.specs.Writes.{IsOverAt, IsOverThen, IsUnwritten, IsWrittenOn}
use Rattle.centre_store.proofs.Bodies.{kept_event}
use Rattle.centre_store.proofs.Entered.{stored, whole, stands_more, stands_stopped, written_moments, next_now, leaves_same, some_of}
use Rattle.centre_store.proofs.Ordered.{one_of_stops}
use Rattle.centre_store.proofs.Written.{written_over}
use Rattle.centre_store.proofs.store.Store.commit_or_return.Goals as goal

-- What the writing asks for.

pub write-requires-clause-had : goal.write-requires-clause-had
write-requires-clause-had g c =
    let some = some_of g.D.Disk.seen c.args.self.now c.self.inside.centre c.self.inside.journal c.self.inside.at_open c.self.view_is c.self.invariant c.requires.up in
    let b = some.base in
    let h = some.history in
    let up = λ (f : HasFailed g.D.Disk.seen (stored c.self.inside.centre c.self.inside.journal c.self.inside.at_open)).
    c.requires.up (subst (λ (x : Stored g.row.D.Denot). HasFailed g.D.Disk.seen x) c.self.view_is f) in
    record {
      base = b;
      history = h;
      all = whole g.D.Disk.seen b (stored c.self.inside.centre c.self.inside.journal c.self.inside.at_open)
          c.self.inside.centre c.self.inside.journal c.self.inside.at_open h refl up some.stands;
    }

pub write-requires-clause-formed : goal.write-requires-clause-formed
write-requires-clause-formed g c =
    let some = some_of g.D.Disk.seen c.args.self.now c.self.inside.centre c.self.inside.journal c.self.inside.at_open c.self.view_is c.self.invariant c.requires.up in
    let b = some.base in
    let h = some.history in
    (c.requires.next b h (subst (λ (x : Stored g.row.D.Denot). StandsFor b x.state h) c.self.view_is some.stands.centre)).event

pub write-requires-clause-kept : goal.write-requires-clause-kept
write-requires-clause-kept g c =
    let some = some_of g.D.Disk.seen c.args.self.now c.self.inside.centre c.self.inside.journal c.self.inside.at_open c.self.view_is c.self.invariant c.requires.up in
    let b = some.base in
    let h = some.history in
    let next = c.requires.next b h (subst (λ (x : Stored g.row.D.Denot). StandsFor b x.state h) c.self.view_is some.stands.centre) in
    kept_event b h c.args.ready.event c.args.ready.at (subst (λ (r : Reply). is_recorded r ≡ true) next.reply c.requires.recorded)

-- It was written, and the entry made.

pub returns-in-Ok-clause-taken : goal.returns-in-Ok-clause-taken
returns-in-Ok-clause-taken g c b h caller w =
    stands_more g.D.Disk.seen b c.args.self.now c.self.inside.centre c.self.inside.journal c.self.inside.at_open h c.self.view_is c.requires.up w
    c.apply.new.self c.write.new.journal (entry_of caller c.args.ready) (c.apply.ensures.entry b h caller) (c.in-Ok.ensures.added b h caller)

pub invariant_of-self : goal.invariant_of-self
invariant_of-self g c =
    let some = some_of g.D.Disk.seen c.args.self.now c.self.inside.centre c.self.inside.journal c.self.inside.at_open c.self.view_is c.self.invariant c.requires.up in
    let b = some.base in
    let h = some.history in
    let up = λ (f : HasFailed g.D.Disk.seen (stored c.self.inside.centre c.self.inside.journal c.self.inside.at_open)).
    c.requires.up (subst (λ (x : Stored g.row.D.Denot). HasFailed g.D.Disk.seen x) c.self.view_is f) in
    record {
      some = λ _. record {
        base = b;
        history = entry_of 0 c.args.ready ∷ h;
        stands = stands_more g.D.Disk.seen b (stored c.self.inside.centre c.self.inside.journal c.self.inside.at_open)
            c.self.inside.centre c.self.inside.journal c.self.inside.at_open h refl up some.stands
            c.apply.new.self c.write.new.journal (entry_of 0 c.args.ready) (c.apply.ensures.entry b h 0) (c.in-Ok.ensures.added b h 0);
      };
      few = omega (arith, c.apply.ensures.grows.entries, ap (λ (x : Stored g.row.D.Denot). x.state.entries) c.self.view_is, c.requires.few);
      later = omega (arith, c.self.invariant.later, c.write.ensures.later);
    }

pub returns-in-Ok-clause-written : goal.returns-in-Ok-clause-written
returns-in-Ok-clause-written g c b h w =
    let all = whole g.D.Disk.seen b c.args.self.now c.self.inside.centre c.self.inside.journal c.self.inside.at_open h c.self.view_is c.requires.up w in
    subst (λ (x : Stored g.row.D.Denot). IsWrittenOn x.journal c.write.new.journal (summed_size b h) (need_of c.args.ready.event)) c.self.view_is
    (c.in-Ok.ensures.written b h all)

pub returns-in-Ok-clause-full : goal.returns-in-Ok-clause-full
returns-in-Ok-clause-full g c b h w over then =
    let all = whole g.D.Disk.seen b c.args.self.now c.self.inside.centre c.self.inside.journal c.self.inside.at_open h c.self.view_is c.requires.up w in
    absurd (written_over c.write.result c.in-Ok.is (c.write.ensures.full b h all
    (subst (λ (x : Stored g.row.D.Denot). IsOverAt x.journal (need_of c.args.ready.event)) (sym c.self.view_is) over)
    (subst (λ (x : Stored g.row.D.Denot). IsOverThen x.journal (summed_size b h) (need_of c.args.ready.event)) (sym c.self.view_is) then)))

pub returns-in-Ok-clause-any_moment : goal.returns-in-Ok-clause-any_moment
returns-in-Ok-clause-any_moment g c b h w =
    written_moments g.D.Disk.seen b c.args.self.now c.self.inside.centre c.self.inside.journal c.self.inside.at_open h c.self.view_is c.requires.up w
    c.write.new.journal.disk _ (c.write.ensures.any_moment b h)

pub returns-in-Ok-clause-met : goal.returns-in-Ok-clause-met
returns-in-Ok-clause-met g c b h w =
    c.write.ensures.met b h (whole g.D.Disk.seen b c.args.self.now c.self.inside.centre c.self.inside.journal c.self.inside.at_open h c.self.view_is c.requires.up w)

-- It was not.

pub returns-in-Err-clause-stop : goal.returns-in-Err-clause-stop
returns-in-Err-clause-stop g c b h w =
    stands_stopped g.D.Disk.seen b c.args.self.now c.self.inside.centre c.self.inside.journal c.self.inside.at_open h c.self.view_is c.requires.up w
    c.write.new.journal _ c.args.ready
    (next_now g.D.Disk.seen b c.args.self.now c.self.inside.centre c.self.inside.journal c.self.inside.at_open h c.self.view_is c.requires.up w
    (entry_of 0 c.args.ready) c.requires.next)
    c.requires.recorded c.write.ensures.spelled (c.write.ensures.met b h) c.in-Err.stop c.in-Err.ensures.stop

pub invariant_of-self-in-Err : goal.invariant_of-self-in-Err
invariant_of-self-in-Err g c =
    let some = some_of g.D.Disk.seen c.args.self.now c.self.inside.centre c.self.inside.journal c.self.inside.at_open c.self.view_is c.self.invariant c.requires.up in
    let b = some.base in
    let h = some.history in
    let up = λ (f : HasFailed g.D.Disk.seen (stored c.self.inside.centre c.self.inside.journal c.self.inside.at_open)).
    c.requires.up (subst (λ (x : Stored g.row.D.Denot). HasFailed g.D.Disk.seen x) c.self.view_is f) in
    record {
      some = λ _. record {
        base = b;
        history = h;
        stands = stands_stopped g.D.Disk.seen b (stored c.self.inside.centre c.self.inside.journal c.self.inside.at_open)
            c.self.inside.centre c.self.inside.journal c.self.inside.at_open h refl up some.stands c.write.new.journal _ c.args.ready
            (c.requires.next b h (subst (λ (x : Stored g.row.D.Denot). StandsFor b x.state h) c.self.view_is some.stands.centre))
            c.requires.recorded c.write.ensures.spelled (c.write.ensures.met b h) c.in-Err.stop c.in-Err.ensures.stop;
      };
      few = c.self.invariant.few;
      later = omega (arith, c.self.invariant.later, c.write.ensures.later);
    }

pub returns-in-Err-clause-cause : goal.returns-in-Err-clause-cause
returns-in-Err-clause-cause g c =
    subst (λ (x : Stored g.row.D.Denot). IsUnwritten g.D.Disk.seen x.at_open x.journal c.write.new.journal x.state (need_of c.args.ready.event) c.in-Err.stop)
    c.self.view_is c.in-Err.ensures.stop

pub returns-in-Err-clause-unwritten : goal.returns-in-Err-clause-unwritten
returns-in-Err-clause-unwritten g c =
    leaves_same g.D.Disk.seen c.args.self.now.at_open (need_of c.args.ready.event) c.args.self.now.journal c.write.new.journal c.args.self.now.state c.in-Err.stop
    (returns-in-Err-clause-cause g c)

pub returns-in-Err-clause-full : goal.returns-in-Err-clause-full
returns-in-Err-clause-full g c b h w over then =
    let all = whole g.D.Disk.seen b c.args.self.now c.self.inside.centre c.self.inside.journal c.self.inside.at_open h c.self.view_is c.requires.up w in
    one_of_stops c.write.result _ c.in-Err.stop Memory (Full (summed_size b h) (need_of c.args.ready.event) 0) c.in-Err.is refl
    (c.write.ensures.full b h all
    (subst (λ (x : Stored g.row.D.Denot). IsOverAt x.journal (need_of c.args.ready.event)) (sym c.self.view_is) over)
    (subst (λ (x : Stored g.row.D.Denot). IsOverThen x.journal (summed_size b h) (need_of c.args.ready.event)) (sym c.self.view_is) then))

pub returns-in-Err-clause-any_moment : goal.returns-in-Err-clause-any_moment
returns-in-Err-clause-any_moment g c b h w =
    written_moments g.D.Disk.seen b c.args.self.now c.self.inside.centre c.self.inside.journal c.self.inside.at_open h c.self.view_is c.requires.up w
    c.write.new.journal.disk _ (c.write.ensures.any_moment b h)

pub returns-in-Err-clause-met : goal.returns-in-Err-clause-met
returns-in-Err-clause-met g c b h w =
    c.write.ensures.met b h (whole g.D.Disk.seen b c.args.self.now c.self.inside.centre c.self.inside.journal c.self.inside.at_open h c.self.view_is c.requires.up w)
