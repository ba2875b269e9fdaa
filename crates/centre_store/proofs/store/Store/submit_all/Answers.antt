use Rattle.std.proofs.Common.{◌≡◌, List, length, take, Some, inl, inr, arith, refl, sym, ap, subst, ◌∙◌}
use Rattle.std.proofs.lemmas.Bool.{false≢true}
use Rattle.arc_io.specs.Causes.{Rose}
use Rattle.disk_journal.specs.declared.journal.Journal.{Journal}
use Rattle.centre_store.specs.Calls.{Submission}
use Rattle.centre_store.specs.Gathered.{ShowsOfEnd}
use Rattle.centre_store.specs.Groups.{dones_of, with_all, FirstHasNoRoom, AreWritten, IsFullFirst}
use Rattle.centre_store.specs.Stores.{Stored, HasFailed, StoreStands}
use Rattle.centre_store.proofs.Entered.{stored, some_of}
use Rattle.centre_store.proofs.Filled.{written_from, full_from, group_written, full_gathered, full_broken}
use Rattle.centre_store.proofs.Groups.{no_length}
use Rattle.centre_store.proofs.Together.{all_left, together_from, together_of, same_from, none_before, none_between, up_with, few_before, held_now, later_then}
use Rattle.centre_store.proofs.Together.{bodies_were, dones_then, entries_then, stays_then, stands_between, some_between, stands_written, some_written, all_together}
use Rattle.centre_store.proofs.Together.{taken_up_to, always_down}
use Rattle.centre_store.proofs.store.Store.submit_all.Goals as goal
use Rattle.centre_store.proofs.store.Store.submit_all.Goals.{else-count-eq0-via-then-count-eq0+else-is_no_room, else-count-eq0-via-else-count-eq0}

-- What the gathering asks for.

pub gather-end-requires-clause-stands : goal.gather-end-requires-clause-stands
gather-end-requires-clause-stands g c =
    let some = some_of g.D.Disk.seen c.args.self.now c.self.inside.centre c.self.inside.journal c.self.inside.at_open c.self.view_is c.self.invariant c.in_default.ensures.up in
    record { base = some.base; history = some.history; stands = some.stands.centre }

-- Nothing was gathered, and the first one is submitted alone.

pub invariant_of-self : goal.invariant_of-self
invariant_of-self g c =
    let none : length c.gather-end.new.set.dones ≡ 0 = omega (arith, c.count.ensures, c.if-count-eq0.true) in
    let some = some_of g.D.Disk.seen c.args.self.now c.self.inside.centre c.self.inside.journal c.self.inside.at_open c.self.view_is c.self.invariant c.in_default.ensures.up in
    record {
      some = λ _. some_between g.D.Disk.seen c.args.self.now c.self.inside.centre c.gather-end.new.centre c.self.inside.journal c.gather-end.new.journal c.self.inside.at_open c.self.view_is c.gather-end.ensures.same c.args.caller c.args.batch.now c.gather-end.new.set.bodies c.gather-end.new.set.dones c.gather-end.ensures.taken c.in_default.ensures.up none some;
      few = c.gather-end.ensures.taken.bound c.self.invariant.few;
      later = later_then g.D.Disk.seen c.args.self.now c.self.inside.centre c.gather-end.new.centre c.self.inside.journal c.gather-end.new.journal c.self.inside.at_open c.self.view_is c.gather-end.ensures.same c.args.caller c.args.batch.now c.gather-end.new.set.bodies c.gather-end.new.set.dones c.gather-end.ensures.taken c.in_default.ensures.up c.self.invariant.later;
    }

pub submit_first-requires-clause-up : goal.submit_first-requires-clause-up
submit_first-requires-clause-up g c = up_with g.D.Disk.seen c.args.self.now c.self.inside.centre c.gather-end.new.centre c.self.inside.journal c.gather-end.new.journal c.self.inside.at_open c.self.view_is c.gather-end.ensures.same c.in_default.ensures.up

pub submit_first-requires-clause-few : goal.submit_first-requires-clause-few
submit_first-requires-clause-few g c =
    let shows = subst (ShowsOfEnd c.gather-end.new.journal c.gather-end.new.centre c.gather-end.new.set.bodies c.gather-end.new.batch) (c.is_no_room.ensures.0 c.if-is_no_room.true) c.gather-end.ensures.cause in
    few_before c.gather-end.new.journal c.gather-end.new.centre c.gather-end.new.set.bodies c.gather-end.new.batch shows

pub submit_first-requires-clause-first : goal.submit_first-requires-clause-first
submit_first-requires-clause-first g c =
    let none : length c.gather-end.new.set.dones ≡ 0 = omega (arith, c.count.ensures, c.if-count-eq0.true) in
    let no_bodies = c.gather-end.ensures.none (no_length c.gather-end.new.set.dones none) in
    let shows = subst (ShowsOfEnd c.gather-end.new.journal c.gather-end.new.centre c.gather-end.new.set.bodies c.gather-end.new.batch) (c.is_no_room.ensures.0 c.if-is_no_room.true) c.gather-end.ensures.cause in
    none_between g.D.Disk.seen c.args.self.now c.self.inside.centre c.gather-end.new.centre c.self.inside.journal c.gather-end.new.journal c.self.inside.at_open c.self.view_is c.gather-end.ensures.same c.gather-end.new.set.bodies c.gather-end.new.batch no_bodies shows

pub returns-then-is_no_room-clause-done : goal.returns-then-is_no_room-clause-done
returns-then-is_no_room-clause-done g c up b h w =
    let none : length c.gather-end.new.set.dones ≡ 0 = omega (arith, c.count.ensures, c.if-count-eq0.true) in
    let left = all_left c.args.batch.now c.gather-end.new.batch (length c.gather-end.new.set.dones) none c.gather-end.ensures.off in
    subst (λ (l : List Submission). c.submit_first.result.done ≡ dones_of c.args.caller b h (take (length c.submit_first.result.done) l)) left
    (c.submit_first.ensures.done up b h (stands_between g.D.Disk.seen c.args.self.now c.self.inside.centre c.gather-end.new.centre c.self.inside.journal c.gather-end.new.journal c.self.inside.at_open c.self.view_is c.gather-end.ensures.same c.args.caller c.args.batch.now c.gather-end.new.set.bodies c.gather-end.new.set.dones c.gather-end.ensures.taken c.in_default.ensures.up none b h w))

pub returns-then-is_no_room-clause-stands : goal.returns-then-is_no_room-clause-stands
returns-then-is_no_room-clause-stands g c up b h w =
    let none : length c.gather-end.new.set.dones ≡ 0 = omega (arith, c.count.ensures, c.if-count-eq0.true) in
    let left = all_left c.args.batch.now c.gather-end.new.batch (length c.gather-end.new.set.dones) none c.gather-end.ensures.off in
    subst (λ (l : List Submission). StoreStands g.D.Disk.seen b c.submit_first.new.self (with_all c.args.caller b h (take (length c.submit_first.result.done) l))) left
    (c.submit_first.ensures.stands up b h (stands_between g.D.Disk.seen c.args.self.now c.self.inside.centre c.gather-end.new.centre c.self.inside.journal c.gather-end.new.journal c.self.inside.at_open c.self.view_is c.gather-end.ensures.same c.args.caller c.args.batch.now c.gather-end.new.set.bodies c.gather-end.new.set.dones c.gather-end.ensures.taken c.in_default.ensures.up none b h w))

pub returns-then-is_no_room-clause-entries : goal.returns-then-is_no_room-clause-entries
returns-then-is_no_room-clause-entries g c up =
    let none : length c.gather-end.new.set.dones ≡ 0 = omega (arith, c.count.ensures, c.if-count-eq0.true) in
    let before = entries_then g.D.Disk.seen c.args.self.now c.self.inside.centre c.gather-end.new.centre c.self.inside.journal c.gather-end.new.journal c.self.inside.at_open c.self.view_is c.gather-end.ensures.same c.args.caller c.args.batch.now c.gather-end.new.set.bodies c.gather-end.new.set.dones c.gather-end.ensures.taken c.in_default.ensures.up in
    omega (arith, c.submit_first.ensures.entries up, before, none)

pub returns-then-is_no_room-clause-taken_up : goal.returns-then-is_no_room-clause-taken_up
returns-then-is_no_room-clause-taken_up g c last =
    let none : length c.gather-end.new.set.dones ≡ 0 = omega (arith, c.count.ensures, c.if-count-eq0.true) in
    let left = all_left c.args.batch.now c.gather-end.new.batch (length c.gather-end.new.set.dones) none c.gather-end.ensures.off in
    let no_bodies = c.gather-end.ensures.none (no_length c.gather-end.new.set.dones none) in
    let shows = subst (ShowsOfEnd c.gather-end.new.journal c.gather-end.new.centre c.gather-end.new.set.bodies c.gather-end.new.batch) (c.is_no_room.ensures.0 c.if-is_no_room.true) c.gather-end.ensures.cause in
    let before = entries_then g.D.Disk.seen c.args.self.now c.self.inside.centre c.gather-end.new.centre c.self.inside.journal c.gather-end.new.journal c.self.inside.at_open c.self.view_is c.gather-end.ensures.same c.args.caller c.args.batch.now c.gather-end.new.set.bodies c.gather-end.new.set.dones c.gather-end.ensures.taken c.in_default.ensures.up in
    let first : FirstHasNoRoom g.D.Disk.seen c.args.self.now c.gather-end.new.batch = none_before g.D.Disk.seen c.args.self.now c.self.inside.centre c.gather-end.new.centre c.self.inside.journal c.gather-end.new.journal c.self.inside.at_open c.self.view_is c.gather-end.ensures.same c.gather-end.new.set.bodies c.gather-end.new.batch no_bodies (omega (arith, before, none)) (stays_then g.D.Disk.seen c.args.self.now c.self.inside.centre c.gather-end.new.centre c.self.inside.journal c.gather-end.new.journal c.self.inside.at_open c.self.view_is c.gather-end.ensures.same c.args.caller c.args.batch.now c.gather-end.new.set.bodies c.gather-end.new.set.dones c.gather-end.ensures.taken c.in_default.ensures.up none) shows in
    inr (inr (subst (FirstHasNoRoom g.D.Disk.seen c.args.self.now) left first, c.submit_first.ensures.one last))

pub returns-then-is_no_room-clause-written : goal.returns-then-is_no_room-clause-written
returns-then-is_no_room-clause-written g c up b h w =
    let mid = stored c.gather-end.new.centre c.gather-end.new.journal c.self.inside.at_open in
    let none : length c.gather-end.new.set.dones ≡ 0 = omega (arith, c.count.ensures, c.if-count-eq0.true) in
    let left = all_left c.args.batch.now c.gather-end.new.batch (length c.gather-end.new.set.dones) none c.gather-end.ensures.off in
    let no_bodies = c.gather-end.ensures.none (no_length c.gather-end.new.set.dones none) in
    let shows = subst (ShowsOfEnd c.gather-end.new.journal c.gather-end.new.centre c.gather-end.new.set.bodies c.gather-end.new.batch) (c.is_no_room.ensures.0 c.if-is_no_room.true) c.gather-end.ensures.cause in
    let before = entries_then g.D.Disk.seen c.args.self.now c.self.inside.centre c.gather-end.new.centre c.self.inside.journal c.gather-end.new.journal c.self.inside.at_open c.self.view_is c.gather-end.ensures.same c.args.caller c.args.batch.now c.gather-end.new.set.bodies c.gather-end.new.set.dones c.gather-end.ensures.taken c.in_default.ensures.up in
    let first : FirstHasNoRoom g.D.Disk.seen c.args.self.now c.gather-end.new.batch = none_before g.D.Disk.seen c.args.self.now c.self.inside.centre c.gather-end.new.centre c.self.inside.journal c.gather-end.new.journal c.self.inside.at_open c.self.view_is c.gather-end.ensures.same c.gather-end.new.set.bodies c.gather-end.new.batch no_bodies (omega (arith, before, none)) (stays_then g.D.Disk.seen c.args.self.now c.self.inside.centre c.gather-end.new.centre c.self.inside.journal c.gather-end.new.journal c.self.inside.at_open c.self.view_is c.gather-end.ensures.same c.args.caller c.args.batch.now c.gather-end.new.set.bodies c.gather-end.new.set.dones c.gather-end.ensures.taken c.in_default.ensures.up none) shows in
    let written = c.submit_first.ensures.written up b h (stands_between g.D.Disk.seen c.args.self.now c.self.inside.centre c.gather-end.new.centre c.self.inside.journal c.gather-end.new.journal c.self.inside.at_open c.self.view_is c.gather-end.ensures.same c.args.caller c.args.batch.now c.gather-end.new.set.bodies c.gather-end.new.set.dones c.gather-end.ensures.taken c.in_default.ensures.up none b h w) in
    written_from g.D.Disk.seen c.args.self.now mid (same_from g.D.Disk.seen c.args.self.now c.self.inside.centre c.gather-end.new.centre c.self.inside.journal c.gather-end.new.journal c.self.inside.at_open c.self.view_is c.gather-end.ensures.same) c.submit_first.new.self c.args.caller b h c.args.batch.now (length c.submit_first.result.done)
    (subst (FirstHasNoRoom g.D.Disk.seen c.args.self.now) left first)
    (subst (λ (l : List Submission). AreWritten g.D.Disk.seen mid c.submit_first.new.self c.args.caller b h l (length c.submit_first.result.done)) left written)

pub returns-then-is_no_room-clause-full : goal.returns-then-is_no_room-clause-full
returns-then-is_no_room-clause-full g c =
    let mid = stored c.gather-end.new.centre c.gather-end.new.journal c.self.inside.at_open in
    let none : length c.gather-end.new.set.dones ≡ 0 = omega (arith, c.count.ensures, c.if-count-eq0.true) in
    let left = all_left c.args.batch.now c.gather-end.new.batch (length c.gather-end.new.set.dones) none c.gather-end.ensures.off in
    let before = entries_then g.D.Disk.seen c.args.self.now c.self.inside.centre c.gather-end.new.centre c.self.inside.journal c.gather-end.new.journal c.self.inside.at_open c.self.view_is c.gather-end.ensures.same c.args.caller c.args.batch.now c.gather-end.new.set.bodies c.gather-end.new.set.dones c.gather-end.ensures.taken c.in_default.ensures.up in
    full_from g.D.Disk.seen c.args.self.now mid (same_from g.D.Disk.seen c.args.self.now c.self.inside.centre c.gather-end.new.centre c.self.inside.journal c.gather-end.new.journal c.self.inside.at_open c.self.view_is c.gather-end.ensures.same)
    (up_with g.D.Disk.seen c.args.self.now c.self.inside.centre c.gather-end.new.centre c.self.inside.journal c.gather-end.new.journal c.self.inside.at_open c.self.view_is c.gather-end.ensures.same) (omega (arith, before, none)) (stands_between g.D.Disk.seen c.args.self.now c.self.inside.centre c.gather-end.new.centre c.self.inside.journal c.gather-end.new.journal c.self.inside.at_open c.self.view_is c.gather-end.ensures.same c.args.caller c.args.batch.now c.gather-end.new.set.bodies c.gather-end.new.set.dones c.gather-end.ensures.taken c.in_default.ensures.up none)
    c.args.batch.now c.submit_first.result.stop
    (subst (λ (l : List Submission). IsFullFirst g.D.Disk.seen mid l c.submit_first.result.stop) left c.submit_first.ensures.full)

pub returns-then-is_no_room-clause-together : goal.returns-then-is_no_room-clause-together
returns-then-is_no_room-clause-together g c b h w up =
    let none : length c.gather-end.new.set.dones ≡ 0 = omega (arith, c.count.ensures, c.if-count-eq0.true) in
    let left = all_left c.args.batch.now c.gather-end.new.batch (length c.gather-end.new.set.dones) none c.gather-end.ensures.off in
    together_from g.D.Disk.seen c.args.self.now (stored c.gather-end.new.centre c.gather-end.new.journal c.self.inside.at_open) (same_from g.D.Disk.seen c.args.self.now c.self.inside.centre c.gather-end.new.centre c.self.inside.journal c.gather-end.new.journal c.self.inside.at_open c.self.view_is c.gather-end.ensures.same) c.submit_first.new.self c.args.caller b h c.args.batch.now
    c.submit_first.new.batch (length c.submit_first.result.done) c.submit_first.result.stop
    (together_of g.D.Disk.seen (stored c.gather-end.new.centre c.gather-end.new.journal c.self.inside.at_open) c.submit_first.new.self c.args.caller b h c.gather-end.new.batch c.args.batch.now
    c.submit_first.new.batch (length c.submit_first.result.done) c.submit_first.result.stop left (c.submit_first.ensures.together b h (stands_between g.D.Disk.seen c.args.self.now c.self.inside.centre c.gather-end.new.centre c.self.inside.journal c.gather-end.new.journal c.self.inside.at_open c.self.view_is c.gather-end.ensures.same c.args.caller c.args.batch.now c.gather-end.new.set.bodies c.gather-end.new.set.dones c.gather-end.ensures.taken c.in_default.ensures.up none b h w)))

-- They are written.

pub write_all-requires-clause-had : goal.write_all-requires-clause-had
write_all-requires-clause-had g c =
    let some = some_of g.D.Disk.seen c.args.self.now c.self.inside.centre c.self.inside.journal c.self.inside.at_open c.self.view_is c.self.invariant c.in_default.ensures.up in
    let up = λ (f : HasFailed g.D.Disk.seen (stored c.self.inside.centre c.self.inside.journal c.self.inside.at_open)). c.in_default.ensures.up (subst (λ (x : Stored g.row.D.Denot). HasFailed g.D.Disk.seen x) c.self.view_is f) in
    (some.base, some.history, held_now g.D.Disk.seen some.base (stored c.self.inside.centre c.self.inside.journal c.self.inside.at_open) c.self.inside.centre c.self.inside.journal c.gather-end.new.journal c.self.inside.at_open some.history refl up some.stands c.gather-end.ensures.same)

pub invariant_of-self-2 : goal.invariant_of-self-2
invariant_of-self-2 g c =
    let some = some_of g.D.Disk.seen c.args.self.now c.self.inside.centre c.self.inside.journal c.self.inside.at_open c.self.view_is c.self.invariant c.in_default.ensures.up in
    let later = later_then g.D.Disk.seen c.args.self.now c.self.inside.centre c.gather-end.new.centre c.self.inside.journal c.gather-end.new.journal c.self.inside.at_open c.self.view_is c.gather-end.ensures.same c.args.caller c.args.batch.now c.gather-end.new.set.bodies c.gather-end.new.set.dones c.gather-end.ensures.taken c.in_default.ensures.up c.self.invariant.later in
    record {
      some = λ _. some_written g.D.Disk.seen c.args.self.now c.self.inside.centre c.gather-end.new.centre c.self.inside.journal c.gather-end.new.journal c.self.inside.at_open c.self.view_is c.gather-end.ensures.same c.args.caller c.args.batch.now c.gather-end.new.set.bodies c.gather-end.new.set.dones c.gather-end.ensures.taken c.in_default.ensures.up c.write_all.new.journal c.in_default-write_all.ensures.added some;
      few = c.gather-end.ensures.taken.bound c.self.invariant.few;
      later = omega (arith, later, c.write_all.ensures.later);
    }

pub returns-clause-stands : goal.returns-clause-stands
returns-clause-stands g c up b h w = stands_written g.D.Disk.seen c.args.self.now c.self.inside.centre c.gather-end.new.centre c.self.inside.journal c.gather-end.new.journal c.self.inside.at_open c.self.view_is c.gather-end.ensures.same c.args.caller c.args.batch.now c.gather-end.new.set.bodies c.gather-end.new.set.dones c.gather-end.ensures.taken c.in_default.ensures.up c.write_all.new.journal c.in_default-write_all.ensures.added b h w

pub returns-clause-by : goal.returns-clause-by
returns-clause-by g c = dones_then g.D.Disk.seen c.args.self.now c.self.inside.centre c.gather-end.new.centre c.self.inside.journal c.gather-end.new.journal c.self.inside.at_open c.self.view_is c.gather-end.ensures.same c.args.caller c.args.batch.now c.gather-end.new.set.bodies c.gather-end.new.set.dones c.gather-end.ensures.taken c.in_default.ensures.up c.self.invariant

pub returns-clause-written : goal.returns-clause-written
returns-clause-written g c up b h w =
    let held = held_now g.D.Disk.seen b c.args.self.now c.self.inside.centre c.self.inside.journal c.gather-end.new.journal c.self.inside.at_open h c.self.view_is c.in_default.ensures.up w c.gather-end.ensures.same in
    let are = bodies_were g.D.Disk.seen c.args.self.now c.self.inside.centre c.gather-end.new.centre c.self.inside.journal c.gather-end.new.journal c.self.inside.at_open c.self.view_is c.gather-end.ensures.same c.args.caller c.args.batch.now c.gather-end.new.set.bodies c.gather-end.new.set.dones c.gather-end.ensures.taken c.in_default.ensures.up b h w in
    let numbers = c.in_default-write_all.ensures.numbers c.args.caller b h (take (length c.gather-end.new.set.dones) c.args.batch.now) held are in
    inl (group_written c.args.self.now.journal c.gather-end.new.journal (same_from g.D.Disk.seen c.args.self.now c.self.inside.centre c.gather-end.new.centre c.self.inside.journal c.gather-end.new.journal c.self.inside.at_open c.self.view_is c.gather-end.ensures.same) c.write_all.new.journal c.gather-end.new.set.bodies _ are
    numbers.0 numbers.1 numbers.2 c.write_all.ensures.none c.gather-end.ensures.room)

pub returns-clause-full : goal.returns-clause-full
returns-clause-full g c =
    full_gathered g.D.Disk.seen c.args.self.now c.gather-end.new.journal (same_from g.D.Disk.seen c.args.self.now c.self.inside.centre c.gather-end.new.centre c.self.inside.journal c.gather-end.new.journal c.self.inside.at_open c.self.view_is c.gather-end.ensures.same) c.args.caller c.gather-end.new.set.bodies c.gather-end.ensures.room
    c.gather-end.new.centre c.args.batch.now c.gather-end.new.batch (length c.gather-end.new.set.dones) c.gather-end.result (bodies_were g.D.Disk.seen c.args.self.now c.self.inside.centre c.gather-end.new.centre c.self.inside.journal c.gather-end.new.journal c.self.inside.at_open c.self.view_is c.gather-end.ensures.same c.args.caller c.args.batch.now c.gather-end.new.set.bodies c.gather-end.new.set.dones c.gather-end.ensures.taken c.in_default.ensures.up)
    (entries_then g.D.Disk.seen c.args.self.now c.self.inside.centre c.gather-end.new.centre c.self.inside.journal c.gather-end.new.journal c.self.inside.at_open c.self.view_is c.gather-end.ensures.same c.args.caller c.args.batch.now c.gather-end.new.set.bodies c.gather-end.new.set.dones c.gather-end.ensures.taken c.in_default.ensures.up) c.gather-end.ensures.off c.gather-end.ensures.cause
    (λ no_room. elim c.else-count-eq0.branch [
      | else-count-eq0-via-then-count-eq0+else-is_no_room w ↦ absurd (false≢true (w.if-is_no_room.ensures.1 no_room))
      | else-count-eq0-via-else-count-eq0 w ↦ omega (arith, c.count.ensures, w.if-count-eq0.false)
    ]) c.stop.result c.stop.ensures

pub returns-clause-taken_up : goal.returns-clause-taken_up
returns-clause-taken_up g c last =
    let some = some_of g.D.Disk.seen c.args.self.now c.self.inside.centre c.self.inside.journal c.self.inside.at_open c.self.view_is c.self.invariant c.in_default.ensures.up in
    let w = subst (λ (x : Stored g.row.D.Denot). StoreStands g.D.Disk.seen some.base x some.history) c.self.view_is some.stands in
    let held = held_now g.D.Disk.seen some.base c.args.self.now c.self.inside.centre c.self.inside.journal c.gather-end.new.journal c.self.inside.at_open some.history c.self.view_is c.in_default.ensures.up w c.gather-end.ensures.same in
    let numbers = c.in_default-write_all.ensures.numbers c.args.caller some.base some.history (take (length c.gather-end.new.set.dones) c.args.batch.now) held
    (bodies_were g.D.Disk.seen c.args.self.now c.self.inside.centre c.gather-end.new.centre c.self.inside.journal c.gather-end.new.journal c.self.inside.at_open c.self.view_is c.gather-end.ensures.same c.args.caller c.args.batch.now c.gather-end.new.set.bodies c.gather-end.new.set.dones c.gather-end.ensures.taken c.in_default.ensures.up some.base some.history w) in
    taken_up_to g.D.Disk.seen c.gather-end.new.centre c.gather-end.new.journal c.write_all.new.journal c.self.inside.at_open c.gather-end.new.set.bodies c.gather-end.new.batch c.args.self.now c.args.batch.now (length c.gather-end.new.set.dones) c.gather-end.result numbers.0 numbers.1
    c.write_all.ensures.limits c.gather-end.ensures.cause
    (λ no_room. elim c.else-count-eq0.branch [
      | else-count-eq0-via-then-count-eq0+else-is_no_room w ↦ absurd (false≢true (w.if-is_no_room.ensures.1 no_room))
      | else-count-eq0-via-else-count-eq0 w ↦ omega (arith, c.count.ensures, w.if-count-eq0.false)
    ]) (sym c.stop.ensures ∙ last)

pub returns-clause-together : goal.returns-clause-together
returns-clause-together g c b h w up =
    all_together g.D.Disk.seen c.args.self.now c.self.inside.centre c.gather-end.new.centre c.self.inside.journal c.gather-end.new.journal c.self.inside.at_open c.self.view_is c.gather-end.ensures.same c.args.caller c.args.batch.now c.gather-end.new.set.bodies c.gather-end.new.set.dones c.gather-end.ensures.taken c.in_default.ensures.up (stored c.gather-end.new.centre c.write_all.new.journal c.self.inside.at_open) c.write_all.ensures.any_moment c.write_all.ensures.met
    c.gather-end.new.batch (length c.gather-end.new.set.dones) c.stop.result c.gather-end.ensures.within c.gather-end.ensures.off (λ _. refl) b h w

-- The disk failed.

pub invariant_of-self-in-Err-write_all : goal.invariant_of-self-in-Err-write_all
invariant_of-self-in-Err-write_all g c =
    let later = later_then g.D.Disk.seen c.args.self.now c.self.inside.centre c.gather-end.new.centre c.self.inside.journal c.gather-end.new.journal c.self.inside.at_open c.self.view_is c.gather-end.ensures.same c.args.caller c.args.batch.now c.gather-end.new.set.bodies c.gather-end.new.set.dones c.gather-end.ensures.taken c.in_default.ensures.up c.self.invariant.later in
    record {
      some = λ up. absurd (up c.in-Err-write_all.ensures.down.1);
      few = c.gather-end.ensures.taken.bound c.self.invariant.few;
      later = omega (arith, later, c.write_all.ensures.later);
    }

pub returns-in-Err-write_all-clause-together : goal.returns-in-Err-write_all-clause-together
returns-in-Err-write_all-clause-together g c b h w up =
    all_together g.D.Disk.seen c.args.self.now c.self.inside.centre c.gather-end.new.centre c.self.inside.journal c.gather-end.new.journal c.self.inside.at_open c.self.view_is c.gather-end.ensures.same c.args.caller c.args.batch.now c.gather-end.new.set.bodies c.gather-end.new.set.dones c.gather-end.ensures.taken c.in_default.ensures.up (stored c.gather-end.new.centre c.write_all.new.journal c.self.inside.at_open) c.write_all.ensures.any_moment c.write_all.ensures.met
    c.gather-end.new.batch (length c.stopped-in-Err-write_all.result.done) c.stopped-in-Err-write_all.result.stop c.gather-end.ensures.within c.gather-end.ensures.off
    (always_down c.stopped-in-Err-write_all.result.stop c.self.inside.at_open (g.D.Disk.seen c.write_all.new.journal.disk).faults
    (c.stopped-in-Err-write_all.ensures.stop ∙ ap Some c.in-Err-write_all.ensures.down.0)) b h w

pub returns-in-Err-write_all-clause-full : goal.returns-in-Err-write_all-clause-full
returns-in-Err-write_all-clause-full g c =
    full_broken g.D.Disk.seen c.args.self.now c.gather-end.new.journal (same_from g.D.Disk.seen c.args.self.now c.self.inside.centre c.gather-end.new.centre c.self.inside.journal c.gather-end.new.journal c.self.inside.at_open c.self.view_is c.gather-end.ensures.same) c.args.caller c.gather-end.new.set.bodies c.gather-end.ensures.room
    c.args.batch.now (length c.gather-end.new.set.dones) c.stopped-in-Err-write_all.result.stop (bodies_were g.D.Disk.seen c.args.self.now c.self.inside.centre c.gather-end.new.centre c.self.inside.journal c.gather-end.new.journal c.self.inside.at_open c.self.view_is c.gather-end.ensures.same c.args.caller c.args.batch.now c.gather-end.new.set.bodies c.gather-end.new.set.dones c.gather-end.ensures.taken c.in_default.ensures.up)
    (λ none. up_with g.D.Disk.seen c.args.self.now c.self.inside.centre c.gather-end.new.centre c.self.inside.journal c.gather-end.new.journal c.self.inside.at_open c.self.view_is c.gather-end.ensures.same c.in_default.ensures.up
    (subst (λ (x : Journal g.row.D.Denot). Rose c.self.inside.at_open (g.D.Disk.seen x.disk).faults)
    (c.write_all.ensures.none (c.gather-end.ensures.none (no_length c.gather-end.new.set.dones none))) c.in-Err-write_all.ensures.down.1))
