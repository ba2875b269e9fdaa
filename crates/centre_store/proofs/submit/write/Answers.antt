use Rattle.std.proofs.Common.{◌≡◌, ◌⊎◌, ◌+◌, List, ℕ, length, ap, rules, subst, sym, ◌∙◌, arith}
use Rattle.std.specs.Prelude.{Err}
use Rattle.arc_data.specs.declared.event.Event.{Event}
use Rattle.centre_core.specs.declared.hall.Stop.TheVariants.{Memory, Full}
use Rattle.disk_journal.specs.Records.{MayHave}
use Rattle.disk_journal.specs.declared.journal.Journal.{Journal}
use Rattle.event_codec.specs.Spelling.{spelling}
use Rattle.centre_store.specs.Bodies.{need_of}
use Rattle.centre_store.specs.Given.{summed_size}
use Rattle.centre_store.specs.StoreHalls.{is_told}
use Rattle.centre_store.specs.Writes.{IsOverAt, IsOverThen, IsUnwritten}
use Rattle.centre_store.proofs.Bodies.{body_size}
use Rattle.centre_store.proofs.Holding.{recorded_works, recorded_or, recorded_there, still_stands}
use Rattle.centre_store.proofs.Ordered.{one_of_stops}
use Rattle.centre_store.proofs.Written.{body_is, all_same, some_same, over_same, then_same, unwritten_same, run_from, run_either}
use Rattle.centre_store.proofs.Written.{write_added, write_moments, write_met, write_numbers, written_over}
use Rattle.centre_store.proofs.Readable.{spared_tells}
use Rattle.centre_store.proofs.submit.write.Goals as goal

pub make_room-requires-clause-had : goal.make_room-requires-clause-had
make_room-requires-clause-had g c =
    some_same g.D.Disk.seen c.args.journal.now c.reserve.new.self c.args.centre.now c.reserve.ensures.same c.requires.had

pub append-requires-clause-works : goal.append-requires-clause-works
append-requires-clause-works g c =
    let had = some_same g.D.Disk.seen c.args.journal.now c.reserve.new.self c.args.centre.now c.reserve.ensures.same c.requires.had in
    recorded_works g.D.Disk.seen c.make_room.new.journal had.base had.history (c.in_ok-make_room.ensures.has had.base had.history had.all)

pub append-requires-clause-size : goal.append-requires-clause-size
append-requires-clause-size g c =
    let is = body_is _ _ _ c.args.ready.now.event _ c.args.ready.now.at c.deref.ensures.value c.in-Ok.ensures.spelled c.event.ensures c.at.ensures.at in
    subst (λ (l : List ℕ). MayHave (length l)) (sym is) (body_size c.args.ready.now.event c.args.ready.now.at c.requires.formed)

-- Nothing was written.

pub returns-in_default-clause-any_moment : goal.returns-in_default-clause-any_moment
returns-in_default-clause-any_moment g c b h all =
    run_either g.D.Disk.seen c.args.journal.now.disk c.args.journal.now.disk b h (spelling c.args.ready.now.event c.args.ready.now.at)
    (still_stands g.D.Disk.seen c.args.journal.now b h g.met.D.Disk.only_now all.holds)

pub returns-in_default-clause-met : goal.returns-in_default-clause-met
returns-in_default-clause-met g c b h all =
    recorded_or (g.D.Disk.seen c.args.journal.now.disk) b h (spelling c.args.ready.now.event c.args.ready.now.at)
    (recorded_there g.D.Disk.seen c.args.journal.now b h all.holds)

pub returns-in_default-reserve-clause-any_moment : goal.returns-in_default-reserve-clause-any_moment
returns-in_default-reserve-clause-any_moment g c b h all =
    let same = c.reserve.ensures.same in
    let whole = all_same g.D.Disk.seen c.args.journal.now c.reserve.new.self c.args.centre.now same b h all in
    run_either g.D.Disk.seen c.args.journal.now.disk c.reserve.new.self.disk b h (spelling c.args.ready.now.event c.args.ready.now.at)
    (run_from g.D.Disk.seen c.args.journal.now c.reserve.new.self c.reserve.new.self.disk _ same
    (still_stands g.D.Disk.seen c.reserve.new.self b h g.met.D.Disk.only_now whole.holds))

pub returns-in_default-reserve-clause-met : goal.returns-in_default-reserve-clause-met
returns-in_default-reserve-clause-met g c b h all =
    let whole = all_same g.D.Disk.seen c.args.journal.now c.reserve.new.self c.args.centre.now c.reserve.ensures.same b h all in
    recorded_or (g.D.Disk.seen c.reserve.new.self.disk) b h (spelling c.args.ready.now.event c.args.ready.now.at)
    (recorded_there g.D.Disk.seen c.reserve.new.self b h whole.holds)

-- No room was made.

pub returns-in_err-make_room-clause-any_moment : goal.returns-in_err-make_room-clause-any_moment
returns-in_err-make_room-clause-any_moment g c b h all =
    let same = c.reserve.ensures.same in
    let whole = all_same g.D.Disk.seen c.args.journal.now c.reserve.new.self c.args.centre.now same b h all in
    run_either g.D.Disk.seen c.args.journal.now.disk c.make_room.new.journal.disk b h (spelling c.args.ready.now.event c.args.ready.now.at)
    (run_from g.D.Disk.seen c.args.journal.now c.reserve.new.self c.make_room.new.journal.disk _ same (c.make_room.ensures.any_moment b h whole))

pub returns-in_err-make_room-clause-met : goal.returns-in_err-make_room-clause-met
returns-in_err-make_room-clause-met g c b h all =
    let whole = all_same g.D.Disk.seen c.args.journal.now c.reserve.new.self c.args.centre.now c.reserve.ensures.same b h all in
    recorded_or (g.D.Disk.seen c.make_room.new.journal.disk) b h (spelling c.args.ready.now.event c.args.ready.now.at) (c.make_room.ensures.met b h whole)

pub returns-in-Ok-append-clause-any_moment : goal.returns-in-Ok-append-clause-any_moment
returns-in-Ok-append-clause-any_moment g c b h all =
    let is = body_is _ _ _ c.args.ready.now.event _ c.args.ready.now.at c.deref.ensures.value c.in-Ok.ensures.spelled c.event.ensures c.at.ensures.at in
    write_moments g.D.Disk.seen c.args.journal.now c.reserve.new.self c.make_room.new.journal c.args.centre.now c.reserve.ensures.same b h
    (c.in_ok-make_room.ensures.has b h) all c.args.ready.now _ is c.append.new.self.disk (c.make_room.ensures.any_moment b h) c.append.ensures.any_moment

pub returns-in-Ok-append-clause-met : goal.returns-in-Ok-append-clause-met
returns-in-Ok-append-clause-met g c b h all =
    let is = body_is _ _ _ c.args.ready.now.event _ c.args.ready.now.at c.deref.ensures.value c.in-Ok.ensures.spelled c.event.ensures c.at.ensures.at in
    write_met g.D.Disk.seen c.args.journal.now c.reserve.new.self c.make_room.new.journal c.args.centre.now c.reserve.ensures.same b h
    (c.in_ok-make_room.ensures.has b h) all c.args.ready.now _ is c.append.new.self.disk g.met.D.Disk.counts_now c.append.ensures.any_moment c.append.ensures.told

pub returns-in-Err-DiskFault-clause-any_moment : goal.returns-in-Err-DiskFault-clause-any_moment
returns-in-Err-DiskFault-clause-any_moment g c b h all =
    let is = body_is _ _ _ c.args.ready.now.event _ c.args.ready.now.at c.deref.ensures.value c.in-Ok.ensures.spelled c.event.ensures c.at.ensures.at in
    write_moments g.D.Disk.seen c.args.journal.now c.reserve.new.self c.make_room.new.journal c.args.centre.now c.reserve.ensures.same b h
    (c.in_ok-make_room.ensures.has b h) all c.args.ready.now _ is c.append.new.self.disk (c.make_room.ensures.any_moment b h) c.append.ensures.any_moment

pub returns-in-Err-DiskFault-clause-met : goal.returns-in-Err-DiskFault-clause-met
returns-in-Err-DiskFault-clause-met g c b h all =
    let is = body_is _ _ _ c.args.ready.now.event _ c.args.ready.now.at c.deref.ensures.value c.in-Ok.ensures.spelled c.event.ensures c.at.ensures.at in
    write_met g.D.Disk.seen c.args.journal.now c.reserve.new.self c.make_room.new.journal c.args.centre.now c.reserve.ensures.same b h
    (c.in_ok-make_room.ensures.has b h) all c.args.ready.now _ is c.append.new.self.disk g.met.D.Disk.counts_now c.append.ensures.any_moment c.append.ensures.told

pub returns-in-Ok-append-clause-added : goal.returns-in-Ok-append-clause-added
returns-in-Ok-append-clause-added g c b h caller all =
    let is = body_is _ _ _ c.args.ready.now.event _ c.args.ready.now.at c.deref.ensures.value c.in-Ok.ensures.spelled c.event.ensures c.at.ensures.at in
    write_added g.D.Disk.seen c.args.journal.now c.reserve.new.self c.make_room.new.journal c.args.centre.now c.reserve.ensures.same b h
    (c.in_ok-make_room.ensures.has b h) all c.args.ready.now _ is c.append.new.self caller c.requires.recorded c.in-Ok-append.ensures.added

pub returns-in-Ok-append-clause-written : goal.returns-in-Ok-append-clause-written
returns-in-Ok-append-clause-written g c b h all =
    let is = body_is _ _ _ c.args.ready.now.event _ c.args.ready.now.at c.deref.ensures.value c.in-Ok.ensures.spelled c.event.ensures c.at.ensures.at in
    let wanted : 5 + c.len.result ≡ need_of c.args.ready.now.event =
    omega (arith, c.len.ensures, ap length c.in-Ok.ensures.spelled, ap (λ (x : Event). length (spelling x c.at.result)) c.event.ensures) in
    write_numbers g.D.Disk.seen c.args.journal.now c.reserve.new.self c.make_room.new.journal c.args.centre.now c.reserve.ensures.same b h
    (c.in_ok-make_room.ensures.has b h) all c.args.ready.now _ is c.append.new.self _ wanted c.in-Ok-append.ensures.added
    c.in_ok-make_room.ensures.still (c.in_ok-make_room.ensures.turned b h)

pub returns-in_err-make_room-clause-stop : goal.returns-in_err-make_room-clause-stop
returns-in_err-make_room-clause-stop g c =
    let wanted : 5 + c.len.result ≡ need_of c.args.ready.now.event =
    omega (arith, c.len.ensures, ap length c.in-Ok.ensures.spelled, ap (λ (x : Event). length (spelling x c.at.result)) c.event.ensures) in
    let stop = unwritten_same g.D.Disk.seen c.args.journal.now c.reserve.new.self c.args.centre.now c.reserve.ensures.same c.args.at_open _ c.make_room.new.journal
    c.in_err-make_room.field-0.0 c.in_err-make_room.ensures.stop in
    let said : IsUnwritten g.D.Disk.seen c.args.at_open c.args.journal.now c.make_room.new.journal c.args.centre.now (need_of c.args.ready.now.event) c.in_err-make_room.field-0.0 =
    subst (λ (n : ℕ). IsUnwritten g.D.Disk.seen c.args.at_open c.args.journal.now c.make_room.new.journal c.args.centre.now n c.in_err-make_room.field-0.0) wanted stop in
    search rules

pub returns-in_err-make_room-clause-full : goal.returns-in_err-make_room-clause-full
returns-in_err-make_room-clause-full g c b h all over then =
    let wanted : 5 + c.len.result ≡ need_of c.args.ready.now.event =
    omega (arith, c.len.ensures, ap length c.in-Ok.ensures.spelled, ap (λ (x : Event). length (spelling x c.at.result)) c.event.ensures) in
    let same = c.reserve.ensures.same in
    let whole = all_same g.D.Disk.seen c.args.journal.now c.reserve.new.self c.args.centre.now same b h all in
    let made = c.make_room.ensures.full b h whole
    (over_same g.D.Disk.seen c.args.journal.now c.reserve.new.self c.args.centre.now same _ (subst (λ (n : ℕ). IsOverAt c.args.journal.now n) (sym wanted) over))
    (then_same g.D.Disk.seen c.args.journal.now c.reserve.new.self c.args.centre.now same _ _ (subst (λ (n : ℕ). IsOverThen c.args.journal.now (summed_size b h) n) (sym wanted) then)) in
    let result = c.from_residual.result in
    let on : result ≡ Err c.in_err-make_room.field-0.0 = search rules in
    one_of_stops c.make_room.result result c.in_err-make_room.field-0.0 Memory (Full (summed_size b h) (need_of c.args.ready.now.event) 0)
    c.in_err-make_room.was on
    (subst (λ (n : ℕ). (c.make_room.result ≡ Err Memory) ⊎ (c.make_room.result ≡ Err (Full (summed_size b h) n 0))) wanted made)

pub returns-in-Ok-append-clause-full : goal.returns-in-Ok-append-clause-full
returns-in-Ok-append-clause-full g c b h all over then =
    let wanted : 5 + c.len.result ≡ need_of c.args.ready.now.event =
    omega (arith, c.len.ensures, ap length c.in-Ok.ensures.spelled, ap (λ (x : Event). length (spelling x c.at.result)) c.event.ensures) in
    let same = c.reserve.ensures.same in
    let whole = all_same g.D.Disk.seen c.args.journal.now c.reserve.new.self c.args.centre.now same b h all in
    let made = c.make_room.ensures.full b h whole
    (over_same g.D.Disk.seen c.args.journal.now c.reserve.new.self c.args.centre.now same _ (subst (λ (n : ℕ). IsOverAt c.args.journal.now n) (sym wanted) over))
    (then_same g.D.Disk.seen c.args.journal.now c.reserve.new.self c.args.centre.now same _ _ (subst (λ (n : ℕ). IsOverThen c.args.journal.now (summed_size b h) n) (sym wanted) then)) in
    absurd (written_over c.make_room.result c.in_ok-make_room.was made)

pub returns-in-Err-DiskFault-clause-full : goal.returns-in-Err-DiskFault-clause-full
returns-in-Err-DiskFault-clause-full g c b h all over then =
    let wanted : 5 + c.len.result ≡ need_of c.args.ready.now.event =
    omega (arith, c.len.ensures, ap length c.in-Ok.ensures.spelled, ap (λ (x : Event). length (spelling x c.at.result)) c.event.ensures) in
    let same = c.reserve.ensures.same in
    let whole = all_same g.D.Disk.seen c.args.journal.now c.reserve.new.self c.args.centre.now same b h all in
    let made = c.make_room.ensures.full b h whole
    (over_same g.D.Disk.seen c.args.journal.now c.reserve.new.self c.args.centre.now same _ (subst (λ (n : ℕ). IsOverAt c.args.journal.now n) (sym wanted) over))
    (then_same g.D.Disk.seen c.args.journal.now c.reserve.new.self c.args.centre.now same _ _ (subst (λ (n : ℕ). IsOverThen c.args.journal.now (summed_size b h) n) (sym wanted) then)) in
    absurd (written_over c.make_room.result c.in_ok-make_room.was made)

pub returns-in-Ok-append-clause-tells : goal.returns-in-Ok-append-clause-tells
returns-in-Ok-append-clause-tells g c =
    let had = some_same g.D.Disk.seen c.args.journal.now c.reserve.new.self c.args.centre.now c.reserve.ensures.same c.requires.had in
    let holds = c.in_ok-make_room.ensures.has had.base had.history had.all in
    spared_tells (c.append.ensures.spared 2 holds.0 holds.1 holds.3) ∙ c.make_room.ensures.tells
    ∙ ap (λ (x : Journal g.row.D.Denot). is_told (g.D.Disk.seen x.disk).told) c.reserve.ensures.same

pub returns-in-Err-DiskFault-clause-tells : goal.returns-in-Err-DiskFault-clause-tells
returns-in-Err-DiskFault-clause-tells g c =
    let had = some_same g.D.Disk.seen c.args.journal.now c.reserve.new.self c.args.centre.now c.reserve.ensures.same c.requires.had in
    let holds = c.in_ok-make_room.ensures.has had.base had.history had.all in
    spared_tells (c.append.ensures.spared 2 holds.0 holds.1 holds.3) ∙ c.make_room.ensures.tells
    ∙ ap (λ (x : Journal g.row.D.Denot). is_told (g.D.Disk.seen x.disk).told) c.reserve.ensures.same
