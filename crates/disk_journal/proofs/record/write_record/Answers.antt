use Rattle.std.proofs.Common.{◌≡◌, ◌≤◌, ◌+◌, ◌-◌, [], ◌∷◌, ◌++◌, ℕ, List, Option, length, arith}
use Rattle.std.specs.Prelude.{IfSome}
use Rattle.arc_io.specs.Areas.{Areas, part}
use Rattle.arc_io.specs.Disks.{DiskSeen}
use Rattle.arc_io.specs.Crashes.{TornIn, IsWritten}
use Rattle.arc_io.specs.declared.disk.Area.{Area}
use Rattle.disk_journal.specs.Journal.{IsAtRestIn, HasBodies, Keeps}
use Rattle.disk_journal.specs.Standing.{chosen, StandsForSet}
use Rattle.disk_journal.proofs.Appends.{IsStagedIn, IsFlatStaged, flat_within, flat_step, flat_gate, flat_last, first_stands, staged_step, second_step, last_step}
use Rattle.disk_journal.proofs.Behind.{torn_aside, asides, spares_other, spares_behind}
use Rattle.disk_journal.proofs.Gates.{on_ok, on_ok_both, size-least}
use Rattle.disk_journal.proofs.Steps.{becomes_map, becomes_last, told_after, if_map, moments, moments_then, settled_after, torn_changes}
use Rattle.disk_journal.proofs.record.write_record.Goals as goal

-- the area that was chosen
was_chosen : (area : Area) (version : ℕ) (summary : Option (List ℕ)) (bodies : List (List ℕ)) (disk : DiskSeen) → Keeps disk area version summary bodies → IfSome disk.told (λ s. chosen s ≡ area)
was_chosen area version summary bodies disk h = if_map (IsAtRestIn area version summary bodies) (λ s. chosen s ≡ area) disk.told h.file (λ s at. at.chosen_is)

pub write_synced-requires-clause-place : goal.write_synced-requires-clause-place
write_synced-requires-clause-place g c =
    let h = c.requires.works in
    let area = c.args.area in
    if_map (HasBodies area h.0 h.1) (λ s. c.args.used ≤ length (part area s)) (g.D.Disk.seen c.args.disk.now).told h.3
    (flat_within area h.0 h.1 c.args.laid.now c.args.used h.2)

pub overflow_sub-used : goal.overflow_sub-used
overflow_sub-used g c = let h = c.requires.works in omega (arith, h.2, size-least h.1)

pub write_synced-requires-2-clause-place : goal.write_synced-requires-2-clause-place
write_synced-requires-2-clause-place g c =
    let h = c.requires.works in
    let area = c.args.area in
    let used = c.args.used in
    let laid = c.args.laid.now in
    told_after (IsWritten area used laid) (HasBodies area h.0 h.1) (λ s. used - 1 ≤ length (part area s)) _ _ c.in_ok-write_synced.ensures.written h.3
    (λ s t at w. flat_gate area h.0 h.1 laid used h.2 t
    (flat_step area h.0 h.1 laid used h.2 s t at w))

pub returns-clause-rests : goal.returns-clause-rests
returns-clause-rests g c = on_ok c.write_synced-2.result c.write_synced-2.ensures.written (λ written version bodies further are is file.
    let area = c.args.area in
    let used = c.args.used in
    let laid = c.args.laid.now in
    let Mid : Areas → Type 0 = IsFlatStaged area version bodies laid used is in
    told_after (IsWritten area (used - 1) (1 ∷ [])) Mid (HasBodies area version (bodies ++ further)) _ _ written
    (told_after (IsWritten area used laid) (HasBodies area version bodies) Mid _ _ c.in_ok-write_synced.ensures.written file
    (flat_step area version bodies laid used is))
    (flat_last area version bodies laid used is further are))

pub returns-clause-settled : goal.returns-clause-settled
returns-clause-settled g c = on_ok c.write_synced-2.result c.write_synced-2.ensures.durable (λ durable.
    let area = c.args.area in
    let used = c.args.used in
    let n = length c.args.laid.now in
    let old = g.D.Disk.seen c.args.disk.now in
    let mid = g.D.Disk.seen c.write_synced.new.disk in
    let new = g.D.Disk.seen c.write_synced-2.new.disk in
    let one = torn_changes area used n old mid c.write_synced.ensures.torn c.write_synced.ensures.crash c.write_synced.ensures.any_moment in
    let two = torn_changes area (used - 1) 1 mid new c.write_synced-2.ensures.torn c.write_synced-2.ensures.crash c.write_synced-2.ensures.any_moment in
    let settled = settled_after area (TornIn area used n) old mid (λ s t x. x.1) c.requires.settled one c.in_ok-write_synced.ensures.durable in
    settled_after area (TornIn area (used - 1) 1) mid new (λ s t x. x.1) settled two durable)

pub returns-in_err-write_synced-clause-told : goal.returns-in_err-write_synced-clause-told
returns-in_err-write_synced-clause-told g c version summary bodies further are is h more =
    let area = c.args.area in
    let used = c.args.used in
    let laid = c.args.laid.now in
    becomes_map (TornIn area used (length laid)) (λ s t. StandsForSet version summary bodies further t) (IsAtRestIn area version summary bodies) _ _ c.write_synced.ensures.torn h.file
    (first_stands area version summary bodies laid used h.distinct is further are more (length laid))

pub returns-clause-told : goal.returns-clause-told
returns-clause-told g c version summary bodies further are is h more =
    let area = c.args.area in
    let used = c.args.used in
    let laid = c.args.laid.now in
    let file = told_after (IsWritten area used laid) (IsAtRestIn area version summary bodies) (IsStagedIn area version summary bodies laid) _ _ c.in_ok-write_synced.ensures.written h.file
    (staged_step area version summary bodies laid used h.distinct is) in
    becomes_last (IsWritten area used laid) (TornIn area (used - 1) 1) (IsStagedIn area version summary bodies laid) (StandsForSet version summary bodies further) _ _ _
    c.in_ok-write_synced.ensures.written c.write_synced-2.ensures.torn file
    (second_step area version summary bodies laid used h.distinct is further are more)

pub returns-in_err-write_synced-clause-any_moment : goal.returns-in_err-write_synced-clause-any_moment
returns-in_err-write_synced-clause-any_moment g c version summary bodies further are is h more =
    let area = c.args.area in
    let used = c.args.used in
    let laid = c.args.laid.now in
    let n = length laid in
    let old = g.D.Disk.seen c.args.disk.now in
    let mid = g.D.Disk.seen c.write_synced.new.disk in
    moments (TornIn area used n) (IsAtRestIn area version summary bodies) (StandsForSet version summary bodies further) old mid h.settled h.file
    (torn_changes area used n old mid c.write_synced.ensures.torn c.write_synced.ensures.crash c.write_synced.ensures.any_moment)
    (first_stands area version summary bodies laid used h.distinct is further are more n)

pub returns-clause-any_moment : goal.returns-clause-any_moment
returns-clause-any_moment g c version summary bodies further are is h more =
    let area = c.args.area in
    let used = c.args.used in
    let laid = c.args.laid.now in
    let n = length laid in
    let old = g.D.Disk.seen c.args.disk.now in
    let mid = g.D.Disk.seen c.write_synced.new.disk in
    let new = g.D.Disk.seen c.write_synced-2.new.disk in
    let one = torn_changes area used n old mid c.write_synced.ensures.torn c.write_synced.ensures.crash c.write_synced.ensures.any_moment in
    let two = torn_changes area (used - 1) 1 mid new c.write_synced-2.ensures.torn c.write_synced-2.ensures.crash c.write_synced-2.ensures.any_moment in
    let file = told_after (IsWritten area used laid) (IsAtRestIn area version summary bodies) (IsStagedIn area version summary bodies laid) old.told mid.told c.in_ok-write_synced.ensures.written h.file
    (staged_step area version summary bodies laid used h.distinct is) in
    let settled = settled_after area (TornIn area used n) old mid (λ s t x. x.1) h.settled one c.in_ok-write_synced.ensures.durable in
    moments_then (StandsForSet version summary bodies further) old mid new
    (moments (TornIn area used n) (IsAtRestIn area version summary bodies) (StandsForSet version summary bodies further) old mid h.settled h.file one
    (first_stands area version summary bodies laid used h.distinct is further are more n))
    (moments (TornIn area (used - 1) 1) (IsStagedIn area version summary bodies laid) (StandsForSet version summary bodies further) mid new settled file two
    (second_step area version summary bodies laid used h.distinct is further are more))

pub returns-clause-added : goal.returns-clause-added
returns-clause-added g c = on_ok_both c.write_synced-2.result c.write_synced-2.ensures.written c.write_synced-2.ensures.durable (λ written durable version summary bodies further are is h more.
    let area = c.args.area in
    let used = c.args.used in
    let laid = c.args.laid.now in
    let n = length laid in
    let old = g.D.Disk.seen c.args.disk.now in
    let mid = g.D.Disk.seen c.write_synced.new.disk in
    let new = g.D.Disk.seen c.write_synced-2.new.disk in
    let one = torn_changes area used n old mid c.write_synced.ensures.torn c.write_synced.ensures.crash c.write_synced.ensures.any_moment in
    let two = torn_changes area (used - 1) 1 mid new c.write_synced-2.ensures.torn c.write_synced-2.ensures.crash c.write_synced-2.ensures.any_moment in
    let file = told_after (IsWritten area used laid) (IsAtRestIn area version summary bodies) (IsStagedIn area version summary bodies laid) old.told mid.told c.in_ok-write_synced.ensures.written h.file
    (staged_step area version summary bodies laid used h.distinct is) in
    let settled = settled_after area (TornIn area used n) old mid (λ s t x. x.1) h.settled one c.in_ok-write_synced.ensures.durable in
    record {
      distinct = more;
      file = told_after (IsWritten area (used - 1) (1 ∷ [])) (IsStagedIn area version summary bodies laid) (IsAtRestIn area version summary (bodies ++ further)) mid.told new.told written file
          (last_step area version summary bodies laid used h.distinct is further are more);
      settled = settled_after area (TornIn area (used - 1) 1) mid new (λ s t x. x.1) settled two durable;
    })

pub returns-in_err-write_synced-clause-spared : goal.returns-in_err-write_synced-clause-spared
returns-in_err-write_synced-clause-spared g c version summary bodies h =
    let area = c.args.area in
    let used = c.args.used in
    let n = length c.args.laid.now in
    let m = used + length c.args.laid.now in
    let old = g.D.Disk.seen c.args.disk.now in
    let mid = g.D.Disk.seen c.write_synced.new.disk in
    let one = torn_changes area used n old mid c.write_synced.ensures.torn c.write_synced.ensures.crash c.write_synced.ensures.any_moment in
    spares_other area m old mid h.settled (was_chosen area version summary bodies old h)
    (torn_aside area used n m old mid (omega arith) one)

pub returns-in_err-write_synced-clause-behind : goal.returns-in_err-write_synced-clause-behind
returns-in_err-write_synced-clause-behind g c version summary bodies h =
    let area = c.args.area in
    let used = c.args.used in
    let n = length c.args.laid.now in
    let m = used + length c.args.laid.now in
    let old = g.D.Disk.seen c.args.disk.now in
    let mid = g.D.Disk.seen c.write_synced.new.disk in
    let one = torn_changes area used n old mid c.write_synced.ensures.torn c.write_synced.ensures.crash c.write_synced.ensures.any_moment in
    spares_behind area m old mid h.settled (was_chosen area version summary bodies old h)
    (torn_aside area used n m old mid (omega arith) one)

pub returns-clause-spared : goal.returns-clause-spared
returns-clause-spared g c version summary bodies h =
    let area = c.args.area in
    let used = c.args.used in
    let n = length c.args.laid.now in
    let m = used + length c.args.laid.now in
    let old = g.D.Disk.seen c.args.disk.now in
    let mid = g.D.Disk.seen c.write_synced.new.disk in
    let new = g.D.Disk.seen c.write_synced-2.new.disk in
    let one = torn_changes area used n old mid c.write_synced.ensures.torn c.write_synced.ensures.crash c.write_synced.ensures.any_moment in
    let two = torn_changes area (used - 1) 1 mid new c.write_synced-2.ensures.torn c.write_synced-2.ensures.crash c.write_synced-2.ensures.any_moment in
    spares_other area m old new h.settled (was_chosen area version summary bodies old h)
    (asides area m old mid new (torn_aside area used n m old mid (omega arith) one)
    (torn_aside area (used - 1) 1 m mid new (omega (arith, c.requires.works.2, size-least c.requires.works.1)) two))

pub returns-clause-behind : goal.returns-clause-behind
returns-clause-behind g c version summary bodies h =
    let area = c.args.area in
    let used = c.args.used in
    let n = length c.args.laid.now in
    let m = used + length c.args.laid.now in
    let old = g.D.Disk.seen c.args.disk.now in
    let mid = g.D.Disk.seen c.write_synced.new.disk in
    let new = g.D.Disk.seen c.write_synced-2.new.disk in
    let one = torn_changes area used n old mid c.write_synced.ensures.torn c.write_synced.ensures.crash c.write_synced.ensures.any_moment in
    let two = torn_changes area (used - 1) 1 mid new c.write_synced-2.ensures.torn c.write_synced-2.ensures.crash c.write_synced-2.ensures.any_moment in
    spares_behind area m old new h.settled (was_chosen area version summary bodies old h)
    (asides area m old mid new (torn_aside area used n m old mid (omega arith) one)
    (torn_aside area (used - 1) 1 m mid new (omega (arith, c.requires.works.2, size-least c.requires.works.1)) two))
