use Rattle.std.proofs.Common.{◌≤◌, length}
use Rattle.arc_io.specs.Areas.{Areas, part}
use Rattle.arc_io.specs.Crashes.{IsAfterWrite, TornIn}
use Rattle.arc_io.proofs.Moments.{started, goes_on}
use Rattle.disk_journal.specs.Turning.{IsBeside}
use Rattle.disk_journal.proofs.Steps.{becomes_map}
use Rattle.disk_journal.proofs.Turns.{after_torn, beside_torn, beside_same}
use Rattle.disk_journal.proofs.turn.put_beside.Goals as goal

pub returns-clause-beside : goal.returns-clause-beside
returns-clause-beside g c =
    let area = c.args.area in
    let at = c.args.at in
    let bytes = c.args.bytes.now in
    let disk = c.args.disk.now in
    let old = g.D.Disk.seen disk in
    let new = g.D.Disk.seen c.write_at.new.self in
    let P : Areas → Type 0 = λ x. (d : Areas) × (g.D.Disk.seen disk).may_leave d × IsBeside area d x in
    let torn = λ (d : Areas) (x : Areas) (t : TornIn area at (length bytes) d x). beside_torn area at (length bytes) d x c.requires.beside t in
    record {
      told = becomes_map (IsAfterWrite c.write_at.result area at bytes) (IsBeside area) (λ s. at ≤ length (part area s)) old.told new.told c.write_at.ensures.written c.requires.place
          (λ s t within after. torn s t (after_torn c.write_at.result area at bytes s t within after));
      crash = λ x now. let d = c.write_at.ensures.crash x now in (d.0, d.1, torn d.0 x d.2);
      any_moment = goes_on old old new P (started old P (λ x left. (x, g.met.D.Disk.only_now disk x left, beside_same area x))) c.write_at.ensures.time
          (λ x now. let d = c.write_at.ensures.crash x now in (d.0, d.1, torn d.0 x d.2));
    }
