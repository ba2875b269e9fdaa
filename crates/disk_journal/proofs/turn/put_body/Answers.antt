use Rattle.std.proofs.Common.{◌≡◌, ◌≤◌, ◌+◌, [], ◌∷◌, ◌++◌, ℕ, List, Option, length, refl, ap, sym, subst, arith, length-append}
use Rattle.std.specs.Prelude.{IfSome}
use Rattle.std.specs.Int.{to_be_bytes, w32}
use Rattle.arc_io.specs.Areas.{Areas, part}
use Rattle.arc_io.specs.Disks.{DiskSeen}
use Rattle.arc_io.specs.Crashes.{Becomes, IsWritten}
use Rattle.arc_io.specs.declared.disk.Area.{Area}
use Rattle.disk_journal.specs.Records.{head_of}
use Rattle.disk_journal.specs.Turning.{Changes, IsBeside, IsShut, IsStaged}
use Rattle.disk_journal.proofs.Gates.{on_ok}
use Rattle.disk_journal.proofs.Steps.{told_after, if_map, changes_then, quiet_changes}
use Rattle.disk_journal.proofs.Turns.{IsLaid, laid_head, laid_more, laid_staged, beside_same, beside_then}
use Rattle.disk_journal.proofs.turn.put_body.Goals as goal

module _ (area : Area) (zero one two three : DiskSeen) (prefix body : List ℕ) (size : ℕ) (sized : size ≡ length body) (spelled : prefix ≡ to_be_bytes w32 (length body))
    (shut : IfSome zero.told (λ t. IsShut (part area t))) (first : Becomes zero.told one.told (IsWritten area 0 (head_of 2)))
    (second : Becomes one.told two.told (IsWritten area 17 prefix)) (third : Becomes two.told three.told (IsWritten area 21 body)) where
  four : length prefix ≡ 4
  four = omega (arith, ap length spelled)

  body_laid : IfSome three.told (λ t. IsLaid (prefix ++ body) (part area t))
  body_laid =
      told_after (IsWritten area 21 body) (λ t. IsLaid prefix (part area t)) (λ t. IsLaid (prefix ++ body) (part area t)) two.told three.told third
      (told_after (IsWritten area 17 prefix) (λ t. IsLaid [] (part area t)) (λ t. IsLaid prefix (part area t)) one.told two.told second
      (told_after (IsWritten area 0 (head_of 2)) (λ t. IsShut (part area t)) (λ t. IsLaid [] (part area t)) zero.told one.told first shut (laid_head area))
      (λ s t laid written. laid_more area 17 [] prefix s t (omega arith) laid written))
      (λ s t laid written. laid_more area 21 prefix body s t (omega (arith, four)) laid written)

  at_end : 21 + size ≡ 17 + length (prefix ++ body)
  at_end = omega (arith, sized, four, length-append prefix body)

  end_place : IfSome three.told (λ t. 21 + size ≤ length (part area t))
  end_place = if_map (λ t. IsLaid (prefix ++ body) (part area t)) (λ t. 21 + size ≤ length (part area t)) three.told body_laid (λ t laid. omega (arith, at_end, laid.long))

  all_staged : (last : DiskSeen) → Becomes three.told last.told (IsWritten area (21 + size) (0 ∷ [])) → IfSome last.told (λ t. IsStaged body (part area t))
  all_staged last fourth =
      told_after (IsWritten area (21 + size) (0 ∷ [])) (λ t. IsLaid (prefix ++ body) (part area t)) (λ t. IsStaged body (part area t)) three.told last.told fourth body_laid
      (λ s t laid written. laid_staged body (part area t)
      (subst (λ (p : List ℕ). IsLaid ((p ++ body) ++ 0 ∷ []) (part area t)) spelled (laid_more area (21 + size) (prefix ++ body) (0 ∷ []) s t at_end laid written)))

twice : (area : Area) (zero one two : DiskSeen) → Changes (IsBeside area) zero one → Changes (IsBeside area) one two → Changes (IsBeside area) zero two
twice area zero one two = changes_then (IsBeside area) zero one two (beside_then area)

pub returns-in_err-put_beside-2-clause-beside : goal.returns-in_err-put_beside-2-clause-beside
returns-in_err-put_beside-2-clause-beside g c = twice c.args.area _ _ _ c.put_beside.ensures.beside c.put_beside-2.ensures.beside

pub returns-in_err-put_beside-3-clause-beside : goal.returns-in_err-put_beside-3-clause-beside
returns-in_err-put_beside-3-clause-beside g c =
    twice c.args.area _ _ _ (twice c.args.area _ _ _ c.put_beside.ensures.beside c.put_beside-2.ensures.beside) c.put_beside-3.ensures.beside

pub put_beside-requires-4-clause-place : goal.put_beside-requires-4-clause-place
put_beside-requires-4-clause-place g c =
    end_place c.args.area (g.D.Disk.seen c.args.disk.now) (g.D.Disk.seen c.put_beside.new.disk) (g.D.Disk.seen c.put_beside-2.new.disk) (g.D.Disk.seen c.put_beside-3.new.disk)
    c.prefix_of.result c.args.body.now (length c.args.body.now) refl c.prefix_of.ensures c.requires.shut c.in_ok-put_beside.ensures.written
    c.in_ok-put_beside-2.ensures.written c.in_ok-put_beside-3.ensures.written

pub returns-in_err-put_beside-4-clause-beside : goal.returns-in_err-put_beside-4-clause-beside
returns-in_err-put_beside-4-clause-beside g c =
    twice c.args.area _ _ _ (twice c.args.area _ _ _ (twice c.args.area _ _ _ c.put_beside.ensures.beside c.put_beside-2.ensures.beside) c.put_beside-3.ensures.beside)
    c.put_beside-4.ensures.beside

pub returns-clause-beside : goal.returns-clause-beside
returns-clause-beside g c =
    twice c.args.area _ _ _
    (twice c.args.area _ _ _ (twice c.args.area _ _ _ (twice c.args.area _ _ _ c.put_beside.ensures.beside c.put_beside-2.ensures.beside) c.put_beside-3.ensures.beside)
    c.put_beside-4.ensures.beside)
    (quiet_changes (IsBeside c.args.area) (g.D.Disk.seen c.put_beside-4.new.disk) (g.D.Disk.seen c.sync_alone.new.disk) (beside_same c.args.area) c.sync_alone.ensures.quiet)

pub returns-clause-staged : goal.returns-clause-staged
returns-clause-staged g c = on_ok c.sync_alone.result c.sync_alone.ensures.durable (λ _.
    subst (λ (o : Option Areas). IfSome o (λ t. IsStaged c.args.body.now (part c.args.area t))) (sym c.sync_alone.ensures.quiet.same)
    (all_staged c.args.area (g.D.Disk.seen c.args.disk.now) (g.D.Disk.seen c.put_beside.new.disk) (g.D.Disk.seen c.put_beside-2.new.disk) (g.D.Disk.seen c.put_beside-3.new.disk)
    c.prefix_of.result c.args.body.now (length c.args.body.now) refl c.prefix_of.ensures c.requires.shut c.in_ok-put_beside.ensures.written
    c.in_ok-put_beside-2.ensures.written c.in_ok-put_beside-3.ensures.written (g.D.Disk.seen c.put_beside-4.new.disk) c.in_ok-put_beside-4.ensures.written))
