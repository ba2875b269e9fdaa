use Rattle.std.proofs.Common.{◌<◌, ◌^◌, ◌∙◌, [], ◌∷◌, ℕ, List, Option, Some, length}
use Rattle.std.specs.Prelude.{IfSome}
use Rattle.arc_io.specs.Areas.{part}
use Rattle.arc_io.specs.Disks.{DiskSeen}
use Rattle.arc_io.specs.Crashes.{TornIn, IsWritten, OnlyIn, LeavesOnly}
use Rattle.arc_io.specs.declared.disk.Area.{Area}
use Rattle.disk_journal.specs.Journal.{IsAtRestIn, HasBodies, IsSettled, Keeps}
use Rattle.disk_journal.specs.OtherArea.{IsSameBeside}
use Rattle.disk_journal.specs.Standing.{other_of, generation_in, StandsForTurn}
use Rattle.disk_journal.specs.Turning.{Changes, IsBeside, IsNextTo, IsShut, IsStaged, IsUndone}
use Rattle.disk_journal.proofs.Gates.{on_ok, on_ok_both}
use Rattle.disk_journal.proofs.Steps.{becomes_map, becomes_last, told_after, if_both, changes_then, changes_weaker, moments, moments_then, settled_after, torn_changes}
use Rattle.disk_journal.proofs.Turns.{IsShutIn, IsReadyIn, undone_rests, beside_rests, undone_stands, beside_stands, opening_stands, opened_stands, opened_body, next_distinct}
use Rattle.disk_journal.proofs.turn.write_turn.Goals as goal

-- what is known after the first part, and after the second
module _ (area : Area) (version : ℕ) (summary : Option (List ℕ)) (bodies : List (List ℕ)) (body : List ℕ) (old mid new : DiskSeen) (h : Keeps old (other_of area) version summary bodies)
    (undone : Changes (IsUndone area) old mid) (shut : IfSome mid.told (λ t. IsShut (part area t))) (durable : IfSome mid.told (λ t. OnlyIn area t mid.may_leave)) where
  shut_file : IfSome mid.told (IsShutIn area version summary bodies)
  shut_file =
      if_both (IsAtRestIn (other_of area) version summary bodies) (λ t. IsShut (part area t)) (IsShutIn area version summary bodies) mid.told
      (told_after (IsUndone area) (IsAtRestIn (other_of area) version summary bodies) (IsAtRestIn (other_of area) version summary bodies) old.told mid.told undone.told h.file (undone_rests area version summary bodies))
      shut (λ s p q. record { rests = p; shut = q })

  shut_settled : IsSettled mid
  shut_settled = settled_after area (IsUndone area) old mid (λ s t x. x.0) h.settled undone durable

  ready_file : Changes (IsBeside area) mid new → IfSome new.told (λ t. IsStaged body (part area t)) → IfSome new.told (IsReadyIn area version summary bodies body)
  ready_file beside staged =
      if_both (IsAtRestIn (other_of area) version summary bodies) (λ t. IsStaged body (part area t)) (IsReadyIn area version summary bodies body) new.told
      (told_after (IsBeside area) (IsShutIn area version summary bodies) (IsAtRestIn (other_of area) version summary bodies) mid.told new.told beside.told shut_file (beside_rests area version summary bodies))
      staged (λ s p q. record { rests = p; staged_is = q })

  ready_settled : Changes (IsBeside area) mid new → IfSome new.told (λ t. OnlyIn area t new.may_leave) → IsSettled new
  ready_settled beside only = settled_after area (IsBeside area) mid new (λ s t x. x.0) shut_settled beside only

  module _ (next : IsNextTo (generation_in summary) body) (short : length body < 2 ^ 32) where
    first_moments : LeavesOnly old mid (StandsForTurn version summary bodies body)
    first_moments = moments (IsUndone area) (IsAtRestIn (other_of area) version summary bodies) (StandsForTurn version summary bodies body) old mid h.settled h.file undone
        (undone_stands area version summary bodies body h.distinct next short)

    second_moments : Changes (IsBeside area) mid new → LeavesOnly old new (StandsForTurn version summary bodies body)
    second_moments beside = moments_then (StandsForTurn version summary bodies body) old mid new first_moments
        (moments (IsBeside area) (IsShutIn area version summary bodies) (StandsForTurn version summary bodies body) mid new shut_settled shut_file beside
        (beside_stands area version summary bodies body h.distinct next short))

pub returns-in_err-close_gate-clause-any_moment : goal.returns-in_err-close_gate-clause-any_moment
returns-in_err-close_gate-clause-any_moment g c version summary bodies h next =
    let area = c.args.area in
    moments (IsUndone area) (IsAtRestIn (other_of area) version summary bodies) (StandsForTurn version summary bodies c.args.body.now) (g.D.Disk.seen c.args.disk.now) (g.D.Disk.seen c.close_gate.new.disk)
    h.settled h.file c.close_gate.ensures.undone (undone_stands area version summary bodies c.args.body.now h.distinct next c.requires.short)

pub returns-in_err-close_gate-clause-told : goal.returns-in_err-close_gate-clause-told
returns-in_err-close_gate-clause-told g c version summary bodies h next =
    let area = c.args.area in
    becomes_map (IsUndone area) (λ s t. StandsForTurn version summary bodies c.args.body.now t) (IsAtRestIn (other_of area) version summary bodies) _ _ c.close_gate.ensures.undone.told h.file
    (undone_stands area version summary bodies c.args.body.now h.distinct next c.requires.short)

pub returns-in_err-put_body-clause-any_moment : goal.returns-in_err-put_body-clause-any_moment
returns-in_err-put_body-clause-any_moment g c version summary bodies h next =
    second_moments c.args.area version summary bodies c.args.body.now (g.D.Disk.seen c.args.disk.now) (g.D.Disk.seen c.close_gate.new.disk) (g.D.Disk.seen c.put_body.new.disk) h
    c.close_gate.ensures.undone c.in_ok-close_gate.ensures.shut c.in_ok-close_gate.ensures.durable next c.requires.short c.put_body.ensures.beside

pub returns-in_err-put_body-clause-told : goal.returns-in_err-put_body-clause-told
returns-in_err-put_body-clause-told g c version summary bodies h next =
    let area = c.args.area in
    let body = c.args.body.now in
    let file = shut_file area version summary bodies body (g.D.Disk.seen c.args.disk.now) (g.D.Disk.seen c.close_gate.new.disk) (g.D.Disk.seen c.put_body.new.disk) h
    c.close_gate.ensures.undone c.in_ok-close_gate.ensures.shut c.in_ok-close_gate.ensures.durable in
    becomes_last (IsUndone area) (IsBeside area) (IsShutIn area version summary bodies) (StandsForTurn version summary bodies body) _ _ _ c.close_gate.ensures.undone.told c.put_body.ensures.beside.told file
    (beside_stands area version summary bodies body h.distinct next c.requires.short)

pub returns-clause-any_moment : goal.returns-clause-any_moment
returns-clause-any_moment g c version summary bodies h next =
    let area = c.args.area in
    let body = c.args.body.now in
    let old = g.D.Disk.seen c.args.disk.now in
    let one = g.D.Disk.seen c.close_gate.new.disk in
    let two = g.D.Disk.seen c.put_body.new.disk in
    let new = g.D.Disk.seen c.write_synced.new.disk in
    let beside = c.put_body.ensures.beside in
    let undone = c.close_gate.ensures.undone in
    let shut = c.in_ok-close_gate.ensures.shut in
    let durable = c.in_ok-close_gate.ensures.durable in
    let run = torn_changes area 16 1 two new c.write_synced.ensures.torn c.write_synced.ensures.crash c.write_synced.ensures.any_moment in
    moments_then (StandsForTurn version summary bodies body) old two new
    (second_moments area version summary bodies body old one two h undone shut durable next c.requires.short beside)
    (moments (TornIn area 16 1) (IsReadyIn area version summary bodies body) (StandsForTurn version summary bodies body) two new
    (ready_settled area version summary bodies body old one two h undone shut durable beside c.in_ok-put_body.ensures.durable)
    (ready_file area version summary bodies body old one two h undone shut durable beside c.in_ok-put_body.ensures.staged)
    run (opening_stands area version summary bodies body h.distinct next c.requires.short))

pub returns-clause-told : goal.returns-clause-told
returns-clause-told g c version summary bodies h next =
    let area = c.args.area in
    let body = c.args.body.now in
    let old = g.D.Disk.seen c.args.disk.now in
    let one = g.D.Disk.seen c.close_gate.new.disk in
    let two = g.D.Disk.seen c.put_body.new.disk in
    let new = g.D.Disk.seen c.write_synced.new.disk in
    let beside = c.put_body.ensures.beside in
    let undone = c.close_gate.ensures.undone in
    let shut = c.in_ok-close_gate.ensures.shut in
    let durable = c.in_ok-close_gate.ensures.durable in
    let ready = ready_file area version summary bodies body old one two h undone shut durable beside c.in_ok-put_body.ensures.staged in
    let over = becomes_last (IsUndone area) (IsBeside area) (IsShutIn area version summary bodies) (λ t. Unit {0}) old.told one.told two.told undone.told beside.told
    (shut_file area version summary bodies body old one two h undone shut durable) (λ t u p x. tt) in
    becomes_last (λ s t. Unit {0}) (TornIn area 16 1) (IsReadyIn area version summary bodies body) (StandsForTurn version summary bodies body) old.told two.told new.told over
    c.write_synced.ensures.torn ready (opening_stands area version summary bodies body h.distinct next c.requires.short)

-- whatever is known of the area that was chosen
module _ (area : Area) (body : List ℕ) (old one two new : DiskSeen) (settled : IsSettled old) (undone : Changes (IsUndone area) old one)
    (durable : IfSome one.told (λ t. OnlyIn area t one.may_leave)) (beside : Changes (IsBeside area) one two)
    (durable_two : IfSome two.told (λ t. OnlyIn area t two.may_leave)) (run : Changes (TornIn area 16 1) two new) where
  new_settled : IfSome new.told (λ t. OnlyIn area t new.may_leave) → IsSettled new
  new_settled only = settled_after area (TornIn area 16 1) two new (λ s t x. x.1)
      (settled_after area (IsBeside area) one two (λ s t x. x.0) (settled_after area (IsUndone area) old one (λ s t x. x.0) settled undone durable) beside durable_two) run only

pub returns-clause-settled : goal.returns-clause-settled
returns-clause-settled g c = on_ok c.write_synced.result c.write_synced.ensures.durable
    (new_settled c.args.area c.args.body.now (g.D.Disk.seen c.args.disk.now) (g.D.Disk.seen c.close_gate.new.disk) (g.D.Disk.seen c.put_body.new.disk) (g.D.Disk.seen c.write_synced.new.disk)
    c.requires.settled c.close_gate.ensures.undone c.in_ok-close_gate.ensures.durable c.put_body.ensures.beside c.in_ok-put_body.ensures.durable
    (torn_changes c.args.area 16 1 (g.D.Disk.seen c.put_body.new.disk) (g.D.Disk.seen c.write_synced.new.disk) c.write_synced.ensures.torn c.write_synced.ensures.crash c.write_synced.ensures.any_moment))

pub returns-clause-rests : goal.returns-clause-rests
returns-clause-rests g c = on_ok c.write_synced.result c.write_synced.ensures.written (λ written.
    let area = c.args.area in
    let body = c.args.body.now in
    told_after (IsWritten area 16 (1 ∷ [])) (λ t. IsStaged body (part area t)) (HasBodies area 2 (body ∷ [])) _ _ written c.in_ok-put_body.ensures.staged
    (opened_body area c.requires.next.0 body c.requires.next.1 c.requires.short))

pub returns-clause-turned : goal.returns-clause-turned
returns-clause-turned g c = on_ok_both c.write_synced.result c.write_synced.ensures.written c.write_synced.ensures.durable (λ written only version summary bodies h next.
    let area = c.args.area in
    let body = c.args.body.now in
    let old = g.D.Disk.seen c.args.disk.now in
    let one = g.D.Disk.seen c.close_gate.new.disk in
    let two = g.D.Disk.seen c.put_body.new.disk in
    let new = g.D.Disk.seen c.write_synced.new.disk in
    let beside = c.put_body.ensures.beside in
    let undone = c.close_gate.ensures.undone in
    let shut = c.in_ok-close_gate.ensures.shut in
    let durable = c.in_ok-close_gate.ensures.durable in
    let run = torn_changes area 16 1 two new c.write_synced.ensures.torn c.write_synced.ensures.crash c.write_synced.ensures.any_moment in
    let ready = ready_file area version summary bodies body old one two h undone shut durable beside c.in_ok-put_body.ensures.staged in
    record {
      distinct = next_distinct area version summary bodies body h.distinct next c.requires.short;
      file = told_after (IsWritten area 16 (1 ∷ [])) (IsReadyIn area version summary bodies body) (IsAtRestIn area 2 (Some body) []) two.told new.told written ready
          (opened_stands area version summary bodies body h.distinct next c.requires.short);
      settled = settled_after area (TornIn area 16 1) two new (λ s t x. x.1)
          (ready_settled area version summary bodies body old one two h undone shut durable beside c.in_ok-put_body.ensures.durable) run only;
    })

-- the other area is left alone in each part
module _ (area : Area) (old one two : DiskSeen) (undone : Changes (IsUndone area) old one) where
  first_spares : Changes (IsSameBeside area) old one
  first_spares = changes_weaker (IsUndone area) (IsSameBeside area) old one (λ s t x. x.0) undone

  more_spares : (mid new : DiskSeen) → Changes (IsSameBeside area) old mid → Changes (IsSameBeside area) mid new → Changes (IsSameBeside area) old new
  more_spares mid new first then = changes_then (IsSameBeside area) old mid new (λ s t u x y. y ∙ x) first then

  second_spares : Changes (IsBeside area) one two → Changes (IsSameBeside area) old two
  second_spares beside = more_spares one two first_spares (changes_weaker (IsBeside area) (IsSameBeside area) one two (λ s t x. x.0) beside)

  third_spares : (new : DiskSeen) → Changes (IsBeside area) one two → Changes (TornIn area 16 1) two new → Changes (IsSameBeside area) old new
  third_spares new beside run = more_spares two new (second_spares beside) (changes_weaker (TornIn area 16 1) (IsSameBeside area) two new (λ s t x. x.1) run)

pub returns-in_err-close_gate-clause-spared : goal.returns-in_err-close_gate-clause-spared
returns-in_err-close_gate-clause-spared g c =
    first_spares c.args.area (g.D.Disk.seen c.args.disk.now) (g.D.Disk.seen c.close_gate.new.disk) (g.D.Disk.seen c.close_gate.new.disk) c.close_gate.ensures.undone

pub returns-in_err-put_body-clause-spared : goal.returns-in_err-put_body-clause-spared
returns-in_err-put_body-clause-spared g c =
    second_spares c.args.area (g.D.Disk.seen c.args.disk.now) (g.D.Disk.seen c.close_gate.new.disk) (g.D.Disk.seen c.put_body.new.disk) c.close_gate.ensures.undone
    c.put_body.ensures.beside

pub returns-clause-spared : goal.returns-clause-spared
returns-clause-spared g c =
    third_spares c.args.area (g.D.Disk.seen c.args.disk.now) (g.D.Disk.seen c.close_gate.new.disk) (g.D.Disk.seen c.put_body.new.disk) c.close_gate.ensures.undone
    (g.D.Disk.seen c.write_synced.new.disk) c.put_body.ensures.beside
    (torn_changes c.args.area 16 1 (g.D.Disk.seen c.put_body.new.disk) (g.D.Disk.seen c.write_synced.new.disk) c.write_synced.ensures.torn c.write_synced.ensures.crash c.write_synced.ensures.any_moment)
