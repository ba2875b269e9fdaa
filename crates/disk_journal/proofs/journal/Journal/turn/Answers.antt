use Rattle.std.proofs.Common.{◌≡◌, ◌∙◌, [], ℕ, List, Option, Some, refl, subst, sym, arith}
use Rattle.arc_io.specs.Disks.{DiskSeen}
use Rattle.arc_io.specs.declared.disk.Area.{Area}
use Rattle.disk_journal.specs.Journal.{Keeps}
use Rattle.disk_journal.specs.Standing.{other_of, generation_in}
use Rattle.disk_journal.specs.OtherArea.{IsSameBeside, IsSameIn}
use Rattle.disk_journal.specs.Turning.{Changes, IsNextTo}
use Rattle.disk_journal.proofs.Again.{said_again}
use Rattle.disk_journal.proofs.Steps.{changes_weaker}
use Rattle.disk_journal.proofs.Turns.{other_back, other_rest, next_is}
use Rattle.disk_journal.proofs.journal.Journal.turn.Goals as goal

keeps_so : (disk : DiskSeen) (area next : Area) (version : ℕ) (summary : Option (List ℕ)) (bodies : List (List ℕ)) → next ≡ other_of area → Keeps disk area version summary bodies
    → Keeps disk (other_of next) version summary bodies
keeps_so disk area next version summary bodies is h = subst (λ (x : Area). Keeps disk x version summary bodies) (other_back area next is) h

next_to : (generation : ℕ) (summary : Option (List ℕ)) (body : List ℕ) → generation ≡ generation_in summary → IsNextTo generation body → IsNextTo (generation_in summary) body
next_to generation summary body is next = subst (λ (n : ℕ). IsNextTo n body) is next

pub returns-in-Ok-clause-works : goal.returns-in-Ok-clause-works
returns-in-Ok-clause-works g c = record {
  summary = Some c.args.body.now;
  records = [];
  used = omega arith;
  count = omega arith;
  placed = record { first_is = omega arith; within = omega arith; place_is = said_again _ (g.D.Disk.seen c.write_turn.new.disk).told (omega arith) };
  few = c.requires.works.few;
  met_none = c.requires.works.met_none;
  file = c.in-Ok.ensures.rests;
  settled = c.in-Ok.ensures.settled;
}

pub returns-in-Ok-clause-turned : goal.returns-in-Ok-clause-turned
returns-in-Ok-clause-turned g c version summary bodies h =
    let self = c.args.self.now in
    let body = c.args.body.now in
    record {
      version_is = refl;
      used = omega arith;
      count = omega arith;
      placed = record { first_is = omega arith; within = omega arith; place_is = said_again _ (g.D.Disk.seen c.write_turn.new.disk).told (omega arith) };
      generation = sym (next_is self.generation body c.requires.next);
      few = h.few;
      met_none = h.met_none;
      kept = c.in-Ok.ensures.turned version summary bodies (keeps_so (g.D.Disk.seen self.disk) self.area c.other-next.result version summary bodies c.other-next.ensures h.kept)
          (next_to self.generation summary body h.generation c.requires.next);
    }

pub returns-in-Ok-clause-any_moment : goal.returns-in-Ok-clause-any_moment
returns-in-Ok-clause-any_moment g c version summary bodies h =
    let self = c.args.self.now in
    c.write_turn.ensures.any_moment version summary bodies (keeps_so (g.D.Disk.seen self.disk) self.area c.other-next.result version summary bodies c.other-next.ensures h.kept)
    (next_to self.generation summary c.args.body.now h.generation c.requires.next)

pub returns-in-Ok-clause-told : goal.returns-in-Ok-clause-told
returns-in-Ok-clause-told g c version summary bodies h =
    let self = c.args.self.now in
    c.write_turn.ensures.told version summary bodies (keeps_so (g.D.Disk.seen self.disk) self.area c.other-next.result version summary bodies c.other-next.ensures h.kept)
    (next_to self.generation summary c.args.body.now h.generation c.requires.next)

pub returns-in-Err-clause-any_moment : goal.returns-in-Err-clause-any_moment
returns-in-Err-clause-any_moment g c version summary bodies h =
    let self = c.args.self.now in
    c.write_turn.ensures.any_moment version summary bodies (keeps_so (g.D.Disk.seen self.disk) self.area c.other-next.result version summary bodies c.other-next.ensures h.kept)
    (next_to self.generation summary c.args.body.now h.generation c.requires.next)

pub returns-in-Err-clause-told : goal.returns-in-Err-clause-told
returns-in-Err-clause-told g c version summary bodies h =
    let self = c.args.self.now in
    c.write_turn.ensures.told version summary bodies (keeps_so (g.D.Disk.seen self.disk) self.area c.other-next.result version summary bodies c.other-next.ensures h.kept)
    (next_to self.generation summary c.args.body.now h.generation c.requires.next)

-- what is beside the other area is the one that was chosen
spares_so : (area next : Area) (old new : DiskSeen) → next ≡ other_of area → Changes (IsSameBeside next) old new → Changes (IsSameIn area) old new
spares_so area next old new is run =
    changes_weaker (IsSameBeside next) (IsSameIn area) old new (λ s t same. sym (other_rest area next t is) ∙ same ∙ other_rest area next s is) run

pub returns-in-Ok-clause-spared : goal.returns-in-Ok-clause-spared
returns-in-Ok-clause-spared g c =
    spares_so c.args.self.now.area c.other-next.result (g.D.Disk.seen c.args.self.now.disk) (g.D.Disk.seen c.write_turn.new.disk) c.other-next.ensures c.write_turn.ensures.spared

pub returns-in-Err-clause-spared : goal.returns-in-Err-clause-spared
returns-in-Err-clause-spared g c =
    spares_so c.args.self.now.area c.other-next.result (g.D.Disk.seen c.args.self.now.disk) (g.D.Disk.seen c.write_turn.new.disk) c.other-next.ensures c.write_turn.ensures.spared
