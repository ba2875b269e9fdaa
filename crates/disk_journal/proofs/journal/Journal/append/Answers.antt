use Rattle.std.proofs.Common.{ℕ, [], ◌∷◌, ◌++◌, length, drop, refl, ap, subst, arith, length-append}
use Rattle.std.specs.Prelude.{vec_len}
use Rattle.disk_journal.specs.Records.{size}
use Rattle.disk_journal.specs.Standing.{all_of}
use Rattle.disk_journal.specs.Behind.{SparesBehind}
use Rattle.disk_journal.proofs.Appends.{still_moments, still_told}
use Rattle.disk_journal.proofs.Chosen.{all_further}
use Rattle.disk_journal.proofs.Further.{bodies_further, gate_further, one_is_laid, one_length}
use Rattle.disk_journal.proofs.Gates.{size-more}
use Rattle.disk_journal.proofs.journal.Journal.append.Goals as goal

pub returns-then-self-clause-any_moment : goal.returns-then-self-clause-any_moment
returns-then-self-clause-any_moment g c version summary bodies h more =
    still_moments (g.D.Disk.seen c.args.self.now.disk) c.args.self.now.area version summary bodies (c.args.body.now ∷ []) h.kept (g.met.D.Disk.only_now c.args.self.now.disk)

pub returns-then-self-clause-told : goal.returns-then-self-clause-told
returns-then-self-clause-told g c version summary bodies h more =
    still_told (g.D.Disk.seen c.args.self.now.disk) c.args.self.now.area version summary bodies (c.args.body.now ∷ []) h.kept

pub returns-in-Ok-clause-any_moment : goal.returns-in-Ok-clause-any_moment
returns-in-Ok-clause-any_moment g c version summary bodies h more =
    let are = one_is_laid c.args.body.now _ (vec_len c.args.self.now.room) c.lay.new.room (drop (length c.lay.new.room) c.args.self.now.room.items) c.deref.result.now c.requires.size
    c.deref.ensures.value refl c.requires.room c.lay.ensures in
    c.write_record.ensures.any_moment version summary bodies (c.args.body.now ∷ []) are h.used h.kept more

pub returns-in-Ok-clause-told : goal.returns-in-Ok-clause-told
returns-in-Ok-clause-told g c version summary bodies h more =
    let are = one_is_laid c.args.body.now _ (vec_len c.args.self.now.room) c.lay.new.room (drop (length c.lay.new.room) c.args.self.now.room.items) c.deref.result.now c.requires.size
    c.deref.ensures.value refl c.requires.room c.lay.ensures in
    c.write_record.ensures.told version summary bodies (c.args.body.now ∷ []) are h.used h.kept more

pub returns-in-Ok-clause-behind : goal.returns-in-Ok-clause-behind
returns-in-Ok-clause-behind g c version summary bodies h =
    let are = one_is_laid c.args.body.now _ (vec_len c.args.self.now.room) c.lay.new.room (drop (length c.lay.new.room) c.args.self.now.room.items) c.deref.result.now c.requires.size
    c.deref.ensures.value refl c.requires.room c.lay.ensures in
    let old = g.D.Disk.seen c.args.self.now.disk in
    let new = g.D.Disk.seen c.write_record.new.disk in
    subst (λ (n : ℕ). SparesBehind n old new) (omega (arith, one_length c.args.body.now _ are)) (c.write_record.ensures.behind version summary bodies h.kept)

pub returns-in-Err-clause-any_moment : goal.returns-in-Err-clause-any_moment
returns-in-Err-clause-any_moment g c version summary bodies h more =
    let are = one_is_laid c.args.body.now _ (vec_len c.args.self.now.room) c.lay.new.room (drop (length c.lay.new.room) c.args.self.now.room.items) c.deref.result.now c.requires.size
    c.deref.ensures.value refl c.requires.room c.lay.ensures in
    c.write_record.ensures.any_moment version summary bodies (c.args.body.now ∷ []) are h.used h.kept more

pub returns-in-Err-clause-told : goal.returns-in-Err-clause-told
returns-in-Err-clause-told g c version summary bodies h more =
    let are = one_is_laid c.args.body.now _ (vec_len c.args.self.now.room) c.lay.new.room (drop (length c.lay.new.room) c.args.self.now.room.items) c.deref.result.now c.requires.size
    c.deref.ensures.value refl c.requires.room c.lay.ensures in
    c.write_record.ensures.told version summary bodies (c.args.body.now ∷ []) are h.used h.kept more

pub returns-in-Err-clause-behind : goal.returns-in-Err-clause-behind
returns-in-Err-clause-behind g c version summary bodies h =
    let are = one_is_laid c.args.body.now _ (vec_len c.args.self.now.room) c.lay.new.room (drop (length c.lay.new.room) c.args.self.now.room.items) c.deref.result.now c.requires.size
    c.deref.ensures.value refl c.requires.room c.lay.ensures in
    let old = g.D.Disk.seen c.args.self.now.disk in
    let new = g.D.Disk.seen c.write_record.new.disk in
    subst (λ (n : ℕ). SparesBehind n old new) (omega (arith, one_length c.args.body.now _ are)) (c.write_record.ensures.behind version summary bodies h.kept)

pub returns-in-Ok-clause-added : goal.returns-in-Ok-clause-added
returns-in-Ok-clause-added g c version summary bodies h more =
    let self = c.args.self.now in
    let further = c.args.body.now ∷ [] in
    let are = one_is_laid c.args.body.now _ (vec_len c.args.self.now.room) c.lay.new.room (drop (length c.lay.new.room) c.args.self.now.room.items) c.deref.result.now c.requires.size
    c.deref.ensures.value refl c.requires.room c.lay.ensures in
    let o = (g.D.Disk.seen self.disk).told in
    let m = (g.D.Disk.seen c.write_record.new.disk).told in
    record {
      version_is = h.version_is;
      used = omega (arith, h.used, ap size (all_further summary bodies further), size-more (all_of summary bodies) c.args.body.now);
      count = omega (arith, h.count, length-append bodies further);
      placed = record {
        first_is = h.placed.first_is;
        within = omega (arith, h.placed.within, length-append bodies further);
        place_is = gate_further self.area o m summary bodies further self.next self.place h.placed.within (λ v. c.in-Ok.ensures.rests v (all_of summary bodies) further are h.used) h.placed.place_is;
      };
      generation = h.generation;
      few = h.few;
      met_none = h.met_none;
      kept = c.in-Ok.ensures.added version summary bodies further are h.used h.kept more;
    }

pub returns-in-Ok-clause-works : goal.returns-in-Ok-clause-works
returns-in-Ok-clause-works g c =
    let self = c.args.self.now in
    let w = c.requires.works in
    let summary = w.summary in
    let bodies = w.records in
    let further = c.args.body.now ∷ [] in
    let are = one_is_laid c.args.body.now _ (vec_len c.args.self.now.room) c.lay.new.room (drop (length c.lay.new.room) c.args.self.now.room.items) c.deref.result.now c.requires.size
    c.deref.ensures.value refl c.requires.room c.lay.ensures in
    let o = (g.D.Disk.seen self.disk).told in
    let m = (g.D.Disk.seen c.write_record.new.disk).told in
    let rests = λ (v : ℕ). c.in-Ok.ensures.rests v (all_of summary bodies) further are w.used in
    record {
      summary = summary;
      records = bodies ++ further;
      used = omega (arith, w.used, ap size (all_further summary bodies further), size-more (all_of summary bodies) c.args.body.now);
      count = omega (arith, w.count, length-append bodies further);
      placed = record {
        first_is = w.placed.first_is;
        within = omega (arith, w.placed.within, length-append bodies further);
        place_is = gate_further self.area o m summary bodies further self.next self.place w.placed.within rests w.placed.place_is;
      };
      few = w.few;
      met_none = w.met_none;
      file = bodies_further self.area m self.version summary bodies further (rests self.version w.file);
      settled = c.in-Ok.ensures.settled;
    }
