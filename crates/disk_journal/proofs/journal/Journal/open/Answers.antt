use Rattle.std.proofs.Common.{ℕ, List, ap, ◌∙◌, refl, subst, arith}
use Rattle.std.specs.Prelude.{IfSome, None, is_some}
use Rattle.disk_journal.specs.Records.{size}
use Rattle.disk_journal.specs.Journal.{IsAtRestIn, HasBodies}
use Rattle.disk_journal.specs.Standing.{summary_in, records_in}
use Rattle.disk_journal.proofs.Again.{said_again}
use Rattle.disk_journal.proofs.Opens.{all_in, held_file, open_stands, open_generation, generation_held}
use Rattle.disk_journal.proofs.Steps.{if_map}
use Rattle.disk_journal.proofs.journal.Journal.open.Goals as goal

pub returns-in-Ok-clause-works : goal.returns-in-Ok-clause-works
returns-in-Ok-clause-works g c =
    let loaded = c.in-Ok.loaded in
    let live = is_some loaded.found in
    let m = (g.D.Disk.seen c.load.new.disk).told in
    record {
      summary = summary_in live loaded.bodies;
      records = records_in live loaded.bodies;
      used = c.in-Ok.ensures.used ∙ ap size (all_in live loaded.bodies);
      count = c.records_of-records.ensures;
      placed = record { first_is = c.place_behind-first.ensures; within = omega arith; place_is = said_again _ m c.place_behind-first.ensures };
      few = c.requires.few;
      met_none = refl;
      file = subst (λ (l : List (List ℕ)). IfSome m (HasBodies loaded.area loaded.version l)) (all_in live loaded.bodies)
          (if_map (IsAtRestIn loaded.area loaded.version None loaded.bodies) (HasBodies loaded.area loaded.version loaded.bodies) m c.in-Ok.ensures.rest (λ s at. at.at_rest));
      settled = c.in-Ok.ensures.settled;
    }

pub returns-in-Ok-clause-opened : goal.returns-in-Ok-clause-opened
returns-in-Ok-clause-opened g c =
    let loaded = c.in-Ok.loaded in
    let live = is_some loaded.found in
    let o = (g.D.Disk.seen c.args.disk).told in
    record {
      summary = summary_in live loaded.bodies;
      bodies = records_in live loaded.bodies;
      all = all_in live loaded.bodies;
      known = c.in-Ok.ensures.known;
      version = c.in-Ok.ensures.version;
      stands = open_stands loaded.version loaded.found loaded.bodies o c.in-Ok.ensures.found c.in-Ok.ensures.stands;
      used = c.in-Ok.ensures.used ∙ ap size (all_in live loaded.bodies);
      count = c.records_of-records.ensures;
      generation = open_generation loaded.version loaded.found loaded.bodies c.generation_of-generation.result o c.generation_of-generation.ensures c.in-Ok.ensures.found c.in-Ok.ensures.stands;
      holds = λ distinct. record {
        version_is = refl;
        used = c.in-Ok.ensures.used ∙ ap size (all_in live loaded.bodies);
        count = c.records_of-records.ensures;
        placed = record { first_is = c.place_behind-first.ensures; within = omega arith; place_is = said_again _ (g.D.Disk.seen c.load.new.disk).told c.place_behind-first.ensures };
        generation = c.generation_of-generation.ensures ∙ generation_held loaded.found loaded.bodies distinct;
        few = c.requires.few;
        met_none = refl;
        kept = record {
          distinct = distinct;
          file = held_file loaded.version loaded.found loaded.bodies loaded.area (g.D.Disk.seen c.load.new.disk).told c.in-Ok.ensures.rest;
          settled = c.in-Ok.ensures.settled;
        };
      };
    }
