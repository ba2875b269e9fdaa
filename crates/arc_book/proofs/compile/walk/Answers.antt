use Rattle.std.proofs.Common.{◌++◌, ◌∷◌, [], ℕ, List, length, Err, refl, sym, ap, subst, arith}
use Rattle.arc_io.proofs.Frames.{reads_more, writes_more}
use Rattle.arc_book.specs.Compiled.{IsCompiled, IsWrittenBut}
use Rattle.arc_book.specs.Portions.{bodies_told, HasNoNextIn, area_book}
use Rattle.arc_book.specs.Taken.{IsTakenUp}
use Rattle.arc_book.specs.Tapes.{ahead}
use Rattle.arc_book.specs.declared.status.Status.TheVariants.{Memory}
use Rattle.arc_book.proofs.Pages.{unwritten}
use Rattle.arc_book.proofs.Portions.{begun}
use Rattle.arc_book.proofs.Walks.{closed_walk, broken_walk, spent_walk, failed_walk, memory_walk, bad_walk, more_walk, write_walk}
use Rattle.arc_book.proofs.compile.walk.Goals as goal

pub records-init : goal.records-init
records-init g c =
    let known = (g.K.Ends.seen c.args.sink.now).written in
    record {
      walks = λ all r. record {
        told = begun c.args.version;
        read = r;
        stands = c.requires.begun;
        text = subst (λ (p : List ℕ). IsWrittenBut known known p (area_book c.args.options.now (begun c.args.version))) (sym c.requires.empty) (unwritten c.args.version c.args.options.now known);
      };
      short = omega (arith, ap length c.requires.empty);
      not_ended = c.requires.ended;
      read_faults = omega arith;
      write_faults = omega arith;
      reads = record { rest = refl };
      writes = record { rest = refl };
    }

pub returns-in-Ok-Closed-clause-compiled : goal.returns-in-Ok-Closed-clause-compiled
returns-in-Ok-Closed-clause-compiled g c all r =
    let inv = c.records.invariant in
    closed_walk (inv.walks all r) inv.write_faults (reads_more inv.reads c.next.ensures.others) inv.writes
    (c.in-Ok-Closed.ensures.closed c.in-Ok-Closed.field-0-is)

pub returns-in-Ok-Broken-clause-compiled : goal.returns-in-Ok-Broken-clause-compiled
returns-in-Ok-Broken-clause-compiled g c all r =
    let inv = c.records.invariant in
    let broken = c.in-Ok-Broken.ensures.broken c.in-Ok-Broken.field-0-is in
    broken_walk (inv.walks all r) inv.write_faults (reads_more inv.reads c.next.ensures.others) inv.writes broken.0 broken.1

pub returns-in-Ok-Spent-clause-compiled : goal.returns-in-Ok-Spent-clause-compiled
returns-in-Ok-Spent-clause-compiled g c all r =
    let inv = c.records.invariant in
    spent_walk (inv.walks all r) inv.write_faults (reads_more inv.reads c.next.ensures.others) inv.writes
    (c.in-Ok-Spent.ensures.spent c.in-Ok-Spent.field-0-is).1

pub returns-in-Err-Failed-clause-compiled : goal.returns-in-Err-Failed-clause-compiled
returns-in-Err-Failed-clause-compiled g c all r =
    let inv = c.records.invariant in
    failed_walk (inv.walks all r) inv.write_faults (reads_more inv.reads c.next.ensures.others) inv.writes
    (omega (arith, inv.read_faults, c.in-Err-Failed.ensures.failed (ap Err c.in-Err-Failed.field-0-is)))

pub returns-in-Err-Memory-clause-compiled : goal.returns-in-Err-Memory-clause-compiled
returns-in-Err-Memory-clause-compiled g c all r =
    let inv = c.records.invariant in
    memory_walk (inv.walks all r) inv.write_faults (reads_more inv.reads c.next.ensures.others) inv.writes

pub returns-in-Ok-false-clause-compiled : goal.returns-in-Ok-false-clause-compiled
returns-in-Ok-false-clause-compiled g c all r =
    let inv = c.records.invariant in
    let u = c.next.new.self in
    let w = inv.walks all r in
    let s = g.S.Ends.seen c.args.source.now in
    let s' = g.S.Ends.seen c.scan.new.source in
    let k0 = g.K.Ends.seen c.args.sink.now in
    let k = g.K.Ends.seen c.records.sink in
    let read = c.in-Ok-Body.ensures.body c.in-Ok-Body.field-0-is c.args.version all (bodies_told w.told) w.read in
    let bad = subst (HasNoNextIn w.told) c.deref.ensures.value (c.in-Ok-false.ensures.bad c.in-Ok-false.field-0-test w.told w.read.at w.stands) in
    subst (IsCompiled c.args.options.now c.scan.result all s s' k0 k) (sym (c.in-Ok-false.ensures.kept c.in-Ok-false.field-0-test))
    (bad_walk w inv.write_faults (reads_more (reads_more inv.reads c.next.ensures.others) c.scan.ensures.others) inv.writes c.scan.result u.body.items u.gate u.at (ahead u.intake (g.S.Ends.seen c.next.new.source).left) read bad
    (c.scan.ensures.shown all (bodies_told w.told ++ u.body.items ∷ []) read) (λ is. omega (arith, inv.read_faults, c.next.ensures.later, c.scan.ensures.failed is)))

pub returns-in-Err-clause-compiled : goal.returns-in-Err-clause-compiled
returns-in-Err-clause-compiled g c all r =
    let inv = c.records.invariant in
    let s = g.S.Ends.seen c.args.source.now in
    let s' = g.S.Ends.seen c.next.new.source in
    let k0 = g.K.Ends.seen c.args.sink.now in
    let k = g.K.Ends.seen c.records.sink in
    subst (IsCompiled c.args.options.now Memory all s s' k0 k) (sym c.in-Err.ensures.failed)
    (memory_walk (inv.walks all r) inv.write_faults (reads_more inv.reads c.next.ensures.others) inv.writes)

pub records-preserved : goal.records-preserved
records-preserved g c =
    let inv = c.records.invariant in
    record {
      walks = λ all r.
          let w = inv.walks all r in
          let read = c.in-Ok-Body.ensures.body c.in-Ok-Body.field-0-is c.args.version all (bodies_told w.told) w.read in
          let taken = subst (λ (b : List ℕ). IsTakenUp c.args.options.now w.told b c.take_in.new.centre c.records.page c.take_in.new.page) c.deref.ensures.value
          (c.in-Ok-true.ensures.taken c.in-Ok-true.field-0-test w.told w.read.at w.stands) in
          more_walk w read taken c.turn.new.page c.in-Ok.ensures.text;
      short = c.turn.ensures.short;
      not_ended = (c.in-Ok-Body.ensures.on c.in-Ok-Body.field-0-is).0;
      read_faults = omega (arith, inv.read_faults, c.next.ensures.later);
      write_faults = omega (arith, inv.write_faults, c.turn.ensures.cause.later);
      reads = reads_more inv.reads c.next.ensures.others;
      writes = writes_more inv.writes c.turn.ensures.others;
    }

pub returns-in_default-clause-compiled : goal.returns-in_default-clause-compiled
returns-in_default-clause-compiled g c all r =
    let inv = c.records.invariant in
    let w = inv.walks all r in
    let read = c.in-Ok-Body.ensures.body c.in-Ok-Body.field-0-is c.args.version all (bodies_told w.told) w.read in
    let taken = subst (λ (b : List ℕ). IsTakenUp c.args.options.now w.told b c.take_in.new.centre c.records.page c.take_in.new.page) c.deref.ensures.value
    (c.in-Ok-true.ensures.taken c.in-Ok-true.field-0-test w.told w.read.at w.stands) in
    write_walk w read taken c.turn.new.page c.in_default.ensures.text (reads_more inv.reads c.next.ensures.others) (writes_more inv.writes c.turn.ensures.others)
    (omega (arith, inv.write_faults, c.turn.ensures.cause.later)) (omega (arith, inv.write_faults, c.in_default.ensures.cause.failed))
