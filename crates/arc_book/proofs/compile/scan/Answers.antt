use Rattle.std.proofs.Common.{◌++◌, ◌∷◌, [], ℕ, List, refl, sym, subst, inl, inr, arith, append_assoc, append-nil}
use Rattle.arc_io.proofs.Frames.{reads_more}
use Rattle.arc_book.specs.Tapes.{ahead, IsReadTo}
use Rattle.arc_book.proofs.Tapes.{stands_at, damaged_at, spent_at}
use Rattle.arc_book.proofs.compile.scan.Goals as goal

pub records-preserved : goal.records-preserved
records-preserved g c =
    let inv = c.records.invariant in
    let t = c.next.new.self in
    let is = c.in-Ok-Body.field-0-is in
    record {
      read = λ all bodies r.
          let old = inv.read all bodies r in (
            old.0 ++ t.body.items ∷ [],
            subst (λ (l : List (List ℕ)). IsReadTo c.args.version all l t.gate t.at (ahead t.intake (g.S.Ends.seen c.next.new.source).left)) (append_assoc bodies old.0 (t.body.items ∷ []))
                (c.in-Ok-Body.ensures.body is c.args.version all (bodies ++ old.0) old.1),
          );
      not_ended = (c.in-Ok-Body.ensures.on is).0;
      faults = omega (arith, inv.faults, c.next.ensures.later);
      others = reads_more inv.others c.next.ensures.others;
    }

pub returns-in-Ok-Closed-clause-shown : goal.returns-in-Ok-Closed-clause-shown
returns-in-Ok-Closed-clause-shown g c all bodies r =
    let t = c.records.tape in
    let old = c.records.invariant.read all bodies r in
    inl (refl, (old.0, stands_at all (bodies ++ old.0) t.gate t.at (ahead t.intake (g.S.Ends.seen c.records.source).left) old.1 (c.in-Ok-Closed.ensures.closed c.in-Ok-Closed.field-0-is)))

pub returns-in-Ok-Broken-clause-shown : goal.returns-in-Ok-Broken-clause-shown
returns-in-Ok-Broken-clause-shown g c all bodies r =
    let t = c.records.tape in
    let old = c.records.invariant.read all bodies r in
    let broken = c.in-Ok-Broken.ensures.broken c.in-Ok-Broken.field-0-is in
    inr (_, refl, damaged_at all (bodies ++ old.0) t.gate t.at (ahead t.intake (g.S.Ends.seen c.records.source).left) old.1 broken.0 broken.1)

pub returns-in-Ok-Spent-clause-shown : goal.returns-in-Ok-Spent-clause-shown
returns-in-Ok-Spent-clause-shown g c all bodies r =
    let t = c.records.tape in
    let old = c.records.invariant.read all bodies r in
    spent_at all (bodies ++ old.0) t.gate t.at (ahead t.intake (g.S.Ends.seen c.records.source).left) old.1 (c.in-Ok-Spent.ensures.spent c.in-Ok-Spent.field-0-is).1

pub records-init : goal.records-init
records-init g c = record {
  read = λ all bodies r. (
    [],
    subst (λ (l : List (List ℕ)). IsReadTo c.args.version all l c.args.tape.now.gate c.args.tape.now.at (ahead c.args.tape.now.intake (g.S.Ends.seen c.args.source.now).left))
        (sym (append-nil bodies)) r,
  );
  not_ended = c.requires.ended;
  faults = omega arith;
  others = record { rest = refl };
}
