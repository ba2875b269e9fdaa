-- One row after another.
use Rattle.std.proofs.Common.{◌≡◌, ◌+◌, ◌∷◌, ◌++◌, [], None, List, map, ap, ◌∙◌, sym, subst, arith}
use Rattle.std.proofs.lemmas.List.{map-append}
use Rattle.centre_rules.specs.Summary.{AccountRow}
use Rattle.summary_codec.specs.declared.reading.ReadRow.{ReadRow}
use Rattle.summary_codec.specs.Parts.{row_of_read}
use Rattle.summary_codec.specs.Reading.{row_at}
use Rattle.summary_codec.proofs.Times.{GoesOn, goes_more, goes_none, goes_end, many_is}
use Rattle.summary_codec.proofs.reading.rows_at.Goals as goal

pub returns-in-Ok-None : goal.returns-in-Ok-None
returns-in-Ok-None c =
    let w = c.loop.invariant in
    many_is row_at c.in-Some.count c.args.bytes.now c.in-Some.rest.now None c.in-Some.ensures
    (goes_none row_at c.in-Some.count c.loop.counter c.in-Some.rest.now (map row_of_read c.loop.rows.items) c.loop.rest.now w.read (rw c.in-Ok-None.field-0-is at c.in-Ok-None.ensures) c.loop-test.true)

pub loop-preserved : goal.loop-preserved
loop-preserved c =
    let w = c.loop.invariant in
    let old = c.loop.rows.items in
    let x = c.in-Ok-Some.found.0 in
    let put : map row_of_read c.push.new.self.items ≡ map row_of_read old ++ row_of_read x ∷ [] =
    ap (λ (l : List ReadRow). map row_of_read l) c.in-Ok.ensures.items ∙ map-append row_of_read old (x ∷ []) in
    record {
      count = omega arith;
      read = subst (λ (l : List AccountRow). GoesOn row_at c.in-Some.count (c.loop.counter + 1) c.in-Some.rest.now l c.in-Ok-Some.found.1.now) (sym put)
          (goes_more row_at c.in-Some.count c.loop.counter c.in-Some.rest.now (map row_of_read old) (row_of_read x) c.loop.rest.now c.in-Ok-Some.found.1.now w.read (rw c.in-Ok-Some.field-0-is at c.in-Ok-Some.ensures));
    }

pub returns : goal.returns
returns c =
    let w = c.loop.invariant in
    many_is row_at c.in-Some.count c.args.bytes.now c.in-Some.rest.now _ c.in-Some.ensures
    (goes_end row_at c.in-Some.count c.loop.counter c.in-Some.rest.now (map row_of_read c.loop.rows.items) c.loop.rest.now w.read w.count c.loop-test.false)
