-- Each row is put of an account that has none, behind those before it.
use Rattle.std.proofs.Common.{◌≡◌, ◌+◌, ◌∙◌, ◌++◌, ◌∷◌, [], List, Some, map, map-id, take, length, refl, sym, ap, rules}
use Rattle.std.specs.Prelude.{slice_get}
use Rattle.std.proofs.lemmas.Iterator.Adapters.{YieldsList-from_vec}
use Rattle.std.proofs.lemmas.Iterator.Consumers.{YieldsList-so_far, YieldsList-turn, YieldsList-end}
use Rattle.std.proofs.lemmas.List.{map-append}
use Rattle.std.proofs.lemmas.Option.{slice_get_read}
use Rattle.centre_rules.specs.Marks.{has_row}
use Rattle.centre_rules.specs.Summary.{AccountRow}
use Rattle.summary_codec.specs.declared.reading.ReadRow.{ReadRow}
use Rattle.summary_codec.specs.Parts.{row_of_read}
use Rattle.centre_core.specs.Decoding.{IsReadBefore}
use Rattle.centre_core.proofs.Growing.{two_before, two_part}
use Rattle.centre_core.proofs.RowsPut.{no_row}
use Rattle.centre_core.proofs.decoding.rows_of.Goals as goal

pub put-requires : goal.put-requires
put-requires c =
    let xs = c.args.rows.items in
    let so_far = YieldsList-so_far (YieldsList-from_vec {s = c.into_iter-row-iterator.result} xs (search rules) (search rules)) c.loop-row.yielded _ c.loop-row.yielded_by in
    let turn = YieldsList-turn (YieldsList-from_vec {s = c.into_iter-row-iterator.result} xs (search rules) (search rules)) c.loop-row.yielded _ c.loop-row.yielded_by _ c.next.new.self c.in-Some.row c.in-Some.is c.next.ensures.steps in
    let n = length c.loop-row.yielded in
    let at : slice_get xs n ≡ Some c.in-Some.row = slice_get_read xs (length xs) n c.in-Some.row refl turn.0 turn.1 in
    let front : c.loop-row.yielded ≡ take n xs = sym (map-id c.loop-row.yielded) ∙ so_far in
    ap (λ (l : List AccountRow). has_row l c.in-Some.row.account) (c.loop-row.invariant.rows ∙ ap (λ (l : List ReadRow). map row_of_read l) front)
    ∙ no_row (take n xs) c.in-Some.row (two_before IsReadBefore xs n c.in-Some.row at (two_part IsReadBefore xs (n + 1) c.requires))

pub loop-row-preserved : goal.loop-row-preserved
loop-row-preserved c = record {
  start = c.in_ok-put.ensures.start ∙ c.loop-row.invariant.start;
  rows = c.in_ok-put.ensures.rows ∙ ap (λ (l : List AccountRow). l ++ row_of_read c.in-Some.row ∷ []) c.loop-row.invariant.rows
      ∙ sym (map-append row_of_read c.loop-row.yielded (c.in-Some.row ∷ []));
}

pub returns-clause-rows : goal.returns-clause-rows
returns-clause-rows c =
    let xs = c.args.rows.items in
    let end = YieldsList-end (YieldsList-from_vec {s = c.into_iter-row-iterator.result} xs (search rules) (search rules)) c.loop-row.yielded _ c.loop-row.yielded_by _ c.next.new.self c.in-None.is c.next.ensures.steps in
    c.loop-row.invariant.rows ∙ ap (λ (l : List ReadRow). map row_of_read l) (sym (map-id c.loop-row.yielded) ∙ end.0)
