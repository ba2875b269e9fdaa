use Rattle.std.proofs.Common.{◌≡◌, ◌+◌, ◌++◌, ◌∷◌, [], ◌<◌, ℕ, List, Some, length, take, sym, ap, ◌∙◌, arith}
use Rattle.std.specs.Prelude.{codes, decimal, slice_get}
use Rattle.std.specs.List.{flat_map}
use Rattle.std.proofs.lemmas.List.{flat_map_more, take_more}
use Rattle.std.proofs.lemmas.Option.{get_or_from_slice_get}
use Rattle.arc_data.specs.declared.listing.Row.{Row}
use Rattle.desk_wire.specs.Replies.{row_text}
use Rattle.desk_wire.proofs.texts.put_listed.Goals as goal

-- a row more is taken
one_more : (rows : List Row) (i : ℕ) (row : Row) → i < length rows → slice_get rows i ≡ Some row → take (i + 1) rows ≡ take i rows ++ row ∷ []
one_more rows i row within is = take_more rows i row within ∙ ap (λ r. take i rows ++ r ∷ []) (get_or_from_slice_get rows i row row is)

printed_more : (before : List ℕ) (rows : List Row) (i : ℕ) (row : Row) → i < length rows → slice_get rows i ≡ Some row
    → (before ++ flat_map row_text (take i rows)) ++ row_text row ≡ before ++ flat_map row_text (take (i + 1) rows)
printed_more before rows i row within is =
    flat_map_more row_text before (take i rows) row ∙ ap (λ rs. before ++ flat_map row_text rs) (sym (one_more rows i row within is))

pub loop-i-preserved : goal.loop-i-preserved
loop-i-preserved c = record {
  printed =
      c.put_row.ensures.text ∙ ap (λ line. line ++ row_text c.row.result) c.loop-i.invariant.printed
      ∙ printed_more (codes "list " ++ decimal c.args.listing.now.total) c.args.listing.now.rows c.loop-i.i c.row.result (omega arith) c.row.ensures;
  short = omega arith;
  few = c.loop-i.invariant.few;
}
