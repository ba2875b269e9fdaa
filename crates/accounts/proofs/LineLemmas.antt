-- The first line of a text.
use Rattle.std.proofs.Common.{◌≡◌, ◌<◌, ◌+◌, ℕ, List, [], ◌∷◌, Bool, length, ◌==◌, refl, ap, ◌∙◌, ◌-◌, ◌≤◌, Some, None, take, drop, true, false, cond, nat_lt, suc, not, arith, sym}
use Rattle.std.specs.List.{slice_split, position, position_or_len, before_first, after_first}
use Rattle.std.specs.Prelude.{if◌then◌else◌}
use Rattle.std.proofs.lemmas.Option.{cond_some}
use Rattle.std.proofs.lemmas.Bool.{ltb-true, ltb-false, eqb-false}
use Rattle.std.proofs.lemmas.List.{take_rest}
use Rattle.accounts.specs.Lines.{is_line_feed}
use Rattle.std.specs.Str.Lines.{lines, lines_of_parts, strip_carriage_return}
use Rattle.std.proofs.lemmas.List.Sums.{fails_before_first, prefix_len-le-length}
use Rattle.std.proofs.lemmas.List.Splits.{slice_split_first, slice_split_none, length-slice_split}

-- a part before another is a line
parts-more : (first : List ℕ) (parts : List (List ℕ)) → 0 < length parts → lines_of_parts (first ∷ parts) ≡ strip_carriage_return first ∷ lines_of_parts parts
parts-more first [] some = absurd (omega arith)
parts-more first (x ∷ xs) some = refl

-- a text with a line feed: the line before it, and the lines of what follows
pub lines-first : (text : List ℕ) → position_or_len is_line_feed text < length text → lines text ≡ strip_carriage_return (before_first is_line_feed text) ∷ lines (after_first is_line_feed text)
lines-first text has =
    let parts : List (List ℕ) = slice_split is_line_feed (after_first is_line_feed text) in
    ap lines_of_parts (slice_split_first is_line_feed text 0 has) ∙ parts-more (before_first is_line_feed text) parts (omega (arith, length-slice_split is_line_feed (after_first is_line_feed text)))

eqb-suc : (n : ℕ) → (suc n == 0) ≡ false
eqb-suc n = grind arith

-- one part alone is a line where it is not empty
part-last : (text : List ℕ) → 0 < length text → lines_of_parts (text ∷ []) ≡ text ∷ []
part-last [] some = absurd (omega arith)
part-last (b ∷ bs) some = ap (λ t. if t then [] else ((b ∷ bs) ∷ [])) (eqb-suc (length bs))

-- a text without a line feed is one line
pub lines-last : (text : List ℕ) → 0 < length text → length text ≡ position_or_len is_line_feed text → lines text ≡ text ∷ []
lines-last text some none =
    ap lines_of_parts (slice_split_none is_line_feed text (λ k d h. fails_before_first is_line_feed text k d (omega arith))) ∙ part-last text some

-- where a line feed is found
pub lines-found : (text : List ℕ) (end : ℕ) → Some end ≡ position is_line_feed text → lines text ≡ strip_carriage_return (take end text) ∷ lines (take (length text - (end + 1)) (drop (end + 1) text))
lines-found text end found =
    let n = position_or_len is_line_feed text in
    let here = cond_some (nat_lt n (length text)) n end (sym found) in
    let cut : ℕ → List (List ℕ) = λ k. strip_carriage_return (take k text) ∷ lines (drop (k + 1) text) in
    lines-first text (ltb-true n (length text) here.0) ∙ ap cut here.1 ∙ ap (λ more. strip_carriage_return (take end text) ∷ lines more) (sym (take_rest text (end + 1)))

pub cond_none : (b : Bool) (x : ℕ) → None ≡ cond b (Some x) None → b ≡ false
cond_none true x is = cc
cond_none false x is = refl

-- where none is
pub lines-none : (text : List ℕ) → 0 < length text → None ≡ position is_line_feed text → lines text ≡ text ∷ []
lines-none text some none =
    let n = position_or_len is_line_feed text in
    let short : n ≤ length text = prefix_len-le-length (λ b. not (is_line_feed b)) text in
    lines-last text some (omega (arith, short, ltb-false n (length text) (cond_none (nat_lt n (length text)) n none)))

pub not_empty : (text : List ℕ) → (length text == 0) ≡ false → 0 < length text
not_empty text some = grind (arith, eqb-false (length text) 0 some)
