-- The rows of a list, read one by one.
use Rattle.std.proofs.Common.{◌≡◌, ◌≤◌, ◌<◌, ◌+◌, ◌++◌, ℕ, List, [], ◌∷◌, Bool, true, false, cond, leb, Option, Some, None, length, refl, sym, ap, ◌∙◌, append_assoc, arith}
use Rattle.std.specs.Prelude.{nat_le}
use Rattle.std.proofs.lemmas.Bool.{lt-leb, le-leb}
use Rattle.std.proofs.lemmas.List.{append-nil}
use Rattle.std.specs.Option.{option_map}
use Rattle.arc_data.specs.declared.listing.Row.{Row}
use Rattle.desk_said.specs.Lines.{each_row, row_spelled, rows_spelled}

-- a row that the first word spells, with the others
row_first : (row : Row) (word : List ℕ) (words : List (List ℕ)) → row_spelled word ≡ Some row
    → each_row (word ∷ words) ≡ option_map (λ more. row ∷ more) (each_row words)
row_first row word words is = rw is refl

joined : (rows : List Row) (row : Row) (others : Option (List Row))
    → option_map (λ more. (rows ++ row ∷ []) ++ more) others ≡ option_map (λ more. rows ++ more) (option_map (λ more. row ∷ more) others)
joined rows row None = refl
joined rows row (Some more) = ap Some (append_assoc rows (row ∷ []) more)

-- a row more is read
pub one_more : (rows : List Row) (row : Row) (word : List ℕ) (words : List (List ℕ)) (all : Option (List Row)) → row_spelled word ≡ Some row
    → option_map (λ more. rows ++ more) (each_row (word ∷ words)) ≡ all → option_map (λ more. (rows ++ row ∷ []) ++ more) (each_row words) ≡ all
one_more rows row word words all is before =
    joined rows row (each_row words) ∙ ap (option_map (λ more. rows ++ more)) (sym (row_first row word words is)) ∙ before

no_row : (word : List ℕ) (words : List (List ℕ)) → row_spelled word ≡ None → each_row (word ∷ words) ≡ None
no_row word words is = rw is refl

either_none : (few : Bool) (rows : Option (List Row)) → rows ≡ None → cond few rows None ≡ None
either_none true rows is = is
either_none false rows is = refl

-- a word that spells no row
pub unread : (rows : List Row) (word : List ℕ) (words all : List (List ℕ)) → row_spelled word ≡ None
    → option_map (λ more. rows ++ more) (each_row (word ∷ words)) ≡ each_row all → rows_spelled all ≡ None
unread rows word words all is before =
    let none : each_row all ≡ None = sym before ∙ ap (option_map (λ more. rows ++ more)) (no_row word words is) in
    either_none (nat_le (length all) 16) (each_row all) none

-- more than 16 words
pub too_many : (all : List (List ℕ)) → 16 < length all → rows_spelled all ≡ None
too_many all many = rw (lt-leb (length all) 16 many) refl

one_some : (rows : List Row) (few : Bool) → few ≡ true → cond few (Some rows) None ≡ Some rows
one_some rows few is = rw is refl

nothing_behind : (rows : List Row) → option_map (λ more. rows ++ more) (each_row []) ≡ Some (rows ++ [])
nothing_behind rows = refl

-- all words are read
pub all_read : (rows : List Row) (words all : List (List ℕ)) → words ≡ [] → option_map (λ more. rows ++ more) (each_row words) ≡ each_row all
    → length rows + length words ≡ length all → length rows ≤ 16 → rows_spelled all ≡ Some rows
all_read rows words all none is count few =
    let each : each_row all ≡ Some rows = sym is ∙ ap (λ ws. option_map (λ more. rows ++ more) (each_row ws)) none ∙ ap Some (append-nil rows) in
    let fits : length all ≤ 16 = omega (arith, ap length none) in
    ap (λ r. cond (nat_le (length all) 16) r None) each ∙ one_some rows (nat_le (length all) 16) (le-leb (length all) 16 fits)
