-- The first so many rows of a map, and one more.
use Rattle.std.proofs.Common.{◌≡◌, ◌<◌, ◌+◌, ℕ, zero, suc, List, [], ◌∷◌, ◌++◌, map, take, Bool, true, false, cond, Some, refl, sym, ap, ◌∙◌, arith, subst}
use Rattle.std.specs.Prelude.{slice_get, is_some}
use Rattle.std.specs.List.{find, AllByRecursion, IsDistinct}
use Rattle.std.specs.Map.{keys_of}
use Rattle.std.specs.Str.{bytes_eq}
use Rattle.std.proofs.lemmas.List.{take_more, map-append, take-map}
use Rattle.std.proofs.lemmas.Map.Keys.{IsDistinct-head, IsDistinct-tail}
use Rattle.std.proofs.lemmas.Option.{slice_get_within, get_or_from_slice_get}
use Rattle.centre_rules.specs.Marks.{has_row}
use Rattle.known_accounts.specs.declared.row.Row.{Row}
use Rattle.known_accounts.specs.Rows.{row_at}

abbrev Entries : Type 0
Entries = List (List ℕ × Row)

next_of : {A : Type 0} (xs : List A) (i : ℕ) (x : A) → slice_get xs i ≡ Some x → take (i + 1) xs ≡ take i xs ++ x ∷ []
next_of xs i x e = take_more xs i x (slice_get_within xs i x e) ∙ ap (λ y. take i xs ++ y ∷ []) (get_or_from_slice_get xs i x x e)

-- one row more of the first
pub rows_more : (es : Entries) (i : ℕ) (e : List ℕ × Row) → slice_get es i ≡ Some e → take (i + 1) (map row_at es) ≡ take i (map row_at es) ++ row_at e ∷ []
rows_more es i e at =
    take-map row_at (i + 1) es ∙ ap (map row_at) (next_of es i e at) ∙ map-append row_at (take i es) (e ∷ [])
    ∙ ap (λ l. l ++ row_at e ∷ []) (sym (take-map row_at i es))

at_place : (a : List ℕ) (es : Entries) (i : ℕ) (e : List ℕ × Row) → slice_get es i ≡ Some e → AllByRecursion (λ y. bytes_eq a y ≡ false) (keys_of es) → bytes_eq a e.0 ≡ false
at_place a [] i e at all = absurd (cc)
at_place a (x ∷ es) zero e at all = let same : x ≡ e = cc in subst (λ (y : List ℕ × Row). bytes_eq a y.0 ≡ false) same all.0
at_place a (x ∷ es) (suc i) e at all = at_place a es i e at all.1

-- of its account there is none before it
pub none_before : (es : Entries) (i : ℕ) (e : List ℕ × Row) → slice_get es i ≡ Some e → IsDistinct bytes_eq (keys_of es) → has_row (take i (map row_at es)) e.0 ≡ false
none_before [] i e at distinct = absurd (cc)
none_before (x ∷ es) zero e at distinct = refl
none_before (x ∷ es) (suc i) e at distinct =
    ap (λ b. is_some (cond b (Some (row_at x)) (find (λ r. bytes_eq r.account e.0) (take i (map row_at es))))) (at_place x.0 es i e at (IsDistinct-head bytes_eq x.0 (keys_of es) distinct))
    ∙ none_before es i e at (IsDistinct-tail bytes_eq x.0 (keys_of es) distinct)
