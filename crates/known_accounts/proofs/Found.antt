-- Rows found by their account.
use Rattle.std.proofs.Common.{◌≡◌, ℕ, List, [], ◌∷◌, ◌++◌, map, Bool, true, false, cond, Option, Some, None, refl, sym, ap, ◌∙◌, suc, arith}
use Rattle.std.specs.Prelude.{is_some, ◌||◌}
use Rattle.std.specs.List.{find, list_any, All}
use Rattle.std.specs.Map.{keys_of, lookup}
use Rattle.std.specs.Option.{option_map}
use Rattle.std.specs.Str.{bytes_eq}
use Rattle.std.proofs.lemmas.Slice.Eq.{bytes_eq-Decides}
use Rattle.centre_rules.specs.Marks.{has_row}
use Rattle.centre_rules.specs.Summary.{AccountRow, row_or}
use Rattle.known_accounts.specs.declared.row.Row.{Row}
use Rattle.known_accounts.specs.Rows.{row_at, known, blank}

equal_back : (a b : List ℕ) (t u : Bool) → bytes_eq a b ≡ t → bytes_eq b a ≡ u → t ≡ u
equal_back a b true u e f = sym ((bytes_eq-Decides b a).1 (sym ((bytes_eq-Decides a b).0 e))) ∙ f
equal_back a b false true e f = sym e ∙ (bytes_eq-Decides a b).1 (sym ((bytes_eq-Decides b a).0 f))
equal_back a b false false e f = refl

-- it is the same which of two texts stands first
pub equal_both : (a b : List ℕ) → bytes_eq a b ≡ bytes_eq b a
equal_both a b = equal_back a b (bytes_eq a b) (bytes_eq b a) refl refl

-- what is known of an account of which this row was found
abbrev pub from_row : Option ℕ → List ℕ → Option Row → AccountRow
from_row start a found = row_or (option_map (λ r. row_at (a, r)) found) a start

found_if : (start : Option ℕ) (a : List ℕ) (e : List ℕ × Row) (es : List (List ℕ × Row)) (t : Bool) → bytes_eq a e.0 ≡ t
    → row_or (find (λ r. bytes_eq r.account a) (map row_at es)) a start ≡ from_row start a (lookup (bytes_eq a) es)
    → row_or (cond t (Some (row_at e)) (find (λ r. bytes_eq r.account a) (map row_at es))) a start ≡ from_row start a (cond t (Some e.1) (lookup (bytes_eq a) es))
found_if start a e es true is rest = ap (λ (x : List ℕ). row_at (x, e.1)) (sym ((bytes_eq-Decides a e.0).0 is))
found_if start a e es false is rest = rest

-- what is known of an account goes by what the map has at it
pub known_is : (start : Option ℕ) (es : List (List ℕ × Row)) (a : List ℕ) → known start (map row_at es) a ≡ from_row start a (lookup (bytes_eq a) es)
known_is start [] a = refl
known_is start (e ∷ es) a =
    ap (λ t. row_or (cond t (Some (row_at e)) (find (λ r. bytes_eq r.account a) (map row_at es))) a start) (equal_both e.0 a)
    ∙ found_if start a e es (bytes_eq a e.0) refl (known_is start es a)

new_if : (start : Option ℕ) (a b : List ℕ) (t : Bool) → bytes_eq a b ≡ t
    → row_or (cond t (Some (record { account = a; heard = start; failed = false; opening = None; messages = [] })) None) b start ≡ row_or None b start
new_if start a b true is = ap (λ (x : List ℕ). row_or None x start) ((bytes_eq-Decides a b).0 is)
new_if start a b false is = refl

more_if : (start : Option ℕ) (b : List ℕ) (r : AccountRow) (xs ys : List AccountRow) (t : Bool) → known start xs b ≡ known start ys b
    → row_or (cond t (Some r) (find (λ x. bytes_eq x.account b) xs)) b start ≡ row_or (cond t (Some r) (find (λ x. bytes_eq x.account b) ys)) b start
more_if start b r xs ys true e = refl
more_if start b r xs ys false e = e

-- a row more that tells nothing but the last Start
pub known_blank : (start : Option ℕ) (es : List (List ℕ × Row)) (a b : List ℕ) → known start (map row_at (es ++ (a, blank start) ∷ [])) b ≡ known start (map row_at es) b
known_blank start [] a b = new_if start a b (bytes_eq a b) refl
known_blank start (e ∷ es) a b = more_if start b (row_at e) (map row_at (es ++ (a, blank start) ∷ [])) (map row_at es) (bytes_eq e.0 b) (known_blank start es a b)

-- Whether an account has a row.

has_if : (a : List ℕ) (e : List ℕ × Row) (es : List (List ℕ × Row)) (t : Bool) → has_row (map row_at es) a ≡ is_some (lookup (bytes_eq a) es)
    → is_some (cond t (Some (row_at e)) (find (λ r. bytes_eq r.account a) (map row_at es))) ≡ is_some (cond t (Some e.1) (lookup (bytes_eq a) es))
has_if a e es true rest = refl
has_if a e es false rest = rest

-- it has one where the map has something at it
pub has_is : (es : List (List ℕ × Row)) (a : List ℕ) → has_row (map row_at es) a ≡ is_some (lookup (bytes_eq a) es)
has_is [] a = refl
has_is (e ∷ es) a =
    ap (λ t. is_some (cond t (Some (row_at e)) (find (λ r. bytes_eq r.account a) (map row_at es)))) (equal_both e.0 a)
    ∙ has_if a e es (bytes_eq a e.0) (has_is es a)

any_if : (e : List ℕ × Row) (es : List (List ℕ × Row)) (a : List ℕ) (t : Bool) → list_any (λ x. bytes_eq x a) (keys_of es) ≡ has_row (map row_at es) a
    → (t || list_any (λ x. bytes_eq x a) (keys_of es)) ≡ is_some (cond t (Some (row_at e)) (find (λ r. bytes_eq r.account a) (map row_at es)))
any_if e es a true rest = refl
any_if e es a false rest = rest

-- it has one where it is among the accounts
pub any_key : (es : List (List ℕ × Row)) (a : List ℕ) → list_any (λ x. bytes_eq x a) (keys_of es) ≡ has_row (map row_at es) a
any_key [] a = refl
any_key (e ∷ es) a = any_if e es a (bytes_eq e.0 a) (any_key es a)

some_if : {X : Type 0} (x : X) (t : Bool) → is_some (cond t (Some x) None) ≡ (t || false)
some_if x true = refl
some_if x false = refl

or_if : (a : List ℕ) (r : AccountRow) (xs ys : List AccountRow) (t p : Bool) → has_row xs a ≡ (p || has_row ys a)
    → is_some (cond t (Some r) (find (λ x. bytes_eq x.account a) xs)) ≡ (p || is_some (cond t (Some r) (find (λ x. bytes_eq x.account a) ys)))
or_if a r xs ys true true e = refl
or_if a r xs ys true false e = refl
or_if a r xs ys false p e = e

-- a row more
pub has_more : (es : List (List ℕ × Row)) (e : List ℕ × Row) (a : List ℕ) → has_row (map row_at (es ++ e ∷ [])) a ≡ (bytes_eq e.0 a || has_row (map row_at es) a)
has_more [] e a = some_if (row_at e) (bytes_eq e.0 a)
has_more (x ∷ es) e a = or_if a (row_at x) (map row_at (es ++ e ∷ [])) (map row_at es) (bytes_eq x.0 a) (bytes_eq e.0 a) (has_more es e a)

or_own : (a b : List ℕ) (t p : Bool) → bytes_eq a b ≡ t → (t ≡ true → p ≡ true) → p ≡ (t || p)
or_own a b true p is own = own refl
or_own a b false p is own = refl

-- none more, where the account has one
pub has_own : (es : List (List ℕ × Row)) (a b : List ℕ) → is_some (lookup (bytes_eq a) es) ≡ true → has_row (map row_at es) b ≡ (bytes_eq a b || has_row (map row_at es) b)
has_own es a b there =
    or_own a b (bytes_eq a b) (has_row (map row_at es) b) refl
    (λ is. has_is es b ∙ ap (λ (x : List ℕ). is_some (lookup (bytes_eq x) es)) (sym ((bytes_eq-Decides a b).0 is)) ∙ there)

-- the last of texts that are all empty
pub last_empty : {X : Type 0} → (ws : List (List X)) (w : List X) → All (λ x. x ≡ []) (ws ++ w ∷ []) → w ≡ []
last_empty [] w all = all 0 [] (omega arith)
last_empty (x ∷ ws) w all = last_empty ws w (λ k d lt. all (suc k) d (omega (arith, lt)))
