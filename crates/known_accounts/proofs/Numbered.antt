-- Which accounts have a row, and where it stands.
use Rattle.std.proofs.Common.{◌≡◌, ◌<◌, ◌≤◌, ◌+◌, ◌++◌, ◌∙◌, ℕ, zero, suc, List, [], ◌∷◌, map, length, Bool, true, false, cond, Option, Some, None, refl, sym, ap, slice_get, arith}
use Rattle.std.specs.Prelude.{is_some, not, ◌||◌, if◌then◌else◌}
use Rattle.std.specs.List.{find, filter, list_any, position}
use Rattle.std.specs.Map.{keys_of, values_of, lookup}
use Rattle.std.specs.Str.{bytes_eq}
use Rattle.std.proofs.lemmas.Bool.{false≢true}
use Rattle.std.proofs.lemmas.Cmp.{nat_list_eq_equiv}
use Rattle.std.proofs.lemmas.List.{map-append}
use Rattle.std.proofs.lemmas.List.Folds.{list_any-append}
use Rattle.std.proofs.lemmas.Option.{slice_get_within}
use Rattle.std.proofs.lemmas.Slice.Eq.{bytes_eq-Decides}
use Rattle.indexmap.specs.IndexMap.{IndexMap, IsUnique, set_value_at}
use Rattle.indexmap.proofs.CallerLemmas.{updates-with_value_at}
use Rattle.indexmap.proofs.MapLemmas.{Found-position, index-first}
use Rattle.indexmap.proofs.RemoveLemmas.{own_first}
use Rattle.accounts.proofs.StandLemmas.{place-there}
use Rattle.centre_rules.specs.Marks.{Mark, has_row, keeps_row_at}
use Rattle.centre_rules.specs.Summary.{AccountRow}
use Rattle.known_accounts.specs.declared.row.Row.{Row}
use Rattle.known_accounts.specs.Rows.{RowsValue, row_at, known, blank, numbers, lacking, HasRoom, IsRowOf, StandsAt, MakesRow, KeepsRows, Marked}
use Rattle.known_accounts.proofs.Found.{from_row, known_is, known_blank, has_is}
use Rattle.known_accounts.proofs.Written.{WritesAt, remade}

-- the accounts of the rows are the keys of the map
pub numbers_are : (es : List (List ℕ × Row)) → numbers (map row_at es) ≡ keys_of es
numbers_are [] = refl
numbers_are (e ∷ es) = ap (λ l. e.0 ∷ l) (numbers_are es)

any_if : (t : Bool) (r : AccountRow) (p : Bool) (o : Option AccountRow) → p ≡ is_some o → (t || p) ≡ is_some (cond t (Some r) o)
any_if true r p o e = refl
any_if false r p o e = e

-- an account has a row where it is one of these
pub any_number : (rs : List AccountRow) (a : List ℕ) → list_any (λ x. bytes_eq x a) (numbers rs) ≡ has_row rs a
any_number [] a = refl
any_number (r ∷ rs) a =
    any_if (bytes_eq r.account a) r (list_any (λ x. bytes_eq x a) (numbers rs)) (find (λ x. bytes_eq x.account a) rs) (any_number rs a)

-- Where a row stands.

own_if : (a : List ℕ) (e : List ℕ × Row) (es : List (List ℕ × Row)) (b : Bool) → bytes_eq a e.0 ≡ b → is_some (cond b (Some e.1) (lookup (bytes_eq a) es)) ≡ true
    → (is_some (lookup (bytes_eq a) es) ≡ true → find (bytes_eq a) (keys_of es) ≡ Some a) → cond b (Some e.0) (find (bytes_eq a) (keys_of es)) ≡ Some a
own_if a e es true is found rest = ap Some (sym ((bytes_eq-Decides a e.0).0 is))
own_if a e es false is found rest = rest found

find_own : (a : List ℕ) (es : List (List ℕ × Row)) → is_some (lookup (bytes_eq a) es) ≡ true → find (bytes_eq a) (keys_of es) ≡ Some a
find_own a [] found = absurd (false≢true found)
find_own a (e ∷ es) found = own_if a e es (bytes_eq a e.0) refl found (find_own a es)

-- at the place that was found
stands_found : (es : List (List ℕ × Row)) (a : List ℕ) (i : ℕ) → Some i ≡ position (bytes_eq a) (keys_of es) → is_some (lookup (bytes_eq a) es) ≡ true
    → StandsAt a i (map row_at es)
stands_found es a i at found =
    ap (λ l. slice_get l i) (numbers_are es) ∙ place-there (bytes_eq a) (keys_of es) (Some i) at
    ∙ find_own a es found

-- which is the place of its row, where it has one
pub row_found : (es : List (List ℕ × Row)) (a : List ℕ) (row : Option ℕ) → row ≡ position (bytes_eq a) (keys_of es) → is_some row ≡ is_some (lookup (bytes_eq a) es)
    → IsRowOf a row (map row_at es)
row_found es a None at found = record { there = tt; found = found ∙ sym (has_is es a) }
row_found es a (Some i) at found = record { there = stands_found es a i at (sym found); found = found ∙ sym (has_is es a) }

last_of : (es : List (List ℕ × Row)) (a : List ℕ) (r : Row) → slice_get (keys_of (es ++ (a, r) ∷ [])) (length es) ≡ Some a
last_of [] a r = refl
last_of (e ∷ es) a r = last_of es a r

-- or behind the others
pub stands_last : (es : List (List ℕ × Row)) (a : List ℕ) (r : Row) → StandsAt a (length es) (map row_at (es ++ (a, r) ∷ []))
stands_last es a r = ap (λ l. slice_get l (length es)) (numbers_are (es ++ (a, r) ∷ [])) ∙ last_of es a r

-- Rows that are made.

lacking_if : (t : Bool) (a : List ℕ) → length (cond (not t) (a ∷ []) []) ≡ cond t 0 1
lacking_if true a = refl
lacking_if false a = refl

pub lacks_one : (v : RowsValue) (a : List ℕ) → has_row v.rows a ≡ false → length (lacking v.rows (a ∷ [])) ≡ 1
lacks_one v a none = lacking_if (has_row v.rows a) a ∙ ap (λ t. cond t 0 1) none

-- none where the account has one
pub made_none : (v : RowsValue) (a : List ℕ) → has_row v.rows a ≡ true → MakesRow a v v
made_none v a has = record {
  start = refl;
  known = λ b. refl;
  rows = sym (ap (λ t. if t then numbers v.rows else numbers v.rows ++ a ∷ []) has);
  room = omega arith;
}

-- one behind the others, where it has none
pub made_last : (start : Option ℕ) (es : List (List ℕ × Row)) (a : List ℕ) (n k : ℕ) → has_row (map row_at es) a ≡ false → n ≡ k + 1
    → MakesRow a (record { start = start; rows = map row_at es; room = n }) (record { start = start; rows = map row_at (es ++ (a, blank start) ∷ []); room = k })
made_last start es a n k none room = record {
  start = refl;
  known = λ b. known_blank start es a b;
  rows =
      numbers_are (es ++ (a, blank start) ∷ []) ∙ map-append (λ e. e.0) es ((a, blank start) ∷ []) ∙ ap (λ l. l ++ a ∷ []) (sym (numbers_are es))
      ∙ sym (ap (λ t. if t then numbers (map row_at es) else numbers (map row_at es) ++ a ∷ []) none);
  room = omega (arith, room, lacks_one (record { start = start; rows = map row_at es; room = n }) a none);
}

or_again : (p q : Bool) → (p || (q || (p || false))) ≡ (p || q)
or_again true q = refl
or_again false true = refl
or_again false false = refl

made_rows : (a b : List ℕ) (v w : RowsValue) (t : Bool) → has_row v.rows a ≡ t → numbers w.rows ≡ (if t then numbers v.rows else numbers v.rows ++ a ∷ [])
    → (bytes_eq a b || has_row w.rows b) ≡ (bytes_eq a b || has_row v.rows b)
made_rows a b v w true is rows =
    ap (λ p. bytes_eq a b || p) (sym (any_number w.rows b) ∙ ap (list_any (λ x. bytes_eq x b)) rows ∙ any_number v.rows b)
made_rows a b v w false is rows =
    ap (λ p. bytes_eq a b || p)
    (sym (any_number w.rows b) ∙ ap (list_any (λ x. bytes_eq x b)) rows ∙ list_any-append (λ x. bytes_eq x b) (numbers v.rows) (a ∷ []))
    ∙ or_again (bytes_eq a b) (list_any (λ x. bytes_eq x b) (numbers v.rows)) ∙ ap (λ p. bytes_eq a b || p) (any_number v.rows b)

-- a row that is made tells nothing: a mark of its account behind it is one of what was known before
pub made_marked : (a : List ℕ) (m : Mark) (v u w : RowsValue) → ((b : List ℕ) (p : Bool) → keeps_row_at b m p ≡ (bytes_eq a b || p)) → MakesRow a v u
    → Marked m u w → Marked m v w
made_marked a m v u w own made marked =
    remade m v u w made.start made.known
    (λ b. own b (has_row u.rows b) ∙ made_rows a b v u (has_row v.rows a) refl made.rows ∙ sym (own b (has_row v.rows b))) marked

-- Rows written through.

both_at : (es : List (List ℕ × Row)) (i : ℕ) (a : List ℕ) (r : Row) → slice_get (keys_of es) i ≡ Some a → slice_get (values_of es) i ≡ Some r → slice_get es i ≡ Some (a, r)
both_at [] i a r key value = absurd (cc)
both_at (e ∷ es) zero a r key value =
    let here : e.0 ≡ a = cc in
    let there : e.1 ≡ r = cc in
    λ j. Some (here j, there j)
both_at (e ∷ es) (suc i) a r key value = both_at es i a r key value

pub writes_at : {S : Type 0} (m : IndexMap (List ℕ) Row S) (i : ℕ) (a : List ℕ) (r w : Row) → IsUnique bytes_eq m → StandsAt a i (map row_at m.entries)
    → slice_get (values_of m.entries) i ≡ Some r → WritesAt a r w m.entries (set_value_at m.entries i w)
writes_at m i a r w unique stands value =
    let at = both_at m.entries i a r (ap (λ l. slice_get l i) (sym (numbers_are m.entries)) ∙ stands) value in
    record {
      before = (Found-position (bytes_eq a) m.entries i (index-first (bytes_eq a) m.entries i (own_first bytes_eq nat_list_eq_equiv m.entries i a r unique at))).value ∙ value;
      after = (updates-with_value_at m i w nat_list_eq_equiv unique a r at).0;
    }

key_of : (es : List (List ℕ × Row)) (i : ℕ) (k : List ℕ) (r : Row) → slice_get es i ≡ Some (k, r) → slice_get (keys_of es) i ≡ Some k
key_of [] i k r at = absurd (cc)
key_of (e ∷ es) zero k r at = let here : e ≡ (k, r) = cc in ap (λ x. Some x.0) here
key_of (e ∷ es) (suc i) k r at = key_of es i k r at

-- what is known of the account whose row stands at a place
pub told_at : (start : Option ℕ) (es : List (List ℕ × Row)) (i : ℕ) (a k : List ℕ) (r : Row) → StandsAt a i (map row_at es) → slice_get es i ≡ Some (k, r)
    → lookup (bytes_eq k) es ≡ Some r → known start (map row_at es) a ≡ row_at (a, r)
told_at start es i a k r stands at value =
    let both : Some k ≡ Some a = sym (key_of es i k r at) ∙ ap (λ l. slice_get l i) (sym (numbers_are es)) ∙ stands in
    let same : k ≡ a = cc in
    known_is start es a ∙ ap (from_row start a) (ap (λ x. lookup (bytes_eq x) es) (sym same) ∙ value)

-- a write leaves the accounts
set_keys : (es : List (List ℕ × Row)) (i : ℕ) (w : Row) → keys_of (set_value_at es i w) ≡ keys_of es
set_keys [] i w = refl
set_keys (e ∷ es) zero w = refl
set_keys (e ∷ es) (suc i) w = ap (λ l. e.0 ∷ l) (set_keys es i w)

pub numbers_kept : (es : List (List ℕ × Row)) (i : ℕ) (w : Row) → numbers (map row_at (set_value_at es i w)) ≡ numbers (map row_at es)
numbers_kept es i w = numbers_are (set_value_at es i w) ∙ set_keys es i w ∙ sym (numbers_are es)

-- a place at which an account stands is one of a row
numbers_long : (rs : List AccountRow) → length (numbers rs) ≡ length rs
numbers_long [] = refl
numbers_long (r ∷ rs) = ap suc (numbers_long rs)

pub stands_within : (rs : List AccountRow) (a : List ℕ) (i : ℕ) → StandsAt a i rs → i < length rs
stands_within rs a i stands = omega (arith, slice_get_within (numbers rs) i a stands, numbers_long rs)

pub stands_kept : (v w : RowsValue) (a : List ℕ) (i : ℕ) → KeepsRows v w → StandsAt a i v.rows → StandsAt a i w.rows
stands_kept v w a i kept stands = ap (λ l. slice_get l i) kept.rows ∙ stands

-- Room.

-- those of these accounts that are none of the others
abbrev besides : List (List ℕ) → List (List ℕ) → List (List ℕ)
besides others accounts = filter (λ a. not (list_any (λ x. bytes_eq x a) others)) accounts

lacking_is : (rs : List AccountRow) (accounts : List (List ℕ)) → lacking rs accounts ≡ besides (numbers rs) accounts
lacking_is rs [] = refl
lacking_is rs (a ∷ accounts) =
    ap (λ t. cond (not t) (a ∷ lacking rs accounts) (lacking rs accounts)) (sym (any_number rs a))
    ∙ ap (λ l. cond (not (list_any (λ x. bytes_eq x a) (numbers rs))) (a ∷ l) l) (lacking_is rs accounts)

fewer_if : (s t : Bool) (a : List ℕ) (xs ys : List (List ℕ)) → length xs ≤ length ys → length (cond (not (s || t)) (a ∷ xs) xs) ≤ length (cond (not s) (a ∷ ys) ys)
fewer_if true t a xs ys le = le
fewer_if false true a xs ys le = omega (arith, le)
fewer_if false false a xs ys le = omega (arith, le)

fewer : (others more accounts : List (List ℕ)) → length (besides (others ++ more) accounts) ≤ length (besides others accounts)
fewer others more [] = omega arith
fewer others more (a ∷ accounts) =
    rw (list_any-append (λ x. bytes_eq x a) others more)
    (fewer_if (list_any (λ x. bytes_eq x a) others) (list_any (λ x. bytes_eq x a) more) a (besides (others ++ more) accounts) (besides others accounts) (fewer others more accounts))

lacks : (v : RowsValue) (accounts : List (List ℕ)) → length (lacking v.rows accounts) ≡ length (besides (numbers v.rows) accounts)
lacks v accounts = ap length (lacking_is v.rows accounts)

room_if : (t : Bool) (a : List ℕ) (rest : List (List ℕ)) (v w : RowsValue) → has_row v.rows a ≡ t
    → numbers w.rows ≡ (if t then numbers v.rows else numbers v.rows ++ a ∷ []) → v.room ≤ w.room + cond t 0 1
    → length (cond (not t) (a ∷ lacking v.rows rest) (lacking v.rows rest)) ≤ v.room → HasRoom rest w
room_if true a rest v w is rows room enough = omega (arith, room, enough, ap (λ l. length (besides l rest)) rows, lacks v rest, lacks w rest)
room_if false a rest v w is rows room enough =
    omega (arith, room, enough, ap (λ l. length (besides l rest)) rows, fewer (numbers v.rows) (a ∷ []) rest, lacks v rest, lacks w rest)

-- once the row of an account is made, there is room for those of the others
pub room_left : (a : List ℕ) (rest : List (List ℕ)) (v w : RowsValue) → MakesRow a v w → HasRoom (a ∷ rest) v → HasRoom rest w
room_left a rest v w made enough =
    room_if (has_row v.rows a) a rest v w refl made.rows (omega (arith, made.room, lacking_if (has_row v.rows a) a)) enough

one_if : (t : Bool) (a : List ℕ) (xs : List (List ℕ)) (n : ℕ) → length (cond (not t) (a ∷ xs) xs) ≤ n → length (cond (not t) (a ∷ []) []) ≤ n
one_if true a xs n le = omega arith
one_if false a xs n le = omega (arith, le)

at_most_one : (t : Bool) (a : List ℕ) → length (cond (not t) (a ∷ []) []) ≤ 1
at_most_one true a = omega arith
at_most_one false a = omega arith

-- there is room for a row of one account where there is room for any
pub room_for_one : (v : RowsValue) (a : List ℕ) → 1 ≤ v.room → HasRoom (a ∷ []) v
room_for_one v a room = omega (arith, room, at_most_one (has_row v.rows a) a)

-- and for its own alone
pub room_first : (a : List ℕ) (rest : List (List ℕ)) (v : RowsValue) → HasRoom (a ∷ rest) v → HasRoom (a ∷ []) v
room_first a rest v enough = one_if (has_row v.rows a) a (lacking v.rows rest) v.room enough

pub room_kept : (accounts : List (List ℕ)) (v w : RowsValue) → KeepsRows v w → HasRoom accounts v → HasRoom accounts w
room_kept accounts v w kept enough =
    omega (arith, enough, kept.room, ap (λ l. length (besides l accounts)) kept.rows, lacks v accounts, lacks w accounts)
