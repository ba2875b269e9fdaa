-- The accounts that a history names stand in their order, and so do the rows of its summary.
use Rattle.std.proofs.Common.{◌≡◌, ℕ, List, [], ◌∷◌, map, Bool, true, false, cond, refl, sym, ap, ◌∙◌}
use Rattle.std.specs.declared.cmp.Ordering.{Ordering}
use Rattle.std.specs.declared.cmp.Ordering.TheVariants.{Less, Equal, Greater}
use Rattle.std.specs.Cmp.{unsigned_ties}
use Rattle.std.specs.Cmp.Lexicographic.{slice_cmp, lists_ties}
use Rattle.std.specs.Ordering.{nat_cmp, is_lt, is_eq, ordering_reverse}
use Rattle.std.specs.Str.{bytes_eq}
use Rattle.std.proofs.lemmas.Bool.{false≢true}
use Rattle.std.proofs.lemmas.Cmp.{nat_list_cmp_total}
use Rattle.centre_rules.specs.Summary.{Summary, AccountRow}
use Rattle.centre_rules.specs.Marks.{Mark, Sends, Hears, Carries}
use Rattle.centre_rules.specs.History.{marks}
use Rattle.centre_rules.specs.Sums.{named, names_at, names, account_row}
use Rattle.summary_rules.specs.Lists.{Every, EveryTwo}
use Rattle.summary_rules.specs.Conditions.{IsRowBefore}
use Rattle.summary_rules.specs.Laws.{RowsAscend}
use Rattle.summary_rules.proofs.Everies.{every_weaker}

abbrev order : List ℕ → List ℕ → Ordering
order a b = slice_cmp nat_cmp a b

-- the first account stands before the other
abbrev pub IsBefore : List ℕ → List ℕ → Type 0
IsBefore a b = is_lt (order a b) ≡ true

less : (o : Ordering) → is_lt o ≡ true → o ≡ Less
less Less e = refl
less Equal e = absurd (false≢true e)
less Greater e = absurd (false≢true e)

before_both : (a b c : List ℕ) → IsBefore a b → IsBefore b c → IsBefore a c
before_both a b c p q = ap is_lt (nat_list_cmp_total.trans a b c (less (order a b) p) (less (order b c) q))

-- of two that are not equal, one stands before the other
turned : (o r : Ordering) → r ≡ ordering_reverse o → is_lt o ≡ false → is_eq r ≡ false → is_lt r ≡ true
turned Less r e lt eq = absurd (false≢true (sym lt))
turned Equal r e lt eq = absurd (false≢true (sym eq ∙ ap is_eq e))
turned Greater r e lt eq = ap is_lt e

behind : (a x : List ℕ) → bytes_eq x a ≡ false → is_lt (order a x) ≡ false → IsBefore x a
behind a x apart lt =
    turned (order a x) (order x a) (nat_list_cmp_total.antisymm x a) lt (sym (lists_ties nat_cmp unsigned_ties x a) ∙ apart)

-- An account put in its place.

every_if : (P : List ℕ → Type 0) (a x : List ℕ) (xs : List (List ℕ)) (b c : Bool) → P a → Every P (x ∷ xs) → Every P (named a xs)
    → Every P (cond b (x ∷ xs) (cond c (a ∷ x ∷ xs) (x ∷ named a xs)))
every_if P a x xs true c p w v = w
every_if P a x xs false true p w v = (p, w)
every_if P a x xs false false p w v = (w.0, v)

pub every_named : (P : List ℕ → Type 0) (a : List ℕ) (xs : List (List ℕ)) → P a → Every P xs → Every P (named a xs)
every_named P a [] p w = (p, tt)
every_named P a (x ∷ xs) p w = every_if P a x xs (bytes_eq x a) (is_lt (order a x)) p w (every_named P a xs p w.1)

ascend_if : (a x : List ℕ) (xs : List (List ℕ)) (b c : Bool) → bytes_eq x a ≡ b → is_lt (order a x) ≡ c → EveryTwo IsBefore (x ∷ xs)
    → EveryTwo IsBefore (named a xs) → EveryTwo IsBefore (cond b (x ∷ xs) (cond c (a ∷ x ∷ xs) (x ∷ named a xs)))
ascend_if a x xs true c e f w v = w
ascend_if a x xs false true e f w v = ((f, every_weaker (IsBefore x) (IsBefore a) (λ y p. before_both a x y f p) xs w.0), w)
ascend_if a x xs false false e f w v = (every_named (IsBefore x) a xs (behind a x e f) w.0, v)

named_ascend : (a : List ℕ) (xs : List (List ℕ)) → EveryTwo IsBefore xs → EveryTwo IsBefore (named a xs)
named_ascend a [] w = (tt, tt)
named_ascend a (x ∷ xs) w = ascend_if a x xs (bytes_eq x a) (is_lt (order a x)) refl refl w (named_ascend a xs w.1)

-- Rows and their accounts.

before_rows : (r : AccountRow) (rows : List AccountRow) → Every (IsRowBefore r) rows → Every (IsBefore r.account) (map (λ r. r.account) rows)
before_rows r [] w = tt
before_rows r (x ∷ rows) w = (w.0, before_rows r rows w.1)

accounts_ascend : (rows : List AccountRow) → EveryTwo IsRowBefore rows → EveryTwo IsBefore (map (λ r. r.account) rows)
accounts_ascend [] w = tt
accounts_ascend (r ∷ rows) w = (before_rows r rows w.0, accounts_ascend rows w.1)

rows_before : (s : Summary) (ms : List Mark) (a : List ℕ) (xs : List (List ℕ)) → Every (IsBefore a) xs → Every (IsRowBefore (account_row s ms a)) (map (account_row s ms) xs)
rows_before s ms a [] w = tt
rows_before s ms a (x ∷ xs) w = (w.0, rows_before s ms a xs w.1)

rows_ascend_of : (s : Summary) (ms : List Mark) (xs : List (List ℕ)) → EveryTwo IsBefore xs → EveryTwo IsRowBefore (map (account_row s ms) xs)
rows_ascend_of s ms [] w = tt
rows_ascend_of s ms (x ∷ xs) w = (rows_before s ms x xs w.0, rows_ascend_of s ms xs w.1)

pub names_ascend : (s : Summary) (ms : List Mark) → EveryTwo IsRowBefore s.rows → EveryTwo IsBefore (names s ms)
names_ascend s [] w = accounts_ascend s.rows w
names_ascend s (m ∷ ms) w = by m (names_ascend s ms w)
  where
    by : (m : Mark) → EveryTwo IsBefore (names s ms) → EveryTwo IsBefore (names_at m (names s ms))
    by (Sends message at) v = named_ascend message.account (names s ms) v
    by (Hears account at) v = named_ascend account (names s ms) v
    by (Carries x) v = named_ascend x.account (names s ms) v
    by m v = v

pub rows_ascend : RowsAscend
rows_ascend s h w = rows_ascend_of s (marks s h) (names s (marks s h)) (names_ascend s (marks s h) w)
