-- A row written through: what is known of its account, and of the others.
use Rattle.std.proofs.Common.{◌≡◌, ℕ, zero, suc, List, [], ◌∷◌, map, take, Bool, true, false, cond, Option, Some, None, refl, sym, ap, ◌∙◌, subst}
use Rattle.std.specs.Prelude.{◌&&◌, ◌||◌, is_some}
use Rattle.std.specs.Map.{lookup}
use Rattle.std.specs.Str.{bytes_eq}
use Rattle.std.proofs.lemmas.Slice.Eq.{bytes_eq-Decides}
use Rattle.arc_data.specs.Classes.{same_class}
use Rattle.arc_data.specs.declared.event.Message.{Message}
use Rattle.arc_data.specs.declared.signal.Class.TheVariants.{CommFail, LateClose}
use Rattle.centre_rules.specs.Marks.{Mark, Hears, Sends, Carries, Carried, opening_by, is_raised, start_at, has_row, keeps_row_at, heard_at, failed_at, opening_at, messages_at}
use Rattle.centre_rules.specs.Summary.{AccountRow, Past, Opened}
use Rattle.known_accounts.specs.declared.row.Row.{Row}
use Rattle.known_accounts.specs.Rows.{RowsValue, row_at, row_in, known, Marked}
use Rattle.known_accounts.proofs.Found.{from_row, known_is, has_is}

-- in fs stands w at the account a, where es has r, and all else as in es
pub record WritesAt (a : List ℕ) (r w : Row) (es fs : List (List ℕ × Row)) : Type 0 where
  pub before : lookup (bytes_eq a) es ≡ Some r
  pub after : (b : List ℕ) → lookup (bytes_eq b) fs ≡ cond (bytes_eq a b) (Some w) (lookup (bytes_eq b) es)

module _ (start : Option ℕ) {a : List ℕ} {r w : Row} {es fs : List (List ℕ × Row)} (writes : WritesAt a r w es fs) (b : List ℕ) where
  own_before : (t : Bool) → bytes_eq a b ≡ t → known start (map row_at es) b ≡ cond t (row_at (b, r)) (known start (map row_at es) b)
  own_before true is = known_is start es b ∙ ap (from_row start b) (ap (λ x. lookup (bytes_eq x) es) (sym ((bytes_eq-Decides a b).0 is)) ∙ writes.before)
  own_before false is = refl

  if_row : (t : Bool) → from_row start b (cond t (Some w) (lookup (bytes_eq b) es)) ≡ cond t (row_at (b, w)) (from_row start b (lookup (bytes_eq b) es))
  if_row true = refl
  if_row false = refl

  own_after : known start (map row_at fs) b ≡ cond (bytes_eq a b) (row_at (b, w)) (known start (map row_at es) b)
  own_after =
      known_is start fs b ∙ ap (from_row start b) (writes.after b) ∙ if_row (bytes_eq a b)
      ∙ ap (cond (bytes_eq a b) (row_at (b, w))) (sym (known_is start es b))

  part_if : {X : Type 0} (f : AccountRow → X) (t : Bool) (k : AccountRow) (y : X → X) → k ≡ cond t (row_at (b, r)) k → f (row_at (b, w)) ≡ y (f (row_at (b, r)))
      → f (cond t (row_at (b, w)) k) ≡ cond t (y (f k)) (f k)
  part_if f true k y is e = e ∙ ap (λ (x : AccountRow). y (f x)) (sym is)
  part_if f false k y is e = refl

  -- a part of what is known, of which the write makes y of what it was
  pub part : {X : Type 0} (f : AccountRow → X) (y : X → X) → f (row_at (b, w)) ≡ y (f (row_at (b, r))) → f (known start (map row_at fs) b) ≡ cond (bytes_eq a b) (y (f (known start (map row_at es) b))) (f (known start (map row_at es) b))
  part f y e = ap f own_after ∙ part_if f (bytes_eq a b) (known start (map row_at es) b) y (own_before (bytes_eq a b) refl) e

some_at : {X : Type 0} (t : Bool) (x : X) (o : Option X) → is_some (cond t (Some x) o) ≡ (t || is_some o)
some_at true x o = refl
some_at false x o = refl

-- which accounts have a row behind the write
pub has_written : {a : List ℕ} {r w : Row} {es fs : List (List ℕ × Row)} → WritesAt a r w es fs → (b : List ℕ) → has_row (map row_at fs) b ≡ (bytes_eq a b || has_row (map row_at es) b)
has_written {a} {r} {w} {es} {fs} writes b =
    has_is fs b ∙ ap is_some (writes.after b) ∙ some_at (bytes_eq a b) w (lookup (bytes_eq b) es) ∙ ap (λ p. bytes_eq a b || p) (sym (has_is es b))

or_twice : (p q : Bool) → (p || (p || q)) ≡ (p || q)
or_twice true q = refl
or_twice false q = refl

-- a row that was made, and then written through
pub made_twice : (a b : List ℕ) (us vs : List AccountRow) → has_row us b ≡ (bytes_eq a b || has_row vs b) → (bytes_eq a b || has_row us b) ≡ (bytes_eq a b || has_row vs b)
made_twice a b us vs e = ap (λ p. bytes_eq a b || p) e ∙ or_twice (bytes_eq a b) (has_row vs b)

same_if : {X : Type 0} (t : Bool) (x : X) → cond t x x ≡ x
same_if true x = refl
same_if false x = refl

-- what is known, and nothing of it changed by a row that tells nothing
pub remade : (m : Mark) (v u w : RowsValue) → u.start ≡ v.start → ((a : List ℕ) → row_in u a ≡ row_in v a)
    → ((a : List ℕ) → keeps_row_at a m (has_row u.rows a) ≡ keeps_row_at a m (has_row v.rows a)) → Marked m u w → Marked m v w
remade m v u w start same rows marked = record {
  start = marked.start ∙ ap (start_at m) start;
  rows = λ a. marked.rows a ∙ rows a;
  heard = λ a. marked.heard a ∙ ap (λ (x : AccountRow). heard_at a m x.heard) (same a);
  failed = λ a. marked.failed a ∙ ap (λ (x : AccountRow). failed_at a m x.failed) (same a);
  opening = λ a. marked.opening a ∙ ap (λ (x : AccountRow). opening_at a m x.opening) (same a);
  recent = λ a. marked.recent a ∙ ap (λ (x : AccountRow). take 32 (messages_at a m x.messages)) (same a);
}

pub none_of : {X : Type 0} → (o : Option X) → is_some o ≡ false → o ≡ None
none_of None e = refl
none_of (Some x) e = absurd (cc)

-- Heard.

pub heard_marked : (a : List ℕ) (at : ℕ) (start : Option ℕ) (r : Row) (es fs : List (List ℕ × Row)) (n k : ℕ) → WritesAt a r (record r { heard = Some at; failed = false }) es fs
    → Marked (Hears a at) (record { start = start; rows = map row_at es; room = n }) (record { start = start; rows = map row_at fs; room = k })
heard_marked a at start r es fs n k w = record {
  start = refl;
  rows = λ b. has_written w b;
  heard = λ b. part start w b (λ x. x.heard) (λ x. Some at) refl;
  failed = λ b. part start w b (λ x. x.failed) (λ x. false) refl;
  opening = λ b. part start w b (λ x. x.opening) (λ x. x) refl ∙ same_if (bytes_eq a b) _;
  recent = λ b. ap (take 32) (part start w b (λ x. x.messages) (λ x. x) refl ∙ same_if (bytes_eq a b) _);
}

-- Sent.

front : {X : Type 0} → (n : ℕ) (xs : List X) → take n (take n xs) ≡ take n xs
front zero xs = refl
front (suc n) [] = refl
front (suc n) (x ∷ xs) = ap (λ l. x ∷ l) (front n xs)

front_if : (t : Bool) (x y : List Past) → take 32 (cond t (take 32 x) y) ≡ take 32 (cond t x y)
front_if true x y = front 32 x
front_if false x y = refl

pub sent_marked : (m : Message) (at : ℕ) (start : Option ℕ) (r : Row) (es fs : List (List ℕ × Row)) (n k : ℕ)
    → WritesAt m.account r (record r { heard = Some at; failed = false; window = take 32 (record { message = m; at = at } ∷ r.window) }) es fs
    → Marked (Sends m at) (record { start = start; rows = map row_at es; room = n }) (record { start = start; rows = map row_at fs; room = k })
sent_marked m at start r es fs n k w = record {
  start = refl;
  rows = λ b. has_written w b;
  heard = λ b. part start w b (λ x. x.heard) (λ x. Some at) refl;
  failed = λ b. part start w b (λ x. x.failed) (λ x. false) refl;
  opening = λ b. part start w b (λ x. x.opening) (λ x. x) refl ∙ same_if (bytes_eq m.account b) _;
  recent = λ b. ap (take 32) (part start w b (λ x. x.messages) (λ x. take 32 (record { message = m; at = at } ∷ x)) refl) ∙ front_if (bytes_eq m.account b) _ _;
}

-- Carried.

raised_if : (p t : Bool) (x : Bool) → cond t (p || x) x ≡ ((p && t) || x)
raised_if true true x = refl
raised_if false true x = refl
raised_if true false x = refl
raised_if false false x = refl

and_true : (p : Bool) → (p && true) ≡ p
and_true true = refl
and_true false = refl

opened_if : (x : Carried) (p t : Bool) (o : Option Opened) → cond t (opening_by x.signal.kind x.at p o) o ≡ cond t (opening_by x.signal.kind x.at (p && t) o) o
opened_if x p true o = ap (λ q. opening_by x.signal.kind x.at q o) (sym (and_true p))
opened_if x p false o = refl

pub carried_marked : (x : Carried) (start : Option ℕ) (r : Row) (es fs : List (List ℕ × Row)) (n k : ℕ)
    → WritesAt x.account r (record r { failed = (x.by_tick && same_class x.signal.class CommFail) || r.failed; opening = opening_by x.signal.kind x.at (x.by_tick && same_class x.signal.class LateClose) r.opening }) es fs
    → Marked (Carries x) (record { start = start; rows = map row_at es; room = n }) (record { start = start; rows = map row_at fs; room = k })
carried_marked x start r es fs n k w = record {
  start = refl;
  rows = λ b. has_written w b;
  heard = λ b. part start w b (λ y. y.heard) (λ y. y) refl ∙ same_if (bytes_eq x.account b) _;
  failed = λ b. part start w b (λ y. y.failed) (λ y. (x.by_tick && same_class x.signal.class CommFail) || y) refl ∙ raised_if (x.by_tick && same_class x.signal.class CommFail) (bytes_eq x.account b) _;
  opening = λ b. part start w b (λ y. y.opening) (λ y. opening_by x.signal.kind x.at (x.by_tick && same_class x.signal.class LateClose) y) refl ∙ opened_if x (x.by_tick && same_class x.signal.class LateClose) (bytes_eq x.account b) _;
  recent = λ b. ap (take 32) (part start w b (λ y. y.messages) (λ y. y) refl ∙ same_if (bytes_eq x.account b) _);
}
