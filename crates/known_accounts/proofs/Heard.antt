-- All rows heard at once.
use Rattle.std.proofs.Common.{◌≡◌, ◌≤◌, ℕ, zero, suc, ◌+◌, List, [], ◌∷◌, map, length, take, Bool, true, false, cond, Option, Some, None, refl, sym, ap, ◌∙◌, slice_get, arith}
use Rattle.std.specs.Prelude.{is_some}
use Rattle.std.specs.List.{find}
use Rattle.std.specs.Map.{values_of}
use Rattle.std.specs.Str.{bytes_eq}
use Rattle.indexmap.specs.IndexMap.{set_value_at}
use Rattle.centre_rules.specs.Summary.{AccountRow, row_or}
use Rattle.known_accounts.specs.declared.row.Row.{Row}
use Rattle.known_accounts.specs.Rows.{RowsValue, row_at, known, now_heard, numbers, Marked}
use Rattle.centre_rules.specs.Marks.{Starts, has_row}

-- the first so many of them heard
abbrev pub heard_first : ℕ → ℕ → List AccountRow → List AccountRow
heard_first at zero rs = rs
heard_first at (suc n) [] = []
heard_first at (suc n) (r ∷ rs) = now_heard at r ∷ heard_first at n rs

pub heard_all : (at n : ℕ) (rs : List AccountRow) → length rs ≤ n → heard_first at n rs ≡ map (now_heard at) rs
heard_all at zero [] le = refl
heard_all at zero (r ∷ rs) le = absurd (omega (arith, le))
heard_all at (suc n) [] le = refl
heard_all at (suc n) (r ∷ rs) le = ap (λ l. now_heard at r ∷ l) (heard_all at n rs (omega (arith, le)))

pub heard_step : (at n : ℕ) (es : List (List ℕ × Row)) (rs : List AccountRow) (r : Row) → map row_at es ≡ heard_first at n rs → slice_get (values_of es) n ≡ Some r
    → map row_at (set_value_at es n (record r { heard = Some at; failed = false })) ≡ heard_first at (suc n) rs
heard_step at zero [] rs r e s = absurd (cc)
heard_step at zero (x ∷ es) [] r e s = absurd (cc)
heard_step at zero (x ∷ es) (y ∷ rs) r e s =
    let first : row_at x ≡ y = cc in
    let rest : map row_at es ≡ rs = cc in
    let value : x.1 ≡ r = cc in
    λ i. now_heard at ((ap (λ (w : Row). row_at (x.0, w)) (sym value) ∙ first) i) ∷ rest i
heard_step at (suc n) [] rs r e s = absurd (cc)
heard_step at (suc n) (x ∷ es) [] r e s = absurd (cc)
heard_step at (suc n) (x ∷ es) (y ∷ rs) r e s =
    let first : row_at x ≡ now_heard at y = cc in
    let rest : map row_at es ≡ heard_first at n rs = cc in
    λ i. first i ∷ heard_step at n es rs r rest s i

start_if : (at : ℕ) (a : List ℕ) (start : Option ℕ) (r : AccountRow) (rs : List AccountRow) (t : Bool) → known (Some at) (map (now_heard at) rs) a ≡ now_heard at (known start rs a)
    → row_or (cond t (Some (now_heard at r)) (find (λ x. bytes_eq x.account a) (map (now_heard at) rs))) a (Some at) ≡ now_heard at (row_or (cond t (Some r) (find (λ x. bytes_eq x.account a) rs)) a start)
start_if at a start r rs true e = refl
start_if at a start r rs false e = e

-- after a Start each account is heard
pub known_started : (at : ℕ) (start : Option ℕ) (rs : List AccountRow) (a : List ℕ) → known (Some at) (map (now_heard at) rs) a ≡ now_heard at (known start rs a)
known_started at start [] a = refl
known_started at start (r ∷ rs) a = start_if at a start r rs (bytes_eq r.account a) (known_started at start rs a)

has_if : (at : ℕ) (a : List ℕ) (r : AccountRow) (rs : List AccountRow) (t : Bool) → has_row (map (now_heard at) rs) a ≡ has_row rs a
    → is_some (cond t (Some (now_heard at r)) (find (λ x. bytes_eq x.account a) (map (now_heard at) rs))) ≡ is_some (cond t (Some r) (find (λ x. bytes_eq x.account a) rs))
has_if at a r rs true e = refl
has_if at a r rs false e = e

has_started : (at : ℕ) (rs : List AccountRow) (a : List ℕ) → has_row (map (now_heard at) rs) a ≡ has_row rs a
has_started at [] a = refl
has_started at (r ∷ rs) a = has_if at a r rs (bytes_eq r.account a) (has_started at rs a)

pub started_marked : (at : ℕ) (start : Option ℕ) (rs ss : List AccountRow) (n k : ℕ) → ss ≡ map (now_heard at) rs
    → Marked (Starts at) (record { start = start; rows = rs; room = n }) (record { start = Some at; rows = ss; room = k })
started_marked at start rs ss n k e =
    let told : (a : List ℕ) → known (Some at) ss a ≡ now_heard at (known start rs a) = λ a. ap (λ (xs : List AccountRow). known (Some at) xs a) e ∙ known_started at start rs a in
    record {
      start = refl;
      rows = λ a. ap (λ (xs : List AccountRow). has_row xs a) e ∙ has_started at rs a;
      heard = λ a. ap (λ x. x.heard) (told a);
      failed = λ a. ap (λ x. x.failed) (told a);
      opening = λ a. ap (λ x. x.opening) (told a);
      recent = λ a. ap (λ x. take 32 x.messages) (told a);
    }

-- and has the row that it had
pub heard_numbers : (at : ℕ) (rs : List AccountRow) → numbers (map (now_heard at) rs) ≡ numbers rs
heard_numbers at [] = refl
heard_numbers at (r ∷ rs) = ap (λ l. r.account ∷ l) (heard_numbers at rs)
