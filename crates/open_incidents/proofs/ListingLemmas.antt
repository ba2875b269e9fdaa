-- The first rows of a list that is put in order.
use Rattle.std.proofs.Common.{◌≡◌, ◌≤◌, ◌<◌, ◌+◌, ℕ, zero, suc, List, [], ◌∷◌, map, length, take, drop, Bool, true, false, cond, refl, sym, ap, ◌∙◌, arith, get_or, drop-cons}
use Rattle.std.specs.Prelude.{not, nat_lt, Option, Some, None}
use Rattle.std.specs.List.{insert, position, position_or_len, cons_option}
use Rattle.std.proofs.lemmas.Bool.Decides.{nat_tests}
use Rattle.std.proofs.lemmas.List.{length-take, length-map}
use Rattle.std.proofs.lemmas.List.Sums.{prefix_len-le-length}
use Rattle.arc_data.specs.declared.incident.Incident.{Incident}
use Rattle.arc_data.specs.declared.listing.Listing.{Listing}
use Rattle.arc_data.specs.declared.listing.Row.{Row}
use Rattle.arc_data.specs.declared.reply.Reply.TheVariants.{Listed}
use Rattle.centre_rules.specs.Desks.{on_list, row_of, is_before, inserted, sorted}
use Rattle.centre_rules.specs.Standing.{stands_at, standing_of}
use Rattle.incidents.specs.declared.slots.Slot.{Slot}
use Rattle.incidents.specs.Slots.{standing, open_of}
use Rattle.open_incidents.specs.Listings.{comes_before, put_in}

-- The place that a search tells.

told_if : (b : Bool) (m n : ℕ) → cond b (Some m) None ≡ Some n → n ≡ m
told_if true m n e = cc
told_if false m n e = cc

pub place_told : (r : Row) (xs : List Row) (n : ℕ) → position (comes_before r) xs ≡ Some n → n ≡ position_or_len (comes_before r) xs
place_told r xs n e = told_if (nat_lt (position_or_len (comes_before r) xs) (length xs)) (position_or_len (comes_before r) xs) n e

last_if : (m n : ℕ) (b : Bool) → nat_lt m n ≡ b → m ≤ n → cond b (Some m) None ≡ None → n ≡ m
last_if m n true t le e = cc
last_if m n false t le e = grind (arith, nat_tests)

pub place_last : (r : Row) (xs : List Row) → position (comes_before r) xs ≡ None → length xs ≡ position_or_len (comes_before r) xs
place_last r xs e = last_if (position_or_len (comes_before r) xs) (length xs) (nat_lt (position_or_len (comes_before r) xs) (length xs)) refl (prefix_len-le-length (λ x. not (comes_before r x)) xs) e

-- Rows put in.

insert_next : (r x : Row) (xs : List Row) (n : ℕ) → insert (x ∷ xs) (1 + n) r ≡ x ∷ insert xs n r
insert_next r x xs n = let next : 1 + n ≡ suc n = omega arith in rw next refl

place_if : (r x : Row) (xs : List Row) (b : Bool) → comes_before r x ≡ b → insert xs (position_or_len (comes_before r) xs) r ≡ put_in r xs
    → insert (x ∷ xs) (cond (not b) (1 + position_or_len (comes_before r) xs) 0) r ≡ cond b (r ∷ x ∷ xs) (x ∷ put_in r xs)
place_if r x xs true e rest = refl
place_if r x xs false e rest = insert_next r x xs (position_or_len (comes_before r) xs) ∙ ap (λ l. x ∷ l) rest

-- put in at the place before the first that comes after it
pub placed : (r : Row) (xs : List Row) → insert xs (position_or_len (comes_before r) xs) r ≡ put_in r xs
placed r [] = refl
placed r (x ∷ xs) = place_if r x xs (comes_before r x) refl (placed r xs)

-- only the first so many matter to the first so many
take_front : {X : Type 0} → (n : ℕ) (xs : List X) → take n (take (suc n) xs) ≡ take n xs
take_front zero xs = refl
take_front (suc n) [] = refl
take_front (suc n) (x ∷ xs) = ap (λ l. x ∷ l) (take_front n xs)

first_if : (n : ℕ) (r x : Row) (xs : List Row) (b : Bool) → take n (put_in r (take n xs)) ≡ take n (put_in r xs)
    → take (suc n) (cond b (r ∷ x ∷ take n xs) (x ∷ put_in r (take n xs))) ≡ take (suc n) (cond b (r ∷ x ∷ xs) (x ∷ put_in r xs))
first_if n r x xs true rest = ap (λ l. r ∷ l) (take_front n (x ∷ xs))
first_if n r x xs false rest = ap (λ l. x ∷ l) rest

pub first_put : (n : ℕ) (r : Row) (xs : List Row) → take n (put_in r (take n xs)) ≡ take n (put_in r xs)
first_put zero r xs = refl
first_put (suc n) r [] = refl
first_put (suc n) r (x ∷ xs) = first_if n r x xs (comes_before r x) (first_put n r xs)

rows_if : (i j : Incident) (js : List Incident) (b : Bool) → map row_of (inserted i js) ≡ put_in (row_of i) (map row_of js)
    → map row_of (cond b (i ∷ j ∷ js) (j ∷ inserted i js)) ≡ cond b (row_of i ∷ row_of j ∷ map row_of js) (row_of j ∷ put_in (row_of i) (map row_of js))
rows_if i j js true rest = refl
rows_if i j js false rest = ap (λ l. row_of j ∷ l) rest

rows_inserted : (i : Incident) (js : List Incident) → map row_of (inserted i js) ≡ put_in (row_of i) (map row_of js)
rows_inserted i [] = refl
rows_inserted i (j ∷ js) = rows_if i j js (is_before i j) (rows_inserted i js)

map_take : {X Y : Type 0} → (f : X → Y) (n : ℕ) (xs : List X) → map f (take n xs) ≡ take n (map f xs)
map_take f zero xs = refl
map_take f (suc n) [] = refl
map_take f (suc n) (x ∷ xs) = ap (λ l. f x ∷ l) (map_take f n xs)

-- the rows of the first 16 of these incidents in order
abbrev pub first_rows : List Incident → List Row
first_rows is = map row_of (take 16 (sorted is))

pub first_more : (i : Incident) (is : List Incident) → take 16 (put_in (row_of i) (first_rows is)) ≡ first_rows (i ∷ is)
first_more i is =
    ap (λ l. take 16 (put_in (row_of i) l)) (map_take row_of 16 (sorted is)) ∙ first_put 16 (row_of i) (map row_of (sorted is))
    ∙ ap (take 16) (sym (rows_inserted i (sorted is))) ∙ sym (map_take row_of 16 (inserted i (sorted is)))

drop_more : (n k : ℕ) (slots : List Slot) (x : Slot) → n + 1 ≡ k → n < length slots → x ≡ get_or slots n x → drop n slots ≡ x ∷ drop k slots
drop_more n k slots x e lt at = let next : suc n ≡ k = omega arith in drop-cons slots n x lt ∙ (λ t. sym at t ∷ drop (next t) slots)

open_more : (n k : ℕ) (slots : List Slot) (x : Slot) (o : Option Incident) → n + 1 ≡ k → n < length slots → x ≡ get_or slots n x → standing x ≡ o → open_of (drop n slots) ≡ cons_option o (open_of (drop k slots))
open_more n k slots x o e lt at here = ap (λ (l : List Slot). open_of l) (drop_more n k slots x e lt at) ∙ ap (λ (p : Option Incident). cons_option p (open_of (drop k slots))) here

-- the rows of one incident more, that before the others, as they stand
pub row_more : (lapse : Option ℕ) (at n k : ℕ) (slots : List Slot) (x : Slot) (i : Incident) (r : Row) (rows rows' : List Row) → n + 1 ≡ k → n < length slots
    → x ≡ get_or slots n x → standing x ≡ Some i → r ≡ row_of (stands_at lapse at i) → rows ≡ first_rows (standing_of lapse at (open_of (drop k slots)))
    → rows' ≡ take 16 (put_in r rows) → rows' ≡ first_rows (standing_of lapse at (open_of (drop n slots)))
row_more lapse at n k slots x i r rows rows' e lt at_place here row before after =
    after ∙ (λ t. take 16 (put_in (row t) (before t))) ∙ first_more (stands_at lapse at i) (standing_of lapse at (open_of (drop k slots)))
    ∙ ap (λ (l : List Incident). first_rows (standing_of lapse at l)) (sym (open_more n k slots x (Some i) e lt at_place here))

-- and the same rows, where none is open
pub row_less : (lapse : Option ℕ) (at n k : ℕ) (slots : List Slot) (x : Slot) (rows : List Row) → n + 1 ≡ k → n < length slots → x ≡ get_or slots n x → standing x ≡ None
    → rows ≡ first_rows (standing_of lapse at (open_of (drop k slots))) → rows ≡ first_rows (standing_of lapse at (open_of (drop n slots)))
row_less lapse at n k slots x rows e lt at_place none before =
    before ∙ ap (λ (l : List Incident). first_rows (standing_of lapse at l)) (sym (open_more n k slots x None e lt at_place none))

-- as many stand as are open
pub as_many : (lapse : Option ℕ) (at : ℕ) (is : List Incident) → length (standing_of lapse at is) ≡ length is
as_many lapse at is = length-map is (stands_at lapse at)

-- Rows pushed to a listing.

pub few_rows : (is : List Incident) (rows : List Row) → rows ≡ first_rows is → length rows ≤ 16
few_rows is rows e = omega (arith, ap length e, length-map (take 16 (sorted is)) row_of, length-take 16 (sorted is))

-- with none left before them, they are the rows of the whole list
pub listed_all : (lapse : Option ℕ) (at k : ℕ) (slots : List Slot) (is : List Incident) (rows : List Row) (l : Listing) → k ≡ 0 → open_of slots ≡ is
    → rows ≡ first_rows (standing_of lapse at (open_of (drop k slots))) → l ≡ record { total = length is; rows = rows }
    → Listed l ≡ on_list (standing_of lapse at is)
listed_all lapse at k slots is rows l none whole before e =
    ap Listed (e ∙ (λ t. record {
      total = sym (as_many lapse at is) t;
      rows = (before ∙ ap (λ (n : ℕ). first_rows (standing_of lapse at (open_of (drop n slots)))) none ∙ ap (λ (js : List Incident). first_rows (standing_of lapse at js)) whole) t;
    }))
