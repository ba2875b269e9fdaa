-- Deadlines that stand at the places of their accounts.
use Rattle.std.proofs.Common.{◌≡◌, ◌<◌, ◌+◌, ℕ, zero, suc, List, [], ◌∷◌, ◌++◌, Bool, true, false, cond, Option, None, Some, map, length, take, get_or, slice_get, slice_set}
use Rattle.std.proofs.Common.{inl, inr, refl, sym, ap, ap₂, ◌∙◌, arith, add-one}
use Rattle.std.specs.List.{AllByRecursion, IsDistinct, filter, find, position, range_with_len}
use Rattle.std.specs.Str.{bytes_eq}
use Rattle.std.proofs.Math.Seq.{take-suc}
use Rattle.std.proofs.lemmas.Bool.{cases_Bool, cond-true, cond-false}
use Rattle.std.proofs.lemmas.List.{length-map, map-append, take_more_set}
use Rattle.std.proofs.lemmas.Option.{slice_get_within, get_or_from_slice_get}
use Rattle.alarm_rules.specs.Setups.{Account, has_number}
use Rattle.supervision.specs.Deadlines.{due_at, is_past}
use Rattle.accounts.proofs.ChangeLemmas.{bytes_eq-other}
use Rattle.accounts.proofs.StandLemmas.{place-none}

-- Other deadlines of one account.

-- an account among others of other numbers than this
apart : (xs : List Account) (p : ℕ) (x : Account) (number : List ℕ) → AllByRecursion (λ k. bytes_eq number k ≡ false) (map (λ (a : Account). a.number) xs)
    → slice_get xs p ≡ Some x → bytes_eq x.number number ≡ false
apart [] p x number others at = cc
apart (y ∷ ys) zero x number others at =
    let here : y ≡ x = cc in
    ap (λ (z : Account). bytes_eq z.number number) (sym here) ∙ bytes_eq-other number y.number others.0
apart (y ∷ ys) (suc p) x number others at = apart ys p x number others.1 at

module _ (g h : Account → Option ℕ) where
  -- two deadlines of each account are the same, but for accounts of the number
  abbrev pub AreSameBut : List ℕ → Type 0
  AreSameBut number = (y : Account) → bytes_eq number y.number ≡ false → h y ≡ g y

  -- where no account has the number, the deadlines are the same
  none_numbered : (xs : List Account) (number : List ℕ) → AllByRecursion (λ k. bytes_eq number k ≡ false) (map (λ (a : Account). a.number) xs) → AreSameBut number
      → map g xs ≡ map h xs
  none_numbered [] number others same = refl
  none_numbered (y ∷ ys) number others same =
      ap₂ (λ d ds. d ∷ ds) (sym (same y others.0)) (none_numbered ys number others.1 same)

  -- where accounts have different numbers, the deadline of one is set at its place
  pub set_one : (xs : List Account) (p : ℕ) (x : Account) → IsDistinct bytes_eq (map (λ (a : Account). a.number) xs) → slice_get xs p ≡ Some x → AreSameBut x.number
      → slice_set (map g xs) p (h x) ≡ map h xs
  unfolding IsDistinct
  set_one [] p x distinct at same = cc
  set_one (y ∷ ys) zero x distinct at same =
      let here : x ≡ y = cc in
      ap₂ (λ d ds. d ∷ ds) (ap h here) (none_numbered ys y.number distinct.0 (rw here at same))
  set_one (y ∷ ys) (suc p) x distinct at same =
      ap₂ (λ d ds. d ∷ ds) (sym (same y (apart ys p x y.number distinct.0 at))) (set_one ys p x distinct.1 at same)

  -- or where none is found
  unfound : (xs : List Account) (number : List ℕ) → find (has_number number) xs ≡ None → AreSameBut number → map g xs ≡ map h xs
  unfound [] number none same = refl
  unfound (y ∷ ys) number none same =
      elim (cases_Bool (has_number number y)) [
        | inl found ↦ let here = sym (cond-true (has_number number y) (Some y) (find (has_number number) ys) found) ∙ none in cc
        | inr other ↦
            let rest = sym (cond-false (has_number number y) (Some y) (find (has_number number) ys) other) ∙ none in
            ap₂ (λ d ds. d ∷ ds) (sym (same y other)) (unfound ys number rest same)
      ]

  -- or where no place is: the deadlines are the same
  pub set_none : (xs : List Account) (number : List ℕ) → position (has_number number) xs ≡ None → AreSameBut number → map g xs ≡ map h xs
  set_none xs number none same = unfound xs number (place-none (has_number number) xs (sym none)) same

-- Places whose deadline is passed.

module _ (g : Account → Option ℕ) (at : ℕ) (deadline : ℕ → Option ℕ) (account : ℕ → Option Account) where
  -- one place more, or not
  one_place : (b : Bool) (place : ℕ) (x : Account) (places : List ℕ) (xs : List Account) → account place ≡ Some x → map account places ≡ map Some xs
      → map account (cond b (place ∷ places) places) ≡ map Some (cond b (x ∷ xs) xs)
  one_place true place x places xs here rest = ap₂ (λ a found. a ∷ found) here rest
  one_place false place x places xs here rest = rest

  -- the accounts from a place on
  due_from : (first : ℕ) (xs : List Account) → ((i : ℕ) → deadline (first + i) ≡ get_or (map g xs) i None) → ((i : ℕ) → account (first + i) ≡ slice_get xs i)
      → map account (filter (λ place. is_past at (deadline place)) (range_with_len first (length xs))) ≡ map Some (filter (λ a. is_past at (g a)) xs)
  due_from first [] deadlines accounts = refl
  due_from first (x ∷ xs) deadlines accounts =
      let here : first + 0 ≡ first = omega arith in
      let on : (i : ℕ) → first + 1 + i ≡ first + suc i = λ i. omega arith in
      let places = filter (λ place. is_past at (deadline place)) (range_with_len (first + 1) (length xs)) in
      let rest = due_from (first + 1) xs (λ i. ap deadline (on i) ∙ deadlines (suc i)) (λ i. ap account (on i) ∙ accounts (suc i)) in
      ap (λ d. map account (cond (is_past at d) (first ∷ places) places)) (ap deadline (sym here) ∙ deadlines 0)
      ∙ one_place (is_past at (g x)) first x places (filter (λ a. is_past at (g a)) xs) (ap account (sym here) ∙ accounts 0) rest

-- the places that are due are those of the accounts whose deadline is passed
pub due_places : (g : Account → Option ℕ) (at : ℕ) (xs : List Account) → map (slice_get xs) (due_at at (map g xs)) ≡ map Some (filter (λ a. is_past at (g a)) xs)
due_places g at xs =
    let from : (i : ℕ) → 0 + i ≡ i = λ i. omega arith in
    ap (λ n. map (slice_get xs) (filter (λ place. is_past at (get_or (map g xs) place None)) (range_with_len 0 n))) (length-map xs g)
    ∙ due_from g at (λ place. get_or (map g xs) place None) (slice_get xs) 0 xs
    (λ i. ap (λ k. get_or (map g xs) k None) (from i)) (λ i. ap (slice_get xs) (from i))

-- the first deadlines are those of the first accounts, and one more is set
pub set_next : (h : Account → Option ℕ) (xs : List Account) (ds es : List (Option ℕ)) (n : ℕ) (x : Account) → slice_get xs n ≡ Some x → length ds ≡ length xs
    → take n ds ≡ map h (take n xs) → es ≡ slice_set ds n (h x) → take (n + 1) es ≡ map h (take (n + 1) xs)
set_next h xs ds es n x at long first set =
    let within : n < length xs = slice_get_within xs n x at in
    let here : get_or xs n x ≡ x = get_or_from_slice_get xs n x x at in
    let more : take (n + 1) xs ≡ take n xs ++ x ∷ [] = ap (λ k. take k xs) (add-one n) ∙ take-suc xs n x within ∙ ap (λ y. take n xs ++ y ∷ []) here in
    ap (take (n + 1)) set ∙ take_more_set ds n (h x) (omega (arith, within, long)) ∙ ap (λ l. l ++ h x ∷ []) first
    ∙ sym (ap (map h) more ∙ map-append h (take n xs) (x ∷ []))
