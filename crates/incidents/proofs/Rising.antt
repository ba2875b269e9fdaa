-- Numbers that rise over places: where the open incident of one is found.
use Rattle.std.proofs.Common.{◌≡◌, ◌<◌, ◌≤◌, ℕ, zero, suc, List, [], ◌∷◌, length, get_or, Bool, true, false, eqb, ltb, refl, ap, ◌∙◌, Some, None, arith}
use Rattle.std.specs.Prelude.{◌&&◌}
use Rattle.std.specs.List.{position}
use Rattle.std.specs.List.Sorted.{IsNonDecreasingBy, IsPartitionedBy}
use Rattle.std.proofs.lemmas.Bool.{eqb-true}
use Rattle.std.proofs.lemmas.Bool.Decides.{nat_tests}
use Rattle.std.proofs.lemmas.List.Sorted.{IsPartitionedBy-ltb}
use Rattle.std.proofs.lemmas.List.Sums.{position_or_len_is}
use Rattle.arc_data.specs.Incidents.{has_number, Ascends}
use Rattle.incidents.specs.declared.slots.Slot.{Slot}
use Rattle.incidents.specs.Slots.{IsCut, is_below, has_open, all_of}
use Rattle.incidents.proofs.Numbers.{below_apart, above_apart}

abbrev number_at : List Slot → ℕ → Slot → ℕ
number_at slots place d = (get_or slots place d).incident.number

three : {P : Type 0} (k m : ℕ) (less same : Bool) → ltb k m ≡ less → eqb k m ≡ same → (k < m → P) → (k ≡ m → P) → (m < k → P) → P
three k m true same e f a b c = a (grind (arith, nat_tests))
three k m false true e f a b c = b (eqb-true k m f)
three k m false false e f a b c = c (grind (arith, nat_tests))

ascends_low : (low : ℕ) (slots : List Slot) (high place : ℕ) (d : Slot) → Ascends low (all_of slots) high → place < length slots → low < number_at slots place d
ascends_low low [] high place d a lt = absurd (omega (arith, lt))
ascends_low low (s ∷ slots) high zero d a lt = a.0
ascends_low low (s ∷ slots) high (suc place) d a lt = omega (arith, a.0, ascends_low s.incident.number slots high place d a.1 (omega (arith, lt)))

ascends_pair : (low : ℕ) (slots : List Slot) (high j k : ℕ) (d : Slot) → Ascends low (all_of slots) high → j < k → k < length slots → number_at slots j d < number_at slots k d
ascends_pair low [] high j k d a lt below = absurd (omega (arith, below))
ascends_pair low (s ∷ slots) high zero zero d a lt below = absurd (omega (arith, lt))
ascends_pair low (s ∷ slots) high zero (suc k) d a lt below = ascends_low s.incident.number slots high k d a.1 (omega (arith, below))
ascends_pair low (s ∷ slots) high (suc j) zero d a lt below = absurd (omega (arith, lt))
ascends_pair low (s ∷ slots) high (suc j) (suc k) d a lt below = ascends_pair s.incident.number slots high j k d a.1 (omega (arith, lt)) (omega (arith, below))

rises_if : (j k : ℕ) (a b : ℕ) (t : Bool) → eqb j k ≡ t → j ≤ k → (j < k → a < b) → (j ≡ k → a ≡ b) → a ≤ b
rises_if j k a b true e le f g = omega (arith, g (eqb-true j k e))
rises_if j k a b false e le f g = grind (arith, nat_tests)

rises : (low : ℕ) (slots : List Slot) (high : ℕ) → Ascends low (all_of slots) high → IsNonDecreasingBy (λ (s : Slot). s.incident.number) slots
rises low slots high a = λ j k d le below.
    rises_if j k (number_at slots j d) (number_at slots k d) (eqb j k) refl le (λ lt. ascends_pair low slots high j k d a lt below) (λ e. ap (λ (m : ℕ). number_at slots m d) e)

pub splits : (n low : ℕ) (slots : List Slot) (high : ℕ) → Ascends low (all_of slots) high → IsPartitionedBy (is_below n) slots
splits n low slots high a = IsPartitionedBy-ltb (λ (s : Slot). s.incident.number) slots n (rises low slots high a)

-- The place that a search finds.

position_is : (p : Slot → Bool) (slots : List Slot) (place : ℕ) (d : Slot) → place < length slots → ((k : ℕ) → k < place → p (get_or slots k d) ≡ false) → p (get_or slots place d) ≡ true → position p slots ≡ Some place
position_is p slots place d lt before here =
    let e = position_or_len_is p slots place d (omega (arith, lt)) before (λ _. here) in
    rw e (grind (arith, nat_tests))

position_none : (p : Slot → Bool) (slots : List Slot) (d : Slot) → ((k : ℕ) → k < length slots → p (get_or slots k d) ≡ false) → position p slots ≡ None
position_none p slots d none =
    let e = position_or_len_is p slots (length slots) d (omega arith) none (λ lt. absurd (omega (arith, lt))) in
    rw e (grind (arith, nat_tests))

and_false : (b : Bool) → (b && false) ≡ false
and_false true = refl
and_false false = refl

pub shut_by : (n : ℕ) (s : Slot) → has_number n s.incident ≡ false → has_open n s ≡ false
shut_by n s e = ap (λ (b : Bool). s.is_open && b) e ∙ and_false s.is_open

shut_below : (n : ℕ) (s : Slot) → is_below n s ≡ true → has_open n s ≡ false
shut_below n s e = shut_by n s (below_apart n s.incident (grind (arith, nat_tests)))

shut_above : (n m : ℕ) (s : Slot) → n ≤ m → m < s.incident.number → has_open n s ≡ false
shut_above n m s le lt = shut_by n s (above_apart n s.incident (omega (arith, le, lt)))

above_of : (n : ℕ) (s : Slot) → is_below n s ≡ false → n ≤ s.incident.number
above_of n s e = grind (arith, nat_tests)

pub cut_past : (n : ℕ) (slots : List Slot) (place : ℕ) → IsCut n slots place → place ≡ length slots → position (has_open n) slots ≡ None
cut_past n [] place w e = refl
cut_past n (s ∷ slots) place w e =
    position_none (has_open n) (s ∷ slots) s (λ k lt. shut_below n (get_or (s ∷ slots) k s) (w.0 k s (omega arith) (omega (arith, lt, e))))

pub cut_here : (n : ℕ) (slots : List Slot) (place : ℕ) (d : Slot) → IsCut n slots place → place < length slots → has_open n (get_or slots place d) ≡ true → position (has_open n) slots ≡ Some place
cut_here n slots place d w lt h = position_is (has_open n) slots place d lt (λ k below. shut_below n (get_or slots k d) (w.0 k d (omega arith) below)) h

apart : (low n : ℕ) (slots : List Slot) (high place k : ℕ) (d : Slot) → Ascends low (all_of slots) high → IsCut n slots place → place < length slots → has_open n (get_or slots place d) ≡ false → k < length slots → has_open n (get_or slots k d) ≡ false
apart low n slots high place k d a w lt h below =
    three k place (ltb k place) (eqb k place) refl refl
    (λ less. shut_below n (get_or slots k d) (w.0 k d (omega arith) less))
    (λ same. ap (λ (m : ℕ). has_open n (get_or slots m d)) same ∙ h)
    (λ more. shut_above n (number_at slots place d) (get_or slots k d) (above_of n (get_or slots place d) (w.1 place d (omega arith) lt)) (ascends_pair low slots high place k d a more below))

pub cut_apart : (low n : ℕ) (slots : List Slot) (high place : ℕ) (d : Slot) → Ascends low (all_of slots) high → IsCut n slots place → place < length slots → has_open n (get_or slots place d) ≡ false → position (has_open n) slots ≡ None
cut_apart low n slots high place d a w lt h = position_none (has_open n) slots d (λ k below. apart low n slots high place k d a w lt h below)
