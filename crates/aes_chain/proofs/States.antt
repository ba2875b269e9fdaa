-- States byte by byte, and the steps of a round that undo one another.
use Rattle.std.proofs.Common.{◌≡◌, ◌<◌, ◌≤◌, ◌==◌, ℕ, zero, suc, true, false, List, [], ◌∷◌, length, slice_index, refl, sym, arith, inl, inr, Fits, w8, get_or}
use Rattle.std.proofs.lemmas.Bool.{cases_lt}
use Rattle.std.proofs.lemmas.List.{get_or_past}
use Rattle.std.proofs.lemmas.List.Elements.{All-from_get_or, All-from_recursion}
use Rattle.std.proofs.lemmas.List.FromFn.{fill_by_all}
use Rattle.aes_chain.specs.Field.{times, inverse, inverse_below, byte_of_sums, affine, s_box, inv_affine, inv_s_box}
use Rattle.aes_chain.specs.State.{byte_in, state}
use Rattle.aes_chain.specs.Laws.{AreBytes, IsBlock}

-- each place of a list of bytes, also past the end, has a byte
pub byte_lt : (s : List ℕ) → AreBytes s → (k : ℕ) → slice_index s k < 256
byte_lt s all k = elim (cases_lt k (length s)) [
  | inl lt ↦ all k 0 lt
  | inr ge ↦ rw (get_or_past s k 0 ge) (omega arith)
]

-- the items of a slice of bytes, as a function that takes one knows them
pub AreBytes-from_fits : (s : List ℕ) → ((i : ℕ) → Fits w8 (get_or s i 0)) → AreBytes s
AreBytes-from_fits s h = All-from_get_or (λ b. b < 256) s 0 (λ i _. (h i).fits)

-- a list of 16 bytes is a state
pub of_sixteen : (s : List ℕ) → length s ≡ 16 → state (byte_in s) ≡ s
unfolding state
of_sixteen s h = sym (fill_by_all (λ k. slice_index s k) s 16 0 h (λ k l. refl))

-- states are the same where their rows are
pub state_rows : (f g : ℕ → ℕ → ℕ) → ((c : ℕ) → f 0 c ≡ g 0 c) → ((c : ℕ) → f 1 c ≡ g 1 c) → ((c : ℕ) → f 2 c ≡ g 2 c)
    → ((c : ℕ) → f 3 c ≡ g 3 c) → state f ≡ state g
unfolding state
state_rows f g p q r s = λ i.
    p 0 i ∷ q 0 i ∷ r 0 i ∷ s 0 i ∷ p 1 i ∷ q 1 i ∷ r 1 i ∷ s 1 i
    ∷ p 2 i ∷ q 2 i ∷ r 2 i ∷ s 2 i ∷ p 3 i ∷ q 3 i ∷ r 3 i ∷ s 3 i ∷ []

pub AreBytes_rows : (f : ℕ → ℕ → ℕ) → ((c : ℕ) → f 0 c < 256) → ((c : ℕ) → f 1 c < 256) → ((c : ℕ) → f 2 c < 256)
    → ((c : ℕ) → f 3 c < 256) → AreBytes (state f)
unfolding state
AreBytes_rows f p q r s =
    All-from_recursion (λ b. b < 256) (state f)
    (p 0, (q 0, (r 0, (s 0, (p 1, (q 1, (r 1, (s 1, (p 2, (q 2, (r 2, (s 2, (p 3, (q 3, (r 3, (s 3, tt))))))))))))))))

pub length-state : (f : ℕ → ℕ → ℕ) → length (state f) ≡ 16
unfolding state
length-state f = refl

pub IsBlock-state : (f : ℕ → ℕ → ℕ) → ((r c : ℕ) → f r c < 256) → IsBlock (state f)
IsBlock-state f h = (AreBytes_rows f (h 0) (h 1) (h 2) (h 3), length-state f)

-- ---- the S-box

byte_of_sums-lt : (f : ℕ → ℕ) → byte_of_sums f < 256
unfolding byte_of_sums
byte_of_sums-lt f = omega arith

pub s_box-lt : (b : ℕ) → s_box b < 256
unfolding s_box affine
s_box-lt b = byte_of_sums-lt _

inverse_below-le : (n a : ℕ) → inverse_below (suc n) a ≤ n
unfolding inverse_below
inverse_below-le zero a = elim (times a 0 == 1) as (λ v. (elim v as (λ _. ℕ) [ true ↦ 0 | false ↦ 0 ]) ≤ 0) [ true ↦ omega arith | false ↦ omega arith ]
inverse_below-le (suc n) a =
    let before = inverse_below-le n a in
    elim (times a (suc n) == 1) as (λ v. (elim v as (λ _. ℕ) [ true ↦ suc n | false ↦ inverse_below (suc n) a ]) ≤ suc n) [
      | true ↦ omega arith
      | false ↦ omega (arith, before)
    ]

pub inv_s_box-lt : (b : ℕ) → inv_s_box b < 256
unfolding inv_s_box inverse
inv_s_box-lt b = omega (arith, inverse_below-le 255 (inv_affine b))
