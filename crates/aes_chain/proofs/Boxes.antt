-- The program's tables are what the definitions say, by computation over all 256 entries.
use Rattle.std.proofs.Common.{◌≡◌, ◌<◌, ℕ, refl, map, get_or, slice_index, length, List, [], sym, ap, ◌∙◌, arith}
use Rattle.std.specs.List.{range_with_len}
use Rattle.std.specs.Int.{w32, to_le_bytes}
use Rattle.std.proofs.lemmas.List.{get_or-map}
use Rattle.std.proofs.lemmas.List.FromFn.{get_or-map-range_with_len}
use Rattle.aes_chain.specs.Field.{times, product, remainder, inverse, inverse_below, byte_of_sums, affine, s_box, inv_affine, inv_s_box}
use Rattle.aes_chain.specs.State.{mix_matrix, inv_mix_matrix}
use Rattle.aes_chain.specs.Schedule.{power_of_x}
use Rattle.aes_chain.specs.Words.{products}
use Rattle.aes_chain.specs.declared.tables.TheConstants.{ROUND_CONSTANTS, S_BOX, INV_S_BOX, MIX_0, MIX_1, MIX_2, MIX_3, INV_MIX_0, INV_MIX_1, INV_MIX_2, INV_MIX_3}

S_BOX-map : S_BOX ≡ map s_box (range_with_len 0 256)
unfolding times product remainder inverse inverse_below byte_of_sums affine s_box
S_BOX-map = refl

pub S_BOX-is : (b : ℕ) → b < 256 → slice_index S_BOX b ≡ s_box b
S_BOX-is b h = ap (λ (t : List ℕ). get_or t b 0) S_BOX-map ∙ get_or-map-range_with_len s_box 0 256 b b 0 h (omega arith)

INV_S_BOX-map : INV_S_BOX ≡ map inv_s_box (range_with_len 0 256)
unfolding times product remainder inverse inverse_below byte_of_sums inv_affine inv_s_box
INV_S_BOX-map = refl

pub INV_S_BOX-is : (b : ℕ) → b < 256 → slice_index INV_S_BOX b ≡ inv_s_box b
INV_S_BOX-is b h = ap (λ (t : List ℕ). get_or t b 0) INV_S_BOX-map ∙ get_or-map-range_with_len inv_s_box 0 256 b b 0 h (omega arith)

ROUND_CONSTANTS-map : ROUND_CONSTANTS ≡ map power_of_x (range_with_len 0 10)
unfolding times product remainder power_of_x
ROUND_CONSTANTS-map = refl

pub ROUND_CONSTANTS-is : (n : ℕ) → n < 10 → slice_index ROUND_CONSTANTS n ≡ power_of_x n
ROUND_CONSTANTS-is n h =
    ap (λ (t : List ℕ). get_or t n 0) ROUND_CONSTANTS-map ∙ get_or-map-range_with_len power_of_x 0 10 n n 0 h (omega arith)

-- a table whose entries are, as words, the products of the entries of a box
from_box : (t box : List ℕ) (f g : ℕ → List ℕ) (h : ℕ → ℕ) → map f t ≡ map g box → length t ≡ 256 → length box ≡ 256
    → ((b : ℕ) → b < 256 → slice_index box b ≡ h b) → (b : ℕ) → b < 256 → f (slice_index t b) ≡ g (h b)
from_box t box f g h e lt lb is b below =
    let in_t : b < length t = omega arith in
    let in_box : b < length box = omega arith in
    sym (get_or-map f t b 0 [] in_t) ∙ ap (λ (l : List (List ℕ)). get_or l b []) e ∙ get_or-map g box b 0 [] in_box ∙ ap g (is b below)

MIX_0-map : map (to_le_bytes w32) MIX_0 ≡ map (products mix_matrix 0) S_BOX
unfolding times product remainder
MIX_0-map = refl

pub MIX_0-is : (b : ℕ) → b < 256 → to_le_bytes w32 (slice_index MIX_0 b) ≡ products mix_matrix 0 (s_box b)
MIX_0-is = from_box MIX_0 S_BOX (to_le_bytes w32) (products mix_matrix 0) s_box MIX_0-map refl refl S_BOX-is

MIX_1-map : map (to_le_bytes w32) MIX_1 ≡ map (products mix_matrix 1) S_BOX
unfolding times product remainder
MIX_1-map = refl

pub MIX_1-is : (b : ℕ) → b < 256 → to_le_bytes w32 (slice_index MIX_1 b) ≡ products mix_matrix 1 (s_box b)
MIX_1-is = from_box MIX_1 S_BOX (to_le_bytes w32) (products mix_matrix 1) s_box MIX_1-map refl refl S_BOX-is

MIX_2-map : map (to_le_bytes w32) MIX_2 ≡ map (products mix_matrix 2) S_BOX
unfolding times product remainder
MIX_2-map = refl

pub MIX_2-is : (b : ℕ) → b < 256 → to_le_bytes w32 (slice_index MIX_2 b) ≡ products mix_matrix 2 (s_box b)
MIX_2-is = from_box MIX_2 S_BOX (to_le_bytes w32) (products mix_matrix 2) s_box MIX_2-map refl refl S_BOX-is

MIX_3-map : map (to_le_bytes w32) MIX_3 ≡ map (products mix_matrix 3) S_BOX
unfolding times product remainder
MIX_3-map = refl

pub MIX_3-is : (b : ℕ) → b < 256 → to_le_bytes w32 (slice_index MIX_3 b) ≡ products mix_matrix 3 (s_box b)
MIX_3-is = from_box MIX_3 S_BOX (to_le_bytes w32) (products mix_matrix 3) s_box MIX_3-map refl refl S_BOX-is

INV_MIX_0-map : map (to_le_bytes w32) INV_MIX_0 ≡ map (products inv_mix_matrix 0) INV_S_BOX
unfolding times product remainder
INV_MIX_0-map = refl

pub INV_MIX_0-is : (b : ℕ) → b < 256 → to_le_bytes w32 (slice_index INV_MIX_0 b) ≡ products inv_mix_matrix 0 (inv_s_box b)
INV_MIX_0-is = from_box INV_MIX_0 INV_S_BOX (to_le_bytes w32) (products inv_mix_matrix 0) inv_s_box INV_MIX_0-map refl refl INV_S_BOX-is

INV_MIX_1-map : map (to_le_bytes w32) INV_MIX_1 ≡ map (products inv_mix_matrix 1) INV_S_BOX
unfolding times product remainder
INV_MIX_1-map = refl

pub INV_MIX_1-is : (b : ℕ) → b < 256 → to_le_bytes w32 (slice_index INV_MIX_1 b) ≡ products inv_mix_matrix 1 (inv_s_box b)
INV_MIX_1-is = from_box INV_MIX_1 INV_S_BOX (to_le_bytes w32) (products inv_mix_matrix 1) inv_s_box INV_MIX_1-map refl refl INV_S_BOX-is

INV_MIX_2-map : map (to_le_bytes w32) INV_MIX_2 ≡ map (products inv_mix_matrix 2) INV_S_BOX
unfolding times product remainder
INV_MIX_2-map = refl

pub INV_MIX_2-is : (b : ℕ) → b < 256 → to_le_bytes w32 (slice_index INV_MIX_2 b) ≡ products inv_mix_matrix 2 (inv_s_box b)
INV_MIX_2-is = from_box INV_MIX_2 INV_S_BOX (to_le_bytes w32) (products inv_mix_matrix 2) inv_s_box INV_MIX_2-map refl refl INV_S_BOX-is

INV_MIX_3-map : map (to_le_bytes w32) INV_MIX_3 ≡ map (products inv_mix_matrix 3) INV_S_BOX
unfolding times product remainder
INV_MIX_3-map = refl

pub INV_MIX_3-is : (b : ℕ) → b < 256 → to_le_bytes w32 (slice_index INV_MIX_3 b) ≡ products inv_mix_matrix 3 (inv_s_box b)
INV_MIX_3-is = from_box INV_MIX_3 INV_S_BOX (to_le_bytes w32) (products inv_mix_matrix 3) inv_s_box INV_MIX_3-map refl refl INV_S_BOX-is
