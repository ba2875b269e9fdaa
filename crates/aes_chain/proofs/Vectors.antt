-- The examples of FIPS 197, computed by the definitions, so that a wrong definition does not check.
use Rattle.std.proofs.Common.{◌≡◌, ℕ, List, [], ◌∷◌, refl, slice_index_or}
use Rattle.aes_chain.specs.Field.{times, product, remainder, inverse, inverse_below, byte_of_sums, affine, s_box, inv_affine, inv_s_box}
use Rattle.aes_chain.specs.State.{state, sub_bytes, inv_sub_bytes, shift_rows, inv_shift_rows, row_times, columns_times, added}
use Rattle.aes_chain.specs.Schedule.{word_sum, rot_word, sub_word, power_of_x, round_constant, added_word, next_word, key_words, expanded, key_expansion, round_key}
use Rattle.aes_chain.specs.Cipher.{rounds, cipher, inv_rounds, inv_cipher, encrypted, decrypted}

-- the products of section 4.2
pub times-57-83 : times 0x57 0x83 ≡ 0xc1
unfolding times product remainder
times-57-83 = refl

pub times-57-13 : times 0x57 0x13 ≡ 0xfe
unfolding times product remainder
times-57-13 = refl

abbrev key_A1 : List ℕ
key_A1 =
    0x2b ∷ 0x7e ∷ 0x15 ∷ 0x16 ∷ 0x28 ∷ 0xae ∷ 0xd2 ∷ 0xa6
    ∷ 0xab ∷ 0xf7 ∷ 0x15 ∷ 0x88 ∷ 0x09 ∷ 0xcf ∷ 0x4f ∷ 0x3c ∷ []

-- the last word of the key expansion of appendix A.1
pub key_expansion-A1 : slice_index_or (key_expansion key_A1) 43 [] ≡ 0xb6 ∷ 0x63 ∷ 0x0c ∷ 0xa6 ∷ []
unfolding times product remainder inverse inverse_below byte_of_sums affine s_box word_sum rot_word sub_word power_of_x round_constant added_word next_word key_words expanded key_expansion
key_expansion-A1 = refl

abbrev plain_C : List ℕ
plain_C =
    0x00 ∷ 0x11 ∷ 0x22 ∷ 0x33 ∷ 0x44 ∷ 0x55 ∷ 0x66 ∷ 0x77
    ∷ 0x88 ∷ 0x99 ∷ 0xaa ∷ 0xbb ∷ 0xcc ∷ 0xdd ∷ 0xee ∷ 0xff ∷ []

abbrev key_C1 : List ℕ
key_C1 =
    0x00 ∷ 0x01 ∷ 0x02 ∷ 0x03 ∷ 0x04 ∷ 0x05 ∷ 0x06 ∷ 0x07
    ∷ 0x08 ∷ 0x09 ∷ 0x0a ∷ 0x0b ∷ 0x0c ∷ 0x0d ∷ 0x0e ∷ 0x0f ∷ []

abbrev cipher_C1 : List ℕ
cipher_C1 =
    0x69 ∷ 0xc4 ∷ 0xe0 ∷ 0xd8 ∷ 0x6a ∷ 0x7b ∷ 0x04 ∷ 0x30
    ∷ 0xd8 ∷ 0xcd ∷ 0xb7 ∷ 0x80 ∷ 0x70 ∷ 0xb4 ∷ 0xc5 ∷ 0x5a ∷ []

-- the example of appendix C.1, both ways
pub encrypted-C1 : encrypted key_C1 plain_C ≡ cipher_C1
unfolding times product remainder inverse inverse_below byte_of_sums affine s_box state sub_bytes shift_rows row_times columns_times added word_sum rot_word sub_word power_of_x round_constant added_word next_word key_words expanded key_expansion round_key rounds cipher encrypted
encrypted-C1 = refl

pub decrypted-C1 : decrypted key_C1 cipher_C1 ≡ plain_C
unfolding times product remainder inverse inverse_below byte_of_sums affine s_box inv_affine inv_s_box state inv_sub_bytes inv_shift_rows row_times columns_times added word_sum rot_word sub_word power_of_x round_constant added_word next_word key_words expanded key_expansion round_key inv_rounds inv_cipher decrypted
decrypted-C1 = refl
