use Rattle.std.proofs.Common.{ℕ, List, [], ◌∷◌, ap, ◌∙◌, ◌≡◌, slice_index, sym, refl}
use Rattle.std.specs.Int.{byte_at}
use Rattle.aes_chain.specs.Field.{s_box}
use Rattle.aes_chain.specs.Schedule.{sub_word}
use Rattle.aes_chain.proofs.Expansion.{first_word, added_word-middle, added_word-none_at, added_word-none}
use Rattle.aes_chain.proofs.key.added_word.Goals as goal
use Rattle.aes_chain.proofs.key.added_word.Goals.{else-key_len-eq-LONGEST-via-then-key_len-eq-LONGEST+else-i-key_len-eq4, else-key_len-eq-LONGEST-via-else-key_len-eq-LONGEST}

pub returns-then-i-key_len-eq0 : goal.returns-then-i-key_len-eq0
returns-then-i-key_len-eq0 c =
    let w : ℕ = c.args.before in
    let byte : (r : ℕ) → slice_index c.to_le_bytes.result r ≡ slice_index (byte_at 0 w ∷ byte_at 1 w ∷ byte_at 2 w ∷ byte_at 3 w ∷ []) r =
    λ r. ap (λ (l : List ℕ). slice_index l r) c.to_le_bytes.ensures in
    first_word c.args.key_len c.args.i (byte_at 0 w) (byte_at 1 w) (byte_at 2 w) (byte_at 3 w) c.from_le_bytes.result
    c.s_box-then-i-key_len-eq0-3.result c.s_box.result c.s_box-then-i-key_len-eq0.result c.s_box-then-i-key_len-eq0-2.result _
    c.requires.some c.requires.fits c.if-i-key_len-eq0.true c.from_le_bytes.ensures
    c.s_box-then-i-key_len-eq0-3.type_inv c.s_box.type_inv c.s_box-then-i-key_len-eq0.type_inv c.s_box-then-i-key_len-eq0-2.type_inv
    (c.s_box-then-i-key_len-eq0-3.ensures ∙ ap s_box (byte 0)) (c.s_box.ensures ∙ ap s_box (byte 1))
    (c.s_box-then-i-key_len-eq0.ensures ∙ ap s_box (byte 2)) (c.s_box-then-i-key_len-eq0-2.ensures ∙ ap s_box (byte 3)) refl

pub returns-then-i-key_len-eq4 : goal.returns-then-i-key_len-eq4
unfolding sub_word
returns-then-i-key_len-eq4 c =
    c.substituted.ensures
    ∙ sym (added_word-middle c.args.key_len c.args.i _ c.if-i-key_len-eq0.false c.if-key_len-eq-LONGEST.true c.if-i-key_len-eq4.true)

pub returns-else-key_len-eq-LONGEST : goal.returns-else-key_len-eq-LONGEST
returns-else-key_len-eq-LONGEST c =
    elim c.else-key_len-eq-LONGEST.branch [
      | else-key_len-eq-LONGEST-via-then-key_len-eq-LONGEST+else-i-key_len-eq4 w ↦
          sym (added_word-none_at c.args.key_len c.args.i _ c.if-i-key_len-eq0.false w.if-i-key_len-eq4.false)
      | else-key_len-eq-LONGEST-via-else-key_len-eq-LONGEST w ↦
          sym (added_word-none c.args.key_len c.args.i _ c.if-i-key_len-eq0.false w.if-key_len-eq-LONGEST.false)
    ]
