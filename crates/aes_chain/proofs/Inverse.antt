-- The cipher and the inverse cipher undo one another.
use Rattle.std.proofs.Common.{◌≡◌, ◌<◌, ◌+◌, ◌-◌, ℕ, zero, suc, List, ap, ◌∙◌, arith}
use Rattle.aes_chain.specs.State.{sub_bytes, inv_sub_bytes, shift_rows, inv_shift_rows, mix_columns, inv_mix_columns, added}
use Rattle.aes_chain.specs.Cipher.{rounds, cipher, inv_rounds, inv_cipher}
use Rattle.aes_chain.specs.Laws.{AreBytes, IsBlock}
use Rattle.aes_chain.proofs.Steps.{IsBlock-sub_bytes, IsBlock-inv_sub_bytes, IsBlock-shift_rows, IsBlock-inv_shift_rows, IsBlock-added, IsBlock-mix_columns, IsBlock-inv_mix_columns, inv_sub_bytes-sub_bytes, sub_bytes-inv_sub_bytes, inv_shift_rows-shift_rows, shift_rows-inv_shift_rows, inv_mix_columns-mix_columns, mix_columns-inv_mix_columns, added-twice}

-- ShiftRows after SubBytes, and what undoes it
abbrev turned : List ℕ → List ℕ
turned s = shift_rows (sub_bytes s)

abbrev unturned : List ℕ → List ℕ
unturned s = inv_sub_bytes (inv_shift_rows s)

IsBlock-turned : (s : List ℕ) → IsBlock (turned s)
IsBlock-turned s = IsBlock-shift_rows (sub_bytes s) (IsBlock-sub_bytes s).0

IsBlock-unturned : (s : List ℕ) → IsBlock (unturned s)
IsBlock-unturned s = IsBlock-inv_sub_bytes (inv_shift_rows s)

unturned-turned : (s : List ℕ) → IsBlock s → unturned (turned s) ≡ s
unturned-turned s h =
    ap inv_sub_bytes (inv_shift_rows-shift_rows (sub_bytes s) (IsBlock-sub_bytes s)) ∙ inv_sub_bytes-sub_bytes s h

turned-unturned : (s : List ℕ) → IsBlock s → turned (unturned s) ≡ s
turned-unturned s h =
    ap shift_rows (sub_bytes-inv_sub_bytes (inv_shift_rows s) (IsBlock-inv_shift_rows s h.0)) ∙ shift_rows-inv_shift_rows s h

module _ (nr : ℕ) (keys : ℕ → List ℕ) (are : (i : ℕ) → AreBytes (keys i)) (s : List ℕ) (is_block : IsBlock s) where
  pub IsBlock-rounds : (r : ℕ) → IsBlock (rounds keys s r)
  unfolding rounds
  IsBlock-rounds zero = IsBlock-added s (keys 0) is_block.0 (are 0)
  IsBlock-rounds (suc r) =
      IsBlock-added (mix_columns (turned (rounds keys s r))) (keys (suc r))
      (IsBlock-mix_columns (turned (rounds keys s r)) (IsBlock-turned (rounds keys s r)).0).0 (are (suc r))

  pub IsBlock-inv_rounds : (n : ℕ) → IsBlock (inv_rounds nr keys s n)
  unfolding inv_rounds
  IsBlock-inv_rounds zero = IsBlock-added s (keys nr) is_block.0 (are nr)
  IsBlock-inv_rounds (suc n) =
      let x : List ℕ = unturned (inv_rounds nr keys s n) in
      IsBlock-inv_mix_columns (added x (keys (nr - suc n)))
      (IsBlock-added x (keys (nr - suc n)) (IsBlock-unturned (inv_rounds nr keys s n)).0 (are (nr - suc n))).0

  pub IsBlock-cipher : IsBlock (cipher nr keys s)
  unfolding cipher
  IsBlock-cipher = IsBlock-added (turned (rounds keys s (nr - 1))) (keys nr) (IsBlock-turned (rounds keys s (nr - 1))).0 (are nr)

  pub IsBlock-inv_cipher : IsBlock (inv_cipher nr keys s)
  unfolding inv_cipher
  IsBlock-inv_cipher =
      IsBlock-added (unturned (inv_rounds nr keys s (nr - 1))) (keys 0) (IsBlock-unturned (inv_rounds nr keys s (nr - 1))).0 (are 0)

  -- n inverse rounds after the cipher leave the first m rounds
  inv_rounds-cipher : (n m : ℕ) → n + m + 1 ≡ nr → inv_rounds nr keys (cipher nr keys s) n ≡ turned (rounds keys s m)
  unfolding inv_rounds cipher rounds
  inv_rounds-cipher zero m e =
      let last : nr - 1 ≡ m = omega arith in
      added-twice (turned (rounds keys s (nr - 1))) (keys nr) (IsBlock-turned (rounds keys s (nr - 1))).1
      ∙ ap (λ (k : ℕ). turned (rounds keys s k)) last
  inv_rounds-cipher (suc n) m e =
      let before = inv_rounds-cipher n (suc m) (omega arith) in
      let place : nr - suc n ≡ suc m = omega arith in
      let mixed : List ℕ = mix_columns (turned (rounds keys s m)) in
      let is : IsBlock (turned (rounds keys s m)) = IsBlock-turned (rounds keys s m) in
      (λ i. inv_mix_columns (added (unturned (before i)) (keys (place i))))
      ∙ ap (λ (x : List ℕ). inv_mix_columns (added x (keys (suc m)))) (unturned-turned (rounds keys s (suc m)) (IsBlock-rounds (suc m)))
      ∙ ap inv_mix_columns (added-twice mixed (keys (suc m)) (IsBlock-mix_columns (turned (rounds keys s m)) is.0).1)
      ∙ inv_mix_columns-mix_columns (turned (rounds keys s m)) is

  pub inv_cipher-cipher : 0 < nr → inv_cipher nr keys (cipher nr keys s) ≡ s
  unfolding inv_cipher rounds
  inv_cipher-cipher h =
      ap (λ (x : List ℕ). added (unturned x) (keys 0)) (inv_rounds-cipher (nr - 1) 0 (omega arith))
      ∙ ap (λ (x : List ℕ). added x (keys 0)) (unturned-turned (rounds keys s 0) (IsBlock-rounds 0))
      ∙ added-twice s (keys 0) is_block.1

  -- r rounds after the inverse cipher leave the first m inverse rounds
  rounds-inv_cipher : (r m : ℕ) → r + m + 1 ≡ nr → rounds keys (inv_cipher nr keys s) r ≡ unturned (inv_rounds nr keys s m)
  unfolding inv_rounds inv_cipher rounds
  rounds-inv_cipher zero m e =
      let last : nr - 1 ≡ m = omega arith in
      added-twice (unturned (inv_rounds nr keys s (nr - 1))) (keys 0) (IsBlock-unturned (inv_rounds nr keys s (nr - 1))).1
      ∙ ap (λ (k : ℕ). unturned (inv_rounds nr keys s k)) last
  rounds-inv_cipher (suc r) m e =
      let before = rounds-inv_cipher r (suc m) (omega arith) in
      let place : nr - suc m ≡ suc r = omega arith in
      let x : List ℕ = unturned (inv_rounds nr keys s m) in
      let is : IsBlock x = IsBlock-unturned (inv_rounds nr keys s m) in
      (λ i. added (mix_columns (turned (before i))) (keys (suc r)))
      ∙ ap (λ (y : List ℕ). added (mix_columns y) (keys (suc r)))
      (turned-unturned (inv_rounds nr keys s (suc m)) (IsBlock-inv_rounds (suc m))
      ∙ (λ i. inv_mix_columns (added x (keys (place i)))))
      ∙ ap (λ (y : List ℕ). added y (keys (suc r)))
      (mix_columns-inv_mix_columns (added x (keys (suc r))) (IsBlock-added x (keys (suc r)) is.0 (are (suc r))))
      ∙ added-twice x (keys (suc r)) is.1

  pub cipher-inv_cipher : 0 < nr → cipher nr keys (inv_cipher nr keys s) ≡ s
  unfolding cipher inv_rounds
  cipher-inv_cipher h =
      ap (λ (x : List ℕ). added (turned x) (keys nr)) (rounds-inv_cipher (nr - 1) 0 (omega arith))
      ∙ ap (λ (x : List ℕ). added x (keys nr)) (turned-unturned (inv_rounds nr keys s 0) (IsBlock-inv_rounds 0))
      ∙ added-twice s (keys nr) is_block.1
