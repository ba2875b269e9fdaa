-- The laws: blocks, and texts of whole blocks.
use Rattle.std.proofs.Common.{◌≡◌, ◌<◌, ◌≤◌, ◌+◌, ◌-◌, ◌*◌, ◌/◌, ℕ, zero, suc, List, [], ◌∷◌, ◌++◌, length, take, drop, refl, sym, ap, ◌∙◌, arith, length-append, length-drop}
use Rattle.std.proofs.lemmas.List.{take-append-le, drop-append-le, take_all, drop_all, take-append-drop, length-take-le, append_assoc, append-nil, drop-drop}
use Rattle.std.proofs.lemmas.Slice.{take-put_mid, drop-put_mid}
use borrow.Rule.Slice.PartMut.{put_mid}
use Rattle.std.proofs.lemmas.List.Elements.{All-nil, All-append, All-take, All-drop, All-replicate}
use Rattle.aes_chain.specs.State.{state, added}
use Rattle.aes_chain.specs.Words.{state_at}
use Rattle.aes_chain.specs.Schedule.{round_count, round_key}
use Rattle.aes_chain.specs.Cipher.{encrypted, decrypted}
use Rattle.aes_chain.specs.Chain.{first_vector, cipher_blocks, plain_blocks, chain_encrypted, chain_decrypted}
use Rattle.aes_chain.specs.Laws.{AreBytes, IsBlock, IsKey, IsWhole, DecryptionUndoesEncryption, EncryptionUndoesDecryption, ChainDecryptionUndoesEncryption, ChainEncryptionUndoesDecryption}
use Rattle.aes_chain.proofs.Steps.{IsBlock-added, length-added, added-twice_left}
use Rattle.aes_chain.proofs.Keys.{round_key-bytes}
use Rattle.aes_chain.proofs.Inverse.{IsBlock-cipher, IsBlock-inv_cipher, inv_cipher-cipher, cipher-inv_cipher}

pub decrypted-encrypted : DecryptionUndoesEncryption
unfolding encrypted decrypted
decrypted-encrypted key block k b =
    inv_cipher-cipher (round_count key) (round_key key) (round_key-bytes key k.0) block b (omega arith)

pub encrypted-decrypted : EncryptionUndoesDecryption
unfolding encrypted decrypted
encrypted-decrypted key block k b =
    cipher-inv_cipher (round_count key) (round_key key) (round_key-bytes key k.0) block b (omega arith)

pub IsBlock-encrypted : (key block : List ℕ) → IsKey key → IsBlock block → IsBlock (encrypted key block)
unfolding encrypted
IsBlock-encrypted key block k b = IsBlock-cipher (round_count key) (round_key key) (round_key-bytes key k.0) block b

pub IsBlock-decrypted : (key block : List ℕ) → IsKey key → IsBlock block → IsBlock (decrypted key block)
unfolding decrypted
IsBlock-decrypted key block k b = IsBlock-inv_cipher (round_count key) (round_key key) (round_key-bytes key k.0) block b

-- the first block of a text, and the others
take_block : (c rest : List ℕ) → length c ≡ 16 → take 16 (c ++ rest) ≡ c
take_block c rest h = take-append-le 16 c rest (omega arith) ∙ take_all 16 c (omega arith)

drop_block : (c rest : List ℕ) → length c ≡ 16 → drop 16 (c ++ rest) ≡ rest
drop_block c rest h = drop-append-le 16 c rest (omega arith) ∙ ap (λ (x : List ℕ). x ++ rest) (drop_all 16 c (omega arith))

IsBlock-first : (text : List ℕ) → AreBytes text → 16 ≤ length text → IsBlock (take 16 text)
IsBlock-first text h le = (All-take (λ b. b < 256) 16 text h, length-take-le 16 text le)

module _ (key : List ℕ) (is_key : IsKey key) where
  plain_blocks-cipher_blocks : (n : ℕ) (vector text : List ℕ) → AreBytes vector → AreBytes text → length text ≡ 16 * n
      → plain_blocks key vector n (cipher_blocks key vector n text) ≡ text
  unfolding plain_blocks cipher_blocks
  plain_blocks-cipher_blocks zero vector text v t len = sym (drop_all 0 text (omega arith))
  plain_blocks-cipher_blocks (suc n) vector text v t len =
      let b : List ℕ = added vector (take 16 text) in
      let c : List ℕ = encrypted key b in
      let rest : List ℕ = cipher_blocks key c n (drop 16 text) in
      let first : IsBlock (take 16 text) = IsBlock-first text t (omega arith) in
      let is_b : IsBlock b = IsBlock-added vector (take 16 text) v first.0 in
      let is_c : IsBlock c = IsBlock-encrypted key b is_key is_b in
      let left : length (drop 16 text) ≡ 16 * n = omega (arith, length-drop 16 text) in
      let plain : added vector (decrypted key c) ≡ take 16 text =
      ap (added vector) (decrypted-encrypted key b is_key is_b) ∙ added-twice_left vector (take 16 text) first.1 in
      let others : plain_blocks key c n rest ≡ drop 16 text =
      plain_blocks-cipher_blocks n c (drop 16 text) is_c.0 (All-drop (λ b. b < 256) 16 text t) left in
      (λ i. added vector (decrypted key (take_block c rest is_c.1 i))
      ++ plain_blocks key (take_block c rest is_c.1 i) n (drop_block c rest is_c.1 i))
      ∙ (λ i. plain i ++ others i) ∙ take-append-drop 16 text

  cipher_blocks-plain_blocks : (n : ℕ) (vector text : List ℕ) → AreBytes vector → AreBytes text → length text ≡ 16 * n
      → cipher_blocks key vector n (plain_blocks key vector n text) ≡ text
  unfolding plain_blocks cipher_blocks
  cipher_blocks-plain_blocks zero vector text v t len = sym (drop_all 0 text (omega arith))
  cipher_blocks-plain_blocks (suc n) vector text v t len =
      let c : List ℕ = take 16 text in
      let d : List ℕ = decrypted key c in
      let p : List ℕ = added vector d in
      let rest : List ℕ = plain_blocks key c n (drop 16 text) in
      let is_c : IsBlock c = IsBlock-first text t (omega arith) in
      let is_d : IsBlock d = IsBlock-decrypted key c is_key is_c in
      let len_p : length p ≡ 16 = length-added vector d in
      let left : length (drop 16 text) ≡ 16 * n = omega (arith, length-drop 16 text) in
      let back : encrypted key (added vector p) ≡ c =
      ap (encrypted key) (added-twice_left vector d is_d.1) ∙ encrypted-decrypted key c is_key is_c in
      let others : cipher_blocks key c n rest ≡ drop 16 text =
      cipher_blocks-plain_blocks n c (drop 16 text) is_c.0 (All-drop (λ b. b < 256) 16 text t) left in
      (λ i. encrypted key (added vector (take_block p rest len_p i))
      ++ cipher_blocks key (encrypted key (added vector (take_block p rest len_p i))) n (drop_block p rest len_p i))
      ∙ (λ i. back i ++ cipher_blocks key (back i) n rest)
      ∙ ap (λ (x : List ℕ). c ++ x) others ∙ take-append-drop 16 text

  pub length-cipher_blocks : (n : ℕ) (vector text : List ℕ) → AreBytes vector → AreBytes text → length text ≡ 16 * n
      → length (cipher_blocks key vector n text) ≡ 16 * n
  unfolding cipher_blocks
  length-cipher_blocks zero vector text v t len = refl
  length-cipher_blocks (suc n) vector text v t len =
      let b : List ℕ = added vector (take 16 text) in
      let c : List ℕ = encrypted key b in
      let is_b : IsBlock b = IsBlock-added vector (take 16 text) v (IsBlock-first text t (omega arith)).0 in
      let is_c : IsBlock c = IsBlock-encrypted key b is_key is_b in
      let left : length (drop 16 text) ≡ 16 * n = omega (arith, length-drop 16 text) in
      let before = length-cipher_blocks n c (drop 16 text) is_c.0 (All-drop (λ b. b < 256) 16 text t) left in
      omega (arith, length-append c (cipher_blocks key c n (drop 16 text)), is_c.1, before)

  pub length-plain_blocks : (n : ℕ) (vector text : List ℕ) → length text ≡ 16 * n → length (plain_blocks key vector n text) ≡ 16 * n
  unfolding plain_blocks
  length-plain_blocks zero vector text len = refl
  length-plain_blocks (suc n) vector text len =
      let p : List ℕ = added vector (decrypted key (take 16 text)) in
      let left : length (drop 16 text) ≡ 16 * n = omega (arith, length-drop 16 text) in
      let before = length-plain_blocks n (take 16 text) (drop 16 text) left in
      omega (arith, length-append p (plain_blocks key (take 16 text) n (drop 16 text)), length-added vector (decrypted key (take 16 text)), before)

-- a text keeps its length and is made of bytes
module _ (key : List ℕ) (is_key : IsKey key) where
  AreBytes-cipher_blocks : (n : ℕ) (vector text : List ℕ) → AreBytes vector → AreBytes text → length text ≡ 16 * n
      → AreBytes (cipher_blocks key vector n text)
  unfolding cipher_blocks
  AreBytes-cipher_blocks zero vector text v t len = All-nil (λ b. b < 256)
  AreBytes-cipher_blocks (suc n) vector text v t len =
      let b : List ℕ = added vector (take 16 text) in
      let c : List ℕ = encrypted key b in
      let is_c : IsBlock c = IsBlock-encrypted key b is_key (IsBlock-added vector (take 16 text) v (IsBlock-first text t (omega arith)).0) in
      let left : length (drop 16 text) ≡ 16 * n = omega (arith, length-drop 16 text) in
      All-append (λ b. b < 256) c (cipher_blocks key c n (drop 16 text)) is_c.0
      (AreBytes-cipher_blocks n c (drop 16 text) is_c.0 (All-drop (λ b. b < 256) 16 text t) left)

  AreBytes-plain_blocks : (n : ℕ) (vector text : List ℕ) → AreBytes vector → AreBytes text → length text ≡ 16 * n
      → AreBytes (plain_blocks key vector n text)
  unfolding plain_blocks
  AreBytes-plain_blocks zero vector text v t len = All-nil (λ b. b < 256)
  AreBytes-plain_blocks (suc n) vector text v t len =
      let first : IsBlock (take 16 text) = IsBlock-first text t (omega arith) in
      let p : List ℕ = added vector (decrypted key (take 16 text)) in
      let left : length (drop 16 text) ≡ 16 * n = omega (arith, length-drop 16 text) in
      All-append (λ b. b < 256) p (plain_blocks key (take 16 text) n (drop 16 text))
      (IsBlock-added vector (decrypted key (take 16 text)) v (IsBlock-decrypted key (take 16 text) is_key first).0).0
      (AreBytes-plain_blocks n (take 16 text) (drop 16 text) first.0 (All-drop (λ b. b < 256) 16 text t) left)

-- a block that is written in place, with what is before and after it
module _ (i k : ℕ) (text c : List ℕ) (width : k ≡ 16) (fits : 16 * i + 16 ≤ length text) (len : length c ≡ 16) where
  take_written : take (16 * (i + 1)) (put_mid (16 * i) k text c) ≡ take (16 * i) text ++ c
  take_written = take-put_mid (16 * i) k text c (16 * (i + 1)) (omega arith) (omega arith)

  drop_written : drop (16 * (i + 1)) (put_mid (16 * i) k text c) ≡ drop 16 (drop (16 * i) text)
  drop_written =
      let next : 16 * (i + 1) ≡ 16 * i + 16 = omega arith in
      drop-put_mid (16 * i) k text c (16 * (i + 1)) (omega arith) (omega arith) (omega arith)
      ∙ ap (λ (m : ℕ). drop m text) next ∙ sym (drop-drop 16 (16 * i) text)

-- one block more of a chain that is encrypted in place
pub cipher_blocks_more : (key vector whole text c : List ℕ) (n i k : ℕ) → k ≡ 16 → i < n → 16 * n ≤ length text
    → whole ≡ take (16 * i) text ++ cipher_blocks key vector (n - i) (drop (16 * i) text)
    → c ≡ encrypted key (added vector (take k (drop (16 * i) text))) → length c ≡ 16
    → whole ≡ take (16 * (i + 1)) (put_mid (16 * i) k text c) ++ cipher_blocks key c (n - (i + 1)) (drop (16 * (i + 1)) (put_mid (16 * i) k text c))
unfolding cipher_blocks
cipher_blocks_more key vector whole text c n i k width low fits before is len =
    let rest : List ℕ = drop (16 * i) text in
    let m : ℕ = n - (i + 1) in
    let count : n - i ≡ suc m = omega arith in
    let same : encrypted key (added vector (take 16 rest)) ≡ c = ap (λ (j : ℕ). encrypted key (added vector (take j rest))) (sym width) ∙ sym is in
    before ∙ ap (λ (j : ℕ). take (16 * i) text ++ cipher_blocks key vector j rest) count
    ∙ (λ t. take (16 * i) text ++ (same t ++ cipher_blocks key (same t) m (drop 16 rest)))
    ∙ sym (append_assoc (take (16 * i) text) c (cipher_blocks key c m (drop 16 rest)))
    ∙ sym (λ t. take_written i k text c width (omega arith) len t ++ cipher_blocks key c m (drop_written i k text c width (omega arith) len t))

-- one block more of a chain that is decrypted in place
pub plain_blocks_more : (key vector whole text p c : List ℕ) (n i k : ℕ) → k ≡ 16 → i < n → 16 * n ≤ length text
    → whole ≡ take (16 * i) text ++ plain_blocks key vector (n - i) (drop (16 * i) text)
    → c ≡ take k (drop (16 * i) text) → p ≡ added vector (decrypted key c) → length p ≡ 16
    → whole ≡ take (16 * (i + 1)) (put_mid (16 * i) k text p) ++ plain_blocks key c (n - (i + 1)) (drop (16 * (i + 1)) (put_mid (16 * i) k text p))
unfolding plain_blocks
plain_blocks_more key vector whole text p c n i k width low fits before is_c is len =
    let rest : List ℕ = drop (16 * i) text in
    let m : ℕ = n - (i + 1) in
    let count : n - i ≡ suc m = omega arith in
    let same : take 16 rest ≡ c = ap (λ (j : ℕ). take j rest) (sym width) ∙ sym is_c in
    before ∙ ap (λ (j : ℕ). take (16 * i) text ++ plain_blocks key vector j rest) count
    ∙ (λ t. take (16 * i) text ++ (added vector (decrypted key (same t)) ++ plain_blocks key (same t) m (drop 16 rest)))
    ∙ (λ t. take (16 * i) text ++ (sym is t ++ plain_blocks key c m (drop 16 rest)))
    ∙ sym (append_assoc (take (16 * i) text) p (plain_blocks key c m (drop 16 rest)))
    ∙ sym (λ t. take_written i k text p width (omega arith) len t ++ plain_blocks key c m (drop_written i k text p width (omega arith) len t))

-- the end of both
pub cipher_blocks_all : (key vector whole text : List ℕ) (n i : ℕ) → n ≡ i → length text ≡ 16 * n
    → whole ≡ take (16 * i) text ++ cipher_blocks key vector (n - i) (drop (16 * i) text) → text ≡ whole
unfolding cipher_blocks
cipher_blocks_all key vector whole text n i end len is =
    let none : n - i ≡ 0 = omega arith in
    sym (is ∙ ap (λ (j : ℕ). take (16 * i) text ++ cipher_blocks key vector j (drop (16 * i) text)) none
    ∙ append-nil (take (16 * i) text) ∙ take_all (16 * i) text (omega arith))

pub plain_blocks_all : (key vector whole text : List ℕ) (n i : ℕ) → n ≡ i → length text ≡ 16 * n
    → whole ≡ take (16 * i) text ++ plain_blocks key vector (n - i) (drop (16 * i) text) → text ≡ whole
unfolding plain_blocks
plain_blocks_all key vector whole text n i end len is =
    let none : n - i ≡ 0 = omega arith in
    sym (is ∙ ap (λ (j : ℕ). take (16 * i) text ++ plain_blocks key vector j (drop (16 * i) text)) none
    ∙ append-nil (take (16 * i) text) ∙ take_all (16 * i) text (omega arith))

-- four words of 0 are the first vector
pub state_at-zeros : state_at (0 ∷ 0 ∷ 0 ∷ 0 ∷ []) 0 ≡ first_vector
unfolding state_at state
state_at-zeros = refl

pub length-state_at : (words : List ℕ) (i : ℕ) → length (state_at words i) ≡ 16
unfolding state_at state
length-state_at words i = refl

first_vector-bytes : AreBytes first_vector
first_vector-bytes = All-replicate (λ b. b < 256) 16 0 (omega arith)

pub chain_decrypted-chain_encrypted : ChainDecryptionUndoesEncryption
unfolding chain_encrypted chain_decrypted
chain_decrypted-chain_encrypted key text k t =
    let n : ℕ = length text / 16 in
    let whole : length text ≡ 16 * n = omega (arith, t.1) in
    let len = length-cipher_blocks key k n first_vector text first_vector-bytes t.0 whole in
    let same : length (cipher_blocks key first_vector n text) / 16 ≡ n = omega (arith, len) in
    ap (λ (m : ℕ). plain_blocks key first_vector m (cipher_blocks key first_vector n text)) same
    ∙ plain_blocks-cipher_blocks key k n first_vector text first_vector-bytes t.0 whole

pub chain_encrypted-chain_decrypted : ChainEncryptionUndoesDecryption
unfolding chain_encrypted chain_decrypted
chain_encrypted-chain_decrypted key text k t =
    let n : ℕ = length text / 16 in
    let whole : length text ≡ 16 * n = omega (arith, t.1) in
    let len = length-plain_blocks key k n first_vector text whole in
    let same : length (plain_blocks key first_vector n text) / 16 ≡ n = omega (arith, len) in
    ap (λ (m : ℕ). cipher_blocks key first_vector m (plain_blocks key first_vector n text)) same
    ∙ cipher_blocks-plain_blocks key k n first_vector text first_vector-bytes t.0 whole

pub length-chain_encrypted : (key text : List ℕ) → IsKey key → IsWhole text → length (chain_encrypted key text) ≡ length text
unfolding chain_encrypted
length-chain_encrypted key text k t =
    let n : ℕ = length text / 16 in
    omega (arith, t.1, length-cipher_blocks key k n first_vector text first_vector-bytes t.0 (omega (arith, t.1)))

pub length-chain_decrypted : (key text : List ℕ) → IsKey key → IsWhole text → length (chain_decrypted key text) ≡ length text
unfolding chain_decrypted
length-chain_decrypted key text k t =
    let n : ℕ = length text / 16 in
    omega (arith, t.1, length-plain_blocks key k n first_vector text (omega (arith, t.1)))

pub IsWhole-chain_encrypted : (key text : List ℕ) → IsKey key → IsWhole text → IsWhole (chain_encrypted key text)
unfolding chain_encrypted
IsWhole-chain_encrypted key text k t =
    let n : ℕ = length text / 16 in
    let whole : length text ≡ 16 * n = omega (arith, t.1) in
    (AreBytes-cipher_blocks key k n first_vector text first_vector-bytes t.0 whole, omega (arith, t.1, length-chain_encrypted key text k t))

pub IsWhole-chain_decrypted : (key text : List ℕ) → IsKey key → IsWhole text → IsWhole (chain_decrypted key text)
unfolding chain_decrypted
IsWhole-chain_decrypted key text k t =
    let n : ℕ = length text / 16 in
    let whole : length text ≡ 16 * n = omega (arith, t.1) in
    (AreBytes-plain_blocks key k n first_vector text first_vector-bytes t.0 whole, omega (arith, t.1, length-chain_decrypted key text k t))
