use Rattle.std.proofs.Common.{◌≡◌, ◌∙◌, arith, true, sym, ap}
use Rattle.std.specs.List.{list_all}
use Rattle.arc_data.specs.Digits.{is_hex}
use Rattle.aes_chain.specs.Chain.{chain_decrypted}
use Rattle.dc09_crypt.specs.Sealed.{is_cipher}
use Rattle.dc09_crypt.proofs.Openings.{no_cipher, cipher_text, short_cipher, odd_cipher, other_cipher, all_cipher}
use Rattle.dc09_crypt.proofs.body.open_body.Goals as goal
use Rattle.dc09_crypt.proofs.body.open_body.Goals.{then-digits-lt-BLOCK_DIGITS-via-then-digits-lt-BLOCK_DIGITS, then-digits-lt-BLOCK_DIGITS-via-else-digits-lt-BLOCK_DIGITS+then-digits-ne0}

pub returns-then-digits-lt-BLOCK_DIGITS-clause-opening : goal.returns-then-digits-lt-BLOCK_DIGITS-clause-opening
returns-then-digits-lt-BLOCK_DIGITS-clause-opening c =
    elim c.then-digits-lt-BLOCK_DIGITS.branch [
      | then-digits-lt-BLOCK_DIGITS-via-then-digits-lt-BLOCK_DIGITS w ↦ no_cipher c.args.key.now c.args.digits.now (short_cipher c.args.digits.now w.if-digits-lt-BLOCK_DIGITS.true)
      | then-digits-lt-BLOCK_DIGITS-via-else-digits-lt-BLOCK_DIGITS+then-digits-ne0 w ↦ no_cipher c.args.key.now c.args.digits.now (odd_cipher c.args.digits.now w.if-digits-ne0.true)
    ]

pub returns-then-not-decode-clause-opening : goal.returns-then-not-decode-clause-opening
returns-then-not-decode-clause-opening c =
    no_cipher c.args.key.now c.args.digits.now (other_cipher c.args.digits.now (sym c.decode.ensures.all ∙ c.if-not-decode.true))

pub returns-clause-opening : goal.returns-clause-opening
returns-clause-opening c =
    let all : list_all is_hex c.args.digits.now ≡ true = sym c.decode.ensures.all ∙ c.if-not-decode.false in
    let is : is_cipher c.args.digits.now ≡ true = all_cipher c.args.digits.now all (omega arith) (omega arith) in
    let text = c.chain_decrypt.ensures ∙ ap (chain_decrypted c.args.key.now) (c.decode.ensures.spelled c.if-not-decode.false) in
    c.of_text.ensures.value ∙ cipher_text c.args.key.now c.args.digits.now c.chain_decrypt.new.text is text
