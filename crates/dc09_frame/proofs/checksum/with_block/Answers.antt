use Rattle.std.proofs.Common.{◌≡◌, ◌/◌, ◌%◌, List, ℕ, ◌∙◌, ap, get_or, bit_xor, arith}
use Rattle.dc09_frame.specs.declared.tables.TheConstants.{AFTER_8, AFTER_16, AFTER_24, AFTER_32, AFTER_40, AFTER_48, AFTER_56, AFTER_64}
use Rattle.dc09_frame.proofs.Blocks.{block_gives}
use Rattle.dc09_frame.proofs.checksum.with_block.Goals as goal

pub returns : goal.returns
returns c =
    let block : List ℕ = c.args.block.now in
    let first : c.from.result ≡ bit_xor (get_or block 0 0) (c.args.sum % 256) =
    c.from.ensures ∙ ap (λ (l : List ℕ). bit_xor (get_or block 0 0) (get_or l 0 0)) c.to_le_bytes.ensures in
    let second : c.from-2.result ≡ bit_xor (get_or block 1 0) (c.args.sum / 256 % 256) =
    c.from-2.ensures ∙ ap (λ (l : List ℕ). bit_xor (get_or block 1 0) (get_or l 1 0)) c.to_le_bytes.ensures in
    (λ i. bit_xor (bit_xor (bit_xor (bit_xor (bit_xor (bit_xor (bit_xor (get_or AFTER_64.now (first i) 0) (get_or AFTER_56.now (second i) 0))
    (get_or AFTER_48.now (c.from-3.ensures i) 0)) (get_or AFTER_40.now (c.from-4.ensures i) 0))
    (get_or AFTER_32.now (c.from-5.ensures i) 0)) (get_or AFTER_24.now (c.from-6.ensures i) 0))
    (get_or AFTER_16.now (c.from-7.ensures i) 0)) (get_or AFTER_8.now (c.from-8.ensures i) 0))
    ∙ block_gives c.args.sum block c.told-block c.fits-block (omega arith)
