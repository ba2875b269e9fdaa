use Rattle.std.proofs.Common.{◌≡◌, ◌/◌, ◌%◌, List, ℕ, ◌∙◌, ap, get_or, bit_xor, arith}
use Rattle.dc09_frame.proofs.Blocks.{byte_gives}
use Rattle.dc09_frame.proofs.checksum.with_byte.Goals as goal

pub returns : goal.returns
returns c =
    let low : c.from-2.result ≡ bit_xor c.args.byte (c.args.sum % 256) =
    c.from-2.ensures ∙ ap (λ (l : List ℕ). bit_xor c.args.byte (get_or l 0 0)) c.to_le_bytes.ensures in
    let high : c.from.result ≡ c.args.sum / 256 % 256 = c.from.ensures ∙ ap (λ (l : List ℕ). get_or l 1 0) c.to_le_bytes.ensures in
    rw (low, high) (byte_gives c.args.sum c.args.byte (omega arith) (omega arith))
