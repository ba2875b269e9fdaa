use Rattle.std.proofs.Common.{arith, ◌∙◌, ◌≡◌, ◌*◌, ◌/◌, length, take}
use Rattle.std.proofs.lemmas.List.{length-take}
use Rattle.arc_text.proofs.DigitPairs.{decodes}
use Rattle.script_lines.proofs.digits.spelled.Goals as goal

pub returns : goal.returns
returns c =
    let half = length c.args.digits.now / 2 in
    let room = length-take half c.args.bytes.now in
    let size : length c.args.digits.now ≡ 2 * length (take half c.args.bytes.now) = omega (arith, room, c.told-bytes, c.requires.short, c.requires.digits.even) in
    let d = decodes c.args.digits.now c.decode_to_slice.new.out (length (take half c.args.bytes.now)) c.decode_to_slice.result size c.decode_to_slice.ensures.value in
    d.spelled (d.all ∙ c.requires.digits.hex)
