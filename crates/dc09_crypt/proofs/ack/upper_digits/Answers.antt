use Rattle.std.proofs.Common.{◌≡◌, ◌∙◌, ap, arith, map}
use Rattle.std.specs.Char.{to_ascii_uppercase}
use Rattle.std.proofs.lemmas.Result.{IfOk-at_ok}
use Rattle.hex.specs.Hex.{IsBytes, encode_lower}
use Rattle.dc09_crypt.specs.Sealed.{upper_digits}
use Rattle.dc09_crypt.proofs.UpperDigits.{upper_digits-raised, spelled_again}
use Rattle.dc09_crypt.proofs.ack.upper_digits.Goals as goal

pub returns-clause-value : goal.returns-clause-value
returns-clause-value c =
    let fits : IsBytes c.args.bytes.now = λ i. let f = c.fits-bytes i in omega arith in
    let written : c.encode_to_slice.new.output ≡ encode_lower c.args.bytes.now = IfOk-at_ok _ c.unwrap.ensures c.encode_to_slice.ensures.written in
    c.make_ascii_uppercase.ensures.after ∙ ap (map to_ascii_uppercase) written ∙ upper_digits-raised c.args.bytes.now fits

pub returns-clause-clean : goal.returns-clause-clean
returns-clause-clean c =
    let fits : IsBytes c.args.bytes.now = λ i. let f = c.fits-bytes i in omega arith in
    let written : c.encode_to_slice.new.output ≡ encode_lower c.args.bytes.now = IfOk-at_ok _ c.unwrap.ensures c.encode_to_slice.ensures.written in
    let is : c.make_ascii_uppercase.new.self ≡ upper_digits c.args.bytes.now = c.make_ascii_uppercase.ensures.after ∙ ap (map to_ascii_uppercase) written ∙ upper_digits-raised c.args.bytes.now fits in
    rw is (spelled_again c.args.bytes.now fits).clean
