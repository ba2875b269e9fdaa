use Rattle.std.proofs.Common.{sym, ◌∙◌, ap, Some}
use Rattle.arc_text.proofs.Words.{word_of_digits}
use Rattle.arc_text.proofs.hexadecimal.hex_word.Goals as goal

pub returns : goal.returns
returns c =
    let a = sym c.hex_digit.ensures.value ∙ c.in_ok-hex_digit.was ∙ ap Some (sym c.from.ensures) in
    let b = sym c.hex_digit-2.ensures.value ∙ c.in_ok-hex_digit-2.was ∙ ap Some (sym c.from-2.ensures) in
    let d = sym c.hex_digit-3.ensures.value ∙ c.in_ok-hex_digit-3.was ∙ ap Some (sym c.from-3.ensures) in
    let e = sym c.hex_digit-4.ensures.value ∙ c.in_ok-hex_digit-4.was ∙ ap Some (sym c.from-4.ensures) in
    word_of_digits c.args.bytes.now c.from.result c.from-2.result c.from-3.result c.from-4.result c.in-len4.len_at_least c.in-len4.len_below a b d e
