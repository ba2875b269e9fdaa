use Rattle.std.proofs.Common.{◌∙◌, sym, length}
use Rattle.arc_text.proofs.DigitPairs.{decodes}
use Rattle.dc09_crypt.proofs.body.decode.Goals as goal

pub returns-clause-all : goal.returns-clause-all
returns-clause-all c =
    c.is_ok.ensures.value ∙ (decodes c.args.digits.now c.decode_to_slice.new.out (length c.args.bytes.now) c.decode_to_slice.result c.requires c.decode_to_slice.ensures.value).all

pub returns-clause-spelled : goal.returns-clause-spelled
returns-clause-spelled c = λ taken.
    (decodes c.args.digits.now c.decode_to_slice.new.out (length c.args.bytes.now) c.decode_to_slice.result c.requires c.decode_to_slice.ensures.value).spelled (sym c.is_ok.ensures.value ∙ taken)
