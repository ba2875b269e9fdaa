use Rattle.std.proofs.Common.{◌≡◌, sym, ◌∙◌, ap, true, false}
use Rattle.std.proofs.lemmas.Fmt.{IsAscii-decimal}
use Rattle.std.proofs.lemmas.Str.{IsUtf8-from_ascii}
use Rattle.arc_text.specs.Words.{has_needless_front}
use Rattle.arc_text.proofs.Decimals.{plain-decimal, some_parsed, none_parsed}
use Rattle.arc_text.proofs.number.dec.Goals as goal

pub returns-then-has_needless_front-clause-none : goal.returns-then-has_needless_front-clause-none
returns-then-has_needless_front-clause-none c n lt is =
    let front : has_needless_front c.args.bytes.now ≡ true = sym c.has_needless_front.ensures ∙ c.if-has_needless_front.true in
    let plain : has_needless_front c.args.bytes.now ≡ false = ap has_needless_front is ∙ plain-decimal n lt in
    cc

pub returns-in_default-clause-none : goal.returns-in_default-clause-none
returns-in_default-clause-none c n lt is = c.in_default.ensures.cases.0 (rw is (IsUtf8-from_ascii _ (IsAscii-decimal n lt)))

pub returns-clause-some : goal.returns-clause-some
returns-clause-some c =
    some_parsed c.args.bytes.now c.in-Ok.text.now c.parse.result c.ok.result c.in-Ok.ensures.cases.0 (sym c.has_needless_front.ensures ∙ c.if-has_needless_front.false) c.parse.ensures.value.0 c.ok.ensures.value

pub returns-clause-none : goal.returns-clause-none
returns-clause-none c = none_parsed c.args.bytes.now c.in-Ok.text.now c.parse.result c.ok.result c.in-Ok.ensures.cases.0 c.parse.ensures.value.0 c.ok.ensures.value
