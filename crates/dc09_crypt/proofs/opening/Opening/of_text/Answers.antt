use Rattle.std.proofs.Common.{◌+◌, ◌∙◌, sym, ap}
use Rattle.dc09_crypt.specs.Sealed.{opened_at, opened_with}
use Rattle.dc09_crypt.proofs.opening.Opening.of_text.Goals as goal

pub returns-in_default-clause-value : goal.returns-in_default-clause-value
returns-in_default-clause-value c =
    ap (opened_at c.args.text.now) (sym c.in_default.is ∙ c.first_bar.ensures.value)

pub returns-in-Some-stamp_behind-clause-value : goal.returns-in-Some-stamp_behind-clause-value
returns-in-Some-stamp_behind-clause-value c =
    ap (opened_with c.args.text.now (c.in-Some.bar + 1)) (sym c.in-Some-stamp_behind.is ∙ c.stamp_behind.ensures.value) ∙ ap (opened_at c.args.text.now) (sym c.in-Some.is ∙ c.first_bar.ensures.value)

pub returns-in-None-clause-value : goal.returns-in-None-clause-value
returns-in-None-clause-value c =
    ap (opened_with c.args.text.now (c.in-Some.bar + 1)) (sym c.in-None.is ∙ c.stamp_behind.ensures.value) ∙ ap (opened_at c.args.text.now) (sym c.in-Some.is ∙ c.first_bar.ensures.value)
