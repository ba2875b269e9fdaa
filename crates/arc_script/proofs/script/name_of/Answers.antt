use Rattle.std.proofs.Common.{◌≡◌, ◌+◌, ◌%◌, ◌∷◌, ℕ, List, [], Option, Some, sym, subst, ◌∙◌}
use Rattle.std.specs.Prelude.{IfSome}
use Rattle.arc_script.proofs.Named.{one_digit, two_digits}
use Rattle.arc_script.proofs.script.name_of.Goals.{then-line-lt10, else-line-lt10}
use Rattle.arc_script.proofs.script.name_of.Goals as goal

-- the text that was made
text_of : (o made : Option (List ℕ)) (name text : List ℕ) → o ≡ made → o ≡ Some name → IfSome made (λ t. t ≡ text) → name ≡ text
text_of o made name text was is told = subst (λ (k : Option (List ℕ)). IfSome k (λ t. t ≡ text)) (sym was ∙ is) told

pub returns-clause-value : goal.returns-clause-value
returns-clause-value c = elim c.if-line-lt10.branch [
  | then-line-lt10 w ↦
      text_of c.if-line-lt10.name w.of-name.result c.in-Some.name (108 ∷ (48 + c.args.line % 10) ∷ []) w.name-is c.in-Some.is w.of-name.ensures.value
      ∙ sym (one_digit c.args.line w.if-line-lt10.true)
  | else-line-lt10 w ↦
      text_of c.if-line-lt10.name w.of-name-else-line-lt10.result c.in-Some.name (108 ∷ 49 ∷ (48 + c.args.line % 10) ∷ []) w.name-is c.in-Some.is
      w.of-name-else-line-lt10.ensures.value ∙ sym (two_digits c.args.line w.if-line-lt10.false c.requires.high)
]
