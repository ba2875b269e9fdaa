use Rattle.std.proofs.Common.{ℕ, List, ap, ◌∙◌, codes}
use Rattle.std.specs.Prelude.{decimal}
use Rattle.screen_page.specs.Prompts.{code_word}
use Rattle.screen_page.specs.Texts.{with_text}
use Rattle.screen_page.proofs.prompts.closing_row.Goals as goal

pub returns : goal.returns
returns c =
    c.put-4.ensures ∙ ap (λ (t : List ℕ). with_text t (codes "? y closes it, any other key does not"))
    (c.put-3.ensures ∙ ap (with_text c.put-2.new.self) c.code_word.ensures ∙ ap (λ (t : List ℕ). with_text t (code_word c.args.code))
    (c.put-2.ensures ∙ ap (λ (t : List ℕ). with_text t (codes " as "))
    (c.put_number.ensures ∙ ap (λ (t : List ℕ). with_text t (decimal c.args.number))
    (c.put.ensures ∙ ap (λ (t : List ℕ). with_text t (codes "close ")) c.new-strip.ensures))))
