-- Lines, one behind another, and what they say.
use Rattle.std.proofs.Common.{◌≡◌, ◌<◌, ◌≤◌, ℕ, List, [], ◌∷◌, ◌++◌, ap, subst, ◌∙◌, arith}
use Rattle.panel_rules.specs.Panels.{Happening, Step}
use Rattle.arc_text.specs.LineCutting.{line_of}
use Rattle.arc_text.specs.declared.line_cut.LineCut.{LineCut}
use Rattle.arc_text.specs.declared.line_cut.LineCut.TheVariants.{Whole}
use Rattle.arc_panel.proofs.Meanings.{one_meaning}
use Rattle.arc_panel.specs.Reading.{said}
use Rattle.arc_panel.specs.declared.line.PanelLine.{PanelLine}
use Rattle.arc_panel.specs.declared.line.PanelLine.TheVariants as Read
use Rattle.arc_panel.specs.Lines.{AreSaid, IsPlayable, MayFollow, Says, moment}

-- one line more
pub said_last : (before : List Happening) (lines : List (List ℕ)) (line : List ℕ) (h : List Happening) (x : Happening) → AreSaid before lines h → IsPlayable h line x
    → AreSaid before (lines ++ line ∷ []) (x ∷ h)
said_last before [] line h x are is = (x, subst (λ b. IsPlayable b line x) are is, ap (λ b. x ∷ b) are)
said_last before (first ∷ lines) line h x are is = (are.0, are.1, said_last (are.0 ∷ before) lines line h x are.2 is)

-- a step at a moment that falls is none
pub falls : (h : List Happening) (typed line : List ℕ) (read : PanelLine) (now before : ℕ) (cut : LineCut) → cut ≡ Whole → line ≡ line_of cut typed → Says line (said read) → read ≡ Read.Step now
    → before ≡ moment h → now < before → (x : Happening) → IsPlayable h typed x → ⊥
falls h typed line read now before cut whole is says reads at below x playable =
    let same_line : line ≡ typed = is ∙ ap (λ c. line_of c typed) whole in
    let steps : Says typed (Step now) = subst (λ (r : PanelLine). Says typed (said r)) reads (subst (λ (l : List ℕ). Says l (said read)) same_line says) in
    let same : x ≡ Step now = one_meaning typed x (Step now) playable.says steps in
    let later : moment h ≤ now = subst (MayFollow h) same playable.follows in
    absurd (omega (arith, later, at, below))
