-- What a cutter has of a line that it told is within the limit.
use Rattle.std.proofs.Common.{◌≡◌, ◌⊎◌, ◌<◌, ◌≤◌, ℕ, List, Bool, true, false, length, nat_le, inl, inr, refl, sym, subst, ◌∙◌, arith}
use Rattle.std.proofs.lemmas.Bool.{false≢true}
use Rattle.std.proofs.lemmas.Bool.Decides.{leb_tells}
use Rattle.arc_text.specs.LineCutting.{cut_of, line_of}
use Rattle.arc_text.specs.declared.line_cut.LineCut.{LineCut}
use Rattle.arc_text.specs.declared.line_cut.LineCut.TheVariants.{Whole, TooLong}
use Rattle.arc_script.specs.Texts.{line_limit}
use Rattle.arc_script.proofs.Asking.{whole_short}

fits_step : (t : Bool) (a b : ℕ) → ((t ≡ true) × (a ≤ b)) ⊎ ((t ≡ false) × (b < a)) → t ≡ true → a ≤ b
fits_step t a b (inl is) holds = is.1
fits_step t a b (inr is) holds = absurd (false≢true (sym is.0 ∙ holds))

-- a line that is whole is within it
pub whole_fits : (cut : LineCut) (typed : List ℕ) → cut ≡ cut_of line_limit typed → cut ≡ Whole → length typed ≤ line_limit
whole_fits cut typed is whole =
    fits_step (nat_le (length typed) line_limit) (length typed) line_limit (leb_tells (length typed) line_limit) (whole_short cut typed is whole)

pub told_short : (cut : LineCut) (typed kept : List ℕ) → cut ≡ cut_of line_limit typed → kept ≡ line_of cut typed → length kept ≤ line_limit
told_short Whole typed kept is has = subst (λ (l : List ℕ). length l ≤ line_limit) (sym has) (whole_fits Whole typed is refl)
told_short TooLong typed kept is has = subst (λ (l : List ℕ). length l ≤ line_limit) (sym has) (omega arith)
