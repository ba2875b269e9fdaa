-- Which lines of a script that were cut are passed over, and the moment of what the others ask for.
use Rattle.std.proofs.Common.{◌≡◌, ◌&&◌, ℕ, List, Bool, true, false, length, nat_le, refl, sym, ap, ◌∙◌}
use Rattle.arc_text.specs.LineCutting.{cut_of, line_of}
use Rattle.arc_text.specs.declared.line_cut.LineCut.{LineCut}
use Rattle.arc_text.specs.declared.line_cut.LineCut.TheVariants.{Whole, TooLong}
use Rattle.script_lines.specs.Lines.{is_skipped}
use Rattle.arc_script.specs.Texts.{is_passed, line_limit}
use Rattle.arc_script.proofs.Asking.{not_passed, whole_short}

and_true : (a b : Bool) → b ≡ true → (a && b) ≡ a
and_true true b is = is
and_true false b is = refl

-- whether a line is passed over is told by what the cutter has of it
pub passed_whole : (cut : LineCut) (kept typed : List ℕ) → cut ≡ cut_of line_limit typed → kept ≡ line_of cut typed → cut ≡ Whole
    → is_skipped kept ≡ is_passed typed
passed_whole cut kept typed is has whole =
    ap is_skipped (has ∙ ap (λ (c : LineCut). line_of c typed) whole)
    ∙ sym (and_true (is_skipped typed) (nat_le (length typed) line_limit) (whole_short cut typed is whole))

-- and one that is too long never is
pub passed_long : (cut : LineCut) (kept typed : List ℕ) → cut ≡ cut_of line_limit typed → kept ≡ line_of cut typed → cut ≡ TooLong
    → is_passed typed ≡ false
passed_long cut kept typed is has long = not_passed cut kept typed is has (λ whole. absurd (let clash = sym long ∙ whole in cc))
