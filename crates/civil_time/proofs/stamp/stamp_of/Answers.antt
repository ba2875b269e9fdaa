use Rattle.std.proofs.Common.{◌≡◌, arith, FitsSigned, w8, w16, to_z, of_z, ℕ, ℤ, ap, ◌∙◌, ◌/◌, pos}
use Rattle.jiff.proofs.SpanFacts.{signed_arith}
use Rattle.std.specs.Prelude.{unsigned_abs}
use Rattle.std.specs.Int.{Width}
use Rattle.std.proofs.lemmas.Int.{to_z-of_z}
use Rattle.civil_time.specs.Calendar.{date_of}
use Rattle.civil_time.specs.Stamp.{stamp}
use Rattle.civil_time.proofs.DateLemmas.{epoch_day-date_of}
use Rattle.civil_time.proofs.StampLemmas.{date_of-shown}
use Rattle.civil_time.proofs.stamp.stamp_of.Goals as goal

pub returns : goal.returns
unfolding stamp
returns c =
    let n = c.args.moment / 86_400 in
    let shown = date_of-shown c.args.moment c.requires in
    let same = epoch_day-date_of c.date_at-date.result n (omega arith) c.date_at-date.ensures in
    let year_fits : FitsSigned w16 (pos (date_of n).year) = omega (arith, signed_arith, shown.year) in
    let month_fits : FitsSigned w8 (pos (date_of n).month) = omega (arith, signed_arith, shown.month) in
    let day_fits : FitsSigned w8 (pos (date_of n).day) = omega (arith, signed_arith, shown.day) in
    let year = c.from-year.ensures ∙ c.unsigned_abs.ensures.value ∙ cast w16 _ _ (c.year.ensures ∙ same.year) year_fits in
    let month = cast w8 _ _ (c.month.ensures ∙ ap pos same.month) month_fits in
    let day = cast w8 _ _ (c.day.ensures ∙ ap pos same.day) day_fits in
    rw (c.put_digits-7.ensures, c.put_digits-6.ensures, c.put_digits-5.ensures, c.put_digits-4.ensures, c.put_digits-3.ensures, c.put_digits-2.ensures, c.put_digits.ensures, year, month, day)
  where
    cast : (w : Width) (z : ℤ) (k : ℕ) → z ≡ pos k → FitsSigned w (pos k) → unsigned_abs (to_z w (of_z w z)) ≡ k
    cast w z k same fits = rw same (simp to_z-of_z)
