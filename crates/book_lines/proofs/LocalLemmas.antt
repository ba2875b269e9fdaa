-- What a clock by the rule of a zone shows is local time in it.
use Rattle.std.proofs.Common.{◌≡◌, ◌≤◌, ◌+◌, ◌-◌, ◌*◌, ◌/◌, ◌%◌, ℕ, suc, ℤ, pos, negsuc, ◌+ℤ◌, ◌*ℤ◌, Bool, true, false, Some, None, if◌then◌else◌, int_lt, unsigned_abs, refl, sym, ◌∙◌, arith}
use Rattle.std.specs.Prelude.{nat_le, nat_lt}
use Rattle.std.specs.Int.{int_div_euclid, int_rem_euclid}
use Rattle.std.proofs.lemmas.Bool.{leb-true}
use Rattle.jiff_core.proofs.SignedLemmas.{signed_arith, int_div_euclid-parts, int_rem_euclid-parts, unsigned_abs-parts}
use Rattle.zone_rules.specs.Zones.{Zone}
use Rattle.civil_time.specs.ZonedMinutes.{minutes_ahead}
use Rattle.civil_time.proofs.ZoneLemmas.{zoned_day-minutes, zoned_minute-minutes}
use Rattle.book_lines.specs.Clocks.{offset_at, shown}
use Rattle.book_lines.specs.Laws.{IsLocalTime}
use Rattle.book_lines.specs.declared.clock.Clock.TheVariants.{Ruled}
use Rattle.book_lines.specs.declared.clock.Offset.TheVariants.{Ahead, Behind}

taken : (b : Bool) (x s : ℕ) → (if b then Some x else None) ≡ Some s → (b ≡ true) × (x ≡ s)
taken true x s e = (refl, cc)
taken false x s e = absurd cc

-- what is shown, by the minutes that the clock is ahead
ahead : (a : ℤ) (t s : ℕ) (b : Bool) → int_lt a (pos 0) ≡ b → shown (if b then Behind (unsigned_abs a) else Ahead (unsigned_abs a)) t ≡ Some s
    → pos s ≡ pos t +ℤ a *ℤ pos 60
ahead (pos n) t s true is e = omega (arith, signed_arith)
ahead (pos n) t s false is e =
    let was = taken (nat_lt (t + 60 * n) 253_402_300_800) (t + 60 * n) s e in
    let same = was.1 in
    omega (arith, signed_arith)
ahead (negsuc n) t s true is e =
    let was = taken (nat_le (60 * suc n) t) (t - 60 * suc n) s e in
    let same = was.1 in
    let le : 60 * suc n ≤ t = leb-true (60 * suc n) t was.0 in
    omega (arith, signed_arith)
ahead (negsuc n) t s false is e = omega (arith, signed_arith)

day_shown : (a : ℤ) (t s : ℕ) → pos s ≡ pos t +ℤ a *ℤ pos 60 → pos (s / 86_400) ≡ int_div_euclid (pos (t / 60) +ℤ a) (pos 1440)
day_shown a t s is =
    let days = int_div_euclid-parts (pos (t / 60) +ℤ a) 1440 (omega arith) in
    omega (arith, signed_arith, is)

minute_shown : (a : ℤ) (t s : ℕ) → pos s ≡ pos t +ℤ a *ℤ pos 60 → s / 60 % 1440 ≡ unsigned_abs (int_rem_euclid (pos (t / 60) +ℤ a) (pos 1440))
minute_shown a t s is =
    let day = day_shown a t s is in
    let rest = int_rem_euclid-parts (pos (t / 60) +ℤ a) 1440 (omega arith) in
    let parts = unsigned_abs-parts (int_rem_euclid (pos (t / 60) +ℤ a) (pos 1440)) in
    omega (arith, signed_arith, is)

second_shown : (a : ℤ) (t s : ℕ) → pos s ≡ pos t +ℤ a *ℤ pos 60 → s % 60 ≡ t % 60
second_shown (pos a) t s is = omega (arith, signed_arith, is)
second_shown (negsuc a) t s is = omega (arith, signed_arith, is)

pub zone_shown : (zone : Zone) (t s : ℕ) → shown (offset_at (Ruled zone) t) t ≡ Some s → IsLocalTime zone t s
zone_shown zone t s e =
    let a = minutes_ahead zone (t / 60) in
    let is : pos s ≡ pos t +ℤ a *ℤ pos 60 = ahead a t s (int_lt a (pos 0)) refl e in
    record {
      day = day_shown a t s is ∙ sym (zoned_day-minutes zone t);
      minute = minute_shown a t s is ∙ sym (zoned_minute-minutes zone t);
      second = second_shown a t s is;
    }
