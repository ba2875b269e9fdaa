-- What stands behind an opening stands on where nothing is written from there.
use Rattle.std.proofs.Common.{◌≡◌, ◌≤◌, ◌<◌, ◌⊎◌, ℕ, length, Option, Some, None, IfSome, inl, inr, sym, subst, arith}
use Rattle.arc_io.proofs.Moments.{joined}
use Rattle.arc_io.specs.Areas.{Areas}
use Rattle.arc_io.specs.Crashes.{Becomes, IsQuiet}
use Rattle.arc_io.specs.Disks.{DiskSeen}
use Rattle.centre_store.specs.Given.{GoesOn}
use Rattle.centre_store.specs.Openings.{CanOpen}
use Rattle.disk_journal.specs.Standing.{chosen_part, version_now}
use Rattle.arc_server.specs.Reports.{StandsOn}

pub stands_quiet : (old mid new : DiskSeen) → ((t : ℕ) (c : Areas) → t ≤ mid.moment → mid.may_leave c → mid.left_since t c)
    → StandsOn old mid → IsQuiet mid new → StandsOn old new
stands_quiet old mid new counts_now stays quiet = record {
  area = subst (λ (o : Option Areas). Becomes old.told o GoesOn) (sym quiet.same) stays.area;
  images = joined old mid new (λ c. (d : Areas) × old.may_leave d × GoesOn d c) mid.may_leave stays.images quiet.any_moment
      (λ c now. stays.images.each c (counts_now old.moment c stays.images.later now));
}

-- what is of the second version is not of the first
of_second : (version : ℕ) (Quiet Opens : Type 0) → Quiet ⊎ ((version ≡ 1) × Opens) → version ≡ 2 → Quiet
of_second version Quiet Opens (inl quiet) two = quiet
of_second version Quiet Opens (inr (one, opens)) two = absurd (omega (arith, one, two))

pub opens_quiet : (old new : DiskSeen) (told : Option Areas)
    → IfSome told (λ s. 17 < length (chosen_part s) → IsQuiet old new ⊎ ((version_now s ≡ 1) × CanOpen s))
    → IfSome told (λ s. 17 < length (chosen_part s) → version_now s ≡ 2 → IsQuiet old new)
opens_quiet old new None long = long
opens_quiet old new (Some s) long = λ whole two. of_second (version_now s) (IsQuiet old new) (CanOpen s) (long whole) two
