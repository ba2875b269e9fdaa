-- What a run writes to one area alone, in its front.
use Rattle.std.proofs.Common.{◌≡◌, ◌≤◌, ◌+◌, ◌-◌, ℕ, List, drop, refl, sym, ap, ◌∙◌, subst, arith}
use Rattle.std.specs.Prelude.{IfSome}
use Rattle.std.proofs.lemmas.List.{drop-drop}
use Rattle.arc_io.specs.Areas.{Areas, part, rest}
use Rattle.arc_io.specs.Disks.{DiskSeen}
use Rattle.arc_io.specs.Crashes.{TornIn, IsQuiet}
use Rattle.arc_io.specs.declared.disk.Area.{Area}
use Rattle.disk_journal.specs.Journal.{IsSettled}
use Rattle.disk_journal.specs.Standing.{chosen, IsOtherSame, IsSameBehind}
use Rattle.disk_journal.specs.OtherArea.{SparesOther}
use Rattle.disk_journal.specs.Behind.{SparesBehind}
use Rattle.disk_journal.specs.Turning.{Changes}
use Rattle.disk_journal.proofs.Steps.{changes_map, changes_then, changes_weaker, quiet_changes, still}

further : (at m : ℕ) (d c : List ℕ) → at ≤ m → drop at c ≡ drop at d → drop m c ≡ drop m d
further at m d c le same =
    let is : at + (m - at) ≡ m = omega (arith, le) in
    ap (λ k. drop k c) (sym is) ∙ sym (drop-drop (m - at) at c) ∙ ap (drop (m - at)) same ∙ drop-drop (m - at) at d ∙ ap (λ k. drop k d) is

-- the other area is the same, and this one behind its first bytes, so many
abbrev pub IsAside : Area → ℕ → Areas → Areas → Type 0
IsAside area m s t = (rest area t ≡ rest area s) × (drop m (part area t) ≡ drop m (part area s))

aside_then : (area : Area) (m : ℕ) (s t u : Areas) → IsAside area m s t → IsAside area m t u → IsAside area m s u
aside_then area m s t u one two = (two.0 ∙ one.0, two.1 ∙ one.1)

pub torn_aside : (area : Area) (at n m : ℕ) (old new : DiskSeen) → at + n ≤ m → Changes (TornIn area at n) old new → Changes (IsAside area m) old new
torn_aside area at n m old new le run =
    changes_weaker (TornIn area at n) (IsAside area m) old new (λ s t x. (x.1, further (at + n) m (part area s) (part area t) le x.0.after)) run

pub asides : (area : Area) (m : ℕ) (old mid new : DiskSeen) → Changes (IsAside area m) old mid → Changes (IsAside area m) mid new → Changes (IsAside area m) old new
asides area m old mid new one two = changes_then (IsAside area m) old mid new (aside_then area m) one two

-- where this area was chosen
pub spares_other : (area : Area) (m : ℕ) (old new : DiskSeen) → IsSettled old → IfSome old.told (λ s. chosen s ≡ area) → Changes (IsAside area m) old new
    → SparesOther old new
spares_other area m old new settled file run =
    let same = changes_map (IsAside area m) IsOtherSame (λ s. chosen s ≡ area) old new settled file run
    (λ s t is x. subst (λ (y : Area). rest y t ≡ rest y s) (sym is) x.0) in
    record { same = same.told; crash = same.crash; any_moment = same.any_moment }

pub spares_behind : (area : Area) (m : ℕ) (old new : DiskSeen) → IsSettled old → IfSome old.told (λ s. chosen s ≡ area) → Changes (IsAside area m) old new
    → SparesBehind m old new
spares_behind area m old new settled file run =
    let same = changes_map (IsAside area m) (IsSameBehind m) (λ s. chosen s ≡ area) old new settled file run
    (λ s t is x. subst (λ (y : Area). drop m (part y t) ≡ drop m (part y s)) (sym is) x.1) in
    record { same = same.told; crash = same.crash }

-- no run at all, or one that writes nothing
pub quiet_spares : (old new : DiskSeen) → IsQuiet old new → SparesOther old new
quiet_spares old new quiet =
    let same = quiet_changes IsOtherSame old new (λ s. refl) quiet in
    record { same = same.told; crash = same.crash; any_moment = same.any_moment }

pub spares_still : (old : DiskSeen) (m : ℕ) → SparesBehind m old old
spares_still old m = record { same = still (IsSameBehind m) old.told (λ s. refl); crash = λ c now. (c, now, refl) }
