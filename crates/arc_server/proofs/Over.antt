-- The status where the disk has failed, and where it has not.
use Rattle.std.proofs.Common.{◌≡◌, ℕ, Bool, true, false, sym, ap, ◌∙◌, arith}
use Rattle.std.specs.Prelude.{if◌then◌else◌}
use Rattle.std.proofs.lemmas.Bool.{le-leb, lt-leb}
use Rattle.arc_io.specs.Causes.{next_count, Rose}
use Rattle.arc_server.specs.Made.{status_over}
use Rattle.arc_server.specs.declared.status.Status.{Status}
use Rattle.arc_server.specs.declared.status.Status.TheVariants.{DiskFault}

abbrev either : Bool → ℕ → ℕ → Status → Status
either risen before now status = if risen then DiskFault before now else status

pub after_fault : (before now : ℕ) (status : Status) → Rose before now → DiskFault before now ≡ status_over before now status
after_fault before now status rose = sym (ap (λ (b : Bool). either b before now status) (le-leb (next_count before) now rose))

pub without_fault : (before now : ℕ) (status : Status) (risen : Bool) → (Rose before now → risen ≡ true) → risen ≡ false
    → status ≡ status_over before now status
without_fault before now status risen rises up =
    let none : Rose before now → ⊥ = λ rose. let no : true ≡ false = sym (rises rose) ∙ up in cc in
    sym (ap (λ (b : Bool). either b before now status) (lt-leb (next_count before) now (omega arith)))

-- by what disk and end tell
pub over_is : (status : Status) {before entry now end : ℕ} {made is : Status}
    → status ≡ status_over before now made → before ≡ entry → now ≡ end → made ≡ is → status ≡ status_over entry end is
over_is status {before} {entry} {now} {end} {made} {is} over first last same =
    over
    ∙ ap (λ (n : ℕ). status_over n now made) first
    ∙ ap (λ (n : ℕ). status_over entry n made) last
    ∙ ap (λ (s : Status). status_over entry end s) same
