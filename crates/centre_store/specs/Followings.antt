-- What a second centre asks a store for, and what it takes in from another one.
use Rattle.std.specs.Prelude.{◌≡◌, ◌⊎◌, ◌<◌, ◌+◌, ◌-◌, ◌^◌, ℕ, List, [], ◌∷◌, length, slice_index_or}
use Rattle.std.specs.Prelude.{if◌then◌else◌, nat_le, Result, Err}
use Rattle.centre_core.specs.declared.hall.Stop.{Stop}
use Rattle.centre_core.specs.declared.hall.Stop.TheVariants.{Memory, Full}
use Rattle.centre_store.specs.Given.{summed_size}
use Rattle.arc_io.specs.Disks.{DiskSeen}
use Rattle.centre_rules.specs.Summary.{Summary}
use Rattle.centre_rules.specs.History.{Entry}
use Rattle.event_codec.specs.Spelling.{spelling}
use Rattle.centre_store.specs.Bodies.{bodies_in}
use Rattle.centre_store.specs.Stores.{Stored, HasFailed, IsNextKept, IsOverWith, ShowsAt, StoreStands}
use Rattle.centre_store.specs.declared.following.Found.{Found}
use Rattle.centre_store.specs.declared.following.Found.TheVariants.{Body, InSummary, Ahead}

-- the number of the last recorded entry that is summed up, and has no record of its own
abbrev pub since_of : {D : Type 0} → Stored D → ℕ
since_of s = s.state.sum.recorded - s.journal.records

-- where the entry of a number stands: summed up, behind that, or nowhere yet
abbrev pub place_of : ℕ → ℕ → ℕ → Found
place_of since recorded number = if nat_le number since then InSummary else (if nat_le number recorded then Body else Ahead)

-- the body of the recorded entry of a number, which is counted from 1, those of the summary with it
abbrev pub body_of_number : Summary → List Entry → ℕ → List ℕ
body_of_number b h number = slice_index_or (bodies_in 2 h) (number - b.recorded - 1) []

-- the body is that of an entry that goes on from the history and is recorded
pub record GoesOnWith (b : Summary) (h : List Entry) (body : List ℕ) (e : Entry) : Type 0 where
  pub next : IsNextKept b h e
  pub made : e.caller ≡ 0
  pub body_is : body ≡ spelling e.event e.at

-- one does
abbrev pub HasNext : Summary → List Entry → List ℕ → Type 0
HasNext b h body = (e : Entry) × GoesOnWith b h body e

-- none does
abbrev pub EndsWith : Summary → List Entry → List ℕ → Type 0
EndsWith b h body = HasNext b h body → ⊥

-- from h on, the store stands for the history with the entry of this body
abbrev pub TakesIn : {D : Type 0} → (D → DiskSeen) → Summary → Stored D → List Entry → List ℕ → Type 0
TakesIn seen b s h body = (e : Entry) × GoesOnWith b h body e × StoreStands seen b s (e ∷ h)

-- what a store shows after it stopped at a body, whose record is due where an entry goes on with it
abbrev pub ShowsOfReplay : {D : Type 0} → (D → DiskSeen) → Stored D → List ℕ → Stop → Type 0
ShowsOfReplay seen s body stop = ShowsAt seen s (5 + length body) (λ b h. HasNext b h body) stop

-- Full comes, want of memory aside, where an entry goes on with the body and its record would pass a limit, behind a checkpoint too.
abbrev pub IsFullThenOf : {A D : Type 0} → (D → DiskSeen) → Stored D → List ℕ → Result A Stop → Type 0
IsFullThenOf seen s body r =
    (HasFailed seen s → ⊥) → s.state.entries < 2 ^ 48 → (b : Summary) (h : List Entry) (e : Entry)
    → StoreStands seen b s h → GoesOnWith b h body e → IsOverWith s (summed_size b h) (5 + length body)
    → (r ≡ Err Memory) ⊎ (r ≡ Err (Full (summed_size b h) (5 + length body) 0))
