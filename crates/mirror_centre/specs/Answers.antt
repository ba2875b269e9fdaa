-- What a store answers the ask of a mirror.
use Rattle.std.specs.Prelude.{◌≡◌, ◌+◌, ℕ, List, IfSome}
use Rattle.arc_io.specs.Disks.{DiskSeen}
use Rattle.arc_io.specs.Crashes.{IsQuiet}
use Rattle.centre_rules.specs.Summary.{Summary}
use Rattle.centre_rules.specs.History.{Entry}
use Rattle.centre_store.specs.Followings.{since_of, place_of, body_of_number}
use Rattle.centre_store.specs.Stores.{Stored, HasFailed, StoreStands, StandsOn}
use Rattle.centre_store.specs.declared.following.Found.{Found}
use Rattle.centre_store.specs.declared.following.Found.TheVariants.{Body, InSummary, Ahead}
use Rattle.mirror_centre.specs.Messages.{Answer, Record, End, Summed, answer_text, IsAnswer}

-- where the next entry is found, behind so many; of all, so many are summed up
abbrev pub answer_at : Found → ℕ → ℕ → List ℕ → Answer
answer_at Body since have body = Record (have + 1) body
answer_at InSummary since have body = Summed since
answer_at Ahead since have body = End

-- where a store has the entry behind so many
abbrev pub place_behind : {D : Type 0} → Stored D → ℕ → Found
place_behind s have = place_of (since_of s) s.state.sum.recorded (have + 1)

-- what a store that stands for the history answers the ask of a mirror that has so many entries
abbrev pub answer_to : {D : Type 0} → Summary → List Entry → Stored D → ℕ → Answer
answer_to b h s have = answer_at (place_behind s have) (since_of s) have (body_of_number b h (have + 1))

-- The bytes are what a store that stands for the history answers. Where its disk tells nothing, whatever body it gives is the answer's.
pub record IsAnsweredWith {D : Type 0} (seen : D → DiskSeen) (b : Summary) (h : List Entry)
    (s : Stored D) (have : ℕ) (out : List ℕ) : Type 0 where
  pub body : List ℕ
  pub body_is : IfSome (seen s.journal.disk).told (λ _. body ≡ body_of_number b h (have + 1))
  pub text : out ≡ answer_text (answer_at (place_behind s have) (since_of s) have body)

-- Nothing was written: a store stands for what it stood for.
pub record Reads {D : Type 0} (seen : D → DiskSeen) (old new : Stored D) : Type 0 where
  pub stands : StandsOn seen old new
  pub quiet : IsQuiet (seen old.journal.disk) (seen new.journal.disk)

-- The ask of a mirror that has so many entries was answered by these bytes.
pub record Answers {D : Type 0} (seen : D → DiskSeen) (old new : Stored D) (have : ℕ) (out : List ℕ) : Type 0 where
  pub reads : Reads seen old new
  pub says : (b : Summary) (h : List Entry) → StoreStands seen b old h
      → IfSome (seen old.journal.disk).told (λ _. IsAnswer out (answer_to b h old have))
  pub up : HasFailed seen new → ⊥
