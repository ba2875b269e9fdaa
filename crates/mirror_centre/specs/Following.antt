-- What was followed so far, one turn more, and how an answer ends the following.
use Rattle.std.specs.Prelude.{◌≡◌, ◌≤◌, ◌<◌, ◌+◌, ◌⊎◌, ◌++◌, ℕ, List, [], false, length, Result, Ok, Err}
use Rattle.std.specs.Io.KnownBytes.{prepend_known}
use Rattle.arc_io.specs.Disks.{DiskSeen}
use Rattle.arc_io.specs.Seen.{PortSeen}
use Rattle.centre_core.specs.declared.hall.Stop.{Stop}
use Rattle.centre_core.specs.declared.hall.Stop.TheVariants.{Memory}
use Rattle.centre_rules.specs.History.{Entry}
use Rattle.centre_rules.specs.Summary.{Summary}
use Rattle.centre_store.specs.Stores.{Stored, StoreStands}
use Rattle.session_rules.specs.Inputs.{input_limit}
use Rattle.mirror_centre.specs.Feeds.{Asked, Wrote, answers_text, asks_text}
use Rattle.mirror_centre.specs.Feeding.{GoesOn}
use Rattle.mirror_centre.specs.Follows.{AreTurns, EndsAsking, IsAnswerFront, IsCounted, IsTurn, IsUntaken, TurnsStrange, have}
use Rattle.mirror_centre.specs.Intakes.{AreBytes}
use Rattle.mirror_centre.specs.Messages.{Answer, IsAnswer, ask_text}
use Rattle.mirror_centre.specs.declared.follow_end.FollowEnd.{FollowEnd}
use Rattle.mirror_centre.specs.declared.follow_end.FollowEnd.TheVariants.{Done, Behind, Strange, ReadFault, Spent, Stopped}
use Rattle.mirror_centre.specs.declared.intake.Short.{Short}
use Rattle.mirror_centre.specs.declared.intake.Short.TheVariants as Intake
use Rattle.mirror_centre.specs.declared.mirror.Took.{Took}
use Rattle.mirror_centre.specs.declared.mirror.Took.TheVariants.{Added, Old, Idle}
use Rattle.mirror_centre.specs.declared.mirror.Took.TheVariants as Made
use Rattle.arc_io.specs.Causes.{Rose}
use Rattle.arc_io.specs.Told.{IsReadOut}

-- So many turns were made since the port told p, over answers of so many bytes, to this history.
pub record SoFar (b : Summary) (h h' : List Entry) (count bytes : ℕ) (p p' : PortSeen) : Type 0 where
  pub turns : List Asked
  pub count_is : length turns ≡ count
  pub bytes_are : length (answers_text turns) ≡ bytes
  pub left : p.left ≡ prepend_known (answers_text turns) p'.left
  pub each : AreTurns b h turns h'
  pub output : Wrote p p' (asks_text turns)
  pub goes : GoesOn p p'

-- one turn more, over an answer of so many bytes, to the history for which the store stands then
pub record TakesTurn {D : Type 0} (seen : D → DiskSeen) (b : Summary) (h : List Entry) (s : Stored D) (size : ℕ) (p p' : PortSeen)
    : Type 0 where
  pub turn : Asked
  pub history : List Entry
  pub is : IsTurn b h turn history
  pub stands : StoreStands seen b s history
  pub size_is : size ≡ length turn.answer
  pub left : p.left ≡ prepend_known turn.answer p'.left
  pub output : Wrote p p' (ask_text turn.number)
  pub goes : GoesOn p p'

-- no turn more, behind so many over answers of so many bytes
pub record TakesNone (shows : List ℕ → Stop → Type 0) (end : FollowEnd) (b : Summary) (h : List Entry) (count bytes : ℕ) (p p' : PortSeen)
    : Type 0 where
  pub rest : List ℕ
  pub left : p.left ≡ prepend_known rest p'.left
  pub most : bytes + length rest ≤ input_limit
  pub why : IsUntaken shows end b h rest p p'
  pub told : IsCounted end count (bytes + length rest)
  pub output : EndsAsking end [] (have b h) p p'
  pub goes : GoesOn p p'

-- Behind so many bytes of the input, more bytes of an answer were read: as many as were asked for.
pub record ReadsMore (bytes : ℕ) (front message : List ℕ) (count : ℕ) (p p' : PortSeen) : Type 0 where
  pub more : List ℕ
  pub is : message ≡ front ++ more
  pub size : length more ≡ count
  pub left : p.left ≡ prepend_known more p'.left
  pub most : bytes + length message ≤ input_limit
  pub not_ended : p'.ended ≡ false
  pub fits : AreBytes more

-- An answer was read whole.
pub record ReadsAnswer (bytes : ℕ) (message : List ℕ) (p p' : PortSeen) : Type 0 where
  pub answer : Answer
  pub is : IsAnswer message answer
  pub left : p.left ≡ prepend_known message p'.left
  pub most : bytes + length message ≤ input_limit
  pub not_ended : p'.ended ≡ false

-- Why an answer is not there whole, of which these bytes were read: the last told that no answer begins so, or the input ended; a read
-- failed; as many bytes as may be were read; or memory was wanted.
abbrev pub IsUnread : FollowEnd → List ℕ → PortSeen → PortSeen → Type 0
IsUnread (Strange after) rest p p' = TurnsStrange rest ⊎ (IsAnswerFront rest × IsReadOut p')
IsUnread ReadFault rest p p' = IsAnswerFront rest × Rose p.read_faults p'.read_faults
IsUnread Spent rest p p' = IsAnswerFront rest
IsUnread (Stopped stop) rest p p' = (stop ≡ Memory) × (length rest ≤ 4_194_413)
IsUnread end rest p p' = ⊥

-- Behind so many turns and so many bytes, and this front, no answer was read whole.
pub record ReadsNone (end : FollowEnd) (count bytes : ℕ) (front : List ℕ) (p p' : PortSeen) : Type 0 where
  pub more : List ℕ
  pub left : p.left ≡ prepend_known more p'.left
  pub most : bytes + length (front ++ more) ≤ input_limit
  pub why : IsUnread end (front ++ more) p p'
  pub told : IsCounted end count (bytes + length (front ++ more))

-- what taking an answer of so many bytes, behind so many answers, comes to
abbrev pub outcome_of : Result Took Stop → ℕ → ℕ → Result ℕ FollowEnd
outcome_of (Ok Added) size after = Ok size
outcome_of (Ok Old) size after = Ok size
outcome_of (Ok Idle) size after = Err Done
outcome_of (Ok (Made.Behind known count)) size after = Err (Behind known count)
outcome_of (Ok Made.Strange) size after = Err (Strange after)
outcome_of (Err stop) size after = Err (Stopped stop)

-- The end where an answer is not there whole.
abbrev pub end_by : Short → ℕ → FollowEnd
end_by Intake.Ended after = Strange after
end_by Intake.Failed after = ReadFault
end_by Intake.Spent after = Spent
end_by Intake.Memory after = Stopped Memory

-- so many more bytes behind these are those of an answer that begins so, or some of them
pub record MayHave (front : List ℕ) (count : ℕ) : Type 0 where
  pub front_is : (bytes : List ℕ) → length bytes < count → IsAnswerFront (front ++ bytes)
  pub most : length front + count ≤ 4_194_413
