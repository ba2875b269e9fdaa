-- What was answered so far of the asks of an input, one more, and how an ask ends the answering.
use Rattle.std.specs.Prelude.{◌≡◌, ◌≤◌, ◌<◌, ◌+◌, ◌*◌, ◌^◌, ℕ, List, [], false, length}
use Rattle.std.specs.Io.KnownBytes.{prepend_known}
use Rattle.std.specs.List.{AllByRecursion}
use Rattle.arc_io.specs.Seen.{PortSeen}
use Rattle.centre_core.specs.declared.hall.Stop.TheVariants.{Memory}
use Rattle.session_rules.specs.Inputs.{input_limit}
use Rattle.session_rules.specs.Reading.{OnlyReadsAndWrites}
use Rattle.mirror_centre.specs.Feeds.{Asked, asks_text, answers_text, EndsFeed, IsDue, IsUnasked, Wrote}
use Rattle.mirror_centre.specs.Messages.{ask_text}
use Rattle.mirror_centre.specs.declared.feed_end.FeedEnd.{FeedEnd}
use Rattle.mirror_centre.specs.declared.feed_end.FeedEnd.TheVariants.{Done, ReadFault, WriteFault, Spent, Strange, Stopped}
use Rattle.mirror_centre.specs.declared.intake.Short.{Short}
use Rattle.mirror_centre.specs.declared.intake.Short.TheVariants as Intake

-- what a port's calls between two moments left of it: counts did not fall, and all but what is about reading and writing stayed
pub record GoesOn (p p' : PortSeen) : Type 0 where
  pub reads : p.read_faults ≤ p'.read_faults
  pub writes : p.write_faults ≤ p'.write_faults
  pub others : OnlyReadsAndWrites p p'

-- So many asks were answered since the port told p, and no byte behind them was read.
pub record SoFar (due : ℕ → List ℕ → Type 0) (count : ℕ) (p p' : PortSeen) : Type 0 where
  pub asked : List Asked
  pub count_is : length asked ≡ count
  pub left : p.left ≡ prepend_known (asks_text asked) p'.left
  pub each : AllByRecursion (IsDue due) asked
  pub output : Wrote p p' (answers_text asked)
  pub goes : GoesOn p p'

-- an ask of this number was read
pub record ReadsAsk (n : ℕ) (p p' : PortSeen) : Type 0 where
  pub below : n < 2 ^ 48
  pub left : p.left ≡ prepend_known (ask_text n) p'.left
  pub not_ended : p'.ended ≡ false

-- none was, behind so many
pub record ReadsNone (end : FeedEnd) (count : ℕ) (p p' : PortSeen) : Type 0 where
  pub rest : List ℕ
  pub left : p.left ≡ prepend_known rest p'.left
  pub most : 9 * count + length rest ≤ input_limit
  pub why : IsUnasked end count rest p p'

-- one more was read and answered
pub record AnswersAsk (due : ℕ → List ℕ → Type 0) (p p' : PortSeen) : Type 0 where
  pub asked : Asked
  pub is_due : IsDue due asked
  pub left : p.left ≡ prepend_known (ask_text asked.number) p'.left
  pub output : Wrote p p' asked.answer
  pub goes : GoesOn p p'

-- none was, behind so many
pub record AnswersNone (due : ℕ → List ℕ → Type 0) (end : FeedEnd) (count : ℕ) (p p' : PortSeen) : Type 0 where
  pub rest : List ℕ
  pub left : p.left ≡ prepend_known rest p'.left
  pub most : 9 * count + length rest ≤ input_limit
  pub ends : EndsFeed due end count [] rest p p'
  pub goes : GoesOn p p'

-- the end where no byte of an ask is there
abbrev pub end_before : Short → FeedEnd
end_before Intake.Ended = Done
end_before Intake.Failed = ReadFault
end_before Intake.Spent = Spent
end_before Intake.Memory = Stopped Memory

-- the end where an ask that has begun is not there whole
abbrev pub end_within : Short → ℕ → FeedEnd
end_within Intake.Ended count = Strange count
end_within Intake.Failed count = ReadFault
end_within Intake.Spent count = Spent
end_within Intake.Memory count = Stopped Memory

-- of reading alone: nothing was answered, and no store stopped
abbrev pub IsReadAlone : FeedEnd → Type 0
IsReadAlone WriteFault = ⊥
IsReadAlone (Stopped stop) = stop ≡ Memory
IsReadAlone end = Unit {0}
