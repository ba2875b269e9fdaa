-- Laws of schedules: each sending counts once, and restarts lose nothing.
use Rattle.std.specs.Prelude.{◌≡◌, ◌≤◌, ◌⊎◌, ℕ, List, [], ◌∷◌, ◌++◌, Bool, true, false, length}
use Rattle.std.specs.List.{filter}
use Rattle.arc_data.specs.declared.event.Event.TheVariants.{Message as Sent}
use Rattle.arc_data.specs.declared.event.Message.{Message}
use Rattle.arc_data.specs.declared.reply.Reply.{Reply}
use Rattle.arc_data.specs.declared.reply.Reply.TheVariants.{Taken, Repeat}
use Rattle.centre_rules.specs.History.{recorded}
use Rattle.centre_laws.specs.Schedules.{Step, Deliver, Other, Lose, Crash, Schedule, Item, IsSchedule, IsNoCrash, Each}
use Rattle.centre_laws.specs.Schedules.{entries, stands, is_of_sending, ideal_list, ideal_after, history, history_after, next}
use Rattle.centre_laws.specs.Spacing.{IsWellSpaced}

-- the reply is Repeat, with some moment
abbrev pub IsRepeat : Reply → Type 0
IsRepeat reply = (first : ℕ) × (reply ≡ Repeat first)

-- a delivery that adds nothing is told a repeat, and any other that its message is taken
pub record IsTold (adds_nothing : Bool) (reply : Reply) : Type 0 where
  pub again : adds_nothing ≡ true → IsRepeat reply
  pub first : adds_nothing ≡ false → reply ≡ Taken

-- the reply of the centre to a step; another event has the reply that it has over the ideal list
abbrev pub IsAnswered : Schedule → Step → List Step → Type 0
IsAnswered x (Deliver n m via clock acknowledged) earlier =
    IsTold (stands n (ideal_after x earlier)) (next (history_after x earlier) (Sent m via) clock).reply
IsAnswered x (Other e clock acknowledged) earlier =
    (next (history_after x earlier) e clock).reply ≡ (next (entries (ideal_after x earlier)) e clock).reply
IsAnswered x Lose earlier = Unit {0}
IsAnswered x (Crash kept clock) earlier = Unit {0}

-- the recorded entries of the centre are the ideal list, and so are its replies
pub record IsIdeal (x : Schedule) : Type 0 where
  pub recorded : recorded (history x) ≡ entries (ideal_list x)
  pub replies : Each (IsAnswered x) x.steps

-- the step is a delivery of this number, by this line
abbrev pub IsBy : ℕ → List ℕ → Step → Type 0
IsBy n via (Deliver k m line clock acknowledged) = (n ≡ k) × (via ≡ line)
IsBy n via other = ⊥

-- one of the steps is
abbrev pub CameBy : ℕ → List ℕ → List Step → Type 0
CameBy n via [] = ⊥
CameBy n via (s ∷ ss) = IsBy n via s ⊎ CameBy n via ss

-- exactly one item is of the sending; it has its message, and the line of one of its deliveries among these steps
pub record StandsOnce (n : ℕ) (m : Message) (ss : List Step) (w : List Item) : Type 0 where
  pub item : Item
  pub only : filter (is_of_sending n) w ≡ item ∷ []
  pub via : List ℕ
  pub event : item.entry.event ≡ Sent m via
  pub line : CameBy n via ss

-- no two items are of one sending
abbrev pub NoneTwice : List Item → Type 0
NoneTwice w = (n : ℕ) → length (filter (is_of_sending n) w) ≤ 1

-- The centre is ideal, and each sending that is delivered stands exactly once.
pub record CountsOnce (x : Schedule) : Type 0 where
  pub ideal : IsIdeal x
  pub once : (later earlier : List Step) (n : ℕ) (m : Message) (via : List ℕ) (clock : ℕ) (acknowledged : Bool)
      → x.steps ≡ later ++ Deliver n m via clock acknowledged ∷ earlier → StandsOnce n m x.steps (ideal_list x)

-- without crashes
abbrev pub EachSendingCountsOnce : Type 0
EachSendingCountsOnce = (x : Schedule) → IsSchedule x → IsWellSpaced x → Each IsNoCrash x.steps → CountsOnce x

-- The centre is ideal, each sending with an acknowledged delivery stands exactly once, and none stands twice.
pub record LosesNothing (x : Schedule) : Type 0 where
  pub ideal : IsIdeal x
  pub once : (later earlier : List Step) (n : ℕ) (m : Message) (via : List ℕ) (clock : ℕ)
      → x.steps ≡ later ++ Deliver n m via clock true ∷ earlier → StandsOnce n m x.steps (ideal_list x)
  pub twice : NoneTwice (ideal_list x)

-- with crashes
abbrev pub RestartsLoseNothing : Type 0
RestartsLoseNothing = (x : Schedule) → IsSchedule x → IsWellSpaced x → LosesNothing x
