-- Entries that are not recorded, repeats among them, change nothing.
use Rattle.std.specs.Prelude.{◌≡◌, ℕ, List, [], ◌∷◌, Bool, true, false, if◌then◌else◌}
use Rattle.arc_data.specs.declared.event.Event.{Event}
use Rattle.arc_data.specs.declared.event.Message.{Message}
use Rattle.arc_data.specs.declared.reply.Reply.{Reply}
use Rattle.arc_data.specs.declared.reply.Reply.TheVariants.{Repeat}
use Rattle.centre_rules.specs.Summary.{Summary}
use Rattle.centre_rules.specs.Marks.{force, start, heard, failed, opening}
use Rattle.centre_rules.specs.Cases.{opened, incidents}
use Rattle.centre_rules.specs.Standing.{standing}
use Rattle.centre_rules.specs.Carrying.{raised}
use Rattle.centre_rules.specs.History.{Entry, recorded, last, marks}
use Rattle.centre_rules.specs.Desks.{best}
use Rattle.centre_rules.specs.Answers.{answer, repeat_of, IsLegal}

-- Two histories tell the same of everything that is asked of one, and leave the same marks, the signals that they carry among them.
pub record TellsTheSame (s : Summary) (h k : List Entry) : Type 0 where
  pub last : last s h ≡ last s k
  pub force : force s (marks s h) ≡ force s (marks s k)
  pub start : start s (marks s h) ≡ start s (marks s k)
  pub repeats : (m : Message) (at : ℕ) → repeat_of s (marks s h) m at ≡ repeat_of s (marks s k) m at
  pub heard : (account : List ℕ) → heard s (marks s h) account ≡ heard s (marks s k) account
  pub failed : (account : List ℕ) → failed s (marks s h) account ≡ failed s (marks s k) account
  pub opening : (account : List ℕ) → opening s (marks s h) account ≡ opening s (marks s k) account
  pub raised : (at : ℕ) → raised s (marks s h) at ≡ raised s (marks s k) at
  pub opened : opened s (marks s h) ≡ opened s (marks s k)
  pub best : (at : ℕ) → best (standing s (marks s h) at) ≡ best (standing s (marks s k) at)
  pub incidents : incidents s (marks s h) ≡ incidents s (marks s k)
  pub answers : (e : Event) (at : ℕ) → answer s h e at ≡ answer s k e at
  pub marks : marks s h ≡ marks s k

abbrev pub is_repeat : Reply → Bool
is_repeat (Repeat first) = true
is_repeat reply = false

-- the entries that are no repeats
abbrev pub unrepeated : List Entry → List Entry
unrepeated [] = []
unrepeated (e ∷ h) = if is_repeat e.reply then unrepeated h else e ∷ unrepeated h

-- without its quiet entries, or without its repeats alone, a history tells the same, and stays legal
pub record TellsWithout (s : Summary) (h : List Entry) : Type 0 where
  pub quiet : TellsTheSame s h (recorded h)
  pub repeats : TellsTheSame s h (unrepeated h)
  pub legal : IsLegal s h → IsLegal s (recorded h)
  pub legal_unrepeated : IsLegal s h → IsLegal s (unrepeated h)

abbrev pub QuietChangesNothing : Type 0
QuietChangesNothing = (s : Summary) (h : List Entry) → TellsWithout s h
