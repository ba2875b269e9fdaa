-- Over the summary of a history everything goes on as over the history.
use Rattle.std.specs.Prelude.{◌≡◌, ◌+◌, ◌↔◌, ℕ, List, ◌++◌, length}
use Rattle.arc_data.specs.declared.event.Event.{Event}
use Rattle.arc_data.specs.declared.event.Message.{Message}
use Rattle.centre_rules.specs.Summary.{Summary}
use Rattle.centre_rules.specs.Marks.{force}
use Rattle.centre_rules.specs.Standing.{standing}
use Rattle.centre_rules.specs.Carrying.{raised}
use Rattle.centre_rules.specs.History.{Entry, marks, last, recorded}
use Rattle.centre_rules.specs.Desks.{best}
use Rattle.centre_rules.specs.Answers.{answer, repeat_of, IsLegal}
use Rattle.centre_rules.specs.State.{Same}
use Rattle.centre_rules.specs.Sums.{summary_of}

-- t and the entries k behind it tell what s and the entries x tell, and k is legal over t exactly where x is legal over s
pub record GoesOnAlike (t : Summary) (k : List Entry) (s : Summary) (x : List Entry) : Type 0 where
  pub tells : Same t (marks t k) s (marks s x)
  pub lasts : last t k ≡ last s x
  pub counts : t.recorded + length (recorded k) ≡ s.recorded + length (recorded x)
  pub force : force t (marks t k) ≡ force s (marks s x)
  pub repeats : (m : Message) (at : ℕ) → repeat_of t (marks t k) m at ≡ repeat_of s (marks s x) m at
  pub raised : (at : ℕ) → raised t (marks t k) at ≡ raised s (marks s x) at
  pub best : (at : ℕ) → best (standing t (marks t k) at) ≡ best (standing s (marks s x) at)
  pub answers : (e : Event) (at : ℕ) → answer t k e at ≡ answer s x e at
  pub legal : IsLegal t k ↔ IsLegal s x

abbrev pub SummaryTells : Type 0
SummaryTells = (s : Summary) (h k : List Entry) → IsLegal s h → GoesOnAlike (summary_of s h) k s (k ++ h)
