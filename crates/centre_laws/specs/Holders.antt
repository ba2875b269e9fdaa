-- One incident has one holder, and one operator holds one incident, until a hold lapses.
use Rattle.std.specs.Prelude.{◌≡◌, ◌<◌, ◌+◌, ◌⊎◌, ◌==◌, ℕ, List, [], ◌∷◌, ◌++◌, Bool, true, false, Option, Some, None, if◌then◌else◌}
use Rattle.std.specs.List.{list_any}
use Rattle.arc_data.specs.declared.event.Event.{Event}
use Rattle.arc_data.specs.declared.event.Event.TheVariants.{Claim, Next}
use Rattle.arc_data.specs.declared.reply.Reply.{Reply}
use Rattle.arc_data.specs.declared.reply.Reply.TheVariants.{Adopted, Started, Claimed, Recorded, Released, Closed}
use Rattle.centre_rules.specs.Summary.{Summary}
use Rattle.centre_rules.specs.Marks.{lapse}
use Rattle.centre_rules.specs.History.{Entry, marks}
use Rattle.centre_rules.specs.Answers.{IsLegal}
use Rattle.centre_laws.specs.Numbers.{IsNumbered}

-- the number of a reply Claimed
abbrev pub claimed_number : Reply → Option ℕ
claimed_number (Claimed number class account) = Some number
claimed_number reply = None

-- the operator for whom an event claims an incident
abbrev pub claimer : Event → Option (List ℕ)
claimer (Claim operator number) = Some operator
claimer (Next operator) = Some operator
claimer event = None

-- the entry has the reply Claimed for this incident and this operator
pub record IsClaim (e : Entry) (number : ℕ) (operator : List ℕ) : Type 0 where
  pub of : claimed_number e.reply ≡ Some number
  pub by : claimer e.event ≡ Some operator

-- the reply ends a hold of the incident: it is claimed anew, released or closed, a setup comes into force, or a run starts
abbrev pub ends : ℕ → Reply → Bool
ends number (Claimed other class account) = number == other
ends number (Released other) = number == other
ends number (Closed other) = number == other
ends number Adopted = true
ends number Started = true
ends number reply = false

abbrev pub is_ended : ℕ → List Entry → Bool
is_ended number h = list_any (λ e. ends number e.reply) h

-- the reply is an act on the incident
abbrev pub is_act_on : ℕ → Reply → Bool
is_act_on number (Recorded other left) = number == other
is_act_on number reply = false

-- the moment of the last act on the incident among these entries, the newest first, and otherwise that of the claim before them
abbrev pub last_touched : ℕ → List Entry → ℕ → ℕ
last_touched number [] claimed = claimed
last_touched number (x ∷ xs) claimed = if is_act_on number x.reply then x.at else last_touched number xs claimed

-- the entry claims the incident, or any incident for the operator
abbrev pub ClaimsEither : Entry → ℕ → List ℕ → Type 0
ClaimsEither x number operator = (claimed_number x.reply ≡ Some number) ⊎ ((other : ℕ) × IsClaim x other operator)

-- by the setup in force after these entries a hold that was last touched then has lapsed at the moment
pub record HadLapsed (s : Summary) (h : List Entry) (touched at : ℕ) : Type 0 where
  pub seconds : ℕ
  pub in_force : lapse s (marks s h) ≡ Some seconds
  pub later : touched + seconds < at

-- In a legal history, after an entry with the reply Claimed for an incident and an operator, while no entry ends that hold, an entry
-- has the reply Claimed for the incident or for the operator only where the hold had lapsed.
abbrev pub HoldsApart : Type 0
HoldsApart =
    (s : Summary) (h later : List Entry) (e x : Entry) (number : ℕ) (operator : List ℕ) → IsNumbered s
    → IsLegal s (x ∷ later ++ e ∷ h) → IsClaim e number operator → is_ended number later ≡ false
    → ClaimsEither x number operator → HadLapsed s (later ++ e ∷ h) (last_touched number later e.at) x.at
