-- The one spelling of each event that is kept, at a moment, in each of two versions: in the second a message tells by which line it came.
use Rattle.std.specs.Prelude.{◌≡◌, ◌⊎◌, ◌==◌, if◌then◌else◌}
use Rattle.std.specs.Prelude.{ℕ, ◌+◌, List, [], ◌∷◌, ◌++◌, length, codes, Option}
use Rattle.std.specs.Int.{w16, w32, w64, to_be_bytes}
use Rattle.std.specs.Option.{option_map_or}
use Rattle.arc_data.specs.Moments.{IsMoment}
use Rattle.arc_data.specs.WellFormed.{IsWellFormed}
use Rattle.arc_data.specs.declared.event.Event.{Event}
use Rattle.arc_data.specs.declared.event.Event.TheVariants.{Adopt, Start, Message as Sent, Beat, Tick}
use Rattle.arc_data.specs.declared.event.Event.TheVariants.{Claim, Next, Act, Release, Close, Show, List as Rows}
use Rattle.arc_data.specs.declared.event.Message.{Message}
use Rattle.arc_data.specs.declared.event.Token.{Token}
use Rattle.arc_data.specs.declared.event.Token.TheVariants.{SiaDcs, AdmCid}
use Rattle.arc_data.specs.declared.event.CloseCode.{CloseCode}
use Rattle.arc_data.specs.declared.event.CloseCode.TheVariants.{Real, False, Test}
use Rattle.arc_data.specs.declared.step.Outcome.{Outcome}
use Rattle.arc_data.specs.declared.step.Outcome.TheVariants.{Reached, NoAnswer, Done}
use Rattle.arc_data.specs.declared.step.Step.{Step}
use Rattle.arc_data.specs.declared.step.Step.TheVariants.{Premises, Holder, Police, Fire, Ambulance, Guard, Note}

-- the versions of what is spelled
abbrev pub IsVersion : ℕ → Type 0
IsVersion version = (version ≡ 1) ⊎ (version ≡ 2)

-- a short text: a byte of length, and that many bytes
abbrev pub short_text : List ℕ → List ℕ
short_text text = length text ∷ text

-- the `R` digits; no digits stand for no `R` field
abbrev pub receiver_text : Option (List ℕ) → List ℕ
receiver_text digits = option_map_or short_text digits (0 ∷ [])

abbrev pub token_byte : Token → ℕ
token_byte SiaDcs = 1
token_byte AdmCid = 2

-- the premises are 1, keyholders 2 to 5
abbrev pub step_byte : Step → ℕ
step_byte Premises = 1
step_byte (Holder number) = number + 1
step_byte Police = 6
step_byte Fire = 7
step_byte Ambulance = 8
step_byte Guard = 9
step_byte Note = 10

abbrev pub outcome_byte : Outcome → ℕ
outcome_byte Reached = 1
outcome_byte NoAnswer = 2
outcome_byte Done = 3

abbrev pub code_byte : CloseCode → ℕ
code_byte Real = 1
code_byte False = 2
code_byte Test = 3

-- an operator and the number of an incident
abbrev pub order_fields : List ℕ → ℕ → List ℕ
order_fields operator number = short_text operator ++ to_be_bytes w64 number

-- account, `R` digits, `L` digits, sequence, token, length and content
abbrev pub message_fields : Message → List ℕ
message_fields m = short_text m.account ++ (receiver_text m.receiver ++ (short_text m.line ++ (to_be_bytes w16 m.seq
    ++ (token_byte m.token ∷ (to_be_bytes w16 (length m.content) ++ m.content)))))

-- the name of every line in version 1, which tells none
abbrev pub via_of_one : List ℕ
via_of_one = codes "v1"

-- the name of a line, which version 1 leaves out
abbrev pub via_text : ℕ → List ℕ → List ℕ
via_text version via = if version == 1 then [] else short_text via

-- a number of its own for each kind of event that is kept
abbrev pub tag : Event → ℕ
tag (Adopt text) = 1
tag Start = 2
tag (Sent message via) = 3
tag (Beat account) = 4
tag Tick = 5
tag (Claim operator number) = 6
tag (Next operator) = 7
tag (Act operator number step outcome) = 8
tag (Release operator number) = 9
tag (Close operator number code) = 10
tag other = 0

-- what stands behind the moment
abbrev pub fields_in : ℕ → Event → List ℕ
fields_in version (Adopt text) = to_be_bytes w32 (length text) ++ text
fields_in version (Sent message via) = message_fields message ++ via_text version via
fields_in version (Beat account) = short_text account
fields_in version (Claim operator number) = order_fields operator number
fields_in version (Next operator) = short_text operator
fields_in version (Act operator number step outcome) = order_fields operator number ++ step_byte step ∷ outcome_byte outcome ∷ []
fields_in version (Release operator number) = order_fields operator number
fields_in version (Close operator number code) = order_fields operator number ++ code_byte code ∷ []
fields_in version other = []

-- a tag, the moment in eight bytes, and the fields; all numbers have their highest byte first
abbrev pub spelling_in : ℕ → Event → ℕ → List ℕ
spelling_in version event at = tag event ∷ to_be_bytes w64 at ++ fields_in version event

-- what is written
abbrev pub spelling : Event → ℕ → List ℕ
spelling event at = spelling_in 2 event at

-- questions are not kept
abbrev pub IsKept : Event → Type 0
IsKept (Show number) = ⊥
IsKept Rows = ⊥
IsKept other = Unit {0}

-- what has one: a well-formed event that is kept, at a moment
pub record HasSpelling (event : Event) (at : ℕ) : Type 0 where
  pub kept : IsKept event
  pub well_formed : IsWellFormed event
  pub moment : IsMoment at

-- in version 1 each message came by the line of the one name
abbrev pub IsNamedIn : ℕ → Event → Type 0
IsNamedIn version (Sent message via) = version ≡ 1 → via ≡ via_of_one
IsNamedIn version other = Unit {0}

-- what has a spelling in a version
pub record HasSpellingIn (version : ℕ) (event : Event) (at : ℕ) : Type 0 where
  pub spelled : HasSpelling event at
  pub named : IsNamedIn version event
