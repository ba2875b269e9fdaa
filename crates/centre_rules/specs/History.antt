-- Histories: lists of entries, the newest first, over a summary.
use Rattle.std.specs.Prelude.{◌≡◌, ℕ, max, List, [], ◌∷◌, ◌++◌, Bool, true, false, if◌then◌else◌, map, nat_lt}
use Rattle.arc_data.specs.declared.event.Event.{Event}
use Rattle.arc_data.specs.declared.event.Event.TheVariants.{Adopt, Start, Message as Sent, Beat, Tick, Claim, Next, Act as Do}
use Rattle.arc_data.specs.declared.event.Event.TheVariants.{Release, Close}
pub use Rattle.arc_data.specs.Moments.{IsMoment}
pub use Rattle.arc_data.specs.declared.event.Entry.{Entry}
use Rattle.arc_data.specs.declared.reply.Reply.{Reply}
use Rattle.arc_data.specs.declared.reply.Reply.TheVariants.{Adopted, Started, Taken, Heard, Raised, Claimed, Recorded, Released, Closed}
use Rattle.arc_data.specs.declared.step.Acted.{Acted}
use Rattle.arc_data.specs.declared.step.Outcome.{Outcome}
use Rattle.arc_data.specs.declared.step.Step.{Step}
use Rattle.centre_rules.specs.Summary.{Summary}
use Rattle.centre_rules.specs.Marks.{Mark, Adopts, Starts, Sends, Hears, Carries, Claims, Acts, Releases, Closes}
use Rattle.centre_rules.specs.Carrying.{sent, raised}

-- whether an entry with this reply is recorded; the others are quiet
abbrev pub is_recorded : Reply → Bool
is_recorded Adopted = true
is_recorded Started = true
is_recorded Taken = true
is_recorded Heard = true
is_recorded (Raised count) = nat_lt 0 count
is_recorded (Claimed number class account) = true
is_recorded (Recorded number left) = true
is_recorded (Released number) = true
is_recorded (Closed number) = true
is_recorded other = false

-- the recorded entries
abbrev pub recorded : List Entry → List Entry
recorded [] = []
recorded (e ∷ h) = if is_recorded e.reply then e ∷ recorded h else recorded h

-- the moment of the last recorded entry
abbrev pub last : Summary → List Entry → ℕ
last s [] = s.last
last s (e ∷ h) = if is_recorded e.reply then e.at else last s h

-- the moment of an event that is submitted at this reading of the clock
abbrev pub moment_after : Summary → List Entry → ℕ → ℕ
moment_after s h clock = max clock (last s h)

-- x begins with h
abbrev pub Extends : List Entry → List Entry → Type 0
Extends h x = (later : List Entry) × (x ≡ later ++ h)

-- The marks of entries.

-- a step that an operator carries out
abbrev pub acted_by : List ℕ → Step → Outcome → ℕ → Acted
acted_by operator step outcome at = record { step = step; outcome = outcome; at = at; operator = operator }

abbrev pub claim_marks : List ℕ → ℕ → Reply → List Mark
claim_marks operator at (Claimed number class account) = Claims operator number at ∷ []
claim_marks operator at reply = []

abbrev pub act_marks : Acted → Reply → List Mark
act_marks acted (Recorded number left) = Acts number acted ∷ []
act_marks acted reply = []

abbrev pub release_marks : Reply → List Mark
release_marks (Released number) = Releases number ∷ []
release_marks reply = []

abbrev pub close_marks : Reply → List Mark
close_marks (Closed number) = Closes number ∷ []
close_marks reply = []

-- the marks of a recorded entry after these marks over a summary, the oldest first: of an event at a moment, with its reply
abbrev pub marks_of : Summary → List Mark → Event → ℕ → Reply → List Mark
marks_of s ms (Adopt text) at reply = Adopts text ∷ []
marks_of s ms Start at reply = Starts at ∷ []
marks_of s ms (Sent m via) at reply = Sends m at ∷ map Carries (sent s ms m via at)
marks_of s ms (Beat account) at reply = Hears account at ∷ []
marks_of s ms Tick at reply = map Carries (raised s ms at)
marks_of s ms (Claim operator number) at reply = claim_marks operator at reply
marks_of s ms (Next operator) at reply = claim_marks operator at reply
marks_of s ms (Do operator number step outcome) at reply = act_marks (acted_by operator step outcome at) reply
marks_of s ms (Release operator number) at reply = release_marks reply
marks_of s ms (Close operator number code) at reply = close_marks reply
marks_of s ms other at reply = []

-- each of these put upon the marks in turn
abbrev pub onto : List Mark → List Mark → List Mark
onto [] ms = ms
onto (x ∷ xs) ms = onto xs (x ∷ ms)

-- these marks, and those that an entry leaves after them
abbrev pub marked : Summary → Entry → List Mark → List Mark
marked s e ms = if is_recorded e.reply then onto (marks_of s ms e.event e.at e.reply) ms else ms

-- the marks of a history over a summary
abbrev pub marks : Summary → List Entry → List Mark
marks s [] = []
marks s (e ∷ h) = marked s e (marks s h)
