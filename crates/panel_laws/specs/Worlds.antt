-- Worlds: a panel, a centre, and a network between them that loses, repeats, delays and reorders what they send. Moments are readings of
-- one clock, in seconds since 1970. Steps stand the newest first, as happenings and entries do.
use Rattle.std.specs.Prelude.{◌≡◌, ◌≤◌, ◌+◌, ◌⊎◌, ℕ, List, [], ◌∷◌, ◌++◌, Bool, true, Option, Some, None, is_ok}
use Rattle.arc_data.specs.declared.event.Event.{Event}
use Rattle.arc_data.specs.declared.event.Message.{Message}
use Rattle.arc_data.specs.declared.event.Token.{Token}
use Rattle.alarm_rules.specs.Setups.{setup_of, meaning, has_account, key_of}
use Rattle.centre_laws.specs.Schedules.{Schedule, IsKept, ideal_after, is_other}
use Rattle.centre_laws.specs.Schedules.{Step as Stepped, Deliver as Delivers, Other as Others, Lose as Loses, Crash as Crashes}
use Rattle.panel_rules.specs.declared.Report.{Report}
use Rattle.panel_rules.specs.Marks.{Mark, numbered, sends, taken}
use Rattle.panel_rules.specs.Panels.{Setting, Happening, Queue as Queued, Step as Turned, Hear, is_setting, marks, number, ack_body}

-- A frame or a reply that is under way: of the message of an event, or of its acknowledgement; what that event reports, and when the
-- frame was sent or the reply was made.
pub record Copy : Type 0 where
  pub event : ℕ
  pub report : Report
  pub at : ℕ

-- The panel is given an event. It does a step. A copy of a frame reaches the centre by some line, and the centre acknowledges it or not:
-- it does not where it stops before that. A copy of a reply reaches the panel. Another event comes to the centre, which acknowledges it
-- or not. A frame or a reply is lost. The centre crashes, keeps so many entries, and starts again.
pub data Step : Type 0 where
  Queue : (token : Token) (content : List ℕ) → Step
  Turn : (clock : ℕ) → Step
  Deliver : (frame : Copy) (via : List ℕ) (clock : ℕ) (acknowledged : Bool) → Step
  Hand : (reply : Copy) (clock : ℕ) → Step
  Other : (event : Event) (clock : ℕ) (acknowledged : Bool) → Step
  Lose : Step
  Crash : (kept : ℕ) (clock : ℕ) → Step

-- how the panel is set up, the centre's setup text, a first reading of the clock, and the steps
pub record World : Type 0 where
  pub setting : Setting
  pub text : List ℕ
  pub first : ℕ
  pub steps : List Step

-- The panel.

-- what happens to the panel at a step
abbrev pub happens : Setting → Step → List Happening → List Happening
happens s (Queue token content) h = Queued token content ∷ h
happens s (Turn clock) h = Turned clock ∷ h
happens s (Hand reply clock) h = Hear (ack_body s reply.event reply.report.token) ∷ h
happens s other h = h

-- what happened to the panel in these steps
abbrev pub happenings : Setting → List Step → List Happening
happenings s [] = []
happenings s (x ∷ earlier) = happens s x (happenings s earlier)

-- the marks that these steps leave in the panel
abbrev pub marks_after : Setting → List Step → List Mark
marks_after s steps = marks s (happenings s steps)

-- What is under way.

-- the copy of the message of an event, where there is such an event
abbrev pub copy_of : ℕ → ℕ → Option Report → List Copy
copy_of n clock None = []
copy_of n clock (Some report) = record { event = n; report = report; at = clock } ∷ []

-- the copy that the panel sends, where it sends one
abbrev pub sent_copy : List Mark → ℕ → Option ℕ → List Copy
sent_copy ms clock None = []
sent_copy ms clock (Some n) = copy_of n clock (numbered n (taken ms))

-- the frames that the panel sent in these steps
abbrev pub frame_at : List Mark → Step → List Copy
frame_at ms (Turn clock) = sent_copy ms clock (sends ms clock)
frame_at ms other = []

abbrev pub frames : Setting → List Step → List Copy
frames s [] = []
frames s (x ∷ earlier) = frame_at (marks_after s earlier) x ++ frames s earlier

-- the replies that the centre made in these steps: it acknowledges a frame at the reading at which it comes
abbrev pub reply_at : Step → List Copy
reply_at (Deliver frame via clock true) = record { event = frame.event; report = frame.report; at = clock } ∷ []
reply_at other = []

abbrev pub replies : List Step → List Copy
replies [] = []
replies (x ∷ earlier) = reply_at x ++ replies earlier

-- The centre.

-- the message of an event: the fields that its frame spells, of a header without `R` field
abbrev pub message_of : Setting → ℕ → Report → Message
message_of s n report = record {
  account = s.account;
  receiver = None;
  line = s.line;
  seq = number s n;
  token = report.token;
  content = report.content;
}

-- What a step is to the centre. The sending of a message has the number of its event.
abbrev pub scheduled_at : Setting → Step → List Stepped → List Stepped
scheduled_at s (Deliver frame via clock acknowledged) before =
    Delivers frame.event (message_of s frame.event frame.report) via clock acknowledged ∷ before
scheduled_at s (Other event clock acknowledged) before = Others event clock acknowledged ∷ before
scheduled_at s Lose before = Loses ∷ before
scheduled_at s (Crash kept clock) before = Crashes kept clock ∷ before
scheduled_at s other before = before

-- what these steps are to the centre
abbrev pub scheduled : Setting → List Step → List Stepped
scheduled s [] = []
scheduled s (x ∷ earlier) = scheduled_at s x (scheduled s earlier)

-- the schedule of a world
abbrev pub schedule_of : World → Schedule
schedule_of w = record { text = w.text; first = w.first; steps = scheduled w.setting w.steps }

-- What a world is.

-- the last reading of the clock
abbrev pub reading_at : Step → ℕ → ℕ
reading_at (Turn clock) before = clock
reading_at (Deliver frame via clock acknowledged) before = clock
reading_at (Hand reply clock) before = clock
reading_at (Other event clock acknowledged) before = clock
reading_at (Crash kept clock) before = clock
reading_at other before = before

abbrev pub reading : ℕ → List Step → ℕ
reading first [] = first
reading first (x ∷ earlier) = reading_at x (reading first earlier)

-- it is one of these
abbrev pub IsAmong : {A : Type 0} → A → List A → Type 0
IsAmong a [] = ⊥
IsAmong a (b ∷ bs) = (a ≡ b) ⊎ IsAmong a bs

-- it was sent, at most 60 seconds before
pub record IsUnderWay (copy : Copy) (sent : List Copy) (clock : ℕ) : Type 0 where
  pub among : IsAmong copy sent
  pub young : clock ≤ copy.at + 60

-- what a step of a world is besides, after the steps before it
abbrev pub IsPossible : World → Step → List Step → Type 0
IsPossible w (Deliver frame via clock acknowledged) earlier = IsUnderWay frame (frames w.setting earlier) clock
IsPossible w (Hand reply clock) earlier = IsUnderWay reply (replies earlier) clock
IsPossible w (Other event clock acknowledged) earlier = is_other event ≡ true
IsPossible w (Crash kept clock) earlier = IsKept kept (ideal_after (schedule_of w) (scheduled w.setting earlier))
IsPossible w other earlier = Unit {0}

-- A step of a world: the readings do not fall. What reaches the centre or the panel is a copy of what was sent. A crash of the centre
-- keeps its beginning and each entry that is acknowledged.
pub record IsStep (w : World) (x : Step) (earlier : List Step) : Type 0 where
  pub later : reading w.first earlier ≤ reading w.first (x ∷ earlier)
  pub possible : IsPossible w x earlier

-- each step is one
abbrev pub AreSteps : World → List Step → Type 0
AreSteps w [] = Unit {0}
AreSteps w (x ∷ earlier) = IsStep w x earlier × AreSteps w earlier

-- The panel is set up well, its account stands in the setup without a key, and each step is one. The panel does not restart, and nobody
-- else sends messages: no step does so.
pub record IsWorld (w : World) : Type 0 where
  pub setting : is_setting w.setting ≡ true
  pub setup : is_ok (setup_of w.text) ≡ true
  pub account : has_account (meaning w.text) w.setting.account ≡ true
  pub keyless : key_of (meaning w.text) w.setting.account ≡ None
  pub steps : AreSteps w w.steps
