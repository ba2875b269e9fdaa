-- The steps of a script: what each of its lines does to the history, and its line of output.
use Rattle.std.specs.Prelude.{◌≡◌, ◌+◌, ◌-◌, ℕ, List, [], ◌∷◌, ◌++◌, not, Option, Some, None, IfSome}
use Rattle.std.specs.Prelude.{map, filter, reverse, length, take, drop, replicate, codes, decimal}
use Rattle.std.specs.List.{flat_map}
use Rattle.std.specs.Option.{option_to_list}
use Rattle.alarm_rules.specs.SetupLines.{is_nil}
use Rattle.alarm_rules.specs.Setups.{meaning}
use Rattle.arc_data.specs.Digits.{bytes_spelled}
use Rattle.arc_data.specs.declared.event.Event.TheVariants.{Tick}
use Rattle.centre_rules.specs.Answers.{IsLegal}
use Rattle.centre_rules.specs.History.{Entry, recorded}
use Rattle.centre_rules.specs.Summary.{Summary}
use Rattle.centre_store.specs.Begins.{begun_after}
use Rattle.centre_store.specs.Bodies.{bodies_in}
use Rattle.centre_store.specs.Calls.{entry_after}
use Rattle.centre_store.specs.Given.{IsGiven}
use Rattle.centre_store.specs.Pasts.{IsPast}
use Rattle.dc09_frame.specs.Frames.{bodies, frame_of}
use Rattle.desk_session.specs.Events.{acts_over}
use Rattle.desk_session.specs.Turns as Desk
use Rattle.desk_wire.specs.Replies.{line_of}
use Rattle.line_session.specs.Turns.{Turn, line_turns, AreTurns}
use Rattle.script_lines.specs.Lines.{Asked, Time, Feed, Message, Command, Reopen}
use Rattle.session_rules.specs.Turns.{entries_of, readings_of, noise_of}
use Rattle.arc_script.specs.Fed.{clock_of, line_fed, desk_read}
use Rattle.arc_script.specs.Names.{line_name}
use Rattle.arc_script.specs.Pages.{head_of}

-- Where a line of a script stands: behind what was asked before (the newest first), under this setup, over this summary.
pub record Place : Type 0 where
  pub base : Summary
  pub setup : List ℕ
  pub asked : List Asked

abbrev pub placed : Summary → List ℕ → List Asked → Place
placed base setup asked = record { base = base; setup = setup; asked = asked }

-- A line that was carried out: its number, what it asks for, the entries that it added to the history (the oldest first), the summary over
-- which the history stands behind it, how many whole frames it fed to a line, and its line of output.
pub record Step : Type 0 where
  pub number : ℕ
  pub asked : Asked
  pub entries : List Entry
  pub base : Summary
  pub sent : ℕ
  pub text : List ℕ

-- `T`: where no clock was set before, the run begins, with the setup's text; then there is a Tick.
abbrev pub before_tick : Option ℕ → Summary → List ℕ → ℕ → List Entry → List Entry
before_tick None base setup moment h = begun_after base h setup moment
before_tick (Some last) base setup moment h = h

-- and behind the Tick
abbrev pub ticked_after : Option ℕ → Summary → List ℕ → ℕ → List Entry → List Entry
ticked_after clock base setup moment h =
    entry_after base (before_tick clock base setup moment h) Tick moment ∷ before_tick clock base setup moment h

-- The step's entries lead from the history h to x, over this summary, and no frame was fed.
pub record AddedBy (over : Summary) (h x : List Entry) (s : Step) : Type 0 where
  pub added : x ≡ reverse s.entries ++ h
  pub base : s.base ≡ over
  pub sent : s.sent ≡ 0

pub record Ticks (place : Place) (moment : ℕ) (h x : List Entry) (s : Step) : Type 0 where
  pub is : x ≡ ticked_after (clock_of place.asked) place.base place.setup moment h
  pub by : AddedBy place.base h x s
  pub text : s.text ≡ codes "T "
      ++ line_of (entry_after place.base (before_tick (clock_of place.asked) place.base place.setup moment h) Tick moment).reply

-- The turns of a line that took what it was fed before and is fed these bytes: one for each whole frame that ends in them, at the moment
-- that was set last, with zeros for noise. They stand behind one another in the history, under the line's name, and nothing else does. More
-- frames may have no turn.
pub record FeedsLine (place : Place) (line : ℕ) (bytes : List ℕ) (h x : List Entry) (turns : List Turn) (more : List (List ℕ))
    : Type 0 where
  pub clock : ℕ
  pub set : clock_of place.asked ≡ Some clock
  pub ended : bodies (line_fed line place.asked ++ bytes) ≡ bodies (line_fed line place.asked) ++ map (λ t. t.body) turns ++ more
  pub are : AreTurns (line_name line) place.base (meaning place.setup) 0 h x turns
  pub legal : IsLegal place.base x
  pub readings : readings_of line_turns turns ≡ replicate (length turns) clock
  pub noise : noise_of line_turns turns ≡ replicate (length (noise_of line_turns turns)) 0
  pub own : x ≡ reverse (entries_of line_turns turns) ++ h

-- a frame without its line feed and its carriage return
abbrev pub bare : List ℕ → List ℕ
bare frame = take (length frame - 2) (drop 1 frame)

-- the replies of turns, without those of no bytes
abbrev pub replies_of : List Turn → List (List ℕ)
replies_of turns = filter (λ reply. not (is_nil reply)) (map (λ t. t.reply) turns)

-- a space and each reply, or `-` where there is none
abbrev pub listed : List (List ℕ) → List ℕ
listed [] = codes " -"
listed (reply ∷ replies) = flat_map (λ r. 32 ∷ bare r) (reply ∷ replies)

-- The step feeds bytes to a line: those frames have their turns that come before these, which wait, and by how many have theirs so many
-- were fed.
pub record FeedsUntil (place : Place) (line : ℕ) (bytes : List ℕ) (waiting : List (List ℕ)) (IsSent : ℕ → ℕ → Type 0) (h x : List Entry)
    (s : Step) : Type 0 where
  pub turns : List Turn
  pub fed : FeedsLine place line bytes h x turns waiting
  pub entries : s.entries ≡ entries_of line_turns turns
  pub base : s.base ≡ place.base
  pub sent : IsSent (length turns) s.sent

-- `L` and `M`, with this letter: bytes are fed to a line, each of whose frames has its turn, and its replies are the output.
pub record Feeds (place : Place) (letter line : ℕ) (bytes : List ℕ) (h x : List Entry) (s : Step) : Type 0 where
  pub fed : FeedsUntil place line bytes [] (λ count sent. sent ≡ count) h x s
  pub text : s.text ≡ head_of letter line ++ listed (replies_of fed.turns) ++ 10 ∷ []

-- `D`: a desk reads the text as one line, all of it, for the operator who logged in last since the desk was made anew, and its
-- answer is the output.
pub record Commands (place : Place) (desk : ℕ) (given : List ℕ) (h x : List Entry) (s : Step) : Type 0 where
  pub turn : Desk.Turn
  pub clock : ℕ
  pub set : clock_of place.asked ≡ Some clock
  pub line : turn.line ≡ given
  pub is : Desk.IsTurn place.base (meaning place.setup) 0 (acts_over (meaning place.setup) None (desk_read desk place.asked)) h x turn
  pub legal : IsLegal place.base x
  pub reading : IfSome turn.reading (λ r. r ≡ clock)
  pub entries : s.entries ≡ option_to_list turn.entry
  pub by : AddedBy place.base h x s
  pub text : s.text ≡ head_of 68 desk ++ 32 ∷ turn.reply

-- `X`: the journal is closed and opened again, and gives a summary, and recorded entries over it. From these a run begins, with the same
-- setup. Meanwhile the journal may have put a summary in the place of older entries; no later answer shows that. So where the disk tells
-- what it holds, the history goes on over the same summary, from its recorded entries. Of another disk no more is known than that it gives
-- a summary, and keeps a past over it, in either version.
pub record Keeps (Told : Type 0) (base base' : Summary) (h kept : List Entry) : Type 0 where
  pub given : IsGiven base'
  pub version : ℕ
  pub past : IsPast version base' (bodies_in version kept) kept
  pub same : Told → (base' ≡ base) × (kept ≡ recorded h)

-- the step begins anew over what the journal keeps: it came so far, by the summary, the setup's text, the moment and what is kept
pub record ReopenedBy (Told : Type 0) (place : Place) (IsBegun : Summary → List ℕ → ℕ → List Entry → List Entry → Type 0)
    (h x : List Entry) (s : Step) : Type 0 where
  pub kept : List Entry
  pub keeps : Keeps Told place.base s.base h kept
  pub clock : ℕ
  pub set : clock_of place.asked ≡ Some clock
  pub until : IsBegun s.base place.setup clock kept x
  pub by : AddedBy s.base kept x s

pub record Reopens (Told : Type 0) (place : Place) (h x : List Entry) (s : Step) : Type 0 where
  pub whole : ReopenedBy Told place (λ base setup clock kept y. y ≡ begun_after base kept setup clock) h x s
  pub text : s.text ≡ codes "X recorded " ++ decimal (s.base.recorded + length (recorded x)) ++ 10 ∷ []

-- the step of a line that stands there and asks for this, from the history h on, to x
abbrev pub IsStepOf : Type 0 → Place → List Entry → List Entry → Step → Asked → Type 0
IsStepOf Told place h x s (Time moment) = Ticks place moment h x s
IsStepOf Told place h x s (Feed line digits) = Feeds place 76 line (bytes_spelled digits) h x s
IsStepOf Told place h x s (Message line body) = Feeds place 77 line (frame_of body) h x s
IsStepOf Told place h x s (Command desk text) = Commands place desk text h x s
IsStepOf Told place h x s Reopen = Reopens Told place h x s

-- what was asked in these steps and before them, the newest first
abbrev pub asked_after : List Asked → List Step → List Asked
asked_after before [] = before
asked_after before (s ∷ steps) = asked_after (s.asked ∷ before) steps

-- the summary over which the history stands behind these steps
abbrev pub base_after : Summary → List Step → Summary
base_after base [] = base
base_after base (s ∷ steps) = base_after s.base steps

-- where a line stands behind these steps
abbrev pub place_after : Place → List Step → Place
place_after place steps = record place { base = base_after place.base steps; asked = asked_after place.asked steps }

-- The steps stand behind one another, from h on, to x.
abbrev pub AreSteps : Type 0 → Place → List Entry → List Entry → List Step → Type 0
AreSteps Told place h x [] = x ≡ h
AreSteps Told place h x (s ∷ steps) =
    (mid : List Entry) × IsStepOf Told place h mid s s.asked × AreSteps Told (place_after place (s ∷ [])) mid x steps

-- their output
abbrev pub output_of : List Step → List ℕ
output_of steps = flat_map (λ s. s.text) steps
