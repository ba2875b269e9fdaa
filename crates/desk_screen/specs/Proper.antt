-- What is so of each turn of a sitting, whatever comes.
use Rattle.std.specs.Prelude.{◌≡◌, ◌⊎◌, ℕ, List, [], ◌∷◌, true, false, Option, Some, None}
use Rattle.alarm_rules.specs.SetupWords.{is_pin, word_that}
use Rattle.arc_data.specs.Steps.{fits, is_reached}
use Rattle.arc_data.specs.declared.step.Step.{Step}
use Rattle.arc_data.specs.declared.event.CloseCode.{CloseCode}
use Rattle.arc_data.specs.declared.event.CloseCode.TheVariants.{Real, False, Test}
use Rattle.arc_data.specs.declared.step.Outcome.{Outcome}
use Rattle.arc_data.specs.declared.step.Outcome.TheVariants.{Reached, NoAnswer, Done}
use Rattle.desk_wire.specs.Names.{number_spelled}
use Rattle.desk_wire.specs.declared.command.Command.{Command}
use Rattle.desk_wire.specs.declared.command.Command.TheVariants.{Login, Quit, Next, Claim, Act, Release, Close, Show, List as Rows}
use Rattle.desk_screen.specs.Asking.{number_meant}
use Rattle.desk_screen.specs.Bell.{rings, quiet, muted}
use Rattle.desk_screen.specs.Inputs.{Input, Key, Answer, Second, Made, Lost, Turn, Sitting, is_answer, is_break, news}
use Rattle.desk_screen.specs.Orders.{way, way_left, wish, is_connected, connected_after, typed_of}
use Rattle.desk_screen.specs.Owning.{own}
use Rattle.desk_said.specs.declared.said.Said.{Said}
use Rattle.desk_said.specs.declared.said.Said.TheVariants.{Shown}
use Rattle.desk_screen.specs.Series.{keeps, kind_of, outcome_in}
use Rattle.desk_screen.specs.Told.{IsTold}
use Rattle.desk_screen.specs.Typing.{is_enter, last_key, name, typed}
use Rattle.desk_screen.specs.Watching.{queue}
use Rattle.desk_screen.specs.declared.order.Order.{Order}
use Rattle.desk_screen.specs.declared.order.Order.TheVariants.{Typed}
use Rattle.desk_screen.specs.declared.own.Due.TheVariants.{Ahead}
use Rattle.desk_screen.specs.declared.own.Own.{Own}
use Rattle.desk_screen.specs.declared.series.Kind.{Kind}

-- the key of an outcome, and that of a code
abbrev pub outcome_key : Outcome → ℕ
outcome_key Reached = 114
outcome_key NoAnswer = 97
outcome_key Done = 100

abbrev pub code_key : CloseCode → ℕ
code_key Real = 82
code_key False = 70
code_key Test = 84

-- this incident stands as the operator's own
abbrev pub IsOwn : Option Own → ℕ → Type 0
IsOwn own number = (o : Own) × (own ≡ Some o) × (o.number ≡ number)

-- and this step is the one that the desk told last to expect
abbrev pub IsAhead : Option Own → ℕ → Step → Type 0
IsAhead own number step = (o : Own) × (own ≡ Some o) × (o.number ≡ number) × (o.due ≡ Ahead step)

-- the key records a step with this outcome: that of the outcome, or one of a series, whose first step it is
abbrev pub IsKeyOf : ℕ → Step → Outcome → Type 0
IsKeyOf key step outcome =
    (key ≡ outcome_key outcome) ⊎ ((kind : Kind) × (kind_of key ≡ Some kind) × (outcome_in kind step ≡ Some outcome))

-- Why the operator's key asks for a command, of a screen that shows this own incident, behind this newest key and this typed text: each
-- command comes from a key of its own. What names an incident without a typed number names his own, and an act names the step that is
-- expected there; a closing needs the key of its code before this one.
abbrev pub IsFor : Option Own → Option ℕ → List ℕ → Option (List ℕ) → ℕ → Command → Type 0
IsFor own last typed name key (Login who pin) = (is_enter key ≡ true) × (name ≡ Some who) × (word_that is_pin typed ≡ Some pin)
IsFor own last typed name key Quit = ⊥
IsFor own last typed name key Next = key ≡ 110
IsFor own last typed name key (Claim number) = (key ≡ 99) × (number_spelled typed ≡ Some number)
IsFor own last typed name key (Act number step outcome) =
    IsKeyOf key step outcome × (fits step outcome ≡ true) × IsAhead own number step
IsFor own last typed name key (Release number) = (key ≡ 108) × IsOwn own number
IsFor own last typed name key (Close number code) = (key ≡ 121) × (last ≡ Some (code_key code)) × IsOwn own number
IsFor own last typed name key (Show number) = (key ≡ 115) × (number_meant typed own ≡ Some number)
IsFor own last typed name key Rows = ⊥

-- an input that is this key, where this is so; one that leaves what was so before; or the end of a connection
abbrev pub Confirms : Input → ℕ → Type 0 → Type 0 → Type 0
Confirms (Key key) wanted here before = (key ≡ wanted) × here
Confirms (Answer line) wanted here before = before
Confirms Second wanted here before = before
Confirms Made wanted here before = ⊥
Confirms Lost wanted here before = ⊥

-- The newest key is that of this code, it was pressed where this incident stood as the operator's own, and so that incident has stood ever
-- since.
abbrev pub IsConfirmed : Sitting → ℕ → CloseCode → Type 0
IsConfirmed [] number code = ⊥
IsConfirmed (t ∷ s) number code =
    IsOwn (own (t ∷ s)) number × Confirms t.input (code_key code) (IsOwn (own s) number) (IsConfirmed s number code)

-- an act for this incident that records anything but a reached call
abbrev pub LeadsOn : Option Command → ℕ → Type 0
LeadsOn (Some (Act incident step outcome)) number = (incident ≡ number) × (is_reached outcome ≡ false)
LeadsOn other number = ⊥

-- an input that is a key, where this is so of it; an answer of which this is so, behind what was so before; one that leaves what was so
-- before; or the end of a connection
abbrev pub GoesOn : Input → (ℕ → Type 0) → Type 0 → Type 0 → Type 0
GoesOn (Key key) begun kept before = begun key
GoesOn (Answer line) begun kept before = kept × before
GoesOn Second begun kept before = before
GoesOn Made begun kept before = ⊥
GoesOn Lost begun kept before = ⊥

-- A series of this kind goes on, for this incident. The newest key is one of the kind, and it asked for the first act. Ever since, the
-- incident has stood as the operator's own, the connection has stood, and each answer was one within the series (`keeps`): to each act
-- that it is recorded, and each other one showed the step of the next act, which was asked for at once, but for a list before the first act
-- was sent. No call was reached.
abbrev pub HasGoneOn : Sitting → ℕ → Kind → Type 0
HasGoneOn [] number kind = ⊥
HasGoneOn (t ∷ s) number kind =
    IsOwn (own (t ∷ s)) number
    × GoesOn t.input (λ key. (kind_of key ≡ Some kind) × LeadsOn t.asked number)
    (keeps (news t.input (way s)) (typed_of (way s)) t.asked (wish s) number ≡ true)
    (HasGoneOn s number kind)

-- an answer shows this incident, and that this step is expected there
abbrev pub Displays : Said → ℕ → Step → Type 0
Displays (Shown view) number step = (view.number ≡ number) × (view.expected ≡ Some step)
Displays other number step = ⊥

-- A command is the next one of a series that has gone on until now: an act for its incident, still the operator's own, and for the step
-- that this very answer shows as expected, which is one of the series, with the outcome that the series records of it.
pub record IsNext (s : Sitting) (t : Turn) (c : Command) : Type 0 where
  pub number : ℕ
  pub kind : Kind
  pub step : Step
  pub outcome : Outcome
  pub gone : HasGoneOn s number kind
  pub act : c ≡ Act number step outcome
  pub shown : Displays (news t.input (way s)) number step
  pub ahead : IsAhead (own (t ∷ s)) number step
  pub recorded : outcome_in kind step ≡ Some outcome
  pub fit : fits step outcome ≡ true

-- Why a command is asked for: it is that of the key which was pressed, or the next one of a series, which an earlier key began.
abbrev pub IsKeyed : Sitting → Turn → Command → Type 0
IsKeyed s t c = ((key : ℕ) × (t.input ≡ Key key) × IsFor (own s) (last_key s) (typed s) (name s) key c) ⊎ IsNext s t c

-- What is so of a turn behind a sitting.
pub record IsAllowed (s : Sitting) (t : Turn) : Type 0 where
  -- a command is sent only over a connection, and only where none is without an answer
  pub over : (order : Order) → t.sent ≡ Some order → connected_after t.input (is_connected s) ≡ true
  pub alone : (order : Order) → t.sent ≡ Some order → way_left t.input (way s) ≡ None
  -- what is sent for the operator is what is asked for now, or was asked for before and not sent; it is never sent twice
  pub wished : (c : Command) → t.sent ≡ Some (Typed c) → (t.asked ≡ Some c) ⊎ ((t.asked ≡ None) × (wish s ≡ Some c))
  -- where a connection begins or ends nothing is sent for him
  pub fresh : (c : Command) → t.sent ≡ Some (Typed c) → is_break t.input ≡ false
  -- he asks by a key, and by that of a series also for its next commands, over a connection, where none of his commands waits for its turn
  -- or its answer
  pub keyed : (c : Command) → t.asked ≡ Some c → IsKeyed s t c
  pub joined : (c : Command) → t.asked ≡ Some c → is_connected s ≡ true
  pub one : (c : Command) → t.asked ≡ Some c → (typed_of (way s) ≡ None) × (wish s ≡ None)
  -- what a series asks for behind an answer is sent at once
  pub prompt : (c : Command) → t.asked ≡ Some c → is_answer t.input ≡ true → t.sent ≡ Some (Typed c)
  -- the step of an act is the one that the desk told to expect, in this connection
  pub told : (number : ℕ) (step : Step) (outcome : Outcome) → t.asked ≡ Some (Act number step outcome) → IsTold (t ∷ s) number step
  -- a closing is confirmed: the key before was that of its code, for this very incident
  pub confirmed : (number : ℕ) (code : CloseCode) → t.asked ≡ Some (Close number code) → IsConfirmed s number code
  -- the bell rings as it has to
  pub bell : t.rung ≡ rings t.input (news t.input (way s)) (queue s) (quiet s) (muted s)

-- so is each turn
abbrev pub IsProper : Sitting → Type 0
IsProper [] = Unit {0}
IsProper (t ∷ s) = IsAllowed s t × IsProper s
