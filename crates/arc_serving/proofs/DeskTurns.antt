-- What the turns of a desk tell: the history after them begins with that before, and their entries are requests.
use Rattle.std.proofs.Common.{◌≡◌, ℕ, List, [], ◌∷◌, Option, Some, None, refl, sym, subst}
use Rattle.std.proofs.lemmas.List.Elements.{All-append, All-cons, All-nil}
use Rattle.std.specs.Prelude.{All}
use Rattle.std.specs.Option.{option_to_list}
use Rattle.alarm_rules.specs.Setups.{Setup}
use Rattle.arc_data.specs.declared.event.Event.{Event}
use Rattle.arc_data.specs.declared.event.Event.TheVariants.{Next as TheNext, Claim as TheClaim, Act as TheAct, Release as TheRelease}
use Rattle.arc_data.specs.declared.event.Event.TheVariants.{Close as TheClose, Show as TheShow, List as TheList}
use Rattle.centre_rules.specs.Summary.{Summary}
use Rattle.desk_session.specs.Events.{command_in, acts_after, event_by, event_of, text_of}
use Rattle.desk_session.specs.Turns.{Turn, IsAnswered, AreTurns, desk_turns}
use Rattle.desk_wire.specs.declared.command.Command.{Command}
use Rattle.desk_wire.specs.declared.command.Command.TheVariants.{Login, Quit, Next, Claim, Act, Release, Close, Show, List as Rows}
use Rattle.line_gate.proofs.Histories.{extends_further}
use Rattle.line_gate.specs.Entries.{Entry, Extends}
use Rattle.session_rules.specs.Turns.{entries_of}
use Rattle.arc_serving.specs.Served.{IsSubmittedBy}
use Rattle.arc_serving.specs.declared.side.Side.TheVariants.{Desks}

abbrev IsRequest : Event → Type 0
IsRequest event = IsSubmittedBy Desks event

answered_extends : (b : Summary) (caller : ℕ) (h x : List Entry) (t : Turn) (o : Option Event) (text : List ℕ) → IsAnswered b caller h x t o text → Extends h x
answered_extends b caller h x t None text w = w.extends
answered_extends b caller h x t (Some event) text w = extends_further h w.before x w.extends (w.made ∷ [], w.is)

pub turns_extend : (b : Summary) (setup : Setup) (caller : ℕ) (operator : Option (List ℕ)) (h x : List Entry) (ts : List Turn) → AreTurns b setup caller operator h x ts → Extends h x
turns_extend b setup caller operator h x [] w = w
turns_extend b setup caller operator h x (t ∷ ts) w =
    extends_further h w.0 x (answered_extends b caller h w.0 t (event_of operator (command_in t.line)) (text_of setup (command_in t.line)) w.1)
    (turns_extend b setup caller (acts_after setup operator (command_in t.line)) w.0 x ts w.2)

-- what commands ask for

asks_by : (operator : List ℕ) (command : Command) (event : Event) → event_by operator command ≡ Some event → IsRequest event
asks_by operator (Login name pin) event is = absurd (cc)
asks_by operator Quit event is = absurd (cc)
asks_by operator Next event is = let same : TheNext operator ≡ event = cc in subst IsRequest same tt
asks_by operator (Claim number) event is = let same : TheClaim operator number ≡ event = cc in subst IsRequest same tt
asks_by operator (Act number step outcome) event is = let same : TheAct operator number step outcome ≡ event = cc in subst IsRequest same tt
asks_by operator (Release number) event is = let same : TheRelease operator number ≡ event = cc in subst IsRequest same tt
asks_by operator (Close number code) event is = let same : TheClose operator number code ≡ event = cc in subst IsRequest same tt
asks_by operator (Show number) event is = let same : TheShow number ≡ event = cc in subst IsRequest same tt
asks_by operator Rows event is = let same : TheList ≡ event = cc in subst IsRequest same tt

asks : (operator : Option (List ℕ)) (command : Option Command) (event : Event) → event_of operator command ≡ Some event → IsRequest event
asks None command event is = absurd (cc)
asks (Some operator) None event is = absurd (cc)
asks (Some operator) (Some command) event is = asks_by operator command event is

abbrev Requests : List Entry → Type 0
Requests es = All (λ (e : Entry). IsRequest e.event) es

answered_requests : (b : Summary) (caller : ℕ) (h x : List Entry) (t : Turn) (o : Option Event) (text : List ℕ) → ((event : Event) → o ≡ Some event → IsRequest event)
    → IsAnswered b caller h x t o text → Requests (option_to_list t.entry)
answered_requests b caller h x t None text asked w = subst (λ (p : Option Entry). Requests (option_to_list p)) (sym w.entry) (All-nil (λ (e : Entry). IsRequest e.event))
answered_requests b caller h x t (Some event) text asked w =
    subst (λ (p : Option Entry). Requests (option_to_list p)) (sym w.entry)
    (All-cons (λ (e : Entry). IsRequest e.event) w.made [] (subst IsRequest (sym w.of) (asked event refl)) (All-nil (λ (e : Entry). IsRequest e.event)))

pub turns_request : (b : Summary) (setup : Setup) (caller : ℕ) (operator : Option (List ℕ)) (h x : List Entry) (ts : List Turn) → AreTurns b setup caller operator h x ts
    → Requests (entries_of desk_turns ts)
turns_request b setup caller operator h x [] w = All-nil (λ (e : Entry). IsRequest e.event)
turns_request b setup caller operator h x (t ∷ ts) w =
    All-append (λ (e : Entry). IsRequest e.event) (option_to_list t.entry) (entries_of desk_turns ts)
    (answered_requests b caller h w.0 t (event_of operator (command_in t.line)) (text_of setup (command_in t.line)) (asks operator (command_in t.line)) w.1)
    (turns_request b setup caller (acts_after setup operator (command_in t.line)) w.0 x ts w.2)
