-- What the turns of a line tell: the history after them begins with that before, and their entries are reports.
use Rattle.std.proofs.Common.{◌≡◌, ℕ, List, [], ◌∷◌, Option, Some, None, sym, subst}
use Rattle.std.proofs.lemmas.List.Elements.{All-append, All-cons, All-nil}
use Rattle.std.specs.Prelude.{All}
use Rattle.std.specs.Option.{option_to_list}
use Rattle.alarm_rules.specs.Setups.{Setup}
use Rattle.arc_data.specs.declared.event.Event.{Event}
use Rattle.arc_data.specs.declared.event.Event.TheVariants.{Message as Sent, Beat as Heartbeat}
use Rattle.centre_rules.specs.Summary.{Summary}
use Rattle.dc09_frame.specs.declared.header.Header.{Header}
use Rattle.dc09_message.specs.Verdicts.{verdict_of}
use Rattle.dc09_message.specs.declared.outcome.Verdict.{Verdict}
use Rattle.dc09_message.specs.declared.outcome.Verdict.TheVariants.{Silence, Nak, Duh, Beat, Numbered}
use Rattle.line_gate.proofs.Histories.{extends_further}
use Rattle.line_gate.specs.Entries.{Entry, Extends}
use Rattle.line_session.specs.Turns.{Turn, TakesEntry, IsAnswered, AreTurns, line_turns}
use Rattle.session_rules.specs.Turns.{entries_of}
use Rattle.arc_serving.specs.Served.{IsSubmittedBy}
use Rattle.arc_serving.specs.declared.side.Side.TheVariants.{Lines}

abbrev IsReport : Event → Type 0
IsReport event = IsSubmittedBy Lines event

entry_extends : (b : Summary) (setup : Setup) (caller : ℕ) (h x : List Entry) (t : Turn) (header : Header) (event : Event) → TakesEntry b setup caller h x t header event → Extends h x
entry_extends b setup caller h x t header event w = extends_further h w.before x w.extends (w.entry ∷ [], w.is)

answered_extends : (name : List ℕ) (b : Summary) (setup : Setup) (caller : ℕ) (h x : List Entry) (t : Turn) (v : Verdict) → IsAnswered name b setup caller h x t v → Extends h x
answered_extends name b setup caller h x t Silence w = w.extends
answered_extends name b setup caller h x t Nak w = w.extends
answered_extends name b setup caller h x t (Duh header why) w = w.extends
answered_extends name b setup caller h x t (Beat header account) w = entry_extends b setup caller h x t header (Heartbeat account) w
answered_extends name b setup caller h x t (Numbered header m) w = entry_extends b setup caller h x t header (Sent m name) w

pub turns_extend : (name : List ℕ) (b : Summary) (setup : Setup) (caller : ℕ) (h x : List Entry) (ts : List Turn) → AreTurns name b setup caller h x ts → Extends h x
turns_extend name b setup caller h x [] w = w
turns_extend name b setup caller h x (t ∷ ts) w = extends_further h w.0 x (answered_extends name b setup caller h w.0 t (verdict_of setup t.reading t.body) w.1) (turns_extend name b setup caller w.0 x ts w.2)

abbrev Reports : List Entry → Type 0
Reports es = All (λ (e : Entry). IsReport e.event) es

no_report : (o : Option Entry) → o ≡ None → Reports (option_to_list o)
no_report o is = subst (λ (p : Option Entry). Reports (option_to_list p)) (sym is) (All-nil (λ (e : Entry). IsReport e.event))

one_report : (o : Option Entry) (e : Entry) → o ≡ Some e → IsReport e.event → Reports (option_to_list o)
one_report o e is r = subst (λ (p : Option Entry). Reports (option_to_list p)) (sym is) (All-cons (λ (x : Entry). IsReport x.event) e [] r (All-nil (λ (x : Entry). IsReport x.event)))

answered_reports : (name : List ℕ) (b : Summary) (setup : Setup) (caller : ℕ) (h x : List Entry) (t : Turn) (v : Verdict) → IsAnswered name b setup caller h x t v → Reports (option_to_list t.entry)
answered_reports name b setup caller h x t Silence w = no_report t.entry w.entry
answered_reports name b setup caller h x t Nak w = no_report t.entry w.entry
answered_reports name b setup caller h x t (Duh header why) w = no_report t.entry w.entry
answered_reports name b setup caller h x t (Beat header account) w = one_report t.entry w.entry w.taken (subst IsReport (sym w.of) tt)
answered_reports name b setup caller h x t (Numbered header m) w = one_report t.entry w.entry w.taken (subst IsReport (sym w.of) tt)

pub turns_report : (name : List ℕ) (b : Summary) (setup : Setup) (caller : ℕ) (h x : List Entry) (ts : List Turn) → AreTurns name b setup caller h x ts → Reports (entries_of line_turns ts)
turns_report name b setup caller h x [] w = All-nil (λ (e : Entry). IsReport e.event)
turns_report name b setup caller h x (t ∷ ts) w = All-append (λ (e : Entry). IsReport e.event) (option_to_list t.entry) (entries_of line_turns ts) (answered_reports name b setup caller h w.0 t (verdict_of setup t.reading t.body) w.1) (turns_report name b setup caller w.0 x ts w.2)
