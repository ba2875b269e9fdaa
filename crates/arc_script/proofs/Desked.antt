-- The step of a line of a script that gives a command to a desk.
use Rattle.std.proofs.Common.{◌≡◌, ◌⊎◌, ◌<◌, ◌≤◌, ◌-◌, ◌+◌, ◌++◌, ◌^◌, ℕ, List, [], ◌∷◌, Bool, true, false, cond, Option, Some, None, inl, inr, length, refl, ap, sym, subst, ◌∙◌, arith}
use Rattle.std.specs.Prelude.{min, decimal}
use Rattle.std.specs.Io.KnownBytes.{append_known}
use Rattle.std.specs.List.{list_any}
use Rattle.std.specs.Option.{option_to_list}
use Rattle.std.proofs.lemmas.Bool.{or_parts}
use Rattle.std.proofs.lemmas.List.{append_assoc, length-append}
use Rattle.std.proofs.lemmas.List.Folds.{list_any-append}
use Rattle.alarm_rules.specs.Setups.{Setup, meaning}
use Rattle.arc_io.specs.Disks.{DiskSeen}
use Rattle.arc_io.specs.Seen.{PortSeen}
use Rattle.arc_io.proofs.KnownMore.{known_both}
use Rattle.arc_text.specs.Lines.{ended_lines, is_feed}
use Rattle.centre_core.specs.declared.hall.Stop.{Stop}
use Rattle.centre_core.specs.declared.hall.Stop.TheVariants.{Memory}
use Rattle.centre_rules.proofs.Steps.{incidents_begin}
use Rattle.centre_rules.specs.Cases.{incidents}
use Rattle.centre_rules.specs.History.{Entry, marks}
use Rattle.centre_rules.specs.State.{State, StandsFor}
use Rattle.centre_rules.specs.Summary.{Summary}
use Rattle.centre_store.specs.Stores.{Stored, StoreStands}
use Rattle.desk_session.specs.Desks as Desk
use Rattle.desk_session.specs.Events.{acts_over, is_quit, quits}
use Rattle.desk_session.specs.Turns.{Turn}
use Rattle.line_session.specs.Lines as Line
use Rattle.script_lines.specs.Lines.{Asked, Command, spelling}
use Rattle.session_rules.specs.Inputs.{input_limit}
use Rattle.arc_script.specs.Carrying.{Carried, CountsStep, GrowsBy, Halted, HasRead, IsNext}
use Rattle.arc_script.specs.Causes.{HasShown, IsOfCommand}
use Rattle.arc_script.specs.Fed.{clock_of, desk_read}
use Rattle.arc_script.specs.Pages.{head_of}
use Rattle.arc_script.specs.Standing.{IsReadable, LeavesOn}
use Rattle.arc_script.specs.Steps.{placed, AddedBy, Commands, Step}
use Rattle.arc_script.specs.Tallies.{count_of, is_closed, is_repeat, told}
use Rattle.arc_script.specs.declared.script_end.Tally.{Tally}
use Rattle.arc_script.proofs.Closing.{counted_turn, IsCounted}
use Rattle.arc_script.proofs.Commanded.{is_quit_as, Answers, EndsAs, Said, Turned}
use Rattle.arc_script.proofs.Counts.{grows_none, grows_told}
use Rattle.arc_script.proofs.Taken.{read_next}
use Rattle.arc_script.proofs.Ticks.{wanted_up}

-- what the code counts: the open incidents fewer
pub record Closings (s s' : State) (t t' : Tally) : Type 0 where
  pub closed : t'.closed ≡ min (t.closed + (length s.sum.incidents - length s'.sum.incidents)) (2 ^ 64 - 1)
  pub rest : t' ≡ record t { closed = t'.closed }

open_told : (base : Summary) (s : State) (h : List Entry) → StandsFor base s h → length s.sum.incidents ≡ length (incidents base (marks base h))
open_told base s h stands = ap length (sym (incidents_begin s.sum) ∙ stands.same.incidents)

fewer : (base : Summary) (s s' : State) (h x entries : List Entry) → StandsFor base s h → StandsFor base s' x → IsCounted base h x entries
    → length s.sum.incidents - length s'.sum.incidents ≡ count_of is_closed entries
fewer base s s' h x entries before behind counted =
    let first = open_told base s h before in
    let other = open_told base s' x behind in
    let closed = counted.closed in
    omega (arith, first, other, closed)

command_counts : (base : Summary) (s s' : State) (t t' : Tally) (h x : List Entry) (step : Step) (entries : List Entry) → StandsFor base s h → StandsFor base s' x
    → IsCounted base h x entries → Closings s s' t t' → step.entries ≡ entries → step.sent ≡ 0 → CountsStep step t t'
command_counts base s s' t t' h x step entries before behind counted w entries_is sent_is =
    let sent : t'.sent ≡ t.sent = ap (λ (k : Tally). k.sent) w.rest in
    let repeats : t'.repeats ≡ t.repeats = ap (λ (k : Tally). k.repeats) w.rest in
    let closed : t'.closed ≡ told (t.closed + count_of is_closed entries) =
    w.closed ∙ ap (λ (n : ℕ). told (t.closed + n)) (fewer base s s' h x entries before behind counted) in
    record {
      more = record {
        sent = subst (λ (n : ℕ). GrowsBy step.sent t.sent n) (sym sent) (grows_none step.sent t.sent sent_is);
        repeats = subst (λ (n : ℕ). GrowsBy (count_of is_repeat step.entries) t.repeats n) (sym repeats)
            (grows_none (count_of is_repeat step.entries) t.repeats (ap (count_of is_repeat) entries_is ∙ counted.repeats));
        closed = subst (λ (l : List Entry). GrowsBy (count_of is_closed l) t.closed t'.closed) (sym entries_is)
            (grows_told (count_of is_closed entries) t.closed t'.closed closed);
      };
      rest = w.rest ∙ ap (λ (n : ℕ). record t { sent = n; closed = t'.closed }) (sym sent)
          ∙ ap (λ (n : ℕ). record t { sent = t'.sent; repeats = n; closed = t'.closed }) (sym repeats);
    }

step_of : (base : Summary) (number desk : ℕ) (text reply : List ℕ) (entries : List Entry) → Step
step_of base number desk text reply entries = record {
  number = number;
  asked = Command desk text;
  entries = entries;
  base = base;
  sent = 0;
  text = head_of 68 desk ++ 32 ∷ reply;
}

commands_of : (base : Summary) (setup : List ℕ) (clock number desk : ℕ) (before : List Asked) (text : List ℕ) (lines : List (List ℕ)) (h x : List Entry) (turn : Turn)
    → clock_of before ≡ Some clock → lines ≡ desk_read desk before → Turned base setup (acts_over (meaning setup) None lines) clock text h x turn
    → Commands (placed base setup before) desk text h x (step_of base number desk text turn.reply (option_to_list turn.entry))
unfolding step_of
commands_of base setup clock number desk before text lines h x turn set same w =
    let here = subst (λ (ls : List (List ℕ)). Turned base setup (acts_over (meaning setup) None ls) clock text h x turn) same w in
    record {
      turn = turn;
      clock = clock;
      set = set;
      line = here.line;
      is = here.is;
      legal = here.legal;
      reading = here.reading;
      entries = refl;
      by = record { added = here.added; base = refl; sent = refl };
      text = refl;
    }

pub commanded : {D : Type 0} (seen : D → DiskSeen) (s s' : Stored D) (base : Summary) (setup : List ℕ)
    (clock number desk : ℕ) (before : List Asked) (text : List ℕ) (lines : List (List ℕ)) (h : List Entry) (t t' : Tally) (p q p' : PortSeen)
    → clock_of before ≡ Some clock → lines ≡ desk_read desk before → StoreStands seen base s h
    → Said seen s s' base setup (acts_over (meaning setup) None lines) clock text h q p'
    → q.written ≡ append_known p.written (head_of 68 desk ++ 32 ∷ []) → Closings s.state s'.state t t'
    → Carried seen base s h (λ x s. Commands (placed base setup before) desk text h x s) number (Command desk text) t t' p p' s'
unfolding step_of
commanded seen s s' base setup clock number desk before text lines h t t' p q p' set same stands w head closings =
    let a = w.answers in
    let entries = option_to_list a.turn.entry in
    let step = step_of base number desk text a.turn.reply entries in
    let counted = counted_turn base a.readable.0 setup (acts_over (meaning setup) None lines) clock text h a.history a.turn a.turned in
    record {
      step = step;
      history = a.history;
      number_is = refl;
      asked_is = refl;
      is = commands_of base setup clock number desk before text lines h a.history a.turn set same a.turned;
      stands = a.stands;
      readable = a.readable;
      left = a.left;
      up = a.up;
      text = w.text_is ∙ ap (λ (k : Option (List ℕ)). append_known k a.turn.reply) head
          ∙ known_both p.written (head_of 68 desk ++ 32 ∷ []) a.turn.reply
          ∙ ap (append_known p.written) (append_assoc (head_of 68 desk) (32 ∷ []) a.turn.reply);
      counts = command_counts base s.state s'.state t t' h a.history step entries stands.centre a.stands.centre counted closings refl refl;
    }

-- how far it came, in the words of its contract
abbrev pub CameSoFar : {D : Type 0} → Summary → (D → DiskSeen) → Stored D → List ℕ → ℕ → ℕ → List Asked → List ℕ → List Entry
    → Stop → List Entry → Step → Type 0
CameSoFar base seen s' setup clock desk before text h stop x s =
    HasShown seen base s' x stop clock (IsOfCommand setup before desk text)
    × (((x ≡ h) × AddedBy base h x s) ⊎ ((stop ≡ Memory) × Commands (placed base setup before) desk text h x s))

-- the desk had answered, and memory was wanted for it
pub unsaid_all : {D : Type 0} (seen : D → DiskSeen) (s s' : Stored D) (base : Summary) (setup : List ℕ)
    (clock desk : ℕ) (before : List Asked) (text : List ℕ) (lines : List (List ℕ)) (h : List Entry) (t t' : Tally)
    → clock_of before ≡ Some clock → lines ≡ desk_read desk before → StoreStands seen base s h
    → Answers seen s s' base setup (acts_over (meaning setup) None lines) clock text h → Closings s.state s'.state t t'
    → Halted seen base s h (λ x s. CameSoFar base seen s' setup clock desk before text h Memory x s) t t' s'
unfolding step_of
unsaid_all seen s s' base setup clock desk before text lines h t t' set same stands a closings =
    let entries = option_to_list a.turn.entry in
    let step = step_of base 0 desk text a.turn.reply entries in
    let counted = counted_turn base a.readable.0 setup (acts_over (meaning setup) None lines) clock text h a.history a.turn a.turned in
    record {
      partial = step;
      history = a.history;
      came = (
        wanted_up seen base s' a.history Memory clock (IsOfCommand setup before desk text) refl a.stands a.up,
        inr (refl, commands_of base setup clock 0 desk before text lines h a.history a.turn set same a.turned),
      );
      stands = a.stands;
      readable = a.readable;
      left = a.left;
      counts = command_counts base s.state s'.state t t' h a.history step entries stands.centre a.stands.centre counted closings refl refl;
    }

none_added : (base : Summary) (h : List Entry) (desk : ℕ) (text : List ℕ) → AddedBy base h h (step_of base 0 desk text [] [])
unfolding step_of
none_added base h desk text = record { added = refl; base = refl; sent = refl }

none_counted : (base : Summary) (h : List Entry) → IsCounted base h h []
none_counted base h = record { repeats = refl; closed = omega arith }

-- nothing was done for it
pub halted_before : {D : Type 0} (seen : D → DiskSeen) (s s' : Stored D) (base : Summary) (setup : List ℕ)
    (clock desk : ℕ) (before : List Asked) (text : List ℕ) (h : List Entry) (t t' : Tally) (stop : Stop)
    → StoreStands seen base s h → StoreStands seen base s' h → IsReadable base h → LeavesOn seen base s s' h h
    → HasShown seen base s' h stop clock (IsOfCommand setup before desk text) → Closings s.state s'.state t t'
    → Halted seen base s h (λ x s. CameSoFar base seen s' setup clock desk before text h stop x s) t t' s'
unfolding step_of
halted_before seen s s' base setup clock desk before text h t t' stop was stands readable left shown closings =
    let step = step_of base 0 desk text [] [] in
    record {
      partial = step;
      history = h;
      came = (shown, inl (refl, none_added base h desk text));
      stands = stands;
      readable = readable;
      left = left;
      counts = command_counts base s.state s'.state t t' h h step [] was.centre stands.centre (none_counted base h) closings refl refl;
    }

-- The line and what the desk took.

pub text_unbroken : (desk : ℕ) (text : List ℕ) → list_any is_feed (spelling (Command desk text)) ≡ false → list_any is_feed text ≡ false
text_unbroken desk text none =
    let rest : list_any is_feed (decimal desk ++ 32 ∷ text) ≡ false = none in
    let parts = or_parts (list_any is_feed (decimal desk)) (list_any is_feed (32 ∷ text)) (sym (list_any-append is_feed (decimal desk) (32 ∷ text)) ∙ rest) in
    parts.1

pub command_short : (setup : Setup) (clock count desk : ℕ) (before : List Asked) (text stream : List ℕ) (lines : List Line.LineValue)
    (desks : List Desk.DeskValue) → IsNext setup clock count before (Command desk text) lines desks → length stream ≤ count
    → length (stream ++ (text ++ 13 ∷ 10 ∷ [])) < input_limit
command_short setup clock count desk before text stream lines desks next few =
    let size = length-append stream (text ++ 13 ∷ 10 ∷ []) in
    let inner = length-append text (13 ∷ 10 ∷ []) in
    let line = length-append (decimal desk) (32 ∷ text) in
    let within = next.within in
    omega (arith, size, inner, line, within, few)

-- the desk read the text, and goes on
pub read_on : (setup : Setup) (count desk : ℕ) (text stream : List ℕ) (read : List (List ℕ)) (was now : Desk.DeskValue) → HasRead setup count read was
    → EndsAs stream text → ended_lines stream ≡ read → length stream ≤ count → Desk.TookStream setup (stream ++ (text ++ 13 ∷ 10 ∷ [])) now
    → quits (ended_lines stream) ≡ false
    → HasRead setup (count + length (spelling (Command desk text))) (read_next text read) now
read_on setup count desk text stream read was now has ends same few took none =
    let on = is_quit_as stream text false ends none took.taken.goes_on in
    let size = length-append stream (text ++ 13 ∷ 10 ∷ []) in
    let inner = length-append text (13 ∷ 10 ∷ []) in
    let line = length-append (decimal desk) (32 ∷ text) in
    record {
      stream = stream ++ (text ++ 13 ∷ 10 ∷ []);
      took = took;
      ended = ends.ended ∙ ap (λ (ls : List (List ℕ)). ls ++ text ∷ []) same ∙ sym (ap (λ (b : Bool). cond b [] (read ++ text ∷ [])) on);
      none = ends.none;
      few = omega (arith, size, inner, line, few);
    }

-- it quit, and a new one read nothing
pub read_new : (setup : Setup) (count : ℕ) (text : List ℕ) (read : List (List ℕ)) (now : Desk.DeskValue) → is_quit text ≡ true → Desk.TookStream setup [] now
    → HasRead setup count (read_next text read) now
read_new setup count text read now quit took = record {
  stream = [];
  took = took;
  ended = sym (ap (λ (b : Bool). cond b [] (read ++ text ∷ [])) quit);
  none = refl;
  few = omega arith;
}
