-- What a line leaves that was fed bytes, with what is counted.
use Rattle.std.proofs.Common.{◌≡◌, ◌-◌, ◌+◌, ◌++◌, ◌^◌, ℕ, List, [], ◌∷◌, Option, Some, length, reverse, inr, refl, ap, sym, ◌∙◌, append-nil}
use Rattle.std.specs.Prelude.{min, unwrap_or}
use Rattle.std.specs.Io.KnownBytes.{append_known}
use Rattle.alarm_rules.specs.Setups.{meaning}
use Rattle.arc_io.specs.Disks.{DiskSeen}
use Rattle.arc_io.specs.Lists.{noise_of as noise_given}
use Rattle.arc_io.specs.Memory.{clock_calls, clock_list, noise_calls, noise_list, sink_bytes}
use Rattle.centre_core.specs.declared.hall.Stop.{Stop}
use Rattle.centre_core.specs.declared.hall.Stop.TheVariants.{Memory}
use Rattle.centre_rules.specs.History.{Entry}
use Rattle.centre_rules.specs.State.{State, StandsFor}
use Rattle.centre_rules.specs.Summary.{Summary}
use Rattle.centre_store.specs.Stores.{HasFailed, Stored, StoreStands}
use Rattle.dc09_frame.specs.Frames.{bodies}
use Rattle.line_session.proofs.Fed.{bodies_more}
use Rattle.line_session.specs.Turns.{Turn, line_turns, AreTurns}
use Rattle.script_lines.specs.Lines.{Asked}
use Rattle.session_rules.specs.Turns.{entries_of, text_of}
use Rattle.arc_script.specs.Causes.{IsOfFrame}
use Rattle.arc_script.specs.Fed.{clock_of, line_fed}
use Rattle.arc_script.specs.Feeding.{CountsFed, FeedStops, HasFed}
use Rattle.arc_script.specs.Names.{line_name}
use Rattle.arc_script.specs.PageWords.{page_seen}
use Rattle.arc_script.specs.Standing.{IsReadable}
use Rattle.arc_script.specs.Steps.{placed}
use Rattle.arc_script.specs.Tallies.{count_of, is_repeat, told}
use Rattle.arc_script.specs.declared.page.Page.{Page}
use Rattle.arc_script.specs.declared.script_end.Tally.{Tally}
use Rattle.arc_script.proofs.Answered.{turns_lined}
use Rattle.arc_script.proofs.Counts.{grows_none, grows_told, repeats_told, sent_told}
use Rattle.arc_script.proofs.Feeds.{FedBy, PageTells}
use Rattle.arc_script.proofs.Halts.{FedUpTo}
use Rattle.arc_script.proofs.Ticks.{wanted_up}

-- a page whose clock stands still and whose noise is zero
abbrev pub page_tells : (clock : ℕ) (page page' : Page) → (page_seen page).readings ≡ Some (clock ∷ []) → (page_seen page).noise ≡ Some []
    → length (clock_list page'.port.clock) ≡ 1 → noise_list page'.port.noise ≡ [] → PageTells clock (page_seen page) (page_seen page')
page_tells clock page page' first none one silent = record {
  first = first;
  none = none;
  list = clock_list page'.port.clock;
  one = one;
  calls = clock_calls page'.port.clock;
  readings = refl;
  tens = noise_calls page'.port.noise;
  noise = ap (λ (l : List (List ℕ)). Some (noise_given l (noise_calls page'.port.noise))) (sym silent);
}

-- what the code counts: the readings behind the first of the page, and the entries more that are not recorded
pub record Tallied (calls : ℕ) (s s' : State) (t t' : Tally) : Type 0 where
  pub frames : t'.sent ≡ min (t.sent + min (calls - 1) (2 ^ 64 - 1)) (2 ^ 64 - 1)
  pub repeats : t'.repeats ≡ min (t.repeats + (s'.entries - s'.sum.recorded - (s.entries - s.sum.recorded))) (2 ^ 64 - 1)
  pub rest : t' ≡ record t { sent = t'.sent; repeats = t'.repeats }

counts_fed : (name : List ℕ) (base : Summary) (setup : List ℕ) (calls sent : ℕ) (s s' : State) (t t' : Tally) (h x : List Entry) (turns : List Turn) → StandsFor base s h
    → StandsFor base s' x → AreTurns name base (meaning setup) 0 h x turns → x ≡ reverse (entries_of line_turns turns) ++ h
    → calls ≡ sent + 1 → Tallied calls s s' t t' → CountsFed sent turns t t'
counts_fed name base setup calls sent s s' t t' h x turns before behind are own count w = record {
  frames = grows_told sent t.sent t'.sent (w.frames ∙ sent_told t.sent calls sent count);
  repeats = grows_told (count_of is_repeat (entries_of line_turns turns)) t.repeats t'.repeats
      (w.repeats ∙ ap (λ (n : ℕ). told (t.repeats + n))
      (repeats_told base s s' h x (entries_of line_turns turns) before behind own (turns_lined name base (meaning setup) h x turns are)));
  rest = w.rest;
}

pub has_fed : {D : Type 0} (seen : D → DiskSeen) (s s' : Stored D)
    (base : Summary) (setup : List ℕ) (clock line : ℕ) (before : List Asked) (bytes : List ℕ) (h : List Entry) (t t' : Tally) (page page' : Page) (calls : ℕ)
    → StoreStands seen base s h → (page_seen page).written ≡ Some []
    → FedBy seen s s' base setup clock line before bytes h (page_seen page) (page_seen page') calls
    → Tallied calls s.state s'.state t t'
    → HasFed seen (placed base setup before) line bytes h t t' (sink_bytes page'.port.sink) s s'
has_fed seen s s' base setup clock line before bytes h t t' page page' calls stood empty w tallied = record {
  turns = w.turns;
  history = w.history;
  fed = w.fed;
  stands = w.stands;
  readable = w.readable;
  left = w.left;
  up = w.up;
  written_is = ap (λ (k : Option (List ℕ)). unwrap_or k []) (w.written ∙ ap (λ (k : Option (List ℕ)). append_known k (text_of line_turns w.turns)) empty);
  counts = counts_fed (line_name line) base setup calls (length w.turns) s.state s'.state t t' h w.history w.turns stood.centre w.stands.centre w.fed.are w.fed.own w.count
      tallied;
}

pub feed_stops : {D : Type 0} (seen : D → DiskSeen) (s s' : Stored D)
    (base : Summary) (setup : List ℕ) (clock line : ℕ) (before : List Asked) (bytes : List ℕ) (h : List Entry) (t t' : Tally) (stop : Stop) (calls : ℕ)
    → StoreStands seen base s h → FedUpTo seen s s' base setup clock line before bytes h stop calls
    → Tallied calls s.state s'.state t t' → FeedStops seen (placed base setup before) clock line bytes h t t' stop s s'
feed_stops seen s s' base setup clock line before bytes h t t' stop calls stood w tallied = record {
  turns = w.turns;
  more = w.more;
  history = w.history;
  sent = w.sent;
  fed = w.fed;
  stands = w.stands;
  readable = w.readable;
  left = w.left;
  cause = w.cause;
  sent_is = w.sent_is;
  counts = counts_fed (line_name line) base setup calls w.sent s.state s'.state t t' h w.history w.turns stood.centre w.stands.centre w.fed.are w.fed.own w.count tallied;
}

-- Memory was wanted before anything was fed.
pub none_fed : {D : Type 0} (seen : D → DiskSeen) (s : Stored D) (base : Summary) (setup : List ℕ)
    (clock line : ℕ) (before : List Asked) (bytes : List ℕ) (h : List Entry) (t : Tally) → clock_of before ≡ Some clock
    → StoreStands seen base s h → IsReadable base h → (HasFailed seen s → ⊥)
    → FeedStops seen (placed base setup before) clock line bytes h t t Memory s s
none_fed seen s base setup clock line before bytes h t set stands readable up =
    let stream = line_fed line before in
    let more = bodies_more stream bytes in
    record {
      turns = [];
      more = more.0;
      history = h;
      sent = 0;
      fed = record {
        clock = clock;
        set = set;
        ended = more.1 ∙ ap (λ l. l ++ more.0) (sym (append-nil (bodies stream)));
        are = ([], refl);
        legal = stands.centre.legal;
        readings = refl;
        noise = refl;
        own = refl;
      };
      stands = stands;
      readable = readable;
      left = λ t k was. was;
      cause = wanted_up seen base s h Memory clock (IsOfFrame setup clock line more.0) refl stands up;
      sent_is = inr (refl, refl);
      counts = record { frames = grows_none 0 t.sent refl; repeats = grows_none 0 t.repeats refl; rest = refl };
    }
