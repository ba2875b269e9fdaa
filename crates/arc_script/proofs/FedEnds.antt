-- What feeding bytes to a line answers, by what the line answered.
use Rattle.std.proofs.Common.{◌≡◌, ◌<◌, ◌+◌, ◌++◌, ℕ, List, [], Option, Some, Result, Ok, Err, length, ap, subst}
use Rattle.std.specs.Prelude.{IfSome, unwrap_or}
use Rattle.std.specs.List.{slice_get}
use Rattle.arc_io.specs.Disks.{DiskSeen}
use Rattle.arc_io.specs.Memory.{clock_calls, clock_list, noise_list, sink_bytes}
use Rattle.arc_io.specs.Seen.{PortSeen}
use Rattle.centre_core.specs.Setting.{IsSetting, text_of}
use Rattle.centre_core.specs.declared.hall.Stop.{Stop}
use Rattle.centre_core.specs.declared.hall.Stop.TheVariants.{Memory}
use Rattle.centre_rules.specs.History.{Entry}
use Rattle.centre_rules.specs.Summary.{Summary}
use Rattle.centre_store.specs.StoreHalls.{IsStoreFor, store_seen}
use Rattle.arc_script.specs.Standing.{IsReadable}
use Rattle.centre_store.specs.Stores.{HasFailed, Stored, StoreStands}
use Rattle.line_session.specs.Lines as Line
use Rattle.line_session.specs.declared.line_end.LineEnd.{LineEnd}
use Rattle.line_session.specs.declared.line_end.LineEnd.TheVariants.{Stopped, WriteFault}
use Rattle.script_lines.specs.Lines.{Asked}
use Rattle.session_rules.specs.Inputs.{in_limit, input_limit}
use Rattle.session_rules.specs.Sessions.{changed}
use Rattle.arc_script.specs.Fed.{clock_of, line_fed}
use Rattle.arc_script.specs.Feeding.{FeedStops, HasFed, TookAt}
use Rattle.arc_script.specs.Names.{line_name}
use Rattle.arc_script.specs.PageWords.{page_seen}
use Rattle.arc_script.specs.Pages.{blank}
use Rattle.arc_script.specs.Steps.{placed}
use Rattle.arc_script.specs.declared.page.Page.{Page}
use Rattle.arc_script.specs.declared.script_end.Tally.{Tally}
use Rattle.arc_script.proofs.FedCounts.{feed_stops, has_fed, page_tells, Tallied}
use Rattle.arc_script.proofs.Feeds.{feeds, PageTells}
use Rattle.arc_script.proofs.Halts.{cut_short, stopped_at}

-- the line of this number, at its place, was fed these bytes over a page at this moment
pub record IsTaking {D : Type 0} (seen : D → DiskSeen) (s s' : Stored D) (setup : List ℕ)
    (moment line place : ℕ) (lines : List Line.LineValue) (was : Line.LineValue) (page page' : Page) (given : List ℕ) (r : Result (Unit {0}) LineEnd) : Type 0 where
  pub at : place + 1 ≡ line
  pub there : slice_get lines place ≡ Some was
  pub set : s.state.sum.text ≡ Some setup
  pub setting : IsSetting s.state.sum.text
  pub empty : page_seen page ≡ blank moment
  pub one : length (clock_list page'.port.clock) ≡ 1
  pub silent : noise_list page'.port.noise ≡ []
  pub served : (base : Summary) (stream : List ℕ) (h : List Entry) → Line.TookStream (line_name line) stream was → IsStoreFor seen base s h
      → Line.ServesBytes (line_name line) r stream (in_limit stream given) base h
      (changed (store_seen seen s) (store_seen seen s') (page_seen page) (page_seen page'))

-- what the line at a place took, under the name of that place, and under that of its number
pub took_there : (stream : List ℕ) (lines : List Line.LineValue) (place : ℕ) (was : Line.LineValue) → slice_get lines place ≡ Some was
    → TookAt stream lines place → Line.TookStream (line_name (place + 1)) stream was
took_there stream lines place was there took = subst (λ (o : Option Line.LineValue). IfSome o (Line.TookStream (line_name (place + 1)) stream)) there took

pub took_was : (stream : List ℕ) (lines : List Line.LineValue) (line place : ℕ) (was : Line.LineValue) → place + 1 ≡ line → slice_get lines place ≡ Some was
    → TookAt stream lines place → Line.TookStream (line_name line) stream was
took_was stream lines line place was at there took =
    subst (λ (n : ℕ). Line.TookStream (line_name n) stream was) at (took_there stream lines place was there took)

module _ {D : Type 0} (seen : D → DiskSeen) (s s' : Stored D) (setup : List ℕ)
    (moment line place : ℕ) (lines : List Line.LineValue) (was : Line.LineValue) (page page' : Page) (given : List ℕ) (t t' : Tally)
    (tallied : Tallied (clock_calls page'.port.clock) s.state s'.state t t') where
  same_text : (r : Result (Unit {0}) LineEnd) → IsTaking seen s s' setup moment line place lines was page page' given r → text_of s.state ≡ setup
  same_text r g = ap (λ (o : Option (List ℕ)). unwrap_or o []) g.set

  abbrev tells : (r : Result (Unit {0}) LineEnd) → IsTaking seen s s' setup moment line place lines was page page' given r
      → PageTells moment (page_seen page) (page_seen page')
  tells r g = page_tells moment page page' (ap (λ (q : PortSeen). q.readings) g.empty) (ap (λ (q : PortSeen). q.noise) g.empty) g.one g.silent

  pub all_fed : IsTaking seen s s' setup moment line place lines was page page' given (Ok tt)
      → (base : Summary) (before : List Asked) (h : List Entry) → clock_of before ≡ Some moment → TookAt (line_fed line before) lines place
      → length (line_fed line before ++ given) < input_limit → StoreStands seen base s h → IsReadable base h → (HasFailed seen s → ⊥)
      → HasFed seen (placed base setup before) line given h t t' (sink_bytes page'.port.sink) s s'
  all_fed g base before h set took short stands readable up =
      let serves = g.served base (line_fed line before) h (took_was (line_fed line before) lines line place was g.at g.there took) (record { stands = stands; setting = g.setting }) in
      has_fed seen s s' base setup moment line before given h t t' page page' (clock_calls page'.port.clock) stands
      (ap (λ (q : PortSeen). q.written) g.empty)
      (feeds seen s s' base setup moment line before given h (page_seen page) (page_seen page') (same_text (Ok tt) g) set short readable up (tells (Ok tt) g) serves)
      tallied

  pub fed_stopped : (stop : Stop) → IsTaking seen s s' setup moment line place lines was page page' given (Err (Stopped stop))
      → (base : Summary) (before : List Asked) (h : List Entry) → clock_of before ≡ Some moment → TookAt (line_fed line before) lines place
      → length (line_fed line before ++ given) < input_limit → StoreStands seen base s h → IsReadable base h → (HasFailed seen s → ⊥)
      → FeedStops seen (placed base setup before) moment line given h t t' stop s s'
  fed_stopped stop g base before h set took short stands readable up =
      let serves = g.served base (line_fed line before) h (took_was (line_fed line before) lines line place was g.at g.there took) (record { stands = stands; setting = g.setting }) in
      feed_stops seen s s' base setup moment line before given h t t' stop (clock_calls page'.port.clock) stands
      (stopped_at seen s s' base setup moment line before given h (page_seen page) (page_seen page') stop (same_text (Err (Stopped stop)) g) set short readable up
      (tells (Err (Stopped stop)) g) serves) tallied

  pub fed_failed : IsTaking seen s s' setup moment line place lines was page page' given (Err WriteFault)
      → (base : Summary) (before : List Asked) (h : List Entry) → clock_of before ≡ Some moment → TookAt (line_fed line before) lines place
      → length (line_fed line before ++ given) < input_limit → StoreStands seen base s h → IsReadable base h → (HasFailed seen s → ⊥)
      → FeedStops seen (placed base setup before) moment line given h t t' Memory s s'
  fed_failed g base before h set took short stands readable up =
      let serves = g.served base (line_fed line before) h (took_was (line_fed line before) lines line place was g.at g.there took) (record { stands = stands; setting = g.setting }) in
      feed_stops seen s s' base setup moment line before given h t t' Memory (clock_calls page'.port.clock) stands
      (cut_short seen s s' base setup moment line before given h (page_seen page) (page_seen page') (same_text (Err WriteFault) g) set short readable up
      (tells (Err WriteFault) g) serves) tallied
