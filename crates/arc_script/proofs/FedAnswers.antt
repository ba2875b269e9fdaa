-- What feeding bytes to a line answers, in the words of what was called for it.
use Rattle.std.proofs.Common.{◌≡◌, ◌<◌, ◌-◌, ◌+◌, ◌++◌, ◌^◌, ℕ, List, [], Option, Some, None, Result, Ok, Err, length, set, ap, subst, sym, ◌∙◌, arith}
use Rattle.std.specs.Prelude.{min, unwrap_or}
use Rattle.std.specs.List.{slice_get}
use Rattle.arc_io.specs.Disks.{DiskSeen}
use Rattle.arc_io.specs.Memory.{clock_calls, sink_bytes}
use Rattle.centre_core.specs.Setting.{IsSetting}
use Rattle.centre_core.specs.declared.hall.Stop.{Stop}
use Rattle.centre_rules.specs.History.{Entry}
use Rattle.centre_rules.specs.State.{State}
use Rattle.centre_rules.specs.Summary.{Summary}
use Rattle.centre_store.specs.Stores.{HasFailed, Stored, StoreStands}
use Rattle.line_session.specs.Lines as Line
use Rattle.line_session.specs.Sessions.{ReadsNothing}
use Rattle.line_session.specs.declared.line_end.LineEnd.{LineEnd}
use Rattle.line_session.specs.declared.line_end.LineEnd.TheVariants.{InputEnded, ReadFault, Spent, Stopped, WriteFault}
use Rattle.script_lines.specs.Lines.{Asked}
use Rattle.session_rules.specs.Inputs.{input_limit}
use Rattle.arc_script.specs.Fed.{clock_of, line_fed}
use Rattle.arc_script.specs.Feeding.{FeedStops, HasFed, TookAt, stop_in}
use Rattle.arc_script.specs.Names.{line_name}
use Rattle.arc_script.specs.Standing.{IsReadable}
use Rattle.arc_script.specs.Steps.{placed}
use Rattle.arc_script.specs.declared.page.Page.{Page}
use Rattle.arc_script.specs.declared.script_end.Tally.{Tally}
use Rattle.arc_script.proofs.Carries.{set_there}
use Rattle.arc_script.proofs.FedCounts.{Tallied}
use Rattle.arc_script.proofs.FedEnds.{all_fed, fed_failed, fed_stopped, took_there, took_was, IsTaking}

-- how many entries are not recorded
abbrev quiet : State → ℕ
quiet s = s.entries - s.sum.recorded

pub tallied : (calls : ℕ) (s s' k k' : State) (t t' : Tally) (taken before behind repeats : ℕ) → k ≡ s → k' ≡ s' → taken ≡ min (calls - 1) (2 ^ 64 - 1)
    → before ≡ k.entries - k.sum.recorded → behind ≡ k'.entries - k'.sum.recorded → repeats ≡ behind - before
    → t'.sent ≡ min (t.sent + taken) (2 ^ 64 - 1) → t'.repeats ≡ min (t.repeats + repeats) (2 ^ 64 - 1)
    → t' ≡ record t { sent = t'.sent; repeats = t'.repeats } → Tallied calls s s' t t'
tallied calls s s' k k' t t' taken before behind repeats same same' taken_is before_is behind_is repeats_is sent_is told_is rest =
    let was = before_is ∙ ap quiet same in
    let now = behind_is ∙ ap quiet same' in
    record {
      frames = sent_is ∙ ap (λ (n : ℕ). min (t.sent + n) (2 ^ 64 - 1)) taken_is;
      repeats = told_is ∙ ap (λ (n : ℕ). min (t.repeats + n) (2 ^ 64 - 1))
          (repeats_is ∙ ap (λ (n : ℕ). n - before) now ∙ ap (λ (n : ℕ). quiet s' - n) was);
      rest = rest;
    }

-- the text in force is a setup, the same as before
pub still_set : (o : Option (List ℕ)) (setup : List ℕ) → IsSetting o → unwrap_or o [] ≡ setup → o ≡ Some setup
still_set None setup ready same = absurd ready
still_set (Some text) setup ready same = ap Some same

module _ {D : Type 0} (seen : D → DiskSeen) (s s' : Stored D) (setup : List ℕ)
    (moment line place : ℕ) (lines : List Line.LineValue) (was : Line.LineValue) (page page' : Page) (given : List ℕ) (t t' : Tally)
    (sums : Tallied (clock_calls page'.port.clock) s.state s'.state t t') (r : Result (Unit {0}) LineEnd)
    (taking : IsTaking seen s s' setup moment line place lines was page page' given r) where
  taking_as : (q : Result (Unit {0}) LineEnd) → r ≡ q → IsTaking seen s s' setup moment line place lines was page page' given q
  taking_as q is = subst (λ (q : Result (Unit {0}) LineEnd). IsTaking seen s s' setup moment line place lines was page page' given q) is taking

  pub ended_fed : r ≡ Ok tt → (base : Summary) (before : List Asked) (h : List Entry) → clock_of before ≡ Some moment → TookAt (line_fed line before) lines place
      → length (line_fed line before ++ given) < input_limit → StoreStands seen base s h → IsReadable base h → (HasFailed seen s → ⊥)
      → HasFed seen (placed base setup before) line given h t t' (sink_bytes page'.port.sink) s s'
  ended_fed is = all_fed seen s s' setup moment line place lines was page page' given t t' sums (taking_as (Ok tt) is)

  -- Of the ends that are no stops a failed write alone can come: memory was wanted for it.
  ended : (end : LineEnd) (now : Line.LineValue) → ReadsNothing (Err end)
      → ((name stream : List ℕ) → Line.TookStream name stream was → Line.IsTaken name (Err end) stream given now) → r ≡ Err end
      → (base : Summary) (before : List Asked) (h : List Entry) → clock_of before ≡ Some moment → TookAt (line_fed line before) lines place
      → length (line_fed line before ++ given) < input_limit → StoreStands seen base s h → IsReadable base h → (HasFailed seen s → ⊥)
      → FeedStops seen (placed base setup before) moment line given h t t' (stop_in end) s s'
  ended InputEnded now reads taken is base before h set took short stands readable up = absurd reads
  ended ReadFault now reads taken is base before h set took short stands readable up = absurd reads
  ended WriteFault now reads taken is base before h set took short stands readable up =
      fed_failed seen s s' setup moment line place lines was page page' given t t' sums (taking_as (Err WriteFault) is) base before h set took short
      stands readable up
  ended Spent now reads taken is base before h set took short stands readable up =
      let over = taken (line_name line) (line_fed line before) (took_was (line_fed line before) lines line place was taking.at taking.there took) in
      absurd (omega (arith, short, over))
  ended (Stopped stop) now reads taken is base before h set took short stands readable up =
      fed_stopped seen s s' setup moment line place lines was page page' given t t' sums stop (taking_as (Err (Stopped stop)) is) base before h set took
      short stands readable up

  pub ended_as : (end : LineEnd) (stop : Stop) (now : Line.LineValue) → r ≡ Err end → stop ≡ stop_in end → ReadsNothing r
      → ((name stream : List ℕ) → Line.TookStream name stream was → Line.IsTaken name r stream given now)
      → (base : Summary) (before : List Asked) (h : List Entry) → clock_of before ≡ Some moment → TookAt (line_fed line before) lines place
      → length (line_fed line before ++ given) < input_limit → StoreStands seen base s h → IsReadable base h → (HasFailed seen s → ⊥)
      → FeedStops seen (placed base setup before) moment line given h t t' stop s s'
  ended_as end stop now is same reads taken base before h set took short stands readable up =
      subst (λ (k : Stop). FeedStops seen (placed base setup before) moment line given h t t' k s s') (sym same)
      (ended end now (subst ReadsNothing is reads)
      (λ name stream took. subst (λ (q : Result (Unit {0}) LineEnd). Line.IsTaken name q stream given now) is (taken name stream took)) is base before h
      set took short stands readable up)

-- a line to which all was fed took it
pub took_all : (place : ℕ) (lines : List Line.LineValue) (was now : Line.LineValue) (given : List ℕ) (r : Result (Unit {0}) LineEnd)
    → slice_get lines place ≡ Some was → r ≡ Ok tt → ((name stream : List ℕ) → Line.TookStream name stream was → Line.IsTaken name r stream given now)
    → (stream : List ℕ) → TookAt stream lines place → length (stream ++ given) < input_limit → TookAt (stream ++ given) (set lines place now) place
took_all place lines was now given r there is taken stream took short =
    let name = line_name (place + 1) in
    set_there (Line.TookStream name (stream ++ given)) lines place now
    (subst (λ (q : Result (Unit {0}) LineEnd). Line.IsTaken name q stream given now) is (taken name stream (took_there stream lines place was there took)))
