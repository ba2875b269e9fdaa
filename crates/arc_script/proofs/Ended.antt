-- What is handed back of a script: what the area holds, the tally, and what was played.
use Rattle.std.proofs.Common.{◌≡◌, ◌≤◌, ◌+◌, ◌-◌, ◌++◌, ◌∷◌, ℕ, List, [], Option, Some, None, Bool, false, filter, map, length, refl, sym, ap, subst, ◌∙◌, append-nil, length-append, arith}
use Rattle.arc_io.specs.Disks.{DiskSeen}
use Rattle.arc_io.specs.Seen.{PortSeen}
use Rattle.arc_data.specs.declared.incident.Incident.{Incident}
use Rattle.arc_data.specs.declared.reply.Reply.{Reply}
use Rattle.centre_rules.specs.Cases.{opened, begun, incident_of}
use Rattle.centre_rules.specs.History.{Entry, marks}
use Rattle.centre_rules.specs.State.{StandsFor}
use Rattle.centre_rules.specs.Summary.{Summary}
use Rattle.centre_store.proofs.Holding.{recorded_there}
use Rattle.centre_store.specs.Given.{HasRecorded, HoldsRecorded}
use Rattle.centre_store.specs.Stores.{Stored}
use Rattle.script_lines.specs.Lines.{Asked, Time, Feed, Message, Command, Reopen, Asks}
use Rattle.arc_script.specs.Begun.{Begun}
use Rattle.arc_script.specs.Between.{CountsSteps, IsClock, SoFar}
use Rattle.arc_script.specs.Carrying.{CountsMore}
use Rattle.arc_script.specs.Ends.{Played, LeavesUpTo}
use Rattle.arc_script.specs.Fed.{clock_of}
use Rattle.arc_script.specs.Halting.{Halts, Whole, closing}
use Rattle.arc_script.specs.Playing.{moment_at}
use Rattle.arc_script.specs.Steps.{Step, asked_after, base_after}
use Rattle.arc_script.specs.Tallies.{IsTally, told, count_of, entries_of, is_closed, is_repeat, sent_by}
use Rattle.arc_script.specs.Texts.{MayFollow, counted, is_passed, line_limit, numbered_from}
use Rattle.arc_script.specs.declared.script.Script.{Script}
use Rattle.arc_script.specs.declared.script_end.ScriptEnd.TheVariants.{BadScript}
use Rattle.arc_script.specs.declared.script_end.Tally.{Tally}
use Rattle.arc_script.proofs.Behind.{entries_last, sent_last}
use Rattle.arc_script.proofs.Counted.{counted_next, is_played}
use Rattle.arc_script.proofs.Left.{left_there}
use Rattle.std.proofs.lemmas.List.{length-map}
use Rattle.std.proofs.lemmas.List.Elements.{filter-append}

-- the disk of a journal that has the recorded entries
pub recorded_in : {D : Type 0} (seen : D → DiskSeen) (base : Summary) (s : Stored D) (h : List Entry) (disk : D) → HoldsRecorded seen s.journal base h
    → disk ≡ s.journal.disk → HasRecorded (seen disk) base h
recorded_in seen base s h disk holds is =
    subst (λ d. HasRecorded (seen d) base h) (sym is) (recorded_there seen s.journal base h holds)

open_count : (xs : List Incident) → length (map incident_of (map begun xs)) ≡ length xs
open_count xs = length-map (map begun xs) incident_of ∙ length-map xs begun

-- the tally at the end
pub tally_is : {D : Type 0} (base : Summary) (s : Stored D) (past h : List Entry) (steps : List Step) (t t' : Tally) (opened_before : ℕ)
    → opened_before ≡ opened base (marks base past) → CountsSteps steps t → StandsFor (base_after base steps) s.state h
    → t' ≡ closing t opened_before s.state.sum → IsTally base past steps h t'
tally_is base s past h steps t t' opened_before before counts stands is =
    let end = base_after base steps in
    subst (λ (k : Tally). IsTally base past steps h k) (sym is) (record {
      sent = counts.sent;
      repeats = counts.repeats;
      closed = counts.closed;
      opened = ap (λ n. n - opened_before) stands.same.opened ∙ ap (λ n. opened end (marks end h) - n) before;
      recorded = omega (arith, stands.recorded);
      total = sym (open_count s.state.sum.incidents) ∙ ap length stands.same.incidents;
    })

count_both : (test : Reply → Bool) (xs ys : List Entry) → count_of test (xs ++ ys) ≡ count_of test xs + count_of test ys
count_both test xs ys =
    let has = λ (e : Entry). test e.reply in
    ap length (filter-append has xs ys) ∙ length-append (filter has xs) (filter has ys)

-- one step more is counted
pub counts_last : (steps : List Step) (s : Step) (t t' : Tally) → CountsSteps steps t → CountsMore s t t' → CountsSteps (steps ++ s ∷ []) t'
counts_last steps s t t' so_far more =
    let entries = entries_last steps s in
    record {
      sent = more.sent (sent_by steps) so_far.sent ∙ ap told (sym (sent_last steps s));
      repeats = more.repeats (count_of is_repeat (entries_of steps)) so_far.repeats
          ∙ ap told (sym (count_both is_repeat (entries_of steps) s.entries) ∙ ap (count_of is_repeat) (sym entries));
      closed = more.closed (count_of is_closed (entries_of steps)) so_far.closed
          ∙ ap told (sym (count_both is_closed (entries_of steps) s.entries) ∙ ap (count_of is_closed) (sym entries));
    }

-- Where a clock is set each line has its moment, and no other line.

pub moment_of : (clock : Option ℕ) (before : List Asked) (a : Asked) → IsClock clock before → MayFollow before a
    → (moment : ℕ) × (moment_at clock a ≡ Some moment)
moment_of clock before (Time moment) is follows = (moment, refl)
moment_of clock [] (Feed line digits) is follows = absurd follows
moment_of clock [] (Message line body) is follows = absurd follows
moment_of clock [] (Command desk text) is follows = absurd follows
moment_of clock [] Reopen is follows = absurd follows
moment_of clock (first ∷ before) (Feed line digits) is follows = (is.once.0, is.is ∙ is.once.1)
moment_of clock (first ∷ before) (Message line body) is follows = (is.once.0, is.is ∙ is.once.1)
moment_of clock (first ∷ before) (Command desk text) is follows = (is.once.0, is.is ∙ is.once.1)
moment_of clock (first ∷ before) Reopen is follows = (is.once.0, is.is ∙ is.once.1)

none_set : (clock : Option ℕ) (moment : ℕ) → clock ≡ None → clock ≡ Some moment → ⊥
none_set clock moment none set = let e = sym none ∙ set in cc

pub may_follow : (clock : Option ℕ) (before : List Asked) (a : Asked) (moment : ℕ) → clock ≡ clock_of before → moment_at clock a ≡ Some moment
    → MayFollow before a
may_follow clock [] (Time at) moment is set = tt
may_follow clock [] (Feed line digits) moment is set = none_set clock moment is set
may_follow clock [] (Message line body) moment is set = none_set clock moment is set
may_follow clock [] (Command desk text) moment is set = none_set clock moment is set
may_follow clock [] Reopen moment is set = none_set clock moment is set
may_follow clock (first ∷ before) a moment is set = tt

module _ {D : Type 0} (seen : D → DiskSeen) (b : Begun D) (lines : List (List ℕ)) (script : Script) (s : Stored D) (p : PortSeen)
    (so : SoFar seen b lines script s p) (disk : D) (tally : Tally) (disk_is : disk ≡ s.journal.disk)
    (tally_as : tally ≡ closing script.tally script.opened_before s.state.sum) where
  area : HasRecorded (seen disk) (base_after b.base so.steps) so.history
  area = recorded_in seen (base_after b.base so.steps) s so.history disk so.held disk_is

  counts : IsTally b.base b.past so.steps so.history tally
  counts = tally_is b.base s b.past so.history so.steps script.tally tally script.opened_before so.opened_before so.counts so.between.store.stands.centre
      tally_as

  any_moment : LeavesUpTo seen b disk (base_after b.base so.steps) so.history
  any_moment = left_there seen b (base_after b.base so.steps) so.history s so.between.store disk disk_is

  -- all of them were carried out
  pub whole : Whole seen b lines p disk tally
  whole = record {
    played = record {
      front = counted lines;
      behind = [];
      steps = so.steps;
      history = so.history;
      split = sym (append-nil (counted lines));
      of = so.of;
      are = so.are;
    };
    whole = record {
      none_behind = refl;
      left = record { output = so.written; area = area; counts = counts; any_moment = any_moment };
    };
  }

  -- what stands behind a line
  abbrev behind : List (List ℕ) → List (ℕ × List ℕ)
  behind more = filter is_played (numbered_from (1 + length lines + 1) more)

  next_split : (line : List ℕ) (more : List (List ℕ)) → is_passed line ≡ false
      → counted (lines ++ line ∷ more) ≡ counted lines ++ (1 + length lines, line) ∷ behind more
  next_split line more is = counted_next lines line more is

  -- those before a line
  abbrev before_line : (line : List ℕ) (more : List (List ℕ)) → is_passed line ≡ false → Played seen b (counted (lines ++ line ∷ more))
  before_line line more is = record {
    front = counted lines;
    behind = (1 + length lines, line) ∷ behind more;
    steps = so.steps;
    history = so.history;
    split = next_split line more is;
    of = so.of;
    are = so.are;
  }

  -- the next line asks for nothing
  pub bad : (line : List ℕ) (more : List (List ℕ)) (number : ℕ) → is_passed line ≡ false → number ≡ 1 + length lines
      → ((a : Asked) (moment : ℕ) → length line ≤ line_limit → Asks line a → moment_at script.clock a ≡ Some moment → ⊥)
      → Halts seen b lines (lines ++ line ∷ more) (BadScript number) p disk tally
  bad line more number is at none = record {
    played = before_line line more is;
    ends = record {
      line = line;
      more = behind more;
      next = ap (λ n. (n, line) ∷ behind more) (sym at);
      wrong = λ asked playable.
          let set = moment_of script.clock (asked_after [] so.steps) asked so.between.clock playable.follows in
          none asked set.0 playable.short playable.asks set.1;
      left = record { output = so.written; area = area; counts = counts; any_moment = any_moment };
    };
    more = [];
    front = sym (append-nil (counted lines));
  }
