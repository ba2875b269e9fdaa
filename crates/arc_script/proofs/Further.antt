-- One line more of a script: it was carried out, or it ended the script.
use Rattle.std.proofs.Common.{◌≡◌, ◌<◌, ◌≤◌, ◌+◌, ◌++◌, ◌∷◌, ℕ, List, [], Some, false, filter, length, take, refl, sym, ap, subst, ◌∙◌, append_assoc, append-nil, arith}
use Rattle.std.specs.Prelude.{IfSome, Option, unwrap_or}
use Rattle.std.specs.Io.KnownBytes.{append_known}
use Rattle.arc_io.proofs.KnownMore.{known_both}
use Rattle.arc_io.specs.Causes.{Rose}
use Rattle.arc_io.specs.Disks.{DiskSeen}
use Rattle.arc_io.specs.Seen.{PortSeen}
use Rattle.centre_core.specs.declared.hall.Stop.{Stop}
use Rattle.centre_rules.specs.State.{StandsFor}
use Rattle.centre_rules.specs.Summary.{Summary}
use Rattle.centre_store.proofs.Entered.{held as has_recorded}
use Rattle.centre_store.specs.Given.{HoldsRecorded}
use Rattle.centre_store.specs.Stores.{Stored, StoreStands, HasFailed}
use Rattle.disk_journal.specs.declared.fault.OpenFault.{OpenFault}
use Rattle.script_lines.specs.Lines.{Asked, Reopen, spelling}
use Rattle.session_rules.proofs.Ports.{rose_since}
use Rattle.arc_script.specs.Begun.{Begun}
use Rattle.arc_script.specs.Between.{Between, CarriedOut, StoppedAt, ShutAt, SoFar, size_of}
use Rattle.arc_script.specs.Causes.{OrBegun, Submits}
use Rattle.arc_script.specs.Ends.{Tells, Played, LeavesUpTo}
use Rattle.arc_script.specs.Halting.{Halts, closing}
use Rattle.arc_script.specs.Steps.{Place, placed, Step, IsStepOf, AreSteps, asked_after, base_after, output_of}
use Rattle.arc_script.specs.Texts.{AreOf, IsPlayable, counted, is_passed, numbered_from}
use Rattle.arc_script.specs.declared.script.Script.{Script}
use Rattle.arc_script.specs.declared.script_end.ScriptEnd.TheVariants.{Refused, Stopped, WriteFault}
use Rattle.arc_script.specs.declared.script_end.Tally.{Tally}
use Rattle.arc_script.proofs.Behind.{of_last, are_last, base_last, end_of, output_last, place_last}
use Rattle.arc_script.proofs.Counted.{counted_next, is_played}
use Rattle.arc_script.proofs.Ended.{recorded_in, tally_is, counts_last}
use Rattle.arc_script.proofs.Left.{left_there}
use Rattle.arc_script.proofs.Sizes.{size_last}

-- Behind these lines comes one that asks for this, with its number.
module _ {D : Type 0} (seen : D → DiskSeen) (b : Begun D) (lines : List (List ℕ)) (script : Script) (s : Stored D) (p : PortSeen)
    (so : SoFar seen b lines script s p) (line : List ℕ) (asked : Asked) (passed : is_passed line ≡ false)
    (asks : IsPlayable (asked_after [] so.steps) line asked) where
  abbrev number : ℕ
  number = 1 + length lines

  abbrev behind : List (List ℕ) → List (ℕ × List ℕ)
  behind more = filter is_played (numbered_from (1 + length lines + 1) more)

  abbrev before_line : (more : List (List ℕ)) → Played seen b (counted (lines ++ line ∷ more))
  before_line more = record {
    front = counted lines;
    behind = (number, line) ∷ behind more;
    steps = so.steps;
    history = so.history;
    split = counted_next lines line more passed;
    of = so.of;
    are = so.are;
  }

  -- it was stopped
  pub stopped : (more : List (List ℕ)) (stop : Stop) (script' : Script) (s' : Stored D) (disk : D) (tally : Tally)
      → StoppedAt seen b (end_of b so.steps) so.history asked stop script.tally script'.tally s' → script'.opened_before ≡ script.opened_before
      → disk ≡ s'.journal.disk → tally ≡ closing script'.tally script'.opened_before s'.state.sum
      → Halts seen b lines (lines ++ line ∷ more) (Stopped stop) p disk tally
  stopped more stop script' s' disk tally at kept disk_is tally_as = record {
    played = before_line more;
    ends = record {
      line = (number, line);
      more = behind more;
      asked = asked;
      waiting = at.waiting;
      partial = at.partial;
      history = at.history;
      clock = at.clock;
      last = s';
      next = refl;
      asks = asks;
      came = at.came;
      set = at.set;
      cause = at.cause;
      stands = at.stands;
      limits_are = at.limits_are;
      later = at.later;
      handed = disk_is;
      output = so.written;
      counts = tally_is b.base s' b.past at.history (so.steps ++ at.partial ∷ []) script'.tally tally script'.opened_before (kept ∙ so.opened_before)
          (counts_last so.steps at.partial script.tally script'.tally so.counts at.counts)
          (subst (λ (base : Summary). StandsFor base s'.state at.history) (sym (base_last b.base so.steps at.partial)) at.stands.centre) tally_as;
      any_moment = subst (λ (d : D). OrBegun (LeavesUpTo seen b d at.partial.base)
          (Submits s'.state.sum.text b.setup (asked_after [] so.steps) at.clock at.waiting asked) s'.state.sum.text at.partial.base b.setup at.clock at.history)
          (sym disk_is) at.left;
    };
    more = [];
    front = sym (append-nil (counted lines));
  }

  -- the journal was not opened again
  pub shut : (more : List (List ℕ)) (fault : OpenFault) (disk : D) (tally : Tally) → asked ≡ Reopen → ShutAt seen b (base_after b.base so.steps) so.history fault disk
      → tally ≡ closing script.tally script.opened_before s.state.sum → Halts seen b lines (lines ++ line ∷ more) (Refused fault) p disk tally
  shut more fault disk tally is at tally_as = record {
    played = before_line more;
    ends = record {
      line = (number, line);
      more = behind more;
      next = refl;
      asks = subst (λ (a : Asked). IsPlayable (asked_after [] so.steps) line a) is asks;
      closed = at.closed;
      later = at.later;
      unopened = at.unopened;
      left = record {
        output = so.written;
        area = at.area;
        counts = tally_is b.base s b.past so.history so.steps script.tally tally script.opened_before so.opened_before so.counts
            so.between.store.stands.centre tally_as;
        any_moment = at.left;
      };
    };
    more = [];
    front = sym (append-nil (counted lines));
  }

  -- It was carried out.
  module _ (script' : Script) (s' : Stored D) (q q' : PortSeen) (none : q.written ≡ Some [])
      (out : CarriedOut seen b (end_of b so.steps) (size_of lines) number so.history asked script.tally script' s' q q')
      (kept : script'.opened_before ≡ script.opened_before) where
    abbrev steps : List Step
    steps = so.steps ++ out.step ∷ []

    playable : IsPlayable (asked_after [] so.steps) line out.step.asked
    playable = subst (λ (a : Asked). IsPlayable (asked_after [] so.steps) line a) (sym out.asked_is) asks

    of : AreOf [] (counted lines ++ (number, line) ∷ []) steps
    of = of_last [] (counted lines) so.steps (number, line) out.step so.of out.number_is playable

    stands : StoreStands seen (base_after b.base steps) s' out.history
    stands = subst (λ (base : Summary). StoreStands seen base s' out.history) (sym (base_last b.base so.steps out.step)) out.between.store.stands

    -- behind a line the clock is set, and so the disk has not failed
    up : HasFailed seen s' → ⊥
    up =
        let clock = out.between.clock in
        subst (λ (c : Option ℕ). IfSome c (λ last. HasFailed seen s' → ⊥)) (clock.is ∙ clock.once.1) out.between.up

    held : HoldsRecorded seen s'.journal (base_after b.base steps) out.history
    held = has_recorded seen (base_after b.base steps) s' out.history up stands

    are : AreSteps (Tells (seen b.disk)) (placed b.base b.setup []) b.past out.history steps
    are = are_last (Tells (seen b.disk)) (placed b.base b.setup []) b.past so.history out.history so.steps out.step so.are
        (subst (λ (a : Asked). IsStepOf (Tells (seen b.disk)) (end_of b so.steps) so.history out.history out.step a) (sym out.asked_is) out.is)

    -- what the page has
    pub text_is : (text : List ℕ) → q'.written ≡ Some text → text ≡ out.step.text
    text_is text is =
        let e : Some text ≡ append_known (Some []) out.step.text = sym is ∙ out.text ∙ ap (λ k. append_known k out.step.text) none in
        ap (λ k. unwrap_or k []) e

    -- and its output was written
    pub further : (p' : PortSeen) (text : List ℕ) → q'.written ≡ Some text → p'.written ≡ append_known p.written text
        → p.write_faults ≤ p'.write_faults → line ≡ spelling asked → SoFar seen b (lines ++ line ∷ []) script' s' p'
    further p' text is put later spelled = record {
      steps = steps;
      history = out.history;
      of = subst (λ (l : List (ℕ × List ℕ)). AreOf [] l steps) (sym (counted_next lines line [] passed)) of;
      are = are;
      between = subst (λ (n : ℕ). Between seen b (end_of b steps) n out.history script' s')
          (ap (λ (l : List ℕ). size_of lines + length l) (sym spelled) ∙ sym (size_last lines line))
          (subst (λ (place : Place). Between seen b place (size_of lines + length (spelling asked)) out.history script' s')
          (place_last (placed b.base b.setup []) so.steps out.step) out.between);
      held = held;
      counts = counts_last so.steps out.step script.tally script'.tally so.counts out.counts;
      opened_before = kept ∙ so.opened_before;
      written = put ∙ ap (λ k. append_known k text) so.written ∙ ap (λ l. append_known (append_known b.port.written (output_of so.steps)) l) (text_is text is)
          ∙ known_both b.port.written (output_of so.steps) out.step.text ∙ ap (append_known b.port.written) (sym (output_last so.steps out.step));
      writes = omega (arith, so.writes, later);
    }

    -- or was cut off
    pub cut_off : (more : List (List ℕ)) (p' : PortSeen) (text : List ℕ) (n : ℕ) (disk : D) (tally : Tally) → q'.written ≡ Some text → n < length text
        → p'.written ≡ append_known p.written (take n text) → Rose p.write_faults p'.write_faults → disk ≡ s'.journal.disk
        → tally ≡ closing script'.tally script'.opened_before s'.state.sum
        → Halts seen b lines (lines ++ line ∷ more) WriteFault p' disk tally
    cut_off more p' text n disk tally is short put rose disk_is tally_as = record {
      played = record {
        front = counted lines ++ (number, line) ∷ [];
        behind = behind more;
        steps = steps;
        history = out.history;
        split = counted_next lines line more passed ∙ sym (append_assoc (counted lines) ((number, line) ∷ []) (behind more));
        of = of;
        are = are;
      };
      ends = (
        rose_since b.port.write_faults p.write_faults p'.write_faults so.writes rose,
        record {
          front = so.steps;
          last = out.step;
          count = n;
          split = refl;
          short = subst (λ (l : List ℕ). n < length l) (text_is text is) short;
          left = record {
            output = put ∙ ap (λ k. append_known k (take n text)) so.written
                ∙ ap (λ l. append_known (append_known b.port.written (output_of so.steps)) (take n l)) (text_is text is)
                ∙ known_both b.port.written (output_of so.steps) (take n out.step.text);
            area = recorded_in seen (base_after b.base steps) s' out.history disk held disk_is;
            counts = tally_is b.base s' b.past out.history steps script'.tally tally script'.opened_before (kept ∙ so.opened_before)
                (counts_last so.steps out.step script.tally script'.tally so.counts out.counts) stands.centre tally_as;
            any_moment = subst (λ (base : Summary). LeavesUpTo seen b disk base out.history) (sym (base_last b.base so.steps out.step))
                (left_there seen b out.step.base out.history s' out.between.store disk disk_is);
          };
        },
      );
      more = (number, line) ∷ [];
      front = refl;
    }
