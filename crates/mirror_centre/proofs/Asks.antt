-- Asks that are not there whole, and those that were answered.
use Rattle.std.proofs.Common.{◌≡◌, ◌≤◌, ◌<◌, ◌+◌, ◌-◌, ◌*◌, IfSome, ◌^◌, ◌++◌, ℕ, List, [], ◌∷◌, length, take, Option, inl, inr, refl, sym, subst, ap, ◌∙◌, arith}
use Rattle.std.specs.Int.{from_be_bytes, to_be_bytes, w64}
use Rattle.std.specs.Io.KnownBytes.{prepend_known, append_known}
use Rattle.arc_io.proofs.KnownMore.{known_none, known_both, known_taken, prepend_none}
use Rattle.arc_io.specs.Areas.{Areas}
use Rattle.arc_io.specs.Causes.{Rose}
use Rattle.arc_io.specs.Disks.{DiskSeen}
use Rattle.arc_io.specs.Seen.{PortSeen}
use Rattle.arc_io.specs.Told.{OnlyReads, OnlyWrites}
use Rattle.centre_core.specs.declared.hall.Stop.{Stop}
use Rattle.centre_rules.specs.History.{Entry}
use Rattle.centre_rules.specs.State.{State}
use Rattle.centre_rules.specs.Summary.{Summary}
use Rattle.centre_store.specs.Followings.{body_of_number, place_of}
use Rattle.centre_store.specs.Stores.{Stored}
use Rattle.disk_journal.specs.Journal.{IsReadOf}
use Rattle.disk_journal.specs.declared.journal.Journal.{Journal}
use Rattle.mirror_centre.specs.Answers.{IsAnsweredWith, answer_at}
use Rattle.event_codec.proofs.Readers.{wide64}
use Rattle.session_rules.proofs.Ports.{of_reads, of_writes, ports_more, ports_none, rose_since}
use Rattle.session_rules.specs.Inputs.{input_limit}
use Rattle.mirror_centre.specs.Feeds.{Asked, asks_text, answers_text, EndsFeed, HasFed, IsAskWanted, IsDue, IsUnasked, Wrote}
use Rattle.mirror_centre.specs.Feeding.{AnswersAsk, AnswersNone, GoesOn, IsReadAlone, ReadsAsk, ReadsNone, SoFar, end_before, end_within}
use Rattle.mirror_centre.specs.Intakes.{ReadsNext, ReadsShort}
use Rattle.mirror_centre.specs.Messages.{answer_text, ask_text}
use Rattle.mirror_centre.specs.declared.feed_end.FeedEnd.{FeedEnd}
use Rattle.mirror_centre.specs.declared.feed_end.FeedEnd.TheVariants.{Done, ReadFault, WriteFault, Spent, Strange, Stopped}
use Rattle.mirror_centre.specs.declared.intake.Short.{Short}
use Rattle.mirror_centre.specs.declared.intake.Short.TheVariants as Intake

-- no byte
pub none_of : (bytes : List ℕ) → length bytes < 1 → bytes ≡ []
none_of [] few = refl
none_of (x ∷ xs) few = absurd (omega (arith, few))

one_wanted : (bytes : List ℕ) → length bytes ≤ 1 → IsAskWanted bytes
one_wanted [] few = tt
one_wanted (x ∷ []) few = inl refl
one_wanted (x ∷ y ∷ ys) few = absurd (omega (arith, few))

-- Where no byte of an ask is there.
pub none_before : (why : Short) (count : ℕ) (p p' : PortSeen) → ReadsShort why (9 * count) 1 p p' → ReadsNone (end_before why) count p p'
none_before Intake.Ended count p p' short = record { rest = short.bytes; left = short.left; most = short.most; why = (none_of short.bytes short.fewer, short.cause) }
none_before Intake.Failed count p p' short =
    let none : short.bytes ≡ [] = none_of short.bytes short.fewer in
    record { rest = []; left = subst (λ (l : List ℕ). p.left ≡ prepend_known l p'.left) none short.left; most = omega (arith, short.most); why = (tt, short.cause) }
none_before Intake.Spent count p p' short =
    let none : short.bytes ≡ [] = none_of short.bytes short.fewer in
    record {
      rest = [];
      left = subst (λ (l : List ℕ). p.left ≡ prepend_known l p'.left) none short.left;
      most = omega (arith, short.most);
      why = (tt, subst (λ (l : List ℕ). 9 * count + length l ≡ input_limit) none short.cause);
    }
none_before Intake.Memory count p p' short = record { rest = short.bytes; left = short.left; most = short.most; why = inl (refl, one_wanted short.bytes short.fewer) }

within : (why : Short) (count : ℕ) (p mid p' : PortSeen) → p.read_faults ≤ mid.read_faults → (short : ReadsShort why (9 * count + 1) 8 mid p')
    → p.left ≡ prepend_known (71 ∷ short.bytes) p'.left → 9 * count + length (71 ∷ short.bytes) ≤ input_limit → ReadsNone (end_within why count) count p p'
within Intake.Ended count p mid p' later short left most =
    record { rest = 71 ∷ short.bytes; left = left; most = most; why = (inr (refl, inr (short.fewer, short.cause)), refl) }
within Intake.Failed count p mid p' later short left most =
    record { rest = 71 ∷ short.bytes; left = left; most = most; why = ((refl, short.fewer), rose_since p.read_faults mid.read_faults p'.read_faults later short.cause) }
within Intake.Spent count p mid p' later short left most =
    record { rest = 71 ∷ short.bytes; left = left; most = most; why = ((refl, short.fewer), omega (arith, short.cause)) }
within Intake.Memory count p mid p' later short left most =
    record { rest = 71 ∷ short.bytes; left = left; most = most; why = inl (refl, inr (refl, short.fewer)) }

-- Where an ask that has begun is not there whole.
pub none_within : (why : Short) (count : ℕ) (p mid p' : PortSeen) → p.left ≡ prepend_known (71 ∷ []) mid.left → p.read_faults ≤ mid.read_faults
    → ReadsShort why (9 * count + 1) 8 mid p' → ReadsNone (end_within why count) count p p'
none_within why count p mid p' letter later short =
    let left : p.left ≡ prepend_known (71 ∷ short.bytes) p'.left =
    letter ∙ ap (prepend_known (71 ∷ [])) short.left ∙ known_taken p'.left (71 ∷ []) short.bytes in
    let most : 9 * count + length (71 ∷ short.bytes) ≤ input_limit = omega (arith, short.most) in
    within why count p mid p' later short left most

pub alone_before : (why : Short) → IsReadAlone (end_before why)
alone_before Intake.Ended = tt
alone_before Intake.Failed = tt
alone_before Intake.Spent = tt
alone_before Intake.Memory = refl

pub alone_within : (why : Short) (count : ℕ) → IsReadAlone (end_within why count)
alone_within Intake.Ended count = tt
alone_within Intake.Failed count = tt
alone_within Intake.Spent count = tt
alone_within Intake.Memory count = refl

-- Reading leaves what was written.
pub reads_on : (p p' : PortSeen) → OnlyReads p p' → p.read_faults ≤ p'.read_faults → GoesOn p p'
reads_on p p' only later = record { reads = later; writes = omega (arith, ap (λ (x : PortSeen). x.write_faults) only.rest); others = of_reads only }

pub writes_on : (p p' : PortSeen) → OnlyWrites p p' → p.write_faults ≤ p'.write_faults → GoesOn p p'
writes_on p p' only later = record { reads = omega (arith, ap (λ (x : PortSeen). x.read_faults) only.rest); writes = later; others = of_writes only }

pub goes_then : (p mid p' : PortSeen) → GoesOn p mid → GoesOn mid p' → GoesOn p p'
goes_then p mid p' one two = record {
  reads = omega (arith, one.reads, two.reads);
  writes = omega (arith, one.writes, two.writes);
  others = ports_more one.others two.others;
}

pub written_same : (p p' : PortSeen) → OnlyReads p p' → p'.written ≡ p.written
written_same p p' only = ap (λ (x : PortSeen). x.written) only.rest

pub left_same : (p p' : PortSeen) → OnlyWrites p p' → p'.left ≡ p.left
left_same p p' only = ap (λ (x : PortSeen). x.left) only.rest

wrote_none : (p p' : PortSeen) → OnlyReads p p' → Wrote p p' []
wrote_none p p' only = written_same p p' only ∙ sym (known_none p.written)

-- Where no ask was read, none was answered.
module _ (due : ℕ → List ℕ → Type 0) where
  pub ends_alone : (end : FeedEnd) (count : ℕ) (before rest : List ℕ) (p p' : PortSeen) → IsUnasked end count rest p p' → Wrote p p' before
      → EndsFeed due end count before rest p p'
  ends_alone Done count before rest p p' why wrote = (why, wrote)
  ends_alone (Strange after) count before rest p p' why wrote = (why, wrote)
  ends_alone ReadFault count before rest p p' why wrote = (why, wrote)
  ends_alone Spent count before rest p p' why wrote = (why, wrote)
  ends_alone (Stopped stop) count before rest p p' why wrote = (why, wrote)
  ends_alone WriteFault count before rest p p' why wrote = absurd why

  pub answers_none : (end : FeedEnd) (count : ℕ) (p p' : PortSeen) → OnlyReads p p' → p.read_faults ≤ p'.read_faults → ReadsNone end count p p'
      → AnswersNone due end count p p'
  answers_none end count p p' only later none = record {
    rest = none.rest;
    left = none.left;
    most = none.most;
    ends = ends_alone end count [] none.rest p p' none.why (wrote_none p p' only);
    goes = reads_on p p' only later;
  }

  -- So far nothing; one ask more; and its end.
  pub so_none : (p : PortSeen) → SoFar due 0 p p
  so_none p = record {
    asked = [];
    count_is = refl;
    left = prepend_none p.left;
    each = tt;
    output = sym (known_none p.written);
    goes = record { reads = omega arith; writes = omega arith; others = ports_none p };
  }

  pub so_more : (count : ℕ) (p mid p' : PortSeen) → SoFar due count p mid → AnswersAsk due mid p' → SoFar due (count + 1) p p'
  so_more count p mid p' so one = record {
    asked = one.asked ∷ so.asked;
    count_is = omega (arith, so.count_is);
    left = so.left ∙ ap (prepend_known (asks_text so.asked)) one.left ∙ known_taken p'.left (asks_text so.asked) (ask_text one.asked.number);
    each = (one.is_due, so.each);
    output = one.output ∙ ap (λ (w : Option (List ℕ)). append_known w one.asked.answer) so.output ∙ known_both p.written (answers_text so.asked) one.asked.answer;
    goes = goes_then p mid p' so.goes one.goes;
  }

  -- what is said since an earlier moment
  unasked_since : (end : FeedEnd) (count : ℕ) (rest : List ℕ) (p mid p' : PortSeen) → p.read_faults ≤ mid.read_faults → IsUnasked end count rest mid p'
      → IsUnasked end count rest p p'
  unasked_since Done count rest p mid p' later why = why
  unasked_since (Strange after) count rest p mid p' later why = why
  unasked_since ReadFault count rest p mid p' later why = (why.0, rose_since p.read_faults mid.read_faults p'.read_faults later why.1)
  unasked_since Spent count rest p mid p' later why = why
  unasked_since (Stopped stop) count rest p mid p' later why = why
  unasked_since WriteFault count rest p mid p' later why = absurd why

  wrote_behind : (before more : List ℕ) (p mid p' : PortSeen) → Wrote p mid before → Wrote mid p' more → Wrote p p' (before ++ more)
  wrote_behind before more p mid p' one two =
      two ∙ ap (λ (w : Option (List ℕ)). append_known w more) one ∙ known_both p.written before more

  wrote_same : (before : List ℕ) (p mid p' : PortSeen) → Wrote p mid before → Wrote mid p' [] → Wrote p p' before
  wrote_same before p mid p' one two = two ∙ known_none mid.written ∙ one

  ends_since : (end : FeedEnd) (count : ℕ) (before rest : List ℕ) (p mid p' : PortSeen) → GoesOn p mid → Wrote p mid before
      → EndsFeed due end count [] rest mid p' → EndsFeed due end count before rest p p'
  ends_since WriteFault count before rest p mid p' goes wrote cut = record {
    last = cut.last;
    is_due = cut.is_due;
    is_rest = cut.is_rest;
    count = cut.count;
    short = cut.short;
    output = wrote_behind before (take cut.count cut.last.answer) p mid p' wrote cut.output;
    failed = rose_since p.write_faults mid.write_faults p'.write_faults goes.writes cut.failed;
  }
  ends_since Done count before rest p mid p' goes wrote e = (e.0, wrote_same before p mid p' wrote e.1)
  ends_since (Strange after) count before rest p mid p' goes wrote e = (e.0, wrote_same before p mid p' wrote e.1)
  ends_since ReadFault count before rest p mid p' goes wrote e =
      (unasked_since ReadFault count rest p mid p' goes.reads e.0, wrote_same before p mid p' wrote e.1)
  ends_since Spent count before rest p mid p' goes wrote e = (e.0, wrote_same before p mid p' wrote e.1)
  ends_since (Stopped stop) count before rest p mid p' goes wrote e = (e.0, wrote_same before p mid p' wrote e.1)

  pub fed_by : (end : FeedEnd) (count : ℕ) (p mid p' : PortSeen) → SoFar due count p mid → AnswersNone due end count mid p' → HasFed due end p p'
  fed_by end count p mid p' so none = record {
    asked = so.asked;
    rest = none.rest;
    left = so.left ∙ ap (prepend_known (asks_text so.asked)) none.left ∙ known_taken p'.left (asks_text so.asked) none.rest;
    most = omega (arith, none.most, so.count_is);
    each = so.each;
    ends = subst (λ (n : ℕ). EndsFeed due end n (answers_text so.asked) none.rest p p') (sym so.count_is)
        (ends_since end count (answers_text so.asked) none.rest p mid p' so.goes so.output none.ends);
    others = ports_more so.goes.others none.goes.others;
  }

-- What is due by a store that was read is due by it before.
module _ {D : Type 0} (seen : D → DiskSeen) (b : Summary) (h : List Entry) (old new : Stored D) where
  pub due_before : new.state ≡ old.state → IsReadOf old.journal new.journal → (seen new.journal.disk).told ≡ (seen old.journal.disk).told → (n : ℕ) (text : List ℕ)
      → IsAnsweredWith seen b h new n text → IsAnsweredWith seen b h old n text
  due_before state same told n text due =
      let records : new.journal.records ≡ old.journal.records = ap (λ (j : Journal D). j.records) same in
      let recorded : new.state.sum.recorded ≡ old.state.sum.recorded = ap (λ (s : State). s.sum.recorded) state in
      record {
        body = due.body;
        body_is = subst (λ (o : Option Areas). IfSome o (λ _. due.body ≡ body_of_number b h (n + 1))) told due.body_is;
        text = due.text ∙ ap (λ (r : ℕ). answer_text (answer_at (place_of (r - new.journal.records) r (n + 1)) (r - new.journal.records) n due.body)) recorded
            ∙ ap (λ (k : ℕ). answer_text (answer_at (place_of (old.state.sum.recorded - k) old.state.sum.recorded (n + 1)) (old.state.sum.recorded - k) n due.body)) records;
      }

  asked_before : new.state ≡ old.state → IsReadOf old.journal new.journal → (seen new.journal.disk).told ≡ (seen old.journal.disk).told → (a : Asked)
      → IsDue (IsAnsweredWith seen b h new) a → IsDue (IsAnsweredWith seen b h old) a
  asked_before state same told a due = record { below = due.below; is = due_before state same told a.number a.answer due.is }

  pub answers_before : new.state ≡ old.state → IsReadOf old.journal new.journal → (seen new.journal.disk).told ≡ (seen old.journal.disk).told → (p p' : PortSeen)
      → AnswersAsk (IsAnsweredWith seen b h new) p p' → AnswersAsk (IsAnsweredWith seen b h old) p p'
  answers_before state same told p p' one = record {
    asked = one.asked;
    is_due = asked_before state same told one.asked one.is_due;
    left = one.left;
    output = one.output;
    goes = one.goes;
  }

  ends_before : new.state ≡ old.state → IsReadOf old.journal new.journal → (seen new.journal.disk).told ≡ (seen old.journal.disk).told → (end : FeedEnd) (count : ℕ)
      (before rest : List ℕ) (p p' : PortSeen)
      → EndsFeed (IsAnsweredWith seen b h new) end count before rest p p' → EndsFeed (IsAnsweredWith seen b h old) end count before rest p p'
  ends_before state same told WriteFault count before rest p p' cut = record {
    last = cut.last;
    is_due = asked_before state same told cut.last cut.is_due;
    is_rest = cut.is_rest;
    count = cut.count;
    short = cut.short;
    output = cut.output;
    failed = cut.failed;
  }
  ends_before state same told Done count before rest p p' e = e
  ends_before state same told (Strange after) count before rest p p' e = e
  ends_before state same told ReadFault count before rest p p' e = e
  ends_before state same told Spent count before rest p p' e = e
  ends_before state same told (Stopped stop) count before rest p p' e = e

  pub none_answered_before : new.state ≡ old.state → IsReadOf old.journal new.journal → (seen new.journal.disk).told ≡ (seen old.journal.disk).told → (end : FeedEnd) (count : ℕ)
      (p p' : PortSeen) → AnswersNone (IsAnsweredWith seen b h new) end count p p' → AnswersNone (IsAnsweredWith seen b h old) end count p p'
  none_answered_before state same told end count p p' none = record {
    rest = none.rest;
    left = none.left;
    most = none.most;
    ends = ends_before state same told end count [] none.rest p p' none.ends;
    goes = none.goes;
  }

-- a journal that was read, and read again
pub read_then : {D : Type 0} (old mid new : Journal D) → IsReadOf old mid → IsReadOf mid new → IsReadOf old new
read_then {D} old mid new one two =
    two ∙ ap (λ (j : Journal D). record j { disk = new.disk; has_failed = new.has_failed; next = new.next; place = new.place }) one

-- An ask was read; then it is answered, its answer is cut short, or there is none.
module _ (due : ℕ → List ℕ → Type 0) (n : ℕ) (p q : PortSeen) (read : ReadsAsk n p q) (only : OnlyReads p q) (later : p.read_faults ≤ q.read_faults) where
  module _ (text : List ℕ) (is : due n text) (r : PortSeen) (others : OnlyWrites q r) (writes : q.write_faults ≤ r.write_faults) where
    left_on : p.left ≡ prepend_known (ask_text n) r.left
    left_on = read.left ∙ ap (prepend_known (ask_text n)) (sym (left_same q r others))

    went_on : GoesOn p r
    went_on = goes_then p q r (reads_on p q only later) (writes_on q r others writes)

    pub answered_by : r.written ≡ append_known q.written text → AnswersAsk due p r
    answered_by written = record {
      asked = record { number = n; answer = text };
      is_due = record { below = read.below; is = is };
      left = left_on;
      output = written ∙ ap (λ (w : Option (List ℕ)). append_known w text) (written_same p q only);
      goes = went_on;
    }

    pub cut_by : (count k : ℕ) → 9 * count + 9 ≤ input_limit → k < length text → r.written ≡ append_known q.written (take k text) → Rose q.write_faults r.write_faults
        → AnswersNone due WriteFault count p r
    cut_by count k few short written failed = record {
      rest = ask_text n;
      left = left_on;
      most = omega (arith, few);
      ends = record {
        last = record { number = n; answer = text };
        is_due = record { below = read.below; is = is };
        is_rest = refl;
        count = k;
        short = short;
        output = written ∙ ap (λ (w : Option (List ℕ)). append_known w (take k text)) (written_same p q only);
        failed = rose_since p.write_faults q.write_faults r.write_faults (omega (arith, ap (λ (x : PortSeen). x.write_faults) only.rest)) failed;
      };
      goes = went_on;
    }

  pub stopped_by : (stop : Stop) (count : ℕ) → 9 * count + 9 ≤ input_limit → AnswersNone due (Stopped stop) count p q
  stopped_by stop count few = record {
    rest = ask_text n;
    left = read.left;
    most = omega (arith, few);
    ends = (inr (n, read.below, refl), wrote_none p q only);
    goes = reads_on p q only later;
  }

-- The number of an ask was read, behind its letter.
module _ (bytes : List ℕ) (count : ℕ) (p q r : PortSeen) (letter : p.left ≡ prepend_known (71 ∷ []) q.left) (read : ReadsNext (9 * count + 1) 8 bytes q r) where
  left_by : p.left ≡ prepend_known (71 ∷ bytes) r.left
  left_by = letter ∙ ap (prepend_known (71 ∷ [])) read.left ∙ known_taken r.left (71 ∷ []) bytes

  number_is : (n : ℕ) → n ≡ from_be_bytes w64 bytes → bytes ≡ to_be_bytes w64 n
  number_is n is = sym (wide64.back bytes read.size read.fits) ∙ ap (to_be_bytes w64) (sym is)

  pub ask_by : (n : ℕ) → n ≡ from_be_bytes w64 bytes → n < 2 ^ 48 → ReadsAsk n p r
  ask_by n is below = record {
    below = below;
    left = left_by ∙ ap (λ (l : List ℕ). prepend_known (71 ∷ l) r.left) (number_is n is);
    not_ended = read.not_ended;
  }

  pub high_by : (n : ℕ) → n ≡ from_be_bytes w64 bytes → 2 ^ 48 ≤ n → ReadsNone (Strange count) count p r
  high_by n is high = record {
    rest = 71 ∷ bytes;
    left = left_by;
    most = omega (arith, read.most, read.size);
    why = (inr (refl, inl (read.size, subst (λ (k : ℕ). 2 ^ 48 ≤ k) is high)), refl);
  }
