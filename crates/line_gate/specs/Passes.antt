-- What contracts see of a pass, and what a call of the gate does to it.
use Rattle.std.specs.Prelude.{◌≡◌, ◌<◌, ◌≤◌, ◌+◌, ◌^◌, ℕ, List, [], ◌∷◌, ◌++◌, false, Some, length}
use Rattle.atomic_table.specs.Seated.{TableId}
use Rattle.atomic_table.specs.Table.{Me}
use Rattle.arc_data.specs.declared.event.Event.{Event}
use Rattle.arc_io.specs.Causes.{Rose}
use Rattle.centre_rules.specs.Summary.{Summary}
use Rattle.centre_rules.specs.History.{moment_after}
use Rattle.centre_rules.specs.Answers.{answer}
use Rattle.centre_core.specs.declared.hall.Stop.{Stop}
use Rattle.centre_core.specs.declared.hall.Stop.TheVariants.{Memory, Down, Full, Worn}
use Rattle.disk_journal.specs.Faults.{IsOver}
use Rattle.centre_store.specs.Bodies.{need_of}
use Rattle.centre_store.specs.Given.{summed_size}
use Rattle.centre_store.specs.Stores.{IsToRecord}
use Rattle.line_gate.specs.Entries.{Entry, Extends, made_by}
use Rattle.line_gate.specs.declared.view.View.{View}
use Rattle.line_gate.specs.Terms.{Terms, IsOfGate}

-- its number, and a count above it; what its caller has seen of the history since the gate was made; the entries that it made; and the
-- greatest count of disk faults that it was told
pub record PassSeen : Type 0 where
  pub number : ℕ
  pub count : ℕ
  pub since : List Entry
  pub made : List Entry
  pub told : ℕ

abbrev pub pass_seen : ℕ → View → PassSeen
pass_seen number v = record { number = number; count = v.count; since = v.seen; made = v.made; told = v.told }

-- what is so of the seat of every pass between two calls
pub record IsSeated (t : Terms) (number : ℕ) (table : TableId) (me : Me (Unit {0}) View) : Type 0 where
  pub table_is : table ≡ t.table
  pub carries : me.1 ≡ []
  pub is_pass : me.0.book ≡ false
  pub number_is : me.0.number ≡ Some number
  pub free : me.0.named ≡ []
  pub below : number < me.0.count
  pub own : made_by number me.0.seen ≡ me.0.made
  pub of_gate : IsOfGate t me.0.seen

-- and what callers see of that: what the pass has seen is the end of a history of the gate, and the entries in it that bear its number are
-- just those that it made, each once, in order
pub record IsPass (t : Terms) (p : PassSeen) : Type 0 where
  pub of_gate : IsOfGate t p.since
  pub own : made_by p.number p.since ≡ p.made
  pub below : p.number < p.count

-- q is the pass after a call, p before it: what it has seen begins with what it had seen, it keeps its number, and no count falls
pub record IsLater (p q : PassSeen) : Type 0 where
  pub number : q.number ≡ p.number
  pub since : Extends p.since q.since
  pub count : p.count ≤ q.count
  pub told : p.told ≤ q.told

-- the entry's moment and reply are those of one thread after these entries, over each base
pub record IsAnswer (t : Terms) (before : List Entry) (clock : ℕ) (e : Entry) : Type 0 where
  pub at : (b : Summary) (base : List Entry) → t.stood b base → e.at ≡ moment_after b (before ++ base) clock
  pub reply : (b : Summary) (base : List Entry) → t.stood b base → e.reply ≡ answer b (before ++ base) e.event e.at

-- What the pass has seen after the call ends with this entry, which is the one that it made in the call. before is the history without the
-- entry, and begins with what the pass had seen.
pub record Makes (t : Terms) (p q : PassSeen) (clock : ℕ) (e : Entry) : Type 0 where
  pub before : List Entry
  pub extends : Extends p.since before
  pub since : q.since ≡ e ∷ before
  pub made : q.made ≡ e ∷ p.made
  pub answer : IsAnswer t before clock e

-- these entries are the answers of one thread, one after another, the first after this history, each at a reading of the clock of its own
-- (both lists have the newest first)
abbrev pub AreAnswers : Terms → List Entry → List ℕ → List Entry → Type 0
AreAnswers t before [] [] = Unit {0}
AreAnswers t before [] (e ∷ es) = ⊥
AreAnswers t before (clock ∷ clocks) [] = ⊥
AreAnswers t before (clock ∷ clocks) (e ∷ es) = IsAnswer t (es ++ before) clock e × AreAnswers t before clocks es

-- The same of a list of entries, which the pass made in the call, all of them together at the end of what it has seen.
pub record MakesAll (t : Terms) (p q : PassSeen) (clocks : List ℕ) (es : List Entry) : Type 0 where
  pub before : List Entry
  pub extends : Extends p.since before
  pub since : q.since ≡ es ++ before
  pub made : q.made ≡ es ++ p.made
  pub answers : AreAnswers t before clocks es

-- What a pass shows after a stop of an event at a reading of the clock.

-- over this base a checkpoint of what the pass has seen uses so many bytes, and the event would be recorded
pub record IsFullAfter (t : Terms) (since : List Entry) (used : ℕ) (event : Event) (clock : ℕ) (b : Summary) (base : List Entry)
    : Type 0 where
  pub used_is : used ≡ summed_size b (since ++ base)
  pub to_record : IsToRecord b (since ++ base) event clock

-- the event's record would pass a limit of the journal, behind a checkpoint too
pub record IsShownFull (t : Terms) (since : List Entry) (used need records : ℕ) (event : Event) (clock : ℕ) : Type 0 where
  pub need_is : need ≡ need_of event
  pub records_is : records ≡ 0
  pub over : IsOver used need 0 t.limits.bytes t.limits.records
  pub after : (b : Summary) (base : List Entry) → t.stood b base → IsFullAfter t since used event clock b base

-- the disk has failed since the store was opened, as the pass was told; the history has so many entries
abbrev pub PassShows : Terms → PassSeen → Stop → Event → ℕ → Type 0
PassShows t p Memory event clock = Unit {0}
PassShows t p (Down at_open now) event clock = (at_open ≡ t.at_open) × Rose at_open now × (now ≤ p.told)
PassShows t p (Full used need records) event clock = IsShownFull t p.since used need records event clock
PassShows t p (Worn count) event clock =
    (2 ^ 48 ≤ count) × ((b : Summary) (base : List Entry) → t.stood b base → count ≡ b.recorded + length (p.since ++ base))

-- a pass that has appended these entries
abbrev pub grown : List Entry → PassSeen → PassSeen
grown es p = record { number = p.number; count = p.count; since = es ++ p.since; made = es ++ p.made; told = p.told }

-- a pass that was told a count of faults
abbrev pub told_at : ℕ → PassSeen → PassSeen
told_at n p = record { number = p.number; count = p.count; since = p.since; made = p.made; told = n }
