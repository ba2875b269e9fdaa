-- What a call of the store with a batch leaves under the lock, and what the pass is shown of it.
use Rattle.std.proofs.Common.{◌≡◌, ◌⊎◌, ℕ, ◌+◌, ◌≤◌, ◌<◌, ◌^◌, List, [], ◌∷◌, ◌++◌, length, take, Option, Some, None, true, false, inl, inr, ⊎_elim, refl, sym, ap, ◌∙◌, subst, arith, length-append}
use Rattle.std.specs.Prelude.{All, IfSome, nat_le}
use Rattle.std.proofs.lemmas.Bool.{leb-true, leb-false, cases_Bool}
use Rattle.std.proofs.lemmas.List.{length-take-le}
use Rattle.std.proofs.lemmas.List.Elements.{All-append, All-take}
use Rattle.arc_io.specs.Causes.{Rose}
use Rattle.arc_io.specs.Disks.{DiskSeen}
use Rattle.disk_journal.specs.Faults.{IsOver}
use Rattle.disk_journal.specs.declared.journal.Limits.{Limits}
use Rattle.centre_rules.specs.Summary.{Summary}
use Rattle.centre_core.specs.Batches.{MayBeSubmitted, with_all, dones_of, IsDown, IsDownThen}
use Rattle.centre_core.specs.GroupHalls.{ShowsLeft}
use Rattle.centre_core.specs.Runs.{IsSubmitted}
use Rattle.centre_core.specs.Setting.{IsSetting}
use Rattle.centre_core.specs.declared.batch.Submission.{Submission}
use Rattle.centre_core.specs.declared.hall.Stop.{Stop}
use Rattle.centre_core.specs.declared.hall.Stop.TheVariants.{Memory, Down, Full, Worn}
use Rattle.centre_core.specs.declared.ready.Done.{Done}
use Rattle.centre_store.specs.Groups.{ShowsOfGroup}
use Rattle.centre_store.specs.Stores.{Stored, HasFailed, StoreStands}
use Rattle.line_gate.specs.AtGates.{gate_seen}
use Rattle.line_gate.specs.Entries.{Entry}
use Rattle.line_gate.specs.Groups.{told_entries, clocks_of, MakesTold}
use Rattle.line_gate.specs.Passes.{PassSeen, IsLater, AreAnswers, grown}
use Rattle.line_gate.specs.Terms.{Terms, IsOfGate, AreSubmitted}
use Rattle.line_gate.specs.UnderLock.{StandsSince, IsKept}
use Rattle.line_gate.proofs.Carried.{since_of_gate}
use Rattle.line_gate.proofs.Told.{told_since, told_submitted, told_answers}

-- what the store promises of such a call
pub record TookAll {D : Type 0} (seen : D → DiskSeen) (n : ℕ) (old now : Stored D) (calls left : List Submission) (dones : List Done) (stop : Option Stop)
    : Type 0 where
  pub told : (IsDownThen stop → ⊥) → (b : Summary) (h : List Entry) → StoreStands seen b old h → dones ≡ dones_of n b h (take (length dones) calls)
  pub stands : (IsDownThen stop → ⊥) → (b : Summary) (h : List Entry) → StoreStands seen b old h
      → StoreStands seen b now (with_all n b h (take (length dones) calls))
  pub within : length dones ≤ length calls
  pub entries : (IsDownThen stop → ⊥) → now.state.entries ≡ old.state.entries + length dones
  pub none : IsDownThen stop → dones ≡ []
  pub cause : IfSome stop (λ s. ShowsOfGroup seen now s left)
  pub down : HasFailed seen now → stop ≡ Some (Down now.at_open (seen now.journal.disk).faults)
  pub worn : (HasFailed seen old → ⊥) → 2 ^ 48 ≤ old.state.entries → (calls ≡ [] → ⊥) → dones ≡ []
  pub at_open : now.at_open ≡ old.at_open
  pub limits : now.journal.limits ≡ old.journal.limits
  pub text : now.state.sum.text ≡ old.state.sum.text
  pub later : (seen old.journal.disk).faults ≤ (seen now.journal.disk).faults

-- the entries that were made
abbrev pub added : List Submission → List Done → List Entry
added calls dones = told_entries (take (length dones) calls) dones

is_down_then : (stop : Option Stop) → IsDownThen stop ⊎ (IsDownThen stop → ⊥)
is_down_then None = inr (λ down. down)
is_down_then (Some Memory) = inr (λ down. down)
is_down_then (Some (Down at_open now)) = inl tt
is_down_then (Some (Full used need records)) = inr (λ down. down)
is_down_then (Some (Worn count)) = inr (λ down. down)

rose_on : (at_open before now : ℕ) → before ≤ now → Rose at_open before → Rose at_open now
rose_on at_open before now le rose = omega (arith, le, rose)

added_none : (calls : List Submission) (dones : List Done) → dones ≡ [] → added calls dones ≡ []
added_none calls dones none = ap (added calls) none

failed_then : {D : Type 0} (seen : D → DiskSeen) (now : Stored D) (left : List Submission) (stop : Option Stop)
    → IfSome stop (λ s. ShowsOfGroup seen now s left) → IsDownThen stop → HasFailed seen now
failed_then seen now left None shows down = absurd down
failed_then seen now left (Some Memory) shows down = absurd down
failed_then seen now left (Some (Down at_open count)) shows down = shows.2
failed_then seen now left (Some (Full used need records)) shows down = absurd down
failed_then seen now left (Some (Worn count)) shows down = absurd down

module _ {D : Type 0} (seen : D → DiskSeen) (n : ℕ) (old now : Stored D) (calls left : List Submission) (dones : List Done) (stop : Option Stop)
    (k : TookAll seen n old now calls left dones stop) where
  -- where it doesn't stop by Down the disk has not failed
  up_now : (IsDownThen stop → ⊥) → HasFailed seen now → ⊥
  up_now up failed = up (subst IsDownThen (sym (k.down failed)) tt)

  up_old : (IsDownThen stop → ⊥) → HasFailed seen old → ⊥
  up_old up failed =
      let rose : Rose old.at_open (seen now.journal.disk).faults = rose_on old.at_open (seen old.journal.disk).faults (seen now.journal.disk).faults k.later failed in
      up_now up (subst (λ (a : ℕ). Rose a (seen now.journal.disk).faults) (sym k.at_open) rose)

  -- and so the other way round
  pub not_down : (HasFailed seen now → ⊥) → IsDownThen stop → ⊥
  not_down up down = up (failed_then seen now left stop k.cause down)

  -- something was answered: it doesn't
  answered_up : 0 < length dones → IsDownThen stop → ⊥
  answered_up some down = omega (arith, some, ap length (k.none down))

  long : length (take (length dones) calls) ≡ length dones
  long = length-take-le (length dones) calls k.within

  module _ (t : Terms) (since : List Entry) (most : ℕ) (kept : IsKept seen t since most old) where
    stood : (IsDownThen stop → ⊥) → StandsSince seen t since old
    stood up = ⊎_elim (λ w. w) (λ broken. absurd (up_old up broken.failed)) kept.stands

    stands_then : (IsDownThen stop → ⊥) → StandsSince seen t (added calls dones ++ since) now
    stands_then up = told_since seen t n since old now (take (length dones) calls) dones (stood up) long (k.told up) (k.stands up) (k.entries up)

    text_then : now.state.sum.text ≡ Some t.text
    text_then = k.text ∙ kept.text

    -- what the pass has seen with them is the end of a history of the gate
    pub of_gate_then : All MayBeSubmitted calls → IsOfGate t (added calls dones ++ since)
    of_gate_then may = ⊎_elim
        (λ (down : IsDownThen stop). subst (λ (l : List Entry). IsOfGate t (l ++ since)) (sym (added_none calls dones (k.none down))) kept.of_gate)
        (λ (up : IsDownThen stop → ⊥).
        let all : AreSubmitted (added calls dones ++ since) =
        All-append (λ (e : Entry). IsSubmitted e.event) (added calls dones) since
        (told_submitted (take (length dones) calls) dones (All-take MayBeSubmitted (length dones) calls may)) kept.of_gate.submitted in
        since_of_gate seen t (added calls dones ++ since) now (stands_then up) all text_then (subst IsSetting (sym k.text) kept.setting))
        (is_down_then stop)

    -- what lies under the lock then
    pub kept_then : t.groups ≡ true → All MayBeSubmitted calls → IsKept seen t (added calls dones ++ since) most now
    kept_then groups may = record {
      stands = ⊎_elim (λ (down : IsDownThen stop). inr (record { groups = groups; failed = failed_then seen now left stop k.cause down }))
          (λ (up : IsDownThen stop → ⊥). inl (stands_then up)) (is_down_then stop);
      of_gate = of_gate_then may;
      most_told = omega (arith, kept.most_told, k.later);
      at_open = k.at_open ∙ kept.at_open;
      limits = k.limits ∙ kept.limits;
      text = text_then;
      setting = subst IsSetting (sym k.text) kept.setting;
    }

    few_when : 0 < length dones → (2 ^ 48 ≤ old.state.entries) ⊎ (old.state.entries < 2 ^ 48) → old.state.entries < 2 ^ 48
    few_when some = ⊎_elim
        (λ (many : 2 ^ 48 ≤ old.state.entries).
        let none : dones ≡ [] = k.worn (up_old (answered_up some)) many (λ (e : calls ≡ []). omega (arith, some, k.within, ap length e)) in
        absurd (omega (arith, some, ap length none)))
        (λ few. few)

    -- there was room for an entry
    pub few_then : 0 < length dones → length since < 2 ^ 48
    few_then some =
        let old_few = few_when some (⊎_elim (λ (e : nat_le (2 ^ 48) old.state.entries ≡ true). inl (leb-true (2 ^ 48) old.state.entries e))
        (λ (e : nat_le (2 ^ 48) old.state.entries ≡ false). inr (leb-false (2 ^ 48) old.state.entries e)) (cases_Bool (nat_le (2 ^ 48) old.state.entries))) in
        omega (arith, old_few, (stood (answered_up some)).entries)

    -- and their moments and replies are those of one thread
    answers_then : AreAnswers t since (clocks_of (take (length dones) calls)) (added calls dones)
    answers_then = ⊎_elim
        (λ (down : IsDownThen stop). subst (λ (ds : List Done). AreAnswers t since (clocks_of (take (length ds) calls)) (added calls ds)) (sym (k.none down)) tt)
        (λ (up : IsDownThen stop → ⊥). told_answers t n since (take (length dones) calls) dones long
        (λ b base from. k.told up b (since ++ base) ((stood up).stands b base from)))
        (is_down_then stop)

    -- the pass made them: p before the call, m when it had seen all, q after it
    pub makes_then : (p m q : PassSeen) (es : List Entry) → IsLater p m → m.made ≡ p.made → m.since ≡ since → es ≡ added calls dones → q ≡ grown es m
        → MakesTold t p q (take (length dones) calls) dones
    makes_then p m q es later made met are grown_is =
        let now : q ≡ grown (added calls dones) m = grown_is ∙ ap (λ (l : List Entry). grown l m) are in record {
          before = m.since;
          extends = later.since;
          since = ap (λ (x : PassSeen). x.since) now;
          made = ap (λ (x : PassSeen). x.made) now ∙ ap (λ (l : List Entry). added calls dones ++ l) made;
          answers = subst (λ (l : List Entry). AreAnswers t l (clocks_of (take (length dones) calls)) (added calls dones)) (sym met) answers_then;
        }

-- What a stop that is no Down shows.

shows_over : {D : Type 0} (seen : D → DiskSeen) (t : Terms) (p : PassSeen) (now : Stored D) (left : List Submission) (stop : Stop)
    → StandsSince seen t p.since now → IsOfGate t p.since → now.journal.limits ≡ t.limits → (IsDown stop → ⊥)
    → ShowsOfGroup seen now stop left → ShowsLeft (gate_seen t p) stop left
shows_over seen t p now left Memory w of_gate limits up shows = λ event clock. tt
shows_over seen t p now left (Down at_open count) w of_gate limits up shows = absurd (up tt)
shows_over seen t p now left (Full used need records) w of_gate limits up (call, later, split, full) = record {
  call = call;
  later = later;
  first = split;
  shown = record {
    need_is = full.need_is;
    records_is = full.records_is;
    over = subst (λ (l : Limits). IsOver used need 0 l.bytes l.records) limits
        (subst (λ (m : ℕ). IsOver used m 0 now.journal.limits.bytes now.journal.limits.records) (sym full.need_is) full.over.then);
    after = λ b base from.
        let held = w.stands b base from in record { used_is = full.used_is b (p.since ++ base) held; to_record = full.to_record b (p.since ++ base) held };
  };
}
shows_over seen t p now left (Worn count) w of_gate limits up shows =
    λ event clock. (shows.1, λ b base from. omega (arith, shows.0, w.entries, of_gate.long b base from, length-append p.since base))

pub shows_then : {D : Type 0} (seen : D → DiskSeen) (n : ℕ) (old now : Stored D) (calls left : List Submission) (dones : List Done) (stop : Option Stop)
    → TookAll seen n old now calls left dones stop → (t : Terms) (since : List Entry) (most : ℕ) → IsKept seen t since most old → All MayBeSubmitted calls
    → (m q : PassSeen) (es : List Entry) → m.since ≡ since → es ≡ added calls dones → q ≡ grown es m → (IsDownThen stop → ⊥)
    → IfSome stop (λ s. ShowsLeft (gate_seen t q) s left)
shows_then seen n old now calls left dones None k t since most kept may m q es met are grown_is up = tt
shows_then seen n old now calls left dones (Some stop) k t since most kept may m q es met are grown_is up =
    let seen_is : q.since ≡ added calls dones ++ since =
    ap (λ (x : PassSeen). x.since) grown_is ∙ ap (λ (l : List Entry). l ++ m.since) are ∙ ap (λ (h : List Entry). added calls dones ++ h) met in
    shows_over seen t q now left stop
    (subst (λ (l : List Entry). StandsSince seen t l now) (sym seen_is) (stands_then seen n old now calls left dones (Some stop) k t since most kept up))
    (subst (IsOfGate t) (sym seen_is) (of_gate_then seen n old now calls left dones (Some stop) k t since most kept may))
    (k.limits ∙ kept.limits) up k.cause
