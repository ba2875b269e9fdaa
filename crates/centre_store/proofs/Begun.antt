-- How a run begins over a history.
use Rattle.std.proofs.Common.{◌≡◌, ℕ, List, [], ◌∷◌, Bool, true, false, inl, inr, refl, sym, ap, subst, ◌∙◌}
use Rattle.std.specs.Prelude.{if◌then◌else◌, Option, Some, IsOk, is_ok, IfSome, Result, Ok, Err, IfErr, OnErr}
use Rattle.std.proofs.lemmas.Slice.Eq.{bytes_eq-Decides}
use Rattle.arc_data.specs.declared.event.Event.{Event}
use Rattle.arc_data.specs.declared.event.Event.TheVariants.{Adopt, Start}
use Rattle.arc_data.specs.declared.reply.Reply.{Reply}
use Rattle.arc_data.specs.declared.reply.Reply.TheVariants.{Adopted, Started}
use Rattle.alarm_rules.specs.Setups.{setup_of}
use Rattle.arc_io.specs.Areas.{Areas}
use Rattle.arc_io.specs.Disks.{DiskSeen}
use Rattle.arc_io.specs.Crashes.{LeavesOnly}
use Rattle.arc_io.proofs.Moments.{started, weaker}
use Rattle.centre_rules.specs.Summary.{Summary}
use Rattle.centre_rules.specs.Marks.{text}
use Rattle.centre_rules.specs.History.{Entry, Extends, is_recorded, marks, moment_after}
use Rattle.centre_rules.specs.Answers.{if_known}
use Rattle.centre_rules.specs.State.{State, StandsFor}
use Rattle.centre_core.specs.declared.hall.Stop.{Stop}
use Rattle.disk_journal.proofs.Steps.{if_map}
use Rattle.event_codec.specs.Spelling.{spelling}
use Rattle.centre_store.specs.Given.{StandForIn, StandForEither, HasEither}
use Rattle.centre_store.specs.Stores.{Stored, HasFailed, StoreStands, Takes, Shows}
use Rattle.centre_store.specs.Begins.{is_in_force, adopted_after, begun_after, event_of_begin, StandsWithin, ShowsOfBegin}
use Rattle.centre_store.proofs.Entered.{held}
use Rattle.centre_store.proofs.Holding.{either_one, recorded_there}

abbrev pub adopted_entry : Summary → List Entry → List ℕ → ℕ → Entry
adopted_entry b h setup clock = record { caller = 0; event = Adopt setup; at = moment_after b h clock; reply = Adopted }

abbrev pub started_entry : Summary → List Entry → ℕ → Entry
started_entry b h clock = record { caller = 0; event = Start; at = moment_after b h clock; reply = Started }

-- another text is in force, or none
pub one_adopt : (b : Summary) (h : List Entry) (setup : List ℕ) (clock : ℕ) → is_in_force (text b (marks b h)) setup ≡ false
    → adopted_after b h setup clock ≡ adopted_entry b h setup clock ∷ h
one_adopt b h setup clock is = ap (λ (v : Bool). if v then h else adopted_entry b h setup clock ∷ h) is

either_extends : (h : List Entry) (e : Entry) (v : Bool) → Extends h (if v then h else e ∷ h)
either_extends h e true = ([], refl)
either_extends h e false = (e ∷ [], refl)

adopted_extends : (b : Summary) (h : List Entry) (setup : List ℕ) (clock : ℕ) → Extends h (adopted_after b h setup clock)
adopted_extends b h setup clock = either_extends h (adopted_entry b h setup clock) (is_in_force (text b (marks b h)) setup)

begun_extends : (b : Summary) (h : List Entry) (setup : List ℕ) (clock : ℕ) → Extends h (begun_after b h setup clock)
begun_extends b h setup clock =
    let x = adopted_extends b h setup clock in
    let e : Entry = started_entry b (adopted_after b h setup clock) clock in
    (e ∷ x.0, ap (λ (l : List Entry). e ∷ l) x.1)

-- What a crash leaves.

pub within_before : (b : Summary) (h : List Entry) (setup : List ℕ) (clock : ℕ) (areas : Areas) → StandForIn 2 b h areas → StandsWithin b h setup clock areas
within_before b h setup clock areas stands = record { so_far = h; from_h = ([], refl); to_begun = begun_extends b h setup clock; stands = stands }

within_adopted : (b : Summary) (h : List Entry) (setup : List ℕ) (clock : ℕ) (areas : Areas) → StandForIn 2 b (adopted_after b h setup clock) areas
    → StandsWithin b h setup clock areas
within_adopted b h setup clock areas stands = record {
  so_far = adopted_after b h setup clock;
  from_h = adopted_extends b h setup clock;
  to_begun = (started_entry b (adopted_after b h setup clock) clock ∷ [], refl);
  stands = stands;
}

pub within_adopt : (b : Summary) (h : List Entry) (setup : List ℕ) (clock : ℕ) (areas : Areas) → is_in_force (text b (marks b h)) setup ≡ false
    → StandForEither b h (spelling (Adopt setup) (moment_after b h clock)) areas → StandsWithin b h setup clock areas
within_adopt b h setup clock areas is either =
    elim (either_one b h (adopted_entry b h setup clock) areas refl either) as (λ _. StandsWithin b h setup clock areas) [
      | inl old ↦ within_before b h setup clock areas old
      | inr new ↦ within_adopted b h setup clock areas
          (subst (λ (x : List Entry). StandForIn 2 b x areas) (sym (one_adopt b h setup clock is)) new)
    ]

pub within_start : (b : Summary) (h : List Entry) (setup : List ℕ) (clock : ℕ) (areas : Areas)
    → StandForEither b (adopted_after b h setup clock) (spelling Start (moment_after b (adopted_after b h setup clock) clock)) areas
    → StandsWithin b h setup clock areas
within_start b h setup clock areas either =
    elim (either_one b (adopted_after b h setup clock) (started_entry b (adopted_after b h setup clock) clock) areas refl either)
    as (λ _. StandsWithin b h setup clock areas) [
      | inl old ↦ within_adopted b h setup clock areas old
      | inr new ↦ record { so_far = begun_after b h setup clock; from_h = begun_extends b h setup clock; to_begun = ([], refl); stands = new }
    ]

-- What the store stands for.

module _ {D : Type 0} (seen : D → DiskSeen) where
  -- an Adopt of a setup is recorded
  pub adopt_recorded : (b : Summary) (s : Stored D) (h : List Entry) (setup taken : List ℕ) (clock at : ℕ) (reply : Reply) → taken ≡ setup → IsOk (setup_of setup)
      → Takes seen b s h clock (record { caller = 0; event = Adopt taken; at = at; reply = reply }) → is_recorded reply ≡ true
  adopt_recorded b s h setup taken clock at reply same valid takes =
      let answered : reply ≡ Adopted = takes.reply ∙ ap (λ (t : List ℕ). if_known (is_ok (setup_of t)) Adopted) same ∙ ap (λ v. if_known v Adopted) valid in
      ap is_recorded answered

  pub adopted_stands : (b : Summary) (s : Stored D) (h : List Entry) (setup taken : List ℕ) (clock at : ℕ) (reply : Reply) → taken ≡ setup → IsOk (setup_of setup)
      → is_in_force (text b (marks b h)) setup ≡ false
      → Takes seen b s h clock (record { caller = 0; event = Adopt taken; at = at; reply = reply })
      → StoreStands seen b s (adopted_after b h setup clock)
  adopted_stands b s h setup taken clock at reply same valid is takes =
      let answered : reply ≡ Adopted = takes.reply ∙ ap (λ (t : List ℕ). if_known (is_ok (setup_of t)) Adopted) same ∙ ap (λ v. if_known v Adopted) valid in
      let e : record { caller = 0; event = Adopt taken; at = at; reply = reply } ≡ adopted_entry b h setup clock =
      λ i. record { caller = 0; event = Adopt (same i); at = takes.at i; reply = answered i } in
      subst (λ (x : List Entry). StoreStands seen b s x) (ap (λ (x : Entry). x ∷ h) e ∙ sym (one_adopt b h setup clock is)) takes.stands

  pub started_stands : (b : Summary) (s : Stored D) (h : List Entry) (clock at : ℕ) (reply : Reply)
      → Takes seen b s h clock (record { caller = 0; event = Start; at = at; reply = reply })
      → StoreStands seen b s (started_entry b h clock ∷ h)
  started_stands b s h clock at reply takes =
      let e : record { caller = 0; event = Start; at = at; reply = reply } ≡ started_entry b h clock =
      λ i. record { caller = 0; event = Start; at = takes.at i; reply = takes.reply i } in
      subst (λ (x : Entry). StoreStands seen b s (x ∷ h)) e takes.stands

module _ {D : Type 0} (seen : D → DiskSeen) where
  -- before any call of the disk
  pub still_within : (b : Summary) (s : Stored D) (h : List Entry) (setup : List ℕ) (clock : ℕ) → ((d : D) (c : Areas) → (seen d).left_since (seen d).moment c → (seen d).may_leave c)
      → (HasFailed seen s → ⊥) → StoreStands seen b s h
      → LeavesOnly (seen s.journal.disk) (seen s.journal.disk) (StandsWithin b h setup clock)
  still_within b s h setup clock only_now up w =
      started (seen s.journal.disk) _
      (λ c left. within_before b h setup clock c ((recorded_there seen s.journal b h (held seen b s h up w)).images c (only_now s.journal.disk c left)))

  -- while the Adopt is made
  pub adopt_within : (b : Summary) (s : Stored D) (new : D) (h : List Entry) (setup taken : List ℕ) (clock : ℕ) → taken ≡ setup
      → is_in_force s.state.sum.text setup ≡ false → StoreStands seen b s h
      → LeavesOnly (seen s.journal.disk) (seen new) (StandForEither b h (spelling (Adopt taken) (moment_after b h clock)))
      → LeavesOnly (seen s.journal.disk) (seen new) (StandsWithin b h setup clock)
  adopt_within b s new h setup taken clock same is w run =
      let other : is_in_force (text b (marks b h)) setup ≡ false = ap (λ t. is_in_force t setup) (sym w.centre.same.text) ∙ is in
      weaker (seen s.journal.disk) (seen new) (StandsWithin b h setup clock) _ run
      (λ c either. within_adopt b h setup clock c other
      (subst (λ (t : List ℕ). StandForEither b h (spelling (Adopt t) (moment_after b h clock)) c) same either))

-- What a read gives then.
module _ {D : Type 0} (seen : D → DiskSeen) where
  pub still_tells : (b : Summary) (s : Stored D) (h : List Entry) (setup : List ℕ) (clock : ℕ) → (HasFailed seen s → ⊥) → StoreStands seen b s h
      → IfSome (seen s.journal.disk).told (StandsWithin b h setup clock)
  still_tells b s h setup clock up w =
      if_map (StandForIn 2 b h) (StandsWithin b h setup clock) (seen s.journal.disk).told
      (recorded_there seen s.journal b h (held seen b s h up w)).area (λ c stands. within_before b h setup clock c stands)

  pub adopt_tells : (b : Summary) (s : Stored D) (new : D) (h : List Entry) (setup taken : List ℕ) (clock : ℕ) → taken ≡ setup
      → is_in_force s.state.sum.text setup ≡ false → StoreStands seen b s h → HasEither (seen new) b h (spelling (Adopt taken) (moment_after b h clock))
      → IfSome (seen new).told (StandsWithin b h setup clock)
  adopt_tells b s new h setup taken clock same is w met =
      let other : is_in_force (text b (marks b h)) setup ≡ false = ap (λ t. is_in_force t setup) (sym w.centre.same.text) ∙ is in
      if_map (StandForEither b h (spelling (Adopt taken) (moment_after b h clock))) (StandsWithin b h setup clock) (seen new).told met.area
      (λ c either. within_adopt b h setup clock c other
      (subst (λ (t : List ℕ). StandForEither b h (spelling (Adopt t) (moment_after b h clock)) c) same either))

  pub start_tells : (b : Summary) (new : D) (h : List Entry) (setup : List ℕ) (clock : ℕ)
      → HasEither (seen new) b (adopted_after b h setup clock) (spelling Start (moment_after b (adopted_after b h setup clock) clock))
      → IfSome (seen new).told (StandsWithin b h setup clock)
  start_tells b new h setup clock met =
      if_map (StandForEither b (adopted_after b h setup clock) (spelling Start (moment_after b (adopted_after b h setup clock) clock)))
      (StandsWithin b h setup clock) (seen new).told met.area (λ c either. within_start b h setup clock c either)

-- in force or not, after the history as in the state
pub known_force : (b : Summary) (s : State) (h : List Entry) (setup : List ℕ) (v : Bool) → StandsFor b s h → is_in_force s.sum.text setup ≡ v
    → is_in_force (text b (marks b h)) setup ≡ v
known_force b s h setup v w is = ap (λ t. is_in_force t setup) (sym w.same.text) ∙ is

-- The cause of a stop: the event that is next met it.

-- it is the Adopt, where another text is in force or none
pub adopt_next : (force : Option (List ℕ)) (setup : List ℕ) → is_in_force force setup ≡ false → event_of_begin force setup ≡ Adopt setup
adopt_next force setup other = ap (λ (v : Bool). if v then Start else Adopt setup) other

-- behind it the Start
pub start_next : (force : Option (List ℕ)) (setup : List ℕ) → force ≡ Some setup → event_of_begin force setup ≡ Start
start_next force setup is =
    ap (λ (v : Bool). if v then Start else Adopt setup)
    (ap (λ (t : Option (List ℕ)). is_in_force t setup) is ∙ (bytes_eq-Decides setup setup).1 refl)

pub cause_of : {A D : Type 0} (seen : D → DiskSeen) (s : Stored D) (setup : List ℕ) (clock : ℕ) (event : Event) (r : Result A Stop) (stop : Stop)
    → r ≡ Err stop → event_of_begin s.state.sum.text setup ≡ event → Shows seen s stop event clock
    → IfErr r (λ x. ShowsOfBegin seen s setup clock x)
cause_of {A} seen s setup clock event r stop on next shows =
    subst (λ (x : Result A Stop). IfErr x (λ y. ShowsOfBegin seen s setup clock y)) (sym on)
    (subst (λ (e : Event). Shows seen s stop e clock) (sym next) shows)

pub on_err : {T E P : Type 0} (r : Result T E) → P → OnErr r P
on_err (Ok x) p = tt
on_err (Err e) p = p
