-- What a `T` leaves.
use Rattle.std.proofs.Common.{◌≡◌, ◌⊎◌, ◌≤◌, ◌++◌, ℕ, List, ◌∷◌, Option, Some, None, Result, Ok, Err, OnOk, OnErr, IfErr, inl, inr, refl, ap, sym, subst, ◌∙◌}
use Rattle.std.specs.Prelude.{codes}
use Rattle.std.specs.Io.KnownBytes.{append_known}
use Rattle.arc_data.specs.declared.event.Event.{Event}
use Rattle.arc_data.specs.declared.event.Event.TheVariants.{Message as Sent, Tick}
use Rattle.arc_data.specs.declared.event.Message.{Message as Telling}
use Rattle.arc_data.specs.declared.reply.Reply.{Reply}
use Rattle.arc_io.specs.Areas.{Areas}
use Rattle.arc_io.specs.Crashes.{LeavesOnly}
use Rattle.arc_io.specs.Disks.{DiskSeen}
use Rattle.arc_io.specs.Seen.{PortSeen}
use Rattle.centre_core.specs.declared.hall.Stop.{Stop}
use Rattle.centre_core.specs.declared.hall.Stop.TheVariants.{Memory}
use Rattle.centre_rules.specs.Answers.{answer}
use Rattle.centre_rules.specs.History.{Entry, IsMoment, moment_after}
use Rattle.centre_rules.specs.Summary.{Summary}
use Rattle.centre_store.proofs.Entered.{held}
use Rattle.centre_store.proofs.Holding.{recorded_or, recorded_there}
use Rattle.centre_store.proofs.Leaving.{leaves_more, leaves_stopped}
use Rattle.centre_store.specs.Begins.{adopted_after, begun_after, event_of_begin, LeavesWithin, ShowsOfBegin, TellsWithin}
use Rattle.centre_store.specs.Calls.{entry_after, LeavesFrom}
use Rattle.centre_store.specs.Given.{HasRecorded, HoldsRecorded, StandForEither}
use Rattle.centre_store.specs.Orders.{IsDownWhereFailed}
use Rattle.centre_store.specs.StoreHalls.{store_seen}
use Rattle.centre_store.specs.Stores.{HasFailed, IsDown, IsSameJournal, IsToRecord, Shows, StandsOn, Stored, StoreStands, Takes}
use Rattle.event_codec.specs.Spelling.{spelling}
use Rattle.desk_wire.specs.Replies.{line_of}
use Rattle.arc_script.specs.Causes.{HasShown, IsOfTime, OrBegun}
use Rattle.arc_script.specs.Ends.{BegunUntil, BegunAgain}
use Rattle.arc_script.specs.Playing.{AgainStops, BeginStops, TickStops, Ticked}
use Rattle.arc_script.specs.Standing.{IsReadable, LeavesOn}
use Rattle.arc_script.specs.Steps.{before_tick, ticked_after}
use Rattle.arc_script.proofs.Begun.{readable_first}
use Rattle.arc_script.proofs.Left.{left_begun}
use Rattle.arc_script.proofs.Stops.{of_memory}
use Rattle.arc_script.proofs.Unbegun.{begun_same, fails_or_not, none_added, there_up, unbegun}

abbrev pub entry_with : Event → ℕ → Reply → Entry
entry_with event at reply = record { caller = 0; event = event; at = at; reply = reply }

entry_is : (base : Summary) (h : List Entry) (event : Event) (clock at : ℕ) (reply : Reply) → at ≡ moment_after base h clock → reply ≡ answer base h event at
    → entry_with event at reply ≡ entry_after base h event clock
entry_is base h event clock at reply is answered =
    ap (entry_with event at) answered ∙ ap (λ (t : ℕ). entry_with event t (answer base h event t)) is

-- the history before the Tick is one that a `T` comes to
pub until_before : (clock : Option ℕ) (base : Summary) (setup : List ℕ) (moment : ℕ) (h : List Entry) → BegunUntil clock base setup moment h (before_tick clock base setup moment h)
until_before None base setup moment h = inr (inr refl)
until_before (Some last) base setup moment h = refl

-- The store shows a stop for each event of one kind, and so for those of another that has all of the first.
pub shown_as : {D : Type 0} (seen : D → DiskSeen) (base : Summary) (s : Stored D) (h : List Entry) (stop : Stop) (moment : ℕ) (P Q : Event → Type 0)
    → ((event : Event) → P event → Q event) → HasShown seen base s h stop moment P → HasShown seen base s h stop moment Q
shown_as seen base s h stop moment P Q goes (inl (is, inl there)) = inl (is, inl there)
shown_as seen base s h stop moment P Q goes (inl (is, inr (failed, m, via, one))) = inl (is, inr (failed, m, via, goes (Sent m via) one))
shown_as seen base s h stop moment P Q goes (inr (event, one, shows, torn)) = inr (event, goes event one, shows, torn)

-- memory was wanted while the disk had not failed
pub wanted_up : {D : Type 0} (seen : D → DiskSeen) (base : Summary) (s : Stored D) (h : List Entry) (stop : Stop) (moment : ℕ) (IsOne : Event → Type 0)
    → stop ≡ Memory → StoreStands seen base s h → (HasFailed seen s → ⊥) → HasShown seen base s h stop moment IsOne
wanted_up seen base s h stop moment IsOne is stands up = inl (is, inl (there_up seen base s h stands up))

-- it was wanted for a message
pub wanted_for : {D : Type 0} (seen : D → DiskSeen) (base : Summary) (s : Stored D) (h : List Entry) (stop : Stop) (moment : ℕ) (IsOne : Event → Type 0)
    (m : Telling) (via : List ℕ) → stop ≡ Memory → StoreStands seen base s h → IsOne (Sent m via) → HasShown seen base s h stop moment IsOne
wanted_for seen base s h stop moment IsOne m via is stands one =
    elim stands.journal as (λ _. HasShown seen base s h stop moment IsOne) [
      | inl holds ↦ inl (is, inl (recorded_there seen s.journal base h holds))
      | inr torn ↦ inl (is, inr (torn.0, m, via, one))
    ]

-- a call that answers Ok leaves a disk that has not failed
pub up_behind : {A D : Type 0} (seen : D → DiskSeen) (s : Stored D) (r : Result A Stop) → IsDownWhereFailed seen s r → OnOk r (HasFailed seen s → ⊥)
up_behind seen s (Ok done) down = λ failed. absurd (let e = down.0 failed in cc)
up_behind seen s (Err stop) down = tt

pub up_ok : {A D : Type 0} (seen : D → DiskSeen) (s : Stored D) (done : A) → IsDownWhereFailed seen s (Ok done) → HasFailed seen s → ⊥
up_ok seen s done down = up_behind seen s (Ok done) down

-- How a run begins.

-- memory was wanted for a copy of the setup
pub uncopied : {D : Type 0} (seen : D → DiskSeen) (base : Summary) (s : Stored D) (setup : List ℕ) (moment : ℕ) (h : List Entry) → StoreStands seen base s h
    → HoldsRecorded seen s.journal base h → BeginStops seen base setup moment h Memory s s
uncopied seen base s setup moment h stands holds = record {
  history = h;
  came = inl refl;
  stands = stands;
  cause = inl (refl, inl (recorded_there seen s.journal base h holds));
  left = inl (λ t k was. was);
}

-- what a crash leaves of a store that stopped in a beginning
begin_left : {D : Type 0} (seen : D → DiskSeen) (old new : Stored D)
    (counts_now : (d : D) (t : ℕ) (c : Areas) → t ≤ (seen d).moment → (seen d).may_leave c → (seen d).left_since t c)
    (base : Summary) (setup : List ℕ) (moment : ℕ) (h x : List Entry) → (x ≡ h) ⊎ (x ≡ adopted_after base h setup moment) → StoreStands seen base new x
    → LeavesWithin seen old new setup moment → (HasFailed seen old → new ≡ old) → StoreStands seen base old h
    → OrBegun (LeavesOn seen base old new h) (λ event. event ≡ event_of_begin new.state.sum.text setup) new.state.sum.text base setup moment x
begin_left {D} seen old new counts_now base setup moment h x came w any_moment already over =
    elim (fails_or_not seen old)
    as (λ _. OrBegun (LeavesOn seen base old new h) (λ event. event ≡ event_of_begin new.state.sum.text setup) new.state.sum.text base setup moment x) [
      | inl failed ↦ inl (λ t k was.
          subst (λ (s : Stored D). LeavesFrom t k s.at_open (seen s.journal.disk) base x) (sym (already failed))
          (subst (λ (l : List Entry). LeavesFrom t k old.at_open (seen old.journal.disk) base l)
          (sym (none_added base h setup moment seen old new counts_now x came w (already failed) over)) was))
      | inr up ↦ inr (
        refl,
        left_begun seen base old new setup moment h (begun_after base x setup moment) over up any_moment (begun_same base h setup moment x came),
      )
    ]

-- and of one that began the run
pub begin_leaves : {A D : Type 0} (seen : D → DiskSeen) (old new : Stored D) (r : Result A Stop) (setup : List ℕ) (moment : ℕ)
    → LeavesWithin seen old new setup moment → (HasFailed seen old → new ≡ old) → IsDownWhereFailed seen new r
    → OnOk r ((base : Summary) (h : List Entry) → StoreStands seen base old h → LeavesOn seen base old new h (begun_after base h setup moment))
begin_leaves {A} {D} seen old new (Ok done) setup moment any_moment already down = λ base h over.
    left_begun seen base old new setup moment h (begun_after base h setup moment) over
    (λ f. up_ok seen new done down (subst (λ (s : Stored D). HasFailed seen s) (sym (already f)) f)) any_moment refl
begin_leaves seen old new (Err stop) setup moment any_moment already down = tt

-- the store was stopped
pub begin_stops : {D : Type 0} (seen : D → DiskSeen) (old new : Stored D)
    {A : Type 0} (r : Result A Stop) (setup : List ℕ) (moment : ℕ)
    → ((d : D) (t : ℕ) (c : Areas) → t ≤ (seen d).moment → (seen d).may_leave c → (seen d).left_since t c)
    → OnErr r ((base : Summary) (h : List Entry) → StoreStands seen base old h
    → StoreStands seen base new h ⊎ StoreStands seen base new (adopted_after base h setup moment))
    → IfErr r (λ stop. ShowsOfBegin seen new setup moment stop) → LeavesWithin seen old new setup moment → TellsWithin seen old new setup moment
    → (HasFailed seen old → new ≡ old)
    → IfErr r (λ stop. (base : Summary) (h : List Entry) → StoreStands seen base old h → HoldsRecorded seen old.journal base h
    → BeginStops seen base setup moment h stop old new)
begin_stops seen old new (Ok done) setup moment counts_now stops shown any_moment met already = tt
begin_stops seen old new (Err stop) setup moment counts_now stops shown any_moment met already = λ base h over holds.
    let next = event_of_begin new.state.sum.text setup in
    elim (stops base h over) as (λ _. BeginStops seen base setup moment h stop old new) [
      | inl w ↦ record {
        history = h;
        came = inl refl;
        stands = w;
        cause = inr (next, refl, shown, unbegun base h setup moment seen old new counts_now h (inl refl) w any_moment met already over holds);
        left = begin_left seen old new counts_now base setup moment h h (inl refl) w any_moment already over;
      }
      | inr w ↦ record {
        history = adopted_after base h setup moment;
        came = inr refl;
        stands = w;
        cause = inr (
          next,
          refl,
          shown,
          unbegun base h setup moment seen old new counts_now (adopted_after base h setup moment) (inr refl) w any_moment met already over holds,
        );
        left = begin_left seen old new counts_now base setup moment h (adopted_after base h setup moment) (inr refl) w any_moment already over;
      }
    ]

-- the first `T` did not begin it
first_until : {D : Type 0} (seen : D → DiskSeen) (old s : Stored D) (base : Summary) (setup : List ℕ) (moment : ℕ) (h : List Entry) (stop : Stop)
    → BeginStops seen base setup moment h stop old s → TickStops seen None base setup moment h stop old s
first_until seen old s base setup moment h stop w = record {
  history = w.history;
  came = inl (elim w.came as (λ _. BegunUntil None base setup moment h w.history) [ inl before ↦ inl before | inr adopted ↦ inr (inl adopted) ]);
  stands = w.stands;
  cause = shown_as seen base s w.history stop moment (λ event. event ≡ event_of_begin s.state.sum.text setup)
      (IsOfTime s.state.sum.text None setup) (λ event is. inl is) w.cause;
  left = elim w.left as (λ _. OrBegun (LeavesOn seen base old s h) (IsOfTime s.state.sum.text None setup) s.state.sum.text base setup moment w.history) [
    | inl so ↦ inl so
    | inr begun ↦ inr (inl begun.0, begun.1)
  ];
}

pub first_stops : {D : Type 0} (seen : D → DiskSeen) (s s' : Stored D)
    {A : Type 0} (r : Result A Stop) (clock : Option ℕ) (setup : List ℕ) (moment : ℕ) → clock ≡ None
    → IfErr r (λ stop. (base : Summary) (h : List Entry) → StoreStands seen base s h → HoldsRecorded seen s.journal base h
    → BeginStops seen base setup moment h stop s s')
    → IfErr r (λ stop. (base : Summary) (h : List Entry) → StoreStands seen base s h → HoldsRecorded seen s.journal base h → IsReadable base h
    → TickStops seen clock base setup moment h stop s s')
first_stops seen s s' (Ok done) clock setup moment is w = tt
first_stops seen s s' (Err stop) clock setup moment is w = λ base h over holds readable.
    subst (λ (k : Option ℕ). TickStops seen k base setup moment h stop s s') (sym is) (first_until seen s s' base setup moment h stop (w base h over holds))

-- or it did, and a crash leaves no more
pub first_leaves : {D : Type 0} (seen : D → DiskSeen) (s s' : Stored D)
    {A : Type 0} (r : Result A Stop) (clock : Option ℕ) (setup : List ℕ) (moment : ℕ) → clock ≡ None
    → OnOk r ((base : Summary) (h : List Entry) → StoreStands seen base s h → LeavesOn seen base s s' h (begun_after base h setup moment))
    → OnOk r ((base : Summary) (h : List Entry) → StoreStands seen base s h → LeavesOn seen base s s' h (before_tick clock base setup moment h))
first_leaves seen s s' (Ok done) clock setup moment is leaves = λ base h over.
    subst (λ (k : Option ℕ). LeavesOn seen base s s' h (before_tick k base setup moment h)) (sym is) (leaves base h over)
first_leaves seen s s' (Err stop) clock setup moment is leaves = tt

-- or it did, and the journal has what was recorded
pub first_held : {D : Type 0} (seen : D → DiskSeen) (s s' : Stored D)
    {A : Type 0} (r : Result A Stop) (clock : Option ℕ) (setup : List ℕ) (moment : ℕ) → clock ≡ None
    → OnOk r ((base : Summary) (h : List Entry) → StoreStands seen base s h → StoreStands seen base s' (begun_after base h setup moment))
    → OnOk r (HasFailed seen s' → ⊥)
    → OnOk r ((base : Summary) (h : List Entry) → StoreStands seen base s h → HoldsRecorded seen s.journal base h
    → HoldsRecorded seen s'.journal base (before_tick clock base setup moment h))
first_held seen s s' (Ok done) clock setup moment is begun up = λ base h over holds.
    subst (λ (k : Option ℕ). HoldsRecorded seen s'.journal base (before_tick k base setup moment h)) (sym is)
    (held seen base s' (begun_after base h setup moment) up (begun base h over))
first_held seen s s' (Err stop) clock setup moment is begun up = tt

ticked_by : {D : Type 0} {seen : D → DiskSeen} {s' : Stored D} {p p' : PortSeen}
    (base : Summary) (before : List Entry) (moment at : ℕ) (reply : Reply) → Takes seen base s' before moment (entry_with Tick at reply)
    → (HasFailed seen s' → ⊥) → p'.written ≡ append_known p.written (codes "T " ++ line_of reply) → Ticked seen base before moment s' p p'
ticked_by {D} {seen} {s'} {p} {p'} base before moment at reply takes up put =
    let is = entry_is base before Tick moment at reply takes.at takes.reply in
    record {
      stands = subst (λ (e : Entry). StoreStands seen base s' (e ∷ before)) is takes.stands;
      up = up;
      text = put ∙ ap (λ (e : Entry). append_known p.written (codes "T " ++ line_of e.reply)) is;
    }

-- the Tick was taken, and its reply put
pub ticks : {D : Type 0} (seen : D → DiskSeen) (s s' : Stored D) (p p' : PortSeen)
    {A : Type 0} (r : Result A Stop) (before : Summary → List Entry → List Entry) (moment at : ℕ) (reply : Reply)
    → ((base : Summary) (h : List Entry) → StoreStands seen base s h
    → Takes seen base s' (before base h) moment (entry_with Tick at reply)) → (HasFailed seen s' → ⊥)
    → OnOk r (p'.written ≡ append_known p.written (codes "T " ++ line_of reply))
    → OnOk r ((base : Summary) (h : List Entry) → StoreStands seen base s h → Ticked seen base (before base h) moment s' p p')
ticks seen s s' p p' (Ok done) before moment at reply takes up put = λ base h over. ticked_by base (before base h) moment at reply (takes base h over) up put
ticks seen s s' p p' (Err stop) before moment at reply takes up put = tt

-- the Tick was taken, and memory was wanted behind it
unsaid : {D : Type 0} {seen : D → DiskSeen} {s' : Stored D}
    (clock : Option ℕ) (base : Summary) (setup : List ℕ) (moment at : ℕ) (reply : Reply) (h : List Entry) (s : Stored D)
    → Takes seen base s' (before_tick clock base setup moment h) moment (entry_with Tick at reply) → (HasFailed seen s' → ⊥)
    → LeavesOn seen base s s' h (ticked_after clock base setup moment h)
    → TickStops seen clock base setup moment h Memory s s'
unsaid {D} {seen} {s'} clock base setup moment at reply h s takes up left =
    let before = before_tick clock base setup moment h in
    let x = entry_after base before Tick moment ∷ before in
    let is = entry_is base before Tick moment at reply takes.at takes.reply in
    let stands = subst (λ (e : Entry). StoreStands seen base s' (e ∷ before)) is takes.stands in
    record {
      history = x;
      came = inr (refl, refl);
      stands = stands;
      cause = wanted_up seen base s' x Memory moment (IsOfTime s'.state.sum.text clock setup) refl stands up;
      left = inl left;
    }

pub stops_unsaid : {D : Type 0} (seen : D → DiskSeen) (s s' : Stored D)
    {A : Type 0} (r : Result A Stop) (clock : Option ℕ) (setup : List ℕ) (moment at : ℕ) (reply : Reply) → OnErr r (r ≡ Err Memory)
    → ((base : Summary) (h : List Entry) → StoreStands seen base s h
    → Takes seen base s' (before_tick clock base setup moment h) moment (entry_with Tick at reply)) → (HasFailed seen s' → ⊥)
    → ((base : Summary) (h : List Entry) → StoreStands seen base s h → LeavesOn seen base s s' h (ticked_after clock base setup moment h))
    → IfErr r (λ stop. (base : Summary) (h : List Entry) → StoreStands seen base s h → HoldsRecorded seen s.journal base h → IsReadable base h
    → TickStops seen clock base setup moment h stop s s')
stops_unsaid seen s s' r clock setup moment at reply is takes up left =
    of_memory r (λ stop. (base : Summary) (h : List Entry) → StoreStands seen base s h → HoldsRecorded seen s.journal base h → IsReadable base h
    → TickStops seen clock base setup moment h stop s s')
    is (λ base h over holds readable. unsaid clock base setup moment at reply h s (takes base h over) up (left base h over))

-- Once the setup is in force a `T` ticks.
of_tick : (clock : Option ℕ) (force : Option (List ℕ)) (setup : List ℕ) → force ≡ Some setup → IsOfTime force clock setup Tick
of_tick None force setup is = inr (is, refl)
of_tick (Some last) force setup is = refl

-- The Tick, by what submitting it leaves: what a crash leaves where it was taken, and where it was stopped.
module _ {D : Type 0} (seen : D → DiskSeen) (only_now : (d : D) (c : Areas) → (seen d).left_since (seen d).moment c → (seen d).may_leave c)
    (s mid s' : Stored D) (clock : Option ℕ) (setup : List ℕ) (moment : ℕ)
    (begun : (base : Summary) (h : List Entry) → StoreStands seen base s h → StoreStands seen base mid (before_tick clock base setup moment h))
    (first : (base : Summary) (h : List Entry) → StoreStands seen base s h → LeavesOn seen base s mid h (before_tick clock base setup moment h))
    (opened : s'.at_open ≡ mid.at_open) (already : HasFailed seen mid → s' ≡ mid)
    (unrecorded : (base : Summary) (h : List Entry) → StoreStands seen base mid h → (IsToRecord base h Tick moment → ⊥) → IsSameJournal mid.journal s'.journal)
    (any_moment : (base : Summary) (h : List Entry) → StoreStands seen base mid h → (HasFailed seen mid → ⊥)
    → LeavesOnly (seen mid.journal.disk) (seen s'.journal.disk) (StandForEither base h (spelling Tick (moment_after base h moment)))) where
  pub tick_leaves : (HasFailed seen s' → ⊥) → (base : Summary) (h : List Entry) → StoreStands seen base s h
      → LeavesOn seen base s s' h (ticked_after clock base setup moment h)
  tick_leaves up base h over t k was =
      let x = before_tick clock base setup moment h in
      let w = begun base h over in
      leaves_more seen only_now base t k mid s' x Tick moment w opened (unrecorded base x w) (any_moment base x w) (first base h over t k was)
      (λ f. up (subst (λ (q : Stored D). HasFailed seen q) (sym (already f)) f))

  pub tick_left : (stop : Stop) → IsMoment moment → Shows seen s' stop Tick moment → ((IsDown stop → ⊥) → IsSameJournal mid.journal s'.journal)
      → (base : Summary) (h : List Entry) → StoreStands seen base s h → IsReadable base h
      → LeavesOn seen base s s' h (before_tick clock base setup moment h)
  tick_left stop fits shown unwritten base h over readable t k was =
      let x = before_tick clock base setup moment h in
      let w = begun base h over in
      leaves_stopped seen only_now base t k mid s' x Tick moment w opened (unrecorded base x w) (any_moment base x w) (first base h over t k was) tt fits
      (readable_first clock base setup moment h fits w.centre.legal readable).1 already stop shown unwritten

-- and its reply was put
pub ticks_leave : {D : Type 0} (seen : D → DiskSeen) (s s' : Stored D)
    {A : Type 0} (r : Result A Stop) (clock : Option ℕ) (setup : List ℕ) (moment : ℕ)
    → ((base : Summary) (h : List Entry) → StoreStands seen base s h → LeavesOn seen base s s' h (ticked_after clock base setup moment h))
    → OnOk r ((base : Summary) (h : List Entry) → StoreStands seen base s h → LeavesOn seen base s s' h (ticked_after clock base setup moment h))
ticks_leave seen s s' (Ok done) clock setup moment leaves = leaves
ticks_leave seen s s' (Err stop) clock setup moment leaves = tt

-- the run stands begun, and the Tick was stopped
pub stops_before : {D : Type 0} (seen : D → DiskSeen) (s mid s' : Stored D)
    {A : Type 0} (r : Result A Stop) (stop : Stop) (clock : Option ℕ) (setup : List ℕ) (moment : ℕ)
    → ((base : Summary) (h : List Entry) → StoreStands seen base s h → StoreStands seen base mid (before_tick clock base setup moment h))
    → ((base : Summary) (h : List Entry) → StoreStands seen base s h → HoldsRecorded seen s.journal base h
    → HoldsRecorded seen mid.journal base (before_tick clock base setup moment h))
    → r ≡ Err stop → StandsOn seen mid s' → Shows seen s' stop Tick moment → s'.state.sum.text ≡ Some setup
    → (HasFailed seen mid → s' ≡ mid)
    → ((base : Summary) (h : List Entry) → StoreStands seen base mid h → (HasFailed seen mid → ⊥) → (store_seen seen s').torn base h Tick moment)
    → ((base : Summary) (h : List Entry) → StoreStands seen base s h → IsReadable base h
    → LeavesOn seen base s s' h (before_tick clock base setup moment h))
    → IfErr r (λ k. (base : Summary) (h : List Entry) → StoreStands seen base s h → HoldsRecorded seen s.journal base h → IsReadable base h
    → TickStops seen clock base setup moment h k s s')
stops_before {D} seen s mid s' {A} r stop clock setup moment begun holds is stands shown set already met left =
    subst (λ (q : Result A Stop). IfErr q (λ k. (base : Summary) (h : List Entry) → StoreStands seen base s h → HoldsRecorded seen s.journal base h
    → IsReadable base h → TickStops seen clock base setup moment h k s s')) (sym is) (λ base h over had readable.
    let x = before_tick clock base setup moment h in
    let has = holds base h over had in
    let torn = elim (fails_or_not seen mid) as (λ _. (store_seen seen s').torn base x Tick moment) [
      | inl failed ↦ recorded_or (seen s'.journal.disk) base x _
          (subst (λ (k : Stored D). HasRecorded (seen k.journal.disk) base x) (sym (already failed)) (recorded_there seen mid.journal base x has))
      | inr up ↦ met base x (begun base h over) up
    ] in
    record {
      history = x;
      came = inl (until_before clock base setup moment h);
      stands = stands base x (begun base h over);
      cause = inr (Tick, of_tick clock s'.state.sum.text setup set, shown, torn);
      left = inl (left base h over readable);
    })

-- A run was to begin anew, and did not.
pub again_stops : {D : Type 0} (seen : D → DiskSeen) (s s' : Stored D)
    {A : Type 0} (r : Result A Stop) (stop : Stop) (setup : List ℕ) (moment : ℕ) → r ≡ Err stop
    → ((base : Summary) (h : List Entry) → StoreStands seen base s h → HoldsRecorded seen s.journal base h
    → BeginStops seen base setup moment h stop s s')
    → IfErr r (λ k. (base : Summary) (h : List Entry) → StoreStands seen base s h → HoldsRecorded seen s.journal base h
    → AgainStops seen base setup moment h k s s')
again_stops seen s s' {A} r stop setup moment is stops =
    subst (λ (q : Result A Stop). IfErr q (λ k. (base : Summary) (h : List Entry) → StoreStands seen base s h → HoldsRecorded seen s.journal base h
    → AgainStops seen base setup moment h k s s')) (sym is) (λ base h over holds.
    let w = stops base h over holds in
    record {
      history = w.history;
      came = elim w.came as (λ _. BegunAgain stop base setup moment h w.history) [ inl before ↦ inl before | inr adopted ↦ inr (inl adopted) ];
      stands = w.stands;
      cause = w.cause;
      left = w.left;
    })

-- it did, and memory was wanted behind it
pub again_unsaid : {D : Type 0} (seen : D → DiskSeen) (s s' : Stored D)
    {A : Type 0} (r : Result A Stop) (setup : List ℕ) (moment : ℕ)
    → OnErr r (r ≡ Err Memory) → ((base : Summary) (h : List Entry) → StoreStands seen base s h → StoreStands seen base s' (begun_after base h setup moment))
    → (HasFailed seen s' → ⊥)
    → ((base : Summary) (h : List Entry) → StoreStands seen base s h → LeavesOn seen base s s' h (begun_after base h setup moment))
    → IfErr r (λ stop. (base : Summary) (h : List Entry) → StoreStands seen base s h → HoldsRecorded seen s.journal base h
    → AgainStops seen base setup moment h stop s s')
again_unsaid seen s s' r setup moment is begun up left =
    of_memory r (λ stop. (base : Summary) (h : List Entry) → StoreStands seen base s h → HoldsRecorded seen s.journal base h
    → AgainStops seen base setup moment h stop s s') is (λ base h over holds. record {
      history = begun_after base h setup moment;
      came = inr (inr (refl, refl));
      stands = begun base h over;
      cause = wanted_up seen base s' (begun_after base h setup moment) Memory moment (λ event. event ≡ event_of_begin s'.state.sum.text setup) refl
          (begun base h over) up;
      left = inl (left base h over);
    })
