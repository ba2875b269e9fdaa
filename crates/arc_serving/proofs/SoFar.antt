-- What a worker has done between two links, and what it then says at its end.
use Rattle.std.proofs.Common.{◌≡◌, ◌≤◌, ◌<◌, ◌+◌, ℕ, List, [], ◌∷◌, ◌++◌, Bool, true, false, Option, Some, None, refl, sym, subst, arith, length-append, ⊎_elim}
use Rattle.std.proofs.lemmas.List.Elements.{All-nil, All-push}
use Rattle.std.proofs.lemmas.List.Sums.{sum_by-append}
use Rattle.std.specs.Prelude.{length, cond, count_by, Result, Ok, Err}
use Rattle.arc_data.specs.declared.event.Event.{Event}
use Rattle.arc_doors.specs.Doors.{DoorSeen, HasNoneLeft}
use Rattle.arc_io.specs.Causes.{Rose}
use Rattle.arc_io.specs.declared.traits.Failed.{Failed}
use Rattle.session_rules.proofs.Ports.{rose_since}
use Rattle.arc_serving.specs.Sessions.{ShowsEnd}
use Rattle.arc_serving.specs.declared.session.SessionEnd.{SessionEnd}
use Rattle.arc_serving.specs.declared.session.SessionEnd.TheVariants.{Quit, InputEnded, ReadFault, WriteFault, Spent, Stopped}
use Rattle.arc_serving.specs.declared.side.Side.{Side}
use Rattle.centre_core.specs.declared.hall.Stop.{Stop}
use Rattle.centre_core.specs.declared.hall.Stop.TheVariants.{Memory, Down, Full, Worn}
use Rattle.line_gate.specs.AtGates.{gate_seen}
use Rattle.line_gate.specs.Passes.{PassSeen, IsPass, PassShows}
use Rattle.line_gate.specs.Terms.{Terms}
use Rattle.session_rules.specs.Sessions.{IsShownFor}
use Rattle.arc_serving.proofs.Links.{none_served, one_more, turn_more}
use Rattle.arc_serving.specs.Next.{ServesOne, IsAsBefore, ServesNext}
use Rattle.arc_serving.specs.Served.{InTurn, Moves, Served, IsServed, MovesLinks}
use Rattle.arc_serving.specs.Works.{WentOn, EndsWork, Works, is_refused, stop_of}
use Rattle.arc_serving.specs.declared.working.WorkerEnd.{WorkerEnd}
use Rattle.arc_serving.specs.declared.working.WorkerEnd.TheVariants.{DoorEnded, Quota, DoorFault, Stopped as WorkerStopped}

abbrev refused_in : List Served → ℕ
refused_in served = count_by (λ s. is_refused s.end) served

-- the pass shows the stop for some event at some reading of the clock
abbrev IsShown : Terms → PassSeen → Stop → Type 0
IsShown t q stop = (event : Event) × (clock : ℕ) × PassShows t q stop event clock

-- these links were served
pub record HasDone (side : Side) (t : Terms) (p q : PassSeen) (door door' : DoorSeen) (count refused sessions : ℕ) (served : List Served) : Type 0 where
  pub each : InTurn (IsServed side t) p q served
  pub links : Moves (MovesLinks served) door.links door'.links
  pub count_is : count ≡ length served
  pub refused_is : refused ≡ refused_in served
  pub few : refused ≤ count
  pub most : count ≤ sessions
  pub later : door.faults ≤ door'.faults

-- and the worker went on after each of them
pub record SoFar (side : Side) (t : Terms) (p q : PassSeen) (door door' : DoorSeen) (count refused sessions : ℕ) : Type 0 where
  pub served : List Served
  pub done : HasDone side t p q door door' count refused sessions served
  pub on : WentOn served
  pub pass : IsPass t q

-- before the first link
pub none_yet : (side : Side) (t : Terms) (p : PassSeen) (door : DoorSeen) (sessions : ℕ) → IsPass t p → SoFar side t p p door door 0 0 sessions
none_yet side t p door sessions pass = record {
  served = [];
  done = record { each = refl; links = none_served door.links; count_is = refl; refused_is = refl; few = omega arith; most = omega arith; later = omega arith };
  on = All-nil (λ (s : Served). stop_of s.end ≡ None);
  pass = pass;
}

-- one more of two at most
cond_few : (b : Bool) → cond b 1 0 ≤ 1
cond_few true = omega arith
cond_few false = omega arith

-- one more link, whatever its end
done_more : (side : Side) (t : Terms) (p m q : PassSeen) (door first last : DoorSeen) (count refused refused' sessions : ℕ) (ss : List Served) (end : SessionEnd)
    → HasDone side t p m door first count refused sessions ss → (one : ServesOne side t m q first last end)
    → count < sessions → refused' ≡ refused + cond (is_refused end) 1 0
    → HasDone side t p q door last (count + 1) refused' sessions (ss ++ one.link ∷ [])
done_more side t p m q door first last count refused refused' sessions ss end w one room is =
    let more : refused' ≡ refused + cond (is_refused one.link.end) 1 0 = subst (λ (e : SessionEnd). refused' ≡ refused + cond (is_refused e) 1 0) (sym one.ended) is in record {
      each = turn_more (IsServed side t) p m q ss one.link w.each one.served;
      links = one_more ss one.link door.links first.links one.out last.links w.links one.takes one.gets;
      count_is = omega (arith, length-append ss (one.link ∷ []), w.count_is);
      refused_is = omega (arith, more, w.refused_is, sum_by-append (λ (x : Served). cond (is_refused x.end) 1 0) ss (one.link ∷ []));
      few = omega (arith, is, w.few, cond_few (is_refused end));
      most = omega arith;
      later = omega (arith, w.later, one.later);
    }

pub so_far_more : (side : Side) (t : Terms) (p m q : PassSeen) (door first last : DoorSeen) (count refused refused' sessions : ℕ) (end : SessionEnd)
    → SoFar side t p m door first count refused sessions → ServesOne side t m q first last end
    → count < sessions → refused' ≡ refused + cond (is_refused end) 1 0 → stop_of end ≡ None
    → SoFar side t p q door last (count + 1) refused' sessions
so_far_more side t p m q door first last count refused refused' sessions end w one room is on = record {
  served = w.served ++ one.link ∷ [];
  done = done_more side t p m q door first last count refused refused' sessions w.served end w.done one room is;
  on = All-push (λ (x : Served). stop_of x.end ≡ None) w.served one.link w.on (subst (λ (e : SessionEnd). stop_of e ≡ None) (sym one.ended) on);
  pass = one.served.pass;
}

-- a call of the door that gave no link
done_still : (side : Side) (t : Terms) (p m q : PassSeen) (door first last : DoorSeen) (count refused sessions : ℕ) (ss : List Served)
    → HasDone side t p m door first count refused sessions ss → IsAsBefore m q first last → HasDone side t p q door last count refused sessions ss
done_still side t p m q door first last count refused sessions ss w same = record {
  each = subst (λ (k : PassSeen). InTurn (IsServed side t) p k ss) (sym same.pass) w.each;
  links = subst (Moves (MovesLinks ss) door.links) (sym same.links) w.links;
  count_is = w.count_is;
  refused_is = w.refused_is;
  few = w.few;
  most = w.most;
  later = omega (arith, w.later, same.later);
}

-- a worker that ends says this
works : (side : Side) (t : Terms) (p q : PassSeen) (door door' : DoorSeen) (count refused sessions : ℕ) (end : WorkerEnd) (served : List Served)
    → HasDone side t p q door door' count refused sessions served → EndsWork end t q door door' sessions served
    → Works side t p q door door' sessions (record { end = end; refused = refused })
works side t p q door door' count refused sessions end served w ended = record {
  served = served;
  each = w.each;
  links = w.links;
  most = omega (arith, w.most, w.count_is);
  refused = w.refused_is;
  ended = ended;
}

-- The ends of a worker of which the last link was not stopped.

pub works_quota : (side : Side) (t : Terms) (p q : PassSeen) (door door' : DoorSeen) (count refused sessions : ℕ) → SoFar side t p q door door' count refused sessions → count ≡ sessions
    → Works side t p q door door' sessions (record { end = Quota; refused = refused })
works_quota side t p q door door' count refused sessions w all =
    works side t p q door door' count refused sessions Quota w.served w.done (omega (arith, w.done.count_is, all), w.on)

pub works_ended : (side : Side) (t : Terms) (p m q : PassSeen) (door first last : DoorSeen) (count refused sessions : ℕ) (r : Result (Option SessionEnd) Failed) (o : Option SessionEnd)
    → SoFar side t p m door first count refused sessions → ServesNext side t m q first last r → r ≡ Ok o → o ≡ None → count < sessions
    → Works side t p q door last sessions (record { end = DoorEnded; refused = refused })
works_ended side t p m q door first last count refused sessions r o w next is none few =
    let same : IsAsBefore m q first last × HasNoneLeft first.links =
    subst (λ (x : Option SessionEnd). ServesNext side t m q first last (Ok x)) none (subst (λ (x : Result (Option SessionEnd) Failed). ServesNext side t m q first last x) is next) in
    works side t p q door last count refused sessions DoorEnded w.served (done_still side t p m q door first last count refused sessions w.served w.done same.0)
    (subst HasNoneLeft (sym same.0.links) same.1, w.on, omega (arith, w.done.count_is, few))

pub works_faulted : (side : Side) (t : Terms) (p m q : PassSeen) (door first last : DoorSeen) (count refused sessions before now : ℕ) (r : Result (Option SessionEnd) Failed) (e : Failed)
    → SoFar side t p m door first count refused sessions → ServesNext side t m q first last r → r ≡ Err e → count < sessions → before ≡ door.faults → now ≡ last.faults
    → Works side t p q door last sessions (record { end = DoorFault before now; refused = refused })
works_faulted side t p m q door first last count refused sessions before now r e w next is few is_before is_now =
    let same : IsAsBefore m q first last × Rose first.faults last.faults = subst (λ (x : Result (Option SessionEnd) Failed). ServesNext side t m q first last x) is next in
    let rose : Rose before now = subst (λ (x : ℕ). Rose x now) (sym is_before) (subst (λ (y : ℕ). Rose door.faults y) (sym is_now) (rose_since door.faults first.faults last.faults w.done.later same.1)) in
    works side t p q door last count refused sessions (DoorFault before now) w.served (done_still side t p m q door first last count refused sessions w.served w.done same.0)
    (is_before, is_now, rose, w.on, omega (arith, w.done.count_is, few))

-- a link that was served
pub next_served : (side : Side) (t : Terms) (m q : PassSeen) (first last : DoorSeen) (r : Result (Option SessionEnd) Failed) (o : Option SessionEnd) (end : SessionEnd)
    → ServesNext side t m q first last r → r ≡ Ok o → o ≡ Some end → ServesOne side t m q first last end
next_served side t m q first last r o end next is some =
    subst (λ (x : Option SessionEnd). ServesNext side t m q first last (Ok x)) some (subst (λ (x : Result (Option SessionEnd) Failed). ServesNext side t m q first last x) is next)

-- A stop that ends the worker is shown by its pass.

shown_other : (t : Terms) (q : PassSeen) (found stop : Stop) → found ≡ stop → (found ≡ Memory → ⊥) → IsShownFor (gate_seen t q) found → IsShown t q stop
shown_other t q found stop is other shown = ⊎_elim
    (λ (e : found ≡ Memory). absurd (other e))
    (λ (e : (event : Event) × (clock : ℕ) × PassShows t q found event clock). subst (IsShown t q) is e)
    shown

shown_by_stop : (t : Terms) (q : PassSeen) (found stop : Stop) → IsShownFor (gate_seen t q) found → stop_of (Stopped found) ≡ Some stop → IsShown t q stop
shown_by_stop t q Memory stop shown is = absurd (cc)
shown_by_stop t q (Down at_open now) stop shown is = shown_other t q (Down at_open now) stop (cc) (λ e. absurd (cc)) shown
shown_by_stop t q (Full used need records) stop shown is = shown_other t q (Full used need records) stop (cc) (λ e. absurd (cc)) shown
shown_by_stop t q (Worn count) stop shown is = shown_other t q (Worn count) stop (cc) (λ e. absurd (cc)) shown

shown_by : (t : Terms) (q : PassSeen) (end : SessionEnd) (stop : Stop) → ShowsEnd end (gate_seen t q) → stop_of end ≡ Some stop → IsShown t q stop
shown_by t q Quit stop shown is = absurd (cc)
shown_by t q InputEnded stop shown is = absurd (cc)
shown_by t q ReadFault stop shown is = absurd (cc)
shown_by t q WriteFault stop shown is = absurd (cc)
shown_by t q Spent stop shown is = absurd (cc)
shown_by t q (Stopped found) stop shown is = shown_by_stop t q found stop shown is

-- a worker whose last link was stopped
pub works_stopped : (side : Side) (t : Terms) (p m q : PassSeen) (door first last : DoorSeen) (count refused refused' sessions : ℕ) (end : SessionEnd) (stop : Stop)
    → SoFar side t p m door first count refused sessions → ServesOne side t m q first last end
    → count < sessions → refused' ≡ refused + cond (is_refused end) 1 0 → stop_of end ≡ Some stop
    → Works side t p q door last sessions (record { end = WorkerStopped stop; refused = refused' })
works_stopped side t p m q door first last count refused refused' sessions end stop w one room is stops =
    let shown = shown_by t q end stop one.shown stops in
    works side t p q door last (count + 1) refused' sessions (WorkerStopped stop) (w.served ++ one.link ∷ [])
    (done_more side t p m q door first last count refused refused' sessions w.served end w.done one room is) (
      record { front = w.served; last = one.link; parts = refl; others = w.on; end = subst (λ (e : SessionEnd). stop_of e ≡ Some stop) (sym one.ended) stops },
      shown.0,
      shown.1,
      shown.2,
    )
