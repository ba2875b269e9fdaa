-- What a ticker has done between two moments.
use Rattle.std.proofs.Common.{◌≡◌, ◌+◌, ◌-◌, ◌^◌, ℕ, List, [], ◌∷◌, ◌++◌, Option, Some, None, refl, sym, ap, ◌∙◌, subst, arith, append_assoc, append-nil}
use Rattle.std.proofs.lemmas.List.{map-append, reverse-append}
use Rattle.std.proofs.lemmas.List.Sums.{sum_by-append}
use Rattle.std.specs.Option.{option_to_list}
use Rattle.std.specs.Prelude.{◌≢◌, min, cond, is_none, count_by, flat_map, map, reverse}
use Rattle.arc_doors.specs.Pulses.{Moments, HasNoMoment, TakesMoment}
use Rattle.centre_core.specs.declared.hall.Stop.{Stop}
use Rattle.centre_core.specs.declared.hall.Stop.TheVariants.{Memory}
use Rattle.line_gate.proofs.Carried.{later_self, later_further}
use Rattle.line_gate.specs.Entries.{Entry}
use Rattle.line_gate.specs.Passes.{PassSeen, IsPass, IsLater}
use Rattle.line_gate.specs.Terms.{Terms}
use Rattle.arc_serving.proofs.Links.{turn_more}
use Rattle.arc_serving.specs.Served.{InTurn, Moves}
use Rattle.arc_serving.specs.Ticks.{Ticking, MakesTick, IsTicked, MovesMoments, WorksTicks, TicksOnce, missed_in}

abbrev moments_in : List Ticking → List ℕ
moments_in ticks = map (λ s. s.moment) ticks

abbrev ticks_in : List Ticking → List Entry
ticks_in ticks = flat_map (λ s. option_to_list s.entry) ticks

-- these Ticks were submitted
pub record HasTickedSo (t : Terms) (p q : PassSeen) (pulse pulse' : Option Moments) (ticks : List Ticking) : Type 0 where
  pub each : InTurn (IsTicked t) p q ticks
  pub moments : Moves (MovesMoments ticks) pulse pulse'
  pub pass : IsPass t q

-- and each that has no entry was refused memory
pub record TickedSoFar (t : Terms) (p q : PassSeen) (pulse pulse' : Option Moments) (refused : ℕ) : Type 0 where
  pub ticks : List Ticking
  pub so : HasTickedSo t p q pulse pulse' ticks
  pub refused_is : refused ≡ missed_in ticks

no_moments : (pulse : Option Moments) → Moves (MovesMoments []) pulse pulse
no_moments None = tt
no_moments (Some old) = record { left = refl; given = sym (append-nil old.given) }

-- before the first moment
pub no_ticks : (t : Terms) (p : PassSeen) (pulse : Option Moments) → IsPass t p → TickedSoFar t p p pulse pulse 0
no_ticks t p pulse pass = record { ticks = []; so = record { each = refl; moments = no_moments pulse; pass = pass }; refused_is = refl }

-- what the pass has seen after Ticks begins with what it had seen
pub ticks_later : (t : Terms) (p q : PassSeen) (ss : List Ticking) → InTurn (IsTicked t) p q ss → IsLater p q
ticks_later t p q [] w = subst (IsLater p) (sym w) (later_self p)
ticks_later t p q (s ∷ ss) w = later_further p w.0 q w.1.later (ticks_later t w.0 q ss w.2)

moments_more : (ss : List Ticking) (s : Ticking) (pulse first last : Option Moments) → Moves (MovesMoments ss) pulse first → TakesMoment s.moment first last → Moves (MovesMoments (ss ++ s ∷ [])) pulse last
moments_more ss s None None last w takes = subst (Moves (MovesMoments (ss ++ s ∷ [])) None) (sym takes) tt
moments_more ss s (Some old) (Some new) last w takes = subst (Moves (MovesMoments (ss ++ s ∷ [])) (Some old)) (sym takes.2) (record {
  left = w.left ∙ ap (λ (l : List ℕ). moments_in ss ++ l) takes.1 ∙ sym (append_assoc (moments_in ss) (s.moment ∷ []) takes.0) ∙ ap (λ (l : List ℕ). l ++ takes.0) (sym (map-append (λ (x : Ticking). x.moment) ss (s ∷ [])));
  given = ap (λ (l : List ℕ). l ++ s.moment ∷ []) w.given ∙ append_assoc old.given (moments_in ss) (s.moment ∷ []) ∙ ap (λ (l : List ℕ). old.given ++ l) (sym (map-append (λ (x : Ticking). x.moment) ss (s ∷ [])));
})
moments_more ss s None (Some new) last w takes = absurd w
moments_more ss s (Some old) None last w takes = absurd w

made_once : (t : Terms) (p q : PassSeen) (moment : ℕ) (o : Option Entry) → MakesTick t p q moment o → q.made ≡ reverse (option_to_list o) ++ p.made
made_once t p q moment (Some e) w = w.0.made
made_once t p q moment None w = w

-- the pass made the entries of its Ticks
pub ticks_made : (t : Terms) (p q : PassSeen) (ss : List Ticking) → InTurn (IsTicked t) p q ss → q.made ≡ reverse (ticks_in ss) ++ p.made
ticks_made t p q [] w = ap (λ (k : PassSeen). k.made) w
ticks_made t p q (s ∷ ss) w =
    let one = option_to_list s.entry in
    ticks_made t w.0 q ss w.2 ∙ ap (λ (l : List Entry). reverse (ticks_in ss) ++ l) (made_once t p w.0 s.moment s.entry w.1.makes)
    ∙ sym (append_assoc (reverse (ticks_in ss)) (reverse one) p.made) ∙ ap (λ (l : List Entry). l ++ p.made) (sym (reverse-append one (ticks_in ss)))

-- one more Tick
so_more : (t : Terms) (p m q : PassSeen) (pulse first last : Option Moments) (ss : List Ticking) (s : Ticking) → HasTickedSo t p m pulse first ss → TakesMoment s.moment first last → IsTicked t m q s
    → HasTickedSo t p q pulse last (ss ++ s ∷ [])
so_more t p m q pulse first last ss s w takes one = record {
  each = turn_more (IsTicked t) p m q ss s w.each one;
  moments = moments_more ss s pulse first last w.moments takes;
  pass = one.pass;
}

-- how many have no entry, with one more
missed_more : (ss : List Ticking) (s : Ticking) → missed_in (ss ++ s ∷ []) ≡ min (count_by (λ (x : Ticking). is_none x.entry) ss + cond (is_none s.entry) 1 0) (2 ^ 64 - 1)
missed_more ss s =
    let one : count_by (λ (x : Ticking). is_none x.entry) (ss ++ s ∷ []) ≡ count_by (λ (x : Ticking). is_none x.entry) ss + cond (is_none s.entry) 1 0 = omega (arith, sum_by-append (λ (x : Ticking). cond (is_none x.entry) 1 0) ss (s ∷ [])) in
    ap (λ (n : ℕ). min n (2 ^ 64 - 1)) one

pub answered : (t : Terms) (p m q : PassSeen) (pulse first last : Option Moments) (refused moment : ℕ) → TickedSoFar t p m pulse first refused → TakesMoment moment first last
    → TicksOnce t m q moment None → TickedSoFar t p q pulse last refused
answered t p m q pulse first last refused moment w takes one =
    let s : Ticking = record { moment = moment; entry = Some one.0 } in record {
      ticks = w.ticks ++ s ∷ [];
      so = so_more t p m q pulse first last w.ticks s w.so takes one.1;
      refused_is = omega (arith, w.refused_is, missed_more w.ticks s);
    }

pub missed : (t : Terms) (p m q : PassSeen) (pulse first last : Option Moments) (refused refused' moment : ℕ) (stop : Stop) → TickedSoFar t p m pulse first refused → TakesMoment moment first last
    → TicksOnce t m q moment (Some stop) → refused' ≡ min (refused + 1) (2 ^ 64 - 1) → TickedSoFar t p q pulse last refused'
missed t p m q pulse first last refused refused' moment stop w takes one more =
    let s : Ticking = record { moment = moment; entry = None } in record {
      ticks = w.ticks ++ s ∷ [];
      so = so_more t p m q pulse first last w.ticks s w.so takes one.0;
      refused_is = omega (arith, more, w.refused_is, missed_more w.ticks s);
    }

pub tick_stopped : (t : Terms) (p m q : PassSeen) (pulse first last : Option Moments) (refused moment : ℕ) (stop : Stop) → stop ≢ Memory → TickedSoFar t p m pulse first refused
    → TakesMoment moment first last → TicksOnce t m q moment (Some stop) → WorksTicks t p q pulse last (record { stop = Some stop; refused = refused })
tick_stopped t p m q pulse first last refused moment stop other w takes one =
    let s : Ticking = record { moment = moment; entry = None } in
    let so = so_more t p m q pulse first last w.ticks s w.so takes one.0 in record {
      ticks = w.ticks ++ s ∷ [];
      each = so.each;
      moments = so.moments;
      ended = record { front = w.ticks; last = s; parts = refl; none = refl; other = other; shown = one.1; missed = w.refused_is };
    }

pub pulse_ended : (t : Terms) (p q : PassSeen) (pulse first last : Option Moments) (refused : ℕ) → TickedSoFar t p q pulse first refused → last ≡ first → HasNoMoment first
    → WorksTicks t p q pulse last (record { stop = None; refused = refused })
pulse_ended t p q pulse first last refused w same none = record {
  ticks = w.ticks;
  each = w.so.each;
  moments = subst (Moves (MovesMoments w.ticks) pulse) (sym same) w.so.moments;
  ended = (subst HasNoMoment (sym same) none, w.refused_is);
}
