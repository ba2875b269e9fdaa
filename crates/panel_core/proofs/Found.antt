-- Which event is in flight and which wait, by what a panel keeps.
use Rattle.std.proofs.Common.{◌≡◌, ℕ, zero, suc, ◌+◌, ◌-◌, ◌<◌, ◌≤◌, List, [], ◌∷◌, length, Bool, true, false, cond, ltb, eqb, Option, Some, None, refl, sym, ap, ◌∙◌, arith}
use Rattle.std.proofs.lemmas.Bool.{ltb-true, ltb-false, eqb-true}
use Rattle.std.specs.Option.{option_map}
use Rattle.panel_rules.specs.declared.Fate.{Fate}
use Rattle.panel_rules.specs.declared.Fate.TheVariants.{Waiting, InFlight, Acked, GivenUp}
use Rattle.panel_rules.specs.declared.Report.{Report}
use Rattle.panel_rules.specs.Marks.{Mark, count, fate, in_flight, is_acked, is_in_flight, is_waiting, oldest_waiting, waiting}
use Rattle.panel_rules.specs.Panels.{Setting}
use Rattle.panel_core.specs.declared.flight.Flight.{Flight}
use Rattle.panel_core.specs.Standing.{HasEnded, Flies, IsLast, Keeps, PanelValue}
use Rattle.panel_core.proofs.Fates.{fate_unsent, fate_ended, fate_flying}
use Rattle.panel_core.proofs.Ranges.{find_nothing, find_first, filter_from}

-- An event that has ended neither waits nor is in flight; one that was not sent waits.

ends_idle : (b : Bool) → is_in_flight (cond b Acked GivenUp) ≡ false
ends_idle true = refl
ends_idle false = refl

ends_past : (b : Bool) → is_waiting (cond b Acked GivenUp) ≡ false
ends_past true = refl
ends_past false = refl

ended_idle : (n : ℕ) (ms : List Mark) → HasEnded n ms → is_in_flight (fate ms n) ≡ false
ended_idle n ms e = ap is_in_flight (fate_ended n ms e) ∙ ends_idle (is_acked n ms)

ended_past : (n : ℕ) (ms : List Mark) → HasEnded n ms → is_waiting (fate ms n) ≡ false
ended_past n ms e = ap is_waiting (fate_ended n ms e) ∙ ends_past (is_acked n ms)

flying : (s : Setting) (ms : List Mark) (n : ℕ) (f : Flight) → Flies s ms n f → fate ms n ≡ InFlight
flying s ms n f fl = fate_flying n ms f.first fl.first_at fl.unacked fl.timely

-- the last one sent does not wait
last_past : (s : Setting) (ms : List Mark) (n : ℕ) (o : Option Flight) → IsLast s ms n o → 1 ≤ n → is_waiting (fate ms n) ≡ false
last_past s ms n None is some = ended_past n ms (is some)
last_past s ms n (Some f) is some = ap is_waiting (flying s ms n f is)

module _ (s : Setting) (ms : List Mark) (p : PanelValue) (k : Keeps s ms p) where
  sent_past : (n : ℕ) → 1 ≤ n → n ≤ p.sent → (b : Bool) → ltb n p.sent ≡ b → is_waiting (fate ms n) ≡ false
  sent_past n some few true below = ended_past n ms (k.ended n some (ltb-true n p.sent below))
  sent_past n some few false below = let same : p.sent ≡ n = omega (arith, ltb-false n p.sent below) in rw (sym same) (last_past s ms p.sent p.flight k.last_is (omega arith))

  -- events that were sent don't wait
  sent_waits_not : (n : ℕ) → 1 ≤ n → n ≤ p.sent → is_waiting (fate ms n) ≡ false
  sent_waits_not n some few = sent_past n some few (ltb n p.sent) refl

  -- the others wait
  others_wait : (n : ℕ) → p.sent < n → is_waiting (fate ms n) ≡ true
  others_wait n more = ap is_waiting (fate_unsent n ms (k.unsent n more))

  others_idle : (n : ℕ) → p.sent < n → is_in_flight (fate ms n) ≡ false
  others_idle n more = ap is_in_flight (fate_unsent n ms (k.unsent n more))

  -- how many wait
  pub waiting_count : length (waiting ms) ≡ length p.waiting
  waiting_count = filter_from (λ n. is_waiting (fate ms n)) 1 (count ms) (p.sent + 1) (λ n low high. sent_waits_not n low (omega arith)) (λ n low high. others_wait n (omega arith)) (omega arith) (omega (arith, k.counted)) ∙ omega (arith, k.counted)

  -- the oldest one that waits is the one after those sent
  pub oldest_some : 0 < length p.waiting → oldest_waiting ms ≡ Some (p.sent + 1)
  oldest_some some = find_first (λ n. is_waiting (fate ms n)) 1 (count ms) (p.sent + 1) (λ n low high. sent_waits_not n low (omega arith)) (others_wait (p.sent + 1) (omega arith)) (omega arith) (omega (arith, k.counted))

  pub oldest_none : length p.waiting ≡ 0 → oldest_waiting ms ≡ None
  oldest_none none = find_nothing (λ n. is_waiting (fate ms n)) 1 (count ms) (λ n low high. sent_waits_not n low (omega (arith, k.counted)))

  idle_by : (n : ℕ) → 1 ≤ n → HasEnded p.sent ms → (b : Bool) → ltb n p.sent ≡ b → (d : Bool) → ltb p.sent n ≡ d → is_in_flight (fate ms n) ≡ false
  idle_by n some e true below d above = ended_idle n ms (k.ended n some (ltb-true n p.sent below))
  idle_by n some e false below true above = others_idle n (ltb-true p.sent n above)
  idle_by n some e false below false above = let same : p.sent ≡ n = omega (arith, ltb-false n p.sent below, ltb-false p.sent n above) in rw (sym same) (ended_idle p.sent ms e)

  -- where no sent event is in flight, none is
  pub flight_none : (1 ≤ p.sent → HasEnded p.sent ms) → in_flight ms ≡ None
  flight_none ends = find_nothing (λ n. is_in_flight (fate ms n)) 1 (count ms) (λ n low high. idle_any n low (ltb 0 p.sent) refl)
    where
      idle_any : (n : ℕ) → 1 ≤ n → (b : Bool) → ltb 0 p.sent ≡ b → is_in_flight (fate ms n) ≡ false
      idle_any n low true some = idle_by n low (ends (ltb-true 0 p.sent some)) (ltb n p.sent) refl (ltb p.sent n) refl
      idle_any n low false some = others_idle n (omega (arith, ltb-false 0 p.sent some))

  -- where the last one sent is in flight, it is the one
  pub flight_some : (f : Flight) → Flies s ms p.sent f → in_flight ms ≡ Some p.sent
  flight_some f fl = find_first (λ n. is_in_flight (fate ms n)) 1 (count ms) p.sent (λ n low high. ended_idle n ms (k.ended n low high)) (ap is_in_flight (flying s ms p.sent f fl)) fl.some (omega (arith, k.counted))
