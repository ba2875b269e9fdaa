-- What came of an event, by its copies and by what is marked of it.
use Rattle.std.proofs.Common.{◌≡◌, ℕ, zero, suc, ◌+◌, ◌-◌, ◌<◌, ◌≤◌, List, [], ◌∷◌, length, Bool, true, false, cond, ◌||◌, Option, Some, None, refl, sym, ap, ◌∙◌, arith}
use Rattle.std.proofs.lemmas.Bool.{or_left, or_right, or_from, or_parts}
use Rattle.std.specs.List.{last_or}
use Rattle.panel_rules.specs.declared.Fate.{Fate}
use Rattle.panel_rules.specs.declared.Fate.TheVariants.{Waiting, InFlight, Acked, GivenUp}
use Rattle.panel_rules.specs.Marks.{Mark, Takes, Steps, Acks, copies, fate, first_copy, is_acked, is_event, is_late}
use Rattle.panel_rules.proofs.MarkLaws.{last_more}
use Rattle.panel_core.specs.Standing.{HasEnded}

-- The first copy stays, whatever is marked.

pub copied_more : (b : Bool) (t : ℕ) (ts : List ℕ) (f : ℕ) → last_or None ts ≡ Some f → last_or None (cond b (t ∷ ts) ts) ≡ Some f
copied_more true t ts f is = last_more t f ts is
copied_more false t ts f is = is

pub first_stays : (n : ℕ) (m : Mark) (ms : List Mark) (f : ℕ) → first_copy n ms ≡ Some f → first_copy n (m ∷ ms) ≡ Some f
first_stays n (Takes report) ms f is = is
first_stays n (Steps now sent) ms f is = copied_more (is_event n sent) now (copies n ms) f is
first_stays n (Acks k) ms f is = is

-- What is late stays so.

pub late_stays : (m : Mark) (ms : List Mark) (f : ℕ) → is_late ms f ≡ true → is_late (m ∷ ms) f ≡ true
late_stays (Takes report) ms f is = is
late_stays (Steps now sent) ms f is = or_right _ _ is
late_stays (Acks k) ms f is = is

over_from : (a l b k : Bool) → (a || l) ≡ true → (a ≡ true → b ≡ true) → (l ≡ true → k ≡ true) → (b || k) ≡ true
over_from true l b k is fa fl = or_left b k (fa refl)
over_from false true b k is fa fl = or_right b k (fl refl)
over_from false false b k is fa fl = absurd cc

-- an event that has ended stays so, whatever is marked
pub ended_stays : (n : ℕ) (m : Mark) (ms : List Mark) → HasEnded n ms → HasEnded n (m ∷ ms)
ended_stays n m ms e = record {
  first = e.first;
  copied = first_stays n m ms e.first e.copied;
  over = over_from (is_acked n ms) (is_late ms e.first) (is_acked n (m ∷ ms)) (is_late (m ∷ ms) e.first) e.over (or_right _ _) (late_stays m ms e.first);
}

-- The fates.

pub fate_unsent : (n : ℕ) (ms : List Mark) → copies n ms ≡ [] → fate ms n ≡ Waiting
fate_unsent n ms none = rw none refl

by_end : (a l : Bool) → (a || l) ≡ true → cond a Acked (cond l GivenUp InFlight) ≡ cond a Acked GivenUp
by_end true l is = refl
by_end false true is = refl
by_end false false is = absurd cc

pub fate_ended : (n : ℕ) (ms : List Mark) → HasEnded n ms → fate ms n ≡ cond (is_acked n ms) Acked GivenUp
fate_ended n ms e = rw e.copied (by_end (is_acked n ms) (is_late ms e.first) e.over)

by_flight : (a l : Bool) → a ≡ false → l ≡ false → cond a Acked (cond l GivenUp InFlight) ≡ InFlight
by_flight true l ea el = absurd cc
by_flight false true ea el = absurd cc
by_flight false false ea el = refl

pub fate_flying : (n : ℕ) (ms : List Mark) (first : ℕ) → first_copy n ms ≡ Some first → is_acked n ms ≡ false → is_late ms first ≡ false → fate ms n ≡ InFlight
fate_flying n ms first is unacked timely = rw is (by_flight (is_acked n ms) (is_late ms first) unacked timely)
