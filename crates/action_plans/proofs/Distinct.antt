-- Words of which none stands twice are at most seven, and one more that is not among them goes on so.
use Rattle.std.proofs.Common.{◌≡◌, ◌<◌, ◌≤◌, ℕ, ◌+◌, List, [], ◌∷◌, ◌++◌, Bool, true, false, cond, nat_eq, refl, sym, ◌∙◌, subst, arith}
use Rattle.std.specs.Prelude.{◌||◌}
use Rattle.std.proofs.Common.{length, take, drop, set, get_or, length-take, length-append, append_assoc, ◌*◌, ap, suc}
use Rattle.std.proofs.Math.Seq.{take-suc}
use Rattle.std.specs.Prelude.{IsTrue, ◌↔◌}
use Rattle.std.proofs.lemmas.Grind.{flat_map-append}
use Rattle.std.proofs.lemmas.List.Elements.{filter-append}
use Rattle.std.proofs.lemmas.List.FromFn.{length-map-range_with_len, map-range_with_len_more}
use Rattle.std.specs.List.{filter, flat_map}
use Rattle.std.proofs.lemmas.List.{take_more_set, length-set, take-append-drop}
use Rattle.std.proofs.lemmas.Bool.{eqb-true, eqb-false, false≢true}
use Rattle.arc_data.specs.Words.{word_place, same_word, has_word}
use Rattle.arc_data.specs.declared.plan.Planned.{Planned}
use Rattle.arc_data.specs.declared.plan.PlanWord.{PlanWord}
use Rattle.arc_data.specs.declared.plan.PlanWord.TheVariants.{Premises as CallPremises, Holders, Police as SendPolice, Fire as SendFire, Ambulance as SendAmbulance, Guard as SendGuard, Note as WriteNote}
use Rattle.arc_data.specs.declared.step.Step.{Step}
use Rattle.arc_data.specs.declared.step.Step.TheVariants.{Holder}
use Rattle.alarm_rules.specs.Plans.{is_counted, steps_in, steps_of_word, calls_of_holders}
use Rattle.action_plans.specs.Plans.{NoneTwice, IsPlan}

-- How often a word stands in a list.

one : ℕ → PlanWord → ℕ
one place word = cond (nat_eq (word_place word) place) 1 0

tally : ℕ → List Planned → ℕ
tally place [] = 0
tally place (p ∷ ps) = one place p.word + tally place ps

one_word : (word : PlanWord) → one 0 word + one 1 word + one 2 word + one 3 word + one 4 word + one 5 word + one 6 word ≡ 1
unfolding one
one_word CallPremises = refl
one_word Holders = refl
one_word SendPolice = refl
one_word SendFire = refl
one_word SendAmbulance = refl
one_word SendGuard = refl
one_word WriteNote = refl

all_words : (ps : List Planned) → tally 0 ps + tally 1 ps + tally 2 ps + tally 3 ps + tally 4 ps + tally 5 ps + tally 6 ps ≡ length ps
unfolding tally
all_words [] = refl
all_words (p ∷ ps) = omega (arith, one_word p.word, all_words ps)

absent_if : (b c : Bool) (n : ℕ) → (b || c) ≡ false → (c ≡ false → n ≡ 0) → cond b 1 0 + n ≡ 0
absent_if true c n e f = absurd (false≢true (sym e))
absent_if false c n e f = omega (arith, f e)

absent : (word : PlanWord) (ps : List Planned) → has_word word ps ≡ false → tally (word_place word) ps ≡ 0
unfolding tally one
absent word [] e = refl
absent word (p ∷ ps) e = absent_if (same_word p.word word) (has_word word ps) (tally (word_place word) ps) e (absent word ps)

once_if : (b : Bool) (n : ℕ) → n ≤ 1 → (b ≡ true → n ≡ 0) → cond b 1 0 + n ≤ 1
once_if true n le f = omega (arith, f refl)
once_if false n le f = omega arith

once : (place : ℕ) (ps : List Planned) → NoneTwice ps → tally place ps ≤ 1
unfolding tally one
once place [] w = omega arith
once place (p ∷ ps) w =
    once_if (nat_eq (word_place p.word) place) (tally place ps) (once place ps w.1) (λ e. subst (λ (k : ℕ). tally k ps ≡ 0) (eqb-true (word_place p.word) place e) (absent p.word ps w.0))

-- a word that is not among them has room
pub few : (word : PlanWord) (ps : List Planned) → NoneTwice ps → has_word word ps ≡ false → length ps < 7
few CallPremises ps w e = omega (arith, all_words ps, absent CallPremises ps e, once 1 ps w, once 2 ps w, once 3 ps w, once 4 ps w, once 5 ps w, once 6 ps w)
few Holders ps w e = omega (arith, all_words ps, once 0 ps w, absent Holders ps e, once 2 ps w, once 3 ps w, once 4 ps w, once 5 ps w, once 6 ps w)
few SendPolice ps w e = omega (arith, all_words ps, once 0 ps w, once 1 ps w, absent SendPolice ps e, once 3 ps w, once 4 ps w, once 5 ps w, once 6 ps w)
few SendFire ps w e = omega (arith, all_words ps, once 0 ps w, once 1 ps w, once 2 ps w, absent SendFire ps e, once 4 ps w, once 5 ps w, once 6 ps w)
few SendAmbulance ps w e = omega (arith, all_words ps, once 0 ps w, once 1 ps w, once 2 ps w, once 3 ps w, absent SendAmbulance ps e, once 5 ps w, once 6 ps w)
few SendGuard ps w e = omega (arith, all_words ps, once 0 ps w, once 1 ps w, once 2 ps w, once 3 ps w, once 4 ps w, absent SendGuard ps e, once 6 ps w)
few WriteNote ps w e = omega (arith, all_words ps, once 0 ps w, once 1 ps w, once 2 ps w, once 3 ps w, once 4 ps w, once 5 ps w, absent WriteNote ps e)

-- One more word.

or_first : (b c : Bool) → (b || c) ≡ false → b ≡ false
or_first true c e = e
or_first false c e = refl

or_second : (b c : Bool) → (b || c) ≡ false → c ≡ false
or_second true c e = absurd (false≢true (sym e))
or_second false c e = e

or_neither : (b c : Bool) → b ≡ false → c ≡ false → (b || c) ≡ false
or_neither true c e f = e
or_neither false c e f = f

not_same : (a b : ℕ) (t : Bool) → nat_eq a b ≡ false → nat_eq b a ≡ t → t ≡ false
not_same a b true e f = absurd (eqb-false a b e (sym (eqb-true b a f)))
not_same a b false e f = refl

apart : (word : PlanWord) (ps : List Planned) (p : Planned) → has_word word ps ≡ false → same_word p.word word ≡ false → has_word word (ps ++ p ∷ []) ≡ false
apart word [] p e f = or_neither (same_word p.word word) false f refl
apart word (q ∷ ps) p e f =
    or_neither (same_word q.word word) (has_word word (ps ++ p ∷ [])) (or_first (same_word q.word word) (has_word word ps) e) (apart word ps p (or_second (same_word q.word word) (has_word word ps) e) f)

pub one_more : (ps : List Planned) (p : Planned) → NoneTwice ps → has_word p.word ps ≡ false → NoneTwice (ps ++ p ∷ [])
one_more [] p w e = (refl, tt)
one_more (q ∷ ps) p w e = (
  apart q.word ps p w.0 (not_same (word_place q.word) (word_place p.word) (same_word p.word q.word) (or_first (same_word q.word p.word) (has_word p.word ps) e) refl),
  one_more ps p w.1 (or_second (same_word q.word p.word) (has_word p.word ps) e),
)

-- The same in a room of seven.

pub room_left : (len : ℕ) (words : List Planned) (word : PlanWord) → IsPlan len words → has_word word (take len words) ≡ false → len < 7
room_left len words word w e = omega (arith, few word (take len words) w.once e, length-take {A = Planned}, w.few, w.room)

pub grown : (len : ℕ) (words : List Planned) (p : Planned) → IsPlan len words → has_word p.word (take len words) ≡ false → IsPlan (len + 1) (set words len p)
grown len words p w e =
    let lt = room_left len words p.word w e in
    record {
      few = omega (arith, lt);
      room = length-set words len p ∙ w.room;
      once = rw (take_more_set words len p (omega (arith, lt, w.room))) (one_more (take len words) p w.once e);
    }

pub longer : (len : ℕ) (words : List Planned) (p : Planned) → IsPlan len words → has_word p.word (take len words) ≡ false → take (len + 1) (set words len p) ≡ take len words ++ p ∷ []
longer len words p w e = take_more_set words len p (omega (arith, room_left len words p.word w e, w.room))

-- The steps of a plan are at most ten.

pub length_calls : (holders : ℕ) → length (calls_of_holders holders) ≡ holders
length_calls holders = length-map-range_with_len Holder 1 holders

word_long : (holders : ℕ) (word : PlanWord) → holders ≤ 4 → length (steps_of_word holders word) ≤ 1 + 3 * one 1 word
unfolding one
word_long holders CallPremises le = omega arith
word_long holders Holders le = omega (arith, le, length_calls holders)
word_long holders SendPolice le = omega arith
word_long holders SendFire le = omega arith
word_long holders SendAmbulance le = omega arith
word_long holders SendGuard le = omega arith
word_long holders WriteNote le = omega arith

long_if : (b : Bool) (n one more : ℕ) (p : Planned) (ps : List Planned) (f : Planned → List Step) → length (f p) ≤ 1 + 3 * one → length (flat_map f ps) ≤ n + 3 * more → length (flat_map f (cond b (p ∷ ps) ps)) ≤ n + 1 + 3 * (one + more)
long_if true n one more p ps f le la = omega (arith, le, la, length-append (f p) (flat_map f ps))
long_if false n one more p ps f le la = omega (arith, la)

steps_long : (in_hours : Bool) (holders : ℕ) (ps : List Planned) → holders ≤ 4 → length (steps_in in_hours holders ps) ≤ length ps + 3 * tally 1 ps
unfolding steps_in tally
steps_long in_hours holders [] le = omega arith
steps_long in_hours holders (p ∷ ps) le =
    omega (arith, long_if (is_counted in_hours p) (length ps) (one 1 p.word) (tally 1 ps) p (filter (is_counted in_hours) ps) (λ (q : Planned). steps_of_word holders q.word) (word_long holders p.word le) (steps_long in_hours holders ps le))

steps_append : (in_hours : Bool) (holders : ℕ) (ps qs : List Planned) → steps_in in_hours holders (ps ++ qs) ≡ steps_in in_hours holders ps ++ steps_in in_hours holders qs
unfolding steps_in
steps_append in_hours holders ps qs = simp (filter-append, flat_map-append) refl

steps_few : (in_hours : Bool) (holders : ℕ) (ps : List Planned) → holders ≤ 4 → NoneTwice ps → length ps ≤ 7 → length (steps_in in_hours holders ps) ≤ 10
steps_few in_hours holders ps le w le7 = omega (arith, steps_long in_hours holders ps le, once 1 ps w, le7)

pub calls_next : (old steps new : List Step) (number : ℕ) (taken : Bool) → steps ≡ old ++ calls_of_holders number → length old + number < 10 → (IsTrue taken ↔ (length steps < 10)) → new ≡ cond taken (steps ++ Holder (number + 1) ∷ []) steps → new ≡ old ++ calls_of_holders (number + 1)
calls_next old steps new number true e lt room pushed =
    pushed ∙ ap (λ (l : List Step). l ++ Holder (number + 1) ∷ []) e ∙ append_assoc old (calls_of_holders number) (Holder (number + 1) ∷ [])
    ∙ ap (λ (l : List Step). old ++ l) (sym (map-range_with_len_more Holder 1 number (number + 1) (omega arith)))
calls_next old steps new number false e lt room pushed =
    absurd (false≢true (room.1 (omega (arith, lt, ap (λ (l : List Step). length l) e, length-append old (calls_of_holders number), length_calls number))))

one_step : (in_hours : Bool) (holders : ℕ) (p : Planned) → is_counted in_hours p ≡ true → length (steps_in in_hours holders (p ∷ [])) ≡ length (steps_of_word holders p.word)
unfolding steps_in
one_step in_hours holders p e = rw e (omega (arith, length-append (steps_of_word holders p.word) []))

-- the steps of the word at a place have room behind those of the words before it
pub room_for : (in_hours : Bool) (holders place : ℕ) (ps : List Planned) (d : Planned) (steps : List Step) → holders ≤ 4 → NoneTwice ps → length ps ≤ 7 → place < length ps → steps ≡ steps_in in_hours holders (take place ps) → is_counted in_hours (get_or ps place d) ≡ true → length steps + length (steps_of_word holders (get_or ps place d).word) ≤ 10
room_for in_hours holders place ps d steps le w le7 lt e counted =
    let p = get_or ps place d in
    let front = ap (λ (qs : List Planned). length (steps_in in_hours holders qs)) (take-suc ps place d lt)
    ∙ ap (λ (l : List Step). length l) (steps_append in_hours holders (take place ps) (p ∷ [])) in
    let whole = ap (λ (qs : List Planned). length (steps_in in_hours holders qs)) (sym (take-append-drop (suc place) ps))
    ∙ ap (λ (l : List Step). length l) (steps_append in_hours holders (take (suc place) ps) (drop (suc place) ps)) in
    omega (
      arith,
      steps_few in_hours holders ps le w le7,
      whole,
      front,
      one_step in_hours holders p counted,
      ap (λ (l : List Step). length l) e,
      length-append (steps_in in_hours holders (take place ps)) (steps_in in_hours holders (p ∷ [])),
      length-append (steps_in in_hours holders (take (suc place) ps)) (steps_in in_hours holders (drop (suc place) ps)),
    )
