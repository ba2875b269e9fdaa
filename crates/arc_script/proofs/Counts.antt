-- What is counted of a line's entries: of those that a line submits the repeats alone are not recorded, and none closes an incident.
use Rattle.std.proofs.Common.{◌≡◌, ◌≢◌, ◌≤◌, ◌+◌, ◌-◌, ◌^◌, ℕ, suc, List, [], ◌∷◌, ◌++◌, Bool, true, false, cond, Option, Some, None, length, reverse, refl, sym, ap, subst, ◌∙◌, arith, length-append}
use Rattle.std.specs.Prelude.{◌&&◌, min, not}
use Rattle.std.specs.List.{filter}
use Rattle.std.proofs.lemmas.Bool.{false≢true}
use Rattle.std.proofs.lemmas.List.{reverse-append}
use Rattle.std.proofs.lemmas.List.Elements.{filter-append}
use Rattle.arc_data.specs.declared.event.Event.{Event}
use Rattle.arc_data.specs.declared.event.Event.TheVariants as E
use Rattle.arc_data.specs.declared.reply.Reply.{Reply}
use Rattle.arc_data.specs.declared.reply.Reply.TheVariants.{Heard, Unknown}
use Rattle.alarm_rules.specs.Signals.{has_signals}
use Rattle.centre_rules.specs.Answers.{answer, if_known, knows_account, repeat_of, taken_or, IsLegal}
use Rattle.centre_rules.specs.History.{Entry, is_recorded, marks, recorded}
use Rattle.centre_rules.specs.Marks.{force}
use Rattle.centre_rules.specs.State.{State, StandsFor}
use Rattle.centre_rules.specs.Summary.{Summary}
use Rattle.arc_script.specs.Carrying.{GrowsBy}
use Rattle.arc_script.specs.Tallies.{count_of, is_closed, is_repeat, told}
use Rattle.arc_script.proofs.Answered.{is_lined, AreLined, lined_reverse}

pub record IsLineReply (r : Reply) : Type 0 where
  pub quiet : is_recorded r ≡ not (is_repeat r)
  pub stays : is_closed r ≡ false

known_reply : (b : Bool) (r reply : Reply) → IsLineReply r → reply ≢ Unknown → reply ≡ if_known b r → IsLineReply reply
known_reply true r reply is known same = subst IsLineReply (sym same) is
known_reply false r reply is known same = absurd (known same)

taken_reply : (o : Option ℕ) → IsLineReply (taken_or o)
taken_reply None = record { quiet = refl; stays = refl }
taken_reply (Some first) = record { quiet = refl; stays = refl }

line_reply : (base : Summary) (h : List Entry) (event : Event) (at : ℕ) (reply : Reply) → is_lined event ≡ true → reply ≢ Unknown → reply ≡ answer base h event at
    → IsLineReply reply
line_reply base h (E.Adopt text) at reply is known same = absurd (false≢true is)
line_reply base h E.Start at reply is known same = absurd (false≢true is)
line_reply base h (E.Message m via) at reply is known same =
    let b = knows_account (force base (marks base h)) m.account && has_signals m.token m.content in
    let first = repeat_of base (marks base h) m at in
    known_reply b (taken_or first) reply (taken_reply first) known same
line_reply base h (E.Beat account) at reply is known same = known_reply (knows_account (force base (marks base h)) account) Heard reply (record { quiet = refl; stays = refl }) known same
line_reply base h E.Tick at reply is known same = absurd (false≢true is)
line_reply base h (E.Claim operator number) at reply is known same = absurd (false≢true is)
line_reply base h (E.Next operator) at reply is known same = absurd (false≢true is)
line_reply base h (E.Act operator number step outcome) at reply is known same = absurd (false≢true is)
line_reply base h (E.Release operator number) at reply is known same = absurd (false≢true is)
line_reply base h (E.Close operator number code) at reply is known same = absurd (false≢true is)
line_reply base h (E.Show number) at reply is known same = absurd (false≢true is)
line_reply base h E.List at reply is known same = absurd (false≢true is)

-- Counts do not depend on the order.
pub count_reverse : (test : Reply → Bool) (es : List Entry) → count_of test (reverse es) ≡ count_of test es
count_reverse test [] = refl
count_reverse test (e ∷ es) =
    let p : Entry → Bool = λ d. test d.reply in
    let first = ap (λ l. length (filter p l)) (reverse-append (e ∷ []) es) ∙ ap length (filter-append p (reverse es) (e ∷ []))
    ∙ length-append (filter p (reverse es)) (filter p (e ∷ [])) in
    let other = ap length (filter-append p (e ∷ []) es) ∙ length-append (filter p (e ∷ [])) (filter p es) in
    omega (arith, first, other, count_reverse test es)

quiet_step : (r q : Bool) (e : Entry) (kept found : List Entry) (n m : ℕ) → r ≡ not q → length kept + length found ≡ n + m
    → length (cond r (e ∷ kept) kept) + length (cond q (e ∷ found) found) ≡ n + suc m
quiet_step true true e kept found n m is sum = absurd (false≢true (sym is))
quiet_step true false e kept found n m is sum = omega (arith, sum)
quiet_step false true e kept found n m is sum = omega (arith, sum)
quiet_step false false e kept found n m is sum = absurd (false≢true is)

quiet_more : (base : Summary) (es h : List Entry) → AreLined es → IsLegal base (es ++ h)
    → length (recorded (es ++ h)) + count_of is_repeat es ≡ length (recorded h) + length es
quiet_more base [] h lined legal = omega arith
quiet_more base (e ∷ es) h lined legal =
    let reply = line_reply base (es ++ h) e.event e.at e.reply lined.0.lined lined.0.known legal.0.reply in
    quiet_step (is_recorded e.reply) (is_repeat e.reply) e (recorded (es ++ h)) (filter (λ (d : Entry). is_repeat d.reply) es)
    (length (recorded h)) (length es) reply.quiet (quiet_more base es h lined.1 legal.1)

closed_step : (b : Bool) (e : Entry) (found : List Entry) → b ≡ false → length found ≡ 0 → length (cond b (e ∷ found) found) ≡ 0
closed_step true e found is none = absurd (false≢true (sym is))
closed_step false e found is none = none

closed_none : (base : Summary) (es h : List Entry) → AreLined es → IsLegal base (es ++ h) → count_of is_closed es ≡ 0
closed_none base [] h lined legal = refl
closed_none base (e ∷ es) h lined legal =
    let reply = line_reply base (es ++ h) e.event e.at e.reply lined.0.lined lined.0.known legal.0.reply in
    closed_step (is_closed e.reply) e (filter (λ (d : Entry). is_closed d.reply) es) reply.stays (closed_none base es h lined.1 legal.1)

few_if : (b : Bool) (e : Entry) (kept : List Entry) (n : ℕ) → length kept ≤ n → length (cond b (e ∷ kept) kept) ≤ suc n
few_if true e kept n few = omega (arith, few)
few_if false e kept n few = omega (arith, few)

recorded_few : (h : List Entry) → length (recorded h) ≤ length h
recorded_few [] = omega arith
recorded_few (e ∷ h) = few_if (is_recorded e.reply) e (recorded h) (length h) (recorded_few h)

-- what a centre tells of entries that are not recorded
abbrev pub quiet_in : State → ℕ
quiet_in s = s.entries - s.sum.recorded

-- a line's entries were added to a history: the repeats among them are those entries more that are not recorded
pub repeats_told : (base : Summary) (s s' : State) (h x : List Entry) (entries : List Entry) → StandsFor base s h → StandsFor base s' x
    → x ≡ reverse entries ++ h → AreLined entries → quiet_in s' - quiet_in s ≡ count_of is_repeat entries
repeats_told base s s' h x entries before behind own lined =
    let es = reverse entries in
    let legal : IsLegal base (es ++ h) = subst (IsLegal base) own behind.legal in
    let quiet = quiet_more base es h (lined_reverse entries lined) legal in
    let count = ap (λ (l : List Entry). length (recorded l)) own in
    let long = ap length own ∙ length-append es h in
    omega (arith, before.entries, before.recorded, behind.entries, behind.recorded, quiet, count, long, count_reverse is_repeat entries, recorded_few h)

pub closes_none : (base : Summary) (h x : List Entry) (entries : List Entry) → IsLegal base x → x ≡ reverse entries ++ h → AreLined entries
    → count_of is_closed entries ≡ 0
closes_none base h x entries legal own lined =
    sym (count_reverse is_closed entries) ∙ closed_none base (reverse entries) h (lined_reverse entries lined) (subst (IsLegal base) own legal)

-- Counts stand still at the last value of u64.

told_more : (a n : ℕ) → min (min a (2 ^ 64 - 1) + n) (2 ^ 64 - 1) ≡ min (a + n) (2 ^ 64 - 1)
told_more a n = omega arith

pub grows_told : (more t t' : ℕ) → t' ≡ told (t + more) → GrowsBy more t t'
grows_told more t t' is n so_far = is ∙ ap (λ k. told (k + more)) so_far ∙ told_more n more

pub grows_none : (more t : ℕ) → more ≡ 0 → GrowsBy more t t
grows_none more t none n so_far = so_far ∙ ap told (omega (arith, none))

pub sent_told : (t calls frames : ℕ) → calls ≡ frames + 1 → min (t + min (calls - 1) (2 ^ 64 - 1)) (2 ^ 64 - 1) ≡ told (t + frames)
sent_told t calls frames is = omega (arith, is)
