-- What a step sends: nothing, a further copy of an event that was sent, or the next event for the first time.
use Rattle.std.proofs.Common.{◌≡◌, ◌≤◌, ◌<◌, ◌+◌, ◌⊎◌, ℕ, List, [], ◌∷◌, length, Bool, true, false, cond, refl, sym, ap, ◌∙◌, subst, true≢false, inl, inr, arith}
use Rattle.std.specs.Prelude.{Option, Some, None, ◌-◌}
use Rattle.std.specs.List.{last_or}
use Rattle.std.specs.Option.{option_and_then}
use Rattle.std.proofs.lemmas.Option.{none-some}
use Rattle.std.proofs.lemmas.Bool.{cases_lt, and_parts, leb-true}
use Rattle.panel_rules.specs.Marks.{Mark, Steps, first_copy, last_copy, is_acked, is_late, is_waiting, is_in_flight, fate, taken, in_flight, oldest_waiting, may_begin, may_repeat, is_after, is_within, sends, sends_by}
use Rattle.panel_laws.specs.Worlds.{IsAmong}
use Rattle.panel_laws.proofs.Finds.{IsFirst, NonePasses, find_some, find_none}
use Rattle.panel_laws.proofs.Fates.{flying, landed, waits, unsent, late, taken_is}
use Rattle.panel_laws.proofs.Sent.{Sent, AreCounted, all_among}
use Rattle.panel_laws.proofs.Flown.{IsSent, HasSent, IsNew, event_counted, sent_idle}

-- the event with this number
pub record IsWith (n : ℕ) (xs : List Sent) : Type 0 where
  pub sent : Sent
  pub there : IsAmong sent xs
  pub event : sent.event ≡ n

with_step : (n : ℕ) (x : Sent) (xs : List Sent) → x.event ≡ length xs + 1 → (n < x.event) ⊎ (x.event ≤ n) → n ≤ length xs + 1
    → (n ≤ length xs → IsWith n xs) → IsWith n (x ∷ xs)
with_step n x xs is (inl less) most more =
    let a = more (omega (arith, less, is)) in record { sent = a.sent; there = inr a.there; event = a.event }
with_step n x xs is (inr same) most more = record { sent = x; there = inl refl; event = omega (arith, is, same, most) }

pub sent_with : (n : ℕ) (xs : List Sent) → AreCounted xs → 1 ≤ n → n ≤ length xs → IsWith n xs
sent_with n [] count some most = absurd (omega (arith, some, most))
sent_with n (x ∷ xs) count some most =
    with_step n x xs count.0 (cases_lt n x.event) (omega (arith, most)) (λ below. sent_with n xs count.1 some below)

-- an event of which a copy was sent is among them
within : (ms : List Mark) (now : ℕ) (xs : List Sent) (n first : ℕ) → HasSent ms now xs → first_copy n ms ≡ Some first
    → (n ≡ 0) ⊎ (length xs < n) → ⊥
within ms now xs n first h sent out = none-some first (sym (ap (last_or None) (h.rest n out)) ∙ sent)

place : (n l : ℕ) → ((n ≡ 0) ⊎ (l < n) → ⊥) → (1 ≤ n) × (n ≤ l)
place n l inside = elim (cases_lt 0 n) [
  | inl some ↦ elim (cases_lt l n) [ inl above ↦ absurd (inside (inr above)) | inr most ↦ (some, most) ]
  | inr none ↦ absurd (inside (inl (omega (arith, none))))
]

pub sent_of_copy : (ms : List Mark) (now : ℕ) (xs : List Sent) (n first : ℕ) → HasSent ms now xs → first_copy n ms ≡ Some first
    → IsWith n xs
sent_of_copy ms now xs n first h sent =
    let p = place n (length xs) (within ms now xs n first h sent) in sent_with n xs h.count p.0 p.1

-- what a step sends
pub data Sends (ms : List Mark) (clock : ℕ) (xs : List Sent) (o : Option ℕ) : Type 0 where
  Idle : o ≡ None → Sends ms clock xs o
  Again : (x : Sent) → IsAmong x xs → o ≡ Some x.event → clock ≤ x.first + 180 → Sends ms clock xs o
  First : (x : Sent) → IsNew ms clock xs x → o ≡ Some x.event → Sends ms clock xs o

-- a further copy
repeat_by : (ms : List Mark) (clock n : ℕ) (xs : List Sent) (x : Sent) (b : Bool) → HasSent ms clock xs → IsAmong x xs → x.event ≡ n
    → may_repeat ms clock n ≡ b → Sends ms clock xs (cond b (Some n) None)
repeat_by ms clock n xs x false h there is may = Idle refl
repeat_by ms clock n xs x true h there is may =
    let own = all_among (IsSent ms) x xs h.each there in
    let first : first_copy n ms ≡ Some x.first = subst (λ (k : ℕ). first_copy k ms ≡ Some x.first) is own.sent in
    let parts = and_parts (is_after 20 clock (last_copy n ms)) (is_within 180 clock (first_copy n ms)) may in
    let soon : is_within 180 clock (Some x.first) ≡ true = subst (λ (o : Option ℕ). is_within 180 clock o ≡ true) first parts.1 in
    Again x there (ap Some (sym is)) (leb-true clock (x.first + 180) soon)

sends_flying : (ms : List Mark) (clock n : ℕ) (xs : List Sent) → HasSent ms clock xs → in_flight ms ≡ Some n
    → Sends ms clock xs (sends_by ms clock (Some n))
sends_flying ms clock n xs h is =
    let found = find_some (λ k. is_in_flight (fate ms k)) 1 (length (taken ms)) n is in
    let f = flying n ms found.passes in
    let a = sent_of_copy ms clock xs n f.first h f.sent in
    repeat_by ms clock n xs a.sent (may_repeat ms clock n) h a.there a.event refl

-- the next event
next_is : (ms : List Mark) (now n : ℕ) (xs : List Sent) → HasSent ms now xs
    → IsFirst (λ k. is_waiting (fate ms k)) 1 (1 + length (taken ms)) n → n ≡ length xs + 1
next_is ms now n xs h found = omega (arith, above (cases_lt (length xs) n), below (cases_lt (length xs + 1) n))
  where
    above : (length xs < n) ⊎ (n ≤ length xs) → length xs < n
    above (inl is) = is
    above (inr under) =
        let a = sent_with n xs h.count found.from under in
        let own = all_among (IsSent ms) a.sent xs h.each a.there in
        let sent : first_copy n ms ≡ Some a.sent.first = subst (λ (k : ℕ). first_copy k ms ≡ Some a.sent.first) a.event own.sent in
        absurd (none-some a.sent.first (sym (waits n ms found.passes) ∙ sent))

    below : (length xs + 1 < n) ⊎ (n ≤ length xs + 1) → n ≤ length xs + 1
    below (inr is) = is
    below (inl over) =
        absurd (true≢false (sym (unsent (length xs + 1) ms (h.rest (length xs + 1) (inr (omega arith))))
        ∙ found.first (length xs + 1) (omega arith) over))

begin_by : (ms : List Mark) (clock n : ℕ) (xs : List Sent) (b : Bool) → HasSent ms clock xs
    → IsFirst (λ k. is_waiting (fate ms k)) 1 (1 + length (taken ms)) n
    → NonePasses (λ k. is_in_flight (fate ms k)) 1 (1 + length (taken ms)) → may_begin ms clock n ≡ b
    → Sends ms clock xs (cond b (Some n) None)
begin_by ms clock n xs false h found none may = Idle refl
begin_by ms clock n xs true h found none may =
    let is = next_is ms clock n xs h found in
    let told = taken_is n (taken ms) found.from (omega (arith, found.below)) in
    First (record { event = n; report = told.report; first = clock }) (record {
      event = is;
      first = refl;
      told = told.is;
      few = omega (arith, is, found.below);
      slow = λ y there last. slow_by y there (omega (arith, last, is));
      done = λ y there. done_by y there;
    }) refl
  where
    slow_by : (y : Sent) → IsAmong y xs → y.event ≡ n - 1 → y.first + 10 ≤ clock
    slow_by y there before =
        let own = all_among (IsSent ms) y xs h.each there in
        let first : first_copy (n - 1) ms ≡ Some y.first = subst (λ (k : ℕ). first_copy k ms ≡ Some y.first) before own.sent in
        let test : is_after 10 clock (Some y.first) ≡ true = subst (λ (o : Option ℕ). is_after 10 clock o ≡ true) first may in
        leb-true (y.first + 10) clock test

    by_late : (y : Sent) → (is_acked y.event ms ≡ true) ⊎ (is_late ms y.first ≡ true) → (is_acked y.event ms ≡ true) ⊎ (y.first + 240 < clock)
    by_late y (inl acked) = inl acked
    by_late y (inr old) = inr (late ms y.first clock h.upto old)

    done_by : (y : Sent) → IsAmong y xs → (is_acked y.event ms ≡ true) ⊎ (y.first + 240 < clock)
    done_by y there =
        let own = all_among (IsSent ms) y xs h.each there in
        let c = event_counted ms clock xs y h there in
        by_late y (landed y.event ms y.first own.sent (none y.event c.some (omega (arith, c.most, h.few))))

sends_waiting : (ms : List Mark) (clock : ℕ) (xs : List Sent) (o : Option ℕ) → HasSent ms clock xs → in_flight ms ≡ None
    → oldest_waiting ms ≡ o → Sends ms clock xs (option_and_then (λ n. cond (may_begin ms clock n) (Some n) None) o)
sends_waiting ms clock xs None h idle is = Idle refl
sends_waiting ms clock xs (Some n) h idle is =
    begin_by ms clock n xs (may_begin ms clock n) h (find_some (λ k. is_waiting (fate ms k)) 1 (length (taken ms)) n is)
    (find_none (λ k. is_in_flight (fate ms k)) 1 (length (taken ms)) idle) refl

sends_either : (ms : List Mark) (clock : ℕ) (xs : List Sent) (o : Option ℕ) → HasSent ms clock xs → in_flight ms ≡ o
    → Sends ms clock xs (sends_by ms clock o)
sends_either ms clock xs None h is = sends_waiting ms clock xs (oldest_waiting ms) h is refl
sends_either ms clock xs (Some n) h is = sends_flying ms clock n xs h is

-- the step itself, which sends nothing yet, changes nothing of this
sends_before : (ms : List Mark) (clock : ℕ) (xs : List Sent) (o : Option ℕ) → Sends (Steps clock None ∷ ms) clock xs o → Sends ms clock xs o
sends_before ms clock xs o (Idle is) = Idle is
sends_before ms clock xs o (Again x there is soon) = Again x there is soon
sends_before ms clock xs o (First x new is) =
    First x (record { event = new.event; first = new.first; told = new.told; few = new.few; slow = new.slow; done = new.done }) is

-- one of the three
pub sends_is : (ms : List Mark) (now clock : ℕ) (xs : List Sent) → now ≤ clock → HasSent ms now xs → Sends ms clock xs (sends ms clock)
sends_is ms now clock xs le h = let after = Steps clock None ∷ ms in
    sends_before ms clock xs (sends ms clock) (sends_either after clock xs (in_flight after) (sent_idle ms now clock xs le h) refl)
