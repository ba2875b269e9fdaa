-- What a panel has sent, by its marks: its events in their order, each after the one before it was acknowledged or given up.
use Rattle.std.proofs.Common.{◌≡◌, ◌≤◌, ◌<◌, ◌+◌, ◌*◌, ◌⊎◌, ℕ, suc, List, [], ◌∷◌, length, Bool, true, false, refl, sym, ap, ◌∙◌, inl, inr, arith}
use Rattle.std.specs.Prelude.{Some, None, ◌==◌}
use Rattle.std.specs.List.{AllByRecursion}
use Rattle.std.proofs.lemmas.Bool.{ne_eqb, eq-eqb, or_right}
use Rattle.panel_rules.specs.declared.Report.{Report}
use Rattle.panel_rules.specs.Marks.{Mark, Takes, Steps, Acks, steps, copies, first_copy, is_acked, numbered, taken, count}
use Rattle.panel_laws.specs.Worlds.{IsAmong}
use Rattle.panel_rules.proofs.MarkLaws.{last_more, numbered_more}
use Rattle.panel_laws.proofs.Fates.{AreUpTo}
use Rattle.panel_laws.proofs.Sent.{Sent, IsBefore, AreOrdered, AreCounted, IsCounted, counted, all_among, all_weaker, all_from, ordered_weaker}

-- it was acknowledged
abbrev pub IsAcked : List Mark → ℕ → Type 0
IsAcked ms n = is_acked n ms ≡ true

-- what the marks tell of an event that was sent
pub record IsSent (ms : List Mark) (x : Sent) : Type 0 where
  pub sent : first_copy x.event ms ≡ Some x.first
  pub step : IsAmong x.first (steps ms)
  pub told : numbered x.event (taken ms) ≡ Some x.report

-- these are the events that were sent, up to this moment
pub record HasSent (ms : List Mark) (now : ℕ) (xs : List Sent) : Type 0 where
  pub order : AreOrdered (IsAcked ms) xs
  pub count : AreCounted xs
  pub few : length xs ≤ length (taken ms)
  pub each : AllByRecursion (IsSent ms) xs
  pub rest : (n : ℕ) → (n ≡ 0) ⊎ (length xs < n) → copies n ms ≡ []
  pub upto : AreUpTo now ms

-- nothing was sent yet
pub none_sent : (now : ℕ) → HasSent [] now []
none_sent now = record { order = tt; count = tt; few = omega arith; each = tt; rest = λ n out. refl; upto = tt }

-- a later moment
pub sent_later : (ms : List Mark) (now then : ℕ) (xs : List Sent) → now ≤ then → HasSent ms now xs → HasSent ms then xs
sent_later ms now then xs le h = record {
  order = h.order;
  count = h.count;
  few = h.few;
  each = h.each;
  rest = h.rest;
  upto = all_weaker (λ t. t ≤ now) (λ t. t ≤ then) (λ t below. omega (arith, below, le)) (steps ms) h.upto;
}

-- an event that was sent is counted
pub event_counted : (ms : List Mark) (now : ℕ) (xs : List Sent) (x : Sent) → HasSent ms now xs → IsAmong x xs → IsCounted (length xs) x
event_counted ms now xs x h there = all_among (IsCounted (length xs)) x xs (counted xs h.count) there

-- its first copy was sent by now
pub first_below : (ms : List Mark) (now : ℕ) (xs : List Sent) (x : Sent) → HasSent ms now xs → IsAmong x xs → x.first ≤ now
first_below ms now xs x h there =
    all_among (λ (t : ℕ). t ≤ now) x.first (steps ms) h.upto (all_among (IsSent ms) x xs h.each there).step

-- The panel takes an event.
pub sent_taking : (ms : List Mark) (now : ℕ) (xs : List Sent) (r : Report) → HasSent ms now xs → HasSent (Takes r ∷ ms) now xs
sent_taking ms now xs r h = record {
  order = h.order;
  count = h.count;
  few = omega (arith, h.few);
  rest = h.rest;
  upto = h.upto;
  each = all_from (IsSent (Takes r ∷ ms)) xs (λ x there. let own = all_among (IsSent ms) x xs h.each there in record {
    sent = own.sent;
    step = own.step;
    told = numbered_more x.event r (taken ms) (omega (arith, (event_counted ms now xs x h there).most, h.few)) ∙ own.told;
  });
}

-- An acknowledgement is heard.
pub sent_hearing : (ms : List Mark) (now : ℕ) (xs : List Sent) (n : ℕ) → HasSent ms now xs → HasSent (Acks n ∷ ms) now xs
sent_hearing ms now xs n h = record {
  order = ordered_weaker (IsAcked ms) (IsAcked (Acks n ∷ ms)) (λ k is. or_right (n == k) (is_acked k ms) is) xs h.order;
  count = h.count;
  few = h.few;
  rest = h.rest;
  upto = h.upto;
  each = all_weaker (IsSent ms) (IsSent (Acks n ∷ ms)) (λ x own. record { sent = own.sent; step = own.step; told = own.told }) xs h.each;
}

-- A step that sends nothing.
pub sent_idle : (ms : List Mark) (now clock : ℕ) (xs : List Sent) → now ≤ clock → HasSent ms now xs → HasSent (Steps clock None ∷ ms) clock xs
sent_idle ms now clock xs le h = record {
  order = h.order;
  count = h.count;
  few = h.few;
  rest = h.rest;
  each = all_weaker (IsSent ms) (IsSent (Steps clock None ∷ ms)) (λ x own. record { sent = own.sent; step = inr own.step; told = own.told })
      xs h.each;
  upto = (omega arith, (sent_later ms now clock xs le h).upto);
}

-- A step that sends a further copy.

-- of any event: its first copy stays
first_stays : (n k first clock : ℕ) (ms : List Mark) (b : Bool) → (n == k) ≡ b → first_copy k ms ≡ Some first
    → first_copy k (Steps clock (Some n) ∷ ms) ≡ Some first
first_stays n k first clock ms true is sent = rw is (last_more clock first (copies k ms) sent)
first_stays n k first clock ms false is sent = rw is sent

-- of another event
copies_stay : (n k clock : ℕ) (ms : List Mark) → (n ≡ k → ⊥) → copies k ms ≡ [] → copies k (Steps clock (Some n) ∷ ms) ≡ []
copies_stay n k clock ms other none = let is : (n == k) ≡ false = ne_eqb n k other in rw is none

pub sent_again : (ms : List Mark) (now clock : ℕ) (xs : List Sent) (x : Sent) → now ≤ clock → IsAmong x xs → HasSent ms now xs
    → HasSent (Steps clock (Some x.event) ∷ ms) clock xs
sent_again ms now clock xs x le there h =
    let c = event_counted ms now xs x h there in
    record {
      order = h.order;
      count = h.count;
      few = h.few;
      rest = λ n out. copies_stay x.event n clock ms (λ same. outside (length xs) x.event n c.some c.most same out) (h.rest n out);
      each = all_weaker (IsSent ms) (IsSent (Steps clock (Some x.event) ∷ ms)) (λ y own. record {
        sent = first_stays x.event y.event y.first clock ms (x.event == y.event) refl own.sent;
        step = inr own.step;
        told = own.told;
      }) xs h.each;
      upto = (omega arith, (sent_later ms now clock xs le h).upto);
    }
  where
    outside : (l e n : ℕ) → 1 ≤ e → e ≤ l → e ≡ n → (n ≡ 0) ⊎ (l < n) → ⊥
    outside l e n some most same (inl zero_is) = omega (arith, some, most, same, zero_is)
    outside l e n some most same (inr above) = omega (arith, some, most, same, above)

-- A step that sends an event for the first time.

-- what is known of the event, before the step: it is the next one, was taken, at least 10 seconds after the one before, and all before
-- are acknowledged or given up
pub record IsNew (ms : List Mark) (clock : ℕ) (xs : List Sent) (x : Sent) : Type 0 where
  pub event : x.event ≡ length xs + 1
  pub first : x.first ≡ clock
  pub told : numbered x.event (taken ms) ≡ Some x.report
  pub few : length xs < length (taken ms)
  pub slow : (y : Sent) → IsAmong y xs → y.event ≡ length xs → y.first + 10 ≤ clock
  pub done : (y : Sent) → IsAmong y xs → (is_acked y.event ms ≡ true) ⊎ (y.first + 240 < clock)

-- so it is after all of them
slow_after : (acked : ℕ → Type 0) (xs : List Sent) (clock : ℕ) → AreOrdered acked xs → AreCounted xs
    → ((y : Sent) → IsAmong y xs → y.event ≡ length xs → y.first + 10 ≤ clock)
    → (y : Sent) → IsAmong y xs → y.first + 10 * (length xs + 1) ≤ clock + 10 * y.event
slow_after acked [] clock order count slow y there = absurd there
slow_after acked (z ∷ zs) clock order count slow y (inl same) =
    let e : y.event ≡ length (z ∷ zs) = ap (λ (s : Sent). s.event) same ∙ omega (arith, count.0) in
    omega (arith, slow y (inl same) e, e)
slow_after acked (z ∷ zs) clock order count slow y (inr more) =
    let e : z.event ≡ length (z ∷ zs) = omega (arith, count.0) in
    let head = slow z (inl refl) e in
    let behind = all_among (IsBefore acked z) y zs order.0 more in
    omega (arith, head, behind.slow, e)

pub sent_first : (ms : List Mark) (now clock : ℕ) (xs : List Sent) (x : Sent) → now ≤ clock → IsNew ms clock xs x → HasSent ms now xs
    → HasSent (Steps clock (Some x.event) ∷ ms) clock (x ∷ xs)
sent_first ms now clock xs x le new h =
    let stays = λ (y : Sent) (there : IsAmong y xs). event_counted ms now xs y h there in
    let none : copies x.event ms ≡ [] = h.rest x.event (inr (omega (arith, new.event))) in
    record {
      order = (
        all_from (IsBefore (IsAcked (Steps clock (Some x.event) ∷ ms)) x) xs (λ y there. record {
          below = omega (arith, (stays y there).most, new.event);
          slow = omega (arith, slow_after (IsAcked ms) xs clock h.order h.count new.slow y there, new.event, new.first);
          done = done_by y (new.done y there);
        }),
        h.order,
      );
      count = (new.event, h.count);
      few = omega (arith, new.few);
      rest = λ n out. copies_stay x.event n clock ms (λ same. outside (length xs) x.event n new.event same out) (h.rest n (wider (length xs) n out));
      each = (
        record { sent = first_is none; step = inl new.first; told = new.told },
        all_from (IsSent (Steps clock (Some x.event) ∷ ms)) xs (λ y there. let own = all_among (IsSent ms) y xs h.each there in record {
          sent = first_stays x.event y.event y.first clock ms (x.event == y.event) refl own.sent;
          step = inr own.step;
          told = own.told;
        }),
      );
      upto = (omega arith, (sent_later ms now clock xs le h).upto);
    }
  where
    done_by : (y : Sent) → (is_acked y.event ms ≡ true) ⊎ (y.first + 240 < clock)
        → (is_acked y.event ms ≡ true) ⊎ (y.first + 240 < x.first)
    done_by y (inl is) = inl is
    done_by y (inr far) = inr (omega (arith, far, new.first))

    outside : (l e n : ℕ) → e ≡ l + 1 → e ≡ n → (n ≡ 0) ⊎ (suc l < n) → ⊥
    outside l e n is same (inl zero_is) = omega (arith, is, same, zero_is)
    outside l e n is same (inr above) = omega (arith, is, same, above)

    wider : (l n : ℕ) → (n ≡ 0) ⊎ (suc l < n) → (n ≡ 0) ⊎ (l < n)
    wider l n (inl zero_is) = inl zero_is
    wider l n (inr above) = inr (omega (arith, above))

    first_is : copies x.event ms ≡ [] → first_copy x.event (Steps clock (Some x.event) ∷ ms) ≡ Some x.first
    first_is none = let own : (x.event == x.event) ≡ true = eq-eqb x.event x.event refl in rw (own, none) (ap Some (sym new.first))
