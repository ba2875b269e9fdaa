-- A delivery of a copy is spaced, and its item falls into place.
use Rattle.std.proofs.Common.{◌≡◌, ◌≤◌, ◌<◌, ◌+◌, ◌⊎◌, ℕ, List, [], ◌∷◌, ◌++◌, true, false, sym, ap, ◌∙◌, subst, true≢false, inl, inr, arith}
use Rattle.std.specs.Prelude.{Some}
use Rattle.std.specs.List.{AllByRecursion}
use Rattle.std.proofs.lemmas.Option.{none-some, same_Some}
use Rattle.arc_data.specs.declared.event.Message.{Message}
use Rattle.centre_laws.specs.Schedules.{Step, Deliver, Other, Lose, Crash, Item, stands}
use Rattle.centre_laws.specs.Spacing.{message_in, Agrees, IsNear, AreFar, HasMessage, IsSpaced}
use Rattle.centre_laws.proofs.Lists.{all_at}
use Rattle.panel_rules.specs.Panels.{Setting, is_setting, number}
use Rattle.panel_laws.specs.Worlds.{IsAmong, message_of}
use Rattle.panel_laws.proofs.Numbering.{rare}
use Rattle.panel_laws.proofs.Sent.{Sent, AreOrdered, Order, Same, Before, After, ordered, all_among, all_from}
use Rattle.panel_laws.proofs.Items.{IsOfEvent, IsOf, Another, Its, IsItem, AreItems, IsAbove, AreFalling, IsBetween, all_front, above_at, falling_front, stands_among, among_at, few_between}

-- the step, if it is a delivery, is of an event that was sent, with its message
abbrev pub IsOfSent : Setting → List Sent → Step → Type 0
IsOfSent s xs (Deliver k a via clock acknowledged) = (x : Sent) × IsAmong x xs × (k ≡ x.event) × (a ≡ message_of s x.event x.report)
IsOfSent s xs other = Unit {0}

-- A copy of the message of x reaches the centre at a reading: at most 240 seconds after its first copy. If it was acknowledged, it stands.
pub record IsArrival (s : Setting) (acked : ℕ → Type 0) (xs : List Sent) (now clock : ℕ) (w : List Item) (x : Sent) : Type 0 where
  pub setting : is_setting s ≡ true
  pub order : AreOrdered acked xs
  pub some : (y : Sent) → IsAmong y xs → 1 ≤ y.event
  pub there : IsAmong x xs
  pub from : x.first ≤ clock
  pub soon : clock ≤ x.first + 240
  pub time : now ≤ clock
  pub items : AreItems s xs now w
  pub falls : AreFalling w
  pub kept : acked x.event → stands x.event w ≡ true

-- One number has one message.

same_by : (acked : ℕ → Type 0) (x y : Sent) → Order acked x y → x.event ≡ y.event → x ≡ y
same_by acked x y (Same is) same = is
same_by acked x y (Before b) same = absurd (omega (arith, b.below, same))
same_by acked x y (After b) same = absurd (omega (arith, b.below, same))

pub same_sent : (acked : ℕ → Type 0) (xs : List Sent) (x y : Sent) → AreOrdered acked xs → IsAmong x xs → IsAmong y xs → x.event ≡ y.event
    → x ≡ y
same_sent acked xs x y order a b same = same_by acked x y (ordered acked xs x y order a b) same

message_step : (s : Setting) (acked : ℕ → Type 0) (xs : List Sent) (x : Sent) (t : Step) → AreOrdered acked xs → IsAmong x xs
    → IsOfSent s xs t → HasMessage x.event (message_of s x.event x.report) t
message_step s acked xs x (Deliver k a via clock b) order there own =
    λ is. own.3 ∙ sym (ap (λ (z : Sent). message_of s z.event z.report) (same_sent acked xs x own.0 order there own.1 (is ∙ own.2)))
message_step s acked xs x (Other e clock b) order there own = tt
message_step s acked xs x Lose order there own = tt
message_step s acked xs x (Crash kept clock) order there own = tt

messages_same : (s : Setting) (acked : ℕ → Type 0) (xs : List Sent) (x : Sent) (ts : List Step) → AreOrdered acked xs → IsAmong x xs
    → AllByRecursion (IsOfSent s xs) ts → AllByRecursion (HasMessage x.event (message_of s x.event x.report)) ts
messages_same s acked xs x [] order there all = tt
messages_same s acked xs x (t ∷ ts) order there all =
    (message_step s acked xs x t order there all.0, messages_same s acked xs x ts order there all.1)

module _ (s : Setting) (acked : ℕ → Type 0) (xs : List Sent) (now clock : ℕ) (w : List Item) (x : Sent)
    (v : IsArrival s acked xs now clock w x) where
  -- Where the number stands, it stands near.

  -- an item above that of x was sent at most 24 events after it
  near_by : (i j : Item) (low : x.first ≤ i.entry.at) (number : i.number ≡ Some x.event) → IsAbove j i → (y : Sent) → IsOfEvent s j y
      → j.entry.at ≤ now → Order acked x y → (x.event < y.event) × (y.event ≤ x.event + 24)
  near_by i j low number above y own upto (Same is) =
      absurd (omega (arith, above y.event x.event own.number number, ap (λ (z : Sent). z.event) is))
  near_by i j low number above y own upto (Before b) = absurd (omega (arith, above y.event x.event own.number number, b.below))
  near_by i j low number above y own upto (After b) = (b.below, omega (arith, b.slow, own.low, upto, v.time, v.soon))

  near_step : (i j : Item) → x.first ≤ i.entry.at → i.number ≡ Some x.event → IsItem s xs now j → IsAbove j i
      → IsBetween x.event (x.event + 24) j
  near_step i j low number item above n is = near_of item.of
    where
      near_of : IsOf s xs j → (x.event < n) × (n ≤ x.event + 24)
      near_of (Another none other) = absurd (none-some n (sym none ∙ is))
      near_of (Its y there own) =
          let e : y.event ≡ n = same_Some y.event n (sym own.number ∙ is) in
          let r = near_by i j low number above y own item.upto (ordered acked xs x y v.order v.there there) in
          (omega (arith, r.0, e), omega (arith, r.1, e))

  near_all : (i : Item) (later : List Item) → x.first ≤ i.entry.at → i.number ≡ Some x.event → AreItems s xs now later
      → AllByRecursion (λ j. IsAbove j i) later → AllByRecursion (IsBetween x.event (x.event + 24)) later
  near_all i [] low number items above = tt
  near_all i (j ∷ later) low number items above =
      (near_step i j low number items.0 above.0, near_all i later low number items.1 above.1)

  low_of : (i : Item) → i.number ≡ Some x.event → IsOf s xs i → x.first ≤ i.entry.at
  low_of i is (Another none other) = absurd (none-some x.event (sym none ∙ is))
  low_of i is (Its y there own) =
      let same : x ≡ y = same_sent acked xs x y v.order v.there there (same_Some x.event y.event (sym is ∙ own.number)) in
      subst (λ (z : Sent). z.first ≤ i.entry.at) (sym same) own.low

  near : (later before : List Item) (i : Item) → w ≡ later ++ i ∷ before → i.number ≡ Some x.event → IsNear s.account clock later i
  near later before i is number =
      let items : AreItems s xs now (later ++ i ∷ before) = subst (AreItems s xs now) is v.items in
      let falls : AreFalling (later ++ i ∷ before) = subst AreFalling is v.falls in
      let low = low_of i number (all_at (IsItem s xs now) before i later items).of in
      let front = all_front (IsItem s xs now) later (i ∷ before) items in
      let few = few_between s xs now s.account x.event later front (falling_front later (i ∷ before) falls) (x.event + 24)
      (omega arith) (near_all i later low number front (above_at later before i falls)) in
      record { young = omega (arith, low, v.soon); few = omega (arith, few) }

  -- Where it does not, each Message that agrees is far.

  far_by : (i : Item) (y : Sent) → IsAmong y xs → IsOfEvent s i y → i.entry.at ≤ now → (x ≡ y → ⊥) → number s y.event ≡ number s x.event
      → Order acked x y → i.entry.at + 300 < clock
  far_by i y there own upto other same (Same is) = absurd (other is)
  far_by i y there own upto other same (Before b) =
      let gap = rare s v.setting y.event x.event (v.some y there) b.below same in
      omega (arith, b.slow, gap, own.high, v.from)
  far_by i y there own upto other same (After b) =
      let gap = rare s v.setting x.event y.event (v.some x v.there) b.below (sym same) in
      absurd (omega (arith, b.slow, gap, own.low, upto, v.time, v.soon))

  other_of : (i : Item) (y : Sent) → stands x.event w ≡ false → IsAmong i w → IsOfEvent s i y → x ≡ y → ⊥
  other_of i y none there own is =
      let number : i.number ≡ Some x.event = own.number ∙ ap (λ (z : Sent). Some z.event) (sym is) in
      true≢false (sym (stands_among x.event i w there number) ∙ none)

  far_of : (i : Item) (a : Message) → stands x.event w ≡ false → IsAmong i w → message_in i.entry.event ≡ Some a
      → Agrees a (message_of s x.event x.report) → i.entry.at ≤ now → IsOf s xs i → i.entry.at + 300 < clock
  far_of i a none there is agree upto (Another empty other) = absurd (none-some a (sym other ∙ is))
  far_of i a none there is agree upto (Its y sent own) =
      let same : a ≡ message_of s y.event y.report = same_Some a _ (sym is ∙ own.message) in
      let number : number s y.event ≡ number s x.event = ap (λ (m : Message). m.seq) (sym same) ∙ agree.sequence in
      far_by i y sent own upto (other_of i y none there own) number (ordered acked xs x y v.order v.there sent)

  far : stands x.event w ≡ false → AreFar 32 (message_of s x.event x.report) clock w
  far none later before i a is event agree =
      let there : IsAmong i w = subst (λ (u : List Item). IsAmong i u) (sym is) (among_at before i later) in
      let item = all_among (IsItem s xs now) i w v.items there in
      inl (far_of i a none there event agree item.upto item.of)

  -- so the delivery is spaced
  pub spaced : (ts : List Step) → AllByRecursion (IsOfSent s xs) ts → IsSpaced x.event (message_of s x.event x.report) clock ts w
  spaced ts all = record { same = messages_same s acked xs x ts v.order v.there all; again = near; fresh = far }

  -- Where the number does not stand, all that stand are below it.

  below_by : (j : Item) (y : Sent) → IsOfEvent s j y → j.entry.at ≤ now → stands x.event w ≡ false → (x ≡ y → ⊥) → Order acked x y
      → y.event < x.event
  below_by j y own upto none other (Same is) = absurd (other is)
  below_by j y own upto none other (Before b) = b.below
  below_by j y own upto none other (After b) = done_by b.done
    where
      done_by : acked x.event ⊎ (x.first + 240 < y.first) → y.event < x.event
      done_by (inl is) = absurd (true≢false (sym (v.kept is) ∙ none))
      done_by (inr gone) = absurd (omega (arith, gone, own.low, upto, v.time, v.soon))

  below_of : (j : Item) → stands x.event w ≡ false → IsAmong j w → j.entry.at ≤ now → IsOf s xs j → (k : ℕ) → j.number ≡ Some k → k < x.event
  below_of j none there upto (Another empty other) k is = absurd (none-some k (sym empty ∙ is))
  below_of j none there upto (Its y sent own) k is =
      let e : y.event ≡ k = same_Some y.event k (sym own.number ∙ is) in
      let b = below_by j y own upto none (other_of j y none there own) (ordered acked xs x y v.order v.there sent) in
      omega (arith, b, e)

  pub above_all : (new : Item) → new.number ≡ Some x.event → stands x.event w ≡ false → AllByRecursion (IsAbove new) w
  above_all new number none = all_from (IsAbove new) w (λ j there n k is of.
      let item = all_among (IsItem s xs now) j w v.items there in
      let e : x.event ≡ n = same_Some x.event n (sym number ∙ is) in
      omega (arith, below_of j none there item.upto item.of k of, e))
