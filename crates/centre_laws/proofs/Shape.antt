-- What stays so of an ideal list: it is over its beginning, and each numbered item has the message of its deliveries, and the
-- line of one of them. Both hold of each schedule, well spaced or not.
use Rattle.std.proofs.Common.{◌≡◌, ◌≤◌, ◌-◌, ℕ, List, [], ◌∷◌, ◌++◌, length, drop, Bool, true, false, cond, refl, sym, ap, ◌∙◌, true≢false, inl, inr}
use Rattle.std.specs.Prelude.{Some}
use Rattle.std.specs.List.{AllByRecursion}
use Rattle.std.proofs.lemmas.Bool.{cond_both}
use Rattle.std.proofs.lemmas.Option.{none-some, same_Some}
use Rattle.std.proofs.lemmas.List.{map-append}
use Rattle.arc_data.specs.declared.event.Event.{Event}
use Rattle.arc_data.specs.declared.event.Event.TheVariants.{Adopt, Message as Sent}
use Rattle.arc_data.specs.declared.event.Message.{Message}
use Rattle.centre_rules.specs.History.{Entry, is_recorded}
use Rattle.centre_laws.specs.Schedules.{Step, Deliver, Other, Lose, Crash, Schedule, Item, entries, next, stands, acknowledge, acknowledge_item, sent_item, item_of, delivered, added, message_entry, start_entry, first_start, first_adopt, after_step, oldest, beginning, ideal_after, Each, IsStep, is_other}
use Rattle.centre_laws.specs.Spacing.{HasMessage}
use Rattle.centre_laws.specs.Sendings.{CameBy}
use Rattle.centre_rules.proofs.Standing.{is_adopt}
use Rattle.centre_laws.proofs.Upon.{IsLater, IsOver}
use Rattle.centre_laws.proofs.Lists.{all_weaker, all_drop, all_map, oldest_over}

-- What a delivery makes of a list has P, where the list has P, and so has what comes of it either way. For what steps keep.
pub delivered_has : (P : List Item → Type 0) (n : ℕ) (m : Message) (via : List ℕ) (clock : ℕ) (b : Bool) (w : List Item)
    → P w → P (acknowledge n w) → (stands n w ≡ false → P (sent_item n b (message_entry w m via clock) ∷ w)) → P (delivered n m via clock b w)
delivered_has P n m via clock b w so again first =
    cond_both (stands n w) (cond b (acknowledge n w) w) (sent_item n b (message_entry w m via clock) ∷ w) P
    (λ _. cond_both b (acknowledge n w) w P (λ _. again) (λ _. so)) first

-- likewise of another event
pub added_has : (P : List Item → Type 0) (e : Entry) (b : Bool) (w : List Item) → P w
    → (is_recorded e.reply ≡ true → P (item_of b e ∷ w)) → P (added e b w)
added_has P e b w so more = cond_both (is_recorded e.reply) (item_of b e ∷ w) w P more (λ _. so)

-- The beginning.

-- another event is no Adopt
other_adopts : (e : Event) → is_other e ≡ true → is_adopt e ≡ false
other_adopts (Adopt text) other = absurd (true≢false (sym other))
other_adopts rest other = refl

-- an item more
over_more : (x : Schedule) (i : Item) (w : List Item) → is_recorded i.entry.reply ≡ true → is_adopt i.entry.event ≡ false → IsOver x w
    → IsOver x (i ∷ w)
over_more x i w recorded adopts over = record {
  later = i ∷ over.later;
  is = ap (λ l. i ∷ l) over.is;
  each = (record { recorded = recorded; adopts = adopts }, over.each);
}

-- acknowledging leaves the beginning
over_acknowledged : (x : Schedule) (n : ℕ) (w : List Item) → IsOver x w → IsOver x (acknowledge n w)
over_acknowledged x n w over = record {
  later = acknowledge n over.later;
  is = ap (acknowledge n) over.is ∙ map-append (acknowledge_item n) over.later (beginning x);
  each = all_map IsLater (acknowledge_item n) (λ i own. record { recorded = own.recorded; adopts = own.adopts }) over.later over.each;
}

-- a crash leaves the beginning
pub over_oldest : (x : Schedule) (kept : ℕ) (w : List Item) → 2 ≤ kept → IsOver x w → IsOver x (oldest kept w)
over_oldest x kept w two over = let dropped = length (over.later ++ beginning x) - kept in record {
  later = drop dropped over.later;
  is = ap (oldest kept) over.is ∙ oldest_over kept over.later (beginning x) two;
  each = all_drop IsLater dropped over.later over.each;
}

-- each step leaves the beginning
over_step : (x : Schedule) (s : Step) (ss : List Step) → IsStep x s ss → IsOver x (ideal_after x ss) → IsOver x (ideal_after x (s ∷ ss))
over_step x (Deliver n m via clock b) ss ok so = let w = ideal_after x ss in
    delivered_has (IsOver x) n m via clock b w so (over_acknowledged x n w so)
    (λ _. over_more x (sent_item n b (message_entry w m via clock)) w refl refl so)
over_step x (Other e clock b) ss ok so = let w = ideal_after x ss in let new = next (entries w) e clock in
    added_has (IsOver x) new b w so (λ is. over_more x (item_of b new) w is (other_adopts e ok) so)
over_step x Lose ss ok so = so
over_step x (Crash kept clock) ss ok so = let left = oldest kept (ideal_after x ss) in
    over_more x (item_of false (start_entry left clock)) left refl refl (over_oldest x kept (ideal_after x ss) ok.beginning so)

-- the ideal list of a schedule is over its beginning
pub over : (x : Schedule) (ss : List Step) → Each (IsStep x) ss → IsOver x (ideal_after x ss)
over x [] ok = record { later = []; is = refl; each = tt }
over x (s ∷ ss) ok = over_step x s ss ok.0 (over x ss ok.1)

-- Numbers and messages.

-- the event is this message, by the line of one of these deliveries of the number
pub record IsOfDelivery (n : ℕ) (m : Message) (ss : List Step) (e : Event) : Type 0 where
  pub via : List ℕ
  pub event : e ≡ Sent m via
  pub line : CameBy n via ss

-- an item of a sending has the message that all deliveries of its number have, and the line of one of them
abbrev pub IsTraced : List Step → Item → Type 0
IsTraced ss i =
    (n : ℕ) (m : Message) → i.number ≡ Some n → AllByRecursion (HasMessage n m) ss → IsOfDelivery n m ss i.entry.event

-- each item is traced
abbrev pub AreTraced : List Step → List Item → Type 0
AreTraced ss w = AllByRecursion (IsTraced ss) w

-- it stays so at a step more
of_more : (s : Step) (ss : List Step) (n : ℕ) (m : Message) (e : Event) → IsOfDelivery n m ss e → IsOfDelivery n m (s ∷ ss) e
of_more s ss n m e own = record { via = own.via; event = own.event; line = inr own.line }

-- an item of no sending is traced
unnumbered : (ss : List Step) (b : Bool) (e : Entry) → IsTraced ss (item_of b e)
unnumbered ss b e n m is all = absurd (none-some n is)

-- each step leaves items traced
traced_step : (s : Step) (ss : List Step) (w : List Item) → AreTraced (s ∷ ss) w → AreTraced (s ∷ ss) (after_step s w)
traced_step (Deliver n m via clock b) ss w all = let P = IsTraced (Deliver n m via clock b ∷ ss) in
    delivered_has (AllByRecursion P) n m via clock b w all (all_map P (acknowledge_item n) (λ i t. t) w all)
    (λ _. (
      (λ k a is agree. let own : k ≡ n = sym (same_Some n k is) in record {
        via = via;
        event = ap (λ (l : Message). Sent l via) (agree.0 own);
        line = inl (own, refl);
      }),
      all,
    ))
traced_step (Other e clock b) ss w all = let new = next (entries w) e clock in
    added_has (AreTraced (Other e clock b ∷ ss)) new b w all (λ _. (unnumbered (Other e clock b ∷ ss) b new, all))
traced_step Lose ss w all = all
traced_step (Crash kept clock) ss w all = let P = IsTraced (Crash kept clock ∷ ss) in
    (unnumbered (Crash kept clock ∷ ss) false (start_entry (oldest kept w) clock), all_drop P (length w - kept) w all)

-- each item of the ideal list of a schedule is traced
pub traced : (x : Schedule) (ss : List Step) → AreTraced ss (ideal_after x ss)
traced x [] = (unnumbered [] false (first_start x.first), (unnumbered [] false (first_adopt x.text x.first), tt))
traced x (s ∷ ss) =
    let w = ideal_after x ss in
    traced_step s ss w (all_weaker (IsTraced ss) (IsTraced (s ∷ ss)) (λ i t n m is all. of_more s ss n m i.entry.event (t n m is all.1)) w (traced x ss))
