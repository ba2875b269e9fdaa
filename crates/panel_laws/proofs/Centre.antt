-- The steps of the centre: what holds of a world goes on when a frame reaches it, when another event comes, and when it crashes.
use Rattle.std.proofs.Common.{◌≡◌, ◌≤◌, ◌+◌, ◌-◌, ℕ, List, [], ◌∷◌, ◌++◌, length, Bool, true, false, refl, sym, subst, true≢false, arith}
use Rattle.std.specs.Prelude.{None}
use Rattle.std.specs.List.{AllByRecursion}
use Rattle.std.proofs.lemmas.Option.{none-some}
use Rattle.arc_data.specs.declared.event.Event.{Event}
use Rattle.arc_data.specs.declared.event.Event.TheVariants.{Message as Sends}
use Rattle.alarm_rules.specs.Setups.{meaning, has_account}
use Rattle.centre_rules.specs.History.{Entry}
use Rattle.centre_laws.specs.Schedules.{Step, Deliver, Other, Lose, Crash, Schedule, Item, entries, sent_item, item_of, message_entry, start_entry, next, oldest, ideal_after, Each, IsKept, IsStep, is_other}
use Rattle.centre_laws.specs.Spacing.{message_in, IsSpaced, IsSpacedStep}
use Rattle.centre_laws.proofs.Lists.{all_drop}
use Rattle.centre_laws.proofs.Shape.{delivered_has, added_has}
use Rattle.panel_rules.specs.declared.Report.{Report}
use Rattle.panel_rules.specs.Marks.{Mark, taken}
use Rattle.panel_rules.specs.Panels.{Setting, is_setting}
use Rattle.panel_laws.specs.Worlds.{Copy, IsAmong, Deliver as Delivers, message_of, reply_at}
use Rattle.panel_laws.proofs.Sent.{Sent, all_among}
use Rattle.panel_laws.proofs.Flown.{IsSent, IsAcked, sent_later, event_counted, first_below}
use Rattle.panel_laws.proofs.Items.{Another, Its, IsItem, AreItems, IsAbove, AreFalling, items_later, items_acknowledged, falling_acknowledged, falling_dropped, moment_is}
use Rattle.panel_laws.proofs.Spaced.{IsArrival, IsOfSent, spaced, above_all}
use Rattle.panel_laws.proofs.Holds.{acked_more, IsFrame, IsReply, Holds, stood, signals_of, good_of, replies_later}

-- another event is no message
not_message : (e : Event) → is_other e ≡ true → message_in e ≡ None
not_message (Sends m via) other = absurd (true≢false (sym other))
not_message rest other = refl

-- an item without a number is above all others
all_below : (new : Entry) (b : Bool) (w : List Item) → AllByRecursion (IsAbove (item_of b new)) w
all_below new b [] = tt
all_below new b (i ∷ w) = ((λ n k none number. absurd (none-some n none)), all_below new b w)

module _ (x : Schedule) (s : Setting) (ms : List Mark) (now : ℕ) (fs rs : List Copy) (ts : List Step) (h : Holds x s ms now fs rs ts)
    (clock : ℕ) (le : now ≤ clock) where
  -- the items, once the moment has passed
  passed : AreItems s h.xs clock (ideal_after x ts)
  passed = items_later s h.xs h.xs now clock (ideal_after x ts) le (λ y there. there) h.items

  -- A copy of the message of y reaches the centre.

  arrival : (y : Sent) → is_setting s ≡ true → IsAmong y h.xs → clock ≤ y.first + 240
      → IsArrival s (IsAcked ms) h.xs now clock (ideal_after x ts) y
  arrival y ok there soon = record {
    setting = ok;
    order = h.sent.order;
    some = λ z among. (event_counted ms now h.xs z h.sent among).some;
    there = there;
    from = omega (arith, first_below ms now h.xs y h.sent there, le);
    soon = soon;
    time = le;
    items = h.items;
    falls = h.falls;
    kept = λ acked. stood x ts y.event h.steps h.spaced (h.acked y.event acked);
  }

  -- the item that it adds
  item_is : (y : Sent) (via : List ℕ) (b : Bool) → IsAmong y h.xs → clock ≤ y.first + 240
      → IsItem s h.xs clock (sent_item y.event b (message_entry (ideal_after x ts) (message_of s y.event y.report) via clock))
  item_is y via b there soon =
      let at = moment_is s h.xs now clock (ideal_after x ts) le h.items in
      record {
        upto = omega (arith, at);
        of = Its y there (record {
          number = refl;
          message = refl;
          low = omega (arith, at, first_below ms now h.xs y h.sent there, le);
          high = omega (arith, at, soon);
        });
      }

  replied : (y : Sent) (via : List ℕ) (at : ℕ) (b : Bool) → IsAmong y h.xs → clock ≤ y.first + 240
      → AllByRecursion (IsReply h.xs (Deliver y.event (message_of s y.event y.report) via clock b ∷ ts))
      (reply_at (Delivers (record { event = y.event; report = y.report; at = at }) via clock b) ++ rs)
  replied y via at true there soon = let t = Deliver y.event (message_of s y.event y.report) via clock true in (
    record {
      of = y;
      there = there;
      copy = record { event = refl; report = refl; high = soon };
      acked = record { later = []; earlier = ts; message = message_of s y.event y.report; via = via; clock = clock; is = refl };
    },
    replies_later h.xs t ts rs h.replies,
  )
  replied y via at false there soon = replies_later h.xs (Deliver y.event (message_of s y.event y.report) via clock false) ts rs h.replies

  -- what holds once the copy that was sent at a moment is delivered
  abbrev Delivered : List ℕ → ℕ → Bool → ℕ → Report → Type 0
  Delivered via at b e r = Holds x s ms clock fs (reply_at (Delivers (record { event = e; report = r; at = at }) via clock b) ++ rs)
      (Deliver e (message_of s e r) via clock b ∷ ts)

  arrive : (y : Sent) (via : List ℕ) (at : ℕ) (b : Bool) → is_setting s ≡ true → has_account (meaning x.text) s.account ≡ true → IsAmong y h.xs
      → clock ≤ y.first + 240 → Delivered via at b y.event y.report
  arrive y via at b ok has there soon =
      let w = ideal_after x ts in
      let m = message_of s y.event y.report in
      let v = arrival y ok there soon in
      let own = all_among (IsSent ms) y h.xs h.sent.each there in
      let new = sent_item y.event b (message_entry w m via clock) in
      let t = Deliver y.event m via clock b in
      record {
        xs = h.xs;
        sent = sent_later ms now clock h.xs le h.sent;
        frames = h.frames;
        replies = replied y via at b there soon;
        acked = λ n is. acked_more n t ts (h.acked n is);
        good = h.good;
        deliveries = ((y, there, refl, refl), h.deliveries);
        items = delivered_has (AreItems s h.xs clock) y.event m via clock b w passed (items_acknowledged s h.xs clock y.event w passed)
            (λ none. (item_is y via b there soon, passed));
        falls = delivered_has AreFalling y.event m via clock b w h.falls (falling_acknowledged y.event w h.falls)
            (λ none. (above_all s (IsAcked ms) h.xs now clock w y v new refl none, h.falls));
        steps = (record { account = has; signals = signals_of y.report (good_of y.event y.report (taken ms) h.good own.told) }, h.steps);
        spaced = (
          subst (λ (at : ℕ). IsSpaced y.event m at ts w) (sym (moment_is s h.xs now clock w le h.items))
              (spaced s (IsAcked ms) h.xs now clock w y v ts h.deliveries),
          h.spaced,
        );
      }

  -- a frame that is under way
  pub deliver : (c : Copy) (via : List ℕ) (b : Bool) → is_setting s ≡ true → has_account (meaning x.text) s.account ≡ true → IsAmong c fs
      → clock ≤ c.at + 60
      → Holds x s ms clock fs (reply_at (Delivers c via clock b) ++ rs) (Deliver c.event (message_of s c.event c.report) via clock b ∷ ts)
  deliver c via b ok has there soon =
      let f = all_among (IsFrame h.xs) c fs h.frames there in
      let y = f.of in
      let own = arrive y via c.at b ok has f.there (omega (arith, f.copy.high, soon)) in
      subst (λ (e : ℕ). Delivered via c.at b e c.report) (sym f.copy.event)
      (subst (λ (r : Report). Delivered via c.at b y.event r) (sym f.copy.report) own)

  -- a step that delivers nothing leaves what was sent, and the frames and replies that are under way
  stays : (t : Step) → IsOfSent s h.xs t → AreItems s h.xs clock (ideal_after x (t ∷ ts)) → AreFalling (ideal_after x (t ∷ ts))
      → Each (IsStep x) (t ∷ ts) → Each (IsSpacedStep x) (t ∷ ts) → Holds x s ms clock fs rs (t ∷ ts)
  stays t of_sent items falls steps apart = record {
    xs = h.xs;
    sent = sent_later ms now clock h.xs le h.sent;
    frames = h.frames;
    replies = replies_later h.xs t ts rs h.replies;
    acked = λ n acked. acked_more n t ts (h.acked n acked);
    good = h.good;
    deliveries = (of_sent, h.deliveries);
    items = items;
    falls = falls;
    steps = steps;
    spaced = apart;
  }

  -- Another event comes.

  pub other : (e : Event) (b : Bool) → is_other e ≡ true → Holds x s ms clock fs rs (Other e clock b ∷ ts)
  other e b is =
      let w = ideal_after x ts in
      let new = next (entries w) e clock in
      let items = added_has (AreItems s h.xs clock) new b w passed (λ _.
      (record { upto = omega (arith, moment_is s h.xs now clock w le h.items); of = Another refl (not_message e is) }, passed)) in
      let falls = added_has AreFalling new b w h.falls (λ _. (all_below new b w, h.falls)) in
      stays (Other e clock b) tt items falls (is, h.steps) (tt, h.spaced)

  -- The centre crashes.

  pub crash : (kept : ℕ) → IsKept kept (ideal_after x ts) → Holds x s ms clock fs rs (Crash kept clock ∷ ts)
  crash kept is =
      let w = ideal_after x ts in
      let d = length w - kept in
      let left = oldest kept w in
      let before = all_drop (IsItem s h.xs now) d w h.items in
      let start : IsItem s h.xs clock (item_of false (start_entry left clock)) = record { upto = omega (arith, moment_is s h.xs now clock left le before); of = Another refl refl } in
      stays (Crash kept clock) tt (start, all_drop (IsItem s h.xs clock) d w passed)
      (all_below (start_entry left clock) false left, falling_dropped d w h.falls) (is, h.steps) (tt, h.spaced)

-- A frame or a reply is lost.
pub lose : (x : Schedule) (s : Setting) (ms : List Mark) (now : ℕ) (fs rs : List Copy) (ts : List Step) → Holds x s ms now fs rs ts
    → Holds x s ms now fs rs (Lose ∷ ts)
lose x s ms now fs rs ts h = stays x s ms now fs rs ts h now (omega arith) Lose tt h.items h.falls (tt, h.steps) (tt, h.spaced)
