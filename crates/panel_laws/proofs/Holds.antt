-- What holds of a world after each of its steps: of the panel, of what is under way, and of the centre's schedule.
use Rattle.std.proofs.Common.{◌≡◌, ◌≤◌, ◌+◌, ℕ, List, [], ◌∷◌, ◌++◌, Bool, true, false, ◌||◌, cond, length, refl, sym, ap, subst, true≢false, arith}
use Rattle.std.specs.Prelude.{Some, not, nat_lt}
use Rattle.std.specs.List.{AllByRecursion, filter, list_any}
use Rattle.std.proofs.lemmas.Bool.{or_left, or_parts}
use Rattle.std.proofs.lemmas.Option.{none-some, same_Some}
use Rattle.arc_data.specs.declared.event.Message.{Message}
use Rattle.alarm_rules.specs.Signals.{has_signals}
use Rattle.centre_laws.specs.Schedules.{Step, Deliver, Schedule, Item, is_of_sending, stands, ideal_after, Each, IsStep}
use Rattle.centre_laws.specs.Spacing.{IsSpacedStep}
use Rattle.centre_laws.specs.Sendings.{StandsOnce}
use Rattle.centre_laws.proofs.Kept.{stands_once}
use Rattle.panel_rules.specs.declared.Report.{Report}
use Rattle.panel_rules.specs.Marks.{Mark, taken, numbered, is_acked}
use Rattle.panel_rules.specs.Panels.{Setting, is_bad, is_barred}
use Rattle.panel_laws.specs.Worlds.{Copy, IsAmong}
use Rattle.panel_laws.proofs.Sent.{Sent, all_weaker}
use Rattle.panel_laws.proofs.Flown.{HasSent, none_sent}
use Rattle.panel_laws.proofs.Items.{Another, AreItems, AreFalling}
use Rattle.panel_laws.proofs.Spaced.{IsOfSent}

-- a delivery of this number was acknowledged
pub record HasAcked (n : ℕ) (ts : List Step) : Type 0 where
  pub later : List Step
  pub earlier : List Step
  pub message : Message
  pub via : List ℕ
  pub clock : ℕ
  pub is : ts ≡ later ++ Deliver n message via clock true ∷ earlier

pub acked_more : (n : ℕ) (t : Step) (ts : List Step) → HasAcked n ts → HasAcked n (t ∷ ts)
acked_more n t ts a =
    record { later = t ∷ a.later; earlier = a.earlier; message = a.message; via = a.via; clock = a.clock; is = ap (λ l. t ∷ l) a.is }

-- a copy is of an event that was sent, and was made so many seconds after the first copy at most
pub record IsCopyOf (limit : ℕ) (c : Copy) (y : Sent) : Type 0 where
  pub event : c.event ≡ y.event
  pub report : c.report ≡ y.report
  pub high : c.at ≤ y.first + limit

-- a frame that the panel sent
pub record IsFrame (xs : List Sent) (c : Copy) : Type 0 where
  pub of : Sent
  pub there : IsAmong of xs
  pub copy : IsCopyOf 180 c of

-- a reply that the centre made
pub record IsReply (xs : List Sent) (ts : List Step) (c : Copy) : Type 0 where
  pub of : Sent
  pub there : IsAmong of xs
  pub copy : IsCopyOf 240 c of
  pub acked : HasAcked c.event ts

-- the data may be sent
abbrev pub IsGood : Report → Type 0
IsGood report = is_bad report.token report.content ≡ false

signals_by : (a b c : Bool) → (a || b || not c) ≡ false → c ≡ true
signals_by a b true is = refl
signals_by a b false is = absurd (true≢false (or_parts (a || b) true is).1)

-- so it has signals
pub signals_of : (r : Report) → IsGood r → has_signals r.token r.content ≡ true
signals_of r good = signals_by (nat_lt 3900 (length r.content)) (list_any is_barred r.content) (has_signals r.token r.content) good

-- The panel has these marks at this moment, these frames were sent and these replies made, and this was scheduled.
pub record Holds (x : Schedule) (s : Setting) (ms : List Mark) (now : ℕ) (fs rs : List Copy) (ts : List Step) : Type 0 where
  pub xs : List Sent
  pub sent : HasSent ms now xs
  pub frames : AllByRecursion (IsFrame xs) fs
  pub replies : AllByRecursion (IsReply xs ts) rs
  pub acked : (n : ℕ) → is_acked n ms ≡ true → HasAcked n ts
  pub good : AllByRecursion IsGood (taken ms)
  pub deliveries : AllByRecursion (IsOfSent s xs) ts
  pub items : AreItems s xs now (ideal_after x ts)
  pub falls : AreFalling (ideal_after x ts)
  pub steps : Each (IsStep x) ts
  pub spaced : Each (IsSpacedStep x) ts

-- At the beginning.

pub begins : (x : Schedule) (s : Setting) → Holds x s [] x.first [] [] []
begins x s = record {
  xs = [];
  sent = none_sent x.first;
  frames = tt;
  replies = tt;
  acked = λ n is. absurd (true≢false (sym is));
  good = tt;
  deliveries = tt;
  items = (record { upto = omega arith; of = Another refl refl }, (record { upto = omega arith; of = Another refl refl }, tt));
  falls = (((λ n k a b. absurd (none-some n a)), tt), (tt, tt));
  steps = tt;
  spaced = tt;
}

-- What is acknowledged stands.

any_step : (b : Bool) (n : ℕ) (i j : Item) (w v : List Item) → is_of_sending n i ≡ b → cond b (i ∷ v) v ≡ j ∷ []
    → (v ≡ j ∷ [] → stands n w ≡ true) → stands n (i ∷ w) ≡ true
any_step true n i j w v own is more = or_left (is_of_sending n i) (stands n w) own
any_step false n i j w v own is more = rw own (more is)

any_of : (n : ℕ) (j : Item) (w : List Item) → filter (is_of_sending n) w ≡ j ∷ [] → stands n w ≡ true
any_of n j [] is = cc
any_of n j (i ∷ w) is = any_step (is_of_sending n i) n i j w (filter (is_of_sending n) w) refl is (any_of n j w)

pub once : (x : Schedule) (ts : List Step) (n : ℕ) → Each (IsStep x) ts → Each (IsSpacedStep x) ts → (a : HasAcked n ts)
    → StandsOnce n a.message ts (ideal_after x ts)
once x ts n steps spaced a = stands_once false x ts a.later a.earlier n a.message a.via a.clock true refl a.is spaced steps

pub stood : (x : Schedule) (ts : List Step) (n : ℕ) → Each (IsStep x) ts → Each (IsSpacedStep x) ts → HasAcked n ts
    → stands n (ideal_after x ts) ≡ true
stood x ts n steps spaced a = let o = once x ts n steps spaced a in any_of n o.item (ideal_after x ts) o.only

-- What the panel took may be sent.

good_step : (b : Bool) (n : ℕ) (r q : Report) (reports : List Report) → IsGood r → cond b (Some r) (numbered n reports) ≡ Some q
    → (numbered n reports ≡ Some q → IsGood q) → IsGood q
good_step true n r q reports good is more = subst IsGood (same_Some r q is) good
good_step false n r q reports good is more = more is

pub good_of : (n : ℕ) (q : Report) (reports : List Report) → AllByRecursion IsGood reports → numbered n reports ≡ Some q → IsGood q
good_of n q [] all is = absurd (none-some q is)
good_of n q (r ∷ reports) all is = good_step _ n r q reports all.0 is (good_of n q reports all.1)

-- More was sent, or more was scheduled.

pub frame_more : (xs ys : List Sent) → ((y : Sent) → IsAmong y xs → IsAmong y ys) → (c : Copy) → IsFrame xs c → IsFrame ys c
frame_more xs ys more c f = record { of = f.of; there = more f.of f.there; copy = f.copy }

pub reply_more : (xs ys : List Sent) (ts : List Step) → ((y : Sent) → IsAmong y xs → IsAmong y ys) → (c : Copy) → IsReply xs ts c
    → IsReply ys ts c
reply_more xs ys ts more c r = record { of = r.of; there = more r.of r.there; copy = r.copy; acked = r.acked }

pub reply_later : (xs : List Sent) (t : Step) (ts : List Step) (c : Copy) → IsReply xs ts c → IsReply xs (t ∷ ts) c
reply_later xs t ts c r = record { of = r.of; there = r.there; copy = r.copy; acked = acked_more c.event t ts r.acked }

pub replies_later : (xs : List Sent) (t : Step) (ts : List Step) (rs : List Copy) → AllByRecursion (IsReply xs ts) rs
    → AllByRecursion (IsReply xs (t ∷ ts)) rs
replies_later xs t ts rs all = all_weaker (IsReply xs ts) (IsReply xs (t ∷ ts)) (reply_later xs t ts) rs all
