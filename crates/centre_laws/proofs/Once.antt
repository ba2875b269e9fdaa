-- The centre is ideal. What a history records goes on by itself: after an event it is what it was, with the next entry over it
-- where that is recorded. The ideal list goes on alike.
use Rattle.std.proofs.Common.{◌≡◌, ℕ, List, [], ◌∷◌, max, Bool, true, false, cond, refl, sym, ap, ◌∙◌, subst, arith}
use Rattle.std.specs.Prelude.{is_ok}
use Rattle.arc_data.specs.declared.event.Event.{Event}
use Rattle.arc_data.specs.declared.event.Event.TheVariants.{Start, Message as Sent}
use Rattle.arc_data.specs.declared.event.Message.{Message}
use Rattle.arc_data.specs.declared.reply.Reply.{Reply}
use Rattle.alarm_rules.specs.Setups.{setup_of}
use Rattle.centre_rules.specs.Summary.{nothing}
use Rattle.centre_rules.specs.History.{Entry, is_recorded, recorded, moment_after}
use Rattle.centre_rules.specs.Answers.{answer}
use Rattle.centre_laws.specs.Repeats.{QuietChangesNothing}
use Rattle.centre_laws.specs.Schedules.{Step, Deliver, Other, Lose, Crash, Schedule, Item, entries, stands, acknowledge, sent_item, item_of, message_entry, next, oldest, ideal_after, submitted, history_after, Each, IsStep, IsSchedule}
use Rattle.centre_laws.specs.Spacing.{IsSpacedStep, IsWellSpaced}
use Rattle.centre_laws.specs.Sendings.{IsRepeat, IsTold, IsAnswered, IsIdeal}
use Rattle.centre_laws.proofs.Lists.{oldest_entries, oldest_recorded, acknowledged_entries}
use Rattle.centre_laws.proofs.Shape.{over, traced}
use Rattle.centre_laws.proofs.Told.{told}

-- these with the entry over them, where it is recorded
abbrev pub put : Entry → List Entry → List Entry
put e h = cond (is_recorded e.reply) (e ∷ h) h

-- the next entry is that over the recorded entries: here, and here alone, quiet entries change nothing
next_is : QuietChangesNothing → (h k : List Entry) (e : Event) (clock : ℕ) → recorded h ≡ k → next h e clock ≡ next k e clock
next_is quiet h k e clock is =
    let r = recorded h in
    let at = moment_after nothing r clock in
    ap (λ at. record { caller = 0; event = e; at = at; reply = answer nothing h e at }) (ap (max clock) (quiet nothing h).quiet.last)
    ∙ ap (λ reply. record { caller = 0; event = e; at = at; reply = reply }) ((quiet nothing h).quiet.answers e at)
    ∙ ap (λ l. next l e clock) is

-- what is recorded goes on by itself
recorded_next : QuietChangesNothing → (h k : List Entry) (e : Event) (clock : ℕ) → recorded h ≡ k
    → recorded (submitted e clock h) ≡ put (next k e clock) k
recorded_next quiet h k e clock is = ap (λ r. put r (recorded h)) (next_is quiet h k e clock is) ∙ ap (put (next k e clock)) is

-- The ideal list goes on alike.

-- a repeat is not recorded
put_repeat : (e : Entry) (h : List Entry) → IsRepeat e.reply → put e h ≡ h
put_repeat e h repeat = rw repeat.1 refl

-- a delivery that adds nothing changes no entry
acknowledged_if : (b : Bool) (n : ℕ) (w : List Item) → entries w ≡ entries (cond b (acknowledge n w) w)
acknowledged_if true n w = sym (acknowledged_entries n w)
acknowledged_if false n w = refl

-- at a delivery, by whether its number stands
put_delivered : (stood : Bool) (n : ℕ) (m : Message) (via : List ℕ) (clock : ℕ) (b : Bool) (w : List Item)
    → IsTold stood (next (entries w) (Sent m via) clock).reply
    → put (next (entries w) (Sent m via) clock) (entries w)
    ≡ entries (cond stood (cond b (acknowledge n w) w) (sent_item n b (message_entry w m via clock) ∷ w))
put_delivered true n m via clock b w told = put_repeat (next (entries w) (Sent m via) clock) (entries w) (told.again refl) ∙ acknowledged_if b n w
put_delivered false n m via clock b w told =
    let at = moment_after nothing (entries w) clock in
    ap (λ (reply : Reply). put (record { caller = 0; event = Sent m via; at = at; reply = reply }) (entries w)) (told.first refl)

-- at another event, by whether it is recorded
put_added : (recorded : Bool) (e : Entry) (b : Bool) (w : List Item)
    → cond recorded (e ∷ entries w) (entries w) ≡ entries (cond recorded (item_of b e ∷ w) w)
put_added true e b w = refl
put_added false e b w = refl

-- The invariant: what is recorded so far is the ideal list so far, and so are the replies so far.
pub record IsIdealTo (x : Schedule) (ss : List Step) : Type 0 where
  pub same : recorded (history_after x ss) ≡ entries (ideal_after x ss)
  pub replies : Each (IsAnswered x) ss

-- the induction's step
ideal_step : QuietChangesNothing → (x : Schedule) (s : Step) (ss : List Step) → Each (IsStep x) (s ∷ ss) → IsSpacedStep x s ss
    → IsIdealTo x ss → IsIdealTo x (s ∷ ss)
ideal_step quiet x (Deliver n m via clock b) ss ok spaced so =
    let h = history_after x ss in
    let w = ideal_after x ss in
    let at = moment_after nothing (entries w) clock in
    let is = told x ss w n m via at (over x ss ok.1) (traced x ss) ok.0 spaced in
    let same : next h (Sent m via) clock ≡ next (entries w) (Sent m via) clock = next_is quiet h (entries w) (Sent m via) clock so.same in
    record {
      same = recorded_next quiet h (entries w) (Sent m via) clock so.same ∙ put_delivered (stands n w) n m via clock b w is;
      replies = (subst (λ (e : Entry). IsTold (stands n w) e.reply) (sym same) is, so.replies);
    }
ideal_step quiet x (Other e clock b) ss ok spaced so =
    let h = history_after x ss in
    let w = ideal_after x ss in
    let new = next (entries w) e clock in
    record {
      same = recorded_next quiet h (entries w) e clock so.same ∙ put_added (is_recorded new.reply) new b w;
      replies = (ap (λ e. e.reply) (next_is quiet h (entries w) e clock so.same), so.replies);
    }
ideal_step quiet x Lose ss ok spaced so = record { same = so.same; replies = (tt, so.replies) }
ideal_step quiet x (Crash kept clock) ss ok spaced so =
    let h = history_after x ss in
    let w = ideal_after x ss in
    let left : recorded (oldest kept (recorded h)) ≡ entries (oldest kept w) =
    oldest_recorded kept h ∙ ap (oldest kept) so.same ∙ oldest_entries kept w in
    record {
      same = recorded_next quiet (oldest kept (recorded h)) (entries (oldest kept w)) Start clock left;
      replies = (tt, so.replies);
    }

-- the moment of the Adopt
max_none : (n : ℕ) → max n 0 ≡ n
max_none n = omega arith

-- the moment of the Start that follows it
max_same : (n : ℕ) → max n n ≡ n
max_same n = omega arith

-- the induction, which begins with the Adopt and the Start
pub ideal_to : QuietChangesNothing → (x : Schedule) (ss : List Step) → is_ok (setup_of x.text) ≡ true → Each (IsStep x) ss
    → Each (IsSpacedStep x) ss → IsIdealTo x ss
ideal_to quiet x [] setup ok spaced = record { same = rw (setup, max_none x.first, max_same x.first) refl; replies = tt }
ideal_to quiet x (s ∷ ss) setup ok spaced = ideal_step quiet x s ss ok spaced.0 (ideal_to quiet x ss setup ok.1 spaced.1)

-- for both laws
pub is_ideal : QuietChangesNothing → (x : Schedule) → IsSchedule x → IsWellSpaced x → IsIdeal x
is_ideal quiet x ok spaced =
    let all = ideal_to quiet x x.steps ok.setup ok.steps spaced in record { recorded = all.same; replies = all.replies }
