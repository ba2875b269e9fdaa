-- The law, by induction on the steps of a world.
use Rattle.std.proofs.Common.{◌≡◌, ◌<◌, ◌⊎◌, ℕ, List, [], ◌∷◌, map, true, ◌||◌, refl, sym, ap, ◌∙◌, true≢false, inl, inr, subst}
use Rattle.std.specs.Prelude.{Option, Some, None, ◌==◌}
use Rattle.std.specs.List.{AllByRecursion, cons_option}
use Rattle.std.specs.Option.{option_map}
use Rattle.std.specs.Str.{bytes_eq}
use Rattle.std.proofs.lemmas.Bool.{or_cases, eqb-true}
use Rattle.std.proofs.lemmas.Slice.Eq.{bytes_eq-Decides}
use Rattle.arc_data.specs.declared.event.Message.{Message}
use Rattle.centre_rules.specs.History.{Entry, recorded}
use Rattle.centre_laws.specs.Schedules.{Item, entries, is_same, stands, history, ideal_list, IsSchedule}
use Rattle.centre_laws.specs.Spacing.{message_in, IsWellSpaced}
use Rattle.centre_laws.specs.Sendings.{RestartsLoseNothing}
use Rattle.panel_rules.specs.Marks.{Mark, taken, numbered, sends}
use Rattle.panel_rules.specs.declared.Report.{Report}
use Rattle.panel_rules.specs.Panels.{Setting, message_body, body_of_event}
use Rattle.panel_laws.specs.Worlds.{World, Copy, Step, Queue, Turn, Deliver, Hand, Other, Lose, Crash, IsWorld, IsStep, AreSteps, IsAmong, marks_after, reading, frames, replies, scheduled, schedule_of, message_of, copy_of, sent_copy}
use Rattle.panel_laws.specs.Orders.{messages_among, event_message, numbers_of, Falls, StandInOrder, IsInOrder}
use Rattle.panel_laws.proofs.Fates.{acked}
use Rattle.panel_laws.proofs.Sent.{Sent, all_among}
use Rattle.panel_laws.proofs.Flown.{IsSent}
use Rattle.panel_laws.proofs.Items.{IsOf, Another, Its, AreItems, IsAbove, AreFalling}
use Rattle.panel_laws.proofs.Holds.{Holds, IsFrame, IsGood, begins, good_of, stood}
use Rattle.panel_laws.proofs.Readings.{body_read}
use Rattle.panel_laws.proofs.Bodies.{is_body}
use Rattle.panel_laws.specs.Readings.{IsRead, FramesAreSent, body_of}
use Rattle.dc09_frame.specs.Headers.{SpelledIsRead}
use Rattle.dc09_message.specs.Contents.{WrittenContentIsRead}
use Rattle.alarm_rules.specs.Setups.{meaning}
use Rattle.panel_laws.proofs.Panel.{queue, turn, hear}
use Rattle.panel_laws.proofs.Centre.{deliver, other, crash, lose}

-- what holds after these steps
abbrev pub HoldsAfter : World → List Step → Type 0
HoldsAfter w steps =
    Holds (schedule_of w) w.setting (marks_after w.setting steps) (reading w.first steps) (frames w.setting steps) (replies steps)
    (scheduled w.setting steps)

holds_step : (w : World) (t : Step) (ss : List Step) → IsWorld w → IsStep w t ss → HoldsAfter w ss → HoldsAfter w (t ∷ ss)
holds_step w (Queue token content) ss is ok h = queue _ _ _ _ _ _ _ h token content
holds_step w (Turn clock) ss is ok h = turn _ _ _ _ _ _ _ h clock ok.later
holds_step w (Deliver frame via clock b) ss is ok h =
    deliver _ _ _ _ _ _ _ h clock ok.later frame via b is.setting is.account ok.possible.among ok.possible.young
holds_step w (Hand reply clock) ss is ok h = hear _ _ _ _ _ _ _ h clock reply is.setting ok.later ok.possible.among ok.possible.young
holds_step w (Other e clock b) ss is ok h = other _ _ _ _ _ _ _ h clock ok.later e b ok.possible
holds_step w Lose ss is ok h = lose _ _ _ _ _ _ _ h
holds_step w (Crash kept clock) ss is ok h = crash _ _ _ _ _ _ _ h clock ok.later kept ok.possible

holds : (w : World) (ss : List Step) → IsWorld w → AreSteps w ss → HoldsAfter w ss
holds w [] is ok = begins (schedule_of w) w.setting
holds w (t ∷ ss) is ok = holds_step w t ss is ok.0 (holds w ss is ok.1)

-- The events that stand.

number_here : (n : ℕ) (i : Item) (w : List Item) → i.number ≡ Some n → numbers_of (i ∷ w) ≡ n ∷ numbers_of w
number_here n i w is = rw is refl

number_none : (i : Item) (w : List Item) → i.number ≡ None → numbers_of (i ∷ w) ≡ numbers_of w
number_none i w is = rw is refl

-- in their order

below_step : (n : ℕ) (i j : Item) (w : List Item) (o : Option ℕ) → j.number ≡ o → i.number ≡ Some n → IsAbove i j
    → AllByRecursion (λ k. k < n) (numbers_of w) → AllByRecursion (λ k. k < n) (numbers_of (j ∷ w))
below_step n i j w None none is above all = rw none all
below_step n i j w (Some k) own is above all = rw own (above n k is own, all)

below_numbers : (n : ℕ) (i : Item) (w : List Item) → i.number ≡ Some n → AllByRecursion (IsAbove i) w → AllByRecursion (λ k. k < n) (numbers_of w)
below_numbers n i [] is all = tt
below_numbers n i (j ∷ w) is all = below_step n i j w j.number refl is all.0 (below_numbers n i w is all.1)

falls_step : (i : Item) (w : List Item) (o : Option ℕ) → i.number ≡ o → AllByRecursion (IsAbove i) w → Falls (numbers_of w)
    → Falls (numbers_of (i ∷ w))
falls_step i w None none above falls = rw none falls
falls_step i w (Some n) own above falls = rw own (below_numbers n i w own above, falls)

numbers_fall : (w : List Item) → AreFalling w → Falls (numbers_of w)
numbers_fall [] all = tt
numbers_fall (i ∷ w) all = falls_step i w i.number refl all.0 (numbers_fall w all.1)

-- an event that stands is among them

among_step : (n : ℕ) (i : Item) (w : List Item) (o : Option ℕ) → i.number ≡ o → (is_same n o || stands n w) ≡ true
    → (stands n w ≡ true → IsAmong n (numbers_of w)) → IsAmong n (numbers_of (i ∷ w))
among_step n i w None none stood more = rw none (more stood)
among_step n i w (Some k) own stood more = rw own (elim (or_cases (n == k) (stands n w) stood) as (λ _. (n ≡ k) ⊎ IsAmong n (numbers_of w)) [
  | inl same ↦ inl (eqb-true n k same)
  | inr there ↦ inr (more there)
])

among_numbers : (n : ℕ) (w : List Item) → stands n w ≡ true → IsAmong n (numbers_of w)
among_numbers n [] stood = absurd (true≢false (sym stood))
among_numbers n (i ∷ w) stood = among_step n i w i.number refl stood (among_numbers n w)

-- their messages

message_here : (account : List ℕ) (e : Entry) (h : List Entry) (m : Message) → message_in e.event ≡ Some m → bytes_eq m.account account ≡ true
    → messages_among account (e ∷ h) ≡ m ∷ messages_among account h
message_here account e h m is own = rw (is, own, is) refl

message_none : (account : List ℕ) (e : Entry) (h : List Entry) → message_in e.event ≡ None
    → messages_among account (e ∷ h) ≡ messages_among account h
message_none account e h is = rw is refl

messages_step : (s : Setting) (xs : List Sent) (told : ℕ → Option Message) (i : Item) (w : List Item)
    → ((y : Sent) → IsAmong y xs → told y.event ≡ Some (message_of s y.event y.report)) → IsOf s xs i
    → map Some (messages_among s.account (entries w)) ≡ map told (numbers_of w)
    → map Some (messages_among s.account (entries (i ∷ w))) ≡ map told (numbers_of (i ∷ w))
messages_step s xs told i w tells (Another none empty) same =
    ap (map Some) (message_none s.account i.entry (entries w) empty) ∙ same ∙ ap (map told) (sym (number_none i w none))
messages_step s xs told i w tells (Its y there own) same =
    let m = message_of s y.event y.report in
    ap (map Some) (message_here s.account i.entry (entries w) m own.message ((bytes_eq-Decides s.account s.account).1 refl))
    ∙ ap (λ l. Some m ∷ l) same ∙ ap (λ (o : Option Message). o ∷ map told (numbers_of w)) (sym (tells y there))
    ∙ ap (map told) (sym (number_here y.event i w own.number))

messages_same : (s : Setting) (xs : List Sent) (now : ℕ) (told : ℕ → Option Message) (w : List Item)
    → ((y : Sent) → IsAmong y xs → told y.event ≡ Some (message_of s y.event y.report)) → AreItems s xs now w
    → map Some (messages_among s.account (entries w)) ≡ map told (numbers_of w)
messages_same s xs now told [] tells all = refl
messages_same s xs now told (i ∷ w) tells all =
    messages_step s xs told i w tells all.0.of (messages_same s xs now told w tells all.1)

-- what the panel knows of an event that it sent
event_told : (w : World) (y : Sent) → numbered y.event (taken (marks_after w.setting w.steps)) ≡ Some y.report
    → event_message w y.event ≡ Some (message_of w.setting y.event y.report)
event_told w y told = rw told refl

-- The law.

stand : (w : World) → RestartsLoseNothing → IsSchedule (schedule_of w) → IsWellSpaced (schedule_of w) → HoldsAfter w w.steps → StandInOrder w
stand w restarts schedule spaced h =
    let x = schedule_of w in
    let same : recorded (history x) ≡ entries (ideal_list x) = (restarts x schedule spaced).ideal.recorded in
    record {
      events = numbers_of (ideal_list x);
      standing = refl;
      order = numbers_fall (ideal_list x) h.falls;
      messages = ap (λ (l : List Entry). map Some (messages_among w.setting.account l)) same
          ∙ messages_same w.setting h.xs (reading w.first w.steps) (event_message w) (ideal_list x)
          (λ y there. event_told w y (all_among (IsSent (marks_after w.setting w.steps)) y h.xs h.sent.each there).told) h.items;
      acknowledged = λ n is. among_numbers n (ideal_list x)
          (stood x (scheduled w.setting w.steps) n h.steps h.spaced (h.acked n (acked n (marks_after w.setting w.steps) is)));
    }

pub in_order : (w : World) → RestartsLoseNothing → IsWorld w → IsInOrder w
in_order w restarts is =
    let h = holds w w.steps is is.steps in
    let schedule : IsSchedule (schedule_of w) = record { setup = is.setup; steps = h.steps } in
    record { schedule = schedule; spaced = h.spaced; stand = stand w restarts schedule h.spaced h }

-- The frames are those that the panel sends.

copy_sent : (s : Setting) (n clock : ℕ) (o : Option Report) → map (body_of s) (copy_of n clock o) ≡ cons_option (option_map (message_body s n) o) []
copy_sent s n clock None = refl
copy_sent s n clock (Some report) = refl

bodies_sent : (s : Setting) (ms : List Mark) (clock : ℕ) (o : Option ℕ)
    → map (body_of s) (sent_copy ms clock o) ≡ cons_option (body_of_event s ms o) []
bodies_sent s ms clock None = refl
bodies_sent s ms clock (Some n) = copy_sent s n clock (numbered n (taken ms))

pub frames_sent : FramesAreSent
frames_sent s earlier clock = let ms = marks_after s earlier in bodies_sent s ms clock (sends ms clock)

-- What the centre reads of them.

pub read : (w : World) → SpelledIsRead → WrittenContentIsRead → IsWorld w → (c : Copy) → IsAmong c (frames w.setting w.steps) → IsRead w c
read w spelled written is c there =
    let h = holds w w.steps is is.steps in
    let f = all_among (IsFrame h.xs) c (frames w.setting w.steps) h.frames there in
    let ms = marks_after w.setting w.steps in
    let own = all_among (IsSent ms) f.of h.xs h.sent.each f.there in
    let good : IsGood c.report = subst IsGood (sym f.copy.report) (good_of f.of.event f.of.report (taken ms) h.good own.told) in
    record {
      body = is_body w.setting c.event c.report is.setting good;
      verdict = λ now. body_read spelled written (meaning w.text) w.setting c.event c.report now is.setting good is.account is.keyless;
    }
