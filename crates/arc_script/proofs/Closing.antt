-- What is counted of a desk's entry: a reply Closed takes one open incident away, every other leaves their number, and none is a repeat.
use Rattle.std.proofs.Common.{◌≡◌, ◌≤◌, ◌+◌, ℕ, suc, List, [], ◌∷◌, ◌++◌, Bool, true, false, cond, Option, Some, None, length, map, reverse, refl, sym, ap, subst, ◌∙◌, arith}
use Rattle.std.specs.Prelude.{not}
use Rattle.std.specs.List.{filter}
use Rattle.std.specs.Option.{option_to_list, option_map_or}
use Rattle.std.proofs.lemmas.Bool.{eqb-true, false≢true, ne_eqb}
use Rattle.std.proofs.lemmas.List.{length-map}
use Rattle.alarm_rules.specs.Plans.{expected_step}
use Rattle.alarm_rules.specs.Setups.{meaning}
use Rattle.arc_data.specs.declared.event.Event.{Event}
use Rattle.arc_data.specs.declared.event.Event.TheVariants as E
use Rattle.arc_data.specs.declared.reply.Reply.{Reply}
use Rattle.arc_data.specs.declared.reply.Reply.TheVariants.{Claimed, Closed, NotYours, Recorded, Released, Repeat, Missing}
use Rattle.arc_data.specs.declared.step.Acted.{Acted}
use Rattle.arc_data.specs.declared.step.Step.{Step}
use Rattle.centre_laws.proofs.Numbering.{rise}
use Rattle.centre_laws.proofs.Replies.{answer_may, may_answer}
use Rattle.centre_rules.proofs.Steps.{incidents_step}
use Rattle.centre_rules.proofs.Stood.{stood_found}
use Rattle.centre_store.specs.Given.{IsGiven}
use Rattle.arc_script.proofs.GivenSummaries.{given_ascends}
use Rattle.centre_rules.specs.Answers.{answer, if_known, knows_operator, IsLegal}
use Rattle.centre_rules.specs.Cases.{has_number, incidents, opened, Ascends, Incident}
use Rattle.centre_rules.specs.Desks.{holds, numbered, if_held}
use Rattle.centre_rules.specs.History.{Entry, act_marks, acted_by, claim_marks, close_marks, is_recorded, marks, marks_of, onto, release_marks}
use Rattle.centre_rules.specs.Marks.{force, lapse, Acts, Claims, Closes, Mark, Releases}
use Rattle.centre_rules.specs.Standing.{standing}
use Rattle.centre_rules.specs.Summary.{Summary}
use Rattle.centre_rules.specs.Tables.{touched_by}
use Rattle.desk_session.specs.Events.{command_in, event_by, event_of, text_of as said_of}
use Rattle.desk_session.specs.Turns.{Turn, IsAnswered}
use Rattle.desk_wire.specs.declared.command.Command.{Command}
use Rattle.desk_wire.specs.declared.command.Command.TheVariants as C
use Rattle.arc_script.proofs.Commanded.{Turned}
use Rattle.arc_script.specs.Tallies.{count_of, is_closed, is_repeat}

-- an event that a desk submits
abbrev is_desked : Event → Bool
is_desked (E.Adopt text) = false
is_desked E.Start = false
is_desked (E.Message m via) = false
is_desked (E.Beat account) = false
is_desked E.Tick = false
is_desked (E.Claim operator number) = true
is_desked (E.Next operator) = true
is_desked (E.Act operator number step outcome) = true
is_desked (E.Release operator number) = true
is_desked (E.Close operator number code) = true
is_desked (E.Show number) = true
is_desked E.List = true

desked_in : Option Event → Bool
desked_in None = true
desked_in (Some event) = is_desked event

desked_by : (operator : List ℕ) (command : Command) → desked_in (event_by operator command) ≡ true
unfolding desked_in
desked_by operator (C.Login name pin) = refl
desked_by operator C.Quit = refl
desked_by operator C.Next = refl
desked_by operator (C.Claim number) = refl
desked_by operator (C.Act number step outcome) = refl
desked_by operator (C.Release number) = refl
desked_by operator (C.Close number code) = refl
desked_by operator (C.Show number) = refl
desked_by operator C.List = refl

desked_of : (operator : Option (List ℕ)) (command : Option Command) → desked_in (event_of operator command) ≡ true
unfolding desked_in
desked_of None None = refl
desked_of None (Some command) = refl
desked_of (Some operator) None = refl
desked_of (Some operator) (Some command) = desked_by operator command

-- No reply to it is a repeat.

no_repeat : (event : Event) (first : ℕ) → is_desked event ≡ true → may_answer event (Repeat first) ≡ false
no_repeat (E.Adopt text) first is = refl
no_repeat E.Start first is = refl
no_repeat (E.Message m via) first is = absurd (false≢true is)
no_repeat (E.Beat account) first is = refl
no_repeat E.Tick first is = refl
no_repeat (E.Claim operator number) first is = refl
no_repeat (E.Next operator) first is = refl
no_repeat (E.Act operator number step outcome) first is = refl
no_repeat (E.Release operator number) first is = refl
no_repeat (E.Close operator number code) first is = refl
no_repeat (E.Show number) first is = refl
no_repeat E.List first is = refl

repeats_not : (event : Event) (reply : Reply) → is_desked event ≡ true → may_answer event reply ≡ true → is_repeat reply ≡ false
repeats_not event (Repeat first) is may = absurd (false≢true (sym (no_repeat event first is) ∙ may))
repeats_not event reply is may = refl

-- how many are open behind marks
abbrev open_in : Summary → List Mark → ℕ
open_in base ms = length (incidents base ms)

-- the count goes down by this much
abbrev Falls : Summary → List Mark → List Mark → ℕ → Type 0
Falls base ms ns n = open_in base ms ≡ open_in base ns + n

claims_stay : (base : Summary) (operator : List ℕ) (at : ℕ) (reply : Reply) (ms : List Mark) → Falls base ms (onto (claim_marks operator at reply) ms) 0
claims_stay base operator at (Claimed number class account) ms =
    let m = Claims operator number at in
    let step = ap length (incidents_step base m ms) ∙ length-map (incidents base ms) (touched_by m) in
    omega (arith, step)
claims_stay base operator at reply ms = omega arith

acts_stay : (base : Summary) (acted : Acted) (reply : Reply) (ms : List Mark) → Falls base ms (onto (act_marks acted reply) ms) 0
acts_stay base acted (Recorded number left) ms =
    let m = Acts number acted in
    let step = ap length (incidents_step base m ms) ∙ length-map (incidents base ms) (touched_by m) in
    omega (arith, step)
acts_stay base acted reply ms = omega arith

releases_stay : (base : Summary) (reply : Reply) (ms : List Mark) → Falls base ms (onto (release_marks reply) ms) 0
releases_stay base (Released number) ms =
    let m = Releases number in
    let step = ap length (incidents_step base m ms) ∙ length-map (incidents base ms) (touched_by m) in
    omega (arith, step)
releases_stay base reply ms = omega arith

-- One of them is closed.

dropped_above : (n low : ℕ) (is : List Incident) (high : ℕ) → n ≤ low → Ascends low is high
    → length (filter (λ j. not (has_number n j)) (map (touched_by (Closes n)) is)) ≡ length is
dropped_above n low [] high few a = refl
dropped_above n low (i ∷ is) high few a =
    let above = a.0 in
    let other : has_number n i ≡ false = ne_eqb i.number n (λ e. omega (arith, e, above, few)) in
    let rest = dropped_above n i.number is high (omega (arith, above, few)) a.1 in
    ap (λ (b : Bool). length (cond (not b) (touched_by (Closes n) i ∷ filter (λ j. not (has_number n j)) (map (touched_by (Closes n)) is))
    (filter (λ j. not (has_number n j)) (map (touched_by (Closes n)) is)))) other ∙ ap suc rest

dropped_if : (b : Bool) (n : ℕ) (i found : Incident) (is : List Incident) (high : ℕ) → has_number n i ≡ b → Ascends i.number is high
    → cond b (Some i) (numbered n is) ≡ Some found
    → (numbered n is ≡ Some found → length (filter (λ j. not (has_number n j)) (map (touched_by (Closes n)) is)) + 1 ≡ length is)
    → length (cond (not b) (touched_by (Closes n) i ∷ filter (λ j. not (has_number n j)) (map (touched_by (Closes n)) is))
    (filter (λ j. not (has_number n j)) (map (touched_by (Closes n)) is))) + 1 ≡ suc (length is)
dropped_if true n i found is high hit a f rest =
    let number = eqb-true i.number n hit in
    let same = dropped_above n i.number is high (omega (arith, number)) a in
    omega (arith, same)
dropped_if false n i found is high hit a f rest = (let more = rest f in omega (arith, more))

dropped : (n low : ℕ) (is : List Incident) (high : ℕ) (found : Incident) → Ascends low is high → numbered n is ≡ Some found
    → length (filter (λ j. not (has_number n j)) (map (touched_by (Closes n)) is)) + 1 ≡ length is
dropped n low [] high found a f = absurd cc
dropped n low (i ∷ is) high found a f =
    let step = dropped_if (has_number n i) n i found is high refl a.1 f (dropped n i.number is high found a.1) in
    step

record Found (number n : ℕ) (f : Option Incident) : Type 0 where
  incident : Incident
  is : f ≡ Some incident
  same : n ≡ number

done_found : (number n : ℕ) (i : Incident) (step : Option Step) → option_map_or Missing step (Closed number) ≡ Closed n → Found number n (Some i)
done_found number n i None is = record { incident = i; is = refl; same = cc }
done_found number n i (Some step) is = absurd cc

holds_found : (b : Bool) (number n : ℕ) (i : Incident) (step : Option Step) → cond b (option_map_or Missing step (Closed number)) (NotYours number) ≡ Closed n
    → Found number n (Some i)
holds_found true number n i step is = done_found number n i step is
holds_found false number n i step is = absurd cc

close_found : (b : Bool) (operator : List ℕ) (number n : ℕ) (f : Option Incident) → if_known b (if_held operator number f (λ i. option_map_or Missing (expected_step i.steps i.acts) (Closed number))) ≡ Closed n → Found number n f
close_found true operator number n None is = absurd cc
close_found true operator number n (Some i) is = holds_found (holds operator i) number n i (expected_step i.steps i.acts) is
close_found false operator number n f is = absurd cc

-- the numbers of the open incidents rise
numbers : (base : Summary) → IsGiven base → (h : List Entry) → Ascends 0 (incidents base (marks base h)) (opened base (marks base h))
numbers base given h = rise base h (given_ascends base given)

closes_one : (base : Summary) → IsGiven base → (b : Bool) (operator : List ℕ) (number n : ℕ) (h : List Entry) (now : ℕ)
    → if_known b (if_held operator number (numbered number (standing base (marks base h) now)) (λ i. option_map_or Missing (expected_step i.steps i.acts) (Closed number))) ≡ Closed n
    → Falls base (marks base h) (Closes n ∷ marks base h) 1
closes_one base given b operator number n h now is =
    let ms = marks base h in
    let found = close_found b operator number n (numbered number (standing base ms now)) is in
    let stood : numbered n (standing base ms now) ≡ Some found.incident = ap (λ k. numbered k (standing base ms now)) found.same ∙ found.is in
    let there = stood_found (lapse base ms) now n (incidents base ms) found.incident stood in
    let less = dropped n 0 (incidents base ms) (opened base ms) there.incident (numbers base given h) there.found in
    let step = ap length (incidents_step base (Closes n) ms) in
    omega (arith, less, step)

falls_if : (base : Summary) (r : Bool) (ms ns : List Mark) (n : ℕ) → Falls base ms ns n → (r ≡ false → n ≡ 0) → Falls base ms (cond r ns ms) n
falls_if base true ms ns n falls none = falls
falls_if base false ms ns n falls none = (let zero = none refl in omega (arith, zero))

-- how much the count falls, by the reply
abbrev fall_of : Reply → ℕ
fall_of reply = cond (is_closed reply) 1 0

-- of a reply that closes nothing
stays_if : (base : Summary) (b : Bool) (ms ns : List Mark) → b ≡ false → Falls base ms ns 0 → Falls base ms ns (cond b 1 0)
stays_if base true ms ns is falls = absurd (false≢true (sym is))
stays_if base false ms ns is falls = falls

may_close : (event : Event) (reply : Reply) → ((n : ℕ) → may_answer event (Closed n) ≡ false) → may_answer event reply ≡ true → is_closed reply ≡ false
may_close event (Closed n) never may = absurd (false≢true (sym (never n) ∙ may))
may_close event reply never may = refl

quiet_zero : (reply : Reply) → is_recorded reply ≡ false → fall_of reply ≡ 0
quiet_zero (Closed n) is = absurd (false≢true (sym is))
quiet_zero reply is = refl

close_falls : (base : Summary) → IsGiven base → (operator : List ℕ) (number : ℕ) (h : List Entry) (now : ℕ) (b : Bool) (reply : Reply) (f : Option Incident)
    → f ≡ numbered number (standing base (marks base h) now) → reply ≡ if_known b (if_held operator number f (λ i. option_map_or Missing (expected_step i.steps i.acts) (Closed number)))
    → Falls base (marks base h) (onto (close_marks reply) (marks base h)) (fall_of reply)
close_falls base given operator number h now b (Closed n) f at is =
    closes_one base given b operator number n h now (ap (λ (o : Option Incident). if_known b (if_held operator number o (λ i. option_map_or Missing (expected_step i.steps i.acts) (Closed number)))) (sym at) ∙ sym is)
close_falls base given operator number h now b reply f at is = omega arith

event_falls : (base : Summary) → IsGiven base → (h : List Entry) (event : Event) (at : ℕ) (reply : Reply) → is_desked event ≡ true → may_answer event reply ≡ true
    → reply ≡ answer base h event at
    → Falls base (marks base h) (onto (marks_of base (marks base h) event at reply) (marks base h)) (fall_of reply)
event_falls base given h (E.Adopt text) at reply is may same = absurd (false≢true is)
event_falls base given h E.Start at reply is may same = absurd (false≢true is)
event_falls base given h (E.Message m via) at reply is may same = absurd (false≢true is)
event_falls base given h (E.Beat account) at reply is may same = absurd (false≢true is)
event_falls base given h E.Tick at reply is may same = absurd (false≢true is)
event_falls base given h (E.Claim operator number) at reply is may same =
    let ms = marks base h in
    stays_if base (is_closed reply) ms (onto (claim_marks operator at reply) ms) (may_close (E.Claim operator number) reply (λ n. refl) may)
    (claims_stay base operator at reply ms)
event_falls base given h (E.Next operator) at reply is may same =
    let ms = marks base h in
    stays_if base (is_closed reply) ms (onto (claim_marks operator at reply) ms) (may_close (E.Next operator) reply (λ n. refl) may)
    (claims_stay base operator at reply ms)
event_falls base given h (E.Act operator number step outcome) at reply is may same =
    let ms = marks base h in
    let acted = acted_by operator step outcome at in
    stays_if base (is_closed reply) ms (onto (act_marks acted reply) ms) (may_close (E.Act operator number step outcome) reply (λ n. refl) may)
    (acts_stay base acted reply ms)
event_falls base given h (E.Release operator number) at reply is may same =
    let ms = marks base h in
    stays_if base (is_closed reply) ms (onto (release_marks reply) ms) (may_close (E.Release operator number) reply (λ n. refl) may)
    (releases_stay base reply ms)
event_falls base given h (E.Close operator number code) at reply is may same =
    close_falls base given operator number h at (knows_operator (force base (marks base h)) operator) reply (numbered number (standing base (marks base h) at))
    refl same
event_falls base given h (E.Show number) at reply is may same =
    let ms = marks base h in stays_if base (is_closed reply) ms ms (may_close (E.Show number) reply (λ n. refl) may) (omega arith)
event_falls base given h E.List at reply is may same =
    let ms = marks base h in stays_if base (is_closed reply) ms ms (may_close E.List reply (λ n. refl) may) (omega arith)

-- what is counted of an entry
pub record IsCounted (base : Summary) (h x entries : List Entry) : Type 0 where
  pub repeats : count_of is_repeat entries ≡ 0
  pub closed : open_in base (marks base h) ≡ open_in base (marks base x) + count_of is_closed entries

count_one : (test : Reply → Bool) (e : Entry) (b : Bool) → test e.reply ≡ b → count_of test (e ∷ []) ≡ cond b 1 0
count_one test e true is = ap (λ (v : Bool). length (cond v (e ∷ []) [])) is
count_one test e false is = ap (λ (v : Bool). length (cond v (e ∷ []) [])) is

entry_counted : (base : Summary) → IsGiven base → (h : List Entry) (e : Entry) → is_desked e.event ≡ true → e.reply ≡ answer base h e.event e.at → IsCounted base h (e ∷ h) (e ∷ [])
entry_counted base given h e is same =
    let ms = marks base h in
    let may = subst (λ (r : Reply). may_answer e.event r ≡ true) (sym same) (answer_may base ms e.event e.at) in
    let falls = falls_if base (is_recorded e.reply) ms (onto (marks_of base ms e.event e.at e.reply) ms) (fall_of e.reply)
    (event_falls base given h e.event e.at e.reply is may same) (quiet_zero e.reply) in
    let count = count_one is_closed e (is_closed e.reply) refl in
    record {
      repeats = count_one is_repeat e false (repeats_not e.event e.reply is may);
      closed = omega (arith, falls, count);
    }

counted_by : (base : Summary) → IsGiven base → (o : Option Event) (text : List ℕ) (h x : List Entry) (t : Turn) → desked_in o ≡ true → IsAnswered base 0 h x t o text → IsLegal base x
    → x ≡ reverse (option_to_list t.entry) ++ h → IsCounted base h x (option_to_list t.entry)
unfolding desked_in
counted_by base given None text h x t is w legal added =
    let at : x ≡ h = added ∙ ap (λ (o : Option Entry). reverse (option_to_list o) ++ h) w.entry in
    subst (λ (o : Option Entry). IsCounted base h x (option_to_list o)) (sym w.entry)
    (subst (λ (k : List Entry). IsCounted base h k []) (sym at) (record { repeats = refl; closed = omega arith }))
counted_by base given (Some event) text h x t is w legal added =
    let at : x ≡ w.made ∷ h = added ∙ ap (λ (o : Option Entry). reverse (option_to_list o) ++ h) w.entry in
    let next = (subst (IsLegal base) at legal).0 in
    subst (λ (o : Option Entry). IsCounted base h x (option_to_list o)) (sym w.entry)
    (subst (λ (k : List Entry). IsCounted base h k (w.made ∷ [])) (sym at)
    (entry_counted base given h w.made (ap is_desked w.of ∙ is) next.reply))

pub counted_turn : (base : Summary) → IsGiven base → (setup : List ℕ) (operator : Option (List ℕ)) (clock : ℕ) (text : List ℕ) (h x : List Entry) (t : Turn)
    → Turned base setup operator clock text h x t → IsCounted base h x (option_to_list t.entry)
counted_turn base given setup operator clock text h x t w =
    counted_by base given (event_of operator (command_in t.line)) (said_of (meaning setup) (command_in t.line)) h x t (desked_of operator (command_in t.line)) w.is
    w.legal w.added
