-- What the calls of a panel answer is what the definitions say.
use Rattle.std.proofs.Common.{◌≡◌, ℕ, ◌+◌, ◌-◌, ◌<◌, ◌≤◌, List, [], ◌∷◌, ◌++◌, length, get_or, set, Bool, true, false, cond, ltb, leb, eqb, ◌&&◌, Option, Some, None, refl, sym, ap, subst, ◌∙◌, arith}
use Rattle.std.proofs.lemmas.Bool.{eq-eqb, ltb-true, ltb-false}
use Rattle.std.specs.Option.{is_some, option_map_or}
use Rattle.std.specs.Str.{bytes_eq}
use Rattle.arc_data.specs.declared.event.Token.{Token}
use Rattle.panel_rules.specs.declared.Fate.{Fate}
use Rattle.panel_rules.specs.declared.Fate.TheVariants.{Waiting, InFlight, Acked as IsAcked, GivenUp}
use Rattle.panel_rules.specs.declared.Heard.{Heard}
use Rattle.panel_rules.specs.declared.Heard.TheVariants.{Acked, Other}
use Rattle.panel_rules.specs.declared.Queued.{Queued}
use Rattle.panel_rules.specs.declared.Queued.TheVariants.{Taken, Full, BadData}
use Rattle.panel_rules.specs.declared.Report.{Report}
use Rattle.panel_rules.specs.Marks.{Mark, Acks, Steps, count, fate, in_flight, is_acked, numbered, sends, taken, waiting}
use Rattle.panel_rules.specs.Panels.{Setting, Happening, Queue, Step, Hear, ack_body, body_of_event, body_sent, heard, is_ack, is_bad, marks, marks_heard, marks_queued, number, queued}
use Rattle.panel_core.specs.declared.flight.Flight.{Flight}
use Rattle.panel_core.specs.Sending.{body_in_flight, copied_with, copies_with, frame_sent, is_ack_of, still}
use Rattle.panel_core.specs.Standing.{HasEnded, Flies, IsLast, Keeps, PanelValue, StandsFor}
use Rattle.panel_core.proofs.Fates.{fate_ended, fate_flying, fate_unsent}
use Rattle.panel_core.proofs.Found.{flight_none, flight_some, waiting_count}
use Rattle.panel_core.proofs.Kept.{hears, steps_by, takes}
use Rattle.panel_core.proofs.Sends.{IsSent, sent_is}

-- A new panel.

get_nothing : (i : ℕ) → get_or {A = Bool} [] i false ≡ false
get_nothing i = refl

pub stands_new : (s : Setting) → Keeps s [] (record { account = s.account; line = s.line; next = s.first; sent = 0; begun = None; stepped = 0; flight = None; waiting = []; acked = [] })
stands_new s = record {
  account_is = refl;
  line_is = refl;
  next_is = refl;
  counted = refl;
  waits = λ i few. absurd (omega (arith, few));
  unsent = λ n more. refl;
  unheard = λ n more. refl;
  ended = λ n some few. absurd (omega (arith, few));
  last_is = λ some. absurd (omega (arith, some));
  begun_at = refl;
  stepped_by = refl;
  acked_are = λ n some. get_nothing (n - 1);
}

-- What is heard.

module _ (s : Setting) (ms : List Mark) (p : PanelValue) (k : Keeps s ms p) (body : List ℕ) where
  -- by the event whose message is in flight
  abbrev heard_of : Option ℕ → Heard
  heard_of flying = option_map_or (λ n. cond (is_ack s ms n body) (Acked n) Other) flying Other

  -- by what the event reports
  abbrev acks_of : Option Report → Bool
  acks_of told = option_map_or (λ report. bytes_eq body (ack_body s p.sent report.token)) told false

  heard_with : (o : Option Flight) → IsLast s ms p.sent o → heard s ms body ≡ cond (is_ack_of p body o) (Acked p.sent) Other
  heard_with None is = ap heard_of (flight_none s ms p k is)
  heard_with (Some f) is =
      let same : is_ack s ms p.sent body ≡ is_ack_of p body (Some f) = ap acks_of is.reports ∙ rw (k.account_is, k.line_is, is.number_is) refl in
      ap heard_of (flight_some s ms p k f is) ∙ ap (λ b. cond b (Acked p.sent) Other) same

  pub heard_is : heard s ms body ≡ cond (is_ack_of p body p.flight) (Acked p.sent) Other
  heard_is = heard_with p.flight k.last_is

  pub stays_unheard : is_ack_of p body p.flight ≡ false → Keeps s (marks_heard (heard s ms body) ++ ms) p
  stays_unheard other = let told : heard s ms body ≡ Other = heard_is ∙ ap (λ b. cond b (Acked p.sent) Other) other in subst (λ x. Keeps s (marks_heard x ++ ms) p) (sym told) k

  heard_some : (o : Option Flight) → IsLast s ms p.sent o → is_ack_of p body o ≡ true → p.sent ≤ length p.acked → Keeps s (Acks p.sent ∷ ms) (record p { flight = None; acked = set p.acked (p.sent - 1) true })
  heard_some None is acks few = absurd cc
  heard_some (Some f) is acks few = hears s ms p k f is few

  pub stands_heard : is_ack_of p body p.flight ≡ true → p.sent ≤ length p.acked → Keeps s (marks_heard (heard s ms body) ++ ms) (record p { flight = None; acked = set p.acked (p.sent - 1) true })
  stands_heard acks few = let acked : heard s ms body ≡ Acked p.sent = heard_is ∙ ap (λ b. cond b (Acked p.sent) Other) acks in subst (λ x. Keeps s (marks_heard x ++ ms) (record p { flight = None; acked = set p.acked (p.sent - 1) true })) (sym acked) (heard_some p.flight k.last_is acks few)

-- What is taken.

module _ (s : Setting) (ms : List Mark) (p : PanelValue) (k : Keeps s ms p) (token : Token) (content : List ℕ) where
  pub queued_bad : is_bad token content ≡ true → queued ms token content ≡ BadData
  queued_bad bad = ap (λ b. cond b BadData (cond (leb 1000 (length (waiting ms))) Full (Taken (count ms + 1)))) bad

  pub queued_full : is_bad token content ≡ false → leb 1000 (length p.waiting) ≡ true → queued ms token content ≡ Full
  queued_full good full = ap (λ b. cond b BadData (cond (leb 1000 (length (waiting ms))) Full (Taken (count ms + 1)))) good ∙ ap (λ n. cond (leb 1000 n) Full (Taken (count ms + 1))) (waiting_count s ms p k) ∙ ap (λ b. cond b Full (Taken (count ms + 1))) full

  pub queued_taken : is_bad token content ≡ false → leb 1000 (length p.waiting) ≡ false → queued ms token content ≡ Taken (p.sent + length p.waiting + 1)
  queued_taken good room = ap (λ b. cond b BadData (cond (leb 1000 (length (waiting ms))) Full (Taken (count ms + 1)))) good ∙ ap (λ n. cond (leb 1000 n) Full (Taken (count ms + 1))) (waiting_count s ms p k) ∙ ap (λ b. cond b Full (Taken (count ms + 1))) room ∙ ap (λ n. Taken (n + 1)) k.counted

  pub stays_bad : queued ms token content ≡ BadData → Keeps s (marks_queued token content (queued ms token content) ++ ms) p
  stays_bad is = subst (λ x. Keeps s (marks_queued token content x ++ ms) p) (sym is) k

  pub stays_full : queued ms token content ≡ Full → Keeps s (marks_queued token content (queued ms token content) ++ ms) p
  stays_full is = subst (λ x. Keeps s (marks_queued token content x ++ ms) p) (sym is) k

  pub stands_taken : (n : ℕ) → queued ms token content ≡ Taken n → Keeps s (marks_queued token content (queued ms token content) ++ ms) (record p { waiting = p.waiting ++ record { token = token; content = content } ∷ []; acked = p.acked ++ false ∷ [] })
  stands_taken n is = subst (λ x. Keeps s (marks_queued token content x ++ ms) (record p { waiting = p.waiting ++ record { token = token; content = content } ∷ []; acked = p.acked ++ false ∷ [] })) (sym is) (takes s ms p k (record { token = token; content = content }))

-- A step.

module _ (s : Setting) (h : List Happening) (p : PanelValue) (k : StandsFor s h p) (now : ℕ) (later : p.stepped ≤ now) where
  abbrev given_up : PanelValue
  given_up = record p { stepped = now; flight = still now p.flight }

  sent : IsSent s (marks s h) now given_up (sends (marks s h) now) (copies_with now given_up given_up.flight) (copied_with now given_up given_up.flight)
  sent = sent_is s (marks s h) now given_up (steps_by s (marks s h) p k now later) refl

  told_by : (b : Bool) → copies_with now given_up given_up.flight ≡ b → b ≡ is_some (body_sent s h now)
  told_by true is = sym (sent.some is)
  told_by false is = sym (ap is_some (sent.nothing is))

  step_answers : copies_with now given_up given_up.flight ≡ is_some (body_sent s h now)
  step_answers = told_by (copies_with now given_up given_up.flight) refl

  -- by what is kept once the step has given up what is late, and behind the copy
  pub step_told : (g : PanelValue) → g ≡ given_up → copies_with now g g.flight ≡ is_some (body_sent s h now)
  step_told g is = subst (λ x. copies_with now x x.flight ≡ is_some (body_sent s h now)) (sym is) step_answers

  frame_of_sent : copies_with now given_up given_up.flight ≡ true → frame_sent (body_in_flight (copied_with now given_up given_up.flight) (copied_with now given_up given_up.flight).flight) ≡ frame_sent (body_sent s h now)
  frame_of_sent copies = ap frame_sent (sym (sent.body copies))

  frame_behind : (g : PanelValue) → g ≡ given_up → copies_with now g g.flight ≡ true → frame_sent (body_in_flight (copied_with now g g.flight) (copied_with now g g.flight).flight) ≡ frame_sent (body_sent s h now)
  frame_behind g is = subst (λ x. copies_with now x x.flight ≡ true → frame_sent (body_in_flight (copied_with now x x.flight) (copied_with now x x.flight).flight) ≡ frame_sent (body_sent s h now)) (sym is) frame_of_sent

  pub step_frame : (g after : PanelValue) → g ≡ given_up → after ≡ copied_with now g g.flight → copies_with now g g.flight ≡ true → frame_sent (body_in_flight after after.flight) ≡ frame_sent (body_sent s h now)
  step_frame g after is made copies = subst (λ x. frame_sent (body_in_flight x x.flight) ≡ frame_sent (body_sent s h now)) (sym made) (frame_behind g is copies)

  none_sent : copies_with now given_up given_up.flight ≡ false → [] ≡ frame_sent (body_sent s h now)
  none_sent none = ap frame_sent (sym (sent.nothing none))

  pub step_none : (g : PanelValue) → g ≡ given_up → copies_with now g g.flight ≡ false → [] ≡ frame_sent (body_sent s h now)
  step_none g is = subst (λ x. copies_with now x x.flight ≡ false → [] ≡ frame_sent (body_sent s h now)) (sym is) none_sent

  pub step_stands : (g after : PanelValue) → g ≡ given_up → after ≡ copied_with now g g.flight → StandsFor s (Step now ∷ h) after
  step_stands g after is made = subst (λ x. StandsFor s (Step now ∷ h) x) (sym (made ∙ ap (λ x. copied_with now x x.flight) is)) sent.kept

-- The fate of an event.

module _ (s : Setting) (ms : List Mark) (p : PanelValue) (k : Keeps s ms p) (n : ℕ) (some : 1 ≤ n) where
  pub fate_waits : p.sent < n → Waiting ≡ fate ms n
  fate_waits more = sym (fate_unsent n ms (k.unsent n more))

  flies_by : (o : Option Flight) → IsLast s ms p.sent o → is_some o ≡ true → fate ms p.sent ≡ InFlight
  flies_by None is acks = absurd cc
  flies_by (Some f) is acks = fate_flying p.sent ms f.first is.first_at is.unacked is.timely

  pub fate_flies : n ≡ p.sent → is_some p.flight ≡ true → InFlight ≡ fate ms n
  fate_flies is acks = sym (ap (fate ms) is ∙ flies_by p.flight k.last_is acks)

  over_by : (o : Option Flight) → IsLast s ms p.sent o → is_some o ≡ false → 1 ≤ p.sent → HasEnded p.sent ms
  over_by None is other low = is low
  over_by (Some f) is other low = absurd cc

  ended_by : n ≤ p.sent → (n ≡ p.sent → is_some p.flight ≡ false) → (b : Bool) → ltb n p.sent ≡ b → HasEnded n ms
  ended_by few over true below = k.ended n some (ltb-true n p.sent below)
  ended_by few over false below =
      let same : n ≡ p.sent = omega (arith, ltb-false n p.sent below) in
      subst (λ x. HasEnded x ms) (sym same) (over_by p.flight k.last_is (over same) (omega (arith, some, same)))

  fate_over : n ≤ p.sent → (n ≡ p.sent → is_some p.flight ≡ false) → fate ms n ≡ cond (get_or p.acked (n - 1) false) IsAcked GivenUp
  fate_over few over = fate_ended n ms (ended_by few over (ltb n p.sent) refl) ∙ ap (λ b. cond b IsAcked GivenUp) (sym (k.acked_are n some))

  -- by the test whether it is in flight
  not_flying : (a b : Bool) → (a && b) ≡ false → a ≡ true → b ≡ false
  not_flying true b none is = none
  not_flying false b none is = absurd cc

  pub fate_past : n ≤ p.sent → (eqb n p.sent && is_some p.flight) ≡ false → cond (get_or p.acked (n - 1) false) IsAcked GivenUp ≡ fate ms n
  fate_past few none = sym (fate_over few (λ same. not_flying (eqb n p.sent) (is_some p.flight) none (eq-eqb n p.sent same)))
