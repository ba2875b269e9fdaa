-- What a step sends is what the definitions say, and what a panel keeps goes on to be so.
use Rattle.std.proofs.Common.{◌≡◌, ℕ, ◌+◌, ◌-◌, ◌<◌, ◌≤◌, List, [], ◌∷◌, length, Bool, true, false, cond, leb, ◌&&◌, Option, Some, None, refl, sym, ap, subst, ◌∙◌, arith}
use Rattle.std.specs.Option.{is_some, option_map}
use Rattle.panel_rules.specs.declared.Report.{Report}
use Rattle.panel_rules.specs.Marks.{Mark, Steps, in_flight, is_after, is_within, first_copy, last_copy, may_begin, may_repeat, numbered, oldest_waiting, sends, sends_by, taken}
use Rattle.panel_rules.specs.Panels.{Setting, body_of, body_of_event, message_body, number}
use Rattle.panel_core.specs.declared.flight.Flight.{Flight}
use Rattle.panel_core.specs.Sending.{begin_next, begins_with, begun_with, body_in_flight, copied_with, copies_with, repeated, repeats}
use Rattle.panel_core.specs.Standing.{HasEnded, Flies, IsLast, Keeps, PanelValue}
use Rattle.panel_core.proofs.Found.{flight_none, flight_some, oldest_none, oldest_some}
use Rattle.panel_core.proofs.Kept.{sends_again, sends_next}

-- the body of the message in flight is that of its event
pub body_flies : (s : Setting) (ms : List Mark) (p : PanelValue) (f : Flight) → p.account ≡ s.account → p.line ≡ s.line → Flies s ms p.sent f → body_of_event s ms (Some p.sent) ≡ Some (body_of p.account p.line f.number f.report)
body_flies s ms p f account line is = ap (option_map (message_body s p.sent)) is.reports ∙ rw (account, line, is.number_is) refl

-- What a step sends: what goes on to be kept, whether a copy goes out, and its body.
pub record IsSent (s : Setting) (ms : List Mark) (now : ℕ) (p : PanelValue) (sent : Option ℕ) (copies : Bool) (after : PanelValue) : Type 0 where
  pub kept : Keeps s (Steps now sent ∷ ms) after
  pub told : is_some sent ≡ copies
  pub body : copies ≡ true → body_of_event s ms sent ≡ body_in_flight after after.flight
  pub some : copies ≡ true → is_some (body_of_event s ms sent) ≡ true
  pub nothing : copies ≡ false → body_of_event s ms sent ≡ None

module _ (s : Setting) (ms : List Mark) (now : ℕ) (p : PanelValue) (k : Keeps s (Steps now None ∷ ms) p) where
  sends_copy : (n : ℕ) (after : PanelValue) (body : List ℕ) → Keeps s (Steps now (Some n) ∷ ms) after → body_of_event s ms (Some n) ≡ Some body
      → body_in_flight after after.flight ≡ Some body → IsSent s ms now p (Some n) true after
  sends_copy n after body kept of_event flies = record {
    kept = kept;
    told = refl;
    body = λ _. of_event ∙ sym flies;
    some = λ _. ap is_some of_event;
    nothing = λ no. absurd cc;
  }

  sends_nothing : (after : PanelValue) → Keeps s (Steps now None ∷ ms) after → IsSent s ms now p None false after
  sends_nothing after kept = record {
    kept = kept;
    told = refl;
    body = λ no. absurd cc;
    some = λ no. absurd cc;
    nothing = λ _. refl;
  }

  sent_again : (f : Flight) → p.flight ≡ Some f → Flies s (Steps now None ∷ ms) p.sent f → (b : Bool) → repeats now f ≡ b → IsSent s ms now p (cond b (Some p.sent) None) b (record p { flight = Some (cond b (record f { last = now }) f) })
  sent_again f flying is true may =
      let kept = sends_again s ms p now k f is in
      let flies = body_flies s (Steps now (Some p.sent) ∷ ms) (record p { flight = Some (record f { last = now }) }) (record f { last = now }) k.account_is k.line_is kept.last_is in
      sends_copy p.sent _ _ kept flies refl
  sent_again f flying is false may = sends_nothing _ (subst (λ o. Keeps s (Steps now None ∷ ms) (record p { flight = o })) flying k)

  sent_next : (report : Report) (rest : List Report) → p.waiting ≡ report ∷ rest → (1 ≤ p.sent → HasEnded p.sent (Steps now None ∷ ms)) → p.stepped ≡ now → (b : Bool) → IsSent s ms now p (cond b (Some (p.sent + 1)) None) b (cond b (begin_next now p report rest) p)
  sent_next report rest waits over stepped true =
      let kept = sends_next s ms p now k report rest waits over stepped in
      let flies = body_flies s (Steps now (Some (p.sent + 1)) ∷ ms) (begin_next now p report rest) (record { report = report; number = p.next; first = now; last = now }) k.account_is k.line_is kept.last_is in
      sends_copy (p.sent + 1) _ _ kept flies refl
  sent_next report rest waits over stepped false = sends_nothing p k

  -- a further copy may go out as the message in flight says
  repeats_is : (f : Flight) → Flies s (Steps now None ∷ ms) p.sent f → may_repeat (Steps now None ∷ ms) now p.sent ≡ repeats now f
  repeats_is f is = ap (λ o. is_after 20 now o && is_within 180 now (first_copy p.sent (Steps now None ∷ ms))) is.last_at ∙ ap (λ o. leb (f.last + 20) now && is_within 180 now o) is.first_at

  -- a first copy may go out as what is kept says
  begins_is : may_begin (Steps now None ∷ ms) now (p.sent + 1) ≡ is_after 10 now p.begun
  begins_is = let before : p.sent + 1 - 1 ≡ p.sent = omega arith in ap (λ n. is_after 10 now (first_copy n ms)) before ∙ ap (is_after 10 now) k.begun_at

  by_flight : (o : Option Flight) → p.flight ≡ o → IsLast s (Steps now None ∷ ms) p.sent o → p.stepped ≡ now → (w : List Report) → p.waiting ≡ w → IsSent s ms now p (sends ms now) (copies_with now (record p { waiting = w }) o) (copied_with now (record p { waiting = w; flight = o }) o)
  by_flight (Some f) flying is stepped w waits =
      let flies = flight_some s (Steps now None ∷ ms) p k f is in
      let sent : sends ms now ≡ cond (repeats now f) (Some p.sent) None = ap (sends_by (Steps now None ∷ ms) now) flies ∙ ap (λ b. cond b (Some p.sent) None) (repeats_is f is) in
      rw (sent, sym waits) (sent_again f flying is (repeats now f) refl)
  by_flight None flying is stepped [] waits =
      let none = flight_none s (Steps now None ∷ ms) p k is in
      let oldest = oldest_none s (Steps now None ∷ ms) p k (ap length waits) in
      let sent : sends ms now ≡ None = ap (sends_by (Steps now None ∷ ms) now) none ∙ rw oldest refl in
      rw sent (sends_nothing _ (rw (sym waits, sym flying) k))
  by_flight None flying is stepped (report ∷ rest) waits =
      let none = flight_none s (Steps now None ∷ ms) p k is in
      let oldest = oldest_some s (Steps now None ∷ ms) p k (rw waits (omega arith)) in
      let sent : sends ms now ≡ cond (is_after 10 now p.begun) (Some (p.sent + 1)) None = ap (sends_by (Steps now None ∷ ms) now) none ∙ rw oldest (rw begins_is refl) in
      rw (sent, sym waits, sym flying) (sent_next report rest waits is stepped (is_after 10 now p.begun))

  pub sent_is : p.stepped ≡ now → IsSent s ms now p (sends ms now) (copies_with now p p.flight) (copied_with now p p.flight)
  sent_is stepped = by_flight p.flight refl k.last_is stepped p.waiting refl
