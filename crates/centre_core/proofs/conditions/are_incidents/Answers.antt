-- Each incident is fine, and its number is greater than the one before.
use Rattle.std.proofs.Common.{◌≡◌, ◌≤◌, ◌+◌, ◌∙◌, ◌++◌, ◌∷◌, [], List, length, take, sym, subst, arith}
use Rattle.std.proofs.lemmas.Bool.{false≢true, leb-true}
use Rattle.std.proofs.lemmas.List.{take_all}
use Rattle.arc_data.specs.Incidents.{Ascends}
use Rattle.arc_data.specs.declared.incident.Incident.{Incident}
use Rattle.summary_codec.proofs.Flat.{next_of}
use Rattle.centre_core.specs.Decoding.{IsIncidentFine}
use Rattle.centre_core.proofs.Growing.{every_more, every_one, every_whole}
use Rattle.centre_core.proofs.Numbers.{ascends_take, ascends_wider, ascends_more, ascends_last, ascends_two}
use Rattle.centre_core.proofs.conditions.are_incidents.Goals as goal

pub returns-then-incident-before-clause-only : goal.returns-then-incident-before-clause-only
returns-then-incident-before-clause-only c = λ w.
    let is = c.args.incidents.now in
    let i = c.loop-i.i in
    let x = c.incident_at-incident.result.now in
    let up = subst (λ (l : List Incident). Ascends 0 l c.args.head.now.opened) (next_of is i x c.incident_at-incident.ensures) (ascends_take 0 is c.args.head.now.opened (i + 1) w.numbers) in
    let lt = c.loop-i.invariant.next x c.args.head.now.opened up in
    absurd (omega (arith, lt))

pub returns-then-not-is_incident-clause-only : goal.returns-then-not-is_incident-clause-only
returns-then-not-is_incident-clause-only c = λ w.
    let fine = every_one (IsIncidentFine c.args.head.now) c.args.incidents.now c.loop-i.i c.incident_at-incident.result.now c.incident_at-incident.ensures w.each in
    absurd (false≢true (sym c.if-not-is_incident.true ∙ c.is_incident.ensures.only fine))

pub loop-i-preserved : goal.loop-i-preserved
loop-i-preserved c =
    let is = c.args.incidents.now in
    let i = c.loop-i.i in
    let x = c.incident_at-incident.result.now in
    let at = c.incident_at-incident.ensures in
    let next : take (i + 1) is ≡ take i is ++ x ∷ [] = next_of is i x at in
    let w = c.loop-i.invariant in
    record {
      each = every_more (IsIncidentFine c.args.head.now) is i x at (c.is_incident.ensures.fine c.if-not-is_incident.false) w.each;
      numbers = subst (λ (l : List Incident). Ascends 0 l x.number) (sym next) (ascends_more 0 (take i is) c.loop-i.before x w.numbers (omega arith));
      most = λ high up. ascends_last 0 (take i is) x high (subst (λ (l : List Incident). Ascends 0 l high) next up);
      next = λ y high up. ascends_two 0 (take i is) x y high (subst (λ (l : List Incident). Ascends 0 (l ++ y ∷ []) high) next up);
    }

pub returns-clause-fine : goal.returns-clause-fine
returns-clause-fine c = λ t.
    let is = c.args.incidents.now in
    let i = c.loop-i.i in
    let end : length is ≤ i = omega arith in
    record {
      each = every_whole (IsIncidentFine c.args.head.now) is i end c.loop-i.invariant.each;
      numbers = ascends_wider 0 is c.loop-i.before c.args.head.now.opened
          (subst (λ (l : List Incident). Ascends 0 l c.loop-i.before) (take_all i is end) c.loop-i.invariant.numbers) (leb-true _ _ t);
    }
