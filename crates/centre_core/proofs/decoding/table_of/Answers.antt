-- Each incident is put behind those before it, whose numbers are less, and from which it is told apart.
use Rattle.std.proofs.Common.{◌≡◌, ◌<◌, ◌+◌, ◌∙◌, ◌++◌, ◌∷◌, [], List, Some, map-id, take, length, refl, sym, ap, subst, rules, arith}
use Rattle.std.specs.Prelude.{slice_get}
use Rattle.std.proofs.lemmas.Bool.{false≢true}
use Rattle.std.proofs.lemmas.Iterator.Adapters.{YieldsList-from_vec}
use Rattle.std.proofs.lemmas.Iterator.Consumers.{YieldsList-so_far, YieldsList-turn}
use Rattle.std.proofs.lemmas.Option.{slice_get_read}
use Rattle.arc_data.specs.Incidents.{Each}
use Rattle.arc_data.specs.declared.incident.Incident.{Incident}
use Rattle.incidents.specs.Tables.{TableValue}
use Rattle.open_incidents.proofs.Put.{number_within, all_below}
use Rattle.summary_rules.specs.Lists.{Every}
use Rattle.summary_rules.specs.Conditions.{IsApart}
use Rattle.summary_rules.proofs.Pairs.{two_more}
use Rattle.centre_core.specs.Decoding.{IsHeldApartAt}
use Rattle.centre_core.proofs.Apart.{every_apart}
use Rattle.centre_core.proofs.Growing.{two_before, two_part}
use Rattle.centre_core.proofs.decoding.table_of.Goals as goal

pub returns-then-not-is_apart-clause-apart : goal.returns-then-not-is_apart-clause-apart
returns-then-not-is_apart-clause-apart c = λ w.
    let held = IsHeldApartAt c.args.lapse c.args.at in
    let xs = c.args.incidents.items in
    let x = c.in-Some.incident in
    let so_far = YieldsList-so_far (YieldsList-from_vec {s = c.into_iter-incident-iterator.result} xs (search rules) (search rules)) c.loop-incident.yielded _ c.loop-incident.yielded_by in
    let turn = YieldsList-turn (YieldsList-from_vec {s = c.into_iter-incident-iterator.result} xs (search rules) (search rules)) c.loop-incident.yielded _ c.loop-incident.yielded_by _ c.next.new.self x c.in-Some.is c.next.ensures.steps in
    let n = length c.loop-incident.yielded in
    let at : slice_get xs n ≡ Some x = slice_get_read xs (length xs) n x refl turn.0 turn.1 in
    let front : c.loop-incident.queued.incidents ≡ take n xs = c.loop-incident.invariant.incidents ∙ sym (map-id c.loop-incident.yielded) ∙ so_far in
    let single = subst (Every (λ other. IsApart other x)) (sym front) (two_before IsApart xs n x at (two_part IsApart xs (n + 1) w.single)) in
    let holders = subst (Every (λ other. held other x)) (sym front) (two_before held xs n x at (two_part held xs (n + 1) w.holders)) in
    false≢true (sym c.if-not-is_apart.true ∙ c.is_apart.ensures.1 (single, holders))

pub put-requires-clause-positive : goal.put-requires-clause-positive
put-requires-clause-positive c =
    let xs = c.args.incidents.items in
    let x = c.in-Some.incident in
    let turn = YieldsList-turn (YieldsList-from_vec {s = c.into_iter-incident-iterator.result} xs (search rules) (search rules)) c.loop-incident.yielded _ c.loop-incident.yielded_by _ c.next.new.self x c.in-Some.is c.next.ensures.steps in
    let n = length c.loop-incident.yielded in
    let at : slice_get xs n ≡ Some x = slice_get_read xs (length xs) n x refl turn.0 turn.1 in
    (number_within 0 xs c.args.opened n x at c.requires.numbers).0

pub put-requires-clause-above : goal.put-requires-clause-above
put-requires-clause-above c =
    let xs = c.args.incidents.items in
    let x = c.in-Some.incident in
    let so_far = YieldsList-so_far (YieldsList-from_vec {s = c.into_iter-incident-iterator.result} xs (search rules) (search rules)) c.loop-incident.yielded _ c.loop-incident.yielded_by in
    let turn = YieldsList-turn (YieldsList-from_vec {s = c.into_iter-incident-iterator.result} xs (search rules) (search rules)) c.loop-incident.yielded _ c.loop-incident.yielded_by _ c.next.new.self x c.in-Some.is c.next.ensures.steps in
    let n = length c.loop-incident.yielded in
    let at : slice_get xs n ≡ Some x = slice_get_read xs (length xs) n x refl turn.0 turn.1 in
    let front : c.loop-incident.queued.incidents ≡ take n xs = c.loop-incident.invariant.incidents ∙ sym (map-id c.loop-incident.yielded) ∙ so_far in
    subst (Each (λ i. i.number < x.number)) (sym front) (all_below 0 xs c.args.opened n x at c.requires.numbers)

pub put-requires-clause-opened : goal.put-requires-clause-opened
put-requires-clause-opened c =
    let xs = c.args.incidents.items in
    let x = c.in-Some.incident in
    let turn = YieldsList-turn (YieldsList-from_vec {s = c.into_iter-incident-iterator.result} xs (search rules) (search rules)) c.loop-incident.yielded _ c.loop-incident.yielded_by _ c.next.new.self x c.in-Some.is c.next.ensures.steps in
    let n = length c.loop-incident.yielded in
    let at : slice_get xs n ≡ Some x = slice_get_read xs (length xs) n x refl turn.0 turn.1 in
    let within = (number_within 0 xs c.args.opened n x at c.requires.numbers).1 in
    omega (arith, within, c.loop-incident.invariant.opened)

pub put-requires-clause-none : goal.put-requires-clause-none
put-requires-clause-none c = every_apart c.loop-incident.queued.incidents c.in-Some.incident (c.is_apart.ensures.0 c.if-not-is_apart.false).0

pub loop-incident-preserved : goal.loop-incident-preserved
loop-incident-preserved c =
    let held = IsHeldApartAt c.args.lapse c.args.at in
    let x = c.in-Some.incident in
    let w = c.loop-incident.invariant in
    let apart = c.is_apart.ensures.0 c.if-not-is_apart.false in
    record {
      opened = ap (λ (t : TableValue). t.opened) c.put.ensures ∙ w.opened;
      incidents = ap (λ (t : TableValue). t.incidents) c.put.ensures ∙ ap (λ (l : List Incident). l ++ x ∷ []) w.incidents;
      room = omega (arith, w.room, ap (λ (t : TableValue). t.room) c.put.ensures);
      apart = record {
        single = two_more IsApart c.loop-incident.yielded x w.apart.single (subst (Every (λ other. IsApart other x)) w.incidents apart.0);
        holders = two_more held c.loop-incident.yielded x w.apart.holders (subst (Every (λ other. held other x)) w.incidents apart.1);
      };
    }
