-- Nobody held the incident of the number, or somebody did; or there is none.
use Rattle.std.proofs.Common.{false, true, length, sym, ap, ◌∙◌, arith}
use Rattle.std.proofs.lemmas.Bool.{not-true, not-false}
use Rattle.open_incidents.specs.Holding.{with_number}
use Rattle.open_incidents.proofs.Formers.{one, none, claimed_so}
use Rattle.open_incidents.proofs.Holders.{begun, still, none_begun, room_free}
use Rattle.open_incidents.proofs.held.hold.Goals as goal

pub insert-requires : goal.insert-requires
insert-requires c =
    let is = c.requires.0 in
    let w = c.requires.1 in
    let n = c.args.number in
    let i = c.in-Some.i in
    let o = one is n c.args.former i w c.in-Some.is in
    let few = room_free n is w.opened o.incident w.ascends o.found (claimed_so is n i false o (not-true i.is_held c.if-not-i.true)) in
    omega (arith, few, ap length c.requires.2.numbers, c.requires.2.memory)

pub returns-then-not-i-clause-numbers : goal.returns-then-not-i-clause-numbers
returns-then-not-i-clause-numbers c is w same by at =
    let n = c.args.number in
    let i = c.in-Some.i in
    let o = one is n c.args.former i w c.in-Some.is in
    c.insert.ensures.numbers ∙ ap (with_number n) same
    ∙ sym (begun n by at 0 is w.opened o.incident w.ascends o.found (claimed_so is n i false o (not-true i.is_held c.if-not-i.true)))

pub returns-else-not-i-clause-numbers : goal.returns-else-not-i-clause-numbers
returns-else-not-i-clause-numbers c is w same by at =
    let n = c.args.number in
    let i = c.in-Some.i in
    let o = one is n c.args.former i w c.in-Some.is in
    same ∙ sym (still n by at is w.opened o.incident w.ascends o.found (claimed_so is n i true o (not-false i.is_held c.if-not-i.false)))

pub returns-in_default-clause-numbers : goal.returns-in_default-clause-numbers
returns-in_default-clause-numbers c is w same by at =
    same ∙ sym (none_begun c.args.number by at is (none is c.args.number c.args.former w c.in_default.is))
