use Rattle.std.proofs.Common.{arith}
use Rattle.std.proofs.lemmas.Bool.Decides.{nat_tests}
use Rattle.sia_codes.proofs.Sweeps.{by_letters_is}
use Rattle.sia_codes.proofs.meaning.meaning_of.Goals as goal

pub returns-in-67-eq76-2 : goal.returns-in-67-eq76-2
returns-in-67-eq76-2 c = grind (arith, by_letters_is)

pub returns-in_default-6 : goal.returns-in_default-6
returns-in_default-6 c =
    let listed = rw c.in_default.is-0 at (by_letters_is c.args.first c.args.second c.requires.upper_first c.requires.upper_second) in
    rw c.in_default.is-0 (grind (arith, nat_tests))

pub returns-in_default-11 : goal.returns-in_default-11
returns-in_default-11 c =
    let listed = rw c.in_default.is-0 at (by_letters_is c.args.first c.args.second c.requires.upper_first c.requires.upper_second) in
    rw c.in_default.is-0 (grind (arith, nat_tests))

pub returns-in_default-12 : goal.returns-in_default-12
returns-in_default-12 c =
    let listed = rw c.in_default.is-0 at (by_letters_is c.args.first c.args.second c.requires.upper_first c.requires.upper_second) in
    rw c.in_default.is-0 (grind (arith, nat_tests))

pub returns-in_default-13 : goal.returns-in_default-13
returns-in_default-13 c =
    let listed = rw c.in_default.is-0 at (by_letters_is c.args.first c.args.second c.requires.upper_first c.requires.upper_second) in
    rw c.in_default.is-0 (grind (arith, nat_tests))
