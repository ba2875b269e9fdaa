use Rattle.std.proofs.Common.{arith}
use Rattle.table_tests.proofs.supervision_tests.bounds_of_set.Goals as goal

pub returns-clause-none : goal.returns-clause-none
returns-clause-none c before now cost =
    let few = c.law_steps_are_twice_digits.ensures 0 0 before now (omega arith) cost in
    omega (arith, few)

pub returns-clause-one : goal.returns-clause-one
returns-clause-one c before now cost =
    let few = c.law_steps_are_twice_digits.ensures 1 1 before now (omega arith) cost in
    omega (arith, few)

pub returns-clause-two : goal.returns-clause-two
returns-clause-two c before now cost =
    let few = c.law_steps_are_twice_digits.ensures 2 2 before now (omega arith) cost in
    omega (arith, few)

pub returns-clause-three : goal.returns-clause-three
returns-clause-three c before now cost =
    let few = c.law_steps_are_twice_digits.ensures 2 3 before now (omega arith) cost in
    omega (arith, few)

pub returns-clause-four : goal.returns-clause-four
returns-clause-four c before now cost =
    let few = c.law_steps_are_twice_digits.ensures 3 4 before now (omega arith) cost in
    omega (arith, few)

pub returns-clause-thousand : goal.returns-clause-thousand
returns-clause-thousand c before now cost =
    let few = c.law_steps_are_twice_digits.ensures 10 1000 before now (omega arith) cost in
    omega (arith, few)
