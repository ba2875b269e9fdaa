-- What a removal and an insertion take together, and how many digits that is.
use Rattle.std.proofs.Common.{◌≡◌, ◌≤◌, ◌+◌, ◌-◌, ◌*◌, ◌^◌, ℕ, arith, subst, ⊎_elim}
use Rattle.std.proofs.lemmas.Bool.{cases_lt}
use Rattle.arc_text.specs.Comparisons.{TakesFew, StepsAreDigits}
use Rattle.supervision.specs.Deadlines.{TakesTwice, StepsAreTwiceDigits}

pub twice : (count less before between now : ℕ) → less ≤ count → TakesFew count before between → TakesFew less between now → TakesTwice count before now
twice count less before between now few out put =
    let first = out.few in
    let second = put.few in
    let rose = out.kept in
    let rises = put.kept in
    ⊎_elim
    (λ more. record {
      digits = now - between;
      fit = omega (arith, second, few);
      kept = omega (arith, rose, rises);
      few = omega (arith, rose, rises, more);
    })
    (λ more. record {
      digits = between - before;
      fit = first;
      kept = omega (arith, rose, rises);
      few = omega (arith, rose, rises, more);
    })
    (cases_lt (between - before) (now - between))

pub twice_digits : StepsAreDigits → StepsAreTwiceDigits
twice_digits law digits count before now fewer cost =
    let rises : cost.digits ≡ cost.digits - 0 = omega arith in
    let one : TakesFew count 0 cost.digits = record {
      kept = omega arith;
      few = subst (λ n. 2 ^ n ≤ 2 * count + 1) rises cost.fit;
    } in
    let few = law digits count 0 cost.digits fewer one in
    let all = cost.few in
    omega (arith, few, all)
