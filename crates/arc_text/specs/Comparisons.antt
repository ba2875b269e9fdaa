-- How pairs of numbers stand to one another, and how many comparisons a search by halves takes.
use Rattle.std.specs.Prelude.{◌≤◌, ◌<◌, ◌+◌, ◌*◌, ◌-◌, ◌^◌, ℕ}
use Rattle.std.specs.Ordering.{nat_cmp, ordering_then}
use Rattle.std.specs.declared.cmp.Ordering.{Ordering}

-- by the first number, and where those are equal, by the second
abbrev pub order_of : ℕ × ℕ → ℕ × ℕ → Ordering
order_of a b = ordering_then (nat_cmp a.0 b.0) (nat_cmp a.1 b.1)

-- the count of steps rises by at most as much as the number of the pairs has binary digits
pub record TakesFew (count before now : ℕ) : Type 0 where
  pub kept : before ≤ now
  pub few : 2 ^ (now - before) ≤ 2 * count + 1

-- among fewer pairs than there are numbers of so many binary digits, at most so many comparisons
abbrev pub StepsAreDigits : Type 0
StepsAreDigits = (digits count before now : ℕ) → count < 2 ^ digits → TakesFew count before now → now ≤ before + digits
