use Rattle.std.proofs.Common.{◌≡◌}
use Rattle.std.specs.Prelude.{map, reverse}
use Rattle.std.specs.List.{find}
use Rattle.std.specs.Map.Iter.{deref}
use Rattle.std.specs.Option.{option_map}
use Rattle.centre_rules.specs.Answers.{repeats}
use Rattle.repeat_window.proofs.window.newest.Given as goal

abbrev pub invariant-loop-seen : goal.invariant-loop-seen
invariant-loop-seen l = l.newest ≡ option_map (λ p. p.at) (find (repeats l.message l.at) (reverse (map deref l.yielded)))
