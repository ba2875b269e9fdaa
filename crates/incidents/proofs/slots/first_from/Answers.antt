-- Each call of the closure tells whether a number is below.
use Rattle.std.proofs.Common.{rules}
use Rattle.std.proofs.lemmas.List.Sorted.{IsPartitionPoint-from_clause}
use Rattle.incidents.specs.Slots.{is_below}
use Rattle.incidents.proofs.slots.first_from.Goals as goal

pub returns-clause-cut : goal.returns-clause-cut
returns-clause-cut c =
    IsPartitionPoint-from_clause (is_below c.args.number) c.args.slots.now c.partition_point.result c.partition_point.ensures.partitioned c.requires (λ a r f k. search rules)
