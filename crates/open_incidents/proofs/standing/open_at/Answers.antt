-- It stands as the one that is found.
use Rattle.std.proofs.Common.{◌∙◌, ap, sym}
use Rattle.std.specs.Option.{option_map}
use Rattle.centre_rules.specs.Standing.{stands_at}
use Rattle.centre_rules.proofs.Stood.{numbered_stood}
use Rattle.open_incidents.proofs.LapsedHolds.{map_twice}
use Rattle.open_incidents.proofs.standing.open_at.Goals as goal

pub returns : goal.returns
returns c =
    map_twice (stands_at c.args.lapse c.args.at) (λ i. i.now) c.get.result ∙ ap (option_map (stands_at c.args.lapse c.args.at)) c.get.ensures
    ∙ sym (numbered_stood c.args.lapse c.args.at c.args.number c.args.table.now.incidents)
