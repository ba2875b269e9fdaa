-- Who holds an open incident at a moment: its claimer, unless that hold has lapsed.
use Rattle.std.specs.Prelude.{ℕ, ◌+◌, List, [], Bool, false, nat_lt, Option, None, option_and_then, map, if◌then◌else◌}
use Rattle.std.specs.Option.{option_map_or}
use Rattle.centre_rules.specs.Summary.{Summary}
use Rattle.centre_rules.specs.Marks.{Mark, lapse}
use Rattle.centre_rules.specs.Cases.{Incident, incidents}
use Rattle.centre_rules.specs.Desks.{numbered}

-- a hold that was last touched then has lapsed at the moment: it is more seconds later than those after which holds lapse
abbrev pub has_lapsed : Option ℕ → ℕ → ℕ → Bool
has_lapsed lapse touched at = option_map_or (λ seconds. nat_lt (touched + seconds) at) lapse false

-- the incident with its holder at the moment in place of its claimer
abbrev pub stands_at : Option ℕ → ℕ → Incident → Incident
stands_at lapse at i = record i { holder = if has_lapsed lapse i.touched at then None else i.holder }

-- these incidents as they stand at the moment
abbrev pub standing_of : Option ℕ → ℕ → List Incident → List Incident
standing_of lapse at is = map (stands_at lapse at) is

-- the open incidents as they stand at a moment, in order of number
abbrev pub standing : Summary → List Mark → ℕ → List Incident
standing s ms at = standing_of (lapse s ms) at (incidents s ms)

-- who holds the open incident of a number at a moment, if anybody
abbrev pub holder_then : Summary → List Mark → ℕ → ℕ → Option (List ℕ)
holder_then s ms at number = option_and_then (λ i. i.holder) (numbered number (standing s ms at))

-- those of a summary alone as they stand at its last moment
abbrev pub last_standing : Summary → List Incident
last_standing s = standing_of (lapse s []) s.last s.incidents
