-- The incidents whose holds have lapsed, and the more urgent of two incidents.
use Rattle.std.specs.Prelude.{ℕ, List, Option, Some, None}
use Rattle.std.specs.List.{filter}
use Rattle.arc_data.specs.declared.incident.Incident.{Incident}
use Rattle.centre_rules.specs.Desks.{lesser}
use Rattle.centre_rules.specs.Standing.{has_lapsed}
use Rattle.open_incidents.specs.Holding.{is_held}

-- those of the incidents that have a claimer whose hold has lapsed at the moment
abbrev pub lapsed : Option ℕ → ℕ → List Incident → List Incident
lapsed lapse at is = filter (λ i. has_lapsed lapse i.touched at) (filter is_held is)

-- the lesser of two, either of which may lack
abbrev pub earlier : Option Incident → Option Incident → Option Incident
earlier None other = other
earlier (Some i) other = lesser i other
