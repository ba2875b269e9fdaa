-- The forms of the words that a run is called with.
use Rattle.std.specs.Prelude.{ℕ, if◌then◌else◌, List, [], ◌∷◌, Option, Some, None, codes}
use Rattle.std.specs.Option.{option_map}
use Rattle.std.specs.Str.{bytes_eq}
use Rattle.alarm_rules.specs.SetupLines.{after}
use Rattle.alarm_rules.specs.SetupWords.{number_between}
use Rattle.arc_data.specs.Digits.{is_capital_hex, is_run}
use Rattle.arc_serving.specs.declared.side.Side.TheVariants.{Lines, Desks}
use Rattle.arc_serving.specs.declared.station.Crew.{Crew}
use Rattle.arc_server.specs.declared.form.Form.{Form}
use Rattle.arc_server.specs.declared.form.Form.TheVariants.{Session, Script, Report, Drill, Serve, Panel, Feed, Mirror, Udp, Gather}

abbrev pub form_named : List ℕ → Option Form
form_named word =
    if bytes_eq word (codes "line") then Some (Session Lines)
    else if bytes_eq word (codes "desk") then Some (Session Desks)
    else if bytes_eq word (codes "script") then Some Script
    else if bytes_eq word (codes "report") then Some Report
    else if bytes_eq word (codes "feed") then Some Feed
    else if bytes_eq word (codes "mirror") then Some Mirror
    else None

-- an account of 3 to 16 hexadecimal digits in capitals
abbrev pub panel_named : List ℕ → Option Form
panel_named account = if is_run is_capital_hex 3 16 account then Some (Panel account) else None

-- 1 to 64 lines, no desk to 16, and 1 to 1,000,000 sessions, decimal without leading zeros
abbrev pub crew_named : List ℕ → List ℕ → List ℕ → Option Crew
crew_named lines desks sessions =
    after (number_between 1 64 lines) (λ lines.
    after (number_between 0 16 desks) (λ desks.
    option_map (λ sessions. record { lines = lines; desks = desks; sessions = sessions }) (number_between 1 1_000_000 sessions)))

-- One of the words above; `drill` and 1 to 100,000 messages; `panel` and an account; `udp` and 1 to 1,000,000 datagrams; `serve` or
-- `gather` and three numbers. Numbers are decimal without leading zeros.
abbrev pub form_of : List (List ℕ) → Option Form
form_of (word ∷ []) = form_named word
form_of (word ∷ argument ∷ []) =
    if bytes_eq word (codes "drill") then option_map Drill (number_between 1 100_000 argument)
    else if bytes_eq word (codes "panel") then panel_named argument
    else if bytes_eq word (codes "udp") then option_map Udp (number_between 1 1_000_000 argument)
    else None
form_of (word ∷ lines ∷ desks ∷ sessions ∷ []) =
    if bytes_eq word (codes "serve") then option_map Serve (crew_named lines desks sessions)
    else if bytes_eq word (codes "gather") then option_map Gather (crew_named lines desks sessions)
    else None
form_of words = None
