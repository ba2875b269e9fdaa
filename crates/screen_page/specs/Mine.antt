-- The rows of the operator's own incident.
use Rattle.std.specs.Prelude.{ℕ, ◌-◌, ◌==◌, List, [], ◌∷◌, Bool, Option, Some, None, codes, decimal, if◌then◌else◌}
use Rattle.std.specs.List.{fold}
use Rattle.std.specs.Option.{unwrap_or}
use Rattle.arc_data.specs.Classes.{name_of}
use Rattle.arc_data.specs.declared.listing.View.{View}
use Rattle.arc_data.specs.declared.step.Outcome.{Outcome}
use Rattle.arc_data.specs.declared.step.Outcome.TheVariants.{Reached, NoAnswer, Done}
use Rattle.arc_data.specs.declared.step.Step.{Step}
use Rattle.arc_data.specs.declared.step.Step.TheVariants.{Premises, Holder}
use Rattle.desk_wire.specs.Names.{step_name}
use Rattle.desk_screen.specs.declared.own.Due.{Due}
use Rattle.desk_screen.specs.declared.own.Due.TheVariants.{Untold, AllMet, Ahead}
use Rattle.desk_screen.specs.declared.own.Own.{Own}
use Rattle.screen_page.specs.Pasts.{ActRow}
use Rattle.screen_page.specs.Sites.{holder_of, site_of}
use Rattle.screen_page.specs.Texts.{age, with_text, with_texts}
use Rattle.screen_page.specs.declared.tone.Tone.{Tone}
use Rattle.screen_page.specs.declared.tone.Tone.TheVariants.{Plainly, Heading, Mine}

-- what is known of it: its number, and what the desk showed of it
abbrev pub restored_text : Bool → List ℕ
restored_text restored = if restored then codes " restored" else codes ""

-- the line by which it came, where one is named
abbrev pub with_via : List ℕ → List ℕ → List ℕ
with_via before [] = before
with_via before (byte ∷ bytes) = with_texts before (codes " via " ∷ (byte ∷ bytes) ∷ [])

abbrev pub viewed_row : ℕ → Option View → ℕ → List ℕ
viewed_row number None moment = with_texts [] (codes "YOURS " ∷ decimal number ∷ [])
viewed_row number (Some view) moment =
    with_via
    (with_texts [] (codes "YOURS " ∷ decimal number ∷ codes " " ∷ name_of view.class ∷ codes " account " ∷ view.account ∷ codes " code "
    ∷ view.code ∷ codes " since " ∷ age (moment - view.at) ∷ codes " signals " ∷ decimal view.signals ∷ restored_text view.restored ∷ []))
    view.via

-- what the file of sites says of its account
abbrev pub site_text : Option (List ℕ) → List ℕ → List ℕ
site_text None account = codes "there is no sites.txt: take the customer's card"
site_text (Some sites) account = unwrap_or (site_of sites account) (codes "sites.txt has no site line of this account")

abbrev pub site_row : Option (List ℕ) → List ℕ → List ℕ
site_row sites account = with_texts [] (codes "site  " ∷ site_text sites account ∷ [])

-- whom a call step calls
abbrev pub called_text : Option (List ℕ) → List ℕ → ℕ → List ℕ
called_text None account number = codes "there is no sites.txt"
called_text (Some sites) account number = unwrap_or (holder_of sites account number) (codes "sites.txt has no such keyholder")

abbrev pub with_called : List ℕ → Option (List ℕ) → Option View → Step → List ℕ
with_called before sites (Some view) (Holder number) = with_texts before (codes ": " ∷ called_text sites view.account number ∷ [])
with_called before sites view step = before

-- the keys that record a step
abbrev pub keys_text : Step → List ℕ
keys_text Premises = codes "   r reached, a no answer"
keys_text (Holder number) = codes "   r reached, a no answer; A nobody, u i o p"
keys_text other = codes "   d done; D all tasks"

-- the step that is expected, whom it calls, and the keys that record it
abbrev pub ahead_row : Option (List ℕ) → Option View → Step → List ℕ
ahead_row sites view step =
    with_text (with_called (with_texts [] (codes "NOW   " ∷ step_name step ∷ [])) sites view step) (keys_text step)

abbrev pub due_row : Option (List ℕ) → Option View → Due → List ℕ
due_row sites view Untold = with_text [] (codes "NOW   the desk is asked for the next step")
due_row sites view AllMet = with_text [] (codes "NOW   each step is met: R real, F false, T test, and then y")
due_row sites view (Ahead step) = ahead_row sites view step

-- what was recorded of an incident in this sitting
abbrev pub outcome_words : Outcome → List ℕ
outcome_words Reached = codes "reached"
outcome_words NoAnswer = codes "no answer"
outcome_words Done = codes "done"

abbrev pub with_act : ℕ → List ℕ → ActRow → List ℕ
with_act number before act =
    if act.0 == number then with_texts before (step_name act.1 ∷ codes " " ∷ outcome_words act.2 ∷ codes "; " ∷ []) else before

unfoldable pub recorded_row : ℕ → List ActRow → List ℕ
recorded_row number acts = fold (with_act number) (with_text [] (codes "done  ")) acts

abbrev pub site_of_view : Option (List ℕ) → Option View → List ℕ
site_of_view sites None = []
site_of_view sites (Some view) = site_row sites view.account

-- its four rows: what it is, its site, the step that is expected, and what was recorded
abbrev pub mine_rows : Option (List ℕ) → List ActRow → ℕ → Own → ℕ → Tone × List ℕ
mine_rows sites acts moment own index =
    if index == 0 then (Mine, viewed_row own.number own.view moment)
    else if index == 1 then (Plainly, site_of_view sites own.view)
    else if index == 2 then (Heading, due_row sites own.view own.due)
    else (Plainly, recorded_row own.number acts)

-- where no incident is the operator's own, the first says so
abbrev pub own_rows : Option (List ℕ) → List ActRow → ℕ → Option Own → ℕ → Tone × List ℕ
own_rows sites acts moment None index =
    (Plainly, if index == 0 then with_text [] (codes "no incident is yours: n takes the most urgent one") else [])
own_rows sites acts moment (Some own) index = mine_rows sites acts moment own index
