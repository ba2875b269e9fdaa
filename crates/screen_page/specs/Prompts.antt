-- The three rows at the top.
use Rattle.std.specs.Prelude.{ℕ, ◌==◌, ◌&&◌, ◌||◌, List, [], ◌∷◌, Bool, false, Option, Some, None, is_some, codes, decimal, if◌then◌else◌}
use Rattle.std.specs.Option.{option_map}
use Rattle.alarm_rules.specs.SetupLines.{after, is_nil}
use Rattle.arc_data.specs.declared.event.CloseCode.{CloseCode}
use Rattle.arc_data.specs.declared.event.CloseCode.TheVariants.{Real, False, Test}
use Rattle.desk_wire.specs.Laws.{spelling}
use Rattle.desk_wire.specs.declared.command.Command.{Command}
use Rattle.desk_screen.specs.Asking.{code_of}
use Rattle.desk_screen.specs.Orders.{typed_of}
use Rattle.desk_screen.specs.Owning.{own_number}
use Rattle.desk_screen.specs.declared.deed.Deed.{Deed}
use Rattle.desk_screen.specs.declared.keyboard.Keyboard.{Keyboard}
use Rattle.desk_screen.specs.declared.own.Own.{Own}
use Rattle.desk_screen.specs.declared.series.Series.{Series}
use Rattle.desk_screen.specs.declared.session.Session.{Session}
use Rattle.screen_page.specs.Texts.{answered_row, login_row, status_row, undone_row, with_text, with_texts}
use Rattle.screen_page.specs.declared.tone.Tone.{Tone}
use Rattle.screen_page.specs.declared.tone.Tone.TheVariants.{Plainly, Heading, Grave}

-- the first row: the state of the connection, and the rest of `status_row`
abbrev pub status : Session → ℕ → Tone × List ℕ
status session total =
    (if session.connected then Heading else Grave, status_row session.connected session.user session.silence total)

abbrev pub is_key : Option ℕ → ℕ → Bool
is_key None key = false
is_key (Some last) key = last == key

abbrev pub code_word : CloseCode → List ℕ
code_word Real = codes "REAL"
code_word False = codes "FALSE"
code_word Test = codes "TEST"

-- what a confirming key would do: behind `q`, and behind the key of a code where an incident is the operator's own
abbrev pub leaving_row : List ℕ
leaving_row = with_text [] (codes "leave? y leaves. What you hold stays yours, until it lapses: release it first")

abbrev pub closing_row : ℕ → CloseCode → List ℕ
closing_row number code =
    with_texts [] (codes "close " ∷ decimal number ∷ codes " as " ∷ code_word code ∷ codes "? y closes it, any other key does not" ∷ [])

abbrev pub confirmed : Option ℕ → Option Own → Option (List ℕ)
confirmed last own =
    if is_key last 113 then Some leaving_row
    else after (own_number own) (λ number. option_map (closing_row number) (after last code_of))

-- what waits for an answer, or to be sent
abbrev pub awaited : Option Command → Option Command → Option (List ℕ)
awaited (Some command) wish = Some (with_texts [] (codes "no answer yet: " ∷ spelling command ∷ []))
awaited None (Some wish) = Some (with_text [] (codes "your command goes out as soon as the desk answers the screen's own"))
awaited None None = None

-- the number that is typed
abbrev pub number_row : List ℕ → List ℕ
number_row typed = if is_nil typed then [] else with_texts [] (codes "number " ∷ typed ∷ codes ": c claims it, s shows it" ∷ [])

abbrev pub confirmed_or : Option (List ℕ) → List ℕ → Tone × List ℕ
confirmed_or (Some text) typed = (Heading, text)
confirmed_or None typed = (Plainly, number_row typed)

-- what is typed: to log in, where nobody is, or else what a key would confirm, or a number
abbrev pub typed_row : Option (List ℕ) → Keyboard → Option Own → Tone × List ℕ
typed_row None keyboard own = (Heading, login_row keyboard.name keyboard.typed)
typed_row (Some user) keyboard own = confirmed_or (confirmed keyboard.last own) keyboard.typed

abbrev pub awaited_or : Option (List ℕ) → Session → Keyboard → Option Own → Tone × List ℕ
awaited_or (Some text) session keyboard own = (Plainly, text)
awaited_or None session keyboard own = typed_row session.user keyboard own

-- the second row: that there is no connection, or what is awaited, or what is typed
abbrev pub prompt : Session → Keyboard → Option Own → Tone × List ℕ
prompt session keyboard own =
    if session.connected then awaited_or (awaited (typed_of session.way) session.wish) session keyboard own
    else (Plainly, with_text [] (codes "the screen goes on trying to connect; Ctrl-C leaves"))

-- How far a series has come: how many steps the desk has recorded by its key, and whether it goes on.
abbrev pub way_text : Bool → List ℕ
way_text is_on = if is_on then codes " recorded by one key, goes on: " else codes " recorded by one key, ended: "

abbrev pub series_row : Option Series → List ℕ
series_row None = []
series_row (Some series) = with_texts [] (decimal series.recorded ∷ way_text series.is_on ∷ [])

-- the third row: how far a series has come, and what was not done, or else the last answer
abbrev pub outcome : Option Command → Option Deed → Option Series → Tone × List ℕ
outcome (Some command) deed series = (Grave, with_text (series_row series) (undone_row command))
outcome None (Some deed) series = (Plainly, with_text (series_row series) (answered_row deed))
outcome None None series = (Plainly, series_row series)

-- Which keys leave the screen: `y` behind a `q` at work, and Ctrl-C and Ctrl-D at any time.
unfoldable pub leaves : Option (List ℕ) → Option ℕ → ℕ → Bool
leaves user last key = (key == 3) || (key == 4) || (is_some user && (key == 121) && is_key last 113)
