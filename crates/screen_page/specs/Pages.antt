-- The rows of a page.
use Rattle.std.specs.Prelude.{ℕ, ◌-◌, ◌==◌, ◌&&◌, List, [], ◌∷◌, Bool, true, false, Option, Some, None, is_none, nat_lt}
use Rattle.std.specs.Prelude.{codes, decimal, slice_get, slice_index_or, if◌then◌else◌}
use Rattle.arc_data.specs.Classes.{name_of, priority_of}
use Rattle.desk_screen.specs.declared.queue.Waiting.{Waiting}
use Rattle.desk_screen.specs.declared.screen.Screen.{Screen}
use Rattle.screen_page.specs.Mine.{own_rows}
use Rattle.screen_page.specs.Pasts.{newest}
use Rattle.screen_page.specs.Prompts.{outcome, prompt, status}
use Rattle.screen_page.specs.Texts.{age, with_cells, with_text, with_texts}
use Rattle.screen_page.specs.declared.layout.Shown.{Shown}
use Rattle.screen_page.specs.declared.layout.Shown.TheVariants.{Work, Help, History}
use Rattle.screen_page.specs.declared.past.Past.{Past}
use Rattle.screen_page.specs.declared.tone.Tone.{Tone}
use Rattle.screen_page.specs.declared.tone.Tone.TheVariants.{Plainly, Heading, Grave, Urgent, Lesser, Faint}

-- The letter of a priority, and its colour where the incident waits for somebody.
abbrev pub letter_of : ℕ → List ℕ
letter_of priority =
    if priority == 1 then codes "A" else if priority == 2 then codes "B" else if priority == 3 then codes "C" else codes "D"

abbrev pub tone_of : ℕ → Tone
tone_of priority = if priority == 1 then Grave else if priority == 2 then Urgent else if priority == 3 then Lesser else Plainly

-- who holds an incident
abbrev pub mark_of : Option (List ℕ) → List ℕ
mark_of None = codes "! "
mark_of (Some name) = codes "  "

abbrev pub holder_text : Option (List ℕ) → List ℕ
holder_text None = codes "waits for somebody"
holder_text (Some name) = name

-- an incident of the list: the letter of its priority, whether it waits, its number, its class, its account, for how long the screen has
-- shown it, and who holds it
unfoldable pub listed_row : Waiting → ℕ → List ℕ
listed_row waiting clock =
    with_cells (with_texts [] (letter_of (priority_of waiting.row.class) ∷ mark_of waiting.row.holder ∷ decimal waiting.row.number ∷ []))
    ((12, name_of waiting.row.class) ∷ (25, waiting.row.account) ∷ (43, age (clock - waiting.since))
    ∷ (52, holder_text waiting.row.holder) ∷ [])

abbrev pub listed : Waiting → ℕ → Tone × List ℕ
listed waiting clock =
    (if is_none waiting.row.holder then tone_of (priority_of waiting.row.class) else Faint, listed_row waiting clock)

abbrev pub listed_or : Option Waiting → ℕ → Tone × List ℕ
listed_or None clock = (Plainly, [])
listed_or (Some waiting) clock = listed waiting clock

-- the incidents in the order of the desk's list, which is by priority
abbrev pub queue_row : List Waiting → ℕ → ℕ → Tone × List ℕ
queue_row queue clock place = listed_or (slice_get queue place) clock

-- what the keys do
abbrev pub help_texts : List (List ℕ)
help_texts =
    codes "n      take the most urgent incident that nobody holds"
    ∷ codes "12c    claim incident 12"
    ∷ codes "s, 12s show your incident, or incident 12"
    ∷ codes "r a    the call: reached, or no answer"
    ∷ codes "d D    the step is done; each task up to the next call is"
    ∷ codes "A      no keyholder answered, from the one at NOW on"
    ∷ codes "u i o p  keyholder 1, 2, 3, 4 reached, and none before him"
    ∷ codes "l      release your incident"
    ∷ codes "Ry     close it as real: R, and then y"
    ∷ codes "Fy Ty  close it as false, as test"
    ∷ codes "m      silence the bell for a minute"
    ∷ codes "h      what you did in this sitting"
    ∷ codes "qy     leave; Ctrl-C leaves at once"
    ∷ codes "A B C D are the priorities 1 to 4; ! waits for somebody"
    ∷ codes "the bell rings at a new incident of priority 1 or 2, and each 20 s while one waits"
    ∷ codes "any key goes back to the incidents"
    ∷ []

abbrev pub help_row : ℕ → Tone × List ℕ
help_row place = (Plainly, with_text [] (slice_index_or help_texts place []))

abbrev pub past_row : List (List ℕ) → ℕ → Tone × List ℕ
past_row rows place = (Plainly, with_text [] (newest rows place))

abbrev pub keys_row : Tone × List ℕ
keys_row = (Faint, with_text [] (codes "n next c claim s show r a d step A D uiop steps l release RFT close m mute ? help"))

abbrev pub heading_row : Tone × List ℕ
heading_row = (Heading, with_text [] (codes "   number   class        account           seen     holder"))

-- at work: four rows of the own incident, a heading, and the incidents of the list
abbrev pub work_row : Screen → Option (List ℕ) → Past → ℕ → ℕ → Tone × List ℕ
work_row screen sites past moment place =
    if nat_lt place 4 then own_rows sites past.acts.items moment screen.own place
    else if place == 4 then heading_row
    else queue_row screen.watch.queue screen.watch.clock (place - 5)

-- what stands below the first three rows
abbrev pub body_row : Shown → Screen → Option (List ℕ) → Past → ℕ → ℕ → Tone × List ℕ
body_row Work screen sites past moment place = work_row screen sites past moment place
body_row Help screen sites past moment place = help_row place
body_row History screen sites past moment place = past_row past.rows.items place

-- The row of a page at an index, of a terminal with so many rows: the connection first, then what is typed or awaited, then the last
-- answer; the keys stand in the last row.
abbrev pub page_row : Screen → Option (List ℕ) → Past → Shown → ℕ → ℕ → ℕ → Tone × List ℕ
page_row screen sites past shown rows moment index =
    if index == 0 then status screen.session screen.watch.total
    else if index == 1 then prompt screen.session screen.keyboard screen.own
    else if index == 2 then outcome screen.session.undone screen.answered screen.series
    else if index == rows - 1 then keys_row
    else body_row shown screen sites past moment (index - 3)

-- Where help or the past is shown, the own incident is not: a key then goes back to the incidents, and is for nothing else.
abbrev pub is_at_work : Shown → Bool
is_at_work Work = true
is_at_work Help = false
is_at_work History = false

-- What a key has the page show: at work help, what was done, or else the incidents.
abbrev pub shown_by : Shown → ℕ → Bool → Shown
shown_by Work key is_logged = if key == 63 then Help else if (key == 104) && is_logged then History else Work
shown_by Help key is_logged = Work
shown_by History key is_logged = Work
