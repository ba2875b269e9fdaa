-- What a terminal is sent.
use Rattle.std.specs.Prelude.{ℕ, ◌+◌, List, ◌∷◌, ◌++◌, take, codes, decimal}
use Rattle.screen_page.specs.declared.tone.Tone.{Tone}
use Rattle.screen_page.specs.declared.tone.Tone.TheVariants.{Plainly, Heading, Grave, Urgent, Lesser, Mine, Faint}

-- the colour of a row, as a control sequence of ECMA-48
abbrev pub tone_codes : Tone → List ℕ
tone_codes Plainly = codes "0"
tone_codes Heading = codes "1"
tone_codes Grave = codes "1;37;41"
tone_codes Urgent = codes "1;30;43"
tone_codes Lesser = codes "36"
tone_codes Mine = codes "1;32"
tone_codes Faint = codes "2"

-- a row at its place: the place, the colour, the text, and what clears the rest of the row. The only control bytes are the escapes that
-- stand here.
abbrev pub frame_of : ℕ → Tone → List ℕ → List ℕ
frame_of row tone text =
    ((((((27 ∷ codes "[") ++ decimal row) ++ codes ";1H") ++ ((27 ∷ codes "[") ++ tone_codes tone ++ codes "m")) ++ text)
    ++ ((27 ∷ codes "[0m") ++ (27 ∷ codes "[K")))

-- what draws a row, at an index from 0 on, on a terminal of so many columns
abbrev pub bytes_of_row : Tone × List ℕ → ℕ → ℕ → List ℕ
bytes_of_row row index columns = frame_of (index + 1) row.0 (take columns row.1)
