-- The lines that a panel writes: one for each that it was told.
use Rattle.std.specs.Prelude.{◌++◌, ◌-◌, ℕ, List, [], ◌∷◌, codes, decimal, length, take}
use Rattle.std.specs.Option.{option_map_or}
use Rattle.dc09_frame.specs.Frames.{piece_of}
use Rattle.panel_rules.specs.declared.Heard.{Heard}
use Rattle.panel_rules.specs.declared.Heard.TheVariants.{Acked, Other}
use Rattle.panel_rules.specs.declared.Queued.{Queued}
use Rattle.panel_rules.specs.declared.Queued.TheVariants.{Taken, Full, BadData}
use Rattle.panel_rules.specs.Panels.{Setting, Happening, Queue, Step, Hear, body_sent, heard, marks, queued}

-- the line of a step, by the frame that stands in the buffer behind it
abbrev pub frame_line : List ℕ → List ℕ
frame_line [] = codes "T -\n"
frame_line (b ∷ rest) = codes "T " ++ take (length rest - 1) rest ++ codes "\n"

-- the number of the event, `full` or `bad`
abbrev pub queued_text : Queued → List ℕ
queued_text (Taken event) = decimal event
queued_text Full = codes "full"
queued_text BadData = codes "bad"

-- `acked` and the number of the event, or `other`
abbrev pub heard_text : Heard → List ℕ
heard_text (Acked event) = codes "acked " ++ decimal event
heard_text Other = codes "other"

-- the line that a panel writes of what happens to it, behind all that happened before: the letter of its line, one space, what it did, and
-- a line feed. Of a step that is the frame of the body that was sent, without its line feed and its carriage return; or `-`.
abbrev pub line_of : Setting → List Happening → Happening → List ℕ
line_of s h (Step now) = codes "T " ++ option_map_or piece_of (body_sent s h now) (codes "-") ++ codes "\n"
line_of s h (Queue token content) = codes "E " ++ queued_text (queued (marks s h) token content) ++ codes "\n"
line_of s h (Hear body) = codes "R " ++ heard_text (heard s (marks s h) body) ++ codes "\n"

-- the lines of all that happened, the newest of which stands first
abbrev pub text_of : Setting → List Happening → List ℕ
text_of s [] = []
text_of s (x ∷ h) = text_of s h ++ line_of s h x
