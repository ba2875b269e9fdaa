-- The frames of a world: they are those that the panel sends, and a centre reads of each the message that it is of.
use Rattle.std.specs.Prelude.{◌≡◌, ℕ, List, [], map}
use Rattle.std.specs.List.{cons_option}
use Rattle.alarm_rules.specs.Setups.{meaning}
use Rattle.dc09_frame.specs.Frames.{IsBody}
use Rattle.dc09_message.specs.Verdicts.{verdict_of}
use Rattle.dc09_message.specs.declared.outcome.Verdict.TheVariants.{Numbered}
use Rattle.panel_rules.specs.Panels.{Setting, header, message_body, body_sent}
use Rattle.panel_laws.specs.Worlds.{World, IsWorld, Copy, IsAmong, Step, Turn, frames, frame_at, happenings, marks_after, message_of}

-- the body of a frame of which this is a copy
abbrev pub body_of : Setting → Copy → List ℕ
body_of s c = message_body s c.event c.report

-- The frames of a step of the panel have the body that the step sends, where it sends one.
abbrev pub FramesAreSent : Type 0
FramesAreSent =
    (s : Setting) (earlier : List Step) (clock : ℕ)
    → map (body_of s) (frame_at (marks_after s earlier) (Turn clock)) ≡ cons_option (body_sent s (happenings s earlier) clock) []

-- The frame of a copy has a body, of which a centre of the world's setup reads, at any moment, the message of the copy's event, behind
-- the header that its acknowledgement repeats.
pub record IsRead (w : World) (c : Copy) : Type 0 where
  pub body : IsBody (body_of w.setting c)
  pub verdict : (now : ℕ) → verdict_of (meaning w.text) now (body_of w.setting c)
      ≡ Numbered (header w.setting c.event c.report.token) (message_of w.setting c.event c.report)

-- each frame of a world is read so
abbrev pub FramesAreRead : Type 0
FramesAreRead = (w : World) → IsWorld w → (c : Copy) → IsAmong c (frames w.setting w.steps) → IsRead w c
