use Rattle.std.proofs.Common.{◌≡◌, ◌≤◌, ◌+◌, ◌-◌, ◌++◌, List, ℕ, length, take}
use Rattle.arc_io.specs.Seen.{PortSeen}
use Rattle.arc_io.specs.Told.{OnlyWrites}
use Rattle.arc_text.specs.LineCutting.{WasFed}
use Rattle.arc_text.specs.Lines.{ended_lines}
use Rattle.panel_rules.specs.Panels.{Setting}
use Rattle.arc_panel.specs.Lines.{line_limit}
use Rattle.arc_panel.specs.Playing.{SoFar}
use Rattle.arc_panel.proofs.play.play_ended.Given as goal

-- the lines that end in the bytes so far were played
abbrev pub invariant-loop-at : goal.invariant-loop-at
invariant-loop-at g l = record {
  within : l.at ≤ length l.bytes;
  limit : l.cutter.limit ≡ line_limit;
  few : l.player.number ≤ l.initial.player.number + l.at;
  count : length l.player.panel.acked ≤ l.player.number;
  only : OnlyWrites (g.P.Ends.seen l.initial.port) (g.P.Ends.seen l.port);
  fed : (stream : List ℕ) → WasFed stream l.initial.cutter → WasFed (stream ++ take l.at l.bytes) l.cutter;
  played : (s : Setting) (p : PortSeen) (stream : List ℕ) → WasFed stream l.initial.cutter → SoFar s p (ended_lines stream) l.initial.player (g.P.Ends.seen l.initial.port)
      → SoFar s p (ended_lines (stream ++ take l.at l.bytes)) l.player (g.P.Ends.seen l.port);
}

abbrev pub decreases-loop-at : goal.decreases-loop-at
decreases-loop-at g l = length l.bytes - l.at
