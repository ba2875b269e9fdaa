use Rattle.std.proofs.Common.{◌≡◌, ◌≤◌, ◌-◌, ℕ, List, [], false, length}
use Rattle.arc_text.specs.LineCutting.{WasFed}
use Rattle.panel_rules.specs.Panels.{Setting}
use Rattle.session_rules.specs.Inputs.{input_limit}
use Rattle.arc_panel.specs.Lines.{line_limit}
use Rattle.arc_panel.specs.Playing.{SoFar}
use Rattle.arc_panel.proofs.Pieces.{ReadSoFar}
use Rattle.arc_panel.proofs.run.read_lines.Given as goal

-- what was read so far was played
abbrev pub invariant-pieces : goal.invariant-pieces
invariant-pieces g l = record {
  few : l.count ≤ input_limit;
  limit : l.cutter.limit ≡ line_limit;
  fed : (stream : List ℕ) × WasFed stream l.cutter;
  number : l.player.number ≤ l.count;
  taken : length l.player.panel.acked ≤ l.player.number;
  not_ended : (g.P.Ends.seen l.port).ended ≡ false;
  done : (s : Setting) → SoFar s (g.P.Ends.seen l.initial.port) [] l.initial.player (g.P.Ends.seen l.initial.port)
      → ReadSoFar s (g.P.Ends.seen l.initial.port) l.count l.cutter l.player (g.P.Ends.seen l.port);
}

abbrev pub decreases-pieces : goal.decreases-pieces
decreases-pieces g l = input_limit - l.count
