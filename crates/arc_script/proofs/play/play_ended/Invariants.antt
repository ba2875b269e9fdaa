use Rattle.std.proofs.Common.{◌≡◌, ◌≤◌, ◌-◌, ◌++◌, List, ℕ, length, take}
use Rattle.arc_io.specs.Told.{OnlyWrites}
use Rattle.arc_text.specs.LineCutting.{WasFed}
use Rattle.arc_text.specs.Lines.{ended_lines}
use Rattle.session_rules.specs.Inputs.{input_limit}
use Rattle.arc_script.specs.Begun.{Begun}
use Rattle.arc_script.specs.Between.{IsReady, SoFar}
use Rattle.arc_script.specs.Texts.{line_limit}
use Rattle.arc_script.proofs.play.play_ended.Given as goal

-- the lines that end in the bytes so far were played
abbrev pub invariant-loop-at : goal.invariant-loop-at
invariant-loop-at g l = record {
  within : l.at ≤ length l.bytes;
  limit : l.cutter.limit ≡ line_limit;
  ready : IsReady l.script.clock l.script.setup l.store.state.sum.text;
  only : OnlyWrites (g.P.Ends.seen l.initial.port) (g.P.Ends.seen l.port);
  fed : (stream : List ℕ) → WasFed stream l.initial.cutter → WasFed (stream ++ take l.at l.bytes) l.cutter;
  played : (b : Begun g.row.D.Denot) (stream : List ℕ) → WasFed stream l.initial.cutter → length (stream ++ l.bytes) ≤ input_limit
      → SoFar g.D.Disk.seen b (ended_lines stream)
      l.initial.script l.initial.store (g.P.Ends.seen l.initial.port) → l.initial.script.number ≡ length (ended_lines stream)
      → SoFar g.D.Disk.seen b (ended_lines (stream ++ take l.at l.bytes))
      l.script l.store (g.P.Ends.seen l.port) × (l.script.number ≡ length (ended_lines (stream ++ take l.at l.bytes)));
}

abbrev pub decreases-loop-at : goal.decreases-loop-at
decreases-loop-at g l = length l.bytes - l.at
