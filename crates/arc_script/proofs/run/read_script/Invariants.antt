use Rattle.std.proofs.Common.{◌≡◌, ◌≤◌, ◌-◌, ℕ, List, [], false}
use Rattle.arc_text.specs.LineCutting.{WasFed}
use Rattle.session_rules.specs.Inputs.{input_limit}
use Rattle.arc_script.specs.Begun.{Begun}
use Rattle.arc_script.specs.Between.{IsReady, SoFar}
use Rattle.arc_script.specs.Texts.{line_limit}
use Rattle.arc_script.proofs.Transcripts.{ReadSoFar}
use Rattle.arc_script.proofs.run.read_script.Given as goal

-- what was read so far was played
abbrev pub invariant-pieces : goal.invariant-pieces
invariant-pieces g l = record {
  few : l.count ≤ input_limit;
  limit : l.cutter.limit ≡ line_limit;
  fed : (stream : List ℕ) × WasFed stream l.cutter;
  ready : IsReady l.script.clock l.script.setup l.store.state.sum.text;
  not_ended : (g.P.Ends.seen l.port).ended ≡ false;
  done : (b : Begun g.row.D.Denot) → b.port ≡ g.P.Ends.seen l.initial.port → l.initial.script.number ≡ 0
      → SoFar g.D.Disk.seen b []
      l.initial.script l.initial.store (g.P.Ends.seen l.initial.port)
      → ReadSoFar g.D.Disk.seen b l.count l.cutter l.script l.store
      (g.P.Ends.seen l.port);
}

abbrev pub decreases-pieces : goal.decreases-pieces
decreases-pieces g l = input_limit - l.count
