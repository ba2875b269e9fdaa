use Rattle.std.specs.Prelude.{false}
use Rattle.line_gate.specs.Blanks.{terms_of}
use Rattle.serving_tests.proofs.line_gate_tests.calls.met.Given as goal

-- the gate is the one that the blank will be
abbrev pub ghosts-meet_another : goal.ghosts-meet_another
ghosts-meet_another g a = record { terms = terms_of false g.D.Disk.seen a.blank }
