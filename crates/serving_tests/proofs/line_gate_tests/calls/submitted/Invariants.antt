use Rattle.std.specs.Prelude.{false}
use Rattle.line_gate.specs.Blanks.{terms_of}
use Rattle.serving_tests.proofs.line_gate_tests.calls.submitted.Given as goal

-- the gate is the one that the blank will be
abbrev pub ghosts-submit_two : goal.ghosts-submit_two
ghosts-submit_two g a = record { terms = terms_of false g.D.Disk.seen a.blank }
