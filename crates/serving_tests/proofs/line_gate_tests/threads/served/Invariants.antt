use Rattle.std.specs.Prelude.{false}
use Rattle.line_gate.specs.Blanks.{terms_of}
use Rattle.serving_tests.proofs.line_gate_tests.threads.served.Given as goal

-- the gate is the one that the blank will be
abbrev pub ghosts-serve_eight : goal.ghosts-serve_eight
ghosts-serve_eight g a = record { terms = terms_of false g.D.Disk.seen a.blank }
