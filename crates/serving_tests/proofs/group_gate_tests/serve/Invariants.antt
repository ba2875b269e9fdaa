use Rattle.std.specs.Prelude.{true}
use Rattle.line_gate.specs.Blanks.{terms_of}
use Rattle.serving_tests.proofs.group_gate_tests.serve.Given as goal

-- the gate is the one that the blank will be
abbrev pub ghosts-serve_at : goal.ghosts-serve_at
ghosts-serve_at g a = record { terms = terms_of true g.D.Disk.seen a.blank }
