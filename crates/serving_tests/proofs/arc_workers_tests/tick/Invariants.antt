use Rattle.std.specs.Prelude.{false}
use Rattle.line_gate.specs.Blanks.{terms_of}
use Rattle.serving_tests.proofs.arc_workers_tests.tick.Given as goal

-- the gate is the one that the blank will be
abbrev pub ghosts-tick_at : goal.ghosts-tick_at
ghosts-tick_at g a = record { terms = terms_of false g.D.Disk.seen a.blank }
