use Rattle.std.specs.Prelude.{false}
use Rattle.line_gate.specs.Blanks.{terms_of}
use Rattle.serving_tests.proofs.arc_workers_tests.work.Given as goal

-- the gate is the one that the blank will be
abbrev pub ghosts-work_at : goal.ghosts-work_at
ghosts-work_at g a = record { terms = terms_of false g.D.Disk.seen a.blank }
