use Rattle.std.specs.Prelude.{true}
use Rattle.line_gate.specs.Blanks.{terms_of}
use Rattle.arc_serving.proofs.serving.gather_store.Given as goal

-- the gate is the one that the blank will be
abbrev pub ghosts-gather_blank : goal.ghosts-gather_blank
ghosts-gather_blank g a = record { terms = terms_of true g.D.Disk.seen a.blank }
