use Rattle.std.specs.Prelude.{false}
use Rattle.line_gate.specs.Blanks.{terms_of}
use Rattle.arc_serving.proofs.serving.serve_store.Given as goal

-- the gate is the one that the blank will be
abbrev pub ghosts-serve_blank : goal.ghosts-serve_blank
ghosts-serve_blank g a = record { terms = terms_of false g.D.Disk.seen a.blank }
