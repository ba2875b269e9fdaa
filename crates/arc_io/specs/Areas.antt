-- The bytes of both areas.
use Rattle.std.specs.Prelude.{ℕ, List}
use Rattle.arc_io.specs.declared.disk.Area.{Area}
use Rattle.arc_io.specs.declared.disk.Area.TheVariants.{A, B}

pub record Areas : Type 0 where
  pub a : List ℕ
  pub b : List ℕ

abbrev pub part : Area → Areas → List ℕ
part A s = s.a
part B s = s.b

-- the other one
abbrev pub rest : Area → Areas → List ℕ
rest A s = s.b
rest B s = s.a
