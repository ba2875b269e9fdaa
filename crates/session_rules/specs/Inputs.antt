-- How much of an input a session takes.
use Rattle.std.specs.Prelude.{ℕ, ◌-◌, ◌^◌, List, length, take}

-- how many bytes of an input are taken at most
abbrev pub input_limit : ℕ
input_limit = 2 ^ 40

-- the bytes of a piece that are taken behind a stream: as many as the limit leaves
abbrev pub in_limit : List ℕ → List ℕ → List ℕ
in_limit stream piece = take (input_limit - length stream) piece
