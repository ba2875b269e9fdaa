-- The pieces of a stream: what lies between a line feed and the next carriage return with no line feed between.
use Rattle.std.specs.Prelude.{◌==◌, ◌++◌, ℕ, List, [], ◌∷◌, if◌then◌else◌, Option, Some, None}
use Rattle.std.specs.Option.{option_map, option_to_list}

-- what stands before the first carriage return, where that is nearer than the first line feed
abbrev pub up_to_return : List ℕ → Option (List ℕ)
up_to_return [] = None
up_to_return (x ∷ xs) = if x == 13 then Some [] else if x == 10 then None else option_map (λ p. x ∷ p) (up_to_return xs)

-- of each line feed of the stream, in their order, the piece that it begins, where it begins one
abbrev pub pieces : List ℕ → List (List ℕ)
pieces [] = []
pieces (x ∷ xs) = if x == 10 then option_to_list (up_to_return xs) ++ pieces xs else pieces xs
