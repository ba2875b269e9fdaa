-- The lines of a stream: those that a line feed ends, and what stands behind the last line feed.
use Rattle.std.specs.Prelude.{ℕ, ◌==◌, Bool, List, [], ◌∷◌}
use Rattle.std.specs.List.{slice_split}
use Rattle.std.specs.Str.Lines.{strip_carriage_return}

abbrev pub is_feed : ℕ → Bool
is_feed b = b == 10

-- what stands before the first line feed, between each two, and behind the last
abbrev pub parts : List ℕ → List (List ℕ)
parts stream = slice_split is_feed stream

-- all parts but the last, each without the one carriage return at its end
abbrev pub ended_parts : List (List ℕ) → List (List ℕ)
ended_parts [] = []
ended_parts (part ∷ []) = []
ended_parts (part ∷ next ∷ more) = strip_carriage_return part ∷ ended_parts (next ∷ more)

abbrev pub last_part : List (List ℕ) → List ℕ
last_part [] = []
last_part (part ∷ []) = part
last_part (part ∷ next ∷ more) = last_part (next ∷ more)

-- The lines that a line feed ends: without it, and without the one carriage return before it. The lines of a stream that ends
-- (`lines` of the standard library) are these, and what stands behind the last line feed, where that is not empty.
abbrev pub ended_lines : List ℕ → List (List ℕ)
ended_lines stream = ended_parts (parts stream)

-- what stands behind the last line feed
abbrev pub rest_of : List ℕ → List ℕ
rest_of stream = last_part (parts stream)
