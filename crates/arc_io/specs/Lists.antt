-- What a clock and a noise give that go through a list.
use Rattle.std.specs.Prelude.{ℕ, zero, suc, ◌-◌, min, List, [], ◌∷◌, ◌++◌, length, slice_index, slice_index_or, replicate}

-- the reading after n earlier ones: the list's next item, after its end its last one again, and 0 where it is empty
abbrev pub reading_at : List ℕ → ℕ → ℕ
reading_at list n = slice_index list (min n (length list - 1))

-- the first n readings
abbrev pub readings_of : List ℕ → ℕ → List ℕ
readings_of list zero = []
readings_of list (suc n) = readings_of list n ++ reading_at list n ∷ []

-- the ten bytes after n earlier tens: the list's next item, and zeros after its end
abbrev pub ten_at : List (List ℕ) → ℕ → List ℕ
ten_at tens n = slice_index_or tens n (replicate 10 0)

-- the bytes of the first n tens
abbrev pub noise_of : List (List ℕ) → ℕ → List ℕ
noise_of tens zero = []
noise_of tens (suc n) = noise_of tens n ++ ten_at tens n
