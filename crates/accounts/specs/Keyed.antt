-- Things in a map by their names.
use Rattle.std.specs.Prelude.{◌≡◌, ℕ, List, map}
use Rattle.std.specs.List.{IsDistinct}
use Rattle.std.specs.Map.{keys_of, values_of}
use Rattle.std.specs.Str.{bytes_eq}

abbrev pub keyed : {A : Type 0} → (A → List ℕ) → A → List ℕ × A
keyed name thing = (name thing, thing)

-- each thing stands in the map by its name, and no two things have one name
pub record IsKeyed {A : Type 0} (name : A → List ℕ) (entries : List (List ℕ × A)) : Type 0 where
  pub named : entries ≡ map (keyed name) (values_of entries)
  pub distinct : IsDistinct bytes_eq (keys_of entries)
