-- Lists of anything: what holds of each item, and of each two.
use Rattle.std.specs.Prelude.{List, [], ◌∷◌}

-- each item of the list has this
abbrev pub Every : {A : Type 0} → (A → Type 0) → List A → Type 0
Every P [] = Unit {0}
Every P (x ∷ xs) = P x × Every P xs

-- so are each item and each later one
abbrev pub EveryTwo : {A : Type 0} → (A → A → Type 0) → List A → Type 0
EveryTwo R [] = Unit {0}
EveryTwo R (x ∷ xs) = Every (R x) xs × EveryTwo R xs
