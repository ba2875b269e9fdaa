-- What several texts make that are put one behind the other.
use Rattle.std.proofs.Common.{◌≡◌, ℕ, List, [], ◌∷◌, ◌++◌, Result, Ok, Err, ap, ◌∙◌, append_assoc}
use Rattle.std.specs.Prelude.{OnOk}

pub joined : {A E : Type 0} (r : Result A E) (old one two three all number size body : List ℕ) (letter : ℕ) → one ≡ old ++ letter ∷ [] → two ≡ one ++ number
    → three ≡ two ++ size → OnOk r (all ≡ three ++ body) → OnOk r (all ≡ old ++ letter ∷ (number ++ (size ++ body)))
joined (Err e) old one two three all number size body letter first second third last = tt
joined (Ok a) old one two three all number size body letter first second third last =
    last
    ∙ ap (λ (l : List ℕ). l ++ body) (third ∙ ap (λ (l : List ℕ). l ++ size) (second ∙ ap (λ (l : List ℕ). l ++ number) first))
    ∙ append_assoc ((old ++ letter ∷ []) ++ number) size body
    ∙ append_assoc (old ++ letter ∷ []) number (size ++ body)
    ∙ append_assoc old (letter ∷ []) (number ++ (size ++ body))
