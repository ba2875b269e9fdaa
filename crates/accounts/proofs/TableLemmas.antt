-- Things by name: a map's entries and the list of the things.
use Rattle.std.proofs.Common.{◌≡◌, ◌+◌, ℕ, List, [], ◌∷◌, Bool, cond, not, Option, Some, None, map, nat_lt, ◌++◌, refl, sym, ap, ◌∙◌}
use Rattle.std.specs.List.{find, position, prefix_len, IsDistinct}
use Rattle.std.specs.Map.{lookup, keys_of, values_of}
use Rattle.std.specs.Str.{bytes_eq}
use Rattle.std.proofs.lemmas.List.{length-map, map-append}
use Rattle.accounts.specs.Keyed.{keyed, IsKeyed}

module _ {A B : Type 0} (f : A → B) (p : B → Bool) where
  prefix_len-map : (xs : List A) → prefix_len (λ y. not (p y)) (map f xs) ≡ prefix_len (λ x. not (p (f x))) xs
  prefix_len-map [] = refl
  prefix_len-map (x ∷ xs) = ap (λ n. cond (not (p (f x))) (1 + n) 0) (prefix_len-map xs)

  -- the place of a mapped element
  pub position-map : (xs : List A) → position p (map f xs) ≡ position (λ x. p (f x)) xs
  position-map xs =
      let place : ℕ → ℕ → Option ℕ = λ n m. cond (nat_lt n m) (Some n) None in
      λ i. place (prefix_len-map xs i) (length-map xs f i)

module _ {A : Type 0} (name : A → List ℕ) where
  module _ (sought : List ℕ) where
    lookup-map : (xs : List A) → lookup (bytes_eq sought) (map (keyed name) xs) ≡ find (λ x. bytes_eq sought (name x)) xs
    lookup-map [] = refl
    lookup-map (x ∷ xs) = ap (λ found. cond (bytes_eq sought (name x)) (Some x) found) (lookup-map xs)

    -- what the map has at the name is the first thing of that name
    pub lookup-keyed : (entries : List (List ℕ × A)) (xs : List A) → entries ≡ map (keyed name) xs → lookup (bytes_eq sought) entries ≡ find (λ x. bytes_eq sought (name x)) xs
    lookup-keyed entries xs is = ap (λ es. lookup (bytes_eq sought) es) is ∙ lookup-map xs

    -- and where
    pub position-keyed : (entries : List (List ℕ × A)) (xs : List A) → entries ≡ map (keyed name) xs → position (bytes_eq sought) (keys_of entries) ≡ position (λ x. bytes_eq sought (name x)) xs
    position-keyed entries xs is =
        ap (λ es. position (bytes_eq sought) (keys_of es)) is ∙ position-map (λ e. e.0) (bytes_eq sought) (map (keyed name) xs)
        ∙ position-map (keyed name) (λ e. bytes_eq sought e.0) xs

  -- a thing that is put last goes last, under its name
  module _ (entries pushed : List (List ℕ × A)) (x : A) (is : pushed ≡ entries ++ keyed name x ∷ []) where
    pub values-pushed : values_of pushed ≡ values_of entries ++ x ∷ []
    values-pushed = ap values_of is ∙ map-append (λ e. e.1) entries (keyed name x ∷ [])

    pub keyed-pushed : IsKeyed name entries → IsDistinct bytes_eq (keys_of pushed) → IsKeyed name pushed
    keyed-pushed before distinct = record {
      named =
          is ∙ ap (λ es. es ++ keyed name x ∷ []) before.named ∙ sym (map-append (keyed name) (values_of entries) (x ∷ []))
          ∙ sym (ap (λ xs. map (keyed name) xs) values-pushed);
      distinct = distinct;
    }
