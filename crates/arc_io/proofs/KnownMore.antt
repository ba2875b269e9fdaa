-- Bytes that are written and read piece by piece.
use Rattle.std.proofs.Common.{◌≡◌, ℕ, ◌+◌, List, [], ◌++◌, take, drop, Option, Some, None, refl, sym, ◌∙◌, ap, append-nil}
use Rattle.std.proofs.lemmas.List.{append_assoc}
use Rattle.std.specs.Io.KnownBytes.{append_known, prepend_known}
use Rattle.std.proofs.Math.Seq.{take-add}

-- no bytes
pub known_none : (known : Option (List ℕ)) → append_known known [] ≡ known
known_none None = refl
known_none (Some xs) = ap Some (append-nil xs)

pub prepend_none : (known : Option (List ℕ)) → known ≡ prepend_known [] known
prepend_none None = refl
prepend_none (Some xs) = refl

-- a piece of the bytes after those that were taken
pub known_more : (known : Option (List ℕ)) (bytes : List ℕ) (done n : ℕ)
    → append_known (append_known known (take done bytes)) (take n (drop done bytes)) ≡ append_known known (take (done + n) bytes)
known_more None bytes done n = refl
known_more (Some xs) bytes done n = ap Some (append_assoc xs (take done bytes) (take n (drop done bytes)) ∙ ap (λ (l : List ℕ). xs ++ l) (sym (take-add done n bytes)))

-- two pieces, one after the other
pub known_both : (known : Option (List ℕ)) (xs ys : List ℕ) → append_known (append_known known xs) ys ≡ append_known known (xs ++ ys)
known_both None xs ys = refl
known_both (Some zs) xs ys = ap Some (append_assoc zs xs ys)

-- two pieces that were taken from the front, one after the other
pub known_taken : (known : Option (List ℕ)) (xs ys : List ℕ) → prepend_known xs (prepend_known ys known) ≡ prepend_known (xs ++ ys) known
known_taken None xs ys = refl
known_taken (Some zs) xs ys = ap Some (sym (append_assoc xs ys zs))
