-- Frames that are put with spaces, byte by byte.
use Rattle.std.proofs.Common.{◌≡◌, ◌<◌, ◌+◌, ℕ, suc, List, [], ◌∷◌, ◌++◌, Bool, true, false, cond, eqb, length, take, drop, get_or, refl, sym, ap, ◌∙◌, arith}
use Rattle.std.proofs.Math.Seq.{take-add, take-suc}
use Rattle.std.proofs.lemmas.Bool.{ne_eqb}
use Rattle.arc_io.specs.Seen.{PortSeen}
use Rattle.arc_io.specs.Told.{OnlyWrites}
use Rattle.arc_script.specs.Pages.{spaced}

-- the one byte
abbrev pub spaced_byte : ℕ → List ℕ
spaced_byte b = spaced (b ∷ [])

step_spaced : (b : ℕ) (t s : Bool) (rest more : List ℕ) → cond t (32 ∷ rest) (cond s rest (b ∷ rest)) ++ more ≡ cond t (32 ∷ rest ++ more) (cond s (rest ++ more) (b ∷ rest ++ more))
step_spaced b true s rest more = refl
step_spaced b false true rest more = refl
step_spaced b false false rest more = refl

pub spaced_both : (xs ys : List ℕ) → spaced (xs ++ ys) ≡ spaced xs ++ spaced ys
spaced_both [] ys = refl
spaced_both (b ∷ xs) ys = rw (spaced_both xs ys) (sym (step_spaced b (eqb b 10) (eqb b 13) (spaced xs) (spaced ys)))

-- one byte more
pub spaced_next : (xs : List ℕ) (i b : ℕ) → i < length xs → b ≡ get_or xs i 0 → spaced (take i xs) ++ spaced_byte b ≡ spaced (take (i + 1) xs)
spaced_next xs i b inside is =
    let next : i + 1 ≡ suc i = omega arith in
    sym (ap (λ k. spaced (take k xs)) next ∙ ap spaced (take-suc xs i 0 inside) ∙ spaced_both (take i xs) (get_or xs i 0 ∷ []) ∙ ap (λ c. spaced (take i xs) ++ spaced_byte c) (sym is))

-- nothing but writing, twice
pub only_both : {p q r : PortSeen} → OnlyWrites p q → OnlyWrites q r → OnlyWrites p r
only_both {p} {q} {r} first next = record {
  rest = next.rest ∙ ap (λ (x : PortSeen). record x { written = r.written; write_faults = r.write_faults }) first.rest;
}

-- a byte that is put as it stands
plain_byte : (b : ℕ) → (b ≡ 10 → ⊥) → (b ≡ 13 → ⊥) → spaced (b ∷ []) ≡ b ∷ []
plain_byte b no_feed no_return = rw (ne_eqb b 10 no_feed, ne_eqb b 13 no_return) refl

-- one such byte more
pub plain_next : (xs : List ℕ) (i : ℕ) → i < length xs → (get_or xs i 0 ≡ 10 → ⊥) → (get_or xs i 0 ≡ 13 → ⊥) → spaced (take i xs) ≡ take i xs
    → spaced (take (i + 1) xs) ≡ take (i + 1) xs
plain_next xs i inside no_feed no_return plain =
    let b = get_or xs i 0 in
    let next : i + 1 ≡ suc i = omega arith in
    sym (spaced_next xs i b inside refl) ∙ ap (λ (l : List ℕ). l ++ spaced_byte b) plain ∙ ap (λ (l : List ℕ). take i xs ++ l) (plain_byte b no_feed no_return)
    ∙ sym (ap (λ k. take k xs) next ∙ take-suc xs i 0 inside)

-- a piece more, of the bytes from there on
pub spaced_more : (xs : List ℕ) (i n : ℕ) → spaced (take i xs) ++ spaced (take n (drop i xs)) ≡ spaced (take (i + n) xs)
spaced_more xs i n = sym (ap spaced (take-add i n xs) ∙ spaced_both (take i xs) (take n (drop i xs)))
