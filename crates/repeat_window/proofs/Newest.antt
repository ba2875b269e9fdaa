-- The last items of a list, turned round, and the newest of them that passes a test.
use Rattle.std.proofs.Common.{◌≡◌, ◌≤◌, ◌-◌, ℕ, List, [], ◌∷◌, ◌++◌, length, take, drop, Bool, true, false, cond, Option, Some, refl, sym, ap, ◌∙◌, arith, ⊎_elim}
use Rattle.std.proofs.lemmas.Bool.{cases_lt}
use Rattle.std.specs.Prelude.{reverse}
use Rattle.std.specs.List.{find}
use Rattle.std.specs.Option.{option_map}
use Rattle.std.proofs.lemmas.List.{reverse-append, length-reverse, take_all, take-append-drop, length-drop}
use Rattle.std.proofs.Math.Seq.{take-append_seam}
use Rattle.arc_data.specs.declared.event.Message.{Message}
use Rattle.arc_data.specs.declared.event.Past.{Past}
use Rattle.centre_rules.specs.Answers.{repeats}
use Rattle.repeat_window.specs.Windows.{newest_of}

front : {X : Type 0} → (n : ℕ) (xs ys : List X) → length xs ≡ n → take n (xs ++ ys) ≡ xs
front n xs ys e = ap (λ k. take k (xs ++ ys)) (sym e) ∙ take-append_seam xs ys

-- the last n, turned round, are the first n of all turned round
pub reverse_last : {X : Type 0} → (n : ℕ) (xs : List X) → n ≤ length xs → reverse (drop (length xs - n) xs) ≡ take n (reverse xs)
reverse_last n xs le =
    let k = length xs - n in
    let long : length (reverse (drop k xs)) ≡ n = length-reverse (drop k xs) ∙ length-drop k xs ∙ omega arith in
    sym (ap (λ l. take n (reverse l)) (sym (take-append-drop k xs)) ∙ ap (take n) (reverse-append (take k xs) (drop k xs)) ∙ front n _ _ long)

few_kept : {X : Type 0} → (n : ℕ) (xs : List X) → length xs ≤ n → reverse (drop (length xs - n) xs) ≡ take n (reverse xs)
few_kept n xs le =
    let none : length xs - n ≡ 0 = omega (arith, le) in
    let short : length (reverse xs) ≤ n = omega (arith, length-reverse xs, le) in
    ap (λ k. reverse (drop k xs)) none ∙ sym (take_all n (reverse xs) short)

pub kept : {X : Type 0} → (n : ℕ) (xs : List X) → reverse (drop (length xs - n) xs) ≡ take n (reverse xs)
kept n xs = ⊎_elim (λ h. few_kept n xs (omega (arith, h))) (λ h. reverse_last n xs h) (cases_lt (length xs) n)

found_if : (m : Message) (at : ℕ) (p : Past) (ps : List Past) (b : Bool) → repeats m at p ≡ b
    → cond b (Some p.at) (option_map (λ (x : Past). x.at) (find (repeats m at) ps)) ≡ option_map (λ (x : Past). x.at) (find (repeats m at) (p ∷ ps))
found_if m at p ps true e = rw e refl
found_if m at p ps false e = rw e refl

-- one more, newer than those before
pub found_more : (m : Message) (at : ℕ) (newest : Option ℕ) (ps : List Past) (p : Past) → newest ≡ option_map (λ (x : Past). x.at) (find (repeats m at) (reverse ps))
    → newest_of m at newest p ≡ option_map (λ (x : Past). x.at) (find (repeats m at) (reverse (ps ++ p ∷ [])))
found_more m at newest ps p is =
    ap (λ (o : Option ℕ). cond (repeats m at p) (Some p.at) o) is ∙ found_if m at p (reverse ps) (repeats m at p) refl
    ∙ ap (λ (l : List Past). option_map (λ (x : Past). x.at) (find (repeats m at) l)) (sym (reverse-append ps (p ∷ [])))
