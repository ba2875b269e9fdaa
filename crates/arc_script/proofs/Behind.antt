-- Steps of a script, and one more behind them.
use Rattle.std.proofs.Common.{◌≡◌, ◌+◌, ◌++◌, ◌∷◌, ℕ, List, [], refl, sym, ap, subst, ◌∙◌, append-nil, arith}
use Rattle.std.proofs.lemmas.Grind.{flat_map-append}
use Rattle.centre_rules.specs.History.{Entry}
use Rattle.centre_rules.specs.Summary.{Summary}
use Rattle.script_lines.specs.Lines.{Asked}
use Rattle.arc_script.specs.Begun.{Begun}
use Rattle.arc_script.specs.Steps.{Place, placed, Step, IsStepOf, AreSteps, asked_after, base_after, place_after, output_of}
use Rattle.arc_script.specs.Tallies.{entries_of, sent_by}
use Rattle.arc_script.specs.Texts.{AreOf, IsPlayable}

-- where a script stands behind these steps
abbrev pub end_of : {D : Type 0} → Begun D → List Step → Place
end_of b steps = place_after (placed b.base b.setup []) steps

pub asked_last : (before : List Asked) (steps : List Step) (s : Step) → asked_after before (steps ++ s ∷ []) ≡ s.asked ∷ asked_after before steps
asked_last before [] s = refl
asked_last before (first ∷ steps) s = asked_last (first.asked ∷ before) steps s

pub base_last : (base : Summary) (steps : List Step) (s : Step) → base_after base (steps ++ s ∷ []) ≡ s.base
base_last base [] s = refl
base_last base (first ∷ steps) s = base_last first.base steps s

pub place_last : (place : Place) (steps : List Step) (s : Step) → place_after (place_after place steps) (s ∷ []) ≡ place_after place (steps ++ s ∷ [])
place_last place steps s =
    let bases : s.base ≡ base_after place.base (steps ++ s ∷ []) = sym (base_last place.base steps s) in
    let asked : s.asked ∷ asked_after place.asked steps ≡ asked_after place.asked (steps ++ s ∷ []) = sym (asked_last place.asked steps s) in
    λ i. record place { base = bases i; asked = asked i }

pub of_last : (before : List Asked) (lines : List (ℕ × List ℕ)) (steps : List Step) (line : ℕ × List ℕ) (s : Step) → AreOf before lines steps
    → s.number ≡ line.0 → IsPlayable (asked_after before steps) line.1 s.asked → AreOf before (lines ++ line ∷ []) (steps ++ s ∷ [])
of_last before [] [] line s of number asks = (number, asks, tt)
of_last before [] (first ∷ steps) line s of number asks = absurd of
of_last before (l ∷ lines) [] line s of number asks = absurd of
of_last before (l ∷ lines) (first ∷ steps) line s of number asks =
    (of.0, of.1, of_last (first.asked ∷ before) lines steps line s of.2 number asks)

pub are_last : (Told : Type 0) (place : Place) (h mid x : List Entry) (steps : List Step) (s : Step) → AreSteps Told place h mid steps
    → IsStepOf Told (place_after place steps) mid x s s.asked → AreSteps Told place h x (steps ++ s ∷ [])
are_last Told place h mid x [] s are is = (x, subst (λ (k : List Entry). IsStepOf Told place k x s s.asked) are is, refl)
are_last Told place h mid x (first ∷ steps) s are is =
    (are.0, are.1, are_last Told (place_after place (first ∷ [])) are.0 mid x steps s are.2 is)

pub output_last : (steps : List Step) (s : Step) → output_of (steps ++ s ∷ []) ≡ output_of steps ++ s.text
output_last steps s = flat_map-append (λ (t : Step). t.text) steps (s ∷ []) ∙ ap (λ l. output_of steps ++ l) (append-nil s.text)

pub entries_last : (steps : List Step) (s : Step) → entries_of (steps ++ s ∷ []) ≡ entries_of steps ++ s.entries
entries_last steps s = flat_map-append (λ (t : Step). t.entries) steps (s ∷ []) ∙ ap (λ l. entries_of steps ++ l) (append-nil s.entries)

pub sent_last : (steps : List Step) (s : Step) → sent_by (steps ++ s ∷ []) ≡ sent_by steps + s.sent
sent_last [] s = omega arith
sent_last (first ∷ steps) s =
    let rest = sent_last steps s in
    omega (arith, rest)
