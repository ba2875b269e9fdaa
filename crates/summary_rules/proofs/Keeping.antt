-- What each mark of a legal history keeps, its summary has.
use Rattle.std.proofs.Common.{◌≡◌, ◌≤◌, ℕ, List, [], ◌∷◌, Bool, true, false, cond, refl}
use Rattle.centre_rules.specs.Summary.{Summary}
use Rattle.centre_rules.specs.Marks.{Mark}
use Rattle.centre_rules.specs.Standing.{standing}
use Rattle.centre_rules.specs.History.{Entry, marks, marks_of, onto, last, is_recorded}
use Rattle.centre_rules.specs.Answers.{IsLegal}
use Rattle.summary_rules.proofs.Fine.{IsFine, AreFine, fine_marks}

-- what holds of marks up to a moment goes on to hold at later ones, and with a mark more
pub record IsKept (s : Summary) (J : List Mark → ℕ → Type 0) : Type 0 where
  pub later : (ms : List Mark) (low at : ℕ) → low ≤ at → J ms low → J ms at
  pub mark : (ms : List Mark) (at : ℕ) (m : Mark) → IsFine (standing s ms at) at m → J ms at → J (m ∷ ms) at

kept_onto : {J : List Mark → ℕ → Type 0} (s : Summary) → IsKept s J → (at : ℕ) (xs ms : List Mark) → AreFine s ms at xs → J ms at → J (onto xs ms) at
kept_onto s k at [] ms fine j = j
kept_onto s k at (x ∷ xs) ms fine j = kept_onto s k at xs (x ∷ ms) fine.1 (k.mark ms at x fine.0 j)

kept_if : {J : List Mark → ℕ → Type 0} (s : Summary) → IsKept s J → (low at : ℕ) (xs ms : List Mark) (b : Bool) → (b ≡ true → AreFine s ms at xs) → low ≤ at → J ms low
    → J (cond b (onto xs ms) ms) (cond b at low)
kept_if s k low at xs ms true fine le j = kept_onto s k at xs ms (fine refl) (k.later ms low at le j)
kept_if s k low at xs ms false fine le j = j

pub kept : {J : List Mark → ℕ → Type 0} (s : Summary) → IsKept s J → J [] s.last → (h : List Entry) → IsLegal s h → J (marks s h) (last s h)
kept s k base [] legal = base
kept s k base (e ∷ h) legal =
    kept_if s k (last s h) e.at (marks_of s (marks s h) e.event e.at e.reply) (marks s h) (is_recorded e.reply)
    (λ recorded. fine_marks s (marks s h) e.event e.at e.reply legal.0.event legal.0.reply recorded) legal.0.late (kept s k base h legal.1)
