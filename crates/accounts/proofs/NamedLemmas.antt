-- Numbers and times by their texts.
use Rattle.std.proofs.Common.{◌≡◌, ◌<◌, ◌≤◌, ◌+◌, ◌-◌, ◌^◌, ℕ, List, Option, Some, None, sym, ◌∙◌, arith}
use Rattle.std.specs.Prelude.{decimal}
use Rattle.std.specs.Str.{bytes_eq}
use Rattle.std.proofs.lemmas.Bool.{false_from_ne_true}
use Rattle.std.proofs.lemmas.Fmt.{decimal_injective}
use Rattle.std.proofs.lemmas.Slice.Eq.{bytes_eq-Decides}
use Rattle.alarm_rules.specs.FirstFrom.{first_from}
use Rattle.alarm_rules.specs.SetupWords.{number_between, minute_named, time_text}
use Rattle.alarm_rules.proofs.FirstNumbers.{first_from-first, first_from-none}

-- The only number of a range whose text the word is, and none where there is none.
module _ (text : ℕ → List ℕ) (word : List ℕ) (start more : ℕ) where
  pub only-text : (n : ℕ) → start ≤ n → n < start + more → word ≡ text n → ((u : ℕ) → start ≤ u → u < start + more → word ≡ text u → u ≡ n)
      → Some n ≡ first_from (λ u. bytes_eq word (text u)) start more
  only-text n low high is only =
      sym (first_from-first (λ u. bytes_eq word (text u)) start more n (record {
        passes = (bytes_eq-Decides word (text n)).1 is;
        low = low;
        high = high;
        first = λ u from below. false_from_ne_true (bytes_eq word (text u)) (λ same.
            let other : u ≡ n = only u from (omega arith) ((bytes_eq-Decides word (text u)).0 same) in
            absurd (omega arith));
      }))

  pub no-text : ((u : ℕ) → start ≤ u → u < start + more → word ≡ text u → ⊥) → None ≡ first_from (λ u. bytes_eq word (text u)) start more
  no-text none =
      sym (first_from-none (λ u. bytes_eq word (text u)) start more (λ u from below.
      false_from_ne_true (bytes_eq word (text u)) (λ same. none u from below ((bytes_eq-Decides word (text u)).0 same))))

-- Decimal texts.
module _ (low high : ℕ) (word : List ℕ) (fits : high < 2 ^ 64) where
  pub number-found : (n : ℕ) → word ≡ decimal n → low ≤ n → n ≤ high → Some n ≡ number_between low high word
  number-found n is above below =
      only-text decimal word low (high + 1 - low) n above (omega arith) is (λ u from to same.
      decimal_injective u n (omega arith) (omega arith) (sym same ∙ is))

  pub number-outside : (n : ℕ) → word ≡ decimal n → n < 2 ^ 64 → (low ≤ n → n ≤ high → ⊥) → None ≡ number_between low high word
  number-outside n is small outside =
      no-text decimal word low (high + 1 - low) (λ u from to same.
      let other : u ≡ n = decimal_injective u n (omega arith) small (sym same ∙ is) in
      outside (omega arith) (omega arith))

  pub number-none : ((n : ℕ) → n < 2 ^ 64 → word ≡ decimal n → ⊥) → None ≡ number_between low high word
  number-none none = no-text decimal word low (high + 1 - low) (λ u from to same. none u (omega arith) same)

-- Times, where the only one that the word can be is known.
module _ (last : ℕ) (word : List ℕ) (candidate : Option ℕ) (day : last ≤ 1440)
    (only : (minute : ℕ) → minute ≤ 1440 → word ≡ time_text minute → candidate ≡ Some minute) where
  pub minute-found : (minute : ℕ) → candidate ≡ Some minute → minute ≤ last → word ≡ time_text minute → Some minute ≡ minute_named last word
  minute-found minute is below same =
      only-text time_text word 0 (last + 1) minute (omega arith) (omega arith) same (λ u from to other.
      let twice : Some u ≡ Some minute = sym (only u (omega arith) other) ∙ is in
      cc)

  pub minute-outside : (minute : ℕ) → candidate ≡ Some minute → (minute ≤ last → word ≡ time_text minute → ⊥) → None ≡ minute_named last word
  minute-outside minute is outside =
      no-text time_text word 0 (last + 1) (λ u from to other.
      let twice : Some u ≡ Some minute = sym (only u (omega arith) other) ∙ is in
      let same : u ≡ minute = cc in
      outside (omega arith) (rw (← same) other))

  pub minute-none : candidate ≡ None → None ≡ minute_named last word
  minute-none is =
      no-text time_text word 0 (last + 1) (λ u from to other. let clash = sym (only u (omega arith) other) ∙ is in cc)
