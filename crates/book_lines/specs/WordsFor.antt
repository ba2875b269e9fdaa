-- What words ask for, said by the words alone: which words stand for which options.
use Rattle.std.specs.Prelude.{◌≡◌, ◌⊎◌, ◌↔◌, ℕ, ◌++◌, List, [], ◌∷◌, true, false, if◌then◌else◌, Option, Some, None, codes}
use Rattle.arc_data.specs.Digits.{is_name}
use Rattle.alarm_rules.specs.SetupWords.{account_named, word_that}
use Rattle.book_lines.specs.Asked.{clock_ahead, clock_ruled, number_named, options_of, place_named}
use Rattle.book_lines.specs.declared.clock.Clock.{Clock}
use Rattle.book_lines.specs.declared.clock.Clock.TheVariants.{Fixed}
use Rattle.book_lines.specs.declared.clock.Offset.TheVariants.{Gmt}
use Rattle.book_lines.specs.declared.options.Options.{Options}

-- an option's words: none where it isn't asked for, or its name and a word that is read as its value
abbrev pub AreOf : {A : Type 0} → List ℕ → (List ℕ → Option A) → Option A → List (List ℕ) → Type 0
AreOf name read None words = words ≡ []
AreOf name read (Some value) words = (word : List ℕ) × (words ≡ name ∷ word ∷ []) × (read word ≡ Some value)

-- the clock is GMT where neither an offset nor a zone is asked for
abbrev pub AreOfClock : Clock → List (List ℕ) → Type 0
AreOfClock clock words =
    ((clock ≡ Fixed Gmt) × (words ≡ []))
    ⊎ (AreOf (codes "offset") clock_ahead (Some clock) words ⊎ AreOf (codes "zone") clock_ruled (Some clock) words)

-- the words are those of each option, one behind the other
pub record AreFor (o : Options) (words : List (List ℕ)) : Type 0 where
  pub first : List (List ℕ)
  pub last : List (List ℕ)
  pub account : List (List ℕ)
  pub incident : List (List ℕ)
  pub operator : List (List ℕ)
  pub clock : List (List ℕ)
  pub are : words ≡ first ++ (last ++ (account ++ (incident ++ (operator ++ (clock ++ (if o.tabs then codes "tabs" ∷ [] else []))))))
  pub of_first : AreOf (codes "since") (place_named false) o.since first
  pub of_last : AreOf (codes "until") (place_named true) o.until last
  pub of_account : AreOf (codes "account") account_named o.account account
  pub of_incident : AreOf (codes "incident") number_named o.incident incident
  pub of_operator : AreOf (codes "operator") (word_that is_name) o.operator operator
  pub of_clock : AreOfClock o.clock clock

-- words ask for options exactly where they are words for these
abbrev pub WordsAsk : Type 0
WordsAsk = (words : List (List ℕ)) (o : Options) → options_of words ≡ Some o ↔ AreFor o words
