-- The deadlines of one account set again.
use Rattle.std.proofs.Common.{◌≡◌, ◌<◌, ◌∙◌, ℕ, List, false, cond, Option, Some, None, refl, sym, subst, ap, ap₂, map, length, slice_get, slice_set, arith, zero, suc, ◌+◌, [], ◌∷◌, take}
use Rattle.std.specs.Prelude.{IfSome, IsOk}
use Rattle.std.specs.List.{IsDistinct, position}
use Rattle.std.specs.Option.{option_map}
use Rattle.std.specs.Str.{bytes_eq}
use Rattle.alarm_rules.specs.Setups.{Account, has_number, meaning, setup_of}
use Rattle.known_accounts.specs.Rows.{RowsValue, row_in}
use Rattle.centre_rules.specs.Summary.{Opened, AccountRow}
use Rattle.known_accounts.specs.declared.deadlines.Deadlines.{Deadlines}
use Rattle.known_accounts.specs.Roomed.{HasPlaces, IsRenewed}
use Rattle.known_accounts.specs.Supervised.{later, silence_of, silence_after, lateness_of, lateness_after, IsPlaceIn, KeepsOthers, accounts_in}
use Rattle.known_accounts.proofs.Distinct.{distinct_numbers}
use Rattle.known_accounts.proofs.Placed.{set_one, set_none, set_next, AreSameBut}

-- below its length a list has a thing at each place
is_there : (xs : List Account) (place : ℕ) → place < length xs → slice_get xs place ≡ None → ⊥
is_there [] place within none = omega (arith, within)
is_there (x ∷ xs) zero within none = absurd (cc)
is_there (x ∷ xs) (suc place) within none = is_there xs place (omega (arith, within)) none

-- the deadline of silence goes by these two parts of what is known
silence_same : (r s : AccountRow) → r.heard ≡ s.heard → r.failed ≡ s.failed → (beat : Option ℕ) → silence_after r beat ≡ silence_after s beat
silence_same r s heard failed None = refl
silence_same r s heard failed (Some interval) = λ i. cond (failed i) None (option_map (λ moment. later moment interval) (heard i))

module _ (account : List ℕ) (v w : RowsValue) (others : KeepsOthers account v w) where
  pub silence_kept : (y : Account) → bytes_eq account y.number ≡ false → silence_of w y ≡ silence_of v y
  silence_kept y other =
      silence_same (row_in w y.number) (row_in v y.number) (others.heard y.number other) (others.failed y.number other) y.beat

  pub lateness_kept : (y : Account) → bytes_eq account y.number ≡ false → lateness_of w y ≡ lateness_of v y
  lateness_kept y other = ap (λ (o : Option Opened). lateness_after o y.week) (others.opening y.number other)

module _ (g h : Account → Option ℕ) (account : List ℕ) (same : AreSameBut g h account) where
  renewed : (xs : List Account) (place : ℕ) (a : Account) (before now : List (Option ℕ)) → IsDistinct bytes_eq (map (λ (a : Account). a.number) xs)
      → slice_get xs place ≡ Some a → a.number ≡ account → now ≡ slice_set before place (h a) → before ≡ map g xs → now ≡ map h xs
  renewed xs place a before now distinct at is set are =
      set ∙ ap (λ ds. slice_set ds place (h a)) are
      ∙ set_one g h xs place a distinct at (λ y other. same y (ap (λ n. bytes_eq n y.number) (sym is) ∙ other))

  -- where a deadline is set at the place of the account, all are set again
  pub renewed_in : (setup : Option (List ℕ)) (text : List ℕ) (place : ℕ) (a : Account) (before now : List (Option ℕ)) → setup ≡ Some text
      → IfSome setup (λ x. IsOk (setup_of x)) → slice_get (meaning text).accounts place ≡ Some a
      → IfSome (slice_get (meaning text).accounts place) (λ x. x.number ≡ account) → now ≡ slice_set before place (h a)
      → before ≡ map g (accounts_in setup) → now ≡ map h (accounts_in setup)
  renewed_in setup text place a before now is valid at number set are =
      let xs = (meaning text).accounts in
      subst (λ o. now ≡ map h (accounts_in o)) (sym is)
      (renewed xs place a before now (distinct_numbers text (subst (λ o. IfSome o (λ x. IsOk (setup_of x))) is valid)) at
      (subst (λ o. IfSome o (λ x. x.number ≡ account)) at number) set (subst (λ o. before ≡ map g (accounts_in o)) is are))

  -- where the account has no place, they stay
  pub lacking_in : (setup : Option (List ℕ)) (text : List ℕ) (before : List (Option ℕ)) → setup ≡ Some text
      → position (has_number account) (meaning text).accounts ≡ None → before ≡ map g (accounts_in setup) → before ≡ map h (accounts_in setup)
  lacking_in setup text before is none are =
      subst (λ o. before ≡ map h (accounts_in o)) (sym is)
      (subst (λ o. before ≡ map g (accounts_in o)) is are ∙ set_none g h (meaning text).accounts account none same)

-- the account at the place where one stands is that one
pub own_number : (account : List ℕ) (place : Option ℕ) (setup : Option (List ℕ)) (text : List ℕ) (p : ℕ) (a : Account) → IsPlaceIn account place setup
    → setup ≡ Some text → place ≡ Some p → slice_get (meaning text).accounts p ≡ Some a → a.number ≡ account
own_number account place setup text p a there is at found =
    let numbered : IfSome (Some p) (λ q. IfSome (slice_get (accounts_in (Some text)) q) (λ x. x.number ≡ account)) =
    subst (λ o. IfSome o (λ q. IfSome (slice_get (accounts_in (Some text)) q) (λ x. x.number ≡ account))) at
    (subst (λ o. IfSome place (λ q. IfSome (slice_get (accounts_in o) q) (λ x. x.number ≡ account))) is there.number) in
    subst (λ (o : Option Account). IfSome o (λ x. x.number ≡ account)) found numbered

-- and where it stands nowhere, it has no place
pub no_place : (account : List ℕ) (place : Option ℕ) (setup : Option (List ℕ)) (text : List ℕ) → IsPlaceIn account place setup → setup ≡ Some text
    → place ≡ None → position (has_number account) (meaning text).accounts ≡ None
no_place account place setup text there is none = ap (λ o. position (has_number account) (accounts_in o)) (sym is) ∙ sym there.is ∙ none

-- Where the same is known of each account, the deadlines are the same.

pub silence_alike : (v w : RowsValue) → ((a : List ℕ) → (row_in w a).heard ≡ (row_in v a).heard) → ((a : List ℕ) → (row_in w a).failed ≡ (row_in v a).failed)
    → (xs : List Account) → map (silence_of v) xs ≡ map (silence_of w) xs
silence_alike v w heard failed [] = refl
silence_alike v w heard failed (y ∷ ys) =
    ap₂ (λ d ds. d ∷ ds)
    (sym (silence_same (row_in w y.number) (row_in v y.number) (heard y.number) (failed y.number) y.beat))
    (silence_alike v w heard failed ys)

pub lateness_alike : (v w : RowsValue) → ((a : List ℕ) → (row_in w a).opening ≡ (row_in v a).opening) → (xs : List Account)
    → map (lateness_of v) xs ≡ map (lateness_of w) xs
lateness_alike v w opening [] = refl
lateness_alike v w opening (y ∷ ys) =
    ap₂ (λ d ds. d ∷ ds) (sym (ap (λ (o : Option Opened). lateness_after o y.week) (opening y.number))) (lateness_alike v w opening ys)

-- so many deadlines of either kind are those of so many accounts
pub record FirstAre (place : ℕ) (xs : List Account) (w : RowsValue) (d : Deadlines) : Type 0 where
  pub silence : take place d.silence ≡ map (silence_of w) (take place xs)
  pub lateness : take place d.lateness ≡ map (lateness_of w) (take place xs)

-- one more after the first ones
pub renewed_next : (w : RowsValue) (xs : List Account) (place : ℕ) (found : Option Account) (before now : Deadlines) → place < length xs → slice_get xs place ≡ found
    → IfSome found (λ a. IsRenewed place a w before now) → HasPlaces (length xs) before → FirstAre place xs w before → FirstAre (place + 1) xs w now
renewed_next w xs place None before now within at set has first = absurd (is_there xs place within at)
renewed_next w xs place (Some a) before now within at set has first = record {
  silence = set_next (silence_of w) xs before.silence now.silence place a at has.silence first.silence set.silence;
  lateness = set_next (lateness_of w) xs before.lateness now.lateness place a at has.lateness first.lateness set.lateness;
}
