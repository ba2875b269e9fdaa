-- How many accounts and keyholders lines without a fault declare.
use Rattle.std.proofs.Common.{◌≡◌, ◌<◌, ◌≤◌, ℕ, List, [], ◌∷◌, ◌++◌, Option, Some, None, length, nat_lt, map}
use Rattle.std.proofs.Common.{refl, sym, ap, ◌∙◌, inl, inr, arith, append_assoc, append-nil, length-append, slice_get}
use Rattle.std.specs.Prelude.{◌⊎◌, if◌then◌else◌}
use Rattle.std.specs.Option.{option_map, option_or}
use Rattle.std.specs.Str.{bytes_eq}
use Rattle.std.proofs.lemmas.Bool.{cases_Bool, ltb-true}
use Rattle.std.proofs.lemmas.Option.{slice_get-map}
use Rattle.std.proofs.lemmas.Slice.Eq.{bytes_eq-Decides}
use Rattle.arc_data.specs.declared.setup_fault.SetupFault.TheVariants.{TooMany}
use Rattle.alarm_rules.specs.SetupLines.{Said, Nothing, OfAccount, OfHours, OfKeyholder, OfPlan, OfOperator, OfLapse}
use Rattle.alarm_rules.specs.SetupLines.{AccountLine}
use Rattle.alarm_rules.specs.Setups.{Line, told, account_part, keyholder_part, accounts_in, keyholders_in, line_with, account_declared}
use Rattle.alarm_rules.specs.Setups.{bad_zone, no_account, two_same, too_many, fault_at, first_fault}
use Rattle.accounts.specs.declared.entry.Entry.{Entry}
use Rattle.accounts.specs.Standing.{entry_in}
use Rattle.accounts.proofs.StandLemmas.{told-more}

pub or-none : {A : Type 0} (first second : Option A) → option_or first second ≡ None → (first ≡ None) × (second ≡ None)
or-none None second none = (refl, none)
or-none (Some fault) second none = cc

-- no more are told of than may be, and another one only where there are fewer
module _ {A : Type 0} (part : Said → Option A) (limit : ℕ)
    (room : (earlier : List Line) (l : Line) → fault_at earlier l ≡ None → (told part (l ∷ []) ≡ []) ⊎ (length (told part earlier) < limit)) where
  one-at-most : (l : Line) → length (told part (l ∷ [])) ≤ 1
  one-at-most (n, None) = omega arith
  one-at-most (n, Some said) = by (part said)
    where
      by : (thing : Option A) → length (told (λ _. thing) ((n, Some said) ∷ [])) ≤ 1
      by None = omega arith
      by (Some thing) = omega arith

  pub few : (earlier lines : List Line) → length (told part earlier) ≤ limit → first_fault earlier lines ≡ None → length (told part (earlier ++ lines)) ≤ limit
  unfolding first_fault
  few earlier [] so_far none = rw (append-nil earlier) so_far
  few earlier (l ∷ lines) so_far none =
      let faultless = or-none (fault_at earlier l) (first_fault (earlier ++ l ∷ []) lines) none in
      let more : length (told part (earlier ++ l ∷ [])) ≤ limit =
      elim (room earlier l faultless.0) [
        | inl nothing ↦ rw (told-more part earlier l, nothing, append-nil (told part earlier)) so_far
        | inr below ↦ rw (told-more part earlier l) (omega (arith, below, one-at-most l, length-append (told part earlier) (told part (l ∷ []))))
      ] in
      rw (← append_assoc earlier (l ∷ []) lines) (few (earlier ++ l ∷ []) lines more faultless.1)

fits : (number limit count : ℕ) → too_many number limit count ≡ None → count < limit
fits number limit count none =
    elim (cases_Bool (nat_lt count limit)) [
      | inl below ↦ ltb-true count limit below
      | inr above ↦ let many = ap (λ b. if b then None else Some (TooMany number limit)) (sym above) ∙ none in cc
    ]

account-room : (earlier : List Line) (l : Line) → fault_at earlier l ≡ None → (told account_part (l ∷ []) ≡ []) ⊎ (length (accounts_in earlier) < 2000)
account-room earlier (n, None) none = inl refl
account-room earlier (n, Some Nothing) none = inl refl
account-room earlier (n, Some (OfAccount line)) none =
    let same = two_same n (account_declared line.number earlier) in
    let many = too_many n 2000 (length (accounts_in earlier)) in
    inr (fits n 2000 (length (accounts_in earlier)) (or-none same many (or-none (bad_zone n line.zone) (option_or same many) none).1).1)
account-room earlier (n, Some (OfHours line)) none = inl refl
account-room earlier (n, Some (OfKeyholder line)) none = inl refl
account-room earlier (n, Some (OfPlan line)) none = inl refl
account-room earlier (n, Some (OfOperator line)) none = inl refl
account-room earlier (n, Some (OfLapse seconds)) none = inl refl

module _ (number : List ℕ) where
  keyholder-room : (earlier : List Line) (l : Line) → fault_at earlier l ≡ None
      → (told (keyholder_part number) (l ∷ []) ≡ []) ⊎ (length (keyholders_in number earlier) < 4)
  keyholder-room earlier (n, None) none = inl refl
  keyholder-room earlier (n, Some Nothing) none = inl refl
  keyholder-room earlier (n, Some (OfAccount line)) none = inl refl
  keyholder-room earlier (n, Some (OfHours line)) none = inl refl
  keyholder-room earlier (n, Some (OfKeyholder line)) none =
      let others = λ (account : List ℕ). line_with (bytes_eq line.name) (keyholders_in account earlier) in
      let count = λ (account : List ℕ). length (keyholders_in account earlier) in
      elim (cases_Bool (bytes_eq number line.account)) [
        | inl same ↦
            let is : number ≡ line.account = (bytes_eq-Decides number line.account).0 same in
            let after = or-none (no_account n line.account earlier) (option_or (two_same n (others line.account)) (too_many n 4 (count line.account))) none in
            let room = fits n 4 (count line.account) (or-none (two_same n (others line.account)) (too_many n 4 (count line.account)) after.1).1 in
            inr (rw is room)
        | inr other ↦ inl (ap (λ b. told (λ _. if b then Some line.name else None) ((n, Some (OfKeyholder line)) ∷ [])) other)
      ]
  keyholder-room earlier (n, Some (OfPlan line)) none = inl refl
  keyholder-room earlier (n, Some (OfOperator line)) none = inl refl
  keyholder-room earlier (n, Some (OfLapse seconds)) none = inl refl

module _ (lines : List Line) (faultless : first_fault [] lines ≡ None) where
  -- 2,000 accounts at most
  pub few-accounts : length (accounts_in lines) ≤ 2000
  few-accounts = few account_part 2000 account-room [] lines (omega arith) faultless

  -- and four keyholders of each
  few-keyholders : (number : List ℕ) → length (keyholders_in number lines) ≤ 4
  few-keyholders number = few (keyholder_part number) 4 (keyholder-room number) [] lines (omega arith) faultless

  pub few-holders : (place : ℕ) (entry : Entry) (things : List (ℕ × AccountLine)) → slice_get (map (entry_in lines) things) place ≡ Some entry → entry.account.holders ≤ 4
  few-holders place entry things at = by (slice_get things place) (sym (slice_get-map (entry_in lines) things place) ∙ at)
    where
      by : (found : Option (ℕ × AccountLine)) → option_map (entry_in lines) found ≡ Some entry → entry.account.holders ≤ 4
      by None is = cc
      by (Some thing) is = let same : entry_in lines thing ≡ entry = cc in rw (← same) (few-keyholders thing.1.number)
