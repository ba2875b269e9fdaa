-- An account is silent, or closes late, once its deadline is passed.
use Rattle.std.proofs.Common.{◌≡◌, ◌<◌, ◌+◌, ◌^◌, ◌∙◌, ℕ, List, [], Bool, true, false, cond, Option, Some, None, refl, ap, map, arith, slice_get}
use Rattle.std.specs.Prelude.{◌&&◌, not, nat_lt}
use Rattle.std.specs.List.{filter}
use Rattle.std.specs.Option.{option_map, option_map_or}
use Rattle.std.proofs.lemmas.Bool.Decides.{nat_tests}
use Rattle.alarm_rules.specs.Setups.{Account}
use Rattle.alarm_rules.specs.Weeks.{next_close}
use Rattle.known_accounts.specs.Rows.{RowsValue, row_in}
use Rattle.centre_rules.specs.Carrying.{is_silent, is_late, is_past as past_by}
use Rattle.centre_rules.specs.Summary.{Opened, AccountRow}
use Rattle.supervision.specs.Deadlines.{is_past, due_at}
use Rattle.known_accounts.specs.Supervised.{later, silence_of, silence_after, lateness_of, lateness_after, accounts_in, rows_sum, ArePlacesOf}
use Rattle.known_accounts.proofs.Placed.{due_places}

and_false : (p : Bool) → false ≡ (p && false)
and_false true = refl
and_false false = refl

and_true : (p : Bool) → p ≡ (p && true)
and_true true = refl
and_true false = refl

-- a moment of a u64 is past a deadline that was put off to the last of them where it is past the deadline itself
capped : (moment wait at : ℕ) → at < 2 ^ 64 → nat_lt (later moment wait) at ≡ nat_lt (moment + wait) at
capped moment wait at m = grind (arith, nat_tests)

module _ (at : ℕ) (m : at < 2 ^ 64) where
  silent_if : (failed : Bool) (heard : Option ℕ) (interval : ℕ)
      → is_past at (cond failed None (option_map (λ moment. later moment interval) heard)) ≡ (past_by heard interval at && not failed)
  silent_if true heard interval = and_false (past_by heard interval at)
  silent_if false None interval = refl
  silent_if false (Some moment) interval = capped moment interval at m ∙ and_true (nat_lt (moment + interval) at)

  silent_when : (row : AccountRow) (beat : Option ℕ)
      → is_past at (silence_after row beat) ≡ option_map_or (λ interval. past_by row.heard interval at && not row.failed) beat false
  silent_when row None = refl
  silent_when row (Some interval) = silent_if row.failed row.heard interval

  silent_is : (v : RowsValue) (a : Account) → is_past at (silence_of v a) ≡ is_silent (rows_sum v) [] at a
  silent_is v a = silent_when (row_in v a.number) a.beat

  close_if : (late : Bool) (close : Option ℕ)
      → is_past at (cond late None (option_map (λ moment. later moment 900) close)) ≡ (not late && past_by close 900 at)
  close_if true close = refl
  close_if false None = refl
  close_if false (Some moment) = capped moment 900 at m

  late_when : (opening : Option Opened) (a : Account)
      → is_past at (lateness_after opening a.week) ≡ option_map_or (λ (o : Opened). not o.late && past_by (next_close a.week o.at) 900 at) opening false
  late_when None a = refl
  late_when (Some o) a = close_if o.late (next_close a.week o.at)

  late_is : (v : RowsValue) (a : Account) → is_past at (lateness_of v a) ≡ is_late (rows_sum v) [] at a
  late_is v a = late_when (row_in v a.number).opening a

  -- the places whose deadline of silence is passed are those of the silent accounts
  pub silent_places : (text : Option (List ℕ)) (v : RowsValue) (places : List ℕ) (ds : List (Option ℕ)) → places ≡ due_at at ds → ds ≡ map (silence_of v) (accounts_in text)
      → ArePlacesOf places (accounts_in text) (filter (is_silent (rows_sum v) [] at) (accounts_in text))
  silent_places text v places ds due are =
      let xs = accounts_in text in
      ap (map (slice_get xs)) (due ∙ ap (due_at at) are) ∙ due_places (silence_of v) at xs
      ∙ λ i. map Some (filter (λ a. silent_is v a i) xs)

  -- and those whose deadline of lateness is passed are those of the accounts that close late
  pub late_places : (text : Option (List ℕ)) (v : RowsValue) (places : List ℕ) (ds : List (Option ℕ)) → places ≡ due_at at ds → ds ≡ map (lateness_of v) (accounts_in text)
      → ArePlacesOf places (accounts_in text) (filter (is_late (rows_sum v) [] at) (accounts_in text))
  late_places text v places ds due are =
      let xs = accounts_in text in
      ap (map (slice_get xs)) (due ∙ ap (due_at at) are) ∙ due_places (lateness_of v) at xs
      ∙ λ i. map Some (filter (λ a. late_is v a i) xs)
