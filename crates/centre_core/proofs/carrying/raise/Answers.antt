-- First the silent accounts, then those that close late.
use Rattle.std.proofs.Common.{◌≡◌, ◌≤◌, ◌∙◌, ◌++◌, [], List, ℕ, Option, Some, Bool, length, ap, subst, arith}
use Rattle.std.specs.List.{filter}
use Rattle.arc_data.specs.declared.signal.Class.TheVariants.{CommFail}
use Rattle.alarm_rules.specs.Setups.{Account, meaning}
use Rattle.centre_rules.specs.Carrying.{is_silent, is_late}
use Rattle.centre_rules.specs.Marks.{Carried}
use Rattle.known_accounts.specs.Supervised.{ArePlacesOf, accounts_in, rows_sum}
use Rattle.centre_core.specs.Raised.{raised_of}
use Rattle.centre_core.proofs.RaisedAt.{within_of, few_of}
use Rattle.centre_core.proofs.carrying.raise.Goals as goal

-- the places are those of accounts of the setup in force
of_setup : (places : List ℕ) (text : Option (List ℕ)) (setup : List ℕ) (test : Account → Bool) → text ≡ Some setup
    → ArePlacesOf places (accounts_in text) (filter test (accounts_in text)) → ArePlacesOf places (meaning setup).accounts (filter test (meaning setup).accounts)
of_setup places text setup test is are = subst (λ o. ArePlacesOf places (accounts_in o) (filter test (accounts_in o))) is are

pub raise_at-requires-clause-within : goal.raise_at-requires-clause-within
raise_at-requires-clause-within c =
    let test = is_silent (rows_sum c.args.accounts.now.rows) [] c.args.at in
    let are = of_setup c.in_ok-silent.silent c.args.accounts.now.text c.args.setup.now test c.requires.setup c.in_ok-silent.ensures in
    within_of (meaning c.args.setup.now).accounts c.in_ok-silent.silent (filter test (meaning c.args.setup.now).accounts) are

pub raise_at-requires-2-clause-within : goal.raise_at-requires-2-clause-within
raise_at-requires-2-clause-within c =
    let test = is_late (rows_sum c.args.accounts.now.rows) [] c.args.at in
    let are = of_setup c.in_ok-late.late c.args.accounts.now.text c.args.setup.now test c.requires.setup c.in_ok-late.ensures in
    within_of (meaning c.args.setup.now).accounts c.in_ok-late.late (filter test (meaning c.args.setup.now).accounts) are

pub returns-clause-raised : goal.returns-clause-raised
returns-clause-raised c =
    let xs = (meaning c.args.setup.now).accounts in
    let silent = is_silent (rows_sum c.args.accounts.now.rows) [] c.args.at in
    let late = is_late (rows_sum c.args.accounts.now.rows) [] c.args.at in
    let first = c.in_ok-raise_at.ensures.raised (filter silent xs) (of_setup c.in_ok-silent.silent c.args.accounts.now.text c.args.setup.now silent c.requires.setup c.in_ok-silent.ensures) in
    let second = c.in_ok-raise_at-2.ensures.raised (filter late xs) (of_setup c.in_ok-late.late c.args.accounts.now.text c.args.setup.now late c.requires.setup c.in_ok-late.ensures) in
    let begun = ap (λ (ys : List Carried). ys ++ raised_of (filter silent xs) CommFail c.args.at (meaning c.args.setup.now)) c.new-raised.ensures.items in
    second ∙ ap (λ (ys : List Carried). ys ++ raised_of (filter late xs) _ c.args.at (meaning c.args.setup.now)) (first ∙ begun)

pub returns-clause-few : goal.returns-clause-few
returns-clause-few c =
    let xs = (meaning c.args.setup.now).accounts in
    let silent = is_silent (rows_sum c.args.accounts.now.rows) [] c.args.at in
    let late = is_late (rows_sum c.args.accounts.now.rows) [] c.args.at in
    let first : length c.in_ok-silent.silent ≤ length xs =
    few_of silent xs c.in_ok-silent.silent (of_setup c.in_ok-silent.silent c.args.accounts.now.text c.args.setup.now silent c.requires.setup c.in_ok-silent.ensures) in
    let second : length c.in_ok-late.late ≤ length xs =
    few_of late xs c.in_ok-late.late (of_setup c.in_ok-late.late c.args.accounts.now.text c.args.setup.now late c.requires.setup c.in_ok-late.ensures) in
    omega (
      arith,
      first,
      second,
      c.count-most.ensures.value,
      c.count-most.ensures.few,
      c.in_ok-raise_at.ensures.few,
      c.in_ok-raise_at-2.ensures.few,
      ap length c.new-raised.ensures.items,
    )
