-- What a text that was read means, by what its lines declare.
use Rattle.std.proofs.Common.{◌≡◌, ◌≤◌, ◌<◌, ℕ, List, [], ◌∷◌, Bool, true, false, Option, Some, None, Result, Ok, Err, IsOk, length, map, Bor, refl, sym, ap, ◌∙◌, is_some, slice_get, arith}
use Rattle.std.specs.Prelude.{if◌then◌else◌, option_and_then, IfSome}
use Rattle.std.specs.List.{find, position}
use Rattle.std.specs.Option.{option_copied, option_map, option_map_or, option_or, unwrap_or}
use Rattle.std.specs.Result.{result_unwrap_or}
use Rattle.std.specs.Str.{bytes_eq}
use Rattle.std.proofs.lemmas.Bool.{le-ltb, lt-ltb}
use Rattle.std.proofs.lemmas.List.{length-map}
use Rattle.std.proofs.lemmas.Option.{slice_get-map}
use Rattle.std.proofs.lemmas.Slice.Eq.{bytes_eq-Decides}
use Rattle.arc_data.specs.Classes.{same_class}
use Rattle.arc_data.specs.declared.plan.Planned.{Planned}
use Rattle.arc_data.specs.declared.plan.PlanWord.TheVariants.{Note}
use Rattle.arc_data.specs.declared.setup_fault.SetupFault.{SetupFault}
use Rattle.arc_data.specs.declared.setup_fault.SetupFault.TheVariants.{TooLarge}
use Rattle.arc_data.specs.declared.signal.Class.{Class}
use Rattle.alarm_rules.specs.SetupLines.{AccountLine, PlanLine, Operator}
use Rattle.alarm_rules.specs.Setups.{Account, Setup, Line, said_lines, first_fault, told, things, accounts_in, operators_in, plans_in, lapse_part, account_with, is_plan_of}
use Rattle.alarm_rules.specs.Setups.{setup_of, setup_of_lines, meaning, account_of, place_of, has_account, has_number, key_of, operator_of, words_for, plan_of}
use Rattle.accounts.specs.declared.entry.Entry.{Entry}
use Rattle.accounts.specs.declared.operator_table.OperatorEntry.{OperatorEntry}
use Rattle.accounts.specs.declared.plan_list.ClassPlan.{ClassPlan}
use Rattle.accounts.specs.declared.table.LapseEntry.{LapseEntry}
use Rattle.accounts.specs.declared.table.Table.{Table}
use Rattle.accounts.specs.Accounts.{defined, IsReadFrom}
use Rattle.accounts.specs.Entries.{is_numbered, find_number, find_name}
use Rattle.accounts.specs.Said.{said_operator}
use Rattle.accounts.specs.Standing.{entry_in, plan_entry, operator_entry, lapse_entry, first_lapse, plans_for}
use Rattle.accounts.proofs.LimitLemmas.{few-accounts, few-holders}
use Rattle.accounts.proofs.StandLemmas.{find-map, find-passes, map-map, place-there}
use Rattle.accounts.proofs.TableLemmas.{position-map}
use Rattle.accounts.proofs.TakenLemmas.{plans-found}

-- the result of a text, by whether it is too large and by the fault of its lines
abbrev result_of : List ℕ → Bool → Option SetupFault → Result Setup SetupFault
result_of text large fault = if large then Err TooLarge else option_map_or Err fault (Ok (setup_of_lines (said_lines text)))

pub setup_of-large : (text : List ℕ) → 4194304 < length text → setup_of text ≡ Err TooLarge
unfolding setup_of
setup_of-large text large = ap (λ l. result_of text l (first_fault [] (said_lines text))) (lt-ltb 4194304 (length text) large)

pub setup_of-fault : (text : List ℕ) (fault : SetupFault) → length text ≤ 4194304 → first_fault [] (said_lines text) ≡ Some fault → setup_of text ≡ Err fault
unfolding setup_of
setup_of-fault text fault small is = λ i. result_of text (le-ltb 4194304 (length text) small i) (is i)

pub copied-some : {A : Type 0} (found : Option (Bor A)) → is_some found ≡ is_some (option_copied found)
copied-some None = refl
copied-some (Some thing) = refl

-- the account and the operator that are kept, as they are defined
abbrev pub account_kept : Entry → Account
account_kept entry = defined entry.account

abbrev pub operator_kept : OperatorEntry → Operator
operator_kept entry = said_operator entry.operator

-- the account at the place that is told is the first one of that number
pub there-numbered : (accounts : List Account) (number : List ℕ) (place : Option ℕ) → place ≡ position (has_number number) accounts
    → IfSome place (λ i. IfSome (slice_get accounts i) (λ account. account.number ≡ number))
there-numbered accounts number None is = tt
there-numbered accounts number (Some i) is =
    rw (place-there (has_number number) accounts (Some i) is) (by (find (has_number number) accounts) refl)
  where
    by : (found : Option Account) → find (has_number number) accounts ≡ found → IfSome found (λ account. account.number ≡ number)
    by None is = tt
    by (Some account) is = sym ((bytes_eq-Decides number account.number).0 (find-passes (has_number number) accounts account is))

module _ (text : List ℕ) (table : Table) (read : IsReadFrom text table) where
  abbrev ls : List Line
  ls = said_lines text

  -- the text is a setup
  setup_of-read : setup_of text ≡ Ok (setup_of_lines ls)
  unfolding setup_of
  setup_of-read = λ i. result_of text (le-ltb 4194304 (length text) read.size i) (read.faultless i)

  pub is_ok-read : IsOk (setup_of text)
  is_ok-read = rw setup_of-read refl

  pub meaning-read : meaning text ≡ setup_of_lines ls
  meaning-read = ap (λ (r : Result Setup SetupFault). result_unwrap_or r (record { accounts = []; plans = []; operators = []; lapse = None })) setup_of-read

  -- Accounts.

  pub accounts-read : (meaning text).accounts ≡ map account_kept table.accounts
  accounts-read =
      ap (λ (setup : Setup). setup.accounts) meaning-read ∙ map-map (λ thing. thing.1) (λ (a : AccountLine). true) (account_with ls) (accounts_in ls)
      ∙ sym (ap (λ entries. map account_kept entries) read.stands.accounts ∙ map-map (entry_in ls) (λ (e : Entry). true) account_kept (accounts_in ls))

  pub count-read : length table.accounts ≡ length (meaning text).accounts
  count-read = sym (ap length accounts-read ∙ length-map table.accounts account_kept)

  pub few-read : length table.accounts ≤ 2000
  few-read = omega (arith, ap length read.stands.accounts, length-map (accounts_in ls) (entry_in ls), few-accounts ls read.faultless)

  pub holders-read : (place : ℕ) (entry : Entry) → slice_get table.accounts place ≡ Some entry → entry.account.holders ≤ 4
  holders-read place entry at =
      few-holders ls read.faultless place entry (accounts_in ls) (sym (ap (λ (es : List Entry). slice_get es place) read.stands.accounts) ∙ at)

  pub place-read : (number : List ℕ) → position (is_numbered number) table.accounts ≡ place_of (meaning text) number
  place-read number = sym (ap (λ accounts. position (has_number number) accounts) accounts-read ∙ position-map account_kept (has_number number) table.accounts)

  pub account-read : (place : ℕ) (entry : Entry) → slice_get table.accounts place ≡ Some entry → slice_get (meaning text).accounts place ≡ Some (account_kept entry)
  account-read place entry at =
      ap (λ accounts. slice_get accounts place) accounts-read ∙ slice_get-map account_kept table.accounts place ∙ ap (λ found. option_map account_kept found) at

  found-read : (number : List ℕ) → account_of (meaning text) number ≡ option_map account_kept (find_number number table.accounts)
  found-read number = ap (find (has_number number)) accounts-read ∙ find-map account_kept (has_number number) table.accounts

  is_found : (entry : Option Entry) → is_some entry ≡ is_some (option_map account_kept entry)
  is_found None = refl
  is_found (Some entry) = refl

  pub knows-read : (number : List ℕ) → is_some (find_number number table.accounts) ≡ has_account (meaning text) number
  knows-read number = is_found (find_number number table.accounts) ∙ sym (ap is_some (found-read number))

  pub key-read : (number : List ℕ) (entry : Option Entry) → entry ≡ find_number number table.accounts
      → option_and_then (λ (account : Account). account.key) (option_map account_kept entry) ≡ key_of (meaning text) number
  key-read number entry is =
      ap (λ e. option_and_then (λ (account : Account). account.key) (option_map account_kept e)) is
      ∙ sym (ap (option_and_then (λ (account : Account). account.key)) (found-read number))

  -- Operators.

  operators-read : (meaning text).operators ≡ map operator_kept table.operators
  operators-read =
      ap (λ (setup : Setup). setup.operators) meaning-read
      ∙ sym (ap (λ entries. map operator_kept entries) read.stands.operators ∙ map-map operator_entry (λ (e : OperatorEntry). true) operator_kept (operators_in ls))

  pub operator-read : (name : List ℕ) (entry : Option OperatorEntry) → entry ≡ find_name name table.operators
      → option_map operator_kept entry ≡ operator_of (meaning text) name
  operator-read name entry is =
      ap (option_map operator_kept) is ∙ sym (ap (find (λ (o : Operator). bytes_eq name o.name)) operators-read ∙ find-map operator_kept (λ (o : Operator). bytes_eq name o.name) table.operators)

  -- The lapse.

  first-seconds : (lapses : List (ℕ × ℕ)) → option_map (λ (entry : LapseEntry). entry.seconds) (option_map lapse_entry (first_lapse lapses)) ≡ find (λ any. true) (things lapses)
  first-seconds [] = refl
  first-seconds (lapse ∷ lapses) = refl

  pub lapse-read : (entry : Option LapseEntry) → table.lapse ≡ entry → option_map (λ (entry : LapseEntry). entry.seconds) entry ≡ (meaning text).lapse
  lapse-read entry is =
      ap (option_map (λ (entry : LapseEntry). entry.seconds)) (sym is ∙ read.stands.lapse) ∙ first-seconds (told lapse_part ls)
      ∙ sym (ap (λ (setup : Setup). setup.lapse) meaning-read)

  -- Plans.

  words-of : (found : Option (ℕ × PlanLine)) → option_map (λ (plan : PlanLine). plan.words) (option_map (λ thing. thing.1) found)
      ≡ option_map (λ (plan : ClassPlan). plan.plan) (option_map plan_entry found)
  words-of None = refl
  words-of (Some thing) = refl

  words-read : (account : Option (List ℕ)) (class : Class) (kept : List ClassPlan) → kept ≡ map plan_entry (plans_for account ls)
      → words_for (meaning text) account class ≡ option_map (λ (plan : ClassPlan). plan.plan) (find (λ p. same_class class p.class) kept)
  words-read account class kept is =
      ap (λ (setup : Setup). words_for setup account class) meaning-read
      ∙ ap (option_map (λ (plan : PlanLine). plan.words))
      (find-map (λ thing. thing.1) (is_plan_of account class) (plans_in ls) ∙ ap (option_map (λ (thing : ℕ × PlanLine). thing.1)) (plans-found account class ls))
      ∙ words-of (find (λ thing. same_class class thing.1.class) (plans_for account ls))
      ∙ ap (option_map (λ (plan : ClassPlan). plan.plan))
      (sym (ap (find (λ p. same_class class p.class)) is ∙ find-map plan_entry (λ p. same_class class p.class) (plans_for account ls)))

  entry-plans : (place : ℕ) (entry : Entry) (things : List (ℕ × AccountLine)) → slice_get (map (entry_in ls) things) place ≡ Some entry
      → entry.plans ≡ map plan_entry (plans_for (Some entry.account.number) ls)
  entry-plans place entry things at = by (slice_get things place) (sym (slice_get-map (entry_in ls) things place) ∙ at)
    where
      by : (found : Option (ℕ × AccountLine)) → option_map (entry_in ls) found ≡ Some entry → entry.plans ≡ map plan_entry (plans_for (Some entry.account.number) ls)
      by None is = cc
      by (Some thing) is = let same : entry_in ls thing ≡ entry = cc in rw (← same) refl

  -- the plan of the account at a place, by its own plan for the class and that of all accounts
  pub plan-read : (place : ℕ) (entry : Entry) (class : Class) (own general : Option (List Planned)) → slice_get table.accounts place ≡ Some entry
      → own ≡ option_map (λ (p : ClassPlan). p.plan) (find (λ p. same_class class p.class) entry.plans)
      → general ≡ option_map (λ (p : ClassPlan). p.plan) (find (λ p. same_class class p.class) table.plans)
      → IfSome (slice_get (meaning text).accounts place)
      (λ account. unwrap_or (option_or own general) (record { word = Note; closed = false } ∷ []) ≡ plan_of (meaning text) account.number class)
  plan-read place entry class own general at is_own is_general =
      let kept = entry-plans place entry (accounts_in ls) (sym (ap (λ (es : List Entry). slice_get es place) read.stands.accounts) ∙ at) in
      let first = is_own ∙ sym (words-read (Some entry.account.number) class entry.plans kept) in
      let second = is_general ∙ sym (words-read None class table.plans read.stands.plans) in
      rw (account-read place entry at) (λ i. unwrap_or (option_or (first i) (second i)) (record { word = Note; closed = false } ∷ []))
