-- What a centre keeps is the summary of each history for which it stands.
use Rattle.std.proofs.Common.{◌≡◌, ℕ, List, [], ◌∷◌, map, true, refl, sym, ap, ◌∙◌, subst}
use Rattle.std.specs.List.{list_any}
use Rattle.std.specs.Str.{bytes_eq}
use Rattle.arc_data.specs.Steps.{is_step}
use Rattle.arc_data.specs.declared.incident.Incident.{Incident}
use Rattle.arc_data.specs.declared.step.Acted.{Acted}
use Rattle.centre_rules.specs.Summary.{Summary}
use Rattle.centre_rules.specs.Marks.{Mark, has_row}
use Rattle.centre_rules.specs.Cases.{incidents}
use Rattle.centre_rules.specs.History.{Entry, marks}
use Rattle.centre_rules.specs.Answers.{IsLegal}
use Rattle.centre_rules.specs.State.{Same, State, StandsFor}
use Rattle.centre_rules.specs.Sums.{names, account_row, summary_of, AscendByBytes}
use Rattle.centre_rules.proofs.Steps.{incidents_begin}
use Rattle.centre_laws.proofs.Summed.{keeps_named}
use Rattle.summary_rules.specs.Lists.{Every, EveryTwo}
use Rattle.summary_rules.proofs.Ascending.{IsBefore, names_ascend}
use Rattle.summary_rules.proofs.Everies.{every_weaker}
use Rattle.summary_rules.proofs.Fine.{IsGoodAct}
use Rattle.summary_rules.proofs.Formed.{IsPlain, formed_all}
use Rattle.summary_codec.specs.Writing.{HaveGoodSteps}
use Rattle.centre_core.specs.Summing.{IsSpelled}
use Rattle.centre_core.proofs.OneOrder.{one_order}

-- Rows.

neighbours : (xs : List (List ℕ)) → EveryTwo IsBefore xs → AscendByBytes xs
neighbours [] w = tt
neighbours (a ∷ []) w = tt
neighbours (a ∷ b ∷ xs) w = (w.0.0, neighbours (b ∷ xs) w.1)

row_same : {s t : Summary} {ms ns : List Mark} → Same s ms t ns → (a : List ℕ) → account_row s ms a ≡ account_row t ns a
row_same w a = λ i. record { account = a; heard = w.heard a i; failed = w.failed a i; opening = w.opening a i; messages = w.recent a i }

rows_same : {s t : Summary} {ms ns : List Mark} → Same s ms t ns → (xs : List (List ℕ)) → map (account_row s ms) xs ≡ map (account_row t ns) xs
rows_same w [] = refl
rows_same w (x ∷ xs) = λ i. row_same w x i ∷ rows_same w xs i

-- the accounts that have a row, in order, are those that the history names
accounts_named : (b s : Summary) (h : List Entry) (xs : List (List ℕ)) → IsSpelled b → Same s [] b (marks b h)
    → ((a : List ℕ) → list_any (λ x. bytes_eq x a) xs ≡ has_row s.rows a) → AscendByBytes xs → xs ≡ names b (marks b h)
accounts_named b s h xs spelled same all up =
    one_order xs (names b (marks b h)) up (neighbours (names b (marks b h)) (names_ascend b (marks b h) spelled.besides.rows))
    (λ a. all a ∙ same.rows a ∙ sym (keeps_named b (marks b h) a))

-- Steps.

good_steps : (i : Incident) → IsPlain i → Every (λ s. is_step s ≡ true) i.steps × Every (λ (a : Acted). is_step a.step ≡ true) i.acts
good_steps i w = (w.steps, every_weaker IsGoodAct (λ (a : Acted). is_step a.step ≡ true) (λ a good. good.known) i.acts w.acts)

steps_all : (is : List Incident) → Every IsPlain is → HaveGoodSteps is
steps_all is w = every_weaker IsPlain (λ (i : Incident). Every (λ s. is_step s ≡ true) i.steps × Every (λ (a : Acted). is_step a.step ≡ true) i.acts) good_steps is w

-- the steps of the open incidents can be written
pub steps_good : (b s : Summary) (h : List Entry) → IsSpelled b → Same s [] b (marks b h) → IsLegal b h → HaveGoodSteps s.incidents
steps_good b s h spelled same legal =
    let formed = formed_all spelled.generation b h spelled.fields spelled.besides.steps legal in
    subst HaveGoodSteps (sym same.incidents ∙ incidents_begin s) (steps_all (incidents b (marks b h)) formed.table)

-- The whole.

-- what is kept, with its rows in order
abbrev pub in_order : Summary → List (List ℕ) → Summary
in_order s xs = record s { rows = map (account_row s []) xs }

pub kept_is : (b : Summary) (s : State) (h : List Entry) (xs : List (List ℕ)) → IsSpelled b → StandsFor b s h
    → ((a : List ℕ) → list_any (λ x. bytes_eq x a) xs ≡ has_row s.sum.rows a) → AscendByBytes xs → in_order s.sum xs ≡ summary_of b h
kept_is b s h xs spelled stands all up =
    let rows = rows_same stands.same xs ∙ ap (map (account_row b (marks b h))) (accounts_named b s.sum h xs spelled stands.same all up) in
    let table = sym (incidents_begin s.sum) ∙ stands.same.incidents in
    λ i. record {
      last = stands.last i;
      recorded = stands.recorded i;
      opened = stands.same.opened i;
      start = stands.same.start i;
      text = stands.same.text i;
      rows = rows i;
      incidents = table i;
    }
