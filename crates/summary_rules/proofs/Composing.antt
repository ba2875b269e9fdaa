-- The summary of a history over a summary is that of both histories, one after the other.
use Rattle.std.proofs.Common.{◌≡◌, ℕ, List, [], ◌∷◌, ◌++◌, map, Bool, true, false, cond, refl, ap, ◌∙◌}
use Rattle.centre_rules.specs.Summary.{Summary, AccountRow}
use Rattle.centre_rules.specs.Marks.{Mark}
use Rattle.centre_rules.specs.History.{Entry, marks, marks_of, onto, is_recorded}
use Rattle.centre_rules.specs.Answers.{IsLegal}
use Rattle.centre_rules.specs.State.{Same}
use Rattle.centre_rules.specs.Sums.{names, names_at, account_row, summary_of}
use Rattle.centre_rules.proofs.Sames.{marks_of_same}
use Rattle.centre_laws.proofs.Summed.{summary_tells}
use Rattle.summary_rules.specs.Laws.{SummariesCompose}

-- The accounts that are named.

row_names : (s : Summary) (ms : List Mark) (xs : List (List ℕ)) → map (λ (r : AccountRow). r.account) (map (account_row s ms) xs) ≡ xs
row_names s ms [] = refl
row_names s ms (x ∷ xs) = ap (λ l. x ∷ l) (row_names s ms xs)

names_onto : (t s : Summary) (xs mt ms : List Mark) → names t mt ≡ names s ms → names t (onto xs mt) ≡ names s (onto xs ms)
names_onto t s [] mt ms e = e
names_onto t s (x ∷ xs) mt ms e = names_onto t s xs (x ∷ mt) (x ∷ ms) (ap (names_at x) e)

names_if : (t s : Summary) (xs mt ms : List Mark) (b : Bool) → names t mt ≡ names s ms → names t (cond b (onto xs mt) mt) ≡ names s (cond b (onto xs ms) ms)
names_if t s xs mt ms true e = names_onto t s xs mt ms e
names_if t s xs mt ms false e = e

names_after : (s : Summary) (h k : List Entry) → IsLegal s h → names (summary_of s h) (marks (summary_of s h) k) ≡ names s (marks s (k ++ h))
names_after s h [] legal = row_names s (marks s h) (names s (marks s h))
names_after s h (e ∷ k) legal =
    let t = summary_of s h in
    let mt = marks t k in
    let ms = marks s (k ++ h) in
    names_if t s (marks_of t mt e.event e.at e.reply) mt ms (is_recorded e.reply) (names_after s h k legal)
    ∙ ap (λ (xs : List Mark). names s (cond (is_recorded e.reply) (onto xs ms) ms)) (marks_of_same (summary_tells s h k legal).tells e.event e.at e.reply)

-- Their rows.

row_same : {s t : Summary} {ms ns : List Mark} → Same s ms t ns → (a : List ℕ) → account_row s ms a ≡ account_row t ns a
row_same w a = λ i. record { account = a; heard = w.heard a i; failed = w.failed a i; opening = w.opening a i; messages = w.recent a i }

rows_same : {s t : Summary} {ms ns : List Mark} → Same s ms t ns → (xs : List (List ℕ)) → map (account_row s ms) xs ≡ map (account_row t ns) xs
rows_same w [] = refl
rows_same w (x ∷ xs) = λ i. row_same w x i ∷ rows_same w xs i

pub summaries_compose : SummariesCompose
summaries_compose s h k legal =
    let t = summary_of s h in
    let w = summary_tells s h k legal in
    let rows = rows_same w.tells (names t (marks t k)) ∙ ap (map (account_row s (marks s (k ++ h)))) (names_after s h k legal) in
    λ i. record {
      last = w.lasts i;
      recorded = w.counts i;
      opened = w.tells.opened i;
      start = w.tells.start i;
      text = w.tells.text i;
      rows = rows i;
      incidents = w.tells.incidents i;
    }
