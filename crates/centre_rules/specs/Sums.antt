-- The summary of a history: what later answers can ask of it.
use Rattle.std.specs.Prelude.{◌≡◌, ℕ, ◌+◌, List, [], ◌∷◌, true, if◌then◌else◌, map, length}
use Rattle.std.specs.Cmp.Lexicographic.{slice_cmp}
use Rattle.std.specs.Ordering.{nat_cmp, is_lt}
use Rattle.std.specs.Str.{bytes_eq}
use Rattle.centre_rules.specs.Summary.{Summary, AccountRow}
use Rattle.centre_rules.specs.Marks.{Mark, Sends, Hears, Carries, text, start, heard, failed, opening}
use Rattle.centre_rules.specs.Cases.{opened, incidents}
use Rattle.centre_rules.specs.History.{Entry, marks, last, recorded}
use Rattle.centre_rules.specs.Answers.{recent}

-- each account stands before the next, by bytes
abbrev pub AscendByBytes : List (List ℕ) → Type 0
AscendByBytes [] = Unit {0}
AscendByBytes (a ∷ []) = Unit {0}
AscendByBytes (a ∷ b ∷ xs) = (is_lt (slice_cmp nat_cmp a b) ≡ true) × AscendByBytes (b ∷ xs)

-- an account put in its place among others, if it is not there; they ascend by bytes
abbrev pub named : List ℕ → List (List ℕ) → List (List ℕ)
named account [] = account ∷ []
named account (x ∷ xs) =
    if bytes_eq x account then x ∷ xs else (if is_lt (slice_cmp nat_cmp account x) then account ∷ x ∷ xs else x ∷ named account xs)

abbrev pub names_at : Mark → List (List ℕ) → List (List ℕ)
names_at (Sends message at) before = named message.account before
names_at (Hears account at) before = named account before
names_at (Carries x) before = named x.account before
names_at m before = before

-- the accounts that a recorded message or heartbeat or a signal names, and those that had a row already
abbrev pub names : Summary → List Mark → List (List ℕ)
names s [] = map (λ r. r.account) s.rows
names s (m ∷ ms) = names_at m (names s ms)

abbrev pub account_row : Summary → List Mark → List ℕ → AccountRow
account_row s ms account = record {
  account = account;
  heard = heard s ms account;
  failed = failed s ms account;
  opening = opening s ms account;
  messages = recent s ms account;
}

abbrev pub summary_of : Summary → List Entry → Summary
summary_of s h = record {
  last = last s h;
  recorded = s.recorded + length (recorded h);
  opened = opened s (marks s h);
  start = start s (marks s h);
  text = text s (marks s h);
  rows = map (account_row s (marks s h)) (names s (marks s h));
  incidents = incidents s (marks s h);
}
