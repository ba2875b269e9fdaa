-- A summary tells what its history tells.
use Rattle.std.proofs.Common.{◌≡◌, ◌≤◌, ℕ, zero, suc, ◌+◌, List, [], ◌∷◌, ◌++◌, map, length, take, Bool, true, false, cond, refl, sym, ap, ◌∙◌, Some, None, arith, subst}
use Rattle.std.specs.Prelude.{◌||◌, ◌&&◌, is_some}
use Rattle.std.specs.Cmp.Lexicographic.{slice_cmp}
use Rattle.std.specs.List.{find, list_any}
use Rattle.std.specs.Option.{option_map}
use Rattle.std.specs.Ordering.{nat_cmp, is_lt}
use Rattle.std.specs.Str.{bytes_eq}
use Rattle.std.proofs.lemmas.Bool.{false≢true}
use Rattle.std.proofs.lemmas.Slice.Eq.{bytes_eq-Decides}
use Rattle.arc_data.specs.Classes.{same_class}
use Rattle.arc_data.specs.declared.signal.Class.TheVariants.{CommFail}
use Rattle.centre_rules.specs.Summary.{Summary, AccountRow, Past, row_of, row_or}
use Rattle.centre_rules.specs.Marks.{Mark, Starts, Sends, Hears, Carries, start, has_row, keeps_row, heard, failed, opening, messages, is_raised}
use Rattle.centre_rules.specs.History.{Entry, marks, last, recorded, is_recorded}
use Rattle.centre_rules.specs.Desks.{best}
use Rattle.centre_rules.specs.Answers.{repeats, IsLegal}
use Rattle.centre_rules.specs.State.{Same}
use Rattle.centre_rules.specs.Sums.{named, names, account_row, summary_of}
use Rattle.centre_rules.proofs.Steps.{incidents_begin}
use Rattle.centre_rules.proofs.Sames.{force_same, raised_same, answer_same, standing_same}
use Rattle.centre_rules.proofs.Grown.{same_more}
use Rattle.centre_laws.specs.Summaries.{SummaryTells}

-- Of an account that is not named nothing is known but the last Start.

abbrev is_named : List ℕ → List (List ℕ) → Bool
is_named a xs = list_any (λ x. bytes_eq x a) xs

or_first : (a b : Bool) → (a || b) ≡ false → a ≡ false
or_first true b e = e
or_first false b e = refl

or_second : (a b : Bool) → (a || b) ≡ false → b ≡ false
or_second true b e = absurd (false≢true (sym e))
or_second false b e = e

or_none : (a b : Bool) → a ≡ false → b ≡ false → (a || b) ≡ false
or_none a b e f = rw (e, f) refl

-- who is not among the names with a is not a, and is not among the names
not_there : (a x y : List ℕ) (xs : List (List ℕ)) (b c : Bool) → bytes_eq y a ≡ b → is_named x (cond b (y ∷ xs) (cond c (a ∷ y ∷ xs) (y ∷ named a xs))) ≡ false → (is_named x (named a xs) ≡ false → (bytes_eq a x ≡ false) × (is_named x xs ≡ false)) → (bytes_eq a x ≡ false) × (is_named x (y ∷ xs) ≡ false)
not_there a x y xs true c t e f =
    let same : y ≡ a = (bytes_eq-Decides y a).0 t in
    (subst (λ (z : List ℕ). bytes_eq z x ≡ false) same (or_first (bytes_eq y x) (is_named x xs) e), e)
not_there a x y xs false true t e f = (or_first (bytes_eq a x) (is_named x (y ∷ xs)) e, or_second (bytes_eq a x) (is_named x (y ∷ xs)) e)
not_there a x y xs false false t e f =
    let w = f (or_second (bytes_eq y x) (is_named x (named a xs)) e) in
    (w.0, or_none (bytes_eq y x) (is_named x xs) (or_first (bytes_eq y x) (is_named x (named a xs)) e) w.1)

not_named : (a x : List ℕ) (xs : List (List ℕ)) → is_named x (named a xs) ≡ false → (bytes_eq a x ≡ false) × (is_named x xs ≡ false)
not_named a x [] e = (or_first (bytes_eq a x) false e, refl)
not_named a x (y ∷ xs) e = not_there a x y xs (bytes_eq y a) (is_lt (slice_cmp nat_cmp a y)) refl e (not_named a x xs)

-- what is known of an account of which nothing is known
record IsUnknown (s : Summary) (ms : List Mark) (a : List ℕ) : Type 0 where
  hears : heard s ms a ≡ start s ms
  fails : failed s ms a ≡ false
  opens : opening s ms a ≡ None
  sends : messages s ms a ≡ []

row_none : (rows : List AccountRow) (a : List ℕ) → is_named a (map (λ r. r.account) rows) ≡ false → find (λ r. bytes_eq r.account a) rows ≡ None
row_none [] a e = refl
row_none (r ∷ rows) a e = rw (or_first (bytes_eq r.account a) (is_named a (map (λ r. r.account) rows)) e) (row_none rows a (or_second (bytes_eq r.account a) (is_named a (map (λ r. r.account) rows)) e))

unknown_start : (s : Summary) (a : List ℕ) → is_named a (names s []) ≡ false → IsUnknown s [] a
unknown_start s a e = let none = row_none s.rows a e in record { hears = ap (λ f. (row_or f a s.start).heard) none; fails = ap (λ f. (row_or f a s.start).failed) none; opens = ap (λ f. (row_or f a s.start).opening) none; sends = ap (λ f. (row_or f a s.start).messages) none }

both_no : (b c : Bool) → c ≡ false → (b && c) ≡ false
both_no true c e = e
both_no false c e = refl

no_raise : (b c d : Bool) → d ≡ false → (b && c && d) ≡ false
no_raise b c d e = both_no (b && c) d e

unknown_step : (s : Summary) (m : Mark) (ms : List Mark) (a : List ℕ) → is_named a (names s (m ∷ ms)) ≡ false → (is_named a (names s ms) ≡ false → IsUnknown s ms a) → IsUnknown s (m ∷ ms) a
unknown_step s (Starts at) ms a e f = let w = f e in record { hears = refl; fails = refl; opens = w.opens; sends = w.sends }
unknown_step s (Sends m at) ms a e f =
    let n = not_named m.account a (names s ms) e in
    let w = f n.1 in
    record { hears = rw n.0 w.hears; fails = rw n.0 w.fails; opens = w.opens; sends = rw n.0 w.sends }
unknown_step s (Hears x at) ms a e f =
    let n = not_named x a (names s ms) e in
    let w = f n.1 in
    record { hears = rw n.0 w.hears; fails = rw n.0 w.fails; opens = w.opens; sends = w.sends }
unknown_step s (Carries x) ms a e f =
    let n = not_named x.account a (names s ms) e in
    let w = f n.1 in
    record { hears = w.hears; fails = or_none (is_raised a CommFail x) (failed s ms a) (no_raise x.by_tick (same_class x.signal.class CommFail) (bytes_eq x.account a) n.0) w.fails; opens = rw n.0 w.opens; sends = w.sends }
unknown_step s m ms a e f = let w = f e in record { hears = w.hears; fails = w.fails; opens = w.opens; sends = w.sends }

unknown : (s : Summary) (ms : List Mark) (a : List ℕ) → is_named a (names s ms) ≡ false → IsUnknown s ms a
unknown s [] a e = unknown_start s a e
unknown s (m ∷ ms) a e = unknown_step s m ms a e (unknown s ms a)

-- The row of an account in the summary.

find_at : (s : Summary) (ms : List Mark) (a x : List ℕ) (xs : List (List ℕ)) (b c : Bool) → bytes_eq x a ≡ c → (c || is_named a xs) ≡ b → find (λ r. bytes_eq r.account a) (map (account_row s ms) xs) ≡ cond (is_named a xs) (Some (account_row s ms a)) None → cond c (Some (account_row s ms x)) (find (λ r. bytes_eq r.account a) (map (account_row s ms) xs)) ≡ cond b (Some (account_row s ms a)) None
find_at s ms a x xs b true t e f = ap (λ z. Some (account_row s ms z)) ((bytes_eq-Decides x a).0 t) ∙ ap (λ c. cond c (Some (account_row s ms a)) None) e
find_at s ms a x xs b false t e f = f ∙ ap (λ c. cond c (Some (account_row s ms a)) None) e

find_named : (s : Summary) (ms : List Mark) (a : List ℕ) (xs : List (List ℕ)) → find (λ r. bytes_eq r.account a) (map (account_row s ms) xs) ≡ cond (is_named a xs) (Some (account_row s ms a)) None
find_named s ms a [] = refl
find_named s ms a (x ∷ xs) = find_at s ms a x xs (is_named a (x ∷ xs)) (bytes_eq x a) refl refl (find_named s ms a xs)

unknown_row : (s : Summary) (ms : List Mark) (a : List ℕ) → IsUnknown s ms a → record { account = a; heard = start s ms; failed = false; opening = None; messages = [] } ≡ account_row s ms a
unknown_row s ms a w = λ i. record { account = a; heard = sym w.hears i; failed = sym w.fails i; opening = sym w.opens i; messages = ap (take 32) (sym w.sends) i }

row_by : (s : Summary) (ms : List Mark) (a : List ℕ) (b : Bool) → is_named a (names s ms) ≡ b → row_or (cond b (Some (account_row s ms a)) None) a (start s ms) ≡ account_row s ms a
row_by s ms a true e = refl
row_by s ms a false e = unknown_row s ms a (unknown s ms a e)

row_summed : (s : Summary) (h : List Entry) (a : List ℕ) → row_of (summary_of s h) a ≡ account_row s (marks s h) a
row_summed s h a = ap (λ f. row_or f a (start s (marks s h))) (find_named s (marks s h) a (names s (marks s h))) ∙ row_by s (marks s h) a (is_named a (names s (marks s h))) refl

-- An account has a row in the summary exactly where it is named.

or_twice : (p q : Bool) → (p || q) ≡ (p || (p || q))
or_twice true q = refl
or_twice false q = refl

or_swap : (p q r : Bool) → (p || (q || r)) ≡ (q || (p || r))
or_swap true true r = refl
or_swap true false r = refl
or_swap false q r = refl

any_at : (a x y : List ℕ) (ys : List (List ℕ)) (b c : Bool) → bytes_eq y x ≡ b → is_named a (named x ys) ≡ (bytes_eq x a || is_named a ys)
    → is_named a (cond b (y ∷ ys) (cond c (x ∷ y ∷ ys) (y ∷ named x ys))) ≡ (bytes_eq x a || (bytes_eq y a || is_named a ys))
any_at a x y ys true c t e =
    subst (λ (z : List ℕ). (bytes_eq y a || is_named a ys) ≡ (bytes_eq z a || (bytes_eq y a || is_named a ys))) ((bytes_eq-Decides y x).0 t) (or_twice (bytes_eq y a) (is_named a ys))
any_at a x y ys false true t e = refl
any_at a x y ys false false t e = ap (λ p. bytes_eq y a || p) e ∙ or_swap (bytes_eq y a) (bytes_eq x a) (is_named a ys)

any_named : (a x : List ℕ) (ys : List (List ℕ)) → is_named a (named x ys) ≡ (bytes_eq x a || is_named a ys)
any_named a x [] = refl
any_named a x (y ∷ ys) = any_at a x y ys (bytes_eq y x) (is_lt (slice_cmp nat_cmp x y)) refl (any_named a x ys)

any_if : (a : List ℕ) (r : AccountRow) (rows : List AccountRow) (b : Bool) → is_named a (map (λ x. x.account) rows) ≡ has_row rows a
    → (b || is_named a (map (λ x. x.account) rows)) ≡ is_some (cond b (Some r) (find (λ x. bytes_eq x.account a) rows))
any_if a r rows true e = refl
any_if a r rows false e = e

any_row : (a : List ℕ) (rows : List AccountRow) → is_named a (map (λ x. x.account) rows) ≡ has_row rows a
any_row a [] = refl
any_row a (r ∷ rows) = any_if a r rows (bytes_eq r.account a) (any_row a rows)

pub keeps_named : (s : Summary) (ms : List Mark) (a : List ℕ) → is_named a (names s ms) ≡ keeps_row s ms a
keeps_named s [] a = any_row a s.rows
keeps_named s (Sends m at ∷ ms) a = any_named a m.account (names s ms) ∙ ap (λ p. bytes_eq m.account a || p) (keeps_named s ms a)
keeps_named s (Hears x at ∷ ms) a = any_named a x (names s ms) ∙ ap (λ p. bytes_eq x a || p) (keeps_named s ms a)
keeps_named s (Carries x ∷ ms) a = any_named a x.account (names s ms) ∙ ap (λ p. bytes_eq x.account a || p) (keeps_named s ms a)
keeps_named s (m ∷ ms) a = keeps_named s ms a

some_if : (s : Summary) (ms : List Mark) (a : List ℕ) (b : Bool) → is_some (cond b (Some (account_row s ms a)) None) ≡ b
some_if s ms a true = refl
some_if s ms a false = refl

has_summed : (s : Summary) (h : List Entry) (a : List ℕ) → has_row (summary_of s h).rows a ≡ keeps_row s (marks s h) a
has_summed s h a =
    ap is_some (find_named s (marks s h) a (names s (marks s h))) ∙ some_if s (marks s h) a (is_named a (names s (marks s h)))
    ∙ keeps_named s (marks s h) a

take_twice : (n : ℕ) (xs : List Past) → take n (take n xs) ≡ take n xs
take_twice zero xs = refl
take_twice (suc n) [] = refl
take_twice (suc n) (x ∷ xs) = ap (λ l. x ∷ l) (take_twice n xs)

same_summed : (s : Summary) (h : List Entry) → Same (summary_of s h) [] s (marks s h)
same_summed s h = record {
  text = refl;
  start = refl;
  opened = refl;
  incidents = incidents_begin (summary_of s h);
  rows = λ a. has_summed s h a;
  heard = λ a. ap (λ (r : AccountRow). r.heard) (row_summed s h a);
  failed = λ a. ap (λ (r : AccountRow). r.failed) (row_summed s h a);
  opening = λ a. ap (λ (r : AccountRow). r.opening) (row_summed s h a);
  recent = λ a. ap (λ (r : AccountRow). take 32 r.messages) (row_summed s h a) ∙ take_twice 32 (messages s (marks s h) a);
}

-- The same entries after both.

same_after : (s : Summary) (h k : List Entry) → Same (summary_of s h) (marks (summary_of s h) k) s (marks s (k ++ h))
same_after s h [] = same_summed s h
same_after s h (e ∷ k) = same_more e (same_after s h k)

last_if : (b : Bool) (x y at : ℕ) → x ≡ y → cond b at x ≡ cond b at y
last_if true x y at e = refl
last_if false x y at e = e

last_after : (s : Summary) (h k : List Entry) → last (summary_of s h) k ≡ last s (k ++ h)
last_after s h [] = refl
last_after s h (e ∷ k) = last_if (is_recorded e.reply) _ _ e.at (last_after s h k)

count_if : (b : Bool) (e : Entry) (xs ys : List Entry) (m n : ℕ) → m + length xs ≡ n + length ys → m + length (cond b (e ∷ xs) xs) ≡ n + length (cond b (e ∷ ys) ys)
count_if true e xs ys m n w = omega (arith, w)
count_if false e xs ys m n w = w

count_after : (s : Summary) (h k : List Entry) → (summary_of s h).recorded + length (recorded k) ≡ s.recorded + length (recorded (k ++ h))
count_after s h [] = omega arith
count_after s h (e ∷ k) = count_if (is_recorded e.reply) e (recorded k) (recorded (k ++ h)) _ _ (count_after s h k)

legal_after : (s : Summary) (h k : List Entry) → IsLegal s h → IsLegal (summary_of s h) k → IsLegal s (k ++ h)
legal_after s h [] l w = l
legal_after s h (e ∷ k) l w = (
  record {
    event = w.0.event;
    reply = w.0.reply ∙ answer_same (same_after s h k) e.event e.at;
    late = subst (λ (n : ℕ). n ≤ e.at) (last_after s h k) w.0.late;
  },
  legal_after s h k l w.1,
)

legal_before : (s : Summary) (h k : List Entry) → IsLegal s (k ++ h) → IsLegal (summary_of s h) k
legal_before s h [] w = tt
legal_before s h (e ∷ k) w = (
  record {
    event = w.0.event;
    reply = w.0.reply ∙ sym (answer_same (same_after s h k) e.event e.at);
    late = subst (λ (n : ℕ). n ≤ e.at) (sym (last_after s h k)) w.0.late;
  },
  legal_before s h k w.1,
)

pub summary_tells : SummaryTells
summary_tells s h k l =
    let same = same_after s h k in
    record {
      tells = same;
      lasts = last_after s h k;
      counts = count_after s h k;
      force = force_same same;
      repeats = λ m at. ap (λ (ps : List Past). option_map (λ (p : Past). p.at) (find (repeats m at) ps)) (same.recent m.account);
      raised = λ at. raised_same same at;
      best = λ at. ap best (standing_same same at);
      answers = λ e at. answer_same same e at;
      legal = (legal_after s h k l, legal_before s h k);
    }
