-- A portion of an area, and one with a body more.
use Rattle.std.proofs.Common.{◌≡◌, ℕ, List, [], ◌∷◌, ◌++◌, length, Option, Some, None, refl, sym, ap, ◌∙◌, subst, arith, append_assoc, append-nil, length-append}
use Rattle.std.specs.Prelude.{slice_index, Bool, true, false, IfOk, Result, Ok, Err}
use Rattle.book_lines.specs.Books.{book_of, entry_line}
use Rattle.book_lines.specs.Summaries.{summary_line}
use Rattle.book_lines.specs.declared.options.Options.{Options}
use Rattle.book_lines.proofs.BookLemmas.{book_none, book_more}
use Rattle.centre_core.specs.Decoding.{IsNoSpelling}
use Rattle.centre_rules.specs.History.{Entry}
use Rattle.centre_rules.specs.State.{State, StandsFor}
use Rattle.centre_rules.specs.Summary.{Summary, nothing}
use Rattle.centre_store.specs.Bodies.{body_in}
use Rattle.centre_store.specs.Pasts.{IsPast, HasNoNext}
use Rattle.centre_store.proofs.Distinct.{distinct_more}
use Rattle.centre_store.proofs.OpeningSteps.{last_body}
use Rattle.centre_store.proofs.PastSteps.{no_past, no_bodies, past_less}
use Rattle.disk_journal.proofs.Gates.{length-front, size-least}
use Rattle.disk_journal.specs.Records.{front as bytes_before}
use Rattle.disk_journal.specs.Standing.{all_of}
use Rattle.summary_rules.specs.Conditions.{IsSpelling}
use Rattle.summary_rules.specs.Spelling.{summary_text}
use Rattle.arc_book.specs.Portions.{Portion, bodies_told, HasNoNextIn, first_line, area_book}
use Rattle.arc_book.specs.Taken.{IsTakenUp, IsSummedUp}

-- nothing was told
abbrev pub begun : (version : ℕ) → Portion version
begun version = record { first = None; base = nothing; bodies = []; past = []; is_first = refl; is_past = no_past version nothing (omega arith) }

pub book_begun : (version : ℕ) (o : Options) → area_book o (begun version) ≡ []
book_begun version o = book_none o nothing

more_bodies : (first : Option (List ℕ)) (bodies : List (List ℕ)) (body : List ℕ) → all_of first (bodies ++ body ∷ []) ≡ all_of first bodies ++ body ∷ []
more_bodies None bodies body = refl
more_bodies (Some summary) bodies body = refl

-- an entry more
pub taken_entry : {version : ℕ} (o : Options) (p : Portion version) (body : List ℕ) (e : Entry) (centre : State) (page page' : List ℕ) → IsPast version p.base (p.bodies ++ body ∷ []) (e ∷ p.past)
    → StandsFor p.base centre (e ∷ p.past) → page' ≡ page ++ entry_line o p.base p.past e → IsTakenUp o p body centre page page'
taken_entry {version} o p body e centre page page' past stands put =
    let line : List ℕ = first_line o p.first p.base in
    record {
      next = record { first = p.first; base = p.base; bodies = p.bodies ++ body ∷ []; past = e ∷ p.past; is_first = p.is_first; is_past = past };
      is = more_bodies p.first p.bodies body;
      stands = stands;
      line = entry_line o p.base p.past e;
      book = ap (λ (l : List ℕ). line ++ l) (book_more o p.base p.past e) ∙ sym (append_assoc line (book_of o p.base p.past) (entry_line o p.base p.past e));
      put = put;
    }

-- The front of the area.

no_bodies_at : (version : ℕ) (bodies : List (List ℕ)) → length (bytes_before version bodies) ≡ 16 → bodies ≡ []
no_bodies_at version [] is = refl
no_bodies_at version (body ∷ bodies) is = absurd (omega (arith, is, length-front version (body ∷ bodies), size-least bodies))

pub at_front : {version : ℕ} (place : ℕ) (p : Portion version) → place ≡ length (bytes_before version (bodies_told p)) → place ≡ 16 → bodies_told p ≡ []
at_front {version} place p at is = no_bodies_at version (bodies_told p) (sym at ∙ is)

past_none : (version : ℕ) (base : Summary) (past : List Entry) → IsPast version base [] past → past ≡ []
past_none version base [] p = refl
past_none version base (e ∷ h) p = let ends = past_less version base [] e h p in absurd (omega (arith, ap length ends.split, length-append ends.front (body_in version e ∷ [])))

front_book : (version : ℕ) (o : Options) (first : Option (List ℕ)) (base : Summary) (bodies : List (List ℕ)) (past : List Entry) → all_of first bodies ≡ [] → IsPast version base bodies past
    → first_line o first base ++ book_of o base past ≡ []
front_book version o None base bodies past none p =
    ap (book_of o base) (past_none version base past (subst (λ (b : List (List ℕ)). IsPast version base b past) none p)) ∙ book_none o base
front_book version o (Some summary) base bodies past none p = absurd (omega (arith, ap length none))

-- a summary, at the front
pub taken_sum : {version : ℕ} (o : Options) (p : Portion version) (body : List ℕ) (centre : State) (page page' : List ℕ) → bodies_told p ≡ [] → IsSummedUp version o body centre page page'
    → IsTakenUp o p body centre page page'
taken_sum {version} o p body centre page page' none u =
    let line : List ℕ = summary_line o u.base in
    record {
      next = record {
        first = Some body;
        base = u.base;
        bodies = [];
        past = [];
        is_first = (u.generation, u.spelling);
        is_past = record { legal = tt; kept = tt; named = tt; few = omega (arith, u.spelling.besides.recorded); is = sym (no_bodies version) };
      };
      is = sym (ap (λ (l : List (List ℕ)). l ++ body ∷ []) none);
      stands = u.stands;
      line = line;
      book = ap (λ (l : List ℕ). line ++ l) (book_none o u.base) ∙ append-nil line
          ∙ sym (ap (λ (l : List ℕ). l ++ line) (front_book version o p.first p.base p.bodies p.past none p.is_past));
      put = u.put;
    }

-- What nothing goes on with.

never_tag : (version : ℕ) (e : Entry) → slice_index (body_in version e) 0 ≡ 11 → ⊥
never_tag version e is = distinct_more version None [] e.event e.at (λ z. omega (arith, z)) is

-- no entry has a body that begins with 0B
pub bad_sum : {version : ℕ} (p : Portion version) (body : List ℕ) → slice_index body 0 ≡ 11 → IsNoSpelling version body → HasNoNextIn p body
bad_sum {version} p body tagged none = (
  λ e past. never_tag version e (ap (λ (b : List ℕ). slice_index b 0) (sym (last_body version p.base p.bodies body e p.past past)) ∙ tagged),
  λ front. none,
)

spelling_tag : (version generation : ℕ) (s : Summary) (body : List ℕ) → IsSpelling version generation s body → slice_index body 0 ≡ 11
unfolding summary_text
spelling_tag version generation s body w = ap (λ (b : List ℕ). slice_index b 0) w.is

-- and one that does not spells no summary
pub bad_entry : {version : ℕ} (place : ℕ) (p : Portion version) (body : List ℕ) → place ≡ length (bytes_before version (bodies_told p)) → (place ≡ 16 → slice_index body 0 ≡ 11 → ⊥)
    → HasNoNext version p.base p.bodies p.past body → HasNoNextIn p body
bad_entry {version} place p body at other bad = (
  bad,
  λ none generation s w. other (at ∙ ap (λ (l : List (List ℕ)). length (bytes_before version l)) none) (spelling_tag version generation s body w),
)

-- Either way of taking a body in, by its answer.

module _ (version : ℕ) (o : Options) (place : ℕ) (body : List ℕ) (before after : State) (page page' : List ℕ) where
  pub sum_taken : {E : Type 0} (r : Result Bool E) → (place ≡ 16) × (slice_index body 0 ≡ 11) → IfOk r (λ taken. taken ≡ true → IsSummedUp version o body after page page')
      → IfOk r (λ taken. taken ≡ true → (p : Portion version) → place ≡ length (bytes_before version (bodies_told p)) → StandsFor p.base before p.past → IsTakenUp o p body after page page')
  sum_taken (Ok taken) tagged so = λ is p at stands. taken_sum o p body after page page' (at_front place p at tagged.0) (so is)
  sum_taken (Err e) tagged so = tt

  pub entry_taken : {E : Type 0} (r : Result Bool E)
      → IfOk r (λ taken. taken ≡ true → (p : Portion version) → StandsFor p.base before p.past → IsTakenUp o p body after page page')
      → IfOk r (λ taken. taken ≡ true → (p : Portion version) → place ≡ length (bytes_before version (bodies_told p)) → StandsFor p.base before p.past → IsTakenUp o p body after page page')
  entry_taken (Ok taken) so = λ is p at stands. so is p stands
  entry_taken (Err e) so = tt

module _ (version place : ℕ) (body : List ℕ) (before : State) where
  pub sum_bad : {E : Type 0} (r : Result Bool E) → (place ≡ 16) × (slice_index body 0 ≡ 11) → IfOk r (λ taken. taken ≡ false → IsNoSpelling version body)
      → IfOk r (λ taken. taken ≡ false → (p : Portion version) → place ≡ length (bytes_before version (bodies_told p)) → StandsFor p.base before p.past → HasNoNextIn p body)
  sum_bad (Ok taken) tagged so = λ is p at stands. bad_sum p body tagged.1 (so is)
  sum_bad (Err e) tagged so = tt

  pub entry_bad : {E : Type 0} (r : Result Bool E) → (place ≡ 16 → slice_index body 0 ≡ 11 → ⊥)
      → IfOk r (λ taken. taken ≡ false → (p : Portion version) → StandsFor p.base before p.past → HasNoNext version p.base p.bodies p.past body)
      → IfOk r (λ taken. taken ≡ false → (p : Portion version) → place ≡ length (bytes_before version (bodies_told p)) → StandsFor p.base before p.past → HasNoNextIn p body)
  entry_bad (Ok taken) other so = λ is p at stands. bad_entry place p body at other (so is p stands)
  entry_bad (Err e) other so = tt
