-- The words of a plan, one after another.
use Rattle.std.proofs.Common.{◌≡◌, ◌<◌, ◌+◌, ℕ, List, [], ◌∷◌, ◌++◌, true, false, not, Option, Some, None, length, refl, sym, ap, ◌∙◌, arith, append_assoc, append-nil, length-append, inl, inr}
use Rattle.std.specs.Prelude.{◌&&◌}
use Rattle.std.specs.Option.{option_map}
use Rattle.std.proofs.lemmas.Bool.{and_parts, and_from, or_parts, or_from, or_cases, not_from_true, not_from_false, and_left, and_right, or_left, or_right, not-true}
use Rattle.std.proofs.lemmas.Bool.Decides.{nat_tests}
use Rattle.arc_data.specs.Words.{same_word, has_word}
use Rattle.arc_data.specs.declared.plan.Planned.{Planned}
use Rattle.arc_data.specs.declared.plan.PlanWord.{PlanWord}
use Rattle.alarm_rules.specs.SetupWords.{planned_named}
use Rattle.alarm_rules.specs.SetupLines.{after, each_read, is_nil, none_twice, plan_words, provided}

same_word-sym : (a b : PlanWord) → same_word a b ≡ false → same_word b a ≡ false
same_word-sym a b other = grind (arith, nat_tests)

-- one more word that is not among them
none_twice-push : (ps : List Planned) (p : Planned) → none_twice ps ≡ true → has_word p.word ps ≡ false → none_twice (ps ++ p ∷ []) ≡ true
none_twice-push [] p once other = refl
none_twice-push (q ∷ qs) p once other =
    let parts = and_parts (not (has_word q.word qs)) (none_twice qs) once in
    let others = or_parts (same_word q.word p.word) (has_word p.word qs) other in
    and_from (not (has_word q.word (qs ++ p ∷ []))) (none_twice (qs ++ p ∷ []))
    (not_from_false (has_word q.word (qs ++ p ∷ [])) (has_word-push qs (not-true (has_word q.word qs) parts.0) (same_word-sym q.word p.word others.0)))
    (none_twice-push qs p parts.1 others.1)
  where
    has_word-push : (rs : List Planned) → has_word q.word rs ≡ false → same_word p.word q.word ≡ false → has_word q.word (rs ++ p ∷ []) ≡ false
    has_word-push [] none differs = or_from (same_word p.word q.word) false differs refl
    has_word-push (r ∷ rs) none differs =
        let parts = or_parts (same_word r.word q.word) (has_word q.word rs) none in
        or_from (same_word r.word q.word) (has_word q.word (rs ++ p ∷ [])) parts.0 (has_word-push rs parts.1 differs)

-- a word that stands already
none_twice-clash : (ps : List Planned) (p : Planned) (more : List Planned) → has_word p.word ps ≡ true → none_twice (ps ++ p ∷ more) ≡ false
none_twice-clash [] p more has = cc
none_twice-clash (q ∷ qs) p more has =
    elim (or_cases (same_word q.word p.word) (has_word p.word qs) has) [
      | inl same ↦ and_left (not (has_word q.word (qs ++ p ∷ more))) (none_twice (qs ++ p ∷ more)) (not_from_true (has_word q.word (qs ++ p ∷ more)) (has_word-later qs (same_word-both q.word p.word same)))
      | inr later ↦ and_right (not (has_word q.word (qs ++ p ∷ more))) (none_twice (qs ++ p ∷ more)) (none_twice-clash qs p more later)
    ]
  where
    same_word-both : (a b : PlanWord) → same_word a b ≡ true → same_word b a ≡ true
    same_word-both a b same = grind (arith, nat_tests)

    has_word-later : (rs : List Planned) → same_word p.word q.word ≡ true → has_word q.word (rs ++ p ∷ more) ≡ true
    has_word-later [] same = or_left (same_word p.word q.word) (has_word q.word more) same
    has_word-later (r ∷ rs) same = or_right (same_word r.word q.word) (has_word q.word (rs ++ p ∷ more)) (has_word-later rs same)

-- What the words read as is what was read and what the words that are left read as.
pub record HasPlanned (all words : List (List ℕ)) (plan : List Planned) : Type 0 where
  pub reads : each_read planned_named all ≡ option_map (λ more. plan ++ more) (each_read planned_named words)
  pub once : none_twice plan ≡ true
  pub count : length plan + length words ≡ length all

option_map-same : (found : Option (List Planned)) → found ≡ option_map (λ more. [] ++ more) found
option_map-same None = refl
option_map-same (Some more) = refl

pub planned-none : (all : List (List ℕ)) → HasPlanned all all []
planned-none all = record { reads = option_map-same (each_read planned_named all); once = refl; count = omega arith }

-- the plan of the words, by what they read as
abbrev of_read : Option (List Planned) → Option (List Planned)
of_read found = after found (λ plan. provided (not (is_nil plan) && none_twice plan) plan)

some-planned : (plan : List Planned) → 0 < length plan → none_twice plan ≡ true → Some plan ≡ of_read (Some plan)
some-planned [] some once = absurd (omega arith)
some-planned (p ∷ ps) some once = sym (ap (λ b. provided b (p ∷ ps)) once)

clashing : (plan : List Planned) (p : Planned) → has_word p.word plan ≡ true → (found : Option (List Planned)) → None ≡ of_read (option_map (λ more. plan ++ more) (option_map (λ more. p ∷ more) found))
clashing plan p has None = refl
clashing plan p has (Some more) =
    let whole = plan ++ p ∷ more in
    sym (ap (λ b. provided b whole) (and_right (not (is_nil whole)) (none_twice whole) (none_twice-clash plan p more has)))

moved : (plan : List Planned) (p : Planned) (found : Option (List Planned))
    → option_map (λ more. plan ++ more) (option_map (λ more. p ∷ more) found) ≡ option_map (λ more. (plan ++ p ∷ []) ++ more) found
moved plan p None = refl
moved plan p (Some more) = ap Some (sym (append_assoc plan (p ∷ []) more))

module _ (all words : List (List ℕ)) (plan : List Planned) (has : HasPlanned all words plan) where
  -- at the end
  pub planned-all : 0 < length all → words ≡ [] → Some plan ≡ plan_words all
  planned-all some end =
      let read = has.reads ∙ ap (λ ws. option_map (λ more. plan ++ more) (each_read planned_named ws)) end ∙ ap Some (append-nil plan) in
      some-planned plan (omega (arith, has.count, ap length end)) has.once ∙ sym (ap of_read read)

  module _ (word : List ℕ) (rest : List (List ℕ)) (first : words ≡ word ∷ rest) where
    abbrev reading : Option Planned → Option (List Planned)
    reading found = option_map (λ more. plan ++ more) (after found (λ p. option_map (λ more. p ∷ more) (each_read planned_named rest)))

    reads-by : (found : Option Planned) → planned_named word ≡ found → each_read planned_named all ≡ reading found
    reads-by found is = has.reads ∙ ap (λ ws. option_map (λ more. plan ++ more) (each_read planned_named ws)) first ∙ ap reading is

    -- the word is none of a plan
    pub planned-failed : None ≡ planned_named word → None ≡ plan_words all
    planned-failed is = sym (ap of_read (reads-by None (sym is)))

    module _ (p : Planned) (is : Some p ≡ planned_named word) where
      -- the word stands already
      pub planned-clash : has_word p.word plan ≡ true → None ≡ plan_words all
      planned-clash stands = clashing plan p stands (each_read planned_named rest) ∙ sym (ap of_read (reads-by (Some p) (sym is)))

      -- the word is one more
      pub planned-more : has_word p.word plan ≡ false → HasPlanned all rest (plan ++ p ∷ [])
      planned-more stands = record {
        reads = reads-by (Some p) (sym is) ∙ moved plan p (each_read planned_named rest);
        once = none_twice-push plan p has.once stands;
        count = omega (arith, has.count, ap length first, length-append plan (p ∷ []));
      }

pub no-words : (all : List (List ℕ)) → true ≡ is_nil all → None ≡ plan_words all
no-words [] is = refl
no-words (word ∷ words) is = cc
