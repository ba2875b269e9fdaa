-- Bodies have one past, and where they have none, one first body that breaks it.
use Rattle.std.proofs.Common.{◌≡◌, ◌≤◌, ◌<◌, ◌+◌, ℕ, List, [], ◌∷◌, ◌++◌, length, take, drop, Option, Some, refl, sym, ap, ◌∙◌, subst, inl, inr, arith, append_assoc, length-append}
use Rattle.std.proofs.lemmas.List.{take_at, drop_at, take-append-le, take_all, length_push}
use Rattle.std.proofs.lemmas.Bool.{cases_order}
use Rattle.arc_data.specs.declared.event.Event.{Event}
use Rattle.centre_rules.specs.Summary.{Summary}
use Rattle.centre_rules.specs.History.{Entry}
use Rattle.centre_rules.specs.Answers.{IsNext, answer}
use Rattle.disk_journal.specs.Records.{front as bytes_before}
use Rattle.disk_journal.specs.Standing.{all_of}
use Rattle.event_codec.specs.Spelling.{spelling_in, HasSpellingIn, IsNamedIn}
use Rattle.event_codec.proofs.Events.{is_decoded}
use Rattle.centre_store.specs.Bodies.{body_in}
use Rattle.centre_store.specs.Pasts.{IsKept, IsPast, IsBadAt, HasNoNext}
use Rattle.centre_store.proofs.PastSteps.{past_less, no_entries}

pub some_is : {A : Type 0} (x y : A) → Some x ≡ Some y → x ≡ y
some_is x y e = cc

-- two lists that end in one body each
pub record SameEnds (xs ys : List (List ℕ)) (x y : List ℕ) : Type 0 where
  pub fronts : xs ≡ ys
  pub bodies : x ≡ y

head_is : (x y : List ℕ) → x ∷ [] ≡ y ∷ [] → x ≡ y
head_is x y e = cc

pub same_ends : (xs ys : List (List ℕ)) (x y : List ℕ) → xs ++ x ∷ [] ≡ ys ++ y ∷ [] → SameEnds xs ys x y
same_ends xs ys x y is =
    let long : length xs ≡ length ys = omega (arith, ap length is, length_push xs x, length_push ys y) in
    record {
      fronts = sym (take_at xs (x ∷ []) (length xs) refl) ∙ ap (take (length xs)) is ∙ take_at ys (y ∷ []) (length xs) (sym long);
      bodies = head_is x y (sym (drop_at xs (x ∷ []) (length xs) refl) ∙ ap (drop (length xs)) is ∙ drop_at ys (y ∷ []) (length xs) (sym long));
    }

never_empty : (xs : List (List ℕ)) (x : List ℕ) → xs ++ x ∷ [] ≡ [] → ⊥
never_empty xs x is = omega (arith, ap length is, length_push xs x)

-- spellings are one-to-one
pub spelled_once : (version : ℕ) (e f : Event) (a b : ℕ) → HasSpellingIn version e a → HasSpellingIn version f b → spelling_in version e a ≡ spelling_in version f b
    → (e ≡ f) × (a ≡ b)
spelled_once version e f a b one two is =
    let bytes = spelling_in version e a in
    let pair : (e, a) ≡ (f, b) = some_is (e, a) (f, b) (sym (is_decoded version bytes e a one refl) ∙ is_decoded version bytes f b two is) in
    (ap (λ (p : Event × ℕ). p.0) pair, ap (λ (p : Event × ℕ). p.1) pair)

same_entry : (version : ℕ) (base : Summary) (h : List Entry) (e f : Entry) → IsKept e → IsKept f → IsNamedIn version e.event → IsNamedIn version f.event → IsNext base h e
    → IsNext base h f → body_in version e ≡ body_in version f → e ≡ f
same_entry version base h e f one two named other first second is =
    let same = spelled_once version e.event f.event e.at f.at (record { spelled = one.spelled; named = named }) (record { spelled = two.spelled; named = other }) is in
    let callers : e.caller ≡ f.caller = one.caller ∙ sym two.caller in
    let replies : e.reply ≡ f.reply = first.reply ∙ (λ i. answer base h (same.0 i) (same.1 i)) ∙ sym second.reply in
    λ i. record { caller = callers i; event = same.0 i; at = same.1 i; reply = replies i }

pub one_past : (version : ℕ) (base : Summary) (bodies other : List (List ℕ)) (h k : List Entry) → bodies ≡ other → IsPast version base bodies h → IsPast version base other k → h ≡ k
one_past version base bodies other [] [] same p q = refl
one_past version base bodies other [] (f ∷ k) same p q =
    let b = past_less version base other f k q in
    absurd (never_empty b.front (body_in version f) (sym b.split ∙ sym same ∙ no_entries version base bodies p))
one_past version base bodies other (e ∷ h) [] same p q =
    let a = past_less version base bodies e h p in
    absurd (never_empty a.front (body_in version e) (sym a.split ∙ same ∙ no_entries version base other q))
one_past version base bodies other (e ∷ h) (f ∷ k) same p q =
    let a = past_less version base bodies e h p in
    let b = past_less version base other f k q in
    let ends = same_ends a.front b.front (body_in version e) (body_in version f) (sym a.split ∙ same ∙ b.split) in
    let rest : h ≡ k = one_past version base a.front b.front h k ends.fronts a.past b.past in
    let newest : e ≡ f = same_entry version base h e f p.kept.0 q.kept.0 p.named.0 q.named.0 p.legal.0 (subst (λ (l : List Entry). IsNext base l f) (sym rest) q.legal.0) ends.bodies in
    λ i. newest i ∷ rest i

-- the first bodies of a list that has a past have one, too
past_take_step : (version : ℕ) (base : Summary) (n : ℕ) (bodies : List (List ℕ)) (e : Entry) (h : List Entry) → n ≤ length bodies → IsPast version base bodies (e ∷ h)
    → ((front : List (List ℕ)) → n ≤ length front → IsPast version base front h → (g : List Entry) × IsPast version base (take n front) g) → (g : List Entry) × IsPast version base (take n bodies) g
past_take_step version base n bodies e h le p before =
    let a = past_less version base bodies e h p in
    let long : length bodies ≡ length a.front + 1 = ap length a.split ∙ length_push a.front (body_in version e) in
    let shorter : n ≤ length a.front → (g : List Entry) × IsPast version base (take n bodies) g = λ less.
    let g = before a.front less a.past in
    let same : take n a.front ≡ take n bodies = sym (ap (take n) a.split ∙ take-append-le n a.front (body_in version e ∷ []) less) in
    (g.0, subst (λ (l : List (List ℕ)). IsPast version base l g.0) same g.1) in
    elim (cases_order n (length bodies)) as (λ _. (g : List Entry) × IsPast version base (take n bodies) g) [
      | inl all ↦ (e ∷ h, subst (λ (l : List (List ℕ)). IsPast version base l (e ∷ h)) (sym (take_all n bodies (omega arith))) p)
      | inr other ↦ elim other as (λ _. (g : List Entry) × IsPast version base (take n bodies) g) [ inl less ↦ shorter (omega arith) | inr more ↦ absurd (omega arith) ]
    ]

pub past_take : (version : ℕ) (base : Summary) (n : ℕ) (bodies : List (List ℕ)) (h : List Entry) → n ≤ length bodies → IsPast version base bodies h → (g : List Entry) × IsPast version base (take n bodies) g
past_take version base n bodies [] le p =
    let none : take n bodies ≡ bodies = take_all n bodies (omega (arith, ap length (no_entries version base bodies p))) in
    ([], subst (λ (l : List (List ℕ)). IsPast version base l []) (sym none) p)
past_take version base n bodies (e ∷ h) le p = past_take_step version base n bodies e h le p (λ front less q. past_take version base n front h less q)

-- a body with which no entry goes on from a past ends no list that has one
no_next : (version : ℕ) (base : Summary) (front : List (List ℕ)) (body : List ℕ) (past g : List Entry) → IsPast version base front past → HasNoNext version base front past body → IsPast version base (front ++ body ∷ []) g → ⊥
no_next version base front body past [] before broken p = never_empty front body (no_entries version base (front ++ body ∷ []) p)
no_next version base front body past (e ∷ g) before broken p =
    let a = past_less version base (front ++ body ∷ []) e g p in
    let ends = same_ends front a.front body (body_in version e) a.split in
    let same : g ≡ past = one_past version base a.front front g past (sym ends.fronts) a.past before in
    broken e (subst (λ (l : List Entry). IsPast version base (front ++ body ∷ []) (e ∷ l)) same p)

-- the first bodies, one more than stand before it
through : (version : ℕ) (base : Summary) (first : Option (List ℕ)) (bodies : List (List ℕ)) (place : ℕ) (bad : IsBadAt version base first bodies place) → take (length bad.front + 1) bodies ≡ bad.front ++ bad.body ∷ []
through version base first bodies place bad =
    ap (take (length bad.front + 1)) (bad.split ∙ sym (append_assoc bad.front (bad.body ∷ []) bad.behind))
    ∙ take_at (bad.front ++ bad.body ∷ []) bad.behind (length bad.front + 1) (length_push bad.front bad.body)

up_to : (version : ℕ) (base : Summary) (first : Option (List ℕ)) (bodies : List (List ℕ)) (place : ℕ) (bad : IsBadAt version base first bodies place) → take (length bad.front) bodies ≡ bad.front
up_to version base first bodies place bad = ap (take (length bad.front)) bad.split ∙ take_at bad.front (bad.body ∷ bad.behind) (length bad.front) refl

within : (version : ℕ) (base : Summary) (first : Option (List ℕ)) (bodies : List (List ℕ)) (place : ℕ) (bad : IsBadAt version base first bodies place) → length bad.front + 1 ≤ length bodies
within version base first bodies place bad = omega (arith, ap length bad.split, length-append bad.front (bad.body ∷ bad.behind))

pub never_bad : (version : ℕ) (base : Summary) (first : Option (List ℕ)) (bodies : List (List ℕ)) (h : List Entry) (place : ℕ) → IsPast version base bodies h → IsBadAt version base first bodies place → ⊥
never_bad version base first bodies h place p bad =
    let g = past_take version base (length bad.front + 1) bodies h (within version base first bodies place bad) p in
    no_next version base bad.front bad.body bad.past g.0 bad.before bad.broken (subst (λ (l : List (List ℕ)). IsPast version base l g.0) (through version base first bodies place bad) g.1)

-- no body before the bad one is bad
never_earlier : (version : ℕ) (base : Summary) (first : Option (List ℕ)) (bodies : List (List ℕ)) (p q : ℕ) (one : IsBadAt version base first bodies p) (two : IsBadAt version base first bodies q) → length one.front < length two.front → ⊥
never_earlier version base first bodies p q one two less =
    let n = length one.front + 1 in
    let g = past_take version base n two.front two.past (omega arith) two.before in
    let same : take n two.front ≡ one.front ++ one.body ∷ [] =
    sym (ap (take n) two.split ∙ take-append-le n two.front (two.body ∷ two.behind) (omega arith)) ∙ through version base first bodies p one in
    no_next version base one.front one.body one.past g.0 one.before one.broken (subst (λ (l : List (List ℕ)). IsPast version base l g.0) same g.1)

pub one_place : (version : ℕ) (base : Summary) (first : Option (List ℕ)) (bodies : List (List ℕ)) (p q : ℕ) → IsBadAt version base first bodies p → IsBadAt version base first bodies q → p ≡ q
one_place version base first bodies p q one two = elim (cases_order (length one.front) (length two.front)) [
  | inl same ↦ let fronts : one.front ≡ two.front = sym (up_to version base first bodies p one) ∙ ap (λ (n : ℕ). take n bodies) same ∙ up_to version base first bodies q two in
      one.at ∙ ap (λ (l : List (List ℕ)). length (bytes_before version (all_of first l))) fronts ∙ sym two.at
  | inr other ↦ elim other [ inl less ↦ absurd (never_earlier version base first bodies p q one two less) | inr more ↦ absurd (never_earlier version base first bodies q p two one more) ]
]
