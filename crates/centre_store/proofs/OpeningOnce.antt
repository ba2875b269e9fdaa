-- Areas have one opening.
use Rattle.std.proofs.Common.{◌≡◌, ◌⊎◌, ◌≤◌, ◌<◌, ℕ, List, [], ◌∷◌, length, Option, Some, None, refl, sym, ap, ◌∙◌, subst, inl, inr, ⊎_elim, arith, length-append}
use Rattle.std.proofs.lemmas.Bool.{cases_lt}
use Rattle.arc_io.specs.Areas.{Areas}
use Rattle.centre_rules.specs.Summary.{Summary, nothing}
use Rattle.centre_rules.specs.History.{Entry}
use Rattle.disk_journal.specs.Standing.{all_of, chosen_part, AreasStand}
use Rattle.disk_journal.specs.Faults.{IsShown, IsOfContent}
use Rattle.disk_journal.specs.declared.fault.OpenFault.{OpenFault}
use Rattle.disk_journal.specs.declared.fault.OpenFault.TheVariants.{DiskFault, NotJournal, WrongVersion, Damaged, TooWide, Memory}
use Rattle.disk_journal.proofs.Once.{one_standing}
use Rattle.disk_journal.proofs.Opens.{no_body}
use Rattle.summary_rules.specs.Spelling.{long_number, many_texts, summary_text}
use Rattle.centre_store.specs.Given.{IsFirst, AreasGive, CanBeWritten, written_length}
use Rattle.centre_store.specs.Pasts.{IsPast, IsBadAt}
use Rattle.centre_store.specs.Openings.{IsBadFirst, IsTooWide, IsRefused, HasOneOpening}
use Rattle.centre_store.proofs.PastSteps.{no_past}
use Rattle.centre_store.proofs.PastOnce.{one_past, one_place, never_bad}
use Rattle.centre_store.proofs.Summed.{first_once}

-- bodies that have no past over their summary, from this place on
record IsBroken (fault : OpenFault) (areas : Areas) : Type 0 where
  version : ℕ
  base : Summary
  first : Option (List ℕ)
  bodies : List (List ℕ)
  place : ℕ
  is : fault ≡ Damaged place
  first_is : IsFirst version base first
  stands : AreasStand areas version first bodies
  bad : IsBadAt version base first bodies place

-- what stands first is no spelling
record IsUnread (fault : OpenFault) (areas : Areas) : Type 0 where
  version : ℕ
  first : Option (List ℕ)
  bodies : List (List ℕ)
  place : ℕ
  is : fault ≡ Damaged place
  stands : AreasStand areas version first bodies
  bad : IsBadFirst version first place

-- what was recorded can't be written in the second version
record IsWide (fault : OpenFault) (areas : Areas) : Type 0 where
  version : ℕ
  first : Option (List ℕ)
  bodies : List (List ℕ)
  size : ℕ
  is : fault ≡ TooWide size
  stands : AreasStand areas version first bodies
  wide : IsTooWide version first bodies size

-- the four ways in which areas are refused
abbrev Causes : OpenFault → Areas → Type 0
Causes fault areas = IsShown fault (chosen_part areas) ⊎ (IsUnread fault areas ⊎ (IsBroken fault areas ⊎ IsWide fault areas))

-- Areas have one body first, or none, and one list behind it; and where they have a record, one version.

-- nothing stands there, in whichever version
abbrev IsBare : Option (List ℕ) → List (List ℕ) → Type 0
IsBare first bodies = (first ≡ None) × (bodies ≡ [])

bare : (first : Option (List ℕ)) (bodies : List (List ℕ)) → all_of first bodies ≡ [] → IsBare first bodies
bare None bodies none = (refl, none)
bare (Some body) bodies none = absurd (omega (arith, ap length none))

module _ (areas : Areas) (version further : ℕ) (first second : Option (List ℕ)) (bodies behind : List (List ℕ)) (one : AreasStand areas version first bodies)
    (two : AreasStand areas further second behind) where
  same_first : first ≡ second
  same_first = ((one_standing areas).lists version further first second bodies behind one two).0

  same_bodies : bodies ≡ behind
  same_bodies = ((one_standing areas).lists version further first second bodies behind one two).1

  -- what is so of one of them in its version, is so of the other in its own; or nothing stands there
  same_all : (P : ℕ → Option (List ℕ) → List (List ℕ) → Type 0) → P version first bodies → P further second behind ⊎ IsBare second behind
  same_all P p =
      let here : P version second behind = subst (λ (f : Option (List ℕ)). P version f behind) same_first (subst (λ (l : List (List ℕ)). P version first l) same_bodies p) in
      ⊎_elim
      (λ (long : 17 < length (chosen_part areas)).
      inl (subst (λ (v : ℕ). P v second behind) ((one_standing areas).versions version further first second bodies behind long one two) here))
      (λ (short : length (chosen_part areas) ≤ 17). inr (bare second behind (no_body further (chosen_part areas) (all_of second behind) short two.1)))
      (cases_lt 17 (length (chosen_part areas)))

-- nothing stands first, and the summary is that of no history
none_first : (version : ℕ) (base : Summary) (first : Option (List ℕ)) (bodies : List (List ℕ)) → IsBare first bodies → IsFirst version base first → base ≡ nothing
none_first version base first bodies none is = subst (IsFirst version base) none.0 is

-- no past but the empty one has no bodies
none_past : (version : ℕ) (base : Summary) (bodies : List (List ℕ)) (h : List Entry) → bodies ≡ [] → IsPast version base bodies h → h ≡ []
none_past version base bodies h none p = one_past version base bodies [] h [] none p (no_past version base (omega (arith, p.few)))

never_first : (version : ℕ) (first : Option (List ℕ)) (place : ℕ) → first ≡ None → IsBadFirst version first place → ⊥
never_first version first place none bad = subst (λ (f : Option (List ℕ)). IsBadFirst version f place) none bad

never_at : (version : ℕ) (base : Summary) (first : Option (List ℕ)) (bodies : List (List ℕ)) (place : ℕ) → bodies ≡ [] → IsBadAt version base first bodies place → ⊥
never_at version base first bodies place none bad = omega (arith, ap length (sym bad.split ∙ none), length-append bad.front (bad.body ∷ bad.behind))

-- the summary of nothing is short
nothing_short : written_length nothing [] ≤ 4_294_967_295
unfolding summary_text long_number many_texts
nothing_short = omega arith

never_wide : (version : ℕ) (first : Option (List ℕ)) (bodies : List (List ℕ)) (size : ℕ) → IsBare first bodies → IsTooWide version first bodies size → ⊥
never_wide version first bodies size none wide =
    let base : wide.base ≡ nothing = none_first version wide.base first bodies none wide.first_is in
    let past : wide.past ≡ [] = none_past version wide.base bodies wide.past none.1 wide.is_past in
    let long : written_length wide.base wide.past ≡ written_length nothing [] = λ i. written_length (base i) (past i) in
    omega (arith, wide.wide, wide.size_is, long, nothing_short)

-- One summary, one list, one past.

one_base : (areas : Areas) (version further : ℕ) (base other : Summary) (bodies behind : List (List ℕ)) → AreasGive areas version base bodies
    → AreasGive areas further other behind → base ≡ other
one_base areas version further base other bodies behind one two =
    ⊎_elim
    (λ (is : IsFirst further base two.0). first_once further base other two.0 is two.1)
    (λ (none : IsBare two.0 behind).
    none_first version base one.0 bodies (same_first areas version further one.0 two.0 bodies behind one.2 two.2 ∙ none.0, same_bodies areas version further one.0 two.0 bodies behind one.2 two.2 ∙ none.1)
    one.1 ∙ sym (none_first further other two.0 behind none two.1))
    (same_all areas version further one.0 two.0 bodies behind one.2 two.2 (λ v f l. IsFirst v base f) one.1)

one_list : (areas : Areas) (version further : ℕ) (base other : Summary) (bodies behind : List (List ℕ)) → AreasGive areas version base bodies
    → AreasGive areas further other behind → bodies ≡ behind
one_list areas version further base other bodies behind one two = same_bodies areas version further one.0 two.0 bodies behind one.2 two.2

one_history : (areas : Areas) (version further : ℕ) (base other : Summary) (bodies behind : List (List ℕ)) (h k : List Entry) → AreasGive areas version base bodies
    → AreasGive areas further other behind → IsPast version base bodies h → IsPast further other behind k → h ≡ k
one_history areas version further base other bodies behind h k one two p q =
    ⊎_elim
    (λ (is : IsPast further base behind h).
    one_past further other behind behind h k refl (subst (λ (s : Summary). IsPast further s behind h) (one_base areas version further base other bodies behind one two) is) q)
    (λ (none : IsBare two.0 behind).
    none_past version base bodies h (one_list areas version further base other bodies behind one two ∙ none.1) p ∙ sym (none_past further other behind k none.1 q))
    (same_all areas version further one.0 two.0 bodies behind one.2 two.2 (λ v f l. IsPast v base l h) p)

-- What stands first is a spelling or none.

unread_place : (version : ℕ) (first : Option (List ℕ)) (place : ℕ) → IsBadFirst version first place → place ≡ 16
unread_place version None place bad = absurd bad
unread_place version (Some body) place bad = bad.1

never_unread : (version : ℕ) (first : Option (List ℕ)) (base : Summary) (place : ℕ) → IsFirst version base first → IsBadFirst version first place → ⊥
never_unread version None base place is bad = bad
never_unread version (Some body) base place is bad = bad.0 is.0 base is.1

never_unread_of : (areas : Areas) (version further : ℕ) (first second : Option (List ℕ)) (bodies behind : List (List ℕ)) (base : Summary) (place : ℕ)
    → AreasStand areas version first bodies → AreasStand areas further second behind → IsFirst version base first → IsBadFirst further second place → ⊥
never_unread_of areas version further first second bodies behind base place one two is bad =
    ⊎_elim
    (λ (there : IsFirst further base second). never_unread further second base place there bad)
    (λ (none : IsBare second behind). never_first further second place none.0 bad)
    (same_all areas version further first second bodies behind one two (λ v f l. IsFirst v base f) is)

-- the place where one of them is bad, said of the other
same_bad : (areas : Areas) (version further : ℕ) (base other : Summary) (bodies behind : List (List ℕ)) (place : ℕ) (one : AreasGive areas version base bodies)
    (two : AreasGive areas further other behind) → IsBadAt version base one.0 bodies place → IsBadAt further other two.0 behind place
same_bad areas version further base other bodies behind place one two bad =
    ⊎_elim
    (λ (there : IsBadAt further base two.0 behind place).
    subst (λ (s : Summary). IsBadAt further s two.0 behind place) (one_base areas version further base other bodies behind one two) there)
    (λ (none : IsBare two.0 behind).
    absurd (never_at version base one.0 bodies place (one_list areas version further base other bodies behind one two ∙ none.1) bad))
    (same_all areas version further one.0 two.0 bodies behind one.2 two.2 (λ v f l. IsBadAt v base f l place) bad)

-- The causes.

causes : (fault : OpenFault) (areas : Areas) → IsRefused fault areas → Causes fault areas
causes fault areas (inl shown) = inl shown
causes (Damaged place) areas (inr (version, first, bodies, stands, inl bad)) =
    inr (inl (record { version = version; first = first; bodies = bodies; place = place; is = refl; stands = stands; bad = bad }))
causes (Damaged place) areas (inr (version, first, bodies, stands, inr (base, is, bad))) =
    inr (inr (inl (record {
      version = version;
      base = base;
      first = first;
      bodies = bodies;
      place = place;
      is = refl;
      first_is = is;
      stands = stands;
      bad = bad;
    })))
causes (TooWide size) areas (inr (version, first, bodies, stands, wide)) =
    inr (inr (inr (record { version = version; first = first; bodies = bodies; size = size; is = refl; stands = stands; wide = wide })))
causes (DiskFault before now) areas (inr (version, first, bodies, stands, none)) = absurd none
causes (NotJournal byte) areas (inr (version, first, bodies, stands, none)) = absurd none
causes (WrongVersion found) areas (inr (version, first, bodies, stands, none)) = absurd none
causes Memory areas (inr (version, first, bodies, stands, shown)) = inl shown

-- the areas stand for something, so that none of the journal's refusals is shown
not_shown : (areas : Areas) (version : ℕ) (first : Option (List ℕ)) (bodies : List (List ℕ)) (fault : OpenFault) → IsOfContent fault
    → AreasStand areas version first bodies → IsShown fault (chosen_part areas) → ⊥
not_shown areas version first bodies fault of stands shown = (one_standing areas).apart version first bodies fault of stands shown

-- one that is too wide has a past, so that it is refused for nothing else
wide_unread : (fault other : OpenFault) (areas : Areas) → IsWide fault areas → IsUnread other areas → ⊥
wide_unread fault other areas a b = never_unread_of areas a.version b.version a.first b.first a.bodies b.bodies a.wide.base b.place a.stands b.stands a.wide.first_is b.bad

wide_broken : (fault other : OpenFault) (areas : Areas) → IsWide fault areas → IsBroken other areas → ⊥
wide_broken fault other areas a b =
    never_bad a.version a.wide.base a.first a.bodies a.wide.past b.place a.wide.is_past
    (same_bad areas b.version a.version b.base a.wide.base b.bodies a.bodies b.place (b.first, b.first_is, b.stands) (a.first, a.wide.first_is, a.stands) b.bad)

wide_once : (one other : OpenFault) (areas : Areas) → IsWide one areas → IsWide other areas → one ≡ other
wide_once one other areas a b =
    let first : AreasGive areas a.version a.wide.base a.bodies = (a.first, a.wide.first_is, a.stands) in
    let second : AreasGive areas b.version b.wide.base b.bodies = (b.first, b.wide.first_is, b.stands) in
    let base : a.wide.base ≡ b.wide.base = one_base areas a.version b.version a.wide.base b.wide.base a.bodies b.bodies first second in
    let past : a.wide.past ≡ b.wide.past =
    one_history areas a.version b.version a.wide.base b.wide.base a.bodies b.bodies a.wide.past b.wide.past first second a.wide.is_past b.wide.is_past in
    let long : written_length a.wide.base a.wide.past ≡ written_length b.wide.base b.wide.past = λ i. written_length (base i) (past i) in
    a.is ∙ ap TooWide (a.wide.size_is ∙ long ∙ sym b.wide.size_is) ∙ sym b.is

same_fault : (areas : Areas) (one other : OpenFault) → IsOfContent one → IsOfContent other → Causes one areas → Causes other areas → one ≡ other
same_fault areas one other of_one of_other (inl a) (inl b) = (one_standing areas).faults one other of_one of_other a b
same_fault areas one other of_one of_other (inl a) (inr (inl b)) = absurd (not_shown areas b.version b.first b.bodies one of_one b.stands a)
same_fault areas one other of_one of_other (inl a) (inr (inr (inl b))) = absurd (not_shown areas b.version b.first b.bodies one of_one b.stands a)
same_fault areas one other of_one of_other (inl a) (inr (inr (inr b))) = absurd (not_shown areas b.version b.first b.bodies one of_one b.stands a)
same_fault areas one other of_one of_other (inr (inl a)) (inl b) = absurd (not_shown areas a.version a.first a.bodies other of_other a.stands b)
same_fault areas one other of_one of_other (inr (inr (inl a))) (inl b) = absurd (not_shown areas a.version a.first a.bodies other of_other a.stands b)
same_fault areas one other of_one of_other (inr (inr (inr a))) (inl b) = absurd (not_shown areas a.version a.first a.bodies other of_other a.stands b)
same_fault areas one other of_one of_other (inr (inl a)) (inr (inl b)) =
    a.is ∙ ap Damaged (unread_place a.version a.first a.place a.bad ∙ sym (unread_place b.version b.first b.place b.bad)) ∙ sym b.is
same_fault areas one other of_one of_other (inr (inl a)) (inr (inr (inl b))) =
    absurd (never_unread_of areas b.version a.version b.first a.first b.bodies a.bodies b.base a.place b.stands a.stands b.first_is a.bad)
same_fault areas one other of_one of_other (inr (inr (inl a))) (inr (inl b)) =
    absurd (never_unread_of areas a.version b.version a.first b.first a.bodies b.bodies a.base b.place a.stands b.stands a.first_is b.bad)
same_fault areas one other of_one of_other (inr (inr (inl a))) (inr (inr (inl b))) =
    let bad : IsBadAt b.version b.base b.first b.bodies a.place =
    same_bad areas a.version b.version a.base b.base a.bodies b.bodies a.place (a.first, a.first_is, a.stands) (b.first, b.first_is, b.stands) a.bad in
    a.is ∙ ap Damaged (one_place b.version b.base b.first b.bodies a.place b.place bad b.bad) ∙ sym b.is
same_fault areas one other of_one of_other (inr (inl a)) (inr (inr (inr b))) = absurd (wide_unread other one areas b a)
same_fault areas one other of_one of_other (inr (inr (inl a))) (inr (inr (inr b))) = absurd (wide_broken other one areas b a)
same_fault areas one other of_one of_other (inr (inr (inr a))) (inr (inl b)) = absurd (wide_unread one other areas a b)
same_fault areas one other of_one of_other (inr (inr (inr a))) (inr (inr (inl b))) = absurd (wide_broken one other areas a b)
same_fault areas one other of_one of_other (inr (inr (inr a))) (inr (inr (inr b))) = wide_once one other areas a b

-- what is too wide can't be written
never_written : (areas : Areas) (version : ℕ) (base : Summary) (bodies : List (List ℕ)) (h : List Entry) (fault : OpenFault) → AreasGive areas version base bodies
    → IsPast version base bodies h → CanBeWritten version base h → IsWide fault areas → ⊥
never_written areas version base bodies h fault gives p can a =
    let there : AreasGive areas a.version a.wide.base a.bodies = (a.first, a.wide.first_is, a.stands) in
    let base_is : base ≡ a.wide.base = one_base areas version a.version base a.wide.base bodies a.bodies gives there in
    let past : h ≡ a.wide.past = one_history areas version a.version base a.wide.base bodies a.bodies h a.wide.past gives there p a.wide.is_past in
    let long : written_length base h ≡ written_length a.wide.base a.wide.past = λ i. written_length (base_is i) (past i) in
    ⊎_elim
    (λ (one : version ≡ 1). omega (arith, can one, long, a.wide.size_is, a.wide.wide))
    (λ (none : IsBare a.first a.bodies). never_wide a.version a.first a.bodies a.size none a.wide)
    (wide_version areas version a.version gives.0 a.first bodies a.bodies gives.2 a.stands a.wide.version_is)
  where
    wide_version : (areas : Areas) (version further : ℕ) (first second : Option (List ℕ)) (bodies behind : List (List ℕ)) → AreasStand areas version first bodies
        → AreasStand areas further second behind → further ≡ 1 → (version ≡ 1) ⊎ IsBare second behind
    wide_version areas version further first second bodies behind one two is =
        ⊎_elim
        (λ (same : version ≡ further). inl (same ∙ is))
        (λ (none : IsBare second behind). inr none)
        (same_all areas version further first second bodies behind one two (λ v f l. version ≡ v) refl)

never_both : (areas : Areas) (version : ℕ) (base : Summary) (bodies : List (List ℕ)) (h : List Entry) (fault : OpenFault) → IsOfContent fault
    → AreasGive areas version base bodies → IsPast version base bodies h → CanBeWritten version base h → Causes fault areas → ⊥
never_both areas version base bodies h fault of gives p can (inl a) = not_shown areas version gives.0 bodies fault of gives.2 a
never_both areas version base bodies h fault of gives p can (inr (inl a)) =
    never_unread_of areas version a.version gives.0 a.first bodies a.bodies base a.place gives.2 a.stands gives.1 a.bad
never_both areas version base bodies h fault of gives p can (inr (inr (inl a))) =
    never_bad version base gives.0 bodies h a.place p
    (same_bad areas a.version version a.base base a.bodies bodies a.place (a.first, a.first_is, a.stands) gives a.bad)
never_both areas version base bodies h fault of gives p can (inr (inr (inr a))) = never_written areas version base bodies h fault gives p can a

pub one_opening : (areas : Areas) → HasOneOpening areas
one_opening areas = record {
  bases = λ version further base other bodies behind one two.
      (one_base areas version further base other bodies behind one two, one_list areas version further base other bodies behind one two);
  pasts = λ version further base other bodies behind h k one two p q. one_history areas version further base other bodies behind h k one two p q;
  faults = λ one other of_one of_other a b. same_fault areas one other of_one of_other (causes one areas a) (causes other areas b);
  apart = λ version base bodies h fault of gives p can refused. never_both areas version base bodies h fault of gives p can (causes fault areas refused);
}
