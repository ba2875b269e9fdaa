-- The past of a history's recorded entries, and that areas can be opened again.
use Rattle.std.proofs.Common.{◌≡◌, ◌≤◌, ◌<◌, ◌+◌, ◌^◌, ℕ, List, [], ◌∷◌, ◌++◌, Bool, true, false, cond, map, reverse, length, Option, inl, inr, refl, sym, ap, ◌∙◌, subst, arith, length-append}
use Rattle.arc_io.specs.Areas.{Areas}
use Rattle.centre_laws.proofs.Summed.{summary_tells}
use Rattle.centre_rules.proofs.Quiet.{marks_recorded, last_recorded, legal_recorded}
use Rattle.centre_rules.specs.Summary.{Summary}
use Rattle.centre_rules.specs.Sums.{summary_of}
use Rattle.centre_rules.specs.History.{Entry, is_recorded, recorded}
use Rattle.centre_rules.specs.Answers.{IsNext, IsLegal}
use Rattle.disk_journal.specs.Standing.{AreasStand}
use Rattle.event_codec.specs.Spelling.{spelling}
use Rattle.summary_rules.proofs.Composing.{summaries_compose}
use Rattle.summary_rules.specs.Spelling.{summary_text}
use Rattle.centre_store.specs.Bodies.{bodies_in, body_in, AreNamedIn}
use Rattle.centre_store.specs.Given.{IsKeptAs, StandForIn, StandForEither, CanBeWritten}
use Rattle.centre_store.specs.Openings.{CanOpen}
use Rattle.centre_store.specs.Pasts.{AreKept, IsPast}
use Rattle.centre_store.specs.Stores.{IsNextKept}
use Rattle.centre_store.proofs.Holding.{kept_more}
use Rattle.centre_store.proofs.Summed.{summary_alike}

recorded_step : (e : Entry) (h : List Entry) (t : Bool) → is_recorded e.reply ≡ t → recorded (recorded h) ≡ recorded h
    → recorded (cond t (e ∷ recorded h) (recorded h)) ≡ cond t (e ∷ recorded h) (recorded h)
recorded_step e h true is before = ap (λ t. cond t (e ∷ recorded (recorded h)) (recorded (recorded h))) is ∙ ap (λ l. e ∷ l) before
recorded_step e h false is before = before

pub recorded_once : (h : List Entry) → recorded (recorded h) ≡ recorded h
recorded_once [] = refl
recorded_once (e ∷ h) = recorded_step e h (is_recorded e.reply) refl (recorded_once h)

pub bodies_recorded : (version : ℕ) (h : List Entry) → bodies_in version h ≡ bodies_in version (recorded h)
unfolding bodies_in
bodies_recorded version h = ap (λ (l : List Entry). reverse (map (body_in version) l)) (sym (recorded_once h))

-- a summary has what is recorded, and nothing of other entries
pub summary_recorded : (b : Summary) (h : List Entry) → summary_of b h ≡ summary_of b (recorded h)
summary_recorded b h = summary_alike b h (recorded h) (last_recorded b h) (sym (recorded_once h)) (marks_recorded b h)

-- a legal history whose recorded entries are such as a journal has: they are the past of its bodies
pub past_recorded : (version : ℕ) (base : Summary) (h : List Entry) → IsLegal base h → AreKept (recorded h) → AreNamedIn version (recorded h)
    → base.recorded + length (recorded h) ≤ 2 ^ 48 → IsPast version base (bodies_in version h) (recorded h)
past_recorded version base h legal kept named few = record {
  legal = legal_recorded base h legal;
  kept = kept;
  named = named;
  few = few;
  is = bodies_recorded version h;
}

-- A history in two parts.

-- the recorded entries of one list behind another
recorded_behind : (e : Entry) (k l : List Entry) (t : Bool) → is_recorded e.reply ≡ t → recorded (k ++ l) ≡ recorded k ++ recorded l
    → cond t (e ∷ recorded (k ++ l)) (recorded (k ++ l)) ≡ cond t (e ∷ recorded k) (recorded k) ++ recorded l
recorded_behind e k l true is before = ap (λ (x : List Entry). e ∷ x) before
recorded_behind e k l false is before = before

pub recorded_both : (k l : List Entry) → recorded (k ++ l) ≡ recorded k ++ recorded l
recorded_both [] l = refl
recorded_both (e ∷ k) l = recorded_behind e k l (is_recorded e.reply) refl (recorded_both k l)

pub legal_rest : (b : Summary) (later summed : List Entry) → IsLegal b (later ++ summed) → IsLegal b summed
legal_rest b [] summed legal = legal
legal_rest b (e ∷ later) summed legal = legal_rest b later summed legal.1

-- the later ones go on from the summary of the others
pub legal_over : (b : Summary) (later summed : List Entry) → IsLegal b (later ++ summed) → IsLegal (summary_of b summed) later
legal_over b later summed legal = (summary_tells b summed later (legal_rest b later summed legal)).legal.1 legal

kept_first : (k l : List Entry) → AreKept (k ++ l) → AreKept k
kept_first [] l kept = tt
kept_first (e ∷ k) l kept = (kept.0, kept_first k l kept.1)

-- what was summed up of one, and then the rest, is the summary of it all
pub summary_parts : (b : Summary) (h later summed : List Entry) → h ≡ later ++ summed → IsLegal b h → summary_of (summary_of b summed) (recorded later) ≡ summary_of b h
summary_parts b h later summed split legal =
    sym (summary_recorded (summary_of b summed) later) ∙ summaries_compose b summed later (legal_rest b later summed (subst (IsLegal b) split legal))
    ∙ ap (summary_of b) (sym split)

-- Areas that stand in a version for the recorded entries of a history, where they are such as a journal has.
module _ (version : ℕ) (b : Summary) (h : List Entry) (areas : Areas) (legal : IsLegal b h) (kept : AreKept (recorded h))
    (few : b.recorded + length (recorded h) ≤ 2 ^ 48) (can : CanBeWritten version b h) where
  opens_as : (first : Option (List ℕ)) (bodies : List (List ℕ)) → IsKeptAs version b h first bodies → AreasStand areas version first bodies → CanOpen areas
  opens_as first bodies k stands =
      let parts : recorded h ≡ recorded k.later ++ recorded k.summed = ap recorded k.split ∙ recorded_both k.later k.summed in
      let count : length (recorded h) ≡ length (recorded k.later) + length (recorded k.summed) =
      ap length parts ∙ length-append (recorded k.later) (recorded k.summed) in
      let over : IsLegal (summary_of b k.summed) k.later = legal_over b k.later k.summed (subst (IsLegal b) k.split legal) in
      let past : IsPast version (summary_of b k.summed) (bodies_in version k.later) (recorded k.later) =
      past_recorded version (summary_of b k.summed) k.later over (kept_first (recorded k.later) (recorded k.summed) (subst AreKept parts kept)) k.named
      (omega (arith, few, count)) in
      record {
        version = version;
        base = summary_of b k.summed;
        bodies = bodies;
        past = recorded k.later;
        gives = (first, k.first_is, stands);
        is_past = subst (λ (l : List (List ℕ)). IsPast version (summary_of b k.summed) l (recorded k.later)) (sym k.bodies_are) past;
        can_be = λ first_one. subst (λ (s : Summary). length (summary_text 2 1 s) ≤ 4_294_967_295) (sym (summary_parts b h k.later k.summed k.split legal)) (can first_one);
      }

  pub opens_recorded : StandForIn version b h areas → CanOpen areas
  opens_recorded (first, bodies, k, stands) = opens_as first bodies k stands

-- what is written in the second version can be
pub can_two : (b : Summary) (h : List Entry) → CanBeWritten 2 b h
can_two b h one = absurd (omega (arith, one))

-- The areas that a disk leaves that failed as a record was written.
module _ (base : Summary) (h : List Entry) (e : Entry) (areas : Areas) (legal : IsLegal base h) (kept : AreKept (recorded h))
    (few : base.recorded + length (recorded h) < 2 ^ 48) (goes : IsNextKept base h e) where
  abbrev last : Entry
  last = record e { caller = 0 }

  next : IsNext base h last
  next = record { event = goes.next.event; reply = goes.next.reply; late = goes.next.late }

  with_last : recorded (last ∷ h) ≡ last ∷ recorded h
  with_last = ap (λ (t : Bool). cond t (last ∷ recorded h) (recorded h)) goes.recorded

  opens_more : StandForIn 2 base (last ∷ h) areas → CanOpen areas
  opens_more =
      let all : AreKept (recorded (last ∷ h)) =
      subst AreKept (sym with_last) (record { caller = refl; recorded = goes.recorded; spelled = goes.spelled }, kept) in
      let count : length (recorded (last ∷ h)) ≡ length (last ∷ recorded h) = ap length with_last in
      opens_recorded 2 base (last ∷ h) areas (next, legal) all (omega (arith, few, count)) (can_two base (last ∷ h))

  pub opens : StandForEither base h (spelling e.event e.at) areas → CanOpen areas
  opens (first, bodies, k, inl stands) = opens_recorded 2 base h areas legal kept (omega (arith, few)) (can_two base h) (first, bodies, k, stands)
  opens (first, bodies, k, inr stands) =
      opens_more (first, bodies ++ body_in 2 last ∷ [], kept_more base h last first bodies goes.recorded k, stands)
