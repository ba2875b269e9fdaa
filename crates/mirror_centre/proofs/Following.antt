-- What an answer makes of a mirror: it stands for as much of the primary's recorded entries, or for one more.
use Rattle.std.proofs.Common.{◌≡◌, ◌⊎◌, ◌≤◌, ◌+◌, ℕ, List, [], ◌∷◌, Bool, true, false, length, inl, inr, refl, sym, ap, subst, ◌∙◌, arith}
use Rattle.std.specs.Prelude.{is_some, nat_eq, nat_le, if◌then◌else◌, Some, None, slice_index_or}
use Rattle.std.proofs.lemmas.Bool.{eqb-true}
use Rattle.arc_io.specs.Areas.{Areas}
use Rattle.arc_io.specs.Disks.{DiskSeen}
use Rattle.centre_rules.specs.Answers.{IsLegal, IsNext, answer}
use Rattle.centre_rules.specs.History.{Entry, Extends, recorded}
use Rattle.centre_rules.specs.Summary.{Summary}
use Rattle.centre_store.proofs.Holding.{all_named, either_one}
use Rattle.centre_store.proofs.PastOnce.{spelled_once}
use Rattle.centre_store.proofs.Recorded.{legal_rest}
use Rattle.centre_store.proofs.Reopened.{kept_whole}
use Rattle.centre_store.proofs.Remains.{left_is, left_still}
use Rattle.centre_store.specs.Bodies.{body_in, bodies_in}
use Rattle.centre_store.specs.Followings.{GoesOnWith, TakesIn, body_of_number}
use Rattle.centre_store.specs.Given.{StandForEither}
use Rattle.centre_store.specs.Lives.{World, Open, Left, IsLeft}
use Rattle.centre_store.specs.Pasts.{AreKept, IsKept}
use Rattle.centre_store.specs.Stores.{Stored, HasFailed, StoreStands}
use Rattle.mirror_centre.specs.Messages.{Answer, Record, End, Summed, IsAnswer}
use Rattle.mirror_centre.specs.Mirroring.{IsBehindTaking, IsTrueOf, StandsIn}
use Rattle.mirror_centre.specs.declared.mirror.Took.TheVariants.{Old, Behind}
use Rattle.mirror_centre.specs.Takings.{Receives, Tries}
use Rattle.mirror_centre.proofs.Parts.{IsFit, HasNext, body_next, fit_front, fit_recorded, has_next, kept_rest}

-- what there is stands for some first part of the recorded entries, no less than one that was there
pub record HasFollowed {D : Type 0} (seen : D → DiskSeen) (b : Summary) (primary mirror : List Entry) (w : World D) : Type 0 where
  pub now : List Entry
  pub up : StandsIn seen b w now
  pub part : Extends now (recorded primary)
  pub more : length mirror ≤ length now

-- what there is behind a call, open or left
abbrev IsBehindCall : {D : Type 0} → (D → DiskSeen) → Stored D → Stored D → World D → Type 0
IsBehindCall seen old s w = ((w ≡ Open s) × (HasFailed seen s → ⊥)) ⊎ ((c : Areas) × (w ≡ Left c) × IsLeft seen old s c)

-- A first part of what a fit history has recorded.
module _ (b : Summary) (primary mirror : List Entry) (fit : IsFit b primary) (part : Extends mirror (recorded primary)) where
  pub part_fit : IsFit b mirror
  part_fit = fit_front b mirror (recorded primary) part (fit_recorded b primary fit)

  kept : AreKept (recorded primary)
  kept = fit.readable.1

  pub part_whole : recorded mirror ≡ mirror
  part_whole = kept_whole mirror (kept_rest part.0 mirror (subst AreKept part.1 kept))

  -- The entry behind it.
  module _ (n : HasNext mirror (recorded primary)) where
    abbrev e : Entry
    e = n.entry

    legal_next : IsNext b mirror e
    legal_next = (legal_rest b n.later (e ∷ mirror) (subst (IsLegal b) n.split (fit_recorded b primary fit).legal)).0

    kept_next : IsKept e
    kept_next = (kept_rest n.later (e ∷ mirror) (subst AreKept n.split kept)).0

    pub part_more : Extends (e ∷ mirror) (recorded primary)
    part_more = (n.later, n.split)

    -- the entry that goes on with its body is this one
    pub one_next : (body : List ℕ) (f : Entry) → body ≡ body_in 2 e → GoesOnWith b mirror body f → f ≡ e
    one_next body f is goes =
        let same = spelled_once 2 f.event e.event f.at e.at (record { spelled = goes.next.spelled; named = (all_named (f ∷ [])).0 })
        (record { spelled = kept_next.spelled; named = (all_named (e ∷ [])).0 }) (sym goes.body_is ∙ is) in
        let callers : f.caller ≡ e.caller = goes.made ∙ sym kept_next.caller in
        let replies : f.reply ≡ e.reply = goes.next.next.reply ∙ (λ i. answer b mirror (same.0 i) (same.1 i)) ∙ sym legal_next.reply in
        λ i. record { caller = callers i; event = same.0 i; at = same.1 i; reply = replies i }

    -- the body of its number
    pub body_there : (number : ℕ) → number ≡ b.recorded + length mirror + 1 → body_of_number b primary number ≡ body_in 2 e
    body_there number is =
        ap (λ (i : ℕ). slice_index_or (bodies_in 2 primary) i []) (omega (arith, is)) ∙ body_next 2 n.later mirror primary e part_whole n.split

    module _ {D : Type 0} (seen : D → DiskSeen) (only_now : (d : D) (c : Areas) → (seen d).left_since (seen d).moment c → (seen d).may_leave c)
        (old : Stored D) (stands : StoreStands seen b old mirror) (up : HasFailed seen old → ⊥) (body : List ℕ) (is : body ≡ body_in 2 e) where
      same_or : (w : World D) → StandsIn seen b w mirror → HasFollowed seen b primary mirror w
      same_or w at = record { now = mirror; up = at; part = part; more = omega arith }

      one_more : (w : World D) → StandsIn seen b w (e ∷ mirror) → HasFollowed seen b primary mirror w
      one_more w at = record { now = e ∷ mirror; up = at; part = part_more; more = omega arith }

      pub tried : (w : World D) (s : Stored D) → Tries seen old s body → IsBehindCall seen old s w
          → HasFollowed seen b primary mirror w
      tried w s tries (inl (is_open, still_up)) =
          subst (HasFollowed seen b primary mirror) (sym is_open) (elim tries.behind as (λ _. HasFollowed seen b primary mirror (Open s)) [
            | inl same ↦ same_or (Open s) (same b mirror stands, still_up)
            | inr takes ↦ let t : TakesIn seen b s mirror body = takes b mirror stands in
                one_more (Open s) (subst (λ (f : Entry). StoreStands seen b s (f ∷ mirror)) (one_next body t.0 is t.1) t.2, still_up)
          ])
      tried w s tries (inr (c, left, lost)) =
          let either : StandForEither b mirror body c =
          left_is seen only_now b old s c (StandForEither b mirror body) (tries.any_moment b mirror stands) (tries.met b mirror stands).area lost in
          subst (HasFollowed seen b primary mirror) (sym left)
          (elim (either_one b mirror e c kept_next.recorded (subst (λ (l : List ℕ). StandForEither b mirror l c) is either)) as (λ _. HasFollowed seen b primary mirror (Left c)) [
            | inl had ↦ same_or (Left c) (2, had)
            | inr has ↦ one_more (Left c) (2, has)
          ])

some_either : {A : Type 0} (v : Bool) (x y : A) → is_some (if v then Some x else Some y) ≡ true
some_either true x y = refl
some_either false x y = refl

module _ {D : Type 0} (seen : D → DiskSeen) (only_now : (d : D) (c : Areas) → (seen d).left_since (seen d).moment c → (seen d).may_leave c)
    (b : Summary) (primary mirror : List Entry) (fit : IsFit b primary) (part : Extends mirror (recorded primary))
    (old : Stored D) (stands : StoreStands seen b old mirror) (up : HasFailed seen old → ⊥) where
  have_is : old.state.sum.recorded ≡ b.recorded + length mirror
  have_is = stands.centre.recorded ∙ ap (λ (l : List Entry). b.recorded + length l) (part_whole b primary mirror fit part)

  -- nothing was changed
  still : (w : World D) (s : Stored D) → s ≡ old → IsBehindCall seen old s w → HasFollowed seen b primary mirror w
  still w s same (inl (is_open, still_up)) = record {
    now = mirror;
    up = subst (λ (v : World D). StandsIn seen b v mirror) (sym (is_open ∙ ap (λ (t : Stored D). Open t) same)) (stands, up);
    part = part;
    more = omega arith;
  }
  still w s same (inr (c, left, lost)) = record {
    now = mirror;
    up = subst (λ (v : World D). StandsIn seen b v mirror) (sym left)
        (2, left_still seen only_now b old mirror up stands c (subst (λ (t : Stored D). IsLeft seen old t c) same lost));
    part = part;
    more = omega arith;
  }

  -- the record of the next entry
  next : (message body : List ℕ) (number : ℕ) (w : World D) (s : Stored D) → IsAnswer message (Record number body) → IsTrueOf b primary (Record number body)
      → number ≡ old.state.sum.recorded + 1 → Receives seen old s message → IsBehindCall seen old s w → HasFollowed seen b primary mirror w
  next message body number w s is so is_next receives behind =
      let there : HasNext mirror (recorded primary) = has_next mirror (recorded primary) part (omega (arith, so.1, is_next, have_is)) in
      let body_is : body ≡ body_in 2 there.entry =
      so.2 ∙ body_there b primary mirror fit part there number (omega (arith, is_next, have_is)) in
      let tries : Tries seen old s body = receives.next body (subst (λ (n : ℕ). IsAnswer message (Record n body)) is_next is) in
      tried b primary mirror fit part there seen only_now old stands up body body_is w s tries behind

  record_if : (message body : List ℕ) (number : ℕ) (w : World D) (s : Stored D) (v : Bool) → nat_eq number (old.state.sum.recorded + 1) ≡ v
      → IsAnswer message (Record number body) → IsTrueOf b primary (Record number body) → Receives seen old s message → IsBehindCall seen old s w
      → HasFollowed seen b primary mirror w
  record_if message body number w s true test is true_of receives behind =
      next message body number w s is true_of (eqb-true number (old.state.sum.recorded + 1) test) receives behind
  record_if message body number w s false test is true_of receives behind =
      still w s (receives.passed (Record number body) is (ap (λ (v : Bool). is_some (if v then None else Some Old)) test)) behind

  any_answer : (message : List ℕ) (a : Answer) (w : World D) (s : Stored D) → IsAnswer message a → IsTrueOf b primary a → Receives seen old s message
      → IsBehindCall seen old s w → HasFollowed seen b primary mirror w
  any_answer message (Record number body) w s is true_of receives behind =
      record_if message body number w s (nat_eq number (old.state.sum.recorded + 1)) refl is true_of receives behind
  any_answer message End w s is true_of receives behind = still w s (receives.passed End is refl) behind
  any_answer message (Summed count) w s is true_of receives behind =
      still w s (receives.passed (Summed count) is (some_either (nat_le count old.state.sum.recorded) Old (Behind old.state.sum.recorded count))) behind

  -- an answer that is true of the primary
  pub takes : (message : List ℕ) (a : Answer) (w : World D) → IsAnswer message a → IsTrueOf b primary a → IsBehindTaking seen old message w
      → HasFollowed seen b primary mirror w
  takes message a (Open s) is true_of (receives, still_up) = any_answer message a (Open s) s is true_of receives (inl (refl, still_up))
  takes message a (Left c) is true_of (s, receives, lost) = any_answer message a (Left c) s is true_of receives (inr (c, refl, lost))
