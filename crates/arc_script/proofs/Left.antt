-- What a crash at any moment may leave of the store of a script.
use Rattle.std.proofs.Common.{◌≡◌, ◌≤◌, ◌<◌, ◌-◌, ◌⊎◌, ◌++◌, ◌∷◌, ℕ, List, [], reverse, length, get_or, if◌then◌else◌, nat_lt, Bool, true, false, Option, Some, None, IfSome, inl, inr, refl, sym, ap, subst, ◌∙◌, append_assoc, arith}
use Rattle.std.proofs.lemmas.Bool.{cases_lt}
use Rattle.arc_io.proofs.Moments.{weaker}
use Rattle.arc_io.specs.Areas.{Areas}
use Rattle.arc_io.specs.Causes.{Rose}
use Rattle.arc_io.specs.Crashes.{IsQuiet, LeavesOnly}
use Rattle.arc_io.specs.Disks.{DiskSeen}
use Rattle.centre_rules.specs.History.{Entry, Extends, recorded}
use Rattle.centre_rules.specs.Summary.{Summary}
use Rattle.centre_store.proofs.Holding.{recorded_there}
use Rattle.centre_store.proofs.Recorded.{recorded_both}
use Rattle.centre_store.proofs.Remains.{stand_recorded}
use Rattle.centre_store.specs.Begins.{begun_after, LeavesWithin}
use Rattle.centre_store.specs.Calls.{LeavesFrom, StandsBetween}
use Rattle.centre_store.specs.Given.{HasRecorded, HoldsRecorded, StandForIn}
use Rattle.centre_store.specs.Openings.{CanOpen}
use Rattle.centre_store.specs.Stores.{HasFailed, IsNextKept, Stored, StoreStands}
use Rattle.disk_journal.specs.Records.{Stands}
use Rattle.disk_journal.specs.Standing.{AreasStand, all_of, chosen_part, version_now, version_of, GoesOn as StandsOn}
use Rattle.disk_journal.specs.Turning.{Changes}
use Rattle.arc_data.specs.declared.event.Event.{Event}
use Rattle.arc_script.specs.Begun.{Begun}
use Rattle.arc_script.specs.Between.{IsStoreSoFar}
use Rattle.arc_script.specs.Causes.{OrBegun}
use Rattle.arc_script.specs.Ends.{LeavesUpTo}
use Rattle.arc_script.specs.Standing.{LeavesOn}
use Rattle.arc_script.proofs.Begun.{adds_begun}

-- Histories that begin with others.

pub extends_then : (h k x : List Entry) → Extends h k → Extends k x → Extends h x
extends_then h k x (early, one) (late, two) = (late ++ early, two ∙ ap (λ (l : List Entry). late ++ l) one ∙ sym (append_assoc late early h))

-- what begins with recorded entries has them among its recorded ones
pub extends_recorded : (h x : List Entry) → recorded h ≡ h → Extends h x → Extends h (recorded x)
extends_recorded h x whole (later, is) =
    (recorded later, ap recorded is ∙ recorded_both later h ∙ ap (λ (l : List Entry). recorded later ++ l) whole)

both_recorded : (h x : List Entry) → Extends h x → Extends (recorded h) (recorded x)
both_recorded h x (later, is) = (recorded later, ap recorded is ∙ recorded_both later h)

begun_extends : (base : Summary) (h : List Entry) (setup : List ℕ) (clock : ℕ) → Extends h (begun_after base h setup clock)
begun_extends base h setup clock =
    let adds = adds_begun base setup clock h in
    (reverse adds.entries, adds.is)

-- A disk that has not failed leaves nothing past the history.
furthest_is : (t : ℕ) (k : List Entry) (faults : ℕ) (disk : DiskSeen) (base : Summary) (h : List Entry) → (Rose faults disk.faults → ⊥)
    → (was : LeavesFrom t k faults disk base h) → was.furthest ≡ h
furthest_is t k faults disk base h up was = elim was.is as (λ _. was.furthest ≡ h) [
  | inl is ↦ is
  | inr more ↦ absurd (up more.0)
]

-- counted from an earlier count of the disk's faults
pub left_since : (t : ℕ) (k : List Entry) (entry faults : ℕ) (disk : DiskSeen) (base : Summary) (h : List Entry) → entry ≤ faults
    → LeavesFrom t k faults disk base h → LeavesFrom t k entry disk base h
left_since t k entry faults disk base h since left = record {
  later = left.later;
  extends = left.extends;
  furthest = left.furthest;
  is = elim left.is as (λ _. (left.furthest ≡ h) ⊎ (Rose entry disk.faults × (e : Entry) × IsNextKept base h e × (left.furthest ≡ e ∷ h))) [
    | inl is ↦ inl is
    | inr torn ↦ inr ((let rose = torn.0 in omega (arith, since, rose)), torn.1, torn.2, torn.3)
  ];
  each = left.each;
}

-- since the journal was opened
pub left_opened : {D : Type 0} (seen : D → DiskSeen) (only_now : (d : D) (c : Areas) → (seen d).left_since (seen d).moment c → (seen d).may_leave c)
    (base : Summary) (h : List Entry) (s : Stored D) (faults : ℕ) → HoldsRecorded seen s.journal base h
    → LeavesFrom (seen s.journal.disk).moment h faults (seen s.journal.disk) base h
left_opened seen only_now base h s faults holds =
    let there = recorded_there seen s.journal base h holds in
    record {
      later = omega arith;
      extends = ([], refl);
      furthest = h;
      is = inl refl;
      each = λ c left. record {
        so_far = h;
        from_h = ([], refl);
        to_x = ([], refl);
        stands = there.images c (only_now s.journal.disk c left);
      };
    }

-- A run that begins: a crash in it leaves nothing past what stands behind its beginning.
module _ {D : Type 0} (seen : D → DiskSeen) (base : Summary) (old new : Stored D) (setup : List ℕ) (clock : ℕ) (h x : List Entry)
    (stands : StoreStands seen base old h) (up : HasFailed seen old → ⊥) (within : LeavesWithin seen old new setup clock)
    (is : begun_after base h setup clock ≡ x) where
  begun_to : begun_after base h setup clock ≡ x → (l : List Entry) → Extends l (begun_after base h setup clock) → Extends l x
  begun_to same l from = subst (Extends l) same from

  pub left_begun : LeavesOn seen base old new h x
  left_begun t k was =
      let run = within base h stands up in
      let same = furthest_is t k old.at_open (seen old.journal.disk) base h up was in
      let on : Extends h x = begun_to is h (begun_extends base h setup clock) in
      record {
        later = (let first = was.later in let second = run.later in omega (arith, first, second));
        extends = extends_then k h x was.extends on;
        furthest = x;
        is = inl refl;
        each = λ c left. elim (run.before t c was.later left) as (λ _. StandsBetween base k x c) [
          | inl before ↦
              let b = subst (λ (l : List Entry). StandsBetween base k l c) same (was.each c before) in
              record { so_far = b.so_far; from_h = b.from_h; to_x = extends_then b.so_far h x b.to_x on; stands = b.stands }
          | inr now ↦ record {
            so_far = now.so_far;
            from_h = extends_then k h now.so_far was.extends now.from_h;
            to_x = begun_to is now.so_far now.to_begun;
            stands = now.stands;
          }
        ];
      }

-- An opening over areas of the second version: a crash in it leaves what they stood for.

-- what opening a store says of a disk and the disk behind it
pub record IsOpening (old new : DiskSeen) : Type 0 where
  pub long : IfSome old.told (λ s. 17 < length (chosen_part s) → IsQuiet old new ⊎ ((version_now s ≡ 1) × CanOpen s))
  pub fresh : IfSome old.told (λ s. length (chosen_part s) ≤ 17 → Changes StandsOn old new)

two_if : (t : Bool) (n : ℕ) → n ≡ 2 → (if t then n else 2) ≡ 2
two_if true n is = is
two_if false n is = refl

version_there : (bytes : List ℕ) (bodies : List (List ℕ)) → 17 < length bytes → Stands 2 bytes bodies → version_of bytes ≡ 2
unfolding version_of
version_there bytes bodies long (inl short) = absurd (let few = short.0 in omega (arith, long, few))
version_there bytes bodies long (inr at) = ap (λ (n : ℕ). n - 48) (ap (λ (l : List ℕ). get_or l 15 0) at.is) ∙ omega arith

version_is : (s : Areas) (first : Option (List ℕ)) (bodies : List (List ℕ)) → AreasStand s 2 first bodies → 17 < length (chosen_part s) → version_now s ≡ 2
version_is s first bodies stands long =
    two_if (nat_lt 17 (length (chosen_part s))) (version_of (chosen_part s)) (version_there (chosen_part s) (all_of first bodies) long stands.1)

quiet_of : (version : ℕ) (Quiet Opens : Type 0) → Quiet ⊎ ((version ≡ 1) × Opens) → version ≡ 2 → Quiet
quiet_of version Quiet Opens (inl quiet) two = quiet
quiet_of version Quiet Opens (inr (one, opens)) two = absurd (omega (arith, one, two))

opens_as : (base : Summary) (h : List Entry) (old new : DiskSeen) (told : Option Areas) → IfSome told (StandForIn 2 base h)
    → IfSome told (λ s. 17 < length (chosen_part s) → IsQuiet old new ⊎ ((version_now s ≡ 1) × CanOpen s))
    → IfSome told (λ s. length (chosen_part s) ≤ 17 → Changes StandsOn old new)
    → (told ≡ None → ⊥) → ((c : Areas) → old.may_leave c → StandForIn 2 base h c) → LeavesOnly old new (StandForIn 2 base h)
opens_as base h old new None stands long fresh some images = absurd (some refl)
opens_as base h old new (Some s) stands long fresh some images =
    elim (cases_lt 17 (length (chosen_part s))) as (λ _. LeavesOnly old new (StandForIn 2 base h)) [
      | inl more ↦
          let quiet = quiet_of (version_now s) (IsQuiet old new) (CanOpen s) (long more) (version_is s stands.0 stands.1 stands.3 more) in
          weaker old new (StandForIn 2 base h) old.may_leave quiet.any_moment images
      | inr few ↦ weaker old new (StandForIn 2 base h) (λ c. (d : Areas) × old.may_leave d × StandsOn d c) (fresh few).any_moment
          (λ c from. let was = images from.0 from.1 in (was.0, was.1, was.2, from.2 2 was.0 was.1 was.3))
    ]

pub left_opening : (t : ℕ) (k : List Entry) (at faults : ℕ) (base : Summary) (h : List Entry) (old new : DiskSeen) → HasRecorded old base h
    → (old.told ≡ None → ⊥) → IsOpening old new → (Rose at old.faults → ⊥) → LeavesFrom t k at old base h → LeavesFrom t k faults new base h
left_opening t k at faults base h old new there some opening up was =
    let run = opens_as base h old new old.told there.area opening.long opening.fresh some there.images in
    let same = furthest_is t k at old base h up was in
    record {
      later = (let first = was.later in let second = run.later in omega (arith, first, second));
      extends = was.extends;
      furthest = h;
      is = inl refl;
      each = λ c left. elim (run.before t c was.later left) as (λ _. StandsBetween base k h c) [
        | inl before ↦ subst (λ (l : List Entry). StandsBetween base k l c) same (was.each c before)
        | inr now ↦ record { so_far = h; from_h = was.extends; to_x = ([], refl); stands = now }
      ];
    }

-- of a history the recorded entries alone
pub left_recorded : (t : ℕ) (k : List Entry) (faults : ℕ) (disk : DiskSeen) (base : Summary) (h : List Entry) → recorded k ≡ k → (Rose faults disk.faults → ⊥)
    → LeavesFrom t k faults disk base h → LeavesFrom t k faults disk base (recorded h)
left_recorded t k faults disk base h whole up was =
    let same = furthest_is t k faults disk base h up was in
    record {
      later = was.later;
      extends = extends_recorded k h whole was.extends;
      furthest = recorded h;
      is = inl refl;
      each = λ c left.
          let b = subst (λ (l : List Entry). StandsBetween base k l c) same (was.each c left) in
          record {
            so_far = recorded b.so_far;
            from_h = extends_recorded k b.so_far whole b.from_h;
            to_x = both_recorded b.so_far h b.to_x;
            stands = stand_recorded 2 base b.so_far c b.stands;
          };
    }

-- Of the store of a script, in the words of its statement.
module _ {D : Type 0} (seen : D → DiskSeen) (b : Begun D) (base : Summary) (h : List Entry) (s : Stored D) (so : IsStoreSoFar seen b base h s) where
  -- behind a line, which leaves nothing past a history
  pub left_behind : (s' : Stored D) (x : List Entry) → (seen b.disk).faults ≤ s'.at_open → LeavesOn seen base s s' h x
      → LeavesUpTo seen b s'.journal.disk base x
  left_behind s' x since leaves told =
      left_since (seen b.opened).moment b.past (seen b.disk).faults s'.at_open (seen s'.journal.disk) base x since
      (leaves (seen b.opened).moment b.past (so.left told))

  -- of its disk, which is handed back
  pub left_there : (disk : D) → disk ≡ s.journal.disk → LeavesUpTo seen b disk base h
  left_there disk is = subst (λ (d : D). LeavesUpTo seen b d base h) (sym is) (left_behind s h so.later (λ t k was. was))

-- what is so of a history, or of it with a beginning's entries
pub or_begun_to : (P Q : List Entry → Type 0) (IsOne : Event → Type 0) (force : Option (List ℕ)) (base : Summary) (setup : List ℕ) (clock : ℕ) (x : List Entry)
    → ((l : List Entry) → P l → Q l) → OrBegun P IsOne force base setup clock x → OrBegun Q IsOne force base setup clock x
or_begun_to P Q IsOne force base setup clock x goes (inl so) = inl (goes x so)
or_begun_to P Q IsOne force base setup clock x goes (inr (one, so)) = inr (one, goes (begun_after base x setup clock) so)
