-- What a crash may leave of a store since some moment, from one event that is submitted to the next.
use Rattle.std.proofs.Common.{◌≡◌, ◌≤◌, ℕ, List, [], ◌∷◌, Bool, true, false, inl, inr, refl, sym, ap, subst, arith}
use Rattle.std.proofs.lemmas.Bool.Decides.{leb_tells}
use Rattle.arc_data.specs.WellFormed.{IsWellFormed}
use Rattle.arc_data.specs.declared.event.Event.{Event}
use Rattle.arc_io.specs.Areas.{Areas}
use Rattle.arc_io.specs.Causes.{next_count}
use Rattle.arc_io.specs.Disks.{DiskSeen}
use Rattle.arc_io.specs.Crashes.{LeavesOnly}
use Rattle.centre_core.specs.declared.hall.Stop.{Stop}
use Rattle.centre_core.specs.declared.hall.Stop.TheVariants.{Memory, Down, Full, Worn}
use Rattle.centre_rules.specs.History.{Entry, IsMoment, is_recorded, moment_after}
use Rattle.centre_rules.specs.Summary.{Summary}
use Rattle.disk_journal.specs.declared.journal.Journal.{Journal}
use Rattle.event_codec.specs.Spelling.{spelling}
use Rattle.centre_store.specs.Calls.{LeavesFrom, StandsBetween, entry_after}
use Rattle.centre_store.specs.Given.{StandForEither}
use Rattle.centre_store.specs.StoreHalls.{IsReadable}
use Rattle.centre_store.specs.Stores.{Stored, HasFailed, IsDown, IsNextKept, IsSameJournal, IsToRecord, Shows, StoreStands}
use Rattle.centre_store.proofs.Bodies.{kept_event}
use Rattle.centre_store.proofs.Readable.{moment_fits}
use Rattle.centre_store.proofs.Remains.{HasOrNot, extends_more, moments_of, still, still_moments}

-- the entry of an event that is to be recorded
next_kept : (b : Summary) (h : List Entry) (e : Event) (clock : ℕ) → IsWellFormed e → IsMoment clock → IsReadable b h
    → is_recorded (entry_after b h e clock).reply ≡ true → IsNextKept b h (entry_after b h e clock)
next_kept b h e clock formed moment readable is = record {
  next = record { event = formed; reply = refl; late = omega arith };
  recorded = is;
  spelled = record {
    kept = kept_event b h e (moment_after b h clock) is;
    well_formed = formed;
    moment = moment_fits b h clock moment readable;
  };
}

module _ {D : Type 0} (seen : D → DiskSeen) (only_now : (d : D) (c : Areas) → (seen d).left_since (seen d).moment c → (seen d).may_leave c)
    (b : Summary) where
  -- since some moment, at which the history was k, of a store whose history is h
  abbrev pub Leaves : ℕ → List Entry → Stored D → List Entry → Type 0
  Leaves t k s h = LeavesFrom t k s.at_open (seen s.journal.disk) b h

  -- since now
  pub leaves_now : (s : Stored D) (h : List Entry) → (HasFailed seen s → ⊥) → StoreStands seen b s h → Leaves (seen s.journal.disk).moment h s h
  leaves_now s h up w = record {
    later = omega arith;
    extends = ([], refl);
    furthest = h;
    is = inl refl;
    each =
        (still_moments seen only_now b s h up w (StandsBetween b h h)
        (λ c stands. record { so_far = h; from_h = ([], refl); to_x = ([], refl); stands = stands })).each;
  }

  -- of a disk that stays
  leaves_still : (t : ℕ) (k : List Entry) (old new : Stored D) (h : List Entry) → new.at_open ≡ old.at_open → new.journal.disk ≡ old.journal.disk
      → Leaves t k old h → Leaves t k new h
  leaves_still t k old new h opened same was =
      subst (λ (d : D). LeavesFrom t k new.at_open (seen d) b h) (sym same)
      (subst (λ (n : ℕ). LeavesFrom t k n (seen old.journal.disk) b h) (sym opened) was)

  -- An event that is submitted.
  module _ (t : ℕ) (k : List Entry) (old new : Stored D) (h : List Entry) (e : Event) (clock : ℕ) (w : StoreStands seen b old h)
      (opened : new.at_open ≡ old.at_open) (unrecorded : (IsToRecord b h e clock → ⊥) → IsSameJournal old.journal new.journal)
      (any_moment : (HasFailed seen old → ⊥) → LeavesOnly (seen old.journal.disk) (seen new.journal.disk)
      (StandForEither b h (spelling e (moment_after b h clock)))) (was : Leaves t k old h) where
    -- its entry
    abbrev one : Entry
    one = entry_after b h e clock

    module _ (up : HasFailed seen old → ⊥) where
      run : LeavesOnly (seen old.journal.disk) (seen new.journal.disk) (HasOrNot seen only_now b h e clock)
      run = moments_of seen only_now b old new h e clock up w unrecorded (any_moment up)

      furthest_is : was.furthest ≡ h
      furthest_is = elim was.is as (λ _. was.furthest ≡ h) [
        | inl is ↦ is
        | inr more ↦ absurd (up more.0)
      ]

      one_further : (c : Areas) → StandsBetween b k h c → StandsBetween b k (one ∷ h) c
      one_further c x = record { so_far = x.so_far; from_h = x.from_h; to_x = extends_more x.so_far h one x.to_x; stands = x.stands }

      -- a crash before the call, and one in it
      each_more : (c : Areas) → (seen new.journal.disk).left_since t c → StandsBetween b k (one ∷ h) c
      each_more c left = elim (run.before t c was.later left) as (λ _. StandsBetween b k (one ∷ h) c) [
        | inl before ↦ one_further c (subst (λ (l : List Entry). StandsBetween b k l c) furthest_is (was.each c before))
        | inr now ↦ elim now as (λ _. StandsBetween b k (one ∷ h) c) [
          | inl had ↦ record { so_far = h; from_h = was.extends; to_x = (one ∷ [], refl); stands = had }
          | inr has ↦ record { so_far = one ∷ h; from_h = extends_more k h one was.extends; to_x = ([], refl); stands = has }
        ]
      ]

      -- it was taken
      pub leaves_more : Leaves t k new (one ∷ h)
      leaves_more = record {
        later = omega (arith, was.later, run.later);
        extends = extends_more k h one was.extends;
        furthest = one ∷ h;
        is = inl refl;
        each = each_more;
      }

      -- it met a fault
      leaves_torn : HasFailed seen new → IsNextKept b h one → Leaves t k new h
      leaves_torn failed next = record {
        later = omega (arith, was.later, run.later);
        extends = was.extends;
        furthest = one ∷ h;
        is = inr (failed, one, next, refl);
        each = each_more;
      }

    -- it was stopped
    module _ (formed : IsWellFormed e) (moment : IsMoment clock) (readable : IsReadable b h) (already : HasFailed seen old → new ≡ old) where
      down_if : (HasFailed seen old → ⊥) → HasFailed seen new → (recorded : Bool) → is_recorded one.reply ≡ recorded → Leaves t k new h
      down_if up failed true is = leaves_torn up failed (next_kept b h e clock formed moment readable is)
      down_if up failed false is = leaves_still t k old new h opened (still seen only_now b old new h e clock unrecorded is) was

      down : HasFailed seen new → Leaves t k new h
      down failed = elim (leb_tells (next_count old.at_open) (seen old.journal.disk).faults) as (λ _. Leaves t k new h) [
        | inl before ↦ subst (λ (s : Stored D). Leaves t k s h) (sym (already before.1)) was
        | inr up ↦ down_if (λ rose. omega (arith, rose, up.1)) failed (is_recorded one.reply) refl
      ]

      unwritten_still : IsSameJournal old.journal new.journal → Leaves t k new h
      unwritten_still same = leaves_still t k old new h opened (ap (λ (j : Journal D). j.disk) same) was

      pub leaves_stopped : (stop : Stop) → Shows seen new stop e clock → ((IsDown stop → ⊥) → IsSameJournal old.journal new.journal) → Leaves t k new h
      leaves_stopped Memory shown unwritten = unwritten_still (unwritten (λ down. down))
      leaves_stopped (Full used need records) shown unwritten = unwritten_still (unwritten (λ down. down))
      leaves_stopped (Worn count) shown unwritten = unwritten_still (unwritten (λ down. down))
      leaves_stopped (Down at_open now) shown unwritten =
          down (subst (λ (n : ℕ). next_count n ≤ (seen new.journal.disk).faults) shown.0 (subst (λ (n : ℕ). next_count at_open ≤ n) shown.1 shown.2))
