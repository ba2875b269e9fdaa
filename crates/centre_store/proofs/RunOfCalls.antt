-- What a crash at any moment of a run of calls leaves: by the calls one after another.
use Rattle.std.proofs.Common.{◌⊎◌, List, [], ◌∷◌, inl, inr, refl, sym, subst}
use Rattle.arc_io.specs.Areas.{Areas}
use Rattle.arc_io.specs.Disks.{DiskSeen}
use Rattle.arc_io.specs.Crashes.{LeavesOnly}
use Rattle.arc_io.proofs.Moments.{joined, weaker}
use Rattle.centre_rules.specs.History.{Entry, Extends}
use Rattle.centre_rules.specs.Summary.{Summary}
use Rattle.centre_store.specs.Calls.{Submission, Submits, entry_after, entered, AreEntered, AreSubmitted, StandsBetween}
use Rattle.centre_store.specs.Given.{StandForIn}
use Rattle.centre_store.specs.Stores.{Stored, HasFailed, StoreStands}
use Rattle.centre_store.proofs.Remains.{cut_moments, enters, extends_more, still_moments}

all_extends : (b : Summary) (h : List Entry) (calls : List Submission) → Extends h (entered b h calls)
all_extends b h [] = ([], refl)
all_extends b h (call ∷ earlier) =
    extends_more h (entered b h earlier) (entry_after b (entered b h earlier) call.event call.clock) (all_extends b h earlier)

module _ {D : Type 0} (seen : D → DiskSeen) (only_now : (d : D) (c : Areas) → (seen d).left_since (seen d).moment c → (seen d).may_leave c)
    (b : Summary) (h : List Entry) (first : Stored D) (w : StoreStands seen b first h) (first_up : HasFailed seen first → ⊥) where
  -- the store behind calls that were answered by Ok
  pub record IsBehindAll (calls : List Submission) (s : Stored D) : Type 0 where
    pub stands : StoreStands seen b s (entered b h calls)
    pub up : HasFailed seen s → ⊥
    pub run : LeavesOnly (seen first.journal.disk) (seen s.journal.disk) (StandsBetween b h (entered b h calls))

  -- one call more, with any answer
  one_more : (call : Submission) (earlier : List Submission) (old s : Stored D) → IsBehindAll earlier old → Submits seen old s call.event call.clock
      → LeavesOnly (seen first.journal.disk) (seen s.journal.disk) (StandsBetween b h (entered b h (call ∷ earlier)))
  one_more call earlier old s before submits =
      let k : List Entry = entered b h earlier in
      let e : Entry = entry_after b k call.event call.clock in
      let P : Areas → Type 0 = StandsBetween b h (e ∷ k) in
      let Q : Areas → Type 0 = λ c. StandForIn 2 b k c ⊎ StandForIn 2 b (e ∷ k) c in
      let from : Extends h k = all_extends b h earlier in
      joined (seen first.journal.disk) (seen old.journal.disk) (seen s.journal.disk) P Q
      (weaker (seen first.journal.disk) (seen old.journal.disk) P (StandsBetween b h k) before.run
      (λ (c : Areas) (x : StandsBetween b h k c). record { so_far = x.so_far; from_h = x.from_h; to_x = extends_more x.so_far k e x.to_x; stands = x.stands }))
      (cut_moments seen only_now b old s k call.event call.clock before.up before.stands submits)
      (λ c either. elim either as (λ _. StandsBetween b h (e ∷ k) c) [
        | inl had ↦ record { so_far = k; from_h = from; to_x = (e ∷ [], refl); stands = had }
        | inr has ↦ record { so_far = e ∷ k; from_h = extends_more h k e from; to_x = ([], refl); stands = has }
      ])

  begins : IsBehindAll [] first
  begins = record {
    stands = w;
    up = first_up;
    run = still_moments seen only_now b first h first_up w (StandsBetween b h h)
        (λ c stands. record { so_far = h; from_h = ([], refl); to_x = ([], refl); stands = stands });
  }

  all_behind : (calls : List Submission) (s : Stored D) → AreEntered seen first calls s → IsBehindAll calls s
  all_behind [] s is = subst (λ (t : Stored D). IsBehindAll [] t) (sym is) begins
  all_behind (call ∷ earlier) s (old, run, made) =
      let before : IsBehindAll earlier old = all_behind earlier old run in
      record {
        stands = enters seen only_now b old s (entered b h earlier) call.event call.clock before.stands made;
        up = made.up;
        run = one_more call earlier old s before made.submits;
      }

  pub run_leaves : (calls : List Submission) (last : Stored D) → AreSubmitted seen first calls last
      → LeavesOnly (seen first.journal.disk) (seen last.journal.disk) (StandsBetween b h (entered b h calls))
  run_leaves [] last is = (subst (λ (t : Stored D). IsBehindAll [] t) (sym is) begins).run
  run_leaves (call ∷ earlier) last (old, run, submits) = one_more call earlier old last (all_behind earlier old run) submits
