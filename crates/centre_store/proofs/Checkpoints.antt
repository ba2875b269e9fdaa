-- What a store stands for after a checkpoint, made or not.
use Rattle.std.proofs.Common.{◌≡◌, ◌+◌, ℕ, List, length, inl, inr, refl, sym, subst, ◌∙◌}
use Rattle.std.specs.Prelude.{Result, Ok, Err, OnOk, IfErr}
use Rattle.arc_io.specs.Areas.{Areas}
use Rattle.arc_io.specs.Causes.{Rose}
use Rattle.arc_io.specs.Disks.{DiskSeen}
use Rattle.arc_io.specs.Crashes.{LeavesOnly}
use Rattle.centre_core.specs.declared.hall.Stop.{Stop}
use Rattle.centre_core.specs.declared.hall.Stop.TheVariants.{Down}
use Rattle.centre_core.specs.Summing.{IsSpelled}
use Rattle.centre_rules.specs.History.{Entry}
use Rattle.centre_rules.specs.State.{State, StandsFor}
use Rattle.centre_rules.specs.Summary.{Summary}
use Rattle.centre_rules.specs.Sums.{summary_of}
use Rattle.disk_journal.specs.declared.journal.Journal.{Journal}
use Rattle.summary_rules.specs.Spelling.{summary_text}
use Rattle.centre_store.specs.Given.{StandForIn, HasRecorded, HoldsRecorded}
use Rattle.centre_store.specs.Stores.{Stored, HasFailed, StoreStands}
use Rattle.centre_store.specs.Writes.{HaveAll, IsSummedSize, IsUnmade}
use Rattle.centre_store.proofs.Entered.{stored, all}
use Rattle.centre_store.proofs.Holding.{recorded_there, still_stands}
use Rattle.centre_store.proofs.Written.{summed_long}

module _ {D : Type 0} (seen : D → DiskSeen) (old : Stored D) (s : State) (j : Journal D) (n : ℕ) (is : stored s j n ≡ old) (up : HasFailed seen old → ⊥) where
  pub whole : (b : Summary) (h : List Entry) → StoreStands seen b old h → HaveAll seen j s b h
  whole b h w = all seen b old s s j n h is up w (λ x. x)

  -- whatever sum_up answered
  pub stands_summed : (b : Summary) (h : List Entry) (k : Journal D) (r : Result (Unit {0}) Stop) → StoreStands seen b old h
      → OnOk r (HoldsRecorded seen k b h)
      → IfErr r (λ stop. (stop ≡ Down n (seen k.disk).faults) × Rose n (seen k.disk).faults)
      → HasRecorded (seen k.disk) b h → StoreStands seen b (stored s k n) h
  stands_summed b h k (Ok x) w has down met = record { given = w.given; centre = (whole b h w).stands; journal = inl has }
  stands_summed b h k (Err stop) w has down met = record { given = w.given; centre = (whole b h w).stands; journal = inr (down.1, inl met) }

  -- where nothing was written
  pub still_moments : (b : Summary) (h : List Entry) → ((d : D) (c : Areas) → (seen d).left_since (seen d).moment c → (seen d).may_leave c)
      → StoreStands seen b old h → LeavesOnly (seen old.journal.disk) (seen j.disk) (StandForIn 2 b h)
  still_moments b h only_now w =
      subst (λ (x : Stored D). LeavesOnly (seen x.journal.disk) (seen j.disk) (StandForIn 2 b h)) is
      (still_stands seen j b h only_now (whole b h w).holds)

  pub still_there : (b : Summary) (h : List Entry) → StoreStands seen b old h → HasRecorded (seen j.disk) b h
  still_there b h w = recorded_there seen j b h (whole b h w).holds

  -- while a summary is put there
  pub summed_moments : (b : Summary) (h : List Entry) (k : D) → StoreStands seen b old h
      → (HaveAll seen j s b h → LeavesOnly (seen j.disk) (seen k) (StandForIn 2 b h)) → LeavesOnly (seen old.journal.disk) (seen k) (StandForIn 2 b h)
  summed_moments b h k w run =
      subst (λ (x : Stored D). LeavesOnly (seen x.journal.disk) (seen k) (StandForIn 2 b h)) is (run (whole b h w))

-- so many bytes are used with a summary that is in this body
pub size_is : {D : Type 0} (seen : D → DiskSeen) (j : Journal D) (s : State) (body : List ℕ) (used : ℕ)
    → ((b : Summary) (h : List Entry) → IsSpelled b → StandsFor b s h → body ≡ summary_text 2 (j.generation + 1) (summary_of b h))
    → used ≡ 22 + length body → IsSummedSize seen j s used
size_is seen j s body used spelled is b h all = is ∙ summed_long (j.generation + 1) b h body (spelled b h all.given all.stands)

-- Why none was made.

pub unmade : {D : Type 0} (seen : D → DiskSeen) (j k : Journal D) (s : State) (n : ℕ) (r : Result (Unit {0}) Stop)
    → IfErr r (λ stop. (stop ≡ Down n (seen k.disk).faults) × Rose n (seen k.disk).faults) → IfErr r (IsUnmade seen n j k s)
unmade seen j k s n (Ok x) down = tt
unmade seen j k s n (Err stop) down = subst (IsUnmade seen n j k s) (sym down.0) (refl, refl, down.1)
