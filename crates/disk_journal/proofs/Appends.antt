-- What each step of an append leaves of both areas.
use Rattle.std.proofs.Common.{◌≡◌, ◌≤◌, ◌+◌, ◌-◌, ℕ, List, [], ◌∷◌, ◌++◌, length, take, drop, Option, sym, ap, ◌∙◌, subst, inl, inr, ⊎_elim, arith}
use Rattle.arc_io.specs.Areas.{Areas, part, rest}
use Rattle.std.specs.Prelude.{IfSome, Some, None}
use Rattle.arc_io.specs.Disks.{DiskSeen}
use Rattle.arc_io.specs.Crashes.{TornIn, IsWritten, Becomes, LeavesOnly}
use Rattle.arc_io.proofs.Moments.{started}
use Rattle.arc_io.specs.declared.disk.Area.{Area}
use Rattle.disk_journal.specs.Records.{AtRest, AreLaid, HaveSizes, size}
use Rattle.disk_journal.specs.Journal.{IsAtRestIn, HasBodies, Keeps}
use Rattle.disk_journal.specs.Standing.{IsDistinct, all_of, size_of, StandsForSet}
use Rattle.disk_journal.proofs.Gates.{Staged, staged, staged_rests, torn_behind, torn_gate, opened, rest_place, size-least, sizes-all}
use Rattle.disk_journal.proofs.Chosen.{rest_again, rest_stands, all_further}
use Rattle.disk_journal.proofs.Steps.{file_at}

-- of an area at rest with these bodies
module _ (area : Area) (version : ℕ) (bodies : List (List ℕ)) (laid : List ℕ) (used : ℕ) (is : used ≡ size bodies) where
  pub flat_within : (t : Areas) → HasBodies area version bodies t → used ≤ length (part area t)
  flat_within t at = rest_place version bodies used (part area t) is at

  -- its sizes, and what is staged
  pub record IsFlatStaged (m : Areas) : Type 0 where
    pub sizes : HaveSizes bodies
    pub staged_is : Staged version bodies laid (part area m)

  pub flat_step : (t m : Areas) → HasBodies area version bodies t → IsWritten area used laid t m → IsFlatStaged m
  flat_step t m at written = record { sizes = at.sizes; staged_is = staged version bodies laid used (part area t) (part area m) is at written.0 }

  pub flat_gate : (m : Areas) → IsFlatStaged m → used - 1 ≤ length (part area m)
  flat_gate m st = omega (arith, rest_place version bodies used (part area m) is (staged_rests version bodies laid (part area m) st.sizes st.staged_is))

  pub flat_last : (further : List (List ℕ)) → AreLaid further laid → (m n : Areas) → IsFlatStaged m → IsWritten area (used - 1) (1 ∷ []) m n → HasBodies area version (bodies ++ further) n
  flat_last further are m n st written =
      opened version bodies further laid st.sizes (sizes-all bodies further st.sizes are.sizes) are.is (used - 1) (part area m) (part area n) (omega (arith, is, size-least bodies)) st.staged_is written.0

-- behind the closed gate of the chosen area stands all that was laid
pub record IsStagedIn (area : Area) (version : ℕ) (summary : Option (List ℕ)) (bodies : List (List ℕ)) (laid : List ℕ) (areas : Areas) : Type 0 where
  pub rests : IsAtRestIn area version summary bodies areas
  pub staged_is : Staged version (all_of summary bodies) laid (part area areas)

module _ (area : Area) (version : ℕ) (summary : Option (List ℕ)) (bodies : List (List ℕ)) (laid : List ℕ) (used : ℕ) (distinct : IsDistinct summary bodies)
    (is : used ≡ size_of summary bodies) where
  first_step : (n : ℕ) (t c : Areas) → IsAtRestIn area version summary bodies t → TornIn area used n t c → IsAtRestIn area version summary bodies c
  first_step n t c at torn =
      rest_again area version summary bodies bodies t c distinct distinct at torn.1 (torn_behind version (all_of summary bodies) used n (part area t) (part area c) is at.at_rest torn.0)

  pub staged_step : (t m : Areas) → IsAtRestIn area version summary bodies t → IsWritten area used laid t m → IsStagedIn area version summary bodies laid m
  staged_step t m at written =
      let st = staged version (all_of summary bodies) laid used (part area t) (part area m) is at.at_rest written.0 in
      record {
        rests = rest_again area version summary bodies bodies t m distinct distinct at written.1 (staged_rests version (all_of summary bodies) laid (part area m) at.at_rest.sizes st);
        staged_is = st;
      }

  at_gate : used - 1 + 1 ≡ size_of summary bodies
  at_gate = omega (arith, is, size-least (all_of summary bodies))

  module _ (further : List (List ℕ)) (are : AreLaid further laid) (distinct_more : IsDistinct summary (bodies ++ further)) where
    more_rests : (m c : Areas) → IsStagedIn area version summary bodies laid m → rest area c ≡ rest area m → AtRest version (part area c) (all_of summary bodies ++ further)
        → IsAtRestIn area version summary (bodies ++ further) c
    more_rests m c st same at =
        rest_again area version summary bodies (bodies ++ further) m c distinct distinct_more st.rests same
        (subst (λ (l : List (List ℕ)). AtRest version (part area c) l) (sym (all_further summary bodies further)) at)

    sizes_more : (m : Areas) → IsStagedIn area version summary bodies laid m → HaveSizes (all_of summary bodies ++ further)
    sizes_more m st = sizes-all (all_of summary bodies) further st.rests.at_rest.sizes are.sizes

    pub second_step : (m c : Areas) → IsStagedIn area version summary bodies laid m → TornIn area (used - 1) 1 m c → StandsForSet version summary bodies further c
    second_step m c st torn =
        let flat = all_of summary bodies in
        ⊎_elim
        (λ (r : AtRest version (part area c) flat). inl (rest_stands area version summary bodies c distinct (rest_again area version summary bodies bodies m c distinct distinct st.rests torn.1 r)))
        (λ (r : AtRest version (part area c) (flat ++ further)). inr (rest_stands area version summary (bodies ++ further) c distinct_more (more_rests m c st torn.1 r)))
        (torn_gate version flat further laid st.rests.at_rest.sizes (sizes_more m st) are.is (used - 1) (part area m) (part area c) at_gate st.staged_is torn.0)

    pub last_step : (m n : Areas) → IsStagedIn area version summary bodies laid m → IsWritten area (used - 1) (1 ∷ []) m n → IsAtRestIn area version summary (bodies ++ further) n
    last_step m n st written =
        more_rests m n st written.1
        (opened version (all_of summary bodies) further laid st.rests.at_rest.sizes (sizes_more m st) are.is (used - 1) (part area m) (part area n) at_gate st.staged_is written.0)

    pub first_stands : (n : ℕ) (t c : Areas) → IsAtRestIn area version summary bodies t → TornIn area used n t c → StandsForSet version summary bodies further c
    first_stands n t c at torn = inl (rest_stands area version summary bodies c distinct (first_step n t c at torn))

-- where nothing was done
pub still_moments : (disk : DiskSeen) (area : Area) (version : ℕ) (summary : Option (List ℕ)) (bodies further : List (List ℕ)) → Keeps disk area version summary bodies
    → ((c : Areas) → disk.left_since disk.moment c → disk.may_leave c) → LeavesOnly disk disk (StandsForSet version summary bodies further)
still_moments disk area version summary bodies further h only_now = started disk (StandsForSet version summary bodies further)
    (λ c left. inl (rest_stands area version summary bodies c h.distinct (file_at (IsAtRestIn area version summary bodies) disk.told c (h.settled c (only_now c left)) h.file)))

pub still_told : (disk : DiskSeen) (area : Area) (version : ℕ) (summary : Option (List ℕ)) (bodies further : List (List ℕ)) → Keeps disk area version summary bodies
    → Becomes disk.told disk.told (λ _ t. StandsForSet version summary bodies further t)
still_told disk area version summary bodies further h = from disk.told h.file
  where
    from : (o : Option Areas) → IfSome o (IsAtRestIn area version summary bodies) → Becomes o o (λ _ t. StandsForSet version summary bodies further t)
    from None file = tt
    from (Some s) file = inl (rest_stands area version summary bodies s h.distinct file)
