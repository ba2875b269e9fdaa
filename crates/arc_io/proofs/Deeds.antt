-- What one call more that a disk in memory keeps does to its areas, and to what a crash leaves of them.
use Rattle.std.proofs.Common.{◌≡◌, ◌⊎◌, ◌≤◌, ◌+◌, ℕ, List, [], ◌∷◌, ◌++◌, length, take, refl, sym, ap, ◌∙◌, subst, inl, inr, ⊎_elim, arith, length-append}
use Rattle.std.specs.Prelude.{min, Vec}
use Rattle.std.specs.declared.alloc.Global.{Global}
use Rattle.std.proofs.lemmas.List.{take_all, take-append-le}
use Rattle.arc_io.specs.Areas.{Areas, part}
use Rattle.arc_io.specs.Crashes.{Torn, TornIn, Follows, Elapses}
use Rattle.arc_io.specs.KeptCalls.{written_in, done_in, leaves_in, content_after, left_after, IsKeptSync}
use Rattle.arc_io.specs.MemoryDisk.{seen_after, LeftBy}
use Rattle.arc_io.specs.declared.disk.Area.{Area}
use Rattle.arc_io.specs.declared.disk.Area.TheVariants.{A, B}
use Rattle.arc_io.specs.declared.memory.disk_kept.Kept.{Kept}
use Rattle.arc_io.specs.declared.memory.disk_kept.Deed.TheVariants as Did

-- the content after one call more
pub content-more : (area : Area) (content : List ℕ) (past : List Kept) (k : Kept) → content_after area content (past ++ k ∷ []) ≡ done_in area k.area k.deed (content_after area content past)
content-more area content [] k = refl
content-more area content (j ∷ past) k = content-more area (done_in area j.area j.deed content) past k

-- and what a crash leaves then
pub left-more : (area : Area) (content : List ℕ) (images : List ℕ → Type 0) (past : List Kept) (k : Kept)
    → left_after area content images (past ++ k ∷ []) ≡ leaves_in area k.area k.deed (content_after area content past) (left_after area content images past)
left-more area content images [] k = refl
left-more area content images (j ∷ past) k = left-more area (done_in area j.area j.deed content) (leaves_in area j.area j.deed content images) past k

-- a write of one area
pub content-write : (area to : Area) (content : List ℕ) (past : List Kept) (call at : ℕ) (v : Vec ℕ Global)
    → content_after area content (past ++ record { call = call; area = to; deed = Did.Write at v } ∷ []) ≡ written_in area to at v.items (content_after area content past)
content-write A A content past call at v = content-more A content past (record { call = call; area = A; deed = Did.Write at v })
content-write A B content past call at v = content-more A content past (record { call = call; area = B; deed = Did.Write at v })
content-write B A content past call at v = content-more B content past (record { call = call; area = A; deed = Did.Write at v })
content-write B B content past call at v = content-more B content past (record { call = call; area = B; deed = Did.Write at v })

-- a sync changes no content
pub content-sync : (area to : Area) (content : List ℕ) (past : List Kept) (call : ℕ)
    → content_after area content (past ++ record { call = call; area = to; deed = Did.Sync } ∷ []) ≡ content_after area content past
content-sync A A content past call = content-more A content past (record { call = call; area = A; deed = Did.Sync })
content-sync A B content past call = content-more A content past (record { call = call; area = B; deed = Did.Sync })
content-sync B A content past call = content-more B content past (record { call = call; area = A; deed = Did.Sync })
content-sync B B content past call = content-more B content past (record { call = call; area = B; deed = Did.Sync })

-- all calls and no fewer
all : (past : List Kept) → take (length past) past ≡ past
all past = take_all (length past) past (omega arith)

whole : (fa fb : List ℕ) (past : List Kept) (c : Areas) → LeftBy fa fb (take (length past) past) c → LeftBy fa fb past c
whole fa fb past c left = subst (λ (l : List Kept). LeftBy fa fb l c) (all past) left

unwhole : (fa fb : List ℕ) (past : List Kept) (c : Areas) → LeftBy fa fb past c → LeftBy fa fb (take (length past) past) c
unwhole fa fb past c left = subst (λ (l : List Kept). LeftBy fa fb l c) (sym (all past)) left

module _ (fa fb : List ℕ) (past after : List Kept) where
  -- time goes on by the call
  pub elapses : (k : Kept) → after ≡ past ++ k ∷ [] → (bytes bytes' : Areas) (faults faults' : ℕ)
      → Elapses (seen_after bytes fa fb past faults) (seen_after bytes' fa fb after faults')
  elapses k is bytes bytes' faults faults' =
      let more : length after ≡ length past + 1 = omega (arith, ap length is, length-append past (k ∷ [])) in
      let same : (n : ℕ) → n ≤ length past → take n after ≡ take n past = λ n le. ap (take n) is ∙ take-append-le n past (k ∷ []) le in
      record {
        later = omega arith;
        nothing_else = λ t c le left. ⊎_elim
            (λ (few : left.0 ≤ length past). inl (left.0, left.1, few, subst (λ (l : List Kept). LeftBy fa fb l c) (same left.0 few) left.3))
            (λ (last : left.0 ≡ length after). inr (subst (λ (n : ℕ). LeftBy fa fb (take n after) c) last left.3))
            (at_most left.0 (length past) (length after) more left.2);
        keeps = λ t c le left. (left.0, left.1, omega (arith, left.2), subst (λ (l : List Kept). LeftBy fa fb l c) (sym (same left.0 left.2)) left.3);
      }
    where
      at_most : (k n m : ℕ) → m ≡ n + 1 → k ≤ m → (k ≤ n) ⊎ (k ≡ m)
      at_most k n m is le = elim (Rattle.std.proofs.lemmas.Bool.cases_eq k m) [ inl e ↦ inr e | inr ne ↦ inl (omega arith) ]

  -- what a crash leaves after a write
  pub crash_write : (area : Area) (call at n : ℕ) (v : Vec ℕ Global) → length v.items ≡ n → after ≡ past ++ record { call = call; area = area; deed = Did.Write at v } ∷ []
      → at ≤ length (part area (record { a = content_after A fa past; b = content_after B fb past }))
      → Follows (TornIn area at n) (LeftBy fa fb (take (length past) past)) (LeftBy fa fb (take (length after) after))
  crash_write A call at n v size is within c left =
      let both = subst (λ (l : List Kept). LeftBy fa fb l c) is (whole fa fb after c left) in
      let k : Kept = record { call = call; area = A; deed = Did.Write at v } in
      let here = subst (λ (P : List ℕ → Type 0). P c.a) (left-more A fa (λ x. x ≡ fa) past k) both.0 in
      let there = subst (λ (P : List ℕ → Type 0). P c.b) (left-more B fb (λ x. x ≡ fb) past k) both.1 in
      let place : min at (length (content_after A fa past)) ≡ at = omega arith in (
        record { a = here.0; b = c.b },
        unwhole fa fb past (record { a = here.0; b = c.b }) (here.1, there),
        (subst (λ (m : ℕ). Torn m n here.0 c.a) place (subst (λ (m : ℕ). Torn (min at (length (content_after A fa past))) m here.0 c.a) size here.2), refl),
      )
  crash_write B call at n v size is within c left =
      let both = subst (λ (l : List Kept). LeftBy fa fb l c) is (whole fa fb after c left) in
      let k : Kept = record { call = call; area = B; deed = Did.Write at v } in
      let there = subst (λ (P : List ℕ → Type 0). P c.a) (left-more A fa (λ x. x ≡ fa) past k) both.0 in
      let here = subst (λ (P : List ℕ → Type 0). P c.b) (left-more B fb (λ x. x ≡ fb) past k) both.1 in
      let place : min at (length (content_after B fb past)) ≡ at = omega arith in (
        record { a = c.a; b = here.0 },
        unwhole fa fb past (record { a = c.a; b = here.0 }) (there, here.1),
        (subst (λ (m : ℕ). Torn m n here.0 c.b) place (subst (λ (m : ℕ). Torn (min at (length (content_after B fb past))) m here.0 c.b) size here.2), refl),
      )

  -- and after a sync: nothing new, and of the area its content alone
  pub crash_sync : (area : Area) (call : ℕ) → IsKeptSync past after call area → (c : Areas) → LeftBy fa fb (take (length after) after) c
      → LeftBy fa fb (take (length past) past) c × (part area c ≡ part area (record { a = content_after A fa past; b = content_after B fb past }))
  crash_sync A call is c left =
      let both = subst (λ (l : List Kept). LeftBy fa fb l c) is (whole fa fb after c left) in
      let k : Kept = record { call = call; area = A; deed = Did.Sync } in
      let here = subst (λ (P : List ℕ → Type 0). P c.a) (left-more A fa (λ x. x ≡ fa) past k) both.0 in
      let there = subst (λ (P : List ℕ → Type 0). P c.b) (left-more B fb (λ x. x ≡ fb) past k) both.1 in
      (unwhole fa fb past c (here.0, there), here.1)
  crash_sync B call is c left =
      let both = subst (λ (l : List Kept). LeftBy fa fb l c) is (whole fa fb after c left) in
      let k : Kept = record { call = call; area = B; deed = Did.Sync } in
      let there = subst (λ (P : List ℕ → Type 0). P c.a) (left-more A fa (λ x. x ≡ fa) past k) both.0 in
      let here = subst (λ (P : List ℕ → Type 0). P c.b) (left-more B fb (λ x. x ≡ fb) past k) both.1 in
      (unwhole fa fb past c (there, here.0), here.1)
