-- What stands at the last sync, and each later write by the fill, is the image.
use Rattle.std.proofs.Common.{◌≡◌, ◌≤◌, ◌+◌, ℕ, true, false, List, [], ◌∷◌, ◌++◌, length, take, drop, refl, sym, ap, ◌∙◌, arith, length-append}
use Rattle.std.proofs.lemmas.List.{take_all, drop_all, take-append-le, drop-append-le}
use Rattle.arc_io.specs.KeptCalls.{done_in, filled_in, content_after, filled_after}
use Rattle.arc_io.specs.Replays.{is_sync_of, replayed, replayed_all, replayed_from}
use Rattle.arc_io.specs.declared.disk.Area.{Area}
use Rattle.arc_io.specs.declared.disk.Area.TheVariants.{A, B}
use Rattle.arc_io.specs.declared.memory.disk_kept.Kept.{Kept}
use Rattle.arc_io.specs.declared.memory.disk_kept.Deed.{Deed}
use Rattle.arc_io.specs.declared.memory.disk_kept.Deed.TheVariants as Did
use Rattle.arc_io.specs.declared.memory.disk_kept.Fill.{Fill}
use Rattle.arc_io.specs.declared.memory.disk_kept.Fill.TheVariants as With
use Rattle.arc_io.proofs.Deeds.{content-more}

-- one call more
filled-more : (area : Area) (fill : Fill) (content image : List ℕ) (past : List Kept) (k : Kept)
    → filled_after area fill content image (past ++ k ∷ []) ≡ filled_in area fill k.area k.deed (content_after area content past) (filled_after area fill content image past)
filled-more area fill content image [] k = refl
filled-more area fill content image (j ∷ past) k =
    filled-more area fill (done_in area j.area j.deed content) (filled_in area fill j.area j.deed content image) past k

replayed-more : (area : Area) (fill : Fill) (image : List ℕ) (past : List Kept) (k : Kept)
    → replayed_all area fill image (past ++ k ∷ []) ≡ replayed area fill k.area k.deed (replayed_all area fill image past)
replayed-more area fill image [] k = refl
replayed-more area fill image (j ∷ past) k = replayed-more area fill (replayed area fill j.area j.deed image) past k

-- all writes whole are the content
replayed-new : (area to : Area) (deed : Deed) (content : List ℕ) → replayed area With.New to deed content ≡ done_in area to deed content
replayed-new A A (Did.Write at bytes) content = refl
replayed-new B B (Did.Write at bytes) content = refl
replayed-new A B (Did.Write at bytes) content = refl
replayed-new B A (Did.Write at bytes) content = refl
replayed-new A A Did.Sync content = refl
replayed-new B B Did.Sync content = refl
replayed-new A B Did.Sync content = refl
replayed-new B A Did.Sync content = refl

replayed-content : (area : Area) (content : List ℕ) (past : List Kept) → replayed_all area With.New content past ≡ content_after area content past
replayed-content area content [] = refl
replayed-content area content (k ∷ past) =
    ap (λ c. replayed_all area With.New c past) (replayed-new area k.area k.deed content) ∙ replayed-content area (done_in area k.area k.deed content) past

-- what a call that is no sync of the area does to the image
filled_other : (area to : Area) (fill : Fill) (deed : Deed) (content image : List ℕ) → is_sync_of area to deed ≡ false
    → filled_in area fill to deed content image ≡ replayed area fill to deed image
filled_other A A fill (Did.Write at bytes) content image is = refl
filled_other B B fill (Did.Write at bytes) content image is = refl
filled_other A B fill (Did.Write at bytes) content image is = refl
filled_other B A fill (Did.Write at bytes) content image is = refl
filled_other A A fill Did.Sync content image is = cc
filled_other B B fill Did.Sync content image is = cc
filled_other A B fill Did.Sync content image is = refl
filled_other B A fill Did.Sync content image is = refl

-- and one that is
filled_sync : (area to : Area) (fill : Fill) (deed : Deed) (content image : List ℕ) → is_sync_of area to deed ≡ true
    → filled_in area fill to deed content image ≡ done_in area to deed content
filled_sync A A fill (Did.Write at bytes) content image is = cc
filled_sync B B fill (Did.Write at bytes) content image is = cc
filled_sync A B fill (Did.Write at bytes) content image is = cc
filled_sync B A fill (Did.Write at bytes) content image is = cc
filled_sync A A fill Did.Sync content image is = refl
filled_sync B B fill Did.Sync content image is = refl
filled_sync A B fill Did.Sync content image is = cc
filled_sync B A fill Did.Sync content image is = cc

-- the last call is a sync of the area
pub synced_now : (area : Area) (fill : Fill) (first : List ℕ) (past : List Kept) (k : Kept) (n : ℕ) → n ≡ length past + 1 → is_sync_of area k.area k.deed ≡ true
    → filled_after area fill first first (past ++ k ∷ []) ≡ replayed_from area fill first n (past ++ k ∷ [])
synced_now area fill first past k n is sync =
    let long : length (past ++ k ∷ []) ≡ n = omega (arith, length-append past (k ∷ [])) in
    filled-more area fill first first past k ∙ filled_sync area k.area fill k.deed (content_after area first past) (filled_after area fill first first past) sync
    ∙ sym (content-more area first past k) ∙ sym (replayed-content area first (past ++ k ∷ []))
    ∙ ap (λ l. replayed_all area With.New first l) (sym (take_all n (past ++ k ∷ []) (omega arith)))
    ∙ ap (λ l. replayed_all area fill (replayed_all area With.New first (take n (past ++ k ∷ []))) l) (sym (drop_all n (past ++ k ∷ []) (omega arith)))

-- the last call is another one
pub synced_before : (area : Area) (fill : Fill) (first : List ℕ) (past : List Kept) (k : Kept) (n : ℕ) → n ≤ length past → is_sync_of area k.area k.deed ≡ false
    → filled_after area fill first first past ≡ replayed_from area fill first n past
    → filled_after area fill first first (past ++ k ∷ []) ≡ replayed_from area fill first n (past ++ k ∷ [])
synced_before area fill first past k n le sync so_far =
    let safe = replayed_all area With.New first (take n past) in
    filled-more area fill first first past k ∙ filled_other area k.area fill k.deed (content_after area first past) (filled_after area fill first first past) sync
    ∙ ap (replayed area fill k.area k.deed) so_far ∙ sym (replayed-more area fill safe (drop n past) k)
    ∙ ap (λ l. replayed_all area fill safe l) (sym (drop-append-le n past (k ∷ []) le))
    ∙ ap (λ l. replayed_all area fill (replayed_all area With.New first l) (drop n (past ++ k ∷ []))) (sym (take-append-le n past (k ∷ []) le))
