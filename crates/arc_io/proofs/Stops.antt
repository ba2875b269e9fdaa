-- What a stop leaves is one of the images.
use Rattle.std.proofs.Common.{◌≡◌, ◌≤◌, ◌+◌, ◌-◌, ℕ, List, [], ◌∷◌, ◌++◌, length, take, drop, replicate, refl, sym, ap, ◌∙◌, subst, arith, length-append}
use Rattle.std.specs.Prelude.{min}
use Rattle.std.proofs.lemmas.List.{length-replicate, length-take, length-drop}
use Rattle.std.proofs.lemmas.Bool.Decides.{nat_tests}
use Rattle.arc_io.specs.Crashes.{Torn}
use Rattle.arc_io.specs.KeptCalls.{written, done, leaves, done_in, leaves_in, filled, filled_in, filled_after, left_after, below, stop_at, counts_own}
use Rattle.arc_io.specs.declared.disk.Area.{Area}
use Rattle.arc_io.specs.declared.disk.Area.TheVariants.{A, B}
use Rattle.arc_io.specs.declared.memory.disk_kept.Kept.{Kept}
use Rattle.arc_io.specs.declared.memory.disk_kept.Deed.{Deed}
use Rattle.arc_io.specs.declared.memory.disk_kept.Deed.TheVariants as Did
use Rattle.arc_io.specs.declared.memory.disk_kept.Fill.{Fill}
use Rattle.arc_io.specs.declared.memory.disk_kept.Fill.TheVariants as With
use Rattle.arc_io.specs.Areas.{Areas}
use Rattle.arc_io.specs.MemoryDisk.{LeftBy, LeftWithin, stopped_bytes}
use Rattle.arc_io.specs.declared.memory.disk.MemDisk.{MemDisk}
use Rattle.arc_io.proofs.Moments.{written_torn_in}

-- how the filled image goes with the content
abbrev IsWith : Fill → List ℕ → List ℕ → Type 0
IsWith With.Old content image = Unit {0}
IsWith With.New content image = image ≡ content
IsWith (With.Torn byte) content image = length image ≡ length content

length-written : (at : ℕ) (bytes old : List ℕ) → length (written at bytes old) ≡ min at (length old) + length bytes + (length old - (min at (length old) + length bytes))
length-written at bytes old =
    length-append (take (min at (length old)) old ++ bytes) (drop (min at (length old) + length bytes) old)
    ∙ ap (λ n. n + length (drop (min at (length old) + length bytes) old)) (length-append (take (min at (length old)) old) bytes ∙ ap (λ n. n + length bytes) (length-take (min at (length old)) old ∙ omega arith))
    ∙ ap (λ n. min at (length old) + length bytes + n) (length-drop (min at (length old) + length bytes) old)

-- a write that goes to the image as to the content is one of the things that a torn write may leave
written_image : (at : ℕ) (bytes other image : List ℕ) (long : ℕ) → length image ≡ long → length other ≡ length bytes → Torn (min at long) (length bytes) image (written at other image)
written_image at bytes other image long same size =
    subst (λ (n : ℕ). Torn (min at long) n image (written at other image)) size
    (subst (λ (l : ℕ). Torn (min at l) (length other) image (written at other image)) same (written_torn_in (min at (length image)) other image (written at other image) (omega arith) refl))

torn_none : (at n : ℕ) (image : List ℕ) → Torn at n image image
torn_none at n image = record { before = refl; after = refl; no_shorter = omega arith; no_longer = omega arith }

-- one deed: the image, the content and how they go together
image_step : (fill : Fill) (deed : Deed) (content image : List ℕ) (images : List ℕ → Type 0) → images image → images content → IsWith fill content image → leaves deed content images (filled fill deed content image)
image_step fill Did.Sync content image images left has goes = (has, refl)
image_step With.Old (Did.Write at v) content image images left has goes = (image, left, torn_none (min at (length content)) (length v.items) image)
image_step With.New (Did.Write at v) content image images left has goes = (image, left, written_image at v.items v.items image (length content) (ap length goes) refl)
image_step (With.Torn byte) (Did.Write at v) content image images left has goes = (image, left, written_image at v.items (replicate (length v.items) byte) image (length content) goes (length-replicate (length v.items) byte))

content_step : (deed : Deed) (content : List ℕ) (images : List ℕ → Type 0) → images content → leaves deed content images (done deed content)
content_step Did.Sync content images has = (has, refl)
content_step (Did.Write at v) content images has = (content, has, written_image at v.items v.items content (length content) refl refl)

goes_step : (fill : Fill) (deed : Deed) (content image : List ℕ) → IsWith fill content image → IsWith fill (done deed content) (filled fill deed content image)
goes_step With.Old deed content image goes = tt
goes_step With.New Did.Sync content image goes = refl
goes_step With.New (Did.Write at v) content image goes = ap (written at v.items) goes
goes_step (With.Torn byte) Did.Sync content image goes = refl
goes_step (With.Torn byte) (Did.Write at v) content image goes =
    length-written at (replicate (length v.items) byte) image
    ∙ ap (λ n. min at (length image) + n + (length image - (min at (length image) + n))) (length-replicate (length v.items) byte)
    ∙ ap (λ n. min at n + length v.items + (n - (min at n + length v.items))) goes
    ∙ sym (length-written at v.items content)

-- the same where the deed may be of the other area
record Stepped (fill : Fill) (content image : List ℕ) (images : List ℕ → Type 0) : Type 0 where
  left : images image
  has : images content
  goes : IsWith fill content image

in_step : (area to : Area) (fill : Fill) (deed : Deed) (content image : List ℕ) (images : List ℕ → Type 0) → Stepped fill content image images
    → Stepped fill (done_in area to deed content) (filled_in area fill to deed content image) (leaves_in area to deed content images)
in_step A A fill deed content image images h = record { left = image_step fill deed content image images h.left h.has h.goes; has = content_step deed content images h.has; goes = goes_step fill deed content image h.goes }
in_step B B fill deed content image images h = record { left = image_step fill deed content image images h.left h.has h.goes; has = content_step deed content images h.has; goes = goes_step fill deed content image h.goes }
in_step A B fill deed content image images h = h
in_step B A fill deed content image images h = h

-- after all of the calls
left_filled : (area : Area) (fill : Fill) (content image : List ℕ) (images : List ℕ → Type 0) (past : List Kept) → Stepped fill content image images
    → left_after area content images past (filled_after area fill content image past)
left_filled area fill content image images [] h = h.left
left_filled area fill content image images (k ∷ past) h =
    left_filled area fill (done_in area k.area k.deed content) (filled_in area fill k.area k.deed content image) (leaves_in area k.area k.deed content images) past (in_step area k.area fill k.deed content image images h)

at_first : (area : Area) (fill : Fill) (first : List ℕ) (past : List Kept) → left_after area first (λ x. x ≡ first) past (filled_after area fill first first past)
at_first area fill first past = left_filled area fill first first (λ x. x ≡ first) past (record { left = refl; has = refl; goes = same fill })
  where
    same : (fill : Fill) → IsWith fill first first
    same With.Old = tt
    same With.New = refl
    same (With.Torn byte) = refl

-- a stop is within the call
own_bound : (n call : ℕ) (deed : Deed) → counts_own n call deed ≤ 1
own_bound n call Did.Sync = omega arith
own_bound n call (Did.Write at v) = grind (arith, nat_tests)

pub not_before : (n : ℕ) (past : List Kept) → below n past ≤ stop_at n past
not_before n [] = omega arith
not_before n (k ∷ past) = let h = not_before n past in grind (arith, nat_tests)

pub not_after : (n : ℕ) (past : List Kept) → stop_at n past ≤ below (n + 1) past
not_after n [] = omega arith
not_after n (k ∷ past) = let h = not_after n past in after_own k.deed h
  where
    after_own : (deed : Deed) → stop_at n past ≤ below (n + 1) past → stop_at n (record { call = k.call; area = k.area; deed = deed } ∷ past) ≤ below (n + 1) (k ∷ past)
    after_own Did.Sync h = grind (arith, nat_tests)
    after_own (Did.Write at v) h = grind (arith, nat_tests)

-- so the image by any fill is one that a stop within the call leaves
pub stopped_left : (d : MemDisk) (n : ℕ) (fill : Fill) (c : Areas) → c ≡ stopped_bytes d n fill → LeftWithin d n c
stopped_left d n fill c is =
    let past = take (stop_at n d.past.items) d.past.items in
    record {
      moment = stop_at n d.past.items;
      not_before = not_before n d.past.items;
      not_after = not_after n d.past.items;
      left = subst (LeftBy d.first_a.items d.first_b.items past) (sym is) (at_first A fill d.first_a.items past, at_first B fill d.first_b.items past);
    }
