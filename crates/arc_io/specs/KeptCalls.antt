-- The calls that a disk in memory has kept, and what a crash after some of them leaves. The oldest call is the first.
use Rattle.std.specs.Prelude.{◌≡◌, ◌+◌, ℕ, min, List, [], ◌∷◌, ◌++◌, length, take, drop, replicate, if◌then◌else◌, nat_lt, nat_eq, Vec}
use Rattle.std.specs.declared.alloc.Global.{Global}
use Rattle.arc_io.specs.declared.disk.Area.{Area}
use Rattle.arc_io.specs.declared.disk.Area.TheVariants.{A, B}
use Rattle.arc_io.specs.declared.memory.disk_kept.Kept.{Kept}
use Rattle.arc_io.specs.declared.memory.disk_kept.Deed.{Deed}
use Rattle.arc_io.specs.declared.memory.disk_kept.Deed.TheVariants as Did
use Rattle.arc_io.specs.declared.memory.disk_kept.Fill.{Fill}
use Rattle.arc_io.specs.declared.memory.disk_kept.Fill.TheVariants as With
use Rattle.arc_io.specs.Crashes.{Torn}

-- the bytes at this place; past the end, at the end
abbrev pub written : ℕ → List ℕ → List ℕ → List ℕ
written at bytes old = take (min at (length old)) old ++ bytes ++ drop (min at (length old) + length bytes) old

-- the same, where this is the area
abbrev pub written_in : Area → Area → ℕ → List ℕ → List ℕ → List ℕ
written_in A A at bytes old = written at bytes old
written_in B B at bytes old = written at bytes old
written_in A B at bytes old = old
written_in B A at bytes old = old

-- what the deed makes of an area's content
abbrev pub done : Deed → List ℕ → List ℕ
done (Did.Write at bytes) content = written at bytes.items content
done Did.Sync content = content

-- what a crash may leave after the deed, by what it might have left before it
abbrev pub leaves : Deed → List ℕ → (List ℕ → Type 0) → List ℕ → Type 0
leaves (Did.Write at bytes) content images c = (d : List ℕ) × images d × Torn (min at (length content)) (length bytes.items) d c
leaves Did.Sync content images c = images c × (c ≡ content)

-- a deed of the one area does nothing to the other
abbrev pub done_in : Area → Area → Deed → List ℕ → List ℕ
done_in A A deed content = done deed content
done_in B B deed content = done deed content
done_in A B deed content = content
done_in B A deed content = content

abbrev pub leaves_in : Area → Area → Deed → List ℕ → (List ℕ → Type 0) → List ℕ → Type 0
leaves_in A A deed content images = leaves deed content images
leaves_in B B deed content images = leaves deed content images
leaves_in A B deed content images = images
leaves_in B A deed content images = images

-- the area's content after these calls
abbrev pub content_after : Area → List ℕ → List Kept → List ℕ
content_after area content [] = content
content_after area content (k ∷ past) = content_after area (done_in area k.area k.deed content) past

-- what a crash after these calls may leave there
abbrev pub left_after : Area → List ℕ → (List ℕ → Type 0) → List Kept → List ℕ → Type 0
left_after area content images [] = images
left_after area content images (k ∷ past) =
    left_after area (done_in area k.area k.deed content) (leaves_in area k.area k.deed content images) past

-- of a write that was not yet synced: nothing, all, or one byte at each place, at the greatest length
abbrev pub filled_write : Fill → ℕ → List ℕ → List ℕ → List ℕ
filled_write With.Old at bytes image = image
filled_write With.New at bytes image = written at bytes image
filled_write (With.Torn byte) at bytes image = written at (replicate (length bytes) byte) image

-- what the deed makes of an area's image
abbrev pub filled : Fill → Deed → List ℕ → List ℕ → List ℕ
filled fill (Did.Write at bytes) content image = filled_write fill at bytes.items image
filled fill Did.Sync content image = content

abbrev pub filled_in : Area → Fill → Area → Deed → List ℕ → List ℕ → List ℕ
filled_in A fill A deed content image = filled fill deed content image
filled_in B fill B deed content image = filled fill deed content image
filled_in A fill B deed content image = image
filled_in B fill A deed content image = image

-- the image that a stop after these calls leaves of an area
abbrev pub filled_after : Area → Fill → List ℕ → List ℕ → List Kept → List ℕ
filled_after area fill content image [] = image
filled_after area fill content image (k ∷ past) =
    filled_after area fill (done_in area k.area k.deed content) (filled_in area fill k.area k.deed content image) past

-- how many of the first calls have numbers below n
abbrev pub below : ℕ → List Kept → ℕ
below n [] = 0
below n (k ∷ past) = if nat_lt k.call n then 1 + below n past else 0

-- the write was kept, with its number
abbrev pub IsKeptWrite : List Kept → List Kept → ℕ → Area → ℕ → List ℕ → Type 0
IsKeptWrite before after call area at bytes =
    (v : Vec ℕ Global) × (v.items ≡ bytes) × (after ≡ before ++ record { call = call; area = area; deed = Did.Write at v } ∷ [])

-- the sync was kept, with its number
abbrev pub IsKeptSync : List Kept → List Kept → ℕ → Area → Type 0
IsKeptSync before after call area = after ≡ before ++ record { call = call; area = area; deed = Did.Sync } ∷ []

-- a stop within the call of number n lets so many of the first calls count: those before it, and it too where it wrote
abbrev pub counts_own : ℕ → ℕ → Deed → ℕ
counts_own n call (Did.Write at bytes) = if nat_eq call n then 1 else 0
counts_own n call Did.Sync = 0

abbrev pub stop_at : ℕ → List Kept → ℕ
stop_at n [] = 0
stop_at n (k ∷ past) = if nat_lt k.call n then 1 + stop_at n past else counts_own n k.call k.deed
