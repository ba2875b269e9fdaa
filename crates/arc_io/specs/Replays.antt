-- How an image is worked out: the content at the area's last sync, and then each later write as the fill has it.
use Rattle.std.specs.Prelude.{ℕ, Bool, true, false, List, [], ◌∷◌, take, drop}
use Rattle.arc_io.specs.KeptCalls.{filled_write}
use Rattle.arc_io.specs.declared.disk.Area.{Area}
use Rattle.arc_io.specs.declared.disk.Area.TheVariants.{A, B}
use Rattle.arc_io.specs.declared.memory.disk_kept.Kept.{Kept}
use Rattle.arc_io.specs.declared.memory.disk_kept.Deed.{Deed}
use Rattle.arc_io.specs.declared.memory.disk_kept.Deed.TheVariants as Did
use Rattle.arc_io.specs.declared.memory.disk_kept.Fill.{Fill}
use Rattle.arc_io.specs.declared.memory.disk_kept.Fill.TheVariants as With

-- a sync of the area
abbrev pub is_sync_of : Area → Area → Deed → Bool
is_sync_of A A Did.Sync = true
is_sync_of B B Did.Sync = true
is_sync_of A B Did.Sync = false
is_sync_of B A Did.Sync = false
is_sync_of area to (Did.Write at bytes) = false

-- a write of the area as the fill has it, and nothing else
abbrev pub replayed : Area → Fill → Area → Deed → List ℕ → List ℕ
replayed A fill A (Did.Write at bytes) image = filled_write fill at bytes.items image
replayed B fill B (Did.Write at bytes) image = filled_write fill at bytes.items image
replayed A fill B (Did.Write at bytes) image = image
replayed B fill A (Did.Write at bytes) image = image
replayed area fill to Did.Sync image = image

-- all of these calls
abbrev pub replayed_all : Area → Fill → List ℕ → List Kept → List ℕ
replayed_all area fill image [] = image
replayed_all area fill image (k ∷ past) = replayed_all area fill (replayed area fill k.area k.deed image) past

-- the first n calls whole, and the others as the fill has them
abbrev pub replayed_from : Area → Fill → List ℕ → ℕ → List Kept → List ℕ
replayed_from area fill first n past = replayed_all area fill (replayed_all area With.New first (take n past)) (drop n past)
