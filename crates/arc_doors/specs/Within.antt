-- The law of a door in memory: no more links are got back than were given.
use Rattle.std.specs.Prelude.{◌≤◌, Some, length, map}
use Rattle.std.proofs.Common.{sym, ◌∙◌, subst}
use Rattle.std.proofs.lemmas.List.{length-map}
use Rattle.arc_io.specs.declared.traits.Ends.{Ghosts}
use Rattle.arc_doors.specs.Doors.{IsBackWithin}
use Rattle.arc_doors.specs.Memory.{door_links}
use Rattle.arc_doors.specs.declared.memory.door.MemDoor.{MemDoor}

-- what it tells is as long as its lists
pub back_within : {P : Type 0} {G : Ghosts P} (d : MemDoor P G) → IsBackWithin (Some (door_links d))
back_within {G} d =
    subst (λ n. n ≤ length (door_links d).given) (sym (length-map d.back.items G.seen))
    (subst (λ n. length d.back.items ≤ n)
    (sym (length-map (map (λ s. s.value) d.given.items) G.seen ∙ length-map d.given.items (λ s. s.value))) d.within)
