-- What both areas of a disk stand for. One of them is chosen, by their bytes; what stands in the other one means nothing.
use Rattle.std.specs.Prelude.{◌≡◌, ◌≢◌, ◌⊎◌, ◌≤◌, ◌-◌, ◌&&◌, ◌||◌, ℕ, Bool, true, false, List, [], ◌∷◌, ◌++◌, length, take, drop}
use Rattle.std.specs.Prelude.{slice_index, slice_index_or, if◌then◌else◌, nat_eq, nat_lt, Option, Some, None, is_some}
use Rattle.std.specs.Int.{from_be_bytes, w64}
use Rattle.std.specs.Str.{bytes_eq}
use Rattle.arc_io.specs.Areas.{Areas, part, rest}
use Rattle.arc_io.specs.declared.disk.Area.{Area}
use Rattle.arc_io.specs.declared.disk.Area.TheVariants.{A, B}
use Rattle.disk_journal.specs.Records.{head_of, tag, Stands, size}

-- the bytes are the head of a version
abbrev pub is_head : List ℕ → Bool
is_head bytes = bytes_eq bytes (head_of 1) || bytes_eq bytes (head_of 2)

-- An area is live: it has at least 30 bytes, the head of a version, an open gate at place 16, and 0B at place 21, where its first body
-- begins.
unfoldable pub is_live : List ℕ → Bool
is_live bytes = nat_lt 29 (length bytes)
    && (is_head (take 16 bytes) && (nat_eq (slice_index bytes 16) 1 && nat_eq (slice_index bytes 21) tag))

-- the number in bytes 22 to 29
unfoldable pub generation_of : List ℕ → ℕ
generation_of bytes = from_be_bytes w64 (take 8 (drop 22 bytes))

-- the number in the last digit of the head
unfoldable pub version_of : List ℕ → ℕ
version_of bytes = slice_index bytes 15 - 48

-- of two areas, live or not, with these generations: the live one of the greater, B where both are equal, and A where none is live
abbrev pub choice : Bool → Bool → ℕ → ℕ → Area
choice true true of_a of_b = if nat_lt of_b of_a then A else B
choice true false of_a of_b = A
choice false true of_a of_b = B
choice false false of_a of_b = A

-- the area that counts
unfoldable pub chosen : Areas → Area
chosen areas = choice (is_live areas.a) (is_live areas.b) (generation_of areas.a) (generation_of areas.b)

-- the one that doesn't
abbrev pub other_of : Area → Area
other_of A = B
other_of B = A

-- the bytes of the chosen one
abbrev pub chosen_part : Areas → List ℕ
chosen_part areas = part (chosen areas) areas

-- the bodies that stand in an area: that of the summary, where there is one, and those of the records behind it
abbrev pub all_of : Option (List ℕ) → List (List ℕ) → List (List ℕ)
all_of None bodies = bodies
all_of (Some summary) bodies = summary ∷ bodies

-- Both areas stand for the body of a summary, or none, and these bodies, of a version: there is a summary exactly where the chosen area is
-- live, and then it is the first body there.
abbrev pub AreasStand : Areas → ℕ → Option (List ℕ) → List (List ℕ) → Type 0
AreasStand areas version summary bodies =
    (is_live (chosen_part areas) ≡ is_some summary) × Stands version (chosen_part areas) (all_of summary bodies)

-- of the bodies that stand in an area, live or not, that of the summary, and those of the records
abbrev pub summary_in : Bool → List (List ℕ) → Option (List ℕ)
summary_in true (body ∷ bodies) = Some body
summary_in true [] = None
summary_in false bodies = None

abbrev pub records_in : Bool → List (List ℕ) → List (List ℕ)
records_in true (body ∷ bodies) = bodies
records_in true [] = []
records_in false bodies = bodies

-- the place of the closed gate behind them, plus 1
abbrev pub size_of : Option (List ℕ) → List (List ℕ) → ℕ
size_of summary bodies = size (all_of summary bodies)

-- the generation that the areas have: 0 where none is live
abbrev pub generation_now : Areas → ℕ
generation_now areas = if is_live (chosen_part areas) then generation_of (chosen_part areas) else 0

-- the version that the areas have: an area that has no record yet gets the second
abbrev pub version_now : Areas → ℕ
version_now areas = if nat_lt 17 (length (chosen_part areas)) then version_of (chosen_part areas) else 2

-- the generation in the body of a summary, and 0 without one
abbrev pub generation_in : Option (List ℕ) → ℕ
generation_in None = 0
generation_in (Some summary) = from_be_bytes w64 (take 8 (drop 1 summary))

-- The body of the summary begins with 0B and has its generation in it; without a summary the first body begins with another byte. Of any
-- other bodies an area's first 30 bytes can't tell: those of a further record would be read as its generation, or make it live.
abbrev pub IsDistinct : Option (List ℕ) → List (List ℕ) → Type 0
IsDistinct None bodies = slice_index (slice_index_or bodies 0 []) 0 ≢ tag
IsDistinct (Some summary) bodies = (slice_index summary 0 ≡ tag) × (9 ≤ length summary)

-- whatever the first areas stand for, the second stand for, too
abbrev pub GoesOn : Areas → Areas → Type 0
GoesOn before after =
    (version : ℕ) (summary : Option (List ℕ)) (bodies : List (List ℕ)) → AreasStand before version summary bodies
    → AreasStand after version summary bodies

-- the areas stand for this, or for it with these bodies more, all of them
abbrev pub StandsForSet : ℕ → Option (List ℕ) → List (List ℕ) → List (List ℕ) → Areas → Type 0
StandsForSet version summary bodies further areas =
    AreasStand areas version summary bodies ⊎ AreasStand areas version summary (bodies ++ further)

-- the areas stand for this, or for it with one body more
abbrev pub StandsForEither : ℕ → Option (List ℕ) → List (List ℕ) → List ℕ → Areas → Type 0
StandsForEither version summary bodies body areas = StandsForSet version summary bodies (body ∷ []) areas

-- the areas stand for this, or for a new summary of the second version and no bodies
abbrev pub StandsForTurn : ℕ → Option (List ℕ) → List (List ℕ) → List ℕ → Areas → Type 0
StandsForTurn version summary bodies next areas = AreasStand areas version summary bodies ⊎ AreasStand areas 2 (Some next) []

-- of two states of a disk: the area that isn't chosen in the first is the same in the second
abbrev pub IsOtherSame : Areas → Areas → Type 0
IsOtherSame before after = rest (chosen before) after ≡ rest (chosen before) before

-- and the chosen one is the same behind its first bytes, so many
abbrev pub IsSameBehind : ℕ → Areas → Areas → Type 0
IsSameBehind n before after = drop n (part (chosen before) after) ≡ drop n (part (chosen before) before)
