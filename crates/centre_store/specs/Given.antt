-- What the areas of a disk give: a summary, and what was recorded over it; and what a journal over them has.
use Rattle.std.specs.Prelude.{◌≡◌, ◌≤◌, ◌+◌, ◌++◌, ℕ, List, length, Option, Some, None, IfSome}
use Rattle.arc_io.specs.Areas.{Areas}
use Rattle.arc_io.specs.Disks.{DiskSeen}
use Rattle.centre_core.specs.Summing.{IsSpelled}
use Rattle.centre_rules.specs.Summary.{Summary, nothing}
use Rattle.centre_rules.specs.Answers.{IsLegal}
use Rattle.centre_rules.specs.History.{Entry, IsMoment, last, recorded}
use Rattle.centre_rules.specs.Sums.{summary_of}
use Rattle.disk_journal.specs.Journal.{Holds}
use Rattle.disk_journal.specs.Standing.{AreasStand, StandsForEither}
use Rattle.disk_journal.specs.declared.journal.Journal.{Journal}
use Rattle.summary_rules.specs.Conditions.{IsSpelling}
use Rattle.summary_rules.specs.Spelling.{summary_text}
use Rattle.centre_store.specs.Bodies.{bodies_in, AreNamedIn}
use Rattle.centre_store.specs.Pasts.{IsPast}

-- the summary is one that areas give: it has a spelling, as the one of no history has
abbrev pub IsGiven : Summary → Type 0
IsGiven base = IsSpelled base

-- what a journal of a version has before its records: nothing, where they are all that was ever recorded; or a spelling of the summary of
-- what was recorded before
abbrev pub IsFirst : ℕ → Summary → Option (List ℕ) → Type 0
IsFirst version s None = s ≡ nothing
IsFirst version s (Some body) = (generation : ℕ) × IsSpelling version generation s body

-- the areas give the summary in a version, and these bodies behind it
abbrev pub AreasGive : Areas → ℕ → Summary → List (List ℕ) → Type 0
AreasGive areas version base bodies = (first : Option (List ℕ)) × IsFirst version base first × AreasStand areas version first bodies

-- How the recorded entries of a history over a summary are kept in a version: those up to some one are summed up in what stands first, and
-- each later one has a body of its own.
pub record IsKeptAs (version : ℕ) (base : Summary) (h : List Entry) (first : Option (List ℕ)) (bodies : List (List ℕ)) : Type 0 where
  pub later : List Entry
  pub summed : List Entry
  pub split : h ≡ later ++ summed
  pub first_is : IsFirst version (summary_of base summed) first
  pub named : AreNamedIn version (recorded later)
  pub bodies_are : bodies ≡ bodies_in version later

-- the areas stand in a version for the recorded entries of a history over a summary
abbrev pub StandForIn : ℕ → Summary → List Entry → Areas → Type 0
StandForIn version base h areas =
    (first : Option (List ℕ)) × (bodies : List (List ℕ)) × IsKeptAs version base h first bodies × AreasStand areas version first bodies

-- in either one
abbrev pub StandFor : Summary → List Entry → Areas → Type 0
StandFor base h areas = (version : ℕ) × StandForIn version base h areas

-- or, as they are written, for them with one more, which has this body
abbrev pub StandForEither : Summary → List Entry → List ℕ → Areas → Type 0
StandForEither base h body areas =
    (first : Option (List ℕ)) × (bodies : List (List ℕ)) × IsKeptAs 2 base h first bodies × StandsForEither 2 first bodies body areas

-- the journal has in a version the recorded entries of a history over a summary
abbrev pub HoldsRecordedIn : {D : Type 0} → (D → DiskSeen) → ℕ → Journal D → Summary → List Entry → Type 0
HoldsRecordedIn seen version j base h =
    (first : Option (List ℕ)) × (bodies : List (List ℕ)) × IsKeptAs version base h first bodies × Holds seen j version first bodies

-- as they are written
abbrev pub HoldsRecorded : {D : Type 0} → (D → DiskSeen) → Journal D → Summary → List Entry → Type 0
HoldsRecorded seen j base h = HoldsRecordedIn seen 2 j base h

-- The summary of a history over a summary as it is written. Those of all generations are equally long.
abbrev pub written_length : Summary → List Entry → ℕ
written_length base h = length (summary_text 2 1 (summary_of base h))

-- how many bytes an area has that holds it and no record, up to its closed gate
abbrev pub summed_size : Summary → List Entry → ℕ
summed_size base h = 22 + written_length base h

-- What was kept in the first version can be written in the second: its summary has no more bytes than a body may have.
abbrev pub CanBeWritten : ℕ → Summary → List Entry → Type 0
CanBeWritten version base h = version ≡ 1 → written_length base h ≤ 4_294_967_295

-- The second areas stand for each legal history without quiet entries for which the first stand, over each summary that areas give, where
-- its last moment lies before the year 10000.
abbrev pub GoesOn : Areas → Areas → Type 0
GoesOn before after =
    (b : Summary) (h : List Entry) → IsGiven b → IsLegal b h → IsMoment (last b h) → recorded h ≡ h → StandFor b h before
    → StandFor b h after

-- what a read gives of the areas, and all that a crash may leave of them now, stands for the recorded entries, as they are written
pub record HasRecorded (disk : DiskSeen) (base : Summary) (h : List Entry) : Type 0 where
  pub area : IfSome disk.told (StandForIn 2 base h)
  pub images : (c : Areas) → disk.may_leave c → StandForIn 2 base h c

-- it stands for the body of a summary, or none, and these bodies, or for them with this one more
pub record Leaves (disk : DiskSeen) (summary : Option (List ℕ)) (bodies : List (List ℕ)) (body : List ℕ) : Type 0 where
  pub file : IfSome disk.told (StandsForEither 2 summary bodies body)
  pub images : (c : Areas) → disk.may_leave c → StandsForEither 2 summary bodies body c

-- for the recorded entries, or for them with one more, which has this body
pub record HasEither (disk : DiskSeen) (base : Summary) (h : List Entry) (body : List ℕ) : Type 0 where
  pub area : IfSome disk.told (StandForEither base h body)
  pub images : (c : Areas) → disk.may_leave c → StandForEither base h body c

-- what a read gives of the areas are a summary and bodies, of a version, that have this past over it
pub record BeginsWith (disk : DiskSeen) (base : Summary) (past : List Entry) : Type 0 where
  pub version : ℕ
  pub bodies : List (List ℕ)
  pub given : IsGiven base
  pub is_past : IsPast version base bodies past
  pub area : IfSome disk.told (λ s. AreasGive s version base bodies)
