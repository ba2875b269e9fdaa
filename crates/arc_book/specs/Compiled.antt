-- What is told of an area, and how far.
use Rattle.std.specs.Prelude.{◌≡◌, ◌⊎◌, ◌≤◌, ◌<◌, ◌^◌, ℕ, List, [], ◌∷◌, ◌++◌, length, take, Option, IfSome}
use Rattle.std.specs.Io.KnownBytes.{append_known}
use Rattle.arc_io.specs.Causes.{Rose}
use Rattle.arc_io.specs.Seen.{PortSeen}
use Rattle.arc_io.specs.Told.{OnlyReads, OnlyWrites}
use Rattle.book_lines.specs.declared.options.Options.{Options}
use Rattle.disk_journal.specs.Faults.{IsShown}
use Rattle.disk_journal.specs.Records.{Stands, IsWhole, IsDamaged, front as bytes_before, bytes_of}
use Rattle.disk_journal.specs.declared.fault.OpenFault.{OpenFault}
use Rattle.disk_journal.specs.declared.fault.OpenFault.TheVariants as Open
use Rattle.arc_book.specs.Portions.{Portion, bodies_told, HasNoNextIn, area_book}
use Rattle.arc_book.specs.declared.status.Status.{Status}
use Rattle.arc_book.specs.declared.status.Status.TheVariants.{Done, Usage, ReadFault, WriteFault, Journal, Memory, Spent}

-- the area begins with what was told
abbrev pub BeginsWith : {version : ℕ} → Portion version → List ℕ → Type 0
BeginsWith {version} p bytes = (bodies_told p ≡ []) ⊎ ((behind : List ℕ) × (bytes ≡ bytes_before version (bodies_told p) ++ behind))

-- Behind what was told the gate is open, but no record stands there that goes on from it: none is whole, or nothing goes on with its body.
pub record EndsAt {version : ℕ} (p : Portion version) (bytes : List ℕ) : Type 0 where
  pub rest : List ℕ
  pub is : bytes ≡ bytes_before version (bodies_told p) ++ 1 ∷ rest
  pub lacks : (IsWhole (length (bytes_before version (bodies_told p))) rest → ⊥)
      ⊎ ((body behind : List ℕ) × (rest ≡ bytes_of body ++ behind) × HasNoNextIn p body)

-- The place of an area's damage: its own, wherever it is; or, where it stands for a list of bodies all the same, the place of the first of
-- them that was not told. Where the area is the one that a store opens, that is the place that its opening answers.
abbrev pub IsPlaceOf : {version : ℕ} → ℕ → Portion version → List ℕ → Type 0
IsPlaceOf {version} place p bytes =
    IsDamaged bytes place
    ⊎ ((place ≡ length (bytes_before version (bodies_told p))) × ((all : List (List ℕ)) × Stands version bytes all))

-- a refusal of the area, of which all was told up to what lacks: nothing of an area that is no journal
abbrev pub EndsRefused : {version : ℕ} → OpenFault → Portion version → List ℕ → Type 0
EndsRefused {version} (Open.Damaged place) p bytes = IsPlaceOf place p bytes × EndsAt p bytes
EndsRefused {version} fault p bytes = IsShown fault bytes × (bodies_told p ≡ [])

-- what the area's bytes are at an end, by what was told
abbrev pub IsEnd : {version : ℕ} → Status → Portion version → List ℕ → Type 0
IsEnd {version} Done p bytes = Stands version bytes (bodies_told p)
IsEnd {version} Usage p bytes = ⊥
IsEnd {version} ReadFault p bytes = BeginsWith p bytes
IsEnd {version} WriteFault p bytes = BeginsWith p bytes
IsEnd {version} (Journal fault) p bytes = EndsRefused fault p bytes
IsEnd {version} Memory p bytes = BeginsWith p bytes
IsEnd {version} Spent p bytes = BeginsWith p bytes × (2 ^ 40 ≤ length bytes)

-- a front of the text was written, which lacks a byte at least
abbrev pub IsFrontWritten : Option (List ℕ) → Option (List ℕ) → List ℕ → Type 0
IsFrontWritten before after text = (n : ℕ) × (n < length text) × (after ≡ append_known before (take n text))

-- the text was written, but for what stands on the page
abbrev pub IsWrittenBut : Option (List ℕ) → Option (List ℕ) → List ℕ → List ℕ → Type 0
IsWrittenBut before after page text = (out : List ℕ) × (after ≡ append_known before out) × (out ++ page ≡ text)

abbrev pub HasText : Status → Option (List ℕ) → Option (List ℕ) → List ℕ → List ℕ → Type 0
HasText WriteFault before after page text = IsFrontWritten before after text
HasText status before after page text = IsWrittenBut before after page text

-- a fault comes only where its count rose
abbrev pub HasCauses : Status → PortSeen → PortSeen → PortSeen → PortSeen → Type 0
HasCauses ReadFault s s' k k' = Rose s.read_faults s'.read_faults
HasCauses WriteFault s s' k k' = Rose k.write_faults k'.write_faults
HasCauses status s s' k k' = Unit {0}

-- The area is told up to this end: of a portion of it the book is written that the options ask for, but for what stands on the page.
pub record IsCompiled (options : Options) (status : Status) (all : Option (List ℕ)) (s s' k k' : PortSeen) (page : List ℕ) : Type 0 where
  pub version : ℕ
  pub told : Portion version
  pub ended : IfSome all (IsEnd status told)
  pub text : HasText status k.written k'.written page (area_book options told)
  pub causes : HasCauses status s s' k k'
  pub later : k.write_faults ≤ k'.write_faults
  pub reads : OnlyReads s s'
  pub writes : OnlyWrites k k'

-- what the rest of an area of a version shows, of which a body was bad whose gate stands at this place: a journal all the same, or worse
abbrev pub IsScanned : ℕ → Status → Option (List ℕ) → List (List ℕ) → ℕ → Type 0
IsScanned version (Journal fault) all bodies bad =
    ((fault ≡ Open.Damaged bad) × ((behind : List (List ℕ)) × IfSome all (λ bytes. Stands version bytes (bodies ++ behind))))
    ⊎ ((place : ℕ) × (fault ≡ Open.Damaged place) × IfSome all (λ bytes. IsDamaged bytes place))
IsScanned version Spent all bodies bad = IfSome all (λ bytes. 2 ^ 40 ≤ length bytes)
IsScanned version ReadFault all bodies bad = Unit {0}
IsScanned version Memory all bodies bad = Unit {0}
IsScanned version Done all bodies bad = ⊥
IsScanned version Usage all bodies bad = ⊥
IsScanned version WriteFault all bodies bad = ⊥

-- the page was written out, or is kept as it is
abbrev pub IsTurned : Option (List ℕ) → Option (List ℕ) → List ℕ → List ℕ → Type 0
IsTurned before after page page' = (out : List ℕ) × (after ≡ append_known before out) × (out ++ page' ≡ page)
