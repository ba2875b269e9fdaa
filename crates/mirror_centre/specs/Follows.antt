-- What following another centre over a port did: what was asked, which bytes were read, and what was recorded.
use Rattle.std.specs.Prelude.{◌≡◌, ◌≤◌, ◌<◌, ◌+◌, ◌⊎◌, ◌++◌, ◌==◌, ◌&&◌, ℕ, List, [], ◌∷◌, length, take, drop, Some, nat_le, if◌then◌else◌}
use Rattle.std.specs.Int.{from_be_bytes, w32}
use Rattle.std.specs.Io.KnownBytes.{prepend_known}
use Rattle.arc_io.specs.Causes.{Rose}
use Rattle.arc_io.specs.Seen.{PortSeen}
use Rattle.arc_io.specs.Told.{IsReadOut}
use Rattle.centre_core.specs.declared.hall.Stop.{Stop}
use Rattle.centre_core.specs.declared.hall.Stop.TheVariants.{Memory}
use Rattle.centre_rules.specs.History.{Entry}
use Rattle.centre_rules.specs.Summary.{Summary}
use Rattle.centre_rules.specs.Sums.{summary_of}
use Rattle.centre_store.specs.Followings.{GoesOnWith, EndsWith}
use Rattle.session_rules.specs.Inputs.{input_limit}
use Rattle.session_rules.specs.Reading.{OnlyReadsAndWrites}
use Rattle.mirror_centre.specs.Feeds.{Asked, Wrote, answers_text, asks_text}
use Rattle.mirror_centre.specs.Messages.{Answer, Record, End, Summed, answer_text, ask_text, Fits, IsAnswer}
use Rattle.mirror_centre.specs.Takings.{passed_by}
use Rattle.mirror_centre.specs.declared.follow_end.FollowEnd.{FollowEnd}
use Rattle.mirror_centre.specs.declared.follow_end.FollowEnd.TheVariants.{Done, Behind, Strange, ReadFault, WriteFault, Spent, Stopped}
use Rattle.mirror_centre.specs.declared.mirror.Took.TheVariants.{Old}

-- how many entries are recorded: those of a history, and those of the summary before it
abbrev pub have : Summary → List Entry → ℕ
have b h = (summary_of b h).recorded

-- The answer is the record of the next entry, whose body goes on from the history, and the entry was recorded; or it is an old one, and
-- nothing was.
abbrev pub IsTaken : Summary → List Entry → Answer → List Entry → Type 0
IsTaken b h answer h' =
    ((body : List ℕ) × (e : Entry) × (answer ≡ Record (have b h + 1) body) × GoesOnWith b h body e × (h' ≡ e ∷ h))
    ⊎ ((passed_by (have b h) answer ≡ Some Old) × (h' ≡ h))

-- a turn from one history to another: a mirror that had so many recorded entries asked, and was answered
pub record IsTurn (b : Summary) (h : List Entry) (t : Asked) (h' : List Entry) : Type 0 where
  pub asked_is : t.number ≡ have b h
  pub said : Answer
  pub is : IsAnswer t.answer said
  pub taken : IsTaken b h said h'

-- turns, one behind another, of which the newest stands first
abbrev pub AreTurns : Summary → List Entry → List Asked → List Entry → Type 0
AreTurns b h [] h' = h' ≡ h
AreTurns b h (t ∷ earlier) h' = (mid : List Entry) × AreTurns b h earlier mid × IsTurn b mid t h'

-- how many bytes an answer has with a body of this length; where no body has that length, those before it
abbrev pub size_by : ℕ → ℕ
size_by n = if nat_le 1 n && nat_le n 4_194_400 then 13 + n else 13

-- how many bytes an answer has that begins with these, as far as they tell
abbrev pub size_told : List ℕ → ℕ
size_told [] = 1
size_told (letter ∷ rest) =
    if letter == 66 then 9
    else if letter == 82 then (if nat_le 12 (length rest) then size_by (from_be_bytes w32 (take 4 (drop 8 rest))) else 13)
    else 1

-- fewer bytes than an answer has that begins with them
abbrev pub IsAnswerFront : List ℕ → Type 0
IsAnswerFront rest = length rest < size_told rest

-- no answer begins with these bytes
abbrev pub BeginsNone : List ℕ → Type 0
BeginsNone rest = (a : Answer) (more : List ℕ) → Fits a → answer_text a ≡ rest ++ more → ⊥

-- No answer begins with these bytes, and the last of them told: what stands before it is the front of one, as far as it tells.
abbrev pub TurnsStrange : List ℕ → Type 0
TurnsStrange rest = (front : List ℕ) × (last : ℕ) × (rest ≡ front ++ last ∷ []) × IsAnswerFront front × BeginsNone rest

-- No answer: the last byte told that none begins so; or it is what the input's end left of one; or it is the record of the next entry, and
-- no entry goes on from the history with its body.
abbrev pub IsStrange : Summary → List Entry → List ℕ → PortSeen → Type 0
IsStrange b h rest p' =
    TurnsStrange rest ⊎ ((IsAnswerFront rest × IsReadOut p')
    ⊎ ((body : List ℕ) × IsAnswer rest (Record (have b h + 1) body) × EndsWith b h body))

-- Memory was wanted within an answer, or for it; or the store stopped at the record of the next entry.
abbrev pub IsStoppedAt : (List ℕ → Stop → Type 0) → ℕ → List ℕ → Stop → Type 0
IsStoppedAt shows have rest stop =
    ((stop ≡ Memory) × (length rest ≤ 4_194_413))
    ⊎ ((body : List ℕ) × IsAnswer rest (Record (have + 1) body) × shows body stop)

-- What an end says of the rest of the bytes that were read, behind a history.
abbrev pub IsUntaken : (List ℕ → Stop → Type 0) → FollowEnd → Summary → List Entry → List ℕ → PortSeen → PortSeen → Type 0
IsUntaken shows Done b h rest p p' = rest ≡ answer_text End
IsUntaken shows (Behind known count) b h rest p p' = IsAnswer rest (Summed count) × (known ≡ have b h) × (known < count)
IsUntaken shows (Strange after) b h rest p p' = IsStrange b h rest p'
IsUntaken shows ReadFault b h rest p p' = IsAnswerFront rest × Rose p.read_faults p'.read_faults
IsUntaken shows WriteFault b h rest p p' = (rest ≡ []) × Rose p.write_faults p'.write_faults
IsUntaken shows Spent b h rest p p' = IsAnswerFront rest
IsUntaken shows (Stopped stop) b h rest p p' = IsStoppedAt shows (have b h) rest stop

-- what it says of so many turns, and of so many bytes that were read in all
abbrev pub IsCounted : FollowEnd → ℕ → ℕ → Type 0
IsCounted (Strange after) turns bytes = after ≡ turns
IsCounted Spent turns bytes = bytes ≡ input_limit
IsCounted end turns bytes = Unit {0}

-- Behind these bytes the ask of a mirror was written that has so many recorded entries; where a write failed, a front of it, which lacks a
-- byte at least.
abbrev pub EndsAsking : FollowEnd → List ℕ → ℕ → PortSeen → PortSeen → Type 0
EndsAsking WriteFault before have p p' = (count : ℕ) × (count < 9) × Wrote p p' (before ++ take count (ask_text have))
EndsAsking end before have p p' = Wrote p p' (before ++ ask_text have)

-- The bytes that were read of the port are answers, and a rest. Those that were written are the asks, each of which has the number of
-- entries that the answers before it led to, from one history to another; behind the last of them stands the ask for the rest. In which
-- order the reads and writes came shows at a write fault alone: there no byte behind the answers was read. All but what is about reading
-- and writing stayed.
pub record HasFollowed (shows : List ℕ → Stop → Type 0) (end : FollowEnd) (b : Summary) (h h' : List Entry) (p p' : PortSeen) : Type 0 where
  pub turns : List Asked
  pub rest : List ℕ
  pub left : p.left ≡ prepend_known (answers_text turns ++ rest) p'.left
  pub most : length (answers_text turns) + length rest ≤ input_limit
  pub each : AreTurns b h turns h'
  pub why : IsUntaken shows end b h' rest p p'
  pub told : IsCounted end (length turns) (length (answers_text turns) + length rest)
  pub output : EndsAsking end (asks_text turns) (have b h') p p'
  pub others : OnlyReadsAndWrites p p'
