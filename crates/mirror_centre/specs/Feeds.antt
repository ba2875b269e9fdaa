-- What answering the asks of an input did: which bytes were read, what they ask, and what was written.
use Rattle.std.specs.Prelude.{◌≡◌, ◌≤◌, ◌<◌, ◌+◌, ◌*◌, ◌^◌, ◌⊎◌, ◌++◌, ℕ, List, [], ◌∷◌, length, take}
use Rattle.std.specs.Int.{from_be_bytes, w64}
use Rattle.std.specs.Io.KnownBytes.{prepend_known, append_known}
use Rattle.std.specs.List.{AllByRecursion}
use Rattle.arc_io.specs.Causes.{Rose}
use Rattle.arc_io.specs.Seen.{PortSeen}
use Rattle.arc_io.specs.Told.{IsReadOut}
use Rattle.centre_core.specs.declared.hall.Stop.TheVariants.{Memory}
use Rattle.session_rules.specs.Inputs.{input_limit}
use Rattle.session_rules.specs.Reading.{OnlyReadsAndWrites}
use Rattle.mirror_centre.specs.Messages.{ask_text}
use Rattle.mirror_centre.specs.declared.feed_end.FeedEnd.{FeedEnd}
use Rattle.mirror_centre.specs.declared.feed_end.FeedEnd.TheVariants.{Done, ReadFault, WriteFault, Spent, Strange, Stopped}

-- an ask that was answered: what it names, and the bytes of its answer
pub record Asked : Type 0 where
  pub number : ℕ
  pub answer : List ℕ

-- the bytes of asks, of which the newest stands first
abbrev pub asks_text : List Asked → List ℕ
asks_text [] = []
asks_text (a ∷ earlier) = asks_text earlier ++ ask_text a.number

-- and of their answers
abbrev pub answers_text : List Asked → List ℕ
answers_text [] = []
answers_text (a ∷ earlier) = answers_text earlier ++ a.answer

-- The number lies below 2^48, and the answer is one that is due to it.
pub record IsDue (due : ℕ → List ℕ → Type 0) (a : Asked) : Type 0 where
  pub below : a.number < 2 ^ 48
  pub is : due a.number a.answer

-- these bytes were written
abbrev pub Wrote : PortSeen → PortSeen → List ℕ → Type 0
Wrote p p' bytes = p'.written ≡ append_known p.written bytes

-- fewer bytes than an ask has: none, or its letter and some of its number
abbrev pub IsAskFront : List ℕ → Type 0
IsAskFront [] = Unit {0}
IsAskFront (letter ∷ number) = (letter ≡ 71) × (length number < 8)

-- No ask: one byte, which is another letter; or one that names 2^48 or more; or what the input's end left of one.
abbrev pub IsNoAsk : List ℕ → PortSeen → Type 0
IsNoAsk [] p' = ⊥
IsNoAsk (letter ∷ number) p' =
    ((letter ≡ 71 → ⊥) × (number ≡ []))
    ⊎ ((letter ≡ 71) × (((length number ≡ 8) × (2 ^ 48 ≤ from_be_bytes w64 number)) ⊎ ((length number < 8) × IsReadOut p')))

-- What was read of an ask where memory was wanted for its bytes, which are gone: at most one in the letter's place, or the letter and at
-- most eight more.
abbrev pub IsAskWanted : List ℕ → Type 0
IsAskWanted [] = Unit {0}
IsAskWanted (letter ∷ number) = (number ≡ []) ⊎ ((letter ≡ 71) × (length number ≤ 8))

-- Why there was no further ask behind so many, each of nine bytes, but this rest: the input ended before any byte of it; what is there is
-- none; a read failed within it; as many bytes as may be were read; memory was wanted for its bytes; or it is an ask, at which the store
-- stopped, or memory was wanted.
abbrev pub IsUnasked : FeedEnd → ℕ → List ℕ → PortSeen → PortSeen → Type 0
IsUnasked Done count rest p p' = (rest ≡ []) × IsReadOut p'
IsUnasked (Strange after) count rest p p' = IsNoAsk rest p' × (after ≡ count)
IsUnasked ReadFault count rest p p' = IsAskFront rest × Rose p.read_faults p'.read_faults
IsUnasked Spent count rest p p' = IsAskFront rest × (9 * count + length rest ≡ input_limit)
IsUnasked (Stopped stop) count rest p p' =
    ((stop ≡ Memory) × IsAskWanted rest) ⊎ ((n : ℕ) × (n < 2 ^ 48) × (rest ≡ ask_text n))
IsUnasked WriteFault count rest p p' = ⊥

-- The answer of the last ask was cut short: it lacks a byte at least. Before it these bytes were written.
pub record IsCutOff (due : ℕ → List ℕ → Type 0) (before rest : List ℕ) (p p' : PortSeen) : Type 0 where
  pub last : Asked
  pub is_due : IsDue due last
  pub is_rest : rest ≡ ask_text last.number
  pub count : ℕ
  pub short : count < length last.answer
  pub output : Wrote p p' (before ++ take count last.answer)
  pub failed : Rose p.write_faults p'.write_faults

-- what an end says of the rest behind so many asks, before whose end these bytes were written
abbrev pub EndsFeed : (ℕ → List ℕ → Type 0) → FeedEnd → ℕ → List ℕ → List ℕ → PortSeen → PortSeen → Type 0
EndsFeed due WriteFault count before rest p p' = IsCutOff due before rest p p'
EndsFeed due end count before rest p p' = IsUnasked end count rest p p' × Wrote p p' before

-- The bytes that were read of the port are asks and a rest, and what was written are answers, one for each ask and in their order, each
-- due to its ask. Of what was written when a byte was read it says this alone: where a write failed, or the store stopped, no byte was read
-- behind the ask that has no whole answer. All but what is about reading and writing stayed.
pub record HasFed (due : ℕ → List ℕ → Type 0) (end : FeedEnd) (p p' : PortSeen) : Type 0 where
  pub asked : List Asked
  pub rest : List ℕ
  pub left : p.left ≡ prepend_known (asks_text asked ++ rest) p'.left
  pub most : 9 * length asked + length rest ≤ input_limit
  pub each : AllByRecursion (IsDue due) asked
  pub ends : EndsFeed due end (length asked) (answers_text asked) rest p p'
  pub others : OnlyReadsAndWrites p p'
