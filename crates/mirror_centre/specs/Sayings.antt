-- How an answer is read from left to right, and what a mirror makes of what was read.
use Rattle.std.specs.Prelude.{◌==◌, ℕ, List, [], ◌∷◌, drop, length, Bool, true, false, Option, Some, None}
use Rattle.std.specs.Prelude.{if◌then◌else◌, nat_lt, Result, Ok, Err}
use Rattle.std.specs.Int.{w32, w64}
use Rattle.std.specs.Option.{option_map}
use Rattle.event_codec.specs.Reading.{◌>>=◌, alone, number_at, long_at}
use Rattle.centre_core.specs.declared.hall.Stop.{Stop}
use Rattle.mirror_centre.specs.Messages.{Answer, Record, End, Summed}
use Rattle.mirror_centre.specs.Takings.{passed_by}
use Rattle.mirror_centre.specs.declared.messages.Said.{Said}
use Rattle.mirror_centre.specs.declared.messages.Said.TheVariants as said
use Rattle.mirror_centre.specs.declared.mirror.Took.{Took}
use Rattle.mirror_centre.specs.declared.mirror.Took.TheVariants.{Added, Strange}

-- the number and the body of a record, of the bytes behind `R`
unfoldable pub record_at : List ℕ → Option ((ℕ × List ℕ) × List ℕ)
record_at bytes = do
  number ← number_at w64 bytes
  body ← long_at w32 4_194_400 number.1
  if nat_lt 0 (length body.0) then Some ((number.0, body.0), body.1) else None

-- its number, with nothing behind the body
abbrev pub record_in : List ℕ → Option ℕ
record_in bytes = option_map (λ r. r.0) (alone (record_at bytes))

-- the count, of the bytes behind `B`
abbrev pub count_in : List ℕ → Option ℕ
count_in bytes = alone (number_at w64 bytes)

-- nothing stands behind `E`
abbrev pub end_in : List ℕ → Option Said
end_in [] = Some said.End
end_in (b ∷ bytes) = None

-- what the bytes say
abbrev pub read_in : List ℕ → Option Said
read_in [] = None
read_in (b ∷ bytes) =
    if b == 82 then option_map said.Record (record_in bytes) else (if b == 69 then end_in bytes
    else (if b == 66 then option_map said.Summed (count_in bytes) else None))

-- the answer that was read, with the body from place 13 on
abbrev pub said_in : Said → List ℕ → Answer
said_in (said.Record number) message = Record number (drop 13 message)
said_in said.End message = End
said_in (said.Summed count) message = Summed count

-- what is made of what was read, unless it is the next record
abbrev pub made_of : ℕ → Option Said → Option Took
made_of have None = Some Strange
made_of have (Some s) = passed_by have (said_in s [])

-- what is made of the next record, by what recording it answered
abbrev pub took_of : Result Bool Stop → Result Took Stop
took_of (Ok true) = Ok Added
took_of (Ok false) = Ok Strange
took_of (Err stop) = Err stop
