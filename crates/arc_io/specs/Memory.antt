-- What the forms in memory tell, and what each of their calls does.
use Rattle.std.specs.Prelude.{◌≡◌, ◌↔◌, ◌⊎◌, ℕ, ◌+◌, min, List, ◌++◌, length, take, drop, Contains, Bool, true, Some}
use Rattle.std.specs.Prelude.{Result, IfOk, OnErr, IsErr, is_err, if◌then◌else◌}
use Rattle.arc_io.specs.Causes.{next_count}
use Rattle.arc_io.specs.Seen.{PortSeen, untold}
use Rattle.arc_io.specs.Lists.{reading_at, readings_of, ten_at, noise_of}
use Rattle.arc_io.specs.declared.traits.Failed.{Failed}
use Rattle.arc_io.specs.declared.memory.source.MemSource.{MemSource}
use Rattle.arc_io.specs.declared.memory.sink.MemSink.{MemSink}
use Rattle.arc_io.specs.declared.memory.clock.ListClock.{ListClock}
use Rattle.arc_io.specs.declared.memory.noise.ListNoise.{ListNoise}
use Rattle.arc_io.specs.declared.memory.port.MemPort.{MemPort}

-- the bytes that are left
abbrev pub source_left : MemSource → List ℕ
source_left s = drop s.at s.bytes.items

-- the numbers of the calls that are to fail
abbrev pub source_failing : MemSource → List ℕ
source_failing s = s.failing.items

-- how many calls were made
abbrev pub source_calls : MemSource → ℕ
source_calls s = s.calls

abbrev pub source_faults : MemSource → ℕ
source_faults s = s.faults

-- a call has met the end
abbrev pub source_ended : MemSource → Bool
source_ended s = s.ended

abbrev pub source_seen : MemSource → PortSeen
source_seen s = record untold { left = Some (source_left s); ended = source_ended s; read_faults = source_faults s }

-- A call of `read`: it fails exactly where its number is listed or an earlier call has met the end, and otherwise gives as many
-- bytes as are left and have room.
pub record SourceRead (before after : MemSource) (result : Result ℕ Failed) (was buf : List ℕ) : Type 0 where
  pub failing : source_failing after ≡ source_failing before
  pub calls : source_calls after ≡ next_count (source_calls before)
  pub fails : IsErr result ↔ (Contains (source_failing before) (source_calls after) ⊎ (source_ended before ≡ true))
  pub faults : source_faults after ≡ (if is_err result then next_count (source_faults before) else source_faults before)
  pub count : IfOk result (λ n. n ≡ min (length buf) (length (source_left before)))
  pub given : IfOk result (λ n. source_left before ≡ take n buf ++ source_left after)
  pub nothing : OnErr result (source_left after ≡ source_left before)
  pub untouched : OnErr result (buf ≡ was)

-- the bytes that were taken
abbrev pub sink_bytes : MemSink → List ℕ
sink_bytes s = s.bytes.items

-- the numbers of the calls that are to fail
abbrev pub sink_failing : MemSink → List ℕ
sink_failing s = s.failing.items

-- how many calls were made
abbrev pub sink_calls : MemSink → ℕ
sink_calls s = s.calls

abbrev pub sink_faults : MemSink → ℕ
sink_faults s = s.faults

abbrev pub sink_seen : MemSink → PortSeen
sink_seen s = record untold { written = Some (sink_bytes s); write_faults = sink_faults s }

-- a call of `write`: it fails where its number is listed or its memory is refused, and otherwise takes all bytes
pub record SinkWrite (before after : MemSink) (result : Result ℕ Failed) (bytes : List ℕ) : Type 0 where
  pub failing : sink_failing after ≡ sink_failing before
  pub calls : sink_calls after ≡ next_count (sink_calls before)
  pub fails : Contains (sink_failing before) (sink_calls after) → IsErr result
  pub faults : sink_faults after ≡ (if is_err result then next_count (sink_faults before) else sink_faults before)
  pub count : IfOk result (λ n. n ≡ length bytes)
  pub taken : sink_bytes after ≡ (if is_err result then sink_bytes before else sink_bytes before ++ bytes)

-- the list that the clock goes through
abbrev pub clock_list : ListClock → List ℕ
clock_list c = c.readings.items

-- how many readings it gave
abbrev pub clock_calls : ListClock → ℕ
clock_calls c = c.calls.number

-- the readings that it gave
abbrev pub clock_given : ListClock → List ℕ
clock_given c = readings_of (clock_list c) (clock_calls c)

abbrev pub clock_seen : ListClock → PortSeen
clock_seen c = record untold { readings = Some (clock_given c) }

-- a call of `now`: it gives the next reading
pub record ClockTick (before after : ListClock) (reading : ℕ) : Type 0 where
  pub list : clock_list after ≡ clock_list before
  pub calls : clock_calls after ≡ clock_calls before + 1
  pub given : reading ≡ reading_at (clock_list before) (clock_calls before)

-- the list that the noise goes through
abbrev pub noise_list : ListNoise → List (List ℕ)
noise_list n = n.tens.items

-- how many tens it gave
abbrev pub noise_calls : ListNoise → ℕ
noise_calls n = n.calls.number

-- the bytes that it gave
abbrev pub noise_given : ListNoise → List ℕ
noise_given n = noise_of (noise_list n) (noise_calls n)

abbrev pub noise_seen : ListNoise → PortSeen
noise_seen n = record untold { noise = Some (noise_given n) }

-- a call of `ten`: it gives the next ten
pub record NoiseDraw (before after : ListNoise) (ten : List ℕ) : Type 0 where
  pub list : noise_list after ≡ noise_list before
  pub calls : noise_calls after ≡ noise_calls before + 1
  pub given : ten ≡ ten_at (noise_list before) (noise_calls before)

-- all that its four parts tell
abbrev pub port_seen : MemPort → PortSeen
port_seen p = record untold {
  left = Some (source_left p.source);
  ended = source_ended p.source;
  read_faults = source_faults p.source;
  written = Some (sink_bytes p.sink);
  write_faults = sink_faults p.sink;
  readings = Some (clock_given p.clock);
  noise = Some (noise_given p.noise);
}
