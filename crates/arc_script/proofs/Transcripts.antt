-- What was read of a script so far, and the transcript at its end.
use Rattle.std.proofs.Common.{◌≡◌, ◌≤◌, ◌<◌, ◌++◌, ℕ, List, [], true, length, inl, inr, sym, subst, append-nil, arith}
use Rattle.std.specs.Io.KnownBytes.{prepend_known, IsAtEnd}
use Rattle.std.specs.Str.Lines.{lines}
use Rattle.arc_io.specs.Causes.{Rose}
use Rattle.arc_io.specs.Disks.{DiskSeen}
use Rattle.arc_io.specs.Seen.{PortSeen}
use Rattle.arc_io.specs.Told.{IsReadOut}
use Rattle.arc_text.specs.LineCutting.{LineCutterValue, WasFed}
use Rattle.arc_text.specs.Lines.{ended_lines}
use Rattle.centre_store.specs.Stores.{Stored}
use Rattle.session_rules.specs.Inputs.{input_limit}
use Rattle.session_rules.specs.Reading.{IsNotAhead, OnlyReadsAndWrites, lines_read}
use Rattle.arc_script.specs.Begun.{Begun}
use Rattle.arc_script.specs.Between.{SoFar}
use Rattle.arc_script.specs.Ends.{Played, EndsAs, ReadsNoFurther, IsTranscript}
use Rattle.arc_script.specs.Halting.{Halts, HaltsAs, Whole, Finishes}
use Rattle.arc_script.specs.Texts.{counted}
use Rattle.arc_script.specs.declared.script.Script.{Script}
use Rattle.arc_script.specs.declared.script_end.ScriptEnd.{ScriptEnd}
use Rattle.arc_script.specs.declared.script_end.ScriptEnd.TheVariants.{Done, ReadFault, WriteFault, Spent, BadScript, Refused, Stopped}
use Rattle.arc_script.specs.declared.script_end.Tally.{Tally}

-- this stream was read, and all lines in it that a line feed ends were carried out
pub record ReadSoFar {D : Type 0} (seen : D → DiskSeen) (b : Begun D) (count : ℕ) (cutter : LineCutterValue) (script : Script) (s : Stored D)
    (p : PortSeen) : Type 0 where
  pub stream : List ℕ
  pub fed : WasFed stream cutter
  pub count_is : count ≡ length stream
  pub taken : b.port.left ≡ prepend_known stream p.left
  pub reads : b.port.read_faults ≤ p.read_faults
  pub so : SoFar seen b (ended_lines stream) script s p
  pub number : script.number ≡ length (ended_lines stream)
  pub others : OnlyReadsAndWrites b.port p

halted_ends : {D : Type 0} (seen : D → DiskSeen) (b : Begun D) (read : List ℕ) (lines : List (ℕ × List ℕ))
    (played : Played seen b lines) (end : ScriptEnd) (p : PortSeen) (disk : D) (tally : Tally)
    → HaltsAs seen b played end p disk tally
    → EndsAs seen b read played end p disk tally
halted_ends seen b read lines played Done p disk tally halts = absurd halts
halted_ends seen b read lines played ReadFault p disk tally halts = absurd halts
halted_ends seen b read lines played Spent p disk tally halts = absurd halts
halted_ends seen b read lines played WriteFault p disk tally halts = halts
halted_ends seen b read lines played (BadScript number) p disk tally halts = halts
halted_ends seen b read lines played (Stopped stop) p disk tally halts = halts
halted_ends seen b read lines played (Refused fault) p disk tally halts = halts

no_further : {D : Type 0} (seen : D → DiskSeen) (b : Begun D) (read : List ℕ) (lines carried : List (ℕ × List ℕ))
    (played : Played seen b lines) (end : ScriptEnd) (p : PortSeen) (disk : D) (tally : Tally)
    → HaltsAs seen b played end p disk tally → IsNotAhead (λ early. counted (ended_lines early)) read carried → ReadsNoFurther end read carried
no_further seen b read lines carried played Done p disk tally halts near = absurd halts
no_further seen b read lines carried played ReadFault p disk tally halts near = absurd halts
no_further seen b read lines carried played Spent p disk tally halts near = absurd halts
no_further seen b read lines carried played WriteFault p disk tally halts near = near
no_further seen b read lines carried played (BadScript number) p disk tally halts near = near
no_further seen b read lines carried played (Stopped stop) p disk tally halts near = near
no_further seen b read lines carried played (Refused fault) p disk tally halts near = near

-- what was played of lines, and how that ended
record Ended {D : Type 0} (seen : D → DiskSeen) (b : Begun D) (read : List ℕ) (end : ScriptEnd) (p : PortSeen) (disk : D) (tally : Tally)
    (all : List (List ℕ)) : Type 0 where
  played : Played seen b (counted all)
  ends : EndsAs seen b read played end p disk tally
  ahead : ReadsNoFurther end read played.front

module _ {D : Type 0} (seen : D → DiskSeen) (b : Begun D) (read : List ℕ) (p : PortSeen) (disk : D) (tally : Tally)
    (taken : b.port.left ≡ prepend_known read p.left) (out : p.ended ≡ true → IsAtEnd p.left) (most : length read ≤ input_limit)
    (others : OnlyReadsAndWrites b.port p) (all : List (List ℕ)) (these : all ≡ lines_read p.ended read) where
  transcript : (end : ScriptEnd) → Ended seen b read end p disk tally all
      → IsTranscript seen b end p disk tally
  transcript end ended =
      let e = subst (Ended seen b read end p disk tally) these ended in
      record {
        read = read;
        taken = taken;
        out = out;
        most = most;
        played = e.played;
        ends = e.ends;
        ahead = e.ahead;
        others = others;
      }

  pub read_fault : Whole seen b all p disk tally → length read < input_limit → Rose b.port.read_faults p.read_faults
      → IsTranscript seen b ReadFault p disk tally
  read_fault whole short rose = transcript ReadFault (record { played = whole.played; ends = (rose, short, whole.whole); ahead = tt })

  pub spent : Whole seen b all p disk tally → length read ≡ input_limit
      → IsTranscript seen b Spent p disk tally
  spent whole full = transcript Spent (record { played = whole.played; ends = (full, whole.whole); ahead = tt })

  done : Whole seen b all p disk tally → length read < input_limit → IsReadOut p
      → IsTranscript seen b Done p disk tally
  done whole short is = transcript Done (record { played = whole.played; ends = (is, short, whole.whole); ahead = tt })

  pub halted : (early last : List ℕ) (end : ScriptEnd) → read ≡ early ++ last → length last ≤ 4096
      → Halts seen b (ended_lines early) all end p disk tally
      → IsTranscript seen b end p disk tally
  halted early last end parts short halts = transcript end (record {
    played = halts.played;
    ends = halted_ends seen b read (counted all) halts.played end p disk tally halts.ends;
    ahead = no_further seen b read (counted all) halts.played.front halts.played end p disk tally halts.ends (record {
      early = early;
      last = last;
      more = halts.more;
      parts = parts;
      short = short;
      before = halts.front;
    });
  })

  pub finished : (end : ScriptEnd) → Finishes seen b (ended_lines read) all end p disk tally → length read < input_limit → IsReadOut p
      → IsTranscript seen b end p disk tally
  finished end (inl d) short is =
      subst (λ (e : ScriptEnd). IsTranscript seen b e p disk tally) (sym d.0) (done d.1 short is)
  finished end (inr halts) short is = halted read [] end (sym (append-nil read)) (omega arith) halts
