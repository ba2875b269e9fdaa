-- The pieces of a script, one behind another, and how reading it ends.
use Rattle.std.proofs.Common.{◌≡◌, ◌≤◌, ◌<◌, ◌+◌, ◌++◌, ℕ, List, [], true, false, length, refl, sym, ap, subst, ◌∙◌, length-append, arith}
use Rattle.std.specs.Io.KnownBytes.{prepend_known, IsAtEnd}
use Rattle.std.specs.Str.Lines.{lines}
use Rattle.arc_io.proofs.KnownMore.{prepend_none, known_taken}
use Rattle.arc_io.specs.Causes.{Rose}
use Rattle.arc_io.specs.Disks.{DiskSeen}
use Rattle.arc_io.specs.Seen.{PortSeen}
use Rattle.arc_io.specs.Told.{OnlyReads, OnlyWrites}
use Rattle.arc_text.specs.LineCutting.{LineCutterValue, WasFed}
use Rattle.arc_text.specs.Lines.{ended_lines}
use Rattle.centre_store.specs.Stores.{Stored}
use Rattle.session_rules.proofs.Ports.{of_reads, of_writes, ports_more, ports_none, rose_since}
use Rattle.session_rules.specs.Inputs.{input_limit}
use Rattle.session_rules.specs.Reading.{OnlyReadsAndWrites, lines_read}
use Rattle.arc_script.specs.Begun.{Begun}
use Rattle.arc_script.specs.Between.{SoFar}
use Rattle.arc_script.specs.Ends.{IsTranscript}
use Rattle.arc_script.specs.Halting.{Halts, Finishes, closing}
use Rattle.arc_script.specs.declared.script.Script.{Script}
use Rattle.arc_script.specs.declared.script_end.ScriptEnd.{ScriptEnd}
use Rattle.arc_script.specs.declared.script_end.ScriptEnd.TheVariants.{ReadFault, Spent}
use Rattle.arc_script.specs.declared.script_end.Tally.{Tally}
use Rattle.arc_script.proofs.Ended.{whole}
use Rattle.arc_script.proofs.Transcripts.{ReadSoFar, read_fault, spent, halted, finished}

-- a read changes nothing that was done
pub so_read : {D : Type 0} (seen : D → DiskSeen) (b : Begun D) (all : List (List ℕ)) (script : Script) (s : Stored D) (p q : PortSeen) → OnlyReads p q
    → SoFar seen b all script s p → SoFar seen b all script s q
so_read seen b all script s p q only so = record {
  steps = so.steps;
  history = so.history;
  of = so.of;
  are = so.are;
  between = so.between;
  held = so.held;
  counts = so.counts;
  opened_before = so.opened_before;
  written = ap (λ (x : PortSeen). x.written) only.rest ∙ so.written;
  writes = subst (λ (n : ℕ). b.port.write_faults ≤ n) (sym (ap (λ (x : PortSeen). x.write_faults) only.rest)) so.writes;
}

-- nothing was read
pub read_none : {D : Type 0} (seen : D → DiskSeen) (b : Begun D) (cutter : LineCutterValue) (script : Script) (s : Stored D) (p : PortSeen) → b.port ≡ p
    → WasFed [] cutter → script.number ≡ 0 → SoFar seen b [] script s p → ReadSoFar seen b 0 cutter script s p
read_none seen b cutter script s p same fed number so = record {
  stream = [];
  fed = fed;
  count_is = refl;
  taken = prepend_none b.port.left ∙ ap (λ (x : PortSeen). prepend_known [] x.left) same;
  reads = subst (λ (x : PortSeen). b.port.read_faults ≤ x.read_faults) same (omega arith);
  so = so;
  number = number;
  others = subst (λ (x : PortSeen). OnlyReadsAndWrites b.port x) same (ports_none b.port);
}

module _ {D : Type 0} (seen : D → DiskSeen) (b : Begun D) (count : ℕ) (cutter : LineCutterValue) (script : Script) (s : Stored D) (p : PortSeen)
    (r : ReadSoFar seen b count cutter script s p) where
  most : count ≤ input_limit → length r.stream ≤ input_limit
  most few = subst (λ (n : ℕ). n ≤ input_limit) r.count_is few

  -- a piece was read and played
  pub read_next : (piece : List ℕ) (n : ℕ) (q p' : PortSeen) (cutter' : LineCutterValue) (script' : Script) (s' : Stored D) → n ≡ length piece
      → p.left ≡ prepend_known piece q.left → p.read_faults ≤ q.read_faults → OnlyReads p q → OnlyWrites q p' → WasFed (r.stream ++ piece) cutter'
      → SoFar seen b (ended_lines (r.stream ++ piece)) script' s' p' × (script'.number ≡ length (ended_lines (r.stream ++ piece)))
      → ReadSoFar seen b (count + n) cutter' script' s' p'
  read_next piece n q p' cutter' script' s' size given later reads writes fed played =
      let left : p'.left ≡ q.left = ap (λ (x : PortSeen). x.left) writes.rest in
      let faults : p'.read_faults ≡ q.read_faults = ap (λ (x : PortSeen). x.read_faults) writes.rest in
      record {
        stream = r.stream ++ piece;
        fed = fed;
        count_is = ap (λ k. k + n) r.count_is ∙ ap (λ k. length r.stream + k) size ∙ sym (length-append r.stream piece);
        taken = r.taken ∙ ap (prepend_known r.stream) (given ∙ ap (prepend_known piece) (sym left)) ∙ known_taken p'.left r.stream piece;
        reads = (let before = r.reads in omega (arith, before, later, faults));
        so = played.0;
        number = played.1;
        others = ports_more r.others (ports_more (of_reads reads) (of_writes writes));
      }

  -- a read failed
  pub fails : (q : PortSeen) (disk : D) (tally : Tally) → count < input_limit → OnlyReads p q → q.left ≡ p.left → q.ended ≡ false
      → Rose p.read_faults q.read_faults → disk ≡ s.journal.disk → tally ≡ closing script.tally script.opened_before s.state.sum
      → IsTranscript seen b ReadFault q disk tally
  fails q disk tally few only left ended rose disk_is tally_as =
      let short : length r.stream < input_limit = subst (λ (n : ℕ). n < input_limit) r.count_is few in
      read_fault seen b r.stream q disk tally (r.taken ∙ ap (prepend_known r.stream) (sym left)) (λ out. absurd (let clash = sym ended ∙ out in cc))
      (most (omega (arith, few))) (ports_more r.others (of_reads only)) (ended_lines r.stream) (sym (ap (λ t. lines_read t r.stream) ended))
      (whole seen b (ended_lines r.stream) script s q (so_read seen b (ended_lines r.stream) script s p q only r.so) disk tally disk_is tally_as)
      short (rose_since b.port.read_faults p.read_faults q.read_faults r.reads rose)

  -- so much was read that no more is
  pub is_spent : (disk : D) (tally : Tally) → count ≡ input_limit → p.ended ≡ false → disk ≡ s.journal.disk
      → tally ≡ closing script.tally script.opened_before s.state.sum
      → IsTranscript seen b Spent p disk tally
  is_spent disk tally full ended disk_is tally_as =
      spent seen b r.stream p disk tally r.taken (λ out. absurd (let clash = sym ended ∙ out in cc)) (most (omega (arith, full))) r.others
      (ended_lines r.stream) (sym (ap (λ t. lines_read t r.stream) ended))
      (whole seen b (ended_lines r.stream) script s p r.so disk tally disk_is tally_as) (sym r.count_is ∙ full)

  -- a line in the piece ended the script
  pub halts_in : (piece : List ℕ) (q p' : PortSeen) (end : ScriptEnd) (disk : D) (tally : Tally) → length piece ≤ 4096
      → length (r.stream ++ piece) ≤ input_limit → p.left ≡ prepend_known piece q.left → OnlyReads p q → q.ended ≡ false → OnlyWrites q p'
      → Halts seen b (ended_lines r.stream) (ended_lines (r.stream ++ piece)) end p' disk tally
      → IsTranscript seen b end p' disk tally
  halts_in piece q p' end disk tally short fits given reads ended writes halts =
      let left : p'.left ≡ q.left = ap (λ (x : PortSeen). x.left) writes.rest in
      let open_still : p'.ended ≡ false = ap (λ (x : PortSeen). x.ended) writes.rest ∙ ended in
      halted seen b (r.stream ++ piece) p' disk tally
      (r.taken ∙ ap (prepend_known r.stream) (given ∙ ap (prepend_known piece) (sym left)) ∙ known_taken p'.left r.stream piece)
      (λ out. absurd (let clash = sym open_still ∙ out in cc)) fits
      (ports_more r.others (ports_more (of_reads reads) (of_writes writes))) (ended_lines (r.stream ++ piece))
      (sym (ap (λ t. lines_read t (r.stream ++ piece)) open_still)) r.stream piece end refl short halts

  -- the script ended
  pub finishes : (q p' : PortSeen) (end : ScriptEnd) (disk : D) (tally : Tally) → count < input_limit → p.left ≡ prepend_known [] q.left → OnlyReads p q
      → q.ended ≡ true → IsAtEnd q.left → OnlyWrites q p' → Finishes seen b (ended_lines r.stream) (lines r.stream) end p' disk tally
      → IsTranscript seen b end p' disk tally
  finishes q p' end disk tally few given reads ended out writes ends =
      let left : p'.left ≡ q.left = ap (λ (x : PortSeen). x.left) writes.rest in
      let over : p'.ended ≡ true = ap (λ (x : PortSeen). x.ended) writes.rest ∙ ended in
      let at_end : IsAtEnd p'.left = subst IsAtEnd (sym left) out in
      finished seen b r.stream p' disk tally
      (r.taken ∙ ap (prepend_known r.stream) (given ∙ sym (prepend_none q.left) ∙ sym left)) (λ is. at_end) (most (omega (arith, few)))
      (ports_more r.others (ports_more (of_reads reads) (of_writes writes))) (lines r.stream) (sym (ap (λ t. lines_read t r.stream) over))
      end ends (subst (λ (n : ℕ). n < input_limit) r.count_is few) (record { ended = over; left = at_end })
