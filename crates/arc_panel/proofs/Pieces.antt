-- The pieces of a panel's input, one behind another, and how reading it ends.
use Rattle.std.proofs.Common.{◌≡◌, ◌≤◌, ◌<◌, ◌+◌, ◌∷◌, ◌++◌, ℕ, List, [], true, false, length, take, inl, inr, refl, sym, ap, subst, ◌∙◌, append_assoc, append-nil, length-append, arith}
use Rattle.std.specs.Io.KnownBytes.{append_known, prepend_known, IsAtEnd}
use Rattle.std.specs.Str.Lines.{lines}
use Rattle.arc_io.proofs.KnownMore.{prepend_none, known_taken}
use Rattle.arc_io.specs.Causes.{Rose}
use Rattle.arc_io.specs.Seen.{PortSeen}
use Rattle.arc_io.specs.Told.{IsReadOut, OnlyReads, OnlyWrites}
use Rattle.arc_text.proofs.LineLaws.{ended_more}
use Rattle.arc_text.specs.LineCutting.{LineCutterValue, WasFed}
use Rattle.arc_text.specs.Lines.{ended_lines}
use Rattle.arc_text.specs.declared.line_cut.LineCut.{LineCut}
use Rattle.panel_rules.specs.Panels.{Setting}
use Rattle.session_rules.specs.Inputs.{input_limit}
use Rattle.session_rules.proofs.Ports.{of_reads, of_writes, ports_more, ports_none, rose_since}
use Rattle.session_rules.specs.Reading.{IsNotAhead, OnlyReadsAndWrites, lines_read}
use Rattle.arc_panel.specs.Ends.{EndsAs, HasPlayed, Played, StopsAt}
use Rattle.arc_panel.specs.Texts.{text_of}
use Rattle.arc_panel.specs.Playing.{Finishes, Halts, HaltsAt, HaltsIn, SoFar, WholeOf}
use Rattle.arc_panel.specs.declared.play.PanelEnd.{PanelEnd}
use Rattle.arc_panel.specs.declared.play.PanelEnd.TheVariants.{Done, ReadFault, WriteFault, Spent, BadLine, Memory}
use Rattle.arc_panel.specs.declared.play.Player.{Player}
use Rattle.arc_panel.proofs.Fed.{CameLine, lines_behind}

-- a read changes nothing that was done
pub so_read : (s : Setting) (p : PortSeen) (all : List (List ℕ)) (player : Player) (q r : PortSeen) → OnlyReads q r → SoFar s p all player q → SoFar s p all player r
so_read s p all player q r only so = record {
  history = so.history;
  says_all = so.says_all;
  stands = so.stands;
  at = so.at;
  counted = so.counted;
  output = ap (λ (x : PortSeen). x.written) only.rest ∙ so.output;
  writes = subst (λ (n : ℕ). p.write_faults ≤ n) (sym (ap (λ (x : PortSeen). x.write_faults) only.rest)) so.writes;
}

-- A line that ended in the bytes of a piece ended the playing.
pub halts_within : (s : Setting) (p : PortSeen) (stream bytes : List ℕ) (at n : ℕ) (told : LineCut) (c : LineCutterValue) (came : CameLine stream bytes at n told c) (end : PanelEnd) (q : PortSeen)
    → Halts s p (ended_lines (stream ++ take at bytes)) came.line end q → HaltsIn s p (ended_lines stream) (ended_lines (stream ++ bytes)) end q
halts_within s p stream bytes at n told c came end q halts =
    let before = ended_lines (stream ++ take at bytes) in
    let first = ended_more stream (take at bytes) in
    let behind = lines_behind stream bytes (at + n) in
    record {
      played = before;
      line = came.line;
      more = behind.0;
      later = first.0;
      all_are = behind.1 ∙ ap (λ l. l ++ behind.0) came.ended ∙ append_assoc before (came.line ∷ []) behind.0;
      played_are = first.1;
      halts = halts;
    }

-- The last line, which no line feed ends, ended the playing.
pub halts_last : (s : Setting) (p : PortSeen) (before all : List (List ℕ)) (line : List ℕ) (end : PanelEnd) (q : PortSeen) → all ≡ before ++ line ∷ [] → Halts s p before line end q → HaltsIn s p before all end q
halts_last s p before all line end q is halts = record {
  played = before;
  line = line;
  more = [];
  later = [];
  all_are = is;
  played_are = sym (append-nil before);
  halts = halts;
}

pub whole_of : (s : Setting) (p : PortSeen) (all : List (List ℕ)) (player : Player) (q : PortSeen) → SoFar s p all player q → WholeOf s p all q
whole_of s p all player q so = record { history = so.history; says_all = so.says_all; output = so.output }

-- What was played of lines, and how that ended.
record Ended (s : Setting) (read : List ℕ) (end : PanelEnd) (p q : PortSeen) (all : List (List ℕ)) : Type 0 where
  played : Played all
  ends : EndsAs s read all played end p q

abbrev whole_played : (s : Setting) (p q : PortSeen) (all : List (List ℕ)) → WholeOf s p all q → Played all
whole_played s p q all whole = record { front = all; behind = []; history = whole.history; split = sym (append-nil all); said = whole.says_all }

abbrev front_played : (s : Setting) (p q : PortSeen) (before all : List (List ℕ)) (end : PanelEnd) → HaltsIn s p before all end q → Played all
front_played s p q before all end h = record { front = h.played; behind = h.line ∷ h.more; history = h.halts.history; split = h.all_are; said = h.halts.says_all }

abbrev stops_at : (s : Setting) (p q : PortSeen) (read : List ℕ) (before all : List (List ℕ)) (end : PanelEnd) (h : HaltsIn s p before all end q) → IsNotAhead ended_lines read h.played
    → StopsAt read all (front_played s p q before all end h)
stops_at s p q read before all end h near = record { line = h.line; more = h.more; next = refl; ahead = near }

halted_ends : (s : Setting) (p q : PortSeen) (read : List ℕ) (before all : List (List ℕ)) (end : PanelEnd) (h : HaltsIn s p before all end q) → IsNotAhead ended_lines read h.played
    → HaltsAt s p h.played h.line h.halts.history end q → EndsAs s read all (front_played s p q before all end h) end p q
halted_ends s p q read before all Done h near is = absurd is
halted_ends s p q read before all ReadFault h near is = absurd is
halted_ends s p q read before all Spent h near is = absurd is
halted_ends s p q read before all WriteFault h near is = (
  is.1.2.0,
  record { at = stops_at s p q read before all WriteFault h near; happens = is.1.0; says = is.1.1; output = is.1.2.2 },
  is.0,
  is.1.2.1,
)
halted_ends s p q read before all (BadLine number) h near is = record { at = stops_at s p q read before all (BadLine number) h near; numbered = is.0; wrong = is.1; output = is.2 }
halted_ends s p q read before all Memory h near is = record {
  at = stops_at s p q read before all Memory h near;
  happens = is.0.0;
  says = is.0.1;
  output = is.1 ∙ ap (append_known p.written) (sym (append-nil (text_of s h.halts.history)));
}

module _ (s : Setting) (p q : PortSeen) (read : List ℕ) (taken : p.left ≡ prepend_known read q.left) (out : q.ended ≡ true → IsAtEnd q.left) (most : length read ≤ input_limit)
    (others : OnlyReadsAndWrites p q) (all : List (List ℕ)) (these : all ≡ lines_read q.ended read) where
  ended_so : (end : PanelEnd) → Ended s read end p q all → HasPlayed s end p q
  ended_so end ended =
      let e = subst (Ended s read end p q) these ended in
      record { read = read; taken = taken; out = out; most = most; played = e.played; ends = e.ends; others = others }

  pub read_fault : WholeOf s p all q → length read < input_limit → Rose p.read_faults q.read_faults → HasPlayed s ReadFault p q
  read_fault whole short rose = ended_so ReadFault (record { played = whole_played s p q all whole; ends = (rose, short, record { none_behind = refl; output = whole.output }) })

  pub spent : WholeOf s p all q → length read ≡ input_limit → HasPlayed s Spent p q
  spent whole full = ended_so Spent (record { played = whole_played s p q all whole; ends = (full, record { none_behind = refl; output = whole.output }) })

  done : WholeOf s p all q → length read < input_limit → IsReadOut q → HasPlayed s Done p q
  done whole short is = ended_so Done (record { played = whole_played s p q all whole; ends = (is, short, record { none_behind = refl; output = whole.output }) })

  pub halted : (early last : List ℕ) (end : PanelEnd) → read ≡ early ++ last → length last ≤ 4096 → HaltsIn s p (ended_lines early) all end q → HasPlayed s end p q
  halted early last end parts small h = ended_so end (record {
    played = front_played s p q (ended_lines early) all end h;
    ends = halted_ends s p q read (ended_lines early) all end h (record { early = early; last = last; more = h.later; parts = parts; short = small; before = h.played_are }) h.halts.halted;
  })

  pub finished : (end : PanelEnd) → Finishes s p (ended_lines read) all end q → length read < input_limit → IsReadOut q → HasPlayed s end p q
  finished end (inl d) short is = subst (λ (e : PanelEnd). HasPlayed s e p q) (sym d.0) (done d.1 short is)
  finished end (inr halts) short is = halted read [] end (sym (append-nil read)) (omega arith) halts

-- This stream was read, and all lines in it that a line feed ends were played.
pub record ReadSoFar (s : Setting) (p : PortSeen) (count : ℕ) (cutter : LineCutterValue) (player : Player) (q : PortSeen) : Type 0 where
  pub stream : List ℕ
  pub fed : WasFed stream cutter
  pub count_is : count ≡ length stream
  pub taken : p.left ≡ prepend_known stream q.left
  pub reads : p.read_faults ≤ q.read_faults
  pub so : SoFar s p (ended_lines stream) player q
  pub others : OnlyReadsAndWrites p q

pub read_none : (s : Setting) (p : PortSeen) (cutter : LineCutterValue) (player : Player) → WasFed [] cutter → SoFar s p [] player p → ReadSoFar s p 0 cutter player p
read_none s p cutter player fed so = record {
  stream = [];
  fed = fed;
  count_is = refl;
  taken = prepend_none p.left;
  reads = omega arith;
  so = so;
  others = ports_none p;
}

module _ (s : Setting) (p : PortSeen) (count : ℕ) (cutter : LineCutterValue) (player : Player) (m : PortSeen) (r : ReadSoFar s p count cutter player m) where
  -- a piece was read and played
  pub read_next : (piece : List ℕ) (n : ℕ) (q q' : PortSeen) (cutter' : LineCutterValue) (player' : Player) → n ≡ length piece → m.left ≡ prepend_known piece q.left → m.read_faults ≤ q.read_faults
      → OnlyReads m q → OnlyWrites q q' → WasFed (r.stream ++ piece) cutter' → SoFar s p (ended_lines (r.stream ++ piece)) player' q' → ReadSoFar s p (count + n) cutter' player' q'
  read_next piece n q q' cutter' player' size given later reads writes fed so =
      let left : q'.left ≡ q.left = ap (λ (x : PortSeen). x.left) writes.rest in
      let faults : q'.read_faults ≡ q.read_faults = ap (λ (x : PortSeen). x.read_faults) writes.rest in
      record {
        stream = r.stream ++ piece;
        fed = fed;
        count_is = ap (λ k. k + n) r.count_is ∙ ap (λ k. length r.stream + k) size ∙ sym (length-append r.stream piece);
        taken = r.taken ∙ ap (prepend_known r.stream) (given ∙ ap (prepend_known piece) (sym left)) ∙ known_taken q'.left r.stream piece;
        reads = (let before = r.reads in omega (arith, before, later, faults));
        so = so;
        others = ports_more r.others (ports_more (of_reads reads) (of_writes writes));
      }

  most : count ≤ input_limit → length r.stream ≤ input_limit
  most few = subst (λ (n : ℕ). n ≤ input_limit) r.count_is few

  -- a read failed
  pub fails : (q : PortSeen) → count < input_limit → OnlyReads m q → q.left ≡ m.left → q.ended ≡ false → Rose m.read_faults q.read_faults → HasPlayed s ReadFault p q
  fails q few only left ended rose =
      let short : length r.stream < input_limit = subst (λ (n : ℕ). n < input_limit) r.count_is few in
      read_fault s p q r.stream (r.taken ∙ ap (prepend_known r.stream) (sym left)) (λ out. absurd (let clash = sym ended ∙ out in cc)) (most (omega (arith, few)))
      (ports_more r.others (of_reads only)) (ended_lines r.stream) (sym (ap (λ t. lines_read t r.stream) ended)) (whole_of s p (ended_lines r.stream) player q (so_read s p (ended_lines r.stream) player m q only r.so))
      short (rose_since p.read_faults m.read_faults q.read_faults r.reads rose)

  -- so much was read that no more is
  pub is_spent : count ≡ input_limit → m.ended ≡ false → HasPlayed s Spent p m
  is_spent full ended =
      spent s p m r.stream r.taken (λ out. absurd (let clash = sym ended ∙ out in cc)) (most (omega (arith, full))) r.others (ended_lines r.stream)
      (sym (ap (λ t. lines_read t r.stream) ended)) (whole_of s p (ended_lines r.stream) player m r.so) (sym r.count_is ∙ full)

  -- a line in the piece ended the playing
  pub halts_piece : (piece : List ℕ) (q q' : PortSeen) (end : PanelEnd) → length piece ≤ 4096 → length (r.stream ++ piece) ≤ input_limit → m.left ≡ prepend_known piece q.left → OnlyReads m q → q.ended ≡ false
      → OnlyWrites q q' → HaltsIn s p (ended_lines r.stream) (ended_lines (r.stream ++ piece)) end q' → HasPlayed s end p q'
  halts_piece piece q q' end small fits given reads ended writes halts =
      let left : q'.left ≡ q.left = ap (λ (x : PortSeen). x.left) writes.rest in
      let open_still : q'.ended ≡ false = ap (λ (x : PortSeen). x.ended) writes.rest ∙ ended in
      halted s p q' (r.stream ++ piece) (r.taken ∙ ap (prepend_known r.stream) (given ∙ ap (prepend_known piece) (sym left)) ∙ known_taken q'.left r.stream piece)
      (λ out. absurd (let clash = sym open_still ∙ out in cc)) fits (ports_more r.others (ports_more (of_reads reads) (of_writes writes))) (ended_lines (r.stream ++ piece))
      (sym (ap (λ t. lines_read t (r.stream ++ piece)) open_still)) r.stream piece end refl small halts

  -- the input's end came
  pub finishes : (q q' : PortSeen) (end : PanelEnd) → count < input_limit → m.left ≡ prepend_known [] q.left → OnlyReads m q → q.ended ≡ true → IsAtEnd q.left → OnlyWrites q q'
      → Finishes s p (ended_lines r.stream) (lines r.stream) end q' → HasPlayed s end p q'
  finishes q q' end few given reads ended at writes finish =
      let left : q'.left ≡ q.left = ap (λ (x : PortSeen). x.left) writes.rest in
      let out : q'.ended ≡ true = ap (λ (x : PortSeen). x.ended) writes.rest ∙ ended in
      let end_at : IsAtEnd q'.left = subst IsAtEnd (sym left) at in
      let short : length r.stream < input_limit = subst (λ (n : ℕ). n < input_limit) r.count_is few in
      finished s p q' r.stream (r.taken ∙ ap (prepend_known r.stream) (given ∙ sym (prepend_none q.left) ∙ sym left)) (λ _. end_at) (most (omega (arith, few)))
      (ports_more r.others (ports_more (of_reads reads) (of_writes writes))) (lines r.stream) (sym (ap (λ t. lines_read t r.stream) out)) end finish short
      (record { ended = out; left = end_at })
