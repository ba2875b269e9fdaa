-- Lines that end in the bytes of a piece.
use Rattle.std.proofs.Common.{◌≡◌, ◌≤◌, ◌+◌, ◌∷◌, ◌++◌, [], ℕ, List, filter, length, take, sym, ◌∙◌, ap, subst, append_assoc, length-append, length-take, arith}
use Rattle.arc_io.specs.Disks.{DiskSeen}
use Rattle.arc_io.specs.Seen.{PortSeen}
use Rattle.arc_text.proofs.LineLaws.{ended_more}
use Rattle.arc_text.specs.LineCutting.{LineCutterValue}
use Rattle.arc_text.specs.Lines.{ended_lines}
use Rattle.arc_text.specs.declared.line_cut.LineCut.{LineCut}
use Rattle.centre_store.specs.Stores.{Stored}
use Rattle.desk_session.proofs.Fed.{CameNone, CameLine, lines_behind}
use Rattle.session_rules.specs.Inputs.{input_limit}
use Rattle.arc_script.specs.Begun.{Begun}
use Rattle.arc_script.specs.Between.{MayComeNext, SoFar}
use Rattle.arc_script.specs.Halting.{Halts}
use Rattle.arc_script.specs.Texts.{counted, numbered_from}
use Rattle.arc_script.specs.declared.script.Script.{Script}
use Rattle.arc_script.specs.declared.script_end.ScriptEnd.{ScriptEnd}
use Rattle.arc_script.specs.declared.script_end.Tally.{Tally}
use Rattle.arc_script.proofs.Counted.{counted_more, is_played}
use Rattle.arc_script.proofs.Sizes.{ended_next, length_last}

-- these lines were played, and each was counted
abbrev pub PlayedAll : {D : Type 0} → (D → DiskSeen) → Begun D → List (List ℕ) → Script → Stored D → PortSeen → Type 0
PlayedAll seen b lines script s p = SoFar seen b lines script s p × (script.number ≡ length lines)

fits_front : (stream bytes : List ℕ) (n : ℕ) → length (stream ++ bytes) ≤ input_limit → length (stream ++ take n bytes) ≤ input_limit
fits_front stream bytes n fits =
    let all = length-append stream bytes in
    let front = length-append stream (take n bytes) in
    let less = length-take n bytes in
    omega (arith, all, front, less, fits)

module _ {D : Type 0} (seen : D → DiskSeen) (b : Begun D) (stream bytes : List ℕ) (at n : ℕ) (fits : length (stream ++ bytes) ≤ input_limit) where
  -- no line ended
  pub played_none : (c : LineCutterValue) (script : Script) (s : Stored D) (p : PortSeen) → CameNone stream bytes at n c
      → PlayedAll seen b (ended_lines (stream ++ take at bytes)) script s p → PlayedAll seen b (ended_lines (stream ++ take (at + n) bytes)) script s p
  played_none c script s p came so = subst (λ (l : List (List ℕ)). PlayedAll seen b l script s p) (sym came.ended) so

  -- the line that ended may stand there
  pub line_came : (told : LineCut) (c : LineCutterValue) (came : CameLine stream bytes at n told c)
      → MayComeNext (ended_lines (stream ++ take at bytes)) came.line
  line_came told c came =
      ended_next (ended_lines (stream ++ take at bytes)) came.line (stream ++ take (at + n) bytes) came.ended (fits_front stream bytes (at + n) fits)

  -- it was played
  pub played_line : (told : LineCut) (c : LineCutterValue) (came : CameLine stream bytes at n told c) (script script' : Script) (s s' : Stored D)
      (p p' : PortSeen) → PlayedAll seen b (ended_lines (stream ++ take at bytes)) script s p
      → (script.number ≤ input_limit → script'.number ≡ script.number + 1)
      → SoFar seen b (ended_lines (stream ++ take at bytes) ++ came.line ∷ []) script' s' p'
      → PlayedAll seen b (ended_lines (stream ++ take (at + n) bytes)) script' s' p'
  played_line told c came script script' s s' p p' so number more =
      let before = ended_lines (stream ++ take at bytes) in
      let within = (line_came told c came).within in
      let count : script'.number ≡ length before + 1 = number (omega (arith, so.1, within)) ∙ ap (λ k. k + 1) so.1 in
      subst (λ (l : List (List ℕ)). PlayedAll seen b l script' s' p') (sym came.ended) (more, count ∙ sym (length_last before came.line))

  -- it ended the script
  pub halted_line : (told : LineCut) (c : LineCutterValue) (came : CameLine stream bytes at n told c) (end : ScriptEnd) (p : PortSeen) (disk : D)
      (tally : Tally)
      → ((more : List (List ℕ)) → Halts seen b (ended_lines (stream ++ take at bytes)) (ended_lines (stream ++ take at bytes) ++ came.line ∷ more) end p disk tally)
      → Halts seen b (ended_lines stream) (ended_lines (stream ++ bytes)) end p disk tally
  halted_line told c came end p disk tally halts =
      let before = ended_lines (stream ++ take at bytes) in
      let first = ended_more stream (take at bytes) in
      let behind = lines_behind stream bytes (at + n) in
      let all : before ++ came.line ∷ behind.0 ≡ ended_lines (stream ++ bytes) =
      sym (append_assoc before (came.line ∷ []) behind.0) ∙ ap (λ l. l ++ behind.0) (sym came.ended) ∙ sym behind.1 in
      let here = subst (λ (l : List (List ℕ)). Halts seen b before l end p disk tally) all (halts behind.0) in
      record {
        played = here.played;
        ends = here.ends;
        more = filter is_played (numbered_from (1 + length (ended_lines stream)) first.0) ++ here.more;
        front = here.front ∙ ap (λ l. counted l ++ here.more) first.1 ∙ ap (λ l. l ++ here.more) (counted_more (ended_lines stream) first.0)
            ∙ append_assoc (counted (ended_lines stream)) (filter is_played (numbered_from (1 + length (ended_lines stream)) first.0)) here.more;
      }
