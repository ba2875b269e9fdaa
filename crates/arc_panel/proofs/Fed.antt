-- Bytes of a piece that a cutter was fed behind a stream, and the line that they end.
use Rattle.std.proofs.Common.{◌≡◌, ◌+◌, ◌∷◌, ◌++◌, ℕ, List, [], take, drop, Option, Some, None, sym, ◌∙◌, ap, subst, append_assoc, take-append-drop}
use Rattle.std.proofs.Math.Seq.{take-add}
use Rattle.arc_text.specs.declared.line_cut.LineCut.{LineCut}
use Rattle.arc_text.specs.LineCutting.{LineCutterValue, WasFed, cut_of, line_of, Feeds}
use Rattle.arc_text.specs.Lines.{ended_lines}
use Rattle.arc_text.proofs.LineLaws.{ended_more}

-- what follows the front of some bytes only adds lines
pub lines_behind : (stream bytes : List ℕ) (n : ℕ) → (more : List (List ℕ)) × (ended_lines (stream ++ bytes) ≡ ended_lines (stream ++ take n bytes) ++ more)
lines_behind stream bytes n =
    let e : stream ++ bytes ≡ (stream ++ take n bytes) ++ drop n bytes = ap (λ (l : List ℕ). stream ++ l) (sym (take-append-drop n bytes)) ∙ sym (append_assoc stream (take n bytes) (drop n bytes)) in
    let m = ended_more (stream ++ take n bytes) (drop n bytes) in
    (m.0, ap ended_lines e ∙ m.1)

module _ (stream bytes : List ℕ) (at n : ℕ) where
  parts : stream ++ take (at + n) bytes ≡ (stream ++ take at bytes) ++ take n (drop at bytes)
  parts = ap (λ (l : List ℕ). stream ++ l) (take-add at n bytes) ∙ sym (append_assoc stream (take at bytes) (take n (drop at bytes)))

  -- more bytes, which end no line
  pub record CameNone (c : LineCutterValue) : Type 0 where
    pub fed : WasFed (stream ++ take (at + n) bytes) c
    pub ended : ended_lines (stream ++ take (at + n) bytes) ≡ ended_lines (stream ++ take at bytes)

  -- more bytes, which end one line, and what the cutter told of it
  pub record CameLine (told : LineCut) (c : LineCutterValue) : Type 0 where
    pub fed : WasFed (stream ++ take (at + n) bytes) c
    pub line : List ℕ
    pub ended : ended_lines (stream ++ take (at + n) bytes) ≡ ended_lines (stream ++ take at bytes) ++ line ∷ []
    pub cut : told ≡ cut_of c.limit line
    pub kept : c.line ≡ line_of told line

  module _ (piece : List ℕ) (told : Option LineCut) (c : LineCutterValue) (is : piece ≡ drop at bytes) (feeds : Feeds (stream ++ take at bytes) (take n piece) told c) where
    there : (o : Option LineCut) → told ≡ o → Feeds (stream ++ take at bytes) (take n (drop at bytes)) o c
    there o same = subst (λ (t : Option LineCut). Feeds (stream ++ take at bytes) (take n (drop at bytes)) t c) same (subst (λ (l : List ℕ). Feeds (stream ++ take at bytes) (take n l) told c) is feeds)

    pub no_line : told ≡ None → CameNone c
    no_line none = let f = there None none in record { fed = subst (λ (s : List ℕ). WasFed s c) (sym parts) f.fed; ended = ap ended_lines parts ∙ f.lines }

    pub one_line : (cut : LineCut) → told ≡ Some cut → CameLine cut c
    one_line cut some =
        let f = there (Some cut) some in
        record {
          fed = subst (λ (s : List ℕ). WasFed s c) (sym parts) f.fed;
          line = f.lines.0;
          ended = ap ended_lines parts ∙ f.lines.1.one;
          cut = f.lines.2.cut;
          kept = f.lines.2.kept;
        }
