use Rattle.std.proofs.Common.{inl, inr, refl, sym, ap, subst, ◌∙◌}
use Rattle.std.specs.Str.Lines.{lines}
use Rattle.arc_text.specs.LineCutting.{cut_of}
use Rattle.arc_text.specs.Lines.{ended_lines}
use Rattle.arc_panel.specs.Playing.{SoFar}
use Rattle.arc_panel.proofs.Pieces.{halts_last, whole_of}
use Rattle.arc_panel.proofs.run.finish.Goals as goal

pub returns-in-Ok-clause-finished : goal.returns-in-Ok-clause-finished
returns-in-Ok-clause-finished g c s p stream fed so =
    let f = c.in-Some.ensures.finishes stream fed in
    let line = f.lines.0 in
    let tells = f.lines.2 in
    let cut = tells.cut ∙ ap (λ l. cut_of l line) (c.in-Some.ensures.limit ∙ c.requires.limit) in
    let more = c.in-Ok.ensures.played s p (ended_lines stream) line cut (c.line.ensures ∙ tells.kept) so in
    inl (
      refl,
      whole_of s p (lines stream) c.play_line.new.player (g.P.Ends.seen c.play_line.new.port)
          (subst (λ l. SoFar s p l c.play_line.new.player (g.P.Ends.seen c.play_line.new.port)) (sym f.lines.1) more),
    )

pub returns-in-Err-clause-finished : goal.returns-in-Err-clause-finished
returns-in-Err-clause-finished g c s p stream fed so =
    let f = c.in-Some.ensures.finishes stream fed in
    let line = f.lines.0 in
    let tells = f.lines.2 in
    let cut = tells.cut ∙ ap (λ l. cut_of l line) (c.in-Some.ensures.limit ∙ c.requires.limit) in
    inr (halts_last s p (ended_lines stream) (lines stream) line c.in-Err.end (g.P.Ends.seen c.play_line.new.port) f.lines.1
    (c.in-Err.ensures.halted s p (ended_lines stream) line cut (c.line.ensures ∙ tells.kept) so))
