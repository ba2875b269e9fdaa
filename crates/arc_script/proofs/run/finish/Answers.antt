use Rattle.std.proofs.Common.{◌++◌, ◌∷◌, [], ap, ◌∙◌}
use Rattle.arc_text.specs.LineCutting.{cut_of}
use Rattle.arc_text.specs.Lines.{ended_lines}
use Rattle.arc_script.proofs.Finishing.{closed_tally, finish_whole, finish_halts}
use Rattle.arc_script.proofs.Sizes.{line_last}
use Rattle.arc_script.proofs.run.finish.Goals as goal

pub returns-in_default-clause-finished : goal.returns-in_default-clause-finished
returns-in_default-clause-finished g c b stream fed few so number =
    let f = c.in_default.ensures.finishes stream fed in
    finish_whole _ b stream (ended_lines stream) f.lines _ _ _ _ _ so c.close.ensures.disk (closed_tally c.args.script.now c.close.new.self c.args.store.state.sum c.close.ensures.tally)

pub returns-in-Ok-clause-finished : goal.returns-in-Ok-clause-finished
returns-in-Ok-clause-finished g c b stream fed few so number =
    let f = c.in-Some.ensures.finishes stream fed in
    let line = f.lines.0 in
    let tells = f.lines.2 in
    let cut = tells.cut ∙ ap (λ l. cut_of l line) (c.in-Some.ensures.limit ∙ c.requires.limit) in
    let next = line_last (ended_lines stream) line stream f.lines.1 few in
    finish_whole _ b stream (ended_lines stream ++ line ∷ []) f.lines.1 _ _ _ _ _
    (c.in-Ok.ensures.played b (ended_lines stream) line cut (c.line.ensures ∙ tells.kept) next so number)
    c.close-in-Ok.ensures.disk (closed_tally c.play_last.new.script c.close-in-Ok.new.self c.in-Ok.store.state.sum c.close-in-Ok.ensures.tally)

pub returns-in-Err-clause-finished : goal.returns-in-Err-clause-finished
returns-in-Err-clause-finished g c b stream fed few so number =
    let f = c.in-Some.ensures.finishes stream fed in
    let line = f.lines.0 in
    let tells = f.lines.2 in
    let cut = tells.cut ∙ ap (λ l. cut_of l line) (c.in-Some.ensures.limit ∙ c.requires.limit) in
    let next = line_last (ended_lines stream) line stream f.lines.1 few in
    finish_halts _ b stream (ended_lines stream ++ line ∷ []) f.lines.1 _ _ _ _
    (c.in-Err.ensures.halted b (ended_lines stream) [] line cut (c.line.ensures ∙ tells.kept) next so number)
