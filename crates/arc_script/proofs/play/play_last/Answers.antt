use Rattle.std.proofs.lemmas.Result.{IfErr-weaker, IfOk-weaker}
use Rattle.arc_script.proofs.play.play_last.Goals as goal

pub returns-in-Err-clause-played : goal.returns-in-Err-clause-played
returns-in-Err-clause-played g c =
    IfOk-weaker c.play_left.result _ _ (λ s all b lines typed is has may so count.
    all b lines typed (c.in-Err.ensures.left b lines typed is has may so count)) c.play_left.ensures.played

pub returns-in-Err-clause-halted : goal.returns-in-Err-clause-halted
returns-in-Err-clause-halted g c =
    IfErr-weaker c.play_left.result _ _ (λ halted all b lines more typed is has may so count.
    all b lines more typed (c.in-Err.ensures.left b lines typed is has may so count)) c.play_left.ensures.halted
