use Rattle.std.proofs.Common.{◌++◌, ◌∷◌, ap, subst, sym}
use Rattle.std.proofs.lemmas.Result.{IfErr-weaker, IfOk-weaker}
use Rattle.script_lines.specs.Lines.{Asks, Reopen as Again}
use Rattle.arc_script.specs.Between.{MayComeNext, SoFar}
use Rattle.arc_script.specs.Halting.{Halts}
use Rattle.arc_script.specs.Leaving.{EndsHere, Leaves}
use Rattle.arc_script.specs.declared.script.Script.{Script}
use Rattle.arc_script.specs.declared.script_end.ScriptEnd.{ScriptEnd}
use Rattle.arc_script.proofs.play.play_left.Goals as goal

pub returns-in-Ended-clause-halted : goal.returns-in-Ended-clause-halted
returns-in-Ended-clause-halted g c b lines more typed leaves =
    let seen = g.D.Disk.seen in
    let script = c.args.script.now in
    let s = c.args.store in
    let p = g.P.Ends.seen c.args.port.now in
    let disk = c.halt.result.disk in
    let tally = c.halt.new.script.tally in
    let here : EndsHere seen b lines typed script s p c.in-Ended.end = subst (Leaves seen b lines typed script s p) c.in-Ended.is leaves in
    subst (λ (e : ScriptEnd). Halts seen b lines (lines ++ typed ∷ more) e p disk tally) (sym c.halt.ensures.end)
    (here more disk tally (record { disk_is = c.halt.ensures.disk; tally_is = ap (λ (k : Script). k.tally) c.halt.ensures.closed }))

pub returns-in-Reopen-clause-played : goal.returns-in-Reopen-clause-played
returns-in-Reopen-clause-played g c =
    let seen = g.D.Disk.seen in
    let script = c.args.script.now in
    let s = c.args.store in
    let p = g.P.Ends.seen c.args.port.now in
    IfOk-weaker c.play_reopen.result _ _ (λ s' all b lines typed leaves.
    let here : Asks typed Again × MayComeNext lines typed × SoFar seen b lines script s p =
    subst (Leaves seen b lines typed script s p) c.in-Reopen.is leaves in
    all b lines typed here.0 here.1 here.2) c.play_reopen.ensures.played

pub returns-in-Reopen-clause-halted : goal.returns-in-Reopen-clause-halted
returns-in-Reopen-clause-halted g c =
    let seen = g.D.Disk.seen in
    let script = c.args.script.now in
    let s = c.args.store in
    let p = g.P.Ends.seen c.args.port.now in
    IfErr-weaker c.play_reopen.result _ _ (λ halted all b lines more typed leaves.
    let here : Asks typed Again × MayComeNext lines typed × SoFar seen b lines script s p =
    subst (Leaves seen b lines typed script s p) c.in-Reopen.is leaves in
    all b lines more typed here.0 here.1 here.2) c.play_reopen.ensures.halted
