use Rattle.std.proofs.Common.{Some, ap, refl, sym, subst, arith}
use Rattle.std.proofs.lemmas.Result.{IfErr-at_err, IfOk-at_ok}
use Rattle.arc_io.specs.Seen.{PortSeen}
use Rattle.centre_core.specs.declared.hall.Stop.{Stop}
use Rattle.script_lines.specs.Lines.{Reopen}
use Rattle.arc_script.specs.Between.{Carries, Stops}
use Rattle.arc_script.specs.PageWords.{page_seen}
use Rattle.arc_script.specs.declared.script.Script.{Script}
use Rattle.arc_script.specs.declared.script_end.ScriptEnd.{ScriptEnd}
use Rattle.arc_script.proofs.LineEnds.{HaltsHere, cut_halts, goes_further, shut_halts, stop_halts, wanted_halts}
use Rattle.arc_script.proofs.play.play_reopen.Goals as goal

pub returns-in_default-clause-halted : goal.returns-in_default-clause-halted
returns-in_default-clause-halted g c =
    let seen = g.D.Disk.seen in
    let script = c.args.script.now in
    let s = c.args.store in
    let p = g.P.Ends.seen c.args.port.now in
    let a = Reopen in
    let disk = c.halt.result.disk in
    let tally = c.halt.new.script.tally in
    subst (λ (e : ScriptEnd). HaltsHere seen a script s p e p disk tally) (sym c.halt.ensures.end)
    (wanted_halts seen script s p a c.args.moment (omega arith) c.requires.at disk tally
    (record { disk_is = c.halt.ensures.disk; tally_is = ap (λ (k : Script). k.tally) c.halt.ensures.closed }))

pub returns-in-Err-clause-halted : goal.returns-in-Err-clause-halted
returns-in-Err-clause-halted g c =
    let seen = g.D.Disk.seen in
    let script = c.args.script.now in
    let s = c.args.store in
    let p = g.P.Ends.seen c.args.port.now in
    let a = Reopen in
    let refused = c.in-Err.field-0 in
    let shut = c.in-Err.ensures.shut in
    shut_halts seen script s p a c.args.moment (omega arith) c.requires.at refused.fault refused.disk c.carry_out_reopen.new.script.tally refl shut
    c.in-Err.ensures.closed

pub returns-in-Err-played-clause-halted : goal.returns-in-Err-played-clause-halted
returns-in-Err-played-clause-halted g c =
    let seen = g.D.Disk.seen in
    let script = c.args.script.now in
    let s = c.args.store in
    let p = g.P.Ends.seen c.args.port.now in
    let a = Reopen in
    let after = c.carry_out_reopen.new.script in
    let s' = c.in-Ok-carry_out_reopen.carried.0 in
    let stop = c.in-Err-played.stop in
    let disk = c.halt-in-Err-played.result.disk in
    let tally = c.halt-in-Err-played.new.script.tally in
    let stops = IfErr-at_err (λ (e : Stop). Stops seen c.args.moment a script after s s' e) c.in-Err-played.is c.in-Ok-carry_out_reopen.ensures.stop in
    subst (λ (e : ScriptEnd). HaltsHere seen a script s p e p disk tally) (sym c.halt-in-Err-played.ensures.end)
    (stop_halts seen script s p a c.args.moment (omega arith) c.requires.at stop after s' disk tally stops c.carry_out_reopen.ensures.rest.2
    (record { disk_is = c.halt-in-Err-played.ensures.disk; tally_is = ap (λ (k : Script). k.tally) c.halt-in-Err-played.ensures.closed }))

pub returns-in-Ok-put-clause-played : goal.returns-in-Ok-put-clause-played
returns-in-Ok-put-clause-played g c =
    let seen = g.D.Disk.seen in
    let script = c.args.script.now in
    let s = c.args.store in
    let p = g.P.Ends.seen c.args.port.now in
    let a = Reopen in
    let after = c.carry_out_reopen.new.script in
    let s' = c.in-Ok-carry_out_reopen.carried.0 in
    let q = page_seen c.in-Ok.page in
    let q' = page_seen c.carry_out_reopen.new.page in
    let none = ap (λ (k : PortSeen). k.written) c.in-Ok.ensures.blank in
    let carries = IfOk-at_ok (λ _. Carries seen c.args.moment a script after s s' q q') c.in_default-played.is c.in-Ok-carry_out_reopen.ensures.carried in
    goes_further seen script s p a c.args.moment (omega arith) c.requires.at after s' q q' c.text.result.now none (ap Some (sym c.text.ensures))
    c.carry_out_reopen.ensures.rest.2 carries (g.P.Ends.seen c.put.new.sink) c.in-Ok-put.field-0 c.put.result c.in-Ok-put.is c.put.ensures

pub returns-clause-halted : goal.returns-clause-halted
returns-clause-halted g c =
    let seen = g.D.Disk.seen in
    let script = c.args.script.now in
    let s = c.args.store in
    let p = g.P.Ends.seen c.args.port.now in
    let a = Reopen in
    let after = c.carry_out_reopen.new.script in
    let s' = c.in-Ok-carry_out_reopen.carried.0 in
    let q = page_seen c.in-Ok.page in
    let q' = page_seen c.carry_out_reopen.new.page in
    let none = ap (λ (k : PortSeen). k.written) c.in-Ok.ensures.blank in
    let carries = IfOk-at_ok (λ _. Carries seen c.args.moment a script after s s' q q') c.in_default-played.is c.in-Ok-carry_out_reopen.ensures.carried in
    let p' = g.P.Ends.seen c.put.new.sink in
    let disk = c.halt-in-Err-put.result.disk in
    let tally = c.halt-in-Err-put.new.script.tally in
    subst (λ (e : ScriptEnd). HaltsHere seen a script s p e p' disk tally) (sym c.halt-in-Err-put.ensures.end)
    (cut_halts seen script s p a c.args.moment (omega arith) c.requires.at after s' q q' c.text.result.now none (ap Some (sym c.text.ensures))
    c.carry_out_reopen.ensures.rest.2 carries p' c.in-Err-put.field-0 c.put.result disk tally c.in-Err-put.is c.put.ensures
    (record { disk_is = c.halt-in-Err-put.ensures.disk; tally_is = ap (λ (k : Script). k.tally) c.halt-in-Err-put.ensures.closed }))
