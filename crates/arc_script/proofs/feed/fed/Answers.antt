use Rattle.std.proofs.Common.{◌≡◌, ◌-◌, ℕ, List, [], Option, Some, ap, refl, sym, subst, ◌∙◌, arith}
use Rattle.std.specs.Prelude.{unwrap_or}
use Rattle.std.specs.List.{slice_get}
use Rattle.std.proofs.lemmas.Option.{slice_get_read}
use Rattle.arc_io.specs.Memory.{clock_calls}
use Rattle.centre_core.specs.Setting.{IsSetting}
use Rattle.centre_store.proofs.Halled.{at_open_stays, limits_stay, tells_stays}
use Rattle.arc_script.specs.Names.{line_name}
use Rattle.arc_script.specs.declared.script_end.Tally.{Tally}
use Rattle.arc_script.proofs.Carries.{set_other}
use Rattle.arc_script.proofs.FedAnswers.{ended_as, ended_fed, still_set, tallied, took_all}
use Rattle.arc_script.proofs.FedCounts.{none_fed, Tallied}
use Rattle.arc_script.proofs.FedEnds.{IsTaking}
use Rattle.arc_script.proofs.Kept.{lines_kept}
use Rattle.arc_script.proofs.feed.fed.Goals as goal

pub take-end-requires : goal.take-end-requires
take-end-requires g c = subst IsSetting (sym c.requires.set) c.args.script.now.valid

pub returns-in_default-clause-stop : goal.returns-in_default-clause-stop
returns-in_default-clause-stop g c =
    λ base before h set took short stands readable up.
    none_fed g.D.Disk.seen c.args.store.now base c.args.script.now.setup c.args.moment c.args.line before c.args.bytes.now h
    c.args.script.now.tally set stands readable up

pub returns-in-Ok-end : goal.returns-in-Ok-end
returns-in-Ok-end g c =
    let script = c.args.script.now in
    let lines = script.lines.items in
    let place = c.args.line - 1 in
    let was = c.index_mut.result.now in
    let there : slice_get lines place ≡ Some was =
    slice_get_read lines 16 place was (omega (arith, script.sixteen, script.lines.ok.0)) (omega (arith, c.requires.line.low, c.requires.line.high)) c.index_mut.ensures.value in
    let counted : Tally = record script.tally { sent = c.saturating_add-script.result; repeats = c.saturating_add-script-2.result } in
    let sums : Tallied (clock_calls c.take-end.new.port.port.clock) c.args.store.now.state c.take-end.new.hall.state script.tally counted =
    tallied _ c.args.store.now.state c.take-end.new.hall.state c.centre.result.now c.centre-2.result.now script.tally counted c.taken.result
    c.quiet_of-quiet.result c.quiet_of.result c.saturating_sub-repeats.result c.centre.ensures c.centre-2.ensures c.taken.ensures
    c.quiet_of-quiet.ensures c.quiet_of.ensures c.saturating_sub-repeats.ensures c.saturating_add-script.ensures c.saturating_add-script-2.ensures refl in
    let taking : IsTaking g.D.Disk.seen c.args.store.now c.take-end.new.hall script.setup c.args.moment c.args.line place lines
    was c.in-Ok.frames c.take-end.new.port c.args.bytes.now c.take-end.result = record {
      at = omega (arith, c.requires.line.low);
      there = there;
      set = c.requires.set;
      setting = subst IsSetting (sym c.requires.set) script.valid;
      empty = c.in-Ok.ensures.blank;
      one = c.take-end.new.port.still;
      silent = c.take-end.new.port.silent;
      served = (λ base stream h took for. c.take-end.ensures.served (line_name c.args.line) stream base h took for);
    } in
    record {
      fed = ended_fed g.D.Disk.seen c.args.store.now c.take-end.new.hall script.setup c.args.moment c.args.line place lines was
          c.in-Ok.frames c.take-end.new.port c.args.bytes.now script.tally counted sums c.take-end.result taking c.in-Ok-end.is;
      took = took_all place lines was c.take-end.new.self c.args.bytes.now c.take-end.result there c.in-Ok-end.is c.take-end.ensures.taken;
      stop = tt;
      set = still_set c.take-end.new.hall.state.sum.text c.args.script.now.setup c.take-end.ensures.kept.ready
          (c.take-end.ensures.kept.text ∙ ap (λ (o : Option (List ℕ)). unwrap_or o []) c.requires.set);
      others = λ i other. set_other c.args.script.now.lines.items (c.args.line - 1) i c.take-end.new.self other;
      rest = lines_kept c.args.script.now _ refl refl refl refl refl refl;
      tells = tells_stays c.take-end.ensures.kept.fixed;
      at_open = at_open_stays c.take-end.ensures.kept.fixed;
      limits = limits_stay c.take-end.ensures.kept.fixed;
    }

pub returns-in-Err : goal.returns-in-Err
returns-in-Err g c =
    let script = c.args.script.now in
    let lines = script.lines.items in
    let place = c.args.line - 1 in
    let was = c.index_mut.result.now in
    let there : slice_get lines place ≡ Some was =
    slice_get_read lines 16 place was (omega (arith, script.sixteen, script.lines.ok.0)) (omega (arith, c.requires.line.low, c.requires.line.high)) c.index_mut.ensures.value in
    let counted : Tally = record script.tally { sent = c.saturating_add-script.result; repeats = c.saturating_add-script-2.result } in
    let sums : Tallied (clock_calls c.take-end.new.port.port.clock) c.args.store.now.state c.take-end.new.hall.state script.tally counted =
    tallied _ c.args.store.now.state c.take-end.new.hall.state c.centre.result.now c.centre-2.result.now script.tally counted c.taken.result
    c.quiet_of-quiet.result c.quiet_of.result c.saturating_sub-repeats.result c.centre.ensures c.centre-2.ensures c.taken.ensures
    c.quiet_of-quiet.ensures c.quiet_of.ensures c.saturating_sub-repeats.ensures c.saturating_add-script.ensures c.saturating_add-script-2.ensures refl in
    let taking : IsTaking g.D.Disk.seen c.args.store.now c.take-end.new.hall script.setup c.args.moment c.args.line place lines
    was c.in-Ok.frames c.take-end.new.port c.args.bytes.now c.take-end.result = record {
      at = omega (arith, c.requires.line.low);
      there = there;
      set = c.requires.set;
      setting = subst IsSetting (sym c.requires.set) script.valid;
      empty = c.in-Ok.ensures.blank;
      one = c.take-end.new.port.still;
      silent = c.take-end.new.port.silent;
      served = (λ base stream h took for. c.take-end.ensures.served (line_name c.args.line) stream base h took for);
    } in
    record {
      fed = tt;
      took = tt;
      stop = ended_as g.D.Disk.seen c.args.store.now c.take-end.new.hall script.setup c.args.moment c.args.line place
          lines was c.in-Ok.frames c.take-end.new.port c.args.bytes.now script.tally counted sums c.take-end.result taking c.in-Err.end c.stop_of.result
          c.take-end.new.self c.in-Err.is c.stop_of.ensures c.take-end.ensures.ends c.take-end.ensures.taken;
      set = still_set c.take-end.new.hall.state.sum.text c.args.script.now.setup c.take-end.ensures.kept.ready
          (c.take-end.ensures.kept.text ∙ ap (λ (o : Option (List ℕ)). unwrap_or o []) c.requires.set);
      others = λ i other. set_other c.args.script.now.lines.items (c.args.line - 1) i c.take-end.new.self other;
      rest = lines_kept c.args.script.now _ refl refl refl refl refl refl;
      tells = tells_stays c.take-end.ensures.kept.fixed;
      at_open = at_open_stays c.take-end.ensures.kept.fixed;
      limits = limits_stay c.take-end.ensures.kept.fixed;
    }
