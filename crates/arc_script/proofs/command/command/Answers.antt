use Rattle.std.proofs.Common.{◌≡◌, ◌-◌, ℕ, List, [], Option, Some, Ok, Err, ap, length, refl, set, sym, subst, ◌∙◌, arith}
use Rattle.std.specs.Prelude.{unwrap_or}
use Rattle.std.specs.List.{slice_get}
use Rattle.std.proofs.lemmas.Option.{slice_get_read}
use Rattle.centre_core.specs.Setting.{IsSetting}
use Rattle.desk_session.specs.declared.desk_end.DeskEnd.TheVariants.{Quit}
use Rattle.centre_store.proofs.Halled.{at_open_stays, limits_stay, tells_stays}
use Rattle.arc_script.specs.PageWords.{page_seen}
use Rattle.arc_script.specs.declared.script_end.Tally.{Tally}
use Rattle.arc_script.proofs.Carries.{set_other}
use Rattle.arc_script.proofs.CommandAnswers.{closings, ended_as, given_as, halted_first, set_at}
use Rattle.arc_script.proofs.Commandings.{goes_on, quits_on, took_on, took_quit, IsGiven}
use Rattle.arc_script.proofs.Desked.{Closings}
use Rattle.arc_script.proofs.FedAnswers.{still_set}
use Rattle.arc_script.proofs.Kept.{desks_kept}
use Rattle.arc_script.proofs.command.command.Goals as goal

pub returns-in-Err-clause-stop : goal.returns-in-Err-clause-stop
returns-in-Err-clause-stop g c =
    λ base before clock count h next empty stands readable up.
    halted_first g.D.Disk.seen c.args.store.now base c.args.script.now.setup clock c.args.desk before c.args.text.now h
    c.args.script.now.tally c.in-Err.stop c.put_asked.result c.in-Err.is (c.in-Err.is ∙ c.in-Err.ensures.stop) stands readable up

pub take-end-requires : goal.take-end-requires
take-end-requires g c = subst IsSetting (sym c.requires.set) c.args.script.now.valid

pub returns-in-Ok : goal.returns-in-Ok
returns-in-Ok g c =
    let script = c.args.script.now in
    let desks = script.desks.items in
    let place = c.args.desk - 1 in
    let was = c.index_mut.result.now in
    let there : slice_get desks place ≡ Some was =
    slice_get_read desks 8 place was (omega (arith, script.eight, script.desks.ok.0)) (omega (arith, c.requires.desk.low, c.requires.desk.high))
    c.index_mut.ensures.value in
    let counted : Tally = record script.tally { closed = c.saturating_add-script.result } in
    let sums : Closings c.args.store.now.state c.take-end.new.hall.state script.tally counted =
    closings c.args.store.now.state c.take-end.new.hall.state c.centre.result.now c.centre-2.result.now script.tally counted c.count-open.result
    c.count.result c.saturating_sub-closed.result c.centre.ensures c.centre-2.ensures (c.count-open.ensures ∙ ap length c.table.ensures.incidents)
    (c.count.ensures ∙ ap length c.table-2.ensures.incidents) c.saturating_sub-closed.ensures c.saturating_add-script.ensures refl in
    let given : IsGiven g.D.Disk.seen c.args.store.now c.take-end.new.hall script.setup c.args.desk
    c.args.text.now
    desks was c.take-end.new.self (page_seen c.args.page.now) c.put_asked.new.page c.take-end.new.port c.ended-line.result.now
    c.take-end.result = record {
      low = c.requires.desk.low;
      there = there;
      set = c.requires.set;
      setting = subst IsSetting (sym c.requires.set) script.valid;
      only = c.in_default.ensures.only;
      head = c.in_default.ensures.put;
      line = c.ended-line.ensures;
      one = c.take-end.new.port.still;
      silent = c.take-end.new.port.silent;
      taken = c.take-end.ensures.taken;
      served = (λ base stream h took for. c.take-end.ensures.served stream base h took for);
    } in
    let at = given_as g.D.Disk.seen c.args.store.now c.take-end.new.hall script.setup c.args.desk
    c.args.text.now
    script.lines.items desks was c.take-end.new.self script.tally counted (page_seen c.args.page.now) c.put_asked.new.page
    c.take-end.new.port c.ended-line.result.now
    c.take-end.result given (Ok tt) c.in-Ok.is in
    record {
      answered = λ base. goes_on g.D.Disk.seen c.args.store.now c.take-end.new.hall base script.setup c.args.desk c.args.text.now
          script.lines.items desks was c.take-end.new.self script.tally counted (page_seen c.args.page.now) c.put_asked.new.page
          c.take-end.new.port c.ended-line.result.now at sums;
      took = took_on g.D.Disk.seen c.args.store.now c.take-end.new.hall script.setup c.args.desk c.args.text.now
          script.lines.items desks _ was c.take-end.new.self (page_seen c.args.page.now) c.put_asked.new.page c.take-end.new.port
          c.ended-line.result.now at
          (set_at desks place c.take-end.new.self was there) (λ k other. set_other desks place k c.take-end.new.self other);
      stop = tt;
      set = still_set c.take-end.new.hall.state.sum.text c.args.script.now.setup c.take-end.ensures.kept.ready
          (c.take-end.ensures.kept.text ∙ ap (λ (o : Option (List ℕ)). unwrap_or o []) c.requires.set);
      rest = desks_kept c.args.script.now _ refl refl refl refl refl refl;
      tells = tells_stays c.take-end.ensures.kept.fixed;
      at_open = at_open_stays c.take-end.ensures.kept.fixed;
      limits = limits_stay c.take-end.ensures.kept.fixed;
    }

pub returns-in-Err-Quit : goal.returns-in-Err-Quit
returns-in-Err-Quit g c =
    let script = c.args.script.now in
    let desks = script.desks.items in
    let place = c.args.desk - 1 in
    let was = c.index_mut.result.now in
    let there : slice_get desks place ≡ Some was =
    slice_get_read desks 8 place was (omega (arith, script.eight, script.desks.ok.0)) (omega (arith, c.requires.desk.low, c.requires.desk.high))
    c.index_mut.ensures.value in
    let counted : Tally = record script.tally { closed = c.saturating_add-script.result } in
    let sums : Closings c.args.store.now.state c.take-end.new.hall.state script.tally counted =
    closings c.args.store.now.state c.take-end.new.hall.state c.centre.result.now c.centre-2.result.now script.tally counted c.count-open.result
    c.count.result c.saturating_sub-closed.result c.centre.ensures c.centre-2.ensures (c.count-open.ensures ∙ ap length c.table.ensures.incidents)
    (c.count.ensures ∙ ap length c.table-2.ensures.incidents) c.saturating_sub-closed.ensures c.saturating_add-script.ensures refl in
    let given : IsGiven g.D.Disk.seen c.args.store.now c.take-end.new.hall script.setup c.args.desk
    c.args.text.now
    desks was c.take-end.new.self (page_seen c.args.page.now) c.put_asked.new.page c.take-end.new.port c.ended-line.result.now
    c.take-end.result = record {
      low = c.requires.desk.low;
      there = there;
      set = c.requires.set;
      setting = subst IsSetting (sym c.requires.set) script.valid;
      only = c.in_default.ensures.only;
      head = c.in_default.ensures.put;
      line = c.ended-line.ensures;
      one = c.take-end.new.port.still;
      silent = c.take-end.new.port.silent;
      taken = c.take-end.ensures.taken;
      served = (λ base stream h took for. c.take-end.ensures.served stream base h took for);
    } in
    let at = given_as g.D.Disk.seen c.args.store.now c.take-end.new.hall script.setup c.args.desk
    c.args.text.now
    script.lines.items desks was c.take-end.new.self script.tally counted (page_seen c.args.page.now) c.put_asked.new.page
    c.take-end.new.port c.ended-line.result.now
    c.take-end.result given (Err Quit) (c.in-Err-Quit.is ∙ ap Err (rw c.in-Err-Quit.is at c.in-Err-Quit.field-0-is)) in
    let now = c.take-end.new.self in
    record {
      answered = λ base. quits_on g.D.Disk.seen c.args.store.now c.take-end.new.hall base script.setup c.args.desk c.args.text.now
          script.lines.items desks was c.take-end.new.self script.tally counted (page_seen c.args.page.now) c.put_asked.new.page
          c.take-end.new.port c.ended-line.result.now at sums;
      took = took_quit g.D.Disk.seen c.args.store.now c.take-end.new.hall script.setup c.args.desk c.args.text.now
          script.lines.items desks _ was now c.new.result (page_seen c.args.page.now) c.put_asked.new.page c.take-end.new.port
          c.ended-line.result.now at c.new.ensures
          (set_at (set desks place now) place c.new.result now (set_at desks place now was there))
          (λ k other. set_other (set desks place now) place k c.new.result other ∙ set_other desks place k now other);
      stop = tt;
      set = still_set c.take-end.new.hall.state.sum.text c.args.script.now.setup c.take-end.ensures.kept.ready
          (c.take-end.ensures.kept.text ∙ ap (λ (o : Option (List ℕ)). unwrap_or o []) c.requires.set);
      rest = desks_kept c.args.script.now _ refl refl refl refl refl refl;
      tells = tells_stays c.take-end.ensures.kept.fixed;
      at_open = at_open_stays c.take-end.ensures.kept.fixed;
      limits = limits_stay c.take-end.ensures.kept.fixed;
    }

pub returns-in-Err-end : goal.returns-in-Err-end
returns-in-Err-end g c =
    let script = c.args.script.now in
    let desks = script.desks.items in
    let place = c.args.desk - 1 in
    let was = c.index_mut.result.now in
    let there : slice_get desks place ≡ Some was =
    slice_get_read desks 8 place was (omega (arith, script.eight, script.desks.ok.0)) (omega (arith, c.requires.desk.low, c.requires.desk.high))
    c.index_mut.ensures.value in
    let counted : Tally = record script.tally { closed = c.saturating_add-script.result } in
    let sums : Closings c.args.store.now.state c.take-end.new.hall.state script.tally counted =
    closings c.args.store.now.state c.take-end.new.hall.state c.centre.result.now c.centre-2.result.now script.tally counted c.count-open.result
    c.count.result c.saturating_sub-closed.result c.centre.ensures c.centre-2.ensures (c.count-open.ensures ∙ ap length c.table.ensures.incidents)
    (c.count.ensures ∙ ap length c.table-2.ensures.incidents) c.saturating_sub-closed.ensures c.saturating_add-script.ensures refl in
    let given : IsGiven g.D.Disk.seen c.args.store.now c.take-end.new.hall script.setup c.args.desk
    c.args.text.now
    desks was c.take-end.new.self (page_seen c.args.page.now) c.put_asked.new.page c.take-end.new.port c.ended-line.result.now
    c.take-end.result = record {
      low = c.requires.desk.low;
      there = there;
      set = c.requires.set;
      setting = subst IsSetting (sym c.requires.set) script.valid;
      only = c.in_default.ensures.only;
      head = c.in_default.ensures.put;
      line = c.ended-line.ensures;
      one = c.take-end.new.port.still;
      silent = c.take-end.new.port.silent;
      taken = c.take-end.ensures.taken;
      served = (λ base stream h took for. c.take-end.ensures.served stream base h took for);
    } in
    record {
      answered = tt;
      took = tt;
      stop = ended_as g.D.Disk.seen c.args.store.now c.take-end.new.hall script.setup c.args.desk
          c.args.text.now script.lines.items desks was c.take-end.new.self script.tally counted (page_seen c.args.page.now) c.put_asked.new.page
          c.take-end.new.port c.ended-line.result.now c.take-end.result given c.in-Err-end.end c.stop_of.result c.in-Err-end.is
          c.stop_of.ensures
          c.take-end.ensures.ends sums;
      set = still_set c.take-end.new.hall.state.sum.text script.setup c.take-end.ensures.kept.ready
          (c.take-end.ensures.kept.text ∙ ap (λ (o : Option (List ℕ)). unwrap_or o []) c.requires.set);
      rest = desks_kept c.args.script.now _ refl refl refl refl refl refl;
      tells = tells_stays c.take-end.ensures.kept.fixed;
      at_open = at_open_stays c.take-end.ensures.kept.fixed;
      limits = limits_stay c.take-end.ensures.kept.fixed;
    }
