use Rattle.std.proofs.Common.{ℕ, List, IfErr, OnOk, subst}
use Rattle.centre_rules.specs.History.{Entry}
use Rattle.centre_rules.specs.Summary.{Summary}
use Rattle.centre_store.specs.Begins.{begun_after}
use Rattle.centre_store.specs.Given.{HoldsRecorded}
use Rattle.centre_store.specs.Stores.{StoreStands}
use Rattle.arc_script.specs.Playing.{BeginStops}
use Rattle.arc_script.specs.Standing.{LeavesOn}
use Rattle.arc_script.proofs.Ticks.{begin_leaves, begin_stops, uncopied, up_behind}
use Rattle.arc_script.proofs.begin.begin.Goals as goal

pub returns-in-Ok-clause-stop : goal.returns-in-Ok-clause-stop
returns-in-Ok-clause-stop g c =
    let seen = g.D.Disk.seen in
    let old = c.args.store.now in
    let new = c.begin.new.self in
    subst (λ (setup : List ℕ). IfErr c.begin.result (λ stop. (base : Summary) (h : List Entry) → StoreStands seen base old h
    → HoldsRecorded seen old.journal base h → BeginStops seen base setup c.args.moment h stop old new)) c.in-Ok.ensures
    (begin_stops seen old new c.begin.result c.in-Ok.setup c.args.moment g.met.D.Disk.counts_now c.begin.ensures.stop c.begin.ensures.cause
    c.begin.ensures.any_moment c.begin.ensures.met c.begin.ensures.already)

pub returns-in-Ok-clause-left : goal.returns-in-Ok-clause-left
returns-in-Ok-clause-left g c =
    let seen = g.D.Disk.seen in
    let old = c.args.store.now in
    let new = c.begin.new.self in
    subst (λ (setup : List ℕ). OnOk c.begin.result ((base : Summary) (h : List Entry) → StoreStands seen base old h
    → LeavesOn seen base old new h (begun_after base h setup c.args.moment))) c.in-Ok.ensures
    (begin_leaves seen old new c.begin.result c.in-Ok.setup c.args.moment c.begin.ensures.any_moment c.begin.ensures.already c.begin.ensures.down)

pub returns-in-Ok-clause-up : goal.returns-in-Ok-clause-up
returns-in-Ok-clause-up g c = up_behind g.D.Disk.seen c.begin.new.self c.begin.result c.begin.ensures.down

pub returns-in-Err-clause-stop : goal.returns-in-Err-clause-stop
returns-in-Err-clause-stop g c base h stands holds = uncopied g.D.Disk.seen base c.args.store.now c.args.script.now.setup c.args.moment h stands holds
