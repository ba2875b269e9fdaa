use Rattle.std.proofs.Common.{refl}
use Rattle.std.proofs.lemmas.Bool.{false≢true}
use Rattle.line_gate.proofs.Closings.{closed_whole, closed_broken}
use Rattle.line_gate.proofs.gate.Gate.close_group.Goals as goal

pub returns-then-failed : goal.returns-then-failed
returns-then-failed g c =
    let e = c.close_any-store.ensures in
    closed_broken g.D.Disk.seen g.N.GateName.terms c.args.first c.close_any-store.result _ _ _ c.close-disk.ensures c.counts-at_open.ensures.at_open
    c.counts-at_open.ensures.now e.told e.at_open (c.if-failed.ensures.0 refl)

pub returns : goal.returns
returns g c =
    let e = c.close_any-store.ensures in
    closed_whole g.D.Disk.seen g.N.GateName.terms c.args.first c.close_any-store.result e.stands e.told e.at_open e.limits e.text
    (λ failed. false≢true (c.if-failed.ensures.1 failed))
