use Rattle.std.proofs.Common.{◌≡◌, Err, sym, subst, ap, ◌∙◌, arith}
use Rattle.std.proofs.lemmas.Result.{err_from_is_err_and}
use Rattle.arc_io.proofs.Moments.{quiet_start}
use Rattle.mirror_centre.specs.Answers.{IsAnsweredWith}
use Rattle.mirror_centre.proofs.Asks.{answered_by, answers_none, cut_by, stopped_by}
use Rattle.mirror_centre.proofs.feed.serve_ask.Goals as goal

pub returns-in_err-number-clause-none : goal.returns-in_err-number-clause-none
returns-in_err-number-clause-none g c =
    let p = g.P.Ends.seen c.args.port.now in
    let r = g.P.Ends.seen c.read_ask.new.port in
    let e = err_from_is_err_and c.from_residual.result c.from_residual.ensures.1 in
    let same : c.from_residual.result ≡ Err c.in_err-number.field-0.0 = e.1 ∙ ap Err e.2 in
    rw same (λ b h stands.
    answers_none (IsAnsweredWith g.D.Disk.seen b h c.args.store.now) c.in_err-number.field-0.0 c.args.answered p r c.read_ask.ensures.only
    c.read_ask.ensures.later c.in_err-number.ensures.none)

pub returns-in_err-number-clause-quiet : goal.returns-in_err-number-clause-quiet
returns-in_err-number-clause-quiet g c =
    quiet_start (g.D.Disk.seen c.args.store.now.journal.disk) (g.met.D.Disk.only_now c.args.store.now.journal.disk)

pub returns-in-Err-clause-none : goal.returns-in-Err-clause-none
returns-in-Err-clause-none g c b h stands =
    let p = g.P.Ends.seen c.args.port.now in
    let q = g.P.Ends.seen c.read_ask.new.port in
    stopped_by (IsAnsweredWith g.D.Disk.seen b h c.args.store.now) c.in_ok-number.number p q c.in_ok-number.ensures.asked c.read_ask.ensures.only
    c.read_ask.ensures.later c.in-Err.stop c.args.answered (omega (arith, c.in_ok-number.ensures.few))

pub returns-clause-none : goal.returns-clause-none
returns-clause-none g c b h stands =
    let p = g.P.Ends.seen c.args.port.now in
    let q = g.P.Ends.seen c.read_ask.new.port in
    let r = g.P.Ends.seen c.put.new.sink in
    let e = c.in-Err-put.ensures in
    cut_by (IsAnsweredWith g.D.Disk.seen b h c.args.store.now) c.in_ok-number.number p q c.in_ok-number.ensures.asked c.read_ask.ensures.only c.read_ask.ensures.later
    c.deref.result.now (subst (IsAnsweredWith g.D.Disk.seen b h c.args.store.now c.in_ok-number.number) (sym c.deref.ensures.value) (c.in_default.ensures.answered b h stands)) r e.others e.cause.later c.args.answered e.taken.0 (omega (arith, c.in_ok-number.ensures.few)) e.taken.1 e.taken.2
    e.cause.failed

pub returns-in-Ok-clause-asked : goal.returns-in-Ok-clause-asked
returns-in-Ok-clause-asked g c b h stands =
    let p = g.P.Ends.seen c.args.port.now in
    let q = g.P.Ends.seen c.read_ask.new.port in
    let r = g.P.Ends.seen c.put.new.sink in
    let e = c.in-Ok.ensures in
    answered_by (IsAnsweredWith g.D.Disk.seen b h c.args.store.now) c.in_ok-number.number p q c.in_ok-number.ensures.asked c.read_ask.ensures.only c.read_ask.ensures.later
    c.deref.result.now (subst (IsAnsweredWith g.D.Disk.seen b h c.args.store.now c.in_ok-number.number) (sym c.deref.ensures.value) (c.in_default.ensures.answered b h stands)) r e.others e.cause.later e.taken
