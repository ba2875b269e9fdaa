use Rattle.std.proofs.Common.{sym, subst, arith}
use Rattle.mirror_centre.specs.Following.{ReadsNone}
use Rattle.mirror_centre.proofs.Turns.{unread_by, unread_joined}
use Rattle.mirror_centre.proofs.asking.read_behind.Goals as goal

pub returns-in-Err-clause-none : goal.returns-in-Err-clause-none
returns-in-Err-clause-none g c =
    let p = g.P.Ends.seen c.args.port.now in
    let q = g.P.Ends.seen c.read_next.new.port in
    subst (λ e. ReadsNone e c.args.after c.args.taken c.args.front.items p q) (sym c.end_of.ensures)
    (unread_by c.in-Err.short c.args.after c.args.taken c.args.count c.args.front.items p q _ (omega (arith, c.len.ensures)) c.requires.may c.in-Err.ensures.short)

pub returns-in_default-clause-none : goal.returns-in_default-clause-none
returns-in_default-clause-none g c =
    let p = g.P.Ends.seen c.args.port.now in
    let q = g.P.Ends.seen c.read_next.new.port in
    let read = c.in-Ok.ensures.read in
    unread_joined c.args.after c.args.taken c.args.count c.args.front.items c.in-Ok.bytes.items p q c.requires.may read.size read.left (omega (arith, read.most, c.len.ensures))
