use Rattle.std.proofs.Common.{◌≢◌, [], length, ap, arith}
use Rattle.line_gate.proofs.Joins.{withdraws}
use Rattle.line_gate.proofs.steps.withdraw.Goals as goal

pub join_seat-requires : goal.join_seat-requires
join_seat-requires c =
    let n = c.requires.note in
    let some : c.args.note.me.0.named ≢ [] = λ none. let r = ap length none in let k = n.1 in omega arith in
    (c.requires.table.0, c.requires.table.1, n.2, omega (arith, c.requires.table.2), withdraws c.args.book.now.id c.args.book.now.me.0 c.args.note.id c.args.note.me.0 c.requires.book n.0 some)
