use Rattle.std.proofs.Common.{◌∙◌, arith}
use Rattle.arc_book.proofs.Helds.{text_some, held_counts, held_so}
use Rattle.arc_book.proofs.compile.held_in.Goals as goal

pub returns : goal.returns
returns c generation s w =
    let read = c.in-Some.read in
    held_counts read c.len.result c.len-2.result (omega (arith, c.len.ensures, read.rows.ok.0)) (omega (arith, c.len-2.ensures, read.incidents.ok.0))
    ∙ held_so c.args.version c.args.body.now read generation s (text_some c.args.version c.args.body.now c.in_ok-read.field-0 read c.in-Some.is c.in_ok-read.ensures) w
