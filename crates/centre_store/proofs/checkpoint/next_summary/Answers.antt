use Rattle.std.proofs.Common.{arith}
use Rattle.centre_store.proofs.NextSummary.{fits_next}
use Rattle.centre_store.proofs.checkpoint.next_summary.Goals as goal

pub overflow_add-generation : goal.overflow_add-generation
overflow_add-generation g c =
    let had = c.requires.had in
    omega (
      arith,
      c.generation.ensures,
      fits_next g.D.Disk.seen 2 c.args.journal.now had.base had.history had.all.holds (omega arith) c.args.centre.now had.all.stands c.requires.few,
    )
