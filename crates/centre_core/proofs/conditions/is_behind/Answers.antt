-- An account behind the one before it stands behind all.
use Rattle.std.proofs.Common.{◌-◌, arith}
use Rattle.centre_core.specs.Decoding.{IsReadBefore}
use Rattle.centre_core.proofs.Growing.{two_step_at, two_neighbours_at}
use Rattle.centre_core.proofs.RowsPut.{before_both}
use Rattle.centre_core.proofs.conditions.is_behind.Goals as goal

pub returns-else-i-eq0-clause-fine : goal.returns-else-i-eq0-clause-fine
returns-else-i-eq0-clause-fine c = λ t.
    two_step_at IsReadBefore before_both c.args.rows.now c.args.i (c.args.i - 1) c.row_at.result.now c.row_at-else-i-eq0.result.now (omega arith)
    c.row_at.ensures c.row_at-else-i-eq0.ensures (c.is_before.ensures.0 t) c.requires.order

pub returns-else-i-eq0-clause-only : goal.returns-else-i-eq0-clause-only
returns-else-i-eq0-clause-only c = λ w.
    c.is_before.ensures.1 (two_neighbours_at IsReadBefore c.args.rows.now c.args.i (c.args.i - 1) c.row_at.result.now c.row_at-else-i-eq0.result.now (omega arith)
    c.row_at.ensures c.row_at-else-i-eq0.ensures w)
