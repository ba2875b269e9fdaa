-- Each row is fine, and its account stands behind those before.
use Rattle.std.proofs.Common.{◌+◌, ◌∙◌, sym}
use Rattle.std.proofs.lemmas.Bool.{false≢true}
use Rattle.centre_core.specs.Decoding.{IsRowFine, IsReadBefore}
use Rattle.centre_core.proofs.Growing.{every_more, every_one, two_part}
use Rattle.centre_core.proofs.conditions.are_rows.Goals as goal

pub returns-then-not-is_row-clause-only : goal.returns-then-not-is_row-clause-only
returns-then-not-is_row-clause-only c = λ w.
    let fine = every_one (IsRowFine c.args.last) c.args.rows.now c.loop-i.i c.row_at.result.now c.row_at.ensures w.each in
    absurd (false≢true (sym c.if-not-is_row.true ∙ c.is_row.ensures.only fine))

pub returns-then-not-is_behind-clause-only : goal.returns-then-not-is_behind-clause-only
returns-then-not-is_behind-clause-only c = λ w.
    absurd (false≢true (sym c.if-not-is_behind.true ∙ c.is_behind.ensures.only (two_part IsReadBefore c.args.rows.now (c.loop-i.i + 1) w.order)))

pub loop-i-preserved : goal.loop-i-preserved
loop-i-preserved c = record {
  each = every_more (IsRowFine c.args.last) c.args.rows.now c.loop-i.i c.row_at.result.now c.row_at.ensures (c.is_row.ensures.fine c.if-not-is_row.false) c.loop-i.invariant.each;
  order = c.is_behind.ensures.fine c.if-not-is_behind.false;
}
