use Rattle.std.proofs.Common.{arith}
use Rattle.std.proofs.lemmas.Result.{err_from_is_err_and}
use Rattle.accounts.proofs.ReadingLemmas.{nothing-read, all-faults, all-stands, first-fault, one-read}
use Rattle.accounts.proofs.reading.read_table.Goals as goal

pub loop-line-init : goal.loop-line-init
loop-line-init c = record { read = rw c.new-table.ensures (nothing-read c.args.text.now); bound = omega arith }

pub returns-in_err-take_line-clause-fault : goal.returns-in_err-take_line-clause-fault
returns-in_err-take_line-clause-fault c =
    let p = err_from_is_err_and c.from_residual.result c.from_residual.ensures.1 in
    let read = c.loop-line.invariant.read in
    rw (p.1, p.2) (first-fault _ _ _ _ read c.in-Some.line.now c.in-Some.after.now c.in-Some.ensures.first _ c.in_err-take_line.ensures)

pub loop-line-preserved : goal.loop-line-preserved
loop-line-preserved c = record {
  read =
      one-read _ _ _ _ c.loop-line.invariant.read c.in-Some.line.now c.in-Some.after.now c.in-Some.ensures.first _ c.in_ok-take_line.ensures;
  bound = omega (arith, c.in-Some.ensures.shorter);
}

pub returns-clause-faultless : goal.returns-clause-faultless
returns-clause-faultless c = all-faults _ _ _ _ c.loop-line.invariant.read c.in_default.ensures.none

pub returns-clause-table : goal.returns-clause-table
returns-clause-table c = all-stands _ _ _ _ c.loop-line.invariant.read c.in_default.ensures.none
