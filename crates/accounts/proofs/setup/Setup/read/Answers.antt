use Rattle.std.proofs.Common.{inl, inr}
use Rattle.std.proofs.lemmas.Result.{err_from_is_err_and}
use Rattle.accounts.proofs.MeaningLemmas.{setup_of-large, setup_of-fault, is_ok-read}
use Rattle.accounts.proofs.setup.Setup.read.Goals as goal

pub returns-then-text-gt-TEXT_LIMIT-clause-fault : goal.returns-then-text-gt-TEXT_LIMIT-clause-fault
returns-then-text-gt-TEXT_LIMIT-clause-fault c = inr (setup_of-large c.args.text.now c.if-text-gt-TEXT_LIMIT.true)

pub returns-in_err-table-clause-fault : goal.returns-in_err-table-clause-fault
returns-in_err-table-clause-fault c =
    let p = err_from_is_err_and c.from_residual.result c.from_residual.ensures.1 in
    rw (p.1, p.2) (elim (c.in_err-table.ensures.fault) [
      | inl memory ↦ inl memory
      | inr fault ↦ inr (setup_of-fault c.args.text.now _ c.if-text-gt-TEXT_LIMIT.false fault)
    ])

pub returns-in-Ok-clause-valid : goal.returns-in-Ok-clause-valid
returns-in-Ok-clause-valid c =
    is_ok-read c.args.text.now c.in_ok-table.table (record {
      size = c.if-text-gt-TEXT_LIMIT.false;
      faultless = c.in_ok-table.ensures.faultless;
      stands = c.in_ok-table.ensures.table;
    })
