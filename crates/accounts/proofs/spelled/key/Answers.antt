use Rattle.std.proofs.Common.{◌∙◌, arith}
use Rattle.accounts.proofs.KeyDigits.{decoded-ok, decoded-err}
use Rattle.accounts.proofs.KeyLemmas.{a-key, no-key}
use Rattle.accounts.proofs.spelled.key.Goals as goal

pub returns-in_err-ok : goal.returns-in_err-ok
returns-in_err-ok c =
    let refused = decoded-err _ _ _ c.decode_to_slice.ensures.value c.in_err-ok.ensures.variant in
    c.from_residual-in_err-ok.ensures ∙ no-key c.args.word.now _ refused.0 (omega (arith, c.in_ok-bytes.ensures.lookup.0)) refused.1

pub returns : goal.returns
returns c =
    let decoded = decoded-ok _ _ _ c.decode_to_slice.ensures.value c.in_ok-ok.ensures.variant in
    a-key c.args.word.now _ _ decoded _ c.new.ensures.permitted c.new.ensures.bytes
