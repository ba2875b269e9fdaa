use Rattle.std.proofs.Common.{sym, ◌∙◌, ap, arith}
use Rattle.alarm_rules.specs.SiaCodes.{sia_signals}
use Rattle.sia_codes.proofs.Numbers.{sia_signals-no_letter, sia_signals-unread, sia_signals-empty, sia_signals-some}
use Rattle.sia_codes.proofs.reading.read.Goals as goal

pub returns-in_err-items : goal.returns-in_err-items
returns-in_err-items c =
    c.from_residual.ensures ∙ sym (sia_signals-no_letter c.data_of.result.now c.in_err-items.ensures) ∙ ap sia_signals c.data_of.ensures

pub returns-in_err-signals : goal.returns-in_err-signals
returns-in_err-signals c =
    c.from_residual-in_err-signals.ensures
    ∙ sym (sia_signals-unread c.data_of.result.now c.in_ok-items.items.now c.in_ok-items.ensures (sym c.in_err-signals.ensures))
    ∙ ap sia_signals c.data_of.ensures

pub returns-then-count-lt-FEWEST : goal.returns-then-count-lt-FEWEST
returns-then-count-lt-FEWEST c =
    sym (sia_signals-empty c.data_of.result.now c.in_ok-items.items.now c.in_ok-signals.signals c.in_ok-items.ensures (sym c.in_ok-signals.ensures) (omega arith))
    ∙ ap sia_signals c.data_of.ensures

pub returns : goal.returns
returns c =
    sym (sia_signals-some c.data_of.result.now c.in_ok-items.items.now c.in_ok-signals.signals c.in_ok-items.ensures (sym c.in_ok-signals.ensures) (λ empty. omega arith))
    ∙ ap sia_signals c.data_of.ensures
