use Rattle.std.proofs.Common.{Some, None, Bor, ap, ◌∙◌}
use Rattle.std.specs.Option.{option_map}
use Rattle.aes_chain.specs.declared.key.Key.{Key}
use Rattle.alarm_rules.specs.Setups.{meaning, key_of}
use Rattle.accounts.proofs.MeaningLemmas.{key-read}
use Rattle.accounts.proofs.setup.Setup.key.Goals as goal

pub returns-in_err-find : goal.returns-in_err-find
returns-in_err-find c =
    ap (option_map (λ (k : Bor Key). k.now)) c.from_residual.ensures ∙ key-read _ _ c.self.invariant c.args.account.now None c.in_err-find.ensures
    ∙ ap (λ text. key_of (meaning text) c.args.account.now) c.self.view_is

pub returns : goal.returns
returns c =
    c.as_ref.ensures.value ∙ key-read _ _ c.self.invariant c.args.account.now (Some c.in_ok-find.field-0.now) c.in_ok-find.ensures
    ∙ ap (λ text. key_of (meaning text) c.args.account.now) c.self.view_is
