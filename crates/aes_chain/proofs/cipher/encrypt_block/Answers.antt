use Rattle.std.proofs.Common.{ap, ◌∙◌}
use Rattle.aes_chain.specs.Cipher.{encrypted}
use Rattle.aes_chain.proofs.cipher.encrypt_block.Goals as goal

pub returns : goal.returns
returns c = c.store.ensures ∙ c.encrypt_columns-columns.ensures ∙ ap (encrypted c.args.key.now) c.load.ensures
