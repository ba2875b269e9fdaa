use Rattle.std.proofs.Common.{ap, ◌∙◌}
use Rattle.aes_chain.specs.Cipher.{decrypted}
use Rattle.aes_chain.proofs.cipher.decrypt_block.Goals as goal

pub returns : goal.returns
returns c = c.store.ensures ∙ c.decrypt_columns-columns.ensures ∙ ap (decrypted c.args.key.now) c.load.ensures
