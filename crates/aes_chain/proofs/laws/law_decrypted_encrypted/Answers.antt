use Rattle.aes_chain.proofs.Chaining.{decrypted-encrypted}
use Rattle.aes_chain.proofs.laws.law_decrypted_encrypted.Goals as goal

pub returns : goal.returns
returns c = decrypted-encrypted
