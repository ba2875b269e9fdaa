use Rattle.aes_chain.proofs.Chaining.{encrypted-decrypted}
use Rattle.aes_chain.proofs.laws.law_encrypted_decrypted.Goals as goal

pub returns : goal.returns
returns c = encrypted-decrypted
