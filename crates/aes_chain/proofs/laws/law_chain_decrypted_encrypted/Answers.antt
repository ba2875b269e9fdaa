use Rattle.aes_chain.proofs.Chaining.{chain_decrypted-chain_encrypted}
use Rattle.aes_chain.proofs.laws.law_chain_decrypted_encrypted.Goals as goal

pub returns : goal.returns
returns c = chain_decrypted-chain_encrypted
