use Rattle.aes_chain.proofs.Chaining.{chain_encrypted-chain_decrypted}
use Rattle.aes_chain.proofs.laws.law_chain_encrypted_decrypted.Goals as goal

pub returns : goal.returns
returns c = chain_encrypted-chain_decrypted
