use Rattle.std.proofs.Common.{◌≡◌, ℕ, List, Some, ap, arith}
use Rattle.std.proofs.lemmas.Grind.{common_steps}
use Rattle.arc_io.specs.Lists.{ten_at}
use Rattle.arc_io.specs.Memory.{noise_list, noise_calls}
use Rattle.arc_io.specs.Seen.{untold}
use Rattle.arc_io.proofs.ListLemmas.{noise_of-more}
use Rattle.arc_io.proofs.memory.noise.ListNoiseNoise.ten.Goals as goal

pub returns-clause-told : goal.returns-clause-told
returns-clause-told c =
    let old = c.args.self.now in
    let given : c.item_at-ten.result ≡ ten_at (noise_list old) (noise_calls old) = grind (arith, common_steps, old.counted, c.item_at-ten.ensures, c.deref.ensures.value) in
    ap (λ (l : List ℕ). record untold { noise = Some l }) (noise_of-more _ _ _ _ c.and_one-self.ensures given)
