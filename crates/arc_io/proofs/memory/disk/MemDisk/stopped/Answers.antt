use Rattle.std.proofs.Common.{◌≡◌, arith}
use Rattle.std.specs.Prelude.{IfOk}
use Rattle.std.proofs.lemmas.Grind.{common_steps}
use Rattle.std.proofs.lemmas.Result.{IfOk-weaker}
use Rattle.arc_io.specs.MemoryDisk.{bytes_of, stopped_bytes}
use Rattle.arc_io.proofs.Stops.{stopped_left}
use Rattle.arc_io.proofs.memory.disk.MemDisk.stopped.Goals as goal

pub returns-clause-image : goal.returns-clause-image
returns-clause-image c =
    let filled : IfOk c.of.result (λ d. bytes_of d ≡ stopped_bytes c.args.self.now c.args.call c.args.fill) = grind (arith, common_steps) in
    IfOk-weaker c.of.result _ _ (λ d is. stopped_left c.args.self.now c.args.call c.args.fill (bytes_of d) is) filled
