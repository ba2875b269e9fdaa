use Rattle.std.proofs.Common.{arith}
use Rattle.std.specs.Prelude.{is_ok}
use Rattle.centre_core.proofs.Batches.{batch_pushed}
use Rattle.centre_core.proofs.batch.Batch.push.Goals as goal

pub invariant_of-self : goal.invariant_of-self
invariant_of-self c =
    batch_pushed (is_ok c.push_back.result) c.self.inside.calls.items _ (record { event = c.args.event; clock = c.args.clock }) c.self.invariant
    (record { submitted = c.requires.submitted; formed = c.requires.formed; clock = c.requires.clock })
    (omega (arith, c.if-len-ge-MOST.false, c.len.ensures, c.self.inside.calls.ok.0)) c.push_back.ensures.items
