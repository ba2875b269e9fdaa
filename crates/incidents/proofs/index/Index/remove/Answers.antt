-- The map has the number no more.
use Rattle.std.proofs.Common.{None}
use Rattle.incidents.specs.Index.{key_of}
use Rattle.incidents.proofs.Told.{told}
use Rattle.incidents.proofs.index.Index.remove.Goals as goal

pub returns-clause-tells : goal.returns-clause-tells
returns-clause-tells c = λ x d.
    told c.key_for.result c.args.account.now c.args.class x d None _ _ _ c.args.self.now c.key_for.ensures c.self.view_is (c.swap_remove.ensures.updates.0 (key_of x d))
