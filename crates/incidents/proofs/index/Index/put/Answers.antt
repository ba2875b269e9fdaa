-- The map has the new number, since there was memory for it.
use Rattle.std.proofs.Common.{Some}
use Rattle.incidents.specs.Index.{key_of}
use Rattle.incidents.proofs.Told.{told, when_ok}
use Rattle.incidents.proofs.index.Index.put.Goals as goal

pub returns-clause-tells : goal.returns-clause-tells
returns-clause-tells c = λ x d.
    let room = rw (← c.self.view_is) at c.requires in
    let u = when_ok c.insert.result _ c.insert.ensures.updates (c.insert.ensures.succeeds room) in
    told c.key_for.result c.args.account.now c.args.class x d (Some c.args.number) _ _ _ c.args.self.now c.key_for.ensures c.self.view_is (u.0 (key_of x d))
