use Rattle.std.proofs.Common.{◌≡◌, rules}
use Rattle.arc_io.proofs.memory.disk.keep_write.Goals as goal

pub returns-in-Ok : goal.returns-in-Ok
returns-in-Ok c =
    let same : c.in_ok-to_vec.field-0.items ≡ c.args.bytes.now = search rules in
    ((c.in_ok-to_vec.field-0, same, c.in_ok-push.ensures.items), c.in-Ok.ensures.0, c.in-Ok.ensures.1)
