use Rattle.std.proofs.Common.{◌≡◌}
use Rattle.std.specs.Io.KnownBytes.{prepend_known}
use Rattle.arc_io.specs.Seen.{PortSeen}
use Rattle.mirror_centre.specs.Following.{ReadsAnswer, ReadsMore}
use Rattle.mirror_centre.proofs.Turns.{count_read, ok_more}
use Rattle.mirror_centre.proofs.asking.read_count.Goals as goal

pub returns-clause-read : goal.returns-clause-read
returns-clause-read g c =
    let p = g.P.Ends.seen c.args.port.now in
    let q = g.P.Ends.seen c.read_behind.new.port in
    ok_more (λ message. ReadsMore c.args.taken c.args.letter.items message.items 8 p q)
    (λ message. (o : PortSeen) → o.left ≡ prepend_known c.args.letter.items p.left → ReadsAnswer c.args.taken message.items o q)
    c.read_behind.result
    (λ message read. count_read c.args.taken c.args.letter.items p q c.requires.letter message.items read)
    c.read_behind.ensures.read
