use Rattle.std.proofs.Common.{◌<◌, ◌+◌, [], length, get_or, arith}
use Rattle.disk_journal.proofs.Again.{holds_again, pushed, walk_begins}
use Rattle.disk_journal.proofs.journal.Journal.body.Goals as goal

pub returns-in-Ok-push_vec-clause-given : goal.returns-in-Ok-push_vec-clause-given
returns-in-Ok-push_vec-clause-given g c version summary bodies h =
    let self = c.args.self.now in
    let i = c.args.i in
    let below : i < length bodies = omega (arith, c.requires.below, h.count) in
    let here = walk_begins g.D.Disk.seen self version summary bodies h c.start-next.result.0 c.start-next.result.1 (omega (arith, below, c.start-next.ensures.ahead)) (omega (arith, c.fits-self))
    (c.start-next.ensures.place summary bodies h.placed) in
    pushed (g.D.Disk.seen self.disk).told c.in-Ok.body.items (get_or bodies i []) c.args.out.now c.push_vec.new.self c.in-Ok-push_vec.ensures (c.in-Ok.ensures.body version summary bodies below here)

pub returns-in-Ok-push_vec-clause-holds : goal.returns-in-Ok-push_vec-clause-holds
returns-in-Ok-push_vec-clause-holds g c up version summary bodies h =
    let self = c.args.self.now in
    let i = c.args.i in
    let below : i < length bodies = omega (arith, c.requires.below, h.count) in
    let here = walk_begins g.D.Disk.seen self version summary bodies h c.start-next.result.0 c.start-next.result.1 (omega (arith, below, c.start-next.ensures.ahead)) (omega (arith, c.fits-self))
    (c.start-next.ensures.place summary bodies h.placed) in
    holds_again g.D.Disk.seen self version summary bodies h c.find_body.new.disk (i + 1) c.in-Ok.place c.find_body.ensures.quiet (omega (arith, below)) (c.in-Ok.ensures.behind version summary bodies below here)

pub returns-in-Err-push_vec-clause-holds : goal.returns-in-Err-push_vec-clause-holds
returns-in-Err-push_vec-clause-holds g c up version summary bodies h =
    let self = c.args.self.now in
    let i = c.args.i in
    let below : i < length bodies = omega (arith, c.requires.below, h.count) in
    let here = walk_begins g.D.Disk.seen self version summary bodies h c.start-next.result.0 c.start-next.result.1 (omega (arith, below, c.start-next.ensures.ahead)) (omega (arith, c.fits-self))
    (c.start-next.ensures.place summary bodies h.placed) in
    holds_again g.D.Disk.seen self version summary bodies h c.find_body.new.disk (i + 1) c.in-Ok.place c.find_body.ensures.quiet (omega (arith, below)) (c.in-Ok.ensures.behind version summary bodies below here)
