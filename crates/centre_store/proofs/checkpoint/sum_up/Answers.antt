use Rattle.std.proofs.Common.{◌≡◌, ℕ, rules, ap}
use Rattle.centre_core.specs.declared.hall.Stop.TheVariants.{Down}
use Rattle.centre_store.specs.Given.{StandForIn}
use Rattle.centre_store.proofs.Holding.{recorded_works, turned_two}
use Rattle.centre_store.proofs.Written.{may_follow, short_body, turn_next, turn_numbers, turn_has, turn_moments, turn_met, summed_of, rose_of, rose_from}
use Rattle.centre_store.proofs.checkpoint.sum_up.Goals as goal

pub turn-requires-clause-works : goal.turn-requires-clause-works
turn-requires-clause-works g c =
    let had = c.requires.had in
    recorded_works g.D.Disk.seen c.args.journal.now had.base had.history had.all.holds

pub turn-requires-clause-next : goal.turn-requires-clause-next
turn-requires-clause-next g c =
    let seen = g.D.Disk.seen in
    let j = c.args.journal.now in
    let s = c.args.centre.now in
    let body = c.args.summary.now in
    let r = c.requires in
    turn_next seen 2 j s body r.is r.few r.moment (may_follow seen j s body r.is r.few r.moment r.further r.fits r.had)
    (short_body seen j s body r.is r.few r.moment r.further r.fits r.had) r.had

pub turn-requires-clause-short : goal.turn-requires-clause-short
turn-requires-clause-short g c =
    let r = c.requires in
    short_body g.D.Disk.seen c.args.journal.now c.args.centre.now c.args.summary.now r.is r.few r.moment r.further r.fits r.had

pub returns-in-Ok-clause-has : goal.returns-in-Ok-clause-has
returns-in-Ok-clause-has g c b h all =
    let seen = g.D.Disk.seen in
    let j = c.args.journal.now in
    let s = c.args.centre.now in
    let body = c.args.summary.now in
    let r = c.requires in
    turn_has seen 2 j s body r.is r.few r.moment (may_follow seen j s body r.is r.few r.moment r.further r.fits r.had)
    (short_body seen j s body r.is r.few r.moment r.further r.fits r.had) b h all c.turn.new.self c.in-Ok.ensures.turned

pub returns-in-Ok-clause-turned : goal.returns-in-Ok-clause-turned
returns-in-Ok-clause-turned g c =
    let seen = g.D.Disk.seen in
    let j = c.args.journal.now in
    let s = c.args.centre.now in
    let body = c.args.summary.now in
    let r = c.requires in
    turn_numbers seen 2 j s body r.is r.few r.moment (may_follow seen j s body r.is r.few r.moment r.further r.fits r.had)
    (short_body seen j s body r.is r.few r.moment r.further r.fits r.had) c.turn.new.self r.had c.in-Ok.ensures.turned c.in-Ok.ensures.generation

pub returns-in-Ok-clause-summed : goal.returns-in-Ok-clause-summed
returns-in-Ok-clause-summed g c = summed_of c.args.journal.now c.turn.new.self _ (returns-in-Ok-clause-turned g c)

pub returns-in-Err-clause-down : goal.returns-in-Err-clause-down
returns-in-Err-clause-down g c =
    let now : c.faults.result ≡ (g.D.Disk.seen c.turn.new.self.disk).faults = search rules in
    let rose = rose_from _ _ _ c.requires.later (rose_of _ _ _ c.in-Err.ensures.cause) in
    (ap (λ (n : ℕ). Down c.args.at_open n) now, rose)

pub returns-in-Ok-clause-any_moment : goal.returns-in-Ok-clause-any_moment
returns-in-Ok-clause-any_moment g c b h all =
    let seen = g.D.Disk.seen in
    let j = c.args.journal.now in
    let s = c.args.centre.now in
    let body = c.args.summary.now in
    let r = c.requires in
    turn_moments seen 2 j s body r.is r.few r.moment (may_follow seen j s body r.is r.few r.moment r.further r.fits r.had)
    (short_body seen j s body r.is r.few r.moment r.further r.fits r.had) b h all c.turn.new.self.disk (StandForIn 2 b h) (turned_two b h) c.turn.ensures.any_moment

pub returns-in-Ok-clause-met : goal.returns-in-Ok-clause-met
returns-in-Ok-clause-met g c b h all =
    let r = c.requires in
    turn_met g.D.Disk.seen c.args.journal.now c.args.centre.now c.args.summary.now r.is r.few r.moment r.further r.fits r.had b h all c.turn.new.self.disk
    g.met.D.Disk.counts_now c.turn.ensures.any_moment c.turn.ensures.told

pub returns-in-Err-clause-any_moment : goal.returns-in-Err-clause-any_moment
returns-in-Err-clause-any_moment g c b h all =
    let seen = g.D.Disk.seen in
    let j = c.args.journal.now in
    let s = c.args.centre.now in
    let body = c.args.summary.now in
    let r = c.requires in
    turn_moments seen 2 j s body r.is r.few r.moment (may_follow seen j s body r.is r.few r.moment r.further r.fits r.had)
    (short_body seen j s body r.is r.few r.moment r.further r.fits r.had) b h all c.turn.new.self.disk (StandForIn 2 b h) (turned_two b h) c.turn.ensures.any_moment

pub returns-in-Err-clause-met : goal.returns-in-Err-clause-met
returns-in-Err-clause-met g c b h all =
    let r = c.requires in
    turn_met g.D.Disk.seen c.args.journal.now c.args.centre.now c.args.summary.now r.is r.few r.moment r.further r.fits r.had b h all c.turn.new.self.disk
    g.met.D.Disk.counts_now c.turn.ensures.any_moment c.turn.ensures.told
