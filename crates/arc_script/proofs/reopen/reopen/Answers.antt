use Rattle.std.proofs.Common.{◌≡◌, Err, rules}
use Rattle.arc_script.specs.PageWords.{page_seen}
use Rattle.arc_script.proofs.Anew.{carried_on, made_anew, shut_on, stopped_on}
use Rattle.arc_script.proofs.reopen.reopen.Goals as goal

pub returns-clause-carried : goal.returns-clause-carried
returns-clause-carried g c =
    let seen = g.D.Disk.seen in
    let mid = c.in_ok-store.store in
    let anew = made_anew seen c.args.script.now c.close-disk.new.self c.renew.new.self c.args.store mid c.begin_again-begun.new.store c.close-disk.result
    c.close-disk.ensures.later c.close-disk.ensures.disk c.close-disk.ensures.tally c.in_ok-store.ensures.opened
    (record { long = c.in_ok-store.ensures.long; fresh = c.in_ok-store.ensures.fresh }) c.in_ok-store.ensures.told
    c.in_ok-store.ensures.limits c.in_ok-store.ensures.at_open c.in_ok-store.ensures.met_none c.renew.ensures.lines c.renew.ensures.desks
    c.renew.ensures.rest
    c.begin_again-begun.ensures.tells c.begin_again-begun.ensures.at_open c.begin_again-begun.ensures.limits in
    carried_on seen c.args.script.now c.renew.new.self c.args.store mid c.begin_again-begun.new.store anew c.args.moment c.begin_again-begun.result
    (page_seen c.args.page.now) (page_seen c.begin_again-begun.new.page) c.requires.clock c.begin_again-begun.ensures.begun
    c.begin_again-begun.ensures.left
    c.begin_again-begun.ensures.set c.begin_again-begun.ensures.up
    c.begin_again-begun.ensures.text

pub returns-clause-stop : goal.returns-clause-stop
returns-clause-stop g c =
    let seen = g.D.Disk.seen in
    let mid = c.in_ok-store.store in
    let anew = made_anew seen c.args.script.now c.close-disk.new.self c.renew.new.self c.args.store mid c.begin_again-begun.new.store c.close-disk.result
    c.close-disk.ensures.later c.close-disk.ensures.disk c.close-disk.ensures.tally c.in_ok-store.ensures.opened
    (record { long = c.in_ok-store.ensures.long; fresh = c.in_ok-store.ensures.fresh }) c.in_ok-store.ensures.told
    c.in_ok-store.ensures.limits c.in_ok-store.ensures.at_open c.in_ok-store.ensures.met_none c.renew.ensures.lines c.renew.ensures.desks
    c.renew.ensures.rest
    c.begin_again-begun.ensures.tells c.begin_again-begun.ensures.at_open c.begin_again-begun.ensures.limits in
    stopped_on seen c.args.script.now c.renew.new.self c.args.store mid c.begin_again-begun.new.store anew c.args.moment c.begin_again-begun.result
    c.begin_again-begun.ensures.stop

pub returns-in_err-store-clause-shut : goal.returns-in_err-store-clause-shut
returns-in_err-store-clause-shut g c =
    let seen = g.D.Disk.seen in
    let refused = c.in_err-store.field-0.0 in
    let is : c.from_residual.result ≡ Err refused = search rules in
    shut_on seen c.args.script.now c.args.store c.close-disk.result refused c.from_residual.result is c.close-disk.ensures.disk
    c.close-disk.ensures.later
    c.in_err-store.ensures.shown c.in_err-store.ensures.counts c.in_err-store.ensures.told c.in_err-store.ensures.any_moment
    c.in_err-store.ensures.unwritten (record { long = c.in_err-store.ensures.long; fresh = c.in_err-store.ensures.fresh }) c.args.moment
