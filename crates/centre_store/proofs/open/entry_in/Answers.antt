use Rattle.std.proofs.Common.{◌≡◌, ◌≤◌, ◌<◌, ◌^◌, ◌++◌, ◌∷◌, [], refl, true, arith}
use Rattle.centre_rules.specs.History.{Entry, is_recorded, last, moment_after}
use Rattle.centre_rules.specs.State.{entry_of}
use Rattle.centre_store.proofs.OpeningSteps.{never_none, found_is, found_spelled, retold, last_body, last_spelled, goes_on, goes_on_from, is_refused, is_taken, next_more}
use Rattle.centre_store.proofs.open.entry_in.Goals as goal

pub returns-in-None-clause-broken : goal.returns-in-None-clause-broken
returns-in-None-clause-broken c base front past before stands e p =
    let body = c.args.body.now in
    let version = c.args.version in
    never_none c.in_ok-spelled.field-0 c.in-None.is (c.in_ok-spelled.ensures.only e.event e.at (last_spelled version base (front ++ body ∷ []) e past p) (last_body version base front body e past p)).1

pub returns-then-not-is_recorded_at-clause-broken : goal.returns-then-not-is_recorded_at-clause-broken
returns-then-not-is_recorded_at-clause-broken c base front past before stands e p =
    let body = c.args.body.now in
    let version = c.args.version in
    let event = c.in-Some.spelled.0 in
    let at = c.in-Some.spelled.1 in
    let ready = c.in_ok-ready.ready in
    let found = found_is c.in_ok-spelled.field-0 event e.event at e.at c.in-Some.is (c.in_ok-spelled.ensures.only e.event e.at (last_spelled version base (front ++ body ∷ []) e past p) (last_body version base front body e past p)).0 in
    let stays = c.prepare.ensures.stays base past stands in
    let goes = goes_on version base front body past e event at ready.at ready.reply p found (c.in_ok-ready.ensures.at base past stays) (c.in_ok-ready.ensures.reply base past stays) in
    is_refused c.is_recorded_at.result (is_recorded ready.reply ≡ true) (ready.at ≡ at) c.is_recorded_at.ensures (c.if-not-is_recorded_at.true) (goes.recorded, goes.moment)

pub returns-clause-spelled : goal.returns-clause-spelled
returns-clause-spelled c =
    let event = c.in-Some.spelled.0 in
    let at = c.in-Some.spelled.1 in
    let ready = c.in_ok-ready.ready in
    let body = c.args.body.now in
    let version = c.args.version in
    let both = is_taken c.is_recorded_at.result (is_recorded ready.reply ≡ true) (ready.at ≡ at) c.is_recorded_at.ensures c.if-not-is_recorded_at.false in
    retold version event ready.event at ready.at body c.in_ok-ready.ensures.event both.1 (found_spelled version c.in_ok-spelled.field-0 event at body c.in-Some.is c.in_ok-spelled.ensures.found)

pub returns-clause-next : goal.returns-clause-next
returns-clause-next c base front past p stands =
    let event = c.in-Some.spelled.0 in
    let at = c.in-Some.spelled.1 in
    let ready = c.in_ok-ready.ready in
    let body = c.args.body.now in
    let version = c.args.version in
    let e : Entry = entry_of 0 ready in
    let both = is_taken c.is_recorded_at.result (is_recorded ready.reply ≡ true) (ready.at ≡ at) c.is_recorded_at.ensures c.if-not-is_recorded_at.false in
    let spelled = retold version event ready.event at ready.at body c.in_ok-ready.ensures.event both.1 (found_spelled version c.in_ok-spelled.field-0 event at body c.in-Some.is c.in_ok-spelled.ensures.found) in
    let few : c.prepare.new.self.entries < 2 ^ 48 = omega arith in
    let reply = c.in_ok-ready.ensures.reply base past stands in
    next_more version base front body e c.prepare.new.self past at p stands few refl both.0 spelled (c.in_ok-ready.ensures.at base past stands) (rw c.in_ok-ready.ensures.event reply)

-- Of a history with quiet entries.

pub returns-in-None-clause-ends : goal.returns-in-None-clause-ends
returns-in-None-clause-ends c few base h e stands next spelled is =
    never_none c.in_ok-spelled.field-0 c.in-None.is (c.in_ok-spelled.ensures.only e.event e.at spelled is).1

pub returns-then-not-is_recorded_at-clause-ends : goal.returns-then-not-is_recorded_at-clause-ends
returns-then-not-is_recorded_at-clause-ends c few base h e stands next spelled is =
    let event = c.in-Some.spelled.0 in
    let at = c.in-Some.spelled.1 in
    let ready = c.in_ok-ready.ready in
    let found = found_is c.in_ok-spelled.field-0 event e.event at e.at c.in-Some.is (c.in_ok-spelled.ensures.only e.event e.at spelled is).0 in
    let stays = c.prepare.ensures.stays base h stands in
    let goes = goes_on_from base h e event at ready.at ready.reply next.next next.recorded found (c.in_ok-ready.ensures.at base h stays) (c.in_ok-ready.ensures.reply base h stays) in
    is_refused c.is_recorded_at.result (is_recorded ready.reply ≡ true) (ready.at ≡ at) c.is_recorded_at.ensures (c.if-not-is_recorded_at.true) (goes.recorded, goes.moment)

pub returns-clause-follows : goal.returns-clause-follows
returns-clause-follows c base h stands =
    let event = c.in-Some.spelled.0 in
    let at = c.in-Some.spelled.1 in
    let ready = c.in_ok-ready.ready in
    let body = c.args.body.now in
    let version = c.args.version in
    let both = is_taken c.is_recorded_at.result (is_recorded ready.reply ≡ true) (ready.at ≡ at) c.is_recorded_at.ensures c.if-not-is_recorded_at.false in
    let spelled = retold version event ready.event at ready.at body c.in_ok-ready.ensures.event both.1 (found_spelled version c.in_ok-spelled.field-0 event at body c.in-Some.is c.in_ok-spelled.ensures.found) in
    let moment : ready.at ≡ moment_after base h at = c.in_ok-ready.ensures.at base h stands in
    let late : last base h ≤ ready.at = omega (arith, moment) in
    record {
      event = spelled.0.spelled.well_formed;
      reply = rw c.in_ok-ready.ensures.event (c.in_ok-ready.ensures.reply base h stands);
      late = late;
    }
