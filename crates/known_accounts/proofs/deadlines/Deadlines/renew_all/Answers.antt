-- One account more, up to all.
use Rattle.std.proofs.Common.{◌<◌, length, refl, arith}
use Rattle.std.specs.Prelude.{slice_get}
use Rattle.alarm_rules.specs.Setups.{meaning}
use Rattle.known_accounts.proofs.Renewed.{renewed_next}
use Rattle.known_accounts.proofs.deadlines.Deadlines.renew_all.Goals as goal

pub loop-place-preserved : goal.loop-place-preserved
loop-place-preserved c =
    let xs = (meaning c.args.setup.now).accounts in
    let within : c.loop-place.place < length xs = omega (arith, c.loop-place-test.true, c.loop-place.auto.place-end, c.count-place-end.ensures.value) in
    record {
      places = c.renew.ensures.places;
      first = renewed_next c.args.rows.now xs c.loop-place.place (slice_get xs c.loop-place.place) c.loop-place.self c.renew.new.self within refl
          c.renew.ensures.renewed c.loop-place.invariant.places c.loop-place.invariant.first;
    }
