use Rattle.std.proofs.Common.{◌≡◌, ◌⊎◌, ℕ, inl, inr, refl, length, None, arith}
use Rattle.centre_core.specs.Decoding.{IsDecoded, IsNoSpelling}
use Rattle.centre_rules.specs.State.{State}
use Rattle.centre_rules.specs.Summary.{nothing}
use Rattle.centre_store.proofs.Opened.{ok_map, err_map, found_is, restored_none, broken_none, restored_some, broken_some}
use Rattle.centre_store.proofs.open.replay_all.Goals as goal
use Rattle.centre_store.proofs.open.replay_all.Goals.{then-count-records-via-then-count-records, then-count-records-via-else-count-records+then-count-eq0}

pub returns-then-count-records-clause-restored : goal.returns-then-count-records-clause-restored
returns-then-count-records-clause-restored c =
    let given = c.args.bodies.now in
    let few : (length given ≡ c.args.records) ⊎ (length given ≡ 0) = elim c.then-count-records.branch as (λ _. (length given ≡ c.args.records) ⊎ (length given ≡ 0)) [
      | then-count-records-via-then-count-records w ↦ inl (omega (arith, w.if-count-records.true, c.count-count.ensures))
      | then-count-records-via-else-count-records+then-count-eq0 w ↦ inr (omega (arith, w.if-count-eq0.true, c.count-count.ensures))
    ] in
    ok_map _ _ c.replay.result c.replay.ensures.replayed
    (λ s so first behind all count. restored_none c.args.version given c.args.records s first behind few (so nothing c.empty.ensures (omega arith)) all count)

pub returns-then-count-records-clause-broken : goal.returns-then-count-records-clause-broken
returns-then-count-records-clause-broken c =
    let given = c.args.bodies.now in
    let few : (length given ≡ c.args.records) ⊎ (length given ≡ 0) = elim c.then-count-records.branch as (λ _. (length given ≡ c.args.records) ⊎ (length given ≡ 0)) [
      | then-count-records-via-then-count-records w ↦ inl (omega (arith, w.if-count-records.true, c.count-count.ensures))
      | then-count-records-via-else-count-records+then-count-eq0 w ↦ inr (omega (arith, w.if-count-eq0.true, c.count-count.ensures))
    ] in
    err_map _ _ c.replay.result c.replay.ensures.broken
    (λ f so first behind all count. broken_none f c.args.version given c.args.records first behind few (so nothing None c.empty.ensures (omega arith) refl) all count)

pub returns-in-Ok-Some-clause-restored : goal.returns-in-Ok-Some-clause-restored
returns-in-Ok-Some-clause-restored c =
    let given = c.args.bodies.now in
    let body = c.at-summary.result.now in
    let x : State × ℕ = (c.in-Ok-Some.centre, c.in-Ok-Some.field-0-0-1) in
    let d : IsDecoded c.args.version body x.0 x.1 =
    found_is (IsNoSpelling c.args.version body) (λ (y : State × ℕ). IsDecoded c.args.version body y.0 y.1) c.in-Ok-Some.field-0 x c.in-Ok-Some.field-0-is c.in-Ok-Some.ensures in
    ok_map _ _ c.replay-in-Ok-Some.result c.replay-in-Ok-Some.ensures.replayed
    (λ s so first behind all count. restored_some c.args.version given c.args.records s d.base x.1 body first behind
    (λ e. omega (arith, e, c.if-count-records.false, c.count-count.ensures)) c.at-summary.ensures d.spelling
    (so d.base d.stands d.spelling.besides.recorded) all count)

pub returns-in-Ok-Some-clause-broken : goal.returns-in-Ok-Some-clause-broken
returns-in-Ok-Some-clause-broken c =
    let given = c.args.bodies.now in
    let body = c.at-summary.result.now in
    let x : State × ℕ = (c.in-Ok-Some.centre, c.in-Ok-Some.field-0-0-1) in
    let d : IsDecoded c.args.version body x.0 x.1 =
    found_is (IsNoSpelling c.args.version body) (λ (y : State × ℕ). IsDecoded c.args.version body y.0 y.1) c.in-Ok-Some.field-0 x c.in-Ok-Some.field-0-is c.in-Ok-Some.ensures in
    err_map _ _ c.replay-in-Ok-Some.result c.replay-in-Ok-Some.ensures.broken
    (λ f so first behind all count. broken_some f c.args.version given c.args.records d.base x.1 body first behind
    (λ e. omega (arith, e, c.if-count-records.false, c.count-count.ensures)) c.at-summary.ensures d.spelling
    (λ front is. so d.base front d.stands d.spelling.besides.recorded is) all count)
