use Rattle.std.proofs.Common.{◌≡◌, ◌∙◌, ◌+◌, ℕ, List, Result, IfOk, true, false, length, sym, ap, subst, rules, take, drop, ◌-◌}
use Rattle.std.proofs.lemmas.List.{take_rest}
use Rattle.centre_core.specs.declared.hall.Stop.{Stop}
use Rattle.centre_rules.specs.History.{Entry}
use Rattle.centre_rules.specs.Summary.{Summary}
use Rattle.centre_store.specs.Followings.{EndsWith, TakesIn}
use Rattle.centre_store.specs.Given.{summed_size}
use Rattle.centre_store.specs.Stores.{Stored, HasFailed, StoreStands, StandsOn}
use Rattle.centre_store.specs.Writes.{IsWrittenOn}
use Rattle.mirror_centre.specs.Messages.{Record}
use Rattle.mirror_centre.specs.Sayings.{took_of}
use Rattle.mirror_centre.specs.Takings.{IsPassed, IsNextRecord, IsTold, Tries}
use Rattle.mirror_centre.specs.declared.mirror.Took.{Took}
use Rattle.mirror_centre.proofs.Taking.{not_next, one_body}
use Rattle.mirror_centre.proofs.Tried.{receives_next, receives_passed, told_next, tries, was_added, was_strange, when}
use Rattle.mirror_centre.proofs.mirror.Mirror.take.Goals as goal

pub returns-in-Some-clause-strange : goal.returns-in-Some-clause-strange
returns-in-Some-clause-strange g c is body next =
    let have : c.recorded.result ≡ c.args.self.now.state.sum.recorded = search rules in
    let passed : IsPassed c.args.self.now.state.sum.recorded c.args.message.now c.in-Some.took =
    subst (λ (n : ℕ). IsPassed n c.args.message.now c.in-Some.took) have c.in-Some.ensures in
    absurd (not_next c.args.self.now.state.sum.recorded c.args.message.now c.in-Some.took body passed next)

pub returns-in-Some-clause-down : goal.returns-in-Some-clause-down
returns-in-Some-clause-down g c body next =
    let have : c.recorded.result ≡ c.args.self.now.state.sum.recorded = search rules in
    let passed : IsPassed c.args.self.now.state.sum.recorded c.args.message.now c.in-Some.took =
    subst (λ (n : ℕ). IsPassed n c.args.message.now c.in-Some.took) have c.in-Some.ensures in
    absurd (not_next c.args.self.now.state.sum.recorded c.args.message.now c.in-Some.took body passed next)

pub returns-in-Some-clause-worn : goal.returns-in-Some-clause-worn
returns-in-Some-clause-worn g c body next =
    let have : c.recorded.result ≡ c.args.self.now.state.sum.recorded = search rules in
    let passed : IsPassed c.args.self.now.state.sum.recorded c.args.message.now c.in-Some.took =
    subst (λ (n : ℕ). IsPassed n c.args.message.now c.in-Some.took) have c.in-Some.ensures in
    absurd (not_next c.args.self.now.state.sum.recorded c.args.message.now c.in-Some.took body passed next)

pub returns-in-Some-clause-full : goal.returns-in-Some-clause-full
returns-in-Some-clause-full g c body next =
    let have : c.recorded.result ≡ c.args.self.now.state.sum.recorded = search rules in
    let passed : IsPassed c.args.self.now.state.sum.recorded c.args.message.now c.in-Some.took =
    subst (λ (n : ℕ). IsPassed n c.args.message.now c.in-Some.took) have c.in-Some.ensures in
    absurd (not_next c.args.self.now.state.sum.recorded c.args.message.now c.in-Some.took body passed next)

pub returns-in-Some-clause-any_moment : goal.returns-in-Some-clause-any_moment
returns-in-Some-clause-any_moment g c body next =
    let have : c.recorded.result ≡ c.args.self.now.state.sum.recorded = search rules in
    let passed : IsPassed c.args.self.now.state.sum.recorded c.args.message.now c.in-Some.took =
    subst (λ (n : ℕ). IsPassed n c.args.message.now c.in-Some.took) have c.in-Some.ensures in
    absurd (not_next c.args.self.now.state.sum.recorded c.args.message.now c.in-Some.took body passed next)

pub returns-in-Some-clause-met : goal.returns-in-Some-clause-met
returns-in-Some-clause-met g c body next =
    let have : c.recorded.result ≡ c.args.self.now.state.sum.recorded = search rules in
    let passed : IsPassed c.args.self.now.state.sum.recorded c.args.message.now c.in-Some.took =
    subst (λ (n : ℕ). IsPassed n c.args.message.now c.in-Some.took) have c.in-Some.ensures in
    absurd (not_next c.args.self.now.state.sum.recorded c.args.message.now c.in-Some.took body passed next)

pub returns-in-Some-clause-receives : goal.returns-in-Some-clause-receives
returns-in-Some-clause-receives g c up =
    let have : c.recorded.result ≡ c.args.self.now.state.sum.recorded = search rules in
    let passed : IsPassed c.args.self.now.state.sum.recorded c.args.message.now c.in-Some.took =
    subst (λ (n : ℕ). IsPassed n c.args.message.now c.in-Some.took) have c.in-Some.ensures in
    receives_passed g.D.Disk.seen c.args.self.now c.args.message.now c.in-Some.took passed

pub returns-in-None-clause-garbled : goal.returns-in-None-clause-garbled
returns-in-None-clause-garbled g c none =
    absurd (none (Record (c.recorded.result + 1) (drop 13 c.args.message.now)) c.in-None.ensures)

pub returns-in-None-clause-told : goal.returns-in-None-clause-told
returns-in-None-clause-told g c =
    let have : c.recorded.result ≡ c.args.self.now.state.sum.recorded = search rules in
    let body : List ℕ = drop 13 c.args.message.now in
    let next : IsNextRecord c.args.self.now.state.sum.recorded c.args.message.now body =
    subst (λ (n : ℕ). IsNextRecord n c.args.message.now body) have c.in-None.ensures in
    subst (λ (r : Result Took Stop). IfOk r (IsTold c.args.self.now.state.sum.recorded c.args.message.now)) (sym c.outcome.ensures)
    (told_next c.args.self.now.state.sum.recorded c.args.message.now body c.replay.result next)

pub returns-in-None-clause-added : goal.returns-in-None-clause-added
returns-in-None-clause-added g c is =
    let have : c.recorded.result ≡ c.args.self.now.state.sum.recorded = search rules in
    let body : List ℕ = take (length c.args.message.now - 13) (drop 13 c.args.message.now) in
    let next : IsNextRecord c.args.self.now.state.sum.recorded c.args.message.now body =
    subst (λ (l : List ℕ). IsNextRecord c.args.self.now.state.sum.recorded c.args.message.now l) (sym (take_rest c.args.message.now 13))
    (subst (λ (n : ℕ). IsNextRecord n c.args.message.now (drop 13 c.args.message.now)) have c.in-None.ensures) in
    let taken = when true ((b : Summary) (h : List Entry) → StoreStands g.D.Disk.seen b c.self.inside.store h → TakesIn g.D.Disk.seen b c.replay.new.self h body)
    c.replay.result c.replay.ensures.taken (was_added c.replay.result (sym c.outcome.ensures ∙ is)) in (
      body,
      next,
      subst (λ (s : Stored g.row.D.Denot). (b : Summary) (h : List Entry) → StoreStands g.D.Disk.seen b s h → TakesIn g.D.Disk.seen b c.replay.new.self h body)
          c.self.view_is taken,
    )

pub returns-in-None-clause-strange : goal.returns-in-None-clause-strange
returns-in-None-clause-strange g c is other also =
    let have : c.recorded.result ≡ c.args.self.now.state.sum.recorded = search rules in
    let body : List ℕ = take (length c.args.message.now - 13) (drop 13 c.args.message.now) in
    let next : IsNextRecord c.args.self.now.state.sum.recorded c.args.message.now body =
    subst (λ (l : List ℕ). IsNextRecord c.args.self.now.state.sum.recorded c.args.message.now l) (sym (take_rest c.args.message.now 13))
    (subst (λ (n : ℕ). IsNextRecord n c.args.message.now (drop 13 c.args.message.now)) have c.in-None.ensures) in
    let ends = when false ((b : Summary) (h : List Entry) → StoreStands g.D.Disk.seen b c.self.inside.store h → EndsWith b h body)
    c.replay.result c.replay.ensures.strange (was_strange c.replay.result (sym c.outcome.ensures ∙ is)) in
    subst (λ (s : Stored g.row.D.Denot). (b : Summary) (h : List Entry) → StoreStands g.D.Disk.seen b s h → EndsWith b h other) c.self.view_is
    (subst (λ (l : List ℕ). (b : Summary) (h : List Entry) → StoreStands g.D.Disk.seen b c.self.inside.store h → EndsWith b h l)
    (one_body c.args.self.now.state.sum.recorded c.args.message.now body other next also) ends)

pub returns-in-None-clause-counted : goal.returns-in-None-clause-counted
returns-in-None-clause-counted g c is =
    let more = when true (c.replay.new.self.state.sum.recorded ≡ c.self.inside.store.state.sum.recorded + 1) c.replay.result c.replay.ensures.recorded
    (was_added c.replay.result (sym c.outcome.ensures ∙ is)) in
    subst (λ (s : Stored g.row.D.Denot). c.replay.new.self.state.sum.recorded ≡ s.state.sum.recorded + 1) c.self.view_is more

pub returns-in-None-clause-written : goal.returns-in-None-clause-written
returns-in-None-clause-written g c is other also =
    let have : c.recorded.result ≡ c.args.self.now.state.sum.recorded = search rules in
    let body : List ℕ = take (length c.args.message.now - 13) (drop 13 c.args.message.now) in
    let next : IsNextRecord c.args.self.now.state.sum.recorded c.args.message.now body =
    subst (λ (l : List ℕ). IsNextRecord c.args.self.now.state.sum.recorded c.args.message.now l) (sym (take_rest c.args.message.now 13))
    (subst (λ (n : ℕ). IsNextRecord n c.args.message.now (drop 13 c.args.message.now)) have c.in-None.ensures) in
    let written = when true ((b : Summary) (h : List Entry) → StoreStands g.D.Disk.seen b c.self.inside.store h
    → IsWrittenOn c.self.inside.store.journal c.replay.new.self.journal (summed_size b h) (5 + length body))
    c.replay.result c.replay.ensures.written (was_added c.replay.result (sym c.outcome.ensures ∙ is)) in
    subst (λ (s : Stored g.row.D.Denot). (b : Summary) (h : List Entry) → StoreStands g.D.Disk.seen b s h
    → IsWrittenOn s.journal c.replay.new.self.journal (summed_size b h) (5 + length other)) c.self.view_is
    (subst (λ (l : List ℕ). (b : Summary) (h : List Entry) → StoreStands g.D.Disk.seen b c.self.inside.store h
    → IsWrittenOn c.self.inside.store.journal c.replay.new.self.journal (summed_size b h) (5 + length l))
    (one_body c.args.self.now.state.sum.recorded c.args.message.now body other next also) written)

pub returns-in-None-clause-stands : goal.returns-in-None-clause-stands
returns-in-None-clause-stands g c other =
    subst (λ (s : Stored g.row.D.Denot). StandsOn g.D.Disk.seen s c.replay.new.self) c.self.view_is
    (c.replay.ensures.stands (λ is. other (c.outcome.ensures ∙ ap took_of is)))

pub returns-in-None-clause-receives : goal.returns-in-None-clause-receives
returns-in-None-clause-receives g c up =
    let have : c.recorded.result ≡ c.args.self.now.state.sum.recorded = search rules in
    let body : List ℕ = take (length c.args.message.now - 13) (drop 13 c.args.message.now) in
    let next : IsNextRecord c.args.self.now.state.sum.recorded c.args.message.now body =
    subst (λ (l : List ℕ). IsNextRecord c.args.self.now.state.sum.recorded c.args.message.now l) (sym (take_rest c.args.message.now 13))
    (subst (λ (n : ℕ). IsNextRecord n c.args.message.now (drop 13 c.args.message.now)) have c.in-None.ensures) in
    let tried : (HasFailed g.D.Disk.seen c.self.inside.store → ⊥) → Tries g.D.Disk.seen c.self.inside.store c.replay.new.self body =
    λ still_up. tries g.D.Disk.seen c.self.inside.store c.replay.new.self body c.replay.result c.replay.ensures.taken c.replay.ensures.stands
    (λ b h stands. c.replay.ensures.any_moment b h stands still_up) (λ b h stands. c.replay.ensures.met b h stands still_up) in
    receives_next g.D.Disk.seen c.args.self.now c.replay.new.self c.args.message.now body next
    (subst (λ (s : Stored g.row.D.Denot). (HasFailed g.D.Disk.seen s → ⊥) → Tries g.D.Disk.seen s c.replay.new.self body) c.self.view_is tried up)
