use Rattle.std.proofs.Common.{◌≡◌, ◌≤◌, ◌∙◌, length, inr, refl, rules, arith}
use Rattle.centre_store.specs.Given.{written_length}
use Rattle.centre_store.proofs.Moved.{unmoved_moments, unmoved_told, moved_moments, moved_told, may_move, made_is, move_spells, move_size}
use Rattle.centre_store.proofs.NextSummary.{fits_next}
use Rattle.centre_store.proofs.Written.{turn_next, turn_has}
use Rattle.centre_store.proofs.open.move_on.Goals as goal

pub overflow_add-generation : goal.overflow_add-generation
overflow_add-generation g c =
    let had = c.requires.had in
    omega (
      arith,
      c.generation.ensures,
      fits_next g.D.Disk.seen 1 c.args.journal.now had.base had.history had.all.holds (omega arith) c.args.centre.now had.all.stands c.requires.few,
    )

pub returns-in_default-clause-any_moment : goal.returns-in_default-clause-any_moment
returns-in_default-clause-any_moment g c first bodies holds =
    unmoved_moments g.D.Disk.seen c.args.journal.now c.args.centre.now first bodies holds g.met.D.Disk.only_now

pub returns-in_default-clause-told : goal.returns-in_default-clause-told
returns-in_default-clause-told g c first bodies holds = unmoved_told g.D.Disk.seen c.args.journal.now c.args.centre.now first bodies holds

pub returns-then-size-gt-MOST-clause-any_moment : goal.returns-then-size-gt-MOST-clause-any_moment
returns-then-size-gt-MOST-clause-any_moment g c first bodies holds =
    unmoved_moments g.D.Disk.seen c.args.journal.now c.args.centre.now first bodies holds g.met.D.Disk.only_now

pub returns-then-size-gt-MOST-clause-told : goal.returns-then-size-gt-MOST-clause-told
returns-then-size-gt-MOST-clause-told g c first bodies holds = unmoved_told g.D.Disk.seen c.args.journal.now c.args.centre.now first bodies holds

pub returns-then-size-gt-MOST-clause-fault : goal.returns-then-size-gt-MOST-clause-fault
returns-then-size-gt-MOST-clause-fault g c =
    let made = c.summary.new.out.items in
    let is = made_is c.args.centre.now c.args.journal.now.generation c.generation.result made made c.generation.ensures refl c.in-Ok.ensures.spelled in
    let size : c.len-size.result ≡ length made = search rules in (
      refl,
      c.if-size-gt-MOST.true,
      λ b h all.
          let long : length made ≡ written_length b h = move_size g.D.Disk.seen c.args.journal.now c.args.centre.now made is b h all in
          size ∙ long,
    )

pub turn-requires-clause-next : goal.turn-requires-clause-next
turn-requires-clause-next g c =
    let is = made_is c.args.centre.now c.args.journal.now.generation c.generation.result c.summary.new.out.items c.deref.result.now c.generation.ensures c.deref.ensures.value
    c.in-Ok.ensures.spelled in
    let short : length c.deref.result.now ≤ 4_294_967_295 = omega (arith, c.deref.ensures.len, c.len-size.ensures, c.if-size-gt-MOST.false) in
    turn_next g.D.Disk.seen 1 c.args.journal.now c.args.centre.now c.deref.result.now is c.requires.few c.summary.ensures.moment
    (may_move g.D.Disk.seen c.args.journal.now c.args.centre.now) short c.requires.had

pub returns-in-Ok-turn-clause-has : goal.returns-in-Ok-turn-clause-has
returns-in-Ok-turn-clause-has g c b h all =
    let is = made_is c.args.centre.now c.args.journal.now.generation c.generation.result c.summary.new.out.items c.deref.result.now c.generation.ensures c.deref.ensures.value
    c.in-Ok.ensures.spelled in
    let short : length c.deref.result.now ≤ 4_294_967_295 = omega (arith, c.deref.ensures.len, c.len-size.ensures, c.if-size-gt-MOST.false) in
    turn_has g.D.Disk.seen 1 c.args.journal.now c.args.centre.now c.deref.result.now is c.requires.few c.summary.ensures.moment
    (may_move g.D.Disk.seen c.args.journal.now c.args.centre.now) short b h all c.turn.new.self c.in-Ok-turn.ensures.turned

pub returns-in-Ok-turn-clause-written : goal.returns-in-Ok-turn-clause-written
returns-in-Ok-turn-clause-written g c = inr (λ b h all.
    let is = made_is c.args.centre.now c.args.journal.now.generation c.generation.result c.summary.new.out.items c.deref.result.now c.generation.ensures c.deref.ensures.value
    c.in-Ok.ensures.spelled in
    let size : length c.deref.result.now ≡ written_length b h = move_size g.D.Disk.seen c.args.journal.now c.args.centre.now c.deref.result.now is b h all in
    omega (arith, size, c.deref.ensures.len, c.len-size.ensures, c.if-size-gt-MOST.false))

pub returns-in-Ok-turn-clause-any_moment : goal.returns-in-Ok-turn-clause-any_moment
returns-in-Ok-turn-clause-any_moment g c first bodies holds =
    let is = made_is c.args.centre.now c.args.journal.now.generation c.generation.result c.summary.new.out.items c.deref.result.now c.generation.ensures c.deref.ensures.value
    c.in-Ok.ensures.spelled in
    let short : length c.deref.result.now ≤ 4_294_967_295 = omega (arith, c.deref.ensures.len, c.len-size.ensures, c.if-size-gt-MOST.false) in
    moved_moments g.D.Disk.seen c.args.journal.now c.args.centre.now first bodies holds c.turn.new.self.disk c.deref.result.now
    (move_spells g.D.Disk.seen c.args.journal.now c.args.centre.now c.deref.result.now is c.requires.few c.summary.ensures.moment short)
    (c.turn.ensures.any_moment 1 first bodies holds)

pub returns-in-Ok-turn-clause-told : goal.returns-in-Ok-turn-clause-told
returns-in-Ok-turn-clause-told g c first bodies holds =
    let is = made_is c.args.centre.now c.args.journal.now.generation c.generation.result c.summary.new.out.items c.deref.result.now c.generation.ensures c.deref.ensures.value
    c.in-Ok.ensures.spelled in
    let short : length c.deref.result.now ≤ 4_294_967_295 = omega (arith, c.deref.ensures.len, c.len-size.ensures, c.if-size-gt-MOST.false) in
    moved_told g.D.Disk.seen c.args.journal.now c.args.centre.now first bodies holds c.turn.new.self.disk c.deref.result.now
    (move_spells g.D.Disk.seen c.args.journal.now c.args.centre.now c.deref.result.now is c.requires.few c.summary.ensures.moment short)
    (c.turn.ensures.told 1 first bodies holds)

pub returns-clause-written : goal.returns-clause-written
returns-clause-written g c = inr (λ b h all.
    let is = made_is c.args.centre.now c.args.journal.now.generation c.generation.result c.summary.new.out.items c.deref.result.now c.generation.ensures c.deref.ensures.value
    c.in-Ok.ensures.spelled in
    let size : length c.deref.result.now ≡ written_length b h = move_size g.D.Disk.seen c.args.journal.now c.args.centre.now c.deref.result.now is b h all in
    omega (arith, size, c.deref.ensures.len, c.len-size.ensures, c.if-size-gt-MOST.false))

pub returns-clause-any_moment : goal.returns-clause-any_moment
returns-clause-any_moment g c first bodies holds =
    let is = made_is c.args.centre.now c.args.journal.now.generation c.generation.result c.summary.new.out.items c.deref.result.now c.generation.ensures c.deref.ensures.value
    c.in-Ok.ensures.spelled in
    let short : length c.deref.result.now ≤ 4_294_967_295 = omega (arith, c.deref.ensures.len, c.len-size.ensures, c.if-size-gt-MOST.false) in
    moved_moments g.D.Disk.seen c.args.journal.now c.args.centre.now first bodies holds c.turn.new.self.disk c.deref.result.now
    (move_spells g.D.Disk.seen c.args.journal.now c.args.centre.now c.deref.result.now is c.requires.few c.summary.ensures.moment short)
    (c.turn.ensures.any_moment 1 first bodies holds)

pub returns-clause-told : goal.returns-clause-told
returns-clause-told g c first bodies holds =
    let is = made_is c.args.centre.now c.args.journal.now.generation c.generation.result c.summary.new.out.items c.deref.result.now c.generation.ensures c.deref.ensures.value
    c.in-Ok.ensures.spelled in
    let short : length c.deref.result.now ≤ 4_294_967_295 = omega (arith, c.deref.ensures.len, c.len-size.ensures, c.if-size-gt-MOST.false) in
    moved_told g.D.Disk.seen c.args.journal.now c.args.centre.now first bodies holds c.turn.new.self.disk c.deref.result.now
    (move_spells g.D.Disk.seen c.args.journal.now c.args.centre.now c.deref.result.now is c.requires.few c.summary.ensures.moment short)
    (c.turn.ensures.told 1 first bodies holds)
