use Rattle.std.proofs.Common.{◌≡◌, ◌≤◌, ◌<◌, ◌+◌, [], ◌∷◌, ◌++◌, length, take, sym, ap, ◌∙◌, arith}
use Rattle.disk_journal.specs.Records.{need_of_all, records_of}
use Rattle.disk_journal.proofs.Further.{laid_next, need_next, need_part_of}
use Rattle.disk_journal.proofs.append_all.lay_first.Goals as goal

pub lay_at-place-requires-clause-room : goal.lay_at-place-requires-clause-room
lay_at-place-requires-clause-room c =
    let all = c.args.bodies.now in
    let i = c.loop-i.i in
    let inv = c.loop-i.invariant in
    omega (
      arith,
      inv.place,
      inv.long,
      c.requires.room,
      need_next all i c.at-body.result.now (omega (arith, c.loop-i-test.true, c.requires.below)) c.at-body.ensures,
      need_part_of all (i + 1) c.args.count (omega (arith, c.loop-i-test.true)),
    )

pub loop-i-preserved : goal.loop-i-preserved
loop-i-preserved c =
    let all = c.args.bodies.now in
    let i = c.loop-i.i in
    let inv = c.loop-i.invariant in
    let body = c.at-body.result.now in
    let below : i < length all = omega (arith, c.loop-i-test.true, c.requires.below) in
    let one = c.lay_at-place in
    let put : one.result ≡ c.loop-i.place + (5 + length body) = one.ensures.place in
    record {
      within = omega (arith, c.loop-i-test.true);
      place = put ∙ ap (λ n. n + (5 + length body)) inv.place ∙ sym (need_next all i body below c.at-body.ensures);
      laid = laid_next all i body 1 (take c.loop-i.place c.loop-i.room) (take one.result one.new.room) below c.at-body.ensures inv.laid
          (ap (λ n. take n one.new.room) put ∙ one.ensures.laid);
      long = one.ensures.long ∙ inv.long;
    }

pub returns-clause-place : goal.returns-clause-place
returns-clause-place c =
    let all = c.args.bodies.now in
    let inv = c.loop-i.invariant in
    let end : c.loop-i.i ≡ c.args.count = omega (arith, c.loop-i-test.false, inv.within) in
    inv.place ∙ ap (λ n. need_of_all (take n all)) end

pub returns-clause-laid : goal.returns-clause-laid
returns-clause-laid c =
    let all = c.args.bodies.now in
    let inv = c.loop-i.invariant in
    let end : c.loop-i.i ≡ c.args.count = omega (arith, c.loop-i-test.false, inv.within) in
    ap (λ n. 1 ∷ take n c.loop-i.room) (ap (λ n. need_of_all (take n all)) (sym end) ∙ sym inv.place) ∙ inv.laid ∙ ap (λ n. records_of (take n all) ++ 1 ∷ []) end
