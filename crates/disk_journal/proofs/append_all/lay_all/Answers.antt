use Rattle.std.proofs.Common.{◌≡◌, ◌≤◌, ◌<◌, ◌+◌, ◌-◌, [], ◌∷◌, ◌++◌, length, take, sym, ap, ◌∙◌, arith}
use Rattle.std.proofs.lemmas.List.{take_all}
use Rattle.disk_journal.specs.Records.{need_of_all, records_of}
use Rattle.disk_journal.proofs.Further.{laid_next, need_next, need_part}
use Rattle.disk_journal.proofs.append_all.lay_all.Goals as goal

pub lay_first-place-requires-clause-room : goal.lay_first-place-requires-clause-room
lay_first-place-requires-clause-room c =
    omega (arith, c.requires.room, need_part c.args.bodies.now (c.count-count.result - 1))

pub lay_at-requires-clause-room : goal.lay_at-requires-clause-room
lay_at-requires-clause-room c =
    let all = c.args.bodies.now in
    let last = c.count-count.result - 1 in
    let first = c.lay_first-place.ensures in
    omega (
      arith,
      first.place,
      first.long,
      c.requires.room,
      need_next all last c.at-body.result.now (omega (arith, c.count-count.ensures, c.requires.some)) c.at-body.ensures,
      need_part all (last + 1),
    )

pub returns : goal.returns
returns c =
    let all = c.args.bodies.now in
    let last = c.count-count.result - 1 in
    let body = c.at-body.result.now in
    let first = c.lay_first-place in
    let below : last < length all = omega (arith, c.count-count.ensures, c.requires.some) in
    let whole : take (last + 1) all ≡ all = take_all (last + 1) all (omega (arith, c.count-count.ensures)) in
    let need : need_of_all all ≡ first.result + (5 + length body) =
    ap need_of_all (sym whole) ∙ need_next all last body below c.at-body.ensures ∙ ap (λ n. n + (5 + length body)) (sym first.ensures.place) in
    laid_next all last body 0 (take first.result first.new.room) (take (need_of_all all) c.lay_at.new.room) below c.at-body.ensures
    (ap (λ n. 1 ∷ take n first.new.room) first.ensures.place ∙ first.ensures.laid)
    (ap (λ n. take n c.lay_at.new.room) need ∙ c.lay_at.ensures.laid)
    ∙ ap (λ l. records_of l ++ 0 ∷ []) whole
