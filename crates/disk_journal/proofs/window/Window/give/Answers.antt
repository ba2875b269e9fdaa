use Rattle.std.proofs.Common.{◌≡◌, ◌-◌, ◌++◌, length, take, drop, arith, ◌∙◌, ap, length-append, length-take}
use Rattle.std.proofs.lemmas.List.{take_at}
use Rattle.disk_journal.proofs.Windows.{part_of_piece}
use Rattle.disk_journal.proofs.window.Window.give.Goals as goal

pub returns-clause-given : goal.returns-clause-given
returns-clause-given c bytes piece =
    let w = c.args.self.now in
    let n = c.min-count.result in
    let from = c.args.at - w.at in
    let copied = c.copy_from_slice.new.self in
    let behind = drop n c.args.buf.now in
    let long : length copied ≡ n = omega (arith, c.copy_from_slice.ensures.len, length-take n c.args.buf.now, c.min-count.ensures) in
    let same : copied ≡ take n (drop from w.room.items) =
    c.copy_from_slice.ensures.after ∙ ap (λ k. take k (drop from c.deref.result.now)) (omega arith) ∙ ap (λ l. take n (drop from l)) c.deref.ensures.value in
    part_of_piece bytes w.room.items w.at from c.args.at w.count n (copied ++ behind) piece (omega (arith, c.if-at-self.false))
    (omega (arith, c.min-count.ensures, c.if-at-self-2.false)) (omega (arith, long, length-append copied behind)) (take_at copied behind n long ∙ same)
