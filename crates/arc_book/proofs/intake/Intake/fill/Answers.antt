use Rattle.std.proofs.Common.{◌≡◌, ◌-◌, ◌++◌, length, drop, sym, ap, ◌∙◌, arith, length-take}
use Rattle.std.specs.Io.KnownBytes.{prepend_known}
use Rattle.arc_io.proofs.Frames.{reads_more}
use Rattle.arc_book.specs.Tapes.{ahead}
use Rattle.arc_book.proofs.Intakes.{split_front, taken_more}
use Rattle.arc_book.proofs.intake.Intake.fill.Goals as goal

pub pieces-preserved : goal.pieces-preserved
pieces-preserved g c =
    let inv = c.pieces.invariant in
    let most = c.args.count - c.len-in-pieces.result in
    let all = ahead c.args.self.now (g.S.Ends.seen c.args.source.now).left in
    let left = (g.S.Ends.seen c.more.new.source).left in
    let out = c.pieces.out.items in
    let unread = c.more.new.self in
    let piece = c.front-piece.result.now in
    let rest = c.skip.new.self in
    let split : unread ≡ piece ++ rest =
    split_front most unread ∙ ap (λ l. l ++ drop (length l) unread) (sym c.front-piece.ensures) ∙ ap (λ l. piece ++ l) (sym c.skip.ensures) in
    record {
      within = omega (arith, c.in-Ok.ensures.len, ap length c.front-piece.ensures, length-take most unread, c.len-in-pieces.ensures, inv.within);
      read = taken_more all left out unread piece rest (inv.read ∙ ap (prepend_known out) (sym c.more.ensures.same)) split
          ∙ ap (λ l. prepend_known l (ahead rest left)) (sym c.in-Ok.ensures.items);
      not_ended = (c.in_ok-more.ensures.some c.if-not-branch.false).1;
      faults = omega (arith, inv.faults, c.more.ensures.later);
      others = reads_more inv.others c.more.ensures.others;
    }
