use Rattle.std.proofs.Common.{◌++◌, ◌-◌, ◌≤◌, take, length, ◌∙◌, ap, arith, length-append}
use Rattle.std.proofs.lemmas.List.{length-take}
use Rattle.std.proofs.lemmas.Grind.{common_steps}
use Rattle.std.specs.Io.KnownBytes.{prepend_known}
use Rattle.arc_io.proofs.KnownMore.{known_taken}
use Rattle.arc_io.proofs.whole.read_all.Goals as goal

-- at want of memory the piece just read is gone too
pub returns-in_default-extend_from_slice-clause-part :
    goal.returns-in_default-extend_from_slice-clause-part
returns-in_default-extend_from_slice-clause-part g c =
    let bytes = c.loop-piece.bytes.items in
    let piece = take c.in-Ok.count c.read.new.buf in
    let few : length piece ≤ c.args.limit - length bytes = grind (arith, common_steps, length-take, c.in-Ok.ensures.bound, c.min-room.ensures, c.len-in-loop-piece.ensures, c.read.auto.buf) in (
      bytes ++ piece,
      omega (arith, length-append bytes piece, few, c.loop-piece.invariant.within),
      c.loop-piece.invariant.read ∙ ap (prepend_known bytes) {y = prepend_known piece (g.S.Ends.seen c.read.new.self).left} c.in-Ok.ensures.told.bytes.0 ∙ known_taken _ bytes piece,
    )
