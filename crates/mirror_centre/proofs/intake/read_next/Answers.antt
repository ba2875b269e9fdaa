use Rattle.std.proofs.Common.{◌++◌, ◌≤◌, take, length, ◌∙◌, ap, subst, arith, length-append}
use Rattle.std.proofs.lemmas.List.{length-take}
use Rattle.std.specs.Io.KnownBytes.{prepend_known}
use Rattle.arc_io.proofs.KnownMore.{known_taken}
use Rattle.mirror_centre.specs.Intakes.{AreBytes}
use Rattle.mirror_centre.proofs.intake.read_next.Goals as goal

-- at want of memory the piece just read is gone too
pub returns-in_default-clause-short : goal.returns-in_default-clause-short
returns-in_default-clause-short g c =
    let bytes = c.pieces.bytes.items in
    let piece = take c.in-Ok.size c.read_piece.new.buffer in
    let told = c.in-Ok.ensures.told in
    let few : length piece ≤ c.in-Ok.size = omega (arith, length-take c.in-Ok.size c.read_piece.new.buffer) in record {
      bytes = bytes ++ piece;
      left = c.pieces.invariant.read ∙ ap (prepend_known bytes) told.bytes.0 ∙ known_taken (g.P.Ends.seen c.read_piece.new.port).left bytes piece;
      fewer = omega (arith, length-append bytes piece, few, c.in-Ok.ensures.bound, c.min-most.ensures, c.min-wanted.ensures, c.pieces.invariant.within);
      most = omega (arith, length-append bytes piece, few, c.in-Ok.ensures.bound, c.min-most.ensures, c.room_behind-room.ensures, c.pieces.invariant.fits);
      cause = tt;
    }

pub returns-clause-read : goal.returns-clause-read
returns-clause-read g c = record {
  left = c.pieces.invariant.read;
  size = omega (arith, c.pieces.invariant.within, c.pieces-test.false);
  most = omega (arith, c.pieces.invariant.fits, c.pieces.invariant.within, c.pieces-test.false);
  not_ended = c.pieces.invariant.not_ended;
  fits = subst AreBytes c.deref.ensures.value c.known.ensures;
}
