use Rattle.std.proofs.Common.{◌∷◌, ◌∙◌, [], ap, sym, arith, take, get_or}
use Rattle.std.proofs.lemmas.List.{take_more, take_all}
use Rattle.dc09_frame.specs.Check.{sum_after}
use Rattle.dc09_frame.proofs.Places.{sum_after-append, sum_after-nil}
use Rattle.dc09_frame.proofs.checksum.with_bytes.Goals as goal

pub loop-byte-init : goal.loop-byte-init
loop-byte-init c = (omega arith, sym (sum_after-nil c.args.sum (omega arith)))

pub loop-byte-preserved : goal.loop-byte-preserved
loop-byte-preserved c =
    let bytes = c.args.bytes.now in
    let i = c.loop-byte.byte-index in
    let next = get_or bytes i 0 ∷ [] in (
      c.with_byte-sum.type_inv,
      c.with_byte-sum.ensures
          ∙ sum_after-append c.args.sum c.loop-byte.sum (take i bytes) next (omega arith) c.loop-byte.invariant.0 c.loop-byte.invariant.1
          ∙ ap (sum_after c.args.sum) (sym (take_more bytes i 0 (omega arith))),
    )

pub returns : goal.returns
returns c = c.loop-byte.invariant.1 ∙ ap (sum_after c.args.sum) (take_all c.loop-byte.byte-index c.args.bytes.now (omega arith))
