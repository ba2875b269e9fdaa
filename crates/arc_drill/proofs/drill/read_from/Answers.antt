use Rattle.std.proofs.Common.{◌≡◌, take, drop, arith}
use Rattle.std.proofs.lemmas.List.{take_rest}
use Rattle.std.proofs.lemmas.Grind.{common_steps}
use Rattle.arc_io.proofs.FrontOfList.{split_read}
use Rattle.arc_drill.proofs.drill.read_from.Goals as goal

pub returns-clause-given : goal.returns-clause-given
returns-clause-given c =
    let xs = c.args.bytes.now in
    let at = c.args.at in
    let n = c.min-count.result in
    let given : c.copy_from_slice.new.self ≡ take n (drop at xs) = grind (arith, common_steps, take_rest, c.copy_from_slice.ensures.after) in
    split_read xs _ _ at n given (omega arith)
