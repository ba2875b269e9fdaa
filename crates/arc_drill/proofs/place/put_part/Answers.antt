use Rattle.std.proofs.Common.{◌+◌, ◌-◌, arith, append_assoc}
use Rattle.std.specs.List.{flat_map, range_with_len}
use Rattle.arc_drill.specs.Texts.{message_lines, closing_lines, desk_lines}
use Rattle.arc_drill.proofs.Parts.{first_part}
use Rattle.arc_drill.proofs.place.put_part.Goals as goal

pub returns-in-Message-clause-split : goal.returns-in-Message-clause-split
returns-in-Message-clause-split c =
    let i = c.in-Message.i in
    let n = c.args.messages in
    let rest = n + 1 - (i + 1) in
    rw (c.in-Message.is, c.put_messages.ensures, first_part message_lines i (n + 1 - i) rest (omega arith))
    (append_assoc (message_lines i) (flat_map message_lines (range_with_len (i + 1) rest)) desk_lines)

pub returns-in-Closing-clause-split : goal.returns-in-Closing-clause-split
returns-in-Closing-clause-split c =
    let k = c.in-Closing.k in
    rw (c.in-Closing.is, c.put_closing.ensures) (first_part closing_lines k (21 - k) (21 - (k + 1)) (omega arith))
