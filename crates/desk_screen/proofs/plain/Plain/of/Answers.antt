use Rattle.std.proofs.Common.{◌≤◌, length, ap, ◌∙◌, arith}
use Rattle.std.specs.Prelude.{map}
use Rattle.std.proofs.lemmas.List.{take_all}
use Rattle.desk_screen.specs.Plain.{plain_byte}
use Rattle.desk_screen.proofs.plain.Plain.of.Goals as goal

pub returns : goal.returns
returns c =
    let all : length c.front_of-front.result.now ≤ c.loop-byte.byte-index = omega arith in
    c.loop-byte.invariant.shown ∙ ap (map plain_byte) (take_all c.loop-byte.byte-index c.front_of-front.result.now all ∙ c.front_of-front.ensures.front)
