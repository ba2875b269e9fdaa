use Rattle.std.proofs.Common.{◌≡◌, ◌++◌, [], ◌∷◌, length, rules}
use Rattle.std.specs.Int.{to_be_bytes, w32, w64}
use Rattle.mirror_centre.proofs.Putting.{joined}
use Rattle.mirror_centre.proofs.messages.put_record.Goals as goal

pub returns : goal.returns
returns c =
    let first : c.put_byte.new.out.items ≡ c.args.out.now.items ++ 82 ∷ [] = search rules in
    let second : c.put.new.out.items ≡ c.put_byte.new.out.items ++ to_be_bytes w64 c.args.number = search rules in
    let third : c.put-2.new.out.items ≡ c.put.new.out.items ++ to_be_bytes w32 (length c.args.body.now) = search rules in
    joined c.put-3.result c.args.out.now.items c.put_byte.new.out.items c.put.new.out.items c.put-2.new.out.items c.put-3.new.out.items
    (to_be_bytes w64 c.args.number) (to_be_bytes w32 (length c.args.body.now)) c.args.body.now 82 first second third c.put-3.ensures
