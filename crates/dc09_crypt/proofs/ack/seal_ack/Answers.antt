use Rattle.std.proofs.Common.{rules, ◌∙◌, ◌++◌, ◌∷◌, ap}
use Rattle.std.specs.Prelude.{codes}
use Rattle.dc09_frame.specs.Frames.{frame_of}
use Rattle.dc09_frame.specs.Headers.{fields}
use Rattle.dc09_crypt.proofs.AckBodies.{ack_is_body, ack_stands}
use Rattle.dc09_crypt.proofs.ack.seal_ack.Goals as goal

pub end_frame-requires : goal.end_frame-requires
end_frame-requires c =
    let digits = c.sealed_digits-digits.result in
    let is = ack_stands c.args.header.now c.begin_frame.new.self c.append.new.self c.append_fields.new.out c.append-2.new.self c.append-3.new.self digits c.begin_frame.ensures c.append.ensures c.append_fields.ensures c.append-2.ensures c.append-3.ensures in
    rw is (ack_is_body c.args.header.now digits c.requires (search rules) c.sealed_digits-digits.ensures.clean)

pub returns-clause-frame : goal.returns-clause-frame
returns-clause-frame c =
    let digits = c.sealed_digits-digits.result in
    let is = ack_stands c.args.header.now c.begin_frame.new.self c.append.new.self c.append_fields.new.out c.append-2.new.self c.append-3.new.self digits c.begin_frame.ensures c.append.ensures c.append_fields.ensures c.append-2.ensures c.append-3.ensures in
    c.end_frame.ensures ∙ ap frame_of (is ∙ ap (λ l. codes "\"*ACK\"" ++ fields c.args.header.now ++ 91 ∷ l) c.sealed_digits-digits.ensures.value)

pub returns-clause-body : goal.returns-clause-body
returns-clause-body c =
    let digits = c.sealed_digits-digits.result in
    rw c.sealed_digits-digits.ensures.value at (ack_is_body c.args.header.now digits c.requires (search rules) c.sealed_digits-digits.ensures.clean)
