use Rattle.std.proofs.Common.{◌≡◌, ◌-◌, ◌≤◌, ◌∙◌, ap, arith, length, drop, take, length-take, length-drop, ℕ, List}
use Rattle.std.proofs.lemmas.List.{take_rest}
use Rattle.dc09_frame.specs.Check.{check_of}
use Rattle.dc09_frame.specs.Frames.{head_of}
use Rattle.dc09_frame.proofs.FrameLaws.{framed}
use Rattle.dc09_frame.proofs.frame_buf.FrameBuf.end_frame.Goals as goal

pub returns : goal.returns
returns c =
    let long : 9 ≤ c.self.inside.len = omega (arith, c.requires.some, length-drop 9 c.args.self.now, ap length c.self.view_is, length-take c.self.inside.len c.self.inside.bytes) in
    let old : List ℕ = c.args.self.now in
    let part : List ℕ = take (length c.bytes.result.now - 9) (drop 9 c.bytes.result.now) in
    let body : part ≡ drop 9 old = take_rest c.bytes.result.now 9 ∙ ap (drop 9) c.bytes.ensures.value in
    let sum : c.check.result ≡ check_of (drop 9 old) = c.check.ensures ∙ ap check_of body in
    let head : c.copy_from_slice.new.self ≡ head_of (check_of (drop 9 old)) (length (drop 9 old)) =
    c.copy_from_slice.ensures.after ∙ c.head_of-head.ensures ∙ ap (λ n. head_of n (length part)) sum ∙ ap (λ l. head_of (check_of (drop 9 old)) (length l)) body in
    c.append.ensures ∙ framed old c.self.inside.bytes c.copy_from_slice.new.self c.self.inside.len c.self.view_is long head
