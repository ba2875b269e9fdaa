use Rattle.std.proofs.Common.{rules, ◌≡◌, ◌++◌, List, ℕ, ◌∙◌, ap, drop, length, append_assoc}
use Rattle.std.specs.Prelude.{codes}
use Rattle.dc09_frame.specs.Frames.{frame_of}
use Rattle.dc09_frame.specs.Headers.{nak_body}
use Rattle.dc09_frame.proofs.FrameLaws.{behind_nine, nak_is_body}
use Rattle.dc09_frame.proofs.echo.write_nak.Goals as goal

-- what stands behind the nine bytes is the reply's body
stands : (head stamp a b : List ℕ) → length head ≡ 9 → a ≡ head ++ codes "\"NAK\"0000R0L0A0[]" → b ≡ a ++ stamp → drop 9 b ≡ nak_body stamp
stands head stamp a b nine ea eb =
    let whole : b ≡ head ++ nak_body stamp = rw (eb, ea) (append_assoc head (codes "\"NAK\"0000R0L0A0[]") stamp) in
    ap (drop 9) whole ∙ behind_nine head (nak_body stamp) nine

pub end_frame-requires : goal.end_frame-requires
end_frame-requires c =
    let is = stands c.begin_frame.new.self c.args.stamp.now c.append.new.self c.append-2.new.self c.begin_frame.ensures c.append.ensures c.append-2.ensures in
    rw is (nak_is_body c.args.stamp.now (search rules) c.requires)

pub returns-clause-frame : goal.returns-clause-frame
returns-clause-frame c =
    let is = stands c.begin_frame.new.self c.args.stamp.now c.append.new.self c.append-2.new.self c.begin_frame.ensures c.append.ensures c.append-2.ensures in
    c.end_frame.ensures ∙ ap frame_of is
