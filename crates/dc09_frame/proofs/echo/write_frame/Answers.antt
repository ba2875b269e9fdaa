use Rattle.std.proofs.Common.{◌∙◌, ap, drop}
use Rattle.dc09_frame.specs.Frames.{frame_of}
use Rattle.dc09_frame.proofs.FrameLaws.{behind_nine}
use Rattle.dc09_frame.proofs.echo.write_frame.Goals as goal

pub end_frame-requires : goal.end_frame-requires
end_frame-requires c = rw (c.append.ensures, behind_nine c.begin_frame.new.self c.args.body.now c.begin_frame.ensures) c.requires

pub returns : goal.returns
returns c = c.end_frame.ensures ∙ ap (λ l. frame_of (drop 9 l)) c.append.ensures ∙ ap frame_of (behind_nine c.begin_frame.new.self c.args.body.now c.begin_frame.ensures)
