use Rattle.dc09_frame.proofs.PieceLaws.{frame_again}
use Rattle.dc09_frame.proofs.laws.law_frames_are_cut_again.Goals as goal

pub returns : goal.returns
returns c body is = frame_again body is
