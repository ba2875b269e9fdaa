use Rattle.dc09_frame.proofs.CutterLaws.{open_after}
use Rattle.dc09_frame.proofs.cutter.Cutter.open.Goals as goal

pub returns : goal.returns
returns c stream fed = open_after stream
