use Rattle.line_gate.proofs.Splits.{opens}
use Rattle.line_gate.proofs.blank.Blank.new.Goals as goal

pub of_words-requires : goal.of_words-requires
of_words-requires g c = opens
