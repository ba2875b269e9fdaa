use Rattle.std.proofs.Common.{ap, ◌∙◌}
use Rattle.alarm_rules.specs.SetupLines.{is_nil}
use Rattle.alarm_rules.proofs.WordLemmas.{is_nil-words_left}
use Rattle.alarm_rules.proofs.words.Words.is_empty.Goals as goal

pub returns : goal.returns
returns c = is_nil-words_left c.self.inside.rest c.is_none.result c.is_none.ensures ∙ ap is_nil c.self.view_is
