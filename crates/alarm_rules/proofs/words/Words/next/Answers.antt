use Rattle.std.proofs.Common.{ap, sym, ◌∙◌, ◌==◌}
use Rattle.alarm_rules.specs.WordsLeft.{words_left}
use Rattle.alarm_rules.proofs.WordLemmas.{split-found, split-none}
use Rattle.alarm_rules.proofs.words.Words.next.Goals as goal

pub returns-in-Some : goal.returns-in-Some
returns-in-Some c =
    sym c.self.view_is ∙ ap words_left c.in_ok-rest.was ∙ split-found (λ b. b == 32) c.in_ok-rest.rest.now c.in-Some.end c.in-Some.ensures

pub returns-in-None : goal.returns-in-None
returns-in-None c =
    sym c.self.view_is ∙ ap words_left c.in_ok-rest.was ∙ split-none (λ b. b == 32) c.in_ok-rest.rest.now c.in-None.ensures
