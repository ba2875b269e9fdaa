use Rattle.std.proofs.Common.{ap, sym, ◌∙◌, ◌==◌}
use Rattle.alarm_rules.proofs.WordLemmas.{split-found, split-none}
use Rattle.screen_page.specs.Sites.{lines_left}
use Rattle.screen_page.proofs.sites.Lines.next.Goals as goal

pub returns-in-Some : goal.returns-in-Some
returns-in-Some c =
    sym c.self.view_is ∙ ap lines_left c.in_ok-rest.was ∙ split-found (λ b. b == 10) c.in_ok-rest.rest.now c.in-Some.end c.in-Some.ensures

pub returns-in-None : goal.returns-in-None
returns-in-None c =
    sym c.self.view_is ∙ ap lines_left c.in_ok-rest.was ∙ split-none (λ b. b == 10) c.in_ok-rest.rest.now c.in-None.ensures
