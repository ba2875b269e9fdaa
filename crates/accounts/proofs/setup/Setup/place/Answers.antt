use Rattle.std.proofs.Common.{ap, subst, ◌∙◌, ◌<◌, ℕ, length, IfSome}
use Rattle.alarm_rules.specs.Setups.{meaning, place_of, has_number}
use Rattle.accounts.proofs.MeaningLemmas.{count-read, place-read, there-numbered}
use Rattle.accounts.proofs.StandLemmas.{place-there}
use Rattle.accounts.proofs.setup.Setup.place.Goals as goal

pub returns-clause-place : goal.returns-clause-place
returns-clause-place c =
    c.place.ensures.place ∙ place-read _ _ c.self.invariant c.args.account.now ∙ ap (λ text. place_of (meaning text) c.args.account.now) c.self.view_is

pub returns-clause-within : goal.returns-clause-within
returns-clause-within c =
    subst (λ (count : ℕ). IfSome c.place.result (λ place. place < count))
    (count-read _ _ c.self.invariant ∙ ap (λ text. length (meaning text).accounts) c.self.view_is) c.place.ensures.within

pub returns-clause-there : goal.returns-clause-there
returns-clause-there c =
    place-there (has_number c.args.account.now) (meaning c.args.self.now).accounts c.place.result (returns-clause-place c)

pub returns-clause-number : goal.returns-clause-number
returns-clause-number c = there-numbered (meaning c.args.self.now).accounts c.args.account.now c.place.result (returns-clause-place c)
