-- The row that is made tells nothing: the deadlines stay.
use Rattle.std.proofs.Common.{◌∙◌, ap, sym, subst}
use Rattle.std.specs.Prelude.{IfSome}
use Rattle.centre_rules.specs.History.{IsMoment}
use Rattle.centre_rules.specs.Summary.{AccountRow, Opened}
use Rattle.known_accounts.specs.Supervised.{accounts_in}
use Rattle.known_accounts.proofs.Renewed.{silence_alike, lateness_alike}
use Rattle.known_accounts.proofs.supervised_accounts.SupervisedAccounts.place_from.Goals as goal

pub invariant_of-self : goal.invariant_of-self
invariant_of-self c =
    let v = c.self.inside.rows in
    let w = c.place_from-row.new.self in
    let known = c.place_from-row.ensures.made.known in
    let xs = accounts_in c.self.inside.setup in
    record {
      valid = c.self.invariant.valid;
      openings = λ a. subst (λ (r : AccountRow). IfSome r.opening (λ (o : Opened). IsMoment o.at)) (sym (known a)) (c.self.invariant.openings a);
      deadlines = record {
        silence = c.self.invariant.deadlines.silence ∙ silence_alike v w (λ a. ap (λ (r : AccountRow). r.heard) (known a)) (λ a. ap (λ (r : AccountRow). r.failed) (known a)) xs;
        lateness = c.self.invariant.deadlines.lateness ∙ lateness_alike v w (λ a. ap (λ (r : AccountRow). r.opening) (known a)) xs;
      };
    }
