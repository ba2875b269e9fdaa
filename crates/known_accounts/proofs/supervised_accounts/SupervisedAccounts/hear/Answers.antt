-- The deadline of silence of the account is set again.
use Rattle.std.proofs.Common.{◌∙◌, sym, subst}
use Rattle.centre_rules.specs.Marks.{Hears}
use Rattle.known_accounts.specs.Supervised.{SupervisedValue, IsPlaceOf, accounts_in}
use Rattle.known_accounts.proofs.Numbered.{stands_kept, stands_within}
use Rattle.known_accounts.proofs.Openings.{openings_marked}
use Rattle.known_accounts.proofs.Others.{heard_others}
use Rattle.known_accounts.proofs.Renewed.{lateness_alike}
use Rattle.known_accounts.proofs.supervised_accounts.SupervisedAccounts.hear.Goals as goal

pub invariant_of-self : goal.invariant_of-self
invariant_of-self c =
    let account = c.requires.0 in
    let at = subst (λ (s : SupervisedValue). IsPlaceOf account c.args.place s) (sym c.self.view_is) c.requires.1 in
    let v = c.self.inside.rows in
    let w = c.hear.new.self in
    let marked = (c.hear.ensures.marked account at.row) in
    let told = c.known_at-known.ensures account (stands_kept v w account c.args.place.row c.hear.ensures.kept at.row) in
    record {
      valid = c.self.invariant.valid;
      openings = openings_marked (Hears account c.args.at) v w marked tt c.self.invariant.openings;
      deadlines = record {
        silence = c.renew_silence.ensures.silence account v w at.setup told (heard_others account c.args.at v w marked) c.self.invariant.deadlines.silence;
        lateness = c.renew_silence.ensures.lateness ∙ c.self.invariant.deadlines.lateness ∙ lateness_alike v w (λ a. marked.opening a) (accounts_in c.self.inside.setup);
      };
    }
