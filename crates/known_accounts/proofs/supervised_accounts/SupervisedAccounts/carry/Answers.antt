-- The deadlines of the account that has the signal are set again, or stay.
use Rattle.std.proofs.Common.{◌∙◌, sym, subst}
use Rattle.std.specs.Prelude.{IfSome, Option}
use Rattle.centre_rules.specs.History.{IsMoment}
use Rattle.centre_rules.specs.Marks.{Carries}
use Rattle.centre_rules.specs.Summary.{Opened}
use Rattle.known_accounts.specs.Supervised.{SupervisedValue, IsPlaceOf, accounts_in}
use Rattle.known_accounts.proofs.Numbered.{stands_kept}
use Rattle.known_accounts.proofs.Openings.{openings_marked}
use Rattle.known_accounts.proofs.Others.{carried_others, failed_alike, opening_alike}
use Rattle.known_accounts.proofs.Renewed.{silence_alike, lateness_alike}
use Rattle.known_accounts.proofs.supervised_accounts.SupervisedAccounts.carry.Goals as goal

pub renew_lateness-requires-clause-opening : goal.renew_lateness-requires-clause-opening
renew_lateness-requires-clause-opening c =
    let account = c.args.x.now.account in
    let at = subst (λ (s : SupervisedValue). IsPlaceOf account c.args.place s) (sym c.self.view_is) c.requires.there in
    let w = c.carry.new.self in
    let told = c.known_at-known.ensures account (stands_kept c.self.inside.rows w account c.args.place.row c.carry.ensures.kept at.row) in
    subst (λ (o : Option Opened). IfSome o (λ x. IsMoment x.at)) (sym told.opening)
    (openings_marked (Carries c.args.x.now) c.self.inside.rows w c.carry.ensures.marked c.requires.moment c.self.invariant.openings account)

pub invariant_of-self : goal.invariant_of-self
invariant_of-self c =
    let account = c.args.x.now.account in
    let at = subst (λ (s : SupervisedValue). IsPlaceOf account c.args.place s) (sym c.self.view_is) c.requires.there in
    let v = c.self.inside.rows in
    let w = c.carry.new.self in
    let told = c.known_at-known.ensures account (stands_kept v w account c.args.place.row c.carry.ensures.kept at.row) in
    let others = carried_others c.args.x.now v w c.carry.ensures.marked in
    record {
      valid = c.self.invariant.valid;
      openings = openings_marked (Carries c.args.x.now) v w c.carry.ensures.marked c.requires.moment c.self.invariant.openings;
      deadlines = record {
        silence = c.renew_lateness.ensures.silence ∙ c.renew_silence.ensures.silence account v w at.setup told others c.self.invariant.deadlines.silence;
        lateness = c.renew_lateness.ensures.lateness account v w at.setup told others (c.renew_silence.ensures.lateness ∙ c.self.invariant.deadlines.lateness);
      };
    }

pub invariant_of-self-else-moves : goal.invariant_of-self-else-moves
invariant_of-self-else-moves c =
    let v = c.self.inside.rows in
    let w = c.carry.new.self in
    let marked = c.carry.ensures.marked in
    let xs = accounts_in c.self.inside.setup in
    let still = sym c.moves.ensures ∙ c.if-moves.false in
    record {
      valid = c.self.invariant.valid;
      openings = openings_marked (Carries c.args.x.now) v w marked c.requires.moment c.self.invariant.openings;
      deadlines = record {
        silence =
            c.self.invariant.deadlines.silence
            ∙ silence_alike v w (λ a. marked.heard a) (failed_alike c.args.x.now v w marked still) xs;
        lateness = c.self.invariant.deadlines.lateness ∙ lateness_alike v w (opening_alike c.args.x.now v w marked still) xs;
      };
    }
