use Rattle.std.proofs.Common.{◌≡◌, ◌∷◌, [], List, ℕ, Option, refl, rules, sym, ◌∙◌, ap, subst, arith}
use Rattle.std.specs.Prelude.{unwrap_or}
use Rattle.centre_rules.specs.History.{Entry}
use Rattle.centre_rules.specs.Summary.{Summary}
use Rattle.centre_rules.specs.State.{State, StandsFor, entry_of}
use Rattle.centre_rules.specs.Answers.{IsLegal}
use Rattle.centre_core.specs.Runs.{IsSubmitted}
use Rattle.centre_core.specs.Setting.{IsSetting}
use Rattle.centre_core.proofs.Applied.{text_stays}
use Rattle.centre_core.proofs.hall.RamHallHall.submit.Goals as goal

pub invariant_of-self : goal.invariant_of-self
invariant_of-self c =
    let sent = subst IsSubmitted (sym c.in-Ok.ensures.event) c.requires.submitted in
    let text = text_stays c.prepare.new.self c.apply.new.self (entry_of 0 c.in-Ok.ready) sent c.apply.ensures.grows ∙ ap (λ (x : Summary). x.text) c.in-Ok.ensures.sum in
    subst IsSetting (sym text) c.self.invariant

pub returns-in-Ok-clause-text : goal.returns-in-Ok-clause-text
returns-in-Ok-clause-text c =
    let sent = subst IsSubmitted (sym c.in-Ok.ensures.event) c.requires.submitted in
    text_stays c.prepare.new.self c.apply.new.self (entry_of 0 c.in-Ok.ready) sent c.apply.ensures.grows
    ∙ ap (λ (x : Summary). x.text) c.in-Ok.ensures.sum ∙ ap (λ (x : State). x.sum.text) c.self.view_is

pub returns-in-Ok-clause-kept : goal.returns-in-Ok-clause-kept
returns-in-Ok-clause-kept c = record { ready = tt; text = ap (λ (t : Option (List ℕ)). unwrap_or t []) (returns-in-Ok-clause-text c); caller = refl; fixed = refl; count = omega arith; told = omega arith }

pub returns-in-Ok-clause-done : goal.returns-in-Ok-clause-done
returns-in-Ok-clause-done c b h s =
    let sent = subst IsSubmitted (sym c.in-Ok.ensures.event) c.requires.submitted in
    let text = text_stays c.prepare.new.self c.apply.new.self (entry_of 0 c.in-Ok.ready) sent c.apply.ensures.grows
    ∙ ap (λ x. x.text) c.in-Ok.ensures.sum ∙ ap (λ (x : State). x.sum.text) c.self.view_is in
    let kept = c.in-Ok.ensures.stays b h (subst (λ (x : State). StandsFor b x h) (sym c.self.view_is) s.stands) in
    let after = c.apply.ensures.entry b h c.apply.result.caller kept in
    let same : entry_of c.apply.result.caller c.in-Ok.ready ≡ record { caller = c.apply.result.caller; event = c.args.event; at = c.apply.result.at; reply = c.apply.result.reply } =
    λ i. record { caller = c.apply.result.caller; event = c.in-Ok.ensures.event i; at = sym c.apply.ensures.at i; reply = sym c.apply.ensures.reply i } in
    record {
      before = h;
      extends = ([], refl);
      holds = record {
        stands = subst (λ (e : Entry). StandsFor b c.apply.new.self (e ∷ h)) same after;
        setting = subst IsSetting (sym text) s.setting;
      };
      legal = subst (λ (e : Entry). IsLegal b (e ∷ h)) same after.legal;
      at = c.apply.ensures.at ∙ c.in-Ok.ensures.at b h kept;
      own = refl;
      disk = record { reads = λ r. r; leaves = λ r t k left. left };
      up = tt;
    }

-- what the hall stands for it stands for still
pub returns-then-count-clause-stop : goal.returns-then-count-clause-stop
returns-then-count-clause-stop c b h s = record {
  waits = record { now = h; extends = ([], refl); holds = s; legal = s.stands.legal; own = refl; disk = record { reads = λ r. r; leaves = λ r t k left. left } };
  cause = record { shown = search rules; torn = λ up. tt };
}

pub returns-clause-stop : goal.returns-clause-stop
returns-clause-stop c b h s =
    let kept = c.in-Err.ensures.stays b h (subst (λ (x : State). StandsFor b x h) (sym c.self.view_is) s.stands) in
    let text = ap (λ (x : Summary). x.text) c.in-Err.ensures.sum ∙ ap (λ (x : State). x.sum.text) c.self.view_is in
    record {
      waits = record {
        now = h;
        extends = ([], refl);
        holds = record { stands = kept; setting = subst IsSetting (sym text) s.setting };
        legal = kept.legal;
        own = refl;
        disk = record { reads = λ r. r; leaves = λ r t k left. left };
      };
      cause = record { shown = tt; torn = λ up. tt };
    }
