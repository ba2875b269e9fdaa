use Rattle.std.specs.Prelude.{if◌then◌else◌}
use Rattle.std.proofs.Common.{ℕ, Bool, Option, None, refl, ap, ◌∙◌, subst}
use Rattle.desk_said.specs.declared.said.Said.{Said}
use Rattle.desk_screen.specs.Asking.{may_ask}
use Rattle.desk_screen.specs.Inputs.{Answer, news}
use Rattle.desk_screen.specs.Orders.{typed_of}
use Rattle.desk_screen.specs.Owning.{own_number, own_told, same_number, untold_number}
use Rattle.desk_screen.specs.Plain.{answered_after}
use Rattle.desk_screen.specs.Series.{heard_in, next_in}
use Rattle.desk_screen.specs.Steps.{IsSession, IsTyped, IsWatch}
use Rattle.desk_screen.specs.declared.deed.Deed.{Deed}
use Rattle.desk_screen.specs.declared.reaction.Reaction.{Reaction}
use Rattle.desk_screen.proofs.screen.Screen.told.Goals as goal

pub returns : goal.returns
returns c =
    let old = c.args.self.now in
    let line = c.args.line.now in
    let r : Reaction = record { asked = c.gone_on-asked.result.0; sent = c.told-session.result.1; rung = c.told-rung.result } in
    let session : IsSession (Answer line) c.heard-said.result r c.untold_number-number.result old.session c.told-session.result.0 = c.told-session.ensures line r refl refl in
    record {
      asked = c.gone_on-asked.ensures.asked
          ∙ ap (λ (w : Said). if may_ask old.session.connected old.session.way old.session.wish then next_in w c.own_told-self.result old.series else None) c.heard-said.ensures;
      session = subst (λ (w : Said). IsSession (Answer line) w r (untold_number c.own_told-self.result) old.session c.told-session.result.0) c.heard-said.ensures
          (subst (λ (n : Option ℕ). IsSession (Answer line) c.heard-said.result r n old.session c.told-session.result.0) c.untold_number-number.ensures session);
      own = c.own_told-self.ensures
          ∙ ap (λ (w : Said). own_told w c.worked_on-about.result old.session.user old.own) c.heard-said.ensures
          ∙ ap (λ (n : Option ℕ). own_told (news (Answer line) old.session.way) n old.session.user old.own) c.worked_on-about.ensures;
      watch = subst (λ (w : Said). IsWatch (Answer line) w r old.session.user old.watch c.told-rung.new.self) c.heard-said.ensures (c.told-rung.ensures line r old.session.user refl);
      typed = subst (λ (w : Said). IsTyped (Answer line) w (same_number (own_number old.own) (own_number c.own_told-self.result)) old.session.user old.keyboard c.behind-self.result) c.heard-said.ensures
          (subst (λ (b : Bool). IsTyped (Answer line) c.heard-said.result b old.session.user old.keyboard c.behind-self.result)
          (c.same_number-same.ensures ∙ ap (λ (n : Option ℕ). same_number n c.own_number-after.result) c.own_number-number.ensures
          ∙ ap (λ (n : Option ℕ). same_number (own_number old.own) n) c.own_number-after.ensures)
          (c.behind-self.ensures line old.session.user));
      answered = c.answered-self.ensures ∙ ap (λ (d : Option Deed). answered_after (Answer line) old.session.way d) c.take-before.ensures.value;
      series = c.gone_on-asked.ensures.series
          ∙ ap (λ (w : Said). heard_in w (typed_of old.session.way) r.asked old.session.wish c.own_told-self.result old.series) c.heard-said.ensures;
    }
