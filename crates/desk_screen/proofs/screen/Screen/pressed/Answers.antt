use Rattle.std.proofs.Common.{ℕ, false, Option, refl, sym, subst}
use Rattle.desk_said.specs.declared.said.Said.TheVariants.{Strange}
use Rattle.desk_screen.specs.Inputs.{Key}
use Rattle.desk_screen.specs.Steps.{IsSession}
use Rattle.desk_screen.specs.declared.reaction.Reaction.{Reaction}
use Rattle.desk_screen.proofs.screen.Screen.pressed.Goals as goal

pub returns : goal.returns
returns c =
    let old = c.args.self.now in
    let r : Reaction = record { asked = c.key_asks-asked.result; sent = c.keyed-session.result.1; rung = false } in
    record {
      asked = c.key_asks-asked.ensures;
      session = subst (λ (n : Option ℕ). IsSession (Key c.args.key) Strange r n old.session c.keyed-session.result.0) c.untold_number.ensures (c.keyed-session.ensures c.args.key r refl refl);
      own = refl;
      watch = c.pressed.ensures r old.session.user refl (sym c.is_some.ensures);
      typed = c.pressed-self.ensures Strange _;
      answered = refl;
      series = c.behind_key-self.ensures;
    }
