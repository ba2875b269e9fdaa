use Rattle.std.proofs.Common.{ℕ, false, Option, None, refl, ap, subst}
use Rattle.desk_said.specs.declared.said.Said.TheVariants.{Strange}
use Rattle.desk_screen.specs.Inputs.{Made}
use Rattle.desk_screen.specs.Steps.{IsSession}
use Rattle.desk_screen.specs.declared.keyboard.Keyboard.{Keyboard}
use Rattle.desk_screen.specs.declared.reaction.Reaction.{Reaction}
use Rattle.desk_screen.proofs.screen.Screen.joined.Goals as goal

pub returns : goal.returns
returns c =
    let old = c.args.self.now in
    let r : Reaction = record { asked = None; sent = c.made-session.result.1; rung = false } in
    record {
      asked = refl;
      session = subst (λ (n : Option ℕ). IsSession Made Strange r n old.session c.made-session.result.0) c.untold_number.ensures (c.made-session.ensures r refl refl);
      own = c.with_due-self.ensures;
      watch = record { queue = refl; total = refl; clock = refl; rung = refl; quiet = refl; muted = refl };
      typed = record {
        last = ap (λ (k : Keyboard). k.last) c.begun_anew-self.ensures;
        typed = ap (λ (k : Keyboard). k.typed) c.begun_anew-self.ensures;
        name = ap (λ (k : Keyboard). k.name) c.begun_anew-self.ensures;
      };
      answered = refl;
      series = c.broken_off-self.ensures;
    }
