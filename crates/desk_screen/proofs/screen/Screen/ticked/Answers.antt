use Rattle.std.proofs.Common.{ℕ, Option, None, refl, subst}
use Rattle.desk_said.specs.declared.said.Said.TheVariants.{Strange}
use Rattle.desk_screen.specs.Inputs.{Second}
use Rattle.desk_screen.specs.Steps.{IsSession}
use Rattle.desk_screen.specs.declared.reaction.Reaction.{Reaction}
use Rattle.desk_screen.proofs.screen.Screen.ticked.Goals as goal

pub returns : goal.returns
returns c =
    let old = c.args.self.now in
    let r : Reaction = record { asked = None; sent = c.ticked-session.result.1; rung = c.ticked-rung.result } in
    record {
      asked = refl;
      session = subst (λ (n : Option ℕ). IsSession Second Strange r n old.session c.ticked-session.result.0) c.untold_number.ensures (c.ticked-session.ensures r refl refl);
      own = refl;
      watch = c.ticked-rung.ensures r old.session.user refl;
      typed = record { last = refl; typed = refl; name = refl };
      answered = refl;
      series = refl;
    }
