use Rattle.std.proofs.Common.{[], ℕ, List, refl, subst, sym, arith}
use Rattle.panel_core.specs.Standing.{StandsFor}
use Rattle.arc_panel.specs.Ends.{setting_of}
use Rattle.arc_io.proofs.KnownMore.{known_none}
use Rattle.arc_panel.proofs.run.run_panel.Goals as goal

pub returns : goal.returns
returns g c = record {
  played = c.read_lines.ensures.played (setting_of c.args.account) (record {
    history = [];
    says_all = refl;
    stands = subst (λ (line : List ℕ). StandsFor (record { account = c.args.account; line = line; first = 1 }) [] c.in-Some-new.panel) c.in-Some.ensures.value c.in-Some-new.ensures.stands;
    at = c.in-Some-new.ensures.moment;
    counted = refl;
    output = sym (known_none (g.P.Ends.seen c.args.port.now).written);
    writes = omega arith;
  });
}
