use Rattle.std.proofs.Common.{◌≡◌, ◌++◌, ◌∷◌, [], refl, sym, ap, subst, ◌∙◌, arith, rules}
use Rattle.script_lines.specs.Lines.{Asks, Reopen as Again}
use Rattle.script_lines.specs.Reading.{asked}
use Rattle.arc_script.specs.Playing.{moment_at}
use Rattle.arc_script.proofs.LineEnds.{bad_halts, renumbered}
use Rattle.arc_script.proofs.Passed.{skipped}
use Rattle.arc_script.proofs.play.play_line.Goals as goal

pub returns-then-is_passed-clause-played : goal.returns-then-is_passed-clause-played
returns-then-is_passed-clause-played g c = λ b lines typed is has may so count.
    let seen = g.D.Disk.seen in
    let script = c.args.script.now in
    let s = c.args.store.now in
    let p = g.P.Ends.seen c.args.port.now in
    renumbered seen b (lines ++ typed ∷ []) script _ s p (record {
      setup = refl;
      limits = refl;
      lines = refl;
      desks = refl;
      clock = refl;
      opened_before = refl;
      tally = refl;
    }) (skipped seen b lines typed script script.number s p (sym (c.is_passed.ensures typed is has) ∙ c.if-is_passed.true) so)

pub returns-in_default-clause-left : goal.returns-in_default-clause-left
returns-in_default-clause-left g c = λ b lines typed is has may so count more disk tally closed.
    let seen = g.D.Disk.seen in
    bad_halts seen b lines more typed c.args.script.now c.saturating_add-script.result c.args.store.now (g.P.Ends.seen c.args.port.now) _
    disk tally may so count (λ few. omega (arith, few, c.saturating_add-script.ensures))
    (sym (c.is_passed.ensures typed is has) ∙ c.if-is_passed.false) (c.in_default.ensures.at typed is has) refl
    (record { disk_is = closed.disk_is; tally_is = closed.tally_is })

pub returns-then-eq-clause-left : goal.returns-then-eq-clause-left
returns-then-eq-clause-left g c = λ b lines typed is has may so count.
    let seen = g.D.Disk.seen in
    let again : asked c.in-Some.asked ≡ Again = search rules in (
      subst (Asks typed) again (c.in-Some.ensures.at typed is has).1,
      may,
      renumbered seen b lines c.args.script.now _ c.args.store.now (g.P.Ends.seen c.args.port.now) (record {
        setup = refl;
        limits = refl;
        lines = refl;
        desks = refl;
        clock = refl;
        opened_before = refl;
        tally = refl;
      }) so,
    )

pub returns-then-eq-clause-may : goal.returns-then-eq-clause-may
returns-then-eq-clause-may g c =
    let again : asked c.in-Some.asked ≡ Again = search rules in
    (c.requires.ready, ap (moment_at c.args.script.now.clock) (sym again) ∙ c.in-Some.ensures.read.1)

pub returns-in-Ok-clause-played : goal.returns-in-Ok-clause-played
returns-in-Ok-clause-played g c = λ b lines typed is has may so count.
    let seen = g.D.Disk.seen in
    c.in-Ok.ensures.played b lines typed (c.in-Some.ensures.at typed is has).1 may
    (renumbered seen b lines c.args.script.now _ c.args.store.now (g.P.Ends.seen c.args.port.now) (record {
      setup = refl;
      limits = refl;
      lines = refl;
      desks = refl;
      clock = refl;
      opened_before = refl;
      tally = refl;
    }) so)

pub returns-in-Err-clause-left : goal.returns-in-Err-clause-left
returns-in-Err-clause-left g c = λ b lines typed is has may so count.
    let seen = g.D.Disk.seen in
    c.in-Err.ensures.ended b lines typed (c.in-Some.ensures.at typed is has).1 may
    (renumbered seen b lines c.args.script.now _ c.args.store.now (g.P.Ends.seen c.args.port.now) (record {
      setup = refl;
      limits = refl;
      lines = refl;
      desks = refl;
      clock = refl;
      opened_before = refl;
      tally = refl;
    }) so)
