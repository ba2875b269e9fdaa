use Rattle.std.proofs.Common.{[], inl, inr, refl, sym, ap, subst, ◌∙◌}
use Rattle.arc_io.specs.Seen.{PortSeen}
use Rattle.centre_rules.specs.State.{State}
use Rattle.arc_script.specs.Between.{SoFar}
use Rattle.arc_script.specs.declared.script_end.Tally.{Tally}
use Rattle.arc_script.proofs.Beginning.{untouched, unread}
use Rattle.arc_script.proofs.Opening.{so_far_none}
use Rattle.arc_script.proofs.run.run_over.Goals as goal

pub returns-in-Ok : goal.returns-in-Ok
returns-in-Ok g c = record {
  ran = λ b setup limits port store held.
      let made = c.in-Ok.ensures in
      let seen = g.D.Disk.seen in
      let opened = made.counts ∙ ap (λ (s : State). s.sum.opened) c.centre.ensures in
      let so = so_far_none seen b c.in-Ok.script c.args.store (made.given.0 ∙ sym setup) (made.given.1 ∙ sym limits) made.lines made.desks made.begun.0 opened
      (ap (λ (t : Tally). t.sent) made.tally) (ap (λ (t : Tally). t.repeats) made.tally) (ap (λ (t : Tally). t.closed) made.tally) store held in
      inl (c.read_script-end.ensures.ran b port made.begun.1
      (subst (λ (p : PortSeen). SoFar seen b [] c.in-Ok.script c.args.store p) port so));
}

pub returns-in-Err : goal.returns-in-Err
returns-in-Err g c = record {
  ran = λ b setup limits port store held.
      inr (
        refl,
        unread g.D.Disk.seen b c.args.store _ c.close.result
            c.tally_of.result store held (sym port) c.close.ensures (c.tally_of.ensures ∙ ap (λ (s : State). untouched s.sum 0) c.centre-in-Err.ensures),
      );
}
