-- The loop keeps the earliest close of the windows so far; once each window is settled, it is the next one.
use Rattle.std.proofs.Common.{inl, inr, to_z, of_z, w64, to_z-of_z}
use Rattle.std.proofs.lemmas.List.Elements.{All-more}
use Rattle.std.proofs.lemmas.List.{take_all}
use Rattle.open_schedules.specs.Minutes.{Settles}
use Rattle.open_schedules.proofs.WeekLemmas.{some-settled, none-settled, Settles-later}
use Rattle.open_schedules.proofs.closing.next_close_of.Goals as goal

pub loop-window-preserved : goal.loop-window-preserved
loop-window-preserved c =
    let windows = c.args.windows.now in
    let ahead = to_z w64 (of_z w64 c.args.ahead) in
    let after = c.args.after in
    let i = c.loop-window.window-index in
    let kept = c.loop-window.invariant in
    let close = c.close_of.ensures in
    let next = c.earlier-next.result in
    let earlier = c.earlier-next.ensures in
    let before = Settles-later ahead windows after c.loop-window.next next earlier.first _ kept.settled in
    record {
      found = elim earlier.one [ inl old ↦ rw old kept.found | inr new ↦ rw new close.found ];
      settled =
          All-more (Settles ahead windows after next) windows i _ c.loop-window-test.true before
          (λ u later ends shut. earlier.second u (close.settles u later ends shut));
    }

pub returns-clause-some : goal.returns-clause-some
returns-clause-some c =
    let windows = c.args.windows.now in
    let kept = rw (to_z-of_z c.ranges.ahead) at c.loop-window.invariant in
    let settled = rw (take_all c.loop-window.window-index windows c.loop-window-test.false) at kept.settled in
    some-settled windows c.args.ahead c.args.after c.loop-window.next c.requires.valid settled kept.found

pub returns-clause-none : goal.returns-clause-none
returns-clause-none c =
    let windows = c.args.windows.now in
    let kept = rw (to_z-of_z c.ranges.ahead) at c.loop-window.invariant in
    let settled = rw (take_all c.loop-window.window-index windows c.loop-window-test.false) at kept.settled in
    none-settled windows c.args.ahead c.args.after c.loop-window.next c.requires.valid settled
