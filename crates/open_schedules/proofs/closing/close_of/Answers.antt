-- The minute that was found is one at which the window ends and no other holds, so the hours close there.
use Rattle.std.proofs.Common.{arith, ap, ◌∙◌, sym, to_z-of_z}
use Rattle.open_schedules.specs.Minutes.{open_at}
use Rattle.open_schedules.proofs.WeekLemmas.{closes-end}
use Rattle.open_schedules.proofs.closing.close_of.Goals as goal

pub returns-else-is_open_at-clause-found : goal.returns-else-is_open_at-clause-found
returns-else-is_open_at-clause-found c =
    let windows = c.args.windows.now in
    let requires = c.requires in
    let next = rw (to_z-of_z c.ranges.ahead) at c.next_at.ensures in
    let end = c.end_of-end.ensures.value in
    let shut = sym (ap (open_at windows) end) ∙ sym c.is_open_at.ensures ∙ c.if-is_open_at.false in
    record {
      closing = closes-end windows c.args.ahead c.args.window.now c.next_at.result requires.valid requires.among (omega arith) (next.at ∙ end) shut;
      later = next.later;
    }
