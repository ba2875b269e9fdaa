use Rattle.std.proofs.Common.{◌≡◌, take, codes, []}
use Rattle.std.specs.List.{fold}
use Rattle.screen_page.specs.Mine.{with_act}
use Rattle.screen_page.specs.Texts.{with_text}
use Rattle.screen_page.proofs.mine.recorded_row.Given as goal

-- the steps so far are shown
abbrev pub invariant-loop-act : goal.invariant-loop-act
invariant-loop-act l = l.strip ≡ fold (with_act l.number) (with_text [] (codes "done  ")) (take l.act-index l.acts)
