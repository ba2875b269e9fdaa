use Rattle.std.proofs.Common.{List, ap, sym, ◌∙◌}
use Rattle.std.specs.List.{find}
use Rattle.arc_data.specs.declared.listing.Row.{Row}
use Rattle.desk_said.specs.declared.said.Said.{Said}
use Rattle.desk_screen.specs.Owning.{held_in, is_held_by, own_told}
use Rattle.desk_screen.proofs.owning.own_told.Goals as goal

pub returns-in-Listed : goal.returns-in-Listed
returns-in-Listed c =
    let u = c.args.user.now in
    let o = c.args.own.now in
    let n = c.args.about in
    c.held_in.ensures ∙ ap (λ (rs : List Row). held_in rs (find (λ r. is_held_by u r.holder) rs) o) c.items.ensures.value
    ∙ ap (λ (w : Said). own_told w n u o) (sym c.in-Listed.is)
