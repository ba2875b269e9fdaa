-- There is memory, so the number stands at its place.
use Rattle.std.proofs.Common.{◌<◌, length, ap, ◌∙◌, arith}
use Rattle.std.specs.Prelude.{nat_lt}
use Rattle.std.specs.List.{position_or_len}
use Rattle.std.specs.Result.{is_ok}
use Rattle.std.specs.Vec.{vec_len, vec_capacity}
use Rattle.open_incidents.specs.Holding.{HeldValue, with_number}
use Rattle.open_incidents.proofs.Numbers.{put_in}
use Rattle.open_incidents.proofs.held.Held.insert.Goals as goal

pub returns-clause-numbers : goal.returns-clause-numbers
returns-clause-numbers c =
    let n = c.args.number in
    let old = c.self.inside.numbers in
    let items = ap (λ (v : HeldValue). v.numbers) c.self.view_is in
    let fits : vec_len old < vec_capacity old =
    omega (arith, c.requires, ap length c.deref.ensures.value, c.deref.ensures.len, ap length items, ap (λ (v : HeldValue). v.room) c.self.view_is) in
    put_in n old.items c.insert.new.self.items c.place_of-place.result (is_ok c.insert.result) (c.insert.ensures.succeeds fits)
    (c.place_of-place.ensures.place ∙ ap (position_or_len (nat_lt n)) c.deref.ensures.value) c.insert.ensures.items
    ∙ ap (with_number n) items
