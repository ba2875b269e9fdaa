-- Each signal is a mark more, of an account whose row is there or is made.
use Rattle.std.proofs.Common.{◌≡◌, refl, ◌^◌, ◌+◌, map, take, drop, ◌++◌, ◌∷◌, [], sym, ap, subst, ◌∙◌, arith}
use Rattle.std.proofs.lemmas.List.{take_more}
use Rattle.centre_rules.specs.Marks.{Carried, Carries}
use Rattle.known_accounts.specs.Rows.{HasRoom}
use Rattle.known_accounts.proofs.Numbered.{made_marked, room_first, room_left, room_kept}
use Rattle.centre_core.proofs.Taking.{carries_more, carries_all, few_signals, drop_next}
use Rattle.centre_core.proofs.marks.carry_each.Goals as goal

pub carry-requires-in-loop-x-clause-few : goal.carry-requires-in-loop-x-clause-few
carry-requires-in-loop-x-clause-few c = omega (arith, (c.loop-x.invariant.some.few (2 ^ 61) c.requires.bound).opened)

pub carry-requires-in-loop-x-clause-signals : goal.carry-requires-in-loop-x-clause-signals
carry-requires-in-loop-x-clause-signals c =
    few_signals (2 ^ 61 + c.loop-x.x-index) c.loop-x.table.opened c.loop-x.table.incidents (omega arith) (c.loop-x.invariant.some.few (2 ^ 61) c.requires.bound)

pub returns-clause-taken : goal.returns-clause-taken
returns-clause-taken c = carries_all c.loop-x.x-index c.args.carried.now c.args.accounts.now.rows c.loop-x.accounts.rows c.args.table.now c.loop-x.table (omega arith) (omega arith) c.loop-x.invariant.some

pub place-place-requires : goal.place-place-requires
place-place-requires c =
    let rest = map (λ (x : Carried). x.account) (drop (c.loop-x.x-index + 1) c.args.carried.now) in
    room_first c.x-item.result.account rest c.loop-x.accounts.rows
    (subst (λ xs. HasRoom (map (λ (x : Carried). x.account) xs) c.loop-x.accounts.rows) (drop_next c.args.carried.now c.loop-x.x-index c.x-item.result c.loop-x-test.true ∙ ap (λ y. y ∷ drop (c.loop-x.x-index + 1) c.args.carried.now) (sym c.x-item.is)) c.loop-x.invariant.room)

pub loop-x-preserved : goal.loop-x-preserved
loop-x-preserved c =
    let x = c.x-item.result in
    let rest = map (λ (x : Carried). x.account) (drop (c.loop-x.x-index + 1) c.args.carried.now) in
    let next : take (c.loop-x.x-index + 1) c.args.carried.now ≡ take c.loop-x.x-index c.args.carried.now ++ x ∷ [] =
    take_more c.args.carried.now c.loop-x.x-index x c.loop-x-test.true ∙ ap (λ (x : Carried). take c.loop-x.x-index c.args.carried.now ++ x ∷ []) (sym c.x-item.is) in
    let v = c.loop-x.accounts.rows in
    let u = c.place-place.new.self.rows in
    let w = c.carry.new.self.rows in
    let room = subst (λ xs. HasRoom (map (λ (x : Carried). x.account) xs) v) (drop_next c.args.carried.now c.loop-x.x-index x c.loop-x-test.true ∙ ap (λ y. y ∷ drop (c.loop-x.x-index + 1) c.args.carried.now) (sym c.x-item.is)) c.loop-x.invariant.room in
    record {
      text = c.carry.ensures.text ∙ c.place-place.ensures.text ∙ c.loop-x.invariant.text;
      some = carries_more c.loop-x.x-index c.args.carried.now x c.args.accounts.now.rows v w c.args.table.now c.loop-x.table c.carry-in-loop-x.new.self
          c.loop-x.invariant.some next (made_marked x.account (Carries x) v u w (λ b p. refl) c.place-place.ensures.made c.carry.ensures.marked) c.carry-in-loop-x.ensures.marked c.carry-in-loop-x.ensures.few c.carry-in-loop-x.ensures.room;
      room = room_kept rest u w c.carry.ensures.kept (room_left x.account rest v u c.place-place.ensures.made room);
    }

pub carry-requires-clause-moment : goal.carry-requires-clause-moment
carry-requires-clause-moment c = rw c.x-item.is (c.requires.moments c.loop-x.x-index c.x-item.result c.loop-x-test.true)
