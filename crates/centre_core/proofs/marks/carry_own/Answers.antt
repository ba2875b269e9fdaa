-- Each signal is a mark more.
use Rattle.std.proofs.Common.{◌≡◌, ◌^◌, ◌+◌, take, ◌++◌, ◌∷◌, [], sym, ap, subst, ◌∙◌, arith}
use Rattle.std.proofs.lemmas.List.{take_more}
use Rattle.centre_rules.specs.Marks.{Carried}
use Rattle.known_accounts.specs.Supervised.{IsPlaceOf}
use Rattle.known_accounts.proofs.Standing.{place_kept}
use Rattle.centre_core.proofs.Taking.{carries_more, carries_all, few_signals}
use Rattle.centre_core.proofs.marks.carry_own.Goals as goal

pub carry-requires-in-loop-x-clause-few : goal.carry-requires-in-loop-x-clause-few
carry-requires-in-loop-x-clause-few c = omega (arith, (c.loop-x.invariant.some.few (2 ^ 61) c.requires.bound).opened)

pub carry-requires-in-loop-x-clause-signals : goal.carry-requires-in-loop-x-clause-signals
carry-requires-in-loop-x-clause-signals c =
    few_signals (2 ^ 61 + c.loop-x.x-index) c.loop-x.table.opened c.loop-x.table.incidents (omega arith) (c.loop-x.invariant.some.few (2 ^ 61) c.requires.bound)

pub returns-clause-taken : goal.returns-clause-taken
returns-clause-taken c = carries_all c.loop-x.x-index c.args.carried.now c.args.accounts.now.rows c.loop-x.accounts.rows c.args.table.now c.loop-x.table (omega arith) (omega arith) c.loop-x.invariant.some

pub loop-x-preserved : goal.loop-x-preserved
loop-x-preserved c =
    let next : take (c.loop-x.x-index + 1) c.args.carried.now ≡ take c.loop-x.x-index c.args.carried.now ++ c.x-item.result ∷ [] =
    take_more c.args.carried.now c.loop-x.x-index c.x-item.result c.loop-x-test.true ∙ ap (λ (x : Carried). take c.loop-x.x-index c.args.carried.now ++ x ∷ []) (sym c.x-item.is) in
    record {
      text = c.carry.ensures.text ∙ c.loop-x.invariant.text;
      some = carries_more c.loop-x.x-index c.args.carried.now c.x-item.result c.args.accounts.now.rows c.loop-x.accounts.rows c.carry.new.self.rows c.args.table.now c.loop-x.table c.carry-in-loop-x.new.self
          c.loop-x.invariant.some next c.carry.ensures.marked c.carry-in-loop-x.ensures.marked c.carry-in-loop-x.ensures.few c.carry-in-loop-x.ensures.room;
      there = λ account at. place_kept c.loop-x.accounts c.carry.new.self account c.args.place c.carry.ensures.text c.carry.ensures.kept (c.loop-x.invariant.there account at);
    }

pub carry-requires-clause-moment : goal.carry-requires-clause-moment
carry-requires-clause-moment c = rw c.x-item.is (c.requires.moments c.loop-x.x-index c.x-item.result c.loop-x-test.true)

pub carry-requires-clause-there : goal.carry-requires-clause-there
carry-requires-clause-there c =
    let own : c.x-item.result.account ≡ c.requires.own.0 = rw c.x-item.is (c.requires.own.1 c.loop-x.x-index c.x-item.result c.loop-x-test.true) in
    subst (λ account. IsPlaceOf account c.args.place c.loop-x.accounts) (sym own) (c.loop-x.invariant.there c.requires.own.0 c.requires.own.2)
