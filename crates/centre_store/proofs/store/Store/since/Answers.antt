use Rattle.std.proofs.Common.{◌≡◌, ◌-◌, rules, subst, arith}
use Rattle.centre_store.specs.Stores.{Stored, StoreStands}
use Rattle.centre_store.proofs.Entered.{held, some_of}
use Rattle.centre_store.proofs.NextSummary.{all_counted}
use Rattle.centre_store.proofs.store.Store.since.Goals as goal

pub returns-clause-all : goal.returns-clause-all
returns-clause-all g c up =
    let some = some_of g.D.Disk.seen c.args.self.now c.self.inside.centre c.self.inside.journal c.self.inside.at_open c.self.view_is c.self.invariant up in
    let b = some.base in
    let h = some.history in
    let w = subst (λ (x : Stored g.row.D.Denot). StoreStands g.D.Disk.seen b x h) c.self.view_is some.stands in
    let count = all_counted g.D.Disk.seen 2 c.args.self.now.journal b h (held g.D.Disk.seen b c.args.self.now h up w) in
    let numbers : c.saturating_sub.result ≡ c.args.self.now.state.sum.recorded - c.args.self.now.journal.records = search rules in
    omega (arith, count, numbers, w.centre.recorded)
