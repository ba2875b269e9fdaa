use Rattle.std.proofs.Common.{◌≡◌, List, ◌++◌, length, take, sym, ap, ◌∙◌, subst}
use Rattle.std.specs.Prelude.{All}
use Rattle.std.proofs.lemmas.Bool.{false≢true}
use Rattle.centre_core.specs.Batches.{MayBeSubmitted}
use Rattle.centre_core.specs.declared.batch.Submission.{Submission}
use Rattle.line_gate.specs.Entries.{Entry}
use Rattle.line_gate.specs.Groups.{told_entries}
use Rattle.line_gate.specs.Terms.{IsOfGate}
use Rattle.line_gate.specs.UnderLock.{UnderLock, IsKept}
use Rattle.line_gate.proofs.Carried.{later_further, later_grown, entered_locked}
use Rattle.line_gate.proofs.Grouped.{TookAll, added, not_down, of_gate_then, kept_then, makes_then, shows_then}
use Rattle.line_gate.proofs.locked_store.LockedStore.submit_all.Given.{Over}
use Rattle.line_gate.proofs.locked_store.LockedStore.submit_all.Goals as goal
use Rattle.line_gate.proofs.locked_store.LockedStore.submit_all.Goals.{After-submit_all-done}

-- what the store promised
took : (g : Over) (c : After-submit_all-done g) → TookAll g.D.Disk.seen c.pass.inside.number c.self.inside.store c.submit_all-done.new.self c.args.batch.now
    c.submit_all-done.new.batch c.submit_all-done.result.done c.submit_all-done.result.stop
took g c = let e = c.submit_all-done.ensures in record {
  told = e.done;
  stands = e.stands;
  within = e.within;
  entries = e.entries;
  none = e.none;
  cause = e.cause;
  down = e.down.0;
  worn = λ up many some. (e.worn up many some).0;
  at_open = e.at_open;
  limits = e.limits;
  text = e.text;
  later = e.later;
}

-- callers submit such events
may : (g : Over) (c : After-submit_all-done g) → All MayBeSubmitted c.args.batch.now
may g c = subst (All MayBeSubmitted) c.batch.view_is c.batch.invariant.each

-- the pass has seen all that the book has
met : (g : Over) (c : After-submit_all-done g) → c.meet.new.pass.since ≡ c.self.inside.book.me.0.seen
met g c = c.meet.ensures.since ∙ ap (λ (h : UnderLock _). h.book.seen) (sym c.self.view_is)

-- the entries are those of the batch
entries_are : (g : Over) (c : After-submit_all-done g)
    → told_entries (take (length c.submit_all-done.result.done) c.of-of.result.value) c.submit_all-done.result.done ≡ added c.args.batch.now c.submit_all-done.result.done
entries_are g c = ap (λ (l : List Submission). added l c.submit_all-done.result.done) c.of-of.ensures

pub enter_all-requires-clause-of_gate : goal.enter_all-requires-clause-of_gate
enter_all-requires-clause-of_gate g c =
    let t = g.N.GateName.terms in
    let d = (goal.at.enter_all-requires-clause-of_gate g c).After-submit_all-done in
    subst (λ (l : List Entry). IsOfGate t (l ++ c.meet.new.pass.since)) (sym (entries_are g d))
    (subst (λ (h : List Entry). IsOfGate t (added c.args.batch.now c.submit_all-done.result.done ++ h)) (sym (met g d))
    (of_gate_then _ _ _ _ _ _ _ _ (took g d) t _ _ c.self.invariant.kept (may g d)))

-- what lies under the lock then
kept : (g : Over) (c : After-submit_all-done g) → IsKept g.D.Disk.seen g.N.GateName.terms
    (told_entries (take (length c.submit_all-done.result.done) c.of-of.result.value) c.submit_all-done.result.done ++ c.self.inside.book.me.0.seen)
    c.self.inside.book.me.0.told c.submit_all-done.new.self
kept g c =
    let t = g.N.GateName.terms in
    let was = c.self.inside.book.me in
    subst (λ (l : List Entry). IsKept g.D.Disk.seen t (l ++ was.0.seen) was.0.told c.submit_all-done.new.self) (sym (entries_are g c))
    (kept_then _ _ _ _ _ _ _ _ (took g c) t _ _ c.self.invariant.kept c.requires.groups (may g c))

pub invariant_of-self-else-failed : goal.invariant_of-self-else-failed
invariant_of-self-else-failed g c =
    entered_locked _ g.N.GateName.terms _ _ _ _ _ _ _ _ c.enter_all.ensures.book c.self.invariant
    (kept g (goal.at.invariant_of-self-else-failed g c).After-submit_all-done)

pub returns-clause-later : goal.returns-clause-later
returns-clause-later g c = later_further _ _ _ c.meet.ensures.later (later_grown _ _ _ c.enter_all.ensures.grown)

pub returns-clause-done : goal.returns-clause-done
returns-clause-done g c =
    let d = (goal.at.returns-clause-done g c).After-submit_all-done in
    makes_then _ _ _ _ _ _ _ _ (took g d) g.N.GateName.terms _ _ c.self.invariant.kept c.args.pass.now c.meet.new.pass c.enter_all.new.pass _
    c.meet.ensures.later c.meet.ensures.made (met g d) (entries_are g d) c.enter_all.ensures.grown

pub returns-clause-cause : goal.returns-clause-cause
returns-clause-cause g c =
    let d = (goal.at.returns-clause-cause g c).After-submit_all-done in
    let up = not_down _ _ _ _ _ _ _ _ (took g d) (λ failed. false≢true (c.if-failed.ensures.1 failed)) in
    shows_then _ _ _ _ _ _ _ _ (took g d) g.N.GateName.terms _ _ c.self.invariant.kept (may g d) c.meet.new.pass c.enter_all.new.pass _
    (met g d) (entries_are g d) c.enter_all.ensures.grown up
