use Rattle.std.proofs.Common.{[], refl, sym, subst, List}
use Rattle.std.specs.Prelude.{OnErr, false}
use Rattle.std.proofs.lemmas.List.Elements.{All-nil}
use Rattle.centre_core.specs.Runs.{IsSubmitted}
use Rattle.centre_rules.specs.History.{Entry}
use Rattle.centre_rules.specs.Summary.{Summary}
use Rattle.centre_store.specs.Stores.{Stored, StoreStands}
use Rattle.arc_serving.specs.Serving.{GoesOnFrom, ServesWhole}
use Rattle.arc_serving.proofs.Served.{at_some}
use Rattle.arc_serving.proofs.serving.serve_store.Goals as goal

pub returns-in-Ok-clause-served : goal.returns-in-Ok-clause-served
returns-in-Ok-clause-served g c =
    let seen = g.D.Disk.seen in
    let all = c.serve_blank.result in
    at_some seen false c.in-Ok.blank c.args.store (λ t came. ServesWhole seen t c.args.crew c.args.station all.station came all.store) all.came c.in-Ok.ensures.ok
    c.serve_blank.ensures.served

-- the bases of the gate are the histories for which the store stood
pub returns-in-Ok-clause-refused : goal.returns-in-Ok-clause-refused
returns-in-Ok-clause-refused g c = subst (λ (x : Stored _). OnErr c.serve_blank.result.came ((b : Summary) (h : List Entry) → StoreStands g.D.Disk.seen b x h
    → GoesOnFrom g.D.Disk.seen b h c.serve_blank.result.store)) c.in-Ok.ensures.ok c.serve_blank.ensures.refused

pub returns-in-Err-clause-refused : goal.returns-in-Err-clause-refused
returns-in-Err-clause-refused g c = λ b h from. record {
  history = h;
  stands = subst (λ (x : Stored _). StoreStands g.D.Disk.seen b x h) (sym c.in-Err.ensures.refused) from;
  past = record { since = []; is = refl; submitted = All-nil (λ (e : Entry). IsSubmitted e.event) };
}
