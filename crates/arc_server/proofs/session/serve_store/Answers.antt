use Rattle.std.proofs.Common.{◌≡◌, ◌≤◌, ℕ, List, sym, subst, ap, ◌∙◌}
use Rattle.centre_rules.specs.History.{Entry}
use Rattle.centre_store.proofs.Halled.{at_open_stays, limits_stay}
use Rattle.centre_store.specs.StoreHalls.{IsStoreFor, store_seen}
use Rattle.centre_store.specs.Stores.{Stored}
use Rattle.session_rules.specs.Sessions.{changed, Goes}
use Rattle.arc_serving.specs.Sessions.{Serves}
use Rattle.arc_server.specs.SessionRuns.{line_name}
use Rattle.arc_server.proofs.Kept.{leaves_store, left_since_begun}
use Rattle.arc_server.proofs.Over.{over_is}
use Rattle.arc_server.proofs.Sessions.{stands_by, disk_by}
use Rattle.arc_server.proofs.session.serve_store.Goals as goal

pub returns-clause-served : goal.returns-clause-served
returns-clause-served g c r q' counted begun begins =
    let seen = g.D.Disk.seen in
    let p = g.P.Ends.seen c.args.port.now in
    let p' = g.P.Ends.seen c.serve-end.new.port in
    let store = c.args.store in
    let first = begun.first in
    let h = begun.history in
    let last = c.serve-end.new.hall in
    let end = c.serve-end.result in
    let e = c.serve-end.ensures in
    let base = begun.asked.base in
    let stands : IsStoreFor seen base store h = subst (λ (s : Stored g.row.D.Denot). IsStoreFor seen base s h) begins begun.stands in
    let goes : Goes h (λ w. Serves c.args.side line_name end e.serves.0 base w (changed (store_seen seen store) (store_seen seen last) p p')) =
    subst (λ (n : List ℕ). Goes h (λ w. Serves c.args.side n end e.serves.0 base w (changed (store_seen seen store) (store_seen seen last) p p'))) c.line-name.ensures
    (e.serves.2 base h stands) in
    let went : Goes h (λ w. Serves c.args.side line_name end e.serves.0 base w (changed (store_seen seen first) (store_seen seen last) p p')) =
    subst (λ (s : Stored g.row.D.Denot). Goes h (λ w. Serves c.args.side line_name end e.serves.0 base w (changed (store_seen seen s) (store_seen seen last) p p')))
    (sym begins) goes in
    let history : List Entry = went.0 in
    let made : List Entry = went.1 in
    let opened : last.at_open ≡ first.at_open = at_open_stays e.kept.fixed ∙ ap (λ (s : Stored g.row.D.Denot). s.at_open) (sym begins) in
    let later : (seen r.disk).faults ≤ last.at_open = subst (λ (n : ℕ). (seen r.disk).faults ≤ n) (sym opened) begun.later in record {
      p = p;
      begun = begun;
      end = end;
      read = e.serves.0;
      reads = e.serves.1;
      history = history;
      made = made;
      last = last;
      serves = went.2;
      leaves = leaves_store last
          (stands_by seen c.args.side line_name end e.serves.0 base (record { from = h; to = history; made = made }) first last p p' went.2)
          (limits_stay e.kept.fixed ∙ c.requires.limits) later c.close-disk.ensures;
      any_moment = left_since_begun seen g.met.D.Disk.only_now first last (seen r.disk).faults c.close-disk.result begun.stands.stands begun.up begun.readable
          (disk_by seen c.args.side line_name end e.serves.0 base (record { from = h; to = history; made = made }) first last p p' went.2) later c.close-disk.ensures;
      status_is = over_is c.status_over.result c.status_over.ensures.over counted c.faults.ensures
          (c.status_of_session-status.ensures.made p c.read_faults-reads.ensures c.write_faults-writes.ensures);
    }
