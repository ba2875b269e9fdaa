use Rattle.std.proofs.Common.{◌≡◌, ◌≤◌, ℕ, sym, subst, ap, ◌∙◌}
use Rattle.centre_store.proofs.Halled.{at_open_stays, limits_stay}
use Rattle.centre_store.specs.StoreHalls.{IsStoreFor, store_seen}
use Rattle.centre_store.specs.Stores.{Stored}
use Rattle.udp_line.specs.Mails.{ServesMail}
use Rattle.arc_server.proofs.Kept.{leaves_store, left_since_begun}
use Rattle.arc_server.proofs.Over.{over_is}
use Rattle.arc_server.proofs.mail.answer_mail.Goals as goal

pub returns-clause-served : goal.returns-clause-served
returns-clause-served g c r q' p' counted begun begins =
    let seen = g.D.Disk.seen in
    let m = g.M.Ends.seen c.args.mail.now in
    let m' = g.M.Ends.seen c.serve_mail-end.new.mail in
    let first = begun.first in
    let base = begun.asked.base in
    let last = c.serve_mail-end.new.hall in
    let e = c.serve_mail-end.ensures in
    let stands : IsStoreFor seen base c.args.store begun.history =
    subst (λ (s : Stored g.row.D.Denot). IsStoreFor seen base s begun.history) begins begun.stands in
    let serves : ServesMail c.serve_mail-end.result e.mail.0 base begun.history (store_seen seen first) (store_seen seen last) m m' =
    subst (λ (s : Stored g.row.D.Denot). ServesMail c.serve_mail-end.result e.mail.0 base begun.history (store_seen seen s) (store_seen seen last) m m')
    (sym begins) (e.mail.2 base begun.history stands) in
    let opened : last.at_open ≡ first.at_open = at_open_stays e.kept.fixed ∙ ap (λ (s : Stored g.row.D.Denot). s.at_open) (sym begins) in
    let later : (seen r.disk).faults ≤ last.at_open = subst (λ (n : ℕ). (seen r.disk).faults ≤ n) (sym opened) begun.later in record {
      begun = begun;
      end = c.serve_mail-end.result;
      given = e.mail.0;
      receives = e.mail.1;
      last = last;
      serves = serves;
      leaves = leaves_store last serves.holds.stands (limits_stay e.kept.fixed ∙ c.requires.limits) later c.close-disk.ensures;
      any_moment = left_since_begun seen g.met.D.Disk.only_now first last (seen r.disk).faults c.close-disk.result begun.stands.stands begun.up begun.readable
          serves.disk later c.close-disk.ensures;
      status_is = over_is c.status_over.result c.status_over.ensures.over counted c.faults.ensures
          (c.status_of_mail-status.ensures.made m c.receive_faults-receives.ensures c.reply_faults-replies.ensures);
    }
