-- What a run did that serves datagrams.
use Rattle.std.specs.Prelude.{◌≡◌, ℕ, List}
use Rattle.arc_io.specs.Disks.{DiskSeen}
use Rattle.arc_io.specs.Seen.{PortSeen}
use Rattle.centre_store.specs.Calls.{LeavesFrom}
use Rattle.centre_store.specs.StoreHalls.{store_seen}
use Rattle.centre_store.specs.Stores.{Stored}
use Rattle.udp_line.specs.Mails.{ReceivesMail, ServesMail}
use Rattle.udp_line.specs.declared.mail_end.MailEnd.{MailEnd}
use Rattle.arc_server.specs.Beginnings.{HasBegun}
use Rattle.arc_server.specs.Handed.{Handed}
use Rattle.arc_server.specs.Leaving.{LeavesStore}
use Rattle.arc_server.specs.Made.{status_of_run, status_of_mail}
use Rattle.arc_server.specs.declared.status.Status.{Status}

-- A run began, and from there the next datagrams of a mailbox, which told m then, were received and answered, at most so many, up to an
-- end. It leaves the store with the history that they ended with. A crash at any moment since the run had begun leaves all that was
-- recorded then, and of the entries since then some first ones. Where the disk has failed, one more counts among these, with which the
-- history can go on.
pub record AnswersMail {D : Type 0} (seen : D → DiskSeen) (count : ℕ) (status : Status) (r r' : Handed D) (m m' : PortSeen) : Type 0 where
  pub begun : HasBegun seen r r'.setup r'.port
  pub end : MailEnd
  pub given : List (List ℕ)
  pub receives : ReceivesMail end count given m m'
  pub last : Stored D
  pub serves : ServesMail end given begun.asked.base begun.history (store_seen seen begun.first) (store_seen seen last) m m'
  pub leaves : LeavesStore seen r r' begun.asked.base serves.history last
  pub any_moment : LeavesFrom (seen begun.first.journal.disk).moment begun.history (seen r.disk).faults (seen r'.disk)
      begun.asked.base serves.history
  pub status_is : status ≡ status_of_run seen r r' (status_of_mail end m m')
