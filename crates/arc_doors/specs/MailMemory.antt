-- What the mailbox in memory tells, and what its calls do.
use Rattle.std.specs.Prelude.{◌≡◌, ◌↔◌, ◌++◌, ◌∷◌, [], ℕ, Bool, false, List, drop, Option, Some, Result}
use Rattle.std.specs.Prelude.{Contains, IsErr, is_err, if◌then◌else◌}
use Rattle.arc_io.specs.Causes.{next_count}
use Rattle.arc_io.specs.Memory.{clock_given, noise_given}
use Rattle.arc_io.specs.Seen.{PortSeen, untold}
use Rattle.arc_io.specs.declared.traits.Failed.{Failed}
use Rattle.arc_doors.specs.declared.memory.inbox.MemInbox.{MemInbox}
use Rattle.arc_doors.specs.declared.memory.outbox.MemOutbox.{MemOutbox}
use Rattle.arc_doors.specs.declared.memory.mail.MemMail.{MemMail}

-- the datagrams that are left
abbrev pub inbox_left : MemInbox → List (List ℕ)
inbox_left i = drop i.at i.datagrams.items

-- how many datagrams were given
abbrev pub inbox_given : MemInbox → ℕ
inbox_given i = i.at

-- the numbers of the calls that are to fail
abbrev pub inbox_failing : MemInbox → List ℕ
inbox_failing i = i.failing.items

-- how many calls were made
abbrev pub inbox_calls : MemInbox → ℕ
inbox_calls i = i.calls

abbrev pub inbox_faults : MemInbox → ℕ
inbox_faults i = i.faults

-- a call of `receive`: it fails exactly where its number is listed
pub record InboxCall (before after : MemInbox) (result : Result (Option ℕ) Failed) : Type 0 where
  pub failing : inbox_failing after ≡ inbox_failing before
  pub calls : inbox_calls after ≡ next_count (inbox_calls before)
  pub fails : IsErr result ↔ Contains (inbox_failing before) (inbox_calls after)
  pub faults : inbox_faults after ≡ (if is_err result then next_count (inbox_faults before) else inbox_faults before)

-- the datagrams that were sent
abbrev pub outbox_sent : MemOutbox → List (List ℕ)
outbox_sent o = o.sent.items

-- the numbers of the calls that are to fail
abbrev pub outbox_failing : MemOutbox → List ℕ
outbox_failing o = o.failing.items

-- how many calls were made
abbrev pub outbox_calls : MemOutbox → ℕ
outbox_calls o = o.calls

abbrev pub outbox_faults : MemOutbox → ℕ
outbox_faults o = o.faults

-- A call of `reply`: it fails where its number is listed, where nobody is to be replied to, and where its memory is refused; and
-- otherwise the bytes are sent as one datagram.
pub record OutboxCall (before after : MemOutbox) (result : Result (Unit {0}) Failed) (anybody : Bool) (bytes : List ℕ) : Type 0 where
  pub failing : outbox_failing after ≡ outbox_failing before
  pub calls : outbox_calls after ≡ next_count (outbox_calls before)
  pub fails : Contains (outbox_failing before) (outbox_calls after) → IsErr result
  pub nobody : anybody ≡ false → IsErr result
  pub faults : outbox_faults after ≡ (if is_err result then next_count (outbox_faults before) else outbox_faults before)
  pub sent : outbox_sent after ≡ (if is_err result then outbox_sent before else outbox_sent before ++ bytes ∷ [])

-- all that its four parts tell
abbrev pub mail_seen : MemMail → PortSeen
mail_seen m = record untold {
  read_faults = inbox_faults m.inbox;
  write_faults = outbox_faults m.outbox;
  readings = Some (clock_given m.clock);
  noise = Some (noise_given m.noise);
  datagrams = Some (inbox_left m.inbox);
  replies = Some (outbox_sent m.outbox);
}
