-- A store as the hall of one caller.
use Rattle.std.specs.Prelude.{◌≡◌, List, Bool, true, false, Option, Some, None}
use Rattle.arc_io.specs.Areas.{Areas}
use Rattle.arc_io.specs.Disks.{DiskSeen}
use Rattle.alarm_rules.specs.Setups.{meaning}
use Rattle.centre_rules.specs.Summary.{Summary}
use Rattle.centre_rules.specs.Marks.{force}
use Rattle.centre_rules.specs.History.{Entry, IsMoment, marks, moment_after, recorded}
use Rattle.centre_core.specs.Halls.{Fixed, HallSeen}
use Rattle.centre_core.specs.InForce.{in_force}
use Rattle.centre_core.specs.Setting.{IsSetting, text_of}
use Rattle.event_codec.specs.Spelling.{spelling}
use Rattle.centre_store.specs.Calls.{LeavesFrom}
use Rattle.centre_store.specs.Given.{HasEither}
use Rattle.centre_store.specs.Pasts.{AreKept}
use Rattle.centre_store.specs.Stores.{Stored, HasFailed, StoreStands, Shows}

-- the store stands for the history, after which a setup is in force
pub record IsStoreFor {D : Type 0} (seen : D → DiskSeen) (b : Summary) (s : Stored D) (h : List Entry) : Type 0 where
  pub stands : StoreStands seen b s h
  pub setting : IsSetting s.state.sum.text

-- whether a disk tells what it holds
abbrev pub is_told : Option Areas → Bool
is_told None = false
is_told (Some areas) = true

-- The recorded entries are such as a journal has: made under the number 0, and with a spelling. The summary before them ends at a moment.
abbrev pub IsReadable : Summary → List Entry → Type 0
IsReadable base h = IsMoment base.last × AreKept (recorded h)

-- what no call of a store changes
abbrev pub fixed_of : {D : Type 0} → (D → DiskSeen) → Stored D → Fixed
fixed_of seen s = record {
  at_open = s.at_open;
  bytes = s.journal.limits.bytes;
  records = s.journal.limits.records;
  tells = is_told (seen s.journal.disk).told;
}

-- What it tells: calls may be made once a setup is in force; its caller has the number 0, and made all of each history. As long as
-- its disk has not failed, an event that is stopped is all that the disk may have beside the recorded entries.
abbrev pub store_seen : {D : Type 0} → (D → DiskSeen) → Stored D → HallSeen
store_seen seen s = record {
  ready = IsSetting s.state.sum.text;
  text = text_of s.state;
  caller = 0;
  fixed = fixed_of seen s;
  count = 1;
  told = (seen s.journal.disk).faults;
  stands = λ b h. IsStoreFor seen b s h;
  readable = λ b h. IsReadable b h;
  leaves = λ t k b h. LeavesFrom t k s.at_open (seen s.journal.disk) b h;
  own = λ h. h;
  shows = λ stop event clock. Shows seen s stop event clock;
  up = HasFailed seen s → ⊥;
  torn = λ b h event clock. HasEither (seen s.journal.disk) b h (spelling event (moment_after b h clock));
}

-- the law of a hall: after each history for which it stands the setup of its text is in force
pub store_in_force : {D : Type 0} (seen : D → DiskSeen)
    (s : Stored D) (b : Summary) (h : List Entry) → IsStoreFor seen b s h
    → force b (marks b h) ≡ Some (meaning (text_of s.state))
store_in_force seen s b h w = in_force s.state b h (record { stands = w.stands.centre; setting = w.setting })
