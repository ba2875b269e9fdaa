-- What a disk in memory tells.
use Rattle.std.specs.Prelude.{◌≡◌, ◌≤◌, ◌+◌, ℕ, List, length, take, Result, Contains, IsErr, is_err, OnOk, OnErr, Some, if◌then◌else◌}
use Rattle.arc_io.specs.Causes.{next_count}
use Rattle.arc_io.specs.Areas.{Areas}
use Rattle.arc_io.specs.Disks.{DiskSeen}
use Rattle.arc_io.specs.KeptCalls.{left_after, filled_after, below, stop_at}
use Rattle.arc_io.specs.declared.disk.Area.TheVariants.{A, B}
use Rattle.arc_io.specs.declared.memory.disk.MemDisk.{MemDisk}
use Rattle.arc_io.specs.declared.memory.disk_kept.Kept.{Kept}
use Rattle.arc_io.specs.declared.memory.disk_kept.Fill.{Fill}

-- what reads give
abbrev pub bytes_of : MemDisk → Areas
bytes_of d = record { a = d.a.items; b = d.b.items }

-- the numbers of the calls that are to fail
abbrev pub failing_of : MemDisk → List ℕ
failing_of d = d.failing.items

-- how many calls were made
abbrev pub calls_of : MemDisk → ℕ
calls_of d = d.calls

abbrev pub faults_of : MemDisk → ℕ
faults_of d = d.faults

-- the calls that did something, which is the disk's clock too
abbrev pub past_of : MemDisk → List Kept
past_of d = d.past.items

-- what a crash after these calls may leave of a disk that had these bytes at first, all of them synced
abbrev pub LeftBy : List ℕ → List ℕ → List Kept → Areas → Type 0
LeftBy first_a first_b past c = left_after A first_a (λ x. x ≡ first_a) past c.a × left_after B first_b (λ x. x ≡ first_b) past c.b

-- the same, after some number of them from t on
abbrev pub LeftBySince : List ℕ → List ℕ → List Kept → ℕ → Areas → Type 0
LeftBySince first_a first_b past t c = (k : ℕ) × (t ≤ k) × (k ≤ length past) × LeftBy first_a first_b (take k past) c

-- what a crash leaves of the disk after so many of its calls
abbrev pub LeftAt : MemDisk → ℕ → Areas → Type 0
LeftAt d k c = LeftBy d.first_a.items d.first_b.items (take k d.past.items) c

-- after some number of them from t on
abbrev pub LeftSince : MemDisk → ℕ → Areas → Type 0
LeftSince d t c = LeftBySince d.first_a.items d.first_b.items d.past.items t c

-- what it tells, by its bytes, what its areas had at first, its calls and its faults
abbrev pub seen_after : Areas → List ℕ → List ℕ → List Kept → ℕ → DiskSeen
seen_after bytes first_a first_b past faults = record {
  told = Some bytes;
  may_leave = λ c. LeftBy first_a first_b (take (length past) past) c;
  moment = length past;
  left_since = λ t c. LeftBySince first_a first_b past t c;
  faults = faults;
}

abbrev pub disk_seen : MemDisk → DiskSeen
disk_seen d = seen_after (bytes_of d) d.first_a.items d.first_b.items d.past.items d.faults

-- The moments of a stop within the call of number n: before what the call did, and after it.
pub record LeftWithin (d : MemDisk) (n : ℕ) (c : Areas) : Type 0 where
  pub moment : ℕ
  pub not_before : below n d.past.items ≤ moment
  pub not_after : moment ≤ below (n + 1) d.past.items
  pub left : LeftAt d moment c

-- the image by the fill
abbrev pub stopped_bytes : MemDisk → ℕ → Fill → Areas
stopped_bytes d n fill = record {
  a = filled_after A fill d.first_a.items d.first_a.items (take (stop_at n d.past.items) d.past.items);
  b = filled_after B fill d.first_b.items d.first_b.items (take (stop_at n d.past.items) d.past.items);
}

-- What each call does to the disk's numbers: the calls are counted, and the failures. A call whose number is listed fails.
-- A call that fails changes nothing else.
pub record Numbered {T E : Type 0} (before after : MemDisk) (result : Result T E) : Type 0 where
  pub failing : failing_of after ≡ failing_of before
  pub calls : calls_of after ≡ next_count (calls_of before)
  pub fails : Contains (failing_of before) (calls_of after) → IsErr result
  pub faults : faults_of after ≡ (if is_err result then next_count (faults_of before) else faults_of before)
  pub first_a : after.first_a ≡ before.first_a
  pub first_b : after.first_b ≡ before.first_b
  pub past : OnErr result (past_of after ≡ past_of before)
  pub bytes : OnErr result (bytes_of after ≡ bytes_of before)

-- a call that reads keeps nothing, and fails exactly where its number is listed
pub record ReadsOnly {T E : Type 0} (before after : MemDisk) (result : Result T E) : Type 0 where
  pub numbered : Numbered before after result
  pub listed : IsErr result → Contains (failing_of before) (calls_of after)
  pub past : past_of after ≡ past_of before
  pub bytes : bytes_of after ≡ bytes_of before

-- a call that may be kept, with its number
pub record Does {E : Type 0} (before after : MemDisk) (result : Result (Unit {0}) E) (what : Type 0) : Type 0 where
  pub numbered : Numbered before after result
  pub kept : OnOk result what
