-- What was read of the setup's source.
use Rattle.std.specs.Prelude.{◌≡◌, ◌≤◌, ◌<◌, ℕ, List, Option, Err, IsOk, length}
use Rattle.std.specs.Io.KnownBytes.{prepend_known}
use Rattle.arc_io.specs.Causes.{Rose}
use Rattle.arc_io.specs.Seen.{PortSeen}
use Rattle.arc_io.specs.Told.{IsReadOut}
use Rattle.alarm_rules.specs.Setups.{setup_of}
use Rattle.arc_server.specs.declared.status.Status.{Status}
use Rattle.arc_server.specs.declared.status.Status.TheVariants.{SetupBad, ReadFault, Memory}
use Rattle.arc_server.specs.declared.status.Which.TheVariants.{Setup}

-- how many bytes are read at most: one more than a setup may have
abbrev pub setup_read : ℕ
setup_read = 4_194_305

-- This text was read of the setup's source: all of it, or as many bytes as are read at most.
pub record ReadsText (q q' : PortSeen) (text : List ℕ) : Type 0 where
  pub taken : q.left ≡ prepend_known text q'.left
  pub size : length text ≤ setup_read
  pub whole : length text < setup_read → IsReadOut q'

-- and it is a setup
pub record HasSetup (q q' : PortSeen) : Type 0 where
  pub text : List ℕ
  pub read : ReadsText q q' text
  pub is : IsOk (setup_of text)

-- a reading that stopped took no more than this many bytes
abbrev pub ReadsPart : ℕ → Option (List ℕ) → Option (List ℕ) → Type 0
ReadsPart most left left' = (bytes : List ℕ) × (length bytes ≤ most) × (left ≡ prepend_known bytes left')

-- What the status of a setup shows that was not read or is none.
abbrev pub IsNoSetup : Status → PortSeen → PortSeen → Type 0
IsNoSetup Memory q q' = ReadsPart setup_read q.left q'.left
IsNoSetup (SetupBad fault) q q' = (text : List ℕ) × ReadsText q q' text × (setup_of text ≡ Err fault)
IsNoSetup (ReadFault Setup before now) q q' =
    (before ≡ q.read_faults) × (now ≡ q'.read_faults) × Rose before now × ReadsPart setup_read q.left q'.left
IsNoSetup status q q' = ⊥
