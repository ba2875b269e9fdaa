-- The laws of the clock of a disk in memory.
use Rattle.std.specs.Prelude.{◌≡◌, ◌≤◌, ℕ, length, None}
use Rattle.std.proofs.Common.{subst, arith}
use Rattle.arc_io.specs.Areas.{Areas}
use Rattle.arc_io.specs.MemoryDisk.{past_of, disk_seen, LeftAt}
use Rattle.arc_io.specs.declared.memory.disk.MemDisk.{MemDisk}

-- what a crash may leave now is what it might have left since then
pub left_now : (d : MemDisk) (t : ℕ) (c : Areas) → t ≤ (disk_seen d).moment → (disk_seen d).may_leave c → (disk_seen d).left_since t c
left_now d t c le now = (length (past_of d), le, omega arith, now)

-- since the last call there is no other
pub left_only_now : (d : MemDisk) (c : Areas) → (disk_seen d).left_since (disk_seen d).moment c → (disk_seen d).may_leave c
left_only_now d c left =
    let same : left.0 ≡ length (past_of d) = omega (arith, left.1, left.2) in subst (λ (k : ℕ). LeftAt d k c) same left.3

-- it tells what reads give
pub never_silent : (d : MemDisk) (c : Areas) → (disk_seen d).told ≡ None → (disk_seen d).may_leave c → ⊥
never_silent d c none left = cc
