-- What the disk of a store has recorded, and what a run leaves of it.
use Rattle.std.proofs.Common.{◌≡◌, ◌≤◌, ◌⊎◌, ◌∷◌, ℕ, List, inl, inr, sym, subst, arith}
use Rattle.arc_io.specs.Areas.{Areas}
use Rattle.arc_io.specs.Causes.{Rose}
use Rattle.arc_io.specs.Disks.{DiskSeen}
use Rattle.centre_core.specs.Halls.{DiskGoesOn}
use Rattle.centre_rules.specs.Summary.{Summary}
use Rattle.centre_rules.specs.History.{Entry}
use Rattle.centre_store.proofs.Holding.{recorded_there}
use Rattle.centre_store.proofs.Leaving.{leaves_now}
use Rattle.centre_store.specs.Calls.{LeavesFrom}
use Rattle.centre_store.specs.StoreHalls.{IsReadable, store_seen}
use Rattle.centre_store.specs.Stores.{Stored, HasFailed, StoreStands, IsNextKept}
use Rattle.arc_server.specs.Areas.{EndsWith, shipped}
use Rattle.arc_server.specs.Handed.{Handed}
use Rattle.arc_server.specs.Leaving.{LeavesStore}

-- the later of two counts at entry rose no sooner than the earlier
pub rose_from : (entry at_open now : ℕ) → entry ≤ at_open → Rose at_open now → Rose entry now
rose_from entry at_open now since rose = omega arith

kept_there : {D : Type 0} {seen : D → DiskSeen} {b : Summary} (s : Stored D) {h : List Entry} (entry : ℕ)
    → StoreStands seen b s h → entry ≤ s.at_open → EndsWith entry (seen s.journal.disk) b h
kept_there {D} {seen} {b} s {h} entry stands since =
    elim stands.journal as (λ j. EndsWith entry (seen s.journal.disk) b h) [
      | inl holds ↦ inl (recorded_there seen s.journal b h holds)
      | inr failed ↦ elim failed.1 as (λ left. EndsWith entry (seen s.journal.disk) b h) [
        | inl there ↦ inl there
        | inr torn ↦ inr (rose_from entry s.at_open (seen s.journal.disk).faults since failed.0, torn)
      ]
    ]

-- the disk that it hands back, of a run that had no more faults at its entry than the store at its opening
pub kept : {D : Type 0} {seen : D → DiskSeen} {b : Summary} (s : Stored D) {h : List Entry} (entry : ℕ) (disk' : D)
    → StoreStands seen b s h → entry ≤ s.at_open → disk' ≡ s.journal.disk → EndsWith entry (seen disk') b h
kept {D} {seen} {b} s {h} entry disk' stands since handed =
    subst (λ (d : D). EndsWith entry (seen d) b h) (sym handed) (kept_there s entry stands since)

pub leaves_store : {D : Type 0} {seen : D → DiskSeen} {b : Summary} {r r' : Handed D} (last : Stored D) {h : List Entry}
    → StoreStands seen b last h → last.journal.limits ≡ shipped → (seen r.disk).faults ≤ last.at_open → r'.disk ≡ last.journal.disk
    → LeavesStore seen r r' b h last
leaves_store {D} {seen} {b} {r} {r'} last {h} stands limits later handed = record {
  stands = stands;
  limits = limits;
  later = later;
  handed = handed;
  ends = kept last (seen r.disk).faults r'.disk stands later handed;
}

-- and what a crash may leave since some moment
left_there : {D : Type 0} (seen : D → DiskSeen) {b : Summary} (s : Stored D) {t : ℕ} {k h : List Entry} (entry : ℕ) → entry ≤ s.at_open
    → LeavesFrom t k s.at_open (seen s.journal.disk) b h → LeavesFrom t k entry (seen s.journal.disk) b h
left_there {D} seen {b} s {t} {k} {h} entry since left = record {
  later = left.later;
  extends = left.extends;
  furthest = left.furthest;
  is = elim left.is as (λ _. (left.furthest ≡ h) ⊎ (Rose entry (seen s.journal.disk).faults × (e : Entry) × IsNextKept b h e × (left.furthest ≡ e ∷ h))) [
    | inl is ↦ inl is
    | inr torn ↦ inr (rose_from entry s.at_open (seen s.journal.disk).faults since torn.0, torn.1, torn.2, torn.3)
  ];
  each = left.each;
}

-- behind a session, since the run had begun
pub left_since_begun : {D : Type 0} (seen : D → DiskSeen) (only_now : (d : D) (c : Areas) → (seen d).left_since (seen d).moment c → (seen d).may_leave c)
    {b : Summary} (first last : Stored D) {h x : List Entry} (entry : ℕ) (disk' : D) → StoreStands seen b first h → (HasFailed seen first → ⊥)
    → IsReadable b h → DiskGoesOn b (store_seen seen first) (store_seen seen last) h x → entry ≤ last.at_open → disk' ≡ last.journal.disk
    → LeavesFrom (seen first.journal.disk).moment h entry (seen disk') b x
left_since_begun {D} seen only_now {b} first last {h} {x} entry disk' stands up readable disk since handed =
    subst (λ (d : D). LeavesFrom (seen first.journal.disk).moment h entry (seen d) b x) (sym handed)
    (left_there seen last entry since (disk.leaves readable (seen first.journal.disk).moment h (leaves_now seen only_now b first h up stands)))
