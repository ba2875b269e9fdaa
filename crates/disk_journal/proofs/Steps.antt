-- How steps of a run over a disk are joined.
use Rattle.std.proofs.Common.{◌≡◌, ℕ, List, Option, Some, None, sym, ap, ◌∙◌, subst}
use Rattle.std.specs.Prelude.{IfSome}
use Rattle.arc_io.specs.Areas.{Areas, part, rest}
use Rattle.arc_io.specs.Disks.{DiskSeen}
use Rattle.arc_io.specs.Crashes.{Becomes, Follows, OnlyIn, LeavesOnly, LeavesTorn, TornIn, IsQuiet}
use Rattle.arc_io.specs.declared.disk.Area.{Area}
use Rattle.arc_io.specs.declared.disk.Area.TheVariants.{A, B}
use Rattle.arc_io.proofs.Moments.{weaker, joined}
use Rattle.disk_journal.specs.Journal.{IsSettled}
use Rattle.disk_journal.specs.Turning.{Changes}

areas_of : List ℕ → List ℕ → Areas
areas_of a b = record { a = a; b = b }

both_same : (t c : Areas) → t.a ≡ c.a → t.b ≡ c.b → t ≡ c
unfolding areas_of
both_same t c a b = ap (λ (x : List ℕ). areas_of x t.b) a ∙ ap (λ (x : List ℕ). areas_of c.a x) b

-- areas with the same bytes in the one and the other
pub same_areas : (area : Area) (t c : Areas) → part area t ≡ part area c → rest area t ≡ rest area c → t ≡ c
same_areas A t c one other = both_same t c one other
same_areas B t c one other = both_same t c other one

-- of what is told at first something is known: then more is known of how it changes
pub becomes_map : (R S : Areas → Areas → Type 0) (P : Areas → Type 0) (o m : Option Areas) → Becomes o m R → IfSome o P
    → ((s t : Areas) → P s → R s t → S s t) → Becomes o m S
becomes_map R S P None None run file so = tt
becomes_map R S P None (Some t) run file so = absurd run
becomes_map R S P (Some s) None run file so = absurd run
becomes_map R S P (Some s) (Some t) run file so = so s t file run

-- and of what is told then
pub told_after : (R : Areas → Areas → Type 0) (P Q : Areas → Type 0) (o m : Option Areas) → Becomes o m R → IfSome o P
    → ((s t : Areas) → P s → R s t → Q t) → IfSome m Q
told_after R P Q None None run file so = tt
told_after R P Q None (Some t) run file so = absurd run
told_after R P Q (Some s) None run file so = absurd run
told_after R P Q (Some s) (Some t) run file so = so s t file run

pub becomes_then : (R : Areas → Areas → Type 0) (o m n : Option Areas) → ((s t u : Areas) → R s t → R t u → R s u)
    → Becomes o m R → Becomes m n R → Becomes o n R
becomes_then R None None None on one two = tt
becomes_then R None None (Some u) on one two = absurd two
becomes_then R None (Some t) n on one two = absurd one
becomes_then R (Some s) None n on one two = absurd one
becomes_then R (Some s) (Some t) None on one two = absurd two
becomes_then R (Some s) (Some t) (Some u) on one two = on s t u one two

-- where what is told at last is known alone
pub becomes_last : (R S : Areas → Areas → Type 0) (Q U : Areas → Type 0) (o m n : Option Areas) → Becomes o m R → Becomes m n S → IfSome m Q
    → ((t u : Areas) → Q t → S t u → U u) → Becomes o n (λ _ u. U u)
becomes_last R S Q U None None None one two file so = tt
becomes_last R S Q U None None (Some u) one two file so = absurd two
becomes_last R S Q U None (Some t) n one two file so = absurd one
becomes_last R S Q U (Some s) None n one two file so = absurd one
becomes_last R S Q U (Some s) (Some t) None one two file so = absurd two
becomes_last R S Q U (Some s) (Some t) (Some u) one two file so = so t u file two

pub if_map : (P Q : Areas → Type 0) (o : Option Areas) → IfSome o P → ((s : Areas) → P s → Q s) → IfSome o Q
if_map P Q None file so = tt
if_map P Q (Some s) file so = so s file

pub if_both : (P Q R : Areas → Type 0) (o : Option Areas) → IfSome o P → IfSome o Q → ((s : Areas) → P s → Q s → R s) → IfSome o R
if_both P Q R None one two so = tt
if_both P Q R (Some s) one two so = so s one two

pub still : (R : Areas → Areas → Type 0) (o : Option Areas) → ((s : Areas) → R s s) → Becomes o o R
still R None same = tt
still R (Some s) same = same s

pub file_at : (P : Areas → Type 0) (o : Option Areas) (c : Areas) → o ≡ Some c → IfSome o P → P c
file_at P o c is file = subst (λ (p : Option Areas). IfSome p P) is file

-- a write and a sync
pub torn_changes : (area : Area) (at n : ℕ) (old new : DiskSeen) → Becomes old.told new.told (TornIn area at n)
    → Follows (TornIn area at n) old.may_leave new.may_leave → LeavesTorn old new area at n → Changes (TornIn area at n) old new
torn_changes area at n old new told crash any_moment = record { told = told; crash = crash; any_moment = any_moment }

-- nothing is written
pub quiet_changes : (R : Areas → Areas → Type 0) (old new : DiskSeen) → ((s : Areas) → R s s) → IsQuiet old new → Changes R old new
quiet_changes R old new same quiet = record {
  told = subst (λ (p : Option Areas). Becomes old.told p R) (sym quiet.same) (still R old.told same);
  crash = λ c now. (c, quiet.crash c now, same c);
  any_moment = weaker old new (λ c. (d : Areas) × old.may_leave d × R d c) old.may_leave quiet.any_moment (λ c now. (c, now, same c));
}

-- one run after another
pub changes_then : (R : Areas → Areas → Type 0) (old mid new : DiskSeen) → ((s t u : Areas) → R s t → R t u → R s u)
    → Changes R old mid → Changes R mid new → Changes R old new
changes_then R old mid new on one two = record {
  told = becomes_then R old.told mid.told new.told on one.told two.told;
  crash = λ c now. let d = two.crash c now in let e = one.crash d.0 d.1 in (e.0, e.1, on e.0 d.0 c e.2 d.2);
  any_moment = joined old mid new (λ c. (d : Areas) × old.may_leave d × R d c) (λ c. (d : Areas) × mid.may_leave d × R d c) one.any_moment two.any_moment
      (λ c x. let e = one.crash x.0 x.1 in (e.0, e.1, on e.0 x.0 c e.2 x.2));
}

any_told : (o : Option Areas) → IfSome o (λ _. Unit {0})
any_told None = tt
any_told (Some s) = tt

pub changes_weaker : (R S : Areas → Areas → Type 0) (old new : DiskSeen) → ((s t : Areas) → R s t → S s t) → Changes R old new → Changes S old new
changes_weaker R S old new so run = record {
  told = becomes_map R S (λ _. Unit {0}) old.told new.told run.told (any_told old.told) (λ s t _ x. so s t x);
  crash = λ c now. let d = run.crash c now in (d.0, d.1, so d.0 c d.2);
  any_moment = weaker old new (λ c. (d : Areas) × old.may_leave d × S d c) (λ c. (d : Areas) × old.may_leave d × R d c) run.any_moment
      (λ c x. (x.0, x.1, so x.0 c x.2));
}

-- a settled disk is settled after calls that write nothing
pub quiet_settled : (old new : DiskSeen) → IsQuiet old new → IsSettled old → IsSettled new
quiet_settled old new quiet settled = λ c now. quiet.same ∙ settled c (quiet.crash c now)

-- from a settled disk, of which something is known, more is known of what changes
pub changes_map : (R S : Areas → Areas → Type 0) (P : Areas → Type 0) (old new : DiskSeen) → IsSettled old → IfSome old.told P → Changes R old new
    → ((s t : Areas) → P s → R s t → S s t) → Changes S old new
changes_map R S P old new settled file run so = record {
  told = becomes_map R S P old.told new.told run.told file so;
  crash = λ c now. let d = run.crash c now in (d.0, d.1, so d.0 c (file_at P old.told d.0 (settled d.0 d.1) file) d.2);
  any_moment = weaker old new (λ c. (d : Areas) × old.may_leave d × S d c) (λ c. (d : Areas) × old.may_leave d × R d c) run.any_moment
      (λ c x. (x.0, x.1, so x.0 c (file_at P old.told x.0 (settled x.0 x.1) file) x.2));
}

-- and of what a crash leaves at each moment
pub moments : (R : Areas → Areas → Type 0) (P Q : Areas → Type 0) (old new : DiskSeen) → IsSettled old → IfSome old.told P → Changes R old new
    → ((s t : Areas) → P s → R s t → Q t) → LeavesOnly old new Q
moments R P Q old new settled file run so =
    weaker old new Q (λ c. (d : Areas) × old.may_leave d × R d c) run.any_moment
    (λ c x. so x.0 c (file_at P old.told x.0 (settled x.0 x.1) file) x.2)

pub moments_then : (Q : Areas → Type 0) (old mid new : DiskSeen) → LeavesOnly old mid Q → LeavesOnly mid new Q → LeavesOnly old new Q
moments_then Q old mid new one two = joined old mid new Q Q one two (λ c q. q)

settle_one : (area : Area) (R : Areas → Areas → Type 0) (d c : Areas) (m : Option Areas) → ((s t : Areas) → R s t → rest area t ≡ rest area s)
    → Becomes (Some d) m R → R d c → IfSome m (λ s. part area c ≡ part area s) → m ≡ Some c
settle_one area R d c None others run step only = absurd run
settle_one area R d c (Some t) others run step only = ap Some (same_areas area t c (sym only) (others d t run ∙ sym (others d c step)))

only_at : (area : Area) (left : Areas → Type 0) (m : Option Areas) (c : Areas) → IfSome m (λ s. OnlyIn area s left) → left c → IfSome m (λ s. part area c ≡ part area s)
only_at area left None c only now = tt
only_at area left (Some t) c only now = only c now

-- a settled disk is settled after writes to one area and a sync of it
pub settled_after : (area : Area) (R : Areas → Areas → Type 0) (old new : DiskSeen) → ((s t : Areas) → R s t → rest area t ≡ rest area s) → IsSettled old
    → Changes R old new → IfSome new.told (λ s. OnlyIn area s new.may_leave) → IsSettled new
settled_after area R old new others settled run only = λ c now.
    let d = run.crash c now in
    settle_one area R d.0 c new.told others
    (subst (λ (p : Option Areas). Becomes p new.told R) (settled d.0 d.1) run.told) d.2 (only_at area new.may_leave new.told c only now)
