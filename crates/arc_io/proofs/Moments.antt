-- How a run of device calls goes on.
use Rattle.std.proofs.Common.{◌≡◌, ◌≤◌, ◌+◌, ◌-◌, inl, inr, ⊎_elim, ℕ, List, ◌++◌, length, take, drop, refl, ap, ◌∙◌, arith, append_assoc, length-append}
use Rattle.std.proofs.lemmas.List.{take_at, drop_at, length-take-le, length-drop}
use Rattle.arc_io.specs.declared.disk.Area.{Area}
use Rattle.arc_io.specs.Areas.{Areas, part}
use Rattle.arc_io.specs.Disks.{DiskSeen}
use Rattle.arc_io.specs.Crashes.{Elapses, LeavesOnly, Torn, TornIn, IsWritten, IsQuiet}

pub torn_same : (area : Area) (at n : ℕ) (s : Areas) → TornIn area at n s s
torn_same area at n s = (record { before = refl; after = refl; no_shorter = omega arith; no_longer = omega arith }, refl)

-- before the first call
pub started : (old : DiskSeen) (P : Areas → Type 0) → ((c : Areas) → old.left_since old.moment c → P c) → LeavesOnly old old P
started old P here = record { later = omega arith; each = here; before = λ t c le left. inl left }

-- one call more, after which a crash leaves what has P
pub goes_on : (old mid new : DiskSeen) (P : Areas → Type 0) → LeavesOnly old mid P → Elapses mid new → ((c : Areas) → new.may_leave c → P c)
    → LeavesOnly old new P
goes_on old mid new P so_far time here = record {
  later = omega (arith, so_far.later, time.later);
  each = λ c left. ⊎_elim (so_far.each c) (here c) (time.nothing_else old.moment c so_far.later left);
  before = λ t c le left. ⊎_elim (so_far.before t c le) (λ now. inr (here c now)) (time.nothing_else t c (omega (arith, le, so_far.later)) left);
}

-- a run after a run
pub joined : (old mid new : DiskSeen) (P Q : Areas → Type 0) → LeavesOnly old mid P → LeavesOnly mid new Q → ((c : Areas) → Q c → P c) → LeavesOnly old new P
joined old mid new P Q one two weaker = record {
  later = omega (arith, one.later, two.later);
  each = λ c left. ⊎_elim (one.each c) (weaker c) (two.before old.moment c one.later left);
  before = λ t c le left. ⊎_elim (one.before t c le) (λ q. inr (weaker c q)) (two.before t c (omega (arith, le, one.later)) left);
}

pub weaker : (old new : DiskSeen) (P Q : Areas → Type 0) → LeavesOnly old new Q → ((c : Areas) → Q c → P c) → LeavesOnly old new P
weaker old new P Q run w = record {
  later = run.later;
  each = λ c left. w c (run.each c left);
  before = λ t c le left. ⊎_elim (λ was. inl was) (λ q. inr (w c q)) (run.before t c le left);
}

-- a call that writes nothing: what each reading call of a disk ensures, in one fact
pub quiet_call : (old new : DiskSeen) → ((c : Areas) → old.left_since old.moment c → old.may_leave c) → new.told ≡ old.told
    → ((c : Areas) → new.may_leave c → old.may_leave c) → Elapses old new → IsQuiet old new
quiet_call old new only_now same crash time = record {
  same = same;
  crash = crash;
  any_moment = goes_on old old new old.may_leave (started old old.may_leave only_now) time crash;
}

-- before the first call
pub quiet_start : (old : DiskSeen) → ((c : Areas) → old.left_since old.moment c → old.may_leave c) → IsQuiet old old
quiet_start old only_now = record { same = refl; crash = λ c now. now; any_moment = started old old.may_leave only_now }

-- one run that writes nothing after another
pub quiet_then : (old mid new : DiskSeen) → IsQuiet old mid → IsQuiet mid new → IsQuiet old new
quiet_then old mid new one two = record {
  same = two.same ∙ one.same;
  crash = λ c now. one.crash c (two.crash c now);
  any_moment = joined old mid new old.may_leave mid.may_leave one.any_moment two.any_moment one.crash;
}

-- what was written is one of the things that a torn write may leave
pub written_torn_in : (at : ℕ) (bytes old new : List ℕ) → at ≤ length old → new ≡ take at old ++ bytes ++ drop (at + length bytes) old → Torn at (length bytes) old new
written_torn_in at bytes old new within is =
    let front : length (take at old) ≡ at = length-take-le at old within in
    let size : length new ≡ at + length bytes + length (drop (at + length bytes) old) =
    ap length is ∙ length-append (take at old ++ bytes) (drop (at + length bytes) old) ∙ ap (λ n. n + length (drop (at + length bytes) old)) (length-append (take at old) bytes ∙ ap (λ n. n + length bytes) front) in
    let rest : length (drop (at + length bytes) old) ≡ length old - (at + length bytes) = length-drop (at + length bytes) old in
    record {
      before = ap (take at) (is ∙ append_assoc (take at old) bytes (drop (at + length bytes) old)) ∙ take_at (take at old) (bytes ++ drop (at + length bytes) old) at front;
      after = ap (drop (at + length bytes)) is
          ∙ drop_at (take at old ++ bytes) (drop (at + length bytes) old) (at + length bytes) (length-append (take at old) bytes ∙ ap (λ n. n + length bytes) front);
      no_shorter = omega arith;
      no_longer = omega arith;
    }

pub written_torn : (area : Area) (at : ℕ) (bytes : List ℕ) (s t : Areas) → at ≤ length (part area s) → IsWritten area at bytes s t → TornIn area at (length bytes) s t
written_torn area at bytes s t within w = (written_torn_in at bytes (part area s) (part area t) within w.0, w.1)
