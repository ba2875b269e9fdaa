-- What taking an answer comes to.
use Rattle.std.proofs.Common.{◌≡◌, ◌≤◌, ◌<◌, ◌+◌, ℕ, List, [], ◌∷◌, length, take, Some, IfOk, IfErr, Result, Ok, Err, inl, inr, refl, sym, subst, ap, ◌∙◌, arith}
use Rattle.std.specs.Io.KnownBytes.{prepend_known}
use Rattle.arc_io.proofs.KnownMore.{prepend_none}
use Rattle.arc_io.specs.Causes.{Rose}
use Rattle.arc_io.specs.Disks.{DiskSeen}
use Rattle.arc_io.specs.Seen.{PortSeen}
use Rattle.arc_io.specs.Told.{OnlyReads}
use Rattle.centre_core.specs.declared.hall.Stop.{Stop}
use Rattle.centre_rules.specs.History.{Entry}
use Rattle.centre_rules.specs.Summary.{Summary}
use Rattle.centre_store.specs.Followings.{EndsWith, ShowsOfReplay, TakesIn}
use Rattle.centre_store.specs.Stores.{Stored, StoreStands}
use Rattle.session_rules.proofs.Ports.{rose_since}
use Rattle.session_rules.specs.Inputs.{input_limit}
use Rattle.mirror_centre.specs.Feeds.{Wrote}
use Rattle.mirror_centre.specs.Feeding.{GoesOn}
use Rattle.mirror_centre.specs.Following.{IsUnread, ReadsAnswer, ReadsNone, TakesNone, TakesTurn, outcome_of}
use Rattle.mirror_centre.specs.Follows.{EndsAsking, IsCounted, IsTaken, IsUntaken, have}
use Rattle.mirror_centre.specs.Messages.{Answer, Record, End, Summed, IsAnswer, answer_text, ask_text}
use Rattle.mirror_centre.specs.Takings.{IsNextRecord, IsTold, passed_by}
use Rattle.mirror_centre.specs.declared.follow_end.FollowEnd.{FollowEnd}
use Rattle.mirror_centre.specs.declared.follow_end.FollowEnd.TheVariants.{Done, Behind, Strange, ReadFault, WriteFault, Spent, Stopped}
use Rattle.mirror_centre.specs.declared.mirror.Took.{Took}
use Rattle.mirror_centre.specs.declared.mirror.Took.TheVariants.{Added, Old, Idle}
use Rattle.mirror_centre.specs.declared.mirror.Took.TheVariants as Made
use Rattle.mirror_centre.proofs.Asks.{goes_then, reads_on, written_same}

-- a store that stands for a history has as many recorded entries
pub have_is : {D : Type 0} {seen : D → DiskSeen} {b : Summary} {s : Stored D} {h : List Entry} → StoreStands seen b s h → s.state.sum.recorded ≡ have b h
have_is {D} {seen} {b} {s} {h} stands = stands.centre.recorded

-- An ask was written, and then an answer was read or not.
pub record IsAsked (n : ℕ) (p q : PortSeen) : Type 0 where
  pub wrote : Wrote p q (ask_text n)
  pub left : q.left ≡ p.left
  pub goes : GoesOn p q

wrote_on : (n : ℕ) (p q r : PortSeen) → IsAsked n p q → OnlyReads q r → Wrote p r (ask_text n)
wrote_on n p q r asked only = written_same q r only ∙ asked.wrote

goes_on : (n : ℕ) (p q r : PortSeen) → IsAsked n p q → OnlyReads q r → q.read_faults ≤ r.read_faults → GoesOn p r
goes_on n p q r asked only later = goes_then p q r asked.goes (reads_on q r only later)

asking : (end : FollowEnd) (n : ℕ) (p r : PortSeen) → (end ≡ WriteFault → ⊥) → Wrote p r (ask_text n) → EndsAsking end [] n p r
asking WriteFault n p r not wrote = absurd (not refl)
asking Done n p r not wrote = wrote
asking (Behind known count) n p r not wrote = wrote
asking (Strange after) n p r not wrote = wrote
asking ReadFault n p r not wrote = wrote
asking Spent n p r not wrote = wrote
asking (Stopped stop) n p r not wrote = wrote

module _ (shows : List ℕ → Stop → Type 0) (b : Summary) (h : List Entry) where
  unread_untaken : (end : FollowEnd) (rest : List ℕ) (p q r : PortSeen) → p.read_faults ≤ q.read_faults → IsUnread end rest q r → IsUntaken shows end b h rest p r
  unread_untaken (Strange after) rest p q r later (inl none) = inl none
  unread_untaken (Strange after) rest p q r later (inr cut) = inr (inl cut)
  unread_untaken ReadFault rest p q r later why = (why.0, rose_since p.read_faults q.read_faults r.read_faults later why.1)
  unread_untaken Spent rest p q r later why = why
  unread_untaken (Stopped stop) rest p q r later why = inl why
  unread_untaken Done rest p q r later why = absurd why
  unread_untaken (Behind known count) rest p q r later why = absurd why
  unread_untaken WriteFault rest p q r later why = absurd why

  unread_other : (end : FollowEnd) (rest : List ℕ) (q r : PortSeen) → IsUnread end rest q r → end ≡ WriteFault → ⊥
  unread_other (Strange after) rest q r why is = cc
  unread_other ReadFault rest q r why is = cc
  unread_other Spent rest q r why is = cc
  unread_other (Stopped stop) rest q r why is = cc
  unread_other Done rest q r why is = cc
  unread_other (Behind known count) rest q r why is = cc
  unread_other WriteFault rest q r why is = why

  -- no answer was read whole
  pub none_read : (end : FollowEnd) (count bytes : ℕ) (p q r : PortSeen) → IsAsked (have b h) p q → OnlyReads q r → q.read_faults ≤ r.read_faults
      → ReadsNone end count bytes [] q r → TakesNone shows end b h count bytes p r
  none_read end count bytes p q r asked only later none = record {
    rest = none.more;
    left = sym asked.left ∙ none.left;
    most = none.most;
    why = unread_untaken end none.more p q r asked.goes.reads none.why;
    told = none.told;
    output = asking end (have b h) p r (unread_other end none.more q r none.why) (wrote_on (have b h) p q r asked only);
    goes = goes_on (have b h) p q r asked only later;
  }

  -- the ask was cut short
  pub none_asked : (count bytes n : ℕ) (p q : PortSeen) → bytes ≤ input_limit → n < 9 → Wrote p q (take n (ask_text (have b h))) → q.left ≡ p.left → GoesOn p q
      → Rose p.write_faults q.write_faults → TakesNone shows WriteFault b h count bytes p q
  none_asked count bytes n p q few short wrote left goes failed = record {
    rest = [];
    left = sym left ∙ prepend_none q.left;
    most = omega (arith, few);
    why = (refl, failed);
    told = tt;
    output = (n, short, wrote);
    goes = goes;
  }

-- What taking an answer told of a store, and of the store after it.
pub record TookSo {D : Type 0} (seen : D → DiskSeen) (b : Summary) (h : List Entry) (old new : Stored D) (message : List ℕ) (r : Result Took Stop) : Type 0 where
  pub told : IfOk r (λ took. IsTold old.state.sum.recorded message took)
  pub added : r ≡ Ok Added → (body : List ℕ) × IsNextRecord old.state.sum.recorded message body × TakesIn seen b new h body
  pub strange : r ≡ Ok Made.Strange → (body : List ℕ) → IsNextRecord old.state.sum.recorded message body → EndsWith b h body
  pub cause : IfErr r (λ s. (body : List ℕ) × IsNextRecord old.state.sum.recorded message body × ShowsOfReplay seen new body s)
  pub stands : (r ≡ Ok Added → ⊥) → StoreStands seen b new h

module _ {D : Type 0} (seen : D → DiskSeen) (b : Summary) (h : List Entry) (old new : Stored D) (message : List ℕ) (bytes after : ℕ) (p q r : PortSeen)
    (stood : StoreStands seen b old h) (asked : IsAsked (have b h) p q) (read : ReadsAnswer bytes message q r) (only : OnlyReads q r)
    (later : q.read_faults ≤ r.read_faults) where
  next_is : (body : List ℕ) → IsNextRecord old.state.sum.recorded message body → IsAnswer message (Record (have b h + 1) body)
  next_is body is = subst (λ (n : ℕ). IsAnswer message (Record (n + 1) body)) (have_is stood) is

  turned : (a : Answer) (history : List Entry) → IsAnswer message a → IsTaken b h a history → StoreStands seen b new history → TakesTurn seen b h new (length message) p r
  turned a history is taken stands = record {
    turn = record { number = have b h; answer = message };
    history = history;
    is = record { asked_is = refl; said = a; is = is; taken = taken };
    stands = stands;
    size_is = refl;
    left = sym asked.left ∙ read.left;
    output = wrote_on (have b h) p q r asked only;
    goes = goes_on (have b h) p q r asked only later;
  }

  pub took_turn : (k : Result Took Stop) → TookSo seen b h old new message k
      → IfOk (outcome_of k (length message) after) (λ size. TakesTurn seen b h new size p r)
  took_turn (Ok Added) so =
      let a = so.added refl in
      let body : List ℕ = a.0 in
      turned (Record (have b h + 1) body) (a.2.0 ∷ h) (next_is body a.1) (inl (body, a.2.0, refl, a.2.1, refl)) a.2.2
  took_turn (Ok Old) so =
      let t = so.told in
      turned t.0 h t.1 (inr (subst (λ (n : ℕ). passed_by n t.0 ≡ Some Old) (have_is stood) t.2, refl)) (so.stands (λ is. absurd (cc)))
  took_turn (Ok Idle) so = tt
  took_turn (Ok (Made.Behind known count)) so = tt
  took_turn (Ok Made.Strange) so = tt
  took_turn (Err stop) so = tt

  ended : (end : FollowEnd) → (end ≡ WriteFault → ⊥) → IsCounted end after (bytes + length message)
      → IsUntaken (λ body stop. ShowsOfReplay seen new body stop) end b h message p r
      → StoreStands seen b new h
      → StoreStands seen b new h × TakesNone (λ body stop. ShowsOfReplay seen new body stop) end b h after bytes p r
  ended end other counted why stands = (
    stands,
    record {
      rest = message;
      left = sym asked.left ∙ read.left;
      most = read.most;
      why = why;
      told = counted;
      output = asking end (have b h) p r other (wrote_on (have b h) p q r asked only);
      goes = goes_on (have b h) p q r asked only later;
    },
  )

  strange_is : IsTold old.state.sum.recorded message Made.Strange → (body : List ℕ) × IsNextRecord old.state.sum.recorded message body
  strange_is (inl none) = absurd (none read.answer read.is)
  strange_is (inr next) = next

  pub took_none : (k : Result Took Stop) → TookSo seen b h old new message k
      → IfErr (outcome_of k (length message) after)
      (λ end. StoreStands seen b new h × TakesNone (λ body stop. ShowsOfReplay seen new body stop) end b h after bytes p r)
  took_none (Ok Added) so = tt
  took_none (Ok Old) so = tt
  took_none (Ok Idle) so = ended Done (λ is. cc) tt so.told.text (so.stands (λ is. absurd (cc)))
  took_none (Ok (Made.Behind known count)) so =
      ended (Behind known count) (λ is. cc) tt
      (so.told.2, so.told.0 ∙ have_is stood, subst (λ (n : ℕ). n < count) (sym so.told.0) so.told.1) (so.stands (λ is. absurd (cc)))
  took_none (Ok Made.Strange) so =
      let next = strange_is so.told in
      ended (Strange after) (λ is. cc) refl (inr (inr (next.0, next_is next.0 next.1, so.strange refl next.0 next.1))) (so.stands (λ is. absurd (cc)))
  took_none (Err stop) so =
      let next = so.cause in
      ended (Stopped stop) (λ is. cc) tt (inr (next.0, next_is next.0 next.1, next.2)) (so.stands (λ is. absurd (cc)))

-- what is so of the size of an answer is so of that behind which the following goes on
pub if_on : (P : ℕ → Type 0) (k : Result Took Stop) (size after : ℕ) → P size → IfOk (outcome_of k size after) P
if_on P (Ok Added) size after so = so
if_on P (Ok Old) size after so = so
if_on P (Ok Idle) size after so = tt
if_on P (Ok (Made.Behind known count)) size after so = tt
if_on P (Ok Made.Strange) size after so = tt
if_on P (Err stop) size after so = tt

-- an answer has a byte
some_byte : (a : Answer) → 0 < length (answer_text a)
some_byte (Record number body) = omega arith
some_byte End = omega arith
some_byte (Summed count) = omega arith

pub some_read : (bytes : ℕ) (message : List ℕ) (p p' : PortSeen) → ReadsAnswer bytes message p p' → 0 < length message
some_read bytes message p p' read = subst (λ (l : List ℕ). 0 < length l) (sym read.is.text) (some_byte read.answer)

-- of each history, where it is so of each
pub ok_each : {A F : Type 0} (S : Summary → List Entry → Type 0) (P : A → Summary → List Entry → Type 0) (r : Result A F)
    → ((b : Summary) (h : List Entry) → S b h → IfOk r (λ x. P x b h)) → IfOk r (λ x. (b : Summary) (h : List Entry) → S b h → P x b h)
ok_each S P (Ok x) each = each
ok_each S P (Err e) each = tt

pub err_each : {A F : Type 0} (S : Summary → List Entry → Type 0) (P : F → Summary → List Entry → Type 0) (r : Result A F)
    → ((b : Summary) (h : List Entry) → S b h → IfErr r (λ x. P x b h)) → IfErr r (λ x. (b : Summary) (h : List Entry) → S b h → P x b h)
err_each S P (Ok x) each = tt
err_each S P (Err e) each = each
