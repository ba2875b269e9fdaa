-- What recording the next entry answered, and what is so of a mirror then.
use Rattle.std.proofs.Common.{◌≡◌, ◌⊎◌, ◌+◌, ℕ, Bool, true, false, List, length, Option, Some, None, Result, Ok, Err, inl, inr, refl, sym, ap, subst}
use Rattle.std.specs.Prelude.{is_some, if◌then◌else◌, nat_eq, nat_le, IfOk, IfErr, OnOk}
use Rattle.std.proofs.lemmas.Bool.{leb-false}
use Rattle.arc_io.specs.Disks.{DiskSeen}
use Rattle.arc_io.specs.Crashes.{LeavesOnly}
use Rattle.centre_core.specs.declared.hall.Stop.{Stop}
use Rattle.centre_core.specs.declared.hall.Stop.TheVariants.{Memory, Down, Full}
use Rattle.centre_rules.specs.History.{Entry}
use Rattle.centre_rules.specs.Summary.{Summary}
use Rattle.centre_store.specs.Followings.{TakesIn, IsFullThenOf}
use Rattle.centre_store.specs.Given.{StandForEither, HasEither, summed_size}
use Rattle.centre_store.specs.Orders.{IsDownWhereFailed, IsWornFirst}
use Rattle.centre_store.specs.Stores.{Stored, StoreStands, StandsOn}
use Rattle.mirror_centre.specs.Messages.{Answer, Record, End, Summed, IsAnswer}
use Rattle.mirror_centre.specs.Sayings.{took_of}
use Rattle.mirror_centre.specs.Takings.{passed_by, IsNextRecord, IsOfNext, IsPassed, IsTold, Receives, Tries}
use Rattle.mirror_centre.specs.declared.mirror.Took.{Took}
use Rattle.mirror_centre.specs.declared.mirror.Took.TheVariants.{Added, Old, Idle, Behind, Strange}
use Rattle.mirror_centre.proofs.Taking.{next_is, not_next, one_body}

-- What was answered, by what a mirror answers.

pub of_next : (r : Result Bool Stop) → IsOfNext (took_of r)
of_next (Ok true) = inl refl
of_next (Ok false) = inr refl
of_next (Err stop) = tt

pub was_added : (r : Result Bool Stop) → took_of r ≡ Ok Added → r ≡ Ok true
was_added (Ok true) is = refl
was_added (Ok false) is = absurd cc
was_added (Err stop) is = absurd cc

pub was_strange : (r : Result Bool Stop) → took_of r ≡ Ok Strange → r ≡ Ok false
was_strange (Ok true) is = absurd cc
was_strange (Ok false) is = refl
was_strange (Err stop) is = absurd cc

pub was_not : (r : Result Bool Stop) → (took_of r ≡ Ok Added → ⊥) → r ≡ Ok true → ⊥
was_not r other is = other (ap took_of is)

pub if_err : (P : Stop → Type 0) (r : Result Bool Stop) → IfErr r P → IfErr (took_of r) P
if_err P (Ok true) is = tt
if_err P (Ok false) is = tt
if_err P (Err stop) is = is

pub on_ok : (P : Type 0) (r : Result Bool Stop) → OnOk r P → OnOk (took_of r) P
on_ok P (Ok true) is = is
on_ok P (Ok false) is = is
on_ok P (Err stop) is = tt

pub unless_added : (P : Type 0) (r : Result Bool Stop) → IfOk r (λ taken. taken ≡ false → P) → IfOk (took_of r) (λ t. (t ≡ Added → ⊥) → P)
unless_added P (Ok true) is = λ other. absurd (other refl)
unless_added P (Ok false) is = λ other. is refl
unless_added P (Err stop) is = tt

pub when : (b : Bool) (P : Type 0) (r : Result Bool Stop) → IfOk r (λ taken. taken ≡ b → P) → r ≡ Ok b → P
when b P r so is = subst (λ (x : Result Bool Stop). IfOk x (λ taken. taken ≡ b → P)) is so refl

pub told_next : (have : ℕ) (message body : List ℕ) (r : Result Bool Stop) → IsNextRecord have message body → IfOk (took_of r) (IsTold have message)
told_next have message body (Ok true) next = (body, next)
told_next have message body (Ok false) next = inr (body, next)
told_next have message body (Err stop) next = tt

some_is : (x y : Took) → Some x ≡ Some y → x ≡ y
some_is x y is = cc

told_record : (have number : ℕ) (message body : List ℕ) (took : Took) (v : Bool) → nat_eq number (have + 1) ≡ v → IsAnswer message (Record number body)
    → (if v then None else Some Old) ≡ Some took → IsTold have message took
told_record have number message body took true test is passed = absurd cc
told_record have number message body took false test is passed =
    subst (IsTold have message) (some_is Old took passed)
    (Record number body, is, ap (λ (v : Bool). if v then None else Some Old) test)

told_count : (have count : ℕ) (message : List ℕ) (took : Took) (v : Bool) → nat_le count have ≡ v → IsAnswer message (Summed count)
    → (if v then Some Old else Some (Behind have count)) ≡ Some took → IsTold have message took
told_count have count message took true test is passed =
    subst (IsTold have message) (some_is Old took passed) (Summed count, is, ap (λ (v : Bool). if v then Some Old else Some (Behind have count)) test)
told_count have count message took false test is passed =
    subst (IsTold have message) (some_is (Behind have count) took passed) (refl, leb-false count have test, is)

told_answer : (have : ℕ) (message : List ℕ) (took : Took) (a : Answer) → IsAnswer message a → passed_by have a ≡ Some took → IsTold have message took
told_answer have message took (Record number body) is passed = told_record have number message body took (nat_eq number (have + 1)) refl is passed
told_answer have message took End is passed = subst (IsTold have message) (some_is Idle took passed) is
told_answer have message took (Summed count) is passed = told_count have count message took (nat_le count have) refl is passed

pub told_passed : (have : ℕ) (message : List ℕ) (took : Took) → IsPassed have message took → IsTold have message took
told_passed have message took (inl (none, strange)) = subst (IsTold have message) (sym strange) (inl none)
told_passed have message took (inr (a, is, passed)) = told_answer have message took a is passed

module _ {D : Type 0} (seen : D → DiskSeen) (s : Stored D) (r : Result Bool Stop) where
  pub down : IsDownWhereFailed seen s r → IsDownWhereFailed seen s (took_of r)
  down is = (λ failed. ap took_of (is.0 failed), λ stopped. is.1 (was_err r (Down s.at_open (seen s.journal.disk).faults) stopped))
    where
      was_err : (r : Result Bool Stop) (stop : Stop) → took_of r ≡ Err stop → r ≡ Err stop
      was_err (Ok true) stop is = absurd cc
      was_err (Ok false) stop is = absurd cc
      was_err (Err other) stop is = cc

  pub worn : IsWornFirst seen s r → IsWornFirst seen s (took_of r)
  worn is up many = ap took_of (is up many)

  pub full : (body : List ℕ) → IsFullThenOf seen s body r → IsFullThenOf seen s body (took_of r)
  full body is up few b h e stands goes over =
      elim (is up few b h e stands goes over) as (λ _. (took_of r ≡ Err Memory) ⊎ (took_of r ≡ Err (Full (summed_size b h) (5 + length body) 0))) [
        | inl memory ↦ inl (ap took_of memory)
        | inr is_full ↦ inr (ap took_of is_full)
      ]

-- What the law goes by.

pub receives_passed : {D : Type 0} (seen : D → DiskSeen) (old : Stored D) (message : List ℕ) (took : Took) → IsPassed old.state.sum.recorded message took
    → Receives seen old old message
receives_passed seen old message took is = record {
  passed = λ a answer some. refl;
  next = λ body next. absurd (not_next old.state.sum.recorded message took body is next);
}

is_some_none : {A : Type 0} (o : Option A) → o ≡ None → is_some o ≡ true → ⊥
is_some_none None is some = cc
is_some_none (Some x) is some = cc

pub tries : {D : Type 0} (seen : D → DiskSeen) (old new : Stored D) (body : List ℕ) (r : Result Bool Stop)
    → IfOk r (λ taken. taken ≡ true → (b : Summary) (h : List Entry) → StoreStands seen b old h → TakesIn seen b new h body)
    → ((r ≡ Ok true → ⊥) → StandsOn seen old new)
    → ((b : Summary) (h : List Entry) → StoreStands seen b old h → LeavesOnly (seen old.journal.disk) (seen new.journal.disk) (StandForEither b h body))
    → ((b : Summary) (h : List Entry) → StoreStands seen b old h → HasEither (seen new.journal.disk) b h body)
    → Tries seen old new body
tries seen old new body (Ok true) taken stands moments met = record { behind = inr (taken refl); any_moment = moments; met = met }
tries seen old new body (Ok false) taken stands moments met = record { behind = inl (stands (λ is. absurd cc)); any_moment = moments; met = met }
tries seen old new body (Err stop) taken stands moments met = record { behind = inl (stands (λ is. absurd cc)); any_moment = moments; met = met }

pub receives_next : {D : Type 0} (seen : D → DiskSeen) (old new : Stored D) (message body : List ℕ) → IsNextRecord old.state.sum.recorded message body
    → Tries seen old new body → Receives seen old new message
receives_next seen old new message body next tried = record {
  passed = λ a answer some.
      absurd (is_some_none (passed_by old.state.sum.recorded a) (next_is old.state.sum.recorded message body a next answer) some);
  next = λ other also. subst (Tries seen old new) (one_body old.state.sum.recorded message body other next also) tried;
}
