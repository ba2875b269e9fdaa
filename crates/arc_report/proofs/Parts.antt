-- Texts that are put one after the other.
use Rattle.std.proofs.Common.{◌≡◌, ◌≤◌, ◌+◌, ℕ, List, ◌++◌, length, take, Result, Ok, Err, sym, ◌∙◌, ap, arith, length-append}
use Rattle.std.proofs.lemmas.List.{take-append-le}
use Rattle.std.proofs.Math.Seq.{take-append-add}
use Rattle.std.specs.Io.KnownBytes.{append_known}
use Rattle.arc_io.specs.Causes.{Rose, HasCause}
use Rattle.arc_io.specs.Seen.{PortSeen}
use Rattle.arc_io.specs.declared.traits.Failed.{Failed}
use Rattle.arc_io.specs.Told.{OnlyWrites, Puts, TakesAll}
use Rattle.arc_io.proofs.KnownMore.{known_both}

-- all was put
abbrev pub done : Result (Unit {0}) Failed
done = Ok tt

only_both : {p q r : PortSeen} → OnlyWrites p q → OnlyWrites q r → OnlyWrites p r
only_both {p} {q} {r} first next = record {
  rest = next.rest ∙ ap (λ (x : PortSeen). record x { written = r.written; write_faults = r.write_faults }) first.rest;
}

rose_both : (a b c : ℕ) → a ≤ b → Rose b c → Rose a c
rose_both a b c le rose = omega (arith, le, rose)

cause_both : {T U E : Type 0} (a b c : ℕ) (done : T) (result : Result U E) → HasCause {E = E} a b (Ok done) → HasCause b c result → HasCause a c result
cause_both a b c done (Ok x) first next = record { later = omega (arith, first.later, next.later); failed = tt }
cause_both a b c done (Err e) first next = record { later = omega (arith, first.later, next.later); failed = rose_both a b c first.later next.failed }

taken_both : {U E : Type 0} (known middle after : _) (result : Result U E) (xs ys : List ℕ) → middle ≡ append_known known xs → TakesAll middle after result ys
    → TakesAll known after result (xs ++ ys)
taken_both known middle after (Ok x) xs ys is next = next ∙ ap (λ k. append_known k ys) is ∙ known_both known xs ys
taken_both known middle after (Err e) xs ys is next =
    let n = next.0 in (
      length xs + n,
      omega (arith, length-append xs ys, next.1),
      next.2 ∙ ap (λ k. append_known k (take n ys)) is ∙ known_both known xs (take n ys) ∙ ap (append_known known) (sym (take-append-add xs ys n)),
    )

-- the first whole, and then the next, whole or not
pub puts_next : {T U E : Type 0} {p q r : PortSeen} (done : T) (result : Result U E) (xs ys : List ℕ)
    → Puts {E = E} p q (Ok done) xs → Puts q r result ys → Puts p r result (xs ++ ys)
puts_next {T} {U} {E} {p} {q} {r} done result xs ys first next = record {
  taken = taken_both p.written q.written r.written result xs ys first.taken next.taken;
  cause = cause_both p.write_faults q.write_faults r.write_faults done result first.cause next.cause;
  others = only_both first.others next.others;
}

-- not even the first whole
pub puts_short : {T U E : Type 0} {p q : PortSeen} (fault : E) (xs ys : List ℕ)
    → Puts {T = T} p q (Err fault) xs → Puts {T = U} p q (Err fault) (xs ++ ys)
puts_short fault xs ys first =
    let n = first.taken.0 in
    record {
      taken = (n, omega (arith, length-append xs ys, first.taken.1), first.taken.2 ∙ ap (append_known _) (sym (take-append-le n xs ys (omega (arith, first.taken.1)))));
      cause = record { later = first.cause.later; failed = first.cause.failed };
      others = first.others;
    }
