-- What calls one after the other leave alone.
use Rattle.std.proofs.Common.{◌≡◌, ℕ, List, Result, Ok, Err, ◌∙◌, ap, refl, sym, arith}
use Rattle.std.specs.Prelude.{OnErr}
use Rattle.arc_io.specs.Added.{Answers}
use Rattle.arc_io.specs.Causes.{Rose}
use Rattle.arc_io.specs.Seen.{PortSeen}
use Rattle.arc_io.specs.Told.{OnlyReads, OnlyWrites, Puts, after_reading, after_noise}

pub reads_more : {p q r : PortSeen} → OnlyReads p q → OnlyReads q r → OnlyReads p r
reads_more {p} {q} {r} first next = record { rest = next.rest ∙ ap (λ (x : PortSeen). record x { left = r.left; ended = r.ended; read_faults = r.read_faults }) first.rest }

pub writes_more : {p q r : PortSeen} → OnlyWrites p q → OnlyWrites q r → OnlyWrites p r
writes_more {p} {q} {r} first next = record { rest = next.rest ∙ ap (λ (x : PortSeen). record x { written = r.written; write_faults = r.write_faults }) first.rest }

-- nothing was done
pub answers_none : (failed : Type 0) (p : PortSeen) → (failed → ⊥) → Answers failed p p
answers_none failed p none = record { rest = refl; later = omega arith; rose = λ f. absurd (none f) }

-- a reading, and then this
pub answers_reading : {failed : Type 0} {q : PortSeen} (p : PortSeen) (reading : ℕ) → Answers failed (after_reading reading p) q → Answers failed p q
answers_reading {failed} {q} p reading next = record { rest = next.rest; later = next.later; rose = next.rose }

-- noise, and then this
pub answers_noise : {failed : Type 0} {q : PortSeen} (p : PortSeen) (noise : List ℕ) → Answers failed (after_noise noise p) q → Answers failed p q
answers_noise {failed} {q} p noise next = record { rest = next.rest; later = next.later; rose = next.rose }

failed_put : {T E : Type 0} (p q : PortSeen) (result : Result T E) (fault : E) → OnErr result (Rose p.write_faults q.write_faults) → result ≡ Err fault → Rose p.write_faults q.write_faults
failed_put p q (Ok done) fault rose is = absurd (cc)
failed_put p q (Err other) fault rose is = rose

-- a reply was put, or could not be put whole
pub answers_put : {T E : Type 0} {p q : PortSeen} {result : Result T E} {bytes : List ℕ} (fault : E) → Puts p q result bytes → Answers (result ≡ Err fault) p q
answers_put {T} {E} {p} {q} {result} {bytes} fault put = record {
  rest = put.others.rest ∙ sym (ap (λ (x : PortSeen). record p { written = x.written; write_faults = x.write_faults; readings = x.readings; noise = x.noise }) put.others.rest);
  later = put.cause.later;
  rose = failed_put p q result fault put.cause.failed;
}

-- what did not fail
pub unfailed : {failed : Type 0} {p q : PortSeen} → Answers failed p q → Answers ⊥ p q
unfailed {failed} {p} {q} a = record { rest = a.rest; later = a.later; rose = λ f. absurd f }

-- one after the other, the first of which did not fail
pub answers_more : {failed failed' : Type 0} {p q r : PortSeen} → Answers failed p q → Answers failed' q r → Answers failed' p r
answers_more {failed} {failed'} {p} {q} {r} first next = record {
  rest = next.rest ∙ ap (λ (x : PortSeen). record x { written = r.written; write_faults = r.write_faults; readings = r.readings; noise = r.noise }) first.rest;
  later = omega (arith, first.later, next.later);
  rose = λ f. omega (arith, first.later, next.rose f);
}
