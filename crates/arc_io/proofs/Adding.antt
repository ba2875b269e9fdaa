-- What is added to a port by calls one after the other, and what they leave alone.
use Rattle.std.proofs.Common.{◌≡◌, ◌<◌, ◌∷◌, ℕ, List, [], length, take, Ok, Err, refl, sym, ◌∙◌, ap, arith}
use Rattle.std.specs.Io.KnownBytes.{append_known}
use Rattle.arc_io.specs.Added.{Added, Adds, both}
use Rattle.arc_io.specs.Seen.{PortSeen}
use Rattle.arc_io.specs.Told.{OnlyReads, OnlyWrites, Puts, after_reading, after_noise}
use Rattle.arc_io.proofs.KnownMore.{known_none, known_both}

abbrev pub no_bytes : Added
no_bytes = record { text = []; readings = []; noise = [] }

-- member by member
adds_by : (p q : PortSeen) (a : Added) → q.written ≡ append_known p.written a.text → q.readings ≡ append_known p.readings a.readings → q.noise ≡ append_known p.noise a.noise
    → q.datagrams ≡ p.datagrams → q.replies ≡ p.replies → Adds p q a
adds_by p q a w r n d m = record {
  told = λ i. record {
    left = q.left;
    ended = q.ended;
    read_faults = q.read_faults;
    written = w i;
    write_faults = q.write_faults;
    readings = r i;
    noise = n i;
    datagrams = d i;
    replies = m i;
  };
}

-- no noise is no change
pub noise_none : (p : PortSeen) → after_noise [] p ≡ p
noise_none p = λ i. record p { noise = known_none p.noise i }

-- nothing is put without a write
pub unput : {E : Type 0} (p : PortSeen) → Puts {T = Unit {0}} {E = E} p p (Ok tt) []
unput p = record { taken = sym (known_none p.written); cause = record { later = omega arith; failed = tt }; others = record { rest = refl } }

-- a read adds nothing
pub adds_none : {p q : PortSeen} → OnlyReads p q → Adds p q no_bytes
adds_none {p} {q} only =
    adds_by p q no_bytes
    (ap (λ (x : PortSeen). x.written) only.rest ∙ sym (known_none p.written)) (ap (λ (x : PortSeen). x.readings) only.rest ∙ sym (known_none p.readings))
    (ap (λ (x : PortSeen). x.noise) only.rest ∙ sym (known_none p.noise)) (ap (λ (x : PortSeen). x.datagrams) only.rest) (ap (λ (x : PortSeen). x.replies) only.rest)

-- a reading is added
pub adds_reading : (p : PortSeen) (reading : ℕ) → Adds p (after_reading reading p) (record { text = []; readings = reading ∷ []; noise = [] })
adds_reading p reading = adds_by p (after_reading reading p) _ (sym (known_none p.written)) refl (sym (known_none p.noise)) refl refl

-- a reading, noise and this text are added
text_put : (p q : PortSeen) (reading : ℕ) (noise text : List ℕ) → q.written ≡ append_known p.written text → OnlyWrites (after_noise noise (after_reading reading p)) q
    → Adds p q (record { text = text; readings = reading ∷ []; noise = noise })
text_put p q reading noise text written only =
    adds_by p q _ written (ap (λ (x : PortSeen). x.readings) only.rest) (ap (λ (x : PortSeen). x.noise) only.rest) (ap (λ (x : PortSeen). x.datagrams) only.rest) (ap (λ (x : PortSeen). x.replies) only.rest)

-- a reply was put whole
pub adds_put : {T E : Type 0} (p q : PortSeen) (reading : ℕ) (noise reply : List ℕ) (done : T) → Puts {E = E} (after_noise noise (after_reading reading p)) q (Ok done) reply
    → Adds p q (record { text = reply; readings = reading ∷ []; noise = noise })
adds_put p q reading noise reply done put = text_put p q reading noise reply put.taken put.others

-- a front of a reply was put
pub record PutsFront (p q : PortSeen) (reading : ℕ) (noise reply : List ℕ) : Type 0 where
  pub count : ℕ
  pub short : count < length reply
  pub adds : Adds p q (record { text = take count reply; readings = reading ∷ []; noise = noise })

pub adds_front : {T E : Type 0} (p q : PortSeen) (reading : ℕ) (noise reply : List ℕ) (fault : E) → Puts {T = T} (after_noise noise (after_reading reading p)) q (Err fault) reply
    → PutsFront p q reading noise reply
adds_front p q reading noise reply fault put = record {
  count = put.taken.0;
  short = put.taken.1;
  adds = text_put p q reading noise (take put.taken.0 reply) put.taken.2 put.others;
}

-- one after the other
pub adds_both : {p q r : PortSeen} {a c : Added} → Adds p q a → Adds q r c → Adds p r (both a c)
adds_both {p} {q} {r} {a} {c} first next =
    adds_by p r (both a c)
    (ap (λ (x : PortSeen). x.written) next.told ∙ ap (λ (x : PortSeen). append_known x.written c.text) first.told ∙ known_both p.written a.text c.text)
    (ap (λ (x : PortSeen). x.readings) next.told ∙ ap (λ (x : PortSeen). append_known x.readings c.readings) first.told ∙ known_both p.readings a.readings c.readings)
    (ap (λ (x : PortSeen). x.noise) next.told ∙ ap (λ (x : PortSeen). append_known x.noise c.noise) first.told ∙ known_both p.noise a.noise c.noise)
    (ap (λ (x : PortSeen). x.datagrams) next.told ∙ ap (λ (x : PortSeen). x.datagrams) first.told)
    (ap (λ (x : PortSeen). x.replies) next.told ∙ ap (λ (x : PortSeen). x.replies) first.told)

-- the same was added, and then a read was made
pub adds_read : {p q r : PortSeen} {a : Added} → Adds p q a → OnlyReads q r → Adds p r a
adds_read {p} {q} {r} {a} first only =
    adds_by p r a
    (ap (λ (x : PortSeen). x.written) only.rest ∙ ap (λ (x : PortSeen). x.written) first.told)
    (ap (λ (x : PortSeen). x.readings) only.rest ∙ ap (λ (x : PortSeen). x.readings) first.told)
    (ap (λ (x : PortSeen). x.noise) only.rest ∙ ap (λ (x : PortSeen). x.noise) first.told)
    (ap (λ (x : PortSeen). x.datagrams) only.rest ∙ ap (λ (x : PortSeen). x.datagrams) first.told)
    (ap (λ (x : PortSeen). x.replies) only.rest ∙ ap (λ (x : PortSeen). x.replies) first.told)
