-- An input that is read piece by piece, where what is done with a piece leaves reading alone.
use Rattle.std.proofs.Common.{◌≡◌, ◌≢◌, ◌≤◌, ◌-◌, ◌++◌, ℕ, List, [], length, take, false, Option, Ok, sym, ◌∙◌, ap, arith}
use Rattle.std.specs.Io.KnownBytes.{prepend_known}
use Rattle.std.proofs.lemmas.List.{take_all}
use Rattle.arc_io.specs.Added.{Answers}
use Rattle.arc_io.specs.Causes.{Rose}
use Rattle.arc_io.specs.Seen.{PortSeen}
use Rattle.arc_io.specs.Told.{Reads}
use Rattle.arc_io.proofs.KnownMore.{known_taken, prepend_none}
use Rattle.session_rules.specs.Inputs.{in_limit, input_limit}

-- this stream was read, and no read has met the input's end
pub record ReadSoFar (stream : List ℕ) (p p' : PortSeen) : Type 0 where
  pub taken : p.left ≡ prepend_known stream p'.left
  pub not_ended : p'.ended ≡ false
  pub reads : p.read_faults ≤ p'.read_faults
  pub writes : p.write_faults ≤ p'.write_faults

pub nothing_read : (p : PortSeen) → p.ended ≡ false → ReadSoFar [] p p
nothing_read p not_ended = record { taken = prepend_none p.left; not_ended = not_ended; reads = omega arith; writes = omega arith }

-- two bytes that were read, one behind the other
read_more : (known mid left : Option (List ℕ)) (xs ys : List ℕ) → known ≡ prepend_known xs mid → mid ≡ prepend_known ys left → known ≡ prepend_known (xs ++ ys) left
read_more known mid left xs ys first next = first ∙ ap (prepend_known xs) next ∙ known_taken left xs ys

module _ {E Failed : Type 0} {stream buffer : List ℕ} {count : ℕ} {p q q' r : PortSeen} (input : ReadSoFar stream p q) (told : Reads {E = E} q q' (Ok count) buffer) (port : Answers Failed q' r) where
  -- one more piece
  pub read_on : count ≢ 0 → ReadSoFar (stream ++ take count buffer) p r
  read_on some = record {
    taken = read_more _ _ _ stream (take count buffer) input.taken (told.bytes.0 ∙ ap (prepend_known (take count buffer)) (sym (ap (λ (p : PortSeen). p.left) port.rest)));
    not_ended = ap (λ (p : PortSeen). p.ended) port.rest ∙ told.end.1 (λ none. absurd (some none)) ∙ input.not_ended;
    reads = omega (arith, input.reads, told.cause.later, ap (λ (p : PortSeen). p.read_faults) port.rest);
    writes = omega (arith, input.writes, ap (λ (p : PortSeen). p.write_faults) told.others.rest, port.later);
  }

  -- a write that failed behind that read
  pub write_rose : Failed → Rose p.write_faults r.write_faults
  write_rose failed =
      let same = ap (λ (p : PortSeen). p.write_faults) told.others.rest in
      let rose = port.rose failed in
      omega (arith, input.writes, same, rose)

-- a piece that the limit leaves room for is taken whole
pub all_in_limit : (stream piece : List ℕ) → length piece ≤ input_limit - length stream → in_limit stream piece ≡ piece
all_in_limit stream piece fits = take_all (input_limit - length stream) piece fits
