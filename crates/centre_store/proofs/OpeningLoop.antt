-- How far an opening has come in a list of bodies.
use Rattle.std.proofs.Common.{◌≡◌, ◌≤◌, ◌<◌, ◌+◌, ◌^◌, ℕ, zero, suc, List, [], ◌∷◌, ◌++◌, length, take, drop, get_or, Option, Some, None, refl, sym, ap, ◌∙◌, subst, arith}
use Rattle.std.proofs.lemmas.List.{take_more, drop_more, drop_at, take_all, take-append-drop, take-append-le, drop-append-le, length-take-le, append-nil}
use Rattle.centre_rules.specs.History.{Entry}
use Rattle.centre_rules.specs.State.{State, StandsFor}
use Rattle.centre_rules.specs.Summary.{Summary}
use Rattle.disk_journal.specs.Records.{size, front as bytes_before}
use Rattle.disk_journal.specs.Standing.{all_of}
use Rattle.disk_journal.proofs.Gates.{size-more, size-least, length-front}
use Rattle.centre_store.specs.Pasts.{IsPast, HasNoNext, IsBadAt, IsReplayed}
use Rattle.centre_store.proofs.PastSteps.{no_past}

-- The bodies from the first one of records up to a place, over whatever the centre stood for at first, and where the next gate stands.
pub record IsAt (version : ℕ) (bodies : List (List ℕ)) (from i place : ℕ) (begin s : State) : Type 0 where
  pub least : from ≤ i
  pub most : i ≤ length bodies
  pub replayed : (base : Summary) → StandsFor base begin [] → base.recorded ≤ 2 ^ 48 → IsReplayed version base (drop from (take i bodies)) s
  pub gate : place + 1 ≡ size (take i bodies)

size-take : (n : ℕ) (bodies : List (List ℕ)) → size (take n bodies) ≤ size bodies
size-take zero bodies = size-least bodies
size-take (suc n) [] = omega arith
size-take (suc n) (b ∷ bodies) = omega (arith, size-take n bodies)

next_gate : (bodies : List (List ℕ)) (i place : ℕ) (body : List ℕ) → i < length bodies → body ≡ get_or bodies i [] → place + 1 ≡ size (take i bodies)
    → place + (5 + length body) + 1 ≡ size (take (i + 1) bodies)
next_gate bodies i place body below is gate =
    omega (arith, gate, ap size (take_more bodies i [] below), size-more (take i bodies) (get_or bodies i []), ap length is)

-- it is within the journal
pub gate_fits : (bodies : List (List ℕ)) (i place : ℕ) (body : List ℕ) → i < length bodies → body ≡ get_or bodies i [] → place + 1 ≡ size (take i bodies)
    → place + (5 + length body) + 1 ≤ size bodies
gate_fits bodies i place body below is gate = omega (arith, next_gate bodies i place body below is gate, size-take (i + 1) bodies)

none_left : (bodies : List (List ℕ)) (from : ℕ) → from ≤ length bodies → drop from (take from bodies) ≡ []
none_left bodies from within =
    ap (drop from) (sym (append-nil (take from bodies))) ∙ drop_at (take from bodies) [] from (length-take-le from bodies within)

pub at_first : (version : ℕ) (bodies : List (List ℕ)) (from place : ℕ) (s : State) → from ≤ length bodies → place ≡ length (bytes_before version (take from bodies))
    → IsAt version bodies from from place s s
at_first version bodies from place s within is = record {
  least = omega arith;
  most = within;
  replayed = λ base stands few. subst (λ (l : List (List ℕ)). IsReplayed version base l s) (sym (none_left bodies from within))
      (record { past = []; is_past = no_past version base few; stands = stands });
  gate = omega (arith, is, length-front version (take from bodies));
}

pub at_next : (version : ℕ) (bodies : List (List ℕ)) (from i place : ℕ) (body : List ℕ) (begin s t : State) → i < length bodies → body ≡ get_or bodies i []
    → IsAt version bodies from i place begin s → ((base : Summary) (front : List (List ℕ)) → IsReplayed version base front s → IsReplayed version base (front ++ body ∷ []) t)
    → IsAt version bodies from (i + 1) (place + (5 + length body)) begin t
at_next version bodies from i place body begin s t below is at taken =
    let long : length (take i bodies) ≡ i = length-take-le i bodies at.most in
    let within : from ≤ length (take i bodies) = omega (arith, at.least, long) in
    let more : drop from (take (i + 1) bodies) ≡ drop from (take i bodies) ++ body ∷ [] =
    ap (drop from) (take_more bodies i [] below) ∙ drop-append-le from (take i bodies) (get_or bodies i [] ∷ []) within
    ∙ ap (λ (b : List ℕ). drop from (take i bodies) ++ b ∷ []) (sym is) in
    record {
      least = omega (arith, at.least);
      most = omega (arith, below);
      replayed = λ base stands few. subst (λ (l : List (List ℕ)). IsReplayed version base l t) (sym more)
          (taken base (drop from (take i bodies)) (at.replayed base stands few));
      gate = next_gate bodies i place body below is at.gate;
    }

-- all of them
pub all_done : (version : ℕ) (bodies : List (List ℕ)) (from i place : ℕ) (begin s : State) → length bodies ≤ i → IsAt version bodies from i place begin s
    → (base : Summary) → StandsFor base begin [] → base.recorded ≤ 2 ^ 48 → IsReplayed version base (drop from bodies) s
all_done version bodies from i place begin s all at base stands few =
    subst (λ (l : List (List ℕ)). IsReplayed version base l s) (ap (drop from) (take_all i bodies all)) (at.replayed base stands few)

all_behind : (first : Option (List ℕ)) (xs : List (List ℕ)) → all_of first xs ≡ all_of first [] ++ xs
all_behind None xs = refl
all_behind (Some body) xs = refl

-- with this body no entry goes on
pub bad_at : (version : ℕ) (bodies : List (List ℕ)) (from i place : ℕ) (body : List ℕ) (begin s : State) (base : Summary) (first : Option (List ℕ)) → i < length bodies
    → body ≡ get_or bodies i [] → IsAt version bodies from i place begin s → StandsFor base begin [] → base.recorded ≤ 2 ^ 48
    → take from bodies ≡ all_of first []
    → ((front : List (List ℕ)) (past : List Entry) → IsPast version base front past → StandsFor base s past → HasNoNext version base front past body)
    → IsBadAt version base first (drop from bodies) place
bad_at version bodies from i place body begin s base first below is at stands few firsts broken =
    let r : IsReplayed version base (drop from (take i bodies)) s = at.replayed base stands few in
    let long : length (take i bodies) ≡ i = length-take-le i bodies at.most in
    let within : from ≤ length (take i bodies) = omega (arith, at.least, long) in
    let whole : bodies ≡ take i bodies ++ body ∷ drop (i + 1) bodies =
    sym (take-append-drop i bodies)
    ∙ ap (λ (l : List (List ℕ)). take i bodies ++ l) (drop_more bodies i [] below ∙ ap (λ (b : List ℕ). b ∷ drop (i + 1) bodies) (sym is)) in
    let front : List (List ℕ) = drop from (take i bodies) in
    let start : take from bodies ≡ take from (take i bodies) =
    ap (take from) whole ∙ take-append-le from (take i bodies) (body ∷ drop (i + 1) bodies) within in
    let same : all_of first front ≡ take i bodies =
    all_behind first front ∙ ap (λ (l : List (List ℕ)). l ++ front) (sym firsts ∙ start) ∙ take-append-drop from (take i bodies) in
    record {
      front = front;
      body = body;
      behind = drop (i + 1) bodies;
      past = r.past;
      split = ap (drop from) whole ∙ drop-append-le from (take i bodies) (body ∷ drop (i + 1) bodies) within;
      before = r.is_past;
      at = omega (arith, at.gate, length-front version (take i bodies), ap (λ (l : List (List ℕ)). length (bytes_before version l)) same);
      broken = broken front r.past r.is_past r.stands;
    }
