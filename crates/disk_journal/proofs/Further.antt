-- Several records that are laid and added together.
use Rattle.std.proofs.Common.{◌≡◌, ◌⊎◌, ◌≤◌, ◌<◌, ◌+◌, ℕ, List, [], ◌∷◌, ◌++◌, length, take, drop, get_or, Option, Some, None, sym, ap, ◌∙◌, subst, ⊎_elim, arith, append_assoc, append-nil, length-append, length-take}
use Rattle.std.specs.Prelude.{IfSome}
use Rattle.std.proofs.Math.Seq.{take-append-add}
use Rattle.std.proofs.lemmas.Grind.{flat_map-append}
use Rattle.std.proofs.lemmas.List.{take_more, take-append-le, take-take}
use Rattle.std.proofs.lemmas.List.Elements.{All-append}
use Rattle.std.proofs.lemmas.List.Sums.{sum_by_push, sum_by-le, sum_by-take-le}
use Rattle.arc_io.specs.Areas.{Areas}
use Rattle.arc_io.specs.declared.disk.Area.{Area}
use Rattle.disk_journal.specs.Records.{IsVersion, MayHave, MayAllHave, AreLaid, bytes_of, records_of, need_of_all}
use Rattle.disk_journal.specs.Standing.{all_of, size_of}
use Rattle.disk_journal.specs.Journal.{HasBodies, IsGateBehind}
use Rattle.disk_journal.proofs.Chosen.{all_further}
use Rattle.disk_journal.proofs.Gates.{laid_length, need-more, one_laid}

-- How many bytes they take.

pub need_part : (bodies : List (List ℕ)) (i : ℕ) → need_of_all (take i bodies) ≤ need_of_all bodies
need_part bodies i = sum_by-take-le (λ (b : List ℕ). 5 + length b) bodies i

-- and a shorter part is no longer than another one
pub need_part_of : (bodies : List (List ℕ)) (i n : ℕ) → i ≤ n → need_of_all (take i bodies) ≤ need_of_all (take n bodies)
need_part_of bodies i n le = omega (arith, need_part (take n bodies) i, ap need_of_all (take-take i n bodies le))

pub need_next : (bodies : List (List ℕ)) (i : ℕ) (body : List ℕ) → i < length bodies → body ≡ get_or bodies i []
    → need_of_all (take (i + 1) bodies) ≡ need_of_all (take i bodies) + (5 + length body)
need_next bodies i body below is =
    ap need_of_all (take_more bodies i [] below) ∙ sum_by_push (λ (b : List ℕ). 5 + length b) (take i bodies) (get_or bodies i [])
    ∙ ap (λ b. need_of_all (take i bodies) + (5 + length b)) (sym is)

pub need_few : (bodies : List (List ℕ)) → length bodies ≤ 64 → MayAllHave bodies → need_of_all bodies ≤ 268_441_920
need_few bodies many sizes =
    omega (arith, many, sum_by-le (λ (b : List ℕ). 5 + length b) 4_194_405 bodies (λ k d below. omega (arith, (sizes k d below).1)))

-- one more that may be
pub sizes_next : (bodies : List (List ℕ)) (i : ℕ) (body : List ℕ) → i < length bodies → body ≡ get_or bodies i []
    → MayAllHave (take i bodies) → MayHave (length body) → MayAllHave (take (i + 1) bodies)
sizes_next bodies i body below is sizes fits =
    subst (λ (l : List (List ℕ)). MayAllHave l) (ap (λ b. take i bodies ++ b ∷ []) is ∙ sym (take_more bodies i [] below))
    (All-append (λ (b : List ℕ). MayHave (length b)) (take i bodies) (body ∷ []) sizes (λ k d at. let first : k ≡ 0 = omega arith in rw first fits))

-- How they are laid, one behind another.

-- a part is laid behind the front of the room
pub laid_behind : (at n k : ℕ) (room part laid : List ℕ) → at ≤ length room → take n part ≡ laid → length laid ≡ n
    → take (at + n) (take at room ++ (part ++ drop k (drop at room))) ≡ take at room ++ laid
laid_behind at n k room part laid within is long =
    let front : length (take at room) ≡ at = omega (arith, length-take at room, within) in
    let back = drop k (drop at room) in
    ap (λ j. take (j + n) (take at room ++ (part ++ back))) (sym front) ∙ take-append-add (take at room) (part ++ back) n
    ∙ ap (λ l. take at room ++ l) (take-append-le n part back (omega (arith, ap length is, long, length-take n part)) ∙ is)

one-more : (bodies : List (List ℕ)) (body rest : List ℕ) → records_of (bodies ++ body ∷ []) ++ rest ≡ records_of bodies ++ 1 ∷ (bytes_of body ++ rest)
one-more bodies body rest =
    ap (λ l. l ++ rest) (flat_map-append (λ (b : List ℕ). 1 ∷ bytes_of b) bodies (body ∷ []))
    ∙ append_assoc (records_of bodies) (records_of (body ∷ [])) rest
    ∙ ap (λ l. records_of bodies ++ 1 ∷ (l ++ rest)) (append-nil (bytes_of body))

-- behind those with an open gate behind them stands one more, with a gate behind it
pub laid_next : (bodies : List (List ℕ)) (i : ℕ) (body : List ℕ) (gate : ℕ) (laid more : List ℕ) → i < length bodies → body ≡ get_or bodies i []
    → 1 ∷ laid ≡ records_of (take i bodies) ++ 1 ∷ [] → more ≡ laid ++ (bytes_of body ++ gate ∷ []) → 1 ∷ more ≡ records_of (take (i + 1) bodies) ++ gate ∷ []
laid_next bodies i body gate laid more below is before step =
    ap (λ l. 1 ∷ l) step
    ∙ ap (λ l. l ++ (bytes_of body ++ gate ∷ [])) before
    ∙ append_assoc (records_of (take i bodies)) (1 ∷ []) (bytes_of body ++ gate ∷ [])
    ∙ sym (one-more (take i bodies) body (gate ∷ []))
    ∙ ap (λ l. records_of l ++ gate ∷ []) (ap (λ b. take i bodies ++ b ∷ []) is ∙ sym (take_more bodies i [] below))

-- what stands in front of the room when it is read again
in_front : (need n k : ℕ) (room rest held : List ℕ) → held ≡ take n (room ++ rest) → need ≡ k → k ≤ n → k ≤ length room → take need held ≡ take k room
in_front need n k room rest held same is within long =
    ap (λ j. take j held) is ∙ ap (take k) same ∙ take-take k n (room ++ rest) within ∙ take-append-le k room rest long

pub are_laid : (bodies : List (List ℕ)) (need n : ℕ) (room rest held : List ℕ) → MayAllHave bodies → held ≡ take n (room ++ rest) → need ≡ need_of_all bodies
    → need_of_all bodies ≤ n → 1 ∷ take (need_of_all bodies) room ≡ records_of bodies ++ 0 ∷ [] → AreLaid bodies (take need held)
are_laid bodies need n room rest held sizes same is within laid =
    let whole = need_of_all bodies in
    let front : AreLaid bodies (take whole room) = record { sizes = sizes; is = laid } in
    let long : whole ≤ length room = omega (arith, laid_length bodies (take whole room) front, length-take whole room) in
    record { sizes = sizes; is = ap (λ l. 1 ∷ l) (in_front need n whole room rest held same is within long) ∙ laid }

pub one_is_laid : (body : List ℕ) (need n : ℕ) (room rest held : List ℕ) → MayHave (length body) → held ≡ take n (room ++ rest) → need ≡ 5 + length body
    → 5 + length body ≤ n → take (5 + length body) room ≡ bytes_of body ++ 0 ∷ [] → AreLaid (body ∷ []) (take need held)
one_is_laid body need n room rest held fits same is within laid =
    let whole = 5 + length body in
    let long : whole ≤ length room = omega (arith, ap length laid, length-take whole room, length-append (bytes_of body) (0 ∷ [])) in
    one_laid body (take need held) fits (in_front need n whole room rest held same is within long ∙ laid)

pub one_length : (body laid : List ℕ) → AreLaid (body ∷ []) laid → length laid ≡ 5 + length body
one_length body laid are = omega (arith, laid_length (body ∷ []) laid are, need-more body [])

-- How the place of a record is kept with records more behind it.

no_third : IsVersion 3 → ⊥
no_third is = ⊎_elim (λ (e : 3 ≡ 1). omega arith) (λ (e : 3 ≡ 2). omega arith) is

-- a disk that tells nothing tells nothing of them, or it would tell of them in any version
pub gate_further : (area : Area) (o m : Option Areas) (summary : Option (List ℕ)) (bodies further : List (List ℕ)) (next place : ℕ) → next ≤ length bodies
    → ((version : ℕ) → IfSome o (HasBodies area version (all_of summary bodies)) → IfSome m (HasBodies area version (all_of summary bodies ++ further)))
    → IsGateBehind o summary bodies next place → IsGateBehind m summary (bodies ++ further) next place
gate_further area None None summary bodies further next place within known gate = tt
gate_further area None (Some t) summary bodies further next place within known gate = absurd (no_third (known 3 tt).known)
gate_further area (Some s) None summary bodies further next place within known gate = tt
gate_further area (Some s) (Some t) summary bodies further next place within known gate = gate ∙ ap (size_of summary) (sym (take-append-le next bodies further within))

pub bodies_further : (area : Area) (o : Option Areas) (version : ℕ) (summary : Option (List ℕ)) (bodies further : List (List ℕ))
    → IfSome o (HasBodies area version (all_of summary bodies ++ further)) → IfSome o (HasBodies area version (all_of summary (bodies ++ further)))
bodies_further area o version summary bodies further = subst (λ (l : List (List ℕ)). IfSome o (HasBodies area version l)) (sym (all_further summary bodies further))
