-- What opening finds of both areas.
use Rattle.std.proofs.Common.{◌≡◌, ◌≤◌, ◌<◌, ◌-◌, ℕ, List, [], ◌∷◌, length, take, drop, get_or, Option, Some, None, Bool, true, false, refl, sym, ap, ◌∙◌, subst, inl, inr, ⊎_elim, arith, length-append, length-take}
use Rattle.std.specs.Prelude.{IfSome, IfOk, OnOk, Result, Ok, Err, is_some, if◌then◌else◌, nat_lt}
use Rattle.std.specs.Int.{from_be_bytes, w64}
use Rattle.std.proofs.lemmas.Bool.{cases_lt, lt-ltb, le-ltb}
use Rattle.std.proofs.lemmas.List.{get_or-take, take-take, drop-take}
use Rattle.arc_io.specs.Areas.{Areas, part}
use Rattle.arc_io.specs.Crashes.{Becomes, IsQuiet, TornIn}
use Rattle.arc_io.specs.Disks.{DiskSeen}
use Rattle.arc_io.specs.declared.disk.Area.{Area}
use Rattle.arc_io.proofs.Moments.{quiet_then}
use Rattle.disk_journal.specs.Records.{head_of, front, AtRest, IsVersion, Stands}
use Rattle.disk_journal.specs.Reading.{IsFilled, IsFound, found_or_none, generation_found}
use Rattle.disk_journal.specs.Standing.{is_live, version_of, generation_of, generation_now, version_now, choice, chosen, chosen_part, all_of, summary_in, records_in, GoesOn, AreasStand, IsDistinct, generation_in}
use Rattle.disk_journal.specs.Journal.{IsAtRestIn, IsSettled}
use Rattle.disk_journal.specs.Turning.{Changes}
use Rattle.disk_journal.proofs.Chosen.{has_live, not_live, short_not_live, shut_not_live, stays_chosen, rest_generation}
use Rattle.disk_journal.proofs.Gates.{length-front, size-least}
use Rattle.disk_journal.proofs.Steps.{changes_map, changes_then, quiet_changes, told_after, if_both, if_map}

-- thirty bytes stand there
long_enough : (bytes buf : List ℕ) → take 30 bytes ≡ buf → length buf ≡ 30 → 29 < length bytes
long_enough bytes buf same thirty = omega (arith, ap length same, thirty, length-take 30 bytes)

byte_at : (bytes buf : List ℕ) (k : ℕ) → take 30 bytes ≡ buf → k < 30 → get_or buf k 0 ≡ get_or bytes k 0
byte_at bytes buf k same below = sym (ap (λ (l : List ℕ). get_or l k 0) same) ∙ get_or-take 30 bytes k 0 below

-- an area whose first thirty bytes are not those of a live one
pub dead_gate : (bytes buf : List ℕ) → take 30 bytes ≡ buf → (get_or buf 16 0 ≡ 1 → ⊥) → is_live bytes ≡ false
dead_gate bytes buf same other = not_live bytes (λ live. other (byte_at bytes buf 16 same (omega arith) ∙ live.gate))

pub dead_tag : (bytes buf : List ℕ) → take 30 bytes ≡ buf → (get_or buf 21 0 ≡ 11 → ⊥) → is_live bytes ≡ false
dead_tag bytes buf same other = not_live bytes (λ live. other (byte_at bytes buf 21 same (omega arith) ∙ live.tagged))

pub dead_head : (bytes buf : List ℕ) → take 30 bytes ≡ buf → ((version : ℕ) → IsVersion version → take 16 buf ≡ head_of version → ⊥) → is_live bytes ≡ false
dead_head bytes buf same other =
    not_live bytes (λ live. other live.headed.version live.headed.known (ap (take 16) (sym same) ∙ take-take 16 30 bytes (omega arith) ∙ live.headed.is))

-- or are
pub found_live : (bytes buf : List ℕ) (version : ℕ) → take 30 bytes ≡ buf → length buf ≡ 30 → get_or buf 16 0 ≡ 1 → get_or buf 21 0 ≡ 11
    → IsVersion version → take 16 buf ≡ head_of version → is_live bytes ≡ true
found_live bytes buf version same thirty gate tagged known headed = has_live bytes (record {
  long = long_enough bytes buf same thirty;
  headed = record { version = version; known = known; is = sym (take-take 16 30 bytes (omega arith)) ∙ ap (take 16) same ∙ headed };
  gate = sym (byte_at bytes buf 16 same (omega arith)) ∙ gate;
  tagged = sym (byte_at bytes buf 21 same (omega arith)) ∙ tagged;
})

pub found_generation : (bytes buf : List ℕ) (n : ℕ) → take 30 bytes ≡ buf → n ≡ from_be_bytes w64 (drop 22 buf) → n ≡ generation_of bytes
unfolding generation_of
found_generation bytes buf n same is = is ∙ ap (λ (l : List ℕ). from_be_bytes w64 (drop 22 l)) (sym same) ∙ ap (from_be_bytes w64) (drop-take 22 8 bytes)

-- an area of fewer bytes is not live
pub few_not_live : (bytes : List ℕ) → length bytes < 30 → is_live bytes ≡ false
few_not_live bytes few = not_live bytes (λ live. omega (arith, live.long, few))

pub look_short : (area : Area) (o : Option Areas) (len : ℕ) → IfSome o (λ s. len ≡ length (part area s)) → len < 30 → IfSome o (λ s. is_live (part area s) ≡ false)
look_short area None len is few = tt
look_short area (Some s) len is few = few_not_live (part area s) (omega (arith, is, few))

-- what the first thirty bytes show
pub look_told : (area : Area) (o : Option Areas) (buf : List ℕ) (found : Option ℕ) → length buf ≡ 30 → IfSome o (λ s. IsFilled (part area s) 0 buf)
    → ((bytes : List ℕ) → take 30 bytes ≡ buf → IsFound found bytes) → IfSome o (λ s. IsFound found (part area s))
look_told area None buf found thirty read so = tt
look_told area (Some s) buf found thirty read so = so (part area s) (sym (read ∙ ap (λ (k : ℕ). take k (part area s)) thirty))

-- what was found of both decides which one counts
pub found_chosen : (a b : Option ℕ) (areas : Areas) → IsFound a areas.a → IsFound b areas.b → choice (is_some a) (is_some b) (found_or_none a) (found_or_none b) ≡ chosen areas
unfolding chosen
found_chosen (Some g) (Some h) areas of_a of_b =
    ap (λ (l : Bool). choice l true g h) (sym of_a.0) ∙ ap (λ (l : Bool). choice (is_live areas.a) l g h) (sym of_b.0)
    ∙ ap (λ (n : ℕ). choice (is_live areas.a) (is_live areas.b) n h) of_a.1 ∙ ap (λ (n : ℕ). choice (is_live areas.a) (is_live areas.b) (generation_of areas.a) n) of_b.1
found_chosen (Some g) None areas of_a of_b =
    ap (λ (l : Bool). choice true l (generation_of areas.a) (generation_of areas.b)) (sym of_b) ∙ ap (λ (l : Bool). choice l (is_live areas.b) (generation_of areas.a) (generation_of areas.b)) (sym of_a.0)
found_chosen None (Some h) areas of_a of_b =
    ap (λ (l : Bool). choice l true (generation_of areas.a) (generation_of areas.b)) (sym of_a) ∙ ap (λ (l : Bool). choice (is_live areas.a) l (generation_of areas.a) (generation_of areas.b)) (sym of_b.0)
found_chosen None None areas of_a of_b =
    ap (λ (l : Bool). choice l false (generation_of areas.a) (generation_of areas.b)) (sym of_a) ∙ ap (λ (l : Bool). choice (is_live areas.a) l (generation_of areas.a) (generation_of areas.b)) (sym of_b)

-- an area at rest without bodies is not live, nor one of at most 17 bytes
empty_not_live : (version : ℕ) (bytes : List ℕ) → Stands version bytes [] → is_live bytes ≡ false
empty_not_live version bytes (inl short) = short_not_live bytes short.0
empty_not_live version bytes (inr at) = shut_not_live bytes (λ is_one. at.closed (sym (ap (λ (l : List ℕ). get_or l 16 0) at.is) ∙ is_one))

-- what the areas stand for, by what was found of the chosen one and the bodies there
live_is : (version : ℕ) (found : Option ℕ) (bodies : List (List ℕ)) (bytes : List ℕ) → IsFound found bytes → Stands version bytes bodies → is_live bytes ≡ is_some (summary_in (is_some found) bodies)
live_is version None bodies bytes is stands = is
live_is version (Some g) [] bytes is stands = empty_not_live version bytes stands
live_is version (Some g) (body ∷ bodies) bytes is stands = is.0

pub all_in : (live : Bool) (bodies : List (List ℕ)) → bodies ≡ all_of (summary_in live bodies) (records_in live bodies)
all_in true [] = refl
all_in true (body ∷ bodies) = refl
all_in false bodies = refl

pub found_stands : (version : ℕ) (found : Option ℕ) (bodies : List (List ℕ)) (areas : Areas) → IsFound found (chosen_part areas) → Stands version (chosen_part areas) bodies
    → AreasStand areas version (summary_in (is_some found) bodies) (records_in (is_some found) bodies)
found_stands version found bodies areas is stands =
    (live_is version found bodies (chosen_part areas) is stands, subst (Stands version (chosen_part areas)) (all_in (is_some found) bodies) stands)

-- an area of at most 17 bytes stands for no body, whatever a first write leaves there
pub no_body : (version : ℕ) (bytes : List ℕ) (bodies : List (List ℕ)) → length bytes ≤ 17 → Stands version bytes bodies → bodies ≡ []
no_body version bytes bodies short (inl stands) = stands.1
no_body version bytes [] short (inr at) = refl
no_body version bytes (b ∷ bodies) short (inr at) =
    absurd (omega (arith, short, ap length at.is, length-append (front version (b ∷ bodies)) (at.gate ∷ at.behind), length-front version (b ∷ bodies), size-least bodies))

pub short_chosen : (area : Area) (n : ℕ) (t c : Areas) → n ≤ 17 → chosen t ≡ area → length (part area t) ≤ 17 → TornIn area 0 n t c → chosen c ≡ area
short_chosen area n t c le is short torn =
    let before = short_not_live (part area t) short in
    let after = short_not_live (part area c) (omega (arith, le, short, torn.0.no_longer)) in
    stays_chosen area t c is torn.1 (after ∙ sym before) (λ live. absurd (true_false (sym live ∙ before)))
  where
    true_false : true ≡ false → ⊥
    true_false e = cc

pub short_goes_on : (area : Area) (t c : Areas) → chosen t ≡ area → length (part area t) ≤ 17 → TornIn area 0 17 t c → GoesOn t c
short_goes_on area t c is short torn version summary bodies stands =
    let now = short_chosen area 17 t c (omega arith) is short torn in
    let short_now : length (part area c) ≤ 17 = omega (arith, short, torn.0.no_longer) in
    let at_first : (is_live (part area t) ≡ is_some summary) × Stands version (part area t) (all_of summary bodies) =
    subst (λ (x : Area). (is_live (part x t) ≡ is_some summary) × Stands version (part x t) (all_of summary bodies)) is stands in
    let dead = sym (short_not_live (part area t) short) ∙ at_first.0 in
    let empty = no_body version (part area t) (all_of summary bodies) short at_first.1 in
    subst (λ (x : Area). (is_live (part x c) ≡ is_some summary) × Stands version (part x c) (all_of summary bodies)) (sym now)
    (short_not_live (part area c) short_now ∙ dead, inl (short_now, empty))

-- the summary's generation is the one that the areas have
pub now_is : (areas : Areas) (found : Option ℕ) → IsFound found (chosen_part areas) → generation_now areas ≡ found_or_none found
now_is areas None is = ap (λ (q : Bool). if q then generation_of (chosen_part areas) else 0) is
now_is areas (Some g) is = ap (λ (q : Bool). if q then generation_of (chosen_part areas) else 0) is.0 ∙ sym is.1

both_ways : {X : Type 0} → true ≡ false → X
both_ways e = cc

-- what is told as the generation of the summary is that of the areas, and that in the body of the summary
pub generation_is : (version : ℕ) (found : Option ℕ) (bodies : List (List ℕ)) (areas : Areas) → IsFound found (chosen_part areas) → Stands version (chosen_part areas) bodies
    → generation_found found bodies ≡ generation_now areas
generation_is version None bodies areas is stands = sym (now_is areas None is)
generation_is version (Some g) [] areas is stands = both_ways (sym is.0 ∙ empty_not_live version (chosen_part areas) stands)
generation_is version (Some g) (body ∷ bodies) areas is (inl stands) = both_ways (sym is.0 ∙ short_not_live (chosen_part areas) stands.0)
generation_is version (Some g) (body ∷ bodies) areas is (inr at) =
    ⊎_elim
    (λ (few : length body < 9). ap (λ (q : Bool). if q then g else generation_in (Some body)) (lt-ltb (length body) 9 few))
    (λ (long : 9 ≤ length body). ap (λ (q : Bool). if q then g else generation_in (Some body)) (le-ltb (length body) 9 long)
    ∙ sym (rest_generation version body bodies (chosen_part areas) long at) ∙ sym is.1)
    (cases_lt (length body) 9)
    ∙ sym (now_is areas (Some g) is)

pub generation_held : (found : Option ℕ) (bodies : List (List ℕ)) → IsDistinct (summary_in (is_some found) bodies) (records_in (is_some found) bodies)
    → generation_found found bodies ≡ generation_in (summary_in (is_some found) bodies)
generation_held None bodies distinct = refl
generation_held (Some g) [] distinct = refl
generation_held (Some g) (body ∷ bodies) distinct = ap (λ (q : Bool). if q then g else generation_in (Some body)) (le-ltb (length body) 9 distinct.1)

-- of a disk that is settled and whose chosen area has at most 17 bytes
abbrev pub IsShort : Area → Areas → Type 0
IsShort area s = (chosen s ≡ area) × (length (part area s) ≤ 17)

pub is_short : (area : Area) (o : Option Areas) (len : ℕ) → IfSome o (λ s. (chosen s ≡ area) × (len ≡ length (part area s))) → len ≤ 17 → IfSome o (IsShort area)
is_short area None len is few = tt
is_short area (Some s) len is few = (is.0, omega (arith, is.1, few))

pub begun_goes_on : (area : Area) (old new : DiskSeen) → IsSettled old → IfSome old.told (IsShort area) → Changes (TornIn area 0 17) old new → Changes GoesOn old new
begun_goes_on area old new settled short run =
    changes_map (TornIn area 0 17) GoesOn (IsShort area) old new settled short run (λ s t p x. short_goes_on area s t p.0 p.1 x)

pub begun_chosen : (area : Area) (o m : Option Areas) → IfSome o (IsShort area) → Becomes o m (TornIn area 0 17) → IfSome m (λ t. chosen t ≡ area)
begun_chosen area o m short run = told_after (TornIn area 0 17) (IsShort area) (λ t. chosen t ≡ area) o m run short (λ s t p x. short_chosen area 17 s t (omega arith) p.0 p.1 x)

pub begun_rests : (area : Area) (version : ℕ) (bodies : List (List ℕ)) (m : Option Areas) → version ≡ 2 → bodies ≡ [] → IfSome m (λ t. chosen t ≡ area) → IfSome m (λ t. AtRest 2 (part area t) [])
    → IfSome m (IsAtRestIn area version None bodies)
begun_rests area version bodies m second none is at =
    if_both (λ t. chosen t ≡ area) (λ t. AtRest 2 (part area t) []) (IsAtRestIn area version None bodies) m is at
    (λ t p q. record { chosen_is = p; at_rest = subst (λ (v : ℕ). AtRest v (part area t) bodies) (sym second) (subst (AtRest 2 (part area t)) (sym none) q) })

pub read_rests : (area : Area) (version : ℕ) (bodies : List (List ℕ)) (len : ℕ) (m : Option Areas) → IfSome m (λ t. (chosen t ≡ area) × (len ≡ length (part area t)))
    → IfSome m (λ t. AtRest version (part area t) bodies) → IfSome m (IsAtRestIn area version None bodies)
read_rests area version bodies len m is at =
    if_both (λ t. (chosen t ≡ area) × (len ≡ length (part area t))) (λ t. AtRest version (part area t) bodies) (IsAtRestIn area version None bodies) m is at
    (λ t p q. record { chosen_is = p.0; at_rest = q })

-- the version of an area that has a record
rest_version : (version : ℕ) (bytes : List ℕ) (bodies : List (List ℕ)) → AtRest version bytes bodies → version_of bytes ≡ version
unfolding version_of
rest_version version bytes bodies at = ap (λ (n : ℕ). n - 48) (ap (λ (l : List ℕ). get_or l 15 0) at.is) ∙ omega arith

-- the version that the areas have, by the length of the chosen one
long_version : (area : Area) (version : ℕ) (bodies : List (List ℕ)) (s : Areas) → chosen s ≡ area → 17 < length (part area s) → AtRest version (part area s) bodies → version ≡ version_now s
long_version area version bodies s is long at =
    subst (λ (x : Area). version ≡ (if nat_lt 17 (length (part x s)) then version_of (part x s) else 2)) (sym is)
    (sym (ap (λ (q : Bool). if q then version_of (part area s) else 2) (lt-ltb 17 (length (part area s)) long) ∙ rest_version version (part area s) bodies at))

short_version : (area : Area) (s : Areas) → chosen s ≡ area → length (part area s) ≤ 17 → 2 ≡ version_now s
short_version area s is short =
    subst (λ (x : Area). 2 ≡ (if nat_lt 17 (length (part x s)) then version_of (part x s) else 2)) (sym is)
    (sym (ap (λ (q : Bool). if q then version_of (part area s) else 2) (le-ltb 17 (length (part area s)) short)))

pub goes_on_then : (s t u : Areas) → GoesOn s t → GoesOn t u → GoesOn s u
goes_on_then s t u one two version summary bodies stands = two version summary bodies (one version summary bodies stands)

pub quiet_goes_on : (old new : DiskSeen) → IsQuiet old new → Changes GoesOn old new
quiet_goes_on old new quiet = quiet_changes GoesOn old new (λ s version summary bodies stands. stands) quiet

pub goes_on_later : (old mid new : DiskSeen) → IsQuiet old mid → Changes GoesOn mid new → Changes GoesOn old new
goes_on_later old mid new quiet run = changes_then GoesOn old mid new goes_on_then (quiet_goes_on old mid quiet) run

pub begun_result : {T E : Type 0} (area : Area) (m : Option Areas) (r : Result T E) (version_in : T → ℕ) (bodies_of : T → List (List ℕ)) (used : T → Type 0)
    → OnOk r (IfSome m (λ t. AtRest 2 (part area t) [])) → IfOk r (λ x. used x × (bodies_of x ≡ [])) → IfOk r (λ x. version_in x ≡ 2) → IfSome m (λ t. chosen t ≡ area)
    → IfOk r (λ x. IfSome m (IsAtRestIn area (version_in x) None (bodies_of x)))
begun_result area m (Ok x) version_in bodies_of used at both second is = begun_rests area (version_in x) (bodies_of x) m second both.1 is at
begun_result area m (Err e) version_in bodies_of used at both second is = tt

-- a fresh area gets the second version
pub begun_version : {T E : Type 0} (area : Area) (o : Option Areas) (r : Result T E) (version_in : T → ℕ) → IfOk r (λ x. version_in x ≡ 2)
    → IfSome o (IsShort area) → IfOk r (λ x. IfSome o (λ s. version_in x ≡ version_now s))
begun_version area o (Ok x) version_in second short =
    if_map (IsShort area) (λ s. version_in x ≡ version_now s) o short (λ s p. second ∙ short_version area s p.0 p.1)
begun_version area o (Err e) version_in second short = tt

-- another one keeps its own
pub read_version : {T E : Type 0} (area : Area) (len : ℕ) (o : Option Areas) (r : Result T E) (version_in : T → ℕ) (bodies_of : T → List (List ℕ)) → 17 < len
    → IfSome o (λ s. (chosen s ≡ area) × (len ≡ length (part area s))) → IfOk r (λ x. IfSome o (λ s. AtRest (version_in x) (part area s) (bodies_of x)))
    → IfOk r (λ x. IfSome o (λ s. version_in x ≡ version_now s))
read_version area len o (Ok x) version_in bodies_of long is at =
    if_both (λ s. (chosen s ≡ area) × (len ≡ length (part area s))) (λ s. AtRest (version_in x) (part area s) (bodies_of x)) (λ s. version_in x ≡ version_now s) o is at
    (λ s p q. long_version area (version_in x) (bodies_of x) s p.0 (omega (arith, long, p.1)) q)
read_version area len o (Err e) version_in bodies_of long is at = tt

pub read_result : {T E : Type 0} (area : Area) (len : ℕ) (o m : Option Areas) (r : Result T E) (version_in : T → ℕ) (bodies_of : T → List (List ℕ)) → m ≡ o
    → IfOk r (λ x. IfSome o (λ t. AtRest (version_in x) (part area t) (bodies_of x))) → IfSome o (λ t. (chosen t ≡ area) × (len ≡ length (part area t)))
    → IfOk r (λ x. IfSome m (IsAtRestIn area (version_in x) None (bodies_of x)))
read_result area len o m (Ok x) version_in bodies_of same at is =
    subst (λ (p : Option Areas). IfSome p (IsAtRestIn area (version_in x) None (bodies_of x))) (sym same) (read_rests area (version_in x) (bodies_of x) len o is at)
read_result area len o m (Err e) version_in bodies_of same at is = tt

-- nothing is written into an area of more than 17 bytes
pub quiet_long : (o : Option Areas) (old new : DiskSeen) → IsQuiet old new → IfSome o (λ s. 17 < length (chosen_part s) → IsQuiet old new)
quiet_long None old new quiet = tt
quiet_long (Some s) old new quiet = λ long. quiet

pub short_long : (area : Area) (o : Option Areas) (old new : DiskSeen) → IfSome o (IsShort area) → IfSome o (λ s. 17 < length (chosen_part s) → IsQuiet old new)
short_long area None old new short = tt
short_long area (Some s) old new short = λ long.
    let few : length (chosen_part s) ≤ 17 = subst (λ (x : Area). length (part x s) ≤ 17) (sym short.0) short.1 in absurd (omega (arith, few, long))

pub long_later : (old mid new : DiskSeen) → IsQuiet old mid → IfSome mid.told (λ s. 17 < length (chosen_part s) → IsQuiet mid new)
    → IfSome old.told (λ s. 17 < length (chosen_part s) → IsQuiet old new)
long_later old mid new quiet so =
    if_map (λ s. 17 < length (chosen_part s) → IsQuiet mid new) (λ s. 17 < length (chosen_part s) → IsQuiet old new) old.told
    (subst (λ (p : Option Areas). IfSome p (λ s. 17 < length (chosen_part s) → IsQuiet mid new)) quiet.same so)
    (λ s x long. quiet_then old mid new quiet (x long))

pub held_file : (version : ℕ) (found : Option ℕ) (bodies : List (List ℕ)) (area : Area) (o : Option Areas) → IfSome o (IsAtRestIn area version None bodies)
    → IfSome o (IsAtRestIn area version (summary_in (is_some found) bodies) (records_in (is_some found) bodies))
held_file version found bodies area o file =
    if_map (IsAtRestIn area version None bodies) (IsAtRestIn area version (summary_in (is_some found) bodies) (records_in (is_some found) bodies)) o file
    (λ t at. record { chosen_is = at.chosen_is; at_rest = subst (AtRest version (part area t)) (all_in (is_some found) bodies) at.at_rest })

pub open_stands : (version : ℕ) (found : Option ℕ) (bodies : List (List ℕ)) (o : Option Areas) → IfSome o (λ s. IsFound found (chosen_part s))
    → IfSome o (λ s. Stands version (chosen_part s) bodies) → IfSome o (λ s. AreasStand s version (summary_in (is_some found) bodies) (records_in (is_some found) bodies))
open_stands version found bodies o is stands =
    if_both (λ s. IsFound found (chosen_part s)) (λ s. Stands version (chosen_part s) bodies) (λ s. AreasStand s version (summary_in (is_some found) bodies) (records_in (is_some found) bodies)) o is stands
    (found_stands version found bodies)

pub open_generation : (version : ℕ) (found : Option ℕ) (bodies : List (List ℕ)) (n : ℕ) (o : Option Areas) → n ≡ generation_found found bodies
    → IfSome o (λ s. IsFound found (chosen_part s)) → IfSome o (λ s. Stands version (chosen_part s) bodies) → IfSome o (λ s. n ≡ generation_now s)
open_generation version found bodies n o same is stands =
    if_both (λ s. IsFound found (chosen_part s)) (λ s. Stands version (chosen_part s) bodies) (λ s. n ≡ generation_now s) o is stands
    (λ s p q. same ∙ generation_is version found bodies s p q)
