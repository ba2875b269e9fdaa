-- Where the record behind so many others stands in an area, and how its place is kept.
use Rattle.std.proofs.Common.{◌≡◌, ◌≤◌, ◌<◌, ◌+◌, ◌-◌, ◌^◌, ℕ, List, [], ◌∷◌, ◌++◌, length, take, drop, get_or, Option, Some, None, refl, sym, ap, ◌∙◌, subst, arith, append_assoc, length-append, take-append-drop}
use Rattle.std.specs.Prelude.{IfSome}
use Rattle.std.specs.Int.{to_be_bytes, from_be_bytes, w32}
use Rattle.std.proofs.lemmas.Nat.{from_be_bytes-to_be_bytes_4}
use Rattle.std.proofs.lemmas.Grind.{flat_map-append}
use Rattle.std.proofs.lemmas.List.{take_at, drop_at, drop_more, take_more, get_or-append_right, drop-drop, drop-take, take-take}
use Rattle.arc_io.specs.Areas.{Areas, part}
use Rattle.arc_io.specs.Crashes.{IsQuiet}
use Rattle.arc_io.specs.Disks.{DiskSeen}
use Rattle.arc_io.specs.declared.disk.Area.{Area}
use Rattle.disk_journal.specs.Records.{AtRest, HaveSizes, MayHave, bytes_of, front, head_of, length_in, records_of, size}
use Rattle.disk_journal.specs.Reading.{IsFilled}
use Rattle.disk_journal.specs.Standing.{all_of, size_of}
use Rattle.disk_journal.specs.Journal.{HasBodies, Holds, IsAtRestIn, IsGateBehind}
use Rattle.disk_journal.specs.declared.journal.Journal.{Journal}
use Rattle.disk_journal.specs.Again.{HasRecordAt}
use Rattle.disk_journal.proofs.Chosen.{all_more, all_further}
use Rattle.disk_journal.proofs.Gates.{front-more, length-front, size-more, most_most}
use Rattle.disk_journal.proofs.Steps.{if_map}

-- Bodies in two parts.

size-part : (bodies more : List (List ℕ)) → size bodies ≤ size (bodies ++ more)
size-part [] [] = omega arith
size-part [] (b ∷ more) = omega (arith, size-part [] more)
size-part (b ∷ bodies) more = omega (arith, size-part bodies more)

front-append : (version : ℕ) (bodies more : List (List ℕ)) → front version (bodies ++ more) ≡ front version bodies ++ records_of more
front-append version bodies more =
    ap (λ l. head_of version ++ l) (flat_map-append (λ (b : List ℕ). 1 ∷ bytes_of b) bodies more) ∙ sym (append_assoc (head_of version) (records_of bodies) (records_of more))

-- the bodies before one, that one, and those behind it
apart : (summary : Option (List ℕ)) (bodies : List (List ℕ)) (n : ℕ) → n < length bodies
    → all_of summary bodies ≡ all_of summary (take n bodies) ++ get_or bodies n [] ∷ drop (n + 1) bodies
apart summary bodies n below =
    ap (all_of summary) (sym (take-append-drop n bodies)) ∙ all_further summary (take n bodies) (drop n bodies)
    ∙ ap (λ l. all_of summary (take n bodies) ++ l) (drop_more bodies n [] below)

-- a body among them has a length of four bytes
short : (before behind : List (List ℕ)) (body : List ℕ) → HaveSizes (before ++ body ∷ behind) → length body < 2 ^ 32
short [] behind body sizes = omega (arith, sizes.0.1, most_most 16 (get_or body 0 0))
short (b ∷ before) behind body sizes =
    let all = before ++ body ∷ behind in
    let k = length before in
    let none : k - k ≡ 0 = omega arith in
    let here : get_or all k [] ≡ body = get_or-append_right before (body ∷ behind) k k [] refl (omega arith) ∙ ap (λ j. get_or (body ∷ behind) j []) none in
    let small : MayHave (length (get_or all k [])) = sizes.1 k [] (omega (arith, length-append before (body ∷ behind))) in
    let long : length (get_or all k []) ≡ length body = ap length here in
    omega (arith, small.1, long)

-- One record behind these others.
module _ (version : ℕ) (bytes : List ℕ) (before behind : List (List ℕ)) (body : List ℕ) (at : ℕ) (place : at + 1 ≡ size before)
    (rests : AtRest version bytes (before ++ body ∷ behind)) where
  abbrev more : List ℕ
  more = records_of behind ++ rests.gate ∷ rests.behind

  is : bytes ≡ front version before ++ 1 ∷ (bytes_of body ++ more)
  is =
      rests.is
      ∙ ap (λ l. front version l ++ rests.gate ∷ rests.behind) (sym (append_assoc before (body ∷ []) behind))
      ∙ ap (λ l. l ++ rests.gate ∷ rests.behind) (front-append version (before ++ body ∷ []) behind)
      ∙ append_assoc (front version (before ++ body ∷ [])) (records_of behind) (rests.gate ∷ rests.behind)
      ∙ front-more version before body more

  at_gate : length (front version before) ≡ at
  at_gate = omega (arith, place, length-front version before)

  from_size : drop (at + 1) bytes ≡ to_be_bytes w32 (length body) ++ (body ++ more)
  from_size =
      ap (drop (at + 1)) (is ∙ sym (append_assoc (front version before) (1 ∷ []) (bytes_of body ++ more)))
      ∙ drop_at (front version before ++ 1 ∷ []) (bytes_of body ++ more) (at + 1) (omega (arith, at_gate, length-append (front version before) (1 ∷ [])))
      ∙ append_assoc (to_be_bytes w32 (length body)) body more

  pub record_length : length_in (drop (at + 1) bytes) ≡ length body
  record_length =
      ap (λ l. from_be_bytes w32 (take 4 l)) from_size
      ∙ ap (from_be_bytes w32) (take_at (to_be_bytes w32 (length body)) (body ++ more) 4 refl)
      ∙ from_be_bytes-to_be_bytes_4 (length body) (short before behind body rests.sizes)

  pub record_body : take (length body) (drop (at + 5) bytes) ≡ body
  record_body =
      ap (λ k. take (length body) (drop k bytes)) (omega arith)
      ∙ ap (take (length body)) (sym (drop-drop 4 (at + 1) bytes) ∙ ap (drop 4) from_size ∙ drop_at (to_be_bytes w32 (length body)) (body ++ more) 4 refl)
      ∙ take_at body more (length body) refl

  pub record_within : at + 5 + length body < length bytes
  record_within =
      omega (
        arith,
        ap length is,
        length-append (records_of before) (1 ∷ (bytes_of body ++ more)),
        length-append body more,
        length-append (records_of behind) (rests.gate ∷ rests.behind),
        length-front version before,
        length-append (head_of version) (records_of before),
        place,
      )

-- The same of a summary, or none, and records.
module _ (area : Area) (version : ℕ) (summary : Option (List ℕ)) (bodies : List (List ℕ)) (i place : ℕ) (s : Areas)
    (here : HasRecordAt (Some s) area version summary bodies i place) where
  abbrev before : List (List ℕ)
  before = all_of summary (take i bodies)

  abbrev pub this : List ℕ
  this = get_or bodies i []

  abbrev behind : List (List ℕ)
  behind = drop (i + 1) bodies

  parts : all_of summary bodies ≡ before ++ this ∷ behind
  parts = apart summary bodies i here.below

  rests : AtRest version (part area s) (before ++ this ∷ behind)
  rests = subst (λ (l : List (List ℕ)). AtRest version (part area s) l) parts here.file

  pub this_length : length_in (drop (place + 1) (part area s)) ≡ length this
  this_length = record_length version (part area s) before behind this place here.gate rests

  pub this_body : take (length this) (drop (place + 5) (part area s)) ≡ this
  this_body = record_body version (part area s) before behind this place here.gate rests

  pub this_within : place + 5 + length this < length (part area s)
  this_within = record_within version (part area s) before behind this place here.gate rests

  pub next_gate : place + 5 + length this + 1 ≡ size_of summary (take (i + 1) bodies)
  next_gate =
      let more_is : size_of summary (take (i + 1) bodies) ≡ size (before ++ this ∷ []) = ap size (ap (all_of summary) (take_more bodies i [] here.below) ∙ all_more summary (take i bodies) this) in
      let at : place + 1 ≡ size before = here.gate in
      omega (arith, at, size-more before this, more_is)

  pub next_few : place + 5 + length this < 2 ^ 64
  next_few =
      let all_is : size_of summary bodies ≡ size ((before ++ this ∷ []) ++ behind) = ap size (parts ∙ sym (append_assoc before (this ∷ []) behind)) in
      let at : place + 1 ≡ size before = here.gate in
      omega (arith, here.few, at, all_is, size-more before this, size-part (before ++ this ∷ []) behind)

-- the length in five bytes from a gate on
pub size_read : (area : Area) (o : Option Areas) (five four : List ℕ) (at n : ℕ) → IfSome o (λ s. IsFilled (part area s) at five) → length five ≡ 5 → four ≡ take 4 (drop 1 five)
    → n ≡ from_be_bytes w32 four → IfSome o (λ s. n ≡ length_in (drop (at + 1) (part area s)))
size_read area None five four at n read long is number = tt
size_read area (Some s) five four at n read long is number =
    let bytes = part area s in
    number ∙ ap (from_be_bytes w32) (is ∙ ap (λ l. take 4 (drop 1 l)) (read ∙ ap (λ k. take k (drop at bytes)) long) ∙ ap (take 4) (drop-take 1 4 (drop at bytes)) ∙ take-take 4 4 (drop 1 (drop at bytes)) (omega arith)
    ∙ ap (take 4) (drop-drop 1 at bytes))

-- what a later call says of what the disk tells
pub told_then : (P : Areas → Type 0) (o m : Option Areas) → m ≡ o → IfSome o P → IfSome m P
told_then P o m same = subst (λ (p : Option Areas). IfSome p P) (sym same)

pub told_first : (P : Areas → Type 0) (o m : Option Areas) → m ≡ o → IfSome m P → IfSome o P
told_first P o m same = subst (λ (p : Option Areas). IfSome p P) same

-- How a place is kept.

pub said_again : (P : Type 0) (o : Option Areas) → P → IfSome o (λ _. P)
said_again P None p = tt
said_again P (Some s) p = p

-- What is known of a record that is walked to.

-- its gate and the length behind it stand in the area
pub gate_within : (area : Area) (o : Option Areas) (version : ℕ) (summary : Option (List ℕ)) (bodies : List (List ℕ)) (i place : ℕ)
    → HasRecordAt o area version summary bodies i place → IfSome o (λ s. place + 5 ≤ length (part area s))
gate_within area None version summary bodies i place here = tt
gate_within area (Some s) version summary bodies i place here = omega (arith, this_within area version summary bodies i place s here)

-- the next one stands behind it
pub walked : (area : Area) (o : Option Areas) (version : ℕ) (summary : Option (List ℕ)) (bodies : List (List ℕ)) (i place n next : ℕ)
    → HasRecordAt o area version summary bodies i place → IfSome o (λ s. n ≡ length_in (drop (place + 1) (part area s)))
    → (place + (5 + n) < 2 ^ 64 → next ≡ place + (5 + n)) → IsGateBehind o summary bodies (i + 1) next
walked area None version summary bodies i place n next here sized step = tt
walked area (Some s) version summary bodies i place n next here sized step =
    let long = sized ∙ this_length area version summary bodies i place s here in
    let few = next_few area version summary bodies i place s here in
    omega (arith, long, step (omega (arith, long, few)), next_gate area version summary bodies i place s here)

pub body_within : (area : Area) (o : Option Areas) (version : ℕ) (summary : Option (List ℕ)) (bodies : List (List ℕ)) (i place n at : ℕ)
    → HasRecordAt o area version summary bodies i place → IfSome o (λ s. n ≡ length_in (drop (place + 1) (part area s)))
    → (place + 5 < 2 ^ 64 → at ≡ place + 5) → IfSome o (λ s. at + n ≤ length (part area s))
body_within area None version summary bodies i place n at here sized step = tt
body_within area (Some s) version summary bodies i place n at here sized step =
    let few = next_few area version summary bodies i place s here in
    omega (arith, sized, this_length area version summary bodies i place s here, this_within area version summary bodies i place s here, step (omega (arith, few)))

pub body_read : (area : Area) (o : Option Areas) (version : ℕ) (summary : Option (List ℕ)) (bodies : List (List ℕ)) (i place n at : ℕ) (buf : List ℕ)
    → HasRecordAt o area version summary bodies i place → IfSome o (λ s. n ≡ length_in (drop (place + 1) (part area s)))
    → (place + 5 < 2 ^ 64 → at ≡ place + 5) → length buf ≡ n → IfSome o (λ s. IsFilled (part area s) at buf) → IfSome o (λ _. buf ≡ get_or bodies i [])
body_read area None version summary bodies i place n at buf here sized step long read = tt
body_read area (Some s) version summary bodies i place n at buf here sized step long read =
    let few = next_few area version summary bodies i place s here in
    let at_is : at ≡ place + 5 = step (omega (arith, few)) in
    let long_is : length buf ≡ length (get_or bodies i []) = long ∙ sized ∙ this_length area version summary bodies i place s here in
    read ∙ ap (λ k. take (length buf) (drop k (part area s))) at_is ∙ ap (λ k. take k (drop (place + 5) (part area s))) long_is ∙ this_body area version summary bodies i place s here

-- the walk has come from the gate of one record to that of another
abbrev pub HasWalked : Option Areas → Area → ℕ → ℕ → ℕ → ℕ → ℕ → Type 0
HasWalked o area next place i count at =
    (version : ℕ) (summary : Option (List ℕ)) (bodies : List (List ℕ)) → i < length bodies → HasRecordAt o area version summary bodies next place
    → HasRecordAt o area version summary bodies count at

-- and goes on by one
pub walks_on : (o : Option Areas) (area : Area) (next place i count at n then : ℕ) → count < i → IfSome o (λ s. n ≡ length_in (drop (at + 1) (part area s)))
    → (at + (5 + n) < 2 ^ 64 → then ≡ at + (5 + n)) → HasWalked o area next place i count at → HasWalked o area next place i (count + 1) then
walks_on o area next place i count at n then ahead sized step so_far version summary bodies below here =
    let now = so_far version summary bodies below here in
    record {
      below = omega (arith, ahead, below);
      few = now.few;
      gate = walked area o version summary bodies count at n then now sized step;
      file = now.file;
    }

-- the one behind a body that was read
pub read_on : (area : Area) (o : Option Areas) (version : ℕ) (summary : Option (List ℕ)) (bodies : List (List ℕ)) (i place : ℕ) (body : List ℕ) (next : ℕ)
    → HasRecordAt o area version summary bodies i place → IfSome o (λ _. body ≡ get_or bodies i [])
    → (place + (5 + length body) < 2 ^ 64 → next ≡ place + (5 + length body)) → IsGateBehind o summary bodies (i + 1) next
read_on area None version summary bodies i place body next here same step = tt
read_on area (Some s) version summary bodies i place body next here same step =
    walked area (Some s) version summary bodies i place (length body) next here (ap length same ∙ sym (this_length area version summary bodies i place s here)) step

pub pushed : (o : Option Areas) (body wanted : List ℕ) (old new : List (List ℕ)) → new ≡ old ++ body ∷ [] → IfSome o (λ _. body ≡ wanted) → IfSome o (λ _. new ≡ old ++ wanted ∷ [])
pushed None body wanted old new put same = tt
pushed (Some s) body wanted old new put same = put ∙ ap (λ b. old ++ b ∷ []) same

-- Of a journal.
module _ {D : Type 0} (seen : D → DiskSeen) (j : Journal D) (version : ℕ) (summary : Option (List ℕ)) (bodies : List (List ℕ)) (h : Holds seen j version summary bodies) where
  -- where a walk begins
  pub walk_begins : (next place : ℕ) → next < length bodies → j.used < 2 ^ 64 → IsGateBehind (seen j.disk).told summary bodies next place
      → HasRecordAt (seen j.disk).told j.area version summary bodies next place
  walk_begins next place below fits gate = record {
    below = below;
    few = omega (arith, fits, h.used);
    gate = gate;
    file = if_map (IsAtRestIn j.area version summary bodies) (HasBodies j.area version (all_of summary bodies)) (seen j.disk).told h.kept.file (λ s at. at.at_rest);
  }

  -- what it holds where nothing was written, and another place was found
  pub holds_again : (disk : D) (next place : ℕ) → IsQuiet (seen j.disk) (seen disk) → next ≤ length bodies → IsGateBehind (seen j.disk).told summary bodies next place
      → Holds seen (record j { disk = disk; next = next; place = place }) version summary bodies
  holds_again disk next place quiet within gate = record {
    version_is = h.version_is;
    used = h.used;
    count = h.count;
    placed = record { first_is = h.placed.first_is; within = within; place_is = told_then (λ _. place + 1 ≡ size_of summary (take next bodies)) (seen j.disk).told (seen disk).told quiet.same gate };
    generation = h.generation;
    few = h.few;
    met_none = h.met_none;
    kept = record {
      distinct = h.kept.distinct;
      file = told_then (IsAtRestIn j.area version summary bodies) (seen j.disk).told (seen disk).told quiet.same h.kept.file;
      settled = λ c left. quiet.same ∙ h.kept.settled c (quiet.crash c left);
    };
  }
