-- What the pieces that were read say of the area's bytes.
use Rattle.std.proofs.Common.{◌≡◌, ◌≢◌, ◌⊎◌, ◌≤◌, ◌<◌, ◌+◌, ◌-◌, ℕ, List, [], ◌∷◌, ◌++◌, length, take, drop, get_or, Option, Some, None, true, false, refl, sym, ap, ◌∙◌, subst, inl, inr, ⊎_elim, eqb, arith, append_assoc, length-drop, take-append-drop}
use Rattle.std.specs.Prelude.{IfSome, Vec}
use Rattle.std.specs.declared.alloc.Global.{Global}
use Rattle.std.specs.Int.{to_be_bytes, from_be_bytes, w32}
use Rattle.std.proofs.lemmas.Bool.Decides.{eqb_tells}
use Rattle.std.proofs.lemmas.List.{take_at, drop_more, get_or-drop, drop-drop, drop-take, take-take, length-take, get_or-take}
use Rattle.arc_io.specs.Areas.{Areas, part}
use Rattle.arc_io.specs.declared.disk.Area.{Area}
use Rattle.disk_journal.specs.Records.{name, IsVersion, head_of, front, AtRest, size, most_at, MayStandAt, HaveSizes, IsWhole, IsNoJournal, IsOfVersion, length_in}
use Rattle.disk_journal.specs.Reading.{IsFilled, IsGate, IsRecord, IsBrokenAt}
use Rattle.disk_journal.specs.Faults.{IsShown}
use Rattle.disk_journal.specs.declared.fault.OpenFault.{OpenFault}
use Rattle.disk_journal.specs.declared.fault.OpenFault.TheVariants as Open
use Rattle.disk_journal.proofs.Gates.{front-more, length-front, size-more, sizes-more}

-- the gate's byte, and all behind it
pub gate_read : (bytes gates : List ℕ) (at : ℕ) → IsFilled bytes at gates → length gates ≡ 1 → at < length bytes → drop at bytes ≡ get_or gates 0 0 ∷ drop (at + 1) bytes
gate_read bytes gates at read one within =
    let same : get_or gates 0 0 ≡ get_or bytes at 0 =
    ap (λ (l : List ℕ). get_or l 0 0) read ∙ get_or-take (length gates) (drop at bytes) 0 0 (omega arith) ∙ get_or-drop at bytes 0 0 ∙ ap (λ n. get_or bytes n 0) (omega arith) in
    drop_more bytes at 0 within ∙ ap (λ x. x ∷ drop (at + 1) bytes) (sym same)

-- what the gate's byte tells
pub gate_tells : (area : Area) (o : Option Areas) (len at : ℕ) (gates : List ℕ) → IfSome o (λ s. len ≡ length (part area s)) → at < len
    → IfSome o (λ s. IsFilled (part area s) at gates) → length gates ≡ 1 → IfSome o (λ s. IsGate (part area s) at (eqb (get_or gates 0 0) 1))
gate_tells area None len at gates length_is within read one = tt
gate_tells area (Some s) len at gates length_is within read one =
    let is = gate_read (part area s) gates at read one (omega (arith, length_is, within)) in
    let x = get_or gates 0 0 in
    ⊎_elim
    (λ (t : (eqb x 1 ≡ true) × (x ≡ 1)). subst (IsGate (part area s) at) (sym t.0) (is ∙ ap (λ g. g ∷ drop (at + 1) (part area s)) t.1))
    (λ (t : (eqb x 1 ≡ false) × (x ≢ 1)). subst (IsGate (part area s) at) (sym t.0) (x, drop (at + 1) (part area s), t.1, is))
    (eqb_tells x 1)

-- why a record is refused
abbrev pub IsRefused : ℕ → ℕ → ℕ → ℕ → Type 0
IsRefused len at n most = (n ≡ 0) ⊎ ((most < n) ⊎ (len - at ≤ 5 + n))

not_whole : (bytes sizes : List ℕ) (at n most : ℕ) → IsFilled bytes (at + 1) sizes → length sizes ≡ 5 → n ≡ from_be_bytes w32 (take 4 sizes)
    → most ≡ most_at at (get_or sizes 4 0) → at < length bytes → IsRefused (length bytes) at n most → IsWhole at (drop (at + 1) bytes) → ⊥
not_whole bytes sizes at n most read five is limit within refused whole =
    let behind = drop (at + 1) bytes in
    let same_five : sizes ≡ take 5 behind = read ∙ ap (λ k. take k behind) five in
    let same : n ≡ length_in behind = is ∙ ap (λ (l : List ℕ). from_be_bytes w32 (take 4 l)) same_five ∙ ap (from_be_bytes w32) (take-take 4 5 behind (omega arith)) in
    let byte : get_or sizes 4 0 ≡ get_or behind 4 0 = ap (λ (l : List ℕ). get_or l 4 0) same_five ∙ get_or-take 5 behind 4 0 (omega arith) in
    let limit_is : most ≡ most_at at (get_or behind 4 0) = limit ∙ ap (λ (k : ℕ). most_at at k) byte in
    out_of_range (length bytes) at n (length_in behind) most (most_at at (get_or behind 4 0)) (length behind) same limit_is (length-drop (at + 1) bytes) within
    whole.some whole.no_more whole.room refused
  where
    out_of_range : (len at n m most limit rest : ℕ) → n ≡ m → most ≡ limit → rest ≡ len - (at + 1) → at < len → 1 ≤ m → m ≤ limit → 4 + m < rest
        → ((n ≡ 0) ⊎ ((most < n) ⊎ (len - at ≤ 5 + n))) → ⊥
    out_of_range len at n m most limit rest same is left within some no_more room (inl zero) = omega arith
    out_of_range len at n m most limit rest same is left within some no_more room (inr (inl much)) = omega arith
    out_of_range len at n m most limit rest same is left within some no_more room (inr (inr short)) = omega arith

-- an open gate without a whole record behind it
pub broken : (area : Area) (o : Option Areas) (sizes : List ℕ) (len at n most : ℕ) → IfSome o (λ s. len ≡ length (part area s)) → 5 < len - at
    → IfSome o (λ s. IsGate (part area s) at true) → IfSome o (λ s. IsFilled (part area s) (at + 1) sizes) → length sizes ≡ 5 → n ≡ from_be_bytes w32 (take 4 sizes)
    → most ≡ most_at at (get_or sizes 4 0) → IsRefused len at n most → IfSome o (λ s. IsBrokenAt (Open.Damaged at) (part area s) at)
broken area None sizes len at n most is room gate read five number limit refused = tt
broken area (Some s) sizes len at n most is room gate read five number limit refused = (
  drop (at + 1) (part area s),
  refl,
  gate,
  not_whole (part area s) sizes at n most read five number limit (omega (arith, is, room)) (subst (λ k. IsRefused k at n most) is refused),
)

-- an open gate so near to the end that nothing whole stands behind it
pub broken_end : (area : Area) (o : Option Areas) (len at : ℕ) → IfSome o (λ s. len ≡ length (part area s)) → IfSome o (λ s. IsGate (part area s) at true) → len - at ≤ 5
    → IfSome o (λ s. IsBrokenAt (Open.Damaged at) (part area s) at)
broken_end area None len at is gate near = tt
broken_end area (Some s) len at is gate near = (
  drop (at + 1) (part area s),
  refl,
  gate,
  λ whole. omega (arith, is, near, whole.room, length-drop (at + 1) (part area s)),
)

-- the four bytes of the length
pub size_is : (area : Area) (o : Option Areas) (sizes : List ℕ) (at n : ℕ) → IfSome o (λ s. IsFilled (part area s) (at + 1) sizes) → length sizes ≡ 5
    → to_be_bytes w32 n ≡ take 4 sizes → IfSome o (λ s. take 4 (drop (at + 1) (part area s)) ≡ to_be_bytes w32 n)
size_is area None sizes at n read five back = tt
size_is area (Some s) sizes at n read five back =
    let behind = drop (at + 1) (part area s) in
    sym (back ∙ ap (take 4) (read ∙ ap (λ k. take k behind) five) ∙ take-take 4 5 behind (omega arith))

-- and the byte behind it
pub byte_is : (area : Area) (o : Option Areas) (sizes : List ℕ) (at n most : ℕ) → IfSome o (λ s. IsFilled (part area s) (at + 1) sizes) → length sizes ≡ 5
    → most ≡ most_at at (get_or sizes 4 0) → n ≤ most → IfSome o (λ s. n ≤ most_at at (get_or (part area s) (at + 5) 0))
byte_is area None sizes at n most read five limit small = tt
byte_is area (Some s) sizes at n most read five limit small =
    let behind = drop (at + 1) (part area s) in
    let byte : get_or sizes 4 0 ≡ get_or (part area s) (at + 5) 0 =
    ap (λ (l : List ℕ). get_or l 4 0) (read ∙ ap (λ k. take k behind) five) ∙ get_or-take 5 behind 4 0 (omega arith) ∙ get_or-drop (at + 1) (part area s) 4 0
    ∙ ap (λ k. get_or (part area s) k 0) (omega arith) in
    let same : most ≡ most_at at (get_or (part area s) (at + 5) 0) = limit ∙ ap (λ (k : ℕ). most_at at k) byte in
    omega (arith, small, same)

-- a whole record and a next gate
pub whole : (area : Area) (o : Option Areas) (buf : List ℕ) (body : Vec ℕ Global) (len at n : ℕ) → IfSome o (λ s. len ≡ length (part area s))
    → IfSome o (λ s. IsGate (part area s) at true) → IfSome o (λ s. take 4 (drop (at + 1) (part area s)) ≡ to_be_bytes w32 n)
    → IfSome o (λ s. n ≤ most_at at (get_or (part area s) (at + 5) 0)) → 1 ≤ n
    → IfSome o (λ s. IsFilled (part area s) (at + 5) buf) → length buf ≡ n → body.items ≡ buf → at + 5 + n < len
    → IfSome o (λ s. IsRecord (part area s) at (Some body))
whole area None buf body len at n is gate size_is most some read_body length_is items room = tt
whole area (Some s) buf body len at n is gate size_is most some read_body length_is items room =
    let long : length body.items ≡ n = ap length items ∙ length_is in
    let next_at = at + 5 + n in
    let spelled : take 4 (drop (at + 1) (part area s)) ≡ to_be_bytes w32 (length body.items) = size_is ∙ ap (to_be_bytes w32) (sym long) in
    let body_is : body.items ≡ take n (drop (at + 5) (part area s)) = items ∙ read_body ∙ ap (λ k. take k (drop (at + 5) (part area s))) length_is in
    let after_size : drop (at + 1) (part area s) ≡ to_be_bytes w32 (length body.items) ++ drop (at + 5) (part area s) =
    sym (take-append-drop 4 (drop (at + 1) (part area s))) ∙ ap (λ l. l ++ drop 4 (drop (at + 1) (part area s))) spelled
    ∙ ap (λ l. to_be_bytes w32 (length body.items) ++ l) (drop-drop 4 (at + 1) (part area s) ∙ ap (λ k. drop k (part area s)) (omega arith)) in
    let after_body : drop (at + 5) (part area s) ≡ body.items ++ drop next_at (part area s) =
    sym (take-append-drop n (drop (at + 5) (part area s))) ∙ ap (λ l. l ++ drop n (drop (at + 5) (part area s))) (sym body_is) ∙ ap (λ l. body.items ++ l) (drop-drop n (at + 5) (part area s)) in
    let byte : get_or body.items 0 0 ≡ get_or (part area s) (at + 5) 0 =
    ap (λ (l : List ℕ). get_or l 0 0) body_is ∙ get_or-take n (drop (at + 5) (part area s)) 0 0 (omega (arith, some)) ∙ get_or-drop (at + 5) (part area s) 0 0
    ∙ ap (λ k. get_or (part area s) k 0) (omega arith) in
    let at_next : drop next_at (part area s) ≡ get_or (part area s) next_at 0 ∷ drop (next_at + 1) (part area s) = drop_more (part area s) next_at 0 (omega arith) in (
      get_or (part area s) next_at 0,
      drop (next_at + 1) (part area s),
      gate ∙ ap (λ l. 1 ∷ l) (after_size ∙ ap (λ l. to_be_bytes w32 (length body.items) ++ l) (after_body ∙ ap (λ l. body.items ++ l) at_next)
          ∙ sym (append_assoc (to_be_bytes w32 (length body.items)) body.items (get_or (part area s) next_at 0 ∷ drop (next_at + 1) (part area s)))),
      (omega (arith, long, some), omega (arith, long, most, ap (λ (k : ℕ). most_at at k) byte)),
    )

-- what was read so far: all before the place is the front of these bodies of a version
abbrev pub ReadTo : ℕ → Area → Option Areas → ℕ → List (List ℕ) → Type 0
ReadTo version area o at bodies = IfSome o (λ s. (take at (part area s) ≡ front version bodies) × HaveSizes bodies)

-- one record more
pub read_more : (version : ℕ) (area : Area) (o : Option Areas) (at next : ℕ) (bodies : List (List ℕ)) (body : Vec ℕ Global) → at + 1 ≡ size bodies → next ≡ at + (5 + length body.items)
    → ReadTo version area o at bodies → IfSome o (λ s. IsRecord (part area s) at (Some body)) → ReadTo version area o next (bodies ++ body.items ∷ [])
read_more version area None at next bodies body used step so_far one = tt
read_more version area (Some s) at next bodies body used step so_far one =
    let rest = one.0 ∷ one.1 in
    let is : part area s ≡ front version (bodies ++ body.items ∷ []) ++ rest =
    sym (take-append-drop at (part area s)) ∙ ap (λ l. l ++ drop at (part area s)) so_far.0 ∙ ap (λ l. front version bodies ++ l) one.2 ∙ sym (front-more version bodies body.items rest) in
    let place : at ≡ length (front version bodies) = omega (arith, used, length-front version bodies) in (
      ap (take next) is ∙ take_at (front version (bodies ++ body.items ∷ [])) rest next (omega (arith, used, step, length-front version (bodies ++ body.items ∷ []), size-more bodies body.items)),
      sizes-more version bodies body.items so_far.1 (subst (λ (p : ℕ). MayStandAt p body.items) place one.3),
    )

-- at the closed gate
pub read_all : (version : ℕ) (area : Area) (o : Option Areas) (at : ℕ) (bodies : List (List ℕ)) → IsVersion version → ReadTo version area o at bodies
    → IfSome o (λ s. IsRecord (part area s) at None) → IfSome o (λ s. AtRest version (part area s) bodies)
read_all version area None at bodies known so_far gate = tt
read_all version area (Some s) at bodies known so_far gate = record {
  known = known;
  gate = gate.0;
  behind = gate.1;
  closed = gate.2;
  sizes = so_far.1;
  is = sym (take-append-drop at (part area s)) ∙ ap (λ l. l ++ drop at (part area s)) so_far.0 ∙ ap (λ l. front version bodies ++ l) gate.3;
}

-- at a broken record
pub read_broken : (version : ℕ) (area : Area) (o : Option Areas) (len at : ℕ) (bodies : List (List ℕ)) (f : OpenFault) → IsVersion version → IfSome o (λ s. len ≡ length (part area s))
    → 17 < len → at + 1 ≡ size bodies → ReadTo version area o at bodies → IfSome o (λ s. IsBrokenAt f (part area s) at) → IfSome o (λ s. IsShown f (part area s))
read_broken version area None len at bodies f known is long used so_far shown = tt
read_broken version area (Some s) len at bodies (Open.Damaged place) known is long used so_far shown = record {
  long = omega arith;
  version = version;
  known = known;
  bodies = bodies;
  rest = shown.0;
  sizes = so_far.1;
  is = sym (take-append-drop at (part area s)) ∙ ap (λ l. l ++ drop at (part area s)) so_far.0 ∙ ap (λ l. front version bodies ++ l) shown.2;
  at = omega (arith, shown.1, length-front version bodies);
  broken = subst (λ (n : ℕ). IsWhole n shown.0 → ⊥) (sym shown.1) shown.3;
}
read_broken version area (Some s) len at bodies (Open.DiskFault was now) known is long used so_far shown = tt
read_broken version area (Some s) len at bodies (Open.NotJournal byte) known is long used so_far shown = absurd shown
read_broken version area (Some s) len at bodies (Open.WrongVersion found) known is long used so_far shown = absurd shown
read_broken version area (Some s) len at bodies (Open.TooWide size) known is long used so_far shown = absurd shown
read_broken version area (Some s) len at bodies Open.Memory known is long used so_far shown = tt

-- the first byte of the front that is not the name's
pub no_journal : (bytes buf part : List ℕ) (k : ℕ) → 17 < length bytes → take 16 bytes ≡ buf → part ≡ take 12 buf
    → (k < length part) × (take k part ≡ take k name) × (get_or part k 0 ≢ get_or name k 0) → IsNoJournal bytes k
no_journal bytes buf part k long front_of is first =
    let named : part ≡ take 12 bytes = is ∙ ap (take 12) (sym front_of) ∙ take-take 12 16 bytes (omega arith) in
    let below : k < 12 = omega (arith, first.0, ap length named, length-take 12 bytes) in
    let here : get_or part k 0 ≡ get_or bytes k 0 = ap (λ (l : List ℕ). get_or l k 0) named ∙ get_or-take 12 bytes k 0 below in
    record {
      long = long;
      within = below;
      same = sym (take-take k 12 bytes (omega arith)) ∙ ap (take k) (sym named) ∙ first.1;
      other = λ same. first.2 (here ∙ same);
    }

-- four bytes, one by one
four_bytes : (l : List ℕ) → length l ≡ 4 → get_or l 0 0 ∷ get_or l 1 0 ∷ get_or l 2 0 ∷ get_or l 3 0 ∷ [] ≡ l
four_bytes [] is = absurd (omega arith)
four_bytes (a ∷ []) is = absurd (omega arith)
four_bytes (a ∷ b ∷ []) is = absurd (omega arith)
four_bytes (a ∷ b ∷ c ∷ []) is = absurd (omega arith)
four_bytes (a ∷ b ∷ c ∷ d ∷ []) is = refl
four_bytes (a ∷ b ∷ c ∷ d ∷ e ∷ l) is = absurd (omega arith)

-- the digits of no version behind the name
pub other_version : (bytes buf part rest : List ℕ) → 17 < length bytes → take 16 bytes ≡ buf → length buf ≡ 16
    → part ≡ take 12 buf → part ≡ name → rest ≡ drop 12 buf → ((version : ℕ) → IsVersion version → buf ≡ head_of version → ⊥)
    → IsOfVersion bytes (get_or rest 0 0 ∷ get_or rest 1 0 ∷ get_or rest 2 0 ∷ get_or rest 3 0 ∷ [])
other_version bytes buf part rest long front_of sixteen is named behind other =
    let found : rest ≡ take 4 (drop 12 bytes) = behind ∙ ap (drop 12) (sym front_of) ∙ drop-take 12 4 bytes in
    let four : get_or rest 0 0 ∷ get_or rest 1 0 ∷ get_or rest 2 0 ∷ get_or rest 3 0 ∷ [] ≡ rest = four_bytes rest (omega (arith, sixteen, ap length behind, length-drop 12 buf)) in
    let joined : buf ≡ name ++ rest = sym (take-append-drop 12 buf) ∙ ap (λ l. l ++ drop 12 buf) (sym is ∙ named) ∙ ap (λ l. name ++ l) (sym behind) in
    record {
      long = long;
      named = sym (take-take 12 16 bytes (omega arith)) ∙ ap (take 12) front_of ∙ sym is ∙ named;
      is = four ∙ found;
      other = λ version known same. other version known (joined ∙ ap (λ l. name ++ l) (sym four ∙ same));
    }

pub short_told : (area : Area) (o : Option Areas) (len : ℕ) → IfSome o (λ s. len ≡ length (part area s)) → len ≤ 17 → IfSome o (λ s. length (part area s) ≤ 17)
short_told area None len is short = tt
short_told area (Some s) len is short = omega arith
