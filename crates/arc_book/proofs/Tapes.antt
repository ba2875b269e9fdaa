-- What was read of an area says what the area is.
use Rattle.std.proofs.Common.{◌≡◌, ◌≢◌, ◌⊎◌, ◌≤◌, ◌<◌, ◌+◌, ◌^◌, ℕ, List, [], ◌∷◌, ◌++◌, length, Option, Some, None, refl, sym, ap, ◌∙◌, subst, inl, inr, arith, append_assoc, length-append}
use Rattle.std.specs.Prelude.{IfSome}
use Rattle.std.specs.Io.KnownBytes.{prepend_known}
use Rattle.arc_io.proofs.KnownMore.{known_taken}
use Rattle.disk_journal.specs.Records.{front as bytes_before, bytes_of, IsWhole, IsDamaged, MayStandAt, Stands}
use Rattle.disk_journal.specs.declared.fault.OpenFault.{OpenFault}
use Rattle.disk_journal.specs.declared.fault.OpenFault.TheVariants as Open
use Rattle.disk_journal.proofs.Gates.{front-more, sizes-more, length-front, size-more}
use Rattle.arc_book.specs.Compiled.{BeginsWith, EndsAt, EndsRefused}
use Rattle.arc_book.specs.Portions.{Portion, bodies_told, HasNoNextIn}
use Rattle.arc_book.specs.Tapes.{IsReadTo, IsBodyAhead, IsBrokenAhead}

pub some_is : {A : Type 0} (x y : A) → Some x ≡ Some y → x ≡ y
some_is x y e = cc

pub never : {A : Type 0} (x : A) → Some x ≡ None → ⊥
never x e = cc

-- what is told of an area of which something was told ahead, and what of one of which nothing was
pub told : (P : List ℕ → Type 0) (all rest : Option (List ℕ)) (before : List ℕ) → all ≡ prepend_known before rest
    → ((bytes behind : List ℕ) → all ≡ Some bytes → rest ≡ Some behind → bytes ≡ before ++ behind → P bytes) → IfSome all P
told P None rest before is so = tt
told P (Some bytes) None before is so = absurd (never bytes is)
told P (Some bytes) (Some behind) before is so = so bytes behind refl refl (some_is bytes (before ++ behind) is)

gated : (version : ℕ) (bodies : List (List ℕ)) (gate : ℕ) (behind bytes : List ℕ) → bytes ≡ (bytes_before version bodies ++ gate ∷ []) ++ behind → bytes ≡ bytes_before version bodies ++ gate ∷ behind
gated version bodies gate behind bytes is = is ∙ append_assoc (bytes_before version bodies) (gate ∷ []) behind

-- behind a closed gate nothing counts
pub stands_at : {version : ℕ} (all : Option (List ℕ)) (bodies : List (List ℕ)) (gate place : ℕ) (rest : Option (List ℕ)) → IsReadTo version all bodies gate place rest → gate ≢ 1
    → IfSome all (λ bytes. Stands version bytes bodies)
stands_at {version} all bodies gate place rest r closed =
    told (λ bytes. Stands version bytes bodies) all rest (bytes_before version bodies ++ gate ∷ []) r.is
    (λ bytes behind some some' is. inr (record { known = r.known; gate = gate; behind = behind; closed = closed; sizes = r.sizes; is = gated version bodies gate behind bytes is }))

pub begins_at : {version : ℕ} (all : Option (List ℕ)) (p : Portion version) (gate place : ℕ) (rest : Option (List ℕ)) → IsReadTo version all (bodies_told p) gate place rest
    → IfSome all (BeginsWith p)
begins_at {version} all p gate place rest r =
    told (BeginsWith p) all rest (bytes_before version (bodies_told p) ++ gate ∷ []) r.is
    (λ bytes behind some some' is. inr (gate ∷ behind, gated version (bodies_told p) gate behind bytes is))

pub spent_at : {version : ℕ} (all : Option (List ℕ)) (bodies : List (List ℕ)) (gate place : ℕ) (rest : Option (List ℕ)) → IsReadTo version all bodies gate place rest → 2 ^ 40 ≤ place
    → IfSome all (λ bytes. 2 ^ 40 ≤ length bytes)
spent_at {version} all bodies gate place rest r far =
    told (λ bytes. 2 ^ 40 ≤ length bytes) all rest (bytes_before version bodies ++ gate ∷ []) r.is
    (λ bytes behind some some' is. omega (arith, far, r.at, ap length (gated version bodies gate behind bytes is), length-append (bytes_before version bodies) (gate ∷ behind)))

pub both_far : {version : ℕ} (all : Option (List ℕ)) (p : Portion version) → IfSome all (BeginsWith p) → IfSome all (λ bytes. 2 ^ 40 ≤ length bytes)
    → IfSome all (λ bytes. BeginsWith p bytes × (2 ^ 40 ≤ length bytes))
both_far {version} None p x y = tt
both_far {version} (Some bytes) p x y = (x, y)

-- so far that no more is read
pub spent_end : {version : ℕ} (all : Option (List ℕ)) (p : Portion version) (gate place : ℕ) (rest : Option (List ℕ)) → IsReadTo version all (bodies_told p) gate place rest → 2 ^ 40 ≤ place
    → IfSome all (λ bytes. BeginsWith p bytes × (2 ^ 40 ≤ length bytes))
spent_end {version} all p gate place rest r far = both_far all p (begins_at all p gate place rest r) (spent_at all (bodies_told p) gate place rest r far)

lacks_ahead : (place : ℕ) (rest : Option (List ℕ)) (behind : List ℕ) → rest ≡ Some behind → IsBrokenAhead place rest → IsWhole place behind → ⊥
lacks_ahead place None behind is broken whole = absurd (never behind (sym is))
lacks_ahead place (Some x) behind is broken whole = broken (subst (IsWhole place) (sym (some_is x behind is)) whole)

pub long_bytes : (all : Option (List ℕ)) (bytes : List ℕ) → all ≡ Some bytes → IfSome all (λ b. 17 < length b) → 17 < length bytes
long_bytes None bytes is long = absurd (never bytes (sym is))
long_bytes (Some x) bytes is long = subst (λ (b : List ℕ). 17 < length b) (some_is x bytes is) long

-- no whole record stands behind an open gate
pub damaged_at : {version : ℕ} (all : Option (List ℕ)) (bodies : List (List ℕ)) (gate place : ℕ) (rest : Option (List ℕ)) → IsReadTo version all bodies gate place rest → gate ≡ 1
    → IsBrokenAhead place rest → IfSome all (λ bytes. IsDamaged bytes place)
damaged_at {version} all bodies gate place rest r opened broken =
    told (λ bytes. IsDamaged bytes place) all rest (bytes_before version bodies ++ gate ∷ []) r.is
    (λ bytes behind some some' is.
    let lacks = lacks_ahead place rest behind some' broken in
    record {
      long = long_bytes all bytes some r.long;
      version = version;
      known = r.known;
      bodies = bodies;
      rest = behind;
      sizes = r.sizes;
      is = gated version bodies gate behind bytes is ∙ ap (λ g. bytes_before version bodies ++ g ∷ behind) opened;
      at = r.at;
      broken = lacks;
    })

pub ends_broken : {version : ℕ} (all : Option (List ℕ)) (p : Portion version) (gate place : ℕ) (rest : Option (List ℕ)) → IsReadTo version all (bodies_told p) gate place rest → gate ≡ 1
    → IsBrokenAhead place rest → IfSome all (EndsAt p)
ends_broken {version} all p gate place rest r opened broken =
    told (EndsAt p) all rest (bytes_before version (bodies_told p) ++ gate ∷ []) r.is
    (λ bytes behind some some' is.
    let lacking = lacks_ahead place rest behind some' broken in
    record {
      rest = behind;
      is = gated version (bodies_told p) gate behind bytes is ∙ ap (λ g. bytes_before version (bodies_told p) ++ g ∷ behind) opened;
      lacks = inl (subst (λ (n : ℕ). IsWhole n behind → ⊥) r.at lacking);
    })

-- the end at an open gate behind which no whole record stands
pub broken_end : {version : ℕ} (all : Option (List ℕ)) (p : Portion version) (gate place : ℕ) (rest : Option (List ℕ)) → IsReadTo version all (bodies_told p) gate place rest → gate ≡ 1
    → IsBrokenAhead place rest → IfSome all (EndsRefused (Open.Damaged place) p)
broken_end {version} all p gate place rest r opened broken =
    refused_both all (damaged_at all (bodies_told p) gate place rest r opened broken) (ends_broken all p gate place rest r opened broken)
  where
    refused_both : (all : Option (List ℕ)) → IfSome all (λ bytes. IsDamaged bytes place) → IfSome all (EndsAt p) → IfSome all (EndsRefused (Open.Damaged place) p)
    refused_both None damaged ends = tt
    refused_both (Some bytes) damaged ends = (inl damaged, ends)

-- one record more was read
pub read_on : {version : ℕ} (all : Option (List ℕ)) (bodies : List (List ℕ)) (body : List ℕ) (gate place next : ℕ) (before rest : Option (List ℕ)) → IsReadTo version all bodies 1 place before
    → IsBodyAhead place before body gate rest → next ≡ place + (5 + length body) → IsReadTo version all (bodies ++ body ∷ []) gate next rest
read_on {version} all bodies body gate place next before rest r ahead step = record {
  known = r.known;
  sizes = sizes-more version bodies body r.sizes (subst (λ (n : ℕ). MayStandAt n body) r.at ahead.size);
  at = omega (arith, step, r.at, length-front version bodies, length-front version (bodies ++ body ∷ []), size-more bodies body);
  long = r.long;
  is = r.is ∙ ap (prepend_known (bytes_before version bodies ++ 1 ∷ [])) ahead.is ∙ known_taken rest (bytes_before version bodies ++ 1 ∷ []) (bytes_of body ++ gate ∷ [])
      ∙ ap (λ l. prepend_known l rest) (append_assoc (bytes_before version bodies) (1 ∷ []) (bytes_of body ++ gate ∷ []) ∙ sym (front-more version bodies body (gate ∷ [])));
}

-- the end at a record with whose body nothing goes on
pub ends_bad : {version : ℕ} (all : Option (List ℕ)) (p : Portion version) (body : List ℕ) (gate next : ℕ) (rest : Option (List ℕ)) → IsReadTo version all (bodies_told p ++ body ∷ []) gate next rest
    → HasNoNextIn p body → IfSome all (EndsAt p)
ends_bad {version} all p body gate next rest r bad =
    told (EndsAt p) all rest (bytes_before version (bodies_told p ++ body ∷ []) ++ gate ∷ []) r.is
    (λ bytes behind some some' is. record {
      rest = bytes_of body ++ gate ∷ behind;
      is = gated version (bodies_told p ++ body ∷ []) gate behind bytes is ∙ front-more version (bodies_told p) body (gate ∷ behind);
      lacks = inr (body, gate ∷ behind, refl, bad);
    })

-- what a reading behind a bad body finds is a refusal of the area
pub bad_end : {version : ℕ} (all : Option (List ℕ)) (p : Portion version) (body : List ℕ) (fault : OpenFault) (place : ℕ) → IfSome all (EndsAt p) → place ≡ length (bytes_before version (bodies_told p))
    → ((fault ≡ Open.Damaged place) × ((behind : List (List ℕ)) × IfSome all (λ bytes. Stands version bytes ((bodies_told p ++ body ∷ []) ++ behind))))
    ⊎ ((q : ℕ) × (fault ≡ Open.Damaged q) × IfSome all (λ bytes. IsDamaged bytes q))
    → IfSome all (EndsRefused fault p)
bad_end {version} None p body fault place ends at found = tt
bad_end {version} (Some bytes) p body fault place ends at (inl f) =
    subst (λ (x : OpenFault). EndsRefused x p bytes) (sym f.0) (inr (at, ((bodies_told p ++ body ∷ []) ++ f.1.0, f.1.1)), ends)
bad_end {version} (Some bytes) p body fault place ends at (inr f) = subst (λ (x : OpenFault). EndsRefused x p bytes) (sym f.1) (inl f.2, ends)
