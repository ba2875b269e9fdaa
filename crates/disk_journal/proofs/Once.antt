-- Bytes have one answer.
use Rattle.std.proofs.Common.{◌≡◌, ◌≢◌, ◌≤◌, ◌<◌, ◌+◌, ℕ, suc, Option, Some, None, subst, List, [], ◌∷◌, ◌++◌, length, take, drop, get_or, refl, sym, ap, ◌∙◌, inl, inr, arith, append_assoc, length-append}
use Rattle.std.specs.Prelude.{All, is_some}
use Rattle.std.specs.Int.{to_be_bytes, from_be_bytes, w32}
use Rattle.std.proofs.lemmas.List.{take_at, drop_at, get_or-take}
use Rattle.std.proofs.lemmas.Nat.{from_be_bytes-to_be_bytes_4}
use Rattle.std.proofs.lemmas.Bool.{cases_order}
use Rattle.arc_io.specs.Areas.{Areas}
use Rattle.disk_journal.specs.Records.{name, digits_of, front, records_of, bytes_of, AtRest, Stands, MayHave, MayStandAt, most_at, HaveSizes, IsNoJournal, IsWhole, length_in, size}
use Rattle.disk_journal.specs.Faults.{IsShown, IsOfContent, HasOneAnswer, HaveOneAnswer}
use Rattle.disk_journal.specs.Standing.{chosen_part, all_of}
use Rattle.disk_journal.specs.declared.fault.OpenFault.{OpenFault}
use Rattle.disk_journal.specs.declared.fault.OpenFault.TheVariants as Open
use Rattle.disk_journal.proofs.Gates.{length-front, size-least, most_most, small_stands}

-- Each body has a length that it may have at its place. The first stands at this place.
Sizes : ℕ → List (List ℕ) → Type 0
Sizes place [] = Unit {0}
Sizes place (body ∷ bodies) = MayStandAt place body × Sizes (place + (5 + length body)) bodies

small_sizes : (place : ℕ) (bodies : List (List ℕ)) → 16 < place → All (λ (b : List ℕ). MayHave (length b)) bodies → Sizes place bodies
unfolding Sizes
small_sizes place [] above sizes = tt
small_sizes place (body ∷ bodies) above sizes =
    (small_stands place body (sizes 0 [] (omega arith)), small_sizes (place + (5 + length body)) bodies (omega arith) (λ k d below. sizes (suc k) d (omega arith)))

sizes_of : (bodies : List (List ℕ)) → HaveSizes bodies → Sizes 16 bodies
unfolding Sizes
sizes_of [] sizes = tt
sizes_of (body ∷ bodies) sizes = (sizes.0, small_sizes (16 + (5 + length body)) bodies (omega arith) sizes.1)

-- the place behind them
end_of : ℕ → List (List ℕ) → ℕ
end_of place [] = place
end_of place (body ∷ bodies) = end_of (place + (5 + length body)) bodies

end_is : (place : ℕ) (bodies : List (List ℕ)) → end_of place bodies + 17 ≡ place + size bodies
unfolding end_of
end_is place [] = omega arith
end_is place (body ∷ bodies) = omega (arith, end_is (place + (5 + length body)) bodies)

front_end : (version : ℕ) (bodies : List (List ℕ)) → end_of 16 bodies ≡ length (front version bodies)
front_end version bodies = omega (arith, end_is 16 bodies, length-front version bodies)

-- one record is read in one way
record Same (a b x y : List ℕ) : Type 0 where
  body : a ≡ b
  rest : x ≡ y

one_record : (p : ℕ) (a b x y : List ℕ) → MayStandAt p a → MayStandAt p b → bytes_of a ++ x ≡ bytes_of b ++ y → Same a b x y
one_record p a b x y small_a small_b is =
    let short_a : length a < 4_294_967_296 = omega (arith, small_a.1, most_most p (get_or a 0 0)) in
    let short_b : length b < 4_294_967_296 = omega (arith, small_b.1, most_most p (get_or b 0 0)) in
    let spelled : to_be_bytes w32 (length a) ++ (a ++ x) ≡ to_be_bytes w32 (length b) ++ (b ++ y) =
    sym (append_assoc (to_be_bytes w32 (length a)) a x) ∙ is ∙ append_assoc (to_be_bytes w32 (length b)) b y in
    let sizes : to_be_bytes w32 (length a) ≡ to_be_bytes w32 (length b) =
    sym (take_at (to_be_bytes w32 (length a)) (a ++ x) 4 refl) ∙ ap (take 4) spelled ∙ take_at (to_be_bytes w32 (length b)) (b ++ y) 4 refl in
    let long : length a ≡ length b =
    sym (from_be_bytes-to_be_bytes_4 (length a) (omega (arith, short_a))) ∙ ap (from_be_bytes w32) sizes ∙ from_be_bytes-to_be_bytes_4 (length b) (omega (arith, short_b)) in
    let behind : a ++ x ≡ b ++ y = sym (drop_at (to_be_bytes w32 (length a)) (a ++ x) 4 refl) ∙ ap (drop 4) spelled ∙ drop_at (to_be_bytes w32 (length b)) (b ++ y) 4 refl in
    record {
      body = sym (take_at a x (length a) refl) ∙ ap (take (length a)) behind ∙ take_at b y (length a) (sym long);
      rest = sym (drop_at a x (length a) refl) ∙ ap (drop (length a)) behind ∙ drop_at b y (length a) (sym long);
    }

-- the first record, and what follows it
split : (body : List ℕ) (bodies : List (List ℕ)) (rest : List ℕ) → records_of (body ∷ bodies) ++ rest ≡ 1 ∷ (bytes_of body ++ (records_of bodies ++ rest))
split body bodies rest = ap (λ l. 1 ∷ l) (append_assoc (bytes_of body) (records_of bodies) rest)

-- two lists before closed gates
lists_same : (p : ℕ) (ones others : List (List ℕ)) (g h : ℕ) (x y : List ℕ) → Sizes p ones → Sizes p others → g ≢ 1 → h ≢ 1 → records_of ones ++ g ∷ x ≡ records_of others ++ h ∷ y → ones ≡ others
unfolding Sizes
lists_same p [] [] g h x y sa sb shut_g shut_h is = refl
lists_same p [] (b ∷ others) g h x y sa sb shut_g shut_h is = let e : g ≡ 1 = ap (λ (l : List ℕ). get_or l 0 0) is in absurd (shut_g e)
lists_same p (a ∷ ones) [] g h x y sa sb shut_g shut_h is = let e : 1 ≡ h = ap (λ (l : List ℕ). get_or l 0 0) is in absurd (shut_h (sym e))
lists_same p (a ∷ ones) (b ∷ others) g h x y sa sb shut_g shut_h is =
    let both : bytes_of a ++ (records_of ones ++ g ∷ x) ≡ bytes_of b ++ (records_of others ++ h ∷ y) = ap (drop 1) (sym (split a ones (g ∷ x)) ∙ is ∙ split b others (h ∷ y)) in
    let one = one_record p a b (records_of ones ++ g ∷ x) (records_of others ++ h ∷ y) sa.0 sb.0 both in
    let sizes_b : Sizes (p + (5 + length a)) others = subst (λ (l : List ℕ). Sizes (p + (5 + length l)) others) (sym one.body) sb.1 in
    let more = lists_same (p + (5 + length a)) ones others g h x y sa.1 sizes_b shut_g shut_h one.rest in
    ap (λ c. c ∷ ones) one.body ∙ ap (λ cs. b ∷ cs) more

first_byte : (a x : List ℕ) → 1 ≤ length a → get_or (a ++ x) 0 0 ≡ get_or a 0 0
first_byte [] x some = absurd (omega arith)
first_byte (y ∷ a) x some = refl

-- what stands behind an open gate and begins with a body's record is whole
whole_record : (p : ℕ) (a : List ℕ) (ones : List (List ℕ)) (g : ℕ) (x rest : List ℕ) → MayStandAt p a → bytes_of a ++ (records_of ones ++ g ∷ x) ≡ rest → IsWhole p rest
whole_record p a ones g x rest small is =
    let short : length a < 4_294_967_296 = omega (arith, small.1, most_most p (get_or a 0 0)) in
    let spelled : rest ≡ to_be_bytes w32 (length a) ++ (a ++ (records_of ones ++ g ∷ x)) = sym is ∙ append_assoc (to_be_bytes w32 (length a)) a (records_of ones ++ g ∷ x) in
    let number : length_in rest ≡ length a =
    ap (λ l. from_be_bytes w32 (take 4 l)) spelled ∙ ap (from_be_bytes w32) (take_at (to_be_bytes w32 (length a)) (a ++ (records_of ones ++ g ∷ x)) 4 refl) ∙ from_be_bytes-to_be_bytes_4 (length a) (omega (arith, short)) in
    let long : length rest ≡ 4 + (length a + (length (records_of ones) + (1 + length x))) =
    omega (arith, ap length spelled, length-append a (records_of ones ++ g ∷ x), length-append (records_of ones) (g ∷ x)) in
    let byte : get_or rest 4 0 ≡ get_or a 0 0 = ap (λ (l : List ℕ). get_or l 4 0) spelled ∙ first_byte a (records_of ones ++ g ∷ x) small.0 in
    let most : most_at p (get_or rest 4 0) ≡ most_at p (get_or a 0 0) = ap (λ (n : ℕ). most_at p n) byte in
    record { prefixed = omega (arith, long); some = omega (arith, number, small.0); no_more = omega (arith, number, most, small.1); room = omega (arith, number, long) }

-- a list before a closed gate, and one before a broken record
never_both : (p : ℕ) (ones others : List (List ℕ)) (g : ℕ) (x rest : List ℕ) → Sizes p ones → Sizes p others → g ≢ 1 → (IsWhole (end_of p others) rest → ⊥) → records_of ones ++ g ∷ x ≡ records_of others ++ 1 ∷ rest → ⊥
unfolding Sizes end_of
never_both p [] [] g x rest sa sb shut broken is = let e : g ≡ 1 = ap (λ (l : List ℕ). get_or l 0 0) is in shut e
never_both p [] (b ∷ others) g x rest sa sb shut broken is = let e : g ≡ 1 = ap (λ (l : List ℕ). get_or l 0 0) is in shut e
never_both p (a ∷ ones) [] g x rest sa sb shut broken is = broken (whole_record p a ones g x rest sa.0 (ap (drop 1) (sym (split a ones (g ∷ x)) ∙ is)))
never_both p (a ∷ ones) (b ∷ others) g x rest sa sb shut broken is =
    let both : bytes_of a ++ (records_of ones ++ g ∷ x) ≡ bytes_of b ++ (records_of others ++ 1 ∷ rest) = ap (drop 1) (sym (split a ones (g ∷ x)) ∙ is ∙ split b others (1 ∷ rest)) in
    let one = one_record p a b (records_of ones ++ g ∷ x) (records_of others ++ 1 ∷ rest) sa.0 sb.0 both in
    let sizes_a : Sizes (p + (5 + length b)) ones = subst (λ (l : List ℕ). Sizes (p + (5 + length l)) ones) one.body sa.1 in
    never_both (p + (5 + length b)) ones others g x rest sizes_a sb.1 shut broken one.rest

-- two lists before broken records
broken_same : (p : ℕ) (ones others : List (List ℕ)) (x y : List ℕ) → Sizes p ones → Sizes p others → (IsWhole (end_of p ones) x → ⊥) → (IsWhole (end_of p others) y → ⊥) → records_of ones ++ 1 ∷ x ≡ records_of others ++ 1 ∷ y → ones ≡ others
unfolding Sizes end_of
broken_same p [] [] x y sa sb broken_x broken_y is = refl
broken_same p [] (b ∷ others) x y sa sb broken_x broken_y is = absurd (broken_x (whole_record p b others 1 y x sb.0 (sym (ap (drop 1) (is ∙ split b others (1 ∷ y))))))
broken_same p (a ∷ ones) [] x y sa sb broken_x broken_y is = absurd (broken_y (whole_record p a ones 1 x y sa.0 (ap (drop 1) (sym (split a ones (1 ∷ x)) ∙ is))))
broken_same p (a ∷ ones) (b ∷ others) x y sa sb broken_x broken_y is =
    let both : bytes_of a ++ (records_of ones ++ 1 ∷ x) ≡ bytes_of b ++ (records_of others ++ 1 ∷ y) = ap (drop 1) (sym (split a ones (1 ∷ x)) ∙ is ∙ split b others (1 ∷ y)) in
    let one = one_record p a b (records_of ones ++ 1 ∷ x) (records_of others ++ 1 ∷ y) sa.0 sb.0 both in
    let sizes_b : Sizes (p + (5 + length a)) others = subst (λ (l : List ℕ). Sizes (p + (5 + length l)) others) (sym one.body) sb.1 in
    let still_broken : IsWhole (end_of (p + (5 + length a)) others) y → ⊥ = subst (λ (l : List ℕ). IsWhole (end_of (p + (5 + length l)) others) y → ⊥) (sym one.body) broken_y in
    let more = broken_same (p + (5 + length a)) ones others x y sa.1 sizes_b broken_x still_broken one.rest in
    ap (λ c. c ∷ ones) one.body ∙ ap (λ cs. b ∷ cs) more

-- what begins with a front has the head of its version
record HasHead (version : ℕ) (bytes : List ℕ) : Type 0 where
  named : take 12 bytes ≡ name
  versioned : take 4 (drop 12 bytes) ≡ digits_of version

has_head : (version : ℕ) (bytes rest : List ℕ) (bodies : List (List ℕ)) → bytes ≡ front version bodies ++ rest → HasHead version bytes
has_head version bytes rest bodies is = record { named = ap (take 12) is; versioned = ap (λ l. take 4 (drop 12 l)) is }

behind_head : (version further : ℕ) (bytes x y : List ℕ) (ones others : List (List ℕ)) → bytes ≡ front version ones ++ x → bytes ≡ front further others ++ y
    → records_of ones ++ x ≡ records_of others ++ y
behind_head version further bytes x y ones others one two = ap (drop 16) (sym one ∙ two)

-- it has one version
one_version : (version further : ℕ) (bytes x y : List ℕ) (ones others : List (List ℕ)) → bytes ≡ front version ones ++ x → bytes ≡ front further others ++ y → version ≡ further
one_version version further bytes x y ones others one two =
    let same : 48 + version ≡ 48 + further = ap (λ (l : List ℕ). get_or l 15 0) (sym one ∙ two) in omega (arith, same)

named_is_no_other : (bytes : List ℕ) (k : ℕ) → take 12 bytes ≡ name → IsNoJournal bytes k → ⊥
named_is_no_other bytes k named first = first.other (sym (get_or-take 12 bytes k 0 first.within) ∙ ap (λ (l : List ℕ). get_or l k 0) named)

-- the first other byte is at one place
first_is_first : (bytes : List ℕ) (k j : ℕ) → IsNoJournal bytes k → IsNoJournal bytes j → k < j → ⊥
first_is_first bytes k j one two less =
    one.other (sym (get_or-take j bytes k 0 less) ∙ ap (λ (l : List ℕ). get_or l k 0) two.same ∙ get_or-take j name k 0 less)

one_place : (bytes : List ℕ) (k j : ℕ) → IsNoJournal bytes k → IsNoJournal bytes j → k ≡ j
one_place bytes k j one two = elim (cases_order k j) [
  | inl e ↦ e
  | inr less ↦ elim less [ inl below ↦ absurd (first_is_first bytes k j one two below) | inr above ↦ absurd (first_is_first bytes j k two one above) ]
]

-- an area of at most 17 bytes has no record
no_record : (version : ℕ) (bytes : List ℕ) (bodies : List (List ℕ)) → length bytes ≤ 17 → AtRest version bytes bodies → bodies ≡ []
no_record version bytes [] short at_rest = refl
no_record version bytes (b ∷ bodies) short at_rest =
    absurd (omega (arith, ap length at_rest.is, length-append (front version (b ∷ bodies)) (at_rest.gate ∷ at_rest.behind), length-front version (b ∷ bodies), size-least bodies))

lists : (version further : ℕ) (bytes : List ℕ) (ones others : List (List ℕ)) → Stands version bytes ones → Stands further bytes others → ones ≡ others
lists version further bytes ones others (inl one) (inl two) = one.1 ∙ sym two.1
lists version further bytes ones others (inl one) (inr two) = one.1 ∙ sym (no_record further bytes others one.0 two)
lists version further bytes ones others (inr one) (inl two) = no_record version bytes ones two.0 one ∙ sym two.1
lists version further bytes ones others (inr one) (inr two) =
    lists_same 16 ones others one.gate two.gate one.behind two.behind (sizes_of ones one.sizes) (sizes_of others two.sizes) one.closed two.closed
    (behind_head version further bytes (one.gate ∷ one.behind) (two.gate ∷ two.behind) ones others one.is two.is)

versions : (version further : ℕ) (bytes : List ℕ) (ones others : List (List ℕ)) → 17 < length bytes → Stands version bytes ones → Stands further bytes others → version ≡ further
versions version further bytes ones others long (inl one) two = absurd (omega (arith, long, one.0))
versions version further bytes ones others long (inr one) (inl two) = absurd (omega (arith, long, two.0))
versions version further bytes ones others long (inr one) (inr two) =
    one_version version further bytes (one.gate ∷ one.behind) (two.gate ∷ two.behind) ones others one.is two.is

apart : (version : ℕ) (bytes : List ℕ) (bodies : List (List ℕ)) (f : OpenFault) → IsOfContent f → Stands version bytes bodies → IsShown f bytes → ⊥
apart version bytes bodies (Open.DiskFault was is) of stands shown = of
apart version bytes bodies Open.Memory of stands shown = of
apart version bytes bodies (Open.TooWide wide) of stands shown = shown
apart version bytes bodies (Open.NotJournal k) of (inl short) shown = omega (arith, shown.long, short.0)
apart version bytes bodies (Open.NotJournal k) of (inr rest) shown = named_is_no_other bytes k (has_head version bytes (rest.gate ∷ rest.behind) bodies rest.is).named shown
apart version bytes bodies (Open.WrongVersion found) of (inl short) shown = omega (arith, shown.long, short.0)
apart version bytes bodies (Open.WrongVersion found) of (inr rest) shown =
    shown.other version rest.known (shown.is ∙ (has_head version bytes (rest.gate ∷ rest.behind) bodies rest.is).versioned)
apart version bytes bodies (Open.Damaged place) of (inl short) shown = omega (arith, shown.long, short.0)
apart version bytes bodies (Open.Damaged place) of (inr rest) shown =
    never_both 16 bodies shown.bodies rest.gate rest.behind shown.rest (sizes_of bodies rest.sizes) (sizes_of shown.bodies shown.sizes) rest.closed
    (λ whole. shown.broken (subst (λ (n : ℕ). IsWhole n shown.rest) (front_end shown.version shown.bodies ∙ sym shown.at) whole))
    (behind_head version shown.version bytes (rest.gate ∷ rest.behind) (1 ∷ shown.rest) bodies shown.bodies rest.is shown.is)

faults : (bytes : List ℕ) (f h : OpenFault) → IsOfContent f → IsOfContent h → IsShown f bytes → IsShown h bytes → f ≡ h
faults bytes (Open.DiskFault was is) h of_f of_h one two = absurd of_f
faults bytes Open.Memory h of_f of_h one two = absurd of_f
faults bytes f (Open.DiskFault was is) of_f of_h one two = absurd of_h
faults bytes f Open.Memory of_f of_h one two = absurd of_h
faults bytes (Open.TooWide wide) h of_f of_h one two = absurd one
faults bytes f (Open.TooWide wide) of_f of_h one two = absurd two
faults bytes (Open.NotJournal k) (Open.NotJournal j) of_f of_h one two = ap Open.NotJournal (one_place bytes k j one two)
faults bytes (Open.NotJournal k) (Open.WrongVersion found) of_f of_h one two = absurd (named_is_no_other bytes k two.named one)
faults bytes (Open.NotJournal k) (Open.Damaged place) of_f of_h one two = absurd (named_is_no_other bytes k (has_head two.version bytes (1 ∷ two.rest) two.bodies two.is).named one)
faults bytes (Open.WrongVersion found) (Open.NotJournal j) of_f of_h one two = absurd (named_is_no_other bytes j one.named two)
faults bytes (Open.WrongVersion found) (Open.WrongVersion other) of_f of_h one two = ap Open.WrongVersion (one.is ∙ sym two.is)
faults bytes (Open.WrongVersion found) (Open.Damaged place) of_f of_h one two = absurd (one.other two.version two.known (one.is ∙ (has_head two.version bytes (1 ∷ two.rest) two.bodies two.is).versioned))
faults bytes (Open.Damaged place) (Open.NotJournal j) of_f of_h one two = absurd (named_is_no_other bytes j (has_head one.version bytes (1 ∷ one.rest) one.bodies one.is).named two)
faults bytes (Open.Damaged place) (Open.WrongVersion found) of_f of_h one two = absurd (two.other one.version one.known (two.is ∙ (has_head one.version bytes (1 ∷ one.rest) one.bodies one.is).versioned))
faults bytes (Open.Damaged place) (Open.Damaged other) of_f of_h one two =
    let same = broken_same 16 one.bodies two.bodies one.rest two.rest (sizes_of one.bodies one.sizes) (sizes_of two.bodies two.sizes)
    (λ whole. one.broken (subst (λ (n : ℕ). IsWhole n one.rest) (front_end one.version one.bodies ∙ sym one.at) whole))
    (λ whole. two.broken (subst (λ (n : ℕ). IsWhole n two.rest) (front_end two.version two.bodies ∙ sym two.at) whole)) (behind_head one.version two.version bytes (1 ∷ one.rest) (1 ∷ two.rest) one.bodies two.bodies one.is two.is) in
    ap Open.Damaged (one.at ∙ sym (front_end one.version one.bodies) ∙ ap (end_of 16) same ∙ front_end two.version two.bodies ∙ sym two.at)

pub one_answer : (bytes : List ℕ) → HasOneAnswer bytes
one_answer bytes = record {
  lists = λ version further one other. lists version further bytes one other;
  versions = λ version further one other. versions version further bytes one other;
  faults = faults bytes;
  apart = λ version. apart version bytes;
}

record Same2 (one other : Option (List ℕ)) (bodies behind : List (List ℕ)) : Type 0 where
  summary : one ≡ other
  records : bodies ≡ behind

-- a summary and the bodies behind it are known by the bodies in the area, and by whether it is live
parted : (one other : Option (List ℕ)) (bodies behind : List (List ℕ)) → is_some one ≡ is_some other → all_of one bodies ≡ all_of other behind → Same2 one other bodies behind
parted None None bodies behind live same = record { summary = refl; records = same }
parted None (Some s) bodies behind live same = cc
parted (Some s) None bodies behind live same = cc
parted (Some s) (Some t) bodies behind live same = record {
  summary = ap (λ (l : List (List ℕ)). Some (get_or l 0 [])) same;
  records = ap (drop 1) same;
}

pub one_standing : (areas : Areas) → HaveOneAnswer areas
one_standing areas = record {
  lists = λ version further one other bodies behind first second.
      let same = parted one other bodies behind (sym first.0 ∙ second.0) (lists version further (chosen_part areas) (all_of one bodies) (all_of other behind) first.1 second.1) in
      (same.summary, same.records);
  versions = λ version further one other bodies behind long first second.
      versions version further (chosen_part areas) (all_of one bodies) (all_of other behind) long first.1 second.1;
  faults = faults (chosen_part areas);
  apart = λ version summary bodies fault of stands shown. apart version (chosen_part areas) (all_of summary bodies) fault of stands.1 shown;
}
