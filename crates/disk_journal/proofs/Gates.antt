-- What each step of an append may leave.
use Rattle.std.proofs.Common.{◌≡◌, ◌≢◌, ◌⊎◌, ◌≤◌, ◌+◌, ℕ, List, [], ◌∷◌, ◌++◌, length, take, drop, get_or, suc, true, false, refl, sym, ap, ◌∙◌, inl, inr, ⊎_elim, arith, append_assoc, append-nil, length-append, take-append-drop, eqb}
use Rattle.std.specs.Prelude.{◌<◌, Result, Ok, Err, OnOk, Bool, if◌then◌else◌, nat_eq}
use Rattle.std.proofs.lemmas.Grind.{flat_map-append}
use Rattle.std.proofs.lemmas.List.{take_at, drop_at, drop_more}
use Rattle.std.proofs.lemmas.List.Sums.{sum_by-cons}
use Rattle.std.proofs.lemmas.List.Elements.{All-append}
use Rattle.std.proofs.lemmas.Bool.Decides.{eqb_tells}
use Rattle.arc_io.specs.Crashes.{Torn}
use Rattle.disk_journal.specs.Records.{head_of, tag, IsVersion, front, bytes_of, records_of, AreLaid, AtRest, size, need_of_all, MayHave, MayAllHave, MayStandAt, HaveSizes, most_at}

length-records : (bodies : List (List ℕ)) → length (records_of bodies) + 17 ≡ size bodies
length-records [] = refl
length-records (body ∷ bodies) = omega (arith, length-records bodies, length-append body (records_of bodies))

-- the closed gate stands behind the front
pub length-front : (version : ℕ) (bodies : List (List ℕ)) → length (front version bodies) + 1 ≡ size bodies
length-front version bodies = omega (arith, length-append (head_of version) (records_of bodies), length-records bodies)

pub size-more : (bodies : List (List ℕ)) (body : List ℕ) → size (bodies ++ body ∷ []) ≡ size bodies + 5 + length body
size-more [] body = omega arith
size-more (b ∷ bodies) body = omega (arith, size-more bodies body)

pub need-more : (body : List ℕ) (bodies : List (List ℕ)) → need_of_all (body ∷ bodies) ≡ 5 + length body + need_of_all bodies
need-more body bodies = sum_by-cons (λ (b : List ℕ). 5 + length b) body bodies

pub size-all : (bodies further : List (List ℕ)) → size (bodies ++ further) ≡ size bodies + need_of_all further
size-all [] [] = refl
size-all [] (b ∷ further) = omega (arith, size-all [] further, need-more b further)
size-all (b ∷ bodies) further = omega (arith, size-all bodies further)

pub size-least : (bodies : List (List ℕ)) → 17 ≤ size bodies
size-least [] = omega arith
size-least (b ∷ bodies) = omega (arith, size-least bodies)

-- records more at the end of the front
pub front-all : (version : ℕ) (bodies further : List (List ℕ)) (rest : List ℕ) → front version (bodies ++ further) ++ rest ≡ front version bodies ++ (records_of further ++ rest)
front-all version bodies further rest =
    ap (λ l. (head_of version ++ l) ++ rest) (flat_map-append (λ (b : List ℕ). 1 ∷ bytes_of b) bodies further)
    ∙ ap (λ l. l ++ rest) (sym (append_assoc (head_of version) (records_of bodies) (records_of further)))
    ∙ append_assoc (front version bodies) (records_of further) rest

-- one record more: where appending and reading meet
pub front-more : (version : ℕ) (bodies : List (List ℕ)) (body rest : List ℕ) → front version (bodies ++ body ∷ []) ++ rest ≡ front version bodies ++ 1 ∷ (bytes_of body ++ rest)
front-more version bodies body rest =
    front-all version bodies (body ∷ []) rest ∙ ap (λ l. front version bodies ++ 1 ∷ (l ++ rest)) (append-nil (bytes_of body))

-- what is laid behind a gate, once that is opened
pub front-laid : (version : ℕ) (bodies further : List (List ℕ)) (laid behind : List ℕ) → 1 ∷ laid ≡ records_of further ++ 0 ∷ [] → front version bodies ++ 1 ∷ (laid ++ behind) ≡ front version (bodies ++ further) ++ 0 ∷ behind
front-laid version bodies further laid behind spelled =
    ap (λ l. front version bodies ++ (l ++ behind)) spelled ∙ ap (λ l. front version bodies ++ l) (append_assoc (records_of further) (0 ∷ []) behind)
    ∙ sym (front-all version bodies further (0 ∷ behind))

-- one body
pub one_spelled : (body : List ℕ) → 1 ∷ (bytes_of body ++ 0 ∷ []) ≡ records_of (body ∷ []) ++ 0 ∷ []
one_spelled body = ap (λ l. 1 ∷ (l ++ 0 ∷ [])) (sym (append-nil (bytes_of body)))

pub one_laid : (body laid : List ℕ) → MayHave (length body) → laid ≡ bytes_of body ++ 0 ∷ [] → AreLaid (body ∷ []) laid
one_laid body laid fits spelled = record {
  sizes = λ k d below. let first : k ≡ 0 = omega arith in rw first fits;
  is = ap (λ l. 1 ∷ l) spelled ∙ one_spelled body;
}

-- how many bytes are laid
pub laid_length : (further : List (List ℕ)) (laid : List ℕ) → AreLaid further laid → length laid ≡ need_of_all further
laid_length further laid are =
    omega (arith, ap length are.is, length-append (records_of further) (0 ∷ []), length-records further, size-all [] further)

-- behind another gate than the first, no more than wherever a body stands
pub most_elsewhere : (place byte : ℕ) → (place ≡ 16 → ⊥) → most_at place byte ≡ 4_194_400
most_elsewhere place byte apart =
    ⊎_elim
    (λ (t : (eqb place 16 ≡ true) × (place ≡ 16)). absurd (apart t.1))
    (λ (t : (eqb place 16 ≡ false) × (place ≢ 16)). ap (λ (q : Bool). if q then (if nat_eq byte tag then 4_294_967_295 else 4_194_400) else 4_194_400) t.0)
    (eqb_tells place 16)

most_by : (p q : Bool) → (4_194_400 ≤ (if p then (if q then 4_294_967_295 else 4_194_400) else 4_194_400)) × ((if p then (if q then 4_294_967_295 else 4_194_400) else 4_194_400) ≤ 4_294_967_295)
most_by true true = (omega arith, omega arith)
most_by true false = (omega arith, omega arith)
most_by false q = (omega arith, omega arith)

pub most_least : (place byte : ℕ) → 4_194_400 ≤ most_at place byte
most_least place byte = (most_by (nat_eq place 16) (nat_eq byte tag)).0

pub most_most : (place byte : ℕ) → most_at place byte ≤ 4_294_967_295
most_most place byte = (most_by (nat_eq place 16) (nat_eq byte tag)).1

-- a body that may stand wherever it is
pub small_stands : (place : ℕ) (body : List ℕ) → MayHave (length body) → MayStandAt place body
small_stands place body fits = (fits.0, omega (arith, fits.1, most_least place (get_or body 0 0)))

-- sizes of one body more
pub sizes-more : (version : ℕ) (bodies : List (List ℕ)) (body : List ℕ) → HaveSizes bodies → MayStandAt (length (front version bodies)) body → HaveSizes (bodies ++ body ∷ [])
sizes-more version [] body sizes fits = (fits, λ k d below. absurd (omega arith))
sizes-more version (b ∷ bodies) body sizes fits =
    let apart : length (front version (b ∷ bodies)) ≡ 16 → ⊥ = λ same. omega (arith, same, length-front version (b ∷ bodies), size-least bodies) in
    let small : MayHave (length body) = (fits.0, omega (arith, fits.1, most_elsewhere (length (front version (b ∷ bodies))) (get_or body 0 0) apart)) in
    (sizes.0, All-append (λ (other : List ℕ). MayHave (length other)) bodies (body ∷ []) sizes.1 (λ k d below. let first : k ≡ 0 = omega arith in rw first small))

-- and of more bodies, none of which is that of a summary
pub sizes-all : (bodies further : List (List ℕ)) → HaveSizes bodies → MayAllHave further → HaveSizes (bodies ++ further)
sizes-all [] [] sizes fits = tt
sizes-all [] (b ∷ further) sizes fits = (small_stands 16 b (fits 0 [] (omega arith)), λ k d below. fits (suc k) d (omega arith))
sizes-all (b ∷ bodies) further sizes fits = (sizes.0, All-append (λ (other : List ℕ). MayHave (length other)) bodies further sizes.1 fits)

-- the closed gate stands in each outcome of the first write
pub torn_behind : (version : ℕ) (bodies : List (List ℕ)) (used n : ℕ) (d c : List ℕ) → used ≡ size bodies → AtRest version d bodies → Torn used n d c → AtRest version c bodies
torn_behind version bodies used n d c is rest torn =
    let closing : take used d ≡ front version bodies ++ rest.gate ∷ [] =
    ap (take used) (rest.is ∙ sym (append_assoc (front version bodies) (rest.gate ∷ []) rest.behind))
    ∙ take_at (front version bodies ++ rest.gate ∷ []) rest.behind used (omega (arith, length-append (front version bodies) (rest.gate ∷ []), length-front version bodies)) in
    record {
      known = rest.known;
      gate = rest.gate;
      behind = drop used c;
      closed = rest.closed;
      sizes = rest.sizes;
      is = sym (take-append-drop used c) ∙ ap (λ l. l ++ drop used c) (torn.before ∙ closing) ∙ append_assoc (front version bodies) (rest.gate ∷ []) (drop used c);
    }

-- behind the closed gate stands all that was laid
pub record Staged (version : ℕ) (bodies : List (List ℕ)) (laid c : List ℕ) : Type 0 where
  pub known : IsVersion version
  pub gate : ℕ
  pub behind : List ℕ
  pub closed : gate ≢ 1
  pub is : c ≡ front version bodies ++ gate ∷ (laid ++ behind)

at_gate : (version : ℕ) (bodies : List (List ℕ)) (gate : ℕ) (rest : List ℕ) (used : ℕ) → used ≡ size bodies → take used (front version bodies ++ gate ∷ rest) ≡ front version bodies ++ gate ∷ []
at_gate version bodies gate rest used is =
    ap (take used) (sym (append_assoc (front version bodies) (gate ∷ []) rest)) ∙ take_at (front version bodies ++ gate ∷ []) rest used (omega (arith, length-append (front version bodies) (gate ∷ []), length-front version bodies))

pub staged : (version : ℕ) (bodies : List (List ℕ)) (laid : List ℕ) (used : ℕ) (s t : List ℕ) → used ≡ size bodies → AtRest version s bodies
    → t ≡ take used s ++ laid ++ drop (used + length laid) s → Staged version bodies laid t
staged version bodies laid used s t is rest new =
    let behind = drop (used + length laid) s in
    record {
      known = rest.known;
      gate = rest.gate;
      behind = behind;
      closed = rest.closed;
      is = new ∙ ap (λ l. l ++ laid ++ behind) (ap (take used) rest.is ∙ at_gate version bodies rest.gate rest.behind used is)
          ∙ append_assoc (front version bodies ++ rest.gate ∷ []) laid behind
          ∙ append_assoc (front version bodies) (rest.gate ∷ []) (laid ++ behind);
    }

-- a staged area is at rest with the old bodies
pub staged_rests : (version : ℕ) (bodies : List (List ℕ)) (laid c : List ℕ) → HaveSizes bodies → Staged version bodies laid c → AtRest version c bodies
staged_rests version bodies laid c sizes st = record { known = st.known; gate = st.gate; behind = laid ++ st.behind; closed = st.closed; sizes = sizes; is = st.is }

around : (version : ℕ) (bodies : List (List ℕ)) (gate : ℕ) (rest : List ℕ) (at : ℕ) → at + 1 ≡ size bodies → (take at (front version bodies ++ gate ∷ rest) ≡ front version bodies) × (drop (at + 1) (front version bodies ++ gate ∷ rest) ≡ rest)
around version bodies gate rest at is = (
  take_at (front version bodies) (gate ∷ rest) at (omega (arith, length-front version bodies)),
  ap (drop (at + 1)) (sym (append_assoc (front version bodies) (gate ∷ []) rest)) ∙ drop_at (front version bodies ++ gate ∷ []) rest (at + 1) (omega (arith, length-append (front version bodies) (gate ∷ []), length-front version bodies)),
)

-- what is laid are further bodies, which may stand behind these
module _ (version : ℕ) (bodies further : List (List ℕ)) (laid : List ℕ) (sizes : HaveSizes bodies) (sizes_more : HaveSizes (bodies ++ further))
    (spelled : 1 ∷ laid ≡ records_of further ++ 0 ∷ []) where
  -- whatever a staged area has at the gate, it has the old bodies or all
  gate_decides : (behind c : List ℕ) (x : ℕ) → IsVersion version → c ≡ front version bodies ++ x ∷ (laid ++ behind) → AtRest version c bodies ⊎ AtRest version c (bodies ++ further)
  gate_decides behind c x known is =
      ⊎_elim
      (λ (t : (eqb x 1 ≡ true) × (x ≡ 1)). inr (record {
        known = known;
        gate = 0;
        behind = behind;
        closed = λ e. omega arith;
        sizes = sizes_more;
        is = is ∙ ap (λ y. front version bodies ++ y ∷ (laid ++ behind)) t.1 ∙ front-laid version bodies further laid behind spelled;
      }))
      (λ (t : (eqb x 1 ≡ false) × (x ≢ 1)). inl (record { known = known; gate = x; behind = laid ++ behind; closed = t.1; sizes = sizes; is = is }))
      (eqb_tells x 1)

  -- each outcome of the second write
  pub torn_gate : (at : ℕ) (d c : List ℕ) → at + 1 ≡ size bodies → Staged version bodies laid d → Torn at 1 d c → AtRest version c bodies ⊎ AtRest version c (bodies ++ further)
  torn_gate at d c is st torn =
      let sides = around version bodies st.gate (laid ++ st.behind) at is in
      let x = get_or c at 0 in
      let long : at < length c = omega (arith, torn.no_shorter, ap length st.is, length-append (front version bodies) (st.gate ∷ (laid ++ st.behind)), length-front version bodies) in
      let before : take at c ≡ front version bodies = torn.before ∙ ap (take at) st.is ∙ sides.0 in
      let back : drop at c ≡ x ∷ (laid ++ st.behind) = drop_more c at 0 long ∙ ap (λ l. x ∷ l) (torn.after ∙ ap (drop (at + 1)) st.is ∙ sides.1) in
      gate_decides st.behind c x st.known (sym (take-append-drop at c) ∙ ap (λ l. l ++ drop at c) before ∙ ap (λ l. front version bodies ++ l) back)

  pub opened : (at : ℕ) (t u : List ℕ) → at + 1 ≡ size bodies → Staged version bodies laid t → u ≡ take at t ++ (1 ∷ []) ++ drop (at + 1) t → AtRest version u (bodies ++ further)
  opened at t u is st new =
      let sides = around version bodies st.gate (laid ++ st.behind) at is in
      record {
        known = st.known;
        gate = 0;
        behind = st.behind;
        closed = λ e. omega arith;
        sizes = sizes_more;
        is = new ∙ ap (λ l. l ++ (1 ∷ []) ++ drop (at + 1) t) (ap (take at) st.is ∙ sides.0) ∙ ap (λ l. (front version bodies ++ 1 ∷ []) ++ l) (ap (drop (at + 1)) st.is ∙ sides.1)
            ∙ append_assoc (front version bodies) (1 ∷ []) (laid ++ st.behind) ∙ front-laid version bodies further laid st.behind spelled;
      }

-- the place behind the closed gate is within the area
pub rest_place : (version : ℕ) (bodies : List (List ℕ)) (used : ℕ) (s : List ℕ) → used ≡ size bodies → AtRest version s bodies → used ≤ length s
rest_place version bodies used s is at_rest = omega (arith, ap length at_rest.is, length-append (front version bodies) (at_rest.gate ∷ at_rest.behind), length-front version bodies)

-- what follows from two clauses of a call that are so where it answers `Ok`
pub on_ok_both : {T E P Q R : Type 0} (r : Result T E) → OnOk r P → OnOk r Q → (P → Q → R) → OnOk r R
on_ok_both (Ok x) p q so = so p q
on_ok_both (Err e) p q so = tt

pub on_ok : {T E P Q : Type 0} (r : Result T E) → OnOk r P → (P → Q) → OnOk r Q
on_ok (Ok x) p so = so p
on_ok (Err e) p so = tt
