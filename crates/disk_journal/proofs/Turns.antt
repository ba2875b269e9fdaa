-- What each part of a turn leaves of both areas.
use Rattle.std.proofs.Common.{◌≡◌, ◌≢◌, ◌⊎◌, ◌≤◌, ◌<◌, ◌+◌, ◌-◌, ◌^◌, ℕ, List, [], ◌∷◌, ◌++◌, length, take, drop, get_or, Option, Some, None, Bool, true, false, refl, sym, ap, ◌∙◌, subst, inl, inr, ⊎_elim, eqb, arith, append_assoc, length-append, length-take, take-append-drop}
use Rattle.std.specs.Prelude.{IfSome, Result, Ok, Err}
use Rattle.std.specs.Int.{from_be_bytes, w64}
use Rattle.std.proofs.lemmas.Bool.Decides.{eqb_tells}
use Rattle.std.proofs.lemmas.List.{take_at, drop_at, drop_more, get_or-take, get_or-drop, drop-take}
use Rattle.std.proofs.lemmas.Nat.{from_be_bytes-to_be_bytes_8}
use Rattle.arc_io.specs.Areas.{Areas, part, rest}
use Rattle.arc_io.specs.Crashes.{Torn, TornIn, IsWritten, IsAfterWrite, IsQuiet}
use Rattle.arc_io.specs.declared.disk.Area.{Area}
use Rattle.arc_io.specs.declared.disk.Area.TheVariants.{A, B}
use Rattle.arc_io.proofs.Moments.{written_torn, quiet_then}
use Rattle.arc_io.specs.Disks.{DiskSeen}
use Rattle.disk_journal.specs.Records.{head_of, bytes_of, AtRest, HaveSizes, MayStandAt, most_at}
use Rattle.disk_journal.specs.Journal.{IsAtRestIn, HasBodies, IsSettled}
use Rattle.disk_journal.specs.Standing.{is_live, generation_of, generation_in, other_of, all_of, IsDistinct, StandsForTurn}
use Rattle.disk_journal.specs.Turning.{Changes, IsUndone, IsShut, IsBeside, IsStaged, IsNextTo, IsFirstGate}
use Rattle.disk_journal.proofs.Chosen.{short_not_live, shut_not_live, shut_chosen, opened_chosen, rest_live, rest_generation, rest_stands}
use Rattle.disk_journal.proofs.Gates.{Staged, torn_gate, opened, one_spelled}
use Rattle.disk_journal.proofs.Steps.{changes_map, changes_then, quiet_changes, quiet_settled}

-- the first part: an area so short is not live, and one whose gate is written over is as it was, or not live
pub undone_short : (area : Area) (t c : Areas) → length (part area t) < 17 → TornIn area 0 17 t c → IsUndone area t c
undone_short area t c short torn = (torn.1, inr (short_not_live (part area c) (omega (arith, short, torn.0.no_longer))))

gate_same : (d c : List ℕ) → 17 ≤ length d → Torn 16 1 d c → get_or c 16 0 ≡ get_or d 16 0 → c ≡ d
gate_same d c long torn gate =
    let long_c : 16 < length c = omega (arith, long, torn.no_shorter) in
    let long_d : 16 < length d = omega (arith, long) in
    sym (take-append-drop 16 c)
    ∙ ap (λ (l : List ℕ). take 16 c ++ l)
    (drop_more c 16 0 long_c ∙ ap (λ (n : ℕ). n ∷ drop 17 c) gate ∙ ap (λ (l : List ℕ). get_or d 16 0 ∷ l) torn.after ∙ sym (drop_more d 16 0 long_d))
    ∙ ap (λ (l : List ℕ). l ++ drop 16 d) torn.before ∙ take-append-drop 16 d

pub undone_open : (area : Area) (t c : Areas) → (17 ≤ length (part area t)) × (get_or (part area t) 16 0 ≡ 1) → TornIn area 16 1 t c → IsUndone area t c
undone_open area t c gate torn = (
  torn.1,
  ⊎_elim
      (λ (e : (eqb (get_or (part area c) 16 0) 1 ≡ true) × (get_or (part area c) 16 0 ≡ 1)). inl (gate_same (part area t) (part area c) gate.0 torn.0 (e.1 ∙ sym gate.1)))
      (λ (e : (eqb (get_or (part area c) 16 0) 1 ≡ false) × (get_or (part area c) 16 0 ≢ 1)). inr (shut_not_live (part area c) e.1))
      (eqb_tells (get_or (part area c) 16 0) 1),
)

pub undone_same : (area : Area) (t : Areas) → IsUndone area t t
undone_same area t = (refl, inl refl)

pub undone_then : (area : Area) (s t u : Areas) → IsUndone area s t → IsUndone area t u → IsUndone area s u
undone_then area s t u one two = (
  two.0 ∙ one.0,
  ⊎_elim
      (λ (same : part area u ≡ part area t).
      ⊎_elim
      (λ (as_s : part area t ≡ part area s). inl (same ∙ as_s))
      (λ (dead : is_live (part area t) ≡ false). inr (ap is_live same ∙ dead))
      one.1)
      (λ (dead : is_live (part area u) ≡ false). inr dead)
      two.1,
)

-- then it has a closed gate
pub shut_fresh : (area : Area) (t u : Areas) → length (part area t) < 17 → IsWritten area 0 (head_of 2 ++ 0 ∷ []) t u → IsShut (part area u)
shut_fresh area t u short written = (
  omega (arith, ap length written.0),
  λ is_one. let e : 0 ≡ 1 = sym (ap (λ (l : List ℕ). get_or l 16 0) written.0) ∙ is_one in omega (arith, e),
)

pub shut_gate : (area : Area) (t u : Areas) → (17 ≤ length (part area t)) × (get_or (part area t) 16 0 ≡ 1) → IsWritten area 16 (0 ∷ []) t u → IsShut (part area u)
shut_gate area t u gate written =
    let old = part area t in
    let front : length (take 16 old) ≡ 16 = omega (arith, length-take 16 old, gate.0) in
    let is : part area u ≡ take 16 old ++ (0 ∷ drop 17 old) = written.0 ∙ append_assoc (take 16 old) (0 ∷ []) (drop 17 old) in
    let zero : get_or (part area u) 16 0 ≡ 0 = ap (λ (l : List ℕ). get_or l 16 0) is ∙ behind (take 16 old) (drop 17 old) front in (
      omega (arith, ap length is, length-append (take 16 old) (0 ∷ drop 17 old), front),
      λ is_one. let e : 0 ≡ 1 = sym zero ∙ is_one in omega (arith, e),
    )
  where
    behind : (p q : List ℕ) → length p ≡ 16 → get_or (p ++ 0 ∷ q) 16 0 ≡ 0
    behind p q sixteen = sym (get_or-drop 16 (p ++ 0 ∷ q) 0 0) ∙ ap (λ (l : List ℕ). get_or l 0 0) (drop_at p (0 ∷ q) 16 sixteen)

-- the first gate, as it was found
pub gate_is : (area : Area) (o m : Option Areas) (gate wanted : Option Bool) → m ≡ o → gate ≡ wanted → IfSome o (λ s. IsFirstGate gate (part area s))
    → IfSome m (λ s. IsFirstGate wanted (part area s))
gate_is area o m gate wanted same is file =
    subst (λ (p : Option Areas). IfSome p (λ s. IsFirstGate wanted (part area s))) (sym same)
    (subst (λ (w : Option Bool). IfSome o (λ s. IsFirstGate w (part area s))) is file)

-- calls that write nothing, and then a write over the first gate
pub undone_run : (area : Area) (at n : ℕ) (P : Areas → Type 0) (old mid new : DiskSeen) → IsSettled old → IsQuiet old mid → IfSome mid.told P → Changes (TornIn area at n) mid new
    → ((s t : Areas) → P s → TornIn area at n s t → IsUndone area s t) → Changes (IsUndone area) old new
undone_run area at n P old mid new settled quiet file run so =
    changes_then (IsUndone area) old mid new (undone_then area) (quiet_changes (IsUndone area) old mid (undone_same area) quiet)
    (changes_map (TornIn area at n) (IsUndone area) P mid new (quiet_settled old mid quiet settled) file run so)

pub undone_quiet : (area : Area) (old mid new : DiskSeen) → IsQuiet old mid → IsQuiet mid new → Changes (IsUndone area) old new
undone_quiet area old mid new one two = quiet_changes (IsUndone area) old new (undone_same area) (quiet_then old mid new one two)

-- writes beside the gate
gate_before : (k : ℕ) (d c : List ℕ) → k ≤ 16 → drop k c ≡ drop k d → get_or c 16 0 ≡ get_or d 16 0
gate_before k d c le same =
    let is : 16 ≡ k + (16 - k) = omega (arith, le) in
    ap (λ (n : ℕ). get_or c n 0) is ∙ sym (get_or-drop k c (16 - k) 0) ∙ ap (λ (l : List ℕ). get_or l (16 - k) 0) same ∙ get_or-drop k d (16 - k) 0
    ∙ ap (λ (n : ℕ). get_or d n 0) (sym is)

gate_behind : (k : ℕ) (d c : List ℕ) → 16 < k → take k c ≡ take k d → get_or c 16 0 ≡ get_or d 16 0
gate_behind k d c above same = sym (get_or-take k c 16 0 above) ∙ ap (λ (l : List ℕ). get_or l 16 0) same ∙ get_or-take k d 16 0 above

pub beside_torn : (area : Area) (at n : ℕ) (t c : Areas) → (at + n ≤ 16) ⊎ (17 ≤ at) → TornIn area at n t c → IsBeside area t c
beside_torn area at n t c beside torn = (
  torn.1,
  λ long. (
    omega (arith, long, torn.0.no_shorter),
    ⊎_elim
        (λ (front : at + n ≤ 16). gate_before (at + n) (part area t) (part area c) front torn.0.after)
        (λ (back : 17 ≤ at). gate_behind at (part area t) (part area c) (omega (arith, back)) torn.0.before)
        beside,
  ),
)

pub beside_same : (area : Area) (t : Areas) → IsBeside area t t
beside_same area t = (refl, λ long. (long, refl))

pub beside_then : (area : Area) (s t u : Areas) → IsBeside area s t → IsBeside area t u → IsBeside area s u
beside_then area s t u one two = (two.0 ∙ one.0, λ long. let first = one.1 long in let second = two.1 first.0 in (second.0, second.1 ∙ first.1))

pub after_torn : {E : Type 0} (r : Result (Unit {0}) E) (area : Area) (at : ℕ) (bytes : List ℕ) (s t : Areas) → at ≤ length (part area s) → IsAfterWrite r area at bytes s t
    → TornIn area at (length bytes) s t
after_torn (Ok x) area at bytes s t within after = written_torn area at bytes s t within after
after_torn (Err e) area at bytes s t within after = after

-- behind the closed gate stand these bytes
pub record IsLaid (more bytes : List ℕ) : Type 0 where
  pub gate : ℕ
  pub closed : gate ≢ 1
  pub front : take (17 + length more) bytes ≡ (head_of 2 ++ gate ∷ []) ++ more
  pub long : 17 + length more ≤ length bytes

pub laid_head : (area : Area) (s t : Areas) → IsShut (part area s) → IsWritten area 0 (head_of 2) s t → IsLaid [] (part area t)
laid_head area s t shut written =
    let old = part area s in
    let is : part area t ≡ head_of 2 ++ (get_or old 16 0 ∷ drop 17 old) = written.0 ∙ ap (λ (l : List ℕ). head_of 2 ++ l) (drop_more old 16 0 (omega (arith, shut.0))) in
    record {
      gate = get_or old 16 0;
      closed = shut.1;
      front = ap (take 17) is ∙ take_at (head_of 2 ++ get_or old 16 0 ∷ []) (drop 17 old) 17 refl;
      long = omega (arith, ap length is);
    }

pub laid_more : (area : Area) (at : ℕ) (more bytes : List ℕ) (s t : Areas) → at ≡ 17 + length more → IsLaid more (part area s) → IsWritten area at bytes s t
    → IsLaid (more ++ bytes) (part area t)
laid_more area at more bytes s t place laid written =
    let old = part area s in
    let behind = drop (at + length bytes) old in
    let before = (head_of 2 ++ laid.gate ∷ []) ++ more in
    let front : take at old ≡ before = ap (λ (n : ℕ). take n old) place ∙ laid.front in
    let is : part area t ≡ (before ++ bytes) ++ behind = written.0 ∙ ap (λ (l : List ℕ). (l ++ bytes) ++ behind) front in
    let size : length (before ++ bytes) ≡ 17 + length (more ++ bytes) =
    omega (arith, length-append before bytes, length-append (head_of 2 ++ laid.gate ∷ []) more, length-append more bytes) in
    record {
      gate = laid.gate;
      closed = laid.closed;
      front = ap (take (17 + length (more ++ bytes))) is ∙ take_at (before ++ bytes) behind (17 + length (more ++ bytes)) size ∙ append_assoc (head_of 2 ++ laid.gate ∷ []) more bytes;
      long = omega (arith, ap length is, length-append (before ++ bytes) behind, size);
    }

pub laid_staged : (body bytes : List ℕ) → IsLaid (bytes_of body ++ 0 ∷ []) bytes → IsStaged body bytes
laid_staged body bytes laid =
    let n = 17 + length (bytes_of body ++ 0 ∷ []) in
    record {
      gate = laid.gate;
      behind = drop n bytes;
      closed = laid.closed;
      is = sym (take-append-drop n bytes) ∙ ap (λ (l : List ℕ). l ++ drop n bytes) laid.front
          ∙ ap (λ (l : List ℕ). head_of 2 ++ laid.gate ∷ l) (append_assoc (bytes_of body) (0 ∷ []) (drop n bytes));
    }

-- what stood is what stands, as long as the gate is not opened
pub part_other : (area : Area) (c : Areas) → part (other_of area) c ≡ rest area c
part_other A c = refl
part_other B c = refl

still_rests : (area : Area) (version : ℕ) (summary : Option (List ℕ)) (bodies : List (List ℕ)) (t c : Areas) → IsAtRestIn (other_of area) version summary bodies t → rest area c ≡ rest area t
    → (part area c ≡ part area t) ⊎ (is_live (part area c) ≡ false) → IsAtRestIn (other_of area) version summary bodies c
still_rests area version summary bodies t c at same either = record {
  chosen_is = shut_chosen area t c at.chosen_is same either;
  at_rest = subst (λ (l : List ℕ). AtRest version l (all_of summary bodies)) (part_other area t ∙ sym same ∙ sym (part_other area c)) at.at_rest;
}

pub undone_rests : (area : Area) (version : ℕ) (summary : Option (List ℕ)) (bodies : List (List ℕ)) (t c : Areas) → IsAtRestIn (other_of area) version summary bodies t → IsUndone area t c
    → IsAtRestIn (other_of area) version summary bodies c
undone_rests area version summary bodies t c at undone = still_rests area version summary bodies t c at undone.0 undone.1

-- with the gate closed
pub record IsShutIn (area : Area) (version : ℕ) (summary : Option (List ℕ)) (bodies : List (List ℕ)) (areas : Areas) : Type 0 where
  pub rests : IsAtRestIn (other_of area) version summary bodies areas
  pub shut : IsShut (part area areas)

pub beside_rests : (area : Area) (version : ℕ) (summary : Option (List ℕ)) (bodies : List (List ℕ)) (t c : Areas) → IsShutIn area version summary bodies t → IsBeside area t c
    → IsAtRestIn (other_of area) version summary bodies c
beside_rests area version summary bodies t c at beside =
    let gate = beside.1 at.shut.0 in
    still_rests area version summary bodies t c at.rests beside.0 (inr (shut_not_live (part area c) (λ is_one. at.shut.1 (sym gate.1 ∙ is_one))))

-- with the body behind it
pub record IsReadyIn (area : Area) (version : ℕ) (summary : Option (List ℕ)) (bodies : List (List ℕ)) (body : List ℕ) (areas : Areas) : Type 0 where
  pub rests : IsAtRestIn (other_of area) version summary bodies areas
  pub staged_is : IsStaged body (part area areas)

module _ (generation : ℕ) (body : List ℕ) (next : IsNextTo generation body) where
  first_byte : get_or body 0 0 ≡ 11
  first_byte = sym (get_or-take 9 body 0 0 (omega arith)) ∙ ap (λ (l : List ℕ). get_or l 0 0) next.is

  body_distinct : IsDistinct (Some body) []
  body_distinct = (first_byte, omega (arith, ap length next.is, length-take 9 body))

  body_stands : length body < 2 ^ 32 → MayStandAt 16 body
  body_stands short =
      (omega (arith, body_distinct.1), subst (λ (n : ℕ). length body ≤ most_at 16 n) (sym first_byte) (omega (arith, short)))

  pub next_is : generation_in (Some body) ≡ generation + 1
  next_is = ap (from_be_bytes w64) (sym (drop-take 1 8 body) ∙ ap (drop 1) next.is) ∙ from_be_bytes-to_be_bytes_8 (generation + 1) next.fits

other_twice : (area : Area) → other_of (other_of area) ≡ area
other_twice A = refl
other_twice B = refl

pub other_back : (area next : Area) → next ≡ other_of area → area ≡ other_of next
other_back area next is = sym (ap other_of is ∙ other_twice area)

-- what stands beside the other one
pub other_rest : (area next : Area) (s : Areas) → next ≡ other_of area → rest next s ≡ part area s
other_rest A next s is = ap (λ (x : Area). rest x s) is
other_rest B next s is = ap (λ (x : Area). rest x s) is

-- a body that is staged
staged_by : (body c : List ℕ) → IsStaged body c → Staged 2 [] (bytes_of body ++ 0 ∷ []) c
staged_by body c st = record {
  known = inr refl;
  gate = st.gate;
  behind = st.behind;
  closed = st.closed;
  is = st.is ∙ ap (λ l. head_of 2 ++ st.gate ∷ l) (sym (append_assoc (bytes_of body) (0 ∷ []) st.behind));
}

alone : (body : List ℕ) → MayStandAt 16 body → HaveSizes (body ∷ [])
alone body may = (may, λ k d below. absurd (omega arith))

-- and whose gate is opened
pub opened_body : (area : Area) (generation : ℕ) (body : List ℕ) → IsNextTo generation body → length body < 2 ^ 32 → (m n : Areas) → IsStaged body (part area m)
    → IsWritten area 16 (1 ∷ []) m n → HasBodies area 2 (body ∷ []) n
opened_body area generation body next short m n st written =
    opened 2 [] (body ∷ []) (bytes_of body ++ 0 ∷ []) tt (alone body (body_stands generation body next short)) (one_spelled body) 16 (part area m) (part area n) refl
    (staged_by body (part area m) st) written.0

module _ (area : Area) (version : ℕ) (summary : Option (List ℕ)) (bodies : List (List ℕ)) (body : List ℕ) (distinct : IsDistinct summary bodies)
    (next : IsNextTo (generation_in summary) body) (short : length body < 2 ^ 32) where
  pub next_distinct : IsDistinct (Some body) []
  next_distinct = body_distinct (generation_in summary) body next

  next_generation : generation_in (Some body) ≡ generation_in summary + 1
  next_generation = next_is (generation_in summary) body next

  may_stand : MayStandAt 16 body
  may_stand = body_stands (generation_in summary) body next short

  staged_body : (m : Areas) → IsReadyIn area version summary bodies body m → Staged 2 [] (bytes_of body ++ 0 ∷ []) (part area m)
  staged_body m ready = staged_by body (part area m) ready.staged_is

  -- the generation of the area that was chosen, where it is live
  old_generation : (s : Option (List ℕ)) (bytes : List ℕ) → IsDistinct s bodies → AtRest version bytes (all_of s bodies) → is_live bytes ≡ true → generation_of bytes ≡ generation_in s
  old_generation None bytes apart at live = absurd (no (sym live ∙ rest_live version None bodies bytes apart at))
    where
      no : true ≡ false → ⊥
      no e = cc
  old_generation (Some s) bytes apart at live = rest_generation version s bodies bytes apart.1 at

  opened_rests : (m c : Areas) → IsReadyIn area version summary bodies body m → rest area c ≡ rest area m → AtRest 2 (part area c) (body ∷ []) → IsAtRestIn area 2 (Some body) [] c
  opened_rests m c ready same at =
      let live = rest_live 2 (Some body) [] (part area c) next_distinct at in
      let new : generation_of (part area c) ≡ generation_in summary + 1 = rest_generation 2 body [] (part area c) next_distinct.1 at ∙ next_generation in
      let old_at : AtRest version (rest area c) (all_of summary bodies) =
      subst (λ (l : List ℕ). AtRest version l (all_of summary bodies)) (part_other area m ∙ sym same) ready.rests.at_rest in
      record {
        chosen_is = opened_chosen area c live (λ was. omega (arith, new, old_generation summary (rest area c) distinct old_at was));
        at_rest = at;
      }

  old_stands : (c : Areas) → IsAtRestIn (other_of area) version summary bodies c → StandsForTurn version summary bodies body c
  old_stands c at = inl (rest_stands (other_of area) version summary bodies c distinct at)

  pub undone_stands : (t c : Areas) → IsAtRestIn (other_of area) version summary bodies t → IsUndone area t c → StandsForTurn version summary bodies body c
  undone_stands t c at undone = old_stands c (undone_rests area version summary bodies t c at undone)

  pub beside_stands : (t c : Areas) → IsShutIn area version summary bodies t → IsBeside area t c → StandsForTurn version summary bodies body c
  beside_stands t c at beside = old_stands c (beside_rests area version summary bodies t c at beside)

  pub opening_stands : (m c : Areas) → IsReadyIn area version summary bodies body m → TornIn area 16 1 m c → StandsForTurn version summary bodies body c
  opening_stands m c ready torn =
      ⊎_elim
      (λ (r : AtRest 2 (part area c) []). old_stands c (still_rests area version summary bodies m c ready.rests torn.1 (inr (rest_live 2 None [] (part area c) (λ e. omega (arith, e)) r))))
      (λ (r : AtRest 2 (part area c) (body ∷ [])). inr (rest_stands area 2 (Some body) [] c next_distinct (opened_rests m c ready torn.1 r)))
      (torn_gate 2 [] (body ∷ []) (bytes_of body ++ 0 ∷ []) tt (alone body may_stand) (one_spelled body) 16 (part area m) (part area c) refl (staged_body m ready) torn.0)

  pub opened_stands : (m n : Areas) → IsReadyIn area version summary bodies body m → IsWritten area 16 (1 ∷ []) m n → IsAtRestIn area 2 (Some body) [] n
  opened_stands m n ready written =
      opened_rests m n ready written.1
      (opened 2 [] (body ∷ []) (bytes_of body ++ 0 ∷ []) tt (alone body may_stand) (one_spelled body) 16 (part area m) (part area n) refl (staged_body m ready) written.0)
