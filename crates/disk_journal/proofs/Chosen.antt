-- Which area counts, and what follows from what it has at rest.
use Rattle.std.proofs.Common.{◌≡◌, ◌≢◌, ◌⊎◌, ◌≤◌, ◌<◌, ℕ, List, [], ◌∷◌, ◌++◌, length, take, drop, get_or, Option, Some, None, Bool, true, false, refl, sym, ap, ◌∙◌, subst, inl, inr, ⊎_elim, arith, length-append}
use Rattle.std.specs.Prelude.{◌&&◌, nat_lt, nat_eq, is_some, if◌then◌else◌}
use Rattle.std.specs.Int.{from_be_bytes, w64}
use Rattle.std.specs.Str.{bytes_eq}
use Rattle.std.proofs.lemmas.Bool.{and_parts, and_from, or_cases, or_left, or_right, false_from_ne_true, ltb-true, lt-ltb, le-ltb, eqb-true, eq-eqb}
use Rattle.std.proofs.lemmas.List.{take-append-le}
use Rattle.std.proofs.lemmas.Slice.Eq.{bytes_eq-Decides}
use Rattle.arc_io.specs.Areas.{Areas, part, rest}
use Rattle.arc_io.specs.declared.disk.Area.{Area}
use Rattle.arc_io.specs.declared.disk.Area.TheVariants.{A, B}
use Rattle.disk_journal.specs.Records.{head_of, tag, front, records_of, AtRest, IsVersion, Stands}
use Rattle.disk_journal.specs.Standing.{is_head, is_live, generation_of, choice, chosen, other_of, all_of, generation_in, IsDistinct, AreasStand}
use Rattle.disk_journal.specs.Journal.{IsAtRestIn}
use Rattle.disk_journal.proofs.Gates.{length-front, size-least}

-- what the head of a version is
pub record Headed (bytes : List ℕ) : Type 0 where
  pub version : ℕ
  pub known : IsVersion version
  pub is : bytes ≡ head_of version

headed_has : (bytes : List ℕ) → is_head bytes ≡ true → Headed bytes
headed_has bytes head =
    ⊎_elim
    (λ (e : bytes_eq bytes (head_of 1) ≡ true). record { version = 1; known = inl refl; is = (bytes_eq-Decides bytes (head_of 1)).0 e })
    (λ (e : bytes_eq bytes (head_of 2) ≡ true). record { version = 2; known = inr refl; is = (bytes_eq-Decides bytes (head_of 2)).0 e })
    (or_cases (bytes_eq bytes (head_of 1)) (bytes_eq bytes (head_of 2)) head)

of_version : (bytes : List ℕ) (version : ℕ) → IsVersion version → bytes ≡ head_of version → is_head bytes ≡ true
of_version bytes version (inl one) is =
    or_left (bytes_eq bytes (head_of 1)) (bytes_eq bytes (head_of 2)) ((bytes_eq-Decides bytes (head_of 1)).1 (is ∙ ap head_of one))
of_version bytes version (inr two) is =
    or_right (bytes_eq bytes (head_of 1)) (bytes_eq bytes (head_of 2)) ((bytes_eq-Decides bytes (head_of 2)).1 (is ∙ ap head_of two))

-- what a live area has
pub record Live (bytes : List ℕ) : Type 0 where
  pub long : 29 < length bytes
  pub headed : Headed (take 16 bytes)
  pub gate : get_or bytes 16 0 ≡ 1
  pub tagged : get_or bytes 21 0 ≡ 11

pub live_has : (bytes : List ℕ) → is_live bytes ≡ true → Live bytes
unfolding is_live
live_has bytes live =
    let p = nat_lt 29 (length bytes) in
    let q = is_head (take 16 bytes) in
    let r = nat_eq (get_or bytes 16 0) 1 in
    let s = nat_eq (get_or bytes 21 0) tag in
    let one = and_parts p (q && (r && s)) live in
    let two = and_parts q (r && s) one.1 in
    let three = and_parts r s two.1 in
    record {
      long = ltb-true 29 (length bytes) one.0;
      headed = headed_has (take 16 bytes) two.0;
      gate = eqb-true (get_or bytes 16 0) 1 three.0;
      tagged = eqb-true (get_or bytes 21 0) tag three.1;
    }

pub has_live : (bytes : List ℕ) → Live bytes → is_live bytes ≡ true
unfolding is_live
has_live bytes h =
    let p = nat_lt 29 (length bytes) in
    let q = is_head (take 16 bytes) in
    let r = nat_eq (get_or bytes 16 0) 1 in
    let s = nat_eq (get_or bytes 21 0) tag in
    and_from p (q && (r && s)) (lt-ltb 29 (length bytes) h.long)
    (and_from q (r && s) (of_version (take 16 bytes) h.headed.version h.headed.known h.headed.is)
    (and_from r s (eq-eqb (get_or bytes 16 0) 1 h.gate) (eq-eqb (get_or bytes 21 0) tag h.tagged)))

pub not_live : (bytes : List ℕ) → (Live bytes → ⊥) → is_live bytes ≡ false
not_live bytes none = false_from_ne_true (is_live bytes) (λ live. none (live_has bytes live))

pub short_not_live : (bytes : List ℕ) → length bytes ≤ 17 → is_live bytes ≡ false
short_not_live bytes short = not_live bytes (λ live. omega (arith, live.long, short))

pub shut_not_live : (bytes : List ℕ) → get_or bytes 16 0 ≢ 1 → is_live bytes ≡ false
shut_not_live bytes shut = not_live bytes (λ live. shut live.gate)

-- an area at rest is live where a summary is first
pub rest_live : (version : ℕ) (summary : Option (List ℕ)) (bodies : List (List ℕ)) (bytes : List ℕ) → IsDistinct summary bodies → AtRest version bytes (all_of summary bodies)
    → is_live bytes ≡ is_some summary
rest_live version None [] bytes distinct at = shut_not_live bytes (λ is_one. at.closed (sym (ap (λ (l : List ℕ). get_or l 16 0) at.is) ∙ is_one))
rest_live version None ([] ∷ bodies) bytes distinct at = absurd (omega (arith, at.sizes.0.0))
rest_live version None ((x ∷ body) ∷ bodies) bytes distinct at = not_live bytes (λ live. distinct (sym (ap (λ (l : List ℕ). get_or l 21 0) at.is) ∙ live.tagged))
rest_live version (Some []) bodies bytes distinct at = absurd (omega (arith, distinct.1))
rest_live version (Some (x ∷ summary)) bodies bytes distinct at = has_live bytes (record {
  long = omega (arith, ap length at.is, length-append (front version ((x ∷ summary) ∷ bodies)) (at.gate ∷ at.behind), length-front version ((x ∷ summary) ∷ bodies), size-least bodies, distinct.1);
  headed = record { version = version; known = at.known; is = ap (take 16) at.is };
  gate = ap (λ (l : List ℕ). get_or l 16 0) at.is;
  tagged = ap (λ (l : List ℕ). get_or l 21 0) at.is ∙ distinct.0;
})

-- and its generation is that in the summary
pub rest_generation : (version : ℕ) (summary : List ℕ) (bodies : List (List ℕ)) (bytes : List ℕ) → 9 ≤ length summary → AtRest version bytes (summary ∷ bodies)
    → generation_of bytes ≡ generation_in (Some summary)
unfolding generation_of
rest_generation version [] bodies bytes long at = absurd (omega arith)
rest_generation version (x ∷ summary) bodies bytes long at =
    let tail = at.gate ∷ at.behind in
    let within : 8 ≤ length summary = omega arith in
    ap (λ (l : List ℕ). from_be_bytes w64 (take 8 l))
    (ap (λ (l : List ℕ). drop 22 l) at.is)
    ∙ ap (λ (l : List ℕ). from_be_bytes w64 l)
    (take-append-le 8 (summary ++ records_of bodies) tail (omega (arith, within, length-append summary (records_of bodies)))
    ∙ take-append-le 8 summary (records_of bodies) within)

-- the choice, where one side changes
choice_a : (la lb : Bool) (ga gb ka : ℕ) → (la ≡ true → ka ≡ ga) → choice la lb ga gb ≡ A → choice la lb ka gb ≡ A
choice_a true lb ga gb ka same is = ap (λ (n : ℕ). choice true lb n gb) (same refl) ∙ is
choice_a false true ga gb ka same is = is
choice_a false false ga gb ka same is = is

choice_b : (la lb : Bool) (ga gb kb : ℕ) → (lb ≡ true → kb ≡ gb) → choice la lb ga gb ≡ B → choice la lb ga kb ≡ B
choice_b la true ga gb kb same is = ap (λ (n : ℕ). choice la true ga n) (same refl) ∙ is
choice_b true false ga gb kb same is = is
choice_b false false ga gb kb same is = is

no_b : (la : Bool) (ga gb : ℕ) → choice la false ga gb ≡ A
no_b true ga gb = refl
no_b false ga gb = refl

b_live : (la lb : Bool) (ga gb : ℕ) → choice la lb ga gb ≡ B → lb ≡ true
b_live la true ga gb is = refl
b_live true false ga gb is = cc
b_live false false ga gb is = cc

open_a : (lb : Bool) (ga gb : ℕ) → (lb ≡ true → gb < ga) → choice true lb ga gb ≡ A
open_a true ga gb less = ap (λ (q : Bool). if q then A else B) (lt-ltb gb ga (less refl))
open_a false ga gb less = refl

open_b : (la : Bool) (ga gb : ℕ) → (la ≡ true → ga < gb) → choice la true ga gb ≡ B
open_b true ga gb less = ap (λ (q : Bool). if q then A else B) (le-ltb gb ga (omega (arith, less refl)))
open_b false ga gb less = refl

-- the chosen area stays chosen where the other one is the same, and it is live as before, with its generation
pub stays_chosen : (area : Area) (t c : Areas) → chosen t ≡ area → rest area c ≡ rest area t → is_live (part area c) ≡ is_live (part area t)
    → (is_live (part area t) ≡ true → generation_of (part area c) ≡ generation_of (part area t)) → chosen c ≡ area
unfolding chosen
stays_chosen A t c is others live generation =
    ap (λ (l : Bool). choice l (is_live c.b) (generation_of c.a) (generation_of c.b)) live
    ∙ ap (λ (b : List ℕ). choice (is_live t.a) (is_live b) (generation_of c.a) (generation_of b)) others
    ∙ choice_a (is_live t.a) (is_live t.b) (generation_of t.a) (generation_of t.b) (generation_of c.a) generation is
stays_chosen B t c is others live generation =
    ap (λ (l : Bool). choice (is_live c.a) l (generation_of c.a) (generation_of c.b)) live
    ∙ ap (λ (a : List ℕ). choice (is_live a) (is_live t.b) (generation_of a) (generation_of c.b)) others
    ∙ choice_b (is_live t.a) (is_live t.b) (generation_of t.a) (generation_of t.b) (generation_of c.b) generation is

-- and where it is the same, and the other one is the same, or not live
pub shut_chosen : (area : Area) (t c : Areas) → chosen t ≡ other_of area → rest area c ≡ rest area t
    → (part area c ≡ part area t) ⊎ (is_live (part area c) ≡ false) → chosen c ≡ other_of area
unfolding chosen
shut_chosen A t c is others (inl same) =
    ap (λ (a : List ℕ). choice (is_live a) (is_live c.b) (generation_of a) (generation_of c.b)) same
    ∙ ap (λ (b : List ℕ). choice (is_live t.a) (is_live b) (generation_of t.a) (generation_of b)) others ∙ is
shut_chosen A t c is others (inr dead) =
    let live : is_live c.b ≡ true = ap is_live others ∙ b_live (is_live t.a) (is_live t.b) (generation_of t.a) (generation_of t.b) is in
    ap (λ (l : Bool). choice l (is_live c.b) (generation_of c.a) (generation_of c.b)) dead
    ∙ ap (λ (l : Bool). choice false l (generation_of c.a) (generation_of c.b)) live
shut_chosen B t c is others (inl same) =
    ap (λ (b : List ℕ). choice (is_live c.a) (is_live b) (generation_of c.a) (generation_of b)) same
    ∙ ap (λ (a : List ℕ). choice (is_live a) (is_live t.b) (generation_of a) (generation_of t.b)) others ∙ is
shut_chosen B t c is others (inr dead) =
    ap (λ (l : Bool). choice (is_live c.a) l (generation_of c.a) (generation_of c.b)) dead ∙ no_b (is_live c.a) (generation_of c.a) (generation_of c.b)

-- a live area is chosen whose generation is greater than that of the other one, where that is live
pub opened_chosen : (area : Area) (c : Areas) → is_live (part area c) ≡ true
    → (is_live (rest area c) ≡ true → generation_of (rest area c) < generation_of (part area c)) → chosen c ≡ area
unfolding chosen
opened_chosen A c live less =
    ap (λ (l : Bool). choice l (is_live c.b) (generation_of c.a) (generation_of c.b)) live ∙ open_a (is_live c.b) (generation_of c.a) (generation_of c.b) less
opened_chosen B c live less =
    ap (λ (l : Bool). choice (is_live c.a) l (generation_of c.a) (generation_of c.b)) live ∙ open_b (is_live c.a) (generation_of c.a) (generation_of c.b) less

-- an area at rest that is chosen
pub rest_stands : (area : Area) (version : ℕ) (summary : Option (List ℕ)) (bodies : List (List ℕ)) (c : Areas) → IsDistinct summary bodies → IsAtRestIn area version summary bodies c
    → AreasStand c version summary bodies
rest_stands area version summary bodies c distinct at =
    subst (λ (x : Area). (is_live (part x c) ≡ is_some summary) × Stands version (part x c) (all_of summary bodies)) (sym at.chosen_is)
    (rest_live version summary bodies (part area c) distinct at.at_rest, inr at.at_rest)

-- the generation is that in the summary, where there is one
same_generation : (version : ℕ) (summary : Option (List ℕ)) (bodies others : List (List ℕ)) (one two : List ℕ) → IsDistinct summary bodies → is_some summary ≡ true
    → AtRest version one (all_of summary bodies) → AtRest version two (all_of summary others) → generation_of two ≡ generation_of one
same_generation version None bodies others one two distinct some at_one at_two = cc
same_generation version (Some summary) bodies others one two distinct some at_one at_two =
    rest_generation version summary others two distinct.1 at_two ∙ sym (rest_generation version summary bodies one distinct.1 at_one)

-- the chosen area stays chosen whatever bodies it has at rest behind the same summary
pub rest_again : (area : Area) (version : ℕ) (summary : Option (List ℕ)) (bodies others : List (List ℕ)) (t c : Areas) → IsDistinct summary bodies → IsDistinct summary others
    → IsAtRestIn area version summary bodies t → rest area c ≡ rest area t → AtRest version (part area c) (all_of summary others) → IsAtRestIn area version summary others c
rest_again area version summary bodies others t c distinct distinct_others at same at_others =
    let before = rest_live version summary bodies (part area t) distinct at.at_rest in
    let after = rest_live version summary others (part area c) distinct_others at_others in
    record {
      chosen_is = stays_chosen area t c at.chosen_is same (after ∙ sym before)
          (λ live. same_generation version summary bodies others (part area t) (part area c) distinct (sym before ∙ live) at.at_rest at_others);
      at_rest = at_others;
    }

-- bodies more in an area
pub all_further : (summary : Option (List ℕ)) (bodies further : List (List ℕ)) → all_of summary (bodies ++ further) ≡ all_of summary bodies ++ further
all_further None bodies further = refl
all_further (Some summary) bodies further = refl

-- one body more
pub all_more : (summary : Option (List ℕ)) (bodies : List (List ℕ)) (body : List ℕ) → all_of summary (bodies ++ body ∷ []) ≡ all_of summary bodies ++ body ∷ []
all_more None bodies body = refl
all_more (Some summary) bodies body = refl
