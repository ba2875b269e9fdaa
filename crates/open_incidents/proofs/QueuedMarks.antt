-- Who waits after each mark.
use Rattle.std.proofs.Common.{◌≡◌, ◌<◌, ◌≤◌, ◌+◌, ℕ, List, [], ◌∷◌, ◌++◌, map, length, Bool, true, false, cond, refl, sym, ap, ◌∙◌, arith, subst}
use Rattle.std.proofs.Common.{length-append}
use Rattle.std.specs.Prelude.{not, is_none, Some, None}
use Rattle.std.specs.List.Sorted.{IsPermutation}
use Rattle.std.proofs.lemmas.List.{length-map}
use Rattle.std.proofs.lemmas.List.Sorted.{IsPermutation-push_more}
use Rattle.arc_data.specs.Classes.{priority_of}
use Rattle.arc_data.specs.Incidents.{has_number}
use Rattle.arc_data.specs.declared.incident.Incident.{Incident}
use Rattle.arc_data.specs.declared.step.Acted.{Acted}
use Rattle.centre_rules.specs.Cases.{opens, fresh}
use Rattle.centre_rules.specs.Marks.{Mark, Starts, Carries, Claims, Acts, Releases, Closes, Carried}
use Rattle.centre_rules.specs.Tables.{touched_by, table_after}
use Rattle.open_incidents.specs.Marked.{marked_table, IsFew}
use Rattle.open_incidents.proofs.Pointwise.{releases_map, closes_map}
use Rattle.incidents.specs.Tables.{TableValue, at_number, without, held}
use Rattle.operator_queue.specs.Pairs.{PairsValue}
use Rattle.open_incidents.specs.Holding.{HeldValue}
use Rattle.open_incidents.specs.Waiting.{pair_of, waiting, with_queue}
use Rattle.open_incidents.proofs.Parts.{Pairs, waits_not, same_head, same_all, waiting_append}

-- Whether one was opened.

rose : (b : Bool) (opened now : ℕ) → now ≡ cond b (opened + 1) opened → opened < now → b ≡ true
rose true opened now e lt = refl
rose false opened now e lt = absurd (omega (arith, e, lt))

stayed : (b : Bool) (opened now : ℕ) → now ≡ cond b (opened + 1) opened → now ≤ opened → b ≡ false
stayed true opened now e le = absurd (omega (arith, e, le))
stayed false opened now e le = refl

-- How many are open.

pub long_same : (m : Mark) (is js : List Incident) → js ≡ map (touched_by m) is → length js ≡ length is
long_same m is js e = ap length e ∙ length-map is (touched_by m)

short_if : (b : Bool) (i : Incident) (is js : List Incident) → length is ≤ length js → length (cond b (i ∷ is) is) ≤ length (i ∷ js)
short_if true i is js le = omega (arith, le)
short_if false i is js le = omega (arith, le)

short : (n : ℕ) (is : List Incident) → length (without n is) ≤ length is
short n [] = omega arith
short n (i ∷ is) = short_if (not (has_number n i)) i (without n is) is (short n is)

pub long_closed : (n opened : ℕ) (is js : List Incident) → js ≡ table_after (Closes n) opened is → length js ≤ length is
long_closed n opened is js e = omega (arith, ap length e, short n (map (touched_by (Closes n)) is), length-map is (touched_by (Closes n)))

more_if : (b : Bool) (i : Incident) (is : List Incident) → length (cond b (is ++ i ∷ []) is) ≤ length is + 1
more_if true i is = omega (arith, length-append is (i ∷ []))
more_if false i is = omega arith

pub long_carried : (x : Carried) (t u : TableValue) → u ≡ marked_table (Carries x) t → length u.incidents ≤ length t.incidents + 1
long_carried x t u e =
    let opened = cond (opens x t.incidents) (t.incidents ++ fresh (t.opened + 1) x ∷ []) t.incidents in
    omega (
      arith,
      ap (λ (y : TableValue). length y.incidents) e,
      length-map opened (touched_by (Carries x)),
      more_if (opens x t.incidents)
          (fresh (t.opened + 1) x) t.incidents,
    )

pub long_kept : (x : Carried) (t u : TableValue) → u ≡ marked_table (Carries x) t → u.opened ≤ t.opened → length u.incidents ≤ length t.incidents
long_kept x t u e le =
    let opened = cond (opens x t.incidents) (t.incidents ++ fresh (t.opened + 1) x ∷ []) t.incidents in
    let none : opens x t.incidents ≡ false = stayed (opens x t.incidents) t.opened u.opened (ap (λ (y : TableValue). y.opened) e) le in
    omega (
      arith,
      ap (λ (y : TableValue). length y.incidents) e,
      length-map opened (touched_by (Carries x)),
      ap (λ (c : Bool). length (cond c (t.incidents ++ fresh (t.opened + 1) x ∷ []) t.incidents)) none,
    )

-- The bounds are those of the table.

pub few_seen : (t old : TableValue) (queue : PairsValue) (list : HeldValue) (n : ℕ) → with_queue t queue list ≡ old
    → IsFew n old.opened old.incidents → IsFew n t.opened t.incidents
few_seen t old queue list n is few = subst (λ (y : TableValue). IsFew n y.opened y.incidents) (sym is) few

-- after a Start all wait
pub starts_waiting : (at : ℕ) (is : List Incident) → waiting (map (touched_by (Starts at)) is) ≡ map pair_of is
starts_waiting at [] = refl
starts_waiting at (i ∷ is) = ap (λ (l : Pairs). pair_of i ∷ l) (starts_waiting at is)

pub started : (at : ℕ) (is js : List Incident) (queue : Pairs) → js ≡ map (touched_by (Starts at)) is → IsPermutation (map pair_of is) queue
    → IsPermutation (waiting js) queue
started at is js queue e put = subst (λ (l : Pairs). IsPermutation l queue) (sym (ap waiting e ∙ starts_waiting at is)) put

-- after a claim all others wait that waited
claim_if : (o : List ℕ) (n at : ℕ) (i : Incident) (b : Bool) (is js : List Incident) → has_number n i ≡ b → waiting is ≡ waiting js
    → waiting (touched_by (Claims o n at) i ∷ is) ≡ waiting (cond (not b) (i ∷ js) js)
claim_if o n at i true is js e rest = waits_not (touched_by (Claims o n at) i) is (ap (λ (c : Bool). is_none (cond c (Some o) i.holder)) e) ∙ rest
claim_if o n at i false is js e rest =
    same_head (touched_by (Claims o n at) i) i is js (ap (λ (c : Bool). is_none (cond c (Some o) i.holder)) e) refl rest

pub claims_waiting : (o : List ℕ) (n at : ℕ) (is : List Incident) → waiting (map (touched_by (Claims o n at)) is) ≡ waiting (without n is)
claims_waiting o n at [] = refl
claims_waiting o n at (i ∷ is) =
    claim_if o n at i (has_number n i) (map (touched_by (Claims o n at)) is) (without n is) refl (claims_waiting o n at is)

pub claimed : (o : List ℕ) (n at : ℕ) (is js : List Incident) (queue : Pairs) → js ≡ map (touched_by (Claims o n at)) is
    → IsPermutation (waiting (without n is)) queue → IsPermutation (waiting js) queue
claimed o n at is js queue e left = subst (λ (l : Pairs). IsPermutation l queue) (sym (ap waiting e ∙ claims_waiting o n at is)) left

-- after a release that incident waits
pub released : (n : ℕ) (is js : List Incident) (queue : Pairs) → js ≡ map (touched_by (Releases n)) is
    → IsPermutation (waiting (at_number n (held None 0) is)) queue → IsPermutation (waiting js) queue
released n is js queue e put = subst (λ (l : Pairs). IsPermutation l queue) (sym (ap waiting (e ∙ sym (releases_map n is)))) put

-- after an act the same ones wait
pub acted : (n : ℕ) (a : Acted) (is js : List Incident) (queue : Pairs) → js ≡ map (touched_by (Acts n a)) is → IsPermutation (waiting is) queue
    → IsPermutation (waiting js) queue
acted n a is js queue e same =
    subst (λ (l : Pairs). IsPermutation l queue) (sym (ap waiting e ∙ same_all (touched_by (Acts n a)) is (λ i. refl) (λ i. refl))) same

-- after a closing the others wait that waited
pub closed : (n opened : ℕ) (is js : List Incident) (queue : Pairs) → js ≡ table_after (Closes n) opened is
    → IsPermutation (waiting (without n is)) queue → IsPermutation (waiting js) queue
closed n opened is js queue e left = subst (λ (l : Pairs). IsPermutation l queue) (sym (ap waiting (e ∙ sym (closes_map n is)))) left

-- after a signal that opens one that one waits too

carries_waiting : (x : Carried) (opened : ℕ) (is : List Incident) (b : Bool) → opens x is ≡ b
    → waiting (table_after (Carries x) opened is) ≡ waiting (cond b (is ++ fresh (opened + 1) x ∷ []) is)
carries_waiting x opened is b e =
    same_all (touched_by (Carries x)) (cond (opens x is) (is ++ fresh (opened + 1) x ∷ []) is) (λ i. refl) (λ i. refl)
    ∙ ap (λ (c : Bool). waiting (cond c (is ++ fresh (opened + 1) x ∷ []) is)) e

pub carried_new : (x : Carried) (t u : TableValue) (queue more : Pairs) → u ≡ marked_table (Carries x) t → t.opened < u.opened
    → IsPermutation (waiting t.incidents) queue
    → IsPermutation ((priority_of x.signal.class, u.opened) ∷ queue) more → IsPermutation (waiting u.incidents) more
carried_new x t u queue more is lt same put =
    let opened : u.opened ≡ cond (opens x t.incidents) (t.opened + 1) t.opened = ap (λ (y : TableValue). y.opened) is in
    let new : opens x t.incidents ≡ true = rose (opens x t.incidents) t.opened u.opened opened lt in
    let number : u.opened ≡ t.opened + 1 = opened ∙ ap (λ (c : Bool). cond c (t.opened + 1) t.opened) new in
    let one : ℕ × ℕ = (priority_of x.signal.class, t.opened + 1) in
    let here : IsPermutation (one ∷ queue) more = subst (λ (n : ℕ). IsPermutation ((priority_of x.signal.class, n) ∷ queue) more) number put in
    let all : waiting u.incidents ≡ waiting t.incidents ++ one ∷ [] =
    ap (λ (y : TableValue). waiting y.incidents) is ∙ carries_waiting x t.opened t.incidents true new
    ∙ waiting_append t.incidents (fresh (t.opened + 1) x ∷ []) in
    subst (λ (l : Pairs). IsPermutation l more) (sym all) (IsPermutation-push_more (waiting t.incidents) queue more one same here)

pub carried_old : (x : Carried) (t u : TableValue) (queue : Pairs) → u ≡ marked_table (Carries x) t → u.opened ≤ t.opened
    → IsPermutation (waiting t.incidents) queue → IsPermutation (waiting u.incidents) queue
carried_old x t u queue is le same =
    let opened : u.opened ≡ cond (opens x t.incidents) (t.opened + 1) t.opened = ap (λ (y : TableValue). y.opened) is in
    let none : opens x t.incidents ≡ false = stayed (opens x t.incidents) t.opened u.opened opened le in
    let all : waiting u.incidents ≡ waiting t.incidents =
    ap (λ (y : TableValue). waiting y.incidents) is ∙ carries_waiting x t.opened t.incidents false none in
    subst (λ (l : Pairs). IsPermutation l queue) (sym all) same
