-- A mark changes the open incidents in place.
use Rattle.std.proofs.Common.{◌≡◌, ℕ, ◌+◌, List, [], ◌∷◌, ◌++◌, map, Bool, true, false, cond, refl, ap, ◌∙◌}
use Rattle.std.specs.Prelude.{not}
use Rattle.std.specs.List.{filter}
use Rattle.centre_rules.specs.Summary.{Summary}
use Rattle.centre_rules.specs.Marks.{Mark, Carries, Closes, Carried}
use Rattle.centre_rules.specs.Cases.{Incident, Case, Cases, begun, gone_on, incident_of, opened_by, left_by, cases, opened, incidents, opens, fresh, has_number}
use Rattle.centre_rules.specs.Tables.{touched_by, opened_after, with_opened, without_closed, table_after, opened_marked, table_marked}
use Rattle.centre_rules.specs.History.{onto}

map_gone : (m : Mark) (cs : List Case) → map incident_of (map (gone_on m) cs) ≡ map (touched_by m) (map incident_of cs)
map_gone m [] = refl
map_gone m (c ∷ cs) = ap (λ is. touched_by m (incident_of c) ∷ is) (map_gone m cs)

map_more : (i : Incident) (cs : List Case) → map incident_of (cs ++ begun i ∷ []) ≡ map incident_of cs ++ i ∷ []
map_more i [] = refl
map_more i (c ∷ cs) = ap (λ is. incident_of c ∷ is) (map_more i cs)

opened_if : (x : Carried) (c : Cases) (b : Bool) → map incident_of (cond b (record { opened = c.opened + 1; cases = c.cases ++ begun (fresh (c.opened + 1) x) ∷ [] }) c).cases ≡ cond b (map incident_of c.cases ++ fresh (c.opened + 1) x ∷ []) (map incident_of c.cases)
opened_if x c true = map_more (fresh (c.opened + 1) x) c.cases
opened_if x c false = refl

map_opened : (m : Mark) (c : Cases) → map incident_of (opened_by m c).cases ≡ with_opened m c.opened (map incident_of c.cases)
map_opened (Carries x) c = opened_if x c (opens x (map incident_of c.cases))
map_opened m c = refl

filter_if : (b : Bool) (c : Case) (cs : List Case) (is : List Incident) → map incident_of cs ≡ is → map incident_of (cond b (c ∷ cs) cs) ≡ cond b (incident_of c ∷ is) is
filter_if true c cs is e = ap (λ l. incident_of c ∷ l) e
filter_if false c cs is e = e

map_filter : (number : ℕ) (cs : List Case) → map incident_of (filter (λ c. not (has_number number c.base)) cs) ≡ filter (λ i. not (has_number number i)) (map incident_of cs)
map_filter number [] = refl
map_filter number (c ∷ cs) = filter_if (not (has_number number c.base)) c _ _ (map_filter number cs)

map_left : (m : Mark) (cs : List Case) → map incident_of (left_by m cs) ≡ without_closed m (map incident_of cs)
map_left (Closes number) cs = map_filter number cs
map_left m cs = refl

pub incidents_step : (s : Summary) (m : Mark) (ms : List Mark) → incidents s (m ∷ ms) ≡ table_after m (opened s ms) (incidents s ms)
incidents_step s m ms =
    let c = cases s ms in
    map_left m (map (gone_on m) (opened_by m c).cases)
    ∙ ap (without_closed m) (map_gone m (opened_by m c).cases ∙ ap (map (touched_by m)) (map_opened m c))

count_if : (x : Carried) (c : Cases) (b : Bool) → (cond b (record { opened = c.opened + 1; cases = c.cases ++ begun (fresh (c.opened + 1) x) ∷ [] }) c).opened ≡ cond b (c.opened + 1) c.opened
count_if x c true = refl
count_if x c false = refl

pub opened_step : (s : Summary) (m : Mark) (ms : List Mark) → opened s (m ∷ ms) ≡ opened_after m (opened s ms) (incidents s ms)
opened_step s (Carries x) ms = count_if x (cases s ms) (opens x (incidents s ms))
opened_step s m ms = refl

-- the incidents of a summary alone
map_begun : (is : List Incident) → map incident_of (map begun is) ≡ is
map_begun [] = refl
map_begun (i ∷ is) = ap (λ l. i ∷ l) (map_begun is)

pub incidents_begin : (s : Summary) → incidents s [] ≡ s.incidents
incidents_begin s = map_begun s.incidents

-- one mark after another
pub opened_onto : (s : Summary) (xs ms : List Mark) → opened s (onto xs ms) ≡ opened_marked xs (opened s ms) (incidents s ms)
opened_onto s [] ms = refl
opened_onto s (x ∷ xs) ms = opened_onto s xs (x ∷ ms) ∙ (λ i. opened_marked xs (opened_step s x ms i) (incidents_step s x ms i))

pub incidents_onto : (s : Summary) (xs ms : List Mark) → incidents s (onto xs ms) ≡ table_marked xs (opened s ms) (incidents s ms)
incidents_onto s [] ms = refl
incidents_onto s (x ∷ xs) ms = incidents_onto s xs (x ∷ ms) ∙ (λ i. table_marked xs (opened_step s x ms i) (incidents_step s x ms i))
