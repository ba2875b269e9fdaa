-- A summary has at least as many bytes as rows, and as incidents.
use Rattle.std.proofs.Common.{◌≤◌, ℕ, List, [], ◌∷◌, ◌++◌, length, arith, length-append}
use Rattle.std.specs.Int.{w32, to_be_bytes}
use Rattle.std.specs.List.{flat_map}
use Rattle.arc_data.specs.declared.incident.Incident.{Incident}
use Rattle.centre_rules.specs.Summary.{Summary, AccountRow}
use Rattle.summary_rules.specs.Laws.{ShortOnesAreFew}
use Rattle.summary_rules.specs.Spelling.{option_text, long_number, long_text, many_texts, row_text, incident_text, summary_text}

-- texts of which each has a byte
flat_long : {A : Type 0} (f : A → List ℕ) → ((x : A) → 1 ≤ length (f x)) → (xs : List A) → length xs ≤ length (flat_map f xs)
flat_long f one [] = omega arith
flat_long f one (x ∷ xs) = omega (arith, one x, flat_long f one xs, length-append (f x) (flat_map f xs))

many_long : {A : Type 0} (f : A → List ℕ) → ((x : A) → 1 ≤ length (f x)) → (xs : List A) → length xs ≤ length (many_texts f xs)
unfolding many_texts
many_long f one xs = omega (arith, flat_long f one xs, length-append (to_be_bytes w32 (length xs)) (flat_map f xs))

row_long : (r : AccountRow) → 1 ≤ length (row_text r)
unfolding row_text
row_long r = omega arith

incident_long : (version : ℕ) (i : Incident) → 1 ≤ length (incident_text version i)
unfolding incident_text long_number
incident_long version i = omega arith

-- the last of several texts, and the last but one
behind : (a b : List ℕ) → length b ≤ length (a ++ b)
behind a b = omega (arith, length-append a b)

both : (rows incidents : List ℕ) (n k : ℕ) → n ≤ length rows → k ≤ length incidents → (n ≤ length (rows ++ incidents)) × (k ≤ length (rows ++ incidents))
both rows incidents n k le ge = (omega (arith, le, length-append rows incidents), omega (arith, ge, length-append rows incidents))

further : (a b : List ℕ) (n k : ℕ) → (n ≤ length b) × (k ≤ length b) → (n ≤ length (a ++ b)) × (k ≤ length (a ++ b))
further a b n k w = (omega (arith, w.0, behind a b), omega (arith, w.1, behind a b))

whole : (version generation : ℕ) (s : Summary) → (length s.rows ≤ length (summary_text version generation s)) × (length s.incidents ≤ length (summary_text version generation s))
unfolding summary_text
whole version generation s =
    let n = length s.rows in
    let k = length s.incidents in
    let lists = both (many_texts row_text s.rows) (many_texts (incident_text version) s.incidents) n k (many_long row_text row_long s.rows) (many_long (incident_text version) (incident_long version) s.incidents) in
    further (11 ∷ []) _ n k (further (long_number generation) _ n k (further (long_number s.last) _ n k (further (long_number s.recorded) _ n k (further (long_number s.opened) _ n k
    (further (option_text long_number s.start) _ n k (further (option_text long_text s.text) _ n k lists))))))

pub short_few : ShortOnesAreFew
short_few version generation s short =
    let w = whole version generation s in
    record { rows = omega (arith, w.0, short); incidents = omega (arith, w.1, short) }
