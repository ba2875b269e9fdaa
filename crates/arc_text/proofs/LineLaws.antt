-- The lines of a stream that goes on, and what it leaves open.
use Rattle.std.proofs.Common.{◌≡◌, ℕ, List, [], ◌∷◌, ◌++◌, Bool, true, false, cond, eqb, length, refl, sym, ◌∙◌, ap, append-nil, arith}
use Rattle.std.specs.List.{list_any, onto_first}
use Rattle.std.specs.Str.Lines.{lines, lines_of_parts, strip_carriage_return}
use Rattle.std.proofs.lemmas.Bool.{ne_eqb, or_parts}
use Rattle.arc_text.specs.Lines.{is_feed, parts, ended_parts, last_part, ended_lines, rest_of}

-- Parts of a stream, and then of what follows it: the last of the first and the first of the others are one.

onto : List ℕ → List (List ℕ) → List (List ℕ)
onto p [] = p ∷ []
onto p (q ∷ qs) = (p ++ q) ∷ qs

joined : List (List ℕ) → List (List ℕ) → List (List ℕ)
joined [] qs = qs
joined (p ∷ []) qs = onto p qs
joined (p ∷ next ∷ ps) qs = p ∷ joined (next ∷ ps) qs

-- there is a part
record HasParts (ps : List (List ℕ)) : Type 0 where
  first : List ℕ
  others : List (List ℕ)
  is : ps ≡ first ∷ others

parts_step : (x : ℕ) (t : Bool) (ps : List (List ℕ)) → HasParts ps → HasParts (cond t ([] ∷ ps) (onto_first x ps))
parts_step x true ps some = record { first = []; others = ps; is = refl }
parts_step x false ps some = record { first = x ∷ some.first; others = some.others; is = ap (onto_first x) some.is }

has_parts : (s : List ℕ) → HasParts (parts s)
has_parts [] = record { first = []; others = []; is = refl }
has_parts (x ∷ s) = parts_step x (is_feed x) (parts s) (has_parts s)

onto_nothing : (qs : List (List ℕ)) → HasParts qs → qs ≡ onto [] qs
unfolding onto
onto_nothing [] some = absurd (let is = some.is in cc)
onto_nothing (q ∷ qs) some = refl

first_step : (x : ℕ) (q : List ℕ) (qs rs : List (List ℕ)) → onto_first x (joined (q ∷ qs) rs) ≡ joined (onto_first x (q ∷ qs)) rs
unfolding onto joined
first_step x q [] [] = refl
first_step x q [] (r ∷ rs) = refl
first_step x q (next ∷ qs) rs = refl

joined_step : (x : ℕ) (t : Bool) (ps rs all : List (List ℕ)) → HasParts ps → all ≡ joined ps rs → cond t ([] ∷ all) (onto_first x all) ≡ joined (cond t ([] ∷ ps) (onto_first x ps)) rs
unfolding joined
joined_step x true ps rs all some is = ap (λ l. [] ∷ l) is ∙ ap (λ l. [] ∷ joined l rs) some.is ∙ ap (λ l. joined ([] ∷ l) rs) (sym some.is)
joined_step x false ps rs all some is =
    ap (onto_first x) (is ∙ ap (λ l. joined l rs) some.is) ∙ first_step x some.first some.others rs ∙ ap (λ l. joined (onto_first x l) rs) (sym some.is)

parts-append : (s t : List ℕ) → parts (s ++ t) ≡ joined (parts s) (parts t)
unfolding joined
parts-append [] t = onto_nothing (parts t) (has_parts t)
parts-append (x ∷ s) t = joined_step x (is_feed x) (parts s) (parts t) (parts (s ++ t)) (has_parts s) (parts-append s t)

-- What joined parts end, and leave open.

some_joined : (p : List ℕ) (ps : List (List ℕ)) (q : List ℕ) (qs : List (List ℕ)) → HasParts (joined (p ∷ ps) (q ∷ qs))
unfolding onto joined
some_joined p [] q qs = record { first = p ++ q; others = qs; is = refl }
some_joined p (next ∷ ps) q qs = record { first = p; others = joined (next ∷ ps) (q ∷ qs); is = refl }

ended_first : (p : List ℕ) (ps : List (List ℕ)) → HasParts ps → ended_parts (p ∷ ps) ≡ strip_carriage_return p ∷ ended_parts ps
ended_first p [] some = absurd (let is = some.is in cc)
ended_first p (q ∷ ps) some = refl

last_first : (p : List ℕ) (ps : List (List ℕ)) → HasParts ps → last_part (p ∷ ps) ≡ last_part ps
last_first p [] some = absurd (let is = some.is in cc)
last_first p (q ∷ ps) some = refl

ended-joined : (p : List ℕ) (ps : List (List ℕ)) (q : List ℕ) (qs : List (List ℕ))
    → ended_parts (joined (p ∷ ps) (q ∷ qs)) ≡ ended_parts (p ∷ ps) ++ ended_parts ((last_part (p ∷ ps) ++ q) ∷ qs)
unfolding onto joined
ended-joined p [] q qs = refl
ended-joined p (next ∷ ps) q qs =
    ended_first p (joined (next ∷ ps) (q ∷ qs)) (some_joined next ps q qs) ∙ ap (λ l. strip_carriage_return p ∷ l) (ended-joined next ps q qs)

last-joined : (p : List ℕ) (ps : List (List ℕ)) (q : List ℕ) (qs : List (List ℕ)) → last_part (joined (p ∷ ps) (q ∷ qs)) ≡ last_part ((last_part (p ∷ ps) ++ q) ∷ qs)
unfolding onto joined
last-joined p [] q qs = refl
last-joined p (next ∷ ps) q qs = last_first p (joined (next ∷ ps) (q ∷ qs)) (some_joined next ps q qs) ∙ last-joined next ps q qs

-- A stream and what follows it, of which the parts are known.
record GoesOn (s t q : List ℕ) (qs : List (List ℕ)) : Type 0 where
  ended : ended_lines (s ++ t) ≡ ended_lines s ++ ended_parts ((rest_of s ++ q) ∷ qs)
  rest : rest_of (s ++ t) ≡ last_part ((rest_of s ++ q) ∷ qs)

goes_on : (s t q : List ℕ) (qs : List (List ℕ)) → parts t ≡ q ∷ qs → GoesOn s t q qs
goes_on s t q qs is =
    let some = has_parts s in
    let all = parts-append s t ∙ ap (joined (parts s)) is ∙ ap (λ l. joined l (q ∷ qs)) some.is in
    record {
      ended = ap ended_parts all ∙ ended-joined some.first some.others q qs ∙ ap (λ l. ended_parts l ++ ended_parts ((last_part l ++ q) ∷ qs)) (sym some.is);
      rest = ap last_part all ∙ last-joined some.first some.others q qs ∙ ap (λ l. last_part ((last_part l ++ q) ∷ qs)) (sym some.is);
    }

-- A run has no line feed.

parts_run : (run : List ℕ) → list_any is_feed run ≡ false → parts run ≡ run ∷ []
parts_run [] none = refl
parts_run (x ∷ run) none =
    let h = or_parts (is_feed x) (list_any is_feed run) none in
    rw (h.0, parts_run run h.1) refl

pub ended-append_run : (s run : List ℕ) → list_any is_feed run ≡ false → ended_lines (s ++ run) ≡ ended_lines s
ended-append_run s run none = (goes_on s run run [] (parts_run run none)).ended ∙ append-nil (ended_lines s)

pub rest-append_run : (s run : List ℕ) → list_any is_feed run ≡ false → rest_of (s ++ run) ≡ rest_of s ++ run
rest-append_run s run none = (goes_on s run run [] (parts_run run none)).rest

-- A line feed.

pub ended-append_feed : (s : List ℕ) → ended_lines (s ++ 10 ∷ []) ≡ ended_lines s ++ strip_carriage_return (rest_of s) ∷ []
ended-append_feed s = (goes_on s (10 ∷ []) [] ([] ∷ []) refl).ended ∙ ap (λ l. ended_lines s ++ strip_carriage_return l ∷ []) (append-nil (rest_of s))

pub rest-append_feed : (s : List ℕ) → rest_of (s ++ 10 ∷ []) ≡ []
rest-append_feed s = (goes_on s (10 ∷ []) [] ([] ∷ []) refl).rest

-- More of a stream only adds lines.
pub ended_more : (s t : List ℕ) → (more : List (List ℕ)) × (ended_lines (s ++ t) ≡ ended_lines s ++ more)
ended_more s t =
    let some = has_parts t in
    (ended_parts ((rest_of s ++ some.first) ∷ some.others), (goes_on s t some.first some.others some.is).ended)

-- The lines of a stream that ends.

-- what stands behind the last line feed, as a line
left_line : List ℕ → List (List ℕ)
left_line line = cond (eqb (length line) 0) [] (line ∷ [])

left_some : (x : ℕ) (xs : List ℕ) → left_line (x ∷ xs) ≡ (x ∷ xs) ∷ []
unfolding left_line
left_some x xs = ap (λ b. cond b [] ((x ∷ xs) ∷ [])) (ne_eqb (length (x ∷ xs)) 0 (λ z. omega arith))

lines_of_all : (p : List ℕ) (ps : List (List ℕ)) → lines_of_parts (p ∷ ps) ≡ ended_parts (p ∷ ps) ++ left_line (last_part (p ∷ ps))
unfolding left_line
lines_of_all p [] = refl
lines_of_all p (next ∷ ps) = ap (λ l. strip_carriage_return p ∷ l) (lines_of_all next ps)

lines_end : (s : List ℕ) → lines s ≡ ended_lines s ++ left_line (rest_of s)
lines_end s =
    let some = has_parts s in
    ap lines_of_parts some.is ∙ lines_of_all some.first some.others ∙ ap (λ l. ended_parts l ++ left_line (last_part l)) (sym some.is)

pub lines_without : (s : List ℕ) → rest_of s ≡ [] → lines s ≡ ended_lines s
unfolding left_line
lines_without s none = lines_end s ∙ ap (λ l. ended_lines s ++ left_line l) none ∙ append-nil (ended_lines s)

pub lines_with : (s : List ℕ) (x : ℕ) (xs : List ℕ) → rest_of s ≡ x ∷ xs → lines s ≡ ended_lines s ++ (x ∷ xs) ∷ []
lines_with s x xs is = lines_end s ∙ ap (λ l. ended_lines s ++ left_line l) is ∙ ap (λ l. ended_lines s ++ l) (left_some x xs)
