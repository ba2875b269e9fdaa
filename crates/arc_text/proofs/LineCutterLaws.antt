-- What a line cutter keeps after a run and after a line feed, and what it tells.
use Rattle.std.proofs.Common.{◌≡◌, ℕ, suc, ◌+◌, ◌-◌, ◌<◌, ◌≤◌, min, List, [], ◌∷◌, ◌++◌, length, take, drop, get_or, Bool, true, false, cond, eqb, ltb, leb, Some, None, refl, sym, ◌∙◌, ap, subst, arith, append-nil, append_assoc, length-append, length-take, length-drop, take-append-drop, drop-cons, inl, inr}
use Rattle.std.specs.List.{list_any, position, position_or_len}
use Rattle.std.specs.Str.{bytes_eq}
use Rattle.std.specs.Str.Lines.{strip_carriage_return}
use Rattle.std.proofs.Math.Seq.{take-append_seam, drop-append_seam}
use Rattle.std.proofs.lemmas.Bool.{le-leb, lt-leb, leb-true, leb-false, eqb-true, eqb-false, ltb-false, cases_lt}
use Rattle.std.proofs.lemmas.List.{take_all, drop_all, take-append-le, drop-append-le, get_or-take}
use Rattle.std.proofs.lemmas.List.Sums.{fails_before_first}
use Rattle.std.proofs.lemmas.List.Folds.{list_any_none}
use Rattle.std.proofs.lemmas.List.Quantifiers.{position-Some}
use Rattle.std.proofs.lemmas.Slice.Eq.{bytes_eq-Decides}
use Rattle.arc_text.specs.Lines.{is_feed, ended_lines, rest_of}
use Rattle.arc_text.specs.LineCutting.{Kept, Within, Full, Beyond, kept_of, LineCutterValue, WasFed, TellsLine, EndsLine, Feeds, Finishes}
use Rattle.arc_text.specs.LineHolding.{kept_in, reached}
use Rattle.arc_text.specs.declared.line_cut.LineCut.{LineCut}
use Rattle.arc_text.specs.declared.line_cut.LineCut.TheVariants.{Whole, TooLong}
use Rattle.arc_text.specs.declared.line_cutter.Reach.{Reach}
use Rattle.arc_text.specs.declared.line_cutter.Reach.TheVariants.{Short, Returned, Overlong}
use Rattle.arc_text.proofs.LineLaws.{ended-append_run, rest-append_run, ended-append_feed, rest-append_feed, lines_without, lines_with}

-- What is kept tells of the open line.

abbrev IsReturn : List ℕ → Type 0
IsReturn more = more ≡ 13 ∷ []

record IsShort (limit : ℕ) (line p : List ℕ) : Type 0 where
  is : line ≡ p
  size : length p ≤ limit

record IsFull (limit : ℕ) (line p : List ℕ) : Type 0 where
  is : take limit line ≡ p
  size : limit < length line
  behind : IsReturn (drop limit line)

record IsLong (limit : ℕ) (line : List ℕ) : Type 0 where
  size : limit < length line
  behind : IsReturn (drop limit line) → ⊥

keeps : Bool → Bool → List ℕ → List ℕ → Kept
keeps t u line front = cond t (Within line) (cond u (Full front) Beyond)

short_step : (t u : Bool) (line front p : List ℕ) → Within p ≡ keeps t u line front → (t ≡ true) × (line ≡ p)
unfolding keeps
short_step true u line front p is = (refl, cc)
short_step false true line front p is = absurd cc
short_step false false line front p is = absurd cc

full_step : (t u : Bool) (line front p : List ℕ) → Full p ≡ keeps t u line front → (t ≡ false) × (u ≡ true) × (front ≡ p)
unfolding keeps
full_step true u line front p is = absurd cc
full_step false true line front p is = (refl, refl, cc)
full_step false false line front p is = absurd cc

long_step : (t u : Bool) (line front : List ℕ) → Beyond ≡ keeps t u line front → (t ≡ false) × (u ≡ false)
unfolding keeps
long_step true u line front is = absurd cc
long_step false true line front is = absurd cc
long_step false false line front is = (refl, refl)

not_return : (more : List ℕ) → bytes_eq more (13 ∷ []) ≡ false → IsReturn more → ⊥
not_return more off is = let yes = (bytes_eq-Decides more (13 ∷ [])).1 is in cc

is_short : (limit : ℕ) (line p : List ℕ) → Within p ≡ kept_of limit line → IsShort limit line p
unfolding keeps
is_short limit line p is =
    let h = short_step (leb (length line) limit) (bytes_eq (drop limit line) (13 ∷ [])) line (take limit line) p is in
    record { is = h.1; size = omega (arith, leb-true (length line) limit h.0, ap length h.1) }

is_full : (limit : ℕ) (line p : List ℕ) → Full p ≡ kept_of limit line → IsFull limit line p
unfolding keeps
is_full limit line p is =
    let h = full_step (leb (length line) limit) (bytes_eq (drop limit line) (13 ∷ [])) line (take limit line) p is in
    record { is = h.2; size = leb-false (length line) limit h.0; behind = (bytes_eq-Decides (drop limit line) (13 ∷ [])).0 h.1 }

is_long : (limit : ℕ) (line : List ℕ) → Beyond ≡ kept_of limit line → IsLong limit line
unfolding keeps
is_long limit line is =
    let h = long_step (leb (length line) limit) (bytes_eq (drop limit line) (13 ∷ [])) line (take limit line) is in
    record { size = leb-false (length line) limit h.0; behind = not_return (drop limit line) h.1 }

-- and the open line tells what is kept

keeps_short : (limit : ℕ) (line : List ℕ) → length line ≤ limit → Within line ≡ kept_of limit line
keeps_short limit line size = rw (le-leb (length line) limit size) refl

keeps_full : (limit : ℕ) (line : List ℕ) → limit < length line → IsReturn (drop limit line) → Full (take limit line) ≡ kept_of limit line
keeps_full limit line size is = rw (lt-leb (length line) limit size, (bytes_eq-Decides (drop limit line) (13 ∷ [])).1 is) refl

no_return : (more : List ℕ) (t : Bool) → bytes_eq more (13 ∷ []) ≡ t → (IsReturn more → ⊥) → t ≡ false
no_return more true is off = absurd (off ((bytes_eq-Decides more (13 ∷ [])).0 is))
no_return more false is off = refl

keeps_long : (limit : ℕ) (line : List ℕ) → limit < length line → (IsReturn (drop limit line) → ⊥) → Beyond ≡ kept_of limit line
keeps_long limit line size off = rw (lt-leb (length line) limit size, no_return (drop limit line) (bytes_eq (drop limit line) (13 ∷ [])) refl off) refl

-- what is kept, by how far the line has come
pub kept_at : (stream bytes : List ℕ) (limit len : ℕ) (reach now : Reach) → reach ≡ now → kept_in reach len bytes ≡ kept_of limit (rest_of stream) → kept_in now len bytes ≡ kept_of limit (rest_of stream)
kept_at stream bytes limit len reach now is was = ap (λ r. kept_in r len bytes) (sym is) ∙ was

-- A run behind a line within the limit.

kept_as : Reach → List ℕ → Kept
kept_as Short line = Within line
kept_as Returned line = Full line
kept_as Overlong line = Beyond

kept_in_is : (r : Reach) (len : ℕ) (bytes line : List ℕ) → take len bytes ≡ line → kept_in r len bytes ≡ kept_as r line
unfolding kept_as
kept_in_is Short len bytes line is = ap Within is
kept_in_is Returned len bytes line is = ap Full is
kept_in_is Overlong len bytes line is = refl

-- a line of as many bytes as the limit, and what stands behind it
module _ (limit : ℕ) (line : List ℕ) (size : length line ≡ limit) where
  behind : (more : List ℕ) → drop limit (line ++ more) ≡ more
  behind more = ap (λ n. drop n (line ++ more)) (sym size) ∙ drop-append_seam line more

  front : (more : List ℕ) → take limit (line ++ more) ≡ line
  front more = ap (λ n. take n (line ++ more)) (sym size) ∙ take-append_seam line more

  one_step : (b : ℕ) (t : Bool) → eqb b 13 ≡ t → kept_as (cond t Returned Overlong) line ≡ kept_of limit (line ++ b ∷ [])
  unfolding kept_as
  one_step b true is =
      sym (ap Full (front (b ∷ []))) ∙ keeps_full limit (line ++ b ∷ []) (omega (arith, length-append line (b ∷ []), size)) (behind (b ∷ []) ∙ ap (λ x. x ∷ []) (eqb-true b 13 is))
  one_step b false is =
      keeps_long limit (line ++ b ∷ []) (omega (arith, length-append line (b ∷ []), size)) (λ return. eqb-false b 13 is (let same = sym (behind (b ∷ [])) ∙ return in cc))

  kept_behind : (more : List ℕ) → kept_as (reached more) line ≡ kept_of limit (line ++ more)
  unfolding kept_as
  kept_behind [] = keeps_short limit line (omega (arith, size)) ∙ ap (kept_of limit) (sym (append-nil line))
  kept_behind (b ∷ []) = one_step b (eqb b 13) refl
  kept_behind (b ∷ next ∷ more) =
      keeps_long limit (line ++ b ∷ next ∷ more) (omega (arith, length-append line (b ∷ next ∷ more), size)) (λ return. let same = sym (behind (b ∷ next ∷ more)) ∙ return in cc)

-- as much of the run as the limit leaves, and what the rest of it makes of the line
run_step : (limit n : ℕ) (line run more : List ℕ) → length line ≤ limit → n ≡ min (length run) (limit - length line) → more ≡ drop n run
    → kept_as (reached more) (line ++ take n run) ≡ kept_of limit (line ++ run)
unfolding kept_as
run_step limit n line run [] size is rest =
    let all : length run ≤ n = omega (arith, length-drop n run, ap length rest) in
    ap (λ l. Within (line ++ l)) (take_all n run all) ∙ keeps_short limit (line ++ run) (omega (arith, length-append line run, is, all, size))
run_step limit n line run (b ∷ more) size is rest =
    let some : n < length run = omega (arith, length-drop n run, ap length rest) in
    let full : length (line ++ take n run) ≡ limit = omega (arith, length-append line (take n run), length-take n run, is, some, size) in
    let whole : (line ++ take n run) ++ b ∷ more ≡ line ++ run = append_assoc line (take n run) (b ∷ more) ∙ ap (λ l. line ++ (take n run ++ l)) rest ∙ ap (λ l. line ++ l) (take-append-drop n run) in
    kept_behind limit (line ++ take n run) full (b ∷ more) ∙ ap (kept_of limit) whole

pub short_after : (limit n len end : ℕ) (stream bytes field run : List ℕ) → Within (take len bytes) ≡ kept_of limit (rest_of stream) → n ≡ min (length run) (limit - length (take len bytes))
    → take end field ≡ take len bytes ++ take n run → list_any is_feed run ≡ false → kept_in (reached (drop n run)) end field ≡ kept_of limit (rest_of (stream ++ run))
short_after limit n len end stream bytes field run was size is none =
    let s = is_short limit (rest_of stream) (take len bytes) was in
    kept_in_is (reached (drop n run)) end field (take len bytes ++ take n run) is
    ∙ run_step limit n (take len bytes) run (drop n run) s.size size refl
    ∙ ap (λ l. kept_of limit (l ++ run)) (sym s.is)
    ∙ ap (kept_of limit) (sym (rest-append_run stream run none))

-- A run behind a line that has come to the limit and a carriage return, or further.

-- what stands behind the limit, and then a run
longer : (limit : ℕ) (line run : List ℕ) → limit < length line → drop limit (line ++ run) ≡ drop limit line ++ run
longer limit line run size = drop-append-le limit line run (omega arith)

one_only : (more run : List ℕ) → (run ≡ [] → ⊥) → 0 < length more → IsReturn (more ++ run) → ⊥
one_only more [] some size is = some refl
one_only [] (b ∷ run) some size is = omega arith
one_only (a ∷ []) (b ∷ run) some size is = cc
one_only (a ∷ c ∷ more) (b ∷ run) some size is = cc

pub full_after : (limit : ℕ) (stream p run : List ℕ) → Full p ≡ kept_of limit (rest_of stream) → (run ≡ [] → ⊥) → list_any is_feed run ≡ false → Beyond ≡ kept_of limit (rest_of (stream ++ run))
full_after limit stream p run was some none =
    let f = is_full limit (rest_of stream) p was in
    let more : 0 < length (drop limit (rest_of stream)) = omega (arith, length-drop limit (rest_of stream), f.size) in
    keeps_long limit (rest_of stream ++ run) (omega (arith, length-append (rest_of stream) run, f.size))
    (λ return. one_only (drop limit (rest_of stream)) run some more (sym (longer limit (rest_of stream) run f.size) ∙ return))
    ∙ ap (kept_of limit) (sym (rest-append_run stream run none))

long_step_run : (more run : List ℕ) → 0 < length more → (IsReturn more → ⊥) → IsReturn (more ++ run) → ⊥
long_step_run more [] size other is = other (sym (append-nil more) ∙ is)
long_step_run more (b ∷ run) size other is = one_only more (b ∷ run) (λ none. cc) size is

pub long_after : (limit : ℕ) (stream run : List ℕ) → Beyond ≡ kept_of limit (rest_of stream) → list_any is_feed run ≡ false → Beyond ≡ kept_of limit (rest_of (stream ++ run))
long_after limit stream run was none =
    let l = is_long limit (rest_of stream) was in
    let more : 0 < length (drop limit (rest_of stream)) = omega (arith, length-drop limit (rest_of stream), l.size) in
    keeps_long limit (rest_of stream ++ run) (omega (arith, length-append (rest_of stream) run, l.size))
    (λ return. long_step_run (drop limit (rest_of stream)) run more l.behind (sym (longer limit (rest_of stream) run l.size) ∙ return))
    ∙ ap (kept_of limit) (sym (rest-append_run stream run none))

-- A line without its carriage return.

strip_with : Bool → List ℕ → List ℕ
strip_with t line = cond t (take (length line - 1) line) line

with_front : (t : Bool) (line : List ℕ) → take (length (strip_with t line)) line ≡ strip_with t line
unfolding strip_with
with_front true line = ap (λ n. take n line) (length-take (length line - 1) line ∙ omega arith)
with_front false line = take_all (length line) line (omega arith)

pub strip_front : (line : List ℕ) → take (length (strip_carriage_return line)) line ≡ strip_carriage_return line
unfolding strip_with
strip_front line = with_front (eqb (get_or line (length line - 1) 0) 13) line

with_short : (t : Bool) (line : List ℕ) → length (strip_with t line) ≤ length line
unfolding strip_with
with_short true line = omega (arith, length-take (length line - 1) line)
with_short false line = omega arith

pub strip_short : (line : List ℕ) → length (strip_carriage_return line) ≤ length line
unfolding strip_with
strip_short line = with_short (eqb (get_or line (length line - 1) 0) 13) line

-- the last byte is all that stands behind the limit
with_one : (limit : ℕ) (line : List ℕ) → length line ≡ limit + 1 → drop limit line ≡ get_or line (length line - 1) 0 ∷ []
with_one limit line size =
    drop-cons line limit 0 (omega arith)
    ∙ ap (λ l. get_or line limit 0 ∷ l) (drop_all (suc limit) line (omega arith))
    ∙ ap (λ n. get_or line n 0 ∷ []) (omega arith)

with_long : (limit : ℕ) (t : Bool) (line : List ℕ) → eqb (get_or line (length line - 1) 0) 13 ≡ t → IsLong limit line → limit < length (strip_with t line)
unfolding strip_with
with_long limit false line is l = l.size
with_long limit true line is l = elim (cases_lt (limit + 1) (length line)) [
  | inl longer ↦ omega (arith, length-take (length line - 1) line, longer)
  | inr short ↦ absurd (l.behind (with_one limit line (omega (arith, short, l.size)) ∙ ap (λ b. b ∷ []) (eqb-true (get_or line (length line - 1) 0) 13 is)))
]

strip_long : (limit : ℕ) (line : List ℕ) → IsLong limit line → limit < length (strip_carriage_return line)
unfolding strip_with
strip_long limit line l = with_long limit (eqb (get_or line (length line - 1) 0) 13) line refl l

strip_full : (limit : ℕ) (line p : List ℕ) → IsFull limit line p → strip_carriage_return line ≡ p
strip_full limit line p f =
    let size : length line ≡ limit + 1 = omega (arith, length-drop limit line, ap length f.behind, f.size) in
    let last : get_or line (length line - 1) 0 ≡ 13 = (let one = sym (with_one limit line size) ∙ f.behind in cc) in
    ap (λ b. cond b (take (length line - 1) line) line) (ap (λ n. eqb n 13) last)
    ∙ ap (λ n. take n line) (omega arith) ∙ f.is

-- What is told.

tells_whole : (line : List ℕ) (c : LineCutterValue) → length line ≤ c.limit → c.line ≡ line → TellsLine line Whole c
tells_whole line c size is = record { cut = rw (le-leb (length line) c.limit size) refl; kept = is }

tells_long : (line : List ℕ) (c : LineCutterValue) → c.limit < length line → c.line ≡ [] → TellsLine line TooLong c
tells_long line c size is = record { cut = rw (lt-leb (length line) c.limit size) refl; kept = is }

nothing_open : (limit : ℕ) (line : List ℕ) → line ≡ [] → Within [] ≡ kept_of limit line
nothing_open limit line is = keeps_short limit [] (omega arith) ∙ ap (kept_of limit) (sym is)

ends : (stream : List ℕ) → EndsLine stream (10 ∷ []) (strip_carriage_return (rest_of stream))
ends stream = record { front = []; last = refl; none = ap ended_lines (append-nil stream); one = ended-append_feed stream }

closed : (stream : List ℕ) (told : LineCut) (c : LineCutterValue) → c.kept ≡ Within [] → TellsLine (strip_carriage_return (rest_of stream)) told c → Feeds stream (10 ∷ []) (Some told) c
closed stream told c kept tells = record {
  fed = kept ∙ nothing_open c.limit (rest_of (stream ++ 10 ∷ [])) (rest-append_feed stream);
  lines = (strip_carriage_return (rest_of stream), ends stream, tells);
}

take_shorter : (end len : ℕ) (bytes : List ℕ) → end ≤ length (take len bytes) → take end bytes ≡ take end (take len bytes)
take_shorter end len bytes le = ap (take end) (sym (take-append-drop len bytes)) ∙ take-append-le end (take len bytes) (drop len bytes) le

-- the line that a line feed ends, told by its front in the buffer
pub closed_short : (limit len end : ℕ) (stream bytes : List ℕ) → len ≤ length bytes → Within (take len bytes) ≡ kept_of limit (rest_of stream) → end ≡ length (strip_carriage_return (take len bytes))
    → Feeds stream (10 ∷ []) (Some Whole) (record { limit = limit; kept = Within []; line = take end bytes })
closed_short limit len end stream bytes fits was is =
    let s = is_short limit (rest_of stream) (take len bytes) was in
    let p : List ℕ = take len bytes in
    let within : end ≤ len = omega (arith, is, strip_short p, length-take len bytes, fits) in
    let told : take end bytes ≡ strip_carriage_return p = take_shorter end len bytes (omega (arith, length-take len bytes, within, fits)) ∙ ap (λ n. take n p) is ∙ strip_front p in
    closed stream Whole _ refl
    (subst (λ (l : List ℕ). TellsLine (strip_carriage_return l) Whole (record { limit = limit; kept = Within []; line = take end bytes })) (sym s.is)
    (tells_whole (strip_carriage_return p) _ (omega (arith, strip_short p, s.size)) told))

pub closed_full : (limit len : ℕ) (stream bytes : List ℕ) → Full (take len bytes) ≡ kept_of limit (rest_of stream) → length (take len bytes) ≤ limit
    → Feeds stream (10 ∷ []) (Some Whole) (record { limit = limit; kept = Within []; line = take len bytes })
closed_full limit len stream bytes was short =
    let f = is_full limit (rest_of stream) (take len bytes) was in
    closed stream Whole _ refl
    (subst (λ (l : List ℕ). TellsLine l Whole (record { limit = limit; kept = Within []; line = take len bytes })) (sym (strip_full limit (rest_of stream) (take len bytes) f))
    (tells_whole (take len bytes) _ short refl))

pub closed_long : (limit : ℕ) (stream : List ℕ) → Beyond ≡ kept_of limit (rest_of stream) → Feeds stream (10 ∷ []) (Some TooLong) (record { limit = limit; kept = Within []; line = [] })
closed_long limit stream was = closed stream TooLong _ refl (tells_long _ _ (strip_long limit (rest_of stream) (is_long limit (rest_of stream) was)) refl)

-- The end of the stream.

pub finished_none : (stream : List ℕ) (c : LineCutterValue) → Within [] ≡ c.kept → WasFed stream c → Finishes stream None c
finished_none stream c empty was =
    let s = is_short c.limit (rest_of stream) [] (empty ∙ was) in
    record { fed = sym empty ∙ nothing_open c.limit (rest_of []) refl; lines = lines_without stream s.is }

finished : (limit : ℕ) (stream rest : List ℕ) (told : LineCut) (c : LineCutterValue) → c.limit ≡ limit → c.kept ≡ Within [] → rest_of stream ≡ rest → 0 < length rest → TellsLine rest told c → Finishes stream (Some told) c
finished limit stream [] told c same kept is some tells = absurd (omega arith)
finished limit stream (x ∷ rest) told c same kept is some tells = record {
  fed = kept ∙ nothing_open c.limit (rest_of []) refl;
  lines = (x ∷ rest, lines_with stream x rest is, tells);
}

pub finished_short : (limit : ℕ) (stream p : List ℕ) → 0 < length p → Within p ≡ kept_of limit (rest_of stream) → Finishes stream (Some Whole) (record { limit = limit; kept = Within []; line = p })
finished_short limit stream p some was =
    let s = is_short limit (rest_of stream) p was in
    finished limit stream p Whole _ refl refl s.is some (tells_whole p _ s.size refl)

too_long_after : (limit : ℕ) (stream : List ℕ) → limit < length (rest_of stream) → Finishes stream (Some TooLong) (record { limit = limit; kept = Within []; line = [] })
too_long_after limit stream size = finished limit stream (rest_of stream) TooLong _ refl refl refl (omega arith) (tells_long (rest_of stream) _ size refl)

pub finished_over : (limit len : ℕ) (stream bytes : List ℕ) (reach : Reach) → (reach ≡ Short → ⊥) → kept_in reach len bytes ≡ kept_of limit (rest_of stream)
    → Finishes stream (Some TooLong) (record { limit = limit; kept = Within []; line = [] })
finished_over limit len stream bytes Short off was = absurd (off refl)
finished_over limit len stream bytes Returned off was = too_long_after limit stream (is_full limit (rest_of stream) (take len bytes) was).size
finished_over limit len stream bytes Overlong off was = too_long_after limit stream (is_long limit (rest_of stream) was).size

-- A piece up to its first line feed, or all of it.

none_chosen : (n len : ℕ) (t : Bool) → cond t (Some n) None ≡ None → t ≡ false
none_chosen n len true is = absurd cc
none_chosen n len false is = refl

pub run_of_none : (piece : List ℕ) → position is_feed piece ≡ None → list_any is_feed piece ≡ false
run_of_none piece is =
    let n = position_or_len is_feed piece in
    let all : length piece ≤ n = ltb-false n (length piece) (none_chosen n (length piece) (ltb n (length piece)) is) in
    list_any_none is_feed piece (λ k d h. fails_before_first is_feed piece k d (omega arith))

pub run_of_some : (piece : List ℕ) (at : ℕ) → position is_feed piece ≡ Some at → list_any is_feed (take at piece) ≡ false
run_of_some piece at is =
    list_any_none is_feed (take at piece) (λ k d h. let p = position-Some is_feed piece at d is in ap is_feed (get_or-take at piece k d (omega (arith, h, length-take at piece))) ∙ p.2 k (omega (arith, h, length-take at piece)))

pub feeds_run : (stream piece : List ℕ) (c : LineCutterValue) → list_any is_feed piece ≡ false → WasFed (stream ++ piece) c → Feeds stream piece None c
feeds_run stream piece c none fed = record { fed = fed; lines = ended-append_run stream piece none }

pub feeds_line : (stream run : List ℕ) (told : LineCut) (c : LineCutterValue) → list_any is_feed run ≡ false → Feeds (stream ++ run) (10 ∷ []) (Some told) c → Feeds stream (run ++ 10 ∷ []) (Some told) c
feeds_line stream run told c none f =
    let whole : (stream ++ run) ++ 10 ∷ [] ≡ stream ++ (run ++ 10 ∷ []) = append_assoc stream run (10 ∷ []) in
    let ends = f.lines.1 in
    record {
      fed = subst (λ (s : List ℕ). WasFed s c) whole f.fed;
      lines = (
        f.lines.0,
        record {
          front = run;
          last = refl;
          none = ended-append_run stream run none;
          one = ap ended_lines (sym whole) ∙ ends.one ∙ ap (λ l. l ++ f.lines.0 ∷ []) (ended-append_run stream run none);
        },
        f.lines.2,
      );
    }
