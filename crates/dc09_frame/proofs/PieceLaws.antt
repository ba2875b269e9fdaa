-- The pieces of a stream that goes on, and the piece that it leaves open.
use Rattle.std.proofs.Common.{◌≡◌, ℕ, List, [], ◌∷◌, ◌++◌, Bool, true, false, not, ◌||◌, cond, eqb, Option, Some, None, refl, sym, ◌∙◌, ap, inl, inr, append_assoc}
use Rattle.std.specs.Option.{option_map, option_to_list}
use Rattle.std.specs.List.{list_all, list_any}
use Rattle.std.proofs.lemmas.Bool.{and_parts, not-true, or_parts, or_from, or_right, cases_Bool}
use Rattle.dc09_frame.specs.Pieces.{up_to_return, pieces}
use Rattle.dc09_frame.specs.Cutting.{is_end, open_piece}
use Rattle.dc09_frame.specs.Frames.{is_clean, IsBody, piece_of, frame_of, IsCutAgain}
use Rattle.dc09_frame.proofs.FrameLaws.{piece_whole, piece_clean}

-- A run has no end: neither a line feed nor a carriage return.

pub run_from_clean : (p : List ℕ) → list_all is_clean p ≡ true → list_any is_end p ≡ false
run_from_clean [] clean = refl
run_from_clean (x ∷ p) clean =
    let h = and_parts (is_clean x) (list_all is_clean p) clean in
    let e = and_parts (not (eqb x 10)) (not (eqb x 13)) h.0 in
    or_from _ _ (or_from _ _ (not-true _ e.0) (not-true _ e.1)) (run_from_clean p h.1)

-- the parts of a run: its first byte is neither, and the rest is a run
record IsRun (x : ℕ) (xs : List ℕ) : Type 0 where
  feed : eqb x 10 ≡ false
  return : eqb x 13 ≡ false
  rest : list_any is_end xs ≡ false

run_parts : (x : ℕ) (xs : List ℕ) → list_any is_end (x ∷ xs) ≡ false → IsRun x xs
run_parts x xs none =
    let h = or_parts (is_end x) (list_any is_end xs) none in
    let e = or_parts (eqb x 10) (eqb x 13) h.0 in
    record { feed = e.0; return = e.1; rest = h.1 }

-- What stands before the first return.

up_to_return-run : (run : List ℕ) → list_any is_end run ≡ false → up_to_return run ≡ None
up_to_return-run [] none = refl
up_to_return-run (x ∷ run) none =
    let h = run_parts x run none in
    rw (h.return, h.feed, up_to_return-run run h.rest) refl

pub up_to_return-closed : (run rest : List ℕ) → list_any is_end run ≡ false → up_to_return (run ++ 13 ∷ rest) ≡ Some run
up_to_return-closed [] rest none = refl
up_to_return-closed (x ∷ run) rest none =
    let h = run_parts x run none in
    rw (h.return, h.feed, up_to_return-closed run rest h.rest) refl

up_to_return-broken : (run rest : List ℕ) → list_any is_end run ≡ false → up_to_return (run ++ 10 ∷ rest) ≡ None
up_to_return-broken [] rest none = refl
up_to_return-broken (x ∷ run) rest none =
    let h = run_parts x run none in
    rw (h.return, h.feed, up_to_return-broken run rest h.rest) refl

-- what follows an end decides nothing
ended_step : (x : ℕ) (s rest : List ℕ) (l r : Bool) → eqb x 10 ≡ l → eqb x 13 ≡ r → list_any is_end (x ∷ s) ≡ true → (list_any is_end s ≡ true → up_to_return (s ++ rest) ≡ up_to_return s) → up_to_return (x ∷ s ++ rest) ≡ up_to_return (x ∷ s)
ended_step x s rest l true el er some before = rw er refl
ended_step x s rest true false el er some before = rw (er, el) refl
ended_step x s rest false false el er some before = rw (er, el) (ap (option_map (λ p. x ∷ p)) (before (rw (el, er) at some)))

up_to_return-ended : (s rest : List ℕ) → list_any is_end s ≡ true → up_to_return (s ++ rest) ≡ up_to_return s
up_to_return-ended [] rest some = absurd cc
up_to_return-ended (x ∷ s) rest some = ended_step x s rest (eqb x 10) (eqb x 13) refl refl some (up_to_return-ended s rest)

any_more : (s run : List ℕ) → list_any is_end run ≡ false → list_any is_end (s ++ run) ≡ list_any is_end s
any_more [] run none = none
any_more (x ∷ s) run none = ap (λ b. is_end x || b) (any_more s run none)

any_end : (s : List ℕ) (x : ℕ) → is_end x ≡ true → list_any is_end (s ++ x ∷ []) ≡ true
any_end [] x is = rw is refl
any_end (y ∷ s) x is = rw (any_end s x is) (or_right (is_end y) true refl)

up_to_return-append_run : (s run : List ℕ) → list_any is_end run ≡ false → up_to_return (s ++ run) ≡ up_to_return s
up_to_return-append_run s run none = elim (cases_Bool (list_any is_end s)) [
  | inl some ↦ up_to_return-ended s run some
  | inr lacks ↦ up_to_return-run (s ++ run) (any_more s run none ∙ lacks) ∙ sym (up_to_return-run s lacks)
]

up_to_return-append_feed : (s : List ℕ) → up_to_return (s ++ 10 ∷ []) ≡ up_to_return s
up_to_return-append_feed s = elim (cases_Bool (list_any is_end s)) [
  | inl some ↦ up_to_return-ended s (10 ∷ []) some
  | inr lacks ↦ up_to_return-broken s [] lacks ∙ sym (up_to_return-run s lacks)
]

-- The pieces of a stream and what follows.

pieces-run : (run : List ℕ) → list_any is_end run ≡ false → pieces run ≡ []
pieces-run [] none = refl
pieces-run (x ∷ run) none =
    let h = run_parts x run none in
    rw h.feed (pieces-run run h.rest)

pub pieces-append_run : (s run : List ℕ) → list_any is_end run ≡ false → pieces (s ++ run) ≡ pieces s
pieces-append_run [] run none = pieces-run run none
pieces-append_run (x ∷ s) run none = rw (up_to_return-append_run s run none, pieces-append_run s run none) refl

pub pieces-append_feed : (s : List ℕ) → pieces (s ++ 10 ∷ []) ≡ pieces s
pieces-append_feed [] = refl
pieces-append_feed (x ∷ s) = rw (up_to_return-append_feed s, pieces-append_feed s) refl

open-run : (run : List ℕ) → list_any is_end run ≡ false → open_piece run ≡ None
open-run [] none = refl
open-run (x ∷ run) none =
    let h = run_parts x run none in
    rw h.feed (open-run run h.rest)

-- a return ends the piece that is open
return_step : (x : ℕ) (s : List ℕ) (l e : Bool) → eqb x 10 ≡ l → list_any is_end s ≡ e → pieces (s ++ 13 ∷ []) ≡ pieces s ++ option_to_list (open_piece s) → pieces (x ∷ s ++ 13 ∷ []) ≡ pieces (x ∷ s) ++ option_to_list (open_piece (x ∷ s))
return_step x s false e el ee before = rw el before
return_step x s true true el ee before = rw (el, ee, up_to_return-ended s (13 ∷ []) ee, before) (sym (append_assoc (option_to_list (up_to_return s)) (pieces s) (option_to_list (open_piece s))))
return_step x s true false el ee before = rw (el, ee, up_to_return-closed s [] ee, before, pieces-run s ee, open-run s ee, up_to_return-run s ee) refl

pub pieces-append_return : (s : List ℕ) → pieces (s ++ 13 ∷ []) ≡ pieces s ++ option_to_list (open_piece s)
pieces-append_return [] = refl
pieces-append_return (x ∷ s) = return_step x s (eqb x 10) (list_any is_end s) refl refl (pieces-append_return s)

-- The piece that a stream leaves open, and what follows.

pushed : (l e : Bool) (s run : List ℕ) (o : Option (List ℕ)) → cond l (cond e (option_map (λ p. p ++ run) o) (Some (s ++ run))) (option_map (λ p. p ++ run) o) ≡ option_map (λ p. p ++ run) (cond l (cond e o (Some s)) o)
pushed true true s run o = refl
pushed true false s run o = refl
pushed false e s run o = refl

pub open_piece-append_run : (s run : List ℕ) → list_any is_end run ≡ false → open_piece (s ++ run) ≡ option_map (λ p. p ++ run) (open_piece s)
open_piece-append_run [] run none = open-run run none
open_piece-append_run (x ∷ s) run none = rw (any_more s run none, open_piece-append_run s run none) (pushed (eqb x 10) (list_any is_end s) s run (open_piece s))

either : {A : Type 0} (l : Bool) (x : A) → cond l x x ≡ x
either true x = refl
either false x = refl

pub open_piece-append_feed : (s : List ℕ) → open_piece (s ++ 10 ∷ []) ≡ Some []
open_piece-append_feed [] = refl
open_piece-append_feed (x ∷ s) = rw (any_end s 10 refl, open_piece-append_feed s) (either (eqb x 10) (Some []))

pub open_piece-append_return : (s : List ℕ) → open_piece (s ++ 13 ∷ []) ≡ None
open_piece-append_return [] = refl
open_piece-append_return (x ∷ s) = rw (any_end s 13 refl, open_piece-append_return s) (either (eqb x 10) None)

-- Frames.

-- a run that is closed is no part of later pieces
pub pieces-closed : (run rest : List ℕ) → list_any is_end run ≡ false → pieces (run ++ 13 ∷ rest) ≡ pieces rest
pieces-closed [] rest none = refl
pieces-closed (x ∷ run) rest none =
    let h = run_parts x run none in
    rw h.feed (pieces-closed run rest h.rest)

pub frame_again : (body : List ℕ) → IsBody body → IsCutAgain body
unfolding frame_of
frame_again body is =
    let run : list_any is_end (piece_of body) ≡ false = run_from_clean (piece_of body) (piece_clean body is) in
    record {
      whole = piece_whole body is;
      again = refl;
      first = λ rest.
          ap pieces (append_assoc (10 ∷ piece_of body) (13 ∷ []) rest)
          ∙ rw (up_to_return-closed (piece_of body) rest run, pieces-closed (piece_of body) rest run) refl;
    }
