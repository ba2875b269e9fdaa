-- What a cutter keeps after a run, a line feed and a carriage return.
use Rattle.std.proofs.Common.{◌≡◌, ℕ, suc, ◌+◌, ◌-◌, ◌<◌, ◌≤◌, List, [], ◌∷◌, ◌++◌, length, take, drop, get_or, Bool, true, false, not, cond, eqb, ltb, Option, Some, None, refl, sym, ◌∙◌, ap, arith, append_assoc, append-nil, length-append, inl, inr}
use Rattle.std.specs.Option.{option_to_list}
use Rattle.std.specs.Prelude.{unwrap_or}
use Rattle.std.specs.List.{list_any, position, position_or_len}
use Rattle.std.proofs.lemmas.List.Sums.{prefix_len-le-length, prefix_len_stops}
use Rattle.std.proofs.lemmas.List.{take_more, take_rest, get_or-drop, length-drop}
use Rattle.std.proofs.Math.Seq.{take-add}
use Rattle.std.proofs.lemmas.Bool.{cases_lt, lt-ltb, le-ltb, ltb-true, eqb-true, not-false, or_cases}
use Rattle.dc09_frame.specs.declared.limits.TheConstants.{PIECE_LIMIT}
use Rattle.dc09_frame.specs.declared.cut.Cut.{Cut}
use Rattle.dc09_frame.specs.declared.cut.Cut.TheVariants.{TooLong}
use Rattle.dc09_frame.specs.declared.cutter.Piece.{Piece}
use Rattle.dc09_frame.specs.declared.cutter.Piece.TheVariants.{Closed, Open, Overlong}
use Rattle.dc09_frame.specs.Pieces.{pieces}
use Rattle.dc09_frame.specs.Frames.{cut}
use Rattle.dc09_frame.specs.Cutting.{is_end, open_piece, Kept, Outside, Within, Beyond, kept_of, CutterValue, WasFed, Ends, Feeds}
use Rattle.dc09_frame.specs.Holding.{kept_in, cut_of_kept}
use Rattle.dc09_frame.proofs.PieceLaws.{pieces-append_run, pieces-append_feed, pieces-append_return, open_piece-append_run, open_piece-append_feed, open_piece-append_return}

-- What is kept tells of the open piece.

chosen_within : (t : Bool) (p q : List ℕ) → Within p ≡ cond t Beyond (Within q) → q ≡ p
chosen_within true p q is = absurd cc
chosen_within false p q is = cc

chosen_beyond : (t : Bool) (q : List ℕ) → Beyond ≡ cond t Beyond (Within q) → t ≡ true
chosen_beyond true q is = refl
chosen_beyond false q is = absurd cc

chosen_outside : (t : Bool) (q : List ℕ) → Outside ≡ cond t Beyond (Within q) → ⊥
chosen_outside true q is = cc
chosen_outside false q is = cc

is_within : (o : Option (List ℕ)) (p : List ℕ) → Within p ≡ kept_of o → o ≡ Some p
is_within None p is = absurd cc
is_within (Some q) p is = ap Some (chosen_within (ltb PIECE_LIMIT (length q)) p q is)

is_beyond : (o : Option (List ℕ)) → Beyond ≡ kept_of o → (q : List ℕ) × (o ≡ Some q) × (PIECE_LIMIT < length q)
is_beyond None is = absurd cc
is_beyond (Some q) is = (q, refl, ltb-true PIECE_LIMIT (length q) (chosen_beyond (ltb PIECE_LIMIT (length q)) q is))

is_outside : (o : Option (List ℕ)) → Outside ≡ kept_of o → o ≡ None
is_outside None is = refl
is_outside (Some q) is = absurd (chosen_outside (ltb PIECE_LIMIT (length q)) q is)

kept_short : (p : List ℕ) → length p ≤ PIECE_LIMIT → Within p ≡ kept_of (Some p)
kept_short p le = rw (le-ltb PIECE_LIMIT (length p) le) refl

kept_long : (p : List ℕ) → PIECE_LIMIT < length p → Beyond ≡ kept_of (Some p)
kept_long p lt = rw (lt-ltb PIECE_LIMIT (length p) lt) refl

-- A run.

pub within_after : (stream run p more : List ℕ) → list_any is_end run ≡ false → Within p ≡ kept_of (open_piece stream) → more ≡ p ++ run → length more ≤ PIECE_LIMIT → Within more ≡ kept_of (open_piece (stream ++ run))
within_after stream run p more none is whole le =
    rw (open_piece-append_run stream run none, is_within (open_piece stream) p is, ← whole) (kept_short more le)

pub beyond_after : (stream run p : List ℕ) → list_any is_end run ≡ false → Within p ≡ kept_of (open_piece stream) → PIECE_LIMIT < length p + length run → Beyond ≡ kept_of (open_piece (stream ++ run))
beyond_after stream run p none is lt =
    rw (open_piece-append_run stream run none, is_within (open_piece stream) p is) (kept_long (p ++ run) (omega (arith, length-append p run)))

pub elsewhere_after : (stream run bytes : List ℕ) (piece : Piece) (len : ℕ) → list_any is_end run ≡ false → (piece ≡ Open → ⊥) → kept_in piece len bytes ≡ kept_of (open_piece stream) → kept_in piece len bytes ≡ kept_of (open_piece (stream ++ run))
elsewhere_after stream run bytes Closed len none other is = rw (open_piece-append_run stream run none, is_outside (open_piece stream) is) refl
elsewhere_after stream run bytes Open len none other is = absurd (other refl)
elsewhere_after stream run bytes Overlong len none other is =
    let long = is_beyond (open_piece stream) is in
    rw (open_piece-append_run stream run none, long.1) (kept_long (long.0 ++ run) (omega (arith, length-append long.0 run, long.2)))

-- A line feed.

pub open_after : (stream : List ℕ) → Within [] ≡ kept_of (open_piece (stream ++ 10 ∷ []))
open_after stream = rw (open_piece-append_feed stream) refl

-- A carriage return.

pub outside_only : (k : Kept) → None ≡ cut_of_kept k → k ≡ Outside
outside_only Outside told = refl
outside_only (Within p) told = absurd cc
outside_only Beyond told = absurd cc

pub returned_outside : (stream : List ℕ) (c : CutterValue) → None ≡ cut_of_kept c.kept → WasFed stream c → Feeds stream (13 ∷ []) None c
returned_outside stream c told is =
    let outside : c.kept ≡ Outside = outside_only c.kept told in
    let none : open_piece stream ≡ None = is_outside (open_piece stream) (sym outside ∙ is) in
    record {
      fed = rw (open_piece-append_return stream) outside;
      pieces = pieces-append_return stream ∙ ap (λ o. pieces stream ++ option_to_list o) none ∙ append-nil (pieces stream);
    }

cut_long : (p : List ℕ) → PIECE_LIMIT < length p → cut p ≡ TooLong
unfolding cut
cut_long p lt = rw (lt-ltb PIECE_LIMIT (length p) lt) refl

ended : (stream p : List ℕ) → open_piece stream ≡ Some p → Ends stream (13 ∷ []) p
ended stream p is = record {
  front = [];
  last = refl;
  none = ap pieces (append-nil stream);
  one = pieces-append_return stream ∙ ap (λ o. pieces stream ++ option_to_list o) is;
}

pub returned : (stream bytes : List ℕ) (piece : Piece) (len : ℕ) (told : Cut) → Some told ≡ cut_of_kept (kept_in piece len bytes) → kept_in piece len bytes ≡ kept_of (open_piece stream) → Feeds stream (13 ∷ []) (Some told) (record { kept = Outside; body = drop 8 (take len bytes) })
returned stream bytes Closed len told cuts is = absurd cc
returned stream bytes Open len told cuts is =
    let o = is_within (open_piece stream) (take len bytes) is in
    record {
      fed = rw (open_piece-append_return stream) refl;
      pieces = (take len bytes, ended stream (take len bytes) o, cc, λ whole. refl);
    }
returned stream bytes Overlong len told cuts is =
    let long = is_beyond (open_piece stream) is in
    let too_long : cut long.0 ≡ TooLong = cut_long long.0 long.2 in
    let answered : told ≡ TooLong = cc in
    record {
      fed = rw (open_piece-append_return stream) refl;
      pieces = (long.0, ended stream long.0 long.1, too_long ∙ sym answered, λ whole. absurd (let no_whole = sym answered ∙ whole in cc));
    }

-- How far a run goes.

first_chosen : (n k : ℕ) → n ≤ k → unwrap_or (cond (ltb n k) (Some n) None) k ≡ n
first_chosen n k le = elim (cases_lt n k) [
  | inl lt ↦ rw (lt-ltb n k lt) refl
  | inr ge ↦ rw (le-ltb n k ge) (omega arith)
]

pub first_or_len : (test : ℕ → Bool) (xs : List ℕ) → unwrap_or (position test xs) (length xs) ≡ position_or_len test xs
first_or_len test xs = first_chosen (position_or_len test xs) (length xs) (prefix_len-le-length (λ x. not (test x)) xs)

pub run_none : (xs : List ℕ) → list_any is_end (take (position_or_len is_end xs) xs) ≡ false
run_none [] = refl
run_none (x ∷ xs) = run_step x xs (is_end x) refl (run_none xs)
  where
    run_step : (x : ℕ) (xs : List ℕ) (t : Bool) → is_end x ≡ t → list_any is_end (take (position_or_len is_end xs) xs) ≡ false → list_any is_end (take (position_or_len is_end (x ∷ xs)) (x ∷ xs)) ≡ false
    run_step x xs true e before = rw e refl
    run_step x xs false e before =
        let more : 1 + position_or_len is_end xs ≡ suc (position_or_len is_end xs) = omega arith in
        rw (e, more, e) before

is_return : (b : ℕ) → is_end b ≡ true → (b ≡ 10 → ⊥) → b ≡ 13
is_return b end other = elim (or_cases (eqb b 10) (eqb b 13) end) [
  | inl feed ↦ absurd (other (eqb-true b 10 feed))
  | inr return ↦ eqb-true b 13 return
]

-- a run goes up to the next end, in the form in which the code's slices say it
abbrev pub IsRunLength : List ℕ → ℕ → ℕ → Type 0
IsRunLength piece taken n = n ≡ position_or_len is_end (take (length piece - taken) (drop taken piece))

run_length_is : (piece : List ℕ) (taken n : ℕ) → IsRunLength piece taken n → n ≡ position_or_len is_end (drop taken piece)
run_length_is piece taken n is = is ∙ ap (position_or_len is_end) (take_rest piece taken)

-- where a run stops before the end of the bytes, a line feed or a carriage return stands
pub stopped_at_return : (piece : List ℕ) (taken n : ℕ) → IsRunLength piece taken n → taken + n < length piece → (get_or piece (taken + n) 0 ≡ 10 → ⊥) → get_or piece (taken + n) 0 ≡ 13
stopped_at_return piece taken n runs lt other =
    let is : n ≡ position_or_len is_end (drop taken piece) = run_length_is piece taken n runs in
    let within : position_or_len is_end (drop taken piece) < length (drop taken piece) = omega (arith, is, length-drop taken piece) in
    let stops : is_end (get_or (drop taken piece) n 0) ≡ true = rw is (not-false _ (prefix_len_stops (λ x. not (is_end x)) (drop taken piece) 0 within)) in
    is_return (get_or piece (taken + n) 0) (ap is_end (sym (get_or-drop taken piece n 0)) ∙ stops) other

-- A cutter took so many bytes of a piece, which end no piece of the stream.
pub record Took (before : CutterValue) (piece : List ℕ) (taken : ℕ) (now : CutterValue) : Type 0 where
  pub fed : (stream : List ℕ) → WasFed stream before → WasFed (stream ++ take taken piece) now
  pub none : (stream : List ℕ) → WasFed stream before → pieces (stream ++ take taken piece) ≡ pieces stream

pub took_nothing : (before : CutterValue) (piece : List ℕ) → Took before piece 0 before
took_nothing before piece = record { fed = λ stream was. rw append-nil was; none = λ stream was. ap pieces (append-nil stream) }

pub took_run : (before now after : CutterValue) (piece : List ℕ) (taken n : ℕ) → Took before piece taken now → list_any is_end (take n (drop taken piece)) ≡ false → ((stream : List ℕ) → WasFed stream now → WasFed (stream ++ take n (drop taken piece)) after) → Took before piece (taken + n) after
took_run before now after piece taken n t none keeps =
    let run : List ℕ = take n (drop taken piece) in
    let whole : (stream : List ℕ) → stream ++ take (taken + n) piece ≡ (stream ++ take taken piece) ++ run = λ stream. ap (λ l. stream ++ l) (take-add taken n piece) ∙ sym (append_assoc stream (take taken piece) run) in
    record {
      fed = λ stream was. rw (whole stream) (keeps (stream ++ take taken piece) (t.fed stream was));
      none = λ stream was. ap pieces (whole stream) ∙ pieces-append_run (stream ++ take taken piece) run none ∙ t.none stream was;
    }

-- the run up to the next end, as the code writes its length
pub run_clear : (piece : List ℕ) (taken n : ℕ) → IsRunLength piece taken n → list_any is_end (take (taken + n - taken) (drop taken piece)) ≡ false
run_clear piece taken n is =
    let size : taken + n - taken ≡ position_or_len is_end (drop taken piece) = omega (arith, run_length_is piece taken n is) in
    rw size (run_none (drop taken piece))

pub took_front : (before now after : CutterValue) (piece : List ℕ) (taken n : ℕ) → Took before piece taken now → IsRunLength piece taken n → ((stream : List ℕ) → WasFed stream now → WasFed (stream ++ take (taken + n - taken) (drop taken piece)) after) → Took before piece (taken + n) after
took_front before now after piece taken n t is keeps =
    let size : taken + n - taken ≡ n = omega arith in
    took_run before now after piece taken n t (rw size at (run_clear piece taken n is)) (rw size at keeps)

-- one byte more
one_more : (stream piece : List ℕ) (taken b : ℕ) → taken < length piece → get_or piece taken 0 ≡ b → stream ++ take (taken + 1) piece ≡ (stream ++ take taken piece) ++ b ∷ []
one_more stream piece taken b lt is = ap (λ l. stream ++ l) (take_more piece taken 0 lt ∙ ap (λ x. take taken piece ++ x ∷ []) is) ∙ sym (append_assoc stream (take taken piece) (b ∷ []))

pub took_feed : (before now after : CutterValue) (piece : List ℕ) (taken : ℕ) → Took before piece taken now → taken < length piece → get_or piece taken 0 ≡ 10 → ((stream : List ℕ) → WasFed stream now → WasFed (stream ++ 10 ∷ []) after) → Took before piece (taken + 1) after
took_feed before now after piece taken t lt is opens = record {
  fed = λ stream was. rw (one_more stream piece taken 10 lt is) (opens (stream ++ take taken piece) (t.fed stream was));
  none = λ stream was. ap pieces (one_more stream piece taken 10 lt is) ∙ pieces-append_feed (stream ++ take taken piece) ∙ t.none stream was;
}

pub took_return : (before now after : CutterValue) (piece : List ℕ) (taken : ℕ) → Took before piece taken now → taken < length piece → get_or piece taken 0 ≡ 13 → ((stream : List ℕ) → WasFed stream now → Feeds stream (13 ∷ []) None after) → Took before piece (taken + 1) after
took_return before now after piece taken t lt is closes = record {
  fed = λ stream was. rw (one_more stream piece taken 13 lt is) (closes (stream ++ take taken piece) (t.fed stream was)).fed;
  none = λ stream was. ap pieces (one_more stream piece taken 13 lt is) ∙ (closes (stream ++ take taken piece) (t.fed stream was)).pieces ∙ t.none stream was;
}

-- the answers

pub answers_none : (before now : CutterValue) (piece : List ℕ) (taken : ℕ) → Took before piece taken now → (stream : List ℕ) → WasFed stream before → Feeds stream (take taken piece) None now
answers_none before now piece taken t stream was = record { fed = t.fed stream was; pieces = t.none stream was }

pub answers_cut : (before now after : CutterValue) (piece : List ℕ) (taken : ℕ) (told : Cut) → Took before piece taken now → taken < length piece → get_or piece taken 0 ≡ 13 → ((stream : List ℕ) → WasFed stream now → Feeds stream (13 ∷ []) (Some told) after) → (stream : List ℕ) → WasFed stream before → Feeds stream (take (taken + 1) piece) (Some told) after
answers_cut before now after piece taken told t lt is closes stream was =
    let begun : List ℕ = stream ++ take taken piece in
    let closed = closes begun (t.fed stream was) in
    let whole : stream ++ take (taken + 1) piece ≡ begun ++ 13 ∷ [] = one_more stream piece taken 13 lt is in
    let ends = closed.pieces.1 in
    record {
      fed = rw whole closed.fed;
      pieces = (
        closed.pieces.0,
        record {
          front = take taken piece ++ ends.front;
          last = take_more piece taken 0 lt ∙ ap (λ x. take taken piece ++ x ∷ []) is ∙ ap (λ l. take taken piece ++ l) ends.last ∙ sym (append_assoc (take taken piece) ends.front (13 ∷ []));
          none = ap pieces (sym (append_assoc stream (take taken piece) ends.front)) ∙ ends.none ∙ t.none stream was;
          one = ap pieces whole ∙ ends.one ∙ ap (λ l. l ++ closed.pieces.0 ∷ []) (t.none stream was);
        },
        closed.pieces.2,
        closed.pieces.3,
      );
    }
