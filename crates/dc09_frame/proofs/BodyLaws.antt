-- The bodies of a stream: each is a body, and what a cutter tells adds just one.
use Rattle.std.proofs.Common.{◌≡◌, ℕ, suc, zero, ◌≤◌, List, [], ◌∷◌, ◌++◌, length, take, drop, get_or, map, Bool, true, false, not, ◌&&◌, cond, eqb, ltb, leb, Option, Some, None, refl, sym, ◌∙◌, ap, subst, arith, append-nil, length-drop}
use Rattle.std.specs.Option.{option_map, option_to_list}
use Rattle.std.specs.List.{list_all, list_any, filter, AllByRecursion}
use Rattle.std.proofs.lemmas.Bool.{eqb-true, ltb-false, leb-true, and_parts, and_from, or_parts, or_from, not_from_false}
use Rattle.std.proofs.lemmas.List.{map-append, get_or-drop}
use Rattle.std.proofs.lemmas.List.Elements.{filter-append}
use Rattle.dc09_frame.specs.declared.limits.TheConstants.{PIECE_LIMIT}
use Rattle.dc09_frame.specs.declared.cut.Cut.{Cut}
use Rattle.dc09_frame.specs.declared.cut.Cut.TheVariants.{Whole, BadCheck, BadLength, TooLong}
use Rattle.dc09_frame.specs.Pieces.{up_to_return, pieces}
use Rattle.dc09_frame.specs.Frames.{is_clean, IsBody, piece_of, frame_of, do_spell, body_of, has_length, has_check, cut, is_whole, bodies}
use Rattle.dc09_frame.specs.Cutting.{is_end, CutterValue, Feeds, body_told, AddsBody}
use Rattle.dc09_frame.specs.Holding.{kept_in, cut_of_kept, IsHeld}
use Rattle.dc09_frame.specs.declared.cutter.Piece.{Piece}
use Rattle.dc09_frame.specs.declared.cutter.Piece.TheVariants.{Closed, Open, Overlong}
use Rattle.std.proofs.lemmas.List.Folds.{list_any-append}
use Rattle.dc09_frame.proofs.PieceLaws.{frame_again}

-- A piece has neither a line feed nor a carriage return.

abbrev HasNoEnd : List ℕ → Type 0
HasNoEnd p = list_any is_end p ≡ false

abbrev found : List ℕ → Option (List ℕ)
found p = Some p

found_is : (p q : List ℕ) → found p ≡ found q → p ≡ q
found_is p q is = cc

returned_step : (x : ℕ) (s p : List ℕ) (l r : Bool) (o : Option (List ℕ)) → eqb x 10 ≡ l → eqb x 13 ≡ r → ((q : List ℕ) → o ≡ Some q → HasNoEnd q) → cond r (Some []) (cond l None (option_map (λ q. x ∷ q) o)) ≡ Some p → HasNoEnd p
returned_step x s p l true o el er before is = subst HasNoEnd (found_is [] p is) refl
returned_step x s p true false o el er before is = absurd cc
returned_step x s p false false None el er before is = absurd cc
returned_step x s p false false (Some q) el er before is = subst HasNoEnd (found_is (x ∷ q) p is) (or_from _ _ (or_from _ _ el er) (before q refl))

returned_clean : (s p : List ℕ) → up_to_return s ≡ Some p → HasNoEnd p
returned_clean [] p is = absurd cc
returned_clean (x ∷ s) p is = returned_step x s p (eqb x 10) (eqb x 13) (up_to_return s) refl refl (returned_clean s) is

pieces_step : (l : Bool) (o : Option (List ℕ)) (ps : List (List ℕ)) → ((q : List ℕ) → o ≡ Some q → HasNoEnd q) → AllByRecursion HasNoEnd ps → AllByRecursion HasNoEnd (cond l (option_to_list o ++ ps) ps)
pieces_step true None ps one all = all
pieces_step true (Some q) ps one all = (one q refl, all)
pieces_step false o ps one all = all

pub pieces_clean : (s : List ℕ) → AllByRecursion HasNoEnd (pieces s)
pieces_clean [] = tt
pieces_clean (x ∷ s) = pieces_step (eqb x 10) (up_to_return s) (pieces s) (returned_clean s) (pieces_clean s)

last_of_all : (P : List ℕ → Type 0) (ps : List (List ℕ)) (p : List ℕ) → AllByRecursion P (ps ++ p ∷ []) → P p
last_of_all P [] p all = all.0
last_of_all P (q ∷ ps) p all = last_of_all P ps p all.1

-- The body of a whole piece.

clean_from_run : (p : List ℕ) → HasNoEnd p → list_all is_clean p ≡ true
clean_from_run [] none = refl
clean_from_run (x ∷ p) none =
    let h = or_parts (is_end x) (list_any is_end p) none in
    let e = or_parts (eqb x 10) (eqb x 13) h.0 in
    and_from _ _ (and_from _ _ (not_from_false _ e.0) (not_from_false _ e.1)) (clean_from_run p h.1)

drop_clean : (n : ℕ) (p : List ℕ) → HasNoEnd p → HasNoEnd (drop n p)
drop_clean zero p none = none
drop_clean (suc n) [] none = refl
drop_clean (suc n) (x ∷ p) none = drop_clean n p (or_parts (is_end x) (list_any is_end p) none).1

-- what a whole piece passed
record IsWholePiece (p : List ℕ) : Type 0 where
  short : length p ≤ PIECE_LIMIT
  long : 9 ≤ length p
  quote : get_or p 8 0 ≡ 34

whole_step : (p : List ℕ) (t l c : Bool) → ltb PIECE_LIMIT (length p) ≡ t → has_length p ≡ l → cond t TooLong (cond (not l) BadLength (cond (not c) BadCheck Whole)) ≡ Whole → IsWholePiece p
whole_step p true l c et el is = absurd cc
whole_step p false false c et el is = absurd cc
whole_step p false true c et el is =
    let outer = and_parts (leb 9 (length p) && eqb (get_or p 4 0) 48 && do_spell (take 4 (drop 4 p)) (length (body_of p))) (eqb (get_or p 8 0) 34) el in
    let inner = and_parts (leb 9 (length p) && eqb (get_or p 4 0) 48) (do_spell (take 4 (drop 4 p)) (length (body_of p))) outer.0 in
    let first = and_parts (leb 9 (length p)) (eqb (get_or p 4 0) 48) inner.0 in
    record { short = ltb-false PIECE_LIMIT (length p) et; long = leb-true 9 (length p) first.0; quote = eqb-true (get_or p 8 0) 34 outer.1 }

whole_parts : (p : List ℕ) → cut p ≡ Whole → IsWholePiece p
unfolding cut
whole_parts p is = whole_step p (ltb PIECE_LIMIT (length p)) (has_length p) (has_check p) refl refl is

pub whole_is_body : (p : List ℕ) → HasNoEnd p → cut p ≡ Whole → IsBody (body_of p)
whole_is_body p none is =
    let w = whole_parts p is in
    record {
      some = omega (arith, length-drop 8 p, w.long);
      size = omega (arith, length-drop 8 p, w.short);
      quote = get_or-drop 8 p 0 0 ∙ w.quote;
      clean = clean_from_run (drop 8 p) (drop_clean 8 p none);
    }

-- What is told.

one_more : (stream all : List ℕ) (p : List ℕ) → pieces all ≡ pieces stream ++ p ∷ [] → bodies all ≡ bodies stream ++ map body_of (filter is_whole (p ∷ []))
one_more stream all p is = ap (λ ps. map body_of (filter is_whole ps)) is ∙ ap (map body_of) (filter-append is_whole (pieces stream) (p ∷ [])) ∙ map-append body_of (filter is_whole (pieces stream)) (filter is_whole (p ∷ []))

judged : Cut → Bool
judged Whole = true
judged BadCheck = false
judged BadLength = false
judged TooLong = false

is_whole_from : (p : List ℕ) (t : Cut) → cut p ≡ t → is_whole p ≡ judged t
unfolding judged
is_whole_from p t is = ap judged is

bodies_first : (p : List ℕ) (w : Bool) (ps : List (List ℕ)) → is_whole p ≡ w → map body_of (filter is_whole (p ∷ ps)) ≡ map body_of (cond w (p ∷ filter is_whole ps) (filter is_whole ps))
bodies_first p w ps is = ap (λ v. map body_of (cond v (p ∷ filter is_whole ps) (filter is_whole ps))) is

told_body : (p : List ℕ) (t : Cut) (c : CutterValue) → cut p ≡ t → (t ≡ Whole → c.body ≡ body_of p) → map body_of (filter is_whole (p ∷ [])) ≡ body_told (Some t) c
unfolding judged
told_body p Whole c is body = bodies_first p true [] (is_whole_from p Whole is) ∙ ap (λ b. b ∷ []) (sym (body refl))
told_body p BadCheck c is body = bodies_first p false [] (is_whole_from p BadCheck is)
told_body p BadLength c is body = bodies_first p false [] (is_whole_from p BadLength is)
told_body p TooLong c is body = bodies_first p false [] (is_whole_from p TooLong is)

pub bodies_fed : (stream taken : List ℕ) (told : Option Cut) (c : CutterValue) → Feeds stream taken told c → AddsBody stream taken told c
bodies_fed stream taken None c fed = record {
  added = ap (λ ps. map body_of (filter is_whole ps)) fed.pieces ∙ sym (append-nil (bodies stream));
  is_body = λ is. absurd cc;
}
bodies_fed stream taken (Some t) c fed =
    let p = fed.pieces.0 in
    let ends = fed.pieces.1 in
    let none : HasNoEnd p = last_of_all HasNoEnd (pieces stream) p (subst (AllByRecursion HasNoEnd) ends.one (pieces_clean (stream ++ taken))) in
    record {
      added = one_more stream (stream ++ taken) p ends.one ∙ ap (λ l. bodies stream ++ l) (told_body p t c fed.pieces.2 fed.pieces.3);
      is_body = λ is. let whole : t ≡ Whole = cc in rw (fed.pieces.3 whole) (whole_is_body p none (fed.pieces.2 ∙ whole));
    }

-- the bodies of a stream that begins with a frame
pub bodies-frame : (body rest : List ℕ) → IsBody body → bodies (frame_of body ++ rest) ≡ body ∷ bodies rest
unfolding judged
bodies-frame body rest is =
    let again = frame_again body is in
    ap (λ ps. map body_of (filter is_whole ps)) (again.first rest) ∙ bodies_first (piece_of body) true (pieces rest) (is_whole_from (piece_of body) Whole again.whole)

-- What a cutter keeps.

some_is : (s t : Cut) → Some s ≡ Some t → s ≡ t
some_is s t is = cc

-- what is left of a whole piece that was held is a body
pub held_body : (piece : Piece) (len : ℕ) (bytes : List ℕ) (t : Cut) → IsHeld len bytes → cut_of_kept (kept_in piece len bytes) ≡ Some t → t ≡ Whole → IsBody (drop 8 (take len bytes))
held_body Closed len bytes t held is whole = absurd cc
held_body Open len bytes t held is whole = whole_is_body (take len bytes) held.clear (some_is (cut (take len bytes)) t is ∙ whole)
held_body Overlong len bytes t held is whole = let same : TooLong ≡ t = some_is TooLong t is in absurd (let no : TooLong ≡ Whole = same ∙ whole in cc)

-- what is held and a run without an end are held
pub held_more : (len end : ℕ) (bytes field run : List ℕ) → IsHeld len bytes → take end field ≡ take len bytes ++ run → end ≤ PIECE_LIMIT → list_any is_end run ≡ false → IsHeld end field
held_more len end bytes field run held is short none = record { short = short; clear = ap (list_any is_end) is ∙ list_any-append is_end (take len bytes) run ∙ or_from _ _ held.clear none }
