-- The replies of turns, as a line of output has them.
use Rattle.std.proofs.Common.{◌≡◌, ◌-◌, ℕ, suc, List, [], ◌∷◌, ◌++◌, Bool, true, false, cond, eqb, inl, inr, length, take, map, refl, sym, ap, subst, ◌∙◌, arith, append-nil, length-append}
use Rattle.std.specs.Prelude.{not, ◌&&◌}
use Rattle.std.specs.List.{filter, flat_map, list_all}
use Rattle.std.proofs.Math.Seq.{take-append_seam}
use Rattle.std.proofs.lemmas.Bool.{false≢true}
use Rattle.alarm_rules.specs.SetupLines.{is_nil}
use Rattle.dc09_frame.specs.Frames.{frame_of, is_clean, piece_of}
use Rattle.line_session.specs.Turns.{Turn, line_turns}
use Rattle.session_rules.specs.Turns.{text_of}
use Rattle.arc_script.specs.Pages.{replied, spaced}
use Rattle.arc_script.specs.Steps.{bare, listed, replies_of}
use Rattle.arc_script.proofs.Answered.{AreReplies, IsReply, piece_clean}
use Rattle.arc_script.proofs.Spaced.{spaced_both}

-- without line feeds and carriage returns nothing changes
clean_step : (b : ℕ) (f r : Bool) (bs : List ℕ) → (not f && not r) ≡ true → cond f (32 ∷ bs) (cond r bs (b ∷ bs)) ≡ b ∷ bs
clean_step b true r bs is = absurd (false≢true is)
clean_step b false true bs is = absurd (false≢true is)
clean_step b false false bs is = refl

record Parts (x y : Bool) : Type 0 where
  first : x ≡ true
  rest : y ≡ true

parts_of : (x y : Bool) → (x && y) ≡ true → Parts x y
parts_of true true is = record { first = refl; rest = refl }
parts_of true false is = absurd (false≢true is)
parts_of false y is = absurd (false≢true is)

spaced_clean : (bs : List ℕ) → list_all is_clean bs ≡ true → spaced bs ≡ bs
spaced_clean [] clean = refl
spaced_clean (b ∷ bs) clean =
    let parts = parts_of (is_clean b) (list_all is_clean bs) clean in
    clean_step b (eqb b 10) (eqb b 13) (spaced bs) parts.first ∙ ap (λ l. b ∷ l) (spaced_clean bs parts.rest)

bare_framed : (body : List ℕ) → bare (frame_of body) ≡ piece_of body
unfolding frame_of
bare_framed body =
    let piece = piece_of body in
    let size : suc (length (piece ++ 13 ∷ [])) - 2 ≡ length piece = omega (arith, length-append piece (13 ∷ [])) in
    ap (λ k. take k (piece ++ 13 ∷ [])) size ∙ take-append_seam piece (13 ∷ [])

spaced_framed : (body : List ℕ) → list_all is_clean body ≡ true → spaced (frame_of body) ≡ 32 ∷ piece_of body
unfolding frame_of
spaced_framed body clean =
    let piece = piece_of body in
    ap (λ l. 32 ∷ l) (spaced_both piece (13 ∷ []) ∙ append-nil (spaced piece) ∙ spaced_clean piece (piece_clean body clean))

abbrev spread : List (List ℕ) → List ℕ
spread rs = flat_map (λ r. 32 ∷ bare r) rs

listed_framed : (body text : List ℕ) (rs : List (List ℕ)) → list_all is_clean body ≡ true → spaced text ≡ spread (filter (λ r. not (is_nil r)) rs)
    → spaced (frame_of body ++ text) ≡ spread (filter (λ r. not (is_nil r)) (frame_of body ∷ rs))
unfolding frame_of
listed_framed body text rs clean same =
    spaced_both (frame_of body) text ∙ ap (λ l. l ++ spaced text) (spaced_framed body clean)
    ∙ ap (λ l. 32 ∷ piece_of body ++ l) same ∙ ap (λ l. 32 ∷ l ++ spread (filter (λ r. not (is_nil r)) rs)) (sym (bare_framed body))

listed_step : (reply text : List ℕ) (rs : List (List ℕ)) → IsReply reply → spaced text ≡ spread (filter (λ r. not (is_nil r)) rs)
    → spaced (reply ++ text) ≡ spread (filter (λ r. not (is_nil r)) (reply ∷ rs))
listed_step reply text rs (inl none) same =
    subst (λ (r : List ℕ). spaced (r ++ text) ≡ spread (filter (λ q. not (is_nil q)) (r ∷ rs))) (sym none) same
listed_step reply text rs (inr w) same =
    subst (λ (r : List ℕ). spaced (r ++ text) ≡ spread (filter (λ q. not (is_nil q)) (r ∷ rs))) (sym w.1.is) (listed_framed w.0 text rs w.1.clean same)

spaced_all : (turns : List Turn) → AreReplies turns → spaced (text_of line_turns turns) ≡ spread (replies_of turns)
spaced_all [] are = refl
spaced_all (t ∷ ts) are = listed_step t.reply (text_of line_turns ts) (map (λ (u : Turn). u.reply) ts) are.0 (spaced_all ts are.1)

-- where no reply is left there was no text
none_step : (reply text : List ℕ) (rs : List (List ℕ)) → (filter (λ r. not (is_nil r)) rs ≡ [] → text ≡ [])
    → filter (λ r. not (is_nil r)) (reply ∷ rs) ≡ [] → reply ++ text ≡ []
none_step [] text rs rest none = rest none
none_step (b ∷ bs) text rs rest none = absurd cc

text_none : (turns : List Turn) → replies_of turns ≡ [] → text_of line_turns turns ≡ []
text_none [] none = refl
text_none (t ∷ ts) none = none_step t.reply (text_of line_turns ts) (map (λ (u : Turn). u.reply) ts) (text_none ts) none

either : (text : List ℕ) (rs : List (List ℕ)) → spaced text ≡ spread rs → (rs ≡ [] → text ≡ []) → replied text ≡ listed rs
either [] [] same none = refl
either [] (r ∷ rs) same none = absurd cc
either (b ∷ bs) [] same none = absurd (let e = none refl in cc)
either (b ∷ bs) (r ∷ rs) same none = same

pub replied_listed : (turns : List Turn) → AreReplies turns → replied (text_of line_turns turns) ≡ listed (replies_of turns)
replied_listed turns are = either (text_of line_turns turns) (replies_of turns) (spaced_all turns are) (text_none turns)
