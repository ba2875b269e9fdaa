-- The bytes of a piece, fed to a cutter behind a stream.
use Rattle.std.proofs.Common.{◌≡◌, ◌+◌, ◌∷◌, ◌++◌, ℕ, List, [], map, take, drop, Bool, true, false, Option, Some, None, refl, sym, ◌∙◌, ap, subst, append_assoc, append-nil, eqb, take-append-drop}
use Rattle.std.specs.List.{filter}
use Rattle.std.specs.Option.{option_to_list}
use Rattle.std.proofs.Math.Seq.{take-add}
use Rattle.std.proofs.lemmas.Bool.{eqb-true, or_from}
use Rattle.std.proofs.lemmas.List.{map-append}
use Rattle.std.proofs.lemmas.List.Elements.{filter-append}
use Rattle.dc09_frame.specs.declared.cut.Cut.{Cut}
use Rattle.dc09_frame.specs.declared.cut.Cut.TheVariants.{Whole, BadCheck, BadLength, TooLong}
use Rattle.dc09_frame.specs.Cutting.{CutterValue, WasFed, Feeds, body_told, open_piece}
use Rattle.dc09_frame.specs.Frames.{bodies, body_of, is_whole}
use Rattle.dc09_frame.specs.Pieces.{pieces}
use Rattle.dc09_frame.proofs.BodyLaws.{bodies_fed}
use Rattle.dc09_frame.proofs.PieceLaws.{pieces-append_run, pieces-append_feed, pieces-append_return}

-- What a cutter was fed, and the bodies of it, after it took more of the bytes.
pub record IsFed (stream bytes : List ℕ) (at n : ℕ) (told : Option Cut) (c : CutterValue) : Type 0 where
  pub fed : WasFed (stream ++ take (at + n) bytes) c
  pub added : bodies (stream ++ take (at + n) bytes) ≡ bodies (stream ++ take at bytes) ++ body_told told c

pub fed_more : (stream bytes : List ℕ) (at n : ℕ) (told : Option Cut) (c : CutterValue) → Feeds (stream ++ take at bytes) (take n (drop at bytes)) told c → IsFed stream bytes at n told c
fed_more stream bytes at n told c f =
    let e : stream ++ take (at + n) bytes ≡ (stream ++ take at bytes) ++ take n (drop at bytes) = ap (λ (l : List ℕ). stream ++ l) (take-add at n bytes) ∙ sym (append_assoc stream (take at bytes) (take n (drop at bytes))) in
    record {
      fed = subst (λ (s : List ℕ). WasFed s c) (sym e) f.fed;
      added = ap bodies e ∙ (bodies_fed (stream ++ take at bytes) (take n (drop at bytes)) told c f).added;
    }

pub told_none : (told : Option Cut) (c : CutterValue) → (told ≡ Some Whole → ⊥) → body_told told c ≡ []
told_none None c not_whole = refl
told_none (Some Whole) c not_whole = absurd (not_whole refl)
told_none (Some BadCheck) c not_whole = refl
told_none (Some BadLength) c not_whole = refl
told_none (Some TooLong) c not_whole = refl

pub told_one : (told : Option Cut) (c : CutterValue) → told ≡ Some Whole → body_told told c ≡ c.body ∷ []
told_one told c is = ap (λ (o : Option Cut). body_told o c) is

-- More of a stream only adds pieces.

one_by : (s : List ℕ) (x : ℕ) (l r : Bool) → eqb x 10 ≡ l → eqb x 13 ≡ r → (more : List (List ℕ)) × (pieces (s ++ x ∷ []) ≡ pieces s ++ more)
one_by s x true r el er = ([], ap (λ b. pieces (s ++ b ∷ [])) (eqb-true x 10 el) ∙ pieces-append_feed s ∙ sym (append-nil (pieces s)))
one_by s x false true el er = (option_to_list (open_piece s), ap (λ b. pieces (s ++ b ∷ [])) (eqb-true x 13 er) ∙ pieces-append_return s)
one_by s x false false el er = ([], pieces-append_run s (x ∷ []) (or_from _ _ (or_from _ _ el er) refl) ∙ sym (append-nil (pieces s)))

pieces_more : (s t : List ℕ) → (more : List (List ℕ)) × (pieces (s ++ t) ≡ pieces s ++ more)
pieces_more s [] = ([], ap pieces (append-nil s) ∙ sym (append-nil (pieces s)))
pieces_more s (x ∷ t) =
    let first = one_by s x (eqb x 10) (eqb x 13) refl refl in
    let next = pieces_more (s ++ x ∷ []) t in (
      first.0 ++ next.0,
      ap pieces (sym (append_assoc s (x ∷ []) t)) ∙ next.1 ∙ ap (λ (l : List (List ℕ)). l ++ next.0) first.1 ∙ append_assoc (pieces s) first.0 next.0,
    )

-- the bodies of a stream begin with those of its front
pub bodies_more : (s t : List ℕ) → (more : List (List ℕ)) × (bodies (s ++ t) ≡ bodies s ++ more)
bodies_more s t =
    let p = pieces_more s t in (
      map body_of (filter is_whole p.0),
      ap (λ (ps : List (List ℕ)). map body_of (filter is_whole ps)) p.1
          ∙ ap (map body_of) (filter-append is_whole (pieces s) p.0)
          ∙ map-append body_of (filter is_whole (pieces s)) (filter is_whole p.0),
    )

-- the bodies behind the front of some bytes
pub bodies_behind : (stream bytes : List ℕ) (n : ℕ) → (more : List (List ℕ)) × (bodies (stream ++ bytes) ≡ bodies (stream ++ take n bytes) ++ more)
bodies_behind stream bytes n =
    let e : stream ++ bytes ≡ (stream ++ take n bytes) ++ drop n bytes = ap (λ (l : List ℕ). stream ++ l) (sym (take-append-drop n bytes)) ∙ sym (append_assoc stream (take n bytes) (drop n bytes)) in
    let m = bodies_more (stream ++ take n bytes) (drop n bytes) in
    (m.0, ap bodies e ∙ m.1)
