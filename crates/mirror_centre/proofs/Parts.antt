-- Parts of histories: what is so of a whole one is so of what it begins with, and which body has which number.
use Rattle.std.proofs.Common.{◌≡◌, ◌<◌, ℕ, List, [], ◌∷◌, ◌++◌, length, map, reverse, refl, sym, ap, subst, ◌∙◌, arith}
use Rattle.std.proofs.lemmas.List.{get_or_append_left, get_or-append-add, length-map, length-reverse, map-append, reverse-append}
use Rattle.std.specs.Prelude.{slice_index_or}
use Rattle.arc_data.specs.WellFormed.{IsWellFormed}
use Rattle.arc_data.specs.declared.event.Event.{Event}
use Rattle.centre_rules.proofs.Quiet.{legal_recorded}
use Rattle.centre_rules.specs.Answers.{IsLegal}
use Rattle.centre_rules.specs.History.{Entry, Extends, IsMoment, recorded}
use Rattle.centre_rules.specs.Summary.{Summary}
use Rattle.centre_store.proofs.Readable.{readable_more}
use Rattle.centre_store.proofs.Recorded.{legal_rest, recorded_both, recorded_once}
use Rattle.centre_store.specs.Bodies.{body_in, bodies_in}
use Rattle.centre_store.specs.Calls.{entry_after}
use Rattle.centre_store.specs.Given.{IsGiven}
use Rattle.centre_store.specs.Pasts.{AreKept}
use Rattle.centre_store.specs.StoreHalls.{IsReadable}

-- a history over a summary that areas give, which is legal and can be read again
pub record IsFit (b : Summary) (h : List Entry) : Type 0 where
  pub given : IsGiven b
  pub legal : IsLegal b h
  pub readable : IsReadable b h

pub kept_rest : (k l : List Entry) → AreKept (k ++ l) → AreKept l
kept_rest [] l kept = kept
kept_rest (e ∷ k) l kept = kept_rest k l kept.1

-- what begins with a history has what it has recorded
pub more_recorded : (h k : List Entry) → Extends h k → Extends (recorded h) (recorded k)
more_recorded h k (later, is) = (recorded later, ap recorded is ∙ recorded_both later h)

pub no_more : (h : List Entry) → Extends h h
no_more h = ([], refl)

-- what it begins with is fit
pub fit_front : (b : Summary) (h k : List Entry) → Extends h k → IsFit b k → IsFit b h
fit_front b h k (later, is) fit = record {
  given = fit.given;
  legal = legal_rest b later h (subst (IsLegal b) is fit.legal);
  readable = (fit.readable.0, kept_rest (recorded later) (recorded h) (subst AreKept (ap recorded is ∙ recorded_both later h) fit.readable.1));
}

-- and its recorded entries are
pub fit_recorded : (b : Summary) (h : List Entry) → IsFit b h → IsFit b (recorded h)
fit_recorded b h fit = record {
  given = fit.given;
  legal = legal_recorded b h fit.legal;
  readable = (fit.readable.0, subst AreKept (sym (recorded_once h)) fit.readable.1);
}

-- with one entry more
pub fit_more : (b : Summary) (h : List Entry) (e : Event) (clock : ℕ) → IsWellFormed e → IsMoment clock → IsFit b h → IsFit b (entry_after b h e clock ∷ h)
fit_more b h e clock formed moment fit = record {
  given = fit.given;
  legal = (record { event = formed; reply = refl; late = omega arith }, fit.legal);
  readable = readable_more b h (entry_after b h e clock) clock refl formed moment refl refl fit.readable;
}

-- Bodies.

-- those of a history that begins with another one: first those of the other one
pub bodies_both : (version : ℕ) (later h k : List Entry) → recorded k ≡ later ++ recorded h
    → bodies_in version k ≡ bodies_in version h ++ reverse (map (body_in version) later)
unfolding bodies_in
bodies_both version later h k is =
    ap (λ (l : List Entry). reverse (map (body_in version) l)) is ∙ ap (reverse) (map-append (body_in version) later (recorded h))
    ∙ reverse-append (map (body_in version) later) (map (body_in version) (recorded h))

pub bodies_count : (version : ℕ) (h : List Entry) → length (bodies_in version h) ≡ length (recorded h)
unfolding bodies_in
bodies_count version h = length-reverse (map (body_in version) (recorded h)) ∙ length-map (recorded h) (body_in version)

-- the body at a place that the shorter one has
pub body_stays : (version i : ℕ) (h k : List Entry) → Extends (recorded h) (recorded k) → i < length (recorded h)
    → slice_index_or (bodies_in version k) i [] ≡ slice_index_or (bodies_in version h) i []
body_stays version i h k (later, is) less =
    ap (λ (l : List (List ℕ)). slice_index_or l i []) (bodies_both version later h k is)
    ∙ get_or_append_left (bodies_in version h) (reverse (map (body_in version) later)) [] i (omega (arith, less, bodies_count version h))

-- and at the place behind these
pub body_next : (version : ℕ) (later h k : List Entry) (e : Entry) → recorded h ≡ h → recorded k ≡ later ++ e ∷ h
    → slice_index_or (bodies_in version k) (length h) [] ≡ body_in version e
body_next version later h k e whole is =
    let split : recorded k ≡ (later ++ e ∷ []) ++ recorded h = is ∙ sym (append_one later e h) ∙ ap (λ (l : List Entry). (later ++ e ∷ []) ++ l) (sym whole) in
    let tail : reverse (map (body_in version) (later ++ e ∷ [])) ≡ body_in version e ∷ reverse (map (body_in version) later) =
    ap (reverse) (map-append (body_in version) later (e ∷ [])) ∙ reverse-append (map (body_in version) later) (body_in version e ∷ []) in
    let count : length (bodies_in version h) ≡ length h = bodies_count version h ∙ ap length whole in
    ap (λ (l : List (List ℕ)). slice_index_or l (length h) []) (bodies_both version (later ++ e ∷ []) h k split)
    ∙ ap (λ (l : List (List ℕ)). slice_index_or (bodies_in version h ++ l) (length h) []) tail
    ∙ ap (λ (n : ℕ). slice_index_or (bodies_in version h ++ body_in version e ∷ reverse (map (body_in version) later)) n []) (omega (arith, count))
    ∙ get_or-append-add (bodies_in version h) (body_in version e ∷ reverse (map (body_in version) later)) 0 []
  where
    append_one : (xs : List Entry) (x : Entry) (ys : List Entry) → (xs ++ x ∷ []) ++ ys ≡ xs ++ x ∷ ys
    append_one [] x ys = refl
    append_one (y ∷ xs) x ys = ap (λ (l : List Entry). y ∷ l) (append_one xs x ys)

-- the oldest of the later entries is the one behind the first ones
pub record HasNext (h whole : List Entry) : Type 0 where
  pub later : List Entry
  pub entry : Entry
  pub split : whole ≡ later ++ entry ∷ h

last_of : (h : List Entry) (x : Entry) (xs : List Entry) → HasNext h (x ∷ xs ++ h)
last_of h x [] = record { later = []; entry = x; split = refl }
last_of h x (y ∷ ys) = let r : HasNext h (y ∷ ys ++ h) = last_of h y ys in record { later = x ∷ r.later; entry = r.entry; split = ap (λ (l : List Entry). x ∷ l) r.split }

pub has_next : (h whole : List Entry) → Extends h whole → length h < length whole → HasNext h whole
has_next h whole ([], is) less = absurd (omega (arith, ap length is, less))
has_next h whole (x ∷ xs, is) less = subst (HasNext h) (sym is) (last_of h x xs)
