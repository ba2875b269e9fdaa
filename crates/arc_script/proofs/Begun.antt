-- What the beginning of a run adds to a history: nothing of it is counted, and it can be read again.
use Rattle.std.proofs.Common.{◌≡◌, ◌++◌, ◌∷◌, ℕ, List, [], Bool, true, false, cond, Option, Some, None, filter, length, reverse, inl, inr, refl, sym, ap, subst, ◌∙◌, length-append, arith}
use Rattle.std.proofs.lemmas.List.{reverse-append}
use Rattle.std.proofs.lemmas.List.Elements.{filter-append}
use Rattle.arc_data.specs.declared.event.Event.TheVariants.{Adopt, Start}
use Rattle.arc_data.specs.declared.reply.Reply.{Reply}
use Rattle.arc_data.specs.declared.reply.Reply.TheVariants.{Adopted, Started}
use Rattle.centre_core.specs.declared.hall.Stop.{Stop}
use Rattle.centre_rules.specs.Answers.{IsLegal}
use Rattle.centre_rules.specs.History.{Entry, IsMoment, marks, moment_after}
use Rattle.centre_rules.specs.Marks.{text}
use Rattle.centre_rules.specs.Summary.{Summary}
use Rattle.centre_store.specs.Begins.{adopted_after, begun_after, is_in_force}
use Rattle.arc_script.specs.Ends.{BegunUntil, BegunAgain}
use Rattle.arc_script.specs.Standing.{IsReadable}
use Rattle.arc_script.specs.Steps.{before_tick}
use Rattle.arc_script.specs.Tallies.{count_of, is_closed, is_repeat}
use Rattle.centre_store.proofs.Readable.{readable_more}

-- Entries that were added to a history, of which none is a repeat and none closes an incident.

pub record Adds (h x : List Entry) : Type 0 where
  pub entries : List Entry
  pub is : x ≡ reverse entries ++ h
  pub repeats : count_of is_repeat entries ≡ 0
  pub closed : count_of is_closed entries ≡ 0

pub adds_none : (h : List Entry) → Adds h h
adds_none h = record { entries = []; is = refl; repeats = refl; closed = refl }

count_last : (test : Reply → Bool) (es : List Entry) (e : Entry) → test e.reply ≡ false → count_of test es ≡ 0 → count_of test (es ++ e ∷ []) ≡ 0
count_last test es e other none =
    let p : Entry → Bool = λ d. test d.reply in
    let one : length (filter p (e ∷ [])) ≡ 0 = ap (λ (b : Bool). length (cond b (e ∷ []) [])) other in
    let both = ap length (filter-append p es (e ∷ [])) ∙ length-append (filter p es) (filter p (e ∷ [])) in
    omega (arith, one, both, none)

pub adds_more : (h x : List Entry) (e : Entry) → is_repeat e.reply ≡ false → is_closed e.reply ≡ false → Adds h x → Adds h (e ∷ x)
adds_more h x e repeats closed adds = record {
  entries = adds.entries ++ e ∷ [];
  is = ap (λ (l : List Entry). e ∷ l) adds.is ∙ ap (λ (l : List Entry). l ++ h) (sym (reverse-append adds.entries (e ∷ [])));
  repeats = count_last is_repeat adds.entries e repeats adds.repeats;
  closed = count_last is_closed adds.entries e closed adds.closed;
}

-- the Adopt of a setup, where there is one
abbrev adopt_of : Summary → List ℕ → ℕ → List Entry → Entry
adopt_of base setup moment h = record { caller = 0; event = Adopt setup; at = moment_after base h moment; reply = Adopted }

abbrev start_of : Summary → List ℕ → ℕ → List Entry → Entry
start_of base setup moment h = record {
  caller = 0;
  event = Start;
  at = moment_after base (adopted_after base h setup moment) moment;
  reply = Started;
}

adopts_if : (b : Bool) (h : List Entry) (e : Entry) → is_repeat e.reply ≡ false → is_closed e.reply ≡ false → Adds h (cond b h (e ∷ h))
adopts_if true h e repeats closed = adds_none h
adopts_if false h e repeats closed = adds_more h h e repeats closed (adds_none h)

adds_adopted : (base : Summary) (setup : List ℕ) (moment : ℕ) (h : List Entry) → Adds h (adopted_after base h setup moment)
adds_adopted base setup moment h = adopts_if (is_in_force (text base (marks base h)) setup) h (adopt_of base setup moment h) refl refl

pub adds_begun : (base : Summary) (setup : List ℕ) (moment : ℕ) (h : List Entry) → Adds h (begun_after base h setup moment)
adds_begun base setup moment h =
    adds_more h (adopted_after base h setup moment) (start_of base setup moment h) refl refl (adds_adopted base setup moment h)

pub adds_first : (clock : Option ℕ) (base : Summary) (setup : List ℕ) (moment : ℕ) (h : List Entry) → Adds h (before_tick clock base setup moment h)
adds_first None base setup moment h = adds_begun base setup moment h
adds_first (Some last) base setup moment h = adds_none h

pub adds_until : (clock : Option ℕ) (base : Summary) (setup : List ℕ) (moment : ℕ) (h x : List Entry) → BegunUntil clock base setup moment h x → Adds h x
adds_until None base setup moment h x (inl is) = subst (Adds h) (sym is) (adds_none h)
adds_until None base setup moment h x (inr (inl is)) = subst (Adds h) (sym is) (adds_adopted base setup moment h)
adds_until None base setup moment h x (inr (inr is)) = subst (Adds h) (sym is) (adds_begun base setup moment h)
adds_until (Some last) base setup moment h x is = subst (Adds h) (sym is) (adds_none h)

pub adds_again : (stop : Stop) (base : Summary) (setup : List ℕ) (moment : ℕ) (h x : List Entry) → BegunAgain stop base setup moment h x → Adds h x
adds_again stop base setup moment h x (inl is) = subst (Adds h) (sym is) (adds_none h)
adds_again stop base setup moment h x (inr (inl is)) = subst (Adds h) (sym is) (adds_adopted base setup moment h)
adds_again stop base setup moment h x (inr (inr is)) = subst (Adds h) (sym is.1) (adds_begun base setup moment h)

-- They can be read again: what a store stands for is legal.

pub readable_next : (base : Summary) (h : List Entry) (e : Entry) (clock : ℕ) → e.caller ≡ 0 → IsMoment clock → e.at ≡ moment_after base h clock
    → IsLegal base (e ∷ h) → IsReadable base h → IsReadable base (e ∷ h)
readable_next base h e clock caller fits at legal kept = (kept.0, readable_more base h e clock caller legal.0.event fits at legal.0.reply kept.1)

readable_if : (base : Summary) (b : Bool) (h : List Entry) (e : Entry) (clock : ℕ) → e.caller ≡ 0 → IsMoment clock → e.at ≡ moment_after base h clock
    → IsLegal base (cond b h (e ∷ h)) → IsReadable base h → IsReadable base (cond b h (e ∷ h))
readable_if base true h e clock caller fits at legal kept = kept
readable_if base false h e clock caller fits at legal kept = readable_next base h e clock caller fits at legal kept

pub readable_begun : (base : Summary) (setup : List ℕ) (moment : ℕ) (h : List Entry) → IsMoment moment → IsLegal base (begun_after base h setup moment)
    → IsReadable base h → IsReadable base (begun_after base h setup moment)
readable_begun base setup moment h fits legal kept =
    let adopted = readable_if base (is_in_force (text base (marks base h)) setup) h (adopt_of base setup moment h) moment refl fits refl legal.1 kept in
    readable_next base (adopted_after base h setup moment) (start_of base setup moment h) moment refl fits refl legal adopted

pub readable_first : (clock : Option ℕ) (base : Summary) (setup : List ℕ) (moment : ℕ) (h : List Entry) → IsMoment moment
    → IsLegal base (before_tick clock base setup moment h) → IsReadable base h → IsReadable base (before_tick clock base setup moment h)
readable_first None base setup moment h fits legal kept = readable_begun base setup moment h fits legal kept
readable_first (Some last) base setup moment h fits legal kept = kept
