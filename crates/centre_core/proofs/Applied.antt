-- What an entry makes of a state.
use Rattle.std.specs.Prelude.{not}
use Rattle.std.proofs.Common.{◌≡◌, ◌≤◌, ◌+◌, ◌∷◌, ℕ, List, [], Bool, true, false, refl, sym, ◌∙◌, ap, subst}
use Rattle.arc_data.specs.declared.event.Event.{Event}
use Rattle.arc_data.specs.declared.event.Event.TheVariants.{Adopt}
use Rattle.centre_rules.specs.History.{Entry, is_recorded, marks, marks_of, onto}
use Rattle.centre_rules.specs.Answers.{answer_over}
use Rattle.centre_rules.specs.State.{State, Same, StandsFor, Plan, IsSound, Grows, entry_of}
use Rattle.centre_rules.specs.Summary.{Summary}
use Rattle.arc_data.specs.declared.reply.Reply.{Reply}
use Rattle.centre_rules.proofs.Grown.{grown, quiet_grows}
use Rattle.centre_rules.proofs.Sames.{answer_same}
use Rattle.centre_rules.proofs.Marked.{recorded_grows}
use Rattle.centre_rules.proofs.Standing.{is_adopt, text_marked}
use Rattle.centre_core.specs.Kept.{Records}
use Rattle.centre_core.specs.Runs.{IsSubmitted}

-- a recorded one, from the state in which it is counted already
pub recorded_from : (s0 s t : State) (e : Entry) → is_recorded e.reply ≡ true → s.entries ≡ s0.entries + 1 → s.sum ≡ s0.sum → Records s t e.event e.at e.reply → Grows s0 t e
recorded_from s0 s t e q counted sum r =
    recorded_grows s0 t e q (r.entries ∙ counted) (r.recorded ∙ ap (λ (x : Summary). x.recorded + 1) sum) r.last
    (subst (λ (x : Summary). Same t.sum [] x (onto (marks_of x [] e.event e.at e.reply) [])) sum r.same)

no_adopt : (e : Event) → IsSubmitted e → is_adopt e ≡ false
no_adopt (Adopt text) sent = absurd sent
no_adopt event sent = refl

-- neither an Adopt nor a Start: the setup in force stays
pub text_stays : (s t : State) (e : Entry) → IsSubmitted e.event → Grows s t e → t.sum.text ≡ s.sum.text
text_stays s t e sent g = g.same.text ∙ text_marked s.sum e [] (no_adopt e.event sent)

-- what is kept the same stands for the same
pub stands_same : (b : Summary) (s t : State) (h : List Entry) → t.entries ≡ s.entries → t.sum ≡ s.sum → StandsFor b s h → StandsFor b t h
stands_same b s t h entries sum w = record {
  legal = w.legal;
  entries = entries ∙ w.entries;
  recorded = ap (λ (x : Summary). x.recorded) sum ∙ w.recorded;
  last = ap (λ (x : Summary). x.last) sum ∙ w.last;
  same = subst (λ (x : Summary). Same x [] b (marks b h)) (sym sum) w.same;
}

-- the answer over what is kept is that over the whole history
pub answered : (b : Summary) (s t : State) (h : List Entry) (e : Event) (at : ℕ) (r : Reply) → s.sum ≡ t.sum → r ≡ answer_over t.sum [] e at → StandsFor b s h → r ≡ answer_over b (marks b h) e at
answered b s t h e at r sum is w = is ∙ ap (λ (x : Summary). answer_over x [] e at) (sym sum) ∙ answer_same w.same e at

-- what was worked out over a state, and made there, is the next entry
pub applied : (b : Summary) (p : Plan) (s t : State) (h : List Entry) (caller : ℕ) → IsSound p → s.sum ≡ p.of.sum → Grows s t (entry_of caller p) → StandsFor b s h → StandsFor b t (entry_of caller p ∷ h)
applied b p s t h caller sound of g w =
    grown b s t h (entry_of caller p) w g sound.event (sound.answer ∙ ap (λ (x : Summary). answer_over x [] p.event p.at) (sym of))
    (subst (λ (x : Summary). x.last ≤ p.at) (sym of) sound.late)

-- what was worked out over a state, and is quiet, only counts
pub quiet_applied : (b : Summary) (p : Plan) (s t : State) (h : List Entry) (caller : ℕ) → IsSound p → s.sum ≡ p.of.sum
    → is_recorded p.reply ≡ false → t.entries ≡ s.entries + 1 → t.sum ≡ s.sum → StandsFor b s h → StandsFor b t (entry_of caller p ∷ h)
quiet_applied b p s t h caller sound of quiet entries sum w =
    applied b p s t h caller sound of (quiet_grows s t (entry_of caller p) quiet entries sum) w

pub is_quiet : (b q : Bool) → q ≡ not b → q ≡ true → b ≡ false
is_quiet false q e f = refl
is_quiet true q e f = absurd (cc)

pub not_quiet : (b q : Bool) → q ≡ not b → q ≡ false → b ≡ true
not_quiet true q e f = refl
not_quiet false q e f = absurd (cc)
