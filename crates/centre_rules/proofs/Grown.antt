-- A centre that grows by an entry stands for the history with the entry.
use Rattle.std.proofs.Common.{◌≡◌, ◌≤◌, ℕ, ◌+◌, List, [], ◌∷◌, length, Bool, true, false, cond, refl, ap, ◌∙◌, arith, subst}
use Rattle.arc_data.specs.WellFormed.{IsWellFormed}
use Rattle.centre_rules.specs.Summary.{Summary}
use Rattle.centre_rules.specs.Marks.{Mark}
use Rattle.centre_rules.specs.History.{Entry, marks_of, marked, onto, is_recorded, recorded, last}
use Rattle.centre_rules.specs.Answers.{answer_over}
use Rattle.centre_rules.specs.State.{Same, State, StandsFor, Grows}
use Rattle.centre_rules.proofs.Sames.{same_refl, same_trans, same_onto, marks_of_same, answer_same}

more_if : {s t : Summary} {ms ns : List Mark} → (e : Entry) (b : Bool) → Same s ms t ns
    → Same s (cond b (onto (marks_of s ms e.event e.at e.reply) ms) ms) t (cond b (onto (marks_of t ns e.event e.at e.reply) ns) ns)
more_if {s} {t} {ms} {ns} e true w =
    subst (λ (xs : List Mark). Same s (onto (marks_of s ms e.event e.at e.reply) ms) t (onto xs ns))
    (marks_of_same w e.event e.at e.reply) (same_onto (marks_of s ms e.event e.at e.reply) w)
more_if e false w = w

-- the same entry after both
pub same_more : {s t : Summary} {ms ns : List Mark} → (e : Entry) → Same s ms t ns → Same s (marked s e ms) t (marked t e ns)
same_more e w = more_if e (is_recorded e.reply) w

length_if : (b : Bool) (e : Entry) (xs : List Entry) (n : ℕ) → n + length xs + length (cond b (e ∷ []) []) ≡ n + length (cond b (e ∷ xs) xs)
length_if true e xs n = omega arith
length_if false e xs n = omega arith

last_if : (b : Bool) (x y at : ℕ) → x ≡ y → cond b at x ≡ cond b at y
last_if true x y at e = refl
last_if false x y at e = e

pub grown : (b : Summary) (s t : State) (h : List Entry) (e : Entry) → StandsFor b s h → Grows s t e → IsWellFormed e.event → e.reply ≡ answer_over s.sum [] e.event e.at → s.sum.last ≤ e.at → StandsFor b t (e ∷ h)
grown b s t h e w g formed r late = record {
  legal = (
    record {
      event = formed;
      reply = r ∙ answer_same w.same e.event e.at;
      late = subst (λ (n : ℕ). n ≤ e.at) w.last late;
    },
    w.legal,
  );
  entries = omega (arith, g.entries, w.entries);
  recorded = g.recorded ∙ ap (λ n. n + length (recorded (e ∷ []))) w.recorded ∙ length_if (is_recorded e.reply) e (recorded h) b.recorded;
  last = g.last ∙ last_if (is_recorded e.reply) s.sum.last (last b h) e.at w.last;
  same = same_trans g.same (same_more e w.same);
}

-- A state grows by a quiet entry that only counts.
pub quiet_grows : (s t : State) (e : Entry) → is_recorded e.reply ≡ false → t.entries ≡ s.entries + 1 → t.sum ≡ s.sum → Grows s t e
quiet_grows s t e q entries is = record {
  entries = entries;
  recorded = rw (is, q) (omega arith);
  last = rw (is, q) refl;
  same = rw (is, q) (same_refl s.sum []);
}
