-- A past with one entry more, and with one fewer.
use Rattle.std.proofs.Common.{◌≡◌, ◌≤◌, ◌<◌, ◌+◌, ◌^◌, ℕ, List, [], ◌∷◌, ◌++◌, length, refl, sym, ap, ◌∙◌, arith}
use Rattle.centre_rules.specs.Summary.{Summary}
use Rattle.centre_rules.specs.History.{Entry}
use Rattle.centre_rules.specs.Answers.{IsNext}
use Rattle.event_codec.specs.Spelling.{IsNamedIn}
use Rattle.centre_store.specs.Bodies.{body_in, bodies_in}
use Rattle.centre_store.specs.Pasts.{IsKept, IsPast}
use Rattle.centre_store.proofs.Bodies.{bodies_more}

pub no_bodies : (version : ℕ) → bodies_in version [] ≡ []
unfolding bodies_in
no_bodies version = refl

pub no_past : (version : ℕ) (base : Summary) → base.recorded ≤ 2 ^ 48 → IsPast version base [] []
no_past version base few = record { legal = tt; kept = tt; named = tt; few = omega (arith, few); is = sym (no_bodies version) }

pub past_more : (version : ℕ) (base : Summary) (front : List (List ℕ)) (h : List Entry) (e : Entry) (body : List ℕ) → IsPast version base front h → IsNext base h e → IsKept e
    → IsNamedIn version e.event → base.recorded + length h < 2 ^ 48 → body ≡ body_in version e → IsPast version base (front ++ body ∷ []) (e ∷ h)
past_more version base front h e body p next kept named few is = record {
  legal = (next, p.legal);
  kept = (kept, p.kept);
  named = (named, p.named);
  few = omega arith;
  is = ap (λ (l : List (List ℕ)). l ++ body ∷ []) p.is ∙ ap (λ (b : List ℕ). bodies_in version h ++ b ∷ []) is ∙ sym (bodies_more version e h kept.recorded);
}

-- the last body is that of the newest entry, and the others have the past before it
pub record Ends (version : ℕ) (base : Summary) (bodies : List (List ℕ)) (e : Entry) (h : List Entry) : Type 0 where
  pub front : List (List ℕ)
  pub split : bodies ≡ front ++ body_in version e ∷ []
  pub past : IsPast version base front h

pub past_less : (version : ℕ) (base : Summary) (bodies : List (List ℕ)) (e : Entry) (h : List Entry) → IsPast version base bodies (e ∷ h) → Ends version base bodies e h
past_less version base bodies e h p = record {
  front = bodies_in version h;
  split = p.is ∙ bodies_more version e h p.kept.0.recorded;
  past = record { legal = p.legal.1; kept = p.kept.1; named = p.named.1; few = omega (arith, p.few); is = refl };
}

pub no_entries : (version : ℕ) (base : Summary) (bodies : List (List ℕ)) → IsPast version base bodies [] → bodies ≡ []
no_entries version base bodies p = p.is ∙ no_bodies version
