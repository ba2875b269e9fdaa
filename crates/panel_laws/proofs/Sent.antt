-- What a panel has sent, the newest first, and what is known of any two of its events.
use Rattle.std.proofs.Common.{◌≡◌, ◌≤◌, ◌<◌, ◌+◌, ◌*◌, ◌⊎◌, ℕ, List, [], ◌∷◌, length, refl, sym, ◌∙◌, subst, inl, inr, arith}
use Rattle.std.specs.List.{AllByRecursion}
use Rattle.panel_rules.specs.declared.Report.{Report}
use Rattle.panel_laws.specs.Worlds.{IsAmong}

-- an event of the panel that was sent: its number, what it reports, and the moment of its first copy
pub record Sent : Type 0 where
  pub event : ℕ
  pub report : Report
  pub first : ℕ

-- r was sent before x: at least 10 seconds for each event from it on, and only after it was acknowledged or given up
pub record IsBefore (acked : ℕ → Type 0) (x r : Sent) : Type 0 where
  pub below : r.event < x.event
  pub slow : r.first + 10 * x.event ≤ x.first + 10 * r.event
  pub done : acked r.event ⊎ (r.first + 240 < x.first)

-- each was sent after those behind it
abbrev pub AreOrdered : (ℕ → Type 0) → List Sent → Type 0
AreOrdered acked [] = Unit {0}
AreOrdered acked (x ∷ xs) = AllByRecursion (IsBefore acked x) xs × AreOrdered acked xs

-- their numbers go down to 1
abbrev pub AreCounted : List Sent → Type 0
AreCounted [] = Unit {0}
AreCounted (x ∷ xs) = (x.event ≡ length xs + 1) × AreCounted xs

-- what holds of each holds of one of them
pub all_among : {A : Type 0} (P : A → Type 0) → (a : A) (xs : List A) → AllByRecursion P xs → IsAmong a xs → P a
all_among P a [] all there = absurd there
all_among P a (b ∷ bs) all (inl same) = subst P (sym same) all.0
all_among P a (b ∷ bs) all (inr more) = all_among P a bs all.1 more

-- from one property to another
pub all_weaker : {A : Type 0} (P Q : A → Type 0) → ((a : A) → P a → Q a) → (xs : List A) → AllByRecursion P xs → AllByRecursion Q xs
all_weaker P Q f [] all = tt
all_weaker P Q f (a ∷ xs) all = (f a all.0, all_weaker P Q f xs all.1)

-- from what holds of each one that is among them
pub all_from : {A : Type 0} (P : A → Type 0) → (xs : List A) → ((a : A) → IsAmong a xs → P a) → AllByRecursion P xs
all_from P [] f = tt
all_from P (a ∷ xs) f = (f a (inl refl), all_from P xs (λ b there. f b (inr there)))

-- one and the same, or one before the other
pub data Order (acked : ℕ → Type 0) (x r : Sent) : Type 0 where
  Same : x ≡ r → Order acked x r
  Before : IsBefore acked x r → Order acked x r
  After : IsBefore acked r x → Order acked x r

-- any two
pub ordered : (acked : ℕ → Type 0) (xs : List Sent) (x r : Sent) → AreOrdered acked xs → IsAmong x xs → IsAmong r xs → Order acked x r
ordered acked [] x r all a b = absurd a
ordered acked (y ∷ ys) x r all (inl a) (inl b) = Same (a ∙ sym b)
ordered acked (y ∷ ys) x r all (inl a) (inr b) =
    Before (subst (λ (z : Sent). IsBefore acked z r) (sym a) (all_among (IsBefore acked y) r ys all.0 b))
ordered acked (y ∷ ys) x r all (inr a) (inl b) =
    After (subst (λ (z : Sent). IsBefore acked z x) (sym b) (all_among (IsBefore acked y) x ys all.0 a))
ordered acked (y ∷ ys) x r all (inr a) (inr b) = ordered acked ys x r all.1 a b

-- what is acknowledged stays so
pub ordered_weaker : (P Q : ℕ → Type 0) → ((n : ℕ) → P n → Q n) → (xs : List Sent) → AreOrdered P xs → AreOrdered Q xs
ordered_weaker P Q f [] all = tt
ordered_weaker P Q f (x ∷ xs) all = (all_weaker (IsBefore P x) (IsBefore Q x) (λ r b. before_weaker x r b) xs all.0, ordered_weaker P Q f xs all.1)
  where
    done_weaker : (n : ℕ) (C : Type 0) → P n ⊎ C → Q n ⊎ C
    done_weaker n C (inl p) = inl (f n p)
    done_weaker n C (inr c) = inr c

    before_weaker : (x r : Sent) → IsBefore P x r → IsBefore Q x r
    before_weaker x r b = record { below = b.below; slow = b.slow; done = done_weaker r.event _ b.done }

-- their numbers are between 1 and how many they are
pub record IsCounted (count : ℕ) (x : Sent) : Type 0 where
  pub some : 1 ≤ x.event
  pub most : x.event ≤ count

pub counted : (xs : List Sent) → AreCounted xs → AllByRecursion (IsCounted (length xs)) xs
counted [] all = tt
counted (x ∷ xs) all = (
  record { some = omega (arith, all.0); most = omega (arith, all.0) },
  all_weaker (IsCounted (length xs)) (IsCounted (length (x ∷ xs))) (λ a c. record { some = c.some; most = omega (arith, c.most) }) xs
      (counted xs all.1),
)
