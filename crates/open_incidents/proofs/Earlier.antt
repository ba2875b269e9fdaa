-- The more urgent of two incidents: it goes by an order, so it is the same however many are compared in parts.
use Rattle.std.proofs.Common.{◌≡◌, ℕ, Bool, true, false, cond, refl, sym, ap, ◌∙◌, Option, Some, None}
use Rattle.std.specs.Cmp.{upto}
use Rattle.std.specs.Ordering.{is_gt}
use Rattle.std.proofs.lemmas.Bool.{false≢true}
use Rattle.arc_text.specs.Comparisons.{order_of}
use Rattle.arc_data.specs.declared.incident.Incident.{Incident}
use Rattle.centre_rules.specs.Desks.{is_before, lesser}
use Rattle.operator_queue.proofs.Orders.{total}
use Rattle.open_incidents.specs.Lapses.{earlier}
use Rattle.open_incidents.specs.Waiting.{pair_of}
use Rattle.open_incidents.proofs.First.{before_is, not_both, turned, level}

-- the pair of the first does not come after that of the second
abbrev UpTo : Incident → Incident → Type 0
UpTo i j = is_gt (order_of (pair_of i) (pair_of j)) ≡ false

turned_back : (i j : Incident) → is_gt (order_of (pair_of i) (pair_of j)) ≡ is_before j i
turned_back i j =
    ap is_gt (total.antisymm (pair_of i) (pair_of j)) ∙ turned (order_of (pair_of j) (pair_of i)) ∙ sym (before_is j i)

not_after : (i j : Incident) → is_before j i ≡ false → UpTo i j
not_after i j e = turned_back i j ∙ e

is_not : (i j : Incident) → UpTo i j → is_before j i ≡ false
is_not i j le = sym (turned_back i j) ∙ le

is_up_to : (i j : Incident) → is_before i j ≡ true → UpTo i j
is_up_to i j e = not_both (order_of (pair_of i) (pair_of j)) (sym (before_is i j) ∙ e)

-- one that comes before none of two that stand so comes before neither
past_both : (i j k : Incident) → is_before j i ≡ false → is_before k j ≡ false → is_before k i ≡ false
past_both i j k e f = is_not i k (upto total (pair_of i) (pair_of j) (pair_of k) (not_after i j e) (not_after j k f))

before_if : (i j k : Incident) (b : Bool) → is_before k i ≡ b → is_before j i ≡ true → is_before k j ≡ true → b ≡ true
before_if i j k true e f g = refl
before_if i j k false e f g =
    let back : is_before j i ≡ false = is_not i j (upto total (pair_of i) (pair_of k) (pair_of j) (not_after i k e) (is_up_to k j g)) in
    absurd (false≢true (sym back ∙ f))

before_both : (i j k : Incident) → is_before j i ≡ true → is_before k j ≡ true → is_before k i ≡ true
before_both i j k e f = before_if i j k (is_before k i) refl e f

-- In parts.

three : (i j k : Incident) (a b : Bool) → is_before j i ≡ a → is_before k j ≡ b
    → earlier (cond a (Some j) (Some i)) (Some k) ≡ lesser i (cond b (Some k) (Some j))
three i j k true true e f =
    ap (λ (c : Bool). cond c (Some k) (Some j)) f ∙ sym (ap (λ (c : Bool). cond c (Some k) (Some i)) (before_both i j k e f))
three i j k true false e f =
    ap (λ (c : Bool). cond c (Some k) (Some j)) f ∙ sym (ap (λ (c : Bool). cond c (Some j) (Some i)) e)
three i j k false true e f = refl
three i j k false false e f =
    ap (λ (c : Bool). cond c (Some k) (Some i)) (past_both i j k e f) ∙ sym (ap (λ (c : Bool). cond c (Some j) (Some i)) e)

none_third : (i j : Incident) (a : Bool) → earlier (cond a (Some j) (Some i)) None ≡ cond a (Some j) (Some i)
none_third i j true = refl
none_third i j false = refl

pub in_parts : (a b c : Option Incident) → earlier (earlier a b) c ≡ earlier a (earlier b c)
in_parts None b c = refl
in_parts (Some i) None c = refl
in_parts (Some i) (Some j) None = none_third i j (is_before j i)
in_parts (Some i) (Some j) (Some k) = three i j k (is_before j i) (is_before k j) refl refl

-- Either way round.

swap_if : (i j : Incident) (a b : Bool) → (i.number ≡ j.number → ⊥) → is_before j i ≡ a → is_before i j ≡ b
    → cond a (Some j) (Some i) ≡ cond b (Some i) (Some j)
swap_if i j true true other e f = absurd (false≢true (sym (is_not i j (is_up_to i j f)) ∙ e))
swap_if i j true false other e f = refl
swap_if i j false true other e f = refl
swap_if i j false false other e f =
    absurd (other (ap (λ (p : ℕ × ℕ). p.1) (level (pair_of i) (pair_of j) (not_after i j e) (not_after j i f))))

pub swapped : (i j : Incident) → (i.number ≡ j.number → ⊥) → earlier (Some i) (Some j) ≡ earlier (Some j) (Some i)
swapped i j other = swap_if i j (is_before j i) (is_before i j) other refl refl
