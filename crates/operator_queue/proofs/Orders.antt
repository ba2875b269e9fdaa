-- How pairs stand to one another.
use Rattle.std.proofs.Common.{◌≡◌, ◌<◌, ℕ, false, refl, sym, ap, ◌∙◌, subst}
use Rattle.std.specs.Cmp.{ranks, IsTotalOrder, alike_right}
use Rattle.std.specs.Ordering.{nat_cmp, ordering_then, ordering_reverse, is_gt, MatchOrdering}
use Rattle.std.specs.declared.cmp.Ordering.{Ordering}
use Rattle.std.specs.declared.cmp.Ordering.TheVariants.{Less, Equal, Greater}
use Rattle.std.proofs.lemmas.Cmp.{nat_cmp_total, then_total, on_total}
use Rattle.arc_text.specs.Comparisons.{order_of}

pub total : IsTotalOrder order_of
total = then_total (on_total (λ (p : ℕ × ℕ). p.0) nat_cmp_total) (on_total (λ (p : ℕ × ℕ). p.1) nat_cmp_total)

both_equal : (a b : Ordering) → ordering_then a b ≡ Equal → (a ≡ Equal) × (b ≡ Equal)
both_equal Less b is = absurd (cc)
both_equal Equal b is = (refl, is)
both_equal Greater b is = absurd (cc)

numbers_equal : (x y : ℕ) → nat_cmp x y ≡ Equal → x ≡ y
numbers_equal x y is = subst (λ r. MatchOrdering r (x < y) (x ≡ y) (y < x)) is (ranks x y)

pub equal : (p q : ℕ × ℕ) → order_of p q ≡ Equal → p ≡ q
equal p q is =
    let both = both_equal (nat_cmp p.0 q.0) (nat_cmp p.1 q.1) is in
    ap (λ a. (a, p.1)) (numbers_equal p.0 q.0 both.0) ∙ ap (λ b. (q.0, b)) (numbers_equal p.1 q.1 both.1)

below_by : (p q w : ℕ × ℕ) (o : Ordering) → order_of p q ≡ o → is_gt o ≡ false → order_of q w ≡ Less → order_of p w ≡ Less
below_by p q w Less is past less = total.trans p q w is less
below_by p q w Equal is past less = total.congr p q w is ∙ less
below_by p q w Greater is past less = absurd (cc)

-- what comes after none of what is less is less
pub below : (p q w : ℕ × ℕ) → is_gt (order_of p q) ≡ false → order_of q w ≡ Less → order_of p w ≡ Less
below p q w = below_by p q w (order_of p q) refl

pub turn : (p q : ℕ × ℕ) → order_of p q ≡ Greater → order_of q p ≡ Less
turn p q is = total.antisymm q p ∙ ap ordering_reverse is

pub turn_back : (p q : ℕ × ℕ) → order_of p q ≡ Less → order_of q p ≡ Greater
turn_back p q is = total.antisymm q p ∙ ap ordering_reverse is

above_by : (p q w : ℕ × ℕ) (o : Ordering) → order_of p q ≡ o → is_gt o ≡ false → order_of w p ≡ Less → order_of w q ≡ Less
above_by p q w Less is past less = total.trans w p q less is
above_by p q w Equal is past less = sym (alike_right total p q w is) ∙ less
above_by p q w Greater is past less = absurd (cc)

-- what comes before none of what is greater is greater
pub above : (p q w : ℕ × ℕ) → is_gt (order_of p q) ≡ false → order_of p w ≡ Greater → order_of q w ≡ Greater
above p q w past greater = turn_back w q (above_by p q w (order_of p q) refl past (turn p w greater))
