-- The names of the receiver's lines, and lines that are made anew under them, one after another.
use Rattle.std.proofs.Common.{◌≡◌, ◌⊎◌, ◌<◌, ◌≤◌, ◌+◌, ◌++◌, ◌/◌, ◌%◌, ℕ, zero, suc, List, [], ◌∷◌, Option, inl, inr, length, set, ap, sym, subst, ◌∙◌, arith}
use Rattle.std.specs.Prelude.{IfSome, decimal}
use Rattle.std.specs.List.{slice_get}
use Rattle.std.proofs.lemmas.Bool.{cases_lt}
use Rattle.std.proofs.lemmas.Fmt.{decimal_digit, decimal_step}
use Rattle.std.proofs.lemmas.Option.{slice_get_past}
use Rattle.line_session.specs.Lines.{LineValue, TookStream}
use Rattle.arc_script.specs.Feeding.{AreNew, TookAt}
use Rattle.arc_script.specs.Names.{line_name}
use Rattle.arc_script.proofs.Carries.{set_other, set_there}

-- The number has one digit, or two of which the first is 1.

pub one_digit : (n : ℕ) → n < 10 → line_name n ≡ 108 ∷ (48 + n % 10) ∷ []
one_digit n low =
    let same : n ≡ n % 10 = omega (arith, low) in
    ap (λ (l : List ℕ). 108 ∷ l) (decimal_digit n low ∙ ap (λ (d : ℕ). (48 + d) ∷ []) same)

pub two_digits : (n : ℕ) → 10 ≤ n → n ≤ 16 → line_name n ≡ 108 ∷ 49 ∷ (48 + n % 10) ∷ []
two_digits n low high =
    let first : n / 10 ≡ 1 = omega (arith, low, high) in
    ap (λ (l : List ℕ). 108 ∷ l)
    (decimal_step n low (omega (arith, high)) ∙ ap (λ (d : ℕ). decimal d ++ (48 + n % 10) ∷ []) first
    ∙ ap (λ (l : List ℕ). l ++ (48 + n % 10) ∷ []) (decimal_digit 1 (omega arith)))

-- One more stands behind those that are new.

last_too : {A : Type 0} (P : ℕ → A → Type 0) (xs : List A) (x : A) → ((i : ℕ) → IfSome (slice_get xs i) (P i)) → P (length xs) x
    → (i : ℕ) → IfSome (slice_get (xs ++ x ∷ []) i) (P i)
last_too P [] x all last zero = last
last_too P [] x all last (suc i) = tt
last_too P (y ∷ ys) x all last zero = all zero
last_too P (y ∷ ys) x all last (suc i) = last_too (λ k. P (suc k)) ys x (λ k. all (suc k)) last i

pub new_more : (lines : List LineValue) (name : List ℕ) (line : LineValue) → AreNew lines → name ≡ line_name (length lines + 1) → TookStream name [] line
    → AreNew (lines ++ line ∷ [])
new_more lines name line new is took =
    last_too (λ (place : ℕ) (l : LineValue). TookStream (line_name (place + 1)) [] l) lines line new (subst (λ (n : List ℕ). TookStream n [] line) is took)

-- One more of them is made anew in its place.

place_new : (lines : List LineValue) (place : ℕ) (line : LineValue) (i : ℕ) → TookStream (line_name (place + 1)) [] line → ((k : ℕ) → k < place → TookAt [] lines k)
    → i < place + 1 → (i < place) ⊎ (place ≤ i) → TookAt [] (set lines place line) i
place_new lines place line i took before within (inl below) =
    subst (λ (o : Option LineValue). IfSome o (TookStream (line_name (i + 1)) [])) (sym (set_other lines place i line (λ e. omega (arith, e, below)))) (before i below)
place_new lines place line i took before within (inr above) =
    let at : place ≡ i = omega (arith, within, above) in
    subst (λ (k : ℕ). TookAt [] (set lines place line) k) at (set_there (TookStream (line_name (place + 1)) []) lines place line took)

pub renewed : (lines : List LineValue) (place : ℕ) (name : List ℕ) (line : LineValue) → name ≡ line_name (place + 1) → TookStream name [] line
    → ((k : ℕ) → k < place → TookAt [] lines k) → (i : ℕ) → i < place + 1 → TookAt [] (set lines place line) i
renewed lines place name line is took before i within =
    place_new lines place line i (subst (λ (n : List ℕ). TookStream n [] line) is took) before within (cases_lt i place)

all_new_at : (lines : List LineValue) (i : ℕ) → ((k : ℕ) → k < length lines → TookAt [] lines k) → (i < length lines) ⊎ (length lines ≤ i) → TookAt [] lines i
all_new_at lines i each (inl within) = each i within
all_new_at lines i each (inr past) = subst (λ (o : Option LineValue). IfSome o (TookStream (line_name (i + 1)) [])) (sym (slice_get_past lines i past)) tt

-- All of them are.
pub all_new : (lines : List LineValue) → ((k : ℕ) → k < length lines → TookAt [] lines k) → AreNew lines
all_new lines each = λ i. all_new_at lines i each (cases_lt i (length lines))
