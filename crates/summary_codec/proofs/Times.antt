-- So many in a row, read one after another.
use Rattle.std.proofs.Common.{◌≡◌, ◌+◌, ◌-◌, ◌<◌, ◌≤◌, ℕ, suc, Bool, cond, leb, List, [], ◌∷◌, ◌++◌, Option, Some, None, refl, sym, ap, ◌∙◌, append_assoc, append-nil, arith}
use Rattle.std.specs.Int.{w32}
use Rattle.std.proofs.lemmas.Bool.{le-leb}
use Rattle.event_codec.specs.Reading.{◌>>=◌, byte_at, number_at}
use Rattle.summary_codec.specs.Reading.{Reading, times_at, front_of, few_at, many_at}

-- what was read, and what is read behind it
abbrev pub behind : {A : Type 0} → List A → Option (List A × List ℕ) → Option (List A × List ℕ)
behind xs None = None
behind xs (Some p) = Some (xs ++ p.0, p.1)

-- of so many in a row, all but the last m are these, and the rest stands behind them
abbrev pub GoesOn : {A : Type 0} → Reading A → ℕ → ℕ → List ℕ → List A → List ℕ → Type 0
GoesOn read n k start xs rest = (m : ℕ) → n ≡ k + m → times_at read n start ≡ behind xs (times_at read m rest)

none_behind : {A : Type 0} (o : Option (List A × List ℕ)) → behind [] o ≡ o
none_behind None = refl
none_behind (Some p) = refl

pub begins : {A : Type 0} (read : Reading A) (n : ℕ) (start : List ℕ) → GoesOn read n 0 start [] start
begins read n start m e = ap (λ k. times_at read k start) (e ∙ omega arith) ∙ sym (none_behind (times_at read m start))

-- one that is read, and others behind it
abbrev next_by : {A : Type 0} → Reading (List A) → Option (A × List ℕ) → Option (List A × List ℕ)
next_by {A = A} others o =
    ◌>>=◌ {A = (A × List A) × List ℕ} {B = List A × List ℕ}
    (◌>>=◌ {A = A × List ℕ} {B = (A × List A) × List ℕ} o (λ x. ◌>>=◌ {A = List A × List ℕ} {B = (A × List A) × List ℕ} (others x.1) (λ y. Some ((x.0, y.0), y.1))))
    (λ z. Some (front_of z.0, z.1))

one_more : {A : Type 0} (x : A) (o : Option (List A × List ℕ)) → next_by (λ bytes. o) (Some (x, [])) ≡ behind (x ∷ []) o
one_more x None = refl
one_more x (Some p) = refl

both_behind : {A : Type 0} (xs : List A) (x : A) (o : Option (List A × List ℕ)) → behind xs (behind (x ∷ []) o) ≡ behind (xs ++ x ∷ []) o
both_behind xs x None = refl
both_behind {A = A} xs x (Some p) = ap (λ (l : List A). Some (l, p.1)) (sym (append_assoc xs (x ∷ []) p.0))

-- one more
pub goes_more : {A : Type 0} (read : Reading A) (n k : ℕ) (start : List ℕ) (xs : List A) (x : A) (rest next : List ℕ) → GoesOn read n k start xs rest
    → read rest ≡ Some (x, next) → GoesOn read n (k + 1) start (xs ++ x ∷ []) next
goes_more {A = A} read n k start xs x rest next so_far is m e =
    so_far (suc m) (omega (arith, e))
    ∙ ap (λ (o : Option (A × List ℕ)). behind xs (next_by (times_at read m) o)) is
    ∙ ap (behind xs) (one_more x (times_at read m next)) ∙ both_behind xs x (times_at read m next)

-- where the next lacks, there are not so many
pub goes_none : {A : Type 0} (read : Reading A) (n k : ℕ) (start : List ℕ) (xs : List A) (rest : List ℕ) → GoesOn read n k start xs rest
    → read rest ≡ None → k < n → times_at read n start ≡ None
goes_none {A = A} read n k start xs rest so_far is lt =
    let left = n - (k + 1) in
    so_far (suc left) (omega (arith, lt))
    ∙ ap (λ (o : Option (A × List ℕ)). behind xs (next_by (times_at read left) o)) is

-- all
pub goes_end : {A : Type 0} (read : Reading A) (n k : ℕ) (start : List ℕ) (xs : List A) (rest : List ℕ) → GoesOn read n k start xs rest
    → k ≤ n → n ≤ k → times_at read n start ≡ Some (xs, rest)
goes_end {A = A} read n k start xs rest so_far le ge = so_far 0 (omega (arith, le, ge)) ∙ ap (λ (l : List A). Some (l, rest)) (append-nil xs)

-- behind a count

pub few_is : {A : Type 0} (read : Reading A) (most n : ℕ) (bytes rest : List ℕ) (o : Option (List A × List ℕ)) → byte_at bytes ≡ Some (n, rest)
    → n ≤ most → times_at read n rest ≡ o → few_at most read bytes ≡ o
unfolding few_at
few_is {A = A} read most n bytes rest o count le is =
    ap (λ (c : Option (ℕ × List ℕ)). c >>= λ p. cond (leb p.0 most) (times_at read p.0 p.1) None) count
    ∙ ap (λ (b : Bool). cond b (times_at read n rest) None) (le-leb _ _ le) ∙ is

pub many_is : {A : Type 0} (read : Reading A) (n : ℕ) (bytes rest : List ℕ) (o : Option (List A × List ℕ)) → number_at w32 bytes ≡ Some (n, rest)
    → times_at read n rest ≡ o → many_at read bytes ≡ o
unfolding many_at
many_is {A = A} read n bytes rest o count is = ap (λ (c : Option (ℕ × List ℕ)). c >>= λ p. times_at read p.0 p.1) count ∙ is
