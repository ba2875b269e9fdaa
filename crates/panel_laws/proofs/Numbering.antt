-- The numbers of a panel's messages: they come again only after 9,999 events.
use Rattle.std.proofs.Common.{◌≡◌, ◌≤◌, ◌<◌, ◌+◌, ◌-◌, ◌*◌, ℕ, zero, suc, List, Bool, true, false, refl, ap, arith}
use Rattle.std.specs.Prelude.{◌==◌, ◌&&◌, nat_le, ◌/◌, ◌%◌, take, drop}
use Rattle.std.proofs.lemmas.Bool.{and_parts, leb-true, eqb-true, eqb-false}
use Rattle.arc_data.specs.declared.event.Token.{Token}
use Rattle.arc_data.specs.Digits.{is_between, is_capital_hex, is_hex, is_run}
use Rattle.panel_rules.specs.Panels.{Setting, is_setting, next_number, number_after, number, sequence, ack_body}

-- the number that so many went before is between 1 and 9999, and has gone round some times
pub record HasGone (s : Setting) (before : ℕ) : Type 0 where
  pub low : 1 ≤ number_after s before
  pub high : number_after s before ≤ 9999
  pub rounds : ℕ
  pub is : number_after s before + 9999 * rounds ≡ s.first + before

next_step : (k rounds sum : ℕ) (b : Bool) → (k == 9999) ≡ b → 1 ≤ k → k ≤ 9999 → k + 9999 * rounds ≡ sum
    → (r : ℕ) × (1 ≤ next_number k) × (next_number k ≤ 9999) × (next_number k + 9999 * r ≡ suc sum)
next_step k rounds sum true last low high is = let e : k ≡ 9999 = eqb-true k 9999 last in
    rw last (suc rounds, omega arith, omega arith, omega (arith, e, is))
next_step k rounds sum false other low high is = let e = eqb-false k 9999 other in
    rw other (rounds, omega arith, omega (arith, e), omega (arith, is))

pub gone : (s : Setting) → is_setting s ≡ true → (before : ℕ) → HasGone s before
gone s ok zero =
    let range = and_parts (is_run is_capital_hex 3 16 s.account && is_run is_hex 1 6 s.line) (is_between 1 9999 s.first) ok in
    let parts = and_parts (nat_le 1 s.first) (nat_le s.first 9999) range.1 in
    record { low = leb-true 1 s.first parts.0; high = leb-true s.first 9999 parts.1; rounds = 0; is = omega arith }
gone s ok (suc before) =
    let g = gone s ok before in
    let n = next_step (number_after s before) g.rounds (s.first + before) (number_after s before == 9999) refl g.low g.high g.is in
    record { low = n.1; high = n.2; rounds = n.0; is = omega (arith, n.3) }

-- the same number comes again after 9,999 events at the least
rare_after : (s : Setting) → is_setting s ≡ true → (a b : ℕ) → a < b → number_after s a ≡ number_after s b → a + 9999 ≤ b
rare_after s ok a b less same =
    let g = gone s ok a in
    let h = gone s ok b in
    omega (arith, less, same, g.is, h.is)

pub rare : (s : Setting) → is_setting s ≡ true → (a b : ℕ) → 1 ≤ a → a < b → number s a ≡ number s b → a + 9999 ≤ b
rare s ok a b some less same = omega (arith, rare_after s ok (a - 1) (b - 1) (omega arith) same)

-- Four digits spell one number.

digits_same : (a b : ℕ) → 48 + a / 100 / 10 ≡ 48 + b / 100 / 10 → 48 + a / 100 % 10 ≡ 48 + b / 100 % 10
    → 48 + a % 100 / 10 ≡ 48 + b % 100 / 10 → 48 + a % 100 % 10 ≡ 48 + b % 100 % 10 → a ≡ b
digits_same a b p q r t = omega (arith, p, q, r, t)

sequence_same : (a b : ℕ) → sequence a ≡ sequence b → a ≡ b
sequence_same a b same =
    let p : 48 + a / 100 / 10 ≡ 48 + b / 100 / 10 = cc in
    let q : 48 + a / 100 % 10 ≡ 48 + b / 100 % 10 = cc in
    let r : 48 + a % 100 / 10 ≡ 48 + b % 100 / 10 = cc in
    let t : 48 + a % 100 % 10 ≡ 48 + b % 100 % 10 = cc in
    digits_same a b p q r t

-- an acknowledgement tells the number that it is of
pub ack_same : (s : Setting) (n k : ℕ) (t u : Token) → ack_body s n t ≡ ack_body s k u → number s n ≡ number s k
ack_same s n k t u same = sequence_same (number s n) (number s k) (ap (λ (bytes : List ℕ). take 4 (drop 5 bytes)) same)
