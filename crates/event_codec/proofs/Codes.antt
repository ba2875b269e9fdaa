-- Tokens, steps, outcomes and codes: each byte stands for one of them, and each of them has its byte.
use Rattle.std.proofs.Common.{◌≡◌, ℕ, ◌-◌, ◌≤◌, Bool, true, false, leb, eqb, Option, Some, None, refl, sym, ap, subst, ◌∙◌, arith}
use Rattle.std.specs.Prelude.{◌&&◌, ◌==◌, if◌then◌else◌}
use Rattle.std.proofs.lemmas.Bool.{leb-true, le-leb, eqb-true, and_parts}
use Rattle.arc_data.specs.Steps.{is_step}
use Rattle.arc_data.specs.declared.event.Token.{Token}
use Rattle.arc_data.specs.declared.event.Token.TheVariants.{SiaDcs, AdmCid}
use Rattle.arc_data.specs.declared.event.CloseCode.{CloseCode}
use Rattle.arc_data.specs.declared.event.CloseCode.TheVariants.{Real, False, Test}
use Rattle.arc_data.specs.declared.step.Outcome.{Outcome}
use Rattle.arc_data.specs.declared.step.Outcome.TheVariants.{Reached, NoAnswer, Done}
use Rattle.arc_data.specs.declared.step.Step.{Step}
use Rattle.arc_data.specs.declared.step.Step.TheVariants.{Premises, Holder, Police, Fire, Ambulance, Guard, Note}
use Rattle.event_codec.specs.Spelling.{token_byte, step_byte, outcome_byte, code_byte}
use Rattle.event_codec.specs.Reading.{token_of, step_of, outcome_of, code_of}

pub token_of-byte : (x : Token) → token_of (token_byte x) ≡ Some x
token_of-byte SiaDcs = refl
token_of-byte AdmCid = refl

pub outcome_of-byte : (x : Outcome) → outcome_of (outcome_byte x) ≡ Some x
outcome_of-byte Reached = refl
outcome_of-byte NoAnswer = refl
outcome_of-byte Done = refl

pub code_of-byte : (x : CloseCode) → code_of (code_byte x) ≡ Some x
code_of-byte Real = refl
code_of-byte False = refl
code_of-byte Test = refl

pub step_of-byte : (x : Step) → is_step x ≡ true → step_of (step_byte x) ≡ Some x
step_of-byte Premises h = refl
step_of-byte (Holder number) h = grind (arith, h)
step_of-byte Police h = refl
step_of-byte Fire h = refl
step_of-byte Ambulance h = refl
step_of-byte Guard h = refl
step_of-byte Note h = refl

-- the value of the byte, or that of another one
chosen : {A : Type 0} (b n : ℕ) (x y : A) (of : Option A) (byte : A → ℕ) → byte x ≡ n → (of ≡ Some y → byte y ≡ b) → (if b == n then Some x else of) ≡ Some y → byte y ≡ b
chosen b n x y of byte is other e = by (eqb b n) refl e
  where
    by : (test : Bool) → eqb b n ≡ test → (if test then Some x else of) ≡ Some y → byte y ≡ b
    by true same e = let equal : x ≡ y = cc in ap byte (sym equal) ∙ is ∙ sym (eqb-true b n same)
    by false differs e = other e

pub token_byte-of : (b : ℕ) (x : Token) → token_of b ≡ Some x → token_byte x ≡ b
token_byte-of b x e = chosen b 1 SiaDcs x _ token_byte refl (chosen b 2 AdmCid x None token_byte refl (λ none. absurd cc)) e

pub outcome_byte-of : (b : ℕ) (x : Outcome) → outcome_of b ≡ Some x → outcome_byte x ≡ b
outcome_byte-of b x e = chosen b 1 Reached x _ outcome_byte refl (chosen b 2 NoAnswer x _ outcome_byte refl (chosen b 3 Done x None outcome_byte refl (λ none. absurd cc))) e

pub code_byte-of : (b : ℕ) (x : CloseCode) → code_of b ≡ Some x → code_byte x ≡ b
code_byte-of b x e = chosen b 1 Real x _ code_byte refl (chosen b 2 False x _ code_byte refl (chosen b 3 Test x None code_byte refl (λ none. absurd cc))) e

-- the step of a byte, which is one of the steps
pub record IsStepOf (b : ℕ) (x : Step) : Type 0 where
  pub byte : step_byte x ≡ b
  pub known : is_step x ≡ true

chosen_step : (b n : ℕ) (x y : Step) (of : Option Step) → step_byte x ≡ n → is_step x ≡ true → (of ≡ Some y → IsStepOf b y) → (if b == n then Some x else of) ≡ Some y → IsStepOf b y
chosen_step b n x y of is known other e = by (eqb b n) refl e
  where
    by : (test : Bool) → eqb b n ≡ test → (if test then Some x else of) ≡ Some y → IsStepOf b y
    by true same e = let equal : x ≡ y = cc in subst (IsStepOf b) equal (record { byte = is ∙ sym (eqb-true b n same); known = known })
    by false differs e = other e

holder : (b : ℕ) (y : Step) (of : Option Step) → (of ≡ Some y → IsStepOf b y) → (if leb 2 b && leb b 5 then Some (Holder (b - 1)) else of) ≡ Some y → IsStepOf b y
holder b y of other e = by (leb 2 b && leb b 5) refl e
  where
    by : (test : Bool) → (leb 2 b && leb b 5) ≡ test → (if test then Some (Holder (b - 1)) else of) ≡ Some y → IsStepOf b y
    by true within e =
        let p = and_parts (leb 2 b) (leb b 5) within in
        let low : 2 ≤ b = leb-true 2 b p.0 in
        let high : b ≤ 5 = leb-true b 5 p.1 in
        let equal : Holder (b - 1) ≡ y = cc in
        subst (IsStepOf b) equal (record { byte = omega (arith, low); known = rw (le-leb 1 (b - 1) (omega (arith, low)), le-leb (b - 1) 4 (omega (arith, high))) refl })
    by false differs e = other e

pub step_byte-of : (b : ℕ) (x : Step) → step_of b ≡ Some x → IsStepOf b x
step_byte-of b x e =
    chosen_step b 1 Premises x _ refl refl
    (holder b x _
    (chosen_step b 6 Police x _ refl refl
    (chosen_step b 7 Fire x _ refl refl
    (chosen_step b 8 Ambulance x _ refl refl
    (chosen_step b 9 Guard x _ refl refl
    (chosen_step b 10 Note x None refl refl (λ none. absurd cc))))))) e
