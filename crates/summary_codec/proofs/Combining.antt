-- Readings of one kind, made of others: what is read is what is spelled.
use Rattle.std.proofs.Common.{◌≡◌, ℕ, zero, suc, ◌^◌, ◌<◌, ◌≤◌, Bool, true, false, eqb, leb, List, [], ◌∷◌, ◌++◌, length, Option, Some, None, refl, sym, ap, subst, ◌∙◌, append-nil, arith}
use Rattle.std.specs.Prelude.{◌==◌, if◌then◌else◌}
use Rattle.std.specs.Int.{w32, w64, to_be_bytes}
use Rattle.std.specs.List.{flat_map}
use Rattle.std.proofs.lemmas.Bool.{eqb-true, leb-true, le-leb}
use Rattle.event_codec.specs.Reading.{number_at, coded_at}
use Rattle.event_codec.proofs.Readers.{IsReader, reworded, Then, seq, Given as Gives, giving, either, Either, Nothing, nothing, a_byte, wide32, wide64, a_number}
use Rattle.event_codec.proofs.Fields.{step, last, a_code}
use Rattle.summary_rules.specs.Lists.{Every}
use Rattle.summary_rules.specs.Fields.{Given, IsLongNumber}
use Rattle.summary_rules.specs.Spelling.{truth_byte, option_text, long_number, few_texts, many_texts}
use Rattle.summary_codec.specs.Reading.{Reading, pair_at, made_at, front_of, times_at, few_at, many_at, truth_of, some_of, option_at}

abbrev pub some : {A : Type 0} → A → Option A
some x = Some x

pub some_is : {A : Type 0} (x y : A) → some x ≡ some y → x ≡ y
some_is x y e = cc

-- the text is the one of a value that is so
pub record Spelled {A : Type 0} (P : A → Type 0) (text : A → List ℕ) (x : A) (bytes : List ℕ) : Type 0 where
  pub ok : P x
  pub is : bytes ≡ text x

-- one and then another
pub paired : {A B : Type 0} {f : Reading A} {k : A → Reading B} {P : A → Type 0} {t : A → List ℕ} {Q : A → B → Type 0} {u : A → B → List ℕ}
    → IsReader f (Spelled P t) → ((x : A) → IsReader (k x) (Spelled (Q x) (u x)))
    → IsReader (pair_at f k) (Spelled (λ (p : A × B). P p.0 × Q p.0 p.1) (λ (p : A × B). t p.0 ++ u p.0 p.1))
paired {A = A} {B = B} {P = P} {t = t} {Q = Q} {u = u} first second = reworded (Spelled (λ (p : A × B). P p.0 × Q p.0 p.1) (λ (p : A × B). t p.0 ++ u p.0 p.1))
    (seq first (λ x. seq (second x) (λ y. giving (Some (x, y)))))
    (λ p bytes h.
    let text : bytes ≡ t h.first ++ u h.first h.is_second.first =
    step h.joined h.is_first.is (last h.is_second.joined h.is_second.is_first.is h.is_second.is_second.none) in
    subst (λ (q : A × B). Spelled (λ (p : A × B). P p.0 × Q p.0 p.1) (λ (p : A × B). t p.0 ++ u p.0 p.1) q bytes)
    (some_is (h.first, h.is_second.first) p h.is_second.is_second.is)
    (record { ok = (h.is_first.ok, h.is_second.is_first.ok); is = text }))
    (λ p bytes h. record {
      first = p.0;
      front = t p.0;
      back = u p.0 p.1;
      is_first = record { ok = h.ok.0; is = refl };
      is_second = record {
        first = p.1;
        front = u p.0 p.1;
        back = [];
        is_first = record { ok = h.ok.1; is = refl };
        is_second = record { is = refl; none = refl };
        joined = sym (append-nil (u p.0 p.1));
      };
      joined = h.is;
    })

-- the value that is read for another one
pub record IsMadeOf {A B : Type 0} (make : A → B) (P : A → Type 0) (t : A → List ℕ) (u : B → List ℕ) (y : B) : Type 0 where
  pub part : A
  pub ok : P part
  pub made : make part ≡ y
  pub text : u y ≡ t part

-- what is made of a value that is read
pub record Makes {A B : Type 0} (make : A → B) (t : A → List ℕ) (Q : B → Type 0) (u : B → List ℕ) (x : A) : Type 0 where
  pub ok : Q (make x)
  pub text : t x ≡ u (make x)

pub made : {A B : Type 0} {f : Reading A} {P : A → Type 0} {t : A → List ℕ} (make : A → B) (Q : B → Type 0) (u : B → List ℕ)
    → IsReader f (Spelled P t) → ((x : A) → P x → Makes make t Q u x) → ((y : B) → Q y → IsMadeOf make P t u y)
    → IsReader (made_at make f) (Spelled Q u)
made make Q u read there back = reworded (Spelled Q u) (seq read (λ x. giving (Some (make x))))
    (λ y bytes h.
    let w = there h.first h.is_first.ok in
    let text : bytes ≡ u (make h.first) = last h.joined h.is_first.is h.is_second.none ∙ w.text in
    subst (λ z. Spelled Q u z bytes) (some_is (make h.first) y h.is_second.is) (record { ok = w.ok; is = text }))
    (λ y bytes h.
    let w = back y h.ok in
    record {
      first = w.part;
      front = bytes;
      back = [];
      is_first = record { ok = w.ok; is = h.is ∙ w.text };
      is_second = record { is = ap some w.made; none = refl };
      joined = sym (append-nil bytes);
    })

-- so many in a row
pub timed : {A : Type 0} {f : Reading A} (P : A → Type 0) (t : A → List ℕ) → IsReader f (Spelled P t) → (n : ℕ)
    → IsReader (times_at f n) (Spelled (λ (xs : List A). (length xs ≡ n) × Every P xs) (flat_map t))
timed {A = A} P t read zero = reworded (Spelled (λ (xs : List A). (length xs ≡ 0) × Every P xs) (flat_map t)) (giving (Some []))
    (λ xs bytes h. subst (λ (ys : List A). Spelled (λ (xs : List A). (length xs ≡ 0) × Every P xs) (flat_map t) ys bytes) (some_is [] xs h.is) (record { ok = (refl, tt); is = h.none }))
    (λ xs bytes h. none xs bytes h)
  where
    none : (xs : List A) (bytes : List ℕ) → Spelled (λ (xs : List A). (length xs ≡ 0) × Every P xs) (flat_map t) xs bytes → Gives (Some []) xs bytes
    none [] bytes h = record { is = refl; none = h.is }
    none (x ∷ xs) bytes h = absurd (omega (arith, h.ok.0))
timed {A = A} P t read (suc n) =
    made front_of (λ (xs : List A). (length xs ≡ suc n) × Every P xs) (flat_map t) (paired read (λ x. timed P t read n))
    (λ p w. record { ok = (ap suc w.1.0, (w.0, w.1.1)); text = refl })
    more
  where
    more : (xs : List A) → (length xs ≡ suc n) × Every P xs → IsMadeOf front_of (λ (p : A × List A). P p.0 × ((length p.1 ≡ n) × Every P p.1)) (λ (p : A × List A). t p.0 ++ flat_map t p.1) (flat_map t) xs
    more [] w = absurd (omega (arith, w.0))
    more (x ∷ xs) w = record { part = (x, xs); ok = (w.1.0, (omega (arith, w.0), w.1.1)); made = refl; text = refl }

-- numbers

pub a_long_number : IsReader (number_at w64) (Spelled IsLongNumber long_number)
unfolding long_number
a_long_number = reworded (Spelled IsLongNumber long_number) (a_number w64 (2 ^ 64) wide64)
    (λ n bytes h. record { ok = h.below; is = h.is })
    (λ n bytes h. record { below = h.ok; is = h.is })

-- a byte of count, at most so much, and that many
pub a_few : {A : Type 0} {f : Reading A} (most : ℕ) (P : A → Type 0) (t : A → List ℕ) → IsReader f (Spelled P t)
    → IsReader (few_at most f) (Spelled (λ (xs : List A). (length xs ≤ most) × Every P xs) (few_texts t))
unfolding few_at few_texts
a_few {A = A} {f = f} most P t read = reworded (Spelled (λ (xs : List A). (length xs ≤ most) × Every P xs) (few_texts t))
    (seq a_byte (λ n. either (leb n most) (times_at f n) (λ bytes. None) (Spelled (λ (xs : List A). (length xs ≡ n) × Every P xs) (flat_map t)) Nothing (timed P t read n) nothing))
    (λ xs bytes h. there h.first (leb h.first most) refl xs bytes h.front h.back h.joined h.is_first h.is_second)
    (λ xs bytes h. record {
      first = length xs;
      front = length xs ∷ [];
      back = flat_map t xs;
      is_first = refl;
      is_second = rw (le-leb _ _ h.ok.0) (record { ok = (refl, h.ok.1); is = refl });
      joined = h.is;
    })
  where
    there : (n : ℕ) (b : Bool) → leb n most ≡ b → (xs : List A) (bytes front back : List ℕ) → bytes ≡ front ++ back → front ≡ n ∷ []
        → Either b (Spelled (λ (xs : List A). (length xs ≡ n) × Every P xs) (flat_map t)) Nothing xs back
        → Spelled (λ (xs : List A). (length xs ≤ most) × Every P xs) (few_texts t) xs bytes
    there n true le xs bytes front back j is h =
        let small : n ≤ most = leb-true _ _ le in
        record { ok = (omega (arith, h.ok.0, small), h.ok.1); is = step j (is ∙ ap (λ (k : ℕ). k ∷ []) (sym h.ok.0)) h.is }
    there n false le xs bytes front back j is h = absurd h

-- four bytes of count, and that many
pub a_many : {A : Type 0} {f : Reading A} (P : A → Type 0) (t : A → List ℕ) → IsReader f (Spelled P t)
    → IsReader (many_at f) (Spelled (λ (xs : List A). (length xs < 2 ^ 32) × Every P xs) (many_texts t))
unfolding many_at many_texts
a_many {A = A} {f = f} P t read = reworded (Spelled (λ (xs : List A). (length xs < 2 ^ 32) × Every P xs) (many_texts t))
    (seq (a_number w32 (2 ^ 32) wide32) (λ n. timed P t read n))
    (λ xs bytes h.
    let long = h.is_second.ok.0 in
    record {
      ok = (rw long h.is_first.below, h.is_second.ok.1);
      is = step h.joined (h.is_first.is ∙ ap (to_be_bytes w32) (sym long)) h.is_second.is;
    })
    (λ xs bytes h. record {
      first = length xs;
      front = to_be_bytes w32 (length xs);
      back = flat_map t xs;
      is_first = record { below = h.ok.0; is = refl };
      is_second = record { ok = (refl, h.ok.1); is = refl };
      joined = h.is;
    })

-- bytes that stand for a value

-- each value has its byte, and each byte that stands for a value is that of the value
pub a_coded : {A : Type 0} (of : ℕ → Option A) (byte : A → ℕ) (P : A → Type 0)
    → ((b : ℕ) (x : A) → of b ≡ Some x → (byte x ≡ b) × P x) → ((x : A) → P x → of (byte x) ≡ Some x)
    → IsReader (coded_at of) (Spelled P (λ x. byte x ∷ []))
a_coded of byte P there back = reworded (Spelled P (λ x. byte x ∷ [])) (a_code of)
    (λ x bytes h. let w = there h.byte x h.stands in record { ok = w.1; is = h.is ∙ ap (λ (k : ℕ). k ∷ []) (sym w.0) })
    (λ x bytes h. record { byte = byte x; stands = back x h.ok; is = h.is })

abbrev pub Anything : {A : Type 0} → A → Type 0
Anything x = Unit {0}

-- the value of the byte, or that of another one
pub chosen : {A : Type 0} (b n : ℕ) (x y : A) (of : Option A) (byte : A → ℕ) (P : A → Type 0) → byte x ≡ n → P x → (of ≡ Some y → (byte y ≡ b) × P y)
    → (if b == n then Some x else of) ≡ Some y → (byte y ≡ b) × P y
chosen {A = A} b n x y of byte P is ok other e = by (eqb b n) refl e
  where
    by : (test : Bool) → eqb b n ≡ test → (if test then Some x else of) ≡ Some y → (byte y ≡ b) × P y
    by true same e =
        let equal : x ≡ y = cc in
        (ap byte (sym equal) ∙ is ∙ sym (eqb-true b n same), subst P equal ok)
    by false differs e = other e

truth_there : (b : ℕ) (x : Bool) → truth_of b ≡ Some x → (truth_byte x ≡ b) × Anything x
truth_there b x e = chosen b 0 false x _ truth_byte Anything refl tt (chosen b 1 true x None truth_byte Anything refl tt (λ none. absurd cc)) e

truth_back : (x : Bool) → Anything x → truth_of (truth_byte x) ≡ Some x
truth_back true ok = refl
truth_back false ok = refl

pub a_truth : IsReader (coded_at truth_of) (Spelled Anything (λ x. truth_byte x ∷ []))
a_truth = a_coded truth_of truth_byte Anything truth_there truth_back

-- values that may lack

pub an_option : {A : Type 0} {f : Reading A} (P : A → Type 0) (t : A → List ℕ) → IsReader f (Spelled P t)
    → IsReader (option_at f) (Spelled (Given P) (option_text t))
unfolding option_at
an_option {A = A} {f = f} P t read = reworded (Spelled (Given P) (option_text t))
    (seq a_byte (λ b. either (eqb b 0) (λ bytes. Some (None, bytes)) _ (Gives (Some None)) _ (giving (Some None))
    (either (eqb b 1) (made_at some_of f) (λ bytes. None) (Spelled Held t_of) Nothing a_held nothing)))
    (λ o bytes h. there h.first (eqb h.first 0) (eqb h.first 1) refl refl o bytes h.front h.back h.joined h.is_first h.is_second)
    back
  where
    Held : Option A → Type 0
    Held None = ⊥
    Held (Some x) = P x

    t_of : Option A → List ℕ
    t_of None = []
    t_of (Some x) = t x

    held : (y : Option A) → Held y → IsMadeOf some_of P t t_of y
    held None w = absurd w
    held (Some x) w = record { part = x; ok = w; made = refl; text = refl }

    a_held : IsReader (made_at some_of f) (Spelled Held t_of)
    a_held = made some_of Held t_of read (λ x w. record { ok = w; text = refl }) held

    there : (n : ℕ) (b c : Bool) → eqb n 0 ≡ b → eqb n 1 ≡ c → (o : Option A) (bytes front back : List ℕ) → bytes ≡ front ++ back → front ≡ n ∷ []
        → Either b (Gives (Some None)) (Either c (Spelled Held t_of) Nothing) o back → Spelled (Given P) (option_text t) o bytes
    there n true c zero_is one_is o bytes front back j is h =
        subst (λ (p : Option A). Spelled (Given P) (option_text t) p bytes) (some_is None o h.is)
        (record { ok = tt; is = last j (is ∙ ap (λ (k : ℕ). k ∷ []) (eqb-true n 0 zero_is)) h.none })
    there n false true zero_is one_is None bytes front back j is h = absurd h.ok
    there n false true zero_is one_is (Some x) bytes front back j is h =
        record { ok = h.ok; is = step j (is ∙ ap (λ (k : ℕ). k ∷ []) (eqb-true n 1 one_is)) h.is }
    there n false false zero_is one_is o bytes front back j is h = absurd h

    back : (o : Option A) (bytes : List ℕ) → Spelled (Given P) (option_text t) o bytes
        → Then (λ (b : ℕ) (text : List ℕ). text ≡ b ∷ []) (λ b. Either (eqb b 0) (Gives (Some None)) (Either (eqb b 1) (Spelled Held t_of) Nothing)) o bytes
    back None bytes h = record { first = 0; front = 0 ∷ []; back = []; is_first = refl; is_second = record { is = refl; none = refl }; joined = h.is }
    back (Some x) bytes h = record { first = 1; front = 1 ∷ []; back = t x; is_first = refl; is_second = record { ok = h.ok; is = refl }; joined = h.is }
