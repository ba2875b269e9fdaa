-- The fields of events: each is read exactly where its spelling stands.
use Rattle.std.proofs.Common.{◌≡◌, ℕ, zero, suc, ◌<◌, ◌≤◌, Bool, true, leb, List, [], ◌∷◌, ◌++◌, length, Option, Some, None, refl, sym, ap, subst, ◌∙◌, append-nil, arith}
use Rattle.std.specs.Int.{Width, to_be_bytes}
use Rattle.std.proofs.lemmas.Bool.{leb-true, le-leb}
use Rattle.arc_data.specs.Digits.{AreBytes}
use Rattle.arc_data.specs.WellFormed.{is_receiver}
use Rattle.arc_data.proofs.ByteLemmas.{are_bytes}
use Rattle.event_codec.specs.Spelling.{short_text, receiver_text}
use Rattle.event_codec.specs.Reading.{number_up_to, text_at, short_at, receiver_of, receiver_at, long_at, coded_at}
use Rattle.event_codec.proofs.Readers.{IsBytes, IsReader, reworded, seq, giving, passing, a_byte, a_piece, a_full_piece, IsWide, a_number}

some : {A : Type 0} → A → Option A
some x = Some x

-- the parts of a text in other words
pub step : {text front back front' back' : List ℕ} → text ≡ front ++ back → front ≡ front' → back ≡ back' → text ≡ front' ++ back'
step {back = back} {front' = front'} j f b = j ∙ ap (λ (x : List ℕ). x ++ back) f ∙ ap (λ (x : List ℕ). front' ++ x) b

-- the last part
pub last : {text front back front' : List ℕ} → text ≡ front ++ back → front ≡ front' → back ≡ [] → text ≡ front'
last {front' = front'} j f b = step j f b ∙ append-nil front'

-- ---- numbers

pub record IsUpTo (w : Width) (most n : ℕ) (text : List ℕ) : Type 0 where
  pub below : n ≤ most
  pub is : text ≡ to_be_bytes w n

pub a_number_up_to : (w : Width) (limit most : ℕ) → IsWide w limit → most < limit → IsReader (number_up_to w most) (IsUpTo w most)
unfolding number_up_to
a_number_up_to w limit most wide small = reworded (IsUpTo w most) (seq (a_number w limit wide) (λ n. passing (leb n most) n))
    (λ n t h. subst (λ (k : ℕ). IsUpTo w most k t) h.is_second.is (record { below = leb-true _ _ h.is_second.passed; is = last h.joined h.is_first.is h.is_second.none }))
    (λ n t h. record {
      first = n;
      front = t;
      back = [];
      is_first = record { below = omega (arith, h.below, small); is = h.is };
      is_second = record { passed = le-leb _ _ h.below; is = refl; none = refl };
      joined = sym (append-nil t);
    })

-- ---- short texts

pub record IsText (x text : List ℕ) : Type 0 where
  pub is : text ≡ short_text x

a_text : IsReader text_at IsText
unfolding text_at
a_text = reworded IsText (seq a_byte (λ n. a_piece n))
    (λ x t h.
    let front : h.first ∷ [] ≡ length x ∷ [] = ap (λ (k : ℕ). k ∷ []) (sym h.is_second.long) in
    record { is = step h.joined (h.is_first ∙ front) h.is_second.is })
    (λ x t h. record { first = length x; front = length x ∷ []; back = x; is_first = refl; is_second = record { long = refl; is = refl }; joined = h.is })

pub record IsShort (test : List ℕ → Bool) (x text : List ℕ) : Type 0 where
  pub passed : test x ≡ true
  pub is : text ≡ short_text x

pub a_short : (test : List ℕ → Bool) → IsReader (short_at test) (IsShort test)
a_short test = reworded (IsShort test) (seq a_text (λ t. passing (test t) t))
    (λ x t h. subst (λ (y : List ℕ). IsShort test y t) h.is_second.is (record { passed = h.is_second.passed; is = last h.joined h.is_first.is h.is_second.none }))
    (λ x t h. record { first = x; front = t; back = []; is_first = record { is = h.is }; is_second = record { passed = h.passed; is = refl; none = refl }; joined = sym (append-nil t) })

pub record IsReceiverText (r : Option (List ℕ)) (text : List ℕ) : Type 0 where
  pub passed : is_receiver r ≡ true
  pub is : text ≡ receiver_text r

receiver_text-of : (t : List ℕ) → short_text t ≡ receiver_text (receiver_of t)
receiver_text-of [] = refl
receiver_text-of (b ∷ bs) = refl

-- the digits of the field
digits : Option (List ℕ) → List ℕ
digits None = []
digits (Some ds) = ds

receiver_of-digits : (r : Option (List ℕ)) → is_receiver r ≡ true → receiver_of (digits r) ≡ r
unfolding digits
receiver_of-digits None h = refl
receiver_of-digits (Some []) h = absurd cc
receiver_of-digits (Some (b ∷ bs)) h = refl

receiver_text-is : (r : Option (List ℕ)) → receiver_text r ≡ short_text (digits r)
unfolding digits
receiver_text-is None = refl
receiver_text-is (Some ds) = refl

pub a_receiver : IsReader receiver_at IsReceiverText
a_receiver = reworded IsReceiverText (seq a_text (λ t. passing (is_receiver (receiver_of t)) (receiver_of t)))
    (λ r t h. subst (λ (y : Option (List ℕ)). IsReceiverText y t) h.is_second.is (record { passed = h.is_second.passed; is = last h.joined h.is_first.is h.is_second.none ∙ receiver_text-of h.first }))
    (λ r t h.
    let same = receiver_of-digits r h.passed in
    record {
      first = digits r;
      front = t;
      back = [];
      is_first = record { is = h.is ∙ receiver_text-is r };
      is_second = record { passed = ap is_receiver same ∙ h.passed; is = same; none = refl };
      joined = sym (append-nil t);
    })

-- ---- texts of any length

pub record IsLong (w : Width) (most : ℕ) (x text : List ℕ) : Type 0 where
  pub size : length x ≤ most
  pub bytes : AreBytes x
  pub is : text ≡ to_be_bytes w (length x) ++ x

each_byte : (xs : List ℕ) → AreBytes xs → IsBytes xs
each_byte [] h i = omega arith
each_byte (x ∷ xs) h zero = h.0
each_byte (x ∷ xs) h (suc i) = each_byte xs h.1 i

pub a_long : (w : Width) (limit most : ℕ) → IsWide w limit → most < limit → IsReader (long_at w most) (IsLong w most)
unfolding long_at
a_long w limit most wide small = reworded (IsLong w most) (seq (a_number_up_to w limit most wide small) (λ n. a_full_piece n))
    (λ x t h.
    let p = h.is_second in
    let front : to_be_bytes w h.first ≡ to_be_bytes w (length x) = ap (to_be_bytes w) (sym p.long) in
    record { size = rw p.long h.is_first.below; bytes = are_bytes x p.bytes; is = step h.joined (h.is_first.is ∙ front) p.is })
    (λ x t h. record {
      first = length x;
      front = to_be_bytes w (length x);
      back = x;
      is_first = record { below = h.size; is = refl };
      is_second = record { long = refl; is = refl; bytes = each_byte x h.bytes };
      joined = h.is;
    })

-- ---- bytes that stand for a value

pub record IsCode {A : Type 0} (of : ℕ → Option A) (x : A) (text : List ℕ) : Type 0 where
  pub byte : ℕ
  pub stands : of byte ≡ Some x
  pub is : text ≡ byte ∷ []

pub a_code : {A : Type 0} (of : ℕ → Option A) → IsReader (coded_at of) (IsCode of)
a_code of = reworded (IsCode of) (seq a_byte (λ b. giving (of b)))
    (λ x t h. record { byte = h.first; stands = h.is_second.is; is = last h.joined h.is_first h.is_second.none })
    (λ x t h. record { first = h.byte; front = h.byte ∷ []; back = []; is_first = refl; is_second = record { is = h.stands; none = refl }; joined = h.is })
