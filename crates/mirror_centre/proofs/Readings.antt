-- An answer is read exactly where its text stands, and bytes are at most one answer.
use Rattle.std.proofs.Common.{◌≡◌, ◌<◌, ◌+◌, ◌^◌, ℕ, Bool, true, false, eqb, List, [], ◌∷◌, ◌++◌, length, take, drop, Option, Some, None, refl, sym, ap, subst, ◌∙◌, append-nil, arith}
use Rattle.std.specs.Prelude.{if◌then◌else◌, nat_lt, MatchOption}
use Rattle.std.specs.Int.{Width, w32, w64, byte_len, from_be_bytes, to_be_bytes}
use Rattle.std.specs.Option.{option_map}
use Rattle.std.proofs.lemmas.Bool.{eqb-true, eqb-false, ltb-true, lt-ltb}
use Rattle.std.proofs.lemmas.List.{take_at, drop_at, get_or-drop}
use Rattle.arc_data.specs.Digits.{AreBytes}
use Rattle.arc_data.proofs.ByteLemmas.{are_bytes}
use Rattle.event_codec.specs.Reading.{alone, number_at}
use Rattle.event_codec.proofs.Readers.{IsBytes, IsReader, IsWide, reworded, seq, passing, wide32, wide64, a_number}
use Rattle.event_codec.proofs.Fields.{step, last, a_long}
use Rattle.mirror_centre.specs.Messages.{Answer, Record, End, Summed, answer_text, Fits, IsAnswer, IsNoAnswer}
use Rattle.mirror_centre.specs.Sayings.{record_at, record_in, count_in, end_in, read_in, said_in}
use Rattle.mirror_centre.specs.declared.messages.Said.{Said}
use Rattle.mirror_centre.specs.declared.messages.Said.TheVariants as said

IsBytes-drop : (n : ℕ) (bytes : List ℕ) → IsBytes bytes → IsBytes (drop n bytes)
IsBytes-drop n bytes h i = rw get_or-drop (h (n + i))

-- One text, one answer.

-- the numbers in front are the same, and what stands behind them
same_front : (w : Width) (limit : ℕ) → IsWide w limit → (m n : ℕ) (xs ys : List ℕ) → m < limit → n < limit → to_be_bytes w m ++ xs ≡ to_be_bytes w n ++ ys
    → (m ≡ n) × (xs ≡ ys)
same_front w limit wide m n xs ys small other is =
    let front : to_be_bytes w m ≡ to_be_bytes w n =
    sym (take_at (to_be_bytes w m) xs (byte_len w) (wide.len m)) ∙ ap (take (byte_len w)) is ∙ take_at (to_be_bytes w n) ys (byte_len w) (wide.len n) in (
      sym (wide.again m small) ∙ ap (from_be_bytes w) front ∙ wide.again n other,
      sym (drop_at (to_be_bytes w m) xs (byte_len w) (wide.len m)) ∙ ap (drop (byte_len w)) is ∙ drop_at (to_be_bytes w n) ys (byte_len w) (wide.len n),
    )

tail_of : (x y : ℕ) (xs ys : List ℕ) → x ∷ xs ≡ y ∷ ys → xs ≡ ys
tail_of x y xs ys is = ap (drop 1) is

same_record : (m n : ℕ) (xs ys : List ℕ) → Fits (Record m xs) → Fits (Record n ys) → answer_text (Record m xs) ≡ answer_text (Record n ys) → Record m xs ≡ Record n ys
same_record m n xs ys one two is =
    let numbers = same_front w64 (2 ^ 64) wide64 m n (to_be_bytes w32 (length xs) ++ xs) (to_be_bytes w32 (length ys) ++ ys) one.0 two.0
    (tail_of 82 82 (to_be_bytes w64 m ++ (to_be_bytes w32 (length xs) ++ xs)) (to_be_bytes w64 n ++ (to_be_bytes w32 (length ys) ++ ys)) is) in
    let bodies = same_front w32 (2 ^ 32) wide32 (length xs) (length ys) xs ys (omega (arith, one.2)) (omega (arith, two.2)) numbers.1 in
    λ i. Record (numbers.0 i) (bodies.1 i)

same_count : (m n : ℕ) → m < 2 ^ 64 → n < 2 ^ 64 → answer_text (Summed m) ≡ answer_text (Summed n) → Summed m ≡ Summed n
same_count m n one two is =
    let tails : to_be_bytes w64 m ≡ to_be_bytes w64 n = tail_of 66 66 (to_be_bytes w64 m) (to_be_bytes w64 n) is in
    ap (λ (k : ℕ). Summed k) (sym (wide64.again m one) ∙ ap (from_be_bytes w64) tails ∙ wide64.again n two)

heads : (x y : ℕ) (xs ys : List ℕ) → x ∷ xs ≡ y ∷ ys → x ≡ y
heads x y xs ys is = cc

pub one_answer : (bytes : List ℕ) (a c : Answer) → IsAnswer bytes a → IsAnswer bytes c → a ≡ c
one_answer bytes (Record m xs) (Record n ys) one two = same_record m n xs ys one.fits two.fits (sym one.text ∙ two.text)
one_answer bytes (Record m xs) End one two = absurd (omega (arith, heads 82 69 (to_be_bytes w64 m ++ (to_be_bytes w32 (length xs) ++ xs)) [] (sym one.text ∙ two.text)))
one_answer bytes (Record m xs) (Summed n) one two = absurd (omega (arith, heads 82 66 (to_be_bytes w64 m ++ (to_be_bytes w32 (length xs) ++ xs)) (to_be_bytes w64 n) (sym one.text ∙ two.text)))
one_answer bytes End (Record n ys) one two = absurd (omega (arith, heads 69 82 [] (to_be_bytes w64 n ++ (to_be_bytes w32 (length ys) ++ ys)) (sym one.text ∙ two.text)))
one_answer bytes End End one two = refl
one_answer bytes End (Summed n) one two = absurd (omega (arith, heads 69 66 [] (to_be_bytes w64 n) (sym one.text ∙ two.text)))
one_answer bytes (Summed m) (Record n ys) one two = absurd (omega (arith, heads 66 82 (to_be_bytes w64 m) (to_be_bytes w64 n ++ (to_be_bytes w32 (length ys) ++ ys)) (sym one.text ∙ two.text)))
one_answer bytes (Summed m) End one two = absurd (omega (arith, heads 66 69 (to_be_bytes w64 m) [] (sym one.text ∙ two.text)))
one_answer bytes (Summed m) (Summed n) one two = same_count m n one.fits two.fits (sym one.text ∙ two.text)

-- Records.

-- a number and a body, as they are spelled behind `R`
record IsRecordText (x : ℕ × List ℕ) (text : List ℕ) : Type 0 where
  pub fits : Fits (Record x.0 x.1)
  pub bytes : AreBytes x.1
  pub is : text ≡ to_be_bytes w64 x.0 ++ (to_be_bytes w32 (length x.1) ++ x.1)

a_record : IsReader record_at IsRecordText
unfolding record_at
a_record = reworded IsRecordText
    (seq (a_number w64 (2 ^ 64) wide64) (λ number.
    seq (a_long w32 (2 ^ 32) 4_194_400 wide32 (omega arith)) (λ body.
    passing (nat_lt 0 (length body)) (number, body))))
    (λ x t a.
    let b = a.is_second in
    let end = b.is_second in
    subst (λ (y : ℕ × List ℕ). IsRecordText y t) end.is (record {
      fits = (a.is_first.below, ltb-true _ _ end.passed, b.is_first.size);
      bytes = b.is_first.bytes;
      is = step a.joined a.is_first.is (last b.joined b.is_first.is end.none);
    }))
    (λ x t h. record {
      first = x.0;
      front = to_be_bytes w64 x.0;
      back = to_be_bytes w32 (length x.1) ++ x.1;
      is_first = record { below = h.fits.0; is = refl };
      is_second = record {
        first = x.1;
        front = to_be_bytes w32 (length x.1) ++ x.1;
        back = [];
        is_first = record { size = h.fits.2; bytes = h.bytes; is = refl };
        is_second = record { passed = lt-ltb _ _ h.fits.1; is = refl; none = refl };
        joined = sym (append-nil (to_be_bytes w32 (length x.1) ++ x.1));
      };
      joined = h.is;
    })

alone_some : {A : Type 0} (o : Option (A × List ℕ)) (x : A) → alone o ≡ Some x → o ≡ Some (x, [])
alone_some None x is = absurd cc
alone_some {A} (Some (y, [])) x is = ap (λ (z : A). Some (z, [])) (some_is y x is)
  where
    some_is : (a b : A) → Some a ≡ Some b → a ≡ b
    some_is a b e = cc
alone_some (Some (y, b ∷ rest)) x is = absurd cc

-- what was read is so
record_read : (bytes : List ℕ) (n : ℕ) (body : List ℕ) → IsBytes bytes → alone (record_at bytes) ≡ Some (n, body)
    → IsAnswer (82 ∷ bytes) (Record n (drop 12 bytes))
record_read bytes n body fits is =
    let t = a_record.takes bytes (n, body) [] fits (alone_some (record_at bytes) (n, body) is) in
    let text : bytes ≡ to_be_bytes w64 n ++ (to_be_bytes w32 (length body) ++ body) = t.parts ∙ append-nil t.text ∙ t.is.is in
    let behind : drop 12 bytes ≡ body = ap (drop 12) text in
    subst (λ (l : List ℕ). IsAnswer (82 ∷ bytes) (Record n l)) (sym behind) (record { fits = t.is.fits; text = ap (λ (l : List ℕ). 82 ∷ l) text })

count_read : (bytes : List ℕ) (n : ℕ) → IsBytes bytes → alone (number_at w64 bytes) ≡ Some n → IsAnswer (66 ∷ bytes) (Summed n)
count_read bytes n fits is =
    let t = (a_number w64 (2 ^ 64) wide64).takes bytes n [] fits (alone_some (number_at w64 bytes) n is) in
    record { fits = t.is.below; text = ap (λ (l : List ℕ). 66 ∷ l) (t.parts ∙ append-nil t.text ∙ t.is.is) }

-- and what is so was read
record_again : (bytes : List ℕ) (n : ℕ) (body : List ℕ) → IsBytes bytes → IsAnswer (82 ∷ bytes) (Record n body) → alone (record_at bytes) ≡ Some (n, body)
record_again bytes n body fits a =
    let text : bytes ≡ to_be_bytes w64 n ++ (to_be_bytes w32 (length body) ++ body) =
    tail_of 82 82 bytes (to_be_bytes w64 n ++ (to_be_bytes w32 (length body) ++ body)) a.text in
    let behind : drop 12 bytes ≡ body = ap (drop 12) text in
    let all : AreBytes body = are_bytes body (subst IsBytes behind (IsBytes-drop 12 bytes fits)) in
    ap alone (ap record_at (sym (append-nil bytes)) ∙ a_record.again (n, body) bytes [] (record { fits = a.fits; bytes = all; is = text }))

count_again : (bytes : List ℕ) (n : ℕ) → IsAnswer (66 ∷ bytes) (Summed n) → alone (number_at w64 bytes) ≡ Some n
count_again bytes n a =
    let text : bytes ≡ to_be_bytes w64 n = tail_of 66 66 bytes (to_be_bytes w64 n) a.text in
    ap alone (ap (number_at w64) (sym (append-nil bytes)) ∙ (a_number w64 (2 ^ 64) wide64).again n bytes [] (record { below = a.fits; is = text }))

-- All.

-- what was read of bytes, or that they are no answer
abbrev pub IsReadOf : List ℕ → Option Said → Type 0
IsReadOf message said = MatchOption said (IsNoAnswer message) (λ s. IsAnswer message (said_in s message))

none_some : {A : Type 0} (x : A) → None ≡ Some x → ⊥
none_some x is = cc

-- the first byte is that of no other answer
other_record : (b : ℕ) (bytes : List ℕ) (n : ℕ) (body : List ℕ) → IsAnswer (b ∷ bytes) (Record n body) → b ≡ 82
other_record b bytes n body a = heads b 82 bytes (to_be_bytes w64 n ++ (to_be_bytes w32 (length body) ++ body)) a.text

other_end : (b : ℕ) (bytes : List ℕ) → IsAnswer (b ∷ bytes) End → b ≡ 69
other_end b bytes a = heads b 69 bytes [] a.text

other_count : (b : ℕ) (bytes : List ℕ) (n : ℕ) → IsAnswer (b ∷ bytes) (Summed n) → b ≡ 66
other_count b bytes n a = heads b 66 bytes (to_be_bytes w64 n) a.text

of_record : (b : ℕ) (bytes : List ℕ) (o : Option (ℕ × List ℕ)) → b ≡ 82 → IsBytes bytes → alone (record_at bytes) ≡ o
    → IsReadOf (b ∷ bytes) (option_map said.Record (option_map (λ r. r.0) o))
of_record b bytes None is fits read = none
  where
    none : IsNoAnswer (b ∷ bytes)
    none (Record n body) a =
        none_some (n, body) (sym read ∙ record_again bytes n body fits (subst (λ (x : ℕ). IsAnswer (x ∷ bytes) (Record n body)) is a))
    none End a = absurd (omega (arith, is, other_end b bytes a))
    none (Summed n) a = absurd (omega (arith, is, other_count b bytes n a))
of_record b bytes (Some x) is fits read =
    subst (λ (y : ℕ). IsAnswer (y ∷ bytes) (Record x.0 (drop 12 bytes))) (sym is) (record_read bytes x.0 x.1 fits read)

of_end : (b : ℕ) (bytes : List ℕ) → b ≡ 69 → IsReadOf (b ∷ bytes) (end_in bytes)
of_end b [] is = record { fits = tt; text = ap (λ (x : ℕ). x ∷ []) is }
of_end b (c ∷ bytes) is = none
  where
    none : IsNoAnswer (b ∷ c ∷ bytes)
    none (Record n body) a = absurd (omega (arith, is, other_record b (c ∷ bytes) n body a))
    none End a = absurd (omega (arith, ap length a.text))
    none (Summed n) a = absurd (omega (arith, is, other_count b (c ∷ bytes) n a))

of_count : (b : ℕ) (bytes : List ℕ) (o : Option ℕ) → b ≡ 66 → IsBytes bytes → alone (number_at w64 bytes) ≡ o
    → IsReadOf (b ∷ bytes) (option_map said.Summed o)
of_count b bytes None is fits read = none
  where
    none : IsNoAnswer (b ∷ bytes)
    none (Record n body) a = absurd (omega (arith, is, other_record b bytes n body a))
    none End a = absurd (omega (arith, is, other_end b bytes a))
    none (Summed n) a = none_some n (sym read ∙ count_again bytes n (subst (λ (x : ℕ). IsAnswer (x ∷ bytes) (Summed n)) is a))
of_count b bytes (Some n) is fits read =
    subst (λ (y : ℕ). IsAnswer (y ∷ bytes) (Summed n)) (sym is) (count_read bytes n fits read)

of_none : (b : ℕ) (bytes : List ℕ) → eqb b 82 ≡ false → eqb b 69 ≡ false → eqb b 66 ≡ false → IsNoAnswer (b ∷ bytes)
of_none b bytes no_record no_end no_count (Record n body) a = eqb-false b 82 no_record (other_record b bytes n body a)
of_none b bytes no_record no_end no_count End a = eqb-false b 69 no_end (other_end b bytes a)
of_none b bytes no_record no_end no_count (Summed n) a = eqb-false b 66 no_count (other_count b bytes n a)

by_first : (b : ℕ) (bytes : List ℕ) (u v w : Bool) → IsBytes bytes → eqb b 82 ≡ u → eqb b 69 ≡ v → eqb b 66 ≡ w
    → IsReadOf (b ∷ bytes)
    (if u then option_map said.Record (record_in bytes) else (if v then end_in bytes else (if w then option_map said.Summed (count_in bytes) else None)))
by_first b bytes true v w fits first second third = of_record b bytes (alone (record_at bytes)) (eqb-true b 82 first) fits refl
by_first b bytes false true w fits first second third = of_end b bytes (eqb-true b 69 second)
by_first b bytes false false true fits first second third = of_count b bytes (alone (number_at w64 bytes)) (eqb-true b 66 third) fits refl
by_first b bytes false false false fits first second third = of_none b bytes first second third

pub is_read : (message : List ℕ) → IsBytes message → IsReadOf message (read_in message)
is_read [] fits = none
  where
    none : IsNoAnswer []
    none (Record n body) a = absurd (omega (arith, ap length a.text))
    none End a = absurd (omega (arith, ap length a.text))
    none (Summed n) a = absurd (omega (arith, ap length a.text))
is_read (b ∷ bytes) fits = by_first b bytes (eqb b 82) (eqb b 69) (eqb b 66) (IsBytes-drop 1 (b ∷ bytes) fits) refl refl refl
