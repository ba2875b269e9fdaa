-- Readers: what is read from the front is what stands there, and what stands there is read again.
use Rattle.std.proofs.Common.{◌≡◌, ℕ, suc, ◌+◌, ◌^◌, ◌<◌, ◌≤◌, Bool, true, false, cond, ltb, List, [], ◌∷◌, ◌++◌, length, get_or, take, drop, Option, Some, None, refl, sym, ap, subst, ◌∙◌, append_assoc, arith, inl, inr}
use Rattle.std.specs.Int.{Width, w16, w32, w64, byte_len, from_be_bytes, to_be_bytes}
use Rattle.std.proofs.lemmas.Bool.{cases_lt, ltb-false, le-ltb}
use Rattle.std.proofs.lemmas.List.{take_at, drop_at, take-append-drop, length-append, length-take, get_or-drop, get_or-take, get_or_past}
use Rattle.std.proofs.lemmas.Nat.{be_bytes_2, be_bytes_4, be_bytes_8, from_be_bytes-to_be_bytes_2, from_be_bytes-to_be_bytes_4, from_be_bytes-to_be_bytes_8}
use Rattle.event_codec.specs.Reading.{◌>>=◌, given, byte_at, piece_at, number_at}

abbrev pub IsBytes : List ℕ → Type 0
IsBytes bytes = (i : ℕ) → get_or bytes i 0 < 256

IsBytes-drop : (n : ℕ) (bytes : List ℕ) → IsBytes bytes → IsBytes (drop n bytes)
IsBytes-drop n bytes h i = rw get_or-drop (h (n + i))

IsBytes-take : (n : ℕ) (bytes : List ℕ) → IsBytes bytes → IsBytes (take n bytes)
IsBytes-take n bytes h i =
    elim (cases_lt i n) [
      | inl lt ↦ rw (get_or-take n bytes i 0 lt) (h i)
      | inr le ↦ rw (get_or_past (take n bytes) i 0 (omega (arith, length-take n bytes))) (omega arith)
    ]

-- a text of this kind was taken from the front
pub record Takes (Is : List ℕ → Type 0) (bytes rest : List ℕ) : Type 0 where
  pub text : List ℕ
  pub is : Is text
  pub parts : bytes ≡ text ++ rest
  pub rest_fits : IsBytes rest

-- the reading gives a value exactly where one of its texts stands in front
pub record IsReader {A : Type 0} (read : List ℕ → Option (A × List ℕ)) (Spells : A → List ℕ → Type 0) : Type 0 where
  pub takes : (bytes : List ℕ) (x : A) (rest : List ℕ) → IsBytes bytes → read bytes ≡ Some (x, rest) → Takes (Spells x) bytes rest
  pub again : (x : A) (text rest : List ℕ) → Spells x text → read (text ++ rest) ≡ Some (x, rest)

abbrev some : {A : Type 0} → A → Option A
some x = Some x

some_is : {A : Type 0} (x y : A) → some x ≡ some y → x ≡ y
some_is x y e = cc

bind_some : {A B : Type 0} (o : Option A) (f : A → Option B) (y : B) → (o >>= f) ≡ Some y → (x : A) × (o ≡ Some x) × (f x ≡ Some y)
bind_some None f y e = absurd cc
bind_some (Some x) f y e = (x, refl, e)

-- other words for the same texts
pub reworded : {A : Type 0} {read : List ℕ → Option (A × List ℕ)} {S : A → List ℕ → Type 0} (T : A → List ℕ → Type 0) → IsReader read S → ((x : A) (t : List ℕ) → S x t → T x t) → ((x : A) (t : List ℕ) → T x t → S x t) → IsReader read T
reworded T r there back = record {
  takes = λ bytes x rest fits e. let t = r.takes bytes x rest fits e in record { text = t.text; is = there x t.text t.is; parts = t.parts; rest_fits = t.rest_fits };
  again = λ x text rest is. r.again x text rest (back x text is);
}

-- one reading and then another
pub record Then {A B : Type 0} (S : A → List ℕ → Type 0) (T : A → B → List ℕ → Type 0) (b : B) (text : List ℕ) : Type 0 where
  pub first : A
  pub front : List ℕ
  pub back : List ℕ
  pub is_first : S first front
  pub is_second : T first b back
  pub joined : text ≡ front ++ back

pub seq : {A B : Type 0} {f : List ℕ → Option (A × List ℕ)} {k : A → List ℕ → Option (B × List ℕ)} {S : A → List ℕ → Type 0} {T : A → B → List ℕ → Type 0}
    → IsReader f S → ((x : A) → IsReader (k x) (T x)) → IsReader (λ bytes. f bytes >>= λ p. k p.0 p.1) (Then S T)
seq {A = A} {f = f} {k = k} first second = record {
  takes = λ bytes b rest fits e.
      let p = bind_some (f bytes) (λ p. k p.0 p.1) (b, rest) e in
      let t = first.takes bytes p.0.0 p.0.1 fits p.1 in
      let u = (second p.0.0).takes p.0.1 b rest t.rest_fits p.2 in
      record {
        text = t.text ++ u.text;
        is = record { first = p.0.0; front = t.text; back = u.text; is_first = t.is; is_second = u.is; joined = refl };
        parts = t.parts ∙ ap (λ (x : List ℕ). t.text ++ x) u.parts ∙ sym (append_assoc t.text u.text rest);
        rest_fits = u.rest_fits;
      };
  again = λ b text rest h.
      let regrouped : text ++ rest ≡ h.front ++ (h.back ++ rest) = ap (λ (x : List ℕ). x ++ rest) h.joined ∙ append_assoc h.front h.back rest in
      let one : f (text ++ rest) ≡ Some (h.first, h.back ++ rest) = ap f regrouped ∙ first.again h.first h.front (h.back ++ rest) h.is_first in
      ap (λ (o : Option (A × List ℕ)). o >>= λ p. k p.0 p.1) one ∙ (second h.first).again b h.back rest h.is_second;
}

-- a value, and nothing read
pub record Given {A : Type 0} (o : Option A) (x : A) (text : List ℕ) : Type 0 where
  pub is : o ≡ Some x
  pub none : text ≡ []

pub giving : {A : Type 0} (o : Option A) → IsReader (given o) (Given o)
giving None = record { takes = λ bytes x rest fits e. absurd cc; again = λ x text rest h. absurd (cc h.is) }
giving {A = A} (Some y) = record {
  takes = λ bytes x rest fits e.
      let same : (y, bytes) ≡ (x, rest) = some_is (y, bytes) (x, rest) e in
      record { text = []; is = record { is = ap (λ (p : A × List ℕ). Some p.0) same; none = refl }; parts = ap (λ (p : A × List ℕ). p.1) same; rest_fits = subst IsBytes (ap (λ (p : A × List ℕ). p.1) same) fits };
  again = λ x text rest h.
      let same : y ≡ x = some_is y x h.is in
      rw (same, h.none) refl;
}

-- a value where a test is passed, and nothing read
pub record Passes {A : Type 0} (test : Bool) (y x : A) (text : List ℕ) : Type 0 where
  pub passed : test ≡ true
  pub is : y ≡ x
  pub none : text ≡ []

pub passing : {A : Type 0} (test : Bool) (y : A) → IsReader (λ rest. cond test (Some (y, rest)) None) (Passes test y)
passing {A = A} true y = record {
  takes = λ bytes x rest fits e.
      let same : (y, bytes) ≡ (x, rest) = some_is (y, bytes) (x, rest) e in
      record { text = []; is = record { passed = refl; is = ap (λ (p : A × List ℕ). p.0) same; none = refl }; parts = ap (λ (p : A × List ℕ). p.1) same; rest_fits = subst IsBytes (ap (λ (p : A × List ℕ). p.1) same) fits };
  again = λ x text rest h. rw (h.is, h.none) refl;
}
passing false y = record { takes = λ bytes x rest fits e. absurd cc; again = λ x text rest h. absurd (cc h.passed) }

-- one reading or another, as a test says
abbrev pub Either : {A : Type 0} → Bool → (A → List ℕ → Type 0) → (A → List ℕ → Type 0) → A → List ℕ → Type 0
Either true S T x text = S x text
Either false S T x text = T x text

pub either : {A : Type 0} (test : Bool) (f g : List ℕ → Option (A × List ℕ)) (S T : A → List ℕ → Type 0) → IsReader f S → IsReader g T → IsReader (λ bytes. cond test (f bytes) (g bytes)) (Either test S T)
either true f g S T first second = record { takes = first.takes; again = first.again }
either false f g S T first second = record { takes = second.takes; again = second.again }

abbrev pub Nothing : {A : Type 0} → A → List ℕ → Type 0
Nothing x text = ⊥

pub nothing : {A : Type 0} → IsReader {A = A} (λ bytes. None) Nothing
nothing = record { takes = λ bytes x rest fits e. absurd cc; again = λ x text rest h. absurd h }

-- a byte
pub a_byte : IsReader byte_at (λ b text. text ≡ b ∷ [])
a_byte = record { takes = taken; again = λ b text rest h. rw h refl }
  where
    taken : (bytes : List ℕ) (b : ℕ) (rest : List ℕ) → IsBytes bytes → byte_at bytes ≡ Some (b, rest) → Takes (λ text. text ≡ b ∷ []) bytes rest
    taken [] b rest fits e = absurd cc
    taken (c ∷ bytes) b rest fits e =
        let same : (c, bytes) ≡ (b, rest) = some_is (c, bytes) (b, rest) e in
        let front : c ≡ b = ap (λ (p : ℕ × List ℕ). p.0) same in
        let back : bytes ≡ rest = ap (λ (p : ℕ × List ℕ). p.1) same in
        record { text = b ∷ []; is = refl; parts = rw (front, back) refl; rest_fits = rw (← back) (λ i. fits (suc i)) }

guard_none : {A : Type 0} (b : Bool) (x y : A) → cond b None (Some x) ≡ Some y → (b ≡ false) × (x ≡ y)
guard_none true x y e = absurd cc
guard_none false x y e = (refl, cc)

-- so many bytes
pub record IsPiece (n : ℕ) (piece text : List ℕ) : Type 0 where
  pub long : length piece ≡ n
  pub is : text ≡ piece

pub a_piece : (n : ℕ) → IsReader (piece_at n) (IsPiece n)
a_piece n = record {
  takes = λ bytes x rest fits e.
      let g = guard_none (ltb (length bytes) n) (take n bytes, drop n bytes) (x, rest) e in
      let long : n ≤ length bytes = ltb-false _ _ g.0 in
      let front : take n bytes ≡ x = ap (λ (p : List ℕ × List ℕ). p.0) g.1 in
      let back : drop n bytes ≡ rest = ap (λ (p : List ℕ × List ℕ). p.1) g.1 in
      record {
        text = x;
        is = record { long = rw (← front) (omega (arith, length-take n bytes)); is = refl };
        parts = rw (← front, ← back) (sym (take-append-drop n bytes));
        rest_fits = rw (← back) (IsBytes-drop n bytes fits);
      };
  again = λ x text rest h.
      let long : ltb (length (x ++ rest)) n ≡ false = le-ltb _ _ (omega (arith, length-append x rest, h.long)) in
      rw (h.is, long, take_at x rest n h.long, drop_at x rest n h.long) refl;
}

IsBytes-front : (x rest : List ℕ) → IsBytes (x ++ rest) → IsBytes x
IsBytes-front x rest h = rw (← take_at x rest (length x) refl) (IsBytes-take (length x) (x ++ rest) h)

-- and each of them is a byte
pub record IsFullPiece (n : ℕ) (piece text : List ℕ) : Type 0 where
  pub long : length piece ≡ n
  pub is : text ≡ piece
  pub bytes : IsBytes piece

pub a_full_piece : (n : ℕ) → IsReader (piece_at n) (IsFullPiece n)
a_full_piece n = record {
  takes = λ bytes x rest fits e.
      let t = (a_piece n).takes bytes x rest fits e in
      let parts : bytes ≡ x ++ rest = t.parts ∙ ap (λ (y : List ℕ). y ++ rest) t.is.is in
      record { text = x; is = record { long = t.is.long; is = refl; bytes = IsBytes-front x rest (subst IsBytes parts fits) }; parts = parts; rest_fits = t.rest_fits };
  again = λ x text rest h. (a_piece n).again x text rest (record { long = h.long; is = h.is });
}

-- numbers
pub record IsWide (w : Width) (limit : ℕ) : Type 0 where
  pub len : (n : ℕ) → length (to_be_bytes w n) ≡ byte_len w
  pub back : (bytes : List ℕ) → length bytes ≡ byte_len w → IsBytes bytes → to_be_bytes w (from_be_bytes w bytes) ≡ bytes
  pub again : (n : ℕ) → n < limit → from_be_bytes w (to_be_bytes w n) ≡ n
  pub below : (bytes : List ℕ) → IsBytes bytes → from_be_bytes w bytes < limit

pub wide16 : IsWide w16 (2 ^ 16)
wide16 = record {
  len = λ n. refl;
  back = λ bytes len fits. be_bytes_2 bytes _ len fits refl;
  again = λ n lt. from_be_bytes-to_be_bytes_2 n lt;
  below = λ bytes fits. omega (arith, fits 0, fits 1);
}

pub wide32 : IsWide w32 (2 ^ 32)
wide32 = record {
  len = λ n. refl;
  back = λ bytes len fits. be_bytes_4 bytes _ len fits refl;
  again = λ n lt. from_be_bytes-to_be_bytes_4 n lt;
  below = λ bytes fits. omega (arith, fits 0, fits 1, fits 2, fits 3);
}

pub wide64 : IsWide w64 (2 ^ 64)
wide64 = record {
  len = λ n. refl;
  back = λ bytes len fits. be_bytes_8 bytes _ len fits refl;
  again = λ n lt. from_be_bytes-to_be_bytes_8 n lt;
  below = λ bytes fits. omega (arith, fits 0, fits 1, fits 2, fits 3, fits 4, fits 5, fits 6, fits 7);
}

pub record IsNumeral (w : Width) (limit n : ℕ) (text : List ℕ) : Type 0 where
  pub below : n < limit
  pub is : text ≡ to_be_bytes w n

pub a_number : (w : Width) (limit : ℕ) → IsWide w limit → IsReader (number_at w) (λ n text. IsNumeral w limit n text)
a_number w limit wide = record {
  takes = λ bytes n rest fits e.
      let g = guard_none (ltb (length bytes) (byte_len w)) (from_be_bytes w (take (byte_len w) bytes), drop (byte_len w) bytes) (n, rest) e in
      let long : byte_len w ≤ length bytes = ltb-false _ _ g.0 in
      let n-is : from_be_bytes w (take (byte_len w) bytes) ≡ n = ap (λ (p : ℕ × List ℕ). p.0) g.1 in
      let rest-is : drop (byte_len w) bytes ≡ rest = ap (λ (p : ℕ × List ℕ). p.1) g.1 in
      let front : to_be_bytes w n ≡ take (byte_len w) bytes = rw (← n-is) (wide.back (take (byte_len w) bytes) (omega (arith, length-take (byte_len w) bytes)) (IsBytes-take (byte_len w) bytes fits)) in
      record {
        text = to_be_bytes w n;
        is = record { below = rw (← n-is) (wide.below (take (byte_len w) bytes) (IsBytes-take (byte_len w) bytes fits)); is = refl };
        parts = rw (front, ← rest-is) (sym (take-append-drop (byte_len w) bytes));
        rest_fits = rw (← rest-is) (IsBytes-drop (byte_len w) bytes fits);
      };
  again = λ n text rest h.
      let len = wide.len n in
      let long : ltb (length (to_be_bytes w n ++ rest)) (byte_len w) ≡ false = le-ltb _ _ (omega (arith, length-append (to_be_bytes w n) rest, len)) in
      ap (λ (t : List ℕ). number_at w (t ++ rest)) h.is ∙ rw (long, take_at (to_be_bytes w n) rest (byte_len w) len, drop_at (to_be_bytes w n) rest (byte_len w) len, wide.again n h.below) refl;
}
