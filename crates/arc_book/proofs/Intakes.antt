-- Bytes that are taken piece by piece from those ahead.
use Rattle.std.proofs.Common.{◌≡◌, ◌⊎◌, ◌≤◌, ◌<◌, ◌+◌, ◌-◌, ℕ, List, [], ◌∷◌, ◌++◌, length, take, drop, min, get_or, Option, Some, None, refl, sym, ap, ◌∙◌, inl, inr, arith, append_assoc, length-append, take-append-drop, length-take}
use Rattle.std.specs.Prelude.{IfSome}
use Rattle.std.specs.Option.{option_to_list}
use Rattle.std.specs.Int.{to_be_bytes, from_be_bytes, w32}
use Rattle.std.specs.Io.KnownBytes.{prepend_known}
use Rattle.std.proofs.lemmas.Bool.{cases_order}
use Rattle.std.proofs.lemmas.List.{take_min, take_at, drop-take, take-take, take_all, drop_all}
use Rattle.arc_io.proofs.KnownMore.{known_taken}
use Rattle.disk_journal.specs.Records.{MayStandAt, IsWhole, length_in, most_at}
use Rattle.arc_book.proofs.Tapes.{told, some_is, never}
use Rattle.arc_book.specs.Tapes.{IsBodyAhead, IsBrokenAhead}

-- the first bytes, and those behind as many as there were
pub split_front : (most : ℕ) (xs : List ℕ) → xs ≡ take most xs ++ drop (length (take most xs)) xs
split_front most xs =
    let n = length (take most xs) in
    sym (take-append-drop n xs) ∙ ap (λ l. l ++ drop n xs) (ap (λ k. take k xs) (length-take most xs) ∙ take_min most xs)

-- a piece more was taken
pub taken_more : (all left : Option (List ℕ)) (out unread piece rest : List ℕ) → all ≡ prepend_known out (prepend_known unread left) → unread ≡ piece ++ rest
    → all ≡ prepend_known (out ++ piece) (prepend_known rest left)
taken_more all left out unread piece rest is split =
    is ∙ ap (λ l. prepend_known out (prepend_known l left)) split ∙ ap (prepend_known out) (sym (known_taken left piece rest)) ∙ known_taken (prepend_known rest left) out piece

-- no more stands there
pub short_all : (all rest : Option (List ℕ)) (out : List ℕ) (count : ℕ) → all ≡ prepend_known out rest → IfSome rest (λ r. r ≡ []) → length out < count
    → IfSome all (λ bytes. length bytes < count)
short_all None rest out count is none less = tt
short_all (Some bytes) None out count is none less = absurd (never bytes is)
short_all (Some bytes) (Some r) out count is none less = omega (arith, less, ap length (some_is bytes (out ++ r) is), length-append out r, ap length none)

-- nothing stands between two places that are one
pub no_unread : (from to : ℕ) (xs : List ℕ) → to ≤ from → drop from (take to xs) ≡ []
no_unread from to xs le = drop_all from (take to xs) (omega (arith, le, length-take to xs))

-- the first of the bytes between two places
pub front_between : (most from to : ℕ) (xs : List ℕ) → from ≤ to → take (min most (to - from)) (drop from xs) ≡ take most (drop from (take to xs))
front_between most from to xs le =
    let m = to - from in
    let whole : drop from (take to xs) ≡ take m (drop from xs) = ap (λ k. drop from (take k xs)) (omega (arith, le)) ∙ drop-take from m xs in
    sym (ap (take most) whole ∙ again most m (drop from xs))
  where
    again : (a b : ℕ) (ys : List ℕ) → take a (take b ys) ≡ take (min a b) ys
    again a b ys = elim (cases_order a b) as (λ _. take a (take b ys) ≡ take (min a b) ys) [
      | inl same ↦ take-take a b ys (omega arith) ∙ ap (λ k. take k ys) (omega arith)
      | inr other ↦ elim other as (λ _. take a (take b ys) ≡ take (min a b) ys) [
        | inl less ↦ take-take a b ys (omega arith) ∙ ap (λ k. take k ys) (omega arith)
        | inr more ↦ take_all a (take b ys) (omega (arith, length-take b ys)) ∙ ap (λ k. take k ys) (omega arith)
      ]
    ]

pub broken_few : (place : ℕ) (before : Option (List ℕ)) → IfSome before (λ r. length r < 4) → IsBrokenAhead place before
broken_few place None short = tt
broken_few place (Some r) short = λ whole. omega (arith, short, whole.prefixed)

length_is : (prefix behind bytes : List ℕ) (n : ℕ) → bytes ≡ prefix ++ behind → length prefix ≡ 4 → n ≡ from_be_bytes w32 prefix → length_in bytes ≡ n
length_is prefix behind bytes n is four number = ap (from_be_bytes w32) (ap (take 4) is ∙ take_at prefix behind 4 four) ∙ sym number

fifth : (prefix behind : List ℕ) → length prefix ≡ 4 → get_or (prefix ++ behind) 4 0 ≡ get_or behind 0 0
fifth [] behind four = absurd (omega (arith, four))
fifth (a ∷ []) behind four = absurd (omega (arith, four))
fifth (a ∷ b ∷ []) behind four = absurd (omega (arith, four))
fifth (a ∷ b ∷ c ∷ []) behind four = absurd (omega (arith, four))
fifth (a ∷ b ∷ c ∷ d ∷ []) behind four = refl
fifth (a ∷ b ∷ c ∷ d ∷ e ∷ more) behind four = absurd (omega (arith, four))

-- the first byte ahead
first_ahead : (left : Option (List ℕ)) (unread behind : List ℕ) (d : ℕ) → 0 < length unread → prepend_known unread left ≡ Some behind
    → get_or behind 0 0 ≡ get_or (take 1 unread) 0 d
first_ahead None unread behind d some is = absurd (never behind (sym is))
first_ahead (Some l) [] behind d some is = absurd (omega (arith, some))
first_ahead (Some l) (u ∷ us) behind d some is = ap (λ (bytes : List ℕ). get_or bytes 0 0) (sym (some_is ((u ∷ us) ++ l) behind is))

-- a length that no body has there
pub broken_size : (place : ℕ) (before left : Option (List ℕ)) (unread prefix front : List ℕ) (n byte most d : ℕ)
    → before ≡ prepend_known prefix (prepend_known unread left) → length prefix ≡ 4 → n ≡ from_be_bytes w32 prefix → 0 < length unread
    → front ≡ take 1 unread → byte ≡ get_or front 0 d → most ≡ most_at place byte → (n ≡ 0) ⊎ (most < n) → IsBrokenAhead place before
broken_size place before left unread prefix front n byte most d is four number some front_is byte_is most_is out =
    told (λ bytes. IsWhole place bytes → ⊥) before (prepend_known unread left) prefix is
    (λ bytes behind some_bytes some_behind same whole.
    let there : get_or bytes 4 0 ≡ byte =
    ap (λ (l : List ℕ). get_or l 4 0) same ∙ fifth prefix behind four ∙ first_ahead left unread behind d some some_behind
    ∙ ap (λ (l : List ℕ). get_or l 0 d) (sym front_is) ∙ sym byte_is in
    let limit : most_at place (get_or bytes 4 0) ≡ most = ap (most_at place) there ∙ sym most_is in
    out_of_range (length_in bytes) n (most_at place (get_or bytes 4 0)) most (length_is prefix behind bytes n same four number) limit whole.some whole.no_more out)
  where
    out_of_range : (m n limit most : ℕ) → m ≡ n → limit ≡ most → 1 ≤ m → m ≤ limit → (n ≡ 0) ⊎ (most < n) → ⊥
    out_of_range m n limit most same bound some less (inl zero) = omega (arith, same, some, zero)
    out_of_range m n limit most same bound some less (inr much) = omega (arith, same, bound, less, much)

some_as : (rest : Option (List ℕ)) (behind : List ℕ) (n : ℕ) → rest ≡ Some behind → IfSome rest (λ r. length r < n) → length behind < n
some_as None behind n is short = absurd (never behind (sym is))
some_as (Some r) behind n is short = omega (arith, short, ap length (some_is r behind is))

none_as : (rest : Option (List ℕ)) (behind : List ℕ) → rest ≡ Some behind → IfSome rest (λ r. r ≡ []) → length behind ≡ 0
none_as None behind is none = absurd (never behind (sym is))
none_as (Some r) behind is none = ap length (sym (some_is r behind is) ∙ none)

-- nothing stands behind the length
pub broken_none : (place : ℕ) (before rest : Option (List ℕ)) (prefix : List ℕ) → before ≡ prepend_known prefix rest → length prefix ≡ 4
    → IfSome rest (λ r. r ≡ []) → IsBrokenAhead place before
broken_none place before rest prefix is four none =
    told (λ bytes. IsWhole place bytes → ⊥) before rest prefix is
    (λ bytes behind some some' same whole.
    omega (arith, whole.room, ap length same, length-append prefix behind, four, none_as rest behind some' none))

-- a body or its next gate lacks
pub broken_rest : (place : ℕ) (before rest : Option (List ℕ)) (prefix : List ℕ) (n : ℕ) → before ≡ prepend_known prefix rest → length prefix ≡ 4 → n ≡ from_be_bytes w32 prefix
    → IfSome rest (λ r. length r < n + 1) → IsBrokenAhead place before
broken_rest place before rest prefix n is four number short =
    told (λ bytes. IsWhole place bytes → ⊥) before rest prefix is
    (λ bytes behind some some' same whole.
    omega (arith, whole.room, length_is prefix behind bytes n same four number, ap length same, length-append prefix behind, four, some_as rest behind (n + 1) some' short))

-- a length, a body and a gate were taken
pub body_ahead : (place : ℕ) (before middle rest : Option (List ℕ)) (prefix body : List ℕ) (gate n : ℕ) → before ≡ prepend_known prefix middle → middle ≡ prepend_known (body ++ gate ∷ []) rest
    → to_be_bytes w32 n ≡ prefix → n ≡ length body → MayStandAt place body → IsBodyAhead place before body gate rest
body_ahead place before middle rest prefix body gate n first next back long size = record {
  size = size;
  is = first ∙ ap (prepend_known prefix) next ∙ known_taken rest prefix (body ++ gate ∷ [])
      ∙ ap (λ p. prepend_known (p ++ (body ++ gate ∷ [])) rest) (sym back ∙ ap (to_be_bytes w32) long)
      ∙ ap (λ l. prepend_known l rest) (sym (append_assoc (to_be_bytes w32 (length body)) body (gate ∷ [])));
}

first_of : (body tail : List ℕ) (d : ℕ) → 0 < length body → get_or (body ++ tail) 0 d ≡ get_or body 0 0
first_of [] tail d some = absurd (omega (arith, some))
first_of (b ∷ bs) tail d some = refl

-- the last byte taken is the next gate
pub popped_ahead : (place : ℕ) (before middle rest : Option (List ℕ)) (prefix all body : List ℕ) (r : Option ℕ) (n most byte d : ℕ) (P : Type 0)
    → before ≡ prepend_known prefix middle → middle ≡ prepend_known all rest → to_be_bytes w32 n ≡ prefix → length all ≡ n + 1 → 1 ≤ n → n ≤ most
    → most ≡ most_at place byte → byte ≡ get_or all 0 d → all ≡ body ++ option_to_list r → P → IfSome r (λ gate. IsBodyAhead place before body gate rest × P)
popped_ahead place before middle rest prefix all body None n most byte d P first second back size some fits most_is byte_is split p = tt
popped_ahead place before middle rest prefix all body (Some gate) n most byte d P first second back size some fits most_is byte_is split p =
    let long : n ≡ length body = omega (arith, size, ap length split, length-append body (gate ∷ [])) in
    let there : byte ≡ get_or body 0 0 = byte_is ∙ ap (λ (l : List ℕ). get_or l 0 d) split ∙ first_of body (gate ∷ []) d (omega (arith, long, some)) in
    let limit : most ≡ most_at place (get_or body 0 0) = most_is ∙ ap (most_at place) there in (
      body_ahead place before middle rest prefix body gate n first (second ∙ ap (λ (l : List ℕ). prepend_known l rest) split) back long
          (omega (arith, long, some), omega (arith, long, fits, limit)),
      p,
    )

-- a body that was taken may not stand there
pub broken_taken : (place : ℕ) (before rest : Option (List ℕ)) (prefix all : List ℕ) (n most byte d : ℕ)
    → before ≡ prepend_known prefix (prepend_known all rest) → length prefix ≡ 4 → n ≡ from_be_bytes w32 prefix → 0 < length all
    → byte ≡ get_or all 0 d → most ≡ most_at place byte → most < n → IsBrokenAhead place before
broken_taken place before rest prefix all n most byte d is four number some byte_is most_is out =
    broken_size place before rest all prefix (take 1 all) n byte most d is four number some refl (byte_is ∙ one all d some) most_is (inr out)
  where
    one : (xs : List ℕ) (d : ℕ) → 0 < length xs → get_or xs 0 d ≡ get_or (take 1 xs) 0 d
    one [] d some = absurd (omega (arith, some))
    one (x ∷ xs) d some = refl
