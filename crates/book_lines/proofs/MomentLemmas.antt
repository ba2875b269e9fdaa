-- Which words are read as moments.
use Rattle.std.proofs.Common.{◌≡◌, ℕ, ◌+◌, ◌*◌, ◌/◌, ◌%◌, List, [], ◌∷◌, ◌++◌, Bool, true, false, ◌&&◌, length, get_or, take, drop, Some, None, if◌then◌else◌, inl, inr, refl, ap, arith}
use Rattle.std.specs.Prelude.{◌==◌, codes, slice_index}
use Rattle.std.proofs.lemmas.Bool.{eqb-true}
use Rattle.arc_data.specs.Moments.{IsMoment}
use Rattle.civil_time.specs.Calendar.{date_of}
use Rattle.civil_time.specs.Stamp.{IsStampOf, stamp, stamp_time}
use Rattle.civil_time.proofs.StampLemmas.{stamp_time-sound}
use Rattle.book_lines.specs.Asked.{end_of_day, moment_at, moment_named}
use Rattle.book_lines.specs.Dates.{date_text, time_text}
use Rattle.book_lines.specs.Laws.{IsMomentWord}

-- what a date and a time are that are read as a moment
record AreRead (date time : List ℕ) (t : ℕ) : Type 0 where
  moment : IsMoment t
  date_is : date ≡ date_text (date_of (t / 86_400))
  time_is : time ≡ time_text t

stamped : (b : Bool) (text : List ℕ) (t : ℕ) → (if b then stamp_time text else None) ≡ Some t → (b ≡ true) × IsStampOf t text
stamped true text t e = (refl, stamp_time-sound t text e)
stamped false text t e = absurd cc

parts_read : (d0 d1 d2 d3 d4 d5 d6 d7 d8 d9 t0 t1 t2 t3 t4 t5 t6 t7 t : ℕ)
    → moment_at (d0 ∷ d1 ∷ d2 ∷ d3 ∷ d4 ∷ d5 ∷ d6 ∷ d7 ∷ d8 ∷ d9 ∷ []) (t0 ∷ t1 ∷ t2 ∷ t3 ∷ t4 ∷ t5 ∷ t6 ∷ t7 ∷ []) ≡ Some t
    → AreRead (d0 ∷ d1 ∷ d2 ∷ d3 ∷ d4 ∷ d5 ∷ d6 ∷ d7 ∷ d8 ∷ d9 ∷ []) (t0 ∷ t1 ∷ t2 ∷ t3 ∷ t4 ∷ t5 ∷ t6 ∷ t7 ∷ []) t
unfolding moment_at stamp
parts_read d0 d1 d2 d3 d4 d5 d6 d7 d8 d9 t0 t1 t2 t3 t4 t5 t6 t7 t e =
    let text : List ℕ = 95 ∷ t0 ∷ t1 ∷ t2 ∷ t3 ∷ t4 ∷ t5 ∷ t6 ∷ t7 ∷ 44 ∷ d5 ∷ d6 ∷ d7 ∷ d8 ∷ d9 ∷ 45 ∷ d0 ∷ d1 ∷ d2 ∷ d3 ∷ [] in
    let was = stamped (d4 == 45) text t e in
    let dash : d4 ≡ 45 = eqb-true d4 45 was.0 in
    let byte : (k : ℕ) → get_or text k 0 ≡ get_or (stamp t) k 0 = λ k. ap (λ (l : List ℕ). get_or l k 0) was.1.text in
    record {
      moment = was.1.moment;
      date_is = λ i. byte 16 i ∷ byte 17 i ∷ byte 18 i ∷ byte 19 i ∷ dash i ∷ byte 10 i ∷ byte 11 i ∷ byte 12 i ∷ byte 13 i ∷ byte 14 i ∷ [];
      time_is = λ i. byte 1 i ∷ byte 2 i ∷ byte 3 i ∷ byte 4 i ∷ byte 5 i ∷ byte 6 i ∷ byte 7 i ∷ byte 8 i ∷ [];
    }

-- The ends of a day.

first_second : (t : ℕ) → codes "00:00:00" ≡ time_text t → t ≡ t / 86_400 * 86_400
first_second t e =
    let a : 48 ≡ 48 + t / 3600 % 24 / 10 = ap (λ (l : List ℕ). get_or l 0 0) e in
    let b : 48 ≡ 48 + t / 3600 % 24 % 10 = ap (λ (l : List ℕ). get_or l 1 0) e in
    let c : 48 ≡ 48 + t / 60 % 60 / 10 = ap (λ (l : List ℕ). get_or l 3 0) e in
    let d : 48 ≡ 48 + t / 60 % 60 % 10 = ap (λ (l : List ℕ). get_or l 4 0) e in
    let f : 48 ≡ 48 + t % 60 / 10 = ap (λ (l : List ℕ). get_or l 6 0) e in
    let g : 48 ≡ 48 + t % 60 % 10 = ap (λ (l : List ℕ). get_or l 7 0) e in
    omega (arith, a, b, c, d, f, g)

last_second : (t : ℕ) → codes "23:59:59" ≡ time_text t → t ≡ t / 86_400 * 86_400 + 86_399
last_second t e =
    let a : 50 ≡ 48 + t / 3600 % 24 / 10 = ap (λ (l : List ℕ). get_or l 0 0) e in
    let b : 51 ≡ 48 + t / 3600 % 24 % 10 = ap (λ (l : List ℕ). get_or l 1 0) e in
    let c : 53 ≡ 48 + t / 60 % 60 / 10 = ap (λ (l : List ℕ). get_or l 3 0) e in
    let d : 57 ≡ 48 + t / 60 % 60 % 10 = ap (λ (l : List ℕ). get_or l 4 0) e in
    let f : 53 ≡ 48 + t % 60 / 10 = ap (λ (l : List ℕ). get_or l 6 0) e in
    let g : 57 ≡ 48 + t % 60 % 10 = ap (λ (l : List ℕ). get_or l 7 0) e in
    omega (arith, a, b, c, d, f, g)

of_day : (last : Bool) (word : List ℕ) (t : ℕ) → AreRead word (end_of_day last) t → IsMoment t × IsMomentWord last word t
of_day false word t r = (r.moment, inr (t / 86_400, r.date_is, first_second t r.time_is))
of_day true word t r = (r.moment, inr (t / 86_400, r.date_is, last_second t r.time_is))

-- Words of ten bytes, and of nineteen.

date_alone : (last : Bool) (word : List ℕ) (t : ℕ) → length word ≡ 10 → moment_at word (end_of_day last) ≡ Some t → AreRead word (end_of_day last) t
date_alone false (d0 ∷ d1 ∷ d2 ∷ d3 ∷ d4 ∷ d5 ∷ d6 ∷ d7 ∷ d8 ∷ d9 ∷ []) t h e = parts_read d0 d1 d2 d3 d4 d5 d6 d7 d8 d9 48 48 58 48 48 58 48 48 t e
date_alone true (d0 ∷ d1 ∷ d2 ∷ d3 ∷ d4 ∷ d5 ∷ d6 ∷ d7 ∷ d8 ∷ d9 ∷ []) t h e = parts_read d0 d1 d2 d3 d4 d5 d6 d7 d8 d9 50 51 58 53 57 58 53 57 t e
date_alone last word t h e = absurd (omega (arith, h))

date_and_time : (last : Bool) (word : List ℕ) (t : ℕ) → length word ≡ 19 → slice_index word 10 ≡ 84 → moment_at (take 10 word) (drop 11 word) ≡ Some t
    → IsMoment t × IsMomentWord last word t
date_and_time last (d0 ∷ d1 ∷ d2 ∷ d3 ∷ d4 ∷ d5 ∷ d6 ∷ d7 ∷ d8 ∷ d9 ∷ s ∷ t0 ∷ t1 ∷ t2 ∷ t3 ∷ t4 ∷ t5 ∷ t6 ∷ t7 ∷ []) t h sep e =
    let r : AreRead (d0 ∷ d1 ∷ d2 ∷ d3 ∷ d4 ∷ d5 ∷ d6 ∷ d7 ∷ d8 ∷ d9 ∷ []) (t0 ∷ t1 ∷ t2 ∷ t3 ∷ t4 ∷ t5 ∷ t6 ∷ t7 ∷ []) t =
    parts_read d0 d1 d2 d3 d4 d5 d6 d7 d8 d9 t0 t1 t2 t3 t4 t5 t6 t7 t e in
    (r.moment, inl (λ i. (r.date_is i ++ sep i ∷ []) ++ r.time_is i))
date_and_time last word t h sep e = absurd (omega (arith, h))

both : (a b : Bool) → (a && b) ≡ true → (a ≡ true) × (b ≡ true)
both true b is = (refl, is)
both false b is = absurd cc

by_long : (last : Bool) (word : List ℕ) (t : ℕ) (b : Bool) → ((length word == 19) && (slice_index word 10 == 84)) ≡ b
    → (if b then moment_at (take 10 word) (drop 11 word) else None) ≡ Some t → IsMoment t × IsMomentWord last word t
by_long last word t true is e =
    let two = both (length word == 19) (slice_index word 10 == 84) is in
    date_and_time last word t (eqb-true (length word) 19 two.0) (eqb-true (slice_index word 10) 84 two.1) e
by_long last word t false is e = absurd cc

by_short : (last : Bool) (word : List ℕ) (t : ℕ) (b : Bool) → (length word == 10) ≡ b
    → (if b then moment_at word (end_of_day last)
    else (if (length word == 19) && (slice_index word 10 == 84) then moment_at (take 10 word) (drop 11 word) else None))
    ≡ Some t
    → IsMoment t × IsMomentWord last word t
by_short last word t true is e = of_day last word t (date_alone last word t (eqb-true (length word) 10 is) e)
by_short last word t false is e = by_long last word t ((length word == 19) && (slice_index word 10 == 84)) refl e

pub moment_read : (last : Bool) (word : List ℕ) (t : ℕ) → moment_named last word ≡ Some t → IsMoment t × IsMomentWord last word t
moment_read last word t e = by_short last word t (length word == 10) refl e
