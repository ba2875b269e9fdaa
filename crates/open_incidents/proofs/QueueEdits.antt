-- A pair put into the queue or taken out of it, as one incident ceases to be held or to wait.
use Rattle.std.proofs.Common.{◌≡◌, ◌<◌, ◌≤◌, ◌+◌, ℕ, List, [], ◌∷◌, ◌++◌, map, take, drop, length, true, false, refl, sym, ap, ◌∙◌, Some, None}
use Rattle.std.proofs.Common.{arith, subst, length-append, append_assoc, append-nil, get_or}
use Rattle.std.specs.List.{Contains}
use Rattle.std.specs.List.Sorted.{IsPermutation}
use Rattle.std.proofs.lemmas.List.{take_more, drop_more, take_all, drop_all, map-append, length-map, length-take, length-drop}
use Rattle.std.proofs.lemmas.List.Sorted.{IsPermutation-middle, IsPermutation-cons, IsPermutation-sym, IsPermutation-trans, Contains-permutation}
use Rattle.std.proofs.lemmas.List.Sorted.{length_permutation}
use Rattle.arc_data.specs.Incidents.{has_number, Ascends}
use Rattle.arc_data.specs.declared.incident.Incident.{Incident}
use Rattle.centre_rules.specs.Desks.{is_free, numbered}
use Rattle.incidents.specs.Tables.{at_number, without, held}
use Rattle.incidents.proofs.Places.{none_found}
use Rattle.operator_queue.specs.Pairs.{PairsValue}
use Rattle.operator_queue.proofs.Sums.{permuted_rest}
use Rattle.open_incidents.specs.Waiting.{pair_of, waiting}
use Rattle.open_incidents.proofs.Parts.{Pairs, waits, waits_not, few_wait, between, between_free, between_held, none_left, none_changed, around}

abbrev emptied : Incident → Incident
emptied i = held None 0 i

-- One of several.

module _ (n : ℕ) (is : List Incident) (high : ℕ) (i : Incident) (rise : Ascends 0 is high) (found : numbered n is ≡ Some i) (queue : Pairs)
    (same : IsPermutation (waiting is) queue) where
  -- it waits

  with_one : is_free i ≡ true → IsPermutation (pair_of i ∷ waiting (without n is)) queue
  with_one free =
      let w = around n 0 is high i rise found in
      let parts : IsPermutation (waiting is) (pair_of i ∷ waiting (w.before ++ w.after)) =
      subst (λ (l : List Incident). IsPermutation (waiting l) (pair_of i ∷ waiting (w.before ++ w.after))) (sym w.whole)
      (between_free w.before w.after i free) in
      let whole : IsPermutation (waiting is) (pair_of i ∷ waiting (without n is)) =
      subst (λ (l : List Incident). IsPermutation (waiting is) (pair_of i ∷ waiting l)) (sym w.others) parts in
      IsPermutation-trans (pair_of i ∷ waiting (without n is)) (waiting is) queue
      (IsPermutation-sym (waiting is) (pair_of i ∷ waiting (without n is)) whole) same

  pub in_queue : is_free i ≡ true → Contains queue (pair_of i)
  in_queue free = Contains-permutation (pair_of i ∷ waiting (without n is)) queue (pair_of i) (with_one free) (0, omega arith, refl)

  pub out_free : (left : Pairs) → is_free i ≡ true → IsPermutation (pair_of i ∷ left) queue → IsPermutation (waiting (without n is)) left
  out_free left free taken =
      permuted_rest (pair_of i) (waiting (without n is)) left
      (IsPermutation-trans (pair_of i ∷ waiting (without n is)) queue (pair_of i ∷ left) (with_one free)
      (IsPermutation-sym (pair_of i ∷ left) queue taken))

  pub back_free : is_free i ≡ true → IsPermutation (waiting (at_number n emptied is)) queue
  back_free free =
      let w = around n 0 is high i rise found in
      let alike : waiting is ≡ waiting (at_number n emptied is) =
      ap waiting w.whole ∙ between w.before w.after i free ∙ sym (between w.before w.after (emptied i) refl)
      ∙ ap waiting (sym (w.changed emptied)) in
      subst (λ (l : Pairs). IsPermutation l queue) alike same

  -- it is held

  held_others : is_free i ≡ false → waiting is ≡ waiting (without n is)
  held_others held_ =
      let w = around n 0 is high i rise found in
      ap waiting w.whole ∙ between_held w.before w.after i held_ ∙ ap waiting (sym w.others)

  pub out_held : is_free i ≡ false → IsPermutation (waiting (without n is)) queue
  out_held held_ = subst (λ (l : Pairs). IsPermutation l queue) (held_others held_) same

  pub room_held : is_free i ≡ false → length queue < length is
  room_held held_ =
      let w = around n 0 is high i rise found in
      omega (
        arith,
        length_permutation (waiting is) queue same,
        ap length (held_others held_),
        few_wait (without n is),
        ap length w.others,
        ap length w.whole,
        length-append w.before w.after,
        length-append w.before (i ∷ w.after),
      )

  pub back_held : (more : Pairs) → is_free i ≡ false → IsPermutation (pair_of i ∷ queue) more
      → IsPermutation (waiting (at_number n emptied is)) more
  back_held more held_ put =
      let w = around n 0 is high i rise found in
      let others : waiting (w.before ++ w.after) ≡ waiting is = ap waiting (sym w.others) ∙ sym (held_others held_) in
      let all : IsPermutation (waiting (at_number n emptied is)) (pair_of i ∷ waiting (w.before ++ w.after)) =
      subst (λ (l : List Incident). IsPermutation (waiting l) (pair_of i ∷ waiting (w.before ++ w.after))) (sym (w.changed emptied))
      (between_free w.before w.after (emptied i) refl) in
      let with_all : IsPermutation (waiting (at_number n emptied is)) (pair_of i ∷ waiting is) =
      subst (λ (l : Pairs). IsPermutation (waiting (at_number n emptied is)) (pair_of i ∷ l)) others all in
      IsPermutation-trans (waiting (at_number n emptied is)) (pair_of i ∷ waiting is) more with_all
      (IsPermutation-trans (pair_of i ∷ waiting is) (pair_of i ∷ queue) more (IsPermutation-cons (pair_of i) (waiting is) queue same) put)

-- None of the number.

pub out_none : (n : ℕ) (is : List Incident) (queue : Pairs) → numbered n is ≡ None → IsPermutation (waiting is) queue
    → IsPermutation (waiting (without n is)) queue
out_none n is queue none same =
    subst (λ (l : List Incident). IsPermutation (waiting l) queue) (sym (none_left n is (none_found (has_number n) is none))) same

pub back_none : (n : ℕ) (is : List Incident) (queue : Pairs) → numbered n is ≡ None → IsPermutation (waiting is) queue
    → IsPermutation (waiting (at_number n emptied is)) queue
back_none n is queue none same =
    subst (λ (l : List Incident). IsPermutation (waiting l) queue) (sym (none_changed n emptied is (none_found (has_number n) is none))) same

-- All that are held, one after another.

-- the first so many were looked at
pub record PutSome (count : ℕ) (is : List Incident) (memory : ℕ) (queue : PairsValue) : Type 0 where
  pub same : IsPermutation (map pair_of (take count is) ++ waiting (drop count is)) queue.pairs
  pub room : queue.room ≡ memory

pub put_none : (is : List Incident) (queue : PairsValue) → IsPermutation (waiting is) queue.pairs → PutSome 0 is queue.room queue
put_none is queue same = record { same = same; room = refl }

module _ (count : ℕ) (is : List Incident) (memory : ℕ) (i : Incident) (queue : PairsValue) (before : PutSome count is memory queue)
    (within : count < length is) (here : i ≡ get_or is count i) where
  taken_next : map pair_of (take (count + 1) is) ≡ map pair_of (take count is) ++ pair_of i ∷ []
  taken_next =
      ap (map pair_of) (take_more is count i within ∙ ap (λ (x : Incident). take count is ++ x ∷ []) (sym here))
      ∙ map-append pair_of (take count is) (i ∷ [])

  left_next : waiting (drop count is) ≡ waiting (i ∷ drop (count + 1) is)
  left_next = ap waiting (drop_more is count i within ∙ ap (λ (x : Incident). x ∷ drop (count + 1) is) (sym here))

  next_is : map pair_of (take (count + 1) is) ++ waiting (drop (count + 1) is)
      ≡ map pair_of (take count is) ++ pair_of i ∷ waiting (drop (count + 1) is)
  next_is =
      ap (λ (l : Pairs). l ++ waiting (drop (count + 1) is)) taken_next
      ∙ append_assoc (map pair_of (take count is)) (pair_of i ∷ []) (waiting (drop (count + 1) is))

  -- it waits already
  pub put_free : is_free i ≡ true → PutSome (count + 1) is memory queue
  put_free free = record {
    same =
        let alike = ap (λ (l : Pairs). map pair_of (take count is) ++ l) (left_next ∙ waits i (drop (count + 1) is) free) ∙ sym next_is in
        subst (λ (l : Pairs). IsPermutation l queue.pairs) alike before.same;
    room = before.room;
  }

  held_next : is_free i ≡ false → IsPermutation (map pair_of (take count is) ++ waiting (drop (count + 1) is)) queue.pairs
  held_next held_ =
      subst (λ (l : Pairs). IsPermutation (map pair_of (take count is) ++ l) queue.pairs) (left_next ∙ waits_not i (drop (count + 1) is) held_)
      before.same

  pub room_next : is_free i ≡ false → length queue.pairs < length is
  room_next held_ =
      omega (
        arith,
        within,
        length_permutation (map pair_of (take count is) ++ waiting (drop (count + 1) is)) queue.pairs (held_next held_),
        length-append (map pair_of (take count is)) (waiting (drop (count + 1) is)),
        length-map (take count is) pair_of,
        length-take count is,
        few_wait (drop (count + 1) is),
        length-drop (count + 1) is,
      )

  -- it is put in
  pub put_held : (more : PairsValue) → is_free i ≡ false → IsPermutation (pair_of i ∷ queue.pairs) more.pairs → more.room ≡ queue.room
      → PutSome (count + 1) is memory more
  put_held more held_ put kept = record {
    same =
        let whole = map pair_of (take count is) ++ waiting (drop (count + 1) is) in
        let front : IsPermutation (map pair_of (take count is) ++ pair_of i ∷ waiting (drop (count + 1) is)) (pair_of i ∷ whole) =
        IsPermutation-middle (map pair_of (take count is)) (pair_of i) (waiting (drop (count + 1) is)) in
        let all : IsPermutation (map pair_of (take count is) ++ pair_of i ∷ waiting (drop (count + 1) is)) more.pairs =
        IsPermutation-trans (map pair_of (take count is) ++ pair_of i ∷ waiting (drop (count + 1) is)) (pair_of i ∷ whole) more.pairs front
        (IsPermutation-trans (pair_of i ∷ whole) (pair_of i ∷ queue.pairs) more.pairs
        (IsPermutation-cons (pair_of i) whole queue.pairs (held_next held_)) put) in
        subst (λ (l : Pairs). IsPermutation l more.pairs) (sym next_is) all;
    room = kept ∙ before.room;
  }

pub put_all : (count : ℕ) (is : List Incident) (memory : ℕ) (queue : PairsValue) → PutSome count is memory queue → length is ≤ count
    → IsPermutation (map pair_of is) queue.pairs
put_all count is memory queue put all =
    let whole : map pair_of (take count is) ++ waiting (drop count is) ≡ map pair_of is =
    (λ k. map pair_of (take_all count is all k) ++ waiting (drop_all count is all k)) ∙ append-nil (map pair_of is) in
    subst (λ (l : Pairs). IsPermutation l queue.pairs) whole put.same
