use Rattle.std.proofs.Common.{◌≡◌, ◌≤◌, ◌<◌, ◌++◌, ◌∷◌, [], ℕ, List, Some, None, length, refl, inl, inr, ap, sym, ◌∙◌, arith, length-append}
use Rattle.std.proofs.lemmas.Bool.{cases_lt, false≢true}
use Rattle.std.specs.Option.{option_map}
use Rattle.arc_data.specs.declared.listing.Row.{Row}
use Rattle.desk_said.specs.Lines.{each_row, row_spelled}
use Rattle.desk_said.proofs.RowLemmas.{one_more, unread, too_many, all_read}
use Rattle.desk_said.proofs.listing.rows.Goals as goal

pub loop-word-preserved : goal.loop-word-preserved
loop-word-preserved c =
    let rows : List Row = c.loop-word.rows in
    let row : Row = c.in-Some-row.row in
    let left : List (List ℕ) = c.next.new.self in
    let pushed : c.push.new.self ≡ rows ++ row ∷ [] = c.if-not-push.ensures.pushed in
    let is : row_spelled c.in-Some.word.now ≡ Some row = sym c.row.ensures ∙ c.in-Some-row.is in
    let before : option_map (λ more. rows ++ more) (each_row (c.in-Some.word.now ∷ left)) ≡ each_row c.args.words.now =
    ap (λ (ws : List (List ℕ)). option_map (λ more. rows ++ more) (each_row ws)) (sym c.in-Some.ensures) ∙ c.loop-word.invariant.all in
    let few : length rows < 16 = c.if-not-push.ensures.room.0 refl in
    record {
      all = ap (λ (r : List Row). option_map (λ more. r ++ more) (each_row left)) pushed
          ∙ one_more rows row c.in-Some.word.now left (each_row c.args.words.now) is before;
      count = omega (arith, ap (λ (r : List Row). length r) pushed, length-append rows (row ∷ []), ap (λ (ws : List (List ℕ)). length ws) c.in-Some.ensures, c.loop-word.invariant.count);
      few = omega (arith, ap (λ (r : List Row). length r) pushed, length-append rows (row ∷ []));
    }

pub returns-in_default-row : goal.returns-in_default-row
returns-in_default-row c =
    let before : option_map (λ more. c.loop-word.rows ++ more) (each_row (c.in-Some.word.now ∷ c.next.new.self)) ≡ each_row c.args.words.now =
    ap (λ (ws : List (List ℕ)). option_map (λ more. c.loop-word.rows ++ more) (each_row ws)) (sym c.in-Some.ensures) ∙ c.loop-word.invariant.all in
    sym (unread c.loop-word.rows c.in-Some.word.now c.next.new.self c.args.words.now (sym c.row.ensures ∙ c.in_default-row.is) before)

pub returns-then-not-push : goal.returns-then-not-push
returns-then-not-push c =
    let many : 16 < length c.args.words.now =
    (let full : 16 ≤ length c.loop-word.rows = elim (cases_lt (length c.loop-word.rows) 16) [ inl below ↦ absurd (false≢true (c.if-not-push.ensures.room.1 below)) | inr most ↦ most ] in
    omega (arith, ap (λ (ws : List (List ℕ)). length ws) c.in-Some.ensures, c.loop-word.invariant.count)) in
    sym (too_many c.args.words.now many)

pub returns : goal.returns
returns c =
    sym (all_read c.loop-word.rows c.loop-word.words c.args.words.now c.in_default.ensures.0 c.loop-word.invariant.all c.loop-word.invariant.count c.loop-word.invariant.few)
