-- What lines and desks took, behind one line of a script more.
use Rattle.std.proofs.Common.{◌≡◌, ◌≢◌, ◌⊎◌, ◌≤◌, ◌-◌, ◌+◌, ◌++◌, ℕ, List, [], ◌∷◌, Bool, true, false, cond, eqb, Option, Some, None, inl, inr, length, ap, sym, subst, ◌∙◌, arith}
use Rattle.std.specs.Prelude.{IfSome}
use Rattle.std.specs.List.{slice_get}
use Rattle.std.proofs.lemmas.Bool.{eq-eqb, ne_eqb}
use Rattle.std.proofs.lemmas.Bool.Decides.{eqb_tells}
use Rattle.alarm_rules.specs.Setups.{Setup}
use Rattle.arc_data.specs.Digits.{bytes_spelled}
use Rattle.desk_session.specs.Desks as Desk
use Rattle.desk_session.specs.Events.{is_quit}
use Rattle.line_session.specs.Lines as Line
use Rattle.script_lines.specs.Lines.{Asked, Feed, Message, Command}
use Rattle.arc_script.specs.Carrying.{HasRead, HaveTaken, ReadAt}
use Rattle.arc_script.specs.Fed.{line_fed, desk_read}
use Rattle.arc_script.specs.Feeding.{TookAt}
use Rattle.arc_script.specs.Names.{line_name}

-- whether a number is this one
abbrev Tells : ℕ → ℕ → Type 0
Tells a b = ((eqb a b ≡ true) × (a ≡ b)) ⊎ ((eqb a b ≡ false) × (a ≢ b))

more_if : (setup : Setup) (count : ℕ) (read : List (List ℕ)) (grown : ℕ) (o : Option Desk.DeskValue) → IfSome o (HasRead setup count read)
    → IfSome o (HasRead setup (count + grown) read)
more_if setup count read grown None has = tt
more_if setup count read grown (Some desk) has =
    record { stream = has.stream; took = has.took; ended = has.ended; none = has.none; few = omega (arith, has.few) }

-- in more bytes too
more_read : (setup : Setup) (count grown : ℕ) (read : List (List ℕ)) (desks : List Desk.DeskValue) (place : ℕ) → ReadAt setup count read desks place
    → ReadAt setup (count + grown) read desks place
more_read setup count grown read desks place has = more_if setup count read grown (slice_get desks place) has

-- One line of the receiver's took more, or was made anew.

fed_at : (line i : ℕ) (was now next : List ℕ) (lines lines' : List Line.LineValue) → 1 ≤ line → TookAt was lines i → (line ≡ i + 1 → now ≡ next)
    → (line ≢ i + 1 → now ≡ was) → TookAt next lines' (line - 1) → ((k : ℕ) → k ≢ line - 1 → slice_get lines' k ≡ slice_get lines k)
    → Tells line (i + 1) → TookAt now lines' i
fed_at line i was now next lines lines' low before hit miss behind others (inl is) =
    let there = is.1 in
    let at : line - 1 ≡ i = omega (arith, there) in
    subst (λ (l : List ℕ). TookAt l lines' i) (sym (hit there)) (subst (λ (k : ℕ). TookAt next lines' k) at behind)
fed_at line i was now next lines lines' low before hit miss behind others (inr is) =
    let other = is.1 in
    let same = others i (λ e. other (omega (arith, e, low))) in
    subst (λ (l : List ℕ). TookAt l lines' i) (sym (miss other)) (subst (λ (o : Option Line.LineValue). IfSome o (Line.TookStream (line_name (i + 1)) was)) (sym same) before)

few_at : (line n : ℕ) (was now next : List ℕ) (count grown : ℕ) → length was + length was ≤ count → (line ≡ n → now ≡ next) → (line ≢ n → now ≡ was)
    → length next + length next ≤ count + grown → Tells line n → length now + length now ≤ count + grown
few_at line n was now next count grown before hit miss behind (inl is) = (let size = ap length (hit is.1) in omega (arith, size, behind))
few_at line n was now next count grown before hit miss behind (inr is) = (let size = ap length (miss is.1) in omega (arith, size, before))

pub fed_after : (setup : Setup) (count grown line : ℕ) (before : List Asked) (asked : Asked) (next : List ℕ) (lines lines' : List Line.LineValue)
    (desks : List Desk.DeskValue) → 1 ≤ line → HaveTaken setup count before lines desks
    → ((n : ℕ) → line ≡ n → line_fed n (asked ∷ before) ≡ next) → ((n : ℕ) → line ≢ n → line_fed n (asked ∷ before) ≡ line_fed n before)
    → ((n : ℕ) → desk_read n (asked ∷ before) ≡ desk_read n before)
    → TookAt next lines' (line - 1) → ((k : ℕ) → k ≢ line - 1 → slice_get lines' k ≡ slice_get lines k)
    → length next + length next ≤ count + grown → HaveTaken setup (count + grown) (asked ∷ before) lines' desks
fed_after setup count grown line before asked next lines lines' desks low taken hit miss same took others few = record {
  fed = λ i. fed_at line i (line_fed (i + 1) before) (line_fed (i + 1) (asked ∷ before)) next lines lines' low (taken.fed i) (hit (i + 1)) (miss (i + 1)) took
      others (eqb_tells line (i + 1));
  few = λ n. few_at line n (line_fed n before) (line_fed n (asked ∷ before)) next count grown (taken.few n) (hit n) (miss n) few (eqb_tells line n);
  read = λ i. subst (λ (read : List (List ℕ)). ReadAt setup (count + grown) read desks i) (sym (same (i + 1)))
      (more_read setup count grown (desk_read (i + 1) before) desks i (taken.read i));
}

pub feed_hit : (line n : ℕ) (digits : List ℕ) (before : List Asked) → line ≡ n → line_fed n (Feed line digits ∷ before) ≡ line_fed line before ++ bytes_spelled digits
feed_hit line n digits before is =
    ap (λ (b : Bool). cond b (line_fed n before ++ bytes_spelled digits) (line_fed n before)) (eq-eqb line n is)
    ∙ ap (λ (k : ℕ). line_fed k before ++ bytes_spelled digits) (sym is)

pub feed_miss : (line n : ℕ) (digits : List ℕ) (before : List Asked) → line ≢ n → line_fed n (Feed line digits ∷ before) ≡ line_fed n before
feed_miss line n digits before is =
    ap (λ (b : Bool). cond b (line_fed n before ++ bytes_spelled digits) (line_fed n before)) (ne_eqb line n is)

pub message_hit : (line n : ℕ) (body : List ℕ) (before : List Asked) → line ≡ n → line_fed n (Message line body ∷ before) ≡ []
message_hit line n body before is = ap (λ (b : Bool). cond b [] (line_fed n before)) (eq-eqb line n is)

pub message_miss : (line n : ℕ) (body : List ℕ) (before : List Asked) → line ≢ n → line_fed n (Message line body ∷ before) ≡ line_fed n before
message_miss line n body before is = ap (λ (b : Bool). cond b [] (line_fed n before)) (ne_eqb line n is)

-- One desk read a line more, or was made anew.

read_at : (desk i : ℕ) (setup : Setup) (count : ℕ) (was now next : List (List ℕ)) (desks desks' : List Desk.DeskValue) → 1 ≤ desk
    → ReadAt setup count was desks i → (desk ≡ i + 1 → now ≡ next) → (desk ≢ i + 1 → now ≡ was) → ReadAt setup count next desks' (desk - 1)
    → ((k : ℕ) → k ≢ desk - 1 → slice_get desks' k ≡ slice_get desks k) → Tells desk (i + 1) → ReadAt setup count now desks' i
read_at desk i setup count was now next desks desks' low before hit miss behind others (inl is) =
    let there = is.1 in
    let at : desk - 1 ≡ i = omega (arith, there) in
    subst (λ (l : List (List ℕ)). ReadAt setup count l desks' i) (sym (hit there)) (subst (λ (k : ℕ). ReadAt setup count next desks' k) at behind)
read_at desk i setup count was now next desks desks' low before hit miss behind others (inr is) =
    let other = is.1 in
    let same = others i (λ e. other (omega (arith, e, low))) in
    subst (λ (l : List (List ℕ)). ReadAt setup count l desks' i) (sym (miss other))
    (subst (λ (o : Option Desk.DeskValue). IfSome o (HasRead setup count was)) (sym same) before)

abbrev pub read_next : List ℕ → List (List ℕ) → List (List ℕ)
read_next text read = cond (is_quit text) [] (read ++ text ∷ [])

command_hit : (desk n : ℕ) (text : List ℕ) (before : List Asked) → desk ≡ n → desk_read n (Command desk text ∷ before) ≡ read_next text (desk_read desk before)
command_hit desk n text before is =
    ap (λ (b : Bool). cond b (read_next text (desk_read n before)) (desk_read n before)) (eq-eqb desk n is)
    ∙ ap (λ (k : ℕ). read_next text (desk_read k before)) (sym is)

command_miss : (desk n : ℕ) (text : List ℕ) (before : List Asked) → desk ≢ n → desk_read n (Command desk text ∷ before) ≡ desk_read n before
command_miss desk n text before is = ap (λ (b : Bool). cond b (read_next text (desk_read n before)) (desk_read n before)) (ne_eqb desk n is)

pub read_after : (setup : Setup) (count grown desk : ℕ) (text : List ℕ) (before : List Asked) (lines : List Line.LineValue)
    (desks desks' : List Desk.DeskValue) → 1 ≤ desk → HaveTaken setup count before lines desks
    → ReadAt setup (count + grown) (read_next text (desk_read desk before)) desks' (desk - 1)
    → ((k : ℕ) → k ≢ desk - 1 → slice_get desks' k ≡ slice_get desks k)
    → HaveTaken setup (count + grown) (Command desk text ∷ before) lines desks'
read_after setup count grown desk text before lines desks desks' low taken read others = record {
  fed = λ i. taken.fed i;
  few = λ n. (let few = taken.few n in omega (arith, few));
  read = λ i. read_at desk i setup (count + grown) (desk_read (i + 1) before) (desk_read (i + 1) (Command desk text ∷ before))
      (read_next text (desk_read desk before)) desks desks' low (more_read setup count grown (desk_read (i + 1) before) desks i (taken.read i))
      (command_hit desk (i + 1) text before) (command_miss desk (i + 1) text before) read others (eqb_tells desk (i + 1));
}
