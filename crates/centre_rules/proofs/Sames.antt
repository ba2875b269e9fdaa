-- What tells the same goes on to tell the same.
use Rattle.std.proofs.Common.{◌≡◌, ℕ, zero, suc, List, [], ◌∷◌, map, take, Bool, true, false, cond, refl, sym, ap, ◌∙◌, Option, Some, None}
use Rattle.std.specs.Prelude.{not, ◌&&◌, option_and_then}
use Rattle.std.specs.Option.{option_map_or}
use Rattle.std.specs.Result.{result_ok}
use Rattle.std.specs.Str.{bytes_eq}
use Rattle.arc_data.specs.declared.event.Event.{Event}
use Rattle.arc_data.specs.declared.event.Event.TheVariants.{Adopt, Start, Message as Sent, Beat, Tick, Claim, Next, Act as Do, Release, Close, Show, List as Rows}
use Rattle.arc_data.specs.declared.reply.Reply.{Reply}
use Rattle.alarm_rules.specs.Setups.{setup_of}
use Rattle.alarm_rules.specs.Weeks.{next_close}
use Rattle.centre_rules.specs.Limits.{late_seconds}
use Rattle.centre_rules.specs.Summary.{Summary, Past, Opened}
use Rattle.centre_rules.specs.Marks.{Mark, Sends, Carries, text_at, start_at, keeps_row_at, messages_at, heard_at, failed_at, opening_at, force, lapse, messages, heard, failed}
use Rattle.centre_rules.specs.Standing.{standing, stands_at}
use Rattle.centre_rules.specs.Tables.{opened_after, table_after}
use Rattle.centre_rules.specs.Carrying.{is_past, is_silent, is_late, raised}
use Rattle.centre_rules.specs.History.{marks_of, onto, acted_by}
use Rattle.centre_rules.specs.Desks.{on_claim, on_next, on_act, on_release, on_close, on_show, on_list}
use Rattle.centre_rules.specs.Answers.{answer_over, if_known, knows_operator}
use Rattle.centre_rules.specs.State.{Same}
use Rattle.centre_rules.proofs.Steps.{incidents_step, opened_step}

pub same_refl : (s : Summary) (ms : List Mark) → Same s ms s ms
same_refl s ms = record { text = refl; start = refl; opened = refl; incidents = refl; rows = λ a. refl; heard = λ a. refl; failed = λ a. refl; opening = λ a. refl; recent = λ a. refl }

pub same_sym : {s t : Summary} {ms ns : List Mark} → Same s ms t ns → Same t ns s ms
same_sym w = record { text = sym w.text; start = sym w.start; opened = sym w.opened; incidents = sym w.incidents; rows = λ a. sym (w.rows a); heard = λ a. sym (w.heard a); failed = λ a. sym (w.failed a); opening = λ a. sym (w.opening a); recent = λ a. sym (w.recent a) }

pub same_trans : {s t u : Summary} {ms ns os : List Mark} → Same s ms t ns → Same t ns u os → Same s ms u os
same_trans v w = record { text = v.text ∙ w.text; start = v.start ∙ w.start; opened = v.opened ∙ w.opened; incidents = v.incidents ∙ w.incidents; rows = λ a. v.rows a ∙ w.rows a; heard = λ a. v.heard a ∙ w.heard a; failed = λ a. v.failed a ∙ w.failed a; opening = λ a. v.opening a ∙ w.opening a; recent = λ a. v.recent a ∙ w.recent a }

take_front : (n : ℕ) (xs : List Past) → take n (take (suc n) xs) ≡ take n xs
take_front zero xs = refl
take_front (suc n) [] = refl
take_front (suc n) (x ∷ xs) = ap (λ l. x ∷ l) (take_front n xs)

take_step : (n : ℕ) (p : Past) (xs ys : List Past) → take (suc n) xs ≡ take (suc n) ys → take (suc n) (p ∷ xs) ≡ take (suc n) (p ∷ ys)
take_step n p xs ys e = ap (λ l. p ∷ l) (sym (take_front n xs) ∙ ap (take n) e ∙ take_front n ys)

recent_if : (b : Bool) (p : Past) (xs ys : List Past) → take 32 xs ≡ take 32 ys → take 32 (cond b (p ∷ xs) xs) ≡ take 32 (cond b (p ∷ ys) ys)
recent_if true p xs ys e = take_step 31 p xs ys e
recent_if false p xs ys e = e

-- the same mark upon messages of which the last 32 are the same
pub recent_step : (a : List ℕ) (m : Mark) (xs ys : List Past) → take 32 xs ≡ take 32 ys → take 32 (messages_at a m xs) ≡ take 32 (messages_at a m ys)
recent_step a (Sends message at) xs ys e = recent_if (bytes_eq message.account a) (record { message = message; at = at }) xs ys e
recent_step a m xs ys e = e

-- the same mark after both
pub same_step : {s t : Summary} {ms ns : List Mark} → (m : Mark) → Same s ms t ns → Same s (m ∷ ms) t (m ∷ ns)
same_step {s} {t} {ms} {ns} m w = record {
  text = ap (text_at m) w.text;
  start = ap (start_at m) w.start;
  opened = opened_step s m ms ∙ (λ i. opened_after m (w.opened i) (w.incidents i)) ∙ sym (opened_step t m ns);
  incidents = incidents_step s m ms ∙ (λ i. table_after m (w.opened i) (w.incidents i)) ∙ sym (incidents_step t m ns);
  rows = λ a. ap (keeps_row_at a m) (w.rows a);
  heard = λ a. ap (heard_at a m) (w.heard a);
  failed = λ a. ap (failed_at a m) (w.failed a);
  opening = λ a. ap (opening_at a m) (w.opening a);
  recent = λ a. recent_step a m (messages s ms a) (messages t ns a) (w.recent a);
}

pub same_onto : {s t : Summary} → (xs : List Mark) → {ms ns : List Mark} → Same s ms t ns → Same s (onto xs ms) t (onto xs ns)
same_onto [] w = w
same_onto (x ∷ xs) w = same_onto xs (same_step x w)

pub force_same : {s t : Summary} {ms ns : List Mark} → Same s ms t ns → force s ms ≡ force t ns
force_same w = ap (option_and_then (λ x. result_ok (setup_of x))) w.text

lapse_same : {s t : Summary} {ms ns : List Mark} → Same s ms t ns → lapse s ms ≡ lapse t ns
lapse_same w = ap (option_and_then (λ setup. setup.lapse)) (force_same w)

pub standing_same : {s t : Summary} {ms ns : List Mark} → Same s ms t ns → (at : ℕ) → standing s ms at ≡ standing t ns at
standing_same w at = λ i. map (stands_at (lapse_same w i) at) (w.incidents i)

is_silent_same : {s t : Summary} {ms ns : List Mark} → Same s ms t ns → (at : ℕ) → is_silent s ms at ≡ is_silent t ns at
is_silent_same w at = λ i account.
    option_map_or (λ interval. is_past (w.heard account.number i) interval at && not (w.failed account.number i)) account.beat false

is_late_same : {s t : Summary} {ms ns : List Mark} → Same s ms t ns → (at : ℕ) → is_late s ms at ≡ is_late t ns at
is_late_same w at = λ i account.
    option_map_or (λ (o : Opened). not o.late && is_past (next_close account.week o.at) late_seconds at) (w.opening account.number i) false

pub raised_same : {s t : Summary} {ms ns : List Mark} → Same s ms t ns → (at : ℕ) → raised s ms at ≡ raised t ns at
raised_same w at = rw (force_same w, is_silent_same w at, is_late_same w at) refl

-- equal telling gives equal marks
pub marks_of_same : {s t : Summary} {ms ns : List Mark} → Same s ms t ns → (e : Event) (at : ℕ) (r : Reply) → marks_of s ms e at r ≡ marks_of t ns e at r
marks_of_same w (Sent m via) at r = rw (force_same w) refl
marks_of_same w Tick at r = ap (map Carries) (raised_same w at)
marks_of_same w e at r = refl

-- equal telling gives equal answers
pub answer_same : {s t : Summary} {ms ns : List Mark} → Same s ms t ns → (e : Event) (at : ℕ) → answer_over s ms e at ≡ answer_over t ns e at
answer_same w (Adopt text) at = refl
answer_same w Start at = refl
answer_same w (Sent m via) at = rw (force_same w, w.recent m.account) refl
answer_same w (Beat account) at = rw (force_same w) refl
answer_same w Tick at = rw (raised_same w at) refl
answer_same w (Claim o n) at = λ i. if_known (knows_operator (force_same w i) o) (on_claim o n (standing_same w at i))
answer_same w (Next o) at = λ i. if_known (knows_operator (force_same w i) o) (on_next o (standing_same w at i))
answer_same w (Do o n step outcome) at = λ i. if_known (knows_operator (force_same w i) o) (on_act (acted_by o step outcome at) n (standing_same w at i))
answer_same w (Release o n) at = λ i. if_known (knows_operator (force_same w i) o) (on_release o n (standing_same w at i))
answer_same w (Close o n code) at = λ i. if_known (knows_operator (force_same w i) o) (on_close o n (standing_same w at i))
answer_same w (Show number) at = ap (on_show number) (standing_same w at)
answer_same w Rows at = ap on_list (standing_same w at)
