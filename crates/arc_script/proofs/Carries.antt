-- The step of a line of a script that feeds bytes or a frame.
use Rattle.std.proofs.Common.{◌≡◌, ◌≢◌, ◌⊎◌, ◌<◌, ◌≤◌, ◌-◌, ◌+◌, ◌++◌, ℕ, zero, suc, List, [], ◌∷◌, Option, Some, inl, inr, length, set, refl, ap, sym, subst, ◌∙◌, arith}
use Rattle.std.specs.Prelude.{IfSome, decimal, unwrap_or}
use Rattle.std.specs.Io.KnownBytes.{append_known}
use Rattle.std.specs.List.{slice_get}
use Rattle.std.proofs.lemmas.List.{length-append}
use Rattle.alarm_rules.specs.Setups.{Setup, meaning}
use Rattle.arc_data.specs.Digits.{bytes_spelled}
use Rattle.arc_data.specs.Moments.{IsMoment}
use Rattle.arc_io.specs.Disks.{DiskSeen}
use Rattle.arc_io.specs.Seen.{PortSeen}
use Rattle.centre_core.specs.declared.hall.Stop.{Stop}
use Rattle.centre_core.specs.declared.hall.Stop.TheVariants.{Memory}
use Rattle.centre_rules.specs.History.{Entry}
use Rattle.centre_rules.specs.Summary.{Summary}
use Rattle.centre_store.specs.Stores.{Stored}
use Rattle.dc09_frame.specs.Check.{check_of}
use Rattle.dc09_frame.specs.Frames.{four_digits, frame_of, piece_of, IsBody}
use Rattle.desk_session.specs.Desks as Desk
use Rattle.line_session.specs.Lines as Line
use Rattle.line_session.specs.Turns.{Turn, line_turns}
use Rattle.script_lines.specs.Lines.{Asked, Feed, Message, numbered, spelling}
use Rattle.session_rules.specs.Inputs.{input_limit}
use Rattle.session_rules.specs.Turns.{entries_of}
use Rattle.arc_script.specs.Carrying.{Carried, CountsStep, GrowsBy, Halted, HaveTakenWith, IsNext}
use Rattle.arc_script.specs.Causes.{HasShown, IsOfFrame, IsSentFor}
use Rattle.arc_script.specs.Fed.{clock_of, line_fed}
use Rattle.arc_script.specs.Feeding.{CountsFed, FeedStops, HasFed, TookAt}
use Rattle.arc_script.specs.Names.{line_name}
use Rattle.arc_script.specs.Pages.{head_of, replied}
use Rattle.arc_script.specs.Steps.{Place, placed, listed, replies_of, FeedsUntil, Feeds, FeedsLine, Step}
use Rattle.arc_script.specs.Tallies.{count_of, is_closed, is_repeat}
use Rattle.arc_script.specs.declared.script_end.Tally.{Tally}
use Rattle.arc_script.proofs.Answered.{are_replies, turns_lined}
use Rattle.arc_script.proofs.Counts.{closes_none, grows_none}
use Rattle.arc_script.proofs.Listed.{replied_listed}
use Rattle.arc_script.proofs.Taken.{fed_after, feed_hit, feed_miss, message_hit, message_miss}
use Rattle.arc_script.proofs.Ticks.{wanted_up}

-- The step.

step_of : (base : Summary) (number : ℕ) (asked : Asked) (letter line sent : ℕ) (turns : List Turn) → Step
step_of base number asked letter line sent turns = record {
  number = number;
  asked = asked;
  entries = entries_of line_turns turns;
  base = base;
  sent = sent;
  text = head_of letter line ++ listed (replies_of turns) ++ 10 ∷ [];
}

counts_step : (place : Place) (line : ℕ) (bytes : List ℕ) (h x : List Entry) (turns : List Turn) (more : List (List ℕ))
    (sent : ℕ) (t t' : Tally) (s : Step) → FeedsLine place line bytes h x turns more → CountsFed sent turns t t' → s.sent ≡ sent
    → s.entries ≡ entries_of line_turns turns → CountsStep s t t'
counts_step place line bytes h x turns more sent t t' s fed counts sent_is entries_is =
    let same : t'.closed ≡ t.closed = ap (λ (k : Tally). k.closed) counts.rest in
    let none = closes_none place.base h x (entries_of line_turns turns) fed.legal fed.own (turns_lined (line_name line) place.base (meaning place.setup) h x turns fed.are) in
    record {
      more = record {
        sent = subst (λ (n : ℕ). GrowsBy n t.sent t'.sent) (sym sent_is) counts.frames;
        repeats = subst (λ (l : List Entry). GrowsBy (count_of is_repeat l) t.repeats t'.repeats) (sym entries_is)
            counts.repeats;
        closed = subst (λ (n : ℕ). GrowsBy (count_of is_closed s.entries) t.closed n) (sym same)
            (grows_none (count_of is_closed s.entries) t.closed (ap (count_of is_closed) entries_is ∙ none));
      };
      rest = counts.rest ∙ ap (λ (n : ℕ). record t { sent = t'.sent; repeats = t'.repeats; closed = n }) (sym same);
    }

feeds_of : (place : Place) (number letter line : ℕ) (asked : Asked) (bytes : List ℕ) (h x : List Entry)
    (turns : List Turn) → FeedsLine place line bytes h x turns []
    → Feeds place letter line bytes h x (step_of place.base number asked letter line (length turns) turns)
unfolding step_of
feeds_of place number letter line asked bytes h x turns fed =
    record { fed = record { turns = turns; fed = fed; entries = refl; base = refl; sent = refl }; text = refl }

pub carried : {D : Type 0} (seen : D → DiskSeen) (s s' : Stored D) (base : Summary) (setup : List ℕ)
    (moment number letter line : ℕ) (asked : Asked) (before : List Asked) (bytes : List ℕ) (h : List Entry) (t t' : Tally) (p p' : PortSeen)
    (written : List ℕ) → IsMoment moment → clock_of before ≡ Some moment
    → HasFed seen (placed base setup before) line bytes h t t' written s s'
    → p'.written ≡ append_known p.written (head_of letter line ++ replied written ++ 10 ∷ [])
    → Carried seen base s h (λ x s. Feeds (placed base setup before) letter line bytes h x s) number asked t t' p p' s'
unfolding step_of
carried seen s s' base setup moment number letter line asked before bytes h t t' p p' written at set w put =
    let turns = w.turns in
    let step = step_of base number asked letter line (length turns) turns in
    let same : w.fed.clock ≡ moment = ap (λ (o : Option ℕ). unwrap_or o 0) (sym w.fed.set ∙ set) in
    let fits : IsMoment w.fed.clock = subst IsMoment (sym same) at in
    let listed_is : replied written ≡ listed (replies_of turns) =
    ap replied w.written_is ∙ replied_listed turns (are_replies (line_name line) base (meaning setup) w.fed.clock h w.history turns fits w.fed.are w.fed.readings) in
    record {
      step = step;
      history = w.history;
      number_is = refl;
      asked_is = refl;
      is = feeds_of (placed base setup before) number letter line asked bytes h w.history turns w.fed;
      stands = w.stands;
      readable = w.readable;
      left = w.left;
      up = w.up;
      text = put ∙ ap (λ (l : List ℕ). append_known p.written (head_of letter line ++ l ++ 10 ∷ [])) listed_is;
      counts = counts_step (placed base setup before) line bytes h w.history turns [] (length turns) t t' step w.fed w.counts refl refl;
    }

-- how far it came, in the words of its contract
abbrev CameSoFar : {D : Type 0} → Summary → (D → DiskSeen) → Stored D → List ℕ → ℕ → ℕ → ℕ → List Asked → List ℕ → List Entry
    → Stop → List Entry → Step → Type 0
CameSoFar base seen s' setup moment letter line before bytes h stop x s =
    (waiting : List (List ℕ)) × HasShown seen base s' x stop moment (IsOfFrame setup moment line waiting)
    × (FeedsUntil (placed base setup before) line bytes waiting (IsSentFor stop) h x s
    ⊎ ((stop ≡ Memory) × Feeds (placed base setup before) letter line bytes h x s))

-- all was fed, and memory was wanted for the output
pub finished : {D : Type 0} (seen : D → DiskSeen) (s s' : Stored D) (base : Summary) (setup : List ℕ)
    (moment letter line : ℕ) (asked : Asked) (before : List Asked) (bytes : List ℕ) (h : List Entry) (t t' : Tally) (written : List ℕ)
    (stop : Stop) → stop ≡ Memory → clock_of before ≡ Some moment
    → HasFed seen (placed base setup before) line bytes h t t' written s s'
    → Halted seen base s h (λ x s. CameSoFar base seen s' setup moment letter line before bytes h stop x s) t t' s'
unfolding step_of
finished seen s s' base setup moment letter line asked before bytes h t t' written stop is set w =
    let step = step_of base 0 asked letter line (length w.turns) w.turns in
    record {
      partial = step;
      history = w.history;
      came = (
        [],
        wanted_up seen base s' w.history stop moment (IsOfFrame setup moment line []) is w.stands w.up,
        inr (is, feeds_of (placed base setup before) 0 letter line asked bytes h w.history w.turns w.fed),
      );
      stands = w.stands;
      readable = w.readable;
      left = w.left;
      counts = counts_step (placed base setup before) line bytes h w.history w.turns [] (length w.turns) t t' step w.fed w.counts refl refl;
    }

-- a frame was stopped
pub halted_at : {D : Type 0} (seen : D → DiskSeen) (s s' : Stored D) (base : Summary) (setup : List ℕ)
    (moment letter line : ℕ) (asked : Asked) (before : List Asked) (bytes : List ℕ) (h : List Entry) (t t' : Tally) (stop : Stop)
    → clock_of before ≡ Some moment → FeedStops seen (placed base setup before) moment line bytes h t t' stop s s'
    → Halted seen base s h (λ x s. CameSoFar base seen s' setup moment letter line before bytes h stop x s) t t' s'
unfolding step_of
halted_at seen s s' base setup moment letter line asked before bytes h t t' stop set w =
    let step = step_of base 0 asked letter line w.sent w.turns in
    record {
      partial = step;
      history = w.history;
      came = (w.more, w.cause, inl (record { turns = w.turns; fed = w.fed; entries = refl; base = refl; sent = w.sent_is }));
      stands = w.stands;
      readable = w.readable;
      left = w.left;
      counts = counts_step (placed base setup before) line bytes h w.history w.turns w.more w.sent t t' step w.fed w.counts refl refl;
    }

-- How many bytes are fed.

spelled_half : (digits : List ℕ) → length (bytes_spelled digits) + length (bytes_spelled digits) ≤ length digits
unfolding bytes_spelled
spelled_half [] = omega arith
spelled_half (a ∷ []) = omega arith
spelled_half (a ∷ b ∷ rest) = (let half = spelled_half rest in omega (arith, half))

frame_size : (body : List ℕ) → length (frame_of body) ≡ length body + 10
unfolding frame_of
frame_size body =
    let first = length-append (10 ∷ piece_of body) (13 ∷ []) in
    let inner = length-append (four_digits (check_of body) ++ four_digits (length body)) body in
    omega (arith, first, inner)

letter_more : (line : ℕ) (text : List ℕ) (a b : ℕ) → length text + 3 ≤ length (a ∷ b ∷ numbered line text)
letter_more line text a b = (let size = length-append (decimal line) (32 ∷ text) in omega (arith, size))

pub feed_short : (setup : Setup) (moment count line : ℕ) (before : List Asked) (digits : List ℕ) (lines : List Line.LineValue) (desks : List Desk.DeskValue)
    → IsNext setup moment count before (Feed line digits) lines desks → length (line_fed line before ++ bytes_spelled digits) < input_limit
feed_short setup moment count line before digits lines desks next =
    let size = length-append (line_fed line before) (bytes_spelled digits) in
    let few = next.taken.few line in
    let within = next.within in
    let more = letter_more line digits 76 32 in
    let half = spelled_half digits in
    omega (arith, size, few, within, more, half)

pub message_short : (setup : Setup) (moment count line : ℕ) (before : List Asked) (body : List ℕ) (lines : List Line.LineValue) (desks : List Desk.DeskValue)
    → IsBody body → IsNext setup moment count before (Message line body) lines desks → length (line_fed line before ++ frame_of body) < input_limit
message_short setup moment count line before body lines desks is next =
    let size = length-append (line_fed line before) (frame_of body) in
    let few = next.taken.few line in
    let within = next.within in
    let frame = frame_size body in
    let most = is.size in
    omega (arith, size, few, within, frame, most)

-- the line that is fed took what it was fed before
pub took_before : (setup : Setup) (moment count line : ℕ) (before : List Asked) (asked : Asked) (lines : List Line.LineValue) (desks : List Desk.DeskValue)
    → 1 ≤ line → IsNext setup moment count before asked lines desks → TookAt (line_fed line before) lines (line - 1)
took_before setup moment count line before asked lines desks low next =
    let same : line - 1 + 1 ≡ line = omega (arith, low) in
    subst (λ (n : ℕ). TookAt (line_fed n before) lines (line - 1)) same (next.taken.fed (line - 1))

pub feed_taken : (setup : Setup) (moment count line : ℕ) (before : List Asked) (digits : List ℕ) (lines lines' : List Line.LineValue)
    (desks : List Desk.DeskValue) → 1 ≤ line → IsNext setup moment count before (Feed line digits) lines desks
    → TookAt (line_fed line before ++ bytes_spelled digits) lines' (line - 1) → ((k : ℕ) → k ≢ line - 1 → slice_get lines' k ≡ slice_get lines k)
    → HaveTakenWith setup count before (Feed line digits) lines' desks
feed_taken setup moment count line before digits lines lines' desks low next took others =
    let size = length-append (line_fed line before) (bytes_spelled digits) in
    let few = next.taken.few line in
    let more = letter_more line digits 76 32 in
    let half = spelled_half digits in
    fed_after setup count (length (spelling (Feed line digits))) line before (Feed line digits) (line_fed line before ++ bytes_spelled digits) lines lines'
    desks low next.taken (λ n is. feed_hit line n digits before is) (λ n other. feed_miss line n digits before other) (λ n. refl) took others
    (omega (arith, size, few, more, half))

pub message_taken : (setup : Setup) (moment count line : ℕ) (before : List Asked) (body : List ℕ) (lines lines' : List Line.LineValue)
    (desks : List Desk.DeskValue) → 1 ≤ line → IsNext setup moment count before (Message line body) lines desks
    → TookAt [] lines' (line - 1) → ((k : ℕ) → k ≢ line - 1 → slice_get lines' k ≡ slice_get lines k)
    → HaveTakenWith setup count before (Message line body) lines' desks
message_taken setup moment count line before body lines lines' desks low next took others =
    fed_after setup count (length (spelling (Message line body))) line before (Message line body) [] lines lines' desks low next.taken
    (λ n is. message_hit line n body before is) (λ n other. message_miss line n body before other) (λ n. refl) took others (omega arith)

-- One place of a list is set.

pub set_other : {A : Type 0} (xs : List A) (i k : ℕ) (x : A) → k ≢ i → slice_get (set xs i x) k ≡ slice_get xs k
set_other [] i k x other = refl
set_other (y ∷ xs) zero zero x other = absurd (other refl)
set_other (y ∷ xs) zero (suc k) x other = refl
set_other (y ∷ xs) (suc i) zero x other = refl
set_other (y ∷ xs) (suc i) (suc k) x other = set_other xs i k x (λ e. other (ap suc e))

pub set_there : {A : Type 0} (P : A → Type 0) (xs : List A) (i : ℕ) (x : A) → P x → IfSome (slice_get (set xs i x) i) P
set_there P [] i x holds = tt
set_there P (y ∷ xs) zero x holds = holds
set_there P (y ∷ xs) (suc i) x holds = set_there P xs i x holds
