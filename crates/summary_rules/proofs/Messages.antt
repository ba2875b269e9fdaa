-- The messages of each account have signals, and their moments don't fall.
use Rattle.std.proofs.Common.{◌≡◌, ◌≤◌, ℕ, List, [], ◌∷◌, take, Bool, true, false, cond, Option, Some, arith}
use Rattle.std.specs.List.{find}
use Rattle.std.specs.Str.{bytes_eq}
use Rattle.centre_rules.specs.Summary.{Summary, AccountRow, Past, row_or}
use Rattle.centre_rules.specs.Marks.{Mark, Sends, messages}
use Rattle.centre_rules.specs.Standing.{standing}
use Rattle.centre_rules.specs.History.{marks, last}
use Rattle.centre_rules.specs.Sums.{account_row, names}
use Rattle.summary_rules.specs.Lists.{Every}
use Rattle.summary_rules.specs.Conditions.{HasRowBy, HasSignals, IsNoOlder, AreMessages}
use Rattle.summary_rules.specs.Laws.{MessagesStay}
use Rattle.summary_rules.proofs.Everies.{every_weaker, every_take, every_made, two_take}
use Rattle.summary_rules.proofs.Fine.{IsFine}
use Rattle.summary_rules.proofs.Keeping.{kept}

abbrev PastBy : ℕ → Past → Type 0
PastBy last p = p.at ≤ last

-- what is known of the messages of an account up to a moment
record AreBy (at : ℕ) (ps : List Past) : Type 0 where
  messages : AreMessages ps
  moments : Every (PastBy at) ps

abbrev AllBy : Summary → List Mark → ℕ → Type 0
AllBy s ms at = (a : List ℕ) → AreBy at (messages s ms a)

later : (s : Summary) (ms : List Mark) (low at : ℕ) → low ≤ at → AllBy s ms low → AllBy s ms at
later s ms low at le w a = record { messages = (w a).messages; moments = every_weaker (PastBy low) (PastBy at) (λ p q. omega (arith, q, le)) (messages s ms a) (w a).moments }

newest : (at : ℕ) (p : Past) (ps : List Past) → p.at ≡ at → HasSignals p → AreBy at ps → AreBy at (p ∷ ps)
newest at p ps is signals w = record {
  messages = record {
    signals = (signals, w.messages.signals);
    moments = (every_weaker (PastBy at) (IsNoOlder p) (λ q le. omega (arith, le, is)) ps w.moments, w.messages.moments);
  };
  moments = (omega (arith, is), w.moments);
}

newest_if : (at : ℕ) (b : Bool) (p : Past) (ps : List Past) → p.at ≡ at → HasSignals p → AreBy at ps → AreBy at (cond b (p ∷ ps) ps)
newest_if at true p ps is signals w = newest at p ps is signals w
newest_if at false p ps is signals w = w

mark : (s : Summary) (ms : List Mark) (at : ℕ) (m : Mark) → IsFine (standing s ms at) at m → AllBy s ms at → AllBy s (m ∷ ms) at
mark s ms at (Sends m moment) fine w = λ a. newest_if at (bytes_eq m.account a) (record { message = m; at = moment }) (messages s ms a) fine.moment_is fine.signals (w a)
mark s ms at m fine w = w

row_by : (last : ℕ) (rows : List AccountRow) (a : List ℕ) (start : Option ℕ) → Every (HasRowBy last) rows → Every (λ (r : AccountRow). AreMessages r.messages) rows
    → AreBy last (row_or (find (λ r. bytes_eq r.account a) rows) a start).messages
row_by last [] a start v w = record { messages = record { signals = tt; moments = tt }; moments = tt }
row_by last (r ∷ rows) a start v w = by (bytes_eq r.account a) (row_by last rows a start v.1 w.1)
  where
    by : (b : Bool) → AreBy last (row_or (find (λ r. bytes_eq r.account a) rows) a start).messages → AreBy last (row_or (cond b (Some r) (find (λ r. bytes_eq r.account a) rows)) a start).messages
    by true next = record { messages = w.0; moments = v.0.messages }
    by false next = next

taken : (ps : List Past) → AreMessages ps → AreMessages (take 32 ps)
taken ps w = record { signals = every_take HasSignals 32 ps w.signals; moments = two_take IsNoOlder 32 ps w.moments }

pub messages_stay : MessagesStay
messages_stay s h moments w legal =
    let all = kept {J = AllBy s} s (record { later = later s; mark = mark s }) (λ a. row_by s.last s.rows a s.start moments.rows w) h legal in
    every_made (λ (r : AccountRow). AreMessages r.messages) (account_row s (marks s h)) (λ a. taken (messages s (marks s h) a) (all a).messages) (names s (marks s h))
