-- What a panel keeps, and for which happenings it stands.
use Rattle.std.specs.Prelude.{◌≡◌, ◌<◌, ◌≤◌, ◌+◌, ◌-◌, ◌||◌, ℕ, List, [], Bool, true, false, Option, Some, None}
use Rattle.std.specs.Prelude.{length, nat_le, slice_get, slice_index_or}
use Rattle.std.specs.List.{list_all}
use Rattle.panel_rules.specs.declared.Report.{Report}
use Rattle.panel_rules.specs.Marks.{Mark, copies, count, first_copy, is_acked, is_late, last_copy, numbered, steps, taken}
use Rattle.panel_rules.specs.Panels.{Setting, Happening, marks, number, number_after}
use Rattle.panel_core.specs.declared.flight.Flight.{Flight}

-- account and line; the number of the next message; of how many events the message was sent; when the last of these was sent first; the
-- moment of the last step; the message in flight; the events that wait, the oldest first; and of each event whether it is acknowledged
pub record PanelValue : Type 0 where
  pub account : List ℕ
  pub line : List ℕ
  pub next : ℕ
  pub sent : ℕ
  pub begun : Option ℕ
  pub stepped : ℕ
  pub flight : Option Flight
  pub waiting : List Report
  pub acked : List Bool

abbrev pub value_of : List ℕ → List ℕ → ℕ → ℕ → Option ℕ → ℕ → Option Flight → List Report → List Bool → PanelValue
value_of account line next sent begun stepped flight waiting acked = record {
  account = account;
  line = line;
  next = next;
  sent = sent;
  begun = begun;
  stepped = stepped;
  flight = flight;
  waiting = waiting;
  acked = acked;
}

-- A copy of the message of event n was sent, and it is acknowledged or given up.
pub record HasEnded (n : ℕ) (ms : List Mark) : Type 0 where
  pub first : ℕ
  pub copied : first_copy n ms ≡ Some first
  pub over : (is_acked n ms || is_late ms first) ≡ true

-- This is the message of event n, which is in flight.
pub record Flies (s : Setting) (ms : List Mark) (n : ℕ) (f : Flight) : Type 0 where
  pub some : 1 ≤ n
  pub number_is : f.number ≡ number s n
  pub reports : numbered n (taken ms) ≡ Some f.report
  pub first_at : first_copy n ms ≡ Some f.first
  pub last_at : last_copy n ms ≡ Some f.last
  pub unacked : is_acked n ms ≡ false
  pub timely : is_late ms f.first ≡ false

-- event n, the last one of which a copy was sent, if any was, is in flight or has ended
abbrev pub IsLast : Setting → List Mark → ℕ → Option Flight → Type 0
IsLast s ms n None = 1 ≤ n → HasEnded n ms
IsLast s ms n (Some f) = Flies s ms n f

-- The panel is set up so, and these are its marks.
pub record Keeps (s : Setting) (ms : List Mark) (p : PanelValue) : Type 0 where
  pub account_is : p.account ≡ s.account
  pub line_is : p.line ≡ s.line
  pub next_is : p.next ≡ number_after s p.sent
  pub counted : count ms ≡ p.sent + length p.waiting
  pub waits : (k : ℕ) → k < length p.waiting → numbered (p.sent + 1 + k) (taken ms) ≡ slice_get p.waiting k
  pub unsent : (n : ℕ) → p.sent < n → copies n ms ≡ []
  pub unheard : (n : ℕ) → p.sent < n → is_acked n ms ≡ false
  pub ended : (n : ℕ) → 1 ≤ n → n < p.sent → HasEnded n ms
  pub last_is : IsLast s ms p.sent p.flight
  pub begun_at : first_copy p.sent ms ≡ p.begun
  pub stepped_by : list_all (λ t. nat_le t p.stepped) (steps ms) ≡ true
  pub acked_are : (n : ℕ) → 1 ≤ n → slice_index_or p.acked (n - 1) false ≡ is_acked n ms

-- The panel is set up so, and all this happened to it.
abbrev pub StandsFor : Setting → List Happening → PanelValue → Type 0
StandsFor s h p = Keeps s (marks s h) p
