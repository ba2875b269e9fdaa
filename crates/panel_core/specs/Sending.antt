-- What a step does with what a panel keeps.
use Rattle.std.specs.Prelude.{◌≡◌, ◌<◌, ◌≤◌, ◌+◌, ◌-◌, ◌^◌, ◌&&◌, ◌++◌, ◌∷◌, if◌then◌else◌}
use Rattle.std.specs.Prelude.{ℕ, List, [], Bool, true, false, Option, Some, None}
use Rattle.std.specs.Prelude.{length, nat_le, nat_lt, slice_set, IfSome}
use Rattle.std.specs.List.{AllByRecursion}
use Rattle.std.specs.Str.{bytes_eq}
use Rattle.arc_data.specs.Digits.{is_between, is_capital_hex, is_hex, is_run}
use Rattle.arc_data.specs.Moments.{IsMoment}
use Rattle.dc09_frame.specs.declared.header.Echo.TheVariants.{Ack}
use Rattle.dc09_frame.specs.Frames.{frame_of}
use Rattle.dc09_frame.specs.Headers.{echo_body}
use Rattle.panel_rules.specs.declared.Report.{Report}
use Rattle.panel_rules.specs.Marks.{is_after}
use Rattle.panel_rules.specs.Panels.{body_of, header_of, is_bad, next_number}
use Rattle.panel_core.specs.declared.flight.Flight.{Flight}
use Rattle.panel_core.specs.Standing.{PanelValue}

-- with one event more that waits
abbrev pub pushed : PanelValue → Report → PanelValue
pushed p report = record p { waiting = p.waiting ++ report ∷ []; acked = p.acked ++ false ∷ [] }

-- with the last event that was sent acknowledged
abbrev pub acknowledged : PanelValue → PanelValue
acknowledged p = record p { flight = None; acked = slice_set p.acked (p.sent - 1) true }

-- the message that is in flight after a step at a moment: none that is late
abbrev pub still : ℕ → Option Flight → Option Flight
still now None = None
still now (Some f) = if nat_lt (f.first + 240) now then None else Some f

-- a message in flight may be repeated at a moment
abbrev pub repeats : ℕ → Flight → Bool
repeats now f = nat_le (f.last + 20) now && nat_le now (f.first + 180)

-- repeated at a moment, where it may be
abbrev pub repeated : ℕ → Flight → Flight
repeated now f = if repeats now f then record f { last = now } else f

-- with the first copy of the next event's message, where one waits and it is time
abbrev pub begin_next : ℕ → PanelValue → Report → List Report → PanelValue
begin_next now p report rest = record p {
  next = next_number p.next;
  sent = p.sent + 1;
  begun = Some now;
  flight = Some (record { report = report; number = p.next; first = now; last = now });
  waiting = rest;
}

abbrev pub begins_with : ℕ → PanelValue → List Report → Bool
begins_with now p [] = false
begins_with now p (report ∷ rest) = is_after 10 now p.begun

abbrev pub begun_with : ℕ → PanelValue → List Report → PanelValue
begun_with now p [] = p
begun_with now p (report ∷ rest) = if is_after 10 now p.begun then begin_next now p report rest else p

-- a copy is sent at a moment, by the message in flight
abbrev pub copies_with : ℕ → PanelValue → Option Flight → Bool
copies_with now p None = begins_with now p p.waiting
copies_with now p (Some f) = repeats now f

abbrev pub copied_with : ℕ → PanelValue → Option Flight → PanelValue
copied_with now p None = begun_with now p p.waiting
copied_with now p (Some f) = record p { flight = Some (repeated now f) }

-- the body of the message in flight
abbrev pub body_in_flight : PanelValue → Option Flight → Option (List ℕ)
body_in_flight p None = None
body_in_flight p (Some f) = Some (body_of p.account p.line f.number f.report)

-- the body acknowledges the message in flight
abbrev pub is_ack_of : PanelValue → List ℕ → Option Flight → Bool
is_ack_of p body None = false
is_ack_of p body (Some f) = bytes_eq body (echo_body Ack (header_of p.account p.line f.number f.report.token))

-- what stands in a buffer: the frame of the body, where there is one
abbrev pub frame_sent : Option (List ℕ) → List ℕ
frame_sent None = []
frame_sent (Some body) = frame_of body

-- the data are such as a message carries
abbrev pub IsGood : Report → Type 0
IsGood report = is_bad report.token report.content ≡ false

-- of an event that was sent, no later than the last step
pub record IsFlight (p : PanelValue) (f : Flight) : Type 0 where
  pub some : 1 ≤ p.sent
  pub number_fits : f.number ≤ 9999
  pub good : IsGood f.report
  pub first_by : f.first ≤ p.stepped
  pub last_by : f.last ≤ p.stepped

abbrev pub MayFly : PanelValue → Option Flight → Type 0
MayFly p None = Unit {0}
MayFly p (Some f) = IsFlight p f

-- what is so of every panel
pub record IsPanel (p : PanelValue) : Type 0 where
  pub account_digits : is_run is_capital_hex 3 16 p.account ≡ true
  pub line_digits : is_run is_hex 1 6 p.line ≡ true
  pub next_fits : is_between 1 9999 p.next ≡ true
  pub counted_all : length p.acked ≡ p.sent + length p.waiting
  pub many : length p.acked ≤ 2 ^ 48
  pub good_all : AllByRecursion IsGood p.waiting
  pub moment : IsMoment p.stepped
  pub begun_by : IfSome p.begun (λ b. b ≤ p.stepped)
  pub may_fly : MayFly p p.flight
