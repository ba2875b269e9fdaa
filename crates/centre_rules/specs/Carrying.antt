-- The signals that an entry carries, in their order.
use Rattle.std.specs.Prelude.{ℕ, ◌+◌, List, [], ◌∷◌, ◌++◌, ◌&&◌, Bool, true, false, not, if◌then◌else◌, map, length, codes}
use Rattle.std.specs.Prelude.{Option, Some, unwrap_or, nat_lt}
use Rattle.std.specs.List.{filter, flat_map}
use Rattle.std.specs.Option.{option_map_or}
use Rattle.arc_data.specs.declared.event.Event.{Event}
use Rattle.arc_data.specs.declared.event.Event.TheVariants.{Message as Sent, Tick}
use Rattle.arc_data.specs.declared.event.Message.{Message}
use Rattle.arc_data.specs.declared.signal.Class.{Class}
use Rattle.arc_data.specs.declared.signal.Class.TheVariants.{CommFail, Irregular, LateClose}
use Rattle.arc_data.specs.declared.signal.Kind.{Kind}
use Rattle.arc_data.specs.declared.signal.Kind.TheVariants.{New, Opening}
use Rattle.arc_data.specs.declared.signal.Signal.{Signal}
use Rattle.alarm_rules.specs.Setups.{Setup, Account, account_of, steps_of}
use Rattle.alarm_rules.specs.Weeks.{in_hours, next_close}
use Rattle.alarm_rules.specs.Signals.{signals}
use Rattle.centre_rules.specs.Limits.{late_seconds}
use Rattle.centre_rules.specs.Summary.{Summary}
use Rattle.centre_rules.specs.Marks.{Mark, Carried, force, heard, failed, opening}

-- a signal of an account, by a line or none, and the steps of an incident that it would open
abbrev pub carried : Setup → List ℕ → ℕ → Bool → List ℕ → Signal → Carried
carried setup account at by_tick via signal = record {
  account = account;
  signal = signal;
  at = at;
  by_tick = by_tick;
  steps = steps_of setup account signal.class at;
  via = via;
}

-- a signal that no panel sent: it is New, and its code is `-`; it came by no line
abbrev pub own_signal : Class → Signal
own_signal class = record { class = class; kind = New; code = codes "-" }

-- before the first Adopt nothing is carried
abbrev pub if_in_force : Option Setup → (Setup → List Carried) → List Carried
if_in_force setup under = option_map_or under setup []

-- Messages.

-- an opening outside the windows of an account that has windows, whether it is open already or not
abbrev pub is_irregular : Option Account → Kind → ℕ → Bool
is_irregular (Some account) Opening at = nat_lt 0 (length account.week.windows) && not (in_hours account.week at)
is_irregular account kind at = false

-- a signal that is sent, and the Irregular signal that follows it
abbrev pub carried_sent : Setup → List ℕ → List ℕ → ℕ → Signal → List Carried
carried_sent setup account via at signal =
    carried setup account at false via signal
    ∷ (if is_irregular (account_of setup account) signal.kind at
    then carried setup account at false [] (own_signal Irregular) ∷ [] else [])

abbrev pub sent : Summary → List Mark → Message → List ℕ → ℕ → List Carried
sent s ms m via at =
    if_in_force (force s ms) (λ setup. flat_map (carried_sent setup m.account via at) (unwrap_or (signals m.token m.content) []))

-- Ticks.

-- there is such a moment, and more than so many seconds have passed since
abbrev pub is_past : Option ℕ → ℕ → ℕ → Bool
is_past moment wait at = option_map_or (λ t. nat_lt (t + wait) at) moment false

-- an account that has an interval, was last heard longer ago, and is not failed
abbrev pub is_silent : Summary → List Mark → ℕ → Account → Bool
is_silent s ms at account =
    option_map_or (λ interval. is_past (heard s ms account.number) interval at && not (failed s ms account.number)) account.beat false

-- an account that is open, although it should be closed since more than 900 seconds: they have passed since the first closing moment
-- behind its opening, and no LateClose was raised since
abbrev pub is_late : Summary → List Mark → ℕ → Account → Bool
is_late s ms at account =
    option_map_or (λ o. not o.late && is_past (next_close account.week o.at) late_seconds at) (opening s ms account.number) false

-- a signal of each account that passes the test, in the setup's order
abbrev pub raised_where : (Account → Bool) → Class → ℕ → Setup → List Carried
raised_where test class at setup = map (λ a. carried setup a.number at true [] (own_signal class)) (filter test setup.accounts)

-- the signals that a Tick raises: first the CommFail signals, and then the LateClose signals
abbrev pub raised : Summary → List Mark → ℕ → List Carried
raised s ms at =
    if_in_force (force s ms)
    (λ setup. raised_where (is_silent s ms at) CommFail at setup ++ raised_where (is_late s ms at) LateClose at setup)

-- the signals that a recorded event carries
abbrev pub carried_by : Summary → List Mark → Event → ℕ → List Carried
carried_by s ms (Sent m via) at = sent s ms m via at
carried_by s ms Tick at = raised s ms at
carried_by s ms event at = []
