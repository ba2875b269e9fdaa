-- The law of a panel and a centre: what a panel sends, a centre records once and in order.
use Rattle.std.specs.Prelude.{◌≡◌, ◌<◌, ℕ, List, [], ◌∷◌, map, Option, Some}
use Rattle.std.specs.List.{AllByRecursion, filter_map, filter}
use Rattle.std.specs.Option.{option_map}
use Rattle.arc_data.specs.declared.event.Message.{Message}
use Rattle.centre_rules.specs.History.{Entry, recorded}
use Rattle.centre_laws.specs.Schedules.{IsSchedule, Item, history, ideal_list}
use Rattle.centre_laws.specs.Spacing.{IsWellSpaced, message_in, is_account}
use Rattle.panel_rules.specs.declared.Fate.TheVariants.{Acked}
use Rattle.panel_rules.specs.Marks.{fate, numbered, taken}
use Rattle.panel_laws.specs.Worlds.{World, IsWorld, IsAmong, marks_after, message_of, schedule_of}

-- the Messages of an account among entries
abbrev pub messages_among : List ℕ → List Entry → List Message
messages_among account h = filter_map (λ e. message_in e.event) (filter (λ e. is_account account (message_in e.event)) h)

-- the message of an event of the panel, where it took that event
abbrev pub event_message : World → ℕ → Option Message
event_message w n = option_map (message_of w.setting n) (numbered n (taken (marks_after w.setting w.steps)))

-- each number is greater than those behind it
abbrev pub Falls : List ℕ → Type 0
Falls [] = Unit {0}
Falls (n ∷ ns) = AllByRecursion (λ k. k < n) ns × Falls ns

-- the sendings of which an entry stands in an ideal list, the newest first: a sending of the panel's message has the number of its event
abbrev pub numbers_of : List Item → List ℕ
numbers_of items = filter_map (λ i. i.number) items

-- The Messages of the account that the centre has recorded are those of these events of the panel, in their order and none twice, the
-- newest first: just the events of whose sendings an entry stands. The events whose fate is Acked are among them.
pub record StandInOrder (w : World) : Type 0 where
  pub events : List ℕ
  pub standing : events ≡ numbers_of (ideal_list (schedule_of w))
  pub order : Falls events
  pub messages : map Some (messages_among w.setting.account (recorded (history (schedule_of w)))) ≡ map (event_message w) events
  pub acknowledged : (n : ℕ) → fate (marks_after w.setting w.steps) n ≡ Acked → IsAmong n events

-- what a world makes is a schedule, and it is well spaced; and the panel's events stand in order
pub record IsInOrder (w : World) : Type 0 where
  pub schedule : IsSchedule (schedule_of w)
  pub spaced : IsWellSpaced (schedule_of w)
  pub stand : StandInOrder w

-- the premise is the world alone
abbrev pub PanelsStandInOrder : Type 0
PanelsStandInOrder = (w : World) → IsWorld w → IsInOrder w
