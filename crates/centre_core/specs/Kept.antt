-- What a centre keeps, beside its state.
use Rattle.std.specs.Prelude.{◌≡◌, ◌<◌, ◌≤◌, ◌^◌, ◌+◌, ◌*◌, ℕ, List, [], true, length, Option, Some, None, IsOk, IsErr, IfSome}
use Rattle.arc_data.specs.declared.event.Event.{Event}
use Rattle.arc_data.specs.declared.event.Event.TheVariants.{Adopt, Message as Sent, Beat, Tick}
use Rattle.arc_data.specs.declared.reply.Reply.{Reply}
use Rattle.alarm_rules.specs.Setups.{setup_of}
use Rattle.centre_rules.specs.Summary.{Summary}
use Rattle.centre_rules.specs.Marks.{Carried}
use Rattle.centre_rules.specs.Carrying.{carried_by}
use Rattle.centre_rules.specs.History.{is_recorded, marks_of, onto, IsMoment}
use Rattle.centre_rules.specs.Answers.{answer_over}
use Rattle.centre_rules.specs.State.{State, Rooms, Same, Plan, IsSound}
use Rattle.centre_core.specs.Taken.{IsFoundFor, accounts_of}
use Rattle.open_incidents.specs.Marked.{IsFew, HaveActRoom}
use Rattle.incidents.specs.Tables.{TableValue}
use Rattle.known_accounts.specs.declared.supervised_accounts.FoundAccount.{FoundAccount}
use Rattle.known_accounts.specs.Rows.{lacking}

-- a setup that is kept is the one that its text means, and a recorded entry raises no count by more than 4,000
pub record IsCentre (entries recorded last : ℕ) (text : Option (List ℕ)) (t : TableValue) : Type 0 where
  pub few : recorded ≤ entries
  pub bound : entries ≤ 2 ^ 48
  pub moment : IsMoment last
  pub valid : IfSome text (λ x. IsOk (setup_of x))
  pub counts : IsFew (recorded * 4000) t.opened t.incidents
  pub acts : HaveActRoom t.incidents

-- Setups.

-- the setup read of an event: that of an Adopt's text, where it is one
abbrev pub IsSetupOf : List ℕ → Option (List ℕ) → Type 0
IsSetupOf text None = IsErr (setup_of text)
IsSetupOf text (Some t) = (t ≡ text) × IsOk (setup_of text)

abbrev pub IsAdopted : Event → Option (List ℕ) → Type 0
IsAdopted (Adopt text) setup = IsSetupOf text setup
IsAdopted event setup = setup ≡ None

-- the setup that a recorded event brings into force
abbrev pub CarriesSetup : Event → Option (List ℕ) → Type 0
CarriesSetup (Adopt text) setup = (setup ≡ Some text) × IsOk (setup_of text)
CarriesSetup event setup = Unit {0}

-- neither a Message nor a Tick, which carry signals, nor a Beat, whose account is looked up
abbrev pub IsPlain : Event → Type 0
IsPlain (Sent m via) = ⊥
IsPlain (Beat account) = ⊥
IsPlain Tick = ⊥
IsPlain event = Unit {0}

-- Room.

-- other rooms are no less than these
pub record NoLess (r s : Rooms) : Type 0 where
  pub incidents : r.incidents ≤ s.incidents
  pub accounts : r.accounts ≤ s.accounts

-- there is room for what a recorded event with these signals brings
pub record HasRoomFor (event : Event) (carried : List Carried) (s : State) : Type 0 where
  pub accounts : length (lacking s.sum.rows (accounts_of event carried)) ≤ s.rooms.accounts
  pub incidents : length s.sum.incidents + length carried ≤ s.rooms.incidents

-- how many rows lack for what an event at a moment tells of
abbrev pub needed : Summary → Event → ℕ → ℕ
needed s event at = length (lacking s.rows (accounts_of event (carried_by s [] event at)))

-- What has been worked out.

-- for an event at a moment, over a summary: the reply, and where it is recorded, the signals
pub record IsWorked (s : Summary) (event : Event) (at : ℕ) (reply : Reply) (signals : List Carried) : Type 0 where
  pub answer : reply ≡ answer_over s [] event at
  pub carried : is_recorded reply ≡ true → signals ≡ carried_by s [] event at
  pub few : length signals ≤ 4000

-- it is sound, the setup of an Adopt was read, the account of a message or a heartbeat looked up, and there is room
pub record IsReady (p : Plan) (setup : Option (List ℕ)) (found : FoundAccount) : Type 0 where
  pub sound : IsSound p
  pub adopted : IsAdopted p.event setup
  pub few : length p.carried ≤ 4000
  pub looked_up : is_recorded p.reply ≡ true → IsFoundFor p.event found p.of.sum.text p.of.sum.rows
  pub room : is_recorded p.reply ≡ true → HasRoomFor p.event p.carried p.of

-- a recorded entry of this event can be kept, once it is counted
pub record MayRecord (s : State) (event : Event) (at : ℕ) (reply : Reply) (read : Option (List ℕ)) (carried : List Carried) : Type 0 where
  pub count : s.sum.recorded < s.entries
  pub moment : IsMoment at
  pub setup : CarriesSetup event read
  pub worked : IsWorked s.sum event at reply carried
  pub recorded : is_recorded reply ≡ true
  pub room : HasRoomFor event carried s

-- t is what the state keeps after a recorded event, whose entry is counted already
pub record Records (s t : State) (event : Event) (at : ℕ) (reply : Reply) : Type 0 where
  pub entries : t.entries ≡ s.entries
  pub recorded : t.sum.recorded ≡ s.sum.recorded + 1
  pub last : t.sum.last ≡ at
  pub same : Same t.sum [] s.sum (onto (marks_of s.sum [] event at reply) [])
