-- The marks of a recorded event, taken up by the rows of the accounts and the table of incidents.
use Rattle.std.specs.Prelude.{◌≡◌, ◌≤◌, ◌^◌, ◌+◌, ℕ, List, [], ◌∷◌, map, length, Option, IsSome}
use Rattle.std.specs.List.{find, All}
use Rattle.arc_data.specs.Incidents.{has_number}
use Rattle.arc_data.specs.declared.event.Event.{Event}
use Rattle.arc_data.specs.declared.event.Event.TheVariants.{Adopt, Start, Message as Sent, Beat, Tick, Claim, Next, Act as Do}
use Rattle.arc_data.specs.declared.event.Event.TheVariants.{Release, Close, Show, List as Rows}
use Rattle.arc_data.specs.declared.incident.Incident.{Incident}
use Rattle.arc_data.specs.declared.reply.Reply.{Reply}
use Rattle.arc_data.specs.declared.reply.Reply.TheVariants.{Recorded, Closed}
use Rattle.known_accounts.specs.declared.supervised_accounts.FoundAccount.{FoundAccount}
use Rattle.known_accounts.specs.Rows.{RowsValue, HasRoom}
use Rattle.known_accounts.specs.Supervised.{IsFoundOf}
use Rattle.centre_rules.specs.Summary.{Summary, AccountRow}
use Rattle.centre_rules.specs.Marks.{Mark, Adopts, Starts, Sends, Hears, Carries, Carried}
use Rattle.centre_rules.specs.History.{IsMoment, onto, acted_by, claim_marks, act_marks, release_marks, close_marks}
use Rattle.centre_rules.specs.State.{Same}
use Rattle.open_incidents.specs.Marked.{IsFew, HaveActRoom, FitsAct}
use Rattle.incidents.specs.Tables.{TableValue}

-- the summary that rows and a table make up
abbrev pub sum_of : ℕ → ℕ → Option (List ℕ) → RowsValue → TableValue → Summary
sum_of last recorded text v t = record {
  last = last;
  recorded = recorded;
  opened = t.opened;
  start = v.start;
  text = text;
  rows = v.rows;
  incidents = t.incidents;
}

-- all but an Adopt, whose mark is not in the rows
abbrev pub IsNoAdopt : Event → Type 0
IsNoAdopt (Adopt text) = ⊥
IsNoAdopt event = Unit {0}

-- the accounts of which a recorded event with these signals tells: a message and a heartbeat of their own, a Tick of those of its signals
abbrev pub accounts_of : Event → List Carried → List (List ℕ)
accounts_of (Sent m via) xs = m.account ∷ []
accounts_of (Beat account) xs = account ∷ []
accounts_of event xs = map (λ (x : Carried). x.account) xs

-- each signal is of the account
abbrev pub AreOf : List ℕ → List Carried → Type 0
AreOf account xs = All (λ (x : Carried). x.account ≡ account) xs

-- those that a message carries are of its account
abbrev pub AreOwn : Event → List Carried → Type 0
AreOwn (Sent m via) xs = AreOf m.account xs
AreOwn event xs = Unit {0}

-- the account of a message or a heartbeat was looked up in this setup and these rows
abbrev pub IsFoundFor : Event → FoundAccount → Option (List ℕ) → List AccountRow → Type 0
IsFoundFor (Sent m via) found text rows = IsFoundOf m.account found text rows
IsFoundFor (Beat account) found text rows = IsFoundOf account found text rows
IsFoundFor event found text rows = Unit {0}

-- the marks of a recorded event that carries these signals
abbrev pub marks_with : List Carried → Event → ℕ → Reply → List Mark
marks_with xs (Adopt text) at reply = Adopts text ∷ []
marks_with xs Start at reply = Starts at ∷ []
marks_with xs (Sent m via) at reply = Sends m at ∷ map Carries xs
marks_with xs (Beat account) at reply = Hears account at ∷ []
marks_with xs Tick at reply = map Carries xs
marks_with xs (Claim operator number) at reply = claim_marks operator at reply
marks_with xs (Next operator) at reply = claim_marks operator at reply
marks_with xs (Do operator number step outcome) at reply = act_marks (acted_by operator step outcome at) reply
marks_with xs (Release operator number) at reply = release_marks reply
marks_with xs (Close operator number code) at reply = close_marks reply
marks_with xs (Show number) at reply = []
marks_with xs Rows at reply = []

-- rows w and a table u are rows v and a table t after these marks, the oldest first
pub record Takes (ms : List Mark) (v w : RowsValue) (t u : TableValue) : Type 0 where
  pub same : (l r k q : ℕ) (text : Option (List ℕ)) → Same (sum_of k q text w u) [] (sum_of l r text v t) (onto ms [])
  pub few : (n : ℕ) → IsFew n t.opened t.incidents → IsFew (n + 4000) u.opened u.incidents
  pub acts : HaveActRoom t.incidents → HaveActRoom u.incidents

-- a recorded act is of the expected step of an open incident that its operator claimed; a closed incident is open
abbrev pub Fits : Event → ℕ → Reply → List Incident → Type 0
Fits (Do operator number step outcome) at reply is =
    (n left : ℕ) → reply ≡ Recorded n left → FitsAct n (acted_by operator step outcome at) is
Fits (Close operator number code) at reply is = (n : ℕ) → reply ≡ Closed n → IsSome (find (has_number n) is)
Fits event at reply is = Unit {0}

-- each signal comes at a moment
abbrev pub AreOfMoments : List Carried → Type 0
AreOfMoments xs = All (λ (x : Carried). IsMoment x.at) xs

-- the marks of the event can be taken up
pub record MayTake (event : Event) (at : ℕ) (reply : Reply) (carried : List Carried) (v : RowsValue) (t : TableValue) : Type 0 where
  pub bound : IsFew (2 ^ 61) t.opened t.incidents
  pub acts : HaveActRoom t.incidents
  pub few : length carried ≤ 4000
  pub moments : AreOfMoments carried
  pub own : AreOwn event carried
  pub accounts : HasRoom (accounts_of event carried) v
  pub incidents : length t.incidents + length carried ≤ t.room
  pub fits : Fits event at reply t.incidents
