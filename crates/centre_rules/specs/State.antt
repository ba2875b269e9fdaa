-- What a centre keeps of a history.
use Rattle.std.specs.Prelude.{◌≡◌, ◌<◌, ◌≤◌, ◌^◌, ◌+◌, ℕ, List, [], ◌∷◌, true, length, take}
use Rattle.arc_data.specs.WellFormed.{IsWellFormed}
use Rattle.arc_data.specs.declared.event.Event.{Event}
use Rattle.arc_data.specs.declared.reply.Reply.{Reply}
use Rattle.centre_rules.specs.Limits.{messages_kept}
use Rattle.centre_rules.specs.Summary.{Summary, row_of}
use Rattle.centre_rules.specs.Marks.{Mark, Carried, text, start, keeps_row, heard, failed, opening}
use Rattle.centre_rules.specs.Marks.{text_at, start_at, keeps_row_at, has_row, heard_at, failed_at, opening_at, messages_at}
use Rattle.centre_rules.specs.Cases.{opened, incidents}
use Rattle.centre_rules.specs.Tables.{opened_after, table_after}
use Rattle.centre_rules.specs.Carrying.{carried_by}
use Rattle.centre_rules.specs.History.{Entry, recorded, last, marks, is_recorded, IsMoment}
use Rattle.centre_rules.specs.Answers.{recent, answer_over, IsLegal}

-- Two lists of marks, each over its summary, tell the same of everything that an answer asks, and there are rows of the same accounts.
pub record Same (s : Summary) (ms : List Mark) (t : Summary) (ns : List Mark) : Type 0 where
  pub text : text s ms ≡ text t ns
  pub start : start s ms ≡ start t ns
  pub opened : opened s ms ≡ opened t ns
  pub incidents : incidents s ms ≡ incidents t ns
  pub rows : (account : List ℕ) → keeps_row s ms account ≡ keeps_row t ns account
  pub heard : (account : List ℕ) → heard s ms account ≡ heard t ns account
  pub failed : (account : List ℕ) → failed s ms account ≡ failed t ns account
  pub opening : (account : List ℕ) → opening s ms account ≡ opening t ns account
  pub recent : (account : List ℕ) → recent s ms account ≡ recent t ns account

-- for how many open incidents there is memory, those that are open included, and for how many further accounts
pub record Rooms : Type 0 where
  pub incidents : ℕ
  pub accounts : ℕ

-- how many entries there were, what is kept of them, and for how much more there is memory
pub record State : Type 0 where
  pub entries : ℕ
  pub sum : Summary
  pub rooms : Rooms

-- the state is that of the history over a summary
pub record StandsFor (b : Summary) (s : State) (h : List Entry) : Type 0 where
  pub legal : IsLegal b h
  pub entries : s.entries ≡ b.recorded + length h
  pub recorded : s.sum.recorded ≡ b.recorded + length (recorded h)
  pub last : s.sum.last ≡ last b h
  pub same : Same s.sum [] b (marks b h)

-- what has been worked out for an event over a state: its moment, its reply, and the signals that it carries
pub record Plan : Type 0 where
  pub event : Event
  pub at : ℕ
  pub reply : Reply
  pub carried : List Carried
  pub of : State

-- What a plan is worth: its reply is the answer over its state, and where it is recorded, its signals are those of the event.
pub record IsSound (p : Plan) : Type 0 where
  pub event : IsWellFormed p.event
  pub answer : p.reply ≡ answer_over p.of.sum [] p.event p.at
  pub carried : is_recorded p.reply ≡ true → p.carried ≡ carried_by p.of.sum [] p.event p.at
  pub late : p.of.sum.last ≤ p.at
  pub moment : IsMoment p.at
  pub few : p.of.entries < 2 ^ 48

-- the entry that follows
abbrev pub entry_of : ℕ → Plan → Entry
entry_of caller p = record { caller = caller; event = p.event; at = p.at; reply = p.reply }

-- t is what an entry makes of a state
pub record Grows (s t : State) (e : Entry) : Type 0 where
  pub entries : t.entries ≡ s.entries + 1
  pub recorded : t.sum.recorded ≡ s.sum.recorded + length (recorded (e ∷ []))
  pub last : t.sum.last ≡ last s.sum (e ∷ [])
  pub same : Same t.sum [] s.sum (marks s.sum (e ∷ []))

-- t is what one mark makes of s in place; of the messages of an account the last 32 count
pub record IsMarked (m : Mark) (s t : Summary) : Type 0 where
  pub text : t.text ≡ text_at m s.text
  pub start : t.start ≡ start_at m s.start
  pub opened : t.opened ≡ opened_after m s.opened s.incidents
  pub incidents : t.incidents ≡ table_after m s.opened s.incidents
  pub rows : (account : List ℕ) → has_row t.rows account ≡ keeps_row_at account m (has_row s.rows account)
  pub heard : (account : List ℕ) → (row_of t account).heard ≡ heard_at account m (row_of s account).heard
  pub failed : (account : List ℕ) → (row_of t account).failed ≡ failed_at account m (row_of s account).failed
  pub opening : (account : List ℕ) → (row_of t account).opening ≡ opening_at account m (row_of s account).opening
  pub recent : (account : List ℕ)
      → take messages_kept (row_of t account).messages ≡ take messages_kept (messages_at account m (row_of s account).messages)
