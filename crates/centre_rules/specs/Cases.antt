-- The open incidents. A case is an incident as it was opened, and the marks from its opening on, that one included.
use Rattle.std.specs.Prelude.{ℕ, ◌+◌, List, [], ◌∷◌, ◌++◌, ◌==◌, ◌&&◌, ◌||◌, Bool, true, false, not, if◌then◌else◌, map}
use Rattle.std.specs.Prelude.{Option, Some, None, is_some, nat_lt}
use Rattle.std.specs.List.{list_any, filter}
use Rattle.arc_data.specs.Classes.{priority_of}
pub use Rattle.arc_data.specs.Incidents.{has_number, is_of, Ascends}
pub use Rattle.arc_data.specs.declared.incident.Incident.{Incident}
use Rattle.arc_data.specs.declared.signal.Kind.{Kind}
use Rattle.arc_data.specs.declared.signal.Kind.TheVariants.{New, Again, Restore}
use Rattle.arc_data.specs.declared.step.Acted.{Acted}
use Rattle.centre_rules.specs.Summary.{Summary}
use Rattle.centre_rules.specs.Marks.{Mark, Adopts, Starts, Carries, Claims, Acts, Releases, Closes, Carried}

abbrev pub is_new : Kind → Bool
is_new New = true
is_new Again = true
is_new kind = false

abbrev pub is_restore : Kind → Bool
is_restore Restore = true
is_restore kind = false

-- How many signals it has: the New and Again signals of its account and class.

abbrev pub signals_at : Incident → Mark → ℕ → ℕ
signals_at i (Carries x) before = if is_of x.account x.signal.class i && is_new x.signal.kind then before + 1 else before
signals_at i m before = before

abbrev pub signals_of : Incident → List Mark → ℕ
signals_of i [] = i.signals
signals_of i (m ∷ ms) = signals_at i m (signals_of i ms)

-- Whether it is restored: the last New, Again or Restore signal of its account and class is a Restore.

abbrev pub restored_at : Incident → Mark → Bool → Bool
restored_at i (Carries x) before =
    if is_of x.account x.signal.class i && (is_new x.signal.kind || is_restore x.signal.kind)
    then is_restore x.signal.kind else before
restored_at i m before = before

abbrev pub restored_of : Incident → List Mark → Bool
restored_of i [] = i.restored
restored_of i (m ∷ ms) = restored_at i m (restored_of i ms)

-- Its claimer: the operator of the last claim of it, unless it was released or closed, a setup came into force or a run was started since.

abbrev pub holder_at : Incident → Mark → Option (List ℕ) → Option (List ℕ)
holder_at i (Claims operator number at) before = if i.number == number then Some operator else before
holder_at i (Releases number) before = if i.number == number then None else before
holder_at i (Closes number) before = if i.number == number then None else before
holder_at i (Adopts text) before = None
holder_at i (Starts at) before = None
holder_at i m before = before

abbrev pub holder_of : Incident → List Mark → Option (List ℕ)
holder_of i [] = i.holder
holder_of i (m ∷ ms) = holder_at i m (holder_of i ms)

-- While it has a claimer, the moment of the last claim or act of it, and otherwise 0. The claimer is that before the mark.

abbrev pub touched_at : Incident → Mark → Option (List ℕ) → ℕ → ℕ
touched_at i (Claims operator number at) holder before = if i.number == number then at else before
touched_at i (Acts number acted) holder before = if (i.number == number) && is_some holder then acted.at else before
touched_at i (Releases number) holder before = if i.number == number then 0 else before
touched_at i (Closes number) holder before = if i.number == number then 0 else before
touched_at i (Adopts text) holder before = 0
touched_at i (Starts at) holder before = 0
touched_at i m holder before = before

abbrev pub touched_of : Incident → List Mark → ℕ
touched_of i [] = i.touched
touched_of i (m ∷ ms) = touched_at i m (holder_of i ms) (touched_of i ms)

-- Its acts, in order.

abbrev pub acts_at : Incident → Mark → List Acted → List Acted
acts_at i (Acts number acted) before = if i.number == number then before ++ acted ∷ [] else before
acts_at i m before = before

abbrev pub acts_of : Incident → List Mark → List Acted
acts_of i [] = i.acts
acts_of i (m ∷ ms) = acts_at i m (acts_of i ms)

pub record Case : Type 0 where
  pub base : Incident
  pub later : List Mark

-- the incident as it is now
abbrev pub incident_of : Case → Incident
incident_of c = record c.base {
  signals = signals_of c.base c.later;
  restored = restored_of c.base c.later;
  holder = holder_of c.base c.later;
  touched = touched_of c.base c.later;
  acts = acts_of c.base c.later;
}

-- how many were opened, and the cases of those that are open, in order of number
pub record Cases : Type 0 where
  pub opened : ℕ
  pub cases : List Case

abbrev pub begun : Incident → Case
begun i = record { base = i; later = [] }

abbrev pub gone_on : Mark → Case → Case
gone_on m c = record c { later = m ∷ c.later }

-- a New or Again signal of a class with a priority opens an incident where none of its account and class is open
abbrev pub opens : Carried → List Incident → Bool
opens x is =
    is_new x.signal.kind && nat_lt 0 (priority_of x.signal.class) && not (list_any (is_of x.account x.signal.class) is)

-- an incident before the signal that opens it
abbrev pub fresh : ℕ → Carried → Incident
fresh number x = record {
  number = number;
  account = x.account;
  class = x.signal.class;
  code = x.signal.code;
  at = x.at;
  signals = 0;
  restored = false;
  holder = None;
  touched = 0;
  steps = x.steps;
  acts = [];
  via = x.via;
}

-- where the mark is a signal that opens one, a case more, with the next number
abbrev pub opened_by : Mark → Cases → Cases
opened_by (Carries x) c =
    if opens x (map incident_of c.cases)
    then record { opened = c.opened + 1; cases = c.cases ++ begun (fresh (c.opened + 1) x) ∷ [] } else c
opened_by m c = c

-- without the one that the mark closes
abbrev pub left_by : Mark → List Case → List Case
left_by (Closes number) cs = filter (λ c. not (has_number number c.base)) cs
left_by m cs = cs

abbrev pub cases_after : Mark → Cases → Cases
cases_after m c = record (opened_by m c) { cases = left_by m (map (gone_on m) (opened_by m c).cases) }

abbrev pub cases : Summary → List Mark → Cases
cases s [] = record { opened = s.opened; cases = map begun s.incidents }
cases s (m ∷ ms) = cases_after m (cases s ms)

-- how many incidents were opened
abbrev pub opened : Summary → List Mark → ℕ
opened s ms = (cases s ms).opened

-- those that are open, in order of number
abbrev pub incidents : Summary → List Mark → List Incident
incidents s ms = map incident_of (cases s ms).cases
