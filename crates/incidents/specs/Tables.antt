-- What calls do to a table of open incidents.
use Rattle.std.specs.Prelude.{◌≡◌, ◌≤◌, ℕ, ◌+◌, List, [], ◌∷◌, ◌++◌, true, false, not, if◌then◌else◌}
use Rattle.std.specs.Prelude.{Option, None, is_some, length, map}
use Rattle.std.specs.List.{filter, find}
use Rattle.std.specs.Option.{option_map}
use Rattle.arc_data.specs.Incidents.{has_number, is_of, Ascends, Each}
use Rattle.arc_data.specs.declared.incident.Incident.{Incident}
use Rattle.arc_data.specs.declared.signal.Class.{Class}
use Rattle.arc_data.specs.declared.step.Acted.{Acted}
use Rattle.arc_data.specs.declared.step.Step.{Step}
use Rattle.incidents.specs.declared.slots.Former.{Former}
use Rattle.incidents.specs.Index.{IndexValue, number_in}

-- how many incidents were opened, those that are open, and for how many there is memory, the open ones included
pub record TableValue : Type 0 where
  pub opened : ℕ
  pub incidents : List Incident
  pub room : ℕ

abbrev pub number_of : Option Incident → Option ℕ
number_of found = option_map (λ i. i.number) found

-- no two are of one account and class
abbrev pub IsSingle : List Incident → Type 0
IsSingle [] = Unit {0}
IsSingle (i ∷ is) = Each (λ j. is_of i.account i.class j ≡ false) is × IsSingle is

-- numbers rise up to the number opened, no two are of one account and class, and there is the memory that is promised
pub record IsTable (opened : ℕ) (incidents : List Incident) (room memory : ℕ) : Type 0 where
  pub ascends : Ascends 0 incidents opened
  pub single : IsSingle incidents
  pub within : length incidents ≤ room
  pub kept : room ≤ memory

-- the index tells the number of each open incident by its account and class, and has memory for the rest of the room
pub record IsIndexed (index : IndexValue) (incidents : List Incident) (room : ℕ) : Type 0 where
  pub tells : (account : List ℕ) (class : Class) → number_in index account class ≡ number_of (find (is_of account class) incidents)
  pub memory : room ≤ length incidents + index.spare

pub record IsKept (opened : ℕ) (incidents : List Incident) (room memory : ℕ) (index : IndexValue) : Type 0 where
  pub table : IsTable opened incidents room memory
  pub indexed : IsIndexed index incidents room

-- What calls do.

-- its class, and whether somebody held it
abbrev pub former_of : Incident → Former
former_of i = record { class = i.class; is_held = is_some i.holder }

-- the incident of a number changed, and no other one
abbrev pub at_number : ℕ → (Incident → Incident) → List Incident → List Incident
at_number number change is = map (λ i. if has_number number i then change i else i) is

-- all incidents but that of a number
abbrev pub without : ℕ → List Incident → List Incident
without number is = filter (λ i. not (has_number number i)) is

-- a New or Again signal more
abbrev pub attached : Incident → Incident
attached i = record i { signals = i.signals + 1; restored = false }

abbrev pub restored : Incident → Incident
restored i = record i { restored = true }

-- held from a moment on, or by nobody
abbrev pub held : Option (List ℕ) → ℕ → Incident → Incident
held holder at i = record i { holder = holder; touched = if is_some holder then at else 0 }

abbrev pub acted : Acted → Incident → Incident
acted act i = record i { acts = i.acts ++ act ∷ []; touched = act.at }

-- an incident as it opens, by a signal that came by a line, or by none
abbrev pub raised : ℕ → List ℕ → Class → List ℕ → ℕ → List Step → List ℕ → Incident
raised number account class code at steps via = record {
  number = number;
  account = account;
  class = class;
  code = code;
  at = at;
  signals = 1;
  restored = false;
  holder = None;
  touched = 0;
  steps = steps;
  acts = [];
  via = via;
}
