-- The hall in memory: which setup is in force, and why an event is not taken.
use Rattle.std.specs.Prelude.{◌≡◌, ◌≤◌, ◌^◌, ℕ, List, [], Option, Some, None, IsOk, unwrap_or}
use Rattle.alarm_rules.specs.Setups.{setup_of}
use Rattle.centre_rules.specs.Summary.{Summary}
use Rattle.centre_rules.specs.History.{Entry}
use Rattle.centre_rules.specs.State.{State, StandsFor}
use Rattle.centre_core.specs.Halls.{HallSeen, no_disk}
use Rattle.centre_core.specs.declared.hall.Stop.{Stop}
use Rattle.centre_core.specs.declared.hall.Stop.TheVariants.{Memory, Down, Full, Worn}

-- a setup is in force: there is a text, and it is one
abbrev pub IsSetting : Option (List ℕ) → Type 0
IsSetting None = ⊥
IsSetting (Some text) = IsOk (setup_of text)

-- the text in force
abbrev pub text_of : State → List ℕ
text_of s = unwrap_or s.sum.text []

-- the state is that of the history, after which a setup is in force
pub record IsSetFor (b : Summary) (s : State) (h : List Entry) : Type 0 where
  pub stands : StandsFor b s h
  pub setting : IsSetting s.sum.text

-- what is told of a stop: of want of memory nothing, and otherwise how many entries there are, too many for another; a hall in
-- memory has no disk that fails and no journal that is full
abbrev pub IsShown : State → Stop → Type 0
IsShown s Memory = Unit {0}
IsShown s (Down at_open now) = ⊥
IsShown s (Full used need records) = ⊥
IsShown s (Worn count) = (count ≡ s.entries) × (2 ^ 48 ≤ count)

-- what it tells: its caller has the number 0, and made all of each history; it has no journal, of which anything could be read or left
abbrev pub ram_seen : State → HallSeen
ram_seen s = record {
  ready = Unit {0};
  text = text_of s;
  caller = 0;
  fixed = no_disk;
  count = 1;
  told = 0;
  stands = λ b h. IsSetFor b s h;
  readable = λ b h. Unit {0};
  leaves = λ t k b h. Unit {0};
  own = λ h. h;
  shows = λ stop event clock. IsShown s stop;
  up = Unit {0};
  torn = λ b h event clock. Unit {0};
}
