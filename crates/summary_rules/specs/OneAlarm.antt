-- The summary of a station of one account, in which a setup came into force, a run began, and one burglary was reported by the line `line`,
-- and its bytes in both versions, written out by hand.
use Rattle.std.specs.Prelude.{◌≡◌, ℕ, List, [], ◌∷◌, ◌++◌, length, false, Some, None, codes}
use Rattle.arc_data.specs.declared.event.Message.{Message}
use Rattle.arc_data.specs.declared.event.Token.TheVariants.{AdmCid}
use Rattle.arc_data.specs.declared.incident.Incident.{Incident}
use Rattle.arc_data.specs.declared.signal.Class.TheVariants.{Burglary}
use Rattle.arc_data.specs.declared.step.Step.TheVariants.{Note}
use Rattle.centre_rules.specs.Summary.{Summary, AccountRow}
use Rattle.summary_rules.specs.Spelling.{summary_text}

abbrev pub the_message : Message
the_message = record { account = codes "1234"; receiver = None; line = codes "0"; seq = 1; token = AdmCid; content = codes "1131 01 001" }

abbrev pub the_row : AccountRow
the_row = record {
  account = codes "1234";
  heard = Some 1000000000;
  failed = false;
  opening = None;
  messages = record { message = the_message; at = 1000000000 } ∷ [];
}

abbrev pub the_incident : Incident
the_incident = record {
  number = 1;
  account = codes "1234";
  class = Burglary;
  code = codes "131";
  at = 1000000000;
  signals = 1;
  restored = false;
  holder = None;
  touched = 0;
  steps = Note ∷ [];
  acts = [];
  via = codes "line";
}

abbrev pub one_alarm : Summary
one_alarm = record {
  last = 1000000000;
  recorded = 3;
  opened = 1;
  start = Some 1000000000;
  text = Some (codes "account 1234" ++ 10 ∷ []);
  rows = the_row ∷ [];
  incidents = the_incident ∷ [];
}

-- the moment 1,000,000,000 in eight bytes
abbrev pub the_moment : List ℕ
the_moment = 0 ∷ 0 ∷ 0 ∷ 0 ∷ 0x3b ∷ 0x9a ∷ 0xca ∷ 0x00 ∷ []

-- eight bytes of a number below 256
abbrev pub small : ℕ → List ℕ
small n = 0 ∷ 0 ∷ 0 ∷ 0 ∷ 0 ∷ 0 ∷ 0 ∷ n ∷ []

abbrev pub head_bytes : List ℕ
head_bytes = 0x0b ∷ small 1 ++ the_moment ++ small 3 ++ small 1 ++ 1 ∷ the_moment
    ++ 1 ∷ 0 ∷ 0 ∷ 0 ∷ 0x0d ∷ codes "account 1234" ++ 0x0a ∷ []

abbrev pub row_bytes : List ℕ
row_bytes = 0 ∷ 0 ∷ 0 ∷ 1 ∷ 4 ∷ codes "1234" ++ 1 ∷ the_moment ++ 0 ∷ 0 ∷ 1 ∷ the_moment
    ++ 0 ∷ 1 ∷ 0x30 ∷ 0 ∷ 1 ∷ 2 ∷ 0 ∷ 0x0b ∷ codes "1131 01 001"

-- with the bytes of its line
abbrev pub incident_bytes : List ℕ → List ℕ
incident_bytes line = 0 ∷ 0 ∷ 0 ∷ 1 ∷ small 1 ++ 4 ∷ codes "1234" ++ 5 ∷ 3 ∷ codes "131" ++ line ++ the_moment ++ small 1
    ++ 0 ∷ 0 ∷ 1 ∷ 0x0a ∷ 0 ∷ []

-- its text of generation 1 has these 156 bytes, and in version 1 these 151
pub record IsWritten : Type 0 where
  pub bytes : summary_text 2 1 one_alarm ≡ head_bytes ++ (row_bytes ++ incident_bytes (4 ∷ codes "line"))
  pub long : length (summary_text 2 1 one_alarm) ≡ 156
  pub old_bytes : summary_text 1 1 one_alarm ≡ head_bytes ++ (row_bytes ++ incident_bytes [])
  pub old_long : length (summary_text 1 1 one_alarm) ≡ 151
