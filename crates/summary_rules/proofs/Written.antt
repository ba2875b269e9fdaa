-- The bytes of one alarm.
use Rattle.std.proofs.Common.{refl}
use Rattle.summary_rules.specs.Spelling.{long_number, long_text, few_texts, many_texts, row_text, incident_text, summary_text}
use Rattle.summary_rules.specs.OneAlarm.{IsWritten}

pub written : IsWritten
unfolding long_number long_text few_texts many_texts row_text incident_text summary_text
written = record { bytes = refl; long = refl; old_bytes = refl; old_long = refl }
