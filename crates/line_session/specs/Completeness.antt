-- Completeness: of the turns of a line, each heartbeat and numbered message is acknowledged.
use Rattle.std.specs.Prelude.{List, All}
use Rattle.alarm_rules.specs.Setups.{Setup}
use Rattle.dc09_message.specs.Verdicts.{verdict_of}
use Rattle.dc09_message.specs.declared.outcome.Verdict.{Verdict}
use Rattle.dc09_message.specs.declared.outcome.Verdict.TheVariants.{Beat, Numbered}
use Rattle.line_session.specs.Turns.{Turn, IsAck}

-- where the verdict is a heartbeat or a numbered message, the turn's reply is the acknowledgement
abbrev pub Acknowledges : Setup → Turn → Verdict → Type 0
Acknowledges setup t (Beat header account) = IsAck setup header t.reading t.noise t.reply
Acknowledges setup t (Numbered header m) = IsAck setup header t.reading t.noise t.reply
Acknowledges setup t verdict = Unit {0}

-- so it is in each of these turns
abbrev pub AreAcknowledged : Setup → List Turn → Type 0
AreAcknowledged setup turns = All (λ t. Acknowledges setup t (verdict_of setup t.reading t.body)) turns
