-- Where turns of a line stand behind one another, each heartbeat and numbered message is acknowledged.
use Rattle.std.proofs.Common.{◌∷◌, ℕ, List, []}
use Rattle.std.proofs.lemmas.List.Elements.{All-nil, All-cons}
use Rattle.alarm_rules.specs.Setups.{Setup}
use Rattle.centre_rules.specs.Summary.{Summary}
use Rattle.centre_rules.specs.History.{Entry}
use Rattle.dc09_message.specs.Verdicts.{verdict_of}
use Rattle.dc09_message.specs.declared.outcome.Verdict.{Verdict}
use Rattle.dc09_message.specs.declared.outcome.Verdict.TheVariants.{Silence, Nak, Duh, Beat, Numbered}
use Rattle.line_session.specs.Completeness.{Acknowledges, AreAcknowledged}
use Rattle.line_session.specs.Turns.{Turn, IsAnswered, AreTurns}

module _ (name : List ℕ) (b : Summary) (setup : Setup) (caller : ℕ) where
  ack_of : (h x : List Entry) (t : Turn) (v : Verdict) → IsAnswered name b setup caller h x t v → Acknowledges setup t v
  ack_of h x t Silence a = tt
  ack_of h x t Nak a = tt
  ack_of h x t (Duh header why) a = tt
  ack_of h x t (Beat header account) a = a.reply
  ack_of h x t (Numbered header m) a = a.reply

  pub acknowledged : (h x : List Entry) (turns : List Turn) → AreTurns name b setup caller h x turns → AreAcknowledged setup turns
  acknowledged h x [] all = All-nil (λ (t : Turn). Acknowledges setup t (verdict_of setup t.reading t.body))
  acknowledged h x (t ∷ turns) all =
      All-cons (λ (u : Turn). Acknowledges setup u (verdict_of setup u.reading u.body)) t turns (ack_of h all.0 t (verdict_of setup t.reading t.body) all.1) (acknowledged all.0 x turns all.2)
