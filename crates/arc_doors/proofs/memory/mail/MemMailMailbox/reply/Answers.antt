use Rattle.std.proofs.Common.{◌≡◌, ◌∷◌, ◌++◌, [], ℕ, List, Some, Result, Ok, Err, refl, ap}
use Rattle.std.specs.Prelude.{MatchResult, is_err, if◌then◌else◌}
use Rattle.arc_doors.specs.Mails.{append_replies}
use Rattle.arc_doors.proofs.memory.mail.MemMailMailbox.reply.Goals as goal

-- what was sent, by the answer
sent_by : {T E : Type 0} (r : Result T E) (before after : List (List ℕ)) (bytes : List ℕ) → after ≡ (if is_err r then before else before ++ bytes ∷ [])
    → MatchResult r (λ _. Some after ≡ append_replies (Some before) (bytes ∷ [])) (λ _. Some after ≡ Some before)
sent_by (Ok done) before after bytes is = ap Some is
sent_by (Err fault) before after bytes is = ap Some is

pub returns-clause-told : goal.returns-clause-told
returns-clause-told c = record {
  sent = sent_by c.reply.result _ _ c.args.bytes.now c.reply.ensures.exact.sent;
  cause = c.reply.ensures.cause;
  rest = refl;
}
