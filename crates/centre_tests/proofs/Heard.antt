-- What a hall answers to a heartbeat.
use Rattle.std.proofs.Common.{◌≡◌, ◌∙◌, ◌∷◌, ℕ, List, Bool, true, false, cond, Option, Some, refl, sym, ap}
use Rattle.arc_data.specs.declared.event.Event.TheVariants.{Beat}
use Rattle.arc_data.specs.declared.reply.Reply.{Reply}
use Rattle.arc_data.specs.declared.reply.Reply.TheVariants.{Heard}
use Rattle.alarm_rules.specs.Setups.{Setup, has_account}
use Rattle.centre_rules.specs.Summary.{Summary}
use Rattle.centre_rules.specs.Marks.{Mark, Hears, force}
use Rattle.centre_rules.specs.History.{Entry, is_recorded, marks}
use Rattle.centre_rules.specs.Answers.{IsLegal, if_known, knows_account}

abbrev pub beat_entry : ℕ → List ℕ → ℕ → Reply → Entry
beat_entry caller account at reply = record { caller = caller; event = Beat account; at = at; reply = reply }

-- a heartbeat that is heard leaves the setup in force
force_heard : (b : Bool) (s : Summary) (account : List ℕ) (at : ℕ) (ms : List Mark) → force s (cond b (Hears account at ∷ ms) ms) ≡ force s ms
force_heard true s account at ms = refl
force_heard false s account at ms = refl

-- whether the setup in force has the account
pub heard_is : (b : Summary) (h : List Entry) (caller at : ℕ) (account : List ℕ) (reply : Reply) (setup : Setup) → IsLegal b (beat_entry caller account at reply ∷ h) → force b (marks b (beat_entry caller account at reply ∷ h)) ≡ Some setup
    → reply ≡ if_known (has_account setup account) Heard
heard_is b h caller at account reply setup legal setup_is =
    legal.0.reply ∙ ap (λ (o : Option Setup). if_known (knows_account o account) Heard) (sym (force_heard (is_recorded reply) b account at (marks b h)) ∙ setup_is)
