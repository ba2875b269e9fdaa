-- The two entries with which a run begins.
use Rattle.std.proofs.Common.{◌≡◌, ◌∷◌, ℕ, List, [], ◌∙◌, ap, arith}
use Rattle.std.specs.Prelude.{IsOk, max}
use Rattle.arc_data.specs.declared.event.Event.{Event}
use Rattle.arc_data.specs.declared.event.Event.TheVariants.{Adopt, Start}
use Rattle.arc_data.specs.declared.reply.Reply.TheVariants.{Adopted, Started}
use Rattle.alarm_rules.specs.Setups.{setup_of}
use Rattle.centre_rules.specs.Summary.{nothing}
use Rattle.centre_rules.specs.History.{Entry, moment_after}
use Rattle.centre_rules.specs.Answers.{answer, if_known}
use Rattle.centre_rules.specs.State.{Plan, entry_of}

abbrev pub adopted : List ℕ → ℕ → Entry
adopted text clock = record { caller = 0; event = Adopt text; at = clock; reply = Adopted }

abbrev pub started : ℕ → Entry
started clock = record { caller = 0; event = Start; at = clock; reply = Started }

at_first : (clock : ℕ) → max clock 0 ≡ clock
at_first clock = omega arith

at_once : (clock : ℕ) → max clock clock ≡ clock
at_once clock = omega arith

pub adopt_entry : (text : List ℕ) (clock : ℕ) (p : Plan) → IsOk (setup_of text) → p.event ≡ Adopt text → p.at ≡ moment_after nothing [] clock → p.reply ≡ answer nothing [] p.event p.at → entry_of 0 p ≡ adopted text clock
adopt_entry text clock p valid event at reply =
    let answered : p.reply ≡ Adopted = reply ∙ ap (λ (e : Event). answer nothing [] e p.at) event ∙ ap (λ b. if_known b Adopted) valid in
    λ i. record { caller = 0; event = event i; at = (at ∙ at_first clock) i; reply = answered i }

pub start_entry : (text : List ℕ) (clock : ℕ) (p : Plan) → p.event ≡ Start → p.at ≡ moment_after nothing (adopted text clock ∷ []) clock → p.reply ≡ answer nothing (adopted text clock ∷ []) p.event p.at → entry_of 0 p ≡ started clock
start_entry text clock p event at reply =
    let answered : p.reply ≡ Started = reply ∙ ap (λ (e : Event). answer nothing (adopted text clock ∷ []) e p.at) event in
    λ i. record { caller = 0; event = event i; at = (at ∙ at_once clock) i; reply = answered i }
