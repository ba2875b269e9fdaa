-- One event is taken, sent, delivered and acknowledged.
use Rattle.std.proofs.Common.{◌≡◌, ℕ, List, [], ◌∷◌, true, refl, sym, subst, inl, arith}
use Rattle.std.specs.Prelude.{codes, is_ok, None}
use Rattle.arc_data.specs.declared.event.Token.TheVariants.{AdmCid}
use Rattle.alarm_rules.specs.ContactId.{contact_id_table, contact_id_class, contact_id_signal}
use Rattle.alarm_rules.specs.FirstFrom.{first_from}
use Rattle.alarm_rules.specs.Setups.{setup_of, first_fault, meaning, has_account, key_of}
use Rattle.panel_rules.specs.declared.Fate.TheVariants.{Acked}
use Rattle.panel_rules.specs.Marks.{fate}
use Rattle.panel_rules.specs.Panels.{Setting}
use Rattle.panel_laws.specs.Worlds.{Copy, World, Step, Queue, Turn, Deliver, Hand, AreSteps, IsAmong, frames, marks_after}
use Rattle.panel_laws.specs.Samples.{SomeAreAnswered}

abbrev content : List ℕ
content = codes "1131 01 001"

abbrev text : List ℕ
text = codes "account 1234\n"

abbrev setting : Setting
setting = record { account = codes "1234"; line = codes "0"; first = 1 }

abbrev copy : ℕ → Copy
copy at = record { event = 1; report = record { token = AdmCid; content = content }; at = at }

abbrev sent : List Step
sent = Turn 1000000001 ∷ Queue AdmCid content ∷ []

abbrev delivered : List Step
delivered = Deliver (copy 1000000001) (codes "tcp") 1000000002 true ∷ sent

abbrev steps : List Step
steps = Hand (copy 1000000002) 1000000003 ∷ delivered

abbrev world : World
world = record { setting = setting; text = text; first = 1000000000; steps = steps }

is_setup : is_ok (setup_of text) ≡ true
unfolding setup_of first_fault
is_setup = refl

has : has_account (meaning text) setting.account ≡ true
unfolding setup_of first_fault
has = refl

keyless : key_of (meaning text) setting.account ≡ None
unfolding setup_of first_fault
keyless = refl

frames_are : frames setting sent ≡ copy 1000000001 ∷ []
unfolding contact_id_signal contact_id_class contact_id_table first_from
frames_are = refl

answered : fate (marks_after setting steps) 1 ≡ Acked
unfolding contact_id_signal contact_id_class contact_id_table first_from
answered = refl

are_steps : AreSteps world steps
are_steps = (
  record { later = omega arith; possible = record { among = inl refl; young = omega arith } },
  (
    record {
      later = omega arith;
      possible = record {
        among = subst (λ (fs : List Copy). IsAmong (copy 1000000001) fs) (sym frames_are) (inl refl);
        young = omega arith;
      };
    },
    (record { later = omega arith; possible = tt }, (record { later = omega arith; possible = tt }, tt)),
  ),
)

pub some_are : SomeAreAnswered
some_are = (
  world,
  record {
    world = record { setting = refl; setup = is_setup; account = has; keyless = keyless; steps = are_steps };
    acknowledged = answered;
  },
)
