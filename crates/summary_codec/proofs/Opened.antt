-- What is read of an incident behind what it was opened by.
use Rattle.std.proofs.Common.{◌≡◌, ℕ, List, Bool, Option, Some, None, refl}
use Rattle.std.specs.Int.{w64}
use Rattle.arc_data.specs.declared.incident.Incident.{Incident}
use Rattle.arc_data.specs.declared.step.Acted.{Acted}
use Rattle.arc_data.specs.declared.step.Step.{Step}
use Rattle.event_codec.specs.Reading.{number_at, coded_at, step_of}
use Rattle.summary_codec.specs.declared.reading.OpenedBy.{OpenedBy}
use Rattle.summary_codec.specs.Heads.{IsOpenedBy}
use Rattle.summary_codec.specs.Reading.{Reading, pair_at, truth_of, holding_at, few_at, acted_at, incident_of_parts, incident_at}

abbrev pub LaterParts : Type 0
LaterParts = ℕ × (Bool × ((Option (List ℕ) × ℕ) × (List Step × List Acted)))

abbrev pub later_at : Reading LaterParts
later_at = pair_at (number_at w64) (λ signals. pair_at (coded_at truth_of) (λ restored. pair_at holding_at (λ holding.
    pair_at (few_at 10 (coded_at step_of)) (λ steps. few_at 10 acted_at))))

abbrev pub with_later : OpenedBy → LaterParts → Incident
with_later o p = incident_of_parts (o.number, (o.account, (o.class, (o.code, (o.via, (o.at, p))))))

pub opened_none : (version : ℕ) (bytes : List ℕ) (o : OpenedBy) → IsOpenedBy version bytes o → later_at o.rest.now ≡ None → incident_at version bytes ≡ None
unfolding incident_at
opened_none version bytes o h later = rw (h.number, h.account, h.class, h.code, h.via, h.at, later) refl

pub opened_some : (version : ℕ) (bytes : List ℕ) (o : OpenedBy) (p : LaterParts) (end : List ℕ) → IsOpenedBy version bytes o → later_at o.rest.now ≡ Some (p, end)
    → incident_at version bytes ≡ Some (with_later o p, end)
unfolding incident_at
opened_some version bytes o p end h later = rw (h.number, h.account, h.class, h.code, h.via, h.at, later) refl
