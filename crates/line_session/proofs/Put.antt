-- What may be put behind the frames that wait.
use Rattle.std.proofs.Common.{◌≡◌, ◌∷◌, ℕ, List, [], Option, Some, None, sym, subst}
use Rattle.std.specs.Prelude.{All, IfSome}
use Rattle.std.proofs.lemmas.List.Elements.{All-append, All-from_recursion}
use Rattle.arc_data.specs.declared.event.Event.{Event}
use Rattle.alarm_rules.specs.Setups.{Setup, meaning}
use Rattle.centre_core.specs.Batches.{MayBeSubmitted}
use Rattle.line_session.specs.Dues.{IsAckDue, IsDueUnder, MayBePut, HasPut, IsJudged}
use Rattle.line_session.specs.Replies.{IsKnownEvent}
use Rattle.line_session.specs.declared.due.Due.{Due}
use Rattle.line_session.specs.declared.due.Judged.{Judged}
use Rattle.line_session.specs.declared.waiting.Waiting.{Waiting}

may_by : (setup : Setup) (due : Due) (reading : ℕ) (o : Option Event) → IfSome o (λ event. MayBeSubmitted (record { event = event; clock = reading }) × IsKnownEvent setup event × IsAckDue due)
    → IfSome o (λ event. MayBeSubmitted (record { event = event; clock = reading }))
may_by setup due reading None may = tt
may_by setup due reading (Some event) may = may.0

-- its event may be submitted
pub may_offer : (setup : Setup) (j : Judged) → MayBePut setup j → IfSome j.event (λ event. MayBeSubmitted (record { event = event; clock = j.reading }))
may_offer setup j may = may_by setup j.due j.reading j.event may.event

-- the same, judged under the same setup
pub may_still : {s t : List ℕ} {j k : Judged} → t ≡ s → k ≡ j → MayBePut (meaning s) j → MayBePut (meaning t) k
may_still {s} {t} {j} {k} same is may = subst (λ (x : List ℕ). MayBePut (meaning x) k) (sym same) (subst (MayBePut (meaning s)) (sym is) may)

-- what is due can be sent
pub dues_put : (setup : Setup) {w w' : Waiting} {j : Judged} → HasPut w w' j → MayBePut setup j → All (IsDueUnder setup) w.dues.items → All (IsDueUnder setup) w'.dues.items
dues_put setup {w} {w'} {j} put may all =
    subst (All (IsDueUnder setup)) (sym put.dues) (All-append (IsDueUnder setup) w.dues.items (j.due ∷ []) all (All-from_recursion (IsDueUnder setup) (j.due ∷ []) (may.due, tt)))

-- the same dues under the same setup
pub dues_still : {s t : List ℕ} {xs ys : List Due} → t ≡ s → ys ≡ xs → All (IsDueUnder (meaning s)) xs → All (IsDueUnder (meaning t)) ys
dues_still {s} {t} {xs} {ys} same is all = subst (λ (x : List ℕ). All (IsDueUnder (meaning x)) ys) (sym same) (subst (All (IsDueUnder (meaning s))) (sym is) all)

pub judged_still : {name : List ℕ} {s t : List ℕ} {body : List ℕ} {reading : ℕ} {j k : Judged} → t ≡ s → k ≡ j → IsJudged name (meaning s) body reading j → IsJudged name (meaning t) body reading k
judged_still {name} {s} {t} {body} {reading} {j} {k} same is judged =
    subst (λ (x : List ℕ). IsJudged name (meaning x) body reading k) (sym same) (subst (IsJudged name (meaning s) body reading) (sym is) judged)
