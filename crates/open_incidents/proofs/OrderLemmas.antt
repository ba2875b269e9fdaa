-- Room for an act that is answered.
use Rattle.std.proofs.Common.{◌≡◌, ◌<◌, ℕ, List, [], ◌∷◌, ◌++◌, length, Some, Bool, true, false, cond, refl, sym, ap, ◌∙◌, arith}
use Rattle.std.specs.Prelude.{not, IsTrue, Option}
use Rattle.std.proofs.lemmas.Bool.{false≢true}
use Rattle.arc_data.specs.Steps.{same_step}
use Rattle.arc_data.specs.declared.incident.Incident.{Incident}
use Rattle.arc_data.specs.declared.reply.Reply.TheVariants.{Recorded}
use Rattle.arc_data.specs.declared.step.Acted.{Acted}
use Rattle.arc_data.specs.declared.step.Step.{Step}
use Rattle.alarm_rules.specs.Plans.{expected_step, left}
use Rattle.centre_rules.specs.Desks.{numbered, holds, on_act}
use Rattle.centre_rules.specs.Standing.{standing_of}
use Rattle.open_incidents.specs.Marked.{HaveActRoom}
use Rattle.open_incidents.proofs.ActRoom.{room_for, found_room}

-- there is room in an incident however it stands
pub room_stood : (lapse : Option ℕ) (at : ℕ) (is : List Incident) → HaveActRoom is → HaveActRoom (standing_of lapse at is)
room_stood lapse at [] r = tt
room_stood lapse at (i ∷ is) r = (r.0, room_stood lapse at is r.1)

pub few_acts : (n : ℕ) (is : List Incident) (i : Incident) (s : Step) → HaveActRoom is → numbered n is ≡ Some i → expected_step i.steps i.acts ≡ Some s → length i.acts < 10
few_acts n is i s r f e = room_for i s (found_room n is i r f) e

-- What is put last where there is room.

pushed_if : (b : Bool) (a : Acted) (acts acts' : List Acted) → IsTrue b → acts' ≡ cond b (acts ++ a ∷ []) acts → acts' ≡ acts ++ a ∷ []
pushed_if true a acts acts' t e = e
pushed_if false a acts acts' t e = absurd (false≢true t)

pub acts_pushed : (a : Acted) (acts copy acts' : List Acted) (b : Bool) → length acts < 10 → copy ≡ acts → (length copy < 10 → IsTrue b) → acts' ≡ cond b (copy ++ a ∷ []) copy → acts' ≡ acts ++ a ∷ []
acts_pushed a acts copy acts' b few same room e =
    let short : length copy < 10 = omega (arith, few, ap length same) in
    pushed_if b a copy acts' (room short) e ∙ ap (λ (l : List Acted). l ++ a ∷ []) same

-- The answer to a recorded step.

same_if : (b : Bool) → false ≡ not b → b ≡ true
same_if true e = refl
same_if false e = cc

pub recorded : (a : Acted) (n : ℕ) (is : List Incident) (i : Incident) (s : Step) (acts : List Acted) (m : ℕ) → numbered n is ≡ Some i → true ≡ holds a.operator i → expected_step i.steps i.acts ≡ Some s → false ≡ not (same_step a.step s)
    → acts ≡ i.acts ++ a ∷ [] → m ≡ left i.steps acts → Recorded i.number m ≡ on_act a n is
recorded a n is i s acts m found held expected same pushed counted =
    let count : m ≡ left i.steps (i.acts ++ a ∷ []) = counted ∙ ap (left i.steps) pushed in
    rw found (rw (sym held) (rw expected (rw (same_if (same_step a.step s) same) (ap (λ (k : ℕ). Recorded i.number k) count))))
