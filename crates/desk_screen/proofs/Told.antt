-- The step that stands as expected was told by the desk.
use Rattle.std.proofs.Common.{◌≡◌, ◌⊎◌, ℕ, List, [], ◌∷◌, Bool, true, false, cond, eqb, Option, Some, None, refl, sym, ap, ◌∙◌, inl, inr, subst}
use Rattle.std.specs.List.{find, list_any}
use Rattle.std.proofs.lemmas.Bool.{eqb-false, eqb-true}
use Rattle.arc_data.specs.declared.listing.Row.{Row}
use Rattle.arc_data.specs.declared.listing.View.{View}
use Rattle.arc_data.specs.declared.step.Outcome.{Outcome}
use Rattle.arc_data.specs.declared.step.Step.{Step}
use Rattle.desk_wire.specs.declared.command.Command.TheVariants.{Act}
use Rattle.desk_said.specs.declared.said.Said.{Said}
use Rattle.desk_said.specs.declared.said.Said.TheVariants.{Welcome, Denied, What, Bye, Claimed, NoneWaiting, BusyWith, HeldBy, NotOpen}
use Rattle.desk_said.specs.declared.said.Said.TheVariants.{NotYours, Expected, Missing, Recorded, Released, Closed, Listed, Shown, Unknown, Strange}
use Rattle.desk_screen.specs.Inputs.{Input, Turn, Sitting, is_break, news}
use Rattle.desk_screen.specs.Orders.{user, way}
use Rattle.desk_screen.specs.Owning.{dropped, due_of, held_in, is_held_by, is_shown_by, kept, lost_in, mere, own, own_after, own_told}
use Rattle.desk_screen.specs.Owning.{owned_by, same_number, seen, told_at, with_due, worked_on}
use Rattle.desk_screen.specs.Proper.{Displays, IsAhead, IsKeyed, IsFor}
use Rattle.desk_screen.specs.Series.{shows}
use Rattle.desk_screen.specs.Told.{IsTold, Leaves, Tells}
use Rattle.desk_screen.specs.Typing.{last_key, name, typed}
use Rattle.desk_screen.specs.declared.own.Due.{Due}
use Rattle.desk_screen.specs.declared.own.Due.TheVariants.{Untold, Ahead}
use Rattle.desk_screen.specs.declared.own.Own.{Own}

-- the own incident was this one before, with this step ahead
record Stood (before : Option Own) (o : Own) (step : Step) : Type 0 where
  one : Own
  is : before ≡ Some one
  same : one.number ≡ o.number
  ahead : one.due ≡ Ahead step

abbrev Told : Said → Option ℕ → Option Own → Own → Step → Type 0
Told said about before o step = Tells said about o.number step ⊎ (Leaves said o.number × Stood before o step)

-- what comes of a test
cases : {P : Type 0} (b : Bool) (x y : Option Own) (o : Own) → (b ≡ true → x ≡ Some o → P) → (b ≡ false → y ≡ Some o → P) → cond b x y ≡ Some o → P
cases true x y o here there is = here refl is
cases false x y o here there is = there refl is

none_is : {P : Type 0} (o : Own) → None ≡ Some o → P
none_is o is = absurd cc

-- an incident with no step told has none ahead
untold_is : {P : Type 0} (one o : Own) (step : Step) → one.due ≡ Untold → Some one ≡ Some o → o.due ≡ Ahead step → P
untold_is one o step none is ahead = let at : one ≡ o = cc in let bad : Untold ≡ Ahead step = sym none ∙ ap (λ (x : Own). x.due) at ∙ ahead in absurd cc

-- it is the one before
stood : (one o : Own) (step : Step) → Some one ≡ Some o → o.due ≡ Ahead step → Stood (Some one) o step
stood one o step is ahead = let at : one ≡ o = cc in record {
  one = one;
  is = refl;
  same = ap (λ (x : Own). x.number) at;
  ahead = ap (λ (x : Own). x.due) at ∙ ahead;
}

stays : (before : Option Own) (o : Own) (step : Step) → before ≡ Some o → o.due ≡ Ahead step → Stood before o step
stays None o step is ahead = none_is o is
stays (Some one) o step is ahead = stood one o step is ahead

about_is : (about : Option ℕ) (number : ℕ) → same_number about (Some number) ≡ true → about ≡ Some number
about_is None number is = absurd cc
about_is (Some m) number is = ap Some (eqb-true m number is)

due_is : (first : Option Step) (step : Step) → due_of first ≡ Ahead step → first ≡ Some step
due_is None step is = absurd cc
due_is (Some one) step is = cc

ahead_is : (first step : Step) → Ahead first ≡ Ahead step → first ≡ step
ahead_is first step is = cc

-- an answer that tells of steps
record At (about : Option ℕ) (due : Due) (before : Option Own) (o : Own) (step : Step) : Type 0 where
  told : ((about ≡ Some o.number) × (due ≡ Ahead step)) ⊎ ((same_number about (Some o.number) ≡ false) × Stood before o step)

at_is : (about : Option ℕ) (due : Due) (before : Option Own) (o : Own) (step : Step) → told_at about due before ≡ Some o → o.due ≡ Ahead step → At about due before o step
at_is None due None o step is ahead = none_is o is
at_is (Some m) due None o step is ahead = none_is o is
at_is about due (Some one) o step is ahead = cases (same_number about (Some one.number)) _ _ o here there is
  where
    here : same_number about (Some one.number) ≡ true → Some (record { number = one.number; due = due; view = one.view }) ≡ Some o → At about due (Some one) o step
    here same it =
        let r : Own = record { number = one.number; due = due; view = one.view } in
        let at : r ≡ o = cc in
        record { told = inl (about_is about one.number same ∙ ap (λ (x : Own). Some x.number) at, ap (λ (x : Own). x.due) at ∙ ahead) }

    there : same_number about (Some one.number) ≡ false → Some one ≡ Some o → At about due (Some one) o step
    there other it =
        let at : one ≡ o = cc in
        record { told = inr (subst (λ (x : Own). same_number about (Some x.number) ≡ false) at other, stood one o step it ahead) }

recorded_is : (incident left : ℕ) (about : Option ℕ) (before : Option Own) (o : Own) (step : Step) → At (Some incident) Untold before o step
    → Told (Recorded incident left) about before o step
recorded_is incident left about before o step h =
    elim h.told as (λ _. Told (Recorded incident left) about before o step) [ inl p ↦ absurd (bad p.1) | inr p ↦ inr (p.0, p.1) ]
  where
    bad : Untold ≡ Ahead step → ⊥
    bad is = cc

-- what each answer makes of it
welcome_is : (name : List ℕ) (before : Option Own) (o : Own) (step : Step) {P : Type 0} → owned_by name before ≡ Some o → o.due ≡ Ahead step → P
welcome_is name None o step is ahead = none_is o is
welcome_is name (Some one) o step is ahead =
    cases (is_shown_by name one.view) _ _ o
    (λ same it. untold_is (record { number = one.number; due = Untold; view = one.view }) o step refl it ahead)
    (λ other it. none_is o it) is

dropped_is : (number : ℕ) (before : Option Own) (o : Own) (step : Step) → dropped number before ≡ Some o → o.due ≡ Ahead step → Stood before o step
dropped_is number None o step is ahead = none_is o is
dropped_is number (Some one) o step is ahead =
    cases (eqb one.number number) _ _ o (λ same it. none_is o it) (λ other it. stood one o step it ahead) is

seen_is : (user : Option (List ℕ)) (view : View) (about : Option ℕ) (before : Option Own) (o : Own) (step : Step) → seen user view before ≡ Some o → o.due ≡ Ahead step
    → Told (Shown view) about before o step
seen_is user view about None o step is ahead = none_is o is
seen_is user view about (Some one) o step is ahead =
    cases (eqb one.number view.number) _ _ o (λ same it. cases (is_held_by user view.holder) _ _ o (λ _ this. shown this) (λ _ this. none_is o this) it)
    (λ other it. inr (tt, stood one o step it ahead)) is
  where
    shown : Some (record { number = view.number; due = due_of view.expected; view = Some view }) ≡ Some o → Told (Shown view) about (Some one) o step
    shown it =
        let r : Own = record { number = view.number; due = due_of view.expected; view = Some view } in
        let at : r ≡ o = cc in
        inl (ap (λ (x : Own). x.number) at, due_is view.expected step (ap (λ (x : Own). x.due) at ∙ ahead))

lost_is : (rows : List Row) (before : Option Own) (o : Own) (step : Step) → lost_in rows before ≡ Some o → o.due ≡ Ahead step → Stood before o step
lost_is rows None o step is ahead = none_is o is
lost_is rows (Some one) o step is ahead =
    cases (list_any (λ r. eqb r.number one.number) rows) _ _ o (λ same it. none_is o it) (λ other it. stood one o step it ahead) is

kept_is : (number : ℕ) (before : Option Own) (o : Own) (step : Step) → kept number before ≡ Some o → o.due ≡ Ahead step → Stood before o step
kept_is number None o step is ahead = untold_is (mere number) o step refl is ahead
kept_is number (Some one) o step is ahead =
    cases (eqb one.number number) _ _ o (λ same it. stood one o step it ahead) (λ other it. untold_is (mere number) o step refl it ahead) is

held_is : (rows : List Row) (row : Option Row) (before : Option Own) (o : Own) (step : Step) → held_in rows row before ≡ Some o → o.due ≡ Ahead step → Stood before o step
held_is rows None before o step is ahead = lost_is rows before o step is ahead
held_is rows (Some row) before o step is ahead = kept_is row.number before o step is ahead

told_by : (said : Said) (about : Option ℕ) (user : Option (List ℕ)) (before : Option Own) (o : Own) (step : Step) → own_told said about user before ≡ Some o → o.due ≡ Ahead step
    → Told said about before o step
told_by (Welcome name) about user before o step is ahead = welcome_is name before o step is ahead
told_by Denied about user before o step is ahead = inr (tt, stays before o step is ahead)
told_by What about user before o step is ahead = inr (tt, stays before o step is ahead)
told_by Bye about user before o step is ahead = inr (tt, stays before o step is ahead)
told_by (Claimed number class account) about user before o step is ahead = untold_is (mere number) o step refl is ahead
told_by NoneWaiting about user before o step is ahead = inr (tt, stays before o step is ahead)
told_by (BusyWith number) about user before o step is ahead = untold_is (mere number) o step refl is ahead
told_by (HeldBy operator) about user before o step is ahead = inr (tt, stays before o step is ahead)
told_by (NotOpen number) about user before o step is ahead = inr (tt, dropped_is number before o step is ahead)
told_by (NotYours number) about user before o step is ahead = inr (tt, dropped_is number before o step is ahead)
told_by (Expected first) about user before o step is ahead =
    elim (at_is about (due_of first) before o step is ahead).told as (λ _. Told (Expected first) about before o step)
    [ inl p ↦ inl (p.0, due_is first step p.1) | inr p ↦ inr (tt, p.1) ]
told_by (Missing first) about user before o step is ahead =
    elim (at_is about (Ahead first) before o step is ahead).told as (λ _. Told (Missing first) about before o step)
    [ inl p ↦ inl (p.0, ahead_is first step p.1) | inr p ↦ inr (tt, p.1) ]
told_by (Recorded incident left) about user before o step is ahead =
    recorded_is incident left about before o step (at_is (Some incident) Untold before o step is ahead)
told_by (Released number) about user before o step is ahead = inr (tt, dropped_is number before o step is ahead)
told_by (Closed number) about user before o step is ahead = inr (tt, dropped_is number before o step is ahead)
told_by (Listed total rows) about user before o step is ahead = inr (tt, held_is rows (find (λ r. is_held_by user r.holder) rows) before o step is ahead)
told_by (Shown view) about user before o step is ahead = seen_is user view about before o step is ahead
told_by Unknown about user before o step is ahead = inr (tt, stays before o step is ahead)
told_by Strange about user before o step is ahead = inr (tt, stays before o step is ahead)

broken_is : (before : Option Own) (o : Own) (step : Step) {P : Type 0} → with_due Untold before ≡ Some o → o.due ≡ Ahead step → P
broken_is None o step is ahead = none_is o is
broken_is (Some one) o step is ahead = untold_is (record { number = one.number; due = Untold; view = one.view }) o step refl is ahead

-- one turn more
told_after : (i : Input) (said : Said) (about : Option ℕ) (user : Option (List ℕ)) (before : Option Own) (o : Own) (step : Step)
    → own_after i said about user before ≡ Some o → o.due ≡ Ahead step
    → Tells said about o.number step ⊎ ((is_break i ≡ false) × Leaves said o.number × Stood before o step)
told_after i said about user before o step is ahead =
    cases (is_break i) _ _ o (λ broken it. broken_is before o step it ahead) (λ goes it. on goes (told_by said about user before o step it ahead)) is
  where
    on : is_break i ≡ false → Told said about before o step → Tells said about o.number step ⊎ ((is_break i ≡ false) × Leaves said o.number × Stood before o step)
    on goes h = elim h as (λ _. Tells said about o.number step ⊎ ((is_break i ≡ false) × Leaves said o.number × Stood before o step))
        [ inl p ↦ inl p | inr p ↦ inr (goes, p.0, p.1) ]

told_is : (s : Sitting) (o : Own) (step : Step) → own s ≡ Some o → o.due ≡ Ahead step → IsTold s o.number step
unfolding own
told_is [] o step is ahead = none_is o is
told_is (t ∷ s) o step is ahead =
    elim (told_after t.input (news t.input (way s)) (worked_on (way s)) (user s) (own s) o step is ahead) as (λ _. IsTold (t ∷ s) o.number step)
    [ inl p ↦ inl p | inr p ↦ inr (p.0, p.1, subst (λ (n : ℕ). IsTold s n step) p.2.same (told_is s p.2.one step p.2.is p.2.ahead)) ]

ahead_told : (s : Sitting) (number : ℕ) (step : Step) → IsAhead (own s) number step → IsTold s number step
ahead_told s number step h = subst (λ (n : ℕ). IsTold s n step) h.2 (told_is s h.0 step h.1 h.3)

acted_is : (o : Option Own) (last : Option ℕ) (typed : List ℕ) (name : Option (List ℕ)) (key number : ℕ) (step : Step) (outcome : Outcome)
    → IsFor o last typed name key (Act number step outcome) → IsAhead o number step
acted_is o last typed name key number step outcome h = h.2

next_told : (s : Sitting) (one number : ℕ) (this step : Step) (that outcome : Outcome) → Act number step outcome ≡ Act one this that
    → IsTold s one this → IsTold s number step
next_told s one number this step that outcome act h =
    let a : one ≡ number = cc in
    let b : this ≡ step = cc in
    subst (λ (n : ℕ). IsTold s n step) a (subst (λ (p : Step). IsTold s one p) b h)

-- an act that is asked for
pub asked_told : (s : Sitting) (t : Turn) (number : ℕ) (step : Step) (outcome : Outcome) → IsKeyed s t (Act number step outcome) → IsTold (t ∷ s) number step
asked_told s t number step outcome h = elim h as (λ _. IsTold (t ∷ s) number step) [
  | inl k ↦ inr (
    ap is_break k.1,
    subst (λ (i : Input). Leaves (news i (way s)) number) (sym k.1) tt,
    ahead_told s number step (acted_is (own s) (last_key s) (typed s) (name s) k.0 number step outcome k.2),
  )
  | inr n ↦ next_told (t ∷ s) n.number number n.step step n.outcome outcome n.act (ahead_told (t ∷ s) n.number n.step n.ahead)
]

-- an answer that shows the own incident tells the step that is ahead of it
seen_tells : (user : Option (List ℕ)) (view : View) (before : Option Own) (o : Own) (step : Step) → seen user view before ≡ Some o → o.number ≡ view.number
    → o.due ≡ Ahead step → view.expected ≡ Some step
seen_tells user view None o step is same ahead = none_is o is
seen_tells user view (Some one) o step is same ahead =
    cases (eqb one.number view.number) _ _ o (λ _ it. cases (is_held_by user view.holder) _ _ o (λ _ this. shown this) (λ _ this. none_is o this) it) other is
  where
    shown : Some (record { number = view.number; due = due_of view.expected; view = Some view }) ≡ Some o → view.expected ≡ Some step
    shown it =
        let r : Own = record { number = view.number; due = due_of view.expected; view = Some view } in
        let at : r ≡ o = cc in
        due_is view.expected step (ap (λ (x : Own). x.due) at ∙ ahead)

    other : eqb one.number view.number ≡ false → Some one ≡ Some o → view.expected ≡ Some step
    other differs it =
        let at : one ≡ o = cc in
        let here : one.number ≡ view.number = ap (λ (x : Own). x.number) at ∙ same in
        absurd (eqb-false one.number view.number differs here)

pub displays_is : (i : Input) (said : Said) (about : Option ℕ) (user : Option (List ℕ)) (before : Option Own) (o : Own) (number : ℕ) (step : Step)
    → shows said number ≡ true → own_after i said about user before ≡ Some o → o.number ≡ number → o.due ≡ Ahead step → Displays said number step
displays_is i (Welcome who) about user before o number step shown is same ahead = absurd cc
displays_is i Denied about user before o number step shown is same ahead = absurd cc
displays_is i What about user before o number step shown is same ahead = absurd cc
displays_is i Bye about user before o number step shown is same ahead = absurd cc
displays_is i (Claimed one class account) about user before o number step shown is same ahead = absurd cc
displays_is i NoneWaiting about user before o number step shown is same ahead = absurd cc
displays_is i (BusyWith one) about user before o number step shown is same ahead = absurd cc
displays_is i (HeldBy operator) about user before o number step shown is same ahead = absurd cc
displays_is i (NotOpen one) about user before o number step shown is same ahead = absurd cc
displays_is i (NotYours one) about user before o number step shown is same ahead = absurd cc
displays_is i (Expected first) about user before o number step shown is same ahead = absurd cc
displays_is i (Missing first) about user before o number step shown is same ahead = absurd cc
displays_is i (Recorded one left) about user before o number step shown is same ahead = absurd cc
displays_is i (Released one) about user before o number step shown is same ahead = absurd cc
displays_is i (Closed one) about user before o number step shown is same ahead = absurd cc
displays_is i (Listed total rows) about user before o number step shown is same ahead = absurd cc
displays_is i (Shown view) about user before o number step shown is same ahead =
    let at : view.number ≡ number = eqb-true view.number number shown in (
      at,
      cases (is_break i) _ _ o (λ broken it. broken_is before o step it ahead)
          (λ goes it. seen_tells user view before o step it (same ∙ sym at) ahead) is,
    )
displays_is i Unknown about user before o number step shown is same ahead = absurd cc
displays_is i Strange about user before o number step shown is same ahead = absurd cc
