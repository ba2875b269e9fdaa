-- What stands as the operator's own was shown as his.
use Rattle.std.proofs.Common.{◌≡◌, ℕ, List, Bool, true, false, cond, eqb, Option, Some, None, refl, ap, ◌∙◌, subst}
use Rattle.std.specs.List.{list_any}
use Rattle.arc_data.specs.declared.listing.Row.{Row}
use Rattle.arc_data.specs.declared.listing.View.{View}
use Rattle.desk_said.specs.declared.said.Said.{Said}
use Rattle.desk_said.specs.declared.said.Said.TheVariants.{Welcome, Denied, What, Bye, Claimed, NoneWaiting, BusyWith, HeldBy, NotOpen}
use Rattle.desk_said.specs.declared.said.Said.TheVariants.{NotYours, Expected, Missing, Recorded, Released, Closed, Listed, Shown, Unknown, Strange}
use Rattle.desk_screen.specs.Inputs.{Input, is_break}
use Rattle.desk_screen.specs.Orders.{logged, user_after}
use Rattle.desk_screen.specs.Owning.{dropped, due_of, held_in, is_held_by, is_shown_by, kept, lost_in, mere, own_after, own_told}
use Rattle.desk_screen.specs.Owning.{owned_by, own_number, same_number, seen, told_at, viewed, with_due}
use Rattle.desk_screen.specs.Stands.{Owns}
use Rattle.desk_screen.specs.declared.own.Due.{Due}
use Rattle.desk_screen.specs.declared.own.Due.TheVariants.{Untold}
use Rattle.desk_screen.specs.declared.own.Own.{Own}

-- what comes of a test
tested : (user : Option (List ℕ)) (b : Bool) (x y : Option Own) → (b ≡ true → Owns user x) → (b ≡ false → Owns user y) → Owns user (cond b x y)
tested user true x y here there = here refl
tested user false x y here there = there refl

pub nobody : (own : Option Own) → Owns None own
nobody own name o view is = absurd cc

nothing : (user : Option (List ℕ)) → Owns user None
nothing user name o view who is = absurd cc

unseen : (user : Option (List ℕ)) (number : ℕ) → Owns user (Some (mere number))
unseen user number name o view who is shown =
    let at : mere number ≡ o = cc in
    let bad : None ≡ Some view = ap (λ (x : Own). x.view) at ∙ shown in absurd cc

-- another step
renewed : (user : Option (List ℕ)) (due : Due) (own : Option Own) → Owns user own → Owns user (with_due due own)
renewed user due None h = nothing user
renewed user due (Some one) h = λ name o view who is shown.
    let r : Own = record { number = one.number; due = due; view = one.view } in
    let at : r ≡ o = cc in
    h name one view who refl (ap (λ (x : Own). x.view) at ∙ shown)

at_owns : (user : Option (List ℕ)) (about : Option ℕ) (due : Due) (own : Option Own) → Owns user own → Owns user (told_at about due own)
at_owns user about due own h = tested user (same_number about (own_number own)) _ _ (λ same. renewed user due own h) (λ other. h)

owned_owns : (who : List ℕ) (own : Option Own) → Owns (Some who) (owned_by who own)
owned_owns who None = nothing (Some who)
owned_owns who (Some one) = tested (Some who) (is_shown_by who one.view) _ _ (λ his. kept_his one.view his) (λ other. nothing (Some who))
  where
    kept_his : (seen : Option View) → is_shown_by who seen ≡ true → Owns (Some who) (Some (record { number = one.number; due = Untold; view = seen }))
    kept_his None his = absurd cc
    kept_his (Some v) his = λ name o view is there shown.
        let r : Own = record { number = one.number; due = Untold; view = Some v } in
        let at : r ≡ o = cc in
        let same : Some v ≡ Some view = ap (λ (x : Own). x.view) at ∙ shown in
        let it : v ≡ view = cc in
        let him : who ≡ name = cc in
        subst (λ (x : View). is_held_by (Some name) x.holder ≡ true) it (subst (λ (n : List ℕ). is_held_by (Some n) v.holder ≡ true) him his)

dropped_owns : (user : Option (List ℕ)) (number : ℕ) (own : Option Own) → Owns user own → Owns user (dropped number own)
dropped_owns user number None h = h
dropped_owns user number (Some one) h = tested user (eqb one.number number) _ _ (λ same. nothing user) (λ other. h)

viewed_owns : (user : Option (List ℕ)) (view : View) → Owns user (viewed user view)
viewed_owns None view = nobody _
viewed_owns (Some who) view = tested (Some who) (is_held_by (Some who) view.holder) _ _ his (λ other. nothing (Some who))
  where
    his : is_held_by (Some who) view.holder ≡ true → Owns (Some who) (Some (record { number = view.number; due = due_of view.expected; view = Some view }))
    his held name o seen is there shown =
        let r : Own = record { number = view.number; due = due_of view.expected; view = Some view } in
        let at : r ≡ o = cc in
        let same : Some view ≡ Some seen = ap (λ (x : Own). x.view) at ∙ shown in
        let it : view ≡ seen = cc in
        let him : who ≡ name = cc in
        subst (λ (x : View). is_held_by (Some name) x.holder ≡ true) it (subst (λ (n : List ℕ). is_held_by (Some n) view.holder ≡ true) him held)

seen_owns : (user : Option (List ℕ)) (view : View) (own : Option Own) → Owns user own → Owns user (seen user view own)
seen_owns user view None h = h
seen_owns user view (Some one) h = tested user (eqb one.number view.number) _ _ (λ same. viewed_owns user view) (λ other. h)

lost_owns : (user : Option (List ℕ)) (rows : List Row) (own : Option Own) → Owns user own → Owns user (lost_in rows own)
lost_owns user rows None h = h
lost_owns user rows (Some one) h = tested user (list_any (λ r. eqb r.number one.number) rows) _ _ (λ there. nothing user) (λ other. h)

kept_owns : (user : Option (List ℕ)) (number : ℕ) (own : Option Own) → Owns user own → Owns user (kept number own)
kept_owns user number None h = unseen user number
kept_owns user number (Some one) h = tested user (eqb one.number number) _ _ (λ same. h) (λ other. unseen user number)

held_owns : (user : Option (List ℕ)) (rows : List Row) (row : Option Row) (own : Option Own) → Owns user own → Owns user (held_in rows row own)
held_owns user rows None own h = lost_owns user rows own h
held_owns user rows (Some row) own h = kept_owns user row.number own h

owns_told : (said : Said) (about : Option ℕ) (user : Option (List ℕ)) (own : Option Own) → Owns user own → Owns (logged said user) (own_told said about user own)
owns_told (Welcome name) about user own h = owned_owns name own
owns_told Denied about user own h = nobody _
owns_told What about user own h = h
owns_told Bye about user own h = h
owns_told (Claimed number class account) about user own h = unseen user number
owns_told NoneWaiting about user own h = h
owns_told (BusyWith number) about user own h = unseen user number
owns_told (HeldBy operator) about user own h = h
owns_told (NotOpen number) about user own h = dropped_owns user number own h
owns_told (NotYours number) about user own h = dropped_owns user number own h
owns_told (Expected first) about user own h = at_owns user about _ own h
owns_told (Missing first) about user own h = at_owns user about _ own h
owns_told (Recorded incident left) about user own h = at_owns user (Some incident) _ own h
owns_told (Released number) about user own h = dropped_owns user number own h
owns_told (Closed number) about user own h = dropped_owns user number own h
owns_told (Listed total rows) about user own h = held_owns user rows _ own h
owns_told (Shown view) about user own h = seen_owns user view own h
owns_told Unknown about user own h = h
owns_told Strange about user own h = h

-- one turn more
pub owns_after : (i : Input) (said : Said) (about : Option ℕ) (user : Option (List ℕ)) (own : Option Own) → Owns user own
    → Owns (user_after i said user) (own_after i said about user own)
owns_after i said about user own h = at (is_break i)
  where
    at : (b : Bool) → Owns (cond b None (logged said user)) (cond b (with_due Untold own) (own_told said about user own))
    at true = nobody _
    at false = owns_told said about user own h
