-- In which order an event stops and what it leaves: what is handed on, and what a call that went past shows.
use Rattle.std.proofs.Common.{◌≡◌, ◌⊎◌, ℕ, inl, inr, sym, ap, subst, ◌∙◌}
use Rattle.std.specs.Prelude.{Result, Ok, Err, OnErr}
use Rattle.arc_data.specs.declared.event.Event.{Event}
use Rattle.arc_io.specs.Disks.{DiskSeen}
use Rattle.centre_core.specs.declared.hall.Stop.{Stop}
use Rattle.centre_core.specs.declared.hall.Stop.TheVariants.{Memory, Full, Worn}
use Rattle.centre_store.specs.Bodies.{need_of}
use Rattle.centre_store.specs.Given.{summed_size}
use Rattle.centre_store.specs.Stores.{Stored, IsDown, IsSameJournal, LeavesJournal, IsAsBefore}
use Rattle.centre_store.specs.Orders.{StopsInOrder, IsWornFirst, IsFullThen}

abbrev stop_or : {A : Type 0} → Stop → Result A Stop → Stop
stop_or x (Ok a) = x
stop_or x (Err s) = s

abbrev is_stop : {A : Type 0} → Result A Stop → Type 0
is_stop (Ok a) = ⊥
is_stop (Err s) = Unit {0}

-- the one stop that it is
one_stop : {A B : Type 0} (r : Result A Stop) (q : Result B Stop) (stop x : Stop) → r ≡ Err stop → q ≡ Err stop → r ≡ Err x → q ≡ Err x
one_stop r q stop x of on is = on ∙ ap Err (sym (ap (stop_or stop) of) ∙ ap (stop_or stop) is)

-- of two
pub one_of_stops : {A B : Type 0} (r : Result A Stop) (q : Result B Stop) (stop x y : Stop) → r ≡ Err stop → q ≡ Err stop → (r ≡ Err x) ⊎ (r ≡ Err y)
    → (q ≡ Err x) ⊎ (q ≡ Err y)
one_of_stops r q stop x y of on (inl is) = inl (one_stop r q stop x of on is)
one_of_stops r q stop x y of on (inr is) = inr (one_stop r q stop y of on is)

no_stop : {A : Type 0} (r : Result A Stop) (a : A) (x : Stop) → r ≡ Ok a → r ≡ Err x → ⊥
no_stop r a x of is = subst is_stop (sym is ∙ of) tt

-- what was answered was not stopped
pub never_stopped : {A : Type 0} (r : Result A Stop) (a : A) {x y : Stop} → r ≡ Ok a → (r ≡ Err x) ⊎ (r ≡ Err y) → ⊥
never_stopped r a {x} {y} of (inl is) = no_stop r a x of is
never_stopped r a {x} {y} of (inr is) = no_stop r a y of is

module _ {D : Type 0} (seen : D → DiskSeen) (s : Stored D) (event : Event) (clock : ℕ) where
  -- the stop of a call within is that of the call
  pub order_on : {A B : Type 0} (r : Result A Stop) (q : Result B Stop) (stop : Stop) → r ≡ Err stop → q ≡ Err stop
      → IsWornFirst seen s r → IsFullThen seen s event clock r → StopsInOrder seen s event clock q
  order_on r q stop of on worn full = record {
    worn = λ up many. one_stop r q stop (Worn s.state.entries) of on (worn up many);
    full = λ up few b h w to over.
        elim (full up few b h w to over) [
          | inl memory ↦ inl (one_stop r q stop Memory of on memory)
          | inr no_room ↦ inr (one_stop r q stop (Full (summed_size b h) (need_of event) 0) of on no_room)
        ];
  }

  -- a call that answered Ok was not to be stopped
  pub order_past : {A B : Type 0} (r : Result A Stop) (q : Result B Stop) (a : A) → r ≡ Ok a
      → IsWornFirst seen s r → IsFullThen seen s event clock r → StopsInOrder seen s event clock q
  order_past r q a of worn full = record {
    worn = λ up many. absurd (no_stop r a (Worn s.state.entries) of (worn up many));
    full = λ up few b h w to over.
        elim (full up few b h w to over) [
          | inl memory ↦ absurd (no_stop r a Memory of memory)
          | inr no_room ↦ absurd (no_stop r a (Full (summed_size b h) (need_of event) 0) of no_room)
        ];
  }

-- what a call within left as it was, the call did
pub before_on : {B D : Type 0} (old new : Stored D) (q : Result B Stop) (stop : Stop) → q ≡ Err stop
    → new.state.entries ≡ old.state.entries → new.state.sum ≡ old.state.sum → ((IsDown stop → ⊥) → IsSameJournal old.journal new.journal) → IsAsBefore old new q
before_on {B} old new q stop on entries sum unwritten = record {
  entries = subst (λ (x : Result B Stop). OnErr x (new.state.entries ≡ old.state.entries)) (sym on) entries;
  sum = subst (λ (x : Result B Stop). OnErr x (new.state.sum ≡ old.state.sum)) (sym on) sum;
  unwritten = subst (λ (x : Result B Stop). LeavesJournal old.journal new.journal x) (sym on) unwritten;
}
