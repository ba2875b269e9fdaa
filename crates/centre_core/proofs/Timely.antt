-- The signals that an event carries come at its moment.
use Rattle.std.proofs.Common.{◌≡◌, ℕ, zero, suc, List, [], ◌∷◌, ◌++◌, map, Bool, true, false, cond, sym, subst, Option, Some, None, arith}
use Rattle.std.specs.Prelude.{unwrap_or}
use Rattle.std.specs.List.{filter, flat_map, All}
use Rattle.arc_data.specs.declared.event.Event.{Event}
use Rattle.arc_data.specs.declared.event.Event.TheVariants.{Message as Sent, Tick}
use Rattle.arc_data.specs.declared.signal.Class.{Class}
use Rattle.arc_data.specs.declared.signal.Class.TheVariants.{CommFail, LateClose}
use Rattle.arc_data.specs.declared.signal.Signal.{Signal}
use Rattle.alarm_rules.specs.Setups.{Setup, Account, account_of}
use Rattle.alarm_rules.specs.Signals.{signals}
use Rattle.centre_rules.specs.Summary.{Summary}
use Rattle.centre_rules.specs.Marks.{Carried, force}
use Rattle.centre_rules.specs.Carrying.{carried, carried_by, carried_sent, is_irregular, is_silent, is_late, own_signal, if_in_force, raised_where}
use Rattle.centre_rules.specs.History.{IsMoment}

-- it holds of each
abbrev pub AllOf : {X : Type 0} → (X → Type 0) → List X → Type 0
AllOf P [] = Unit {0}
AllOf P (x ∷ xs) = P x × AllOf P xs

pub all_by : {X : Type 0} → (P : X → Type 0) (xs : List X) → AllOf P xs → All P xs
all_by P [] all k d lt = absurd (omega (arith, lt))
all_by P (x ∷ xs) all zero d lt = all.0
all_by P (x ∷ xs) all (suc k) d lt = all_by P xs all.1 k d (omega (arith, lt))

append_at : (xs ys : List Carried) → AllOf (λ (x : Carried). IsMoment x.at) xs → AllOf (λ (x : Carried). IsMoment x.at) ys → AllOf (λ (x : Carried). IsMoment x.at) (xs ++ ys)
append_at [] ys f g = g
append_at (x ∷ xs) ys f g = (f.0, append_at xs ys f.1 g)

one_at : (b : Bool) (x : Carried) → IsMoment x.at → AllOf (λ (x : Carried). IsMoment x.at) (cond b (x ∷ []) [])
one_at true x m = (m, tt)
one_at false x m = tt

sent_at : (setup : Setup) (account via : List ℕ) (at : ℕ) → IsMoment at → (xs : List Signal) → AllOf (λ (x : Carried). IsMoment x.at) (flat_map (carried_sent setup account via at) xs)
sent_at setup account via at m [] = tt
sent_at setup account via at m (x ∷ xs) =
    append_at (carried_sent setup account via at x) (flat_map (carried_sent setup account via at) xs)
    (m, one_at (is_irregular (account_of setup account) x.kind at) (carried setup account at false [] (own_signal _)) m) (sent_at setup account via at m xs)

raised_at : (setup : Setup) (class : Class) (at : ℕ) → IsMoment at → (xs : List Account) → AllOf (λ (x : Carried). IsMoment x.at) (map (λ a. carried setup a.number at true [] (own_signal class)) xs)
raised_at setup class at m [] = tt
raised_at setup class at m (x ∷ xs) = (m, raised_at setup class at m xs)

force_at : (o : Option Setup) (under : Setup → List Carried) → ((setup : Setup) → AllOf (λ (x : Carried). IsMoment x.at) (under setup)) → AllOf (λ (x : Carried). IsMoment x.at) (if_in_force o under)
force_at None under all = tt
force_at (Some setup) under all = all setup

carried_at : (s : Summary) (e : Event) (at : ℕ) → IsMoment at → AllOf (λ (x : Carried). IsMoment x.at) (carried_by s [] e at)
carried_at s (Sent message via) at m =
    force_at (force s []) (λ setup. flat_map (carried_sent setup message.account via at) (unwrap_or (signals message.token message.content) []))
    (λ setup. sent_at setup message.account via at m (unwrap_or (signals message.token message.content) []))
carried_at s Tick at m =
    force_at (force s []) (λ setup. raised_where (is_silent s [] at) CommFail at setup ++ raised_where (is_late s [] at) LateClose at setup)
    (λ setup. append_at (raised_where (is_silent s [] at) CommFail at setup) (raised_where (is_late s [] at) LateClose at setup)
    (raised_at setup CommFail at m (filter (is_silent s [] at) setup.accounts)) (raised_at setup LateClose at m (filter (is_late s [] at) setup.accounts)))
carried_at s event at m = tt

-- each of them
pub carried_timely : (s : Summary) (e : Event) (at : ℕ) (xs : List Carried) → IsMoment at → xs ≡ carried_by s [] e at → All (λ (x : Carried). IsMoment x.at) xs
carried_timely s e at xs m are = all_by (λ (x : Carried). IsMoment x.at) xs (subst (AllOf (λ (x : Carried). IsMoment x.at)) (sym are) (carried_at s e at m))
