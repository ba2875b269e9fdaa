-- What is so of a whole sitting.
use Rattle.std.proofs.Common.{◌≡◌, ◌⊎◌, List, [], ◌∷◌, Bool, true, false, cond, Option, Some, None, refl, sym, inl, inr, subst}
use Rattle.std.specs.List.{cons_option}
use Rattle.std.specs.Option.{option_map, option_or}
use Rattle.desk_wire.specs.declared.command.Command.{Command}
use Rattle.desk_wire.specs.declared.command.Command.TheVariants.{Login, Quit, Next, Claim, Act, Release, Close, Show, List as Rows}
use Rattle.desk_screen.specs.Inputs.{Input, Key, Answer, Second, Made, Lost, Sitting, is_break}
use Rattle.desk_screen.specs.Orders.{is_login, masked, typed_of, undone, undone_asked, undone_lost, way, way_left, way_sent, wish, wish_asked, wish_left}
use Rattle.desk_screen.specs.Plain.{answered, answered_after}
use Rattle.desk_screen.specs.Proper.{IsProper}
use Rattle.desk_screen.specs.Whole.{HasNoPin, IsMasked, IsPartOf, IsSentOnce, asked_in, sent_in}
use Rattle.desk_screen.specs.declared.deed.Deed.{Deed}
use Rattle.desk_screen.specs.declared.order.Order.{Order}
use Rattle.desk_screen.specs.declared.order.Order.TheVariants.{Typed, Polled}

part_more : {A : Type 0} (b : A) (whole part : List A) → IsPartOf whole part → IsPartOf (b ∷ whole) part
part_more b whole [] h = tt
part_more b whole (a ∷ part) h = inr h

part_both : {A : Type 0} (a : A) (whole part : List A) → IsPartOf whole part → IsPartOf (a ∷ whole) (a ∷ part)
part_both a whole part h = inl (refl, h)

part_rest : {A : Type 0} (a : A) (whole part : List A) → IsPartOf whole (a ∷ part) → IsPartOf whole part
part_rest {A} a [] part h = absurd h
part_rest {A} a (b ∷ whole) part h =
    elim h as (λ _. IsPartOf (b ∷ whole) part) [ inl p ↦ part_more b whole part p.1 | inr q ↦ part_more b whole part (part_rest a whole part q) ]

without : {A : Type 0} (first : Option A) (whole part : List A) → IsPartOf whole (cons_option first part) → IsPartOf whole part
without None whole part h = h
without (Some a) whole part h = part_rest a whole part h

-- nothing of the operator's is sent in this turn
waits : (broken : Bool) (asked before : Option Command) (whole part : List Command) → IsPartOf whole (cons_option before part)
    → IsPartOf (cons_option asked whole) (cons_option (cond broken None (option_or asked before)) part)
waits true None before whole part h = without before whole part h
waits true (Some a) before whole part h = part_more a whole part (without before whole part h)
waits false None before whole part h = h
waits false (Some a) before whole part h = part_both a whole part (without before whole part h)

-- one turn more
turned : (i : Input) (asked : Option Command) (sent : Option Order) (before : Option Command) (whole part : List Command)
    → ((c : Command) → sent ≡ Some (Typed c) → (asked ≡ Some c) ⊎ ((asked ≡ None) × (before ≡ Some c)))
    → IsPartOf whole (cons_option before part)
    → IsPartOf (cons_option asked whole) (cons_option (wish_left sent (wish_asked i asked before)) (cons_option (typed_of sent) part))
turned i asked None before whole part wished h = waits (is_break i) asked before whole part h
turned i asked (Some (Polled poll)) before whole part wished h = waits (is_break i) asked before whole part h
turned i asked (Some (Typed c)) before whole part wished h =
    elim (wished c refl) as (λ _. IsPartOf (cons_option asked whole) (c ∷ part)) [
      | inl is ↦ subst (λ (a : Option Command). IsPartOf (cons_option a whole) (c ∷ part)) (sym is) (part_both c whole part (without before whole part h))
      | inr is ↦ subst (λ (a : Option Command). IsPartOf (cons_option a whole) (c ∷ part)) (sym is.0)
          (subst (λ (b : Option Command). IsPartOf whole (cons_option b part)) is.1 h)
    ]

waiting_once : (s : Sitting) → IsProper s → IsPartOf (asked_in s) (cons_option (wish s) (sent_in s))
unfolding wish
waiting_once [] h = tt
waiting_once (t ∷ s) h = turned t.input t.asked t.sent (wish s) (asked_in s) (sent_in s) h.0.wished (waiting_once s h.1)

pub sent_once : (s : Sitting) → IsProper s → IsSentOnce s
sent_once s h = without (wish s) (asked_in s) (sent_in s) (waiting_once s h)

pub none_masked : IsMasked None
none_masked who pin is = absurd cc

masked_is : (c : Command) → IsMasked (Some (masked c))
masked_is (Login name digits) who pin is = cc
masked_is Quit who pin is = absurd cc
masked_is Next who pin is = absurd cc
masked_is (Claim number) who pin is = absurd cc
masked_is (Act number step outcome) who pin is = absurd cc
masked_is (Release number) who pin is = absurd cc
masked_is (Close number code) who pin is = absurd cc
masked_is (Show number) who pin is = absurd cc
masked_is Rows who pin is = absurd cc

left_masked : (i : Input) (before : Option Order) → IsMasked (typed_of before) → IsMasked (typed_of (way_left i before))
left_masked (Key key) before h = h
left_masked (Answer line) before h = none_masked
left_masked Second before h = h
left_masked Made before h = none_masked
left_masked Lost before h = none_masked

sent_masked : (sent left : Option Order) → IsMasked (typed_of left) → IsMasked (typed_of (way_sent sent left))
sent_masked None left h = h
sent_masked (Some (Typed c)) left h = masked_is c
sent_masked (Some (Polled poll)) left h = none_masked

way_masked : (s : Sitting) → IsMasked (typed_of (way s))
unfolding way
way_masked [] = none_masked
way_masked (t ∷ s) = sent_masked t.sent (way_left t.input (way s)) (left_masked t.input (way s) (way_masked s))

or_masked : (one other : Option Command) → IsMasked one → IsMasked other → IsMasked (option_or one other)
or_masked None other h k = k
or_masked (Some c) other h k = h

wish_masked : (wished : Option Command) → IsMasked (option_map masked wished)
wish_masked None = none_masked
wish_masked (Some c) = masked_is c

either_masked : (test : Bool) (one other : Option Command) → IsMasked one → IsMasked other → IsMasked (cond test one other)
either_masked true one other h k = h
either_masked false one other h k = k

asked_masked : (asked before : Option Command) → IsMasked before → IsMasked (undone_asked asked before)
asked_masked None before h = h
asked_masked (Some c) before h = either_masked (is_login c) before None h none_masked

lost_masked : (i : Input) (way : Option Order) (wished before : Option Command) → IsMasked (typed_of way) → IsMasked before
    → IsMasked (undone_lost i way wished before)
lost_masked i way wished before h k =
    either_masked (is_break i) _ before (or_masked (typed_of way) _ h (or_masked (option_map masked wished) before (wish_masked wished) k)) k

undone_masked : (s : Sitting) → IsMasked (undone s)
unfolding undone
undone_masked [] = none_masked
undone_masked (t ∷ s) =
    asked_masked t.asked (undone_lost t.input (way s) (wish s) (undone s)) (lost_masked t.input (way s) (wish s) (undone s) (way_masked s) (undone_masked s))

abbrev command_of : Option Deed → Option Command
command_of deed = option_map (λ d. d.command) deed

told_masked : (i : Input) (way : Option Order) (before : Option Deed) → IsMasked (typed_of way) → IsMasked (command_of before)
    → IsMasked (command_of (answered_after i way before))
told_masked (Key key) way before h k = k
told_masked (Answer line) None before h k = k
told_masked (Answer line) (Some (Typed c)) before h k = h
told_masked (Answer line) (Some (Polled poll)) before h k = k
told_masked Second way before h k = k
told_masked Made way before h k = k
told_masked Lost way before h k = k

answered_masked : (s : Sitting) → IsMasked (command_of (answered s))
unfolding answered
answered_masked [] = none_masked
answered_masked (t ∷ s) = told_masked t.input (way s) (answered s) (way_masked s) (answered_masked s)

pub has_no_pin : (s : Sitting) → HasNoPin s
has_no_pin s = (way_masked s, undone_masked s, answered_masked s)
