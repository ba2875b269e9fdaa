-- What is sent, and why.
use Rattle.std.proofs.Common.{◌≡◌, ◌⊎◌, ℕ, List, Bool, true, false, ◌&&◌, cond, Option, Some, None, refl, ap, inl, inr}
use Rattle.std.specs.Prelude.{is_none}
use Rattle.std.specs.Option.{option_or}
use Rattle.desk_wire.specs.declared.command.Command.{Command}
use Rattle.desk_screen.specs.Inputs.{Input, Key, Answer, Second, Made, Lost, is_answer, is_break}
use Rattle.desk_screen.specs.Orders.{connected_after, due_order, polled, way_left, wish_asked, typed_of}
use Rattle.desk_screen.specs.Asking.{may_ask}
use Rattle.desk_screen.specs.declared.order.Order.{Order}
use Rattle.desk_screen.specs.declared.order.Order.TheVariants.{Typed}

-- something is sent over a connection alone
pub due_connected : (connected : Bool) (way : Option Order) (wish : Option Command) (user : Option (List ℕ)) (number : Option ℕ) (list : Bool) (o : Order)
    → due_order connected way wish user number list ≡ Some o → connected ≡ true
due_connected false way wish user number list o is = absurd cc
due_connected true way wish user number list o is = refl

-- and where nothing is on the way
pub due_alone : (connected : Bool) (way : Option Order) (wish : Option Command) (user : Option (List ℕ)) (number : Option ℕ) (list : Bool) (o : Order)
    → due_order connected way wish user number list ≡ Some o → way ≡ None
due_alone false way wish user number list o is = absurd cc
due_alone true (Some p) wish user number list o is = absurd cc
due_alone true None wish user number list o is = refl

polled_is : (number : Option ℕ) (list : Bool) (c : Command) → polled number list ≡ Some (Typed c) → ⊥
polled_is (Some number) list c is = cc
polled_is None true c is = cc
polled_is None false c is = cc

-- a command of the operator's is what he wished
pub due_typed : (connected : Bool) (way : Option Order) (wish : Option Command) (user : Option (List ℕ)) (number : Option ℕ) (list : Bool) (c : Command)
    → due_order connected way wish user number list ≡ Some (Typed c) → wish ≡ Some c
due_typed false way wish user number list c is = absurd cc
due_typed true (Some p) wish user number list c is = absurd cc
due_typed true None (Some d) user number list c is = cc
due_typed true None None None number list c is = absurd cc
due_typed true None None (Some name) number list c is = absurd (polled_is number list c is)

pub or_is : {A : Type 0} (asked before : Option A) (c : A) → option_or asked before ≡ Some c → (asked ≡ Some c) ⊎ ((asked ≡ None) × (before ≡ Some c))
or_is (Some a) before c is = inl is
or_is None before c is = inr (refl, is)

wished_by : (broken : Bool) (asked before : Option Command) (c : Command) → cond broken None (option_or asked before) ≡ Some c
    → (asked ≡ Some c) ⊎ ((asked ≡ None) × (before ≡ Some c))
wished_by true asked before c is = absurd cc
wished_by false asked before c is = or_is asked before c is

unbroken : (broken : Bool) (wish : Option Command) (c : Command) → cond broken None wish ≡ Some c → broken ≡ false
unbroken true wish c is = absurd cc
unbroken false wish c is = refl

-- and nothing where a connection begins or ends
pub fresh : (i : Input) (asked before : Option Command) (c : Command) → wish_asked i asked before ≡ Some c → is_break i ≡ false
fresh i asked before c is = unbroken (is_break i) (option_or asked before) c is

-- what he wished is what a key asks for now, or asked for before
pub wished : (i : Input) (asked before : Option Command) (c : Command) → wish_asked i asked before ≡ Some c
    → (asked ≡ Some c) ⊎ ((asked ≡ None) × (before ≡ Some c))
wished i asked before c is = wished_by (is_break i) asked before c is

-- nothing, where the test says so
pub none_is : {A : Type 0} (o : Option A) → is_none o ≡ true → o ≡ None
none_is None is = refl
none_is (Some a) is = absurd cc

pub three : (a b d : Bool) → (a && (b && d)) ≡ true → (b ≡ true) × (d ≡ true)
three true true true is = (refl, refl)
three true true false is = absurd cc
three true false d is = absurd cc
three false b d is = absurd cc

pub first : (a b : Bool) → (a && b) ≡ true → a ≡ true
first true b is = refl
first false b is = absurd cc

-- a key may ask over a connection
pub connected_is : (connected : Bool) (way : Option Order) (wish : Option Command) → may_ask connected way wish ≡ true → connected ≡ true
connected_is connected way wish may = first connected (is_none (typed_of way) && is_none wish) may

-- a key may ask where no command of the operator's is on the way or waits
pub free_is : (connected : Bool) (way : Option Order) (wish : Option Command) → may_ask connected way wish ≡ true → (typed_of way ≡ None) × (wish ≡ None)
free_is connected way wish may =
    let h = three connected (is_none (typed_of way)) (is_none wish) may in
    (none_is (typed_of way) h.0, none_is wish h.1)

-- what is asked for behind a line of the desk is sent at once
pub prompt : (i : Input) (connected before : Bool) (way : Option Order) (asked wish : Option Command) (user : Option (List ℕ)) (number : Option ℕ) (list : Bool) (c : Command)
    → is_answer i ≡ true → connected ≡ connected_after i before → before ≡ true → asked ≡ Some c
    → due_order connected (way_left i way) (wish_asked i asked wish) user number list ≡ Some (Typed c)
prompt (Key key) connected before way asked wish user number list c answer is on by = absurd cc
prompt (Answer line) true before way (Some d) wish user number list c answer is on by = let at : d ≡ c = cc in ap (λ (e : Command). Some (Typed e)) at
prompt (Answer line) true before way None wish user number list c answer is on by = absurd cc
prompt (Answer line) false true way asked wish user number list c answer is on by = absurd cc
prompt (Answer line) false false way asked wish user number list c answer is on by = absurd cc
prompt Second connected before way asked wish user number list c answer is on by = absurd cc
prompt Made connected before way asked wish user number list c answer is on by = absurd cc
prompt Lost connected before way asked wish user number list c answer is on by = absurd cc
