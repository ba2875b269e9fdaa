-- Why a key asks for a command.
use Rattle.std.proofs.Common.{◌≡◌, ℕ, List, Bool, true, false, cond, eqb, Option, Some, None, refl, ap, ◌∙◌, inl, inr, subst}
use Rattle.std.specs.Prelude.{nat_lt}
use Rattle.std.specs.Option.{option_map, option_or}
use Rattle.std.proofs.lemmas.Bool.{eqb-true}
use Rattle.alarm_rules.specs.SetupLines.{after, provided}
use Rattle.alarm_rules.specs.SetupWords.{is_pin, word_that}
use Rattle.arc_data.specs.Steps.{fits}
use Rattle.arc_data.specs.declared.event.CloseCode.{CloseCode}
use Rattle.arc_data.specs.declared.event.CloseCode.TheVariants.{Real, False, Test}
use Rattle.arc_data.specs.declared.step.Outcome.{Outcome}
use Rattle.arc_data.specs.declared.step.Outcome.TheVariants.{Reached, NoAnswer, Done}
use Rattle.arc_data.specs.declared.step.Step.{Step}
use Rattle.arc_data.specs.declared.step.Step.TheVariants.{Premises, Holder, Police, Fire, Ambulance, Guard, Note}
use Rattle.desk_wire.specs.Names.{number_spelled}
use Rattle.desk_wire.specs.declared.command.Command.{Command}
use Rattle.desk_wire.specs.declared.command.Command.TheVariants.{Login, Next, Claim, Act, Release, Close, Show}
use Rattle.desk_screen.specs.Asking.{act_at, acted, closed_by, code_of, key_asks, login_key, number_meant, outcome_of, work_key}
use Rattle.desk_screen.specs.Owning.{own_number}
use Rattle.desk_screen.specs.Proper.{IsFor, IsOwn, outcome_key, code_key}
use Rattle.desk_screen.specs.Series.{act_in, call_of, first_in, kind_of, outcome_in}
use Rattle.desk_screen.specs.Typing.{is_enter}
use Rattle.desk_screen.specs.declared.own.Due.{Due}
use Rattle.desk_screen.specs.declared.own.Due.TheVariants.{Untold, AllMet, Ahead}
use Rattle.desk_screen.specs.declared.own.Own.{Own}
use Rattle.desk_screen.specs.declared.series.Kind.{Kind}
use Rattle.desk_screen.specs.declared.series.Kind.TheVariants.{Tasks, Unanswered, Reaching}
use Rattle.desk_screen.proofs.Sends.{or_is}

pub then_is : {A B : Type 0} (part : Option A) (rest : A → Option B) (b : B) → after part rest ≡ Some b → (a : A) × (part ≡ Some a) × (rest a ≡ Some b)
then_is None rest b is = absurd cc
then_is (Some a) rest b is = (a, refl, is)

pub mapped_is : {A B : Type 0} (f : A → B) (part : Option A) (b : B) → option_map f part ≡ Some b → (a : A) × (part ≡ Some a) × (f a ≡ b)
mapped_is f None b is = absurd cc
mapped_is f (Some a) b is = (a, refl, cc)

provided_is : {A : Type 0} (test : Bool) (a b : A) → provided test a ≡ Some b → (test ≡ true) × (a ≡ b)
provided_is true a b is = (refl, cc)
provided_is false a b is = absurd cc

-- what comes of a test
either : {A : Type 0} {P : Type 0} (b : Bool) (x y : Option A) (a : A) → (b ≡ true → x ≡ Some a → P) → (y ≡ Some a → P) → cond b x y ≡ Some a → P
either true x y a here there is = here refl is
either false x y a here there is = there is

nothing : {A : Type 0} {P : Type 0} (a : A) → None ≡ Some a → P
nothing a is = absurd cc

-- the own incident has this number
pub own_is : (own : Option Own) (number : ℕ) → own_number own ≡ Some number → IsOwn own number
own_is None number is = absurd cc
own_is (Some o) number is = (o, refl, cc)

outcome_is : (key : ℕ) (outcome : Outcome) → outcome_of key ≡ Some outcome → key ≡ outcome_key outcome
outcome_is key outcome is =
    either (eqb key 114) _ _ outcome (λ same it. said Reached same it)
    (either (eqb key 97) _ _ outcome (λ same it. said NoAnswer same it)
    (either (eqb key 100) _ _ outcome (λ same it. said Done same it) (nothing outcome))) is
  where
    said : (o : Outcome) → eqb key (outcome_key o) ≡ true → Some o ≡ Some outcome → key ≡ outcome_key outcome
    said o same it = let at : o ≡ outcome = cc in eqb-true key (outcome_key o) same ∙ ap outcome_key at

code_is : (key : ℕ) (code : CloseCode) → code_of key ≡ Some code → key ≡ code_key code
code_is key code is =
    either (eqb key 82) _ _ code (λ same it. said Real same it)
    (either (eqb key 70) _ _ code (λ same it. said False same it)
    (either (eqb key 84) _ _ code (λ same it. said Test same it) (nothing code))) is
  where
    said : (d : CloseCode) → eqb key (code_key d) ≡ true → Some d ≡ Some code → key ≡ code_key code
    said d same it = let at : d ≡ code = cc in eqb-true key (code_key d) same ∙ ap code_key at

act_is : (own : Option Own) (last : Option ℕ) (typed : List ℕ) (name : Option (List ℕ)) (key : ℕ) (outcome : Outcome) (c : Command)
    → key ≡ outcome_key outcome → acted own outcome ≡ Some c → IsFor own last typed name key c
act_is None last typed name key outcome c by is = absurd cc
act_is (Some o) last typed name key outcome c by is = at o.due refl is
  where
    at : (due : Due) → o.due ≡ due → act_at o.number due outcome ≡ Some c → IsFor (Some o) last typed name key c
    at Untold told it = absurd cc
    at AllMet told it = absurd cc
    at (Ahead step) told it =
        let h = provided_is (fits step outcome) (Act o.number step outcome) c it in
        subst (IsFor (Some o) last typed name key) h.1 (inl by, h.0, (o, refl, refl, told))

-- what a series records of a step fits it
call_fits : (reached number : ℕ) (outcome : Outcome) → call_of reached number ≡ Some outcome → fits (Holder number) outcome ≡ true
call_fits reached number outcome is =
    either (nat_lt number reached) _ _ outcome (λ before it. said NoAnswer refl it)
    (either (eqb number reached) _ _ outcome (λ same it. said Reached refl it) (nothing outcome)) is
  where
    said : (o : Outcome) → fits (Holder number) o ≡ true → Some o ≡ Some outcome → fits (Holder number) outcome ≡ true
    said o fit it = let at : outcome ≡ o = cc in ap (fits (Holder number)) at ∙ fit

pub fit_is : (kind : Kind) (step : Step) (outcome : Outcome) → outcome_in kind step ≡ Some outcome → fits step outcome ≡ true
fit_is Tasks Premises outcome is = absurd cc
fit_is Tasks (Holder n) outcome is = absurd cc
fit_is Tasks Police outcome is = let at : outcome ≡ Done = cc in ap (fits Police) at
fit_is Tasks Fire outcome is = let at : outcome ≡ Done = cc in ap (fits Fire) at
fit_is Tasks Ambulance outcome is = let at : outcome ≡ Done = cc in ap (fits Ambulance) at
fit_is Tasks Guard outcome is = let at : outcome ≡ Done = cc in ap (fits Guard) at
fit_is Tasks Note outcome is = let at : outcome ≡ Done = cc in ap (fits Note) at
fit_is Unanswered Premises outcome is = absurd cc
fit_is Unanswered (Holder n) outcome is = let at : outcome ≡ NoAnswer = cc in ap (fits (Holder n)) at
fit_is Unanswered Police outcome is = absurd cc
fit_is Unanswered Fire outcome is = absurd cc
fit_is Unanswered Ambulance outcome is = absurd cc
fit_is Unanswered Guard outcome is = absurd cc
fit_is Unanswered Note outcome is = absurd cc
fit_is (Reaching reached) Premises outcome is = absurd cc
fit_is (Reaching reached) (Holder n) outcome is = call_fits reached n outcome is
fit_is (Reaching reached) Police outcome is = absurd cc
fit_is (Reaching reached) Fire outcome is = absurd cc
fit_is (Reaching reached) Ambulance outcome is = absurd cc
fit_is (Reaching reached) Guard outcome is = absurd cc
fit_is (Reaching reached) Note outcome is = absurd cc

-- the first command of a series
first_is : (own : Option Own) (last : Option ℕ) (typed : List ℕ) (name : Option (List ℕ)) (key : ℕ) (kind : Kind) (c : Command)
    → kind_of key ≡ Some kind → first_in own kind ≡ Some c → IsFor own last typed name key c
first_is None last typed name key kind c by is = absurd cc
first_is (Some o) last typed name key kind c by is = at o.due refl is
  where
    at : (due : Due) → o.due ≡ due → act_in o.number kind due ≡ Some c → IsFor (Some o) last typed name key c
    at Untold told it = absurd cc
    at AllMet told it = absurd cc
    at (Ahead step) told it =
        let m = mapped_is (Act o.number step) (outcome_in kind step) c it in
        subst (IsFor (Some o) last typed name key) m.2 (inr (kind, by, m.1), fit_is kind step m.0 m.1, (o, refl, refl, told))

close_is : (own : Option Own) (last : Option ℕ) (typed : List ℕ) (name : Option (List ℕ)) (key : ℕ) (c : Command)
    → key ≡ 121 → closed_by last own ≡ Some c → IsFor own last typed name key c
close_is own last typed name key c by is =
    let number = then_is (own_number own) _ c is in
    let before = then_is last _ c number.2 in
    let code = mapped_is (Close number.0) (code_of before.0) c before.2 in
    subst (IsFor own last typed name key) code.2
    (by, before.1 ∙ ap Some (code_is before.0 code.0 code.1), own_is own number.0 number.1)

login_is : (own : Option Own) (last : Option ℕ) (typed : List ℕ) (name : Option (List ℕ)) (key : ℕ) (c : Command)
    → login_key name typed key ≡ Some c → IsFor own last typed name key c
login_is own last typed None key c is = absurd cc
login_is own last typed (Some who) key c is = either (is_enter key) _ _ c entered (nothing c) is
  where
    entered : is_enter key ≡ true → option_map (Login who) (word_that is_pin typed) ≡ Some c → IsFor own last typed (Some who) key c
    entered enter it =
        let pin = mapped_is (Login who) (word_that is_pin typed) c it in
        subst (IsFor own last typed (Some who) key) pin.2 (enter, refl, pin.1)

work_is : (own : Option Own) (last : Option ℕ) (typed : List ℕ) (name : Option (List ℕ)) (key : ℕ) (c : Command)
    → work_key own last typed key ≡ Some c → IsFor own last typed name key c
work_is own last typed name key c is =
    either (eqb key 110) _ _ c next
    (either (eqb key 99) _ _ c claim
    (either (eqb key 115) _ _ c show
    (either (eqb key 108) _ _ c release
    (either (eqb key 121) _ _ c (λ same it. close_is own last typed name key c (eqb-true key 121 same) it) act)))) is
  where
    next : eqb key 110 ≡ true → Some Next ≡ Some c → IsFor own last typed name key c
    next same it = let at : Next ≡ c = cc in subst (IsFor own last typed name key) at (eqb-true key 110 same)

    claim : eqb key 99 ≡ true → option_map Claim (number_spelled typed) ≡ Some c → IsFor own last typed name key c
    claim same it =
        let n = mapped_is Claim (number_spelled typed) c it in
        subst (IsFor own last typed name key) n.2 (eqb-true key 99 same, n.1)

    show : eqb key 115 ≡ true → option_map Show (number_meant typed own) ≡ Some c → IsFor own last typed name key c
    show same it =
        let n = mapped_is Show (number_meant typed own) c it in
        subst (IsFor own last typed name key) n.2 (eqb-true key 115 same, n.1)

    release : eqb key 108 ≡ true → option_map Release (own_number own) ≡ Some c → IsFor own last typed name key c
    release same it =
        let n = mapped_is Release (own_number own) c it in
        subst (IsFor own last typed name key) n.2 (eqb-true key 108 same, own_is own n.0 n.1)

    one : after (outcome_of key) (acted own) ≡ Some c → IsFor own last typed name key c
    one it =
        let outcome = then_is (outcome_of key) (acted own) c it in
        act_is own last typed name key outcome.0 c (outcome_is key outcome.0 outcome.1) outcome.2

    first : after (kind_of key) (first_in own) ≡ Some c → IsFor own last typed name key c
    first it =
        let kind = then_is (kind_of key) (first_in own) c it in
        first_is own last typed name key kind.0 c kind.1 kind.2

    act : option_or (after (outcome_of key) (acted own)) (after (kind_of key) (first_in own)) ≡ Some c → IsFor own last typed name key c
    act it =
        elim (or_is (after (outcome_of key) (acted own)) (after (kind_of key) (first_in own)) c it) as (λ _. IsFor own last typed name key c)
        [ inl p ↦ one p | inr p ↦ first p.1 ]

-- a key asks for a command for its own reason
pub asks_is : (user : Option (List ℕ)) (own : Option Own) (last : Option ℕ) (typed : List ℕ) (name : Option (List ℕ)) (key : ℕ) (c : Command)
    → key_asks user own last typed name key ≡ Some c → IsFor own last typed name key c
asks_is None own last typed name key c is = login_is own last typed name key c is
asks_is (Some user) own last typed name key c is = work_is own last typed name key c is
