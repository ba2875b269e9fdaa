-- A closing is confirmed by the key before.
use Rattle.std.proofs.Common.{◌≡◌, ℕ, List, [], ◌∷◌, Bool, true, false, cond, Option, Some, None, refl, ap, ◌∙◌, inl, inr}
use Rattle.std.proofs.lemmas.Bool.{eqb-true}
use Rattle.arc_data.specs.declared.event.CloseCode.{CloseCode}
use Rattle.arc_data.specs.declared.step.Outcome.{Outcome}
use Rattle.arc_data.specs.declared.step.Step.{Step}
use Rattle.desk_wire.specs.declared.command.Command.TheVariants.{Act, Close}
use Rattle.desk_screen.specs.Inputs.{Input, Key, Answer, Second, Made, Lost, Turn, Sitting, news}
use Rattle.desk_screen.specs.Orders.{user, way}
use Rattle.desk_screen.specs.Owning.{own, own_after, own_number, same_number, worked_on}
use Rattle.desk_screen.specs.Proper.{Confirms, IsKeyed, IsConfirmed, IsFor, IsOwn, code_key}
use Rattle.desk_screen.specs.Typing.{last_after, last_key, name, tells_login, typed}
use Rattle.desk_screen.specs.declared.own.Own.{Own}
use Rattle.desk_screen.proofs.Asked.{own_is}

same_is : (one other : Option ℕ) (number : ℕ) → same_number one other ≡ true → other ≡ Some number → one ≡ Some number
same_is None None number same is = is
same_is None (Some m) number same is = absurd cc
same_is (Some k) None number same is = absurd cc
same_is (Some k) (Some m) number same is = ap Some (eqb-true k m same) ∙ is

kept_is : (told same : Bool) (last : Option ℕ) (key : ℕ) → cond told None (cond same last None) ≡ Some key → (same ≡ true) × (last ≡ Some key)
kept_is true same last key is = absurd cc
kept_is false true last key is = (refl, is)
kept_is false false last key is = absurd cc

number_is : (o : Option Own) (number : ℕ) → IsOwn o number → own_number o ≡ Some number
number_is None number h = absurd cc
number_is (Some own) number h = cc

-- one turn more
confirms : (i : Input) (s : Sitting) (number : ℕ) (code : CloseCode)
    → last_after i (news i (way s)) (same_number (own_number (own s)) (own_number (own_after i (news i (way s)) (worked_on (way s)) (user s) (own s)))) (last_key s) ≡ Some (code_key code)
    → own_number (own_after i (news i (way s)) (worked_on (way s)) (user s) (own s)) ≡ Some number
    → (last_key s ≡ Some (code_key code) → own_number (own s) ≡ Some number → IsConfirmed s number code)
    → Confirms i (code_key code) (IsOwn (own s) number) (IsConfirmed s number code)
confirms (Key key) s number code last is before = (cc, own_is (own s) number is)
confirms (Answer line) s number code last is before =
    let k = kept_is (tells_login (news (Answer line) (way s))) _ (last_key s) (code_key code) last in
    before k.1 (same_is _ _ number k.0 is)
confirms Second s number code last is before = before last is
confirms Made s number code last is before = absurd cc
confirms Lost s number code last is before = absurd cc

-- where the newest key is that of a code
pub confirmed_is : (s : Sitting) (number : ℕ) (code : CloseCode) → last_key s ≡ Some (code_key code) → own_number (own s) ≡ Some number → IsConfirmed s number code
unfolding last_key own
confirmed_is [] number code last is = absurd cc
confirmed_is (t ∷ s) number code last is = (own_is (own (t ∷ s)) number is, confirms t.input s number code last is (confirmed_is s number code))

closed_is : (o : Option Own) (last : Option ℕ) (typed : List ℕ) (name : Option (List ℕ)) (key number : ℕ) (code : CloseCode)
    → IsFor o last typed name key (Close number code) → (last ≡ Some (code_key code)) × IsOwn o number
closed_is o last typed name key number code h = (h.1, h.2)

-- a closing that is asked for
pub asked_confirmed : (s : Sitting) (t : Turn) (number : ℕ) (code : CloseCode) → IsKeyed s t (Close number code) → IsConfirmed s number code
asked_confirmed s t number code h = elim h as (λ _. IsConfirmed s number code) [
  | inl k ↦ by_key k.0 k.2
  | inr n ↦ absurd (no_act n.number n.step n.outcome n.act)
]
  where
    by_key : (key : ℕ) → IsFor (own s) (last_key s) (typed s) (name s) key (Close number code) → IsConfirmed s number code
    by_key key is =
        let c = closed_is (own s) (last_key s) (typed s) (name s) key number code is in
        confirmed_is s number code c.0 (number_is (own s) number c.1)

    no_act : (one : ℕ) (step : Step) (outcome : Outcome) → Close number code ≡ Act one step outcome → ⊥
    no_act one step outcome is = cc
