-- What one key causes.
use Rattle.std.proofs.Common.{◌≡◌, ℕ, List, [], ◌∷◌, true, Option, Some, None, refl, sym, ap, ◌∙◌, inl, inr, subst}
use Rattle.std.specs.List.{cons_option}
use Rattle.arc_data.specs.declared.step.Outcome.{Outcome}
use Rattle.arc_data.specs.declared.step.Outcome.TheVariants.{Reached, NoAnswer, Done}
use Rattle.arc_data.specs.declared.step.Step.{Step}
use Rattle.desk_wire.specs.declared.command.Command.{Command}
use Rattle.desk_wire.specs.declared.command.Command.TheVariants.{Login, Quit, Next, Claim, Act, Release, Close, Show, List as Rows}
use Rattle.desk_screen.specs.Inputs.{Input, Key, Answer, Second, Made, Lost, Turn, Sitting, news}
use Rattle.desk_screen.specs.Orders.{typed_of, way, wish}
use Rattle.desk_screen.specs.Owning.{own}
use Rattle.desk_screen.specs.Proper.{Displays, GoesOn, HasGoneOn, IsAllowed, IsKeyed, IsFor, IsKeyOf, IsNext, IsOwn, IsProper, LeadsOn, outcome_key}
use Rattle.desk_screen.specs.Series.{keeps, kind_of, outcome_in}
use Rattle.desk_screen.specs.Typing.{last_key, name, typed}
use Rattle.desk_screen.specs.Whole.{AreActsIn, HasOneCause, IsActIn, IsCausedBy, asked_since, key_after, newest_key, since}
use Rattle.desk_screen.specs.declared.own.Own.{Own}
use Rattle.desk_screen.specs.declared.series.Kind.{Kind}
use Rattle.desk_screen.proofs.Goes.{gone_own}

-- the newest key is one of a series of this kind, and what was asked for since are its acts, for this incident, one at least
record Ran (newest : Option ℕ) (asked : List Command) (number : ℕ) (kind : Kind) : Type 0 where
  key : ℕ
  newest_is : newest ≡ Some key
  kind_is : kind_of key ≡ Some kind
  first : Command
  others : List Command
  asked_are : asked ≡ first ∷ others
  acts : AreActsIn number kind (first ∷ others)

-- with this command behind them
ran_more : (newest : Option ℕ) (asked : List Command) (number : ℕ) (kind : Kind) (more : Option Command)
    → ((c : Command) → more ≡ Some c → IsActIn number kind c) → Ran newest asked number kind → Ran newest (cons_option more asked) number kind
ran_more newest asked number kind None acts h = h
ran_more newest asked number kind (Some c) acts h = record {
  key = h.key;
  newest_is = h.newest_is;
  kind_is = h.kind_is;
  first = c;
  others = asked;
  asked_are = refl;
  acts = (acts c refl, subst (λ (cs : List Command). AreActsIn number kind cs) (sym h.asked_are) h.acts);
}

one_own : (o : Option Own) (number other : ℕ) → IsOwn o number → IsOwn o other → number ≡ other
one_own None number other h k = absurd cc
one_own (Some own) number other h k =
    let a : own ≡ h.0 = cc in
    let b : own ≡ k.0 = cc in
    sym h.2 ∙ ap (λ (x : Own). x.number) (sym a ∙ b) ∙ k.2

one_kind : (newest : Option ℕ) (one other : List Command) (number incident : ℕ) (kind twin : Kind)
    → Ran newest one number kind → Ran newest other incident twin → kind ≡ twin
one_kind newest one other number incident kind twin h k =
    let same_key : Some h.key ≡ Some k.key = sym h.newest_is ∙ k.newest_is in
    let at : h.key ≡ k.key = cc in
    let both : Some kind ≡ Some twin = sym h.kind_is ∙ ap kind_of at ∙ k.kind_is in
    cc

-- a key of an outcome is none of a series
no_series : (outcome : Outcome) (kind : Kind) {P : Type 0} → kind_of (outcome_key outcome) ≡ Some kind → P
no_series Reached kind is = absurd cc
no_series NoAnswer kind is = absurd cc
no_series Done kind is = absurd cc

-- the first act of a series
first_in_kind : (key : ℕ) (kind : Kind) (step : Step) (outcome : Outcome) → kind_of key ≡ Some kind → IsKeyOf key step outcome → outcome_in kind step ≡ Some outcome
first_in_kind key kind step outcome is h = elim h as (λ _. outcome_in kind step ≡ Some outcome) [
  | inl p ↦ no_series outcome kind (sym (ap kind_of p) ∙ is)
  | inr q ↦ same_kind q.0 q.1 q.2
]
  where
    same_kind : (twin : Kind) → kind_of key ≡ Some twin → outcome_in twin step ≡ Some outcome → outcome_in kind step ≡ Some outcome
    same_kind twin begins it =
        let both : Some twin ≡ Some kind = sym begins ∙ is in
        let at : twin ≡ kind = cc in
        subst (λ (k : Kind). outcome_in k step ≡ Some outcome) at it

-- a command that is asked for behind anything but a key and a line of the desk
no_cause : (s : Sitting) (t : Turn) (i : Input) (c : Command) {P : Type 0} → t.input ≡ i → ((key : ℕ) → Key key ≡ i → ⊥)
    → ((number : ℕ) (step : Step) → Displays (news i (way s)) number step → ⊥) → IsKeyed s t c → P
no_cause s t i c {P = P} came keyless dark h = absurd (elim h as (λ _. ⊥) [
  | inl k ↦ keyless k.0 (sym k.1 ∙ came)
  | inr n ↦ dark n.number n.step (subst (λ (j : Input). Displays (news j (way s)) n.number n.step) came n.shown)
])

-- the act by which a key begins a series
record Leads (asked : Option Command) (number : ℕ) : Type 0 where
  step : Step
  outcome : Outcome
  act : asked ≡ Some (Act number step outcome)

leads_is : (asked : Option Command) (number : ℕ) → LeadsOn asked number → Leads asked number
leads_is None number h = absurd h
leads_is (Some (Act one step outcome)) number h =
    record { step = step; outcome = outcome; act = ap (λ (n : ℕ). Some (Act n step outcome)) h.0 }
leads_is (Some (Login who pin)) number h = absurd h
leads_is (Some Quit) number h = absurd h
leads_is (Some Next) number h = absurd h
leads_is (Some (Claim one)) number h = absurd h
leads_is (Some (Release one)) number h = absurd h
leads_is (Some (Close one code)) number h = absurd h
leads_is (Some (Show one)) number h = absurd h
leads_is (Some Rows) number h = absurd h

key_act : (s : Sitting) (t : Turn) (key number : ℕ) (kind : Kind) (step : Step) (outcome : Outcome) → t.input ≡ Key key → kind_of key ≡ Some kind
    → IsKeyed s t (Act number step outcome) → outcome_in kind step ≡ Some outcome
key_act s t key number kind step outcome came begins h = elim h as (λ _. outcome_in kind step ≡ Some outcome) [
  | inl k ↦ by_key k.0 (sym k.1 ∙ came) (of_act (own s) (last_key s) (typed s) (name s) k.0 k.2)
  | inr n ↦ absurd (dark n.number n.step (subst (λ (j : Input). Displays (news j (way s)) n.number n.step) came n.shown))
]
  where
    of_act : (o : Option Own) (last : Option ℕ) (text : List ℕ) (who : Option (List ℕ)) (k : ℕ) → IsFor o last text who k (Act number step outcome) → IsKeyOf k step outcome
    of_act o last text who k is = is.0

    by_key : (k : ℕ) → Key k ≡ Key key → IsKeyOf k step outcome → outcome_in kind step ≡ Some outcome
    by_key k same is =
        let at : k ≡ key = cc in
        first_in_kind k kind step outcome (ap kind_of at ∙ begins) is

    dark : (n : ℕ) (p : Step) → Displays (news (Key key) (way s)) n p → ⊥
    dark n p is = is

key_ran : (s : Sitting) (t : Turn) (key number : ℕ) (kind : Kind) → t.input ≡ Key key → IsAllowed s t → kind_of key ≡ Some kind → LeadsOn t.asked number
    → Ran (Some key) (cons_option t.asked []) number kind
key_ran s t key number kind came h begins leads =
    let l = leads_is t.asked number leads in
    record {
      key = key;
      newest_is = refl;
      kind_is = begins;
      first = Act number l.step l.outcome;
      others = [];
      asked_are = ap (λ (a : Option Command). cons_option a []) l.act;
      acts = ((refl, key_act s t key number kind l.step l.outcome came begins (h.keyed (Act number l.step l.outcome) l.act)), tt);
    }

no_key_answer : (line : List ℕ) (key : ℕ) → Key key ≡ Answer line → ⊥
no_key_answer line key is = cc

next_act : (s : Sitting) (t : Turn) (line : List ℕ) (number : ℕ) (kind : Kind) (c : Command) → t.input ≡ Answer line
    → ((n : ℕ) (k : Kind) → HasGoneOn s n k → Ran (newest_key s) (asked_since s) n k) → HasGoneOn s number kind → IsKeyed s t c → IsActIn number kind c
next_act s t line number kind c came before gone h = elim h as (λ _. IsActIn number kind c) [
  | inl k ↦ absurd (no_key_answer line k.0 (sym k.1 ∙ came))
  | inr n ↦ subst (λ (d : Command). IsActIn number kind d) (sym n.act) (
    one_own (own s) n.number number (gone_own s n.number n.kind n.gone) (gone_own s number kind gone),
    subst (λ (k : Kind). outcome_in k n.step ≡ Some n.outcome)
        (one_kind (newest_key s) (asked_since s) (asked_since s) n.number number n.kind kind (before n.number n.kind n.gone) (before number kind gone)) n.recorded,
  )
]

no_key_second : (key : ℕ) → Key key ≡ Second → ⊥
no_key_second key is = cc

no_key_made : (key : ℕ) → Key key ≡ Made → ⊥
no_key_made key is = cc

no_key_lost : (key : ℕ) → Key key ≡ Lost → ⊥
no_key_lost key is = cc

ran_after : (i : Input) (s : Sitting) (t : Turn) (number : ℕ) (kind : Kind) → t.input ≡ i → IsAllowed s t
    → ((n : ℕ) (k : Kind) → HasGoneOn s n k → Ran (newest_key s) (asked_since s) n k)
    → GoesOn i (λ key. (kind_of key ≡ Some kind) × LeadsOn t.asked number)
    (keeps (news i (way s)) (typed_of (way s)) t.asked (wish s) number ≡ true) (HasGoneOn s number kind)
    → Ran (key_after i (newest_key s)) (cons_option t.asked (since i (asked_since s))) number kind
ran_after (Key key) s t number kind came h before g = key_ran s t key number kind came h g.0 g.1
ran_after (Answer line) s t number kind came h before g =
    ran_more (newest_key s) (asked_since s) number kind t.asked (λ c is. next_act s t line number kind c came before g.1 (h.keyed c is)) (before number kind g.1)
ran_after Second s t number kind came h before g =
    ran_more (newest_key s) (asked_since s) number kind t.asked (λ c is. no_cause s t Second c came no_key_second (λ n p is. is) (h.keyed c is)) (before number kind g)
ran_after Made s t number kind came h before g = absurd g
ran_after Lost s t number kind came h before g = absurd g

gone_ran : (s : Sitting) (number : ℕ) (kind : Kind) → IsProper s → HasGoneOn s number kind → Ran (newest_key s) (asked_since s) number kind
unfolding newest_key asked_since
gone_ran [] number kind p h = absurd h
gone_ran (t ∷ s) number kind p h = ran_after t.input s t number kind refl p.0 (λ n k g. gone_ran s n k p.1 g) h.1

one_at_most : (key : ℕ) (asked : Option Command) → IsCausedBy (Some key) (cons_option asked [])
one_at_most key None = tt
one_at_most key (Some c) = tt

-- what a line of the desk adds
answered : (s : Sitting) (t : Turn) (line : List ℕ) (asked : Option Command) → t.input ≡ Answer line → t.asked ≡ asked → IsAllowed s t → IsProper s
    → IsCausedBy (newest_key s) (asked_since s) → IsCausedBy (newest_key s) (cons_option asked (asked_since s))
answered s t line None came is h p before = before
answered s t line (Some c) came is h p before = elim (h.keyed c is) as (λ _. IsCausedBy (newest_key s) (c ∷ asked_since s)) [
  | inl k ↦ absurd (no_key_answer line k.0 (sym k.1 ∙ came))
  | inr n ↦ next n
]
  where
    next : IsNext s t c → IsCausedBy (newest_key s) (c ∷ asked_since s)
    next n =
        let r = gone_ran s n.number n.kind p n.gone in
        subst (λ (key : Option ℕ). IsCausedBy key (c ∷ asked_since s)) (sym r.newest_is)
        (subst (λ (cs : List Command). IsCausedBy (Some r.key) (c ∷ cs)) (sym r.asked_are)
        (n.number, n.kind, r.kind_is, (subst (λ (d : Command). IsActIn n.number n.kind d) (sym n.act) (refl, n.recorded), r.acts)))

-- a second, and the beginning or the end of a connection, add nothing
silent : (s : Sitting) (t : Turn) (i : Input) (key : Option ℕ) (before : List Command) (asked : Option Command) → t.input ≡ i → ((k : ℕ) → Key k ≡ i → ⊥)
    → ((number : ℕ) (step : Step) → Displays (news i (way s)) number step → ⊥) → t.asked ≡ asked → IsAllowed s t → IsCausedBy key before
    → IsCausedBy key (cons_option asked before)
silent s t i key before None came keyless dark is h caused = caused
silent s t i key before (Some c) came keyless dark is h caused = no_cause s t i c came keyless dark (h.keyed c is)

caused : (i : Input) (s : Sitting) (t : Turn) → t.input ≡ i → IsAllowed s t → IsProper s → IsCausedBy (newest_key s) (asked_since s)
    → IsCausedBy (key_after i (newest_key s)) (cons_option t.asked (since i (asked_since s)))
caused (Key key) s t came h p before = one_at_most key t.asked
caused (Answer line) s t came h p before = answered s t line t.asked came refl h p before
caused Second s t came h p before = silent s t Second (newest_key s) (asked_since s) t.asked came no_key_second (λ n p is. is) refl h before
caused Made s t came h p before = silent s t Made None [] t.asked came no_key_made (λ n p is. is) refl h tt
caused Lost s t came h p before = silent s t Lost None [] t.asked came no_key_lost (λ n p is. is) refl h tt

until : (s : Sitting) → HasOneCause s → IsCausedBy (newest_key s) (asked_since s)
unfolding newest_key asked_since
until [] h = tt
until (t ∷ s) h = h.0

-- One turn more.
pub one_cause : (t : Turn) (s : Sitting) → IsAllowed s t → IsProper s → HasOneCause s → HasOneCause (t ∷ s)
unfolding newest_key asked_since
one_cause t s h p before = (caused t.input s t refl h p (until s before), before)
