-- A series goes on as the trace of its sitting shows.
use Rattle.std.proofs.Common.{◌≡◌, ℕ, List, ◌∷◌, [], Bool, true, false, not, ◌&&◌, cond, eqb, Option, Some, None, refl, sym, ap, ◌∙◌, inl, inr, subst}
use Rattle.std.proofs.lemmas.Bool.{and_parts, eqb-true, not-true}
use Rattle.alarm_rules.specs.SetupLines.{after}
use Rattle.arc_data.specs.Steps.{is_reached}
use Rattle.arc_data.specs.declared.step.Outcome.{Outcome}
use Rattle.arc_data.specs.declared.step.Step.{Step}
use Rattle.desk_wire.specs.declared.command.Command.{Command}
use Rattle.desk_wire.specs.declared.command.Command.TheVariants.{Login, Quit, Next, Claim, Act, Release, Close, Show, List as Rows}
use Rattle.desk_screen.specs.Inputs.{Input, Key, Answer, Second, Made, Lost, Turn, Sitting, news}
use Rattle.desk_screen.specs.Orders.{typed_of, user, way, wish}
use Rattle.desk_screen.specs.Owning.{own, own_after, worked_on}
use Rattle.desk_screen.specs.Proper.{Displays, GoesOn, HasGoneOn, IsAllowed, IsKeyed, IsFor, IsNext, IsOwn, IsProper, LeadsOn}
use Rattle.desk_screen.specs.Series.{act_in, act_of, begun_by, broken_off, heard_in, is_own, keeps, kind_of, next_in, outcome_in, series, series_after, shows, stopped}
use Rattle.desk_screen.specs.Typing.{last_key, name, typed}
use Rattle.desk_screen.specs.declared.own.Due.{Due}
use Rattle.desk_screen.specs.declared.own.Due.TheVariants.{Untold, AllMet, Ahead}
use Rattle.desk_screen.specs.declared.own.Own.{Own}
use Rattle.desk_screen.specs.declared.series.Kind.{Kind}
use Rattle.desk_screen.specs.declared.series.Series.{Series}
use Rattle.desk_screen.proofs.Asked.{fit_is, mapped_is, then_is}
use Rattle.desk_screen.proofs.Sends.{first, or_is, three}
use Rattle.desk_screen.proofs.Told.{displays_is}

-- what comes of a test
passed : {A : Type 0} (test : Bool) (x : Option A) (a : A) → cond test x None ≡ Some a → (test ≡ true) × (x ≡ Some a)
passed true x a is = (refl, is)
passed false x a is = absurd cc

-- a key, and a second, leave the own incident
left_by : (s : Sitting) (t : Turn) (i : Input) → t.input ≡ i → own_after i (news i (way s)) (worked_on (way s)) (user s) (own s) ≡ own s → own (t ∷ s) ≡ own s
unfolding own
left_by s t i is left = ap (λ (j : Input). own_after j (news j (way s)) (worked_on (way s)) (user s) (own s)) is ∙ left

own_then : (one other : Option Own) (number : ℕ) → one ≡ other → IsOwn other number → IsOwn one number
own_then one other number is h = (h.0, is ∙ h.1, h.2)

pub gone_own : (s : Sitting) (number : ℕ) (kind : Kind) → HasGoneOn s number kind → IsOwn (own s) number
gone_own [] number kind h = absurd h
gone_own (t ∷ s) number kind h = h.0

own_same : (o : Option Own) (number : ℕ) → is_own o number ≡ true → IsOwn o number
own_same None number is = absurd cc
own_same (Some o) number is = (o, refl, sym (eqb-true number o.number is))

-- how a key begins a series
record Begun (asked : Option Command) (kind : Kind) (x : Series) : Type 0 where
  number : ℕ
  step : Step
  outcome : Outcome
  act : asked ≡ Some (Act number step outcome)
  same : number ≡ x.number
  one : kind ≡ x.kind
  on : not (is_reached outcome) ≡ x.is_on

begun_is : (asked : Option Command) (kind : Kind) (x : Series) → begun_by kind asked ≡ Some x → Begun asked kind x
begun_is None kind x is = absurd cc
begun_is (Some (Act number step outcome)) kind x is =
    let r : Series = record { kind = kind; number = number; recorded = 0; is_on = not (is_reached outcome) } in
    let at : r ≡ x = cc in
    record {
      number = number;
      step = step;
      outcome = outcome;
      act = refl;
      same = ap (λ (y : Series). y.number) at;
      one = ap (λ (y : Series). y.kind) at;
      on = ap (λ (y : Series). y.is_on) at;
    }
begun_is (Some (Login who pin)) kind x is = absurd cc
begun_is (Some Quit) kind x is = absurd cc
begun_is (Some Next) kind x is = absurd cc
begun_is (Some (Claim one)) kind x is = absurd cc
begun_is (Some (Release one)) kind x is = absurd cc
begun_is (Some (Close one code)) kind x is = absurd cc
begun_is (Some (Show one)) kind x is = absurd cc
begun_is (Some Rows) kind x is = absurd cc

off_is : (kind : Kind) (number recorded : ℕ) (x : Series) {P : Type 0}
    → Some (record { kind = kind; number = number; recorded = recorded; is_on = false }) ≡ Some x → x.is_on ≡ true → P
off_is kind number recorded x is on =
    let r : Series = record { kind = kind; number = number; recorded = recorded; is_on = false } in
    let at : r ≡ x = cc in
    let bad : false ≡ true = ap (λ (y : Series). y.is_on) at ∙ on in absurd cc

stopped_off : (before : Option Series) (x : Series) {P : Type 0} → stopped before ≡ Some x → x.is_on ≡ true → P
stopped_off None x is on = absurd cc
stopped_off (Some y) x {P = P} is on = off_is y.kind y.number y.recorded x {P = P} (passed y.is_on _ x is).1 on

broken_off_is : (before : Option Series) (x : Series) {P : Type 0} → broken_off before ≡ Some x → x.is_on ≡ true → P
broken_off_is None x is on = absurd cc
broken_off_is (Some y) x {P = P} is on = off_is y.kind y.number y.recorded x {P = P} is on

-- whose own incident an act that a key asked for names
act_own : (s : Sitting) (t : Turn) (key number : ℕ) (step : Step) (outcome : Outcome) → t.input ≡ Key key → IsKeyed s t (Act number step outcome) → IsOwn (own (t ∷ s)) number
act_own s t key number step outcome pressed h = elim h as (λ _. IsOwn (own (t ∷ s)) number) [
  | inl k ↦ own_then (own (t ∷ s)) (own s) number (left_by s t (Key key) pressed refl) (ahead_own (own s) (last_key s) (typed s) (name s) k.0 k.2)
  | inr n ↦ next_own n
]
  where
    ahead_own : (o : Option Own) (last : Option ℕ) (text : List ℕ) (who : Option (List ℕ)) (k : ℕ) → IsFor o last text who k (Act number step outcome) → IsOwn o number
    ahead_own o last text who k is = (is.2.0, is.2.1, is.2.2)

    next_own : IsNext s t (Act number step outcome) → IsOwn (own (t ∷ s)) number
    next_own n = numbered n.number n.step n.outcome n.act (n.ahead.0, n.ahead.1, n.ahead.2)
      where
        numbered : (one : ℕ) (this : Step) (that : Outcome) → Act number step outcome ≡ Act one this that → IsOwn (own (t ∷ s)) one → IsOwn (own (t ∷ s)) number
        numbered one this that is h = let at : one ≡ number = cc in subst (λ (m : ℕ). IsOwn (own (t ∷ s)) m) at h

-- what is so behind one turn more
abbrev Behind : Sitting → Turn → Input → ℕ → Kind → Type 0
Behind s t i number kind =
    IsOwn (own (t ∷ s)) number
    × GoesOn i (λ key. (kind_of key ≡ Some kind) × LeadsOn t.asked number)
    (keeps (news i (way s)) (typed_of (way s)) t.asked (wish s) number ≡ true)
    (HasGoneOn s number kind)

pressed_is : (s : Sitting) (t : Turn) (key : ℕ) (x : Series) → t.input ≡ Key key → IsAllowed s t → x.is_on ≡ true
    → after (kind_of key) (λ kind. begun_by kind t.asked) ≡ Some x → Behind s t (Key key) x.number x.kind
pressed_is s t key x pressed h on is =
    let k = then_is (kind_of key) (λ kind. begun_by kind t.asked) x is in
    let b = begun_is t.asked k.0 x k.2 in
    subst (λ (m : ℕ). Behind s t (Key key) m x.kind) b.same
    (subst (λ (d : Kind). Behind s t (Key key) b.number d) b.one (
      act_own s t key b.number b.step b.outcome pressed (h.keyed (Act b.number b.step b.outcome) b.act),
      (k.1, subst (λ (c : Option Command). LeadsOn c b.number) (sym b.act) (refl, not-true (is_reached b.outcome) (b.on ∙ on))),
    ))

heard_is : (s : Sitting) (t : Turn) (line : List ℕ) (x : Series) → x.is_on ≡ true
    → ((y : Series) → series s ≡ Some y → y.is_on ≡ true → HasGoneOn s y.number y.kind)
    → heard_in (news (Answer line) (way s)) (typed_of (way s)) t.asked (wish s) (own (t ∷ s)) (series s) ≡ Some x
    → Behind s t (Answer line) x.number x.kind
heard_is s t line x on before is =
    let m = mapped_is _ (series s) x is in
    let y = m.0 in
    let p = three y.is_on _ _ (ap (λ (z : Series). z.is_on) m.2 ∙ on) in
    let first_on = first y.is_on _ (ap (λ (z : Series). z.is_on) m.2 ∙ on) in
    subst (λ (n : ℕ). Behind s t (Answer line) n x.kind) (ap (λ (z : Series). z.number) m.2)
    (subst (λ (d : Kind). Behind s t (Answer line) y.number d) (ap (λ (z : Series). z.kind) m.2)
    (own_same (own (t ∷ s)) y.number p.0, (p.1, before y m.1 first_on)))

gone_after : (s : Sitting) (t : Turn) (i : Input) (x : Series) → t.input ≡ i → IsAllowed s t → x.is_on ≡ true
    → ((y : Series) → series s ≡ Some y → y.is_on ≡ true → HasGoneOn s y.number y.kind)
    → series_after i (news i (way s)) (typed_of (way s)) t.asked (wish s) (own (t ∷ s)) (series s) ≡ Some x
    → Behind s t i x.number x.kind
gone_after s t (Key key) x came h on before is =
    elim (or_is (after (kind_of key) (λ kind. begun_by kind t.asked)) (stopped (series s)) x is) as (λ _. Behind s t (Key key) x.number x.kind)
    [ inl p ↦ pressed_is s t key x came h on p | inr p ↦ stopped_off (series s) x p.1 on ]
gone_after s t (Answer line) x came h on before is = heard_is s t line x on before is
gone_after s t Second x came h on before is =
    let gone = before x is on in
    (own_then (own (t ∷ s)) (own s) x.number (left_by s t Second came refl) (gone_own s x.number x.kind gone), gone)
gone_after s t Made x came h on before is = broken_off_is (series s) x is on
gone_after s t Lost x came h on before is = broken_off_is (series s) x is on

-- a series that is on has gone on
pub gone_is : (s : Sitting) (x : Series) → IsProper s → series s ≡ Some x → x.is_on ≡ true → HasGoneOn s x.number x.kind
unfolding series
gone_is [] x h is on = absurd cc
gone_is (t ∷ s) x h is on = gone_after s t t.input x refl h.0 on (λ y at on. gone_is s y h.1 at on) is

shown_is : (s : Sitting) (t : Turn) (o : Own) (number : ℕ) (step : Step) → shows (news t.input (way s)) number ≡ true → own (t ∷ s) ≡ Some o → o.number ≡ number
    → o.due ≡ Ahead step → Displays (news t.input (way s)) number step
unfolding own
shown_is s t o number step shown is same ahead = displays_is t.input (news t.input (way s)) (worked_on (way s)) (user s) (own s) o number step shown is same ahead

-- what a series asks for is its next command
next_by : (s : Sitting) (t : Turn) (c : Command) (x : Series) (o : Option Own) → IsProper s → series s ≡ Some x → x.is_on ≡ true → shows (news t.input (way s)) x.number ≡ true
    → own (t ∷ s) ≡ o → act_of x.number x.kind o ≡ Some c → IsNext s t c
next_by s t c x None proper at on shown is asks = absurd cc
next_by s t c x (Some o) proper at on shown is asks =
    let p = passed (eqb o.number x.number) (act_in x.number x.kind o.due) c asks in
    due_is o.due refl (eqb-true o.number x.number p.0) p.1
  where
    due_is : (due : Due) → o.due ≡ due → o.number ≡ x.number → act_in x.number x.kind due ≡ Some c → IsNext s t c
    due_is Untold told same it = absurd cc
    due_is AllMet told same it = absurd cc
    due_is (Ahead step) told same it =
        let m = mapped_is (Act x.number step) (outcome_in x.kind step) c it in
        record {
          number = x.number;
          kind = x.kind;
          step = step;
          outcome = m.0;
          gone = gone_is s x proper at on;
          act = sym m.2;
          shown = shown_is s t o x.number step shown is same told;
          ahead = (o, is, same, told);
          recorded = m.1;
          fit = fit_is x.kind step m.0 m.1;
        }

pub next_is : (s : Sitting) (t : Turn) (c : Command) (x : Option Series) → IsProper s → series s ≡ x → next_in (news t.input (way s)) (own (t ∷ s)) x ≡ Some c → IsNext s t c
next_is s t c None proper at asks = absurd cc
next_is s t c (Some x) proper at asks =
    let p = passed (x.is_on && shows (news t.input (way s)) x.number) (act_of x.number x.kind (own (t ∷ s))) c asks in
    let q = and_parts x.is_on (shows (news t.input (way s)) x.number) p.0 in
    next_by s t c x (own (t ∷ s)) proper at q.0 q.1 refl p.1
