-- The table finds none of its account and class, and none that its holder holds.
use Rattle.std.proofs.Common.{◌≡◌, ◌∙◌, List, Bool, true, false, Option, Some, None, refl, sym, ap}
use Rattle.std.specs.Prelude.{is_some, not}
use Rattle.std.specs.List.{find}
use Rattle.std.specs.Option.{option_map}
use Rattle.std.proofs.lemmas.Bool.{false≢true}
use Rattle.arc_data.specs.Incidents.{is_of}
use Rattle.arc_data.specs.declared.incident.Incident.{Incident}
use Rattle.centre_rules.specs.Desks.{holds}
use Rattle.centre_rules.specs.Standing.{stands_at, standing_of}
use Rattle.summary_rules.specs.Lists.{Every}
use Rattle.summary_rules.specs.Conditions.{IsHeldApart}
use Rattle.summary_rules.proofs.Everies.{every_map}
use Rattle.incidents.specs.Tables.{number_of}
use Rattle.centre_core.proofs.Apart.{apart_every, every_apart, held_every, every_held, free_every}
use Rattle.centre_core.proofs.Decoded.{every_back}
use Rattle.centre_core.proofs.decoding.is_apart.Goals as goal

map_none : {A B : Type 0} (f : A → B) (o : Option A) → option_map f o ≡ None → o ≡ None
map_none f None e = refl
map_none f (Some x) e = absurd cc

not_some : {A : Type 0} (o : Option A) → is_some o ≡ false → o ≡ None
not_some None e = refl
not_some (Some x) e = absurd (false≢true (sym e))

not_false : (b : Bool) → not b ≡ false → b ≡ true
not_false true e = refl
not_false false e = sym e

pub returns-then-is_some : goal.returns-then-is_some
returns-then-is_some c = (
  λ e. absurd (false≢true e),
  λ w.
      let x = c.args.i.now in
      let none : c.find.result ≡ None =
      c.find.ensures ∙ ap (λ (l : List Incident). number_of (find (is_of x.account x.class) l)) c.table.ensures.incidents
      ∙ ap number_of (every_apart c.args.queued.now.incidents x w.0) in
      absurd (false≢true (sym (ap is_some none) ∙ sym c.is_some.ensures ∙ c.if-is_some.true)),
)

pub returns-in-Some : goal.returns-in-Some
returns-in-Some c =
    let x = c.args.i.now in
    let is = c.args.queued.now.incidents in
    let stands = stands_at c.args.lapse c.args.at in
    let stood = standing_of c.args.lapse c.args.at is in
    let none : find (is_of x.account x.class) is ≡ None =
    map_none (λ (i : Incident). i.number) (find (is_of x.account x.class) is)
    (sym (c.find.ensures ∙ ap (λ (l : List Incident). number_of (find (is_of x.account x.class) l)) c.table.ensures.incidents) ∙ not_some c.find.result (sym c.is_some.ensures ∙ c.if-is_some.false)) in
    let o = c.in-Some.operator in
    let holder : (stands x).holder ≡ Some o = sym c.holder_at.ensures ∙ c.in-Some.is in (
      λ t.
          let unfound : c.held_by.result ≡ None = not_some c.held_by.result (c.is_none.ensures ∙ ap not t) in
          let unheld : find (holds o) stood ≡ None = sym c.held_by.ensures ∙ ap (option_map (λ i. stands i.now)) unfound in
          (apart_every is x none, every_back (λ other. IsHeldApart other (stands x)) stands is (held_every stood (stands x) o holder unheld)),
      λ w.
          let apart : Every (λ other. IsHeldApart other (stands x)) stood =
          every_map (λ other. IsHeldApart (stands other) (stands x)) (λ other. IsHeldApart other (stands x)) stands (λ i v. v) is w.1 in
          let unfound : c.held_by.result ≡ None =
          map_none (λ i. stands i.now) c.held_by.result (c.held_by.ensures ∙ every_held stood (stands x) o holder apart) in
          not_false c.is_none.result (sym c.is_none.ensures ∙ ap is_some unfound),
    )

pub returns-in-None : goal.returns-in-None
returns-in-None c =
    let x = c.args.i.now in
    let is = c.args.queued.now.incidents in
    let stands = stands_at c.args.lapse c.args.at in
    let none : find (is_of x.account x.class) is ≡ None =
    map_none (λ (i : Incident). i.number) (find (is_of x.account x.class) is)
    (sym (c.find.ensures ∙ ap (λ (l : List Incident). number_of (find (is_of x.account x.class) l)) c.table.ensures.incidents) ∙ not_some c.find.result (sym c.is_some.ensures ∙ c.if-is_some.false)) in
    let free : (stands x).holder ≡ None = sym c.holder_at.ensures ∙ c.in-None.is in (
      λ t. (
        apart_every is x none,
        every_back (λ other. IsHeldApart other (stands x)) stands is (free_every (standing_of c.args.lapse c.args.at is) (stands x) free),
      ),
      λ w. refl,
    )
