-- What passes and the desk carry from one step of a call to the next.
use Rattle.std.proofs.Common.{◌≡◌, ℕ, List, [], ◌∷◌, ◌++◌, inl, refl, sym, ap, ◌∙◌, subst, arith, length-append, append_assoc}
use Rattle.std.specs.Prelude.{Some, unwrap_or}
use Rattle.std.proofs.lemmas.List.Elements.{All-nil}
use Rattle.atomic_table.specs.Seated.{TableId}
use Rattle.atomic_table.specs.Table.{Me}
use Rattle.alarm_rules.specs.Setups.{meaning}
use Rattle.arc_io.specs.Disks.{DiskSeen}
use Rattle.centre_core.specs.Runs.{IsSubmitted}
use Rattle.centre_core.specs.InForce.{in_force}
use Rattle.centre_core.specs.Setting.{IsSetting}
use Rattle.centre_store.specs.Stores.{Stored}
use Rattle.line_gate.specs.Entries.{Entry, Extends, made_by, longer, AreBy}
use Rattle.line_gate.specs.declared.view.View.{View}
use Rattle.line_gate.specs.Views.{first_view, settled, pass_of, taking, appended}
use Rattle.line_gate.specs.Terms.{Terms, IsOfGate, AreSubmitted}
use Rattle.line_gate.specs.UnderLock.{StandsSince, IsKept, IsUnderLock, IsEntered}
use Rattle.line_gate.specs.Blanks.{Names, IsBlank}
use Rattle.line_gate.specs.Passes.{PassSeen, pass_seen, IsLater, IsSeated, IsPass, Makes, MakesAll, grown}
use Rattle.line_gate.proofs.Histories.{extends_self, extends_further, extends_length, longer_right, made_by-all}

-- a call in which nothing changed
pub later_self : (p : PassSeen) → IsLater p p
later_self p = record { number = refl; since = extends_self p.since; count = omega arith; told = omega arith }

-- two calls one after another
pub later_further : (p q r : PassSeen) → IsLater p q → IsLater q r → IsLater p r
later_further p q r a b = record {
  number = b.number ∙ a.number;
  since = extends_further p.since q.since r.since a.since b.since;
  count = let x = a.count in let y = b.count in omega arith;
  told = let x = a.told in let y = b.told in omega arith;
}

-- a pass that appended entries
pub later_grown : (es : List Entry) (p q : PassSeen) → q ≡ grown es p → IsLater p q
later_grown es p q same = subst (IsLater p) (sym same) (record { number = refl; since = (es, refl); count = omega arith; told = omega arith })

-- a call that made one entry is the case of a list of one
pub makes_one : (t : Terms) (p q : PassSeen) (clock : ℕ) (e : Entry) → Makes t p q clock e → MakesAll t p q (clock ∷ []) (e ∷ [])
makes_one t p q clock e m = record { before = m.before; extends = m.extends; since = m.since; made = m.made; answers = (m.answer, tt) }

pub one_made : (t : Terms) (p q : PassSeen) (clock : ℕ) (e : Entry) → MakesAll t p q (clock ∷ []) (e ∷ []) → Makes t p q clock e
one_made t p q clock e m = record { before = m.before; extends = m.extends; since = m.since; made = m.made; answer = m.answers.0 }

-- a seated pass that took in a note and appended entries of its own is seated
pub grown_seated : (t : Terms) (number : ℕ) (es : List Entry) (table from : TableId) (me mid was : Me (Unit {0}) View) (note : View)
    → mid ≡ (taking was.0 note, was.1) → me ≡ (appended es mid.0, mid.1) → table ≡ from
    → AreBy number es → IsOfGate t (es ++ was.0.seen) → IsSeated t number from was → IsSeated t number table me
grown_seated t number es table from me mid was note took grew same by of_gate i =
    let e : me ≡ (appended es (taking was.0 note), was.1) = grew ∙ ap (λ (m : Me (Unit {0}) View). (appended es m.0, m.1)) took in subst (IsSeated t number table) (sym e) (record {
      table_is = same ∙ i.table_is;
      carries = i.carries;
      is_pass = i.is_pass;
      number_is = i.number_is;
      free = refl;
      below = i.below;
      own = made_by-all number es was.0.seen by ∙ ap (λ (l : List Entry). es ++ l) i.own;
      of_gate = of_gate;
    })

-- the longer of two, where the second begins with the first
pub longer_all : (a b : List Entry) → Extends a b → longer a b ≡ b
longer_all a b t = longer_right a b (extends_length a b t)

-- what callers see of a seated pass
pub pass_from : (t : Terms) (number : ℕ) (table : TableId) (me : Me (Unit {0}) View) → IsSeated t number table me → IsPass t (pass_seen number me.0)
pass_from t number table me i = record { of_gate = i.of_gate; own = i.own; below = i.below }

-- what a store stands for over each base is the end of a history of the gate
pub since_of_gate : {D : Type 0} (seen : D → DiskSeen) (t : Terms) (since : List Entry) (s : Stored D) → StandsSince seen t since s
    → AreSubmitted since → s.state.sum.text ≡ Some t.text → IsSetting s.state.sum.text → IsOfGate t since
since_of_gate seen t since s k submitted text setting = record {
  long = λ b base from. let w = (k.stands b base from).centre.entries in let n = k.entries in omega (arith, length-append since base);
  over = λ b base from. let w = k.stands b base from in record {
    legal = w.centre.legal;
    in_force = in_force s.state b (since ++ base) (record { stands = w.centre; setting = setting }) ∙ ap (λ (text : _). Some (meaning (unwrap_or text []))) text;
  };
  submitted = submitted;
}

-- a new pass is seated
pub new_seated : (t : Terms) (number : ℕ) (table from : TableId) (me book : Me (Unit {0}) View) → me ≡ (settled (pass_of book.0), []) → table ≡ from → from ≡ t.table → book.0.count ≡ number
    → made_by book.0.count book.0.seen ≡ [] → IsOfGate t book.0.seen → IsSeated t number table me
new_seated t number table from me book e same is count none of_gate = record {
  table_is = same ∙ is;
  carries = ap (λ (m : Me (Unit {0}) View). m.1) e;
  is_pass = ap (λ (m : Me (Unit {0}) View). m.0.book) e;
  number_is = ap (λ (m : Me (Unit {0}) View). m.0.number) e ∙ ap Some count;
  free = ap (λ (m : Me (Unit {0}) View). m.0.named) e;
  below = let n = ap (λ (m : Me (Unit {0}) View). m.0.count) e in omega arith;
  own = ap (λ (m : Me (Unit {0}) View). made_by number m.0.seen) e ∙ ap (λ (k : ℕ). made_by k book.0.seen) (sym count) ∙ none ∙ sym (ap (λ (m : Me (Unit {0}) View). m.0.made) e);
  of_gate = subst (λ (m : Me (Unit {0}) View). IsOfGate t m.0.seen) (sym e) of_gate;
}

-- the store before the gate, which is given its name
first_kept : {D : Type 0} (seen : D → DiskSeen)
    (t : Terms) (table from first_from : TableId) (book first : Me (Unit {0}) View) (s : Stored D) (text : List ℕ)
    → Names seen t (record { table = table; store = s; text = text })
    → IsBlank table from first_from book first s text → IsKept seen t [] 0 s
first_kept seen t table from first_from book first s text n i =
    let stood : StandsSince seen t [] s = record { stands = n.stood; entries = let e = n.entries in omega arith } in
    let none : AreSubmitted [] = All-nil (λ (e : Entry). IsSubmitted e.event) in
    let text_is = sym i.text_is ∙ ap Some n.text in record {
      stands = inl stood;
      of_gate = since_of_gate seen t [] s stood none text_is i.setting;
      most_told = omega arith;
      at_open = n.at_open;
      limits = n.limits;
      text = text_is;
      setting = i.setting;
    }

-- the first pass is seated: it has seen just the base
pub first_seated : {D : Type 0} (seen : D → DiskSeen)
    (t : Terms) (table from first_from : TableId) (book first : Me (Unit {0}) View) (s : Stored D) (text : List ℕ)
    → Names seen t (record { table = table; store = s; text = text })
    → IsBlank table from first_from book first s text → IsSeated t 1 first_from first
first_seated seen t table from first_from book first s text n i =
    new_seated t 1 first_from table first (first_view, []) i.first_is i.first_at n.table refl refl
    (first_kept seen t table from first_from book first s text n i).of_gate

-- what lies under the lock first: the book has seen just the base, too
pub first_locked : {D : Type 0} (seen : D → DiskSeen)
    (t : Terms) (table from first_from : TableId) (book first : Me (Unit {0}) View) (s : Stored D) (text : List ℕ)
    → Names seen t (record { table = table; store = s; text = text })
    → IsBlank table from first_from book first s text → IsUnderLock seen t 2 from book s
first_locked seen t table from first_from book first s text n i = record {
  seat = record {
    table_is = i.book_at ∙ n.table;
    carries = ap (λ (m : Me (Unit {0}) View). m.1) i.book_is;
    is_book = ap (λ (m : Me (Unit {0}) View). m.0.book) i.book_is;
    free = ap (λ (m : Me (Unit {0}) View). m.0.named) i.book_is;
  };
  count_is = ap (λ (m : Me (Unit {0}) View). m.0.count) i.book_is;
  kept = subst (λ (m : Me (Unit {0}) View). IsKept seen t m.0.seen m.0.told s) (sym i.book_is)
      (first_kept seen t table from first_from book first s text n i);
}

-- the book has seen entries that were entered
pub entered_locked : {D : Type 0} (seen : D → DiskSeen)
    (t : Terms) (count : ℕ) (es : List Entry) (table from : TableId) (me was : Me (Unit {0}) View) (s now : Stored D)
    → IsEntered es table from me was → IsUnderLock seen t count from was s → IsKept seen t (es ++ was.0.seen) was.0.told now
    → IsUnderLock seen t count table me now
entered_locked seen t count es table from me was s now e i kept = record {
  seat = record { table_is = e.table_is ∙ i.seat.table_is; carries = e.carries ∙ i.seat.carries; is_book = e.is_book; free = e.free };
  count_is = e.count ∙ i.count_is;
  kept = subst (λ (h : List Entry). IsKept seen t h me.0.told now) (sym e.seen)
      (subst (λ (k : ℕ). IsKept seen t (es ++ was.0.seen) k now) (sym e.told) kept);
}

-- one list begins with another, and so with the base behind both
pub extends_base : (a b base : List Entry) → Extends a b → Extends (a ++ base) (b ++ base)
extends_base a b base t = (t.0, ap (λ (y : List Entry). y ++ base) t.1 ∙ append_assoc t.0 a base)
