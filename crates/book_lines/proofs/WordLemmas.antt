-- Words ask for options exactly where they are words for these.
use Rattle.std.proofs.Common.{◌≡◌, ℕ, List, [], ◌∷◌, ◌++◌, Bool, true, false, Option, Some, None, if◌then◌else◌, inl, inr, refl, sym, ap, subst, ◌∙◌}
use Rattle.std.specs.Prelude.{codes, ◌↔◌}
use Rattle.std.specs.Str.{bytes_eq}
use Rattle.std.proofs.lemmas.Slice.Eq.{bytes_eq-Decides}
use Rattle.arc_data.specs.Digits.{is_name}
use Rattle.alarm_rules.specs.SetupWords.{account_named, word_that}
use Rattle.book_lines.specs.Asked.{asking, clock_ahead, clock_ruled, number_named, options_of, place_named, plain}
use Rattle.book_lines.specs.Asked.{from_tabs, from_zone, from_offset, from_operator, from_incident, from_account, from_until, from_since}
use Rattle.book_lines.specs.WordsFor.{AreOf, AreOfClock, AreFor}
use Rattle.book_lines.specs.declared.clock.Clock.{Clock}
use Rattle.book_lines.specs.declared.clock.Clock.TheVariants.{Fixed}
use Rattle.book_lines.specs.declared.clock.Offset.TheVariants.{Gmt}
use Rattle.book_lines.specs.declared.options.Options.{Options}
use Rattle.book_lines.specs.declared.options.Place.{Place}

some_is : {A : Type 0} (x y : A) → Some x ≡ Some y → x ≡ y
some_is x y e = cc

never : {A : Type 0} (x : A) → Some x ≡ None → ⊥
never x e = cc

-- an option before others
abbrev step : {A : Type 0} → List ℕ → (List ℕ → Option A) → (A → Options → Options) → (List (List ℕ) → Option Options) → List (List ℕ) → Option Options
step name read put rest [] = rest []
step name read put rest (a ∷ []) = rest (a ∷ [])
step name read put rest (a ∷ b ∷ ws) = if bytes_eq a name then asking put (read b) (rest ws) else rest (a ∷ b ∷ ws)

abbrev with_value : {A : Type 0} → (A → Options → Options) → Option A → Options → Options
with_value put None o = o
with_value put (Some value) o = put value o

-- what words were made of in which an option may stand before others
record Made (A : Type 0) (name : List ℕ) (read : List ℕ → Option A) (put : A → Options → Options) (rest : List (List ℕ) → Option Options) (ws : List (List ℕ)) (o : Options) : Type 0 where
  value : Option A
  part : List (List ℕ)
  behind : List (List ℕ)
  under : Options
  are : ws ≡ part ++ behind
  of : AreOf name read value part
  below : rest behind ≡ Some under
  is : o ≡ with_value put value under

-- one option and those behind it, apart and together
module _ (A : Type 0) (name : List ℕ) (read : List ℕ → Option A) (put : A → Options → Options) (rest : List (List ℕ) → Option Options) where
  named : (a b : List ℕ) (ws : List (List ℕ)) (o : Options) → a ≡ name → (r : Option A) → read b ≡ r → (q : Option Options) → rest ws ≡ q → asking put r q ≡ Some o
      → Made A name read put rest (a ∷ b ∷ ws) o
  named a b ws o same None is q below e = absurd cc
  named a b ws o same (Some v) is None below e = absurd cc
  named a b ws o same (Some v) is (Some u) below e = record {
    value = Some v;
    part = name ∷ b ∷ [];
    behind = ws;
    under = u;
    are = ap (λ (x : List ℕ). x ∷ b ∷ ws) same;
    of = (b, refl, is);
    below = below;
    is = sym (some_is (put v u) o e);
  }

  unnamed : (ws : List (List ℕ)) (o : Options) → rest ws ≡ Some o → Made A name read put rest ws o
  unnamed ws o e = record { value = None; part = []; behind = ws; under = o; are = refl; of = refl; below = e; is = refl }

  by_name : (a b : List ℕ) (ws : List (List ℕ)) (o : Options) (t : Bool) → bytes_eq a name ≡ t
      → (if t then asking put (read b) (rest ws) else rest (a ∷ b ∷ ws)) ≡ Some o → Made A name read put rest (a ∷ b ∷ ws) o
  by_name a b ws o true is e = named a b ws o ((bytes_eq-Decides a name).0 is) (read b) refl (rest ws) refl e
  by_name a b ws o false is e = unnamed (a ∷ b ∷ ws) o e

  apart : (ws : List (List ℕ)) (o : Options) → step name read put rest ws ≡ Some o → Made A name read put rest ws o
  apart [] o e = unnamed [] o e
  apart (a ∷ []) o e = unnamed (a ∷ []) o e
  apart (a ∷ b ∷ ws) o e = by_name a b ws o (bytes_eq a name) refl e

  taken_apart : (from : List (List ℕ) → Option Options) (ws : List (List ℕ)) (o : Options) → from ws ≡ step name read put rest ws → from ws ≡ Some o
      → Made A name read put rest ws o
  taken_apart from ws o as_step e = apart ws o (sym as_step ∙ e)

  by_other : (other : (b : List ℕ) (ws : List (List ℕ)) → rest (name ∷ b ∷ ws) ≡ None) (a b : List ℕ) (ws : List (List ℕ)) (o : Options) (t : Bool)
      → bytes_eq a name ≡ t → rest (a ∷ b ∷ ws) ≡ Some o → (if t then asking put (read b) (rest ws) else rest (a ∷ b ∷ ws)) ≡ Some o
  by_other other a b ws o true is e =
      absurd (never o (sym e ∙ ap (λ (x : List ℕ). rest (x ∷ b ∷ ws)) ((bytes_eq-Decides a name).0 is) ∙ other b ws))
  by_other other a b ws o false is e = e

  passed : (other : (b : List ℕ) (ws : List (List ℕ)) → rest (name ∷ b ∷ ws) ≡ None) (ws : List (List ℕ)) (o : Options) → rest ws ≡ Some o
      → step name read put rest ws ≡ Some o
  passed other [] o e = e
  passed other (a ∷ []) o e = e
  passed other (a ∷ b ∷ ws) o e = by_other other a b ws o (bytes_eq a name) refl e

  together : (other : (b : List ℕ) (ws : List (List ℕ)) → rest (name ∷ b ∷ ws) ≡ None) (value : Option A) (part behind : List (List ℕ)) (under : Options)
      → AreOf name read value part → rest behind ≡ Some under → step name read put rest (part ++ behind) ≡ Some (with_value put value under)
  together other None part behind under of below =
      ap (λ (p : List (List ℕ)). step name read put rest (p ++ behind)) of ∙ passed other behind under below
  together other (Some v) part behind under of below =
      ap (λ (p : List (List ℕ)). step name read put rest (p ++ behind)) of.1
      ∙ ap (λ (t : Bool). if t then asking put (read of.0) (rest behind) else rest (name ∷ of.0 ∷ behind)) ((bytes_eq-Decides name name).1 refl)
      ∙ ap (λ (r : Option A). asking put r (rest behind)) of.2
      ∙ ap (λ (q : Option Options). asking put (Some v) q) below

-- What each option puts.

abbrev put_since : Place → Options → Options
put_since p o = record o { since = Some p }

abbrev put_until : Place → Options → Options
put_until p o = record o { until = Some p }

abbrev put_account : List ℕ → Options → Options
put_account a o = record o { account = Some a }

abbrev put_incident : ℕ → Options → Options
put_incident n o = record o { incident = Some n }

abbrev put_operator : List ℕ → Options → Options
put_operator n o = record o { operator = Some n }

abbrev put_clock : Clock → Options → Options
put_clock c o = record o { clock = c }

-- Each is an option before others, and none has its name behind it.

since_step : (ws : List (List ℕ)) → from_since ws ≡ step (codes "since") (place_named false) put_since from_until ws
unfolding from_since
since_step [] = refl
since_step (a ∷ []) = refl
since_step (a ∷ b ∷ ws) = refl

until_step : (ws : List (List ℕ)) → from_until ws ≡ step (codes "until") (place_named true) put_until from_account ws
unfolding from_until
until_step [] = refl
until_step (a ∷ []) = refl
until_step (a ∷ b ∷ ws) = refl

account_step : (ws : List (List ℕ)) → from_account ws ≡ step (codes "account") account_named put_account from_incident ws
unfolding from_account
account_step [] = refl
account_step (a ∷ []) = refl
account_step (a ∷ b ∷ ws) = refl

incident_step : (ws : List (List ℕ)) → from_incident ws ≡ step (codes "incident") number_named put_incident from_operator ws
unfolding from_incident
incident_step [] = refl
incident_step (a ∷ []) = refl
incident_step (a ∷ b ∷ ws) = refl

operator_step : (ws : List (List ℕ)) → from_operator ws ≡ step (codes "operator") (word_that is_name) put_operator from_offset ws
unfolding from_operator
operator_step [] = refl
operator_step (a ∷ []) = refl
operator_step (a ∷ b ∷ ws) = refl

no_since : (b : List ℕ) (ws : List (List ℕ)) → from_until (codes "since" ∷ b ∷ ws) ≡ None
unfolding from_until from_account from_incident from_operator from_offset from_zone from_tabs
no_since b ws = refl

no_until : (b : List ℕ) (ws : List (List ℕ)) → from_account (codes "until" ∷ b ∷ ws) ≡ None
unfolding from_account from_incident from_operator from_offset from_zone from_tabs
no_until b ws = refl

no_account : (b : List ℕ) (ws : List (List ℕ)) → from_incident (codes "account" ∷ b ∷ ws) ≡ None
unfolding from_incident from_operator from_offset from_zone from_tabs
no_account b ws = refl

no_incident : (b : List ℕ) (ws : List (List ℕ)) → from_operator (codes "incident" ∷ b ∷ ws) ≡ None
unfolding from_operator from_offset from_zone from_tabs
no_incident b ws = refl

no_operator : (b : List ℕ) (ws : List (List ℕ)) → from_offset (codes "operator" ∷ b ∷ ws) ≡ None
unfolding from_offset from_zone from_tabs
no_operator b ws = refl

-- The last word.

abbrev tab_words : Bool → List (List ℕ)
tab_words t = if t then codes "tabs" ∷ [] else []

tabs_named : (word : List ℕ) (o : Options) (t : Bool) → bytes_eq word (codes "tabs") ≡ t → (if t then Some (plain true) else None) ≡ Some o
    → (tabs : Bool) × (word ∷ [] ≡ tab_words tabs) × (o ≡ plain tabs)
tabs_named word o true is e = (true, ap (λ (x : List ℕ). x ∷ []) ((bytes_eq-Decides word (codes "tabs")).0 is), sym (some_is (plain true) o e))
tabs_named word o false is e = absurd cc

tabs_apart : (ws : List (List ℕ)) (o : Options) → from_tabs ws ≡ Some o → (tabs : Bool) × (ws ≡ tab_words tabs) × (o ≡ plain tabs)
unfolding from_tabs
tabs_apart [] o e = (false, refl, sym (some_is (plain false) o e))
tabs_apart (word ∷ []) o e = tabs_named word o (bytes_eq word (codes "tabs")) refl e
tabs_apart (word ∷ next ∷ ws) o e = absurd cc

-- The clock, and the last word.

-- what words are of a clock and the last word
record ClockMade (ws : List (List ℕ)) (o : Options) : Type 0 where
  clock : Clock
  tabs : Bool
  part : List (List ℕ)
  are : ws ≡ part ++ tab_words tabs
  of : AreOfClock clock part
  is : o ≡ record (plain tabs) { clock = clock }

bare : (ws : List (List ℕ)) (o : Options) → from_tabs ws ≡ Some o → ClockMade ws o
bare ws o e =
    let t = tabs_apart ws o e in
    record { clock = Fixed Gmt; tabs = t.0; part = []; are = t.1; of = inl (refl, refl); is = t.2 }

-- where the name of a clock, and its word, stand before the last word
clocked : (name : List ℕ) (read : List ℕ → Option Clock) → ((c : Clock) (part : List (List ℕ)) → AreOf name read (Some c) part → AreOfClock c part)
    → (a b : List ℕ) (ws : List (List ℕ)) (o : Options) → bytes_eq a name ≡ true → (r : Option Clock) → read b ≡ r → (q : Option Options) → from_tabs ws ≡ q
    → asking put_clock r q ≡ Some o → ClockMade (a ∷ b ∷ ws) o
clocked name read of_clock a b ws o same None is q below e = absurd cc
clocked name read of_clock a b ws o same (Some c) is None below e = absurd cc
clocked name read of_clock a b ws o same (Some c) is (Some u) below e =
    let t = tabs_apart ws u below in
    record {
      clock = c;
      tabs = t.0;
      part = name ∷ b ∷ [];
      are = ap (λ (x : List ℕ). x ∷ b ∷ ws) ((bytes_eq-Decides a name).0 same) ∙ ap (λ (l : List (List ℕ)). name ∷ b ∷ l) t.1;
      of = of_clock c (name ∷ b ∷ []) (b, refl, is);
      is = sym (some_is (put_clock c u) o e) ∙ ap (put_clock c) t.2;
    }

by_offset : (c : Clock) (part : List (List ℕ)) → AreOf (codes "offset") clock_ahead (Some c) part → AreOfClock c part
by_offset c part of = inr (inl of)

by_zone : (c : Clock) (part : List (List ℕ)) → AreOf (codes "zone") clock_ruled (Some c) part → AreOfClock c part
by_zone c part of = inr (inr of)

zone_named : (a b : List ℕ) (ws : List (List ℕ)) (o : Options) (t : Bool) → bytes_eq a (codes "zone") ≡ t
    → (if t then asking put_clock (clock_ruled b) (from_tabs ws) else from_tabs (a ∷ b ∷ ws)) ≡ Some o → ClockMade (a ∷ b ∷ ws) o
zone_named a b ws o true is e = clocked (codes "zone") clock_ruled by_zone a b ws o is (clock_ruled b) refl (from_tabs ws) refl e
zone_named a b ws o false is e = bare (a ∷ b ∷ ws) o e

zone_apart : (ws : List (List ℕ)) (o : Options) → from_zone ws ≡ Some o → ClockMade ws o
unfolding from_zone
zone_apart [] o e = bare [] o e
zone_apart (a ∷ []) o e = bare (a ∷ []) o e
zone_apart (a ∷ b ∷ ws) o e = zone_named a b ws o (bytes_eq a (codes "zone")) refl e

offset_named : (a b : List ℕ) (ws : List (List ℕ)) (o : Options) (t : Bool) → bytes_eq a (codes "offset") ≡ t
    → (if t then asking put_clock (clock_ahead b) (from_tabs ws) else from_zone (a ∷ b ∷ ws)) ≡ Some o → ClockMade (a ∷ b ∷ ws) o
offset_named a b ws o true is e = clocked (codes "offset") clock_ahead by_offset a b ws o is (clock_ahead b) refl (from_tabs ws) refl e
offset_named a b ws o false is e = zone_apart (a ∷ b ∷ ws) o e

clock_apart : (ws : List (List ℕ)) (o : Options) → from_offset ws ≡ Some o → ClockMade ws o
unfolding from_offset
clock_apart [] o e = zone_apart [] o e
clock_apart (a ∷ []) o e = zone_apart (a ∷ []) o e
clock_apart (a ∷ b ∷ ws) o e = offset_named a b ws o (bytes_eq a (codes "offset")) refl e

tabs_together : (t : Bool) → from_offset (tab_words t) ≡ Some (plain t)
unfolding from_offset from_zone from_tabs
tabs_together true = refl
tabs_together false = refl

offset_together : (c : Clock) (b : List ℕ) (t : Bool) → clock_ahead b ≡ Some c
    → from_offset (codes "offset" ∷ b ∷ tab_words t) ≡ Some (record (plain t) { clock = c })
unfolding from_offset from_tabs
offset_together c b true is = ap (λ (r : Option Clock). asking put_clock r (Some (plain true))) is
offset_together c b false is = ap (λ (r : Option Clock). asking put_clock r (Some (plain false))) is

zone_together : (c : Clock) (b : List ℕ) (t : Bool) → clock_ruled b ≡ Some c
    → from_offset (codes "zone" ∷ b ∷ tab_words t) ≡ Some (record (plain t) { clock = c })
unfolding from_offset from_zone from_tabs
zone_together c b true is = ap (λ (r : Option Clock). asking put_clock r (Some (plain true))) is
zone_together c b false is = ap (λ (r : Option Clock). asking put_clock r (Some (plain false))) is

clock_together : (c : Clock) (part : List (List ℕ)) (t : Bool) → AreOfClock c part → from_offset (part ++ tab_words t) ≡ Some (record (plain t) { clock = c })
clock_together c part t (inl (is, none)) =
    ap (λ (p : List (List ℕ)). from_offset (p ++ tab_words t)) none ∙ tabs_together t ∙ ap (λ (x : Clock). Some (record (plain t) { clock = x })) (sym is)
clock_together c part t (inr (inl of)) = ap (λ (p : List (List ℕ)). from_offset (p ++ tab_words t)) of.1 ∙ offset_together c of.0 t of.2
clock_together c part t (inr (inr of)) = ap (λ (p : List (List ℕ)). from_offset (p ++ tab_words t)) of.1 ∙ zone_together c of.0 t of.2

-- The options of their parts.

abbrev made : Option Place → Option Place → Option (List ℕ) → Option ℕ → Option (List ℕ) → Clock → Bool → Options
made s u a i p c t = record { since = s; until = u; account = a; incident = i; operator = p; clock = c; tabs = t }

made_since : (s u : Option Place) (a : Option (List ℕ)) (i : Option ℕ) (p : Option (List ℕ)) (c : Clock) (t : Bool)
    → with_value put_since s (made None u a i p c t) ≡ made s u a i p c t
made_since None u a i p c t = refl
made_since (Some s) u a i p c t = refl

made_until : (u : Option Place) (a : Option (List ℕ)) (i : Option ℕ) (p : Option (List ℕ)) (c : Clock) (t : Bool)
    → with_value put_until u (made None None a i p c t) ≡ made None u a i p c t
made_until None a i p c t = refl
made_until (Some u) a i p c t = refl

made_account : (a : Option (List ℕ)) (i : Option ℕ) (p : Option (List ℕ)) (c : Clock) (t : Bool)
    → with_value put_account a (made None None None i p c t) ≡ made None None a i p c t
made_account None i p c t = refl
made_account (Some a) i p c t = refl

made_incident : (i : Option ℕ) (p : Option (List ℕ)) (c : Clock) (t : Bool)
    → with_value put_incident i (made None None None None p c t) ≡ made None None None i p c t
made_incident None p c t = refl
made_incident (Some i) p c t = refl

made_operator : (p : Option (List ℕ)) (c : Clock) (t : Bool) → with_value put_operator p (made None None None None None c t) ≡ made None None None None p c t
made_operator None c t = refl
made_operator (Some p) c t = refl

-- as they are put, one on the other
abbrev upon : Option Place → Option Place → Option (List ℕ) → Option ℕ → Option (List ℕ) → Options → Options
upon s u a i p o = with_value put_since s (with_value put_until u (with_value put_account a (with_value put_incident i (with_value put_operator p o))))

made_all : (s u : Option Place) (a : Option (List ℕ)) (i : Option ℕ) (p : Option (List ℕ)) (c : Clock) (t : Bool)
    → upon s u a i p (made None None None None None c t) ≡ made s u a i p c t
made_all s u a i p c t =
    ap (λ (o : Options). upon s u a i None o) (made_operator p c t)
    ∙ ap (λ (o : Options). upon s u a None None o) (made_incident i p c t)
    ∙ ap (λ (o : Options). upon s u None None None o) (made_account a i p c t)
    ∙ ap (λ (o : Options). upon s None None None None o) (made_until u a i p c t)
    ∙ made_since s u a i p c t

-- Words that ask for options are words for them.

abbrev Since : List (List ℕ) → Options → Type 0
Since = Made Place (codes "since") (place_named false) put_since from_until

abbrev Until : List (List ℕ) → Options → Type 0
Until = Made Place (codes "until") (place_named true) put_until from_account

abbrev OfAccount : List (List ℕ) → Options → Type 0
OfAccount = Made (List ℕ) (codes "account") account_named put_account from_incident

abbrev OfIncident : List (List ℕ) → Options → Type 0
OfIncident = Made ℕ (codes "incident") number_named put_incident from_operator

abbrev OfOperator : List (List ℕ) → Options → Type 0
OfOperator = Made (List ℕ) (codes "operator") (word_that is_name) put_operator from_offset

all_apart : (ws : List (List ℕ)) (o : Options) (s : Since ws o) (u : Until s.behind s.under) (a : OfAccount u.behind u.under) (i : OfIncident a.behind a.under)
    (p : OfOperator i.behind i.under) (c : ClockMade p.behind p.under) → AreFor o ws
all_apart ws o s u a i p c =
    let whole : o ≡ made s.value u.value a.value i.value p.value c.clock c.tabs =
    s.is
    ∙ ap (λ (x : Options). with_value put_since s.value x)
    (u.is ∙ ap (λ (x : Options). with_value put_until u.value x)
    (a.is ∙ ap (λ (x : Options). with_value put_account a.value x)
    (i.is ∙ ap (λ (x : Options). with_value put_incident i.value x)
    (p.is ∙ ap (λ (x : Options). with_value put_operator p.value x) c.is))))
    ∙ made_all s.value u.value a.value i.value p.value c.clock c.tabs in
    let is_for : AreFor (made s.value u.value a.value i.value p.value c.clock c.tabs) ws = record {
      first = s.part;
      last = u.part;
      account = a.part;
      incident = i.part;
      operator = p.part;
      clock = c.part;
      are =
          s.are
          ∙ ap (λ (l : List (List ℕ)). s.part ++ l)
          (u.are ∙ ap (λ (l : List (List ℕ)). u.part ++ l)
          (a.are ∙ ap (λ (l : List (List ℕ)). a.part ++ l)
          (i.are ∙ ap (λ (l : List (List ℕ)). i.part ++ l)
          (p.are ∙ ap (λ (l : List (List ℕ)). p.part ++ l) c.are))));
      of_first = s.of;
      of_last = u.of;
      of_account = a.of;
      of_incident = i.of;
      of_operator = p.of;
      of_clock = c.of;
    } in
    subst (λ (x : Options). AreFor x ws) (sym whole) is_for

asked_for : (ws : List (List ℕ)) (o : Options) → options_of ws ≡ Some o → AreFor o ws
asked_for ws o e =
    let s : Since ws o = taken_apart Place (codes "since") (place_named false) put_since from_until from_since ws o (since_step ws) e in
    let u : Until s.behind s.under = taken_apart Place (codes "until") (place_named true) put_until from_account from_until s.behind s.under (until_step s.behind) s.below in
    let a : OfAccount u.behind u.under = taken_apart (List ℕ) (codes "account") account_named put_account from_incident from_account u.behind u.under (account_step u.behind) u.below in
    let i : OfIncident a.behind a.under = taken_apart ℕ (codes "incident") number_named put_incident from_operator from_incident a.behind a.under (incident_step a.behind) a.below in
    let p : OfOperator i.behind i.under = taken_apart (List ℕ) (codes "operator") (word_that is_name) put_operator from_offset from_operator i.behind i.under (operator_step i.behind) i.below in
    all_apart ws o s u a i p (clock_apart p.behind p.under p.below)

-- Words for options ask for them.

module _ (s u : Option Place) (a : Option (List ℕ)) (i : Option ℕ) (p : Option (List ℕ)) (c : Clock) (t : Bool) where
  all_together : (ws ss us xs is ps cs : List (List ℕ)) → ws ≡ ss ++ (us ++ (xs ++ (is ++ (ps ++ (cs ++ tab_words t))))) → AreOf (codes "since") (place_named false) s ss
      → AreOf (codes "until") (place_named true) u us → AreOf (codes "account") account_named a xs → AreOf (codes "incident") number_named i is
      → AreOf (codes "operator") (word_that is_name) p ps → AreOfClock c cs → options_of ws ≡ Some (made s u a i p c t)
  all_together ws ss us xs is ps cs are of_s of_u of_a of_i of_p of_c =
      let behind_p = cs ++ tab_words t in
      let behind_i = ps ++ behind_p in
      let behind_a = is ++ behind_i in
      let behind_u = xs ++ behind_a in
      let behind_s = us ++ behind_u in
      let o_c = made None None None None None c t in
      let o_p = with_value put_operator p o_c in
      let o_i = with_value put_incident i o_p in
      let o_a = with_value put_account a o_i in
      let o_u = with_value put_until u o_a in
      let by_c : from_offset behind_p ≡ Some o_c = clock_together c cs t of_c in
      let by_p : from_operator behind_i ≡ Some o_p =
      operator_step behind_i ∙ together (List ℕ) (codes "operator") (word_that is_name) put_operator from_offset no_operator p ps behind_p o_c of_p by_c in
      let by_i : from_incident behind_a ≡ Some o_i =
      incident_step behind_a ∙ together ℕ (codes "incident") number_named put_incident from_operator no_incident i is behind_i o_p of_i by_p in
      let by_a : from_account behind_u ≡ Some o_a =
      account_step behind_u ∙ together (List ℕ) (codes "account") account_named put_account from_incident no_account a xs behind_a o_i of_a by_i in
      let by_u : from_until behind_s ≡ Some o_u =
      until_step behind_s ∙ together Place (codes "until") (place_named true) put_until from_account no_until u us behind_u o_a of_u by_a in
      ap (λ (l : List (List ℕ)). from_since l) are
      ∙ since_step (ss ++ behind_s)
      ∙ together Place (codes "since") (place_named false) put_since from_until no_since s ss behind_s o_u of_s by_u
      ∙ ap (λ (o : Options). Some o) (made_all s u a i p c t)

for_asked : (ws : List (List ℕ)) (o : Options) → AreFor o ws → options_of ws ≡ Some o
for_asked ws o f =
    all_together o.since o.until o.account o.incident o.operator o.clock o.tabs ws f.first f.last f.account f.incident f.operator f.clock f.are f.of_first f.of_last
    f.of_account f.of_incident f.of_operator f.of_clock

pub words_ask : (ws : List (List ℕ)) (o : Options) → options_of ws ≡ Some o ↔ AreFor o ws
words_ask ws o = (asked_for ws o, for_asked ws o)
