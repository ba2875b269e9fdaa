-- What a panel keeps goes on to be what it keeps, whatever is marked.
use Rattle.std.proofs.Common.{◌≡◌, ◌≢◌, ℕ, zero, suc, ◌+◌, ◌-◌, ◌<◌, ◌≤◌, List, [], ◌∷◌, ◌++◌, length, get_or, set, Bool, true, false, cond, ltb, leb, eqb, ◌||◌, ◌&&◌, Option, Some, None, refl, sym, ap, subst, ◌∙◌, arith, length-append}
use Rattle.std.specs.Prelude.{slice_get}
use Rattle.std.specs.List.{last_or, list_all, list_any}
use Rattle.std.proofs.lemmas.Bool.{ltb-true, ltb-false, leb-true, le-leb, eqb-true, eqb-false, eq-eqb, ne_eqb, and_parts, and_from, or_parts, or_from, or_left, or_right}
use Rattle.std.proofs.lemmas.List.{get_or-set_same, get_or-set_other}
use Rattle.panel_rules.specs.declared.Report.{Report}
use Rattle.panel_rules.specs.Marks.{Mark, Takes, Steps, Acks, copies, count, first_copy, is_acked, is_event, is_late, last_copy, numbered, steps, taken}
use Rattle.panel_rules.specs.Panels.{Setting, next_number, number, number_after}
use Rattle.panel_rules.proofs.MarkLaws.{numbered_more}
use Rattle.panel_core.specs.declared.flight.Flight.{Flight}
use Rattle.panel_core.specs.Sending.{begin_next, still}
use Rattle.panel_core.specs.Standing.{HasEnded, Flies, IsLast, Keeps, PanelValue}
use Rattle.panel_core.proofs.Fates.{copied_more, ended_stays, first_stays}

-- An event is taken.

numbered_newest : (n : ℕ) (report : Report) (reports : List Report) → n ≡ length reports + 1 → numbered n (report ∷ reports) ≡ Some report
numbered_newest n report reports is = rw (eq-eqb n (length reports + 1) is) refl

get_earlier : (xs : List Report) (x : Report) (k : ℕ) → k < length xs → slice_get (xs ++ x ∷ []) k ≡ slice_get xs k
get_earlier [] x k few = absurd (omega arith)
get_earlier (y ∷ xs) x zero few = refl
get_earlier (y ∷ xs) x (suc k) few = get_earlier xs x k (omega arith)

get_newest : (xs : List Report) (x : Report) (k : ℕ) → k ≡ length xs → slice_get (xs ++ x ∷ []) k ≡ Some x
get_newest [] x zero is = refl
get_newest [] x (suc k) is = absurd (omega arith)
get_newest (y ∷ xs) x zero is = absurd (omega arith)
get_newest (y ∷ xs) x (suc k) is = get_newest xs x k (omega arith)

unacked_more : (xs : List Bool) (k : ℕ) → get_or (xs ++ false ∷ []) k false ≡ get_or xs k false
unacked_more [] zero = refl
unacked_more [] (suc k) = refl
unacked_more (x ∷ xs) zero = refl
unacked_more (x ∷ xs) (suc k) = unacked_more xs k

module _ (s : Setting) (ms : List Mark) (p : PanelValue) (k : Keeps s ms p) (report : Report) where
  waits_more : (i : ℕ) → i < length (p.waiting ++ report ∷ []) → (b : Bool) → ltb i (length p.waiting) ≡ b → numbered (p.sent + 1 + i) (report ∷ taken ms) ≡ slice_get (p.waiting ++ report ∷ []) i
  waits_more i few true below =
      let lt : i < length p.waiting = ltb-true i (length p.waiting) below in
      numbered_more (p.sent + 1 + i) report (taken ms) (omega (arith, k.counted)) ∙ k.waits i lt ∙ sym (get_earlier p.waiting report i lt)
  waits_more i few false below =
      let last : i ≡ length p.waiting = omega (arith, ltb-false i (length p.waiting) below, few, length-append p.waiting (report ∷ [])) in
      numbered_newest (p.sent + 1 + i) report (taken ms) (omega (arith, k.counted)) ∙ sym (get_newest p.waiting report i last)

  last_more : (o : Option Flight) → IsLast s ms p.sent o → IsLast s (Takes report ∷ ms) p.sent o
  last_more None is = λ some. ended_stays p.sent (Takes report) ms (is some)
  last_more (Some f) is = record {
    some = is.some;
    number_is = is.number_is;
    reports = numbered_more p.sent report (taken ms) (omega (arith, k.counted)) ∙ is.reports;
    first_at = is.first_at;
    last_at = is.last_at;
    unacked = is.unacked;
    timely = is.timely;
  }

  pub takes : Keeps s (Takes report ∷ ms) (record p { waiting = p.waiting ++ report ∷ []; acked = p.acked ++ false ∷ [] })
  takes = record {
    account_is = k.account_is;
    line_is = k.line_is;
    next_is = k.next_is;
    counted = omega (arith, k.counted, length-append p.waiting (report ∷ []));
    waits = λ i few. waits_more i few (ltb i (length p.waiting)) refl;
    unsent = k.unsent;
    unheard = k.unheard;
    ended = λ n some few. ended_stays n (Takes report) ms (k.ended n some few);
    last_is = last_more p.flight k.last_is;
    begun_at = k.begun_at;
    stepped_by = k.stepped_by;
    acked_are = λ n some. unacked_more p.acked (n - 1) ∙ k.acked_are n some;
  }

-- A step that sends nothing.

before_later : (ts : List ℕ) (a b : ℕ) → a ≤ b → list_all (λ t. leb t a) ts ≡ true → list_all (λ t. leb t b) ts ≡ true
before_later [] a b le is = refl
before_later (t ∷ ts) a b le is = let h = and_parts (leb t a) (list_all (λ u. leb u a) ts) is in and_from _ _ (le-leb t b (omega (arith, leb-true t a h.0))) (before_later ts a b le h.1)

module _ (s : Setting) (ms : List Mark) (p : PanelValue) (k : Keeps s ms p) (now : ℕ) (later : p.stepped ≤ now) where
  last_by : (f : Flight) → Flies s ms p.sent f → (b : Bool) → ltb (f.first + 240) now ≡ b → IsLast s (Steps now None ∷ ms) p.sent (cond b None (Some f))
  last_by f is true late = λ some. record { first = f.first; copied = is.first_at; over = or_right _ _ (or_left _ _ late) }
  last_by f is false late = record {
    some = is.some;
    number_is = is.number_is;
    reports = is.reports;
    first_at = is.first_at;
    last_at = is.last_at;
    unacked = is.unacked;
    timely = or_from _ _ late is.timely;
  }

  last_still : (o : Option Flight) → IsLast s ms p.sent o → IsLast s (Steps now None ∷ ms) p.sent (still now o)
  last_still None is = λ some. ended_stays p.sent (Steps now None) ms (is some)
  last_still (Some f) is = last_by f is (ltb (f.first + 240) now) refl

  pub steps_by : Keeps s (Steps now None ∷ ms) (record p { stepped = now; flight = still now p.flight })
  steps_by = record {
    account_is = k.account_is;
    line_is = k.line_is;
    next_is = k.next_is;
    counted = k.counted;
    waits = k.waits;
    unsent = k.unsent;
    unheard = k.unheard;
    ended = λ n some few. ended_stays n (Steps now None) ms (k.ended n some few);
    last_is = last_still p.flight k.last_is;
    begun_at = k.begun_at;
    stepped_by = and_from _ _ (le-leb now now (omega arith)) (before_later (steps ms) p.stepped now later k.stepped_by);
    acked_are = k.acked_are;
  }

-- A copy is sent.

ended_copied : (n now : ℕ) (sent : Option ℕ) (ms : List Mark) → HasEnded n (Steps now None ∷ ms) → HasEnded n (Steps now sent ∷ ms)
ended_copied n now sent ms e = record {
  first = e.first;
  copied = copied_more (is_event n sent) now (copies n ms) e.first e.copied;
  over = e.over;
}

module _ (s : Setting) (ms : List Mark) (p : PanelValue) (now : ℕ) (k : Keeps s (Steps now None ∷ ms) p) where
  copies_of : (n m : ℕ) → m ≡ n → copies n (Steps now (Some m) ∷ ms) ≡ now ∷ copies n ms
  copies_of n m is = rw (eq-eqb m n is) refl

  copies_other : (n m : ℕ) → m < n → copies n (Steps now (Some m) ∷ ms) ≡ copies n ms
  copies_other n m below = rw (ne_eqb m n (λ e. absurd (omega (arith, e)))) refl

  pub sends_again : (f : Flight) → Flies s (Steps now None ∷ ms) p.sent f → Keeps s (Steps now (Some p.sent) ∷ ms) (record p { flight = Some (record f { last = now }) })
  sends_again f is =
      let first : first_copy p.sent (Steps now (Some p.sent) ∷ ms) ≡ Some f.first = copied_more (is_event p.sent (Some p.sent)) now (copies p.sent ms) f.first is.first_at in
      record {
        account_is = k.account_is;
        line_is = k.line_is;
        next_is = k.next_is;
        counted = k.counted;
        waits = k.waits;
        unsent = λ n more. copies_other n p.sent more ∙ k.unsent n more;
        unheard = k.unheard;
        ended = λ n some few. ended_copied n now (Some p.sent) ms (k.ended n some few);
        last_is = record {
          some = is.some;
          number_is = is.number_is;
          reports = is.reports;
          first_at = first;
          last_at = ap (λ ts. slice_get ts 0) (copies_of p.sent p.sent refl);
          unacked = is.unacked;
          timely = is.timely;
        };
        begun_at = first ∙ sym is.first_at ∙ k.begun_at;
        stepped_by = k.stepped_by;
        acked_are = k.acked_are;
      }

  none_late : (ts : List ℕ) (a b : ℕ) → a ≤ b → list_all (λ t. leb t a) ts ≡ true → list_any (λ t. ltb b t) ts ≡ false
  none_late [] a b le is = refl
  none_late (t ∷ ts) a b le is = let h = and_parts (leb t a) (list_all (λ u. leb u a) ts) is in or_from _ _ (not_below t a b le (leb-true t a h.0) (ltb b t) refl) (none_late ts a b le h.1)
    where
      not_below : (t a b : ℕ) → a ≤ b → t ≤ a → (x : Bool) → ltb b t ≡ x → x ≡ false
      not_below t a b le low true is = absurd (omega (arith, ltb-true b t is))
      not_below t a b le low false is = refl

  waits_next : (report : Report) (rest : List Report) → p.waiting ≡ report ∷ rest → (i : ℕ) → i < length rest → numbered (p.sent + 1 + 1 + i) (taken ms) ≡ slice_get rest i
  waits_next report rest is i few =
      let same : p.sent + 1 + 1 + i ≡ p.sent + 1 + suc i = omega arith in
      rw same (k.waits (suc i) (rw is (omega (arith, few))) ∙ ap (λ xs. slice_get xs (suc i)) is)

  ended_next : (n : ℕ) → 1 ≤ n → n < p.sent + 1 → (p.sent ≡ n → HasEnded n (Steps now None ∷ ms)) → (b : Bool) → ltb n p.sent ≡ b → HasEnded n (Steps now None ∷ ms)
  ended_next n some few last true below = k.ended n some (ltb-true n p.sent below)
  ended_next n some few last false below = last (omega (arith, ltb-false n p.sent below))

  pub sends_next : (report : Report) (rest : List Report) → p.waiting ≡ report ∷ rest → (1 ≤ p.sent → HasEnded p.sent (Steps now None ∷ ms)) → p.stepped ≡ now → Keeps s (Steps now (Some (p.sent + 1)) ∷ ms) (begin_next now p report rest)
  sends_next report rest is over stepped =
      let only : copies (p.sent + 1) (Steps now (Some (p.sent + 1)) ∷ ms) ≡ now ∷ [] = copies_of (p.sent + 1) (p.sent + 1) refl ∙ ap (λ ts. now ∷ ts) (k.unsent (p.sent + 1) (omega arith)) in
      let one_more : p.sent + 1 ≡ suc p.sent = omega arith in
      let one_less : p.sent + 1 - 1 ≡ p.sent = omega arith in
      let at_zero : p.sent + 1 ≡ p.sent + 1 + 0 = omega arith in
      let some : 0 < length p.waiting = rw is (omega arith) in
      let next : next_number p.next ≡ number_after s (p.sent + 1) = ap next_number k.next_is ∙ ap (number_after s) (sym one_more) in
      record {
        account_is = k.account_is;
        line_is = k.line_is;
        next_is = next;
        counted = omega (arith, k.counted, ap length is);
        waits = waits_next report rest is;
        unsent = λ n more. copies_other n (p.sent + 1) more ∙ k.unsent n (omega arith);
        unheard = λ n more. k.unheard n (omega arith);
        ended = λ n low few. ended_copied n now (Some (p.sent + 1)) ms (ended_next n low few (λ same. subst (λ x. HasEnded x (Steps now None ∷ ms)) same (over (omega arith))) (ltb n p.sent) refl);
        last_is = record {
          some = omega arith;
          number_is = k.next_is ∙ ap (number_after s) (sym one_less);
          reports = ap (λ n. numbered n (taken ms)) at_zero ∙ k.waits 0 some ∙ ap (λ xs. slice_get xs 0) is;
          first_at = ap (last_or None) only;
          last_at = ap (λ ts. slice_get ts 0) only;
          unacked = k.unheard (p.sent + 1) (omega arith);
          timely = none_late (steps (Steps now None ∷ ms)) p.stepped (now + 240) (omega (arith, stepped)) k.stepped_by;
        };
        begun_at = ap (last_or None) only;
        stepped_by = k.stepped_by;
        acked_are = k.acked_are;
      }

-- The message in flight is acknowledged.

module _ (s : Setting) (ms : List Mark) (p : PanelValue) (k : Keeps s ms p) (f : Flight) (is : Flies s ms p.sent f) where
  acked_by : (n : ℕ) → 1 ≤ n → p.sent ≤ length p.acked → (b : Bool) → eqb p.sent n ≡ b → get_or (set p.acked (p.sent - 1) true) (n - 1) false ≡ (b || is_acked n ms)
  acked_by n some few true same =
      let e : n - 1 ≡ p.sent - 1 = omega (arith, eqb-true p.sent n same) in
      rw e (get_or-set_same p.acked (p.sent - 1) true false (omega (arith, is.some)))
  acked_by n some few false other =
      get_or-set_other p.acked (p.sent - 1) (n - 1) true false (λ e. eqb-false p.sent n other (omega (arith, is.some))) ∙ k.acked_are n some

  pub hears : p.sent ≤ length p.acked → Keeps s (Acks p.sent ∷ ms) (record p { flight = None; acked = set p.acked (p.sent - 1) true })
  hears few = record {
    account_is = k.account_is;
    line_is = k.line_is;
    next_is = k.next_is;
    counted = k.counted;
    waits = k.waits;
    unsent = k.unsent;
    unheard = λ n more. or_from _ _ (ne_eqb p.sent n (λ e. absurd (omega (arith, e, more)))) (k.unheard n more);
    ended = λ n some low. ended_stays n (Acks p.sent) ms (k.ended n some low);
    last_is = λ some. record { first = f.first; copied = is.first_at; over = or_left _ _ (or_left _ _ (eq-eqb p.sent p.sent refl)) };
    begun_at = k.begun_at;
    stepped_by = k.stepped_by;
    acked_are = λ n some. acked_by n some few (eqb p.sent n) refl;
  }
