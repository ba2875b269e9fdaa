-- One incident has one holder, and one operator holds one incident, until a hold lapses.
use Rattle.std.proofs.Common.{◌≡◌, ℕ, List, [], ◌∷◌, ◌++◌, map, Bool, true, false, cond, refl, sym, ap, ◌∙◌, Option, Some, None, subst, inl, inr}
use Rattle.std.specs.Prelude.{◌||◌, ◌<◌, ◌+◌, is_some, is_none}
use Rattle.std.specs.Str.{bytes_eq}
use Rattle.std.specs.Option.{option_map_or}
use Rattle.std.proofs.lemmas.Bool.{ltb-true, false≢true}
use Rattle.std.proofs.lemmas.Slice.Eq.{bytes_eq-Decides}
use Rattle.arc_data.specs.declared.event.Event.{Event}
use Rattle.arc_data.specs.declared.event.Event.TheVariants.{Adopt, Start, Message as Sent, Beat, Tick, Claim, Next, Act as Do, Release, Close, Show, List as Rows}
use Rattle.arc_data.specs.declared.reply.Reply.{Reply}
use Rattle.arc_data.specs.declared.reply.Reply.TheVariants.{Adopted, Started, Claimed, Recorded, Released, Closed, HeldBy, Unknown, NotOpen, BusyWith, NoneWaiting}
use Rattle.arc_data.specs.declared.step.Acted.{Acted}
use Rattle.centre_rules.specs.Summary.{Summary}
use Rattle.centre_rules.specs.Marks.{Mark, Carries, Carried, Claims, lapse}
use Rattle.centre_rules.specs.Cases.{Incident, incidents, opened, Ascends}
use Rattle.centre_rules.specs.Standing.{has_lapsed, stands_at, standing}
use Rattle.centre_rules.specs.Carrying.{raised, sent}
use Rattle.centre_rules.specs.History.{Entry, marks, marks_of, onto, acted_by, is_recorded, claim_marks, act_marks, release_marks, close_marks}
use Rattle.centre_rules.specs.Desks.{numbered, held_by, is_holder, best, claim_unless, claim_from, claimed}
use Rattle.centre_rules.specs.Answers.{if_known, answer_over, IsLegal}
use Rattle.centre_rules.proofs.Steps.{incidents_step}
use Rattle.centre_rules.proofs.Stood.{standing_of, stood_found, found_stood, ascends_stood}
use Rattle.centre_rules.proofs.Tables.{HeldIn, held_table, touched_then, held_claimed, holds_some, numbered_number, ends_hold, best_found}
use Rattle.centre_laws.specs.Numbers.{IsNumbered, NumbersRise}
use Rattle.centre_laws.specs.Holders.{claimed_number, claimer, ends, is_ended, is_act_on, last_touched, IsClaim, ClaimsEither, HadLapsed, HoldsApart}
use Rattle.centre_laws.proofs.Replies.{may_answer, answer_may}

-- What a claim says of the incidents before it.

record MayClaim (n : ℕ) (o : List ℕ) (is : List Incident) : Type 0 where
  incident : Incident
  found : numbered n is ≡ Some incident
  free : incident.holder ≡ None
  none : held_by o is ≡ None

itself : (x : List ℕ) → bytes_eq x x ≡ true
itself x = (bytes_eq-Decides x x).1 refl

-- who holds an incident is not one that holds none
never_none : (P : Type 0) (o : List ℕ) (is : List Incident) (k : ℕ) (i : Incident) (x : List ℕ) → numbered k is ≡ Some i → i.holder ≡ Some x → bytes_eq x o ≡ true → held_by o is ≡ None → P
never_none P o is k i x found h same none = absurd (false≢true (ap is_some (sym none) ∙ holds_some k o is i found (ap (is_holder o) h ∙ same)))

by_mine : (o : List ℕ) (is : List Incident) (k n : ℕ) (i : Incident) (mine : Option Incident) → held_by o is ≡ mine → numbered k is ≡ Some i → claimed_number (claim_unless mine i) ≡ Some n → (n ≡ k) × (held_by o is ≡ None)
by_mine o is k n i None e found c = (let same : i.number ≡ n = cc in sym same ∙ numbered_number k is i found, e)
by_mine o is k n i (Some j) e found c = cc

by_same : (o : List ℕ) (is : List Incident) (k n : ℕ) (i : Incident) (x : List ℕ) (b : Bool) → bytes_eq x o ≡ b → i.holder ≡ Some x → numbered k is ≡ Some i → claimed_number (cond b (claim_unless (held_by o is) i) (HeldBy x)) ≡ Some n → MayClaim n o is
by_same o is k n i x true same h found c = never_none (MayClaim n o is) o is k i x found h same (by_mine o is k n i (held_by o is) refl found c).1
by_same o is k n i x false same h found c = cc

by_holder : (o : List ℕ) (is : List Incident) (k n : ℕ) (i : Incident) (h : Option (List ℕ)) → i.holder ≡ h → numbered k is ≡ Some i → claimed_number (claim_from o is i h) ≡ Some n → MayClaim n o is
by_holder o is k n i None h found c =
    let w = by_mine o is k n i (held_by o is) refl found c in
    record { incident = i; found = ap (λ m. numbered m is) w.0 ∙ found; free = h; none = w.1 }
by_holder o is k n i (Some x) h found c = by_same o is k n i x (bytes_eq x o) refl h found c

by_found : (o : List ℕ) (is : List Incident) (k n : ℕ) (f : Option Incident) → numbered k is ≡ f → claimed_number (option_map_or (λ (i : Incident). claim_from o is i i.holder) f (NotOpen k)) ≡ Some n → MayClaim n o is
by_found o is k n None e c = cc
by_found o is k n (Some i) e c = by_holder o is k n i i.holder refl e c

free_none : (i : Incident) (h : Option (List ℕ)) → i.holder ≡ h → is_none h ≡ true → i.holder ≡ None
free_none i None e f = e
free_none i (Some x) e f = absurd (false≢true f)

by_next : (o : List ℕ) (is : List Incident) (high n : ℕ) (mine waiting : Option Incident) → Ascends 0 is high → held_by o is ≡ mine → best is ≡ waiting → claimed_number (option_map_or (λ (j : Incident). BusyWith j.number) mine (option_map_or claimed waiting NoneWaiting)) ≡ Some n → MayClaim n o is
by_next o is high n (Some j) waiting a e f c = cc
by_next o is high n None None a e f c = cc
by_next o is high n None (Some i) a e f c =
    let w = best_found is high a i f in
    let same : i.number ≡ n = cc in
    record { incident = i; found = ap (λ m. numbered m is) (sym same) ∙ w.0; free = free_none i i.holder refl w.1; none = e }

by_known : (b : Bool) (r : Reply) (n : ℕ) → claimed_number (if_known b r) ≡ Some n → claimed_number r ≡ Some n
by_known true r n c = c
by_known false r n c = cc

-- what an event answered by a claim was, and what it asked
may_claim : (s : Summary) (ms : List Mark) (e : Event) (at n : ℕ) (o : List ℕ) → Ascends 0 (incidents s ms) (opened s ms) → claimed_number (answer_over s ms e at) ≡ Some n → claimer e ≡ Some o → MayClaim n o (standing s ms at)
may_claim s ms (Claim operator number) at n o a c by =
    let same : operator ≡ o = cc in
    subst (λ (x : List ℕ). MayClaim n x (standing s ms at)) same (by_found operator (standing s ms at) number n (numbered number (standing s ms at)) refl (by_known _ _ n c))
may_claim s ms (Next operator) at n o a c by =
    let same : operator ≡ o = cc in
    let rises = ascends_stood (lapse s ms) at 0 (incidents s ms) (opened s ms) a in
    subst (λ (x : List ℕ). MayClaim n x (standing s ms at)) same (by_next operator (standing s ms at) (opened s ms) n (held_by operator (standing s ms at)) (best (standing s ms at)) rises refl refl (by_known _ _ n c))
may_claim s ms e at n o a c by = cc

-- only a claim or a call for the next is answered by a claim
claimer_of : (e : Event) (r : Reply) (n : ℕ) → may_answer e r ≡ true → claimed_number r ≡ Some n → (o : List ℕ) × (claimer e ≡ Some o)
claimer_of (Claim operator number) r n may c = (operator, refl)
claimer_of (Next operator) r n may c = (operator, refl)
claimer_of e (Claimed number class account) n may c = absurd (false≢true may)
claimer_of e r n may c = cc

has_claimer : (s : Summary) (ms : List Mark) (e : Event) (at n : ℕ) → claimed_number (answer_over s ms e at) ≡ Some n → (o : List ℕ) × (claimer e ≡ Some o)
has_claimer s ms e at n c = claimer_of e (answer_over s ms e at) n (answer_may s ms e at) c

-- Marks that leave a hold alone.

or_first : (a b : Bool) → (a || b) ≡ false → a ≡ false
or_first true b e = e
or_first false b e = refl

or_second : (a b : Bool) → (a || b) ≡ false → b ≡ false
or_second true b e = absurd (false≢true (sym e))
or_second false b e = e

abbrev Spare : ℕ → List Mark → Type 0
Spare n [] = Unit {0}
Spare n (m ∷ ms) = (ends_hold n m ≡ false) × Spare n ms

spare_carried : (n : ℕ) (xs : List Carried) → Spare n (map Carries xs)
spare_carried n [] = tt
spare_carried n (x ∷ xs) = (refl, spare_carried n xs)

-- when the hold was touched, after marks that leave it
abbrev touched_on : ℕ → List Mark → ℕ → ℕ
touched_on n [] before = before
touched_on n (m ∷ ms) before = touched_on n ms (touched_then n m before)

touched_carried : (n before : ℕ) (xs : List Carried) → touched_on n (map Carries xs) before ≡ before
touched_carried n before [] = refl
touched_carried n before (x ∷ xs) = touched_carried n before xs

-- The marks of an entry leave the hold, which was touched where its reply is an act on the incident.
record Leaves (n : ℕ) (xs : List Mark) (at before : ℕ) (r : Reply) : Type 0 where
  spare : Spare n xs
  touched : touched_on n xs before ≡ cond (is_act_on n r) at before

no_adopt : (text : List ℕ) (n : ℕ) (r : Reply) → may_answer (Adopt text) r ≡ true → is_recorded r ≡ true → ends n r ≡ false → ⊥
no_adopt text n Adopted may told f = false≢true (sym f)
no_adopt text n Unknown may told f = false≢true told
no_adopt text n r may told f = false≢true may

no_start : (n : ℕ) (r : Reply) → may_answer Start r ≡ true → ends n r ≡ false → ⊥
no_start n Started may f = false≢true (sym f)
no_start n r may f = false≢true may

abbrev is_do : Event → Bool
is_do (Do operator number step outcome) = true
is_do e = false

no_act : (e : Event) (n : ℕ) (r : Reply) → may_answer e r ≡ true → is_do e ≡ false → is_act_on n r ≡ false
no_act (Do operator number step outcome) n r may other = absurd (false≢true (sym other))
no_act e n (Recorded k left) may other = absurd (false≢true may)
no_act e n r may other = refl

untouched : (e : Event) (n at before : ℕ) (r : Reply) (xs : List Mark) → may_answer e r ≡ true → is_do e ≡ false → Spare n xs
    → touched_on n xs before ≡ before → Leaves n xs at before r
untouched e n at before r xs may other spare same = record { spare = spare; touched = same ∙ ap (λ b. cond b at before) (sym (no_act e n r may other)) }

spare_claim : (n : ℕ) (o : List ℕ) (at : ℕ) (r : Reply) → ends n r ≡ false → Spare n (claim_marks o at r)
spare_claim n o at (Claimed k class account) f = (f, tt)
spare_claim n o at r f = tt

touched_claim : (n : ℕ) (o : List ℕ) (at before : ℕ) (r : Reply) → touched_on n (claim_marks o at r) before ≡ before
touched_claim n o at before (Claimed k class account) = refl
touched_claim n o at before r = refl

leaves_act : (n : ℕ) (a : Acted) (before : ℕ) (r : Reply) → Leaves n (act_marks a r) a.at before r
leaves_act n a before (Recorded k left) = record { spare = (refl, tt); touched = refl }
leaves_act n a before r = record { spare = tt; touched = refl }

spare_release : (n : ℕ) (r : Reply) → ends n r ≡ false → Spare n (release_marks r)
spare_release n (Released k) f = (f, tt)
spare_release n r f = tt

touched_release : (n before : ℕ) (r : Reply) → touched_on n (release_marks r) before ≡ before
touched_release n before (Released k) = refl
touched_release n before r = refl

spare_close : (n : ℕ) (r : Reply) → ends n r ≡ false → Spare n (close_marks r)
spare_close n (Closed k) f = (f, tt)
spare_close n r f = tt

touched_close : (n before : ℕ) (r : Reply) → touched_on n (close_marks r) before ≡ before
touched_close n before (Closed k) = refl
touched_close n before r = refl

leaves : (s : Summary) (ms : List Mark) (e : Event) (at n before : ℕ) (r : Reply) → may_answer e r ≡ true → is_recorded r ≡ true → ends n r ≡ false
    → Leaves n (marks_of s ms e at r) at before r
leaves s ms (Adopt text) at n before r may told f = absurd (no_adopt text n r may told f)
leaves s ms Start at n before r may told f = absurd (no_start n r may f)
leaves s ms (Sent m via) at n before r may told f =
    untouched (Sent m via) n at before r (marks_of s ms (Sent m via) at r) may refl (refl, spare_carried n (sent s ms m via at))
    (touched_carried n before (sent s ms m via at))
leaves s ms (Beat account) at n before r may told f = untouched (Beat account) n at before r _ may refl (refl, tt) refl
leaves s ms Tick at n before r may told f =
    untouched Tick n at before r (marks_of s ms Tick at r) may refl (spare_carried n (raised s ms at)) (touched_carried n before (raised s ms at))
leaves s ms (Claim operator number) at n before r may told f =
    untouched (Claim operator number) n at before r (claim_marks operator at r) may refl (spare_claim n operator at r f) (touched_claim n operator at before r)
leaves s ms (Next operator) at n before r may told f =
    untouched (Next operator) n at before r (claim_marks operator at r) may refl (spare_claim n operator at r f) (touched_claim n operator at before r)
leaves s ms (Do operator number step outcome) at n before r may told f = leaves_act n (acted_by operator step outcome at) before r
leaves s ms (Release operator number) at n before r may told f =
    untouched (Release operator number) n at before r (release_marks r) may refl (spare_release n r f) (touched_release n before r)
leaves s ms (Close operator number code) at n before r may told f =
    untouched (Close operator number code) n at before r (close_marks r) may refl (spare_close n r f) (touched_close n before r)
leaves s ms (Show number) at n before r may told f = untouched (Show number) n at before r [] may refl tt refl
leaves s ms Rows at n before r may told f = untouched Rows n at before r [] may refl tt refl

held_onto : (s : Summary) (n : ℕ) (o : List ℕ) (xs ms : List Mark) (before : ℕ) → Spare n xs → HeldIn n o before (incidents s ms)
    → HeldIn n o (touched_on n xs before) (incidents s (onto xs ms))
held_onto s n o [] ms before v w = w
held_onto s n o (x ∷ xs) ms before v w =
    held_onto s n o xs (x ∷ ms) (touched_then n x before) v.1
    (subst (HeldIn n o (touched_then n x before)) (sym (incidents_step s x ms)) (held_table n o x (opened s ms) before (incidents s ms) v.0 w))

-- what is not recorded is no act
quiet_no_act : (n : ℕ) (r : Reply) → is_recorded r ≡ false → is_act_on n r ≡ false
quiet_no_act n (Recorded k left) quiet = absurd (false≢true (sym quiet))
quiet_no_act n r quiet = refl

-- Lapses.

lapsed_parts : (l : Option ℕ) (touched at : ℕ) → has_lapsed l touched at ≡ true → (seconds : ℕ) × (l ≡ Some seconds) × (touched + seconds < at)
lapsed_parts None touched at e = absurd (false≢true e)
lapsed_parts (Some seconds) touched at e = (seconds, refl, ltb-true (touched + seconds) at e)

if_none : (b : Bool) (h : Option (List ℕ)) (o : List ℕ) → h ≡ Some o → cond b None h ≡ None → b ≡ true
if_none true h o e f = refl
if_none false h o e f = let no : None ≡ Some o = sym f ∙ e in cc

had_lapsed : (s : Summary) (h : List Entry) (touched moment at : ℕ) → touched ≡ moment → has_lapsed (lapse s (marks s h)) touched at ≡ true → HadLapsed s h moment at
had_lapsed s h touched moment at same e =
    let w = lapsed_parts (lapse s (marks s h)) touched at e in
    record { seconds = w.0; in_force = w.1; later = subst (λ t. t + w.0 < at) same w.2 }

-- The law.

claim_recorded : (r : Reply) (n : ℕ) → claimed_number r ≡ Some n → is_recorded r ≡ true
claim_recorded (Claimed k class account) n c = refl
claim_recorded r n c = cc

marks_of_claim : (o : List ℕ) (at n : ℕ) (r : Reply) → claimed_number r ≡ Some n → claim_marks o at r ≡ Claims o n at ∷ []
marks_of_claim o at n (Claimed k class account) c = let same : k ≡ n = cc in ap (λ m. Claims o m at ∷ []) same
marks_of_claim o at n r c = cc

claim_marks_of : (s : Summary) (ms : List Mark) (e : Event) (at n : ℕ) (r : Reply) (o : List ℕ) → claimer e ≡ Some o → claimed_number r ≡ Some n → marks_of s ms e at r ≡ Claims o n at ∷ []
claim_marks_of s ms (Claim operator number) at n r o by c = let same : operator ≡ o = cc in marks_of_claim operator at n r c ∙ ap (λ x. Claims x n at ∷ []) same
claim_marks_of s ms (Next operator) at n r o by c = let same : operator ≡ o = cc in marks_of_claim operator at n r c ∙ ap (λ x. Claims x n at ∷ []) same
claim_marks_of s ms e at n r o by c = cc

module _ (rise : NumbersRise) where
  held_start : (s : Summary) (e : Entry) (h : List Entry) (n : ℕ) (o : List ℕ) → IsNumbered s → IsLegal s (e ∷ h) → IsClaim e n o → HeldIn n o e.at (incidents s (marks s (e ∷ h)))
  held_start s e h n o a legal c =
      let w = may_claim s (marks s h) e.event e.at n o (rise s h a) (ap claimed_number (sym legal.0.reply) ∙ c.of) c.by in
      let v = stood_found (lapse s (marks s h)) e.at n (incidents s (marks s h)) w.incident w.found in
      rw (claim_recorded e.reply n c.of, claim_marks_of s (marks s h) e.event e.at n e.reply o c.by c.of) (subst (HeldIn n o e.at) (sym (incidents_step s (Claims o n e.at) (marks s h))) (held_claimed n o e.at (incidents s (marks s h)) v.incident v.found))

  held_step : (s : Summary) (x : Entry) (h : List Entry) (n : ℕ) (o : List ℕ) (before : ℕ) (b : Bool) → is_recorded x.reply ≡ b
      → may_answer x.event x.reply ≡ true → ends n x.reply ≡ false → HeldIn n o before (incidents s (marks s h))
      → HeldIn n o (cond (is_act_on n x.reply) x.at before) (incidents s (cond b (onto (marks_of s (marks s h) x.event x.at x.reply) (marks s h)) (marks s h)))
  held_step s x h n o before true told may f w =
      let xs = marks_of s (marks s h) x.event x.at x.reply in
      let l = leaves s (marks s h) x.event x.at n before x.reply may told f in
      subst (λ (t : ℕ). HeldIn n o t (incidents s (onto xs (marks s h)))) l.touched (held_onto s n o xs (marks s h) before l.spare w)
  held_step s x h n o before false quiet may f w =
      subst (λ (b : Bool). HeldIn n o (cond b x.at before) (incidents s (marks s h))) (sym (quiet_no_act n x.reply quiet)) w

  held_later : (s : Summary) (h later : List Entry) (e : Entry) (n : ℕ) (o : List ℕ) → IsNumbered s → IsLegal s (later ++ e ∷ h) → IsClaim e n o
      → is_ended n later ≡ false → HeldIn n o (last_touched n later e.at) (incidents s (marks s (later ++ e ∷ h)))
  held_later s h [] e n o a legal c f = held_start s e h n o a legal c
  held_later s h (x ∷ later) e n o a legal c f =
      let w = held_later s h later e n o a legal.1 c (or_second (ends n x.reply) (is_ended n later) f) in
      let may = subst (λ (r : Reply). may_answer x.event r ≡ true) (sym legal.0.reply) (answer_may s (marks s (later ++ e ∷ h)) x.event x.at) in
      held_step s x (later ++ e ∷ h) n o (last_touched n later e.at) (is_recorded x.reply) refl may (or_first (ends n x.reply) (is_ended n later) f) w

  -- who claims it, or for its holder, finds that the hold had lapsed
  lapsed_for : (s : Summary) (x : Entry) (h : List Entry) (n moment : ℕ) (o : List ℕ) → IsNumbered s → IsLegal s (x ∷ h)
      → HeldIn n o moment (incidents s (marks s h)) → ClaimsEither x n o → HadLapsed s h moment x.at
  lapsed_for s x h n moment o a legal w (inl c) =
      let l = lapse s (marks s h) in
      let said : claimed_number (answer_over s (marks s h) x.event x.at) ≡ Some n = ap claimed_number (sym legal.0.reply) ∙ c in
      let by = has_claimer s (marks s h) x.event x.at n said in
      let v = may_claim s (marks s h) x.event x.at n by.0 (rise s h a) said by.1 in
      let found = found_stood l x.at n (incidents s (marks s h)) w.incident w.found in
      let same : v.incident ≡ stands_at l x.at w.incident = cc in
      let free = ap (λ (i : Incident). i.holder) (sym same) ∙ v.free in
      had_lapsed s h w.incident.touched moment x.at w.touched (if_none (has_lapsed l w.incident.touched x.at) w.incident.holder o w.holder free)
  lapsed_for s x h n moment o a legal w (inr (k, c)) =
      let said : claimed_number (answer_over s (marks s h) x.event x.at) ≡ Some k = ap claimed_number (sym legal.0.reply) ∙ c.of in
      let v = may_claim s (marks s h) x.event x.at k o (rise s h a) said c.by in
      had_lapsed s h w.incident.touched moment x.at w.touched
      (not_standing (lapse s (marks s h)) x.at (incidents s (marks s h)) w.incident (has_lapsed (lapse s (marks s h)) w.incident.touched x.at) refl w.found w.holder v.none)
    where
      not_standing : (l : Option ℕ) (at : ℕ) (is : List Incident) (i : Incident) (b : Bool) → has_lapsed l i.touched at ≡ b → numbered n is ≡ Some i
          → i.holder ≡ Some o → held_by o (standing_of l at is) ≡ None → b ≡ true
      not_standing l at is i true e found holder none = refl
      not_standing l at is i false e found holder none =
          never_none (false ≡ true) o (standing_of l at is) n (stands_at l at i) o (found_stood l at n is i found)
          (ap (λ b. cond b None i.holder) e ∙ holder) (itself o) none

  pub holds_apart : HoldsApart
  holds_apart s h later e x n o a legal c f claims =
      lapsed_for s x (later ++ e ∷ h) n (last_touched n later e.at) o a legal (held_later s h later e n o a legal.1 c f) claims
