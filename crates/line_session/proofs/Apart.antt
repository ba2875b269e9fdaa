-- Pieces that wait, taken apart by what was sent.
use Rattle.std.proofs.Common.{◌≡◌, ◌≤◌, ◌+◌, ◌-◌, ◌∷◌, ◌++◌, ℕ, zero, suc, List, [], map, take, drop, length, Option, Some, None, refl, ◌∙◌, ap, subst, arith, append-nil, length-append}
use Rattle.std.specs.List.{AllZip, flat_map}
use Rattle.std.specs.Option.{option_to_list}
use Rattle.std.proofs.Math.Seq.{take-append_seam}
use Rattle.std.proofs.lemmas.Grind.{flat_map-append}
use Rattle.alarm_rules.specs.Setups.{Setup}
use Rattle.arc_data.specs.declared.event.Event.{Event}
use Rattle.centre_core.specs.declared.batch.Submission.{Submission}
use Rattle.dc09_message.specs.declared.outcome.Verdict.{Verdict}
use Rattle.dc09_message.specs.declared.outcome.Verdict.TheVariants as Told
use Rattle.line_session.specs.Dues.{Asked, IsDueFor, IsDueOf, IsAckDue, IsReached, acks_in, calls_of}
use Rattle.line_session.specs.Turns.{event_of}
use Rattle.line_session.specs.declared.due.Due.{Due}
use Rattle.line_session.proofs.Replied.{verdict_on}

-- lists that match were cut at one place
pub record CutZip {A B : Type 0} (R : A → B → Type 0) (all : List A) (front back : List B) : Type 0 where
  pub first : List A
  pub rest : List A
  pub is : all ≡ first ++ rest
  pub fronts : AllZip R first front
  pub backs : AllZip R rest back

pub cut_zip : {A B : Type 0} (R : A → B → Type 0) (all : List A) (front back : List B) → AllZip R all (front ++ back) → CutZip R all front back
cut_zip R all [] back zip = record { first = []; rest = all; is = refl; fronts = tt; backs = zip }
cut_zip R [] (y ∷ front) back zip = absurd zip
cut_zip {A} R (x ∷ all) (y ∷ front) back zip =
    let more = cut_zip R all front back zip.1 in
    record { first = x ∷ more.first; rest = more.rest; is = ap (λ (l : List A). x ∷ l) more.is; fronts = (zip.0, more.fronts); backs = more.backs }

-- one more, last
pub zip_last : {A B : Type 0} (R : A → B → Type 0) (xs : List A) (ys : List B) (x : A) (y : B) → AllZip R xs ys → R x y → AllZip R (xs ++ x ∷ []) (ys ++ y ∷ [])
zip_last R [] [] x y zip one = (one, tt)
zip_last R [] (z ∷ ys) x y zip one = absurd zip
zip_last R (w ∷ xs) [] x y zip one = absurd zip
zip_last R (w ∷ xs) (z ∷ ys) x y zip one = (zip.0, zip_last R xs ys x y zip.1 one)

-- what is submitted of these pieces
abbrev pub calls_on : List ℕ → Setup → List Asked → List Submission
calls_on name setup asked = flat_map (calls_of name setup) asked

-- what is submitted at a reading
abbrev pub call_list : ℕ → Option Event → List Submission
call_list reading event = map (λ (e : Event). record { event = e; clock = reading }) (option_to_list event)

-- none
pub nil_of : (calls : List Submission) → length calls ≤ 0 → calls ≡ []
nil_of [] short = refl
nil_of (call ∷ calls) short = absurd (omega (arith, short))

module _ (name : List ℕ) (setup : Setup) where
  pub calls-append : (xs ys : List Asked) → calls_on name setup (xs ++ ys) ≡ calls_on name setup xs ++ calls_on name setup ys
  calls-append xs ys = flat_map-append (calls_of name setup) xs ys

  -- a piece has an event exactly where an acknowledgement is due

  one_ack : (reading : ℕ) (v : Verdict) (due : Due) → IsDueFor v reading due
      → length (acks_in due) ≡ length (call_list reading (event_of name v))
  one_ack reading Told.Silence due fits = ap (λ (d : Due). length (acks_in d)) fits
  one_ack reading Told.Nak due fits = ap (λ (d : Due). length (acks_in d)) fits.1
  one_ack reading (Told.Duh header why) due fits = ap (λ (d : Due). length (acks_in d)) fits
  one_ack reading (Told.Beat header account) due fits = ap (λ (d : Due). length (acks_in d)) fits
  one_ack reading (Told.Numbered header m) due fits = ap (λ (d : Due). length (acks_in d)) fits

  pub acks_are : (asked : List Asked) (dues : List Due) → AllZip (IsDueOf setup) asked dues → length (flat_map acks_in dues) ≡ length (calls_on name setup asked)
  acks_are [] [] zip = refl
  acks_are [] (due ∷ dues) zip = absurd zip
  acks_are (a ∷ asked) [] zip = absurd zip
  acks_are (a ∷ asked) (due ∷ dues) zip =
      let one = one_ack a.reading (verdict_on setup a) due zip.0.0 in
      let more = acks_are asked dues zip.1 in
      omega (arith, one, more, length-append (acks_in due) (flat_map acks_in dues), length-append (calls_of name setup a) (calls_on name setup asked))

  -- All that was to be acknowledged was, where that was no more than waits.
  pub none_over : (k left : ℕ) (first rest : List Asked) (sent new : List Due) → AllZip (IsDueOf setup) first sent → AllZip (IsDueOf setup) rest new → IsReached left new
      → k ≡ length (flat_map acks_in sent) + left → k ≤ length (calls_on name setup (first ++ rest)) → k ≡ length (calls_on name setup first)
  none_over k left first [] sent [] zip none reached is within =
      let acks = acks_are first sent zip in
      let all = ap (λ (l : List Asked). length (calls_on name setup l)) (append-nil first) in
      omega (arith, acks, all, is, within)
  none_over k left first [] sent (due ∷ new) zip none reached is within = absurd none
  none_over k left first (a ∷ rest) sent [] zip none reached is within = absurd none
  none_over k left first (a ∷ rest) sent (due ∷ new) zip none reached is within =
      let acks = acks_are first sent zip in
      let zero_left = reached.0 in
      omega (arith, acks, zero_left, is)

  pub reached_none : (left : ℕ) (new : List Due) → IsReached left new → IsReached 0 new
  reached_none left [] reached = tt
  reached_none left (due ∷ new) reached = (refl, reached.1)

  -- the events of the first ones
  pub take_calls : (first rest : List Asked) (k : ℕ) → k ≡ length (calls_on name setup first) → take k (calls_on name setup (first ++ rest)) ≡ calls_on name setup first
  take_calls first rest k is = ap (λ (n : ℕ). take n (calls_on name setup (first ++ rest))) is ∙ ap (take (length (calls_on name setup first))) (calls-append first rest) ∙ take-append_seam (calls_on name setup first) (calls_on name setup rest)

  drop_front : {A : Type 0} (xs ys : List A) → drop (length xs) (xs ++ ys) ≡ ys
  drop_front [] ys = refl
  drop_front (x ∷ xs) ys = drop_front xs ys

  pub drop_calls : (first rest : List Asked) (k : ℕ) → k ≡ length (calls_on name setup first) → drop k (calls_on name setup (first ++ rest)) ≡ calls_on name setup rest
  drop_calls first rest k is = ap (λ (n : ℕ). drop n (calls_on name setup (first ++ rest))) is ∙ ap (drop (length (calls_on name setup first))) (calls-append first rest) ∙ drop_front (calls_on name setup first) (calls_on name setup rest)

  -- So many events are those of the first ones.
  pub record CutCalls (asked : List Asked) (n : ℕ) : Type 0 where
    pub first : List Asked
    pub rest : List Asked
    pub is : asked ≡ first ++ rest
    pub long : length (calls_on name setup first) ≡ n

  cut_more : (a : Asked) (asked : List Asked) (n : ℕ) → CutCalls asked n → CutCalls (a ∷ asked) (length (calls_of name setup a) + n)
  cut_more a asked n c = record {
    first = a ∷ c.first;
    rest = c.rest;
    is = ap (λ (l : List Asked). a ∷ l) c.is;
    long = let l = c.long in omega (arith, l, length-append (calls_of name setup a) (calls_on name setup c.first));
  }

  one_call : (reading : ℕ) (o : Option Event) → length (call_list reading o) ≤ 1
  one_call reading None = omega arith
  one_call reading (Some event) = omega arith

  pub cut_calls : (asked : List Asked) (n : ℕ) → n ≤ length (calls_on name setup asked) → CutCalls asked n
  cut_calls asked zero within = record { first = []; rest = asked; is = refl; long = refl }
  cut_calls [] (suc n) within = absurd (omega arith)
  cut_calls (a ∷ asked) (suc n) within =
      let own = length (calls_of name setup a) in
      let one : own ≤ 1 = one_call a.reading (event_of name (verdict_on setup a)) in
      let all = length-append (calls_of name setup a) (calls_on name setup asked) in
      let rest : (suc n) - own ≤ length (calls_on name setup asked) = omega (arith, all, within) in
      let back : own + ((suc n) - own) ≡ suc n = omega (arith, one) in
      subst (CutCalls (a ∷ asked)) back (cut_more a asked ((suc n) - own) (cut_calls asked ((suc n) - own) rest))

  -- the first one that waits for its event's entry
  first_event : (reading : ℕ) (v : Verdict) (due : Due) → IsDueFor v reading due → IsAckDue due → (e : Event) × (event_of name v ≡ Some e)
  first_event reading Told.Silence due fits ack = absurd (subst IsAckDue fits ack)
  first_event reading Told.Nak due fits ack = absurd (subst IsAckDue fits.1 ack)
  first_event reading (Told.Duh header why) due fits ack = absurd (subst IsAckDue fits ack)
  first_event reading (Told.Beat header account) due fits ack = (_, refl)
  first_event reading (Told.Numbered header m) due fits ack = (_, refl)

  pub record FirstAsked (asked : List Asked) : Type 0 where
    pub one : Asked
    pub more : List Asked
    pub is : asked ≡ one ∷ more
    pub event : Event
    pub brings : event_of name (verdict_on setup one) ≡ Some event
    pub call : calls_on name setup asked ≡ (record { event = event; clock = one.reading }) ∷ calls_on name setup more

  pub first_asked : (asked : List Asked) (dues : List Due) → AllZip (IsDueOf setup) asked dues → IsReached 0 dues → 1 ≤ length (calls_on name setup asked) → FirstAsked asked
  first_asked [] dues zip reached some = absurd (omega (arith, some))
  first_asked (a ∷ asked) [] zip reached some = absurd zip
  first_asked (a ∷ asked) (due ∷ dues) zip reached some =
      let e = first_event a.reading (verdict_on setup a) due zip.0.0 reached.1 in
      record {
        one = a;
        more = asked;
        is = refl;
        event = e.0;
        brings = e.1;
        call = ap (λ (o : Option Event). call_list a.reading o ++ calls_on name setup asked) e.1;
      }

  -- where nothing is to be acknowledged first, and no event waits, none waits
  pub none_waits : (asked : List Asked) (dues : List Due) → AllZip (IsDueOf setup) asked dues → IsReached 0 dues → length (calls_on name setup asked) ≡ 0 → asked ≡ []
  none_waits [] dues zip reached none = refl
  none_waits (a ∷ asked) [] zip reached none = absurd zip
  none_waits (a ∷ asked) (due ∷ dues) zip reached none =
      let e = first_event a.reading (verdict_on setup a) due zip.0.0 reached.1 in
      let call = ap (λ (o : Option Event). length (call_list a.reading o)) e.1 in
      let all = length-append (calls_of name setup a) (calls_on name setup asked) in
      absurd (omega (arith, none, all, call))
