-- The steps of the panel: what holds of a world goes on when it takes an event, does a step, or hears a reply.
use Rattle.std.proofs.Common.{◌≡◌, ◌≤◌, ◌<◌, ◌+◌, ◌⊎◌, ℕ, List, [], ◌∷◌, ◌++◌, length, Bool, true, false, cond, refl, sym, ap, ◌∙◌, subst, true≢false, inl, inr, arith}
use Rattle.std.specs.Prelude.{Option, Some, None, ◌==◌, nat_lt}
use Rattle.std.specs.List.{AllByRecursion}
use Rattle.std.specs.Option.{option_map_or}
use Rattle.std.specs.Str.{bytes_eq}
use Rattle.std.proofs.lemmas.Bool.{or_cases, eqb-true, lt-ltb}
use Rattle.std.proofs.lemmas.Option.{same_Some}
use Rattle.std.proofs.lemmas.Slice.Eq.{bytes_eq-Decides}
use Rattle.arc_data.specs.declared.event.Token.{Token}
use Rattle.centre_laws.specs.Schedules.{Step, Deliver, Lose, Crash, Schedule, ideal_after}
use Rattle.centre_laws.specs.Schedules.{Other as Others}
use Rattle.panel_rules.specs.declared.Report.{Report}
use Rattle.panel_rules.specs.Marks.{Mark, Takes, Steps, Acks, steps, taken, count, numbered, first_copy, is_acked, is_late, is_in_flight, fate, in_flight, sends}
use Rattle.panel_rules.specs.Panels.{Setting, is_setting, number, ack_body, is_bad, is_full, queued, marks_queued, is_ack, heard, marks_heard}
use Rattle.panel_rules.specs.declared.Queued.TheVariants.{Taken, Full, BadData}
use Rattle.panel_rules.specs.declared.Heard.{Heard}
use Rattle.panel_rules.specs.declared.Heard.TheVariants.{Acked, Other}
use Rattle.panel_laws.specs.Worlds.{Copy, IsAmong, sent_copy}
use Rattle.panel_laws.proofs.Finds.{find_some, any_among}
use Rattle.panel_laws.proofs.Fates.{flying}
use Rattle.panel_laws.proofs.Numbering.{rare, ack_same}
use Rattle.panel_laws.proofs.Sent.{Sent, Order, Same, Before, After, ordered, all_among, all_weaker}
use Rattle.panel_laws.proofs.Flown.{IsSent, HasSent, IsAcked, sent_later, event_counted, first_below, sent_taking, sent_hearing, sent_idle, sent_again, sent_first}
use Rattle.panel_laws.proofs.Sends.{Sends, Idle, Again, First, sent_of_copy, sends_is}
use Rattle.panel_laws.proofs.Items.{items_later}
use Rattle.panel_laws.proofs.Spaced.{IsOfSent}
use Rattle.panel_laws.proofs.Holds.{HasAcked, IsFrame, IsReply, IsGood, Holds, frame_more, reply_more}

module _ (x : Schedule) (s : Setting) (ms : List Mark) (now : ℕ) (fs rs : List Copy) (ts : List Step) (h : Holds x s ms now fs rs ts) where
  -- The panel is given an event.

  take : (r : Report) → IsGood r → Holds x s (Takes r ∷ ms) now fs rs ts
  take r good = record {
    xs = h.xs;
    sent = sent_taking ms now h.xs r h.sent;
    frames = h.frames;
    replies = h.replies;
    acked = h.acked;
    good = (good, h.good);
    deliveries = h.deliveries;
    items = h.items;
    falls = h.falls;
    steps = h.steps;
    spaced = h.spaced;
  }

  queue_by : (token : Token) (content : List ℕ) (bad full : Bool) → is_bad token content ≡ bad
      → Holds x s (marks_queued token content (cond bad BadData (cond full Full (Taken (count ms + 1)))) ++ ms) now fs rs ts
  queue_by token content true full is = h
  queue_by token content false true is = h
  queue_by token content false false is =
      take (record { token = token; content = content }) is

  pub queue : (token : Token) (content : List ℕ) → Holds x s (marks_queued token content (queued ms token content) ++ ms) now fs rs ts
  queue token content = queue_by token content (is_bad token content) (is_full ms) refl

  -- The panel does a step.

  -- that makes more of what was sent, and these frames
  turned : (clock : ℕ) (o : Option ℕ) (ys : List Sent) (new : List Copy) → now ≤ clock → ((y : Sent) → IsAmong y h.xs → IsAmong y ys)
      → HasSent (Steps clock o ∷ ms) clock ys → AllByRecursion (IsFrame ys) (new ++ fs) → Holds x s (Steps clock o ∷ ms) clock (new ++ fs) rs ts
  turned clock o ys new le more sent frames = record {
    xs = ys;
    sent = sent;
    frames = frames;
    replies = all_weaker (IsReply h.xs ts) (IsReply ys ts) (reply_more h.xs ys ts more) rs h.replies;
    acked = h.acked;
    good = h.good;
    deliveries = all_weaker (IsOfSent s h.xs) (IsOfSent s ys) (λ t own. of_more t own) ts h.deliveries;
    items = items_later s h.xs ys now clock (ideal_after x ts) le more h.items;
    falls = h.falls;
    steps = h.steps;
    spaced = h.spaced;
  }
    where
      of_more : (t : Step) → IsOfSent s h.xs t → IsOfSent s ys t
      of_more (Deliver k a via c b) own = (own.0, more own.0 own.1, own.2, own.3)
      of_more (Others e c b) own = tt
      of_more Lose own = tt
      of_more (Crash kept c) own = tt

  -- one frame more
  framed : (clock n : ℕ) (ys : List Sent) (y : Sent) → IsAmong y ys → numbered n (taken ms) ≡ Some y.report → n ≡ y.event → clock ≤ y.first + 180
      → AllByRecursion (IsFrame ys) fs → AllByRecursion (IsFrame ys) (sent_copy ms clock (Some n) ++ fs)
  framed clock n ys y there told is soon all =
      rw told (record { of = y; there = there; copy = record { event = is; report = refl; high = soon } }, all)

  turn_by : (clock : ℕ) (o : Option ℕ) → now ≤ clock → Sends ms clock h.xs o
      → Holds x s (Steps clock o ∷ ms) clock (sent_copy ms clock o ++ fs) rs ts
  turn_by clock o le (Idle is) = subst (λ (p : Option ℕ). Holds x s (Steps clock p ∷ ms) clock (sent_copy ms clock p ++ fs) rs ts) (sym is)
      (turned clock None h.xs [] le (λ y there. there) (sent_idle ms now clock h.xs le h.sent) h.frames)
  turn_by clock o le (Again y there is soon) =
      subst (λ (p : Option ℕ). Holds x s (Steps clock p ∷ ms) clock (sent_copy ms clock p ++ fs) rs ts) (sym is)
      (turned clock (Some y.event) h.xs (sent_copy ms clock (Some y.event)) le (λ z among. among)
      (sent_again ms now clock h.xs y le there h.sent)
      (framed clock y.event h.xs y there (all_among (IsSent ms) y h.xs h.sent.each there).told refl soon h.frames))
  turn_by clock o le (First y new is) = let more = λ (z : Sent) (there : IsAmong z h.xs). first_inr y z there in
      subst (λ (p : Option ℕ). Holds x s (Steps clock p ∷ ms) clock (sent_copy ms clock p ++ fs) rs ts) (sym is)
      (turned clock (Some y.event) (y ∷ h.xs) (sent_copy ms clock (Some y.event)) le more
      (sent_first ms now clock h.xs y le new h.sent)
      (framed clock y.event (y ∷ h.xs) y (inl refl) new.told refl (omega (arith, new.first))
      (all_weaker (IsFrame h.xs) (IsFrame (y ∷ h.xs)) (frame_more h.xs (y ∷ h.xs) more) fs h.frames)))
    where
      first_inr : (y z : Sent) → IsAmong z h.xs → IsAmong z (y ∷ h.xs)
      first_inr y z there = inr there

  pub turn : (clock : ℕ) → now ≤ clock → Holds x s (Steps clock (sends ms clock) ∷ ms) clock (sent_copy ms clock (sends ms clock) ++ fs) rs ts
  turn clock le = turn_by clock (sends ms clock) le (sends_is ms now clock h.xs le h.sent)

  -- The panel hears a reply.

  -- a moment passes
  later : (clock : ℕ) → now ≤ clock → Holds x s ms clock fs rs ts
  later clock le = record {
    xs = h.xs;
    sent = sent_later ms now clock h.xs le h.sent;
    frames = h.frames;
    replies = h.replies;
    acked = h.acked;
    good = h.good;
    deliveries = h.deliveries;
    items = items_later s h.xs h.xs now clock (ideal_after x ts) le (λ y there. there) h.items;
    falls = h.falls;
    steps = h.steps;
    spaced = h.spaced;
  }

  -- it is of the event in flight
  same_by : (clock : ℕ) (y z : Sent) → is_setting s ≡ true → now ≤ clock → IsAmong y h.xs → IsAmong z h.xs → clock ≤ y.first + 300
      → number s y.event ≡ number s z.event → is_acked z.event ms ≡ false → is_late ms z.first ≡ false → Order (IsAcked ms) y z
      → y.event ≡ z.event
  same_by clock y z ok le a b soon same unacked early (Same is) = ap (λ (v : Sent). v.event) is
  same_by clock y z ok le a b soon same unacked early (Before o) = absurd (gone o.done)
    where
      gone : (is_acked z.event ms ≡ true) ⊎ (z.first + 240 < y.first) → ⊥
      gone (inl acked) = true≢false (sym acked ∙ unacked)
      gone (inr far) =
          let own = all_among (IsSent ms) y h.xs h.sent.each a in
          true≢false (sym (any_among (λ t. nat_lt (z.first + 240) t) y.first (steps ms) own.step (lt-ltb (z.first + 240) y.first far)) ∙ early)
  same_by clock y z ok le a b soon same unacked early (After o) =
      let gap = rare s ok y.event z.event (event_counted ms now h.xs y h.sent a).some o.below same in
      absurd (omega (arith, o.slow, gap, first_below ms now h.xs z h.sent b, le, soon))

  -- it is acknowledged
  hear_acked : (clock n : ℕ) → now ≤ clock → HasAcked n ts → Holds x s (Acks n ∷ ms) clock fs rs ts
  hear_acked clock n le a = let l = later clock le in record {
    xs = l.xs;
    sent = sent_hearing ms clock l.xs n l.sent;
    frames = l.frames;
    replies = l.replies;
    acked = λ k is. acked_by k (or_cases (n == k) (is_acked k ms) is);
    good = l.good;
    deliveries = l.deliveries;
    items = l.items;
    falls = l.falls;
    steps = l.steps;
    spaced = l.spaced;
  }
    where
      acked_by : (k : ℕ) → ((n == k) ≡ true) ⊎ (is_acked k ms ≡ true) → HasAcked k ts
      acked_by k (inl same) = subst (λ (m : ℕ). HasAcked m ts) (eqb-true n k same) a
      acked_by k (inr is) = h.acked k is

  -- by whether it is the acknowledgement of the event in flight
  hear_by : (clock n : ℕ) (c : Copy) (b : Bool) → is_setting s ≡ true → now ≤ clock → IsReply h.xs ts c → clock ≤ c.at + 60
      → in_flight ms ≡ Some n → is_ack s ms n (ack_body s c.event c.report.token) ≡ b
      → Holds x s (marks_heard (cond b (Acked n) Other) ++ ms) clock fs rs ts
  hear_by clock n c false ok le r soon flies is = later clock le
  hear_by clock n c true ok le r soon flies is =
      let found = find_some (λ k. is_in_flight (fate ms k)) 1 (length (taken ms)) n flies in
      let f = flying n ms found.passes in
      let z = sent_of_copy ms now h.xs n f.first h.sent f.sent in
      let own = all_among (IsSent ms) z.sent h.xs h.sent.each z.there in
      let told : numbered n (taken ms) ≡ Some z.sent.report = subst (λ (k : ℕ). numbered k (taken ms) ≡ Some z.sent.report) z.event own.told in
      let test : bytes_eq (ack_body s c.event c.report.token) (ack_body s n z.sent.report.token) ≡ true =
      subst (λ (o : Option Report). option_map_or (λ r. bytes_eq (ack_body s c.event c.report.token) (ack_body s n r.token)) o false ≡ true) told is in
      let bytes = (bytes_eq-Decides (ack_body s c.event c.report.token) (ack_body s n z.sent.report.token)).0 test in
      let numbers : number s c.event ≡ number s n = ack_same s c.event n c.report.token z.sent.report.token bytes in
      let first : f.first ≡ z.sent.first = same_Some f.first z.sent.first
      (sym f.sent ∙ subst (λ (k : ℕ). first_copy k ms ≡ Some z.sent.first) z.event own.sent) in
      let same : r.of.event ≡ z.sent.event = same_by clock r.of z.sent ok le r.there z.there (omega (arith, r.copy.high, soon))
      (subst (λ (k : ℕ). number s k ≡ number s z.sent.event) r.copy.event
      (subst (λ (k : ℕ). number s c.event ≡ number s k) (sym z.event) numbers))
      (subst (λ (k : ℕ). is_acked k ms ≡ false) (sym z.event) f.unacked)
      (subst (λ (t : ℕ). is_late ms t ≡ false) first f.soon)
      (ordered (IsAcked ms) h.xs r.of z.sent h.sent.order r.there z.there) in
      hear_acked clock n le (subst (λ (k : ℕ). HasAcked k ts) (r.copy.event ∙ same ∙ z.event) r.acked)

  -- what a body tells, by the event in flight
  abbrev heard_of : List ℕ → Option ℕ → Heard
  heard_of body flying = option_map_or (λ n. cond (is_ack s ms n body) (Acked n) Other) flying Other

  hear_flight : (clock : ℕ) (c : Copy) (o : Option ℕ) → is_setting s ≡ true → now ≤ clock → IsReply h.xs ts c → clock ≤ c.at + 60
      → in_flight ms ≡ o → Holds x s (marks_heard (heard_of (ack_body s c.event c.report.token) o) ++ ms) clock fs rs ts
  hear_flight clock c None ok le r soon flies = later clock le
  hear_flight clock c (Some n) ok le r soon flies =
      hear_by clock n c (is_ack s ms n (ack_body s c.event c.report.token)) ok le r soon flies refl

  pub hear : (clock : ℕ) (c : Copy) → is_setting s ≡ true → now ≤ clock → IsAmong c rs → clock ≤ c.at + 60
      → Holds x s (marks_heard (heard s ms (ack_body s c.event c.report.token)) ++ ms) clock fs rs ts
  hear clock c ok le there soon = hear_flight clock c (in_flight ms) ok le (all_among (IsReply h.xs ts) c rs h.replies there) soon refl
