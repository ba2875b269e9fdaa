-- Frames that wait, once their events were submitted and replies were sent.
use Rattle.std.proofs.Common.{◌≡◌, ◌<◌, ◌≤◌, ◌+◌, ◌-◌, ◌∷◌, ◌++◌, ℕ, List, [], take, drop, length, Option, Some, Result, Ok, Err, refl, sym, ◌∙◌, ap, subst, arith, append_assoc, append-nil, length-append, inl, inr}
use Rattle.std.specs.Prelude.{OnOk}
use Rattle.std.specs.List.{AllZip, AllByRecursion, flat_map}
use Rattle.std.proofs.lemmas.List.{map-append, length-map}
use Rattle.arc_data.specs.declared.event.Event.{Event}
use Rattle.arc_data.specs.declared.event.Event.TheVariants.{Beat as Heartbeat}
use Rattle.alarm_rules.specs.Setups.{Setup, meaning}
use Rattle.arc_io.specs.Added.{Added, Answers}
use Rattle.arc_io.specs.Seen.{PortSeen}
use Rattle.arc_io.proofs.Adding.{adds_both}
use Rattle.arc_io.proofs.Frames.{answers_none, answers_put, answers_noise, answers_more, unfailed}
use Rattle.centre_core.specs.Batches.{with_all, IsDown, IsDownThen}
use Rattle.centre_core.proofs.OnDisk.{disk_stays}
use Rattle.centre_core.specs.GroupHalls.{GoesOnWith, ShowsLeft}
use Rattle.centre_core.specs.Halls.{HallSeen, IsKept}
use Rattle.centre_core.specs.declared.batch.Submission.{Submission}
use Rattle.centre_core.specs.declared.hall.Stop.{Stop}
use Rattle.centre_core.specs.declared.hall.Stop.TheVariants.{Memory, Down, Full, Worn}
use Rattle.centre_core.specs.declared.ready.Done.{Done}
use Rattle.centre_rules.specs.Answers.{IsLegal}
use Rattle.centre_rules.specs.Marks.{force}
use Rattle.centre_rules.specs.Summary.{Summary}
use Rattle.centre_rules.specs.History.{Entry, marks}
use Rattle.session_rules.specs.Sessions.{changed, answered, cut_off, stopped, IsShownFor}
use Rattle.session_rules.specs.Turns.{entries_of, noise_of}
use Rattle.session_rules.proofs.Appended.{noise-append}
use Rattle.session_rules.proofs.Keeping.{kept_more, kept_self}
use Rattle.line_session.specs.Dues.{Asked, IsDueOf, IsSound, AreWaiting, IsAckDue, IsReached, SendsDues, AreSent, SendsDue, acks_in, bodies_in, readings_in}
use Rattle.line_session.specs.Groups.{IsHeld, IsHeldOrEnded, IsGroupLine}
use Rattle.line_session.specs.Turns.{Turn, line_turns}
use Rattle.line_session.specs.declared.due.Due.{Due}
use Rattle.line_session.specs.declared.due.Due.TheVariants.{Silence, Nak, Duh, Ack}
use Rattle.line_session.specs.declared.line_end.LineEnd.{LineEnd}
use Rattle.line_session.specs.declared.line_end.LineEnd.TheVariants.{WriteFault, Stopped}
use Rattle.line_session.specs.declared.waiting.Waiting.{Waiting}
use Rattle.line_session.proofs.Apart.{cut_zip, zip_last, none_over, reached_none, take_calls, drop_calls, acks_are, calls-append, cut_calls, first_asked, calls_on}
use Rattle.line_session.proofs.Grouped.{Batched, batch_session, group_then, group_line_then, group_line_same}
use Rattle.line_session.proofs.Recorded.{turns_in, turn_of, with_entry, event_in, ends_with, turns-append, readings_is, text_is, noise_is, entries_count}
use Rattle.line_session.proofs.Replied.{Replied, IsReplied, SentAll, sent_all, SentFront, sent_front, AreSound, sound_all, sound_front, unsent_all, verdict_on, met_at, asked_in, replies_in, noise_in}

pub bodies-append : (xs ys : List Asked) → bodies_in (xs ++ ys) ≡ bodies_in xs ++ bodies_in ys
bodies-append xs ys = map-append (λ (a : Asked). a.body) xs ys

pub readings-append : (xs ys : List Asked) → readings_in (xs ++ ys) ≡ readings_in xs ++ readings_in ys
readings-append xs ys = map-append (λ (a : Asked). a.reading) xs ys

asked-append : (rs us : List Replied) → asked_in (rs ++ us) ≡ asked_in rs ++ asked_in us
asked-append rs us = map-append (λ (r : Replied). r.asked) rs us

each-append : (P : Replied → Type 0) (rs us : List Replied) → AllByRecursion P rs → AllByRecursion P us → AllByRecursion P (rs ++ us)
each-append P [] us first next = next
each-append P (r ∷ rs) us first next = (first.0, each-append P rs us first.1 next)

-- the same setup
pub waiting_under : {name : List ℕ} {s t : List ℕ} {asked : List Asked} {w : Waiting} → t ≡ s → AreWaiting name (meaning s) asked w → AreWaiting name (meaning t) asked w
waiting_under {name} {s} {t} {asked} {w} same waiting = subst (λ (x : List ℕ). AreWaiting name (meaning x) asked w) (sym same) waiting

-- What was sent of what waits: the first pieces, with just so many events.
record Parts (name : List ℕ) (setup : Setup) (asked : List Asked) (k : ℕ) (new : List Due) (p p' : PortSeen) : Type 0 where
  sent : List Asked
  rest : List Asked
  is : asked ≡ sent ++ rest
  count : k ≡ length (calls_on name setup sent)
  backs : AllZip (IsDueOf setup) rest new
  replies : SentAll setup sent p p'
  reached : IsReached 0 new

parts : (name : List ℕ) (setup : Setup) (asked : List Asked) (k : ℕ) (dues new : List Due) (p p' : PortSeen) → AllZip (IsDueOf setup) asked dues → SendsDues (Ok tt) setup k dues new p p'
    → k ≤ length (calls_on name setup asked) → Parts name setup asked k new p p'
parts name setup asked k dues new p p' zip sends within =
    let c = cut_zip (IsDueOf setup) asked sends.0 new (subst (AllZip (IsDueOf setup) asked) sends.2 zip) in
    record {
      sent = c.first;
      rest = c.rest;
      is = c.is;
      count = none_over name setup k sends.1 c.first c.rest sends.0 new c.fronts c.backs sends.4 sends.3 (subst (λ (l : List Asked). k ≤ length (calls_on name setup l)) c.is within);
      backs = c.backs;
      replies = sent_all setup c.first sends.0 p p' c.fronts sends.5;
      reached = reached_none name setup sends.1 new sends.4;
    }

-- What was sent where a write failed: the replies of the first pieces and a front of the next one's. Events of some behind have entries too.
record CutParts (name : List ℕ) (setup : Setup) (asked : List Asked) (k : ℕ) (p p' : PortSeen) : Type 0 where
  sent : List Asked
  last : Asked
  sound : IsSound setup (verdict_on setup last)
  behind : List Asked
  rest : List Asked
  is : asked ≡ (sent ++ last ∷ behind) ++ rest
  count : k ≡ length (calls_on name setup (sent ++ last ∷ behind))
  fewer : length (calls_on name setup behind) ≤ k
  mid : PortSeen
  replies : SentAll setup sent p mid
  front : SentFront setup last mid p'
  unsent : List Replied
  unsent_are : asked_in unsent ≡ behind
  unsent_each : AllByRecursion (IsReplied setup) unsent

module _ (name : List ℕ) (setup : Setup) (asked : List Asked) (k : ℕ) (p p' mid : PortSeen) (end : LineEnd) (sent rest : List Asked) (front : List Due) (due : Due) (new : List Due)
    (is : asked ≡ sent ++ rest) (fronts : AllZip (IsDueOf setup) sent front) (few : length (flat_map acks_in (front ++ due ∷ [])) ≤ k) (within : k ≤ length (calls_on name setup asked))
    (replies : SentAll setup sent p mid) (failed : SendsDue (Err end) setup due mid p') where
  cut_at : (rest : List Asked) → asked ≡ sent ++ rest → AllZip (IsDueOf setup) rest (due ∷ new) → CutParts name setup asked k p p'
  cut_at [] is zip = absurd zip
  cut_at (last ∷ more) is zip =
      let c = calls_on name setup in
      let one : List Asked = sent ++ last ∷ [] in
      let acks : length (flat_map acks_in (front ++ due ∷ [])) ≡ length (calls_on name setup one) = acks_are name setup one (front ++ due ∷ []) (zip_last (IsDueOf setup) sent front last due fronts zip.0) in
      let parts_are : asked ≡ one ++ more = is ∙ sym (append_assoc sent (last ∷ []) more) in
      let all : length (calls_on name setup asked) ≡ length (calls_on name setup one) + length (calls_on name setup more) =
      ap (λ (l : List Asked). length (calls_on name setup l)) parts_are ∙ ap length (calls-append name setup one more) ∙ length-append (calls_on name setup one) (calls_on name setup more) in
      let n : ℕ = k - length (calls_on name setup one) in
      let cut = cut_calls name setup more n (omega (arith, acks, few, within, all)) in
      let long = cut.long in
      let front_is : sent ++ last ∷ cut.first ≡ one ++ cut.first = sym (append_assoc sent (last ∷ []) cut.first) in
      let count : length (calls_on name setup (sent ++ last ∷ cut.first)) ≡ length (calls_on name setup one) + length (calls_on name setup cut.first) =
      ap (λ (l : List Asked). length (calls_on name setup l)) front_is ∙ ap length (calls-append name setup one cut.first) ∙ length-append (calls_on name setup one) (calls_on name setup cut.first) in
      let unsent = unsent_all setup cut.first (sound_front setup cut.first cut.rest (subst (AreSound setup) cut.is (sound_all setup more new zip.1))) in
      record {
        sent = sent;
        last = last;
        sound = zip.0.1;
        behind = cut.first;
        rest = cut.rest;
        is = is ∙ ap (λ (l : List Asked). sent ++ last ∷ l) cut.is ∙ sym (append_assoc sent (last ∷ cut.first) cut.rest);
        count = omega (arith, acks, few, long, count);
        fewer = omega (arith, acks, few, long);
        mid = mid;
        replies = replies;
        front = sent_front setup last due mid p' end zip.0 failed;
        unsent = unsent.0;
        unsent_are = unsent.1;
        unsent_each = unsent.2;
      }

cut_parts : (name : List ℕ) (setup : Setup) (asked : List Asked) (k : ℕ) (dues new : List Due) (p p' : PortSeen) (end : LineEnd) → AllZip (IsDueOf setup) asked dues
    → SendsDues (Err end) setup k dues new p p' → k ≤ length (calls_on name setup asked) → CutParts name setup asked k p p'
cut_parts name setup asked k dues new p p' end zip sends within =
    let c = cut_zip (IsDueOf setup) asked sends.0 (sends.1 ∷ new) (subst (AllZip (IsDueOf setup) asked) sends.3 zip) in
    cut_at name setup asked k p p' sends.2 end c.first c.rest sends.0 sends.1 new c.is c.fronts sends.4 within (sent_all setup c.first sends.0 p sends.2 c.fronts sends.5) sends.6 c.rest c.is c.backs

-- What the hall did with the first of the events that wait, up to so many.
pub record Took (b : Summary) (hall hall' : HallSeen) (g : List Entry) (calls : List Submission) (k : ℕ) : Type 0 where
  pub kept : IsKept hall hall'
  pub dones : List Done
  pub goes : GoesOnWith b hall hall' g (take k calls) dones
  pub in_force : force b (marks b (with_all hall.caller b goes.before (take k calls))) ≡ Some (meaning hall'.text)
  pub within : k ≤ length calls
  pub few : k ≤ 64

module _ (name : List ℕ) (b : Summary) (h : List Entry) (bodies : List (List ℕ)) (asked later : List Asked) (w w' : Waiting) (first hall hall' : HallSeen) (from p p' : PortSeen)
    (held : IsHeld name b h bodies asked later w (changed first hall from p)) (k : ℕ) (took : Took b hall hall' held.session.history w.batch k) where
  abbrev set : Setup
  set = meaning hall.text

  within_asked : k ≤ length (calls_on name set asked)
  within_asked = subst (λ (l : List Submission). k ≤ length l) held.waiting.calls took.within

  batched : (replied : List Replied) (front rest : List Asked) → asked ≡ front ++ rest → k ≡ length (calls_on name set front) → asked_in replied ≡ front → AllByRecursion (IsReplied set) replied
      → Batched name b hall hall' held.session.history replied
  batched replied front rest is count are each = record {
    calls = take k w.batch;
    dones = took.dones;
    goes = took.goes;
    are =
        ap (take k) held.waiting.calls ∙ ap (λ (l : List Asked). take k (calls_on name set l)) is ∙ take_calls name set front rest k count
        ∙ ap (calls_on name set) (sym are);
    each = each;
    in_force = took.in_force ∙ ap (λ (t : List ℕ). Some (meaning t)) took.kept.text;
  }

  sends_here : (end : Result (Unit {0}) LineEnd) → SendsDues end (meaning hall'.text) k w.dues.items w'.dues.items p p' → SendsDues end set k w.dues.items w'.dues.items p p'
  sends_here end sends = subst (λ (t : List ℕ). SendsDues end (meaning t) k w.dues.items w'.dues.items p p') took.kept.text sends

  -- all pieces, by those that are answered now
  all_pieces_are : (front rest : List Asked) → asked ≡ front ++ rest → bodies ++ bodies_in (asked ++ later) ≡ bodies ++ (bodies_in front ++ bodies_in (rest ++ later))
  all_pieces_are front rest is =
      ap (λ (l : List Asked). bodies ++ bodies_in (l ++ later)) is ∙ ap (λ (l : List Asked). bodies ++ bodies_in l) (append_assoc front rest later)
      ∙ ap (λ (l : List (List ℕ)). bodies ++ l) (bodies-append front (rest ++ later))

  all_readings_are : (front rest : List Asked) → asked ≡ front ++ rest → readings_in (asked ++ later) ≡ readings_in front ++ readings_in (rest ++ later)
  all_readings_are front rest is =
      ap (λ (l : List Asked). readings_in (l ++ later)) is ∙ ap readings_in (append_assoc front rest later) ∙ readings-append front (rest ++ later)

  -- the turns round that of which the reply was cut off
  record TurnsCut (before : List Entry) (sent : List Replied) (one : Replied) (unsent : List Replied) : Type 0 where
    last : Turn
    behind : List Turn
    is : turns_in name b set hall.caller before (sent ++ one ∷ unsent) ≡ turns_in name b set hall.caller before sent ++ last ∷ behind
    reply : last.reply ≡ one.reply
    noise : noise_in sent ++ one.noise ≡ noise_of line_turns (turns_in name b set hall.caller before sent ++ last ∷ [])
    long : length (entries_of line_turns behind) ≡ length (calls_on name set (asked_in unsent))

  turns_cut : (before : List Entry) (sent : List Replied) (one : Replied) (unsent : List Replied) → TurnsCut before sent one unsent
  turns_cut before sent one unsent =
      let at : List Entry = ends_with name b set hall.caller before sent in
      let last : Turn = turn_of name b set hall.caller at one in
      let next : List Entry = with_entry name b set hall.caller at one.asked.reading (event_in name b set hall.caller one.asked) in
      let front : List Turn = turns_in name b set hall.caller before sent in
      record {
        last = last;
        behind = turns_in name b set hall.caller next unsent;
        is = turns-append name b set hall.caller before sent (one ∷ unsent);
        reply = refl;
        noise =
            ap (λ (l : List ℕ). l ++ one.noise) (noise_is name b set hall.caller before sent)
            ∙ ap (λ (l : List ℕ). noise_of line_turns front ++ l) (sym (append-nil one.noise))
            ∙ sym (noise-append line_turns front (last ∷ []));
        long = entries_count name b set hall.caller next unsent;
      }

  -- All replies that were due were sent, and the session goes on.
  pub goes_on : (hall.up → hall'.up) → SendsDues (Ok tt) (meaning hall'.text) k w.dues.items w'.dues.items p p' → w'.batch ≡ drop k w.batch
      → IsHeldOrEnded (Ok tt) name b h (bodies ++ bodies_in (asked ++ later)) later w' (changed first hall' from p')
  unfolding batched
  goes_on up sends left =
      let s = parts name set asked k w.dues.items w'.dues.items p p' held.waiting.dues (sends_here (Ok tt) sends) within_asked in
      let rs = s.replies.replied in
      let batch = batched rs s.sent s.rest s.is s.count s.replies.are s.replies.each in
      let before : List Entry = took.goes.before in
      let m = met_at held.met p p' (replies_in rs) (noise_in rs) (readings_in (asked ++ later)) (readings_in (asked_in rs)) (readings_in (s.rest ++ later))
      (all_readings_are s.sent s.rest s.is ∙ ap (λ (l : List Asked). readings_in l ++ readings_in (s.rest ++ later)) (sym s.replies.are)) held.reads_ahead s.replies.adds in
      let next = batch_session name b held.session.history rs batch answered (record { text = replies_in rs; readings = readings_in (asked_in rs); noise = noise_in rs }) [] [] (λ _. up) m.adds
      (record {
        added = λ i. record {
          text = text_is name b set hall.caller before rs i;
          readings = readings_is name b set hall.caller before rs i;
          noise = noise_is name b set hall.caller before rs i;
        };
        none_behind = refl;
        none_left = refl;
      }) (omega arith) in (
        bodies ++ (bodies_in (asked_in rs) ++ []),
        s.rest,
        all_pieces_are s.sent s.rest s.is
            ∙ ap (λ (l : List (List ℕ)). bodies ++ (l ++ bodies_in (s.rest ++ later))) (ap bodies_in (sym s.replies.are) ∙ sym (append-nil (bodies_in (asked_in rs))))
            ∙ sym (append_assoc bodies (bodies_in (asked_in rs) ++ []) (bodies_in (s.rest ++ later))),
        record {
          kept = kept_more held.kept took.kept;
          waiting = waiting_under took.kept.text (record {
            dues = s.backs;
            calls = left ∙ ap (drop k) held.waiting.calls ∙ ap (λ (l : List Asked). drop k (calls_on name set l)) s.is ∙ drop_calls name set s.sent s.rest k s.count;
          });
          met = m.port;
          session = group_then name b held.kept held.session next;
          reads_ahead = m.ahead;
        },
      )

  -- All replies that were due were sent, and then the hall stopped the next event.
  pub stops : (stop : Stop) (left : List Submission) → SendsDues (Ok tt) (meaning hall'.text) k w.dues.items w'.dues.items p p' → k < length w.batch
      → ((event : Event) (reading : ℕ) (later : List Submission) → drop k w.batch ≡ (record { event = event; clock = reading }) ∷ later → hall'.shows stop event reading)
      → ((x : List Entry) (event : Event) (reading : ℕ) → hall'.torn b x event reading) → IsGroupLine name (stopped stop) b (bodies ++ bodies_in (asked ++ later)) h (changed first hall' from p')
  unfolding batched batch_session
  stops stop left sends fewer shown untold =
      let s = parts name set asked k w.dues.items w'.dues.items p p' held.waiting.dues (sends_here (Ok tt) sends) within_asked in
      let rs = s.replies.replied in
      let batch = batched rs s.sent s.rest s.is s.count s.replies.are s.replies.each in
      let before : List Entry = took.goes.before in
      let long : length w.batch ≡ length (calls_on name set s.sent) + length (calls_on name set s.rest) =
      ap length (held.waiting.calls ∙ ap (calls_on name set) s.is ∙ calls-append name set s.sent s.rest) ∙ length-append (calls_on name set s.sent) (calls_on name set s.rest) in
      let count = s.count in
      let next_one = first_asked name set s.rest w'.dues.items s.backs s.reached (omega (arith, long, fewer, count)) in
      let one = next_one.one in
      let dropped : drop k w.batch ≡ calls_on name set s.rest =
      ap (drop k) held.waiting.calls ∙ ap (λ (l : List Asked). drop k (calls_on name set l)) s.is ∙ drop_calls name set s.sent s.rest k s.count in
      let split : readings_in (asked ++ later) ≡ (readings_in (asked_in rs) ++ one.reading ∷ []) ++ readings_in (next_one.more ++ later) =
      all_readings_are s.sent s.rest s.is ∙ ap (λ (l : List Asked). readings_in l ++ readings_in (s.rest ++ later)) (sym s.replies.are)
      ∙ ap (λ (l : List Asked). readings_in (asked_in rs) ++ readings_in (l ++ later)) next_one.is
      ∙ sym (append_assoc (readings_in (asked_in rs)) (one.reading ∷ []) (readings_in (next_one.more ++ later))) in
      let m = met_at held.met p p' (replies_in rs) (noise_in rs) (readings_in (asked ++ later)) (readings_in (asked_in rs) ++ one.reading ∷ []) (readings_in (next_one.more ++ later))
      split held.reads_ahead s.replies.adds in
      let added : Added = record { text = replies_in rs; readings = readings_in (asked_in rs) ++ one.reading ∷ []; noise = noise_in rs } in
      let rest_bodies : List (List ℕ) = one.body ∷ bodies_in (next_one.more ++ later) in
      let ts : List Turn = turns_in name b set hall.caller before rs in
      let next = batch_session name b held.session.history rs batch (stopped stop) added [] rest_bodies (λ unstopped. absurd unstopped) m.adds
      (record {
        front = ts;
        piece = one.body;
        more = bodies_in (next_one.more ++ later);
        reading = one.reading;
        split = sym (append-nil ts);
        next = refl;
        added = λ i. record {
          text = text_is name b set hall.caller before rs i;
          readings = readings_is name b set hall.caller before rs i ++ one.reading ∷ [];
          noise = noise_is name b set hall.caller before rs i;
        };
        cause = inr (next_one.event, next_one.brings, record { shown = shown next_one.event one.reading (calls_on name set next_one.more) (dropped ∙ next_one.call); torn = λ _. untold _ next_one.event one.reading });
      }) (omega arith) in
      group_line_same
      (all_pieces_are s.sent s.rest s.is ∙ ap (λ (l : List Asked). bodies ++ (bodies_in l ++ bodies_in (s.rest ++ later))) (sym s.replies.are)
      ∙ ap (λ (l : List Asked). bodies ++ (bodies_in (asked_in rs) ++ bodies_in (l ++ later))) next_one.is)
      (group_line_then name b held.kept held.session
      (record {
        met = m.port;
        session = next;
        sent = inr refl;
        ahead = readings_in (next_one.more ++ later);
        few = omega (arith, length-map (next_one.more ++ later) (λ (a : Asked). a.reading), length-map (next_one.more ++ later) (λ (a : Asked). a.body));
        reads_ahead = m.ahead;
      }))

  -- A write failed within a reply that was due.
  pub cuts : (end : LineEnd) → (hall.up → hall'.up) → SendsDues (Err end) (meaning hall'.text) k w.dues.items w'.dues.items p p'
      → IsGroupLine name cut_off b (bodies ++ bodies_in (asked ++ later)) h (changed first hall' from p')
  unfolding batched batch_session
  cuts end up sends =
      let s = cut_parts name set asked k w.dues.items w'.dues.items p p' end held.waiting.dues (sends_here (Err end) sends) within_asked in
      let one : Replied = record { asked = s.last; noise = s.front.noise; reply = s.front.reply } in
      let sent = s.replies.replied in
      let rs : List Replied = sent ++ one ∷ s.unsent in
      let are : asked_in rs ≡ s.sent ++ s.last ∷ s.behind =
      asked-append sent (one ∷ s.unsent) ∙ ap (λ (l : List Asked). l ++ s.last ∷ asked_in s.unsent) s.replies.are ∙ ap (λ (l : List Asked). s.sent ++ s.last ∷ l) s.unsent_are in
      let batch = batched rs (s.sent ++ s.last ∷ s.behind) s.rest s.is s.count are
      (each-append (IsReplied set) sent (one ∷ s.unsent) s.replies.each (record { reply = s.front.fits; sound = s.sound }, s.unsent_each)) in
      let before : List Entry = took.goes.before in
      let count : ℕ = s.front.count in
      let text : List ℕ = replies_in sent ++ take count s.front.reply in
      let noise : List ℕ = noise_in sent ++ s.front.noise in
      let m = met_at held.met p p' text noise (readings_in (asked ++ later)) (readings_in (asked_in rs)) (readings_in (s.rest ++ later))
      (all_readings_are (s.sent ++ s.last ∷ s.behind) s.rest s.is ∙ ap (λ (l : List Asked). readings_in l ++ readings_in (s.rest ++ later)) (sym are))
      held.reads_ahead (adds_both s.replies.adds s.front.adds) in
      let c = turns_cut before sent one s.unsent in
      let long = c.long in
      let behind_long = ap (λ (l : List Asked). length (calls_on name set l)) s.unsent_are in
      let fewer = s.fewer in
      let few = took.few in
      let next = batch_session name b held.session.history rs batch cut_off (record { text = text; readings = readings_in (asked_in rs); noise = noise }) c.behind (bodies_in (s.rest ++ later)) (λ _. up) m.adds
      (record {
        front = turns_in name b set hall.caller before sent;
        last = c.last;
        count = count;
        split = c.is;
        short = subst (λ (l : List ℕ). count < length l) (sym c.reply) s.front.short;
        added =
            (λ i. record { text = text_is name b set hall.caller before sent i ++ take count (sym c.reply i); readings = readings_is name b set hall.caller before rs i; noise = c.noise i });
      }) (omega (arith, long, behind_long, fewer, few)) in
      group_line_same
      (all_pieces_are (s.sent ++ s.last ∷ s.behind) s.rest s.is ∙ ap (λ (l : List Asked). bodies ++ (bodies_in l ++ bodies_in (s.rest ++ later))) (sym are))
      (group_line_then name b held.kept held.session
      (record {
        met = m.port;
        session = next;
        sent = inl refl;
        ahead = readings_in (s.rest ++ later);
        few = omega (arith, length-map (s.rest ++ later) (λ (a : Asked). a.reading), length-map (s.rest ++ later) (λ (a : Asked). a.body));
        reads_ahead = m.ahead;
      }))

-- What a call with a batch left of a hall.
pub took_by : {b : Summary} {hall hall' : HallSeen} {g : List Entry} {calls : List Submission} (k : ℕ) (dones : List Done) → k ≡ length dones → IsKept hall hall'
    → GoesOnWith b hall hall' g (take (length dones) calls) dones → ((x : List Entry) → hall'.stands b x → force b (marks b x) ≡ Some (meaning hall'.text)) → length dones ≤ length calls → length dones ≤ 64
    → Took b hall hall' g calls k
took_by {b} {hall} {hall'} {g} {calls} k dones is kept goes in_force within few =
    subst (Took b hall hall' g calls) (sym is) (record { kept = kept; dones = dones; goes = goes; in_force = in_force _ goes.holds; within = within; few = few })

-- no call
pub took_none : {b : Summary} {hall : HallSeen} {g : List Entry} (calls : List Submission) → hall.ready → hall.stands b g → IsLegal b g → ((x : List Entry) → hall.stands b x → force b (marks b x) ≡ Some (meaning hall.text))
    → Took b hall hall g calls 0
took_none {b} {hall} {g} calls ready holds legal in_force = record {
  kept = kept_self hall ready;
  dones = [];
  goes = record { before = g; extends = ([], refl); told = refl; holds = holds; legal = legal; own = refl; disk = disk_stays };
  in_force = in_force g holds;
  within = omega arith;
  few = omega arith;
}

-- what was answered was not stopped by Down
pub not_down : (stop : Option Stop) (dones : List Done) → (IsDownThen stop → dones ≡ []) → 1 ≤ length dones → IsDownThen stop → ⊥
not_down stop dones none some down = let long = ap length (none down) in omega (arith, some, long)

-- where an acknowledgement is due first, and its reply was not sent, an event was answered
pub cut_some : (setup : Setup) (k : ℕ) (dues new : List Due) (p p' : PortSeen) (end : LineEnd) → IsReached 0 dues → SendsDues (Err end) setup k dues new p p' → 1 ≤ k
cut_some setup k dues new p p' end reached sends = by sends.0 (subst (IsReached 0) sends.3 reached) sends.4 where
  ack_long : (due : Due) → IsAckDue due → length (acks_in due) ≡ 1
  ack_long Silence ack = absurd ack
  ack_long (Nak account reading) ack = absurd ack
  ack_long (Duh header why) ack = absurd ack
  ack_long (Ack header reading) ack = refl

  by : (sent : List Due) → IsReached 0 (sent ++ sends.1 ∷ new) → length (flat_map acks_in (sent ++ sends.1 ∷ [])) ≤ k → 1 ≤ k
  by [] first few = let one = ack_long sends.1 first.1 in omega (arith, one, few, length-append (acks_in sends.1) [])
  by (due ∷ sent) first few = let one = ack_long due first.1 in omega (arith, one, few, length-append (acks_in due) (flat_map acks_in (sent ++ sends.1 ∷ [])))

abbrev head_of : Submission → List Submission → Submission
head_of call [] = call
head_of call (first ∷ later) = first

-- what a hall shows after a stop is of the first event that is left
pub shows_first : (hall : HallSeen) (stop : Stop) (left new : List Submission) → ShowsLeft hall stop new → ((IsDown stop → ⊥) → new ≡ left) → (event : Event) (reading : ℕ) (later : List Submission)
    → left ≡ (record { event = event; clock = reading }) ∷ later → hall.shows stop event reading
shows_first hall Memory left new shows off event reading later is = shows event reading
shows_first hall (Down at_open now) left new shows off event reading later is = shows event reading
shows_first hall (Full used need records) left new shows off event reading later is =
    let call : Submission = record { event = event; clock = reading } in
    let same : shows.call ≡ call = ap (head_of call) (sym shows.first ∙ off (λ down. down) ∙ is) in
    subst (λ (s : Submission). hall.shows (Full used need records) s.event s.clock) same shows.shown
shows_first hall (Worn count) left new shows off event reading later is = shows event reading

-- it shows the stop for some event
pub shows_some : (hall : HallSeen) (stop : Stop) (left : List Submission) → ShowsLeft hall stop left → IsShownFor hall stop
shows_some hall Memory left shows = inl refl
shows_some hall (Down at_open now) left shows = inr (Heartbeat [], 0, shows (Heartbeat []) 0)
shows_some hall (Full used need records) left shows = inr (shows.call.event, shows.call.clock, shows.shown)
shows_some hall (Worn count) left shows = inr (Heartbeat [], 0, shows (Heartbeat []) 0)

-- what sending does to a port beside the replies

answers_due : (end : Result (Unit {0}) LineEnd) (setup : Setup) (due : Due) (p p' : PortSeen) → SendsDue end setup due p p' → Answers (end ≡ Err WriteFault) p p'
answers_due end setup Silence p p' s =
    subst (λ (q : PortSeen). Answers (end ≡ Err WriteFault) p q) (sym s.1) (answers_none (end ≡ Err WriteFault) p (λ is. let other = sym s.0 ∙ is in absurd (cc)))
answers_due end setup (Nak account reading) p p' s = answers_put WriteFault s
answers_due end setup (Duh header why) p p' s = answers_put WriteFault s
answers_due end setup (Ack header reading) p p' s = answers_noise p s.taken (answers_put WriteFault s.put)

answers_sent : (setup : Setup) (dues : List Due) (p p' : PortSeen) → AreSent setup dues p p' → Answers ⊥ p p'
answers_sent setup [] p p' s = subst (λ (q : PortSeen). Answers ⊥ p q) (sym s) (answers_none ⊥ p (λ f. f))
answers_sent setup (due ∷ dues) p p' s = answers_more (unfailed (answers_due (Ok tt) setup due p s.0 s.1)) (answers_sent setup dues s.0 p' s.2)

never : {p p' : PortSeen} (failed : Type 0) → (failed → ⊥) → Answers ⊥ p p' → Answers failed p p'
never {p} {p'} failed none a = record { rest = a.rest; later = a.later; rose = λ f. absurd (none f) }

pub answers_ok : (failed : Type 0) (setup : Setup) (k : ℕ) (old new : List Due) (p p' : PortSeen) → (failed → ⊥) → SendsDues (Ok tt) setup k old new p p' → Answers failed p p'
answers_ok failed setup k old new p p' none s = never failed none (answers_sent setup s.0 p p' s.5)

-- an error, as a result
abbrev pub failed_by : LineEnd → Result (Unit {0}) LineEnd
failed_by end = Err end

pub answers_err : (end : LineEnd) (setup : Setup) (k : ℕ) (old new : List Due) (p p' : PortSeen) → SendsDues (Err end) setup k old new p p' → Answers (failed_by end ≡ Err WriteFault) p p'
answers_err end setup k old new p p' s = answers_more (answers_sent setup s.0 p s.2 s.5) (answers_due (Err end) setup s.1 s.2 p' s.6)

pub not_failed : (r : Result (Unit {0}) LineEnd) → r ≡ Ok tt → r ≡ Err WriteFault → ⊥
not_failed r ok is = let other = sym ok ∙ is in absurd (cc)

pub stop_not_failed : (stop : Stop) → failed_by (Stopped stop) ≡ Err WriteFault → ⊥
stop_not_failed stop is = absurd (cc)

pub on_ok : {P : Type 0} (r : Result (Unit {0}) LineEnd) → P → OnOk r P
on_ok (Ok done) holds = holds
on_ok (Err end) holds = tt
