-- What a line did that was fed bytes over a store and was stopped.
use Rattle.std.proofs.Common.{◌≡◌, ◌<◌, ◌≤◌, ◌-◌, ◌+◌, ◌++◌, ℕ, zero, suc, List, [], ◌∷◌, Some, Err, inl, inr, length, map, replicate, drop, refl, ap, sym, subst, ◌∙◌, arith}
use Rattle.std.specs.Prelude.{slice_index}
use Rattle.std.specs.Io.KnownBytes.{append_known}
use Rattle.std.proofs.lemmas.List.{append_assoc, append-nil, length-append}
use Rattle.alarm_rules.specs.Setups.{meaning}
use Rattle.arc_data.specs.declared.event.Event.{Event}
use Rattle.arc_data.specs.declared.event.Event.TheVariants.{Message as Sent}
use Rattle.arc_data.specs.declared.event.Message.{Message as Telling}
use Rattle.arc_io.specs.Disks.{DiskSeen}
use Rattle.arc_io.specs.Lists.{readings_of as given_of, noise_of as noise_given}
use Rattle.arc_io.specs.Seen.{PortSeen}
use Rattle.centre_core.specs.Setting.{text_of as text_in}
use Rattle.centre_core.specs.declared.hall.Stop.{Stop}
use Rattle.centre_core.specs.declared.hall.Stop.TheVariants.{Memory}
use Rattle.centre_rules.specs.History.{Entry}
use Rattle.centre_rules.specs.Summary.{Summary}
use Rattle.centre_store.specs.Stores.{HasFailed, Stored, StoreStands, Shows}
use Rattle.dc09_frame.specs.Frames.{bodies}
use Rattle.dc09_message.specs.Verdicts.{TakesMemory, verdict_of}
use Rattle.dc09_message.specs.declared.outcome.Verdict.{Verdict}
use Rattle.dc09_message.specs.declared.outcome.Verdict.TheVariants.{Silence, Nak, Duh, Beat, Numbered}
use Rattle.line_session.proofs.Ported.{all_in_limit}
use Rattle.line_session.specs.Lines.{ServesBytes}
use Rattle.line_session.specs.Sessions.{HasStopped}
use Rattle.line_session.specs.Turns.{Turn, line_turns, event_of, AreTurns}
use Rattle.line_session.specs.declared.line_end.LineEnd.TheVariants.{WriteFault, Stopped}
use Rattle.script_lines.specs.Lines.{Asked}
use Rattle.session_rules.specs.Inputs.{in_limit, input_limit}
use Rattle.session_rules.specs.Sessions.{changed}
use Rattle.session_rules.specs.Turns.{readings_of, noise_of}
use Rattle.arc_script.proofs.Feeds.{PageTells, readings_count}
use Rattle.arc_script.proofs.Readings.{still, silent}
use Rattle.arc_script.proofs.Ticks.{wanted_for, wanted_up}
use Rattle.arc_script.specs.Causes.{HasShown, IsOfFrame, IsSentFor}
use Rattle.centre_store.specs.StoreHalls.{store_seen}
use Rattle.arc_script.specs.Fed.{clock_of, line_fed}
use Rattle.arc_script.specs.Names.{line_name}
use Rattle.arc_script.specs.Standing.{IsReadable, LeavesOn}
use Rattle.arc_script.specs.Steps.{placed, FeedsLine}

-- the frames before the one that was stopped have their turns; that one may have taken its reading
pub record FedUpTo {D : Type 0} (seen : D → DiskSeen) (s s' : Stored D)
    (base : Summary) (setup : List ℕ) (clock line : ℕ) (before : List Asked) (bytes : List ℕ) (h : List Entry) (stop : Stop) (calls : ℕ) : Type 0 where
  pub turns : List Turn
  pub more : List (List ℕ)
  pub history : List Entry
  pub sent : ℕ
  pub fed : FeedsLine (placed base setup before) line bytes h history turns more
  pub stands : StoreStands seen base s' history
  pub readable : IsReadable base history
  pub left : LeavesOn seen base s s' h history
  pub cause : HasShown seen base s' history stop clock (IsOfFrame setup clock line more)
  pub sent_is : IsSentFor stop (length turns) sent
  pub count : calls ≡ sent + 1

parted : (stream bytes : List ℕ) (whole more : List (List ℕ)) (turns : List Turn) → length (stream ++ bytes) < input_limit
    → bodies (stream ++ in_limit stream bytes) ≡ bodies stream ++ whole → whole ≡ map (λ (t : Turn). t.body) turns ++ more
    → bodies (stream ++ bytes) ≡ bodies stream ++ map (λ (t : Turn). t.body) turns ++ more
parted stream bytes whole more turns short ended taken =
    let fits : length bytes ≤ input_limit - length stream = (let long = length-append stream bytes in omega (arith, long, short)) in
    let all : in_limit stream bytes ≡ bytes = all_in_limit stream bytes fits in
    ap (λ l. bodies (stream ++ l)) (sym all) ∙ ended ∙ ap (λ l. bodies stream ++ l) taken
    ∙ sym (append_assoc (bodies stream) (map (λ (t : Turn). t.body) turns) more)

without_behind : (turns front behind : List Turn) → turns ≡ front ++ behind → behind ≡ [] → front ≡ turns
without_behind turns front behind split none = sym (split ∙ ap (λ l. front ++ l) none ∙ append-nil front)

-- a write failed within a reply
pub cut_short : {D : Type 0} (seen : D → DiskSeen) (s s' : Stored D)
    (base : Summary) (setup : List ℕ) (clock line : ℕ) (before : List Asked) (bytes : List ℕ) (h : List Entry) (p p' : PortSeen) → text_in s.state ≡ setup
    → clock_of before ≡ Some clock → length (line_fed line before ++ bytes) < input_limit → IsReadable base h → (HasFailed seen s → ⊥)
    → (page : PageTells clock p p')
    → ServesBytes (line_name line) (Err WriteFault) (line_fed line before) (in_limit (line_fed line before) bytes) base h
    (changed (store_seen seen s) (store_seen seen s') p p')
    → FedUpTo seen s s' base setup clock line before bytes h Memory page.calls
cut_short seen s s' base setup clock line before bytes h p p' same set short readable up page serves =
    let stream = line_fed line before in
    let session = serves.session in
    let turns = session.turns in
    let ended = session.ended in
    let told_of = session.adds.told in
    let all : ended.front ++ ended.last ∷ [] ≡ turns = sym (ended.split ∙ ap (λ l. ended.front ++ ended.last ∷ l) session.unanswered) in
    let readings : Some (given_of page.list page.calls) ≡ append_known (Some (clock ∷ [])) (readings_of line_turns turns) =
    page.readings ∙ ap (λ (q : PortSeen). q.readings) told_of ∙ ap (λ k. append_known k session.added.readings) page.first
    ∙ ap (λ a. append_known (Some (clock ∷ [])) a.readings) ended.added in
    let noise : Some (noise_given [] page.tens) ≡ append_known (Some []) (noise_of line_turns turns) =
    page.noise ∙ ap (λ (q : PortSeen). q.noise) told_of ∙ ap (λ k. append_known k session.added.noise) page.none
    ∙ ap (λ a. append_known (Some []) a.noise) ended.added ∙ ap (λ ts. append_known (Some []) (noise_of line_turns ts)) all in
    let stands = still page.list page.calls clock (readings_of line_turns turns) page.one readings in
    record {
      turns = turns;
      more = session.left;
      history = session.history;
      sent = length turns;
      fed = record {
        clock = clock;
        set = set;
        ended = parted stream bytes serves.whole session.left turns short serves.ended session.taken;
        are = subst (λ (text : List ℕ). AreTurns (line_name line) base (meaning text) 0 h session.history turns) same session.each;
        legal = session.legal;
        readings = stands.same ∙ ap (λ n. replicate n clock) (readings_count turns);
        noise = silent page.tens (noise_of line_turns turns) noise;
        own = session.own;
      };
      stands = session.holds.stands;
      readable = (readable.0, session.disk.reads readable.1);
      left = session.disk.leaves readable.1;
      cause = wanted_up seen base s' session.history Memory clock (IsOfFrame setup clock line session.left) refl session.holds.stands (session.up tt up);
      sent_is = inr (refl, refl);
      count = stands.count ∙ ap (λ n. n + 1) (readings_count turns);
    }

-- the readings of the turns, and one more, were all at one moment
record AllAt (clock reading : ℕ) (readings : List ℕ) : Type 0 where
  last : reading ≡ clock
  rest : readings ≡ replicate (length readings) clock

all_at : (readings : List ℕ) (reading clock n : ℕ) → readings ++ reading ∷ [] ≡ replicate n clock → AllAt clock reading readings
all_at [] reading clock zero is = absurd cc
all_at [] reading clock (suc n) is = record { last = ap (λ (l : List ℕ). slice_index l 0) is; rest = refl }
all_at (r ∷ rs) reading clock zero is = absurd cc
all_at (r ∷ rs) reading clock (suc n) is =
    let more = all_at rs reading clock n (ap (λ (l : List ℕ). drop 1 l) is) in
    record { last = more.last; rest = ap (λ x. x ∷ rs) (ap (λ (l : List ℕ). slice_index l 0) is) ∙ ap (λ l. clock ∷ l) more.rest }

-- memory is wanted for a message alone
sent_in : (name : List ℕ) (told : Verdict) → TakesMemory told → (m : Telling) × (via : List ℕ) × (event_of name told ≡ Some (Sent m via))
sent_in name Silence takes = absurd takes
sent_in name Nak takes = absurd takes
sent_in name (Duh header why) takes = absurd takes
sent_in name (Beat header account) takes = absurd takes
sent_in name (Numbered header m) takes = (m, name, refl)

-- the event of a frame at this moment
brought : {D : Type 0} (s : Stored D) (setup : List ℕ) (clock line reading : ℕ) (body : List ℕ) → text_in s.state ≡ setup → reading ≡ clock → (event : Event)
    → event_of (line_name line) (verdict_of (meaning (text_in s.state)) reading body) ≡ Some event
    → event_of (line_name line) (verdict_of (meaning setup) clock body) ≡ Some event
brought s setup clock line reading body same at event is =
    sym (ap (λ (r : ℕ). event_of (line_name line) (verdict_of (meaning (text_in s.state)) r body)) at
    ∙ ap (λ (text : List ℕ). event_of (line_name line) (verdict_of (meaning text) clock body)) same)
    ∙ is

caused : {D : Type 0} (seen : D → DiskSeen) (s s' : Stored D)
    (base : Summary) (setup : List ℕ) (clock line reading : ℕ) (x : List Entry) (stop : Stop) (body : List ℕ) (more : List (List ℕ)) → text_in s.state ≡ setup → reading ≡ clock
    → (HasFailed seen s → ⊥) → StoreStands seen base s' x → HasStopped (line_name line) base (store_seen seen s) (store_seen seen s') x stop body reading
    → HasShown seen base s' x stop clock (IsOfFrame setup clock line (body ∷ more))
caused seen s s' base setup clock line reading x stop body more same at up stands (inl wanted) =
    let sent = sent_in (line_name line) (verdict_of (meaning (text_in s.state)) reading body) wanted.1 in
    wanted_for seen base s' x stop clock (IsOfFrame setup clock line (body ∷ more)) sent.0 sent.1 wanted.0 stands
    (brought s setup clock line reading body same at (Sent sent.0 sent.1) sent.2)
caused seen s s' base setup clock line reading x stop body more same at up stands (inr w) = inr (
  w.0,
  brought s setup clock line reading body same at w.0 w.1,
  subst (λ (r : ℕ). Shows seen s' stop w.0 r) at w.2.shown,
  subst (λ (r : ℕ). (store_seen seen s').torn base x w.0 r) at (w.2.torn up),
)

-- the store stopped for a frame
pub stopped_at : {D : Type 0} (seen : D → DiskSeen) (s s' : Stored D)
    (base : Summary) (setup : List ℕ) (clock line : ℕ) (before : List Asked) (bytes : List ℕ) (h : List Entry) (p p' : PortSeen) (stop : Stop) → text_in s.state ≡ setup
    → clock_of before ≡ Some clock → length (line_fed line before ++ bytes) < input_limit → IsReadable base h → (HasFailed seen s → ⊥)
    → (page : PageTells clock p p')
    → ServesBytes (line_name line) (Err (Stopped stop)) (line_fed line before) (in_limit (line_fed line before) bytes) base h
    (changed (store_seen seen s) (store_seen seen s') p p')
    → FedUpTo seen s s' base setup clock line before bytes h stop page.calls
stopped_at seen s s' base setup clock line before bytes h p p' stop same set short readable up page serves =
    let stream = line_fed line before in
    let session = serves.session in
    let turns = session.turns in
    let ended = session.ended in
    let told_of = session.adds.told in
    let all = without_behind turns ended.front session.behind ended.split session.unanswered in
    let list = readings_of line_turns turns ++ ended.reading ∷ [] in
    let readings : Some (given_of page.list page.calls) ≡ append_known (Some (clock ∷ [])) list =
    page.readings ∙ ap (λ (q : PortSeen). q.readings) told_of ∙ ap (λ k. append_known k session.added.readings) page.first
    ∙ ap (λ a. append_known (Some (clock ∷ [])) a.readings) ended.added in
    let noise : Some (noise_given [] page.tens) ≡ append_known (Some []) (noise_of line_turns turns) =
    page.noise ∙ ap (λ (q : PortSeen). q.noise) told_of ∙ ap (λ k. append_known k session.added.noise) page.none
    ∙ ap (λ a. append_known (Some []) a.noise) ended.added ∙ ap (λ ts. append_known (Some []) (noise_of line_turns ts)) all in
    let stands = still page.list page.calls clock list page.one readings in
    let at = all_at (readings_of line_turns turns) ended.reading clock (length list) stands.same in
    let size = length-append (readings_of line_turns turns) (ended.reading ∷ []) in
    let count = readings_count turns in
    record {
      turns = turns;
      more = ended.piece ∷ ended.more;
      history = session.history;
      sent = suc (length turns);
      fed = record {
        clock = clock;
        set = set;
        ended = parted stream bytes serves.whole (ended.piece ∷ ended.more) turns short serves.ended
            (session.taken ∙ ap (λ l. map (λ (t : Turn). t.body) turns ++ l) ended.next);
        are = subst (λ (text : List ℕ). AreTurns (line_name line) base (meaning text) 0 h session.history turns) same session.each;
        legal = session.legal;
        readings = at.rest ∙ ap (λ n. replicate n clock) count;
        noise = silent page.tens (noise_of line_turns turns) noise;
        own = session.own;
      };
      stands = session.holds.stands;
      readable = (readable.0, session.disk.reads readable.1);
      left = session.disk.leaves readable.1;
      cause = caused seen s s' base setup clock line ended.reading session.history stop ended.piece ended.more same at.last up session.holds.stands ended.cause;
      sent_is = inl refl;
      count = omega (arith, stands.count, size, count);
    }
