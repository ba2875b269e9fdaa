-- Sessions of a line whose frames are taken together: behind one another, and over what a batch brought.
use Rattle.std.proofs.Common.{◌≡◌, ◌≤◌, ◌⊎◌, ◌+◌, ◌∷◌, ◌++◌, ℕ, List, [], length, Option, Some, None, refl, sym, ◌∙◌, ap, subst, inr, arith, append-nil, length-append}
use Rattle.std.specs.Prelude.{reverse}
use Rattle.std.specs.Io.KnownBytes.{append_known}
use Rattle.std.specs.List.{AllByRecursion}
use Rattle.alarm_rules.specs.Setups.{meaning}
use Rattle.arc_io.specs.Added.{Added, Adds}
use Rattle.arc_io.specs.Seen.{PortSeen}
use Rattle.arc_io.proofs.Adding.{adds_both}
use Rattle.centre_core.specs.Batches.{with_all, entries_by}
use Rattle.centre_core.specs.GroupHalls.{GoesOnWith}
use Rattle.centre_core.specs.Halls.{HallSeen, DiskGoesOn, IsKept}
use Rattle.centre_core.specs.declared.batch.Submission.{Submission}
use Rattle.centre_core.specs.declared.ready.Done.{Done}
use Rattle.centre_rules.specs.Answers.{IsLegal}
use Rattle.centre_rules.specs.Marks.{force}
use Rattle.centre_rules.specs.Summary.{Summary}
use Rattle.centre_rules.specs.History.{Entry, marks}
use Rattle.session_rules.specs.Turns.{entries_of}
use Rattle.session_rules.specs.Sessions.{Change, changed, Ending, answered, cut_off, stopped, IsEnd, IsSession, IsUnstopped}
use Rattle.session_rules.proofs.Joined.{Follows, IsEarly, session_as, session_then, session_wider}
use Rattle.line_session.specs.Dues.{bodies_in}
use Rattle.line_session.specs.Groups.{group_rules, ReadsClock, IsGroupLine, readings_at}
use Rattle.line_session.specs.Sessions.{IsLine, line_rules}
use Rattle.line_session.specs.Turns.{Turn, line_turns}
use Rattle.line_session.proofs.Apart.{calls_on}
use Rattle.line_session.proofs.Followed.{line_follows}
use Rattle.line_session.proofs.Recorded.{turns_in, ends_with, ends_is, entries_is, pieces_is, force_ends, are_turns}
use Rattle.line_session.proofs.Replied.{Replied, IsReplied, asked_in}

-- a session of a line of this name whose frames are taken together, of which no reading was taken ahead
abbrev pub IsGroup : List ℕ → Ending → Summary → List (List ℕ) → List Entry → Change → Type 0
IsGroup name end b bodies h c = IsSession line_turns (group_rules name b c.hall c.hall') end b bodies h c

module _ (name : List ℕ) (b : Summary) {hall mid : HallSeen} (kept : IsKept hall mid) where
  pub group_follows : (hall.up → mid.up) → (last : HallSeen) (h : List Entry) → Follows (group_rules name b hall mid) (group_rules name b mid last) (group_rules name b hall last) h
  group_follows up last h =
      let line = line_follows name b kept up last h in
      record { turns = line.turns; cause = line.cause; behind = λ us few. few }

  -- a session that answered all, and then one over what follows
  pub group_then : {end : Ending} {xs ys : List (List ℕ)} {h : List Entry} {last : HallSeen} {p q r : PortSeen} (first : IsGroup name answered b xs h (changed hall mid p q))
      → IsGroup name end b ys first.history (changed mid last q r) → IsGroup name end b (xs ++ ys) h (changed hall last p r)
  group_then {end} {xs} {ys} {h} {last} {p} {q} {r} first next = session_then line_turns (group_follows (first.up tt) last h) first next

  -- and then one of which readings were taken ahead
  pub group_line_then : {end : Ending} {xs ys : List (List ℕ)} {h : List Entry} {last : HallSeen} {p q r : PortSeen} (first : IsGroup name answered b xs h (changed hall mid p q))
      → IsGroupLine name end b ys first.history (changed mid last q r) → IsGroupLine name end b (xs ++ ys) h (changed hall last p r)
  unfolding session_then
  group_line_then {end} {xs} {ys} {h} {last} {p} {q} {r} first next = record {
    met = next.met;
    session = session_then line_turns (group_follows (first.up tt) last h) first next.session;
    sent = next.sent;
    ahead = next.ahead;
    few = next.few;
    reads_ahead = next.reads_ahead;
  }

-- no turn is recorded behind the last that was answered
line_few : (behind : List Turn) → behind ≡ [] → length (entries_of line_turns behind) ≤ 64
line_few behind none = let long = ap (λ (l : List Turn). length (entries_of line_turns l)) none in omega (arith, long)

-- a session of a line whose frames are answered one after another
pub group_of_line : (name : List ℕ) {end : Ending} {b : Summary} {bodies : List (List ℕ)} {h : List Entry} {hall hall' : HallSeen} {p p' : PortSeen} → IsLine name end b bodies h (changed hall hall' p p')
    → IsGroup name end b bodies h (changed hall hall' p p')
group_of_line name {end} {b} {bodies} {h} {hall} {hall'} {p} {p'} s = session_as line_turns s s.left s.taken s.each s.adds (by end s.ended) (line_few s.behind s.unanswered) where
  by : (e : Ending) → IsEnd line_turns (line_rules name b hall hall') e s.history s.turns s.behind s.added s.left → IsEnd line_turns (group_rules name b hall hall') e s.history s.turns s.behind s.added s.left
  by answered e = e
  by cut_off e = e
  by (stopped stop) e = e

-- adding nothing is no change
pub added_none : {p q r : PortSeen} {a : Added} → Adds p q a → ReadsClock [] q r → Adds p r a
added_none {p} {q} {r} {a} first none =
    subst (Adds p r) (λ i. record { text = append-nil a.text i; readings = append-nil a.readings i; noise = append-nil a.noise i }) (adds_both first none)

-- the same session, where nothing was added to its port
unfoldable pub group_still : (name : List ℕ) {end : Ending} {b : Summary} {bodies : List (List ℕ)} {h : List Entry} {hall hall' : HallSeen} {p q r : PortSeen} → ReadsClock [] q r
    → IsGroup name end b bodies h (changed hall hall' p q) → IsGroup name end b bodies h (changed hall hall' p r)
group_still name {end} {b} {bodies} {h} {hall} {hall'} {p} {q} {r} none s = session_as line_turns s s.left s.taken s.each (added_none s.adds none) s.ended s.unanswered

-- the same pieces
pub group_same : (name : List ℕ) {end : Ending} {b : Summary} {xs ys : List (List ℕ)} {h : List Entry} {c : Change} → ys ≡ xs → IsGroup name end b xs h c → IsGroup name end b ys h c
group_same name {end} {b} {xs} {ys} {h} {c} same s = subst (λ (l : List (List ℕ)). IsGroup name end b l h c) (sym same) s

pub group_line_same : {name : List ℕ} {end : Ending} {b : Summary} {xs ys : List (List ℕ)} {h : List Entry} {c : Change} → ys ≡ xs → IsGroupLine name end b xs h c → IsGroupLine name end b ys h c
group_line_same {name} {end} {b} {xs} {ys} {h} {c} same s = subst (λ (l : List (List ℕ)). IsGroupLine name end b l h c) (sym same) s

-- nothing was read ahead
pub reads_none : (p : PortSeen) → ReadsClock [] p p
reads_none p = record { told = λ i. record p { written = known p.written i; readings = known p.readings i; noise = known p.noise i } } where
  known : (k : Option (List ℕ)) → k ≡ append_known k []
  known None = refl
  known (Some xs) = ap Some (sym (append-nil xs))

-- the readings of an end are those of pieces that have no turn
few_at : (name : List ℕ) (b : Summary) (hall hall' : HallSeen) (end : Ending) (x : List Entry) (turns behind : List Turn) (a : Added) (rest : List (List ℕ))
    → IsEnd line_turns (group_rules name b hall hall') end x turns behind a rest → readings_at end + 0 ≤ length rest
few_at name b hall hall' answered x turns behind a rest e = omega arith
few_at name b hall hall' cut_off x turns behind a rest e = omega arith
few_at name b hall hall' (stopped stop) x turns behind a rest e = let long = ap length e.next in omega (arith, long)

-- a session of which nothing was read ahead
pub group_line_of : {name : List ℕ} {end : Ending} {b : Summary} {bodies : List (List ℕ)} {h : List Entry} {hall hall' : HallSeen} {p p' : PortSeen} (s : IsGroup name end b bodies h (changed hall hall' p p'))
    → (end ≡ cut_off) ⊎ (s.behind ≡ []) → IsGroupLine name end b bodies h (changed hall hall' p p')
group_line_of {name} {end} {b} {bodies} {h} {hall} {hall'} {p} {p'} s sent = record {
  met = p';
  session = s;
  sent = sent;
  ahead = [];
  few = few_at name b hall hall' end s.history s.turns s.behind s.added s.left s.ended;
  reads_ahead = reads_none p';
}

-- one whose frames are answered one after another
pub group_line_of_line : (name : List ℕ) {end : Ending} {b : Summary} {bodies : List (List ℕ)} {h : List Entry} {hall hall' : HallSeen} {p p' : PortSeen} → IsLine name end b bodies h (changed hall hall' p p')
    → IsGroupLine name end b bodies h (changed hall hall' p p')
unfolding group_of_line
group_line_of_line name {end} s = group_line_of (group_of_line name s) (inr s.unanswered)

-- where all was answered nothing was read ahead
pub group_of_answered : {name : List ℕ} {b : Summary} {bodies : List (List ℕ)} {h : List Entry} {hall hall' : HallSeen} {p p' : PortSeen} → IsGroupLine name answered b bodies h (changed hall hall' p p')
    → IsGroup name answered b bodies h (changed hall hall' p p')
group_of_answered {name} {b} {bodies} {h} {hall} {hall'} {p} {p'} s =
    let long = ap length s.session.ended.none_left in
    group_still name (subst (λ (l : List ℕ). ReadsClock l s.met p') (none_of s.ahead (omega (arith, long, s.few))) s.reads_ahead) s.session
  where
    none_of : (l : List ℕ) → length l ≤ 0 → l ≡ []
    none_of [] short = refl
    none_of (x ∷ l) short = absurd (omega (arith, short))

-- A session that ended early, over more pieces: it left them too.
pub group_wider : {name : List ℕ} {end : Ending} {b : Summary} {bodies : List (List ℕ)} {h : List Entry} {hall hall' : HallSeen} {p p' : PortSeen} (more : List (List ℕ)) → IsEarly end
    → IsGroupLine name end b bodies h (changed hall hall' p p') → IsGroupLine name end b (bodies ++ more) h (changed hall hall' p p')
unfolding session_wider
group_wider {name} {end} {b} {bodies} {h} {hall} {hall'} {p} {p'} more early line = record {
  met = line.met;
  session = session_wider line_turns more early line.session;
  sent = line.sent;
  ahead = line.ahead;
  few = omega (arith, line.few, length-append line.session.left more);
  reads_ahead = line.reads_ahead;
}

-- What a hall did with the events of these, which have their replies.
pub record Batched (name : List ℕ) (b : Summary) (hall hall' : HallSeen) (g : List Entry) (replied : List Replied) : Type 0 where
  pub calls : List Submission
  pub dones : List Done
  pub goes : GoesOnWith b hall hall' g calls dones
  pub are : calls ≡ calls_on name (meaning hall.text) (asked_in replied)
  pub each : AllByRecursion (IsReplied (meaning hall.text)) replied
  pub in_force : force b (marks b (with_all hall.caller b goes.before calls)) ≡ Some (meaning hall.text)

-- A session over them, by its end.
module _ (name : List ℕ) (b : Summary) {hall hall' : HallSeen} (g : List Entry) (replied : List Replied) (batch : Batched name b hall hall' g replied) where
  abbrev pub batch_turns : List Turn
  batch_turns = turns_in name b (meaning hall.text) hall.caller batch.goes.before replied

  abbrev pub batch_end : List Entry
  batch_end = ends_with name b (meaning hall.text) hall.caller batch.goes.before replied

  pub all_is : with_all hall.caller b batch.goes.before batch.calls ≡ batch_end
  all_is = ap (with_all hall.caller b batch.goes.before) batch.are ∙ ends_is name b (meaning hall.text) hall.caller batch.goes.before replied

  pub own_is : entries_by hall.caller b batch.goes.before batch.calls ≡ entries_of line_turns batch_turns
  own_is = ap (entries_by hall.caller b batch.goes.before) batch.are ∙ entries_is name b (meaning hall.text) hall.caller batch.goes.before replied

  pub forced : force b (marks b batch.goes.before) ≡ Some (meaning hall.text)
  forced =
      sym (force_ends name b (meaning hall.text) hall.caller batch.goes.before replied batch.each)
      ∙ ap (λ (x : List Entry). force b (marks b x)) (sym all_is) ∙ batch.in_force

  unfoldable pub batch_session : {p p' : PortSeen} (end : Ending) (added : Added) (behind : List Turn) (left : List (List ℕ)) → (IsUnstopped end → hall.up → hall'.up) → Adds p p' added
      → IsEnd line_turns (group_rules name b hall hall') end batch_end batch_turns behind added left → length (entries_of line_turns behind) ≤ 64
      → IsGroup name end b (bodies_in (asked_in replied) ++ left) g (changed hall hall' p p')
  batch_session {p} {p'} end added behind left up adds ended few = record {
    turns = batch_turns;
    behind = behind;
    history = batch_end;
    added = added;
    left = left;
    taken = ap (λ (l : List (List ℕ)). l ++ left) (pieces_is name b (meaning hall.text) hall.caller batch.goes.before replied);
    each = are_turns name b (meaning hall.text) hall.caller g batch.goes.before replied batch.goes.extends forced batch.each;
    holds = subst (hall'.stands b) all_is batch.goes.holds;
    legal = subst (IsLegal b) all_is batch.goes.legal;
    own = subst (λ (x : List Entry). hall'.own x ≡ reverse (entries_of line_turns batch_turns) ++ hall.own g) all_is
        (batch.goes.own ∙ ap (λ (l : List Entry). reverse l ++ hall.own g) own_is);
    disk = subst (DiskGoesOn b hall hall' g) all_is batch.goes.disk;
    up = up;
    adds = adds;
    ended = ended;
    unanswered = few;
  }
