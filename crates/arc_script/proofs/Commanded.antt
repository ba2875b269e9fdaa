-- What a desk did that was given one line over a store.
use Rattle.std.proofs.Common.{◌≡◌, ◌≤◌, ◌-◌, ◌++◌, ℕ, zero, suc, List, [], ◌∷◌, Bool, false, cond, Option, Some, None, Ok, Err, inr, length, map, replicate, reverse, take, refl, ap, sym, subst, ◌∙◌, arith, append-nil}
use Rattle.std.specs.Prelude.{IfSome, slice_index}
use Rattle.std.specs.Io.KnownBytes.{append_known}
use Rattle.std.specs.List.{list_any}
use Rattle.std.specs.Option.{option_to_list}
use Rattle.std.specs.Str.Lines.{strip_carriage_return}
use Rattle.std.proofs.Math.Seq.{get_or-append_seam, take-append_seam}
use Rattle.std.proofs.lemmas.Bool.{eq-eqb}
use Rattle.std.proofs.lemmas.List.{append_assoc, length-append}
use Rattle.std.proofs.lemmas.List.Folds.{list_any-append}
use Rattle.alarm_rules.specs.Setups.{meaning}
use Rattle.arc_data.specs.declared.event.Event.{Event}
use Rattle.arc_io.specs.Disks.{DiskSeen}
use Rattle.arc_io.specs.Lists.{readings_of as given_of}
use Rattle.arc_io.specs.Seen.{PortSeen}
use Rattle.arc_text.proofs.LineLaws.{ended-append_feed, ended-append_run, rest-append_feed, rest-append_run}
use Rattle.arc_text.specs.Lines.{ended_lines, is_feed, rest_of}
use Rattle.centre_core.specs.Setting.{text_of as text_in}
use Rattle.centre_core.specs.declared.hall.Stop.{Stop}
use Rattle.centre_rules.specs.Answers.{IsLegal}
use Rattle.centre_rules.specs.History.{Entry, Extends}
use Rattle.centre_rules.specs.Summary.{Summary}
use Rattle.centre_store.specs.Stores.{HasFailed, Stored, StoreStands, Shows}
use Rattle.desk_session.proofs.Quitting.{quits_next, up_next}
use Rattle.desk_session.specs.Desks.{ServesLines}
use Rattle.desk_session.specs.Events.{acts_over, command_in, event_of, is_quit, quits, text_of as said_of, up_to_quit}
use Rattle.desk_session.specs.Turns.{Turn, desk_turns, AreTurns, IsAnswered, IsTurn}
use Rattle.desk_session.specs.declared.desk_end.DeskEnd.TheVariants.{Quit, WriteFault, Stopped}
use Rattle.session_rules.specs.Turns.{entries_of, pieces_of, readings_of, text_of}
use Rattle.arc_script.specs.Causes.{HasShown}
use Rattle.arc_script.proofs.Feeds.{PageTells}
use Rattle.arc_script.proofs.Readings.{still}
use Rattle.centre_store.specs.StoreHalls.{store_seen}
use Rattle.arc_script.specs.Standing.{IsReadable, LeavesOn}

-- The line that a text and the end of a line make.

strip_ended : (text : List ℕ) → strip_carriage_return (text ++ 13 ∷ []) ≡ text
strip_ended text =
    let line = text ++ 13 ∷ [] in
    let size : length line - 1 ≡ length text = omega (arith, length-append text (13 ∷ [])) in
    let last : slice_index line (length line - 1) ≡ 13 = ap (slice_index line) size ∙ get_or-append_seam text 13 [] 0 in
    ap (λ (b : Bool). cond b (take (length line - 1) line) line) (eq-eqb (slice_index line (length line - 1)) 13 last)
    ∙ ap (λ k. take k line) size ∙ take-append_seam text (13 ∷ [])

pub record EndsAs (stream text : List ℕ) : Type 0 where
  pub ended : ended_lines (stream ++ (text ++ 13 ∷ 10 ∷ [])) ≡ ended_lines stream ++ text ∷ []
  pub none : rest_of (stream ++ (text ++ 13 ∷ 10 ∷ [])) ≡ []

pub ends_as : (stream text : List ℕ) → list_any is_feed text ≡ false → rest_of stream ≡ [] → EndsAs stream text
ends_as stream text unbroken none =
    let run = text ++ 13 ∷ [] in
    let whole : stream ++ (text ++ 13 ∷ 10 ∷ []) ≡ (stream ++ run) ++ 10 ∷ [] =
    ap (λ l. stream ++ l) (sym (append_assoc text (13 ∷ []) (10 ∷ []))) ∙ sym (append_assoc stream run (10 ∷ [])) in
    let clean : list_any is_feed run ≡ false = list_any-append is_feed text (13 ∷ []) ∙ rw unbroken refl in
    let rest : rest_of (stream ++ run) ≡ run = rest-append_run stream run clean ∙ ap (λ l. l ++ run) none in
    record {
      ended = ap ended_lines whole ∙ ended-append_feed (stream ++ run)
          ∙ ap (λ l. l ++ strip_carriage_return (rest_of (stream ++ run)) ∷ []) (ended-append_run stream run clean)
          ∙ ap (λ l. ended_lines stream ++ l ∷ []) (ap strip_carriage_return rest ∙ strip_ended text);
      none = ap rest_of whole ∙ rest-append_feed (stream ++ run);
    }

pub is_quit_as : (stream text : List ℕ) (b : Bool) → EndsAs stream text → quits (ended_lines stream) ≡ false
    → quits (ended_lines (stream ++ (text ++ 13 ∷ 10 ∷ []))) ≡ b → is_quit text ≡ b
is_quit_as stream text b ends none is = sym (quits_next (ended_lines stream) text (is_quit text) none refl) ∙ ap quits (sym ends.ended) ∙ is

abbrev rest_in : List (List ℕ) → List (List ℕ)
rest_in [] = []
rest_in (y ∷ ys) = ys

same_end : (xs ys zs : List (List ℕ)) → xs ++ ys ≡ xs ++ zs → ys ≡ zs
same_end [] ys zs is = is
same_end (x ∷ xs) ys zs is = same_end xs ys zs (ap rest_in is)

-- it is the one line that is answered
one_line : (stream text : List ℕ) (more : List (List ℕ)) → EndsAs stream text → quits (ended_lines stream) ≡ false
    → up_to_quit (ended_lines (stream ++ (text ++ 13 ∷ 10 ∷ []))) ≡ up_to_quit (ended_lines stream) ++ more → more ≡ text ∷ []
one_line stream text more ends none came =
    let lines = ended_lines stream in
    same_end (up_to_quit lines) more (text ∷ []) (sym came ∙ ap up_to_quit ends.ended ∙ up_next lines text none)

-- The turn of one line.

record OneTurn (turns : List Turn) (text : List ℕ) : Type 0 where
  turn : Turn
  is : turns ≡ turn ∷ []
  line : turn.line ≡ text

first_in : List (List ℕ) → List ℕ
first_in [] = []
first_in (x ∷ xs) = x

one_turn : (turns : List Turn) (text : List ℕ) → text ∷ [] ≡ map (λ (t : Turn). t.line) turns ++ [] → OneTurn turns text
unfolding first_in
one_turn [] text is = absurd cc
one_turn (t ∷ []) text is = record { turn = t; is = refl; line = sym (ap first_in is) }
one_turn (t ∷ u ∷ ts) text is = absurd cc

no_more : (later mid x : List Entry) → x ≡ later ++ mid → length x ≤ length mid → x ≡ mid
no_more [] mid x is few = is
no_more (e ∷ later) mid x is few = (let size = ap length is ∙ length-append (e ∷ later) mid in absurd (omega (arith, size, few)))

settled : (base : Summary) (o : Option Event) (text : List ℕ) (h mid x : List Entry) (t : Turn) → IsAnswered base 0 h mid t o text
    → x ≡ reverse (option_to_list t.entry) ++ h → Extends mid x → x ≡ mid
settled base None text h mid x t w own more =
    let size = ap length (own ∙ ap (λ (o : Option Entry). reverse (option_to_list o) ++ h) w.entry) in
    let long = ap length w.extends.1 ∙ length-append w.extends.0 h in
    no_more more.0 mid x more.1 (omega (arith, size, long))
settled base (Some event) text h mid x t w own more =
    let size = ap length (own ∙ ap (λ (o : Option Entry). reverse (option_to_list o) ++ h) w.entry) in
    let long = ap length w.extends.1 ∙ length-append w.extends.0 h in
    let count = ap length w.is in
    no_more more.0 mid x more.1 (omega (arith, size, long, count))

-- a turn that answers this text at this moment, and stands alone behind a history
pub record Turned (base : Summary) (setup : List ℕ) (operator : Option (List ℕ)) (clock : ℕ) (text : List ℕ) (h x : List Entry) (turn : Turn) : Type 0 where
  pub line : turn.line ≡ text
  pub is : IsTurn base (meaning setup) 0 operator h x turn
  pub legal : IsLegal base x
  pub reading : IfSome turn.reading (λ r. r ≡ clock)
  pub added : x ≡ reverse (option_to_list turn.entry) ++ h

reading_at : (o : Option ℕ) (clock n : ℕ) → option_to_list o ++ [] ≡ replicate n clock → IfSome o (λ r. r ≡ clock)
reading_at None clock n is = tt
reading_at (Some r) clock zero is = absurd cc
reading_at (Some r) clock (suc n) is = ap (λ (l : List ℕ). slice_index l 0) is

turned_by : (base : Summary) (setup : List ℕ) (operator : Option (List ℕ)) (clock n : ℕ) (text : List ℕ) (h x : List Entry) (t : Turn) → t.line ≡ text
    → AreTurns base (meaning setup) 0 operator h x (t ∷ []) → IsLegal base x → x ≡ reverse (option_to_list t.entry ++ []) ++ h
    → option_to_list t.reading ++ [] ≡ replicate n clock → Turned base setup operator clock text h x t
turned_by base setup operator clock n text h x t line are legal own readings =
    let added : x ≡ reverse (option_to_list t.entry) ++ h = own ∙ ap (λ (l : List Entry). reverse l ++ h) (append-nil (option_to_list t.entry)) in
    let at = settled base (event_of operator (command_in t.line)) (said_of (meaning setup) (command_in t.line)) h are.0 x t are.1 added are.2 in
    record {
      line = line;
      is = subst (λ (k : List Entry). IsTurn base (meaning setup) 0 operator h k t) (sym at) are.1;
      legal = legal;
      reading = reading_at t.reading clock n readings;
      added = added;
    }

-- The desk answered the line, or would have: the store, whose disk has not failed, stands for the history with its turn.
pub record Answers {D : Type 0} (seen : D → DiskSeen) (s s' : Stored D)
    (base : Summary) (setup : List ℕ) (operator : Option (List ℕ)) (clock : ℕ) (text : List ℕ) (h : List Entry) : Type 0 where
  pub turn : Turn
  pub history : List Entry
  pub turned : Turned base setup operator clock text h history turn
  pub stands : StoreStands seen base s' history
  pub readable : IsReadable base history
  pub left : LeavesOn seen base s s' h history
  pub up : HasFailed seen s' → ⊥

-- all was answered
pub record Said {D : Type 0} (seen : D → DiskSeen) (s s' : Stored D)
    (base : Summary) (setup : List ℕ) (operator : Option (List ℕ)) (clock : ℕ) (text : List ℕ) (h : List Entry) (p p' : PortSeen) : Type 0 where
  pub answers : Answers seen s s' base setup operator clock text h
  pub text_is : p'.written ≡ append_known p.written answers.turn.reply

one_added : {D : Type 0} (seen : D → DiskSeen) (s s' : Stored D) (base : Summary) (setup : List ℕ)
    (operator : Option (List ℕ)) (clock : ℕ) (text : List ℕ) (h x : List Entry) (p p' : PortSeen) (turns : List Turn) (readings : List ℕ)
    → (page : PageTells clock p p') → text ∷ [] ≡ pieces_of desk_turns turns ++ []
    → AreTurns base (meaning setup) 0 operator h x turns → IsLegal base x → x ≡ reverse (entries_of desk_turns turns) ++ h
    → p'.readings ≡ append_known p.readings readings → readings ≡ readings_of desk_turns turns
    → StoreStands seen base s' x → IsReadable base x → LeavesOn seen base s s' h x → (HasFailed seen s' → ⊥)
    → (answers : Answers seen s s' base setup operator clock text h) × (text_of desk_turns turns ≡ answers.turn.reply)
one_added seen s s' base setup operator clock text h x p p' turns readings page whole are legal own tells same stands readable left up =
    let one = one_turn turns text whole in
    let t = one.turn in
    let list = option_to_list t.reading ++ [] in
    let known : Some (given_of page.list page.calls) ≡ append_known (Some (clock ∷ [])) list =
    page.readings ∙ tells ∙ ap (λ k. append_known k readings) page.first
    ∙ ap (λ (l : List ℕ). append_known (Some (clock ∷ [])) l) (same ∙ ap (readings_of desk_turns) one.is) in
    let at = still page.list page.calls clock list page.one known in (
      record {
        turn = t;
        history = x;
        turned = turned_by base setup operator clock (length list) text h x t one.line
            (subst (λ (ts : List Turn). AreTurns base (meaning setup) 0 operator h x ts) one.is are) legal
            (own ∙ ap (λ (ts : List Turn). reverse (entries_of desk_turns ts) ++ h) one.is) at.same;
        stands = stands;
        readable = readable;
        left = left;
        up = up;
      },
      ap (text_of desk_turns) one.is ∙ append-nil t.reply,
    )

-- where a line was cut off, there is no other
only_some : (turns : List Turn) (t : Turn) (ts : List Turn) (text : List ℕ) (left : List (List ℕ)) → turns ≡ t ∷ ts
    → text ∷ [] ≡ pieces_of desk_turns turns ++ left → text ∷ [] ≡ pieces_of desk_turns turns ++ []
only_some turns t [] text [] split whole = whole
only_some turns t [] text (l ∷ left) split whole = absurd (let e = whole ∙ ap (λ (us : List Turn). pieces_of desk_turns us ++ l ∷ left) split in cc)
only_some turns t (u ∷ ts) text left split whole = absurd (let e = whole ∙ ap (λ (us : List Turn). pieces_of desk_turns us ++ left) split in cc)

only_left : (turns front behind : List Turn) (last : Turn) (text : List ℕ) (left : List (List ℕ)) → turns ≡ front ++ last ∷ behind
    → text ∷ [] ≡ pieces_of desk_turns turns ++ left → text ∷ [] ≡ pieces_of desk_turns turns ++ []
only_left turns [] behind last text left split whole =
    only_some turns last behind text left split whole
only_left turns (t ∷ front) behind last text left split whole =
    only_some turns t (front ++ last ∷ behind) text left split whole

-- where the one line was stopped, none was answered
record NoneBefore (ts : List Turn) (text line : List ℕ) : Type 0 where
  turns : ts ≡ []
  piece : line ≡ text

none_before : (turns : List Turn) (text piece : List ℕ) (more : List (List ℕ)) → text ∷ [] ≡ pieces_of desk_turns turns ++ piece ∷ more
    → NoneBefore turns text piece
unfolding first_in
none_before [] text piece more is = record { turns = refl; piece = sym (ap first_in is) }
none_before (t ∷ []) text piece more is = absurd cc
none_before (t ∷ u ∷ ts) text piece more is = absurd cc

-- all was answered: the desk goes on, or the line was a `quit`
pub says : {D : Type 0} (seen : D → DiskSeen) (s s' : Stored D) (base : Summary) (setup : List ℕ)
    (clock : ℕ) (stream text : List ℕ) (h : List Entry) (p p' : PortSeen) → text_in s.state ≡ setup → IsReadable base h → (HasFailed seen s → ⊥)
    → (page : PageTells clock p p')
    → EndsAs stream text → quits (ended_lines stream) ≡ false
    → ServesLines (Ok tt) (ended_lines stream) (ended_lines (stream ++ (text ++ 13 ∷ 10 ∷ []))) base h (store_seen seen s)
    (store_seen seen s') p p'
    → Said seen s s' base setup (acts_over (meaning setup) None (ended_lines stream)) clock text h p p'
says seen s s' base setup clock stream text h p p' same readable up page ends none serves =
    let session = serves.desk.session in
    let turns = session.turns in
    let told_of = session.adds.told in
    let added = session.ended.added in
    let more = one_line stream text serves.more ends none serves.came in
    let operator = acts_over (meaning (text_in s.state)) None (ended_lines stream) in
    let whole : text ∷ [] ≡ pieces_of desk_turns turns ++ [] =
    sym more ∙ session.taken ∙ ap (λ l. pieces_of desk_turns turns ++ l) session.ended.none_left in
    let one = one_added seen s s' base (text_in s.state) operator clock text h session.history p p' turns session.added.readings page whole
    session.each.0 session.legal session.own (ap (λ (q : PortSeen). q.readings) told_of) (ap (λ a. a.readings) added) session.holds.stands (readable.0, session.disk.reads readable.1)
    (session.disk.leaves readable.1) (session.up tt up) in
    subst (λ (t : List ℕ). Said seen s s' base t (acts_over (meaning t) None (ended_lines stream)) clock text h p p') same
    (record {
      answers = one.0;
      text_is = ap (λ (q : PortSeen). q.written) told_of ∙ ap (λ (l : List ℕ). append_known p.written l) (ap (λ a. a.text) added ∙ one.1);
    })

pub says_quit : {D : Type 0} (seen : D → DiskSeen) (s s' : Stored D) (base : Summary) (setup : List ℕ)
    (clock : ℕ) (stream text : List ℕ) (h : List Entry) (p p' : PortSeen) → text_in s.state ≡ setup → IsReadable base h → (HasFailed seen s → ⊥)
    → (page : PageTells clock p p')
    → EndsAs stream text → quits (ended_lines stream) ≡ false
    → ServesLines (Err Quit) (ended_lines stream) (ended_lines (stream ++ (text ++ 13 ∷ 10 ∷ []))) base h (store_seen seen s)
    (store_seen seen s') p p'
    → Said seen s s' base setup (acts_over (meaning setup) None (ended_lines stream)) clock text h p p'
says_quit seen s s' base setup clock stream text h p p' same readable up page ends none serves =
    says seen s s' base setup clock stream text h p p' same readable up page ends none (record { more = serves.more; came = serves.came; desk = serves.desk })

-- a write failed: the line has its turn all the same
pub unsaid : {D : Type 0} (seen : D → DiskSeen) (s s' : Stored D) (base : Summary) (setup : List ℕ)
    (clock : ℕ) (stream text : List ℕ) (h : List Entry) (p p' : PortSeen) → text_in s.state ≡ setup → IsReadable base h → (HasFailed seen s → ⊥)
    → (page : PageTells clock p p')
    → EndsAs stream text → quits (ended_lines stream) ≡ false
    → ServesLines (Err WriteFault) (ended_lines stream) (ended_lines (stream ++ (text ++ 13 ∷ 10 ∷ []))) base h
    (store_seen seen s) (store_seen seen s') p p'
    → Answers seen s s' base setup (acts_over (meaning setup) None (ended_lines stream)) clock text h
unsaid seen s s' base setup clock stream text h p p' same readable up page ends none serves =
    let session = serves.desk.session in
    let turns = session.turns in
    let ended = session.ended in
    let more = one_line stream text serves.more ends none serves.came in
    let operator = acts_over (meaning (text_in s.state)) None (ended_lines stream) in
    let whole : text ∷ [] ≡ pieces_of desk_turns turns ++ [] = only_left turns ended.front session.behind ended.last text session.left ended.split
    (sym more ∙ session.taken) in
    let one = one_added seen s s' base (text_in s.state) operator clock text h session.history p p' turns session.added.readings page whole
    session.each.0 session.legal session.own (ap (λ (q : PortSeen). q.readings) session.adds.told) (ap (λ a. a.readings) ended.added) session.holds.stands (readable.0, session.disk.reads readable.1)
    (session.disk.leaves readable.1) (session.up tt up) in
    subst (λ (t : List ℕ). Answers seen s s' base t (acts_over (meaning t) None (ended_lines stream)) clock text h) same one.0

-- the store stopped for the line
pub record StoppedFor {D : Type 0} (seen : D → DiskSeen) (s s' : Stored D)
    (base : Summary) (setup : List ℕ) (operator : Option (List ℕ)) (clock : ℕ) (text : List ℕ) (h : List Entry) (stop : Stop) : Type 0 where
  pub stands : StoreStands seen base s' h
  pub left : LeavesOn seen base s s' h h
  pub cause : HasShown seen base s' h stop clock (λ event. event_of operator (command_in text) ≡ Some event)

pub stops : {D : Type 0} (seen : D → DiskSeen) (s s' : Stored D) (base : Summary) (setup : List ℕ)
    (clock : ℕ) (stream text : List ℕ) (h : List Entry) (p p' : PortSeen) (stop : Stop) → text_in s.state ≡ setup → IsReadable base h → (HasFailed seen s → ⊥)
    → (page : PageTells clock p p')
    → EndsAs stream text → quits (ended_lines stream) ≡ false
    → ServesLines (Err (Stopped stop)) (ended_lines stream) (ended_lines (stream ++ (text ++ 13 ∷ 10 ∷ []))) base h
    (store_seen seen s) (store_seen seen s') p p'
    → StoppedFor seen s s' base setup (acts_over (meaning setup) None (ended_lines stream)) clock text h stop
stops seen s s' base setup clock stream text h p p' stop same readable up page ends none serves =
    let session = serves.desk.session in
    let turns = session.turns in
    let ended = session.ended in
    let more = one_line stream text serves.more ends none serves.came in
    let operator = acts_over (meaning (text_in s.state)) None (ended_lines stream) in
    let none_done = none_before turns text ended.piece ended.more
    (sym more ∙ session.taken ∙ ap (λ l. pieces_of desk_turns turns ++ l) ended.next) in
    let back : session.history ≡ h = session.own ∙ ap (λ (ts : List Turn). reverse (entries_of desk_turns ts) ++ h) none_done.turns in
    let last : operator ≡ serves.desk.last = ap (λ (ts : List Turn). acts_over (meaning (text_in s.state)) operator (pieces_of desk_turns ts)) (sym none_done.turns)
    ∙ session.each.1 in
    let list = ended.reading ∷ [] in
    let known : Some (given_of page.list page.calls) ≡ append_known (Some (clock ∷ [])) list =
    page.readings ∙ ap (λ (q : PortSeen). q.readings) session.adds.told ∙ ap (λ k. append_known k session.added.readings) page.first
    ∙ ap (λ (l : List ℕ). append_known (Some (clock ∷ [])) l)
    (ap (λ a. a.readings) ended.added ∙ ap (λ (ts : List Turn). readings_of desk_turns ts ++ list) none_done.turns) in
    let at : ended.reading ≡ clock = ap (λ (l : List ℕ). slice_index l 0) (still page.list page.calls clock list page.one known).same in
    let cause = ended.cause in
    subst (λ (t : List ℕ). StoppedFor seen s s' base t (acts_over (meaning t) None (ended_lines stream)) clock text h stop) same
    (record {
      stands = subst (λ (x : List Entry). StoreStands seen base s' x) back session.holds.stands;
      left = subst (λ (x : List Entry). LeavesOn seen base s s' h x) back (session.disk.leaves readable.1);
      cause = inr (
        cause.0,
        ap (λ (o : Option (List ℕ)). event_of o (command_in text)) last ∙ ap (λ (l : List ℕ). event_of serves.desk.last (command_in l)) (sym none_done.piece) ∙ cause.1,
        subst (λ (r : ℕ). Shows seen s' stop cause.0 r) at cause.2.shown,
        subst (λ (r : ℕ). (store_seen seen s').torn base h cause.0 r) at
            (subst (λ (x : List Entry). (store_seen seen s').torn base x cause.0 ended.reading) back (cause.2.torn up)),
      );
    })
