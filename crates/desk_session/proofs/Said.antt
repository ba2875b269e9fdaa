-- Desk sessions over one line.
use Rattle.std.proofs.Common.{◌≡◌, ◌≢◌, ◌<◌, ◌∷◌, ◌++◌, ℕ, List, [], Option, Some, None, Result, Ok, Err, take, length, refl, sym, ◌∙◌, ap, subst}
use Rattle.std.specs.Prelude.{reverse}
use Rattle.std.specs.Io.KnownBytes.{append_known}
use Rattle.arc_data.specs.declared.event.Event.{Event}
use Rattle.arc_data.specs.declared.reply.Reply.TheVariants.{Unknown}
use Rattle.alarm_rules.specs.Setups.{meaning}
use Rattle.arc_io.specs.Added.{Adds}
use Rattle.arc_io.specs.Seen.{PortSeen}
use Rattle.arc_io.specs.Told.{OnlyWrites, Puts, after_reading, after_noise}
use Rattle.arc_io.proofs.Adding.{adds_put, adds_front, noise_none}
use Rattle.arc_io.proofs.KnownMore.{known_none}
use Rattle.centre_core.proofs.OnDisk.{disk_stays}
use Rattle.centre_core.specs.Halls.{HallSeen, DiskGoesOn, TookEvent}
use Rattle.centre_core.specs.declared.hall.Stop.{Stop}
use Rattle.centre_rules.specs.Summary.{Summary}
use Rattle.centre_rules.specs.History.{Entry}
use Rattle.centre_rules.specs.Answers.{IsLegal}
use Rattle.desk_wire.specs.Replies.{line_of}
use Rattle.desk_wire.specs.declared.command.Command.{Command}
use Rattle.session_rules.specs.Sessions.{changed, answered, cut_off, stopped}
use Rattle.session_rules.specs.Turns.{entries_of}
use Rattle.session_rules.proofs.Made.{session_sent, session_cut, session_stopped}
use Rattle.desk_session.specs.Asking.{Asked, Left, Asks, IsAsked, said_as, IsSaid}
use Rattle.desk_session.specs.Events.{command_in, acts_after, event_of, text_of}
use Rattle.desk_session.specs.Turns.{Turn, desk_turns, IsAnswered, IsTurn}
use Rattle.desk_session.specs.Sessions.{IsCutShort, IsDesk, ending_of, desk_rules}
use Rattle.desk_session.specs.declared.desk_end.DeskEnd.{DeskEnd}
use Rattle.desk_session.specs.declared.desk_end.DeskEnd.TheVariants.{Quit, InputEnded, ReadFault, WriteFault, Spent, Stopped}

-- A text was put, without a reading.

adds_text : (p q : PortSeen) (text : List ℕ) → q.written ≡ append_known p.written text → OnlyWrites p q → Adds p q (record { text = text; readings = []; noise = [] })
adds_text p q text written only =
    let readings : q.readings ≡ append_known p.readings [] = ap (λ (x : PortSeen). x.readings) only.rest ∙ sym (known_none p.readings) in
    let noise : q.noise ≡ append_known p.noise [] = ap (λ (x : PortSeen). x.noise) only.rest ∙ sym (known_none p.noise) in
    let datagrams : q.datagrams ≡ p.datagrams = ap (λ (x : PortSeen). x.datagrams) only.rest in
    let replies : q.replies ≡ p.replies = ap (λ (x : PortSeen). x.replies) only.rest in
    record {
      told = λ i. record {
        left = q.left;
        ended = q.ended;
        read_faults = q.read_faults;
        written = written i;
        write_faults = q.write_faults;
        readings = readings i;
        noise = noise i;
        datagrams = datagrams i;
        replies = replies i;
      };
    }

-- a front of a text was put
record PutsPart (p q : PortSeen) (text readings : List ℕ) : Type 0 where
  count : ℕ
  short : count < length text
  adds : Adds p q (record { text = take count text; readings = readings; noise = [] })

part_said : {T E : Type 0} (p q : PortSeen) (text : List ℕ) (fault : E) → Puts {T = T} p q (Err fault) text → PutsPart p q text []
part_said p q text fault put = record { count = put.taken.0; short = put.taken.1; adds = adds_text p q (take put.taken.0 text) put.taken.2 put.others }

module _ (b : Summary) (operator : Option (List ℕ)) (h : List Entry) (hall hall' : HallSeen) (p p' : PortSeen) where
  -- A session over one line, whose answer was sent whole, or cut off.

  desk_sent : (x : List Entry) (t : Turn) → IsTurn b (meaning hall.text) hall.caller operator h x t → hall'.stands b x → IsLegal b x
      → hall'.own x ≡ reverse (entries_of desk_turns (t ∷ [])) ++ hall.own h → DiskGoesOn b hall hall' h x → (hall.up → hall'.up) → Adds p p' (desk_turns.adds t) → IsDesk answered b operator (t.line ∷ []) h (changed hall hall' p p')
  desk_sent x t turn s legal own disk up adds =
      record {
        last = acts_after (meaning hall.text) operator (command_in t.line);
        session = session_sent desk_turns (desk_rules b hall hall' operator (acts_after (meaning hall.text) operator (command_in t.line))) b h refl x t ((x, turn, ([], refl)), refl) s legal own disk up adds;
      }

  desk_cut : (x : List Entry) (t : Turn) (count : ℕ) → IsTurn b (meaning hall.text) hall.caller operator h x t → hall'.stands b x → IsLegal b x
      → hall'.own x ≡ reverse (entries_of desk_turns (t ∷ [])) ++ hall.own h → DiskGoesOn b hall hall' h x → (hall.up → hall'.up) → count < length t.reply → Adds p p' (record (desk_turns.adds t) { text = take count t.reply })
      → IsDesk cut_off b operator (t.line ∷ []) h (changed hall hall' p p')
  desk_cut x t count turn s legal own disk up short adds = record {
    last = acts_after (meaning hall.text) operator (command_in t.line);
    session = session_cut desk_turns (desk_rules b hall hall' operator (acts_after (meaning hall.text) operator (command_in t.line))) b h refl x t count ((x, turn, ([], refl)), refl) s legal own disk up short adds;
  }

module _ (b : Summary) (operator : Option (List ℕ)) (h : List Entry) (line : List ℕ) (command : Option Command) (typed : command ≡ command_in line) where
  -- A line that submits nothing.
  module _ (hall : HallSeen) (p p' : PortSeen) where
    said_turn : Turn
    said_turn = record { line = line; reading = None; entry = None; reply = text_of (meaning hall.text) command }

    is_said : event_of operator command ≡ None → IsTurn b (meaning hall.text) hall.caller operator h h said_turn
    unfolding said_turn
    is_said nothing =
        subst (λ (o : Option Event). IsAnswered b hall.caller h h said_turn o (text_of (meaning hall.text) (command_in line))) (sym (ap (event_of operator) (sym typed) ∙ nothing))
        (record { extends = ([], refl); reading = refl; entry = refl; reply = ap (text_of (meaning hall.text)) typed })

    sent_said : event_of operator command ≡ None → hall.stands b h → IsLegal b h → Puts {T = Unit {0}} {E = DeskEnd} p p' (Ok tt) (text_of (meaning hall.text) command) → IsDesk answered b operator (line ∷ []) h (changed hall hall p p')
    unfolding said_turn
    sent_said nothing s legal put =
        desk_sent b operator h hall hall p p' h said_turn (is_said nothing) s legal refl disk_stays (λ u. u) (adds_text p p' (text_of (meaning hall.text) command) put.taken put.others)

    cut_said : event_of operator command ≡ None → hall.stands b h → IsLegal b h → Puts {T = Unit {0}} {E = DeskEnd} p p' (Err WriteFault) (text_of (meaning hall.text) command) → IsDesk cut_off b operator (line ∷ []) h (changed hall hall p p')
    unfolding said_turn
    cut_said nothing s legal put =
        let part = part_said p p' (text_of (meaning hall.text) command) WriteFault put in
        desk_cut b operator h hall hall p p' h said_turn part.count (is_said nothing) s legal refl disk_stays (λ u. u) part.short part.adds

    pub session_said : (end : Result (Unit {0}) DeskEnd) → event_of operator command ≡ None → hall.stands b h → IsLegal b h → Puts p p' (said_as end) (text_of (meaning hall.text) command) → IsSaid end
        → IsDesk (ending_of end) b operator (line ∷ []) h (changed hall hall p p')
    session_said (Ok tt) nothing s legal put how = sent_said nothing s legal put
    session_said (Err Quit) nothing s legal put how = sent_said nothing s legal put
    session_said (Err WriteFault) nothing s legal put how = cut_said nothing s legal put
    session_said (Err InputEnded) nothing s legal put how = absurd how
    session_said (Err ReadFault) nothing s legal put how = absurd how
    session_said (Err Spent) nothing s legal put how = absurd how
    session_said (Err (Stopped stop)) nothing s legal put how = absurd how

  -- A line that submits an event.
  module _ (hall hall' : HallSeen) (p p' : PortSeen) (event : Event) (submits : event_of operator command ≡ Some event)
      (known : (reading : ℕ) (t : TookEvent b hall hall' h event reading) → t.entry.reply ≢ Unknown) where
    asked_turn : (end : Result (Unit {0}) DeskEnd) → Asked end b h hall hall' event p p' → Turn
    asked_turn end a = record { line = line; reading = Some a.reading; entry = Some a.took.entry; reply = line_of a.took.entry.reply }

    is_asked : (end : Result (Unit {0}) DeskEnd) (a : Asked end b h hall hall' event p p') → IsTurn b (meaning hall.text) hall.caller operator h (a.took.entry ∷ a.took.goes.before) (asked_turn end a)
    unfolding asked_turn
    is_asked end a =
        let goes = a.took.goes in
        subst (λ (o : Option Event). IsAnswered b hall.caller h (a.took.entry ∷ goes.before) (asked_turn end a) o (text_of (meaning hall.text) (command_in line))) (sym (ap (event_of operator) (sym typed) ∙ submits))
        (record {
          before = goes.before;
          moment = a.reading;
          made = a.took.entry;
          extends = goes.extends;
          is = refl;
          reading = refl;
          entry = refl;
          by = a.took.by;
          of = a.took.of;
          at = goes.at;
          known = known a.reading a.took;
          reply = refl;
        })

    put_after : (end : Result (Unit {0}) DeskEnd) (a : Asked end b h hall hall' event p p') → Puts (after_noise [] (after_reading a.reading p)) p' end (line_of a.took.entry.reply)
    put_after end a = subst (λ (q : PortSeen). Puts q p' end (line_of a.took.entry.reply)) (sym (noise_none (after_reading a.reading p))) a.put

    sent_asked : Asked (Ok tt) b h hall hall' event p p' → IsDesk answered b operator (line ∷ []) h (changed hall hall' p p')
    unfolding asked_turn
    sent_asked a =
        let goes = a.took.goes in
        desk_sent b operator h hall hall' p p' (a.took.entry ∷ goes.before) (asked_turn (Ok tt) a) (is_asked (Ok tt) a) goes.holds goes.legal goes.own goes.disk (λ _. goes.up)
        (adds_put p p' a.reading [] (line_of a.took.entry.reply) tt (put_after (Ok tt) a))

    cut_asked : Asked (Err WriteFault) b h hall hall' event p p' → IsDesk cut_off b operator (line ∷ []) h (changed hall hall' p p')
    unfolding asked_turn
    cut_asked a =
        let goes = a.took.goes in
        let cut = adds_front p p' a.reading [] (line_of a.took.entry.reply) WriteFault (put_after (Err WriteFault) a) in
        desk_cut b operator h hall hall' p p' (a.took.entry ∷ goes.before) (asked_turn (Err WriteFault) a) cut.count (is_asked (Err WriteFault) a) goes.holds goes.legal goes.own goes.disk (λ _. goes.up) cut.short cut.adds

    left_asked : (stop : Stop) → Left stop b h hall hall' event p p' → IsDesk (stopped stop) b operator (line ∷ []) h (changed hall hall' p p')
    left_asked stop l =
        subst (λ (q : PortSeen). IsDesk (stopped stop) b operator (line ∷ []) h (changed hall hall' p q)) (sym l.unsaid)
        (record {
          last = operator;
          session = session_stopped desk_turns (desk_rules b hall hall' operator operator) b h refl p stop line l.reading l.left.waits (l.left.waits.extends, refl)
              (event, ap (event_of operator) (sym typed) ∙ submits, l.left.cause);
        })

    pub session_asked : (end : Result (Unit {0}) DeskEnd) → Asks end b h hall hall' event p p' → IsDesk (ending_of end) b operator (line ∷ []) h (changed hall hall' p p')
    session_asked (Ok tt) a = sent_asked a
    session_asked (Err WriteFault) a = cut_asked a
    session_asked (Err (Stopped stop)) a = left_asked stop a
    session_asked (Err Quit) a = absurd a
    session_asked (Err InputEnded) a = absurd a
    session_asked (Err ReadFault) a = absurd a
    session_asked (Err Spent) a = absurd a

-- asking comes to no quit
pub asked_short : (end : Result (Unit {0}) DeskEnd) → IsAsked end → IsCutShort end
asked_short (Ok tt) how = how
asked_short (Err Quit) how = absurd how
asked_short (Err InputEnded) how = how
asked_short (Err ReadFault) how = how
asked_short (Err WriteFault) how = how
asked_short (Err Spent) how = how
asked_short (Err (Stopped stop)) how = how

pub asked_no_quit : (end : Result (Unit {0}) DeskEnd) → IsAsked end → end ≡ Err Quit → ⊥
asked_no_quit end how is = subst IsAsked is how
