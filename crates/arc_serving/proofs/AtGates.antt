-- What a session over a gate tells of its pass.
use Rattle.std.proofs.Common.{◌≡◌, ◌-◌, ℕ, List, [], ◌∷◌, ◌++◌, Option, Some, None, length, take, refl, sym, ap, ◌∙◌, subst, arith, length-append, append_assoc}
use Rattle.std.proofs.lemmas.List.{reverse-reverse, reverse-append, append_cancel_right}
use Rattle.std.proofs.lemmas.List.Elements.{All-append, All-nil}
use Rattle.std.specs.Prelude.{Bool, true, false, All, reverse, flat_map, MatchOption}
use Rattle.alarm_rules.specs.Setups.{meaning}
use Rattle.arc_io.specs.Seen.{PortSeen}
use Rattle.arc_serving.proofs.After.{is_after}
use Rattle.arc_serving.specs.Sessions.{Serves, ServesBy, Reads, line_end}
use Rattle.arc_serving.specs.declared.session.SessionEnd.{SessionEnd}
use Rattle.arc_serving.specs.declared.side.Side.{Side}
use Rattle.arc_serving.specs.declared.side.Side.TheVariants.{Lines, Desks}
use Rattle.centre_core.specs.Halls.{HallSeen}
use Rattle.centre_rules.specs.Summary.{Summary}
use Rattle.line_gate.proofs.AtHalls.{same_base}
use Rattle.line_gate.proofs.Histories.{extends_self, extends_further}
use Rattle.line_gate.specs.AtGates.{AtSeen, own_of, gate_seen}
use Rattle.line_gate.specs.Entries.{Entry, Extends, made_by}
use Rattle.line_gate.specs.Passes.{PassSeen, IsPass}
use Rattle.line_gate.specs.Terms.{Terms}
use Rattle.line_session.specs.Groups.{ServesGroup}
use Rattle.line_session.specs.Lines.{ReadsLine, ServesLine}
use Rattle.line_session.specs.declared.line_end.LineEnd.{LineEnd}
use Rattle.session_rules.specs.Sessions.{changed, Goes, Way}
use Rattle.arc_serving.proofs.DeskTurns as Desk
use Rattle.arc_serving.proofs.LineTurns as Line
use Rattle.arc_serving.specs.Served.{tcp, Served, IsServed, ServesAtGate, IsSingle, InTurn, IsSubmittedBy, MakesEntries, made_between}

abbrev entries_in : List Served → List Entry
entries_in served = flat_map (λ s. s.entries) served

-- A session's history begins with the one before it.

line_extends : (name : List ℕ) (end : Option LineEnd) (read : List ℕ) (b : Summary) (w : Way) (hall hall' : HallSeen) (p p' : PortSeen) → MatchOption end ⊥ (λ e. ServesLine name e read b w (changed hall hall' p p')) → Extends w.from w.to
line_extends name None read b w hall hall' p p' s = absurd s
line_extends name (Some end) read b w hall hall' p p' s =
    subst (Extends w.from) (sym s.to) (Line.turns_extend name b (meaning hall.text) hall.caller w.from s.session.history s.session.turns s.session.each)

group_extends : (name : List ℕ) (end : Option LineEnd) (read : List ℕ) (b : Summary) (w : Way) (hall hall' : HallSeen) (p p' : PortSeen) → MatchOption end ⊥ (λ e. ServesGroup name e read b w (changed hall hall' p p')) → Extends w.from w.to
group_extends name None read b w hall hall' p p' s = absurd s
group_extends name (Some end) read b w hall hall' p p' s =
    let session = s.line.session in
    subst (Extends w.from) (sym s.to) (Line.turns_extend name b (meaning hall.text) hall.caller w.from session.history session.turns session.each)

desk_extends : (name : List ℕ) (end : SessionEnd) (read : List ℕ) (b : Summary) (w : Way) (hall hall' : HallSeen) (p p' : PortSeen) → Serves Desks name end read b w (changed hall hall' p p') → Extends w.from w.to
desk_extends name end read b w hall hall' p p' s =
    subst (Extends w.from) (sym s.to) (Desk.turns_extend b (meaning hall.text) hall.caller None w.from s.desk.session.history s.desk.session.turns s.desk.session.each.0)

goes_extends : (groups : Bool) (side : Side) (name : List ℕ) (end : SessionEnd) (read : List ℕ) (b : Summary) (w : Way) (hall hall' : HallSeen) (p p' : PortSeen) → ServesBy groups side name end read b w (changed hall hall' p p') → Extends w.from w.to
goes_extends true Lines name end read b w hall hall' p p' s = group_extends name (line_end end) read b w hall hall' p p' s
goes_extends true Desks name end read b w hall hall' p p' s = desk_extends name end read b w hall hall' p p' s
goes_extends false Lines name end read b w hall hall' p p' s = line_extends name (line_end end) read b w hall hall' p p' s
goes_extends false Desks name end read b w hall hall' p p' s = desk_extends name end read b w hall hall' p p' s

-- Its entries are of events of its kind.

abbrev OnlyOf : Side → List Entry → Type 0
OnlyOf side es = All (λ (e : Entry). IsSubmittedBy side e.event) es

line_only : (name : List ℕ) (end : Option LineEnd) (read : List ℕ) (b : Summary) (w : Way) (hall hall' : HallSeen) (p p' : PortSeen) → MatchOption end ⊥ (λ e. ServesLine name e read b w (changed hall hall' p p')) → OnlyOf Lines w.made
line_only name None read b w hall hall' p p' s = absurd s
line_only name (Some end) read b w hall hall' p p' s =
    subst (OnlyOf Lines) (sym s.made) (Line.turns_report name b (meaning hall.text) hall.caller w.from s.session.history s.session.turns s.session.each)

group_only : (name : List ℕ) (end : Option LineEnd) (read : List ℕ) (b : Summary) (w : Way) (hall hall' : HallSeen) (p p' : PortSeen) → MatchOption end ⊥ (λ e. ServesGroup name e read b w (changed hall hall' p p')) → OnlyOf Lines w.made
group_only name None read b w hall hall' p p' s = absurd s
group_only name (Some end) read b w hall hall' p p' s =
    let session = s.line.session in
    subst (OnlyOf Lines) (sym s.made) (Line.turns_report name b (meaning hall.text) hall.caller w.from session.history session.turns session.each)

desk_only : (name : List ℕ) (end : SessionEnd) (read : List ℕ) (b : Summary) (w : Way) (hall hall' : HallSeen) (p p' : PortSeen) → Serves Desks name end read b w (changed hall hall' p p') → OnlyOf Desks w.made
desk_only name end read b w hall hall' p p' s =
    subst (OnlyOf Desks) (sym s.made) (Desk.turns_request b (meaning hall.text) hall.caller None w.from s.desk.session.history s.desk.session.turns s.desk.session.each.0)

entries_only : (groups : Bool) (side : Side) (name : List ℕ) (end : SessionEnd) (read : List ℕ) (b : Summary) (w : Way) (hall hall' : HallSeen) (p p' : PortSeen) → ServesBy groups side name end read b w (changed hall hall' p p') → OnlyOf side w.made
entries_only true Lines name end read b w hall hall' p p' s = group_only name (line_end end) read b w hall hall' p p' s
entries_only true Desks name end read b w hall hall' p p' s = desk_only name end read b w hall hall' p p' s
entries_only false Lines name end read b w hall hall' p p' s = line_only name (line_end end) read b w hall hall' p p' s
entries_only false Desks name end read b w hall hall' p p' s = desk_only name end read b w hall hall' p p' s

-- What the pass made.

take_front : (a b : List Entry) → take (length a) (a ++ b) ≡ a
take_front [] b = refl
take_front (x ∷ a) b = ap (λ (y : List Entry). x ∷ y) (take_front a b)

-- what was made since is what was put before what was made then
between : (es m n : List Entry) → n ≡ reverse es ++ m → reverse (take (length n - length m) n) ≡ es
between es m n same =
    let long : length n - length m ≡ length (reverse es) = omega (arith, ap length same, length-append (reverse es) m) in
    ap reverse (ap (λ (k : ℕ). take k n) long ∙ ap (take (length (reverse es))) same ∙ take_front (reverse es) m) ∙ reverse-reverse es

-- the own part of a history for which the hall stands is what the pass made
own_at : (t : Terms) (p : PassSeen) (b : Summary) (h : List Entry) → AtSeen t p b h → own_of p h ≡ p.made
own_at t p b h w = ap (λ (l : List Entry). made_by p.number (take (length p.since) l)) w.seen ∙ ap (made_by p.number) (take_front p.since w.base) ∙ w.pass.own

-- the base of a history that goes on from one over a base is that base
base_at : (t : Terms) (p q : PassSeen) (b : Summary) (base h : List Entry) → IsPass t p → t.stood b base → Extends (p.since ++ base) h → (w : AtSeen t q b h) → base ≡ w.base
base_at t p q b base h pass from extends w =
    let x = extends.0 in
    same_base b t.entries base w.base (x ++ p.since) q.since (pass.of_gate.long b base from) (pass.of_gate.long b w.base w.from) (append_assoc x p.since base ∙ sym extends.1 ∙ w.seen)

-- what a session of the pass made, over a base
made_at : (side : Side) (t : Terms) (p q : PassSeen) (read : List ℕ) (given back : PortSeen) (end : SessionEnd) (b : Summary) (base to made : List Entry) → IsPass t p → t.stood b base
    → ServesBy t.groups side tcp end read b (record { from = p.since ++ base; to = to; made = made }) (changed (gate_seen t p) (gate_seen t q) given back) → q.made ≡ reverse made ++ p.made
made_at side t p q read given back end b base to made pass from w =
    let h = p.since ++ base in
    let after = is_after t.groups side tcp end read b (record { from = h; to = to; made = made }) (gate_seen t p) (gate_seen t q) given back w in
    let before : own_of p h ≡ p.made = own_at t p b h (record { base = base; from = from; seen = refl; pass = pass }) in
    sym (own_at t q b to after.holds) ∙ after.own ∙ ap (λ (m : List Entry). reverse made ++ m) before

-- a session over the gate as a hall, in terms of what the pass had seen before and after
serves_at_gate : (side : Side) (t : Terms) (p q : PassSeen) (read : List ℕ) (given back : PortSeen) (end : SessionEnd) → IsPass t p → (b : Summary) (base : List Entry) → t.stood b base
    → Goes (p.since ++ base) (λ w. ServesBy t.groups side tcp end read b w (changed (gate_seen t p) (gate_seen t q) given back))
    → ServesAtGate side t b base p q read (record { given = given; back = back; end = end; entries = made_between p q })
serves_at_gate side t p q read given back end pass b base from goes =
    let h = p.since ++ base in
    let to = goes.0 in
    let made = goes.1 in
    let way : Way = record { from = h; to = to; made = made } in
    let at : AtSeen t q b to = (is_after t.groups side tcp end read b way (gate_seen t p) (gate_seen t q) given back goes.2).holds in
    let same : base ≡ at.base = base_at t p q b base to pass from (goes_extends t.groups side tcp end read b way (gate_seen t p) (gate_seen t q) given back goes.2) at in
    let ended : to ≡ q.since ++ base = at.seen ∙ ap (λ (l : List Entry). q.since ++ l) (sym same) in
    let entries : made ≡ made_between p q = sym (between made p.made q.made (made_at side t p q read given back end b base to made pass from goes.2)) in
    subst (λ (x : List Entry). ServesBy t.groups side tcp end read b (record { from = h; to = x; made = made_between p q }) (changed (gate_seen t p) (gate_seen t q) given back)) ended
    (subst (λ (es : List Entry). ServesBy t.groups side tcp end read b (record { from = h; to = to; made = es }) (changed (gate_seen t p) (gate_seen t q) given back)) entries goes.2)

-- the same, where the pass was taken out of the hall, and the line's name is that of a link
pub serves_left : (side : Side) (t : Terms) (p q m : PassSeen) (read : List ℕ) (given back : PortSeen) (name : List ℕ) (end : SessionEnd) → IsPass t p → q ≡ m → name ≡ tcp
    → ((b : Summary) (h : List Entry) → AtSeen t p b h → Goes h (λ w. ServesBy t.groups side name end read b w (changed (gate_seen t p) (gate_seen t m) given back)))
    → (b : Summary) (base : List Entry) → t.stood b base → ServesAtGate side t b base p q read (record { given = given; back = back; end = end; entries = made_between p q })
serves_left side t p q m read given back name end pass left named w b base from =
    let went = subst (λ (n : List ℕ). Goes (p.since ++ base) (λ v. ServesBy t.groups side n end read b v (changed (gate_seen t p) (gate_seen t m) given back))) named
    (w b (p.since ++ base) (record { base = base; from = from; seen = refl; pass = pass })) in
    serves_at_gate side t p q read given back end pass b base from
    (subst (λ (k : PassSeen). Goes (p.since ++ base) (λ v. ServesBy t.groups side tcp end read b v (changed (gate_seen t p) (gate_seen t k) given back))) (sym left) went)

-- what a pass made in a session
makes_in_session : (side : Side) (t : Terms) (p q : PassSeen) (read : List ℕ) (s : Served) (b : Summary) (base : List Entry) → IsPass t p → t.stood b base
    → ServesAtGate side t b base p q read s → MakesEntries side p q s.entries
makes_in_session side t p q read s b base pass from w =
    let way : Way = record { from = p.since ++ base; to = q.since ++ base; made = s.entries } in
    let extends = goes_extends t.groups side tcp s.end read b way (gate_seen t p) (gate_seen t q) s.given s.back w in
    let whole : q.since ++ base ≡ (extends.0 ++ p.since) ++ base = extends.1 ∙ sym (append_assoc extends.0 p.since base) in record {
      made = made_at side t p q read s.given s.back s.end b base (q.since ++ base) s.entries pass from w;
      only = entries_only t.groups side tcp s.end read b way (gate_seen t p) (gate_seen t q) s.given s.back w;
      seen = (extends.0, append_cancel_right q.since (extends.0 ++ p.since) base whole);
    }

-- what a pass made in many
pub makes_in_order : (side : Side) (t : Terms) (p q : PassSeen) (ss : List Served) → IsPass t p → InTurn (IsServed side t) p q ss → (b : Summary) (base : List Entry) → t.stood b base
    → MakesEntries side p q (entries_in ss)
makes_in_order side t p q [] pass w b base from = record {
  made = ap (λ (k : PassSeen). k.made) w;
  only = All-nil (λ (e : Entry). IsSubmittedBy side e.event);
  seen = subst (λ (k : PassSeen). Extends p.since k.since) (sym w) (extends_self p.since);
}
makes_in_order side t p q (s ∷ ss) pass w b base from =
    let mid = w.0 in
    let one = makes_in_session side t p mid w.1.read s b base pass from (w.1.serves b base from) in
    let more = makes_in_order side t mid q ss w.1.pass w.2 b base from in record {
      made = more.made ∙ ap (λ (m : List Entry). reverse (entries_in ss) ++ m) one.made ∙ sym (append_assoc (reverse (entries_in ss)) (reverse s.entries) p.made)
          ∙ ap (λ (l : List Entry). l ++ p.made) (sym (reverse-append s.entries (entries_in ss)));
      only = All-append (λ (e : Entry). IsSubmittedBy side e.event) s.entries (entries_in ss) one.only more.only;
      seen = extends_further p.since mid.since q.since one.seen more.seen;
    }

-- a session that submits each event alone, at a gate of either kind
single : (groups : Bool) (side : Side) (name : List ℕ) (end : SessionEnd) (read : List ℕ) (b : Summary) (w : Way) (hall hall' : HallSeen) (p p' : PortSeen) → IsSingle side groups
    → Serves side name end read b w (changed hall hall' p p') → ServesBy groups side name end read b w (changed hall hall' p p')
single groups Lines name end read b w hall hall' p p' is s = subst (λ (g : Bool). ServesBy g Lines name end read b w (changed hall hall' p p')) (sym is) s
single true Desks name end read b w hall hall' p p' is s = s
single false Desks name end read b w hall hall' p p' is s = s

pub goes_alone : (groups : Bool) (side : Side) (name : List ℕ) (end : SessionEnd) (read : List ℕ) (b : Summary) (h : List Entry) (hall hall' : HallSeen) (p p' : PortSeen) → IsSingle side groups
    → Goes h (λ w. Serves side name end read b w (changed hall hall' p p')) → Goes h (λ w. ServesBy groups side name end read b w (changed hall hall' p p'))
goes_alone groups side name end read b h hall hall' p p' is s =
    (s.0, s.1, single groups side name end read b (record { from = h; to = s.0; made = s.1 }) hall hall' p p' is s.2)

-- a session of a line at a gate with groups, by its end as a session's
pub goes_together : (groups : Bool) (name : List ℕ) (end : SessionEnd) (ended : LineEnd) (read : List ℕ) (b : Summary) (h : List Entry) (hall hall' : HallSeen) (p p' : PortSeen) → groups ≡ true → line_end end ≡ Some ended
    → Goes h (λ w. ServesGroup name ended read b w (changed hall hall' p p')) → Goes h (λ w. ServesBy groups Lines name end read b w (changed hall hall' p p'))
goes_together groups name end ended read b h hall hall' p p' is same s =
    let way : Way = record { from = h; to = s.0; made = s.1 } in (
      s.0,
      s.1,
      subst (λ (g : Bool). ServesBy g Lines name end read b way (changed hall hall' p p')) (sym is)
          (subst (λ (o : Option LineEnd). MatchOption o ⊥ (λ e. ServesGroup name e read b way (changed hall hall' p p'))) (sym same) s.2),
    )

pub reads_together : (end : SessionEnd) (ended : LineEnd) (read : List ℕ) (p p' : PortSeen) → line_end end ≡ Some ended → ReadsLine ended read p p' → Reads Lines end read p p'
reads_together end ended read p p' same w = subst (λ (o : Option LineEnd). MatchOption o ⊥ (λ e. ReadsLine e read p p')) (sym same) w
