-- What is so of a session of either kind.
use Rattle.std.proofs.Common.{◌≡◌, ◌++◌, ℕ, List, Option, Some, None, sym, ap, ◌∙◌, subst}
use Rattle.std.specs.Prelude.{Bool, true, false, reverse, MatchOption}
use Rattle.arc_io.specs.Seen.{PortSeen}
use Rattle.centre_core.specs.Halls.{HallSeen, DiskGoesOn}
use Rattle.centre_rules.specs.Answers.{IsLegal}
use Rattle.centre_rules.specs.History.{Entry}
use Rattle.centre_rules.specs.Summary.{Summary}
use Rattle.line_session.specs.Groups.{ServesGroup}
use Rattle.line_session.specs.Lines.{ServesLine}
use Rattle.line_session.specs.declared.line_end.LineEnd.{LineEnd}
use Rattle.session_rules.specs.Sessions.{changed, Way}
use Rattle.arc_serving.specs.Sessions.{Serves, ServesBy, line_end}
use Rattle.arc_serving.specs.declared.session.SessionEnd.{SessionEnd}
use Rattle.arc_serving.specs.declared.side.Side.{Side}
use Rattle.arc_serving.specs.declared.side.Side.TheVariants.{Lines, Desks}

-- what is so of a session of either kind, on its way
pub record IsHistoryAfter (b : Summary) (w : Way) (hall hall' : HallSeen) : Type 0 where
  pub holds : hall'.stands b w.to
  pub legal : IsLegal b w.to
  pub own : hall'.own w.to ≡ reverse w.made ++ hall.own w.from
  pub disk : DiskGoesOn b hall hall' w.from w.to

-- a session that went so, said of its way
after_way : (b : Summary) (w : Way) (hall hall' : HallSeen) (to made : List Entry) → w.to ≡ to → w.made ≡ made → hall'.stands b to → IsLegal b to
    → hall'.own to ≡ reverse made ++ hall.own w.from → DiskGoesOn b hall hall' w.from to → IsHistoryAfter b w hall hall'
after_way b w hall hall' to made goes makes holds legal own disk = record {
  holds = subst (hall'.stands b) (sym goes) holds;
  legal = subst (IsLegal b) (sym goes) legal;
  own = ap hall'.own goes ∙ own ∙ ap (λ (es : List Entry). reverse es ++ hall.own w.from) (sym makes);
  disk = subst (DiskGoesOn b hall hall' w.from) (sym goes) disk;
}

line_after : (name : List ℕ) (end : Option LineEnd) (read : List ℕ) (b : Summary) (w : Way) (hall hall' : HallSeen) (p p' : PortSeen)
    → MatchOption end ⊥ (λ e. ServesLine name e read b w (changed hall hall' p p')) → IsHistoryAfter b w hall hall'
line_after name None read b w hall hall' p p' serves = absurd serves
line_after name (Some end) read b w hall hall' p p' serves =
    after_way b w hall hall' serves.session.history _ serves.to serves.made serves.session.holds serves.session.legal serves.session.own
    serves.session.disk

group_after : (name : List ℕ) (end : Option LineEnd) (read : List ℕ) (b : Summary) (w : Way) (hall hall' : HallSeen) (p p' : PortSeen)
    → MatchOption end ⊥ (λ e. ServesGroup name e read b w (changed hall hall' p p')) → IsHistoryAfter b w hall hall'
group_after name None read b w hall hall' p p' serves = absurd serves
group_after name (Some end) read b w hall hall' p p' serves =
    let session = serves.line.session in
    after_way b w hall hall' session.history _ serves.to serves.made session.holds session.legal session.own session.disk

desk_after : (name : List ℕ) (end : SessionEnd) (read : List ℕ) (b : Summary) (w : Way) (hall hall' : HallSeen) (p p' : PortSeen)
    → Serves Desks name end read b w (changed hall hall' p p') → IsHistoryAfter b w hall hall'
desk_after name end read b w hall hall' p p' serves =
    after_way b w hall hall' serves.desk.session.history _ serves.to serves.made serves.desk.session.holds serves.desk.session.legal
    serves.desk.session.own serves.desk.session.disk

-- the hall stands for the history that it ended with, which is legal, and the caller's own part grew by its entries
pub is_after : (groups : Bool) (side : Side) (name : List ℕ) (end : SessionEnd) (read : List ℕ) (b : Summary) (w : Way) (hall hall' : HallSeen)
    (p p' : PortSeen) → ServesBy groups side name end read b w (changed hall hall' p p') → IsHistoryAfter b w hall hall'
is_after true Lines name end read b w hall hall' p p' serves = group_after name (line_end end) read b w hall hall' p p' serves
is_after true Desks name end read b w hall hall' p p' serves = desk_after name end read b w hall hall' p p' serves
is_after false Lines name end read b w hall hall' p p' serves = line_after name (line_end end) read b w hall hall' p p' serves
is_after false Desks name end read b w hall hall' p p' serves = desk_after name end read b w hall hall' p p' serves
