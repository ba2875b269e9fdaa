-- The bytes of a piece, fed to a desk behind a stream.
use Rattle.std.proofs.Common.{◌≡◌, ◌+◌, ◌∷◌, ◌++◌, ℕ, List, [], take, drop, true, false, Option, Some, None, Err, refl, sym, ◌∙◌, ap, subst, append_assoc, take-append-drop}
use Rattle.std.proofs.Math.Seq.{take-add}
use Rattle.alarm_rules.specs.Setups.{Setup}
use Rattle.arc_text.specs.declared.line_cut.LineCut.{LineCut}
use Rattle.arc_text.specs.LineCutting.{LineCutterValue, WasFed, cut_of, line_of, Feeds}
use Rattle.arc_text.specs.Lines.{ended_lines}
use Rattle.arc_text.proofs.LineLaws.{ended_more}
use Rattle.desk_wire.specs.declared.command.Command.{Command}
use Rattle.std.specs.Str.Lines.{lines}
use Rattle.desk_session.specs.Desks.{HasTaken, IsFed, IsFinished}
use Rattle.desk_session.specs.Events.{command_in, acts_after, acts_over, ends, is_known, is_quit, quits}
use Rattle.desk_session.specs.Sessions.{IsCutShort}
use Rattle.desk_session.specs.declared.desk_end.DeskEnd.{DeskEnd}
use Rattle.desk_session.specs.declared.desk_end.DeskEnd.TheVariants.{Quit, InputEnded, ReadFault, WriteFault, Spent, Stopped}
use Rattle.desk_session.proofs.Acting.{acts_over-append, over_known}
use Rattle.desk_session.proofs.Quitting.{quits_next, quits_more}

module _ (stream bytes : List ℕ) (at n : ℕ) where
  parts : stream ++ take (at + n) bytes ≡ (stream ++ take at bytes) ++ take n (drop at bytes)
  parts = ap (λ (l : List ℕ). stream ++ l) (take-add at n bytes) ∙ sym (append_assoc stream (take at bytes) (take n (drop at bytes)))

  -- more bytes, which end no line
  pub record CameNone (c : LineCutterValue) : Type 0 where
    pub fed : WasFed (stream ++ take (at + n) bytes) c
    pub ended : ended_lines (stream ++ take (at + n) bytes) ≡ ended_lines (stream ++ take at bytes)

  pub came_none : (c : LineCutterValue) → Feeds (stream ++ take at bytes) (take n (drop at bytes)) None c → CameNone c
  came_none c f = record { fed = subst (λ (s : List ℕ). WasFed s c) (sym parts) f.fed; ended = ap ended_lines parts ∙ f.lines }

  -- more bytes, which end one line, and what the cutter told of it
  pub record CameLine (told : LineCut) (c : LineCutterValue) : Type 0 where
    pub fed : WasFed (stream ++ take (at + n) bytes) c
    pub line : List ℕ
    pub ended : ended_lines (stream ++ take (at + n) bytes) ≡ ended_lines (stream ++ take at bytes) ++ line ∷ []
    pub cut : told ≡ cut_of c.limit line
    pub kept : c.line ≡ line_of told line

  pub came_line : (told : LineCut) (c : LineCutterValue) → Feeds (stream ++ take at bytes) (take n (drop at bytes)) (Some told) c → CameLine told c
  came_line told c f = record {
    fed = subst (λ (s : List ℕ). WasFed s c) (sym parts) f.fed;
    line = f.lines.0;
    ended = ap ended_lines parts ∙ f.lines.1.one;
    cut = f.lines.2.cut;
    kept = f.lines.2.kept;
  }

  module _ (setup : Setup) (c : LineCutterValue) (operator : Option (List ℕ)) (taken : HasTaken setup (stream ++ take at bytes) c operator) where
    pub taken_none : (c' : LineCutterValue) → CameNone c' → HasTaken setup (stream ++ take (at + n) bytes) c' operator
    taken_none c' came = record {
      fed = came.fed;
      goes_on = ap quits came.ended ∙ taken.goes_on;
      acts = taken.acts ∙ ap (acts_over setup None) (sym came.ended);
    }

    -- a command that is no quit
    pub taken_line : (told : LineCut) (c' : LineCutterValue) (operator' : Option (List ℕ)) (command : Option Command) (came : CameLine told c') → command ≡ command_in came.line
        → operator' ≡ acts_after setup operator command → ends command ≡ false → HasTaken setup (stream ++ take (at + n) bytes) c' operator'
    taken_line told c' operator' command came typed acts goes_on = record {
      fed = came.fed;
      goes_on = ap quits came.ended ∙ quits_next (ended_lines (stream ++ take at bytes)) came.line false taken.goes_on (ap ends (sym typed) ∙ goes_on);
      acts =
          acts ∙ ap (acts_after setup operator) typed ∙ ap (λ (o : Option (List ℕ)). acts_after setup o (command_in came.line)) taken.acts
          ∙ sym (acts_over-append setup None (ended_lines (stream ++ take at bytes)) (came.line ∷ []))
          ∙ ap (acts_over setup None) (sym came.ended);
    }

    -- and one that is
    pub quits_by : (told : LineCut) (c' : LineCutterValue) (command : Option Command) (came : CameLine told c') → command ≡ command_in came.line → ends command ≡ true
        → quits (ended_lines (stream ++ take (at + n) bytes)) ≡ true
    quits_by told c' command came typed quit =
        ap quits came.ended ∙ quits_next (ended_lines (stream ++ take at bytes)) came.line true taken.goes_on (ap ends (sym typed) ∙ quit)

-- whom a desk acts for is an operator of the setup
pub taken_known : (setup : Setup) (stream : List ℕ) (c : LineCutterValue) (operator : Option (List ℕ)) → HasTaken setup stream c operator → is_known setup operator ≡ true
taken_known setup stream c operator taken = ap (is_known setup) taken.acts ∙ over_known setup None (ended_lines stream) refl

-- what follows the front of some bytes only adds lines
pub lines_behind : (stream bytes : List ℕ) (n : ℕ) → (more : List (List ℕ)) × (ended_lines (stream ++ bytes) ≡ ended_lines (stream ++ take n bytes) ++ more)
lines_behind stream bytes n =
    let e : stream ++ bytes ≡ (stream ++ take n bytes) ++ drop n bytes = ap (λ (l : List ℕ). stream ++ l) (sym (take-append-drop n bytes)) ∙ sym (append_assoc stream (take n bytes) (drop n bytes)) in
    let m = ended_more (stream ++ take n bytes) (drop n bytes) in
    (m.0, ap ended_lines e ∙ m.1)

-- what is left of a desk that ended within some bytes
pub fed_err : (end : DeskEnd) (setup : Setup) (stream front : List ℕ) (c : LineCutterValue) (operator : Option (List ℕ)) (more : List (List ℕ)) → IsCutShort (Err end)
    → (end ≡ Quit → quits (ended_lines front) ≡ true) → ended_lines stream ≡ ended_lines front ++ more → IsFed (Err end) setup stream c operator
fed_err Quit setup stream front c operator more short quit all = ap quits all ∙ quits_more (ended_lines front) more (quit refl)
fed_err InputEnded setup stream front c operator more short quit all = short
fed_err ReadFault setup stream front c operator more short quit all = short
fed_err WriteFault setup stream front c operator more short quit all = tt
fed_err Spent setup stream front c operator more short quit all = short
fed_err (Stopped stop) setup stream front c operator more short quit all = tt

-- and of one that ended with the last line
pub finished_err : (end : DeskEnd) (stream line : List ℕ) → IsCutShort (Err end) → lines stream ≡ ended_lines stream ++ line ∷ [] → quits (ended_lines stream) ≡ false → (end ≡ Quit → is_quit line ≡ true)
    → IsFinished end stream
finished_err Quit stream line short all goes_on quit = ap quits all ∙ quits_next (ended_lines stream) line true goes_on (quit refl)
finished_err InputEnded stream line short all goes_on quit = absurd short
finished_err ReadFault stream line short all goes_on quit = short
finished_err WriteFault stream line short all goes_on quit = tt
finished_err Spent stream line short all goes_on quit = short
finished_err (Stopped stop) stream line short all goes_on quit = tt
