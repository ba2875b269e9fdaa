use Rattle.std.proofs.Common.{◌≡◌, ◌≤◌, ◌<◌, ◌++◌, [], ℕ, List, length, take, ap, sym, subst, ◌∙◌, arith, length-take, length-append}
use Rattle.std.specs.Io.KnownBytes.{prepend_known}
use Rattle.arc_io.specs.Seen.{PortSeen}
use Rattle.arc_text.specs.Lines.{ended_lines}
use Rattle.session_rules.specs.Inputs.{input_limit}
use Rattle.arc_panel.proofs.Pieces.{fails, finishes, halts_piece, is_spent, read_next, read_none, so_read}
use Rattle.arc_panel.proofs.run.read_lines.Goals as goal

pub pieces-init : goal.pieces-init
pieces-init g c = record {
  few = omega arith;
  limit = c.new-cutter.ensures.limit;
  fed = ([], c.new-cutter.ensures.fed);
  number = omega (arith, c.requires.number);
  taken = omega (arith, c.requires.count);
  not_ended = c.requires.not_ended;
  done = λ s so. read_none s _ _ _ c.new-cutter.ensures.fed so;
}

pub returns-then-most-eq0 : goal.returns-then-most-eq0
returns-then-most-eq0 g c = record {
  played = λ s so.
      let all : c.pieces.count ≡ input_limit = omega (arith, c.if-most-eq0.true, c.min-most.ensures, c.room_behind.ensures, c.pieces.invariant.few) in
      is_spent s _ _ _ _ _ (c.pieces.invariant.done s so) all c.pieces.invariant.not_ended;
}

pub returns-in-Err : goal.returns-in-Err
returns-in-Err g c = record {
  played = λ s so.
      let told = c.in-Err.ensures.told in
      let room : c.pieces.count < input_limit = omega (arith, c.if-most-eq0.false, c.min-most.ensures, c.room_behind.ensures) in
      fails s _ _ _ _ _ (c.pieces.invariant.done s so) _ room told.others told.bytes (told.end ∙ c.pieces.invariant.not_ended) told.cause.failed;
}

pub returns-in-Ok-eq0 : goal.returns-in-Ok-eq0
returns-in-Ok-eq0 g c = record {
  played = λ s so.
      let told = c.in-Ok-eq0.ensures.told in
      let none = c.in-Ok-eq0.field-0-test in
      let r = c.pieces.invariant.done s so in
      let room : c.pieces.count < input_limit = omega (arith, c.if-most-eq0.false, c.min-most.ensures, c.room_behind.ensures) in
      let nothing = subst (λ n. (g.P.Ends.seen c.pieces.port).left ≡ prepend_known (take n c.read_piece.new.buffer) (g.P.Ends.seen c.read_piece.new.port).left) none told.bytes.0 in
      finishes s _ _ _ _ _ r _ _ _ room nothing told.others (told.end.0 none (omega arith)) (told.bytes.1 none (omega arith)) c.finish.ensures.only
      (c.finish.ensures.finished s _ r.stream r.fed (so_read s _ (ended_lines r.stream) _ _ _ told.others r.so));
}

pub returns-in-Err-play_ended : goal.returns-in-Err-play_ended
returns-in-Err-play_ended g c = record {
  played = λ s so.
      let told = c.in-Ok.ensures.told in
      let r = c.pieces.invariant.done s so in
      let piece : List ℕ = take c.in-Ok.more c.read_piece.new.buffer in
      let size : length piece ≤ c.in-Ok.more = omega (arith, length-take c.in-Ok.more c.read_piece.new.buffer) in
      let small : length piece ≤ 4096 = omega (arith, size, c.in-Ok.ensures.bound, c.min-most.ensures) in
      let fits : length (r.stream ++ piece) ≤ input_limit =
      omega (arith, length-append r.stream piece, size, c.in-Ok.ensures.bound, c.min-most.ensures, c.room_behind.ensures, c.pieces.invariant.few, r.count_is) in
      halts_piece s _ _ _ _ _ r piece _ _ _ small fits told.bytes.0 told.others (told.end.1 (λ none. absurd (c.in-Ok.more-test.1 none)) ∙ c.pieces.invariant.not_ended)
      c.play_ended.ensures.only
      (c.in-Err-play_ended.ensures.halted s _ r.stream r.fed (so_read s _ (ended_lines r.stream) _ _ _ told.others r.so));
}

pub pieces-preserved : goal.pieces-preserved
pieces-preserved g c =
    let told = c.in-Ok.ensures.told in
    let piece : List ℕ = take c.in-Ok.more c.read_piece.new.buffer in
    let size : length piece ≡ c.in-Ok.more =
    omega (arith, length-take c.in-Ok.more c.read_piece.new.buffer, c.read_piece.array_long, c.in-Ok.ensures.bound, c.min-most.ensures) in
    let before = c.pieces.invariant.fed in
    let played = c.in_default.ensures in
    record {
      few = omega (arith, c.in-Ok.ensures.bound, c.min-most.ensures, c.room_behind.ensures, c.pieces.invariant.few);
      limit = played.limit;
      fed = (before.0 ++ piece, played.fed before.0 before.1);
      number = omega (arith, played.few, c.pieces.invariant.number, size);
      taken = played.count;
      not_ended = ap (λ (p : PortSeen). p.ended) played.only.rest ∙ told.end.1 (λ none. absurd (c.in-Ok.more-test.1 none)) ∙ c.pieces.invariant.not_ended;
      done = λ s so.
          let r = c.pieces.invariant.done s so in
          read_next s _ _ _ _ _ r piece c.in-Ok.more _ _ _ _ (sym size) told.bytes.0 told.cause.later told.others played.only (played.fed r.stream r.fed)
          (played.played s _ r.stream r.fed (so_read s _ (ended_lines r.stream) _ _ _ told.others r.so));
    }
