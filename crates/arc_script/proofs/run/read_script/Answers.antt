use Rattle.std.proofs.Common.{◌≡◌, ◌≤◌, ◌<◌, ◌++◌, [], ℕ, List, length, take, ap, sym, subst, ◌∙◌, arith, length-take, length-append}
use Rattle.std.specs.Io.KnownBytes.{prepend_known}
use Rattle.arc_io.specs.Seen.{PortSeen}
use Rattle.session_rules.specs.Inputs.{input_limit}
use Rattle.arc_script.proofs.Finishing.{closed_tally}
use Rattle.arc_script.proofs.Pieces.{so_read, read_none, read_next, fails, is_spent, halts_in, finishes}
use Rattle.arc_script.proofs.run.read_script.Goals as goal

pub pieces-init : goal.pieces-init
pieces-init g c = record {
  few = omega arith;
  limit = c.new-cutter.ensures.limit;
  fed = ([], c.new-cutter.ensures.fed);
  ready = c.requires.ready;
  not_ended = c.requires.not_ended;
  done = λ b same number so. read_none _ b _ _ _ _ same c.new-cutter.ensures.fed number so;
}

pub returns-then-most-eq0 : goal.returns-then-most-eq0
returns-then-most-eq0 g c = record {
  ran = λ b same number so.
      let all : c.pieces.count ≡ input_limit = omega (arith, c.if-most-eq0.true, c.min-most.ensures, c.room_behind.ensures, c.pieces.invariant.few) in
      is_spent _ b _ _ _ _ _ (c.pieces.invariant.done b same number so) _ _ all c.pieces.invariant.not_ended c.close.ensures.disk
      (closed_tally c.pieces.script c.close.new.self c.pieces.store.state.sum c.close.ensures.tally);
}

pub returns-in-Err : goal.returns-in-Err
returns-in-Err g c = record {
  ran = λ b same number so.
      let told = c.in-Err.ensures.told in
      let room : c.pieces.count < input_limit = omega (arith, c.if-most-eq0.false, c.min-most.ensures, c.room_behind.ensures) in
      fails _ b _ _ _ _ _ (c.pieces.invariant.done b same number so) _ _ _ room told.others told.bytes (told.end ∙ c.pieces.invariant.not_ended)
      told.cause.failed c.close-in-Err.ensures.disk
      (closed_tally c.pieces.script c.close-in-Err.new.self c.pieces.store.state.sum c.close-in-Err.ensures.tally);
}

pub returns-in-Ok-eq0 : goal.returns-in-Ok-eq0
returns-in-Ok-eq0 g c = record {
  ran = λ b same number so.
      let told = c.in-Ok-eq0.ensures.told in
      let none = c.in-Ok-eq0.field-0-test in
      let r = c.pieces.invariant.done b same number so in
      let room : c.pieces.count < input_limit = omega (arith, c.if-most-eq0.false, c.min-most.ensures, c.room_behind.ensures) in
      let few : length r.stream ≤ input_limit = omega (arith, room, r.count_is) in
      let base = subst (λ n. (g.P.Ends.seen c.pieces.port).left ≡ prepend_known (take n c.read_piece.new.buffer) (g.P.Ends.seen c.read_piece.new.port).left) none told.bytes.0 in
      finishes _ b _ _ _ _ _ r _ _ _ _ _ room base told.others (told.end.0 none (omega arith)) (told.bytes.1 none (omega arith))
      c.finish.ensures.only
      (c.finish.ensures.finished b r.stream r.fed few (so_read _ b _ _ _ _ _ told.others r.so) r.number);
}

pub returns-in-Err-play_ended : goal.returns-in-Err-play_ended
returns-in-Err-play_ended g c = record {
  ran = λ b same number so.
      let told = c.in-Ok.ensures.told in
      let r = c.pieces.invariant.done b same number so in
      let piece : List ℕ = take c.in-Ok.more c.read_piece.new.buffer in
      let size : length piece ≤ c.in-Ok.more = omega (arith, length-take c.in-Ok.more c.read_piece.new.buffer) in
      let short : length piece ≤ 4096 = omega (arith, size, c.in-Ok.ensures.bound, c.min-most.ensures) in
      let fits : length (r.stream ++ piece) ≤ input_limit =
      omega (arith, length-append r.stream piece, size, c.in-Ok.ensures.bound, c.min-most.ensures, c.room_behind.ensures, c.pieces.invariant.few, r.count_is) in
      halts_in _ b _ _ _ _ _ r piece _ _ _ _ _ short fits told.bytes.0 told.others
      (told.end.1 (λ none. absurd (c.in-Ok.more-test.1 none)) ∙ c.pieces.invariant.not_ended) c.play_ended.ensures.only
      (c.in-Err-play_ended.ensures.halted b r.stream r.fed fits (so_read _ b _ _ _ _ _ told.others r.so) r.number);
}

pub pieces-preserved : goal.pieces-preserved
pieces-preserved g c =
    let told = c.in-Ok.ensures.told in
    let piece : List ℕ = take c.in-Ok.more c.read_piece.new.buffer in
    let size : length piece ≡ c.in-Ok.more =
    omega (arith, length-take c.in-Ok.more c.read_piece.new.buffer, c.read_piece.array_long, c.in-Ok.ensures.bound, c.min-most.ensures) in
    let before = c.pieces.invariant.fed in
    let played = c.in-Ok-play_ended.ensures in
    record {
      few = omega (arith, c.in-Ok.ensures.bound, c.min-most.ensures, c.room_behind.ensures, c.pieces.invariant.few);
      limit = played.limit;
      fed = (before.0 ++ piece, played.fed before.0 before.1);
      ready = played.ready;
      not_ended = ap (λ (p : PortSeen). p.ended) played.only.rest ∙ told.end.1 (λ none. absurd (c.in-Ok.more-test.1 none)) ∙ c.pieces.invariant.not_ended;
      done = λ b same number so.
          let r = c.pieces.invariant.done b same number so in
          let fits : length (r.stream ++ piece) ≤ input_limit =
          omega (arith, length-append r.stream piece, size, c.in-Ok.ensures.bound, c.min-most.ensures, c.room_behind.ensures, c.pieces.invariant.few, r.count_is) in
          read_next _ b _ _ _ _ _ r piece c.in-Ok.more _ _ _ _ _ (sym size) told.bytes.0 told.cause.later told.others played.only (played.fed r.stream r.fed)
          (played.played b r.stream r.fed fits (so_read _ b _ _ _ _ _ told.others r.so) r.number);
    }
