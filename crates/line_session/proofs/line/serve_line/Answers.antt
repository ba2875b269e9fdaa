use Rattle.std.proofs.Common.{◌≡◌, ◌≢◌, ◌≤◌, ◌-◌, ◌++◌, [], ℕ, List, length, take, Ok, Err, refl, arith, length-append, length-take}
use Rattle.session_rules.proofs.Inputs.{all_in_limit, read_on}
use Rattle.session_rules.proofs.Made.{session_none}
use Rattle.session_rules.specs.Inputs.{input_limit}
use Rattle.session_rules.proofs.Keeping.{kept_more, kept_self}
use Rattle.line_session.specs.Sessions.{line_rules}
use Rattle.line_session.specs.Turns.{line_turns}
use Rattle.line_session.specs.declared.line_end.LineEnd.TheVariants.{InputEnded, ReadFault}
use Rattle.line_session.proofs.Ported.{line_rests, line_ends, line_goes, reads_failed, reads_out, reads_last}
use Rattle.line_session.proofs.Served.{serves_all}
use Rattle.line_session.proofs.SoFar.{begun}
use Rattle.line_session.proofs.line.serve_line.Goals as goal

pub pieces-init : goal.pieces-init
pieces-init g c = record {
  kept = kept_self (g.H.Hall.seen c.args.hall.now) c.requires.ready;
  done = begun c.new-state.ensures c.requires.not_ended
      (λ b h s. session_none line_turns (line_rules c.args.name.now b (g.H.Hall.seen c.args.hall.now) (g.H.Hall.seen c.args.hall.now)) b h refl ([], refl) s (g.met.H.Hall.legal c.args.hall.now b h s) (record { rest = refl }));
}

pub returns-in-Err-clause-line : goal.returns-in-Err-clause-line
returns-in-Err-clause-line g c =
    let done = c.pieces.invariant.done in (
      done.stream,
      reads_failed done.input c.in-Err.ensures.told done.took.short,
      λ b h s. line_rests c.args.name.now b h ReadFault done.stream tt c.read_piece.ensures.told.others (done.session b h s),
    )

pub returns-in-Ok-eq0-clause-line : goal.returns-in-Ok-eq0-clause-line
returns-in-Ok-eq0-clause-line g c =
    let done = c.pieces.invariant.done in (
      done.stream,
      reads_out done.input c.in-Ok-eq0.ensures.told c.in-Ok-eq0.field-0-test (omega arith) done.took.short,
      λ b h s. line_rests c.args.name.now b h InputEnded done.stream tt c.read_piece.ensures.told.others (done.session b h s),
    )

pub returns-in-Err-take-clause-line : goal.returns-in-Err-take-clause-line
returns-in-Err-take-clause-line g c =
    let done = c.pieces.invariant.done in
    let stream = done.stream in
    let piece : List ℕ = take c.in-Ok.count c.read_piece.new.buffer in
    let fits : length piece ≤ input_limit - length stream = omega (arith, length-take c.in-Ok.count c.read_piece.new.buffer, c.in-Ok.ensures.bound, c.min-most.ensures, c.room.ensures, done.took.count) in
    let short : length piece ≤ 4096 = omega (arith, length-take c.in-Ok.count c.read_piece.new.buffer, c.in-Ok.ensures.bound, c.min-most.ensures) in
    let ends = c.in-Err-take.ensures in
    let end = c.in-Err-take.end in (
      stream ++ piece,
      reads_last c.args.name.now _ done.input c.in-Ok.ensures.told c.in-Ok.count-test.1 ends.port (ends.taken c.args.name.now stream done.took) done.took.short fits,
      λ b h s. line_ends c.args.name.now b h stream piece c.pieces.invariant.kept c.read_piece.ensures.told.others (done.session b h s) end short
          (λ x sx. serves_all c.args.name.now (Err end) stream piece b x (all_in_limit stream piece fits) (ends.served c.args.name.now stream b x done.took sx)),
    )

pub pieces-preserved : goal.pieces-preserved
pieces-preserved g c =
    let done = c.pieces.invariant.done in
    let stream = done.stream in
    let piece : List ℕ = take c.in-Ok.count c.read_piece.new.buffer in
    let fits : length piece ≤ input_limit - length stream = omega (arith, length-take c.in-Ok.count c.read_piece.new.buffer, c.in-Ok.ensures.bound, c.min-most.ensures, c.room.ensures, done.took.count) in
    let went = c.in_default.ensures in
    record {
      kept = kept_more c.pieces.invariant.kept went.kept;
      done = record {
        stream = stream ++ piece;
        took = went.taken c.args.name.now stream done.took;
        input = read_on done.input c.in-Ok.ensures.told went.port c.in-Ok.count-test.1;
        session = λ b h s. line_goes c.args.name.now b h stream piece c.pieces.invariant.kept c.read_piece.ensures.told.others (done.session b h s)
            (λ x sx. serves_all c.args.name.now (Ok tt) stream piece b x (all_in_limit stream piece fits) (went.served c.args.name.now stream b x done.took sx));
      };
    }

pub pieces-smaller : goal.pieces-smaller
pieces-smaller g c =
    let done = c.pieces.invariant.done in
    let stream = done.stream in
    let piece : List ℕ = take c.in-Ok.count c.read_piece.new.buffer in
    let size : length piece ≡ c.in-Ok.count = omega (arith, length-take c.in-Ok.count c.read_piece.new.buffer, c.in-Ok.ensures.bound, c.min-most.ensures, c.read_piece.array_long) in
    let some : c.in-Ok.count ≢ 0 = c.in-Ok.count-test.1 in
    let took = c.in_default.ensures.taken c.args.name.now stream done.took in
    let count = took.count in
    let short = took.short in
    let before = done.took.count in
    omega (arith, length-append stream piece)
