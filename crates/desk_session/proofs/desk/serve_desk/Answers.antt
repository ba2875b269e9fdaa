use Rattle.std.proofs.Common.{◌≤◌, ◌-◌, ◌++◌, [], ℕ, List, length, take, None, Ok, Err, refl, sym, ◌∙◌, ap, subst, arith, append-nil, length-take}
use Rattle.std.specs.Io.KnownBytes.{prepend_known, IsAtEnd}
use Rattle.std.specs.Str.Lines.{lines}
use Rattle.alarm_rules.specs.Setups.{meaning}
use Rattle.arc_io.specs.Causes.{Rose}
use Rattle.arc_io.specs.Seen.{PortSeen}
use Rattle.arc_io.proofs.KnownMore.{prepend_none}
use Rattle.arc_text.specs.Lines.{ended_lines}
use Rattle.session_rules.specs.Inputs.{input_limit}
use Rattle.session_rules.proofs.Keeping.{kept_more, kept_self}
use Rattle.desk_session.specs.Desks.{TookStream}
use Rattle.desk_session.proofs.Ported.{desk_rests, desk_goes, desk_ends, rose_earlier, ended_by, finished_by, served_all, all_in_limit, read_more, read_lines, read_all_lines}
use Rattle.desk_session.proofs.Served.{desk_none}
use Rattle.desk_session.proofs.desk.serve_desk.Goals as goal

pub pieces-init : goal.pieces-init
pieces-init g c = record {
  kept = kept_self (g.H.Hall.seen c.args.hall.now) c.requires.ready;
  done = record {
    stream = [];
    took = c.new-state.ensures (meaning (g.H.Hall.seen c.args.hall.now).text);
    taken = prepend_none (g.P.Ends.seen c.args.port.now).left;
    not_ended = c.requires.not_ended;
    reads = omega arith;
    writes = omega arith;
    desk = λ b h s. desk_none b None h s (g.met.H.Hall.legal c.args.hall.now b h s) (record { rest = refl });
  };
}

pub returns-in-Err-clause-desk : goal.returns-in-Err-clause-desk
returns-in-Err-clause-desk g c =
    let done = c.pieces.invariant.done in
    let told = c.in-Err.ensures.told in
    let goes_on = done.took.taken.goes_on in
    let not_ended = told.end ∙ done.not_ended in (
      done.stream,
      record {
        taken = done.taken ∙ ap (prepend_known done.stream) (sym told.bytes);
        out = λ out. absurd (cc);
        cause = (rose_earlier _ _ _ done.reads told.cause.failed, not_ended, goes_on, done.took.short);
      },
      λ b h s. desk_rests b h done.stream goes_on not_ended c.read_piece.ensures.told.others (done.desk b h s),
    )

pub returns-in-Ok-eq0-clause-desk : goal.returns-in-Ok-eq0-clause-desk
returns-in-Ok-eq0-clause-desk g c =
    let done = c.pieces.invariant.done in
    let stream = done.stream in
    let kept = c.pieces.invariant.kept in
    let took = subst (λ (t : List ℕ). TookStream (meaning t) stream c.pieces.state) (sym kept.text) done.took in
    let goes_on = done.took.taken.goes_on in
    let told = c.in-Ok-eq0.ensures.told in
    let none = c.in-Ok-eq0.field-0-test in
    let port = c.finish.ensures.port in
    let nothing = ap (λ n. prepend_known (take n c.read_piece.new.buffer) (g.P.Ends.seen c.read_piece.new.port).left) none in
    let left = ap (λ (p : PortSeen). p.left) port.rest in
    let out = ap (λ (p : PortSeen). p.ended) port.rest ∙ told.end.0 none (omega arith) in (
      stream,
      record {
        taken = done.taken ∙ ap (prepend_known stream) (told.bytes.0 ∙ nothing ∙ sym (prepend_none (g.P.Ends.seen c.read_piece.new.port).left) ∙ sym left);
        out = λ ended. subst IsAtEnd (sym left) (told.bytes.1 none (omega arith));
        cause = finished_by c.finish.result stream _ _ (c.finish.ensures.ended stream took) goes_on out done.took.short
            (λ is. rose_earlier _ _ _ done.writes (subst (λ n. Rose n (g.P.Ends.seen c.finish.new.port).write_faults) (ap (λ (p : PortSeen). p.write_faults) c.read_piece.ensures.told.others.rest) (port.rose is)));
      },
      λ b h s. desk_ends b h stream goes_on kept c.read_piece.ensures.told.others (done.desk b h s) stream [] c.finish.result (lines stream) (sym (append-nil stream)) (omega arith)
          (read_all_lines (g.P.Ends.seen c.finish.new.port).ended stream out) (λ x sx. c.finish.ensures.served stream b x took sx),
    )

pub returns-in-Err-take-clause-desk : goal.returns-in-Err-take-clause-desk
returns-in-Err-take-clause-desk g c =
    let done = c.pieces.invariant.done in
    let stream = done.stream in
    let kept = c.pieces.invariant.kept in
    let took = subst (λ (t : List ℕ). TookStream (meaning t) stream c.pieces.state) (sym kept.text) done.took in
    let goes_on = done.took.taken.goes_on in
    let piece : List ℕ = take c.in-Ok.count c.read_piece.new.buffer in
    let size : length piece ≤ c.in-Ok.count = omega (arith, length-take c.in-Ok.count c.read_piece.new.buffer) in
    let room : c.min-most.result ≤ input_limit - length stream = omega (arith, c.min-most.ensures, c.room.ensures, done.took.count) in
    let fits : length piece ≤ input_limit - length stream = omega (arith, size, c.in-Ok.ensures.bound, room) in
    let short : length piece ≤ 4096 = omega (arith, size, c.in-Ok.ensures.bound, c.min-most.ensures) in
    let told = c.in-Ok.ensures.told in
    let end = c.in-Err-take.end in
    let port = c.in-Err-take.ensures.port in
    let all = all_in_limit stream piece fits in
    let not_ended = ap (λ (p : PortSeen). p.ended) port.rest ∙ told.end.1 (λ none. absurd (c.in-Ok.count-test.1 none)) ∙ done.not_ended in (
      stream ++ piece,
      record {
        taken = read_more _ _ _ stream piece done.taken (told.bytes.0 ∙ ap (prepend_known piece) (sym (ap (λ (p : PortSeen). p.left) port.rest)));
        out = λ out. absurd (cc);
        cause = ended_by end stream piece c.take.new.self _ _ _ (c.in-Err-take.ensures.taken stream took) all goes_on not_ended short done.took.short fits
            (λ is. rose_earlier _ _ _ done.writes (subst (λ n. Rose n (g.P.Ends.seen c.take.new.port).write_faults) (ap (λ (p : PortSeen). p.write_faults) c.read_piece.ensures.told.others.rest) (port.rose (ap Err is))));
      },
      λ b h s. desk_ends b h stream goes_on kept c.read_piece.ensures.told.others (done.desk b h s) (stream ++ piece) piece end (ended_lines (stream ++ piece)) refl short
          (read_lines (g.P.Ends.seen c.take.new.port).ended (stream ++ piece) not_ended)
          (λ x sx. served_all (Err end) stream piece all (c.in-Err-take.ensures.served stream b x took sx)),
    )

pub pieces-preserved : goal.pieces-preserved
pieces-preserved g c =
    let done = c.pieces.invariant.done in
    let stream = done.stream in
    let kept = c.pieces.invariant.kept in
    let took = subst (λ (t : List ℕ). TookStream (meaning t) stream c.pieces.state) (sym kept.text) done.took in
    let goes_on = done.took.taken.goes_on in
    let piece : List ℕ = take c.in-Ok.count c.read_piece.new.buffer in
    let size : length piece ≤ c.in-Ok.count = omega (arith, length-take c.in-Ok.count c.read_piece.new.buffer) in
    let room : c.min-most.result ≤ input_limit - length stream = omega (arith, c.min-most.ensures, c.room.ensures, done.took.count) in
    let fits : length piece ≤ input_limit - length stream = omega (arith, size, c.in-Ok.ensures.bound, room) in
    let told = c.in-Ok.ensures.told in
    let port = c.in_default.ensures.port in
    let all = all_in_limit stream piece fits in
    let now = subst (λ (t : List ℕ). TookStream (meaning t) (stream ++ piece) c.take.new.self) kept.text (c.in_default.ensures.taken stream took) in
    record {
      kept = kept_more kept c.in_default.ensures.kept;
      done = record {
        stream = stream ++ piece;
        took = now;
        taken = read_more _ _ _ stream piece done.taken (told.bytes.0 ∙ ap (prepend_known piece) (sym (ap (λ (p : PortSeen). p.left) port.rest)));
        not_ended = ap (λ (p : PortSeen). p.ended) port.rest ∙ told.end.1 (λ none. absurd (c.in-Ok.count-test.1 none)) ∙ done.not_ended;
        reads = omega (arith, done.reads, told.cause.later, ap (λ (p : PortSeen). p.read_faults) port.rest);
        writes = omega (arith, done.writes, ap (λ (p : PortSeen). p.write_faults) c.read_piece.ensures.told.others.rest, port.later);
        desk = λ b h s. desk_goes b h stream goes_on kept c.read_piece.ensures.told.others (done.desk b h s) (ended_lines (stream ++ piece)) now.taken.goes_on
            (λ x sx. served_all (Ok tt) stream piece all (c.in_default.ensures.served stream b x took sx));
      };
    }
