use Rattle.std.proofs.Common.{◌≡◌, ◌≤◌, ◌<◌, ◌+◌, ℕ, List, length, take, sym, subst, ap, ◌∙◌, false, IfOk, IfErr, Result, Err, arith}
use Rattle.std.proofs.lemmas.Result.{err_from_is_err_and}
use Rattle.std.specs.Io.KnownBytes.{append_known}
use Rattle.centre_rules.specs.History.{Entry}
use Rattle.centre_rules.specs.Summary.{Summary}
use Rattle.centre_store.specs.Followings.{ShowsOfReplay}
use Rattle.centre_store.specs.Stores.{StoreStands}
use Rattle.session_rules.specs.Inputs.{input_limit}
use Rattle.mirror_centre.specs.Following.{ReadsAnswer, TakesNone, TakesTurn, outcome_of}
use Rattle.mirror_centre.specs.Follows.{have}
use Rattle.mirror_centre.specs.Messages.{ask_text}
use Rattle.mirror_centre.specs.declared.follow_end.FollowEnd.{FollowEnd}
use Rattle.mirror_centre.proofs.Asks.{left_same, writes_on}
use Rattle.mirror_centre.proofs.Outcomes.{IsAsked, TookSo, err_each, have_is, if_on, none_asked, none_read, ok_each, some_read, took_none, took_turn}
use Rattle.mirror_centre.proofs.asking.take_one.Goals as goal

pub returns-in-Err-clause-none : goal.returns-in-Err-clause-none
returns-in-Err-clause-none g c b h s =
    let p = g.P.Ends.seen c.args.port.now in
    let q = g.P.Ends.seen c.put.new.sink in
    let e = c.in-Err.ensures in
    let ask : c.ask-ask.result ≡ ask_text (have b h) = c.ask-ask.ensures ∙ ap ask_text (have_is s) in
    let wrote : q.written ≡ append_known p.written (take e.taken.0 (ask_text (have b h))) =
    e.taken.2 ∙ ap (λ (l : List ℕ). append_known p.written (take e.taken.0 l)) ask in
    let short : e.taken.0 < 9 = subst (λ (l : List ℕ). e.taken.0 < length l) ask e.taken.1 in (
      s,
      none_asked (λ body stop. ShowsOfReplay g.D.Disk.seen c.args.mirror.now body stop) b h c.args.after c.args.taken e.taken.0 p q c.requires.few short wrote
          (left_same p q e.others) (writes_on p q e.others e.cause.later) e.cause.failed,
    )

pub returns-in_err-message-clause-none : goal.returns-in_err-message-clause-none
returns-in_err-message-clause-none g c =
    let e = err_from_is_err_and c.from_residual.result c.from_residual.ensures.1 in
    let end : FollowEnd = c.in_err-message.field-0.0 in
    let same : c.from_residual.result ≡ Err end = e.1 ∙ ap Err e.2 in
    rw same (λ b h s.
    let p = g.P.Ends.seen c.args.port.now in
    let q = g.P.Ends.seen c.put.new.sink in
    let r = g.P.Ends.seen c.read_answer.new.port in
    let put = c.in_default.ensures in
    let ask : c.ask-ask.result ≡ ask_text (have b h) = c.ask-ask.ensures ∙ ap ask_text (have_is s) in
    let asked : IsAsked (have b h) p q =
    record {
      wrote = subst (λ (l : List ℕ). q.written ≡ append_known p.written l) ask put.taken;
      left = left_same p q put.others;
      goes = writes_on p q put.others put.cause.later;
    } in (
      s,
      none_read (λ body stop. ShowsOfReplay g.D.Disk.seen c.args.mirror.now body stop) b h end c.args.after c.args.taken p q r asked
          c.read_answer.ensures.only c.read_answer.ensures.later c.in_err-message.ensures.none,
    ))

pub returns : goal.returns
returns g c =
    let seen = g.D.Disk.seen in
    let p = g.P.Ends.seen c.args.port.now in
    let q = g.P.Ends.seen c.put.new.sink in
    let r = g.P.Ends.seen c.read_answer.new.port in
    let put = c.in_default.ensures in
    let message : List ℕ = c.deref.result.now in
    let same_text : message ≡ c.in_ok-message.message.items = c.deref.ensures.value in
    let read : ReadsAnswer c.args.taken message q r = subst (λ (l : List ℕ). ReadsAnswer c.args.taken l q r) (sym same_text) c.in_ok-message.ensures.read in
    let k = c.take-took.result in
    let e = c.take-took.ensures in
    let old = c.args.mirror.now in
    let new = c.take-took.new.self in
    let asked : (b : Summary) (h : List Entry) → StoreStands seen b old h → IsAsked (have b h) p q = λ b h s.
    let ask : c.ask-ask.result ≡ ask_text (have b h) = c.ask-ask.ensures ∙ ap ask_text (have_is s) in
    record {
      wrote = subst (λ (l : List ℕ). q.written ≡ append_known p.written l) ask put.taken;
      left = left_same p q put.others;
      goes = writes_on p q put.others put.cause.later;
    } in
    let so : (b : Summary) (h : List Entry) → StoreStands seen b old h → TookSo seen b h old new message k = λ b h s.
    record {
      told = e.told;
      added = λ is. let a = e.added is in (a.0, a.1, a.2 b h s);
      strange = λ is body next. e.strange is body next b h s;
      cause = e.cause;
      stands = λ other. e.stands other b h s;
    } in
    let whole : ℕ = length message in
    let size : c.len.result ≡ whole = omega (arith, c.len.ensures, c.deref.ensures.len, ap (λ (l : List ℕ). length l) same_text) in
    let same : c.outcome_of.result ≡ outcome_of k whole c.args.after = c.outcome_of.ensures ∙ ap (λ (n : ℕ). outcome_of k n c.args.after) size in
    record {
      turn = subst (λ (o : Result ℕ FollowEnd). IfOk o (λ size. (b : Summary) (h : List Entry) → StoreStands seen b old h → TakesTurn seen b h new size p r)) (sym same)
          (ok_each (λ b h. StoreStands seen b old h) (λ size b h. TakesTurn seen b h new size p r) (outcome_of k whole c.args.after)
          (λ b h s. took_turn seen b h old new message c.args.taken c.args.after p q r s (asked b h s) read c.read_answer.ensures.only c.read_answer.ensures.later k (so b h s)));
      none = subst (λ (o : Result ℕ FollowEnd). IfErr o (λ end. (b : Summary) (h : List Entry) → StoreStands seen b old h
          → StoreStands seen b new h × TakesNone (λ body stop. ShowsOfReplay seen new body stop) end b h c.args.after c.args.taken p r)) (sym same)
          (err_each (λ b h. StoreStands seen b old h)
          (λ end b h. StoreStands seen b new h × TakesNone (λ body stop. ShowsOfReplay seen new body stop) end b h c.args.after c.args.taken p r) (outcome_of k whole c.args.after)
          (λ b h s. took_none seen b h old new message c.args.taken c.args.after p q r s (asked b h s) read c.read_answer.ensures.only c.read_answer.ensures.later k (so b h s)));
      few = subst (λ (o : Result ℕ FollowEnd). IfOk o (λ size. c.args.taken + size ≤ input_limit)) (sym same)
          (if_on (λ size. c.args.taken + size ≤ input_limit) k whole c.args.after read.most);
      some = subst (λ (o : Result ℕ FollowEnd). IfOk o (λ size. 0 < size)) (sym same)
          (if_on (λ size. 0 < size) k whole c.args.after (some_read c.args.taken message q r read));
      not_ended = subst (λ (o : Result ℕ FollowEnd). IfOk o (λ _. r.ended ≡ false)) (sym same)
          (if_on (λ size. r.ended ≡ false) k whole c.args.after read.not_ended);
      at_open = e.at_open;
      limits = e.limits;
      later = e.later;
    }
