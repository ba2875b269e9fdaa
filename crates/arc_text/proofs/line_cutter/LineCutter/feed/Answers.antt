use Rattle.std.proofs.Common.{◌≡◌, ◌+◌, ◌∷◌, ◌++◌, [], Some, ℕ, List, length, take, get_or, sym, ◌∙◌, ap, subst, arith}
use Rattle.std.specs.List.{position}
use Rattle.std.proofs.lemmas.Bool.{eqb-true}
use Rattle.std.proofs.lemmas.List.{take_all, take_more}
use Rattle.std.proofs.lemmas.List.Quantifiers.{position-Some}
use Rattle.arc_text.specs.Lines.{is_feed}
use Rattle.arc_text.specs.LineCutting.{Feeds}
use Rattle.arc_text.proofs.LineCutterLaws.{run_of_none, run_of_some, feeds_run, feeds_line}
use Rattle.arc_text.proofs.line_cutter.LineCutter.feed.Goals as goal

pub keep-requires : goal.keep-requires
keep-requires c = run_of_some c.args.piece.now c.in-Some.at (sym c.first_feed.ensures ∙ c.in-Some.is)

pub keep-requires-in-None : goal.keep-requires-in-None
keep-requires-in-None c = run_of_none c.args.piece.now (sym c.first_feed.ensures ∙ c.in-None.is)

pub returns-in-Some-clause-feeds : goal.returns-in-Some-clause-feeds
returns-in-Some-clause-feeds c stream fed =
    let piece : List ℕ = c.args.piece.now in
    let at : ℕ = c.in-Some.at in
    let found : position is_feed piece ≡ Some at = sym c.first_feed.ensures ∙ c.in-Some.is in
    let p = position-Some is_feed piece at 0 found in
    let one : take (at + 1) piece ≡ take at piece ++ 10 ∷ [] = take_more piece at 0 p.0 ∙ ap (λ (b : ℕ). take at piece ++ b ∷ []) (eqb-true (get_or piece at 0) 10 p.1) in
    subst (λ (l : List ℕ). Feeds stream l (Some c.close.result) c.close.new.self) (sym one)
    (feeds_line stream (take at piece) c.close.result c.close.new.self (run_of_some piece at found) (c.close.ensures.feeds (stream ++ take at piece) (c.keep.ensures.fed stream fed)))

pub returns-in-None-clause-feeds : goal.returns-in-None-clause-feeds
returns-in-None-clause-feeds c stream fed =
    let piece : List ℕ = c.args.piece.now in
    let none = run_of_none piece (sym c.first_feed.ensures ∙ c.in-None.is) in
    let all : take (length piece) piece ≡ piece = take_all (length piece) piece (omega arith) in
    rw all (feeds_run stream piece c.keep-in-None.new.self none (c.keep-in-None.ensures.fed stream fed))
