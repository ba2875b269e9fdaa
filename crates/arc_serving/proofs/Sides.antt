-- The workers of a side that ran, from their jobs before and after.
use Rattle.std.proofs.Common.{◌≡◌, ℕ, suc, List, [], ◌∷◌, ◌++◌, Option, Some, length, refl, sym, ap, ◌∙◌, subst}
use Rattle.std.proofs.lemmas.List.Elements.{All-nil, All-cons, All-head, All-tail}
use Rattle.std.specs.List.{AllZip}
use Rattle.std.specs.Option.{option_to_list}
use Rattle.std.specs.Prelude.{All, MatchOption, map}
use Rattle.arc_serving.specs.declared.side.Side.{Side}
use Rattle.line_gate.specs.Passes.{PassSeen}
use Rattle.line_gate.specs.Terms.{Terms}
use Rattle.arc_serving.specs.declared.working.Worked.{Worked}
use Rattle.arc_doors.specs.Doors.{DoorSeen}
use Rattle.arc_serving.specs.Jobs.{JobSeen, IsReady, IsJobDone, WorksJob, HasTaken, IsTaken, doors_in, numbers_in, passes_in, worked_in}
use Rattle.arc_serving.specs.Ran.{WorkerRan, IsWorkerRan}
use Rattle.arc_serving.proofs.Links.{no_count_falls}

abbrev pub ended_in : List WorkerRan → List PassSeen
ended_in ran = map (λ w. w.ended) ran

-- jobs that were ready, done and then taken in are workers that ran
pub record SideRan (side : Side) (t : Terms) (sessions : ℕ) (last : PassSeen) (olds news : List JobSeen) : Type 0 where
  pub ran : List WorkerRan
  pub count : length ran ≡ length olds
  pub doors : doors_in olds ≡ map (λ w. w.door) ran
  pub doors' : doors_in news ≡ map (λ w. w.door') ran
  pub came : worked_in news ≡ map (λ w. w.worked) ran
  pub numbers : numbers_in olds ≡ map (λ p. p.number) (ended_in ran)
  pub each : All (λ (w : WorkerRan). IsWorkerRan side t sessions w) ran
  pub taken : All (λ (p : PassSeen). HasTaken last p) (ended_in ran)

abbrev worker_of : (p : PassSeen) (old new : JobSeen) (q : PassSeen) (worked : Worked) → WorkerRan
worker_of p old new q worked = record { began = p; ended = q; door = old.door; door' = new.door; worked = worked }

done_from : (side : Side) (t : Terms) (sessions : ℕ) (old new : JobSeen) (p : PassSeen) → old.pass ≡ Some p → IsJobDone side t sessions old new → WorksJob side t sessions p old new
done_from side t sessions old new p is done = subst (λ (o : Option PassSeen). MatchOption o (new ≡ old) (λ r. WorksJob side t sessions r old new)) is done

taken_from : (last : PassSeen) (o : Option PassSeen) (q : PassSeen) → o ≡ Some q → IsTaken last o → HasTaken last q
taken_from last o q is w = subst (λ (x : Option PassSeen). IsTaken last x) is w

one_more : (side : Side) (t : Terms) (sessions : ℕ) (last : PassSeen) (old new : JobSeen) (olds news : List JobSeen) → IsReady t old → IsJobDone side t sessions old new
    → IsTaken last new.pass → SideRan side t sessions last olds news → SideRan side t sessions last (old ∷ olds) (new ∷ news)
one_more side t sessions last old new olds news ready done taken more =
    let p = ready.0 in
    let d = done_from side t sessions old new p ready.1 done in
    let w : WorkerRan = worker_of p old new d.pass d.worked in record {
      ran = w ∷ more.ran;
      count = ap suc more.count;
      doors = ap (λ (l : List DoorSeen). old.door ∷ l) more.doors;
      doors' = ap (λ (l : List DoorSeen). new.door ∷ l) more.doors';
      came = ap (λ (o : Option Worked). option_to_list o ++ worked_in news) d.worked_is ∙ ap (λ (l : List Worked). d.worked ∷ l) more.came;
      numbers = ap (λ (o : Option PassSeen). map (λ (x : PassSeen). x.number) (option_to_list o ++ passes_in olds)) ready.1 ∙ ap (λ (l : List ℕ). p.number ∷ l) more.numbers
          ∙ ap (λ (n : ℕ). n ∷ map (λ (x : PassSeen). x.number) (ended_in more.ran)) (sym (no_count_falls side t p d.pass d.works.served d.works.each).0);
      each = All-cons (λ (x : WorkerRan). IsWorkerRan side t sessions x) w more.ran (record { fresh = ready.2; works = d.works }) more.each;
      taken = All-cons (λ (x : PassSeen). HasTaken last x) d.pass (ended_in more.ran) (taken_from last new.pass d.pass d.pass_is taken) more.taken;
    }

pub side_ran : (side : Side) (t : Terms) (sessions : ℕ) (last : PassSeen) (olds news : List JobSeen) → All (IsReady t) olds → AllZip (IsJobDone side t sessions) olds news
    → All (λ (j : JobSeen). IsTaken last j.pass) news → SideRan side t sessions last olds news
side_ran side t sessions last [] [] ready done taken = record {
  ran = [];
  count = refl;
  doors = refl;
  doors' = refl;
  came = refl;
  numbers = refl;
  each = All-nil (λ (w : WorkerRan). IsWorkerRan side t sessions w);
  taken = All-nil (λ (p : PassSeen). HasTaken last p);
}
side_ran side t sessions last [] (new ∷ news) ready done taken = absurd done
side_ran side t sessions last (old ∷ olds) [] ready done taken = absurd done
side_ran side t sessions last (old ∷ olds) (new ∷ news) ready done taken =
    one_more side t sessions last old new olds news (All-head (IsReady t) old olds ready) done.0 (All-head (λ (j : JobSeen). IsTaken last j.pass) new news taken)
    (side_ran side t sessions last olds news (All-tail (IsReady t) old olds ready) done.1 (All-tail (λ (j : JobSeen). IsTaken last j.pass) new news taken))
