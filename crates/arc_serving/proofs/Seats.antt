-- Doors that are taken into jobs, and put back.
use Rattle.std.proofs.Common.{◌≡◌, ◌≤◌, ℕ, List, [], ◌∷◌, ◌++◌, Option, Some, None, refl, sym, ap, ◌∙◌, subst, arith, append_assoc, append-nil}
use Rattle.std.proofs.lemmas.Grind.{flat_map-append}
use Rattle.std.proofs.lemmas.List.{map-append, reverse-append, reverse-reverse}
use Rattle.std.proofs.lemmas.List.Elements.{All-nil, All-cons, All-push, All-weaker}
use Rattle.std.specs.Option.{option_to_list}
use Rattle.std.specs.Prelude.{All, map, reverse}
use Rattle.arc_doors.specs.Doors.{DoorSeen}
use Rattle.arc_serving.specs.declared.working.Worked.{Worked}
use Rattle.line_gate.proofs.Carried.{later_self, later_further}
use Rattle.line_gate.proofs.Histories.{extends_further}
use Rattle.line_gate.specs.Passes.{PassSeen, IsPass, IsLater}
use Rattle.line_gate.specs.Terms.{Terms}
use Rattle.arc_serving.specs.Jobs.{JobSeen, IsReady, AreRising, AreSeated, SeatsOne, HasTaken, IsTaken, AreUnseated, doors_in, numbers_in, passes_in, worked_in}
use Rattle.arc_serving.proofs.Lists.{reverse_option, rising_more, rising_wider}

-- no door was taken yet
pub none_seated : (t : Terms) (left : List DoorSeen) (n : ℕ) → AreSeated t (reverse left) left [] n n
none_seated t left n = record { parts = refl; ready = All-nil (IsReady t); rising = omega arith }

-- the passes of jobs, of which the last has this one
passes_more : (jobs : List JobSeen) (j : JobSeen) (p : PassSeen) → j.pass ≡ Some p → passes_in (jobs ++ j ∷ []) ≡ passes_in jobs ++ p ∷ []
passes_more jobs j p is = flat_map-append (λ (x : JobSeen). option_to_list x.pass) jobs (j ∷ [])
    ∙ ap (λ (l : List PassSeen). passes_in jobs ++ l) (append-nil (option_to_list j.pass) ∙ ap option_to_list is)

-- one door more was taken
pub one_seated : (t : Terms) (doors left left' : List DoorSeen) (jobs jobs' : List JobSeen) (low mid high : ℕ) → AreSeated t doors left jobs low mid
    → SeatsOne t left left' jobs jobs' mid high → AreSeated t doors left' jobs' low high
one_seated t doors left left' jobs jobs' low mid high w one =
    let j = one.job in
    let p = one.pass in
    let back : reverse left ≡ j.door ∷ reverse left' = ap reverse one.door ∙ reverse-append left' (j.door ∷ []) in
    let taken : doors_in jobs' ≡ doors_in jobs ++ j.door ∷ [] = ap doors_in one.jobs_is ∙ map-append (λ (x : JobSeen). x.door) jobs (j ∷ []) in
    let numbers : numbers_in jobs' ≡ numbers_in jobs ++ p.number ∷ [] =
    ap numbers_in one.jobs_is ∙ ap (map (λ (q : PassSeen). q.number)) (passes_more jobs j p one.pass_is) ∙ map-append (λ (q : PassSeen). q.number) (passes_in jobs) (p ∷ []) in record {
      parts = w.parts ∙ ap (λ (l : List DoorSeen). doors_in jobs ++ l) back ∙ sym (append_assoc (doors_in jobs) (j.door ∷ []) (reverse left'))
          ∙ ap (λ (l : List DoorSeen). l ++ reverse left') (sym taken);
      ready = subst (λ (l : List JobSeen). All (IsReady t) l) (sym one.jobs_is) (All-push (IsReady t) jobs j w.ready (p, one.pass_is, one.fresh));
      rising = subst (λ (l : List ℕ). AreRising low l high) (sym numbers) (rising_more low (numbers_in jobs) mid high p.number w.rising one.above one.below);
    }

-- none was taken, where there was no memory
pub still_seated : (t : Terms) (doors left left' : List DoorSeen) (jobs jobs' : List JobSeen) (low mid high : ℕ) → AreSeated t doors left jobs low mid
    → left' ≡ left → jobs' ≡ jobs → mid ≤ high → AreSeated t doors left' jobs' low high
still_seated t doors left left' jobs jobs' low mid high w same none le = record {
  parts = w.parts ∙ ap (λ (l : List DoorSeen). doors_in jobs ++ reverse l) (sym same) ∙ ap (λ (js : List JobSeen). doors_in js ++ reverse left') (sym none);
  ready = subst (λ (js : List JobSeen). All (IsReady t) js) (sym none) w.ready;
  rising = subst (λ (js : List JobSeen). AreRising low (numbers_in js) high) (sym none) (rising_wider low (numbers_in jobs) mid high w.rising le);
}

-- What was taken in by a pass was taken in by a later one.

pub taken_later : (p q r : PassSeen) → IsLater p q → HasTaken p r → HasTaken q r
taken_later p q r later w = record { since = extends_further r.since p.since q.since w.since later.since; told = (let l = w.told in let m = later.told in omega arith) }

is_taken_later : (p q : PassSeen) (o : Option PassSeen) → IsLater p q → IsTaken p o → IsTaken q o
is_taken_later p q None later w = tt
is_taken_later p q (Some r) later w = taken_later p q r later w

-- Of all jobs the last ones are done with: their doors stand behind those that were left, the last one first, and what came of them in the
-- same way.
pub record SoFar (first : PassSeen) (all jobs : List JobSeen) (left doors : List DoorSeen) (came : List Worked) : Type 0 where
  pub done : List JobSeen
  pub all_is : all ≡ jobs ++ done
  pub doors_is : doors ≡ left ++ reverse (doors_in done)
  pub came_is : came ≡ reverse (worked_in done)
  pub taken : All (λ (j : JobSeen). IsTaken first j.pass) done

pub none_done : (first : PassSeen) (jobs : List JobSeen) (left : List DoorSeen) (came : List Worked) → came ≡ [] → SoFar first jobs jobs left left came
none_done first jobs left came none = record {
  done = [];
  all_is = sym (append-nil jobs);
  doors_is = sym (append-nil left);
  came_is = none;
  taken = All-nil (λ (j : JobSeen). IsTaken first j.pass);
}

pub one_done : (p q : PassSeen) (all jobs jobs' : List JobSeen) (j : JobSeen) (left doors doors' : List DoorSeen) (came came' : List Worked) → SoFar p all jobs left doors came
    → jobs ≡ jobs' ++ j ∷ [] → IsLater p q → IsTaken q j.pass → doors' ≡ doors ++ j.door ∷ [] → came' ≡ came ++ option_to_list j.worked → SoFar q all jobs' left doors' came'
one_done p q all jobs jobs' j left doors doors' came came' w last later taken door worked =
    let done = w.done in record {
      done = j ∷ done;
      all_is = w.all_is ∙ ap (λ (l : List JobSeen). l ++ done) last ∙ append_assoc jobs' (j ∷ []) done;
      doors_is = door ∙ ap (λ (l : List DoorSeen). l ++ j.door ∷ []) w.doors_is ∙ append_assoc left (reverse (doors_in done)) (j.door ∷ [])
          ∙ ap (λ (l : List DoorSeen). left ++ l) (sym (reverse-append (j.door ∷ []) (doors_in done)));
      came_is = worked ∙ ap (λ (l : List Worked). l ++ option_to_list j.worked) w.came_is ∙ ap (λ (l : List Worked). reverse (worked_in done) ++ l) (sym (reverse_option j.worked))
          ∙ sym (reverse-append (option_to_list j.worked) (worked_in done));
      taken = All-cons (λ (x : JobSeen). IsTaken q x.pass) j done taken (All-weaker (λ (x : JobSeen). IsTaken p x.pass) (λ (x : JobSeen). IsTaken q x.pass) (λ x. is_taken_later p q x.pass later) done w.taken);
    }

-- and in the end all are
pub all_done : (p : PassSeen) (all jobs : List JobSeen) (left doors : List DoorSeen) (came : List Worked) → SoFar p all jobs left doors came → jobs ≡ []
    → AreUnseated p all left (reverse doors) × (reverse came ≡ worked_in all)
all_done p all jobs left doors came w none =
    let same : all ≡ w.done = w.all_is ∙ ap (λ (l : List JobSeen). l ++ w.done) none in (
      record {
        parts = ap reverse w.doors_is ∙ reverse-append left (reverse (doors_in w.done)) ∙ ap (λ (l : List DoorSeen). l ++ reverse left) (reverse-reverse (doors_in w.done))
            ∙ ap (λ (js : List JobSeen). doors_in js ++ reverse left) (sym same);
        taken = subst (λ (js : List JobSeen). All (λ (j : JobSeen). IsTaken p j.pass) js) (sym same) w.taken;
      },
      ap reverse w.came_is ∙ reverse-reverse (worked_in w.done) ∙ ap worked_in (sym same),
    )

-- later passes have taken in as much
pub unseated_later : (p q : PassSeen) (jobs : List JobSeen) (left doors : List DoorSeen) → IsLater p q → AreUnseated p jobs left doors → AreUnseated q jobs left doors
unseated_later p q jobs left doors later w = record {
  parts = w.parts;
  taken = All-weaker (λ (x : JobSeen). IsTaken p x.pass) (λ (x : JobSeen). IsTaken q x.pass) (λ x. is_taken_later p q x.pass later) jobs w.taken;
}

-- Seating so far: the doors and jobs of a list at each moment.
pub record SeatingSoFar (t : Terms) (doors left : List DoorSeen) (jobs : List JobSeen) (was first : PassSeen) : Type 0 where
  pub seated : AreSeated t doors left jobs was.count first.count
  pub pass : IsPass t first
  pub later : IsLater was first

pub seating_none : (t : Terms) (left : List DoorSeen) (jobs : List JobSeen) (first : PassSeen) → IsPass t first → jobs ≡ [] → SeatingSoFar t (reverse left) left jobs first first
seating_none t left jobs first pass none = record {
  seated = still_seated t (reverse left) left left [] jobs first.count first.count first.count (none_seated t left first.count) refl none (omega arith);
  pass = pass;
  later = later_self first;
}

pub seating_more : (t : Terms) (doors left left' : List DoorSeen) (jobs jobs' : List JobSeen) (was p q : PassSeen) → SeatingSoFar t doors left jobs was p
    → SeatsOne t left left' jobs jobs' p.count q.count → IsPass t q → IsLater p q → SeatingSoFar t doors left' jobs' was q
seating_more t doors left left' jobs jobs' was p q w one pass later = record {
  seated = one_seated t doors left left' jobs jobs' was.count p.count q.count w.seated one;
  pass = pass;
  later = later_further was p q w.later later;
}

pub seating_still : (t : Terms) (doors left left' : List DoorSeen) (jobs jobs' : List JobSeen) (was p q : PassSeen) → SeatingSoFar t doors left jobs was p
    → left' ≡ left → jobs' ≡ jobs → IsPass t q → IsLater p q → SeatingSoFar t doors left' jobs' was q
seating_still t doors left left' jobs jobs' was p q w same none pass later = record {
  seated = still_seated t doors left left' jobs jobs' was.count p.count q.count w.seated same none later.count;
  pass = pass;
  later = later_further was p q w.later later;
}
