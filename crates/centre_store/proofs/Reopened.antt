-- What a store stands for that was opened again over what areas gave then, said over the summary from before.
use Rattle.std.proofs.Common.{◌≡◌, ◌≤◌, ◌<◌, ℕ, List, [], ◌∷◌, ◌++◌, Bool, true, false, cond, map, reverse, length, Option, Some, None, ⊎_elim, refl, sym, ap, subst, ◌∙◌, arith, length-append}
use Rattle.std.proofs.lemmas.List.{length-map}
use Rattle.std.proofs.lemmas.Bool.{cases_lt}
use Rattle.arc_io.specs.Areas.{Areas}
use Rattle.arc_io.specs.Disks.{DiskSeen}
use Rattle.centre_laws.proofs.Summed.{summary_tells}
use Rattle.centre_laws.specs.Summaries.{GoesOnAlike}
use Rattle.centre_rules.proofs.Quiet.{next_alike}
use Rattle.centre_rules.proofs.Sames.{same_trans}
use Rattle.centre_rules.specs.Answers.{IsLegal, IsNext}
use Rattle.centre_rules.specs.History.{Entry, IsMoment, is_recorded, marks, marked, last, recorded}
use Rattle.centre_rules.specs.Marks.{Mark}
use Rattle.centre_rules.specs.State.{Same, State, StandsFor}
use Rattle.centre_rules.specs.Summary.{Summary}
use Rattle.centre_rules.specs.Sums.{summary_of}
use Rattle.disk_journal.specs.Journal.{Holds, IsOpen}
use Rattle.disk_journal.specs.Standing.{AreasStand, all_of, chosen_part}
use Rattle.disk_journal.specs.declared.journal.Journal.{Journal}
use Rattle.disk_journal.proofs.Once.{one_standing}
use Rattle.disk_journal.proofs.Opens.{no_body}
use Rattle.centre_store.specs.Bodies.{body_in, bodies_in, AreNamedIn}
use Rattle.centre_store.specs.Given.{IsGiven, IsKeptAs, StandFor}
use Rattle.centre_store.specs.Openings.{IsRestored}
use Rattle.centre_store.specs.Writes.{HaveAllIn}
use Rattle.centre_store.specs.Pasts.{AreKept, IsPast}
use Rattle.centre_store.proofs.Bodies.{kept_event}
use Rattle.centre_store.proofs.NextSummary.{bodies_count, no_items}
use Rattle.centre_store.proofs.PastOnce.{one_past}
pub use Rattle.centre_store.proofs.Recorded.{recorded_both, summary_recorded}
use Rattle.centre_store.proofs.Recorded.{legal_rest, legal_over}
use Rattle.centre_store.proofs.Summed.{first_once}

module _ (base : Summary) (summed k : List Entry) (legal : IsLegal base summed) where
  alike : GoesOnAlike (summary_of base summed) k base (k ++ summed)
  alike = summary_tells base summed k legal

  -- a state that stands for entries over the summary of others stands for all of them
  pub stands_over : (s : State) → length (recorded summed) ≡ length summed → StandsFor (summary_of base summed) s k → StandsFor base s (k ++ summed)
  stands_over s each w = record {
    legal = alike.legal.0 w.legal;
    entries = omega (arith, w.entries, each, length-append k summed);
    recorded = w.recorded ∙ alike.counts;
    last = w.last ∙ alike.lasts;
    same = same_trans w.same alike.tells;
  }

-- Histories without quiet entries.

abbrev AllRecorded : List Entry → Type 0
AllRecorded [] = Unit {0}
AllRecorded (e ∷ h) = (is_recorded e.reply ≡ true) × AllRecorded h

fewer_step : (e : Entry) (h : List Entry) (t : Bool) → length (recorded h) ≤ length h → length (cond t (e ∷ recorded h) (recorded h)) ≤ length (e ∷ h)
fewer_step e h true le = omega (arith, le)
fewer_step e h false le = omega (arith, le)

pub fewer : (h : List Entry) → length (recorded h) ≤ length h
fewer [] = omega arith
fewer (e ∷ h) = fewer_step e h (is_recorded e.reply) (fewer h)

all_step : (e : Entry) (h : List Entry) (t : Bool) → is_recorded e.reply ≡ t → length (e ∷ h) ≤ length (cond t (e ∷ recorded h) (recorded h))
    → (is_recorded e.reply ≡ true) × (length h ≤ length (recorded h))
all_step e h true is le = (is, omega (arith, le))
all_step e h false is le = absurd (omega (arith, le, fewer h))

all_of_long : (h : List Entry) → length h ≤ length (recorded h) → AllRecorded h
all_of_long [] le = tt
all_of_long (e ∷ h) le =
    let w = all_step e h (is_recorded e.reply) refl le in
    (w.0, all_of_long h w.1)

count_all : (h : List Entry) → AllRecorded h → length (recorded h) ≡ length h
count_all [] all = refl
count_all (e ∷ h) all = ap (λ (t : Bool). length (cond t (e ∷ recorded h) (recorded h))) all.0 ∙ (omega (arith, count_all h all.1))

all_first : (k l : List Entry) → AllRecorded (k ++ l) → AllRecorded k
all_first [] l all = tt
all_first (e ∷ k) l all = (all.0, all_first k l all.1)

all_rest : (k l : List Entry) → AllRecorded (k ++ l) → AllRecorded l
all_rest [] l all = all
all_rest (e ∷ k) l all = all_rest k l all.1

all_kept : (h : List Entry) → AreKept h → AllRecorded h
all_kept [] kept = tt
all_kept (e ∷ h) kept = (kept.0.recorded, all_kept h kept.1)

all_recorded : (h : List Entry) → AllRecorded h → recorded h ≡ h
all_recorded [] all = refl
all_recorded (e ∷ h) all = ap (λ (t : Bool). cond t (e ∷ recorded h) (recorded h)) all.0 ∙ ap (λ (l : List Entry). e ∷ l) (all_recorded h all.1)

pub kept_whole : (h : List Entry) → AreKept h → recorded h ≡ h
kept_whole h kept = all_recorded h (all_kept h kept)

-- Callers enter nothing that is kept.

abbrev plain : Entry → Entry
plain e = record e { caller = 0 }

abbrev plainly : List Entry → List Entry
plainly h = map plain h

plain_marks : (b : Summary) (h : List Entry) → marks b (plainly h) ≡ marks b h
plain_marks b [] = refl
plain_marks b (e ∷ h) = ap (marked b e) (plain_marks b h)

plain_last : (b : Summary) (h : List Entry) → last b (plainly h) ≡ last b h
plain_last b [] = refl
plain_last b (e ∷ h) = ap (λ (n : ℕ). cond (is_recorded e.reply) e.at n) (plain_last b h)

plain_all : (h : List Entry) → AllRecorded h → AllRecorded (plainly h)
plain_all [] all = tt
plain_all (e ∷ h) all = (all.0, plain_all h all.1)

plain_map : (version : ℕ) (h : List Entry) → map (body_in version) (plainly h) ≡ map (body_in version) h
plain_map version [] = refl
plain_map version (e ∷ h) = ap (λ (l : List (List ℕ)). body_in version e ∷ l) (plain_map version h)

plain_bodies : (version : ℕ) (h : List Entry) → AllRecorded h → bodies_in version (plainly h) ≡ bodies_in version h
unfolding bodies_in
plain_bodies version h all =
    ap (λ (l : List Entry). reverse (map (body_in version) l)) (all_recorded (plainly h) (plain_all h all)) ∙ ap (λ (l : List (List ℕ)). reverse l) (plain_map version h)
    ∙ ap (λ (l : List Entry). reverse (map (body_in version) l)) (sym (all_recorded h all))

plain_named : (version : ℕ) (h : List Entry) → AreNamedIn version h → AreNamedIn version (plainly h)
plain_named version [] named = tt
plain_named version (e ∷ h) named = (named.0, plain_named version h named.1)

plain_next : (b : Summary) (h : List Entry) (e : Entry) → IsNext b h e → IsNext b (plainly h) (plain e)
plain_next b h e next =
    let n : IsNext b (plainly h) e = next_alike b e h (plainly h) (sym (plain_marks b h)) (sym (plain_last b h)) next in
    record { event = n.event; reply = n.reply; late = n.late }

plain_legal : (b : Summary) (h : List Entry) → IsLegal b h → IsLegal b (plainly h)
plain_legal b [] legal = tt
plain_legal b (e ∷ h) legal = (plain_next b h e legal.0, plain_legal b h legal.1)

plain_stands : (b : Summary) (s : State) (h : List Entry) → IsLegal b h → AllRecorded h → StandsFor b s (plainly h) → StandsFor b s h
plain_stands b s h legal all w =
    let long : length (plainly h) ≡ length h = length-map h plain in
    record {
      legal = legal;
      entries = omega (arith, w.entries, long);
      recorded = omega (arith, w.recorded, long, count_all (plainly h) (plain_all h all), count_all h all);
      last = w.last ∙ plain_last b h;
      same = subst (λ (ms : List Mark). Same s.sum [] b ms) (plain_marks b h) w.same;
    }

-- Each of them has a spelling, where the last one's moment is one.
plain_kept : (b : Summary) (h : List Entry) → IsLegal b h → AllRecorded h → IsMoment (last b h) → AreKept (plainly h)
plain_kept b [] legal all moment = tt
plain_kept b (e ∷ h) legal all moment =
    let at : IsMoment e.at = subst IsMoment (ap (λ (t : Bool). cond t e.at (last b h)) all.0) moment in
    let late : last b h ≤ e.at = legal.0.late in (
      record {
        caller = refl;
        recorded = all.0;
        spelled = record {
          kept = kept_event b h e.event e.at (ap is_recorded (sym legal.0.reply) ∙ all.0);
          well_formed = legal.0.event;
          moment = at;
        };
      },
      plain_kept b h legal.1 all.1 (omega (arith, at, late)),
    )

-- One past.

past_stands : (version : ℕ) (t : Summary) (s : State) (bodies : List (List ℕ)) (past later : List Entry) → IsPast version t bodies past → StandsFor t s past → IsLegal t later
    → AllRecorded later → AreNamedIn version (recorded later) → IsMoment (last t later) → bodies ≡ bodies_in version later → StandsFor t s later
past_stands version t s bodies past later p w legal all named moment is =
    let long : length past ≡ length later =
    omega (arith, ap length (sym p.is ∙ is), bodies_count version past, bodies_count version later, count_all past (all_kept past p.kept), count_all later all) in
    let q : IsPast version t bodies (plainly later) = record {
      legal = plain_legal t later legal;
      kept = plain_kept t later legal all moment;
      named = plain_named version later (subst (AreNamedIn version) (all_recorded later all) named);
      few = omega (arith, p.few, long, length-map later plain);
      is = is ∙ sym (plain_bodies version later all);
    } in
    plain_stands t s later legal all (subst (λ (l : List Entry). StandsFor t s l) (one_past version t bodies bodies past (plainly later) refl p q) w)

-- One version. Areas of more than 17 bytes have one; of fewer, nothing is kept in either.

no_bodies_of : (first : Option (List ℕ)) (bodies : List (List ℕ)) → all_of first bodies ≡ [] → (first ≡ None) × (bodies ≡ [])
no_bodies_of None bodies none = (refl, none)
no_bodies_of (Some body) bodies none = absurd (omega (arith, ap length none))

none_kept : (version further : ℕ) (b : Summary) (h : List Entry) → IsKeptAs version b h None [] → IsKeptAs further b h None []
unfolding bodies_in
none_kept version further b h k =
    let none : recorded k.later ≡ [] = no_items (recorded k.later) (sym (bodies_count version k.later) ∙ ap length (sym k.bodies_are)) in
    record {
      later = k.later;
      summed = k.summed;
      split = k.split;
      first_is = k.first_is;
      named = subst (AreNamedIn further) (sym none) tt;
      bodies_are = sym (ap (λ (l : List Entry). reverse (map (body_in further) l)) none);
    }

kept_now : (version further : ℕ) (areas : Areas) (b : Summary) (h : List Entry) (first second : Option (List ℕ)) (bodies behind : List (List ℕ))
    → AreasStand areas version first bodies → AreasStand areas further second behind → IsKeptAs version b h first bodies → IsKeptAs further b h second behind
kept_now version further areas b h first second bodies behind one two k =
    let same = (one_standing areas).lists version further first second bodies behind one two in
    let here : IsKeptAs version b h second behind =
    subst (λ (f : Option (List ℕ)). IsKeptAs version b h f behind) same.0 (subst (λ (l : List (List ℕ)). IsKeptAs version b h first l) same.1 k) in
    ⊎_elim
    (λ (long : 17 < length (chosen_part areas)).
    subst (λ (v : ℕ). IsKeptAs v b h second behind) ((one_standing areas).versions version further first second bodies behind long one two) here)
    (λ (short : length (chosen_part areas) ≤ 17).
    let none = no_bodies_of second behind (no_body further (chosen_part areas) (all_of second behind) short two.1) in
    subst (λ (f : Option (List ℕ)). IsKeptAs further b h f behind) (sym none.0)
    (subst (λ (l : List (List ℕ)). IsKeptAs further b h None l) (sym none.1)
    (none_kept version further b h
    (subst (λ (l : List (List ℕ)). IsKeptAs version b h None l) none.1 (subst (λ (f : Option (List ℕ)). IsKeptAs version b h f behind) none.0 here)))))
    (cases_lt 17 (length (chosen_part areas)))

-- what an opening found, the journal has, and the centre stands for it
abbrev pub HaveEach : {D : Type 0} → (D → DiskSeen) → Journal D → State → Areas → Type 0
HaveEach seen j s areas =
    (b : Summary) (h : List Entry) → IsGiven b → IsLegal b h → IsMoment (last b h) → recorded h ≡ h → StandFor b h areas → HaveAllIn seen j.version j s b h

module _ {D : Type 0} (seen : D → DiskSeen) (disk : D) (j : Journal D) (given : List (List ℕ)) (s : State) (o : IsOpen seen disk j given)
    (r : IsRestored j.version o.summary o.bodies s) (holds : Holds seen j j.version o.summary o.bodies) where
  -- a legal history without quiet entries that is kept as what was given
  centre_stands : (b : Summary) (h : List Entry) → IsLegal b h → IsMoment (last b h) → recorded h ≡ h → IsKeptAs j.version b h o.summary o.bodies → StandsFor b s h
  centre_stands b h legal moment whole k =
      let both : IsLegal b (k.later ++ k.summed) = subst (IsLegal b) k.split legal in
      let every : AllRecorded (k.later ++ k.summed) = subst AllRecorded k.split (all_of_long h (omega (arith, ap length whole))) in
      let front : IsLegal b k.summed = legal_rest b k.later k.summed both in
      let base : r.base ≡ summary_of b k.summed = first_once j.version r.base (summary_of b k.summed) o.summary r.first_is k.first_is in
      let t : Summary = summary_of b k.summed in
      let p : IsPast j.version t o.bodies r.replayed.past = subst (λ (x : Summary). IsPast j.version x o.bodies r.replayed.past) base r.replayed.is_past in
      let w : StandsFor t s r.replayed.past = subst (λ (x : Summary). StandsFor x s r.replayed.past) base r.replayed.stands in
      let lasts : last t k.later ≡ last b h = (summary_tells b k.summed k.later front).lasts ∙ ap (last b) (sym k.split) in
      let over : StandsFor t s k.later =
      past_stands j.version t s o.bodies r.replayed.past k.later p w (legal_over b k.later k.summed both) (all_first k.later k.summed every) k.named
      (subst IsMoment (sym lasts) moment) k.bodies_are in
      subst (StandsFor b s) (sym k.split) (stands_over b k.summed k.later front s (count_all k.summed (all_rest k.later k.summed every)) over)

  -- what keeps such a history there, keeps it as what was given
  pub kept_each : (areas : Areas) → AreasStand areas j.version o.summary o.bodies → (b : Summary) (h : List Entry) → StandFor b h areas
      → IsKeptAs j.version b h o.summary o.bodies
  kept_each areas is b h (version, (first, bodies, kept, stands)) = kept_now version j.version areas b h first o.summary bodies o.bodies stands is kept

  pub have_each : (areas : Areas) → AreasStand areas j.version o.summary o.bodies → HaveEach seen j s areas
  have_each areas is b h over legal moment whole stands =
      let k : IsKeptAs j.version b h o.summary o.bodies = kept_each areas is b h stands in
      record {
        given = over;
        stands = centre_stands b h legal moment whole k;
        holds = (o.summary, o.bodies, k, holds);
      }
