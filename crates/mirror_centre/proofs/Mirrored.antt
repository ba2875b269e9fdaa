-- The law of a mirror, by induction on the steps.
use Rattle.std.proofs.Common.{◌≡◌, ◌≤◌, ◌+◌, ◌-◌, ℕ, List, [], ◌∷◌, ◌++◌, true, length, Option, Some, None, inl, inr, refl, sym, ap, subst, ◌∙◌, arith, append_assoc, append-nil, length-append}
use Rattle.std.specs.Prelude.{IfSome}
use Rattle.arc_io.specs.Areas.{Areas}
use Rattle.arc_io.specs.Disks.{DiskSeen}
use Rattle.centre_rules.specs.History.{Entry, Extends, recorded}
use Rattle.centre_rules.specs.Summary.{Summary, nothing}
use Rattle.centre_store.proofs.Remains.{left_still, reopens, stand_recorded}
use Rattle.centre_store.proofs.Readable.{last_moment}
use Rattle.centre_store.specs.Bodies.{bodies_in}
use Rattle.centre_store.specs.Given.{StandFor}
use Rattle.centre_store.specs.Lives.{World, Open, Left}
use Rattle.centre_store.specs.StoreHalls.{is_told}
use Rattle.centre_store.specs.Stores.{Stored, HasFailed, StoreStands}
use Rattle.mirror_centre.specs.Answers.{Answers, answer_to, place_behind}
use Rattle.mirror_centre.specs.Messages.{Answer, Record, End, Summed, IsAnswer}
use Rattle.mirror_centre.specs.Mirroring.{Pair, Step, Submits, Begins, Keeps, Stops, OpensAgain, MirrorAsks, AskArrives, AnswerArrives, MirrorStops, MirrorOpensAgain}
use Rattle.mirror_centre.specs.Mirroring.{FromOpen, FromLeft, IsStopped, IsReopened, IsBehindTaking, IsOwnStep, IsAnswered, IsStep, IsBehindAll}
use Rattle.mirror_centre.specs.Mirroring.{StandsIn, IsTrueOf, IsMirrored, IsCopy, IsEmpty, HasSoMany, IsBeginning, StaysMirrored}
use Rattle.mirror_centre.proofs.Answered.{answer_true}
use Rattle.mirror_centre.proofs.Following.{HasFollowed, part_fit, part_whole, takes}
use Rattle.mirror_centre.proofs.Growing.{HasGrown, submits, begins as begins_run, keeps, stops, reading, opens_again}
use Rattle.mirror_centre.proofs.Parts.{IsFit, body_stays, no_more}

-- what was sent: an answer, of which this is so
abbrev IsSaid : Summary → List Entry → List ℕ → Type 0
IsSaid b h message = (a : Answer) × IsAnswer message a × IsTrueOf b h a

extends_both : (h k l : List Entry) → Extends h k → Extends k l → Extends h l
extends_both h k l (one, first) (two, second) =
    (two ++ one, second ∙ ap (λ (x : List Entry). two ++ x) first ∙ sym (append_assoc two one h))

-- What was true of a history is true of each one with all that it has recorded.
stays_true : (b : Summary) (h k : List Entry) (a : Answer) → Extends (recorded h) (recorded k) → IsTrueOf b h a → IsTrueOf b k a
stays_true b h k (Record number body) more (above, below, is) =
    let long : length (recorded k) ≡ length more.0 + length (recorded h) = ap length more.1 ∙ length-append more.0 (recorded h) in (
      above,
      omega (arith, long, below),
      is ∙ sym (body_stays 2 (number - b.recorded - 1) h k more (omega (arith, above, below))),
    )
stays_true b h k End more is = tt
stays_true b h k (Summed count) more is = omega (arith, is, ap length more.1, length-append more.0 (recorded h))

abbrev rest : List Entry → List Entry
rest [] = []
rest (e ∷ h) = h

-- Of two first parts of one list the one that is no shorter has the other one.
longer : (a c h k : List Entry) → a ++ h ≡ c ++ k → length h ≤ length k → Extends h k
longer a [] h k is less = (a, sym is)
longer [] (y ∷ c) h k is less = absurd (omega (arith, ap length is, length-append (y ∷ c) k, less))
longer (x ∷ a) (y ∷ c) h k is less = longer a c h k (ap rest is) less

when_told : (told : Option Areas) (X : Type 0) → is_told told ≡ true → IfSome told (λ _. X) → X
when_told None X is so = absurd cc
when_told (Some areas) X is so = so

no_bodies : (version : ℕ) → [] ≡ bodies_in version []
unfolding bodies_in
no_bodies version = refl

-- The steps.

module _ {P M : Type 0} (p : P → DiskSeen) (m : M → DiskSeen) (p_now : (d : P) (c : Areas) → (p d).left_since (p d).moment c → (p d).may_leave c)
    (m_now : (d : M) (c : Areas) → (m d).left_since (m d).moment c → (m d).may_leave c) (b : Summary) where
  fit_of : (h k : List Entry) (x : Pair P M) → IsMirrored p m b h k x → IsFit b h
  fit_of h k x g = record { given = g.given; legal = g.legal; readable = g.readable }

  whole_of : (h k : List Entry) (x : Pair P M) → IsMirrored p m b h k x → recorded k ≡ k
  whole_of h k x g = part_whole b h k (fit_of h k x g) g.first_ones

  -- for the same histories
  same : (h k : List Entry) (x : Pair P M) → IsMirrored p m b h k x → StaysMirrored p m b h k x
  same h k x g = record {
    primary = h;
    mirror = k;
    mirrored = g;
    kept = no_more (recorded h);
    held = no_more k;
    whole = whole_of h k x g;
  }

  -- the primary has changed alone, and has all that it had
  grown : (h k : List Entry) (x : Pair P M) (v : World P) → IsMirrored p m b h k x → HasGrown p b h v → StaysMirrored p m b h k (record x { primary = v })
  grown h k x v g now = record {
    primary = now.now;
    mirror = k;
    mirrored = record {
      given = now.fit.given;
      legal = now.fit.legal;
      readable = now.fit.readable;
      primary_stands = now.up;
      mirror_stands = g.mirror_stands;
      first_ones = extends_both k (recorded h) (recorded now.now) g.first_ones now.more;
      confirmed = g.confirmed;
      said = λ message is. let t = g.said message is in (t.0, t.1, stays_true b h now.now t.0 now.more t.2);
    };
    kept = now.more;
    held = no_more k;
    whole = whole_of h k x g;
  }

  own_step : (step : Step) (w v : World P) (h : List Entry) → IsFit b h → StandsIn p b w h → IsOwnStep p step w v → HasGrown p b h v
  own_step (Submits event clock acknowledged) (Open s) v h fit (stands, up) is = submits p p_now b s h fit stands up event clock acknowledged v is
  own_step (Submits event clock acknowledged) (Left c) v h fit up is = absurd is
  own_step (Begins text clock) (Open s) v h fit (stands, up) (valid, is) = begins_run p p_now b s h fit stands up text clock v valid is
  own_step (Begins text clock) (Left c) v h fit up (valid, is) = absurd is
  own_step Keeps (Open s) v h fit (stands, up) is = keeps p p_now b s h fit stands up v is
  own_step Keeps (Left c) v h fit up is = absurd is
  own_step Stops (Open s) v h fit (stands, up) is = stops p p_now b s h fit stands up v is
  own_step Stops (Left c) v h fit up is = absurd is
  own_step OpensAgain (Open s) v h fit up is = absurd is
  own_step OpensAgain (Left c) v h fit up is = opens_again p p_now b c h v fit up is
  own_step MirrorAsks w v h fit up is = absurd is
  own_step (AskArrives have) w v h fit up is = absurd is
  own_step (AnswerArrives message) w v h fit up is = absurd is
  own_step MirrorStops w v h fit up is = absurd is
  own_step MirrorOpensAgain w v h fit up is = absurd is

  own : (h k : List Entry) (step : Step) (x y : Pair P M) → IsMirrored p m b h k x → IsOwnStep p step x.primary y.primary → y ≡ record x { primary = y.primary }
      → StaysMirrored p m b h k y
  own h k step x y g is only = subst (StaysMirrored p m b h k) (sym only)
      (grown h k x y.primary g (own_step step x.primary y.primary h (fit_of h k x g) g.primary_stands is))

  -- the mirror has changed alone, and has all that it had
  followed : (h k : List Entry) (x : Pair P M) (v : World M) → IsMirrored p m b h k x → HasFollowed m b h k v → StaysMirrored p m b h k (record x { mirror = v })
  followed h k x v g now = record {
    primary = h;
    mirror = now.now;
    mirrored = record {
      given = g.given;
      legal = g.legal;
      readable = g.readable;
      primary_stands = g.primary_stands;
      mirror_stands = now.up;
      first_ones = now.part;
      confirmed = λ have is. omega (arith, g.confirmed have is, now.more);
      said = g.said;
    };
    kept = no_more (recorded h);
    held = longer g.first_ones.0 now.part.0 k now.now (sym g.first_ones.1 ∙ now.part.1) now.more;
    whole = part_whole b h now.now (fit_of h k x g) now.part;
  }

  mirror_stops : (primary mirror : List Entry) (w v : World M) → Extends mirror (recorded primary) → StandsIn m b w mirror → FromOpen w (λ s. IsStopped m s v)
      → HasFollowed m b primary mirror v
  mirror_stops primary mirror (Open s) (Open t) part up is = absurd is
  mirror_stops primary mirror (Open s) (Left c) part (stands, up) is =
      record { now = mirror; up = (2, left_still m m_now b s mirror up stands c is); part = part; more = omega arith }
  mirror_stops primary mirror (Left c) v part up is = absurd is

  mirror_opens : (primary mirror : List Entry) (w v : World M) → IsFit b primary → Extends mirror (recorded primary) → StandsIn m b w mirror
      → FromLeft w (λ c. IsReopened m c v) → HasFollowed m b primary mirror v
  mirror_opens primary mirror (Open s) v fit part up is = absurd is
  mirror_opens primary mirror (Left c) (Left d) fit part up is = absurd is
  mirror_opens primary mirror (Left c) (Open s) fit part stand r =
      let whole : IsFit b mirror = part_fit b primary mirror fit part in
      record {
        now = mirror;
        up = (
          reopens m m_now b mirror c s whole.given whole.legal (last_moment b mirror whole.readable) (part_whole b primary mirror fit part) stand r,
          r.up,
        );
        part = part;
        more = omega arith;
      }

  takes_in : (primary mirror : List Entry) (message : List ℕ) (w v : World M) → IsFit b primary → Extends mirror (recorded primary) → StandsIn m b w mirror
      → IsSaid b primary message → FromOpen w (λ s. IsBehindTaking m s message v) → HasFollowed m b primary mirror v
  takes_in primary mirror message (Open s) v fit part (stands, up) (a, is, true_of) behind =
      takes m m_now b primary mirror fit part s stands up message a v is true_of behind
  takes_in primary mirror message (Left c) v fit part up said behind = absurd behind

  -- an ask, which confirms what the mirror has
  asks : (h k : List Entry) (x y : Pair P M) (w : World M) → IsMirrored p m b h k x → StandsIn m b w k
      → FromOpen w (λ s. y ≡ record x { asks = s.state.sum.recorded ∷ x.asks }) → StaysMirrored p m b h k y
  asks h k x y (Left c) g up is = absurd is
  asks h k x y (Open s) g (stands, up) is =
      subst (StaysMirrored p m b h k) (sym is) (same h k (record x { asks = s.state.sum.recorded ∷ x.asks }) (record {
        given = g.given;
        legal = g.legal;
        readable = g.readable;
        primary_stands = g.primary_stands;
        mirror_stands = g.mirror_stands;
        first_ones = g.first_ones;
        confirmed = λ have among. elim among [
          | inl same ↦ omega (arith, same, stands.centre.recorded, ap length (whole_of h k x g))
          | inr earlier ↦ g.confirmed have earlier
        ];
        said = g.said;
      }))

  -- an answer, which is true of what the primary has recorded
  sends : (h k : List Entry) (x : Pair P M) (s t : Stored P) (have : ℕ) (message : List ℕ) → IsMirrored p m b h k x → StoreStands p b s h → (HasFailed p s → ⊥)
      → is_told (p s.journal.disk).told ≡ true → Answers p s t have message → IsMirrored p m b h k (record x { primary = Open t; answers = message ∷ x.answers })
  sends h k x s t have message g stands up told answers =
      let a : Answer = answer_to b h s have in
      let is : IsAnswer message a = when_told (p s.journal.disk).told (IsAnswer message a) told (answers.says b h stands) in
      let true_of : IsTrueOf b h a = answer_true p b s h stands up have (place_behind s have) refl in
      record {
        given = g.given;
        legal = g.legal;
        readable = g.readable;
        primary_stands = (answers.reads.stands b h stands, answers.up);
        mirror_stands = g.mirror_stands;
        first_ones = g.first_ones;
        confirmed = g.confirmed;
        said = λ other among. elim among [
          | inl same ↦ (a, subst (λ (l : List ℕ). IsAnswer l a) (sym same) is, true_of)
          | inr earlier ↦ g.said other earlier
        ];
      }

  answers : (h k : List Entry) (have : ℕ) (x y : Pair P M) (w : World P) → IsMirrored p m b h k x → StandsIn p b w h
      → FromOpen w (λ s. (is_told (p s.journal.disk).told ≡ true) × IsAnswered p s have x y) → StaysMirrored p m b h k y
  answers h k have x y (Left c) g up is = absurd is
  answers h k have x y (Open s) g (stands, up) (told, inl (behind, only)) =
      subst (StaysMirrored p m b h k) (sym only)
      (grown h k x y.primary g (reading p p_now b s h (fit_of h k x g) stands up y.primary behind))
  answers h k have x y (Open s) g (stands, up) (told, inr (t, message, said, is)) =
      subst (StaysMirrored p m b h k) (sym is) (same h k (record x { primary = Open t; answers = message ∷ x.answers })
      (sends h k x s t have message g stands up told said))

  one_step : (h k : List Entry) (step : Step) (x y : Pair P M) → IsMirrored p m b h k x → IsStep p m step x y → StaysMirrored p m b h k y
  one_step h k (Submits event clock acknowledged) x y g (is, only) = own h k (Submits event clock acknowledged) x y g is only
  one_step h k (Begins text clock) x y g (is, only) = own h k (Begins text clock) x y g is only
  one_step h k Keeps x y g (is, only) = own h k Keeps x y g is only
  one_step h k Stops x y g (is, only) = own h k Stops x y g is only
  one_step h k OpensAgain x y g (is, only) = own h k OpensAgain x y g is only
  one_step h k MirrorAsks x y g is = asks h k x y x.mirror g g.mirror_stands is
  one_step h k (AskArrives have) x y g (among, is) = answers h k have x y x.primary g g.primary_stands is
  one_step h k (AnswerArrives message) x y g (among, is, only) =
      subst (StaysMirrored p m b h k) (sym only) (followed h k x y.mirror g
      (takes_in h k message x.mirror y.mirror (fit_of h k x g) g.first_ones g.mirror_stands (g.said message among) is))
  one_step h k MirrorStops x y g (is, only) =
      subst (StaysMirrored p m b h k) (sym only) (followed h k x y.mirror g (mirror_stops h k x.mirror y.mirror g.first_ones g.mirror_stands is))
  one_step h k MirrorOpensAgain x y g (is, only) =
      subst (StaysMirrored p m b h k) (sym only)
      (followed h k x y.mirror g (mirror_opens h k x.mirror y.mirror (fit_of h k x g) g.first_ones g.mirror_stands is))

  further : (h k : List Entry) (w x : Pair P M) (g : StaysMirrored p m b h k w) → StaysMirrored p m b g.primary g.mirror x → StaysMirrored p m b h k x
  further h k w x g n = record {
    primary = n.primary;
    mirror = n.mirror;
    mirrored = n.mirrored;
    kept = extends_both (recorded h) (recorded g.primary) (recorded n.primary) g.kept n.kept;
    held = extends_both k g.mirror n.mirror g.held n.held;
    whole = n.whole;
  }

  pub stays : (h k : List Entry) (start x : Pair P M) (steps : List Step) → IsMirrored p m b h k start → IsBehindAll p m start steps x
      → StaysMirrored p m b h k x
  stays h k start x [] g is = subst (StaysMirrored p m b h k) (sym is) (same h k start g)
  stays h k start x (step ∷ earlier) g (w, before, is) =
      let now : StaysMirrored p m b h k w = stays h k start w earlier g before in
      further h k w x now (one_step now.primary now.mirror step w x now.mirrored is)

  -- The beginning.

  copy_stands : (w : World P) (c : Areas) (h : List Entry) → StandsIn p b w h → IsCopy p w c → StandFor b (recorded h) c
  copy_stands (Open s) c h (stands, up) told = (2, stand_recorded 2 b h c (left_still p p_now b s h up stands c (inr told)))
  copy_stands (Left areas) c h (version, stand) is =
      subst (StandFor b (recorded h)) (sym is) (version, stand_recorded version b h areas stand)

  empty_stands : (c : Areas) → IsEmpty c → b ≡ nothing → StandFor b [] c
  empty_stands c (version, stand) none = subst (λ (s : Summary). StandFor s [] c) (sym none) (
    version,
    (None, [], record { later = []; summed = []; split = refl; first_is = refl; named = tt; bodies_are = no_bodies version }, stand),
  )

  so_many : (w : World P) (c : Areas) (h k : List Entry) → StandsIn p b w h → HasSoMany p b h w c k → StandFor b k c × Extends k (recorded h)
  so_many w c h k up (inl (copy, all)) = (
    subst (λ (l : List Entry). StandFor b l c) (sym all) (copy_stands w c h up copy),
    subst (λ (l : List Entry). Extends l (recorded h)) (sym all) (no_more (recorded h)),
  )
  so_many w c h k up (inr (inl has)) = has
  so_many w c h k up (inr (inr (empty, none, no_entry))) = (
    subst (λ (l : List Entry). StandFor b l c) (sym no_entry) (empty_stands c empty none),
    subst (λ (l : List Entry). Extends l (recorded h)) (sym no_entry) (recorded h, sym (append-nil (recorded h))),
  )

  pub begins : (h k : List Entry) (start : Pair P M) → IsBeginning p b h k start → IsMirrored p m b h k start
  begins h k start is =
      let has : StandFor b k is.areas × Extends k (recorded h) = so_many start.primary is.areas h k is.primary_stands is.has in
      subst (IsMirrored p m b h k) (sym is.start_is) (record {
        given = is.given;
        legal = is.legal;
        readable = is.readable;
        primary_stands = is.primary_stands;
        mirror_stands = has.0;
        first_ones = has.1;
        confirmed = λ have among. absurd among;
        said = λ message among. absurd among;
      })
