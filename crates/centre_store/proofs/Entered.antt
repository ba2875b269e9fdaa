-- What a store stands for after a call that made an entry, or none.
use Rattle.std.proofs.Common.{◌≡◌, ◌≤◌, ℕ, List, ◌∷◌, true, false, inl, inr, sym, ap, subst, ◌∙◌, arith}
use Rattle.arc_data.specs.WellFormed.{IsWellFormed}
use Rattle.arc_data.specs.declared.event.Event.{Event}
use Rattle.arc_data.specs.declared.reply.Reply.{Reply}
use Rattle.arc_io.specs.Causes.{Rose}
use Rattle.arc_io.specs.Areas.{Areas}
use Rattle.arc_io.specs.Disks.{DiskSeen}
use Rattle.arc_io.specs.Crashes.{LeavesOnly}
use Rattle.centre_rules.specs.Summary.{Summary}
use Rattle.centre_rules.specs.History.{Entry, last, moment_after, is_recorded}
use Rattle.centre_rules.specs.Answers.{IsNext, answer}
use Rattle.centre_rules.specs.State.{State, StandsFor, Plan, entry_of}
use Rattle.centre_core.specs.declared.hall.Stop.{Stop}
use Rattle.centre_core.specs.declared.hall.Stop.TheVariants.{Memory, Down, Full, Worn}
use Rattle.disk_journal.specs.declared.journal.Journal.{Journal}
use Rattle.event_codec.specs.Spelling.{HasSpelling, spelling}
use Rattle.centre_store.specs.Bodies.{need_of}
use Rattle.centre_store.specs.Given.{IsGiven, StandForEither, HoldsRecorded, HasEither}
use Rattle.centre_store.specs.Stores.{Stored, HasFailed, IsTorn, StoreStands, StandsForSome, IsStored, Takes, IsToRecord, IsDown, IsSameJournal, IsShownFull, Shows, ShowsAt}
use Rattle.centre_store.specs.Writes.{HaveAll, IsFullAt, IsOverAt, IsOverThen, IsUnwritten}
use Rattle.centre_store.proofs.Holding.{recorded_quiet, recorded_same, recorded_there, recorded_or, still_stands}
use Rattle.centre_store.proofs.Written.{run_either, same_back}

-- the parts of a store in one
abbrev pub stored : {D : Type 0} → State → Journal D → ℕ → Stored D
stored s j n = record { state = s; journal = j; at_open = n }

-- the entry that was made
pub entry_is : (p : Plan) (caller : ℕ) (event : Event) (at : ℕ) (reply : Reply) → p.event ≡ event → at ≡ p.at → reply ≡ p.reply
    → entry_of caller p ≡ record { caller = caller; event = event; at = at; reply = reply }
entry_is p caller event at reply event_is at_is reply_is = λ i. record { caller = caller; event = event_is i; at = sym at_is i; reply = sym reply_is i }

-- an event of which a plan is recorded is one to record
pub to_record : (b : Summary) (h : List Entry) (event : Event) (clock : ℕ) (p : Plan) → p.at ≡ moment_after b h clock → p.reply ≡ answer b h event p.at
    → is_recorded p.reply ≡ true → IsToRecord b h event clock
to_record b h event clock p at reply recorded = ap (λ (m : ℕ). is_recorded (answer b h event m)) (sym at) ∙ ap is_recorded (sym reply) ∙ recorded

-- it goes on from the history
pub next_of : (b : Summary) (h : List Entry) (event : Event) (clock : ℕ) (p : Plan) → p.event ≡ event → IsWellFormed event → p.at ≡ moment_after b h clock
    → p.reply ≡ answer b h event p.at → IsNext b h (entry_of 0 p)
next_of b h event clock p event_is formed at reply =
    let late : last b h ≤ p.at = omega (arith, at) in
    record {
      event = subst IsWellFormed (sym event_is) formed;
      reply = reply ∙ ap (λ (x : Event). answer b h x p.at) (sym event_is);
      late = late;
    }

-- its body
pub body_is : (b : Summary) (h : List Entry) (clock : ℕ) (event : Event) (p : Plan) → p.event ≡ event → p.at ≡ moment_after b h clock
    → spelling p.event p.at ≡ spelling event (moment_after b h clock)
body_is b h clock event p event_is at = ap (λ (x : Event). spelling x p.at) event_is ∙ ap (spelling event) at

module _ {D : Type 0} (seen : D → DiskSeen) where
  -- while the disk has not failed the journal has the recorded entries of the history
  pub held : (b : Summary) (s : Stored D) (h : List Entry) → (HasFailed seen s → ⊥) → StoreStands seen b s h → HoldsRecorded seen s.journal b h
  held b s h up w = elim w.journal [ inl holds ↦ holds | inr torn ↦ absurd (up torn.0) ]

  pub have : (b : Summary) (s : Stored D) (h : List Entry) → (HasFailed seen s → ⊥) → StoreStands seen b s h → HaveAll seen s.journal s.state b h
  have b s h up w = record { given = w.given; stands = w.centre; holds = held b s h up w }

  -- before any call of the disk
  pub still_either : (b : Summary) (old s : Stored D) (h : List Entry) (body : List ℕ) → s ≡ old
      → ((d : D) (c : Areas) → (seen d).left_since (seen d).moment c → (seen d).may_leave c)
      → (HasFailed seen old → ⊥) → StoreStands seen b old h → LeavesOnly (seen old.journal.disk) (seen s.journal.disk) (StandForEither b h body)
  still_either b old s h body is only_now up w =
      subst (λ (x : Stored D). LeavesOnly (seen old.journal.disk) (seen x.journal.disk) (StandForEither b h body)) (sym is)
      (run_either seen old.journal.disk old.journal.disk b h body (still_stands seen old.journal b h only_now (held b old h up w)))

  pub still_met : (b : Summary) (old s : Stored D) (h : List Entry) (body : List ℕ) → s ≡ old
      → (HasFailed seen old → ⊥) → StoreStands seen b old h → HasEither (seen s.journal.disk) b h body
  still_met b old s h body is up w =
      subst (λ (x : Stored D). HasEither (seen x.journal.disk) b h body) (sym is)
      (recorded_or (seen old.journal.disk) b h body (recorded_there seen old.journal b h (held b old h up w)))

  -- a store stands for the history with the entry that was made
  pub takes : (b : Summary) (t : State) (k : Journal D) (n : ℕ) (h : List Entry) (clock caller : ℕ) (event : Event) (at : ℕ) (reply : Reply) (p : Plan)
      → p.event ≡ event → at ≡ p.at → reply ≡ p.reply → p.at ≡ moment_after b h clock
      → IsGiven b → StandsFor b t (entry_of caller p ∷ h) → HoldsRecorded seen k b (entry_of caller p ∷ h)
      → Takes seen b (stored t k n) h clock (record { caller = caller; event = event; at = at; reply = reply })
  takes b t k n h clock caller event at reply p event_is at_is reply_is moment given stands holds =
      let e : Entry = record { caller = caller; event = event; at = at; reply = reply } in
      let is : entry_of caller p ≡ e = entry_is p caller event at reply event_is at_is reply_is in
      let centre : StandsFor b t (e ∷ h) = subst (λ (x : Entry). StandsFor b t (x ∷ h)) is stands in
      record {
        stands = record { given = given; centre = centre; journal = inl (subst (λ (x : Entry). HoldsRecorded seen k b (x ∷ h)) is holds) };
        at = at_is ∙ moment;
        reply = centre.legal.0.reply;
      }

  -- the parts of the store before the call, while the disk has not failed
  module _ (b : Summary) (old : Stored D) (s r : State) (j : Journal D) (n : ℕ) (h : List Entry) (is : stored s j n ≡ old) (up : HasFailed seen old → ⊥)
      (w : StoreStands seen b old h) (stays : StandsFor b s h → StandsFor b r h) where
    was : StoreStands seen b (stored s j n) h
    was = subst (λ (x : Stored D). StoreStands seen b x h) (sym is) w

    kept : StandsFor b r h
    kept = stays was.centre

    holds : HoldsRecorded seen j b h
    holds = held b (stored s j n) h (λ f. up (subst (λ (x : Stored D). HasFailed seen x) is f)) was

    pub all : HaveAll seen j r b h
    all = record { given = was.given; stands = kept; holds = holds }

    pub takes_quiet : (t : State) (clock caller : ℕ) (event : Event) (at : ℕ) (reply : Reply) (p : Plan) → p.event ≡ event → at ≡ p.at → reply ≡ p.reply
        → (StandsFor b r h → p.at ≡ moment_after b h clock) → (StandsFor b r h → StandsFor b t (entry_of caller p ∷ h)) → is_recorded p.reply ≡ false
        → Takes seen b (stored t j n) h clock (record { caller = caller; event = event; at = at; reply = reply })
    takes_quiet t clock caller event at reply p event_is at_is reply_is moment entry quiet =
        takes b t j n h clock caller event at reply p event_is at_is reply_is (moment kept) was.given (entry kept)
        (recorded_quiet seen j b h (entry_of caller p) quiet holds)

  -- what a store in these parts stands for, while the disk has not failed
  pub some_of : (old : Stored D) (s : State) (j : Journal D) (n : ℕ) → stored s j n ≡ old → IsStored seen (stored s j n) → (HasFailed seen old → ⊥)
      → StandsForSome seen (stored s j n)
  some_of old s j n is kept up = kept.some (λ f. up (subst (λ (x : Stored D). HasFailed seen x) is f))

  -- a store as it stands between, where what the centre stands for stays
  pub between : (b : Summary) (old : Stored D) (s r : State) (j : Journal D) (n : ℕ) (h : List Entry) → stored s j n ≡ old
      → (StandsFor b s h → StandsFor b r h) → StoreStands seen b old h → StoreStands seen b (stored r j n) h
  between b old s r j n h is stays w =
      let was : StoreStands seen b (stored s j n) h = subst (λ (x : Stored D). StoreStands seen b x h) (sym is) w in
      record { given = was.given; centre = stays was.centre; journal = was.journal }

  pub up_between : (old : Stored D) (s r : State) (j : Journal D) (n : ℕ) → stored s j n ≡ old → (HasFailed seen old → ⊥) → HasFailed seen (stored r j n) → ⊥
  up_between old s r j n is up f = up (subst (λ (x : Stored D). HasFailed seen x) is f)

  -- what a crash leaves from there on, by another spelling of the body
  pub moments_as : (b : Summary) (old : Stored D) (s : State) (j : Journal D) (n : ℕ) (new : D) (h : List Entry) → stored s j n ≡ old
      → (made body : List ℕ) → made ≡ body → LeavesOnly (seen j.disk) (seen new) (StandForEither b h made)
      → LeavesOnly (seen old.journal.disk) (seen new) (StandForEither b h body)
  moments_as b old s j n new h is made body same run =
      subst (λ (d : D). LeavesOnly (seen d) (seen new) (StandForEither b h body)) (ap (λ (x : Stored D). x.journal.disk) is)
      (subst (λ (l : List ℕ). LeavesOnly (seen j.disk) (seen new) (StandForEither b h l)) same run)

  -- the entry that was made, of which the store stands for the history
  pub takes_of : (b : Summary) (new : Stored D) (h : List Entry) (clock caller : ℕ) (event : Event) (at : ℕ) (reply : Reply) (p : Plan)
      → p.event ≡ event → at ≡ p.at → reply ≡ p.reply → p.at ≡ moment_after b h clock → StoreStands seen b new (entry_of caller p ∷ h)
      → Takes seen b new h clock (record { caller = caller; event = event; at = at; reply = reply })
  takes_of b new h clock caller event at reply p event_is at_is reply_is moment stands =
      let e : Entry = record { caller = caller; event = event; at = at; reply = reply } in
      let more : StoreStands seen b new (e ∷ h) = subst (λ (x : Entry). StoreStands seen b new (x ∷ h)) (entry_is p caller event at reply event_is at_is reply_is) stands in
      record { stands = more; at = at_is ∙ moment; reply = more.centre.legal.0.reply }

  -- The parts of a store while its record is written, where the disk has not failed.
  module _ (b : Summary) (old : Stored D) (s : State) (j : Journal D) (n : ℕ) (h : List Entry) (is : stored s j n ≡ old) (up : HasFailed seen old → ⊥)
      (w : StoreStands seen b old h) where
    pub whole : HaveAll seen j s b h
    whole = all b old s s j n h is up w (λ x. x)

    pub stands_more : (t : State) (k : Journal D) (e : Entry) → (StandsFor b s h → StandsFor b t (e ∷ h)) → (HaveAll seen j s b h → HoldsRecorded seen k b (e ∷ h))
        → StoreStands seen b (stored t k n) (e ∷ h)
    stands_more t k e entry added = record { given = whole.given; centre = entry whole.stands; journal = inl (added whole) }

    pub written_moments : (new : D) (body : List ℕ) → (HaveAll seen j s b h → LeavesOnly (seen j.disk) (seen new) (StandForEither b h body))
        → LeavesOnly (seen old.journal.disk) (seen new) (StandForEither b h body)
    written_moments new body run =
        subst (λ (d : D). LeavesOnly (seen d) (seen new) (StandForEither b h body)) (ap (λ (x : Stored D). x.journal.disk) is) (run whole)

    pub next_now : (e : Entry) → ((b : Summary) (h : List Entry) → StandsFor b old.state h → IsNext b h e) → IsNext b h e
    next_now e next = next b h (subst (λ (x : Stored D). StandsFor b x.state h) is whole.stands)

    -- no record was written, or it is torn: the store stands for what it stood for
    pub stands_stopped : (k : Journal D) (need : ℕ) (p : Plan) → IsNext b h (entry_of 0 p) → is_recorded p.reply ≡ true
        → HasSpelling p.event p.at → (HaveAll seen j s b h → HasEither (seen k.disk) b h (spelling p.event p.at))
        → (stop : Stop) → IsUnwritten seen n j k s need stop → StoreStands seen b (stored s k n) h
    stands_stopped k need p next recorded spelled met Memory same =
        record { given = whole.given; centre = whole.stands; journal = inl (recorded_same seen j k b h same whole.holds) }
    stands_stopped k need p next recorded spelled met (Down before now) down =
        let torn : IsTorn (seen k.disk) b h = record {
          entry = entry_of 0 p;
          goes_on = record { next = next; recorded = recorded; spelled = spelled };
          leaves = met whole;
        } in
        record { given = whole.given; centre = whole.stands; journal = inr (subst (λ (m : ℕ). Rose n m) down.1 down.2, inr torn) }
    stands_stopped k need p next recorded spelled met (Full used wanted records) full =
        record { given = whole.given; centre = whole.stands; journal = inl (recorded_same seen j k b h full.0 whole.holds) }
    stands_stopped k need p next recorded spelled met (Worn count) never = absurd never

  -- Why the event stopped.

  -- the same journal but for its room, and what the centre stands for
  module _ (s : State) (j k : Journal D) (n wanted : ℕ) (IsDue : Summary → List Entry → Type 0) (up : HasFailed seen (stored s j n) → ⊥)
      (due : (b : Summary) (h : List Entry) → StandsFor b s h → IsDue b h) where
    module _ (same : IsSameJournal j k) where
      still_up : HasFailed seen (stored s k n) → ⊥
      still_up failed = up (subst (λ (x : Journal D). HasFailed seen (stored s x n)) same failed)

      all_before : (b : Summary) (h : List Entry) → StoreStands seen b (stored s k n) h → HaveAll seen j s b h
      all_before b h w = record {
        given = w.given;
        stands = w.centre;
        holds = recorded_same seen k j b h (same_back j k same) (held b (stored s k n) h still_up w);
      }

      shown_full : (used need records : ℕ) → IsFullAt seen j s wanted used need records → IsShownFull seen (stored s k n) wanted IsDue used need records
      shown_full used need records full = record {
        used_is = λ b h w. full.used_is b h (all_before b h w);
        need_is = full.need_is;
        records_is = full.records_is;
        over = record {
          now = subst (λ (x : Journal D). IsOverAt x wanted) (sym same) full.now;
          then = subst (λ (x : Journal D). IsOverThen x used wanted) (sym same) full.then;
        };
        up = still_up;
        to_record = λ b h w. due b h w.centre;
      }

    shown : (stop : Stop) → IsUnwritten seen n j k s wanted stop → ShowsAt seen (stored s k n) wanted IsDue stop
    shown Memory is = tt
    shown (Down before now) is = (is.0, is.1, subst (λ (m : ℕ). Rose m now) (sym is.0) is.2)
    shown (Full used need records) is = shown_full is.0 used need records is.1
    shown (Worn count) is = absurd is

  -- of a store whose centre stays
  module _ (old new : Stored D) (state : new.state ≡ old.state) (at_open : new.at_open ≡ old.at_open) (up : HasFailed seen old → ⊥) where
    pub shown_at : (wanted : ℕ) (IsDue : Summary → List Entry → Type 0) → ((b : Summary) (h : List Entry) → StandsFor b old.state h → IsDue b h)
        → (stop : Stop) → IsUnwritten seen old.at_open old.journal new.journal old.state wanted stop → ShowsAt seen new wanted IsDue stop
    shown_at wanted IsDue due stop is =
        let same : stored old.state new.journal old.at_open ≡ new = λ i. record { state = sym state i; journal = new.journal; at_open = sym at_open i } in
        subst (λ (x : Stored D). ShowsAt seen x wanted IsDue stop) same
        (shown old.state old.journal new.journal old.at_open wanted IsDue up due stop is)

  -- at an event
  pub shown_by : (old new : Stored D) (clock : ℕ) (event : Event) (p : Plan) → new.state ≡ old.state → new.at_open ≡ old.at_open → p.event ≡ event
      → (HasFailed seen old → ⊥)
      → ((b : Summary) (h : List Entry) → StandsFor b old.state h → p.at ≡ moment_after b h clock)
      → ((b : Summary) (h : List Entry) → StandsFor b old.state h → p.reply ≡ answer b h event p.at) → is_recorded p.reply ≡ true
      → (stop : Stop) → IsUnwritten seen old.at_open old.journal new.journal old.state (need_of p.event) stop → Shows seen new stop event clock
  shown_by old new clock event p state at_open event_is up at reply recorded stop is =
      shown_at old new state at_open up (need_of event) (λ b h. IsToRecord b h event clock)
      (λ b h w. to_record b h event clock p (at b h w) (reply b h w) recorded) stop
      (subst (λ (e : Event). IsUnwritten seen old.at_open old.journal new.journal old.state (need_of e) stop) event_is is)

-- what was not written left the journal as it was, unless the disk failed
pub leaves_same : {D : Type 0} (seen : D → DiskSeen) (at_open need : ℕ) (old new : Journal D) (s : State) (stop : Stop)
    → IsUnwritten seen at_open old new s need stop → (IsDown stop → ⊥) → IsSameJournal old new
leaves_same seen at_open need old new s Memory is up = is
leaves_same seen at_open need old new s (Down before now) is up = absurd (up tt)
leaves_same seen at_open need old new s (Full used wanted records) is up = is.0
leaves_same seen at_open need old new s (Worn count) is up = absurd is
