-- A centre and a mirror that follows it: what there may be behind a list of steps. Of each call all that is known is what its clauses say.
use Rattle.std.specs.Prelude.{◌≡◌, ◌⊎◌, ◌<◌, ◌≤◌, ◌+◌, ℕ, List, [], ◌∷◌, Bool, true, length, is_ok, Some, None}
use Rattle.alarm_rules.specs.Setups.{setup_of}
use Rattle.arc_data.specs.WellFormed.{IsText}
use Rattle.arc_data.specs.declared.event.Event.{Event}
use Rattle.arc_io.specs.Areas.{Areas}
use Rattle.arc_io.specs.Disks.{DiskSeen}
use Rattle.centre_rules.specs.Summary.{Summary, nothing}
use Rattle.centre_rules.specs.History.{Entry, Extends, recorded}
use Rattle.centre_rules.specs.Answers.{IsLegal}
use Rattle.centre_store.specs.Followings.{body_of_number}
use Rattle.centre_store.specs.Given.{IsGiven, StandFor}
use Rattle.centre_store.specs.Lives.{World, Open, Left, IsLeft, IsBehind, IsBehindBegin, IsBehindNone, Reopens}
use Rattle.centre_store.specs.StoreHalls.{IsReadable, is_told}
use Rattle.centre_store.specs.Stores.{Stored, HasFailed, StoreStands}
use Rattle.disk_journal.specs.Standing.{AreasStand}
use Rattle.mirror_centre.specs.Answers.{Reads, Answers}
use Rattle.mirror_centre.specs.Messages.{Answer, Record, End, Summed, IsAnswer}
use Rattle.mirror_centre.specs.Takings.{Receives}

-- Where both are, and what was sent so far: asks, each of which confirms so many entries, and answers. What was sent may come at any time
-- from then on, in any order and any number of times, or never.
pub record Pair (P M : Type 0) : Type 0 where
  pub primary : World P
  pub mirror : World M
  pub asks : List ℕ
  pub answers : List (List ℕ)

-- A step. The primary takes an event, begins a run, makes a call that enters nothing, stops between two calls, or is opened again. The
-- mirror asks. An ask arrives at the primary, or an answer at the mirror. The mirror stops between two calls, or is opened again.
pub data Step : Type 0 where
  Submits : (event : Event) (clock : ℕ) (acknowledged : Bool) → Step
  Begins : (text : List ℕ) (clock : ℕ) → Step
  Keeps : Step
  Stops : Step
  OpensAgain : Step
  MirrorAsks : Step
  AskArrives : (have : ℕ) → Step
  AnswerArrives : (message : List ℕ) → Step
  MirrorStops : Step
  MirrorOpensAgain : Step

abbrev pub IsIn : {A : Type 0} → A → List A → Type 0
IsIn x [] = ⊥
IsIn x (y ∷ ys) = (x ≡ y) ⊎ IsIn x ys

-- a store is open, and this is so of it
abbrev pub FromOpen : {D : Type 0} → World D → (Stored D → Type 0) → Type 0
FromOpen (Open s) P = P s
FromOpen (Left c) P = ⊥

-- there are areas, of which this is so
abbrev pub FromLeft : {D : Type 0} → World D → (Areas → Type 0) → Type 0
FromLeft (Open s) P = ⊥
FromLeft (Left c) P = P c

-- a crash between two calls, or the disk after closing
abbrev pub IsStopped : {D : Type 0} → (D → DiskSeen) → Stored D → World D → Type 0
IsStopped seen s (Open t) = ⊥
IsStopped seen s (Left c) = IsLeft seen s s c

abbrev pub IsReopened : {D : Type 0} → (D → DiskSeen) → Areas → World D → Type 0
IsReopened seen areas (Open s) = Reopens seen areas s
IsReopened seen areas (Left c) = ⊥

-- what there is behind a call that reads a record, whatever it answers
abbrev pub IsBehindReading : {D : Type 0} → (D → DiskSeen) → Stored D → World D → Type 0
IsBehindReading {D} seen old (Open s) = Reads seen old s × (HasFailed seen s → ⊥)
IsBehindReading {D} seen old (Left c) = (s : Stored D) × Reads seen old s × IsLeft seen old s c

-- and behind one that takes in an answer
abbrev pub IsBehindTaking : {D : Type 0} → (D → DiskSeen) → Stored D → List ℕ → World D → Type 0
IsBehindTaking {D} seen old message (Open s) = Receives seen old s message × (HasFailed seen s → ⊥)
IsBehindTaking {D} seen old message (Left c) = (s : Stored D) × Receives seen old s message × IsLeft seen old s c

-- the text is one of a setup
abbrev pub IsSetupText : List ℕ → Type 0
IsSetupText text = IsText text × (is_ok (setup_of text) ≡ true)

-- a step of the primary alone
abbrev pub IsOwnStep : {P : Type 0} → (P → DiskSeen) → Step → World P → World P → Type 0
IsOwnStep seen (Submits event clock acknowledged) w v = FromOpen w (λ s. IsBehind seen s event clock acknowledged v)
IsOwnStep seen (Begins text clock) w v = IsSetupText text × FromOpen w (λ s. IsBehindBegin seen s text clock v)
IsOwnStep seen Keeps w v = FromOpen w (λ s. IsBehindNone seen s v)
IsOwnStep seen Stops w v = FromOpen w (λ s. IsStopped seen s v)
IsOwnStep seen OpensAgain w v = FromLeft w (λ c. IsReopened seen c v)
IsOwnStep seen other w v = ⊥

-- The primary reads a record for an ask, and sends nothing yet, as memory is wanted or a crash comes; or it sends an answer.
abbrev pub IsAnswered : {P M : Type 0} → (P → DiskSeen) → Stored P → ℕ → Pair P M → Pair P M → Type 0
IsAnswered {P} seen s have x y =
    (IsBehindReading seen s y.primary × (y ≡ record x { primary = y.primary }))
    ⊎ ((t : Stored P) × (message : List ℕ) × Answers seen s t have message
    × (y ≡ record x { primary = Open t; answers = message ∷ x.answers }))

-- What each step does. The disk of a primary that answers tells what it holds, as it did when it was opened.
abbrev pub IsStep : {P M : Type 0} → (P → DiskSeen) → (M → DiskSeen) → Step → Pair P M → Pair P M → Type 0
IsStep p m MirrorAsks x y = FromOpen x.mirror (λ s. y ≡ record x { asks = s.state.sum.recorded ∷ x.asks })
IsStep p m (AskArrives have) x y =
    IsIn have x.asks × FromOpen x.primary (λ s. (is_told (p s.journal.disk).told ≡ true) × IsAnswered p s have x y)
IsStep p m (AnswerArrives message) x y =
    IsIn message x.answers × FromOpen x.mirror (λ s. IsBehindTaking m s message y.mirror) × (y ≡ record x { mirror = y.mirror })
IsStep p m MirrorStops x y = FromOpen x.mirror (λ s. IsStopped m s y.mirror) × (y ≡ record x { mirror = y.mirror })
IsStep p m MirrorOpensAgain x y = FromLeft x.mirror (λ c. IsReopened m c y.mirror) × (y ≡ record x { mirror = y.mirror })
IsStep p m own x y = IsOwnStep p own x.primary y.primary × (y ≡ record x { primary = y.primary })

-- what there is behind these steps, of which the newest stands first
abbrev pub IsBehindAll : {P M : Type 0} → (P → DiskSeen) → (M → DiskSeen) → Pair P M → List Step → Pair P M → Type 0
IsBehindAll p m start [] x = x ≡ start
IsBehindAll {P} {M} p m start (step ∷ earlier) x = (w : Pair P M) × IsBehindAll p m start earlier w × IsStep p m step w x

-- It stands for the history: an open store, whose disk has not failed, or the areas.
abbrev pub StandsIn : {D : Type 0} → (D → DiskSeen) → Summary → World D → List Entry → Type 0
StandsIn seen b (Open s) h = StoreStands seen b s h × (HasFailed seen s → ⊥)
StandsIn seen b (Left c) h = StandFor b h c

-- what an answer says is so of a history
abbrev pub IsTrueOf : Summary → List Entry → Answer → Type 0
IsTrueOf b h (Record number body) =
    (b.recorded < number) × (number ≤ b.recorded + length (recorded h)) × (body ≡ body_of_number b h number)
IsTrueOf b h End = Unit {0}
IsTrueOf b h (Summed count) = count ≤ b.recorded + length (recorded h)

-- A mirror follows. The primary stands for a history over a summary that areas give, which is legal and can be read again; and the mirror
-- for the first ones of its recorded entries, over the same summary. The mirror has so many at least as each ask confirms that was ever
-- sent, and so each that was delivered; and each answer that was ever sent is true of the primary's.
pub record IsMirrored {P M : Type 0} (p : P → DiskSeen) (m : M → DiskSeen)
    (b : Summary) (primary mirror : List Entry) (x : Pair P M) : Type 0 where
  pub given : IsGiven b
  pub legal : IsLegal b primary
  pub readable : IsReadable b primary
  pub primary_stands : StandsIn p b x.primary primary
  pub mirror_stands : StandsIn m b x.mirror mirror
  pub first_ones : Extends mirror (recorded primary)
  pub confirmed : (have : ℕ) → IsIn have x.asks → have ≤ b.recorded + length mirror
  pub said : (message : List ℕ) → IsIn message x.answers → (a : Answer) × IsAnswer message a × IsTrueOf b primary a

-- The areas are a copy of the primary's: what reads give of its disk between two calls, or what it left.
abbrev pub IsCopy : {P : Type 0} → (P → DiskSeen) → World P → Areas → Type 0
IsCopy p (Open s) c = (p s.journal.disk).told ≡ Some c
IsCopy p (Left areas) c = c ≡ areas

-- there is nothing in the areas, in either version
abbrev pub IsEmpty : Areas → Type 0
IsEmpty c = (version : ℕ) × AreasStand c version None []

-- What areas of a mirror have of a history when it begins: all that is recorded, where they are a copy of the primary's now; or the first
-- ones of it, any number, as a copy of an earlier time has; or nothing, where they are empty and the history is all that was ever
-- recorded.
abbrev pub HasSoMany : {P : Type 0} → (P → DiskSeen) → Summary → List Entry → World P → Areas → List Entry → Type 0
HasSoMany p b h w c k =
    (IsCopy p w c × (k ≡ recorded h))
    ⊎ ((StandFor b k c × Extends k (recorded h)) ⊎ (IsEmpty c × (b ≡ nothing) × (k ≡ [])))

-- Where a mirror begins: the primary is open or not, and stands for a history; nothing was sent yet.
pub record IsBeginning {P M : Type 0} (p : P → DiskSeen) (b : Summary) (h k : List Entry) (start : Pair P M) : Type 0 where
  pub given : IsGiven b
  pub legal : IsLegal b h
  pub readable : IsReadable b h
  pub primary_stands : StandsIn p b start.primary h
  pub areas : Areas
  pub has : HasSoMany p b h start.primary areas k
  pub start_is : start ≡ record { primary = start.primary; mirror = Left areas; asks = []; answers = [] }

-- The mirror still follows, for histories with all that the primary and the mirror had recorded. All of the mirror's is recorded.
pub record StaysMirrored {P M : Type 0} (p : P → DiskSeen) (m : M → DiskSeen)
    (b : Summary) (h k : List Entry) (x : Pair P M) : Type 0 where
  pub primary : List Entry
  pub mirror : List Entry
  pub mirrored : IsMirrored p m b primary mirror x
  pub kept : Extends (recorded h) (recorded primary)
  pub held : Extends k mirror
  pub whole : recorded mirror ≡ mirror
