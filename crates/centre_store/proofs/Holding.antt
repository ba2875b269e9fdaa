-- What a journal has of a history, with one entry more, or summed up, and what its areas stand for.
use Rattle.std.proofs.Common.{◌≡◌, ◌⊎◌, ◌≤◌, ◌<◌, ◌+◌, ◌^◌, ℕ, List, [], ◌∷◌, ◌++◌, Bool, true, false, cond, length, Option, Some, None, inl, inr, refl, sym, ap, ◌∙◌, subst, arith}
use Rattle.std.specs.Prelude.{IfSome}
use Rattle.std.proofs.lemmas.List.{append-nil}
use Rattle.arc_data.specs.declared.event.Event.{Event}
use Rattle.arc_data.specs.declared.event.Event.TheVariants.{Adopt, Start, Message as Sent, Beat, Tick}
use Rattle.arc_data.specs.declared.event.Event.TheVariants.{Claim, Next, Act, Release, Close, Show, List as Rows}
use Rattle.arc_io.specs.Areas.{Areas}
use Rattle.arc_io.specs.Disks.{DiskSeen}
use Rattle.arc_io.specs.Crashes.{Becomes, LeavesOnly}
use Rattle.arc_io.proofs.Moments.{started, weaker}
use Rattle.centre_rules.specs.Summary.{Summary}
use Rattle.centre_rules.specs.History.{Entry, is_recorded, recorded}
use Rattle.centre_rules.specs.Sums.{summary_of}
use Rattle.disk_journal.specs.Journal.{Holds, Keeps, Works, HasBodies, IsAtRestIn, IsGateBehind, IsPlaced}
use Rattle.disk_journal.specs.Standing.{StandsForEither, StandsForTurn, IsDistinct, all_of}
use Rattle.disk_journal.specs.declared.journal.Journal.{Journal}
use Rattle.disk_journal.proofs.Chosen.{rest_stands}
use Rattle.disk_journal.proofs.Steps.{if_map, file_at}
use Rattle.event_codec.specs.Spelling.{spelling, IsNamedIn}
use Rattle.summary_rules.specs.Conditions.{IsSpelling}
use Rattle.centre_store.specs.Bodies.{body_in, bodies_in, AreNamedIn}
use Rattle.centre_store.specs.Given.{IsFirst, IsKeptAs, StandForIn, StandFor, StandForEither, HoldsRecordedIn, HoldsRecorded, HasRecorded, HasEither}
use Rattle.centre_store.specs.Pasts.{IsPast}
use Rattle.centre_store.specs.Stores.{IsSameJournal}
use Rattle.centre_store.proofs.Bodies.{bodies_more, bodies_same}
use Rattle.centre_store.proofs.Distinct.{distinct_more, distinct_bodies}
use Rattle.centre_store.proofs.PastSteps.{no_bodies}
use Rattle.centre_store.proofs.Summed.{spelling_distinct}

-- The lines that a version tells.

-- the second tells each
named_two : (event : Event) → IsNamedIn 2 event
named_two (Sent m via) = λ one. absurd (omega (arith, one))
named_two (Adopt text) = tt
named_two Start = tt
named_two (Beat account) = tt
named_two Tick = tt
named_two (Claim operator number) = tt
named_two (Next operator) = tt
named_two (Act operator number step outcome) = tt
named_two (Release operator number) = tt
named_two (Close operator number code) = tt
named_two (Show number) = tt
named_two Rows = tt

pub all_named : (h : List Entry) → AreNamedIn 2 h
all_named [] = tt
all_named (e ∷ h) = (named_two e.event, all_named h)

-- so a past of either version is one of the second, with its bodies as they are written
pub past_two : (version : ℕ) (base : Summary) (bodies : List (List ℕ)) (h : List Entry) → IsPast version base bodies h → IsPast 2 base (bodies_in 2 h) h
past_two version base bodies h p = record { legal = p.legal; kept = p.kept; named = all_named h; few = p.few; is = refl }

named_quiet : (version : ℕ) (e : Entry) (h : List Entry) → is_recorded e.reply ≡ false → AreNamedIn version (recorded h) → AreNamedIn version (recorded (e ∷ h))
named_quiet version e h quiet named = subst (AreNamedIn version) (sym (ap (λ (t : Bool). cond t (e ∷ recorded h) (recorded h)) quiet)) named

-- How a history is kept.

-- with one entry more
pub kept_more : (b : Summary) (h : List Entry) (e : Entry) (first : Option (List ℕ)) (bodies : List (List ℕ)) → is_recorded e.reply ≡ true
    → IsKeptAs 2 b h first bodies → IsKeptAs 2 b (e ∷ h) first (bodies ++ body_in 2 e ∷ [])
kept_more b h e first bodies is kept = record {
  later = e ∷ kept.later;
  summed = kept.summed;
  split = ap (λ (l : List Entry). e ∷ l) kept.split;
  first_is = kept.first_is;
  named = all_named (recorded (e ∷ kept.later));
  bodies_are = ap (λ (l : List (List ℕ)). l ++ body_in 2 e ∷ []) kept.bodies_are ∙ sym (bodies_more 2 e kept.later is);
}

-- and where it is quiet, with the same bodies
pub kept_quiet : (version : ℕ) (b : Summary) (h : List Entry) (e : Entry) (first : Option (List ℕ)) (bodies : List (List ℕ)) → is_recorded e.reply ≡ false
    → IsKeptAs version b h first bodies → IsKeptAs version b (e ∷ h) first bodies
kept_quiet version b h e first bodies quiet kept = record {
  later = e ∷ kept.later;
  summed = kept.summed;
  split = ap (λ (l : List Entry). e ∷ l) kept.split;
  first_is = kept.first_is;
  named = named_quiet version e kept.later quiet kept.named;
  bodies_are = kept.bodies_are ∙ sym (bodies_same version e kept.later quiet);
}

-- all of it summed up
pub summed_up : (version : ℕ) (b : Summary) (h : List Entry) (generation : ℕ) (body : List ℕ) → IsSpelling version generation (summary_of b h) body
    → IsKeptAs version b h (Some body) []
summed_up version b h generation body spells = record {
  later = [];
  summed = h;
  split = refl;
  first_is = (generation, spells);
  named = tt;
  bodies_are = sym (no_bodies version);
}

-- none of it
pub kept_over : (version : ℕ) (b : Summary) (h : List Entry) (first : Option (List ℕ)) (bodies : List (List ℕ)) → summary_of b [] ≡ b → IsFirst version b first
    → AreNamedIn version (recorded h) → bodies ≡ bodies_in version h → IsKeptAs version b h first bodies
kept_over version b h first bodies begins is named are = record {
  later = h;
  summed = [];
  split = sym (append-nil h);
  first_is = subst (λ (s : Summary). IsFirst version s first) (sym begins) is;
  named = named;
  bodies_are = are;
}

-- what stands first is the body of a summary exactly where it begins as one
pub kept_distinct : (version : ℕ) (b : Summary) (h : List Entry) (first : Option (List ℕ)) (bodies : List (List ℕ)) → IsKeptAs version b h first bodies
    → IsDistinct first bodies
kept_distinct version b h None bodies kept = subst (IsDistinct None) (sym kept.bodies_are) (distinct_bodies version kept.later)
kept_distinct version b h (Some body) bodies kept = spelling_distinct version kept.first_is.0 (summary_of b kept.summed) body kept.first_is.1

-- The areas.

-- they stand for a history with one entry more or without, whose body that is
pub either_of : (b : Summary) (h : List Entry) (first : Option (List ℕ)) (bodies : List (List ℕ)) (body : List ℕ) (areas : Areas)
    → IsKeptAs 2 b h first bodies → StandsForEither 2 first bodies body areas → StandForEither b h body areas
either_of b h first bodies body areas kept stands = (first, bodies, kept, stands)

pub stand_either : (b : Summary) (h : List Entry) (body : List ℕ) (areas : Areas) → StandForIn 2 b h areas → StandForEither b h body areas
stand_either b h body areas (first, bodies, kept, stands) = (first, bodies, kept, inl stands)

pub either_one : (b : Summary) (h : List Entry) (e : Entry) (areas : Areas) → is_recorded e.reply ≡ true → StandForEither b h (body_in 2 e) areas
    → StandForIn 2 b h areas ⊎ StandForIn 2 b (e ∷ h) areas
either_one b h e areas is (first, bodies, kept, inl old) = inl (first, bodies, kept, old)
either_one b h e areas is (first, bodies, kept, inr new) = inr (first, bodies ++ body_in 2 e ∷ [], kept_more b h e first bodies is kept, new)

-- they have a new summary, of all of it, in the second version, or not yet
abbrev pub IsAnew : ℕ → Summary → List Entry → Areas → Type 0
IsAnew version b h areas = StandForIn version b h areas ⊎ StandForIn 2 b h areas

pub stand_turned : (version : ℕ) (b : Summary) (h : List Entry) (generation : ℕ) (first : Option (List ℕ)) (bodies : List (List ℕ)) (next : List ℕ) (areas : Areas)
    → IsKeptAs version b h first bodies → IsSpelling 2 generation (summary_of b h) next → StandsForTurn version first bodies next areas → IsAnew version b h areas
stand_turned version b h generation first bodies next areas kept spells (inl old) = inl (first, bodies, kept, old)
stand_turned version b h generation first bodies next areas kept spells (inr new) = inr (Some next, [], summed_up 2 b h generation next spells, new)

pub turned_any : (version : ℕ) (b : Summary) (h : List Entry) (areas : Areas) → IsAnew version b h areas → StandFor b h areas
turned_any version b h areas (inl old) = (version, old)
turned_any version b h areas (inr new) = (2, new)

pub two_any : (o : Option Areas) (b : Summary) (h : List Entry) → IfSome o (StandForIn 2 b h) → IfSome o (StandFor b h)
two_any o b h stands = if_map (StandForIn 2 b h) (StandFor b h) o stands (λ c is. (2, is))

pub turned_two : (b : Summary) (h : List Entry) (areas : Areas) → IsAnew 2 b h areas → StandForIn 2 b h areas
turned_two b h areas (inl old) = old
turned_two b h areas (inr new) = new

-- What is told.

pub told_map : (P : Areas → Areas → Type 0) (Q : Areas → Type 0) (told now : Option Areas) → Becomes told now P → ((s t : Areas) → P s t → Q t) → IfSome now Q
told_map P Q None None is so = tt
told_map P Q None (Some t) is so = absurd is
told_map P Q (Some s) None is so = absurd is
told_map P Q (Some s) (Some t) is so = so s t is

-- it stands for them, so it stands for them with one more or without
pub recorded_or : (disk : DiskSeen) (b : Summary) (h : List Entry) (body : List ℕ) → HasRecorded disk b h → HasEither disk b h body
recorded_or disk b h body has = record {
  area = if_map (StandForIn 2 b h) (StandForEither b h body) disk.told has.area (λ s stands. stand_either b h body s stands);
  images = λ c left. stand_either b h body c (has.images c left);
}

-- The journal.

module _ {D : Type 0} (seen : D → DiskSeen) where
  -- one that is the same but for its room reads on at the same place, and holds the same
  placed_same : (old new : Journal D) (summary : Option (List ℕ)) (bodies : List (List ℕ)) → IsSameJournal old new → IsPlaced seen old summary bodies
      → IsPlaced seen new summary bodies
  placed_same old new summary bodies same p = record {
    first_is = ap (λ (j : Journal D). j.first + 1) same ∙ p.first_is;
    within = subst (λ (j : Journal D). j.next ≤ length bodies) (sym same) p.within;
    place_is = subst (λ (j : Journal D). IsGateBehind (seen j.disk).told summary bodies j.next j.place) (sym same) p.place_is;
  }

  pub holds_same : (old new : Journal D) (version : ℕ) (summary : Option (List ℕ)) (bodies : List (List ℕ)) → IsSameJournal old new → Holds seen old version summary bodies
      → Holds seen new version summary bodies
  holds_same old new version summary bodies same h = record {
    version_is = ap (λ (j : Journal D). j.version) same ∙ h.version_is;
    used = ap (λ (j : Journal D). j.used) same ∙ h.used;
    count = ap (λ (j : Journal D). j.records) same ∙ h.count;
    placed = placed_same old new summary bodies same h.placed;
    generation = ap (λ (j : Journal D). j.generation) same ∙ h.generation;
    few = subst (λ (j : Journal D). j.limits.bytes < 2 ^ 32) (sym same) h.few;
    met_none = ap (λ (j : Journal D). j.has_failed) same ∙ h.met_none;
    kept = subst (λ (j : Journal D). Keeps (seen j.disk) j.area version summary bodies) (sym same) h.kept;
  }

  pub recorded_same : (old new : Journal D) (b : Summary) (h : List Entry) → IsSameJournal old new → HoldsRecorded seen old b h → HoldsRecorded seen new b h
  recorded_same old new b h same (first, bodies, kept, holds) = (first, bodies, kept, holds_same old new 2 first bodies same holds)

  -- one that holds bodies works
  pub works : (j : Journal D) (version : ℕ) (summary : Option (List ℕ)) (bodies : List (List ℕ)) → Holds seen j version summary bodies → Works seen j
  works j version summary bodies h = record {
    summary = summary;
    records = bodies;
    used = h.used;
    count = h.count;
    placed = h.placed;
    few = h.few;
    met_none = h.met_none;
    file = subst (λ (v : ℕ). IfSome (seen j.disk).told (HasBodies j.area v (all_of summary bodies))) (sym h.version_is)
        (if_map (IsAtRestIn j.area version summary bodies) (HasBodies j.area version (all_of summary bodies)) (seen j.disk).told h.kept.file (λ s at. at.at_rest));
    settled = h.kept.settled;
  }

  pub recorded_works : (j : Journal D) (b : Summary) (h : List Entry) → HoldsRecorded seen j b h → Works seen j
  recorded_works j b h (first, bodies, kept, holds) = works j 2 first bodies holds

  -- its areas stand for the recorded entries
  pub recorded_there : (j : Journal D) (b : Summary) (h : List Entry) → HoldsRecorded seen j b h → HasRecorded (seen j.disk) b h
  recorded_there j b h (first, bodies, kept, holds) =
      let stands : (c : Areas) → IsAtRestIn j.area 2 first bodies c → StandForIn 2 b h c =
      λ c at. (first, bodies, kept, rest_stands j.area 2 first bodies c holds.kept.distinct at) in
      record {
        area = if_map (IsAtRestIn j.area 2 first bodies) (StandForIn 2 b h) (seen j.disk).told holds.kept.file stands;
        images = λ c left. stands c (file_at (IsAtRestIn j.area 2 first bodies) (seen j.disk).told c (holds.kept.settled c left) holds.kept.file);
      }

  -- with a quiet entry more it has the same records
  pub recorded_quiet : (k : Journal D) (b : Summary) (h : List Entry) (e : Entry) → is_recorded e.reply ≡ false → HoldsRecorded seen k b h
      → HoldsRecorded seen k b (e ∷ h)
  recorded_quiet k b h e quiet (first, bodies, kept, holds) = (first, bodies, kept_quiet 2 b h e first bodies quiet kept, holds)

  -- Writing a body: what it does to whatever the journal holds, said of the history.

  -- what it held before, it holds with the body
  abbrev pub Adds : Journal D → Journal D → List ℕ → Type 0
  Adds j k body = (version : ℕ) (summary : Option (List ℕ)) (bodies : List (List ℕ)) → Holds seen j version summary bodies
      → IsDistinct summary (bodies ++ body ∷ []) → Holds seen k version summary (bodies ++ body ∷ [])

  -- a crash at any moment leaves that, or it with the body
  abbrev pub Runs : Journal D → D → List ℕ → Type 0
  Runs j new body = (version : ℕ) (summary : Option (List ℕ)) (bodies : List (List ℕ)) → Holds seen j version summary bodies
      → IsDistinct summary (bodies ++ body ∷ []) → LeavesOnly (seen j.disk) (seen new) (StandsForEither version summary bodies body)

  -- and so does a read then
  abbrev pub Tells : Journal D → D → List ℕ → Type 0
  Tells j new body = (version : ℕ) (summary : Option (List ℕ)) (bodies : List (List ℕ)) → Holds seen j version summary bodies
      → IsDistinct summary (bodies ++ body ∷ []) → Becomes (seen j.disk).told (seen new).told (λ _ t. StandsForEither version summary bodies body t)

  pub recorded_more : (j k : Journal D) (b : Summary) (h : List Entry) (e : Entry) → is_recorded e.reply ≡ true → Adds j k (body_in 2 e)
      → HoldsRecorded seen j b h → HoldsRecorded seen k b (e ∷ h)
  recorded_more j k b h e is added (first, bodies, kept, holds) = (
    first,
    bodies ++ body_in 2 e ∷ [],
    kept_more b h e first bodies is kept,
    added 2 first bodies holds (distinct_more 2 first bodies e.event e.at holds.kept.distinct),
  )

  pub recorded_moments : (j : Journal D) (new : D) (b : Summary) (h : List Entry) (event : Event) (at : ℕ) → Runs j new (spelling event at)
      → HoldsRecorded seen j b h → LeavesOnly (seen j.disk) (seen new) (StandForEither b h (spelling event at))
  recorded_moments j new b h event at run (first, bodies, kept, holds) =
      weaker (seen j.disk) (seen new) (StandForEither b h (spelling event at)) (StandsForEither 2 first bodies (spelling event at))
      (run 2 first bodies holds (distinct_more 2 first bodies event at holds.kept.distinct))
      (λ c stands. either_of b h first bodies (spelling event at) c kept stands)

  pub recorded_either : (j : Journal D) (new : D) (b : Summary) (h : List Entry) (event : Event) (at : ℕ)
      → ((d : D) (t : ℕ) (c : Areas) → t ≤ (seen d).moment → (seen d).may_leave c → (seen d).left_since t c)
      → Runs j new (spelling event at) → Tells j new (spelling event at) → HoldsRecorded seen j b h → HasEither (seen new) b h (spelling event at)
  recorded_either j new b h event at counts_now run told (first, bodies, kept, holds) =
      let body = spelling event at in
      let apart : IsDistinct first (bodies ++ body ∷ []) = distinct_more 2 first bodies event at holds.kept.distinct in
      let moments : LeavesOnly (seen j.disk) (seen new) (StandsForEither 2 first bodies body) = run 2 first bodies holds apart in
      record {
        area = told_map (λ _ t. StandsForEither 2 first bodies body t) (StandForEither b h body) (seen j.disk).told (seen new).told (told 2 first bodies holds apart)
            (λ s t stands. either_of b h first bodies body t kept stands);
        images = λ c now. either_of b h first bodies body c kept (moments.each c (counts_now new (seen j.disk).moment c moments.later now));
      }

  -- A new summary, of all that was recorded: likewise, from either version.

  abbrev pub Turns : Journal D → Journal D → List ℕ → Type 0
  Turns j k next = (version : ℕ) (summary : Option (List ℕ)) (bodies : List (List ℕ)) → Holds seen j version summary bodies → Holds seen k 2 (Some next) []

  abbrev pub TurnRuns : Journal D → D → List ℕ → Type 0
  TurnRuns j new next = (version : ℕ) (summary : Option (List ℕ)) (bodies : List (List ℕ)) → Holds seen j version summary bodies
      → LeavesOnly (seen j.disk) (seen new) (StandsForTurn version summary bodies next)

  abbrev pub TurnTells : Journal D → D → List ℕ → Type 0
  TurnTells j new next = (version : ℕ) (summary : Option (List ℕ)) (bodies : List (List ℕ)) → Holds seen j version summary bodies
      → Becomes (seen j.disk).told (seen new).told (λ _ t. StandsForTurn version summary bodies next t)

  module _ (version : ℕ) (j : Journal D) (b : Summary) (h : List Entry) (generation : ℕ) (next : List ℕ) (spells : IsSpelling 2 generation (summary_of b h) next)
      (holds : HoldsRecordedIn seen version j b h) where
    pub recorded_turned : (k : Journal D) → Turns j k next → HoldsRecorded seen k b h
    recorded_turned k turned = (Some next, [], summed_up 2 b h generation next spells, turned version holds.0 holds.1 holds.3)

    module _ (new : D) (P : Areas → Type 0) (so : (c : Areas) → IsAnew version b h c → P c) where
      pub turned_moments : TurnRuns j new next → LeavesOnly (seen j.disk) (seen new) P
      turned_moments run =
          weaker (seen j.disk) (seen new) P (StandsForTurn version holds.0 holds.1 next) (run version holds.0 holds.1 holds.3)
          (λ c stands. so c (stand_turned version b h generation holds.0 holds.1 next c holds.2 spells stands))

      pub turned_told : TurnTells j new next → IfSome (seen new).told P
      turned_told told =
          told_map (λ _ t. StandsForTurn version holds.0 holds.1 next t) P (seen j.disk).told (seen new).told (told version holds.0 holds.1 holds.3)
          (λ s t stands. so t (stand_turned version b h generation holds.0 holds.1 next t holds.2 spells stands))

  pub turned_there : (j : Journal D) (new : D) (b : Summary) (h : List Entry) (generation : ℕ) (next : List ℕ) → IsSpelling 2 generation (summary_of b h) next
      → ((d : D) (t : ℕ) (c : Areas) → t ≤ (seen d).moment → (seen d).may_leave c → (seen d).left_since t c)
      → TurnRuns j new next → TurnTells j new next → HoldsRecorded seen j b h → HasRecorded (seen new) b h
  turned_there j new b h generation next spells counts_now run told holds =
      let moments : LeavesOnly (seen j.disk) (seen new) (StandForIn 2 b h) = turned_moments 2 j b h generation next spells holds new (StandForIn 2 b h) (turned_two b h) run in
      record {
        area = turned_told 2 j b h generation next spells holds new (StandForIn 2 b h) (turned_two b h) told;
        images = λ c now. moments.each c (counts_now new (seen j.disk).moment c moments.later now);
      }

  -- Before any call of the disk.

  pub still_stands : (j : Journal D) (b : Summary) (h : List Entry) → ((d : D) (c : Areas) → (seen d).left_since (seen d).moment c → (seen d).may_leave c)
      → HoldsRecorded seen j b h → LeavesOnly (seen j.disk) (seen j.disk) (StandForIn 2 b h)
  still_stands j b h only_now holds = started (seen j.disk) (StandForIn 2 b h) (λ c left. (recorded_there j b h holds).images c (only_now j.disk c left))
