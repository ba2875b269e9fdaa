-- What an opening of a journal is to the store: a summary and the past of all that was given behind it, or a refusal.
use Rattle.std.proofs.Common.{◌≡◌, ◌≢◌, ◌⊎◌, ◌<◌, ◌^◌, ℕ, List, [], ◌∷◌, length, take, drop, get_or, Option, Some, None, refl, sym, ap, ◌∙◌, subst, inl, inr, ⊎_elim, arith, length-append}
use Rattle.std.specs.Prelude.{IfSome, MatchOption, Result, Ok, Err, IfOk, IfErr}
use Rattle.arc_io.specs.Areas.{Areas}
use Rattle.arc_io.specs.Disks.{DiskSeen}
use Rattle.centre_core.specs.Decoding.{IsNoSpelling}
use Rattle.centre_core.specs.Summing.{IsSpelled}
use Rattle.centre_rules.specs.History.{Entry, recorded}
use Rattle.centre_rules.specs.State.{State}
use Rattle.centre_rules.specs.Summary.{Summary, nothing}
use Rattle.disk_journal.specs.Faults.{IsShown, IsOfContent, HasCounts, HasCause}
use Rattle.disk_journal.specs.Journal.{Holds, IsOpen}
use Rattle.disk_journal.specs.Records.{size}
use Rattle.disk_journal.specs.Standing.{AreasStand, all_of, chosen_part}
use Rattle.disk_journal.specs.declared.fault.OpenFault.{OpenFault}
use Rattle.disk_journal.specs.declared.fault.OpenFault.TheVariants.{DiskFault, NotJournal, WrongVersion, Damaged, TooWide, Memory}
use Rattle.disk_journal.specs.declared.journal.Journal.{Journal}
use Rattle.disk_journal.proofs.Steps.{if_map}
use Rattle.summary_rules.specs.Conditions.{IsSpelling}
use Rattle.centre_store.specs.Bodies.{AreNamedIn}
use Rattle.centre_store.specs.Given.{IsKeptAs, AreasGive, HoldsRecorded}
use Rattle.centre_store.specs.Openings.{IsOpened, IsRestored, IsOfReplay, IsOfBodies, IsRefused, StandsForAll}
use Rattle.centre_store.specs.Pasts.{IsBadAt, IsReplayed}
use Rattle.centre_store.specs.Writes.{HaveAllIn}
use Rattle.centre_store.proofs.Holding.{kept_over, kept_distinct}
use Rattle.centre_store.proofs.Reopened.{HaveEach, have_each, kept_whole}
use Rattle.centre_store.proofs.Summed.{summary_begins, first_spelled}

-- what is so of a result, where more is
pub ok_map : {A E : Type 0} (P Q : A → Type 0) (r : Result A E) → IfOk r P → ((x : A) → P x → Q x) → IfOk r Q
ok_map P Q (Ok x) is so = so x is
ok_map P Q (Err e) is so = tt

pub err_map : {A E : Type 0} (P Q : E → Type 0) (r : Result A E) → IfErr r P → ((e : E) → P e → Q e) → IfErr r Q
err_map P Q (Ok x) is so = tt
err_map P Q (Err e) is so = so e is

-- and of what was found
pub found_is : {A : Type 0} (P : Type 0) (Q : A → Type 0) (o : Option A) (x : A) → o ≡ Some x → MatchOption o P Q → Q x
found_is P Q o x is found = subst (λ (p : Option _). MatchOption p P Q) is found

pub all_told : (o : Option Areas) (P : Areas → Type 0) → ((a : Areas) → P a) → IfSome o P
all_told None P so = tt
all_told (Some a) P so = so a

-- a refusal by the journal
pub all_shown : (fault : OpenFault) (told : Option Areas) → IfSome told (λ s. IsShown fault (chosen_part s)) → IfSome told (IsRefused fault)
all_shown fault told shown = if_map (λ s. IsShown fault (chosen_part s)) (IsRefused fault) told shown (λ s is. inl is)

-- The bodies that were given are all of records, as many as are counted, or none: nothing stands first.

pub restored_none : (version : ℕ) (given : List (List ℕ)) (n : ℕ) (s : State) (first : Option (List ℕ)) (behind : List (List ℕ)) → (length given ≡ n) ⊎ (length given ≡ 0)
    → IsReplayed version nothing given s → given ≡ all_of first behind → n ≡ length behind → IsRestored version first behind s
restored_none version given n s None behind few r all count =
    record { base = nothing; first_is = refl; replayed = subst (λ (l : List (List ℕ)). IsReplayed version nothing l s) all r }
restored_none version given n s (Some body) behind (inl few) r all count = absurd (omega (arith, ap length all, count, few))
restored_none version given n s (Some body) behind (inr few) r all count = absurd (omega (arith, ap length all, few))

bad_none : (fault : OpenFault) (version : ℕ) (given behind : List (List ℕ)) → IsOfReplay fault version nothing None given → given ≡ behind → IsOfBodies fault version None behind
bad_none (Damaged place) version given behind bad all = inr (nothing, refl, subst (λ (l : List (List ℕ)). IsBadAt version nothing None l place) all bad)
bad_none Memory version given behind bad all = tt
bad_none (DiskFault was is) version given behind bad all = bad
bad_none (NotJournal byte) version given behind bad all = bad
bad_none (WrongVersion found) version given behind bad all = bad
bad_none (TooWide size) version given behind bad all = absurd bad

pub broken_none : (fault : OpenFault) (version : ℕ) (given : List (List ℕ)) (n : ℕ) (first : Option (List ℕ)) (behind : List (List ℕ))
    → (length given ≡ n) ⊎ (length given ≡ 0) → IsOfReplay fault version nothing None given → given ≡ all_of first behind → n ≡ length behind
    → IsOfBodies fault version first behind
broken_none fault version given n None behind few bad all count = bad_none fault version given behind bad all
broken_none fault version given n (Some body) behind (inl few) bad all count = absurd (omega (arith, ap length all, count, few))
broken_none fault version given n (Some body) behind (inr few) bad all count = absurd (omega (arith, ap length all, few))

-- The first of them is that of a summary.

pub restored_some : (version : ℕ) (given : List (List ℕ)) (n : ℕ) (s : State) (base : Summary) (generation : ℕ) (body : List ℕ) (first : Option (List ℕ))
    (behind : List (List ℕ)) → length given ≢ n → body ≡ get_or given 0 [] → IsSpelling version generation base body → IsReplayed version base (drop 1 given) s
    → given ≡ all_of first behind → n ≡ length behind → IsRestored version first behind s
restored_some version given n s base generation body None behind more is spells r all count = absurd (more (ap length all ∙ sym count))
restored_some version given n s base generation body (Some x) behind more is spells r all count = record {
  base = base;
  first_is = (generation, subst (IsSpelling version generation base) (is ∙ ap (λ (l : List (List ℕ)). get_or l 0 []) all) spells);
  replayed = subst (λ (l : List (List ℕ)). IsReplayed version base l s) (ap (drop 1) all) r;
}

bad_some : (fault : OpenFault) (version : ℕ) (base : Summary) (generation : ℕ) (x : List ℕ) (behind : List (List ℕ)) → IsSpelling version generation base x
    → IsOfReplay fault version base (Some x) behind → IsOfBodies fault version (Some x) behind
bad_some (Damaged place) version base generation x behind spells bad = inr (base, (generation, spells), bad)
bad_some Memory version base generation x behind spells bad = tt
bad_some (DiskFault was is) version base generation x behind spells bad = bad
bad_some (NotJournal byte) version base generation x behind spells bad = bad
bad_some (WrongVersion found) version base generation x behind spells bad = bad
bad_some (TooWide size) version base generation x behind spells bad = absurd bad

pub broken_some : (fault : OpenFault) (version : ℕ) (given : List (List ℕ)) (n : ℕ) (base : Summary) (generation : ℕ) (body : List ℕ) (first : Option (List ℕ))
    (behind : List (List ℕ)) → length given ≢ n → body ≡ get_or given 0 [] → IsSpelling version generation base body
    → ((f : Option (List ℕ)) → take 1 given ≡ all_of f [] → IsOfReplay fault version base f (drop 1 given)) → given ≡ all_of first behind → n ≡ length behind
    → IsOfBodies fault version first behind
broken_some fault version given n base generation body None behind more is spells bad all count = absurd (more (ap length all ∙ sym count))
broken_some fault version given n base generation body (Some x) behind more is spells bad all count =
    bad_some fault version base generation x behind (subst (IsSpelling version generation base) (is ∙ ap (λ (l : List (List ℕ)). get_or l 0 []) all) spells)
    (subst (λ (l : List (List ℕ)). IsOfReplay fault version base (Some x) l) (ap (drop 1) all) (bad (Some x) (ap (take 1) all)))

pub unspelled : (version : ℕ) (given : List (List ℕ)) (n : ℕ) (body : List ℕ) (first : Option (List ℕ)) (behind : List (List ℕ)) → length given ≢ n
    → body ≡ get_or given 0 [] → IsNoSpelling version body → given ≡ all_of first behind → n ≡ length behind → IsOfBodies (Damaged 16) version first behind
unspelled version given n body None behind more is none all count = absurd (more (ap length all ∙ sym count))
unspelled version given n body (Some x) behind more is none all count =
    inl (subst (IsNoSpelling version) (is ∙ ap (λ (l : List (List ℕ)). get_or l 0 []) all) none, refl)

-- a refusal of content names some body, or what was recorded in the first version
some_body : (fault : OpenFault) (version : ℕ) (first : Option (List ℕ)) (bodies : List (List ℕ)) → IsOfBodies fault version first bodies → IsOfContent fault
    → (all_of first bodies ≡ [] → ⊥) ⊎ (version ≡ 1)
some_body (Damaged place) version None bodies (inl bad) of = absurd bad
some_body (Damaged place) version None bodies (inr bad) of = inl (λ none.
    let b : IsBadAt version bad.0 None bodies place = bad.2 in
    omega (arith, ap length (sym b.split ∙ none), length-append b.front (b.body ∷ b.behind)))
some_body (Damaged place) version (Some body) bodies bad of = inl (λ none. omega (arith, ap length none))
some_body (TooWide size) version first bodies bad of = inr bad.version_is
some_body Memory version first bodies bad of = absurd of
some_body (DiskFault was is) version first bodies bad of = absurd bad
some_body (NotJournal byte) version first bodies bad of = absurd bad
some_body (WrongVersion found) version first bodies bad of = absurd bad

-- it counts no fault of the disk
pub refused_counts : (fault : OpenFault) (before now version : ℕ) (first : Option (List ℕ)) (bodies : List (List ℕ)) → IsOfBodies fault version first bodies
    → HasCounts fault before now
refused_counts (Damaged place) before now version first bodies bad = tt
refused_counts (TooWide size) before now version first bodies bad = tt
refused_counts Memory before now version first bodies bad = tt
refused_counts (DiskFault was is) before now version first bodies bad = absurd bad
refused_counts (NotJournal byte) before now version first bodies bad = absurd bad
refused_counts (WrongVersion found) before now version first bodies bad = absurd bad

-- a refusal by the journal has its counts
pub counts_of : (fault : OpenFault) (before now : ℕ) → HasCause fault before now → HasCounts fault before now
counts_of (DiskFault was is) before now cause = cause
counts_of (NotJournal byte) before now cause = tt
counts_of (WrongVersion found) before now cause = tt
counts_of (Damaged place) before now cause = tt
counts_of (TooWide size) before now cause = absurd cause
counts_of Memory before now cause = tt

module _ {D : Type 0} (seen : D → DiskSeen) (disk : D) (j : Journal D) (given : List (List ℕ)) where
  -- as long as its numbers fit, the bytes of all do
  pub all_fit : IsOpen seen disk j given → j.used < 2 ^ 64 → size given < 2 ^ 64
  all_fit o fits = omega (arith, fits, o.used, ap size o.all)

  module _ (s : State) (o : IsOpen seen disk j given) (r : IsRestored j.version o.summary o.bodies s) where
    spelled : IsSpelled r.base
    spelled = first_spelled j.version r.base o.summary o.known r.first_is

    named : AreNamedIn j.version (recorded r.replayed.past)
    named = subst (AreNamedIn j.version) (sym (kept_whole r.replayed.past r.replayed.is_past.kept)) r.replayed.is_past.named

    pub opened_kept : IsKeptAs j.version r.base r.replayed.past o.summary o.bodies
    opened_kept = kept_over j.version r.base r.replayed.past o.summary o.bodies (summary_begins r.base spelled) r.first_is named r.replayed.is_past.is

    pub opened_holds : Holds seen j j.version o.summary o.bodies
    opened_holds = o.holds (kept_distinct j.version r.base r.replayed.past o.summary o.bodies opened_kept)

    -- the journal has what was recorded, in its version, and the centre stands for it
    pub opened_all : HaveAllIn seen j.version j s r.base r.replayed.past
    opened_all = record { given = spelled; stands = r.replayed.stands; holds = (o.summary, o.bodies, opened_kept, opened_holds) }

    pub opened_each : IfSome (seen disk).told (HaveEach seen j s)
    opened_each = if_map (λ (a : Areas). AreasStand a j.version o.summary o.bodies) (HaveEach seen j s) (seen disk).told o.stands
        (have_each seen disk j given s o r opened_holds)

    -- the store that has it in the second version
    pub opened : (k : Journal D) (n : ℕ) → ((b : Summary) (h : List Entry) → HaveAllIn seen j.version j s b h → HoldsRecorded seen k b h)
        → IsOpened seen disk (record { state = s; journal = k; at_open = n })
    opened k n anew =
        let held : HoldsRecorded seen k r.base r.replayed.past = anew r.base r.replayed.past opened_all in
        record {
          version = j.version;
          base = r.base;
          bodies = o.bodies;
          past = r.replayed.past;
          given = spelled;
          is_past = r.replayed.is_past;
          stands = record { given = spelled; centre = r.replayed.stands; journal = inl held };
          held = held;
          area = if_map (λ (a : Areas). AreasStand a j.version o.summary o.bodies) (λ (a : Areas). AreasGive a j.version r.base o.bodies) (seen disk).told o.stands
              (λ a is. (o.summary, r.first_is, is));
          every = if_map (HaveEach seen j s) (StandsForAll seen (record { state = s; journal = k; at_open = n })) (seen disk).told opened_each
              (λ a each b h over legal moment whole stands.
              let all = each b h over legal moment whole stands in
              record { given = over; centre = all.stands; journal = inl (anew b h all) });
        }

  -- they have no past, or what stands first is no spelling; or it is too wide
  pub refused : (fault : OpenFault) (o : IsOpen seen disk j given) → IsOfBodies fault j.version o.summary o.bodies → IfSome (seen disk).told (IsRefused fault)
  refused fault o bad =
      if_map (λ (a : Areas). AreasStand a j.version o.summary o.bodies) (IsRefused fault) (seen disk).told o.stands
      (λ a is. inr (j.version, o.summary, o.bodies, is, bad))

  pub refused_some : (fault : OpenFault) (o : IsOpen seen disk j given) → IsOfBodies fault j.version o.summary o.bodies → IsOfContent fault
      → (given ≡ [] → ⊥) ⊎ (j.version ≡ 1)
  refused_some fault o bad of =
      ⊎_elim
      (λ (some : all_of o.summary o.bodies ≡ [] → ⊥). inl (λ none. some (sym o.all ∙ none)))
      (λ (one : j.version ≡ 1). inr one)
      (some_body fault j.version o.summary o.bodies bad of)
