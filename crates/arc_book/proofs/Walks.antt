-- How far the records of an area were told, and how that ends.
use Rattle.std.proofs.Common.{◌≡◌, ◌≢◌, ◌≤◌, ◌^◌, ℕ, List, [], ◌∷◌, ◌++◌, Option, refl, sym, subst, arith}
use Rattle.std.specs.Prelude.{IfSome}
use Rattle.arc_io.specs.Causes.{Rose}
use Rattle.arc_io.proofs.Frames.{reads_more}
use Rattle.arc_io.specs.Seen.{PortSeen}
use Rattle.arc_io.specs.Told.{OnlyReads, OnlyWrites}
use Rattle.book_lines.specs.declared.options.Options.{Options}
use Rattle.centre_rules.specs.State.{State, StandsFor}
use Rattle.disk_journal.specs.declared.fault.OpenFault.TheVariants as Open
use Rattle.arc_book.specs.Compiled.{IsCompiled, IsEnd, IsScanned, IsWrittenBut, IsFrontWritten, IsTurned, HasText, HasCauses}
use Rattle.arc_book.specs.Portions.{Portion, bodies_told, HasNoNextIn, area_book}
use Rattle.arc_book.specs.Taken.{IsTakenUp}
use Rattle.arc_book.specs.Tapes.{IsReadTo, IsBrokenAhead}
use Rattle.arc_book.specs.declared.status.Status.{Status}
use Rattle.arc_book.specs.declared.status.Status.TheVariants.{Done, Usage, ReadFault, WriteFault, Journal, Memory, Spent}
use Rattle.arc_book.proofs.Pages.{turned_on, failed_on}
use Rattle.arc_book.proofs.Tapes.{stands_at, begins_at, spent_end, broken_end, ends_bad, bad_end, both_far}

-- A portion was told: the centre stands for it, and its book is written but for the page.
pub record Walks (version : ℕ) (o : Options) (all : Option (List ℕ)) (gate at : ℕ) (rest : Option (List ℕ)) (k0 k : PortSeen) (centre : State) (page : List ℕ) : Type 0 where
  pub told : Portion version
  pub read : IsReadTo version all (bodies_told told) gate at rest
  pub stands : StandsFor told.base centre told.past
  pub text : IsWrittenBut k0.written k.written page (area_book o told)

module _ {version : ℕ} {o : Options} {all : Option (List ℕ)} {gate at : ℕ} {rest : Option (List ℕ)} {s s' k0 k : PortSeen} {centre : State} {page : List ℕ}
    (w : Walks version o all gate at rest k0 k centre page) (later : k0.write_faults ≤ k.write_faults) (reads : OnlyReads s s') (writes : OnlyWrites k0 k) where
  ends : (status : Status) → IfSome all (IsEnd status w.told) → HasText status k0.written k.written page (area_book o w.told) → HasCauses status s s' k0 k
      → IsCompiled o status all s s' k0 k page
  ends status ended text causes = record {
    version = version;
    told = w.told;
    ended = ended;
    text = text;
    causes = causes;
    later = later;
    reads = reads;
    writes = writes;
  }

  pub closed_walk : gate ≢ 1 → IsCompiled o Done all s s' k0 k page
  closed_walk closed = ends Done (stands_at all (bodies_told w.told) gate at rest w.read closed) w.text tt

  pub broken_walk : gate ≡ 1 → IsBrokenAhead at rest → IsCompiled o (Journal (Open.Damaged at)) all s s' k0 k page
  broken_walk opened broken = ends (Journal (Open.Damaged at)) (broken_end all w.told gate at rest w.read opened broken) w.text tt

  pub spent_walk : 2 ^ 40 ≤ at → IsCompiled o Spent all s s' k0 k page
  spent_walk far = ends Spent (spent_end all w.told gate at rest w.read far) w.text tt

  pub failed_walk : Rose s.read_faults s'.read_faults → IsCompiled o ReadFault all s s' k0 k page
  failed_walk rose = ends ReadFault (begins_at all w.told gate at rest w.read) w.text rose

  pub memory_walk : IsCompiled o Memory all s s' k0 k page
  memory_walk = ends Memory (begins_at all w.told gate at rest w.read) w.text tt

  -- a body was read with which no entry goes on, and then the rest
  pub bad_walk : (status : Status) (body : List ℕ) (gate' at' : ℕ) (rest' : Option (List ℕ)) → IsReadTo version all (bodies_told w.told ++ body ∷ []) gate' at' rest' → HasNoNextIn w.told body
      → IsScanned version status all (bodies_told w.told ++ body ∷ []) at → (status ≡ ReadFault → Rose s.read_faults s'.read_faults) → IsCompiled o status all s s' k0 k page
  bad_walk Done body gate' at' rest' r bad scanned rose = absurd scanned
  bad_walk Usage body gate' at' rest' r bad scanned rose = absurd scanned
  bad_walk ReadFault body gate' at' rest' r bad scanned rose = failed_walk (rose refl)
  bad_walk WriteFault body gate' at' rest' r bad scanned rose = absurd scanned
  bad_walk (Journal fault) body gate' at' rest' r bad scanned rose =
      ends (Journal fault)
      (bad_end all w.told body fault at (ends_bad all w.told body gate' at' rest' r bad) w.read.at scanned) w.text tt
  bad_walk Memory body gate' at' rest' r bad scanned rose = memory_walk
  bad_walk Spent body gate' at' rest' r bad scanned rose = ends Spent (both_far all w.told (begins_at all w.told gate at rest w.read) scanned) w.text tt

-- a body more was told
module _ {version : ℕ} {o : Options} {all : Option (List ℕ)} {gate at gate' at' : ℕ} {rest rest' : Option (List ℕ)} {k0 k : PortSeen} {centre centre' : State} {page page' : List ℕ} {body : List ℕ}
    (w : Walks version o all gate at rest k0 k centre page) (r : IsReadTo version all (bodies_told w.told ++ body ∷ []) gate' at' rest') (t : IsTakenUp o w.told body centre' page page') where
  read_next : IsReadTo version all (bodies_told t.next) gate' at' rest'
  read_next = subst (λ (l : List (List ℕ)). IsReadTo version all l gate' at' rest') (sym t.is) r

  -- and its line is on the page, or written
  pub more_walk : {k' : PortSeen} (page'' : List ℕ) → IsTurned k.written k'.written page' page'' → Walks version o all gate' at' rest' k0 k' centre' page''
  more_walk {k'} page'' turned = record {
    told = t.next;
    read = read_next;
    stands = t.stands;
    text = subst (IsWrittenBut k0.written k'.written page'') (sym t.book)
        (turned_on k0.written k.written k'.written page (t.line) page'' (area_book o w.told) w.text
        (subst (λ (l : List ℕ). IsTurned k.written k'.written l page'') t.put turned));
  }

  -- or could not be written whole
  pub write_walk : {k' s s' : PortSeen} (page'' : List ℕ) → IsFrontWritten k.written k'.written page' → OnlyReads s s' → OnlyWrites k0 k' → k0.write_faults ≤ k'.write_faults → Rose k0.write_faults k'.write_faults
      → IsCompiled o WriteFault all s s' k0 k' page''
  write_walk {k'} page'' front reads writes later rose = record {
    version = version;
    told = t.next;
    ended = begins_at all t.next gate' at' rest' read_next;
    text = subst (IsFrontWritten k0.written k'.written) (sym t.book)
        (failed_on k0.written k.written k'.written page (t.line) (area_book o w.told) w.text
        (subst (IsFrontWritten k.written k'.written) t.put front));
    causes = rose;
    later = later;
    reads = reads;
    writes = writes;
  }

-- what a walk behind the front leaves is what the whole reading leaves
pub walked_on : (o : Options) (status : Status) (all : Option (List ℕ)) (s t s' k k' : PortSeen) (page : List ℕ) → OnlyReads s t → s.read_faults ≤ t.read_faults
    → IsCompiled o status all t s' k k' page → IsCompiled o status all s s' k k' page
walked_on o status all s t s' k k' page opened later c = record {
  version = c.version;
  told = c.told;
  ended = c.ended;
  text = c.text;
  causes = causes_on status c.causes;
  later = c.later;
  reads = reads_more opened c.reads;
  writes = c.writes;
}
  where
    causes_on : (status : Status) → HasCauses status t s' k k' → HasCauses status s s' k k'
    causes_on Done causes = tt
    causes_on Usage causes = tt
    causes_on ReadFault rose = omega (arith, later, rose)
    causes_on WriteFault rose = rose
    causes_on (Journal fault) causes = tt
    causes_on Memory causes = tt
    causes_on Spent causes = tt
