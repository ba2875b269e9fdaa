-- How a book ends.
use Rattle.std.proofs.Common.{◌≡◌, ◌≤◌, ℕ, List, [], ◌++◌, length, Option, Some, None, refl, sym, ap, ◌∙◌, subst, inl, arith, append-nil}
use Rattle.std.specs.Prelude.{IfSome}
use Rattle.std.specs.Io.KnownBytes.{append_known}
use Rattle.arc_io.specs.Causes.{Rose}
use Rattle.arc_io.specs.Seen.{PortSeen}
use Rattle.arc_io.specs.Told.{OnlyReads, OnlyWrites}
use Rattle.arc_io.proofs.Frames.{writes_more}
use Rattle.arc_io.proofs.KnownMore.{known_none}
use Rattle.book_lines.specs.declared.options.Options.{Options}
use Rattle.disk_journal.specs.Faults.{IsShown, IsOfFront}
use Rattle.disk_journal.specs.declared.fault.OpenFault.{OpenFault}
use Rattle.disk_journal.specs.declared.fault.OpenFault.TheVariants as Open
use Rattle.arc_book.specs.Compiled.{IsCompiled, IsEnd, EndsRefused, BeginsWith, HasText, HasCauses, IsFrontWritten, IsWrittenBut}
use Rattle.arc_book.specs.Statuses.{IsTold, IsOfArea, IsWritten, last_line}
use Rattle.arc_book.specs.declared.status.Status.{Status}
use Rattle.arc_book.specs.declared.status.Status.TheVariants.{Done, Usage, ReadFault, WriteFault, Journal, Memory, Spent}
use Rattle.arc_book.specs.Portions.{area_book}
use Rattle.arc_book.proofs.Pages.{unwritten, put_out, failed_on}
use Rattle.arc_book.proofs.Portions.{begun, book_begun}

begins_none : (all : Option (List ℕ)) → IfSome all (BeginsWith (begun 2))
begins_none None = tt
begins_none (Some bytes) = inl refl

-- nothing was touched
pub nothing_told : (o : Options) (all : Option (List ℕ)) (s k : PortSeen) → IsTold o Memory all s s k k
nothing_told o all s k = record {
  version = 2;
  told = begun 2;
  area = begins_none all;
  written = sym (known_none k.written) ∙ ap (append_known k.written) (sym (book_begun 2 o) ∙ sym (append-nil (area_book o (begun 2))));
  causes = tt;
  reads = record { rest = refl };
  writes = record { rest = refl };
}

-- an area of which no record was told
pub none_compiled : (o : Options) (status : Status) (all : Option (List ℕ)) (s s' k : PortSeen) → IfSome all (IsEnd status (begun 2)) → HasText status k.written k.written [] (area_book o (begun 2))
    → HasCauses status s s' k k → OnlyReads s s' → IsCompiled o status all s s' k k []
none_compiled o status all s s' k ended text causes reads = record {
  version = 2;
  told = begun 2;
  ended = ended;
  text = text;
  causes = causes;
  later = omega arith;
  reads = reads;
  writes = record { rest = refl };
}

pub fresh_compiled : (o : Options) (all : Option (List ℕ)) (s s' k : PortSeen) → IfSome all (λ bytes. length bytes ≤ 17) → OnlyReads s s' → IsCompiled o Done all s s' k k []
fresh_compiled o all s s' k short reads = none_compiled o Done all s s' k (stands all short) (unwritten 2 o k.written) tt reads
  where
    stands : (all : Option (List ℕ)) → IfSome all (λ bytes. length bytes ≤ 17) → IfSome all (IsEnd Done (begun 2))
    stands None short = tt
    stands (Some bytes) short = inl (short, refl)

refused : (all : Option (List ℕ)) (fault : OpenFault) → IsOfFront fault → IfSome all (IsShown fault) → IfSome all (EndsRefused fault (begun 2))
refused None fault front shown = tt
refused (Some bytes) (Open.DiskFault was is) front shown = absurd front
refused (Some bytes) (Open.NotJournal byte) front shown = (shown, refl)
refused (Some bytes) (Open.WrongVersion found) front shown = (shown, refl)
refused (Some bytes) (Open.Damaged place) front shown = absurd front
refused (Some bytes) (Open.TooWide size) front shown = absurd front
refused (Some bytes) Open.Memory front shown = absurd front

pub refused_compiled : (o : Options) (all : Option (List ℕ)) (s s' k : PortSeen) (fault : OpenFault) → IsOfFront fault → IfSome all (IsShown fault) → OnlyReads s s'
    → IsCompiled o (Journal fault) all s s' k k []
refused_compiled o all s s' k fault front shown reads = none_compiled o (Journal fault) all s s' k (refused all fault front shown) (unwritten 2 o k.written) tt reads

pub unread_compiled : (o : Options) (all : Option (List ℕ)) (s s' k : PortSeen) → Rose s.read_faults s'.read_faults → OnlyReads s s' → IsCompiled o ReadFault all s s' k k []
unread_compiled o all s s' k rose reads = none_compiled o ReadFault all s s' k (begins_none all) (unwritten 2 o k.written) rose reads

pub unkept_compiled : (o : Options) (all : Option (List ℕ)) (s s' k : PortSeen) → OnlyReads s s' → IsCompiled o Memory all s s' k k []
unkept_compiled o all s s' k reads = none_compiled o Memory all s s' k (begins_none all) (unwritten 2 o k.written) tt reads

if_some : {P Q : List ℕ → Type 0} (all : Option (List ℕ)) → ((bytes : List ℕ) → P bytes → Q bytes) → IfSome all P → IfSome all Q
if_some None so p = tt
if_some (Some bytes) so p = so bytes p

module _ (o : Options) (all : Option (List ℕ)) (s s' k0 k k' : PortSeen) (page : List ℕ) (writes : OnlyWrites k k') where
  told_as : (status : Status) (c : IsCompiled o status all s s' k0 k page) → IfSome all (IsOfArea status c.told)
      → IsWritten status k0.written k'.written (area_book o c.told) → HasCauses status s s' k0 k' → IsTold o status all s s' k0 k'
  told_as status c area written causes = record {
    version = c.version;
    told = c.told;
    area = area;
    written = written;
    causes = causes;
    reads = c.reads;
    writes = writes_more c.writes writes;
  }

  -- the page and the last line were put
  pub told_whole : (status : Status) → IsCompiled o status all s s' k0 k page → (status ≡ WriteFault → ⊥) → k'.written ≡ append_known k.written (page ++ last_line status)
      → IsTold o status all s s' k0 k'
  told_whole Done c other put = told_as Done c c.ended (put_out k0.written k.written k'.written page [] (area_book o c.told) c.text put) tt
  told_whole Usage c other put = told_as Usage c c.ended (put_out k0.written k.written k'.written page [] (area_book o c.told) c.text put) tt
  told_whole ReadFault c other put = told_as ReadFault c c.ended (put_out k0.written k.written k'.written page [] (area_book o c.told) c.text put) c.causes
  told_whole WriteFault c other put = absurd (other refl)
  told_whole (Journal fault) c other put =
      told_as (Journal fault) c c.ended (put_out k0.written k.written k'.written page (last_line (Journal fault)) (area_book o c.told) c.text put) tt
  told_whole Memory c other put = told_as Memory c c.ended (put_out k0.written k.written k'.written page [] (area_book o c.told) c.text put) tt
  told_whole Spent c other put = told_as Spent c c.ended (put_out k0.written k.written k'.written page [] (area_book o c.told) c.text put) tt

  text_but : (status : Status) → (status ≡ WriteFault → ⊥) → (text : List ℕ) → HasText status k0.written k.written page text → IsWrittenBut k0.written k.written page text
  text_but Done other text has = has
  text_but Usage other text has = has
  text_but ReadFault other text has = has
  text_but WriteFault other text has = absurd (other refl)
  text_but (Journal fault) other text has = has
  text_but Memory other text has = has
  text_but Spent other text has = has

  -- they could not be put whole
  pub told_front : (status : Status) → IsCompiled o status all s s' k0 k page → (status ≡ WriteFault → ⊥) → IsFrontWritten k.written k'.written (page ++ last_line status)
      → Rose k.write_faults k'.write_faults → IsTold o WriteFault all s s' k0 k'
  told_front status c other front rose =
      let f = failed_on k0.written k.written k'.written page (last_line status) (area_book o c.told) (text_but status other (area_book o c.told) c.text) front in
      record {
        version = c.version;
        told = c.told;
        area = if_some {P = IsEnd status c.told} all (λ bytes is. tt) c.ended;
        written = (status, f);
        causes = omega (arith, c.later, rose);
        reads = c.reads;
        writes = writes_more c.writes writes;
      }

-- a write had failed before
pub told_short : (o : Options) (all : Option (List ℕ)) (s s' k0 k : PortSeen) (page : List ℕ) → IsCompiled o WriteFault all s s' k0 k page → IsTold o WriteFault all s s' k0 k
told_short o all s s' k0 k page c = record {
  version = c.version;
  told = c.told;
  area = if_some {P = IsEnd WriteFault c.told} all (λ bytes is. tt) c.ended;
  written = (Done, subst (IsFrontWritten k0.written k.written) (sym (append-nil (area_book o c.told))) c.text);
  causes = c.causes;
  reads = c.reads;
  writes = c.writes;
}

pub short_as : (o : Options) (status : Status) (all : Option (List ℕ)) (s s' k0 k : PortSeen) (page : List ℕ) → status ≡ WriteFault → IsCompiled o status all s s' k0 k page
    → IsTold o status all s s' k0 k
short_as o status all s s' k0 k page is c =
    subst (λ (x : Status). IsCompiled o x all s s' k0 k page → IsTold o x all s s' k0 k) (sym is) (told_short o all s s' k0 k page) c
