-- Laws of what stands first in a journal, the spelling of a summary, and of the summaries of histories.
use Rattle.std.proofs.Common.{◌≡◌, ◌+◌, ℕ, List, [], ◌∷◌, ◌++◌, Bool, true, false, cond, map, length, take, Option, Some, None, inr, refl, sym, ap, ◌∙◌, subst, arith}
use Rattle.std.specs.Cmp.{unsigned_ties}
use Rattle.std.specs.Cmp.Lexicographic.{slice_cmp, lists_ties}
use Rattle.std.specs.List.{find}
use Rattle.std.specs.Ordering.{nat_cmp, is_lt, is_eq}
use Rattle.std.specs.Str.{bytes_eq}
use Rattle.std.specs.declared.cmp.Ordering.{Ordering}
use Rattle.std.specs.declared.cmp.Ordering.TheVariants.{Less, Equal, Greater}
use Rattle.std.proofs.lemmas.Bool.{false≢true}
use Rattle.std.proofs.lemmas.List.{take_all}
use Rattle.std.proofs.lemmas.Slice.Eq.{bytes_eq-Decides}
use Rattle.centre_rules.specs.Summary.{Summary, AccountRow, nothing, row_of, row_or}
use Rattle.centre_rules.specs.Marks.{text, start}
use Rattle.centre_rules.specs.Cases.{opened, incidents}
use Rattle.centre_rules.specs.History.{Entry, is_recorded, recorded, last, marks, marks_of, onto}
use Rattle.centre_rules.specs.Sums.{names, account_row, summary_of}
use Rattle.centre_rules.proofs.Steps.{incidents_begin}
use Rattle.disk_journal.specs.Standing.{IsDistinct}
use Rattle.summary_rules.specs.Conditions.{IsRowBefore, IsSpelling}
use Rattle.summary_rules.specs.Fields.{IsRow}
use Rattle.summary_rules.specs.Lists.{Every, EveryTwo}
use Rattle.summary_rules.specs.Spelling.{long_number, summary_text}
use Rattle.summary_rules.proofs.Spelled.{nothing_spelled}
use Rattle.summary_codec.proofs.Whole.{spells_one}
use Rattle.centre_core.specs.Summing.{IsSpelled}
use Rattle.event_codec.specs.Spelling.{IsVersion}
use Rattle.centre_store.specs.Given.{IsFirst}

-- Quiet entries.

-- a summary has of a history its recorded entries, its marks, and the moment of the last recorded one
pub summary_alike : (b : Summary) (h k : List Entry) → last b h ≡ last b k → recorded h ≡ recorded k → marks b h ≡ marks b k → summary_of b h ≡ summary_of b k
summary_alike b h k l r m = λ i. record {
  last = l i;
  recorded = b.recorded + length (r i);
  opened = opened b (m i);
  start = start b (m i);
  text = text b (m i);
  rows = map (account_row b (m i)) (names b (m i));
  incidents = incidents b (m i);
}

-- a summary does not see them
pub summary_quiet : (b : Summary) (e : Entry) (h : List Entry) → is_recorded e.reply ≡ false → summary_of b (e ∷ h) ≡ summary_of b h
summary_quiet b e h quiet =
    summary_alike b (e ∷ h) h (ap (λ (t : Bool). cond t e.at (last b h)) quiet) (ap (λ (t : Bool). cond t (e ∷ recorded h) (recorded h)) quiet)
    (ap (λ (t : Bool). cond t (onto (marks_of b (marks b h) e.event e.at e.reply) (marks b h)) (marks b h)) quiet)

quiet_first : (e : Entry) (l : List Entry) (t : Bool) → is_recorded e.reply ≡ t → cond t (e ∷ recorded l) (recorded l) ≡ []
    → (is_recorded e.reply ≡ false) × (recorded l ≡ [])
quiet_first e l true is none = absurd (omega (arith, ap length none))
quiet_first e l false is none = (is, none)

pub summary_none : (b : Summary) (later summed : List Entry) → recorded later ≡ [] → summary_of b (later ++ summed) ≡ summary_of b summed
summary_none b [] summed none = refl
summary_none b (e ∷ later) summed none =
    let w = quiet_first e later (is_recorded e.reply) refl none in
    summary_quiet b e (later ++ summed) w.0 ∙ summary_none b later summed w.1

-- The summary of no entries.

less_apart : (o : Ordering) → is_lt o ≡ true → is_eq o ≡ false
less_apart Less e = refl
less_apart Equal e = absurd (false≢true e)
less_apart Greater e = refl

before_apart : (a b : List ℕ) → is_lt (slice_cmp nat_cmp a b) ≡ true → bytes_eq a b ≡ false
before_apart a b e = lists_ties nat_cmp unsigned_ties a b ∙ less_apart (slice_cmp nat_cmp a b) e

-- the row is found by its account
abbrev IsFoundIn : List AccountRow → AccountRow → Type 0
IsFoundIn rows r = find (λ (x : AccountRow). bytes_eq x.account r.account) rows ≡ Some r

found_behind : (x : AccountRow) (rows ys : List AccountRow) → Every (IsRowBefore x) ys → Every (IsFoundIn rows) ys → Every (IsFoundIn (x ∷ rows)) ys
found_behind x rows [] w f = tt
found_behind x rows (r ∷ ys) w f = (
  ap (λ (t : Bool). cond t (Some x) (find (λ (y : AccountRow). bytes_eq y.account r.account) rows)) (before_apart x.account r.account w.0) ∙ f.0,
  found_behind x rows ys w.1 f.1,
)

all_found : (rows : List AccountRow) → EveryTwo IsRowBefore rows → Every (IsFoundIn rows) rows
all_found [] w = tt
all_found (x ∷ rows) w = (
  ap (λ (t : Bool). cond t (Some x) (find (λ (y : AccountRow). bytes_eq y.account x.account) rows)) ((bytes_eq-Decides x.account x.account).1 refl),
  found_behind x rows rows w.0 (all_found rows w.1),
)

row_as : (b : Summary) (r : AccountRow) → IsFoundIn b.rows r → IsRow r → account_row b [] r.account ≡ r
row_as b r found is =
    let same : row_of b r.account ≡ r = ap (λ (f : Option AccountRow). row_or f r.account b.start) found in
    let few : take 32 (row_of b r.account).messages ≡ r.messages = ap (λ (x : AccountRow). take 32 x.messages) same ∙ take_all 32 r.messages is.few in
    λ i. record { account = r.account; heard = (same i).heard; failed = (same i).failed; opening = (same i).opening; messages = few i }

rows_as : (b : Summary) (rows : List AccountRow) → Every (IsFoundIn b.rows) rows → Every IsRow rows → map (account_row b []) (map (λ (r : AccountRow). r.account) rows) ≡ rows
rows_as b [] found are = refl
rows_as b (r ∷ rows) found are = λ i. row_as b r found.0 are.0 i ∷ rows_as b rows found.1 are.1 i

pub summary_begins : (b : Summary) → IsSpelled b → summary_of b [] ≡ b
summary_begins b spelled =
    let rows : map (account_row b []) (names b []) ≡ b.rows = rows_as b b.rows (all_found b.rows spelled.besides.rows) spelled.fields.rows in
    let recorded : b.recorded + 0 ≡ b.recorded = omega arith in
    λ i. record {
      last = b.last;
      recorded = recorded i;
      opened = b.opened;
      start = b.start;
      text = b.text;
      rows = rows i;
      incidents = incidents_begin b i;
    }

-- Spellings.

-- they are equally long at all generations
pub text_long : (version generation : ℕ) (s : Summary) → length (summary_text version generation s) ≡ length (summary_text version 1 s)
unfolding summary_text long_number
text_long version generation s = refl

-- what stands first is of one summary
pub first_once : (version : ℕ) (s t : Summary) (first : Option (List ℕ)) → IsFirst version s first → IsFirst version t first → s ≡ t
first_once version s t None one other = one ∙ sym other
first_once version s t (Some body) one other = (spells_one version body one.0 other.0 s t one.1 other.1).summaries

-- and that has a spelling
pub nothing_is : IsSpelled nothing
nothing_is =
    let spelled = nothing_spelled 2 (inr refl) in
    record { version = 2; known = inr refl; generation = 1; fields = spelled.fields; besides = spelled.besides }

pub first_spelled : (version : ℕ) (s : Summary) (first : Option (List ℕ)) → IsVersion version → IsFirst version s first → IsSpelled s
first_spelled version s None known is = subst IsSpelled (sym is) nothing_is
first_spelled version s (Some body) known is =
    record { version = version; known = known; generation = is.0; fields = is.1.fields; besides = is.1.besides }

-- the body of a summary begins with 0B and has its generation in it
text_distinct : (version generation : ℕ) (s : Summary) → IsDistinct (Some (summary_text version generation s)) []
unfolding summary_text long_number
text_distinct version generation s = (refl, omega arith)

pub spelling_distinct : (version generation : ℕ) (s : Summary) (body : List ℕ) → IsSpelling version generation s body → IsDistinct (Some body) []
spelling_distinct version generation s body is = subst (λ (l : List ℕ). IsDistinct (Some l) []) (sym is.is) (text_distinct version generation s)
