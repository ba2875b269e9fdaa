-- What is read of a body as that of a summary is what the summary has that it spells.
use Rattle.std.proofs.Common.{◌≡◌, ℕ, List, ◌++◌, length, map, Option, Some, sym, ap, ◌∙◌, subst}
use Rattle.std.proofs.lemmas.List.{length-map}
use Rattle.std.specs.Prelude.{MatchOption}
use Rattle.arc_data.specs.Moments.{IsMoment}
use Rattle.book_lines.specs.Summaries.{holdings, held_line}
use Rattle.book_lines.specs.declared.options.Options.{Options}
use Rattle.book_lines.specs.declared.summary.Held.{Held}
use Rattle.centre_core.specs.Decoding.{IsNoSpelling, IsDecoded}
use Rattle.centre_rules.specs.State.{State}
use Rattle.centre_rules.specs.Summary.{Summary}
use Rattle.summary_codec.proofs.Whole.{one_text}
use Rattle.summary_codec.specs.Parts.{IsNoText, IsTextOf, row_of_read, summary_of_read}
use Rattle.summary_codec.specs.declared.summary.ReadSummary.{ReadSummary}
use Rattle.summary_rules.specs.Conditions.{IsSpelling}
use Rattle.arc_book.specs.Taken.{IsSummedUp}

pub none_so : (version : ℕ) (bytes : List ℕ) → IsNoText version bytes → IsNoSpelling version bytes
none_so version bytes none = λ generation s w. none generation s w.fields w.besides.names w.is

-- what was read, where anything was
pub text_some : (version : ℕ) (bytes : List ℕ) (found : Option ReadSummary) (r : ReadSummary) → found ≡ Some r → MatchOption found (IsNoText version bytes) (IsTextOf version bytes) → IsTextOf version bytes r
text_some version bytes found r is so = subst (λ (o : Option ReadSummary). MatchOption o (IsNoText version bytes) (IsTextOf version bytes)) is so

-- what is counted of it
pub held_counts : (r : ReadSummary) (accounts still_open : ℕ) → accounts ≡ length r.rows.items → still_open ≡ length r.incidents.items
    → ◌≡◌ {A = Held} (record { recorded = r.head.recorded; last = r.head.last; accounts = accounts; opened = r.head.opened; still_open = still_open }) (holdings (summary_of_read r))
held_counts r accounts still_open rows incidents =
    ap (λ (n : ℕ). record { recorded = r.head.recorded; last = r.head.last; accounts = n; opened = r.head.opened; still_open = still_open })
    (rows ∙ sym (length-map r.rows.items row_of_read))
    ∙ ap (λ (n : ℕ). record { recorded = r.head.recorded; last = r.head.last; accounts = length (map row_of_read r.rows.items); opened = r.head.opened; still_open = n }) incidents

pub held_so : (version : ℕ) (bytes : List ℕ) (r : ReadSummary) (generation : ℕ) (s : Summary) → IsTextOf version bytes r → IsSpelling version generation s bytes → holdings (summary_of_read r) ≡ holdings s
held_so version bytes r generation s t w =
    ap holdings (one_text version bytes r.head.generation generation (summary_of_read r) s t.fields t.names t.is w.fields w.besides.names w.is).summaries

module _ (version : ℕ) (bytes : List ℕ) (held : Held) (centre : State) (generation : ℕ) (so : (g : ℕ) (s : Summary) → IsSpelling version g s bytes → held ≡ holdings s)
    (d : IsDecoded version bytes centre generation) where
  pub moment_held : IsMoment held.last
  moment_held = subst IsMoment (sym (ap (λ (h : Held). h.last) (so generation d.base d.spelling))) d.spelling.besides.last

  pub summed_so : (o : Options) (page page' : List ℕ) → page' ≡ page ++ held_line o held → IsSummedUp version o bytes centre page page'
  summed_so o page page' put = record {
    generation = generation;
    base = d.base;
    spelling = d.spelling;
    stands = d.stands;
    put = put ∙ ap (λ (h : Held). page ++ held_line o h) (so generation d.base d.spelling);
  }
