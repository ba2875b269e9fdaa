-- What was read, as it is kept until it is taken up.
use Rattle.std.specs.Prelude.{◌≡◌, ℕ, List, map}
use Rattle.std.specs.Option.{option_map}
use Rattle.centre_rules.specs.Summary.{Summary, AccountRow}
use Rattle.summary_rules.specs.Conditions.{AreNamedIn}
use Rattle.summary_rules.specs.Fields.{HasFields}
use Rattle.summary_rules.specs.Spelling.{summary_text}
use Rattle.summary_codec.specs.declared.reading.ReadRow.{ReadRow}
use Rattle.summary_codec.specs.declared.summary.ReadSummary.{ReadSummary}

abbrev pub row_of_read : ReadRow → AccountRow
row_of_read r = record { account = r.account; heard = r.heard; failed = r.failed; opening = r.opening; messages = r.window }

abbrev pub summary_of_read : ReadSummary → Summary
summary_of_read r = record {
  last = r.head.last;
  recorded = r.head.recorded;
  opened = r.head.opened;
  start = r.head.start;
  text = option_map (λ t. t.now) r.head.text;
  rows = map row_of_read r.rows.items;
  incidents = r.incidents.items;
}

-- they are the bytes of what was read, in this version, and each field of it is in its range
pub record IsTextOf (version : ℕ) (bytes : List ℕ) (r : ReadSummary) : Type 0 where
  pub fields : HasFields r.head.generation (summary_of_read r)
  pub names : AreNamedIn version r.incidents.items
  pub is : bytes ≡ summary_text version r.head.generation (summary_of_read r)

-- they are the bytes of no summary whose fields are in their ranges, in this version
abbrev pub IsNoText : ℕ → List ℕ → Type 0
IsNoText version bytes = (generation : ℕ) (s : Summary) → HasFields generation s → AreNamedIn version s.incidents
    → bytes ≡ summary_text version generation s → ⊥
