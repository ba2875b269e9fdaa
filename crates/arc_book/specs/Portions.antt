-- A portion of an area of a version, from its front on, and its book.
use Rattle.std.specs.Prelude.{◌≡◌, ℕ, List, [], ◌++◌, Option, Some, None}
use Rattle.book_lines.specs.Books.{book_of}
use Rattle.book_lines.specs.Summaries.{summary_line}
use Rattle.book_lines.specs.declared.options.Options.{Options}
use Rattle.centre_core.specs.Decoding.{IsNoSpelling}
use Rattle.centre_rules.specs.History.{Entry}
use Rattle.centre_rules.specs.Summary.{Summary, nothing}
use Rattle.centre_store.specs.Pasts.{IsPast, HasNoNext}
use Rattle.disk_journal.specs.Standing.{all_of}
use Rattle.summary_rules.specs.Conditions.{IsSpelling}

-- what an area has before its records: nothing, where they are all that was ever recorded; or a spelling of the summary of what was
-- recorded before
abbrev pub IsFirst : ℕ → Summary → Option (List ℕ) → Type 0
IsFirst version base None = base ≡ nothing
IsFirst version base (Some body) = (generation : ℕ) × IsSpelling version generation base body

-- the body of the summary, or none, and the bodies behind it, which have a past over it, the one history for which they stand
pub record Portion (version : ℕ) : Type 0 where
  pub first : Option (List ℕ)
  pub base : Summary
  pub bodies : List (List ℕ)
  pub past : List Entry
  pub is_first : IsFirst version base first
  pub is_past : IsPast version base bodies past

-- its bodies, one behind the other as they stand in the area
abbrev pub bodies_told : {version : ℕ} → Portion version → List (List ℕ)
bodies_told {version} p = all_of p.first p.bodies

-- Nothing goes on from it with this body: no entry has it; and at the front of the area it spells no summary either. A body that begins
-- with 0B is that of no entry, and any other one spells no summary.
abbrev pub HasNoNextIn : {version : ℕ} → Portion version → List ℕ → Type 0
HasNoNextIn {version} p body =
    HasNoNext version p.base p.bodies p.past body × (bodies_told p ≡ [] → IsNoSpelling version body)

-- the line of the summary, where there is one and the options ask for it
abbrev pub first_line : Options → Option (List ℕ) → Summary → List ℕ
first_line o None base = []
first_line o (Some body) base = summary_line o base

-- that line, and behind it the lines of the records, the numbers of which go on from it
abbrev pub area_book : {version : ℕ} → Options → Portion version → List ℕ
area_book {version} o p = first_line o p.first p.base ++ book_of o p.base p.past
