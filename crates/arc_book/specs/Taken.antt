-- What taking a body in makes of a portion, a centre and a page.
use Rattle.std.specs.Prelude.{◌≡◌, ℕ, List, [], ◌∷◌, ◌++◌}
use Rattle.book_lines.specs.Summaries.{summary_line}
use Rattle.book_lines.specs.declared.choice.Verdict.{Verdict}
use Rattle.book_lines.specs.declared.choice.Verdict.TheVariants.{Told, LeftOut, Opens}
use Rattle.book_lines.specs.declared.options.Options.{Options}
use Rattle.centre_rules.specs.State.{State, StandsFor}
use Rattle.centre_rules.specs.Summary.{Summary}
use Rattle.summary_rules.specs.Conditions.{IsSpelling}
use Rattle.arc_book.specs.Portions.{Portion, bodies_told, area_book}

-- what stands on a page once a verdict is known: the line as well, but where it is not told in any case
abbrev pub put_by : Verdict → List ℕ → List ℕ → List ℕ
put_by Told page line = page ++ line
put_by LeftOut page line = page
put_by (Opens number) page line = page ++ line

-- the portion goes on with the body; the centre stands for it, and what its book has more is put on the page
pub record IsTakenUp {version : ℕ} (o : Options) (p : Portion version) (body : List ℕ) (centre : State) (page page' : List ℕ)
    : Type 0 where
  pub next : Portion version
  pub is : bodies_told next ≡ bodies_told p ++ body ∷ []
  pub stands : StandsFor next.base centre next.past
  pub line : List ℕ
  pub book : area_book o next ≡ area_book o p ++ line
  pub put : page' ≡ page ++ line

-- the body spells a summary in a version; the centre stands for it, and its line is put on the page
pub record IsSummedUp (version : ℕ) (o : Options) (body : List ℕ) (centre : State) (page page' : List ℕ) : Type 0 where
  pub generation : ℕ
  pub base : Summary
  pub spelling : IsSpelling version generation base body
  pub stands : StandsFor base centre []
  pub put : page' ≡ page ++ summary_line o base
