-- What a line cutter's fields keep of the open line.
use Rattle.std.specs.Prelude.{◌≤◌, ◌==◌, ℕ, List, [], ◌∷◌, if◌then◌else◌, take}
use Rattle.arc_text.specs.LineCutting.{Kept, Within, Full, Beyond}
use Rattle.arc_text.specs.declared.line_cutter.Reach.{Reach}
use Rattle.arc_text.specs.declared.line_cutter.Reach.TheVariants.{Short, Returned, Overlong}

-- the first bytes of the buffer are the open line
abbrev pub kept_in : Reach → ℕ → List ℕ → Kept
kept_in Short len bytes = Within (take len bytes)
kept_in Returned len bytes = Full (take len bytes)
kept_in Overlong len bytes = Beyond

-- the open line and the one that was told last fit in the buffer
pub record IsHeld (limit len end : ℕ) : Type 0 where
  pub buffer : limit ≤ 16384
  pub short : len ≤ limit
  pub told : end ≤ limit

-- how far a line has come, of which these bytes stand behind the limit
abbrev pub reached : List ℕ → Reach
reached [] = Short
reached (b ∷ []) = if b == 13 then Returned else Overlong
reached (b ∷ next ∷ more) = Overlong
