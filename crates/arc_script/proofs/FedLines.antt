-- Bytes of a piece of a script that its cutter was fed, and the line that they end.
use Rattle.std.proofs.Common.{◌≡◌, ◌++◌, ℕ, List, take, drop, Option, Some, None, subst}
use Rattle.arc_text.specs.LineCutting.{LineCutterValue, Feeds}
use Rattle.arc_text.specs.declared.line_cut.LineCut.{LineCut}
use Rattle.desk_session.proofs.Fed.{CameNone, CameLine, came_none, came_line}

module _ (stream bytes : List ℕ) (at n : ℕ) (piece : List ℕ) (told : Option LineCut) (c : LineCutterValue) (is : piece ≡ drop at bytes)
    (feeds : Feeds (stream ++ take at bytes) (take n piece) told c) where
  there : Feeds (stream ++ take at bytes) (take n (drop at bytes)) told c
  there = subst (λ (l : List ℕ). Feeds (stream ++ take at bytes) (take n l) told c) is feeds

  pub no_line : told ≡ None → CameNone stream bytes at n c
  no_line none =
      came_none stream bytes at n c (subst (λ (o : Option LineCut). Feeds (stream ++ take at bytes) (take n (drop at bytes)) o c) none there)

  pub one_line : (cut : LineCut) → told ≡ Some cut → CameLine stream bytes at n cut c
  one_line cut some =
      came_line stream bytes at n cut c (subst (λ (o : Option LineCut). Feeds (stream ++ take at bytes) (take n (drop at bytes)) o c) some there)
