-- The line of a step is that of the frame that stands in the buffer.
use Rattle.std.proofs.Common.{◌≡◌, ◌-◌, ℕ, List, [], ◌∷◌, ◌++◌, length, take, Option, Some, None, refl, ap, ◌∙◌, arith, length-append}
use Rattle.std.specs.Prelude.{codes}
use Rattle.std.specs.Option.{option_map_or}
use Rattle.std.proofs.Math.Seq.{take-append_seam}
use Rattle.dc09_frame.specs.Frames.{frame_of, piece_of}
use Rattle.panel_core.specs.Sending.{frame_sent}
use Rattle.arc_panel.specs.Texts.{frame_line}

front_of : (piece : List ℕ) → take (length (piece ++ 13 ∷ []) - 1) (piece ++ 13 ∷ []) ≡ piece
front_of piece =
    let size : length (piece ++ 13 ∷ []) - 1 ≡ length piece = omega (arith, length-append piece (13 ∷ [])) in
    ap (λ n. take n (piece ++ 13 ∷ [])) size ∙ take-append_seam piece (13 ∷ [])

pub framed_line : (body : List ℕ) → frame_line (frame_of body) ≡ codes "T " ++ piece_of body ++ codes "\n"
unfolding frame_of
framed_line body = ap (λ l. codes "T " ++ l ++ codes "\n") (front_of (piece_of body))

pub step_line : (sent : Option (List ℕ)) → frame_line (frame_sent sent) ≡ codes "T " ++ option_map_or piece_of sent (codes "-") ++ codes "\n"
step_line None = refl
step_line (Some body) = framed_line body
