use Rattle.std.proofs.Common.{◌∙◌, ◌%◌, ◌^◌, ap, nat_eq, w8, arith}
use Rattle.std.specs.Simd.Lanes.{mask_l, zip2}
use Rattle.std.proofs.lemmas.Simd.{tops_compared, mask_l-mod, length-zip2}
use Rattle.arc_data.proofs.FieldLemmas.{no_mask-same, differ}
use Rattle.arc_data.proofs.txt.are_same.Goals as goal

pub returns : goal.returns
returns c =
    let a = c.args.a in
    let b = c.args.b in
    ap (λ ms. nat_eq (mask_l ms % 2 ^ 64) 0) (tops_compared w8 differ a b)
    ∙ ap (λ m. nat_eq m 0) (mask_l-mod (zip2 differ a b) 64 (omega (arith, length-zip2, c.well_formed)))
    ∙ no_mask-same a b (omega (arith, c.well_formed))
