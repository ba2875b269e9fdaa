-- A read that gives all that stands there leaves nothing to fill up.
use Rattle.std.proofs.Common.{◌≡◌, ◌-◌, ◌++◌, ℕ, List, length, take, drop, min, ap, ◌∙◌, arith, append-nil, length-take}
use Rattle.std.specs.Prelude.{replicate}
use Rattle.std.proofs.lemmas.List.{take_min}
use Rattle.arc_io.specs.Crashes.{IsReadInPart, IsRead}

pub all_given : (bytes : List ℕ) (at n : ℕ) (buf : List ℕ) → IsRead bytes at n buf → IsReadInPart bytes at n buf
all_given bytes at n buf read =
    let rest = drop at bytes in
    let long : length (take n buf) ≡ n = omega (arith, length-take n buf, read.count) in
    let none : min (length buf) (length rest) - length (take n buf) ≡ 0 = omega (arith, long, read.count) in
    record {
      no_more = omega (arith, read.count);
      same = ap (λ k. take n buf ++ replicate k 0) none ∙ append-nil (take n buf) ∙ read.same ∙ ap (λ k. take k rest) read.count ∙ take_min (length buf) rest;
    }
