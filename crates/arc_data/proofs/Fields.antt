-- A text that is put into a field of zeros.
use Rattle.std.proofs.Common.{◌≡◌, ◌≤◌, ◌-◌, ◌++◌, ℕ, List, length, drop, sym, ap, arith, length-append}
use Rattle.std.proofs.lemmas.List.{drop-replicate, length-replicate}
use Rattle.std.proofs.Math.Seq.{take-append_seam}
use Rattle.std.specs.Prelude.{replicate}
use Rattle.arc_data.specs.Field.{IsPadded, field_of}

pub padded_of : (text field : List ℕ) → length text ≤ 32 → field ≡ text → IsPadded (length text) (field ++ drop (length text) (replicate 32 0))
padded_of text field le is =
    rw (is, drop-replicate {X = ℕ} (length text) 32 0) (record {
      short = le;
      padded = ap field_of (sym (take-append_seam text (replicate (32 - length text) 0)));
      long = omega (arith, length-append text (replicate (32 - length text) 0), length-replicate {A = ℕ} (32 - length text) 0);
    })
