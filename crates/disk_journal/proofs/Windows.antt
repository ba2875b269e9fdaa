-- What a window gives of an area's bytes.
use Rattle.std.proofs.Common.{◌≡◌, ◌≤◌, ◌+◌, ◌-◌, ℕ, List, ◌++◌, append-nil, length, take, drop, min, Option, Some, None, sym, ap, ◌∙◌, arith, length-append, length-drop}
use Rattle.std.specs.Prelude.{IfSome, replicate}
use Rattle.std.proofs.Math.Seq.{take-add}
use Rattle.std.proofs.lemmas.List.{drop-drop, take-take, length-take, drop-take, take_all, take_at, drop_all, length-replicate}
use Rattle.arc_io.specs.Areas.{Areas, part}
use Rattle.arc_io.specs.declared.disk.Area.{Area}
use Rattle.arc_io.specs.Crashes.{IsReadInPart}
use Rattle.disk_journal.specs.Reading.{IsPiece, IsFilled}

-- what was given, and 00 for all that was not
given_filled : (bytes : List ℕ) (at n : ℕ) (buf rest : List ℕ) → at + length buf ≤ length bytes → IsReadInPart bytes at n buf → rest ≡ replicate (length (drop n buf)) 0
    → IsFilled bytes at (take n buf ++ rest)
given_filled bytes at n buf rest within given zeros =
    let stands = drop at bytes in
    let front : length (take n buf) ≡ n = omega (arith, length-take n buf, given.no_more) in
    let left : length (drop n buf) ≡ min (length buf) (length stands) - length (take n buf) =
    omega (arith, length-drop n buf, front, within, length-drop at bytes, given.no_more) in
    let long : length (take n buf ++ rest) ≡ length buf =
    omega (arith, length-append (take n buf) rest, front, ap length zeros, length-replicate {A = ℕ} (length (drop n buf)) 0, length-drop n buf, given.no_more) in
    ap (λ l. take n buf ++ l) (zeros ∙ ap (λ k. replicate k 0) left) ∙ given.same ∙ ap (λ k. take k stands) (sym long)

pub given_told : (area : Area) (o : Option Areas) (at n : ℕ) (buf rest : List ℕ) → IfSome o (λ s. at + length buf ≤ length (part area s))
    → IfSome o (λ s. IsReadInPart (part area s) at n buf) → rest ≡ replicate (length (drop n buf)) 0 → IfSome o (λ s. IsFilled (part area s) at (take n buf ++ rest))
given_told area None at n buf rest within given zeros = tt
given_told area (Some s) at n buf rest within given zeros = given_filled (part area s) at n buf rest within given zeros

-- a front that was filled is a piece
filled_piece : (bytes : List ℕ) (at n : ℕ) (front behind : List ℕ) → IsFilled bytes at front → length front ≡ n → IsPiece bytes at n (front ++ behind)
filled_piece bytes at n front behind read long = record {
  fits = omega (arith, long, length-append front behind);
  within = omega (arith, long, ap length read, length-take (length front) (drop at bytes));
  same = take_at front behind n long ∙ read ∙ ap (λ k. take k (drop at bytes)) long;
}

pub filled_told : (area : Area) (o : Option Areas) (at n : ℕ) (front behind : List ℕ) → IfSome o (λ s. IsFilled (part area s) at front) → length front ≡ n
    → IfSome o (λ s. IsPiece (part area s) at n (front ++ behind))
filled_told area None at n front behind read long = tt
filled_told area (Some s) at n front behind read long = filled_piece (part area s) at n front behind read long

-- a part of a piece
pub part_of_piece : (bytes room : List ℕ) (at from next count n : ℕ) (buf : List ℕ) → IsPiece bytes at count room → next ≡ at + from → from + n ≤ count
    → n ≤ length buf → take n buf ≡ take n (drop from room) → IsPiece bytes next n buf
part_of_piece bytes room at from next count n buf piece is within fits same = record {
  fits = fits;
  within = omega (arith, is, within, piece.within, length-drop at bytes, length-drop next bytes);
  same = same ∙ sym (cut room) ∙ ap (λ l. take n (drop from l)) piece.same ∙ cut (drop at bytes) ∙ ap (take n) (drop-drop from at bytes ∙ ap (λ k. drop k bytes) (omega (arith, is)));
}
  where
    cut : (l : List ℕ) → take n (drop from (take count l)) ≡ take n (drop from l)
    cut l = ap (λ k. take n (drop from (take k l))) (omega (arith, within)) ∙ ap (take n) (drop-take from (count - from) l) ∙ take-take n (count - from) (drop from l) (omega (arith, within))

-- a piece that is the whole buffer fills it
pub piece_filled : (bytes : List ℕ) (at n : ℕ) (buf : List ℕ) → IsPiece bytes at n buf → n ≡ length buf → IsFilled bytes at buf
piece_filled bytes at n buf piece all = sym (take_all n buf (omega (arith, all))) ∙ piece.same ∙ ap (λ k. take k (drop at bytes)) all

-- the same of what the disk tells
pub piece_told : (area : Area) (o : Option Areas) (at n : ℕ) (buf : List ℕ) (was : List ℕ → Type 0) → IfSome o (λ s. was (part area s))
    → ((bytes : List ℕ) → was bytes → IsPiece bytes at n buf) → n ≡ length buf → IfSome o (λ s. IsFilled (part area s) at buf)
piece_told area None at n buf was before given all = tt
piece_told area (Some s) at n buf was before given all = piece_filled (part area s) at n buf (given (part area s) before) all

-- a piece, and the bytes behind it
more_filled : (bytes : List ℕ) (at n next : ℕ) (front rest buf : List ℕ) → IsPiece bytes at n front → next ≡ at + n → IsFilled bytes next rest
    → buf ≡ take n front ++ rest → IsFilled bytes at buf
more_filled bytes at n next front rest buf piece is behind joined =
    let front_long : length (take n front) ≡ n = omega (arith, length-take n front, piece.fits) in
    let long : length buf ≡ n + length rest = ap length joined ∙ length-append (take n front) rest ∙ ap (λ k. k + length rest) front_long in
    joined ∙ ap (λ l. take n front ++ l) (behind ∙ ap (λ k. take (length rest) (drop k bytes)) is ∙ ap (take (length rest)) (sym (drop-drop n at bytes ∙ ap (λ k. drop k bytes) (omega arith))))
    ∙ ap (λ l. l ++ take (length rest) (drop n (drop at bytes))) piece.same ∙ sym (take-add n (length rest) (drop at bytes)) ∙ ap (λ k. take k (drop at bytes)) (sym long)

-- the same of what the disk tells, of a buffer whose rest was filled in place
pub more_told : (area : Area) (o : Option Areas) (at n next left : ℕ) (front rest : List ℕ) (was : List ℕ → Type 0) → IfSome o (λ s. was (part area s))
    → ((bytes : List ℕ) → was bytes → IsPiece bytes at n front) → next ≡ at + n → IfSome o (λ s. IsFilled (part area s) next rest) → length (drop n front) ≤ left
    → IfSome o (λ s. IsFilled (part area s) at (take n front ++ (rest ++ drop left (drop n front))))
more_told area None at n next left front rest was before given is behind all = tt
more_told area (Some s) at n next left front rest was before given is behind all =
    more_filled (part area s) at n next front rest (take n front ++ (rest ++ drop left (drop n front))) (given (part area s) before) is behind
    (ap (λ l. take n front ++ l) (ap (λ l. rest ++ l) (drop_all left (drop n front) all) ∙ append-nil rest))
