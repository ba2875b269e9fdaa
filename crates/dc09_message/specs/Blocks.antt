-- The blocks of a message (DC-09, the data fields): what stands behind the header's `[`. The first block's content has no
-- brackets, and neither has that of a further block; a tail may follow the last block.
use Rattle.std.specs.Prelude.{◌≡◌, ℕ, zero, suc, ◌==◌, ◌&&◌, ◌++◌, List, [], ◌∷◌, Bool, true, not, Option, Some, None, length, drop}
use Rattle.std.specs.List.{list_all, flat_map, take_while}
use Rattle.std.specs.Option.{option_map}
use Rattle.dc09_frame.specs.Headers.{◌>>=◌, after_byte}

-- neither `[` nor `]`
abbrev pub is_free : ℕ → Bool
is_free b = not (b == 91) && not (b == 93)

abbrev pub are_free : List ℕ → Bool
are_free bytes = list_all is_free bytes

-- further blocks as they are written: of each, `[`, its content, `]`
abbrev pub blocks_bytes : List (List ℕ) → List ℕ
blocks_bytes further = flat_map (λ content. 91 ∷ content ++ 93 ∷ []) further

-- the contents of the blocks: that of the first, and those of the further ones in order
pub record Blocks : Type 0 where
  pub first : List ℕ
  pub further : List (List ℕ)

-- the bytes are these blocks and this tail
pub record IsBlocks (blocks : Blocks) (tail bytes : List ℕ) : Type 0 where
  pub first_free : are_free blocks.first ≡ true
  pub further_free : list_all are_free blocks.further ≡ true
  pub spelled : bytes ≡ blocks.first ++ 93 ∷ blocks_bytes blocks.further ++ tail

-- no further block begins the tail: it begins with no `[`
abbrev pub is_end : List ℕ → Bool
is_end [] = true
is_end (b ∷ rest) = not (b == 91)

-- Reading blocks from the front of some bytes.

-- the bytes before the first bracket, where that is a `]`, and what follows it
unfoldable pub content_at : List ℕ → Option (List ℕ × List ℕ)
content_at bytes = option_map (λ rest. (take_while is_free bytes, rest)) (after_byte 93 (drop (length (take_while is_free bytes)) bytes))

-- a further block, and what follows it
abbrev pub block_at : List ℕ → Option (List ℕ × List ℕ)
block_at bytes = after_byte 91 bytes >>= content_at

abbrev pub blocks_or : (List ℕ → List (List ℕ) × List ℕ) → List ℕ → Option (List ℕ × List ℕ) → List (List ℕ) × List ℕ
blocks_or later bytes None = ([], bytes)
blocks_or later bytes (Some block) = (block.0 ∷ (later block.1).0, (later block.1).1)

-- the blocks at the front, at most so many, and what follows them
unfoldable pub further_below : ℕ → List ℕ → List (List ℕ) × List ℕ
further_below zero bytes = ([], bytes)
further_below (suc count) bytes = blocks_or (further_below count) bytes (block_at bytes)

-- all blocks at the front, and what follows them: there are no more blocks than bytes
abbrev pub further_at : List ℕ → List (List ℕ) × List ℕ
further_at bytes = further_below (length bytes) bytes

-- the blocks, and the tail behind them
unfoldable pub blocks_at : List ℕ → Option (Blocks × List ℕ)
blocks_at bytes =
    option_map (λ first. (record { first = first.0; further = (further_at first.1).0 }, (further_at first.1).1)) (content_at bytes)

-- What is read is written so.
abbrev pub BlocksAreWritten : Type 0
BlocksAreWritten = (bytes : List ℕ) (blocks : Blocks) (tail : List ℕ) → blocks_at bytes ≡ Some (blocks, tail) → IsBlocks blocks tail bytes

-- What is written so is read, where no further block begins the tail.
abbrev pub WrittenBlocksAreRead : Type 0
WrittenBlocksAreRead =
    (bytes : List ℕ) (blocks : Blocks) (tail : List ℕ) → IsBlocks blocks tail bytes → is_end tail ≡ true →
    blocks_at bytes ≡ Some (blocks, tail)
