-- The messages between a centre and a mirror, which has its entries from it. All numbers have their highest byte first.
use Rattle.std.specs.Prelude.{◌≡◌, ◌<◌, ◌≤◌, ◌^◌, ℕ, List, [], ◌∷◌, ◌++◌, length}
use Rattle.std.specs.Int.{w32, w64, to_be_bytes}

-- the ask of a mirror that has so many recorded entries, for the next one: `G` and that number in eight bytes
abbrev pub ask_text : ℕ → List ℕ
ask_text have = 71 ∷ to_be_bytes w64 have

-- What an ask is answered: with the body of the recorded entry of a number; that there is no such entry yet; or that it is one of so many
-- that are summed up and have no bodies any more.
pub data Answer : Type 0 where
  Record : (number : ℕ) (body : List ℕ) → Answer
  End : Answer
  Summed : (count : ℕ) → Answer

-- `R`, the number in eight bytes, the length of the body in four, and the body; `E`; `B` and the count in eight bytes
abbrev pub answer_text : Answer → List ℕ
answer_text (Record number body) = 82 ∷ to_be_bytes w64 number ++ (to_be_bytes w32 (length body) ++ body)
answer_text End = 69 ∷ []
answer_text (Summed count) = 66 ∷ to_be_bytes w64 count

-- the numbers have room in their bytes, and a body has 1 to 4,194,400
abbrev pub Fits : Answer → Type 0
Fits (Record number body) = (number < 2 ^ 64) × (1 ≤ length body) × (length body ≤ 4_194_400)
Fits End = Unit {0}
Fits (Summed count) = count < 2 ^ 64

-- the bytes are this answer
pub record IsAnswer (bytes : List ℕ) (a : Answer) : Type 0 where
  pub fits : Fits a
  pub text : bytes ≡ answer_text a

-- they are none
abbrev pub IsNoAnswer : List ℕ → Type 0
IsNoAnswer bytes = (a : Answer) → IsAnswer bytes a → ⊥
