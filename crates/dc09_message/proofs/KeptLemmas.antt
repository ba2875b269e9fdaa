-- The kept content is a slice of the bytes: from where the data begins to before the last `]` of the blocks.
use Rattle.std.proofs.Common.{◌≡◌, ◌+◌, ◌-◌, ℕ, List, [], ◌∷◌, ◌++◌, length, take, drop, Some, None, refl, sym, ◌∙◌, ap, arith, append_assoc, length-append}
use Rattle.std.specs.Option.{option_map}
use Rattle.std.proofs.Math.Seq.{drop-append_seam, take-append_seam}
use Rattle.dc09_message.specs.Blocks.{blocks_bytes, Blocks, IsBlocks, content_at, further_at, blocks_at}
use Rattle.dc09_message.specs.Contents.{kept}
use Rattle.dc09_message.specs.Reading.{parts_of, parts_at}
use Rattle.dc09_message.proofs.BlockLaws.{made_of, blocks_take}

-- a `]` and the further blocks, without their last byte
pub lead : List (List ℕ) → List ℕ
lead [] = []
lead (c ∷ cs) = 93 ∷ 91 ∷ (c ++ lead cs)

-- their last byte is a `]`
pub ends_closed : (further : List (List ℕ)) → 93 ∷ blocks_bytes further ≡ lead further ++ 93 ∷ []
unfolding lead
ends_closed [] = refl
ends_closed (c ∷ cs) =
    ap (λ (l : List ℕ). 93 ∷ l) (append_assoc (91 ∷ c) (93 ∷ []) (blocks_bytes cs))
    ∙ ap (λ (l : List ℕ). 93 ∷ 91 ∷ (c ++ l)) (ends_closed cs)
    ∙ sym (append_assoc (93 ∷ 91 ∷ c) (lead cs) (93 ∷ []))

length-lead : (further : List (List ℕ)) → length (lead further) ≡ length (blocks_bytes further)
length-lead further = omega (arith, ap length (ends_closed further), length-append (lead further) (93 ∷ []))

closed_whole : (contents : List ℕ) (further : List (List ℕ)) → contents ++ 93 ∷ blocks_bytes further ≡ (contents ++ lead further) ++ 93 ∷ []
closed_whole contents further = ap (λ (l : List ℕ). contents ++ l) (ends_closed further) ∙ sym (append_assoc contents (lead further) (93 ∷ []))

pub kept_is : (contents : List ℕ) (further : List (List ℕ)) → kept contents further ≡ contents ++ lead further
kept_is contents further =
    let count : length contents + length (blocks_bytes further) ≡ length (contents ++ lead further) = omega (arith, length-lead further, length-append contents (lead further)) in
    ap (λ (l : List ℕ). take (length contents + length (blocks_bytes further)) l) (closed_whole contents further)
    ∙ ap (λ n. take n ((contents ++ lead further) ++ 93 ∷ [])) count
    ∙ take-append_seam (contents ++ lead further) (93 ∷ [])

-- the kept content and its `]`
pub kept_closed : (contents : List ℕ) (further : List (List ℕ)) → kept contents further ++ 93 ∷ [] ≡ contents ++ 93 ∷ blocks_bytes further
kept_closed contents further = ap (λ (l : List ℕ). l ++ 93 ∷ []) (kept_is contents further) ∙ sym (closed_whole contents further)

-- nothing else is that content and its `]`
pub kept_alone : (content contents : List ℕ) (further : List (List ℕ)) → content ++ 93 ∷ [] ≡ contents ++ 93 ∷ blocks_bytes further → kept contents further ≡ content
kept_alone content contents further e =
    let both : kept contents further ++ 93 ∷ [] ≡ content ++ 93 ∷ [] = kept_closed contents further ∙ sym e in
    let count : length (kept contents further) ≡ length content = omega (arith, ap length both, length-append (kept contents further) (93 ∷ []), length-append content (93 ∷ [])) in
    sym (take-append_seam (kept contents further) (93 ∷ []))
    ∙ ap (λ (l : List ℕ). take (length (kept contents further)) l) both
    ∙ ap (λ n. take n (content ++ 93 ∷ [])) count
    ∙ take-append_seam content (93 ∷ [])

-- what is kept of the data at the end of a content
pub kept_behind : (front contents : List ℕ) (further : List (List ℕ)) → drop (length front) (kept (front ++ contents) further) ≡ kept contents further
kept_behind front contents further =
    ap (λ (l : List ℕ). drop (length front) l) (kept_is (front ++ contents) further ∙ append_assoc front contents (lead further))
    ∙ drop-append_seam front (contents ++ lead further)
    ∙ sym (kept_is contents further)

-- the kept content of the first block is what stands before the last `]`
pub kept_before : (blocks : Blocks) (tail bytes : List ℕ) → IsBlocks blocks tail bytes → take (length bytes - length tail - 1) bytes ≡ kept blocks.first blocks.further
kept_before blocks tail bytes w =
    let all : List ℕ = kept blocks.first blocks.further in
    let whole : bytes ≡ all ++ 93 ∷ tail = w.spelled ∙ ap (λ (l : List ℕ). l ++ tail) (sym (kept_closed blocks.first blocks.further)) ∙ append_assoc all (93 ∷ []) tail in
    let count : length bytes - length tail - 1 ≡ length all = omega (arith, ap length whole, length-append all (93 ∷ tail)) in
    ap (λ n. take n bytes) count ∙ ap (take (length all)) whole ∙ take-append_seam all (93 ∷ tail)

-- Reading blocks from a first content on.
pub parts_read : (bytes first rest : List ℕ) → content_at bytes ≡ Some (first, rest) → parts_at bytes ≡ Some (first, take (length bytes - length (further_at rest).1 - 1) bytes, (further_at rest).1)
unfolding blocks_at
parts_read bytes first rest is =
    let found : Blocks × List ℕ = made_of (first, rest) in
    let at : blocks_at bytes ≡ Some found = ap (option_map made_of) is in
    ap (option_map parts_of) at
    ∙ ap (λ (l : List ℕ). Some (first, l, found.1)) (sym (kept_before found.0 found.1 bytes (blocks_take bytes found.0 found.1 at)))

pub parts_none : (bytes : List ℕ) → content_at bytes ≡ None → parts_at bytes ≡ None
unfolding blocks_at
parts_none bytes is = ap (option_map parts_of) (ap (option_map made_of) is)
