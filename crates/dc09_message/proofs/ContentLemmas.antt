-- The content that a message keeps, by the parts of its blocks.
use Rattle.std.proofs.Common.{◌≡◌, ◌≤◌, ◌+◌, ◌-◌, ℕ, List, [], ◌∷◌, ◌++◌, length, take, drop, Bool, true, false, cond, Option, Some, None, refl, sym, ◌∙◌, ap, arith, append_assoc, length-append, length-drop}
use Rattle.std.specs.Option.{option_map}
use Rattle.std.proofs.lemmas.List.{take_all}
use Rattle.arc_data.specs.declared.event.Token.{Token}
use Rattle.alarm_rules.specs.Signals.{has_signals}
use Rattle.dc09_frame.specs.Headers.{◌>>=◌}
use Rattle.dc09_frame.specs.declared.header.Header.{Header}
use Rattle.dc09_frame.proofs.HeaderLaws.{bind_some, some_if}
use Rattle.dc09_message.specs.Blocks.{Blocks, blocks_at}
use Rattle.dc09_message.specs.Contents.{fits_tail, after_bar, data_behind, kept, kept_if, content_of, content_in}
use Rattle.dc09_message.specs.Reading.{parts_of, parts_at, data_with_signals, data_in}
use Rattle.dc09_message.specs.declared.kind.MessageKind.{MessageKind}
use Rattle.dc09_message.specs.declared.kind.MessageKind.TheVariants.{Heartbeat, Report}
use Rattle.dc09_message.proofs.BlockLaws.{map_some, blocks_take}
use Rattle.dc09_message.proofs.KeptLemmas.{kept_behind, kept_closed}
use Rattle.dc09_message.proofs.ContentLaws.{bar_takes, data_takes, from_blocks}

abbrev Parts : Type 0
Parts = List ℕ × List ℕ × List ℕ

-- No blocks.

none_of : (kind : MessageKind) (h : Header) (o : Option (Blocks × List ℕ)) → option_map parts_of o ≡ None → (o >>= from_blocks kind h) ≡ None
none_of kind h None e = refl
none_of kind h (Some found) e = absurd cc

pub content_none : (kind : MessageKind) (h : Header) (bytes : List ℕ) → parts_at bytes ≡ None → content_in kind h bytes ≡ None
unfolding content_in
content_none kind h bytes e = none_of kind h (blocks_at bytes) e

-- A tail that does not fit.

pub content_unfit : (kind : MessageKind) (h : Header) (bytes : List ℕ) (parts : Parts) → parts_at bytes ≡ Some parts → fits_tail h parts.2 ≡ false → content_in kind h bytes ≡ None
unfolding content_in
content_unfit kind h bytes parts e fits =
    let m = map_some (blocks_at bytes) parts_of parts e in
    ap (λ (o : Option (Blocks × List ℕ)). o >>= from_blocks kind h) m.1
    ∙ ap (λ (t : Bool). cond t (content_of kind h m.0.0) None) (ap (λ (p : Parts). fits_tail h p.2) m.2 ∙ fits)

-- A tail that fits.

content_fit : (kind : MessageKind) (h : Header) (bytes : List ℕ) (found : Blocks × List ℕ) → blocks_at bytes ≡ Some found → fits_tail h found.1 ≡ true → content_in kind h bytes ≡ content_of kind h found.0
unfolding content_in
content_fit kind h bytes found is fits =
    ap (λ (o : Option (Blocks × List ℕ)). o >>= from_blocks kind h) is ∙ ap (λ (t : Bool). cond t (content_of kind h found.0) None) fits

pub content_beat : (h : Header) (bytes : List ℕ) (parts : Parts) → parts_at bytes ≡ Some parts → fits_tail h parts.2 ≡ true → content_in Heartbeat h bytes ≡ Some []
unfolding content_of
content_beat h bytes parts e fits =
    let m = map_some (blocks_at bytes) parts_of parts e in
    content_fit Heartbeat h bytes m.0 m.1 (ap (λ (p : Parts). fits_tail h p.2) m.2 ∙ fits)

-- what is kept, by the data
abbrev kept_with : List (List ℕ) → List ℕ → Option (List ℕ)
kept_with further contents = Some (kept contents further)

by_data : (token : Token) (h : Header) (blocks : Blocks) → content_of (Report token) h blocks ≡ (data_in token h blocks.first >>= kept_with blocks.further)
unfolding content_of data_in
by_data token h blocks = bars (after_bar h blocks.first)
  where
    tested : (contents : List ℕ) (t : Bool) → cond t (Some (kept contents blocks.further)) None ≡ (cond t (Some contents) None >>= kept_with blocks.further)
    tested contents true = refl
    tested contents false = refl

    behind : (o : Option (List ℕ)) → (o >>= (λ contents. kept_if token contents blocks.further)) ≡ ((o >>= data_with_signals token) >>= kept_with blocks.further)
    behind None = refl
    behind (Some contents) = tested contents (has_signals token contents)

    bars : (o : Option (List ℕ)) → (o >>= (λ rest. data_behind h rest >>= (λ contents. kept_if token contents blocks.further))) ≡ ((o >>= (λ rest. data_behind h rest >>= data_with_signals token)) >>= kept_with blocks.further)
    bars None = refl
    bars (Some rest) = behind (data_behind h rest)

pub content_no_data : (token : Token) (h : Header) (bytes : List ℕ) (parts : Parts) → parts_at bytes ≡ Some parts → fits_tail h parts.2 ≡ true → data_in token h parts.0 ≡ None → content_in (Report token) h bytes ≡ None
content_no_data token h bytes parts e fits none =
    let m = map_some (blocks_at bytes) parts_of parts e in
    content_fit (Report token) h bytes m.0 m.1 (ap (λ (p : Parts). fits_tail h p.2) m.2 ∙ fits)
    ∙ by_data token h m.0.0
    ∙ ap (λ (o : Option (List ℕ)). o >>= kept_with m.0.0.further) (ap (λ (p : Parts). data_in token h p.0) m.2 ∙ none)

-- the data ends the first block
pub data_ends : (token : Token) (h : Header) (first contents : List ℕ) → data_in token h first ≡ Some contents → (front : List ℕ) × (first ≡ front ++ contents)
unfolding data_in
data_ends token h first contents e =
    let r = bind_some (after_bar h first) (λ rest. data_behind h rest >>= data_with_signals token) contents e in
    let d = bind_some (data_behind h r.0) (data_with_signals token) contents r.2 in
    let s = some_if (has_signals token d.0) d.0 contents d.2 in
    let f = bar_takes h first r.0 r.1 in
    let a = data_takes h r.0 d.0 d.1 in
    (f.0 ++ a.0, f.2 ∙ ap (λ (l : List ℕ). f.0 ++ l) (a.2 ∙ ap (λ (l : List ℕ). a.0 ++ l) s.1) ∙ sym (append_assoc f.0 a.0 contents))

pub data_shorter : (token : Token) (h : Header) (first contents : List ℕ) → data_in token h first ≡ Some contents → length contents ≤ length first
data_shorter token h first contents e = let d = data_ends token h first contents e in omega (arith, ap length d.1, length-append d.0 contents)

-- the bytes from a place on
pub slice_end : (n : ℕ) (xs : List ℕ) → take (length xs - n) (drop n xs) ≡ drop n xs
slice_end n xs = take_all (length xs - n) (drop n xs) (omega (arith, length-drop n xs))

kept_slice : (first contents : List ℕ) (further : List (List ℕ)) (front : List ℕ) → first ≡ front ++ contents → drop (length first - length contents) (kept first further) ≡ kept contents further
kept_slice first contents further front e =
    let count : length first - length contents ≡ length front = omega (arith, ap length e, length-append front contents) in
    ap (λ n. drop n (kept first further)) count ∙ ap (λ (l : List ℕ). drop (length front) (kept l further)) e ∙ kept_behind front contents further

pub content_data : (token : Token) (h : Header) (bytes : List ℕ) (parts : Parts) (contents : List ℕ) → parts_at bytes ≡ Some parts → fits_tail h parts.2 ≡ true → data_in token h parts.0 ≡ Some contents
    → content_in (Report token) h bytes ≡ Some (take (length parts.1 - (length parts.0 - length contents)) (drop (length parts.0 - length contents) parts.1))
content_data token h bytes parts contents e fits is =
    let m = map_some (blocks_at bytes) parts_of parts e in
    let first : List ℕ = m.0.0.first in
    let here : data_in token h first ≡ Some contents = ap (λ (p : Parts). data_in token h p.0) m.2 ∙ is in
    let d = data_ends token h first contents here in
    let slice : List ℕ → List ℕ → List ℕ = λ whole inside. take (length inside - (length whole - length contents)) (drop (length whole - length contents) inside) in
    content_fit (Report token) h bytes m.0 m.1 (ap (λ (p : Parts). fits_tail h p.2) m.2 ∙ fits)
    ∙ by_data token h m.0.0
    ∙ ap (λ (o : Option (List ℕ)). o >>= kept_with m.0.0.further) here
    ∙ ap (λ (l : List ℕ). Some l) (sym (slice_end (length first - length contents) (kept first m.0.0.further) ∙ kept_slice first contents m.0.0.further d.0 d.1))
    ∙ ap (λ (p : Parts). Some (slice p.0 p.1)) m.2

-- what stands before the last `]` is shorter than all
pub inside_shorter : (bytes : List ℕ) (parts : Parts) → parts_at bytes ≡ Some parts → length parts.1 + 1 ≤ length bytes
inside_shorter bytes parts e =
    let m = map_some (blocks_at bytes) parts_of parts e in
    let w = blocks_take bytes m.0.0 m.0.1 m.1 in
    let inside : List ℕ = kept m.0.0.first m.0.0.further in
    let whole : bytes ≡ (inside ++ 93 ∷ []) ++ m.0.1 = w.spelled ∙ ap (λ (l : List ℕ). l ++ m.0.1) (sym (kept_closed m.0.0.first m.0.0.further)) in
    omega (arith, ap length whole, length-append (inside ++ 93 ∷ []) m.0.1, length-append inside (93 ∷ []), ap (λ (p : Parts). length p.1) m.2)
