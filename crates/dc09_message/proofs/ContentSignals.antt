-- What a report keeps has signals: its data is what stands before the first `]` of it.
use Rattle.std.proofs.Common.{◌≡◌, ◌+◌, ℕ, suc, List, [], ◌∷◌, ◌++◌, take, Bool, true, false, not, cond, eqb, Some, refl, sym, ◌∙◌, ap, arith}
use Rattle.std.specs.Prelude.{is_some}
use Rattle.std.specs.List.{prefix_len}
use Rattle.std.specs.Option.{option_map}
use Rattle.std.proofs.lemmas.Bool.{and_parts}
use Rattle.arc_data.specs.declared.event.Token.{Token}
use Rattle.arc_data.specs.declared.event.Token.TheVariants.{SiaDcs, AdmCid}
use Rattle.alarm_rules.specs.ContactId.{contact_id_signal}
use Rattle.alarm_rules.specs.SiaCodes.{sia_signals}
use Rattle.alarm_rules.specs.Signals.{data_of, has_signals}
use Rattle.dc09_frame.specs.declared.header.Header.{Header}
use Rattle.dc09_message.specs.Blocks.{is_free, are_free, blocks_bytes}
use Rattle.dc09_message.specs.Contents.{content_in, IsReport}
use Rattle.dc09_message.specs.declared.kind.MessageKind.TheVariants.{Report}
use Rattle.dc09_message.proofs.ContentLaws.{content_written}

data_of-cons : (b : ℕ) (rest : List ℕ) → data_of (b ∷ rest) ≡ cond (eqb b 93) [] (b ∷ data_of rest)
data_of-cons b rest = step (eqb b 93) (prefix_len (λ x. not (eqb x 93)) rest)
  where
    step : (t : Bool) (n : ℕ) → take (cond (not t) (1 + n) 0) (b ∷ rest) ≡ cond t [] (b ∷ take n rest)
    step true n = refl
    step false n = let more : 1 + n ≡ suc n = omega arith in ap (λ k. take k (b ∷ rest)) more

-- a `]` behind a content changes nothing of its data
data_closed : (content : List ℕ) → data_of (content ++ 93 ∷ []) ≡ data_of content
data_closed [] = refl
data_closed (b ∷ bs) =
    data_of-cons b (bs ++ 93 ∷ []) ∙ ap (λ (l : List ℕ). cond (eqb b 93) [] (b ∷ l)) (data_closed bs) ∙ sym (data_of-cons b bs)

no_bracket : (b : ℕ) → is_free b ≡ true → eqb b 93 ≡ false
no_bracket b free = step (eqb b 93) (and_parts (not (eqb b 91)) (not (eqb b 93)) free).1
  where
    step : (t : Bool) → not t ≡ true → t ≡ false
    step true e = absurd cc
    step false e = refl

-- bytes without brackets are the data before a `]`
data_before : (contents rest : List ℕ) → are_free contents ≡ true → data_of (contents ++ 93 ∷ rest) ≡ contents
data_before [] rest free = refl
data_before (b ∷ bs) rest free =
    let parts = and_parts (is_free b) (are_free bs) free in
    data_of-cons b (bs ++ 93 ∷ rest)
    ∙ ap (λ (t : Bool). cond t [] (b ∷ data_of (bs ++ 93 ∷ rest))) (no_bracket b parts.0)
    ∙ ap (λ (l : List ℕ). b ∷ l) (data_before bs rest parts.1)

-- the same data has the same signals
same_data : (token : Token) (a b : List ℕ) → data_of a ≡ data_of b → has_signals token a ≡ has_signals token b
same_data AdmCid a b same = ap (λ (d : List ℕ). is_some (option_map (λ signal. signal ∷ []) (contact_id_signal d))) same
same_data SiaDcs a b same = ap (λ (d : List ℕ). is_some (sia_signals d)) same

pub content_signals : (token : Token) (h : Header) (bytes content : List ℕ) → content_in (Report token) h bytes ≡ Some content → has_signals token content ≡ true
content_signals token h bytes content e =
    let w : IsReport token h bytes content = content_written (Report token) h bytes content e in
    let whole : data_of content ≡ w.contents =
    sym (data_closed content) ∙ ap data_of w.keeps ∙ data_before w.contents (blocks_bytes w.further) w.contents_free in
    let alone : data_of w.contents ≡ w.contents = sym (data_closed w.contents) ∙ data_before w.contents [] w.contents_free in
    same_data token content w.contents (whole ∙ sym alone) ∙ w.contents_signal
