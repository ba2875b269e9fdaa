-- The sequences that stand beside the messages: they stay theirs, and where one lacks, no message is repeated.
use Rattle.std.proofs.Common.{◌≡◌, ◌-◌, ◌+◌, ℕ, suc, zero, List, [], ◌∷◌, ◌++◌, length, take, drop, map, Bool, true, false, ◌&&◌, ◌||◌, cond, Some, None, refl, sym, ap, ◌∙◌}
use Rattle.std.specs.Prelude.{◌==◌, reverse, nat_le}
use Rattle.std.specs.List.{find, list_any}
use Rattle.std.specs.Option.{option_eq}
use Rattle.std.specs.Str.{bytes_eq}
use Rattle.std.proofs.lemmas.List.{reverse-append, length-reverse, length-map, take-map}
use Rattle.arc_data.specs.declared.event.Message.{Message}
use Rattle.arc_data.specs.declared.event.Past.{Past}
use Rattle.centre_rules.specs.Answers.{repeats, same_token}
use Rattle.repeat_window.proofs.Newest.{kept}

-- a list that begins another does so where both are cut
pub cut_front : (n : ℕ) (front all : List ℕ) → take (length front) all ≡ front → take (length (take n front)) (take n all) ≡ take n front
cut_front zero front all is = refl
cut_front (suc n) [] all is = refl
cut_front (suc n) (x ∷ front) [] is = absurd (cc)
cut_front (suc n) (x ∷ front) (y ∷ all) is =
    let first : y ≡ x = cc in
    let rest : take (length front) all ≡ front = cc in
    ap (λ z. z ∷ take (length (take n front)) (take n all)) first ∙ ap (λ l. x ∷ l) (cut_front n front all rest)

abbrev sequence : Past → ℕ
sequence p = p.message.seq

-- one message more, of which the last 32 are kept
pub led : (sequences : List ℕ) (items : List Past) (p : Past) → take (length items) sequences ≡ map sequence (reverse items)
    → take (length (drop (length (items ++ p ∷ []) - 32) (items ++ p ∷ []))) (p.message.seq ∷ take 31 sequences)
    ≡ map sequence (reverse (drop (length (items ++ p ∷ []) - 32) (items ++ p ∷ [])))
led sequences items p is =
    let all = items ++ p ∷ [] in
    let left = drop (length all - 32) all in
    let front = map sequence (reverse items) in
    let turned : reverse left ≡ p ∷ take 31 (reverse items) = kept 32 all ∙ ap (take 32) (reverse-append items (p ∷ [])) in
    let cut : take 31 front ≡ map sequence (take 31 (reverse items)) = take-map sequence 31 (reverse items) in
    let count : length left ≡ suc (length (take 31 front)) =
    sym (length-reverse left) ∙ ap length turned ∙ ap suc (sym (ap length cut ∙ length-map (take 31 (reverse items)) sequence)) in
    let many : length front ≡ length items = length-map (reverse items) sequence ∙ length-reverse items in
    let begins : take (length front) sequences ≡ front = ap (λ n. take n sequences) many ∙ is in
    ap (λ n. take n (p.message.seq ∷ take 31 sequences)) count
    ∙ ap (λ l. p.message.seq ∷ l) (cut_front 31 front sequences begins ∙ cut)
    ∙ ap (map sequence) (sym turned)

third : (a b c d e f : Bool) → c ≡ false → ((a && b && c && d && e) && f) ≡ false
third false b c d e f is = refl
third true false c d e f is = refl
third true true c d e f is = rw is refl

other : (m : Message) (at : ℕ) (p : Past) → (p.message.seq == m.seq) ≡ false → repeats m at p ≡ false
other m at p is =
    third (option_eq bytes_eq p.message.receiver m.receiver) (bytes_eq p.message.line m.line) (p.message.seq == m.seq)
    (same_token p.message.token m.token) (bytes_eq p.message.content m.content) (nat_le at (p.at + 300)) is

neither : (a b : Bool) → (a || b) ≡ false → (a ≡ false) × (b ≡ false)
neither true b is = absurd (cc)
neither false b is = (refl, is)

-- where no sequence is that of the message, none of the messages makes it a repeat
pub unrepeated : (m : Message) (at : ℕ) (sequences : List ℕ) (ps : List Past) → take (length ps) sequences ≡ map sequence ps
    → list_any (λ s. s == m.seq) sequences ≡ false → find (repeats m at) ps ≡ None
unrepeated m at sequences [] is lacks = refl
unrepeated m at [] (p ∷ ps) is lacks = absurd (cc)
unrepeated m at (s ∷ sequences) (p ∷ ps) is lacks =
    let first : s ≡ p.message.seq = cc in
    let rest : take (length ps) sequences ≡ map sequence ps = cc in
    let both = neither (s == m.seq) (list_any (λ x. x == m.seq) sequences) lacks in
    ap (λ b. cond b (Some p) (find (repeats m at) ps)) (other m at p (ap (λ x. x == m.seq) (sym first) ∙ both.0))
    ∙ unrepeated m at sequences ps rest both.1
