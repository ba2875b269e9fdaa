use Rattle.std.proofs.Common.{◌≡◌, ◌+◌, ◌<◌, ◌∷◌, [], ℕ, List, take, drop, get_or, length, refl, sym, ◌∙◌, ap, subst, arith}
use Rattle.std.proofs.lemmas.List.{drop_more}
use Rattle.std.proofs.lemmas.Grind.{common_steps}
use Rattle.arc_doors.proofs.memory.inbox.MemInbox.receive.Goals as goal

-- the item at a place of a list is the first of what is left from there on
next_left : (xs : List (List ℕ)) (i : ℕ) (x : List ℕ) → i < length xs → x ≡ get_or xs i x → drop i xs ≡ x ∷ drop (i + 1) xs
next_left xs i x within is = drop_more xs i x within ∙ ap (λ (y : List ℕ). y ∷ drop (i + 1) xs) (sym is)

pub returns-clause-mail : goal.returns-clause-mail
returns-clause-mail c =
    let items = c.args.self.now.datagrams.items in
    let at = c.args.self.now.at in
    let datagram = c.in-Some.datagram.now in
    let found = c.in-Some.ensures.lookup.3 in
    let next = subst (λ (xs : List (List ℕ)). drop at xs ≡ datagram ∷ drop (at + 1) xs) c.deref-2.ensures.value (next_left c.deref-2.result.now at datagram found.0 (found.1 datagram)) in
    let full : length c.args.buf.now ≡ 8192 = grind (arith, common_steps) in
    let given : take c.copy_front-count.result c.copy_front-count.new.buf ≡ take 8192 datagram =
    c.copy_front-count.ensures.given ∙ ap (λ n. take n c.bytes.result.now) full ∙ ap (take 8192) c.bytes.ensures in
    (datagram ∷ [], drop (at + 1) items, next, ap (λ (l : List ℕ). l ∷ []) given, refl)
