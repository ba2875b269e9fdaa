-- One more link.
use Rattle.std.proofs.Common.{◌≡◌, ◌≤◌, List, [], ◌∷◌, ◌++◌, Option, Some, None, refl, sym, ap, ◌∙◌, subst, arith, length-append, append_assoc, append-nil}
use Rattle.std.proofs.lemmas.List.{map-append}
use Rattle.std.specs.Prelude.{MatchOption, map}
use Rattle.arc_doors.specs.Doors.{Links, IsBackWithin, HasOneOut, HasNoneLeft, TakesLink, after_back}
use Rattle.arc_io.specs.Seen.{PortSeen}
use Rattle.arc_serving.specs.declared.side.Side.{Side}
use Rattle.line_gate.specs.Passes.{PassSeen}
use Rattle.line_gate.specs.Terms.{Terms}
use Rattle.arc_serving.specs.Served.{InTurn, Moves, Served, IsServed, MovesLinks}

abbrev given_in : List Served → List PortSeen
given_in served = map (λ s. s.given) served

abbrev back_in : List Served → List PortSeen
back_in served = map (λ s. s.back) served

-- a link that was just given is out
pub one_out : (p : PortSeen) (before after : Option Links) → IsBackWithin before → TakesLink p before after → HasOneOut after
one_out p None after within takes = subst HasOneOut (sym takes) tt
one_out p (Some old) after within takes = subst HasOneOut (sym takes.2) (omega (arith, length-append old.given (p ∷ []), within))

-- no link was served yet
pub none_served : (door : Option Links) → Moves (MovesLinks []) door door
none_served None = tt
none_served (Some old) = record { left = refl; given = sym (append-nil old.given); back = sym (append-nil old.back) }

-- one more was given and got back
pub one_more : (ss : List Served) (s : Served) (door first out last : Option Links) → Moves (MovesLinks ss) door first → TakesLink s.given first out → last ≡ after_back s.back out → Moves (MovesLinks (ss ++ s ∷ [])) door last
one_more ss s None None out last w takes gets = subst (Moves (MovesLinks (ss ++ s ∷ [])) None) (sym (gets ∙ ap (after_back s.back) takes)) tt
one_more ss s (Some old) (Some new) out last w takes gets =
    subst (Moves (MovesLinks (ss ++ s ∷ [])) (Some old)) (sym (gets ∙ ap (after_back s.back) takes.2)) (record {
      left = w.left ∙ ap (λ (l : List PortSeen). given_in ss ++ l) takes.1 ∙ sym (append_assoc (given_in ss) (s.given ∷ []) takes.0) ∙ ap (λ (l : List PortSeen). l ++ takes.0) (sym (map-append (λ (x : Served). x.given) ss (s ∷ [])));
      given = ap (λ (l : List PortSeen). l ++ s.given ∷ []) w.given ∙ append_assoc old.given (given_in ss) (s.given ∷ []) ∙ ap (λ (l : List PortSeen). old.given ++ l) (sym (map-append (λ (x : Served). x.given) ss (s ∷ [])));
      back = ap (λ (l : List PortSeen). l ++ s.back ∷ []) w.back ∙ append_assoc old.back (back_in ss) (s.back ∷ []) ∙ ap (λ (l : List PortSeen). old.back ++ l) (sym (map-append (λ (x : Served). x.back) ss (s ∷ [])));
    })
one_more ss s None (Some new) out last w takes gets = absurd w
one_more ss s (Some old) None out last w takes gets = absurd w

-- one more was done
pub turn_more : {P S : Type 0} (done : P → P → S → Type 0) (p m q : P) (ss : List S) (s : S) → InTurn done p m ss → done m q s → InTurn done p q (ss ++ s ∷ [])
turn_more {P} done p m q [] s w one = (q, subst (λ (k : P). done k q s) w one, refl)
turn_more done p m q (x ∷ ss) s w one = (w.0, w.1, turn_more done w.0 m q ss s w.2 one)

-- what each step leaves so is so at the end
pub kept_in_turn : {P S : Type 0} (done : P → P → S → Type 0) (IsSo : P → Type 0) (p q : P) (ss : List S) → IsSo p → ((m n : P) (s : S) → done m n s → IsSo n) → InTurn done p q ss → IsSo q
kept_in_turn done IsSo p q [] so each w = subst IsSo (sym w) so
kept_in_turn done IsSo p q (s ∷ ss) so each w = kept_in_turn done IsSo w.0 q ss (each p w.0 s w.1) each w.2

-- the pass keeps its number, and no count of it falls
pub no_count_falls : (side : Side) (t : Terms) (p q : PassSeen) (ss : List Served) → InTurn (IsServed side t) p q ss → (q.number ≡ p.number) × (p.count ≤ q.count) × (p.told ≤ q.told)
no_count_falls side t p q [] w = subst (λ (k : PassSeen). (k.number ≡ p.number) × (p.count ≤ k.count) × (p.told ≤ k.told)) (sym w) (refl, omega arith, omega arith)
no_count_falls side t p q (s ∷ ss) w =
    let more = no_count_falls side t w.0 q ss w.2 in
    (more.0 ∙ w.1.number, omega (arith, w.1.count, more.1), omega (arith, w.1.told, more.2))

-- the answers of a door
pub took : {L : Type 0} (seen : L → PortSeen) (before after : Option Links) (o : Option L) (link : L) → o ≡ Some link
    → MatchOption o ((after ≡ before) × HasNoneLeft before) (λ l. TakesLink (seen l) before after) → TakesLink (seen link) before after
took seen before after o link is w = subst (λ (p : Option _). MatchOption p ((after ≡ before) × HasNoneLeft before) (λ l. TakesLink (seen l) before after)) is w

pub none_left : {L : Type 0} (seen : L → PortSeen) (before after : Option Links) (o : Option L) → o ≡ None
    → MatchOption o ((after ≡ before) × HasNoneLeft before) (λ l. TakesLink (seen l) before after) → (after ≡ before) × HasNoneLeft before
none_left seen before after o is w = subst (λ (p : Option _). MatchOption p ((after ≡ before) × HasNoneLeft before) (λ l. TakesLink (seen l) before after)) is w
