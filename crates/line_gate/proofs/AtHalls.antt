-- What a call of the gate tells of the hall over it.
use Rattle.std.proofs.Common.{◌≡◌, ℕ, ◌+◌, List, [], ◌∷◌, ◌++◌, length, take, refl, sym, ap, ◌∙◌, subst, arith, append_assoc}
use Rattle.std.specs.Prelude.{Result, Ok, Err, IfOk, IfErr, OnErr}
use Rattle.arc_data.specs.declared.event.Event.{Event}
use Rattle.centre_core.specs.declared.hall.Stop.{Stop}
use Rattle.centre_core.specs.declared.ready.Done.{Done}
use Rattle.centre_rules.specs.Summary.{Summary}
use Rattle.centre_core.specs.Halls.{GoesOn, LeftEvent, Waits}
use Rattle.line_gate.specs.Entries.{Entry, Extends, made_by}
use Rattle.line_gate.specs.Terms.{Terms}
use Rattle.line_gate.specs.Passes.{PassSeen, IsPass, IsLater, Makes, PassShows}
use Rattle.line_gate.specs.AtGates.{AtSeen, own_of, gate_seen, at_legal}
use Rattle.line_gate.proofs.Histories.{both_ways, nested}
use Rattle.line_gate.proofs.Carried.{extends_base}

take_front : (a b : List Entry) → take (length a) (a ++ b) ≡ a
take_front [] b = refl
take_front (x ∷ a) b = ap (λ (y : List Entry). x ∷ y) (take_front a b)

-- the own part of a history for which the hall stands is what the pass made
pub own_at : (t : Terms) (p : PassSeen) (b : Summary) (h : List Entry) → AtSeen t p b h → own_of p h ≡ p.made
own_at t p b h w = ap (λ (l : List Entry). made_by p.number (take (length p.since) l)) w.seen ∙ ap (made_by p.number) (take_front p.since w.base) ∙ w.pass.own

pub later : (t : Terms) (p : PassSeen) (b : Summary) (h l : List Entry) (w : AtSeen t p b h) → Extends p.since l → Extends h (l ++ w.base)
later t p b h l w s = subst (λ (x : List Entry). Extends x (l ++ w.base)) (sym w.seen) (extends_base p.since l w.base s)

-- an answered call
goes_on : (t : Terms) (p q : PassSeen) (clock : ℕ) (e : Entry) → Makes t p q clock e → IsPass t q → (b : Summary) (h : List Entry) → AtSeen t p b h → GoesOn b (gate_seen t p) (gate_seen t q) h clock e
goes_on t p q clock e m pass b h w =
    let at : AtSeen t q b (e ∷ (m.before ++ w.base)) = record { base = w.base; from = w.from; seen = sym (ap (λ (l : List Entry). l ++ w.base) m.since); pass = pass } in record {
      before = m.before ++ w.base;
      extends = later t p b h m.before w m.extends;
      holds = at;
      legal = at_legal t q b (e ∷ (m.before ++ w.base)) at;
      at = m.answer.at b w.base w.from;
      own = own_at t q b (e ∷ (m.before ++ w.base)) at ∙ m.made ∙ sym (ap (λ (l : List Entry). e ∷ l) (own_at t p b h w));
      disk = record { reads = λ r. r; leaves = λ r t k left. left };
      up = tt;
    }

-- a stop
waits : (t : Terms) (p q : PassSeen) → IsLater p q → q.made ≡ p.made → IsPass t q → (b : Summary) (h : List Entry) → AtSeen t p b h → Waits b (gate_seen t p) (gate_seen t q) h
waits t p q g same pass b h w =
    let at : AtSeen t q b (q.since ++ w.base) = record { base = w.base; from = w.from; seen = refl; pass = pass } in record {
      now = q.since ++ w.base;
      extends = later t p b h q.since w g.since;
      holds = at;
      legal = at_legal t q b (q.since ++ w.base) at;
      own = own_at t q b (q.since ++ w.base) at ∙ same ∙ sym (own_at t p b h w);
      disk = record { reads = λ r. r; leaves = λ r t k left. left };
    }

pub done_at : (t : Terms) (p q : PassSeen) (clock : ℕ) (event : Event) (r : Result Done Stop) → IfOk r (λ d. Makes t p q clock (record { caller = d.caller; event = event; at = d.at; reply = d.reply })) → IsPass t q
    → IfOk r (λ d. (b : Summary) (h : List Entry) → AtSeen t p b h → GoesOn b (gate_seen t p) (gate_seen t q) h clock (record { caller = d.caller; event = event; at = d.at; reply = d.reply }))
done_at t p q clock event (Ok d) m pass = goes_on t p q clock (record { caller = d.caller; event = event; at = d.at; reply = d.reply }) m pass
done_at t p q clock event (Err s) m pass = tt

pub stop_at : (t : Terms) (p q : PassSeen) (clock : ℕ) (event : Event) (r : Result Done Stop) → IsLater p q → OnErr r (q.made ≡ p.made) → IsPass t q → IfErr r (λ s. PassShows t q s event clock)
    → IfErr r (λ s. (b : Summary) (h : List Entry) → AtSeen t p b h → LeftEvent s b (gate_seen t p) (gate_seen t q) h event clock)
stop_at t p q clock event (Ok d) g same pass shown = tt
stop_at t p q clock event (Err s) g same pass shown = λ b h w. record { waits = waits t p q g same pass b h w; cause = record { shown = shown; torn = λ up. tt } }

-- Over one summary all bases have one length. So two histories of the hall over it, of which one begins with the other, have
-- one base.
same_end : (l m x y : List Entry) → l ++ x ≡ m ++ y → length x ≡ length y → x ≡ y
same_end l m x y e long = both_ways x y (nested x y (m ++ y) (l, sym e) (m, refl) (omega arith)) (nested y x (m ++ y) (m, refl) (l, sym e) (omega arith))

pub same_base : (b : Summary) (n : ℕ) (x y l m : List Entry) → n ≡ b.recorded + length x → n ≡ b.recorded + length y → l ++ x ≡ m ++ y → x ≡ y
same_base b n x y l m p q e = same_end l m x y e (omega arith)

-- what an answered call of the hall tells of the pass, over a base
pub made_at : (t : Terms) (p q : PassSeen) (b : Summary) (base : List Entry) (clock : ℕ) (e : Entry) → IsPass t p → t.stood b base
    → GoesOn b (gate_seen t p) (gate_seen t q) (p.since ++ base) clock e → (before : List Entry) × (q.since ++ base ≡ e ∷ before) × Extends (p.since ++ base) before
made_at t p q b base clock e pass from w =
    let x = w.extends.0 in
    let whole : (e ∷ (x ++ p.since)) ++ base ≡ q.since ++ w.holds.base = ap (λ (l : List Entry). e ∷ l) (append_assoc x p.since base ∙ sym w.extends.1) ∙ w.holds.seen in
    let same : base ≡ w.holds.base = same_base b t.entries base w.holds.base (e ∷ (x ++ p.since)) q.since (pass.of_gate.long b base from) (pass.of_gate.long b w.holds.base w.holds.from) whole in
    (w.before, ap (λ (l : List Entry). q.since ++ l) same ∙ sym w.holds.seen, w.extends)

-- and what a stop tells
pub kept_at : (t : Terms) (p q : PassSeen) (b : Summary) (base : List Entry) → IsPass t p → t.stood b base → Waits b (gate_seen t p) (gate_seen t q) (p.since ++ base) → Extends (p.since ++ base) (q.since ++ base)
kept_at t p q b base pass from w =
    let x = w.extends.0 in
    let whole : (x ++ p.since) ++ base ≡ q.since ++ w.holds.base = append_assoc x p.since base ∙ sym w.extends.1 ∙ w.holds.seen in
    let same : base ≡ w.holds.base = same_base b t.entries base w.holds.base (x ++ p.since) q.since (pass.of_gate.long b base from) (pass.of_gate.long b w.holds.base w.holds.from) whole in
    subst (λ (l : List Entry). Extends (p.since ++ base) l) (w.holds.seen ∙ ap (λ (l : List Entry). q.since ++ l) (sym same)) w.extends
