-- What is due is sent, one after another.
use Rattle.std.proofs.Common.{◌≡◌, ◌≤◌, ◌+◌, ◌-◌, ◌++◌, ℕ, List, [], ◌∷◌, All, length, Ok, Err, refl, sym, ◌∙◌, ap, subst, arith, length-append, append_assoc}
use Rattle.std.specs.List.{flat_map}
use Rattle.std.proofs.lemmas.Grind.{flat_map-append}
use Rattle.std.proofs.lemmas.List.Elements.{All-from_recursion, recursion_from_All}
use Rattle.std.specs.List.{AllByRecursion}
use Rattle.alarm_rules.specs.Setups.{Setup}
use Rattle.arc_io.specs.Seen.{PortSeen}
use Rattle.line_session.specs.Dues.{IsAckDue, AreSent, SendsDue, SendsDues, acks_in}
use Rattle.line_session.specs.declared.due.Due.{Due}
use Rattle.line_session.specs.declared.due.Due.TheVariants.{Silence, Nak, Duh, Ack}
use Rattle.line_session.specs.declared.line_end.LineEnd.{LineEnd}

-- one more behind those that were sent
sent_more : (setup : Setup) (sent : List Due) (due : Due) (p p' q : PortSeen) → AreSent setup sent p p' → SendsDue (Ok tt) setup due p' q
    → AreSent setup (sent ++ due ∷ []) p q
sent_more setup [] due p p' q are one = (q, subst (λ (r : PortSeen). SendsDue (Ok tt) setup due r q) are one, refl)
sent_more setup (d ∷ ds) due p p' q are one = (are.0, are.1, sent_more setup ds due are.0 p' q are.2 one)

acks_more : (sent : List Due) (due : Due) → length (flat_map acks_in (sent ++ due ∷ [])) ≡ length (flat_map acks_in sent) + length (acks_in due)
acks_more sent due =
    let all = ap length (flat_map-append acks_in sent (due ∷ [])) in
    let more = length-append (flat_map acks_in sent) (flat_map acks_in (due ∷ [])) in
    let one = length-append (acks_in due) [] in
    omega (arith, all, more, one)

-- how many acknowledgements are left behind one, and behind another reply
pub left_after : (due : Due) (left after : ℕ) → IsAckDue due → after ≡ left - 1 → 1 ≤ left → left ≡ length (acks_in due) + after
left_after Silence left after is e some = absurd is
left_after (Nak account reading) left after is e some = absurd is
left_after (Duh header why) left after is e some = absurd is
left_after (Ack header reading) left after is e some = omega (arith, e, some)

pub left_same : (due : Due) (left after : ℕ) → (IsAckDue due → ⊥) → after ≡ left → left ≡ length (acks_in due) + after
left_same Silence left after none e = omega (arith, e)
left_same (Nak account reading) left after none e = omega (arith, e)
left_same (Duh header why) left after none e = omega (arith, e)
left_same (Ack header reading) left after none e = absurd (none tt)

pub all_back : (P : Due → Type 0) (front back : List Due) → All P (front ++ back) → All P back
all_back P front back all = All-from_recursion P back (by front (recursion_from_All P (front ++ back) all)) where
  by : (front : List Due) → AllByRecursion P (front ++ back) → AllByRecursion P back
  by [] all = all
  by (x ∷ front) all = by front all.1

-- so many were sent, and these are left
pub record SentSoFar (setup : Setup) (old now : List Due) (count left : ℕ) (p p' : PortSeen) : Type 0 where
  pub sent : List Due
  pub is : old ≡ sent ++ now
  pub counted : count ≡ length (flat_map acks_in sent) + left
  pub are : AreSent setup sent p p'

-- what was due first was sent
pub sent_next : {setup : Setup} {old rest : List Due} {count left : ℕ} {p p' : PortSeen} (due : Due) (after : List Due) (left' : ℕ) (q : PortSeen) → SentSoFar setup old rest count left p p'
    → rest ≡ due ∷ after → left ≡ length (acks_in due) + left' → SendsDue (Ok tt) setup due p' q → SentSoFar setup old after count left' p q
sent_next {setup} {old} {rest} {count} {left} {p} {p'} due after left' q s is acks one =
    let counted = s.counted in
    record {
      sent = s.sent ++ due ∷ [];
      is = s.is ∙ ap (λ (l : List Due). s.sent ++ l) is ∙ sym (append_assoc s.sent (due ∷ []) after);
      counted = omega (arith, counted, acks, acks_more s.sent due);
      are = sent_more setup s.sent due p p' q s.are one;
    }

-- or its write failed
pub sent_not : {setup : Setup} {old rest : List Due} {count left : ℕ} {p p' : PortSeen} (end : LineEnd) (due : Due) (after : List Due) (left' : ℕ) (q : PortSeen) → SentSoFar setup old rest count left p p'
    → rest ≡ due ∷ after → left ≡ length (acks_in due) + left' → SendsDue (Err end) setup due p' q → SendsDues (Err end) setup count old after p q
sent_not {setup} {old} {rest} {count} {left} {p} {p'} end due after left' q s is acks one =
    let counted = s.counted in (
      s.sent,
      due,
      p',
      s.is ∙ ap (λ (l : List Due). s.sent ++ l) is,
      omega (arith, counted, acks, acks_more s.sent due),
      s.are,
      one,
    )
