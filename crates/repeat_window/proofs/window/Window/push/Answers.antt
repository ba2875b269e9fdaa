use Rattle.std.proofs.Common.{◌≡◌, ◌∷◌, ◌++◌, ◌-◌, List, [], length, map, take, drop, ap, sym, ◌∙◌, arith}
use Rattle.std.specs.Prelude.{reverse}
use Rattle.std.proofs.lemmas.List.{reverse-append, length-drop}
use Rattle.arc_data.specs.declared.event.Past.{Past}
use Rattle.circular_buffer.specs.Buffer.{Buffer, buffer}
use Rattle.repeat_window.proofs.Newest.{kept}
use Rattle.repeat_window.proofs.Sequences.{led}
use Rattle.repeat_window.proofs.window.Window.push.Goals as goal

pub returns : goal.returns
returns c =
    let all = c.self.inside.ring.items ++ c.args.seen ∷ [] in
    ap (λ (b : Buffer Past). reverse b.items) c.push_back.ensures.items
    ∙ ap (λ n. reverse (drop (length all - n) all)) c.self.invariant.room
    ∙ kept 32 all ∙ ap (take 32) (reverse-append c.self.inside.ring.items (c.args.seen ∷ []))
    ∙ ap (λ (l : List Past). take 32 (c.args.seen ∷ l)) c.self.view_is

pub invariant_of-self : goal.invariant_of-self
invariant_of-self c =
    let items = c.self.inside.ring.items in
    let all = items ++ c.args.seen ∷ [] in
    let is : c.push_back.new.self ≡ buffer (drop (length all - 32) all) 32 =
    c.push_back.ensures.items ∙ ap (λ n. buffer (drop (length all - n) all) n) c.self.invariant.room in
    record {
      room = ap (λ (b : Buffer Past). b.capacity) is;
      few = omega (arith, ap (λ (b : Buffer Past). length b.items) is, length-drop (length all - 32) all);
      kept = ap (λ (b : Buffer Past). take (length b.items) c.led_by-self-inside.result) is
          ∙ ap (take (length (drop (length all - 32) all))) c.led_by-self-inside.ensures
          ∙ led c.self.inside.sequences items c.args.seen c.self.invariant.kept
          ∙ ap (λ (b : Buffer Past). map (λ (p : Past). p.message.seq) (reverse b.items)) (sym is);
    }
