use Rattle.std.proofs.Common.{◌≡◌, ◌≤◌, List, length, false, ◌∙◌, ap, arith, sym}
use Rattle.std.specs.Prelude.{◌==◌, reverse, take}
use Rattle.std.specs.List.{find, list_any}
use Rattle.std.specs.Option.{option_map}
use Rattle.std.proofs.lemmas.List.{take_all, length-reverse}
use Rattle.arc_data.specs.declared.event.Past.{Past}
use Rattle.centre_rules.specs.Answers.{repeats}
use Rattle.repeat_window.proofs.Sequences.{unrepeated}
use Rattle.repeat_window.proofs.window.Window.holds.Goals as goal

pub returns : goal.returns
returns c =
    let items = c.self.inside.ring.items in
    let few : length (reverse items) ≤ 32 = omega (arith, length-reverse items, c.self.invariant.few) in
    c.newest.ensures ∙ ap (λ (l : List Past). option_map (λ (x : Past). x.at) (find (repeats c.args.message.now c.args.at) l)) (sym (take_all 32 (reverse items) few) ∙ ap (take 32) c.self.view_is)

pub returns-then-not-contains : goal.returns-then-not-contains
returns-then-not-contains c =
    let items = c.self.inside.ring.items in
    let m = c.args.message.now in
    let few : length (reverse items) ≤ 32 = omega (arith, length-reverse items, c.self.invariant.few) in
    let kept = ap (λ n. take n c.self.inside.sequences) (length-reverse items) ∙ c.self.invariant.kept in
    let lacks : list_any (λ s. s == m.seq) c.self.inside.sequences ≡ false = sym c.contains.ensures.value ∙ c.if-not-contains.true in
    let none = unrepeated m c.args.at c.self.inside.sequences (reverse items) kept lacks in
    sym (ap (λ (l : List Past). option_map (λ (x : Past). x.at) (find (repeats m c.args.at) l)) (ap (take 32) (sym c.self.view_is) ∙ take_all 32 (reverse items) few)
    ∙ ap (option_map (λ (x : Past). x.at)) none)
