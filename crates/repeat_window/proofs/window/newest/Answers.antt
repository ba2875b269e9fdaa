use Rattle.std.proofs.Common.{◌∷◌, List, [], ◌∙◌, ap, sym}
use Rattle.std.specs.Prelude.{map, reverse}
use Rattle.std.specs.List.{find}
use Rattle.std.specs.Map.Iter.{deref}
use Rattle.std.specs.Option.{option_map}
use Rattle.std.proofs.lemmas.List.{map-append}
use Rattle.arc_data.specs.declared.event.Past.{Past}
use Rattle.centre_rules.specs.Answers.{repeats}
use Rattle.repeat_window.proofs.Newest.{found_more}
use Rattle.repeat_window.proofs.window.newest.Goals as goal

pub loop-seen-preserved : goal.loop-seen-preserved
loop-seen-preserved c =
    let m = c.args.message.now in
    c.newer-newest.ensures ∙ found_more m c.args.at c.loop-seen.newest (map deref c.loop-seen.yielded) c.in-Some.seen.now c.loop-seen.invariant
    ∙ ap (λ (l : List Past). option_map (λ (x : Past). x.at) (find (repeats m c.args.at) (reverse l))) (sym (map-append deref c.loop-seen.yielded (c.in-Some.seen ∷ [])))
