-- The messages one after another, the oldest first.
use Rattle.std.proofs.Common.{◌≡◌, ◌≤◌, ◌++◌, ◌∷◌, [], length, ap, ◌∙◌, sym, arith}
use Rattle.std.specs.Prelude.{reverse, take}
use Rattle.std.specs.List.{flat_map}
use Rattle.std.proofs.lemmas.List.{length-reverse, take_all}
use Rattle.summary_rules.specs.Spelling.{few_texts, past_text}
use Rattle.summary_codec.proofs.Flat.{next_of, texts_more, texts_all, counted}
use Rattle.summary_codec.proofs.writing.put_window.Goals as goal

pub loop-i-preserved : goal.loop-i-preserved
loop-i-preserved c =
    let xs = reverse c.args.window.now in
    texts_more past_text xs c.loop-i.i c.at.result.now _ _ _ (next_of xs c.loop-i.i c.at.result.now c.at.ensures) c.loop-i.invariant c.in_ok-put_past.ensures

pub returns : goal.returns
unfolding few_texts
returns c =
    let w = c.args.window.now in
    let end : length (reverse w) ≤ c.loop-i.i = omega (arith, length-reverse w, c.count-i-end.ensures.count) in
    let all = texts_all past_text (reverse w) c.loop-i.i _ _ end c.loop-i.invariant in
    let few : take 32 w ≡ w = take_all 32 w (omega (arith, c.count-i-end.ensures.count, c.count-i-end.ensures.few)) in
    counted c.args.out.now.items (length (reverse (take 32 w)) ∷ []) (flat_map past_text (reverse (take 32 w))) _
    (all ∙ ap (λ l. l ++ flat_map past_text (reverse w)) (c.in_ok-put_byte.ensures ∙ ap (λ n. c.args.out.now.items ++ n ∷ []) (c.count.ensures.count ∙ sym (length-reverse w)))
    ∙ ap (λ l. (c.args.out.now.items ++ length (reverse l) ∷ []) ++ flat_map past_text (reverse l)) (sym few))
