-- One step after another.
use Rattle.std.proofs.Common.{◌≡◌, ◌≤◌, ◌++◌, ◌∷◌, [], true, length, ap, ◌∙◌, subst, arith}
use Rattle.std.specs.List.{flat_map}
use Rattle.std.proofs.lemmas.Option.{slice_get_within, get_or_from_slice_get}
use Rattle.arc_data.specs.Steps.{is_step}
use Rattle.arc_data.specs.declared.step.Step.{Step}
use Rattle.event_codec.specs.Spelling.{step_byte}
use Rattle.summary_rules.specs.Spelling.{few_texts}
use Rattle.summary_codec.proofs.Flat.{next_of, texts_more, texts_all, counted, every_get}
use Rattle.summary_codec.proofs.writing.put_steps.Goals as goal

pub loop-k-preserved : goal.loop-k-preserved
loop-k-preserved c good =
    let xs = c.args.steps.now in
    let k = c.loop-k.k in
    let x = c.at.result in
    let known : is_step x ≡ true =
    subst (λ (s : Step). is_step s ≡ true) (get_or_from_slice_get xs k x x c.at.ensures) (every_get (λ (s : Step). is_step s ≡ true) xs k x (slice_get_within xs k x c.at.ensures) good) in
    texts_more (λ (s : Step). step_byte s ∷ []) xs k x _ _ _ (next_of xs k x c.at.ensures) (c.loop-k.invariant good)
    (c.in_ok-put_byte-2.ensures ∙ ap (λ b. c.loop-k.out.items ++ b ∷ []) (c.byte_of_step.ensures known))

pub returns : goal.returns
unfolding few_texts
returns c good =
    let xs = c.args.steps.now in
    let end : length xs ≤ c.loop-k.k = omega (arith, c.count-k-end.ensures.count) in
    counted c.args.out.now.items (length xs ∷ []) (flat_map (λ (s : Step). step_byte s ∷ []) xs) _
    (texts_all (λ (s : Step). step_byte s ∷ []) xs c.loop-k.k _ _ end (c.loop-k.invariant good)
    ∙ ap (λ l. l ++ flat_map (λ (s : Step). step_byte s ∷ []) xs) (c.in_ok-put_byte.ensures ∙ ap (λ n. c.args.out.now.items ++ n ∷ []) c.count.ensures.count))
