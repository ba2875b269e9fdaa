-- One after another.
use Rattle.std.proofs.Common.{◌≡◌, ◌+◌, ◌++◌, ◌∷◌, [], true, length, take, ap, ◌∙◌, sym, arith}
use Rattle.std.specs.List.{flat_map}
use Rattle.std.proofs.lemmas.List.{take_more}
use Rattle.arc_data.specs.Steps.{is_step}
use Rattle.arc_data.specs.declared.step.Acted.{Acted}
use Rattle.summary_rules.specs.Spelling.{few_texts, act_text}
use Rattle.summary_codec.proofs.Flat.{texts_more, texts_all, counted, every_get}
use Rattle.summary_codec.proofs.writing.put_acts.Goals as goal

pub loop-acted-preserved : goal.loop-acted-preserved
loop-acted-preserved c good =
    let xs = c.args.acts.now in
    let i = c.loop-acted.acted-index in
    let x = c.acted-item.result in
    let next : take (i + 1) xs ≡ take i xs ++ x ∷ [] = take_more xs i x c.loop-acted-test.true ∙ ap (λ (y : Acted). take i xs ++ y ∷ []) (sym c.acted-item.is) in
    let good_one : is_step x.step ≡ true = rw c.acted-item.is (every_get (λ (a : Acted). is_step a.step ≡ true) xs i x c.loop-acted-test.true good) in
    texts_more act_text xs i x _ _ _ next (c.loop-acted.invariant good)
    (c.in_ok-put_act.ensures good_one)

pub returns : goal.returns
unfolding few_texts
returns c good =
    let xs = c.args.acts.now in
    counted c.args.out.now.items (length xs ∷ []) (flat_map act_text xs) _
    (texts_all act_text xs c.loop-acted.acted-index _ _ (omega arith) (c.loop-acted.invariant good)
    ∙ ap (λ l. l ++ flat_map act_text xs) c.in_ok-put_byte.ensures)
