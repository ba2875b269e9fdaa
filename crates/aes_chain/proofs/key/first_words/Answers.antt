use Rattle.std.proofs.Common.{[], ◌∷◌, ◌++◌, ap, ◌∙◌, ◌≡◌, sym, refl, arith}
use Rattle.std.proofs.lemmas.List.{length-set}
use Rattle.aes_chain.specs.Schedule.{key_words}
use Rattle.aes_chain.specs.Words.{words_of}
use Rattle.aes_chain.proofs.Expansion.{words_of-more, key_words_more}
use Rattle.aes_chain.proofs.key.first_words.Goals as goal

pub loop-i-init : goal.loop-i-init
unfolding key_words
loop-i-init c = record { is = refl; len = refl }

pub loop-i-preserved : goal.loop-i-preserved
loop-i-preserved c = record {
  is =
      words_of-more c.loop-i.words c.loop-i.i c.word.result (omega arith)
      ∙ (λ t. c.loop-i.invariant.is t ++ c.word.ensures t ∷ [])
      ∙ sym (key_words_more c.args.bytes.now c.loop-i.i);
  len = length-set c.loop-i.words c.loop-i.i c.word.result ∙ c.loop-i.invariant.len;
}

pub returns : goal.returns
returns c =
    let end : c.loop-i.i ≡ c.args.key_len = omega arith in
    ap (words_of c.loop-i.words) (sym end) ∙ c.loop-i.invariant.is ∙ ap (key_words c.args.bytes.now) end
