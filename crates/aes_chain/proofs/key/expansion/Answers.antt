use Rattle.std.proofs.Common.{ℕ, List, ap, ◌∙◌, ◌≡◌, ◌+◌, ◌-◌, ◌*◌, sym, refl, arith}
use Rattle.std.proofs.lemmas.List.{length-set, take-set-le}
use Rattle.aes_chain.specs.Schedule.{expanded}
use Rattle.aes_chain.specs.Words.{words_of}
use Rattle.aes_chain.proofs.Expansion.{expanded_more}
use Rattle.aes_chain.proofs.key.expansion.Goals as goal

pub loop-i-init : goal.loop-i-init
unfolding expanded
loop-i-init c =
    let none : 0 ≡ c.args.key_len - c.args.key_len = omega arith in
    record {
      is = ap (expanded c.args.key_len (words_of c.args.first.now c.args.key_len)) none;
      kept = refl;
      len = c.told-first;
    }

pub loop-i-preserved : goal.loop-i-preserved
loop-i-preserved c = record {
  is =
      expanded_more c.args.key_len c.loop-i.i c.loop-i.words (words_of c.args.first.now c.args.key_len) c.added_word.result (omega arith)
      (omega arith) (omega arith) c.loop-i.invariant.is c.added_word.ensures;
  kept = take-set-le c.args.key_len c.loop-i.words c.loop-i.i _ (omega arith) ∙ c.loop-i.invariant.kept;
  len = length-set c.loop-i.words c.loop-i.i _ ∙ c.loop-i.invariant.len;
}

pub returns : goal.returns
returns c =
    let end : c.loop-i.i ≡ 4 * c.args.key_len + 28 = omega arith in
    let count : 4 * c.args.key_len + 28 - c.args.key_len ≡ 3 * c.args.key_len + 28 = omega arith in
    let first : List (List ℕ) = words_of c.args.first.now c.args.key_len in
    record {
      kept = c.loop-i.invariant.kept;
      words =
          ap (words_of c.loop-i.words) (sym end) ∙ c.loop-i.invariant.is
          ∙ ap (λ (m : ℕ). expanded c.args.key_len first (m - c.args.key_len)) end
          ∙ ap (expanded c.args.key_len first) count;
    }
