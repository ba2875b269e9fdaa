-- Words of plans told apart.
use Rattle.std.specs.Prelude.{ℕ, Bool, List, nat_eq}
use Rattle.std.specs.List.{list_any}
use Rattle.std.specs.Cmp.{IsEquivalence, on_equiv, nat_eq_equiv}
use Rattle.arc_data.specs.declared.plan.Planned.{Planned}
use Rattle.arc_data.specs.declared.plan.PlanWord.{PlanWord}
use Rattle.arc_data.specs.declared.plan.PlanWord.TheVariants.{Premises, Holders, Police, Fire, Ambulance, Guard, Note}

-- its place among the words
abbrev pub word_place : PlanWord → ℕ
word_place Premises = 0
word_place Holders = 1
word_place Police = 2
word_place Fire = 3
word_place Ambulance = 4
word_place Guard = 5
word_place Note = 6

-- whether two words are the same; their marks don't count
abbrev pub same_word : PlanWord → PlanWord → Bool
same_word a b = nat_eq (word_place a) (word_place b)

pub same_word_equiv : IsEquivalence same_word
same_word_equiv = on_equiv word_place nat_eq_equiv

-- the word is among these, with or without its mark
abbrev pub has_word : PlanWord → List Planned → Bool
has_word word words = list_any (λ p. same_word p.word word) words
