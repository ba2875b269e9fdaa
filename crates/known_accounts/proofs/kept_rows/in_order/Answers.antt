-- The accounts are the same, and each stands before the next.
use Rattle.std.proofs.Common.{◌≡◌, List, ℕ, sym, rules}
use Rattle.std.specs.Str.{bytes_eq}
use Rattle.std.proofs.lemmas.Cmp.{nat_list_cmp_total}
use Rattle.std.proofs.lemmas.List.Sorted.{list_any-IsPermutation, ranks_by, answers_always}
use Rattle.known_accounts.proofs.Ordered.{before, in_order_of}
use Rattle.known_accounts.proofs.kept_rows.in_order.Goals as goal

pub returns-clause-same : goal.returns-clause-same
returns-clause-same c a = sym (list_any-IsPermutation (λ x. bytes_eq x a) _ _ c.sort_unstable_by.ensures.permutation)

pub returns-clause-ascend : goal.returns-clause-ascend
returns-clause-ascend c =
    in_order_of _ _ c.requires c.sort_unstable_by.ensures.permutation
    (c.sort_unstable_by.ensures.sorted before (ranks_by nat_list_cmp_total (λ x. x)) (answers_always _ _ _ (λ f a r g h. search rules)))
