use Rattle.std.proofs.Common.{sym, ◌∙◌}
use Rattle.disk_journal.proofs.Opens.{found_chosen}
use Rattle.disk_journal.proofs.open.pick.Goals as goal

pub returns-in-A : goal.returns-in-A
returns-in-A c areas of_a len_a of_b len_b = record {
  chosen_is = sym (found_chosen c.args.a c.args.b areas of_a of_b) ∙ sym c.choose.ensures ∙ c.in-A.is;
  found_is = of_a;
  length_is = len_a;
}

pub returns-in-B : goal.returns-in-B
returns-in-B c areas of_a len_a of_b len_b = record {
  chosen_is = sym (found_chosen c.args.a c.args.b areas of_a of_b) ∙ sym c.choose.ensures ∙ c.in-B.is;
  found_is = of_b;
  length_is = len_b;
}
