use Rattle.std.proofs.Common.{append_assoc}
use Rattle.arc_drill.proofs.texts.put_message.Goals as goal

pub returns-clause-text : goal.returns-clause-text
returns-clause-text c =
    rw (
      c.put-7.ensures.text,
      c.put-6.ensures.text,
      c.data.ensures.text,
      c.put-5.ensures.text,
      c.put_account-2.ensures.text,
      c.put-4.ensures.text,
      c.put_account.ensures.text,
      c.put-3.ensures.text,
      c.put-2.ensures.text,
      c.four_digits.ensures,
      c.put.ensures.text,
    ) (simp append_assoc)
