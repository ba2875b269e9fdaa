-- One part behind another.
use Rattle.std.proofs.Common.{◌++◌, ◌∷◌, [], ap, ◌∙◌}
use Rattle.event_codec.specs.Spelling.{short_text, step_byte}
use Rattle.summary_rules.specs.Spelling.{long_number, class_byte, truth_byte, holder_text, few_texts, act_text, incident_text}
use Rattle.summary_codec.proofs.Flat.{six_behind, opened_behind}
use Rattle.summary_codec.proofs.writing.put_incident.Goals as goal

pub returns : goal.returns
unfolding incident_text
returns c steps acts =
    let i = c.args.i.now in
    let front = long_number i.number ++ (short_text i.account ++ (class_byte i.class ∷ (short_text i.code ++ (short_text i.via ++ long_number i.at)))) in
    let b = long_number i.signals in
    let r = truth_byte i.restored ∷ [] in
    let h = holder_text i.holder i.touched in
    let s = few_texts (λ s. step_byte s ∷ []) i.steps in
    let a = few_texts act_text i.acts in
    let old = c.args.out.now.items in
    c.in_ok-put_acts.ensures (rw c.items.ensures.value acts) ∙ ap (λ l. c.put_steps.new.out.items ++ few_texts act_text l) c.items.ensures.value
    ∙ ap (λ l. l ++ a) (c.in_ok-put_steps.ensures steps
    ∙ ap (λ l. l ++ s) (c.in_ok-put_holder.ensures
    ∙ ap (λ l. l ++ h) (c.in_ok-put_truth.ensures
    ∙ ap (λ l. l ++ r) (c.in_ok-put_number.ensures
    ∙ ap (λ l. l ++ b) c.in_ok-put_opened.ensures))))
    ∙ six_behind old front b r h s a
    ∙ ap (λ l. old ++ l) (opened_behind (long_number i.number) (short_text i.account) (short_text i.code) (short_text i.via) (long_number i.at) (b ++ (r ++ (h ++ (s ++ a)))) (class_byte i.class))
