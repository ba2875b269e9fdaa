use Rattle.std.proofs.Common.{◌≡◌, sym, ◌∙◌, ap, true, false, refl}
use Rattle.alarm_rules.specs.ContactId.{contact_id_class, contact_id_signal, is_contact_id}
use Rattle.alarm_rules.specs.Signals.{data_of}
use Rattle.contact_id.proofs.Forms.{contact_id_signal-made}
use Rattle.contact_id.proofs.reading.read.Goals as goal

pub returns-then-not-is_contact_id : goal.returns-then-not-is_contact_id
unfolding contact_id_signal
returns-then-not-is_contact_id c =
    let other : is_contact_id (data_of c.args.content.now) ≡ false = ap is_contact_id (sym c.data_of-data.ensures) ∙ sym c.is_contact_id.ensures ∙ c.if-not-is_contact_id.true in
    rw other refl

pub returns : goal.returns
returns c =
    let form : is_contact_id c.data_of-data.result.now ≡ true = sym c.is_contact_id.ensures ∙ c.if-not-is_contact_id.false in
    let code = rw c.unwrap.ensures at c.of.ensures.value in
    contact_id_signal-made c.data_of-data.result.now c.unwrap.result c.class_of-class.result c.kind_of.result form code (c.class_of-class.ensures ∙ sym (ap contact_id_class code)) c.kind_of.ensures
    ∙ ap contact_id_signal c.data_of-data.ensures
