-- One part behind another.
use Rattle.std.proofs.Common.{refl}
use Rattle.summary_codec.proofs.Opened.{opened_none, opened_some}
use Rattle.summary_codec.proofs.reading.incident_read_at.Goals as goal

pub returns-in_default-u64_at : goal.returns-in_default-u64_at
returns-in_default-u64_at c = opened_none c.args.version c.args.bytes.now c.in-Some.by c.in-Some.ensures (rw c.in_default-u64_at.ensures refl)

pub returns-in_default-truth_at : goal.returns-in_default-truth_at
returns-in_default-truth_at c =
    opened_none c.args.version c.args.bytes.now c.in-Some.by c.in-Some.ensures (rw (c.in-Some-u64_at.ensures, c.in_default-truth_at.ensures) refl)

pub returns-in_default-holder_at : goal.returns-in_default-holder_at
returns-in_default-holder_at c =
    opened_none c.args.version c.args.bytes.now c.in-Some.by c.in-Some.ensures (rw (c.in-Some-u64_at.ensures, c.in-Some-truth_at.ensures, c.in_default-holder_at.ensures) refl)

pub returns-in_default-steps_at : goal.returns-in_default-steps_at
returns-in_default-steps_at c =
    opened_none c.args.version c.args.bytes.now c.in-Some.by c.in-Some.ensures
    (rw (c.in-Some-u64_at.ensures, c.in-Some-truth_at.ensures, c.in-Some-holder_at.ensures, c.in_default-steps_at.ensures) refl)

pub returns-in_default-acts_at : goal.returns-in_default-acts_at
returns-in_default-acts_at c =
    opened_none c.args.version c.args.bytes.now c.in-Some.by c.in-Some.ensures
    (rw (c.in-Some-u64_at.ensures, c.in-Some-truth_at.ensures, c.in-Some-holder_at.ensures, c.in-Some-steps_at.ensures, c.in_default-acts_at.ensures) refl)

pub returns : goal.returns
returns c =
    opened_some c.args.version c.args.bytes.now c.in-Some.by
    (c.in-Some-u64_at.signals, (c.in-Some-truth_at.restored, ((c.in-Some-holder_at.holder, c.in-Some-holder_at.touched), (c.in-Some-steps_at.steps, c.in-Some-acts_at.acts))))
    c.in-Some-acts_at.rest.now c.in-Some.ensures
    (rw (c.in-Some-u64_at.ensures, c.in-Some-truth_at.ensures, c.in-Some-holder_at.ensures, c.in-Some-steps_at.ensures, c.in-Some-acts_at.ensures) refl)
