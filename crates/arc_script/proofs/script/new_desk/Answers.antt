use Rattle.arc_script.proofs.script.new_desk.Goals as goal

pub returns : goal.returns
returns c = record { took = c.new.ensures }
