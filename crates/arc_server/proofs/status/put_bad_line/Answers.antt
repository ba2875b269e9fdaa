use Rattle.arc_server.proofs.status.put_bad_line.Goals as goal

pub returns-in-Form-clause-all : goal.returns-in-Form-clause-all
returns-in-Form-clause-all g c = rw (c.in-Form.is) c.put_at_line.ensures.all

pub returns-in-BadZone-clause-all : goal.returns-in-BadZone-clause-all
returns-in-BadZone-clause-all g c = rw (c.in-BadZone.is) c.put_at_line-in-BadZone.ensures.all

pub returns-in-NoAccount-clause-all : goal.returns-in-NoAccount-clause-all
returns-in-NoAccount-clause-all g c = rw (c.in-NoAccount.is) c.put_at_line-in-NoAccount.ensures.all
