-- What is known of a summary that areas give.
use Rattle.centre_rules.specs.Cases.{Ascends}
use Rattle.centre_rules.specs.History.{IsMoment}
use Rattle.centre_rules.specs.Summary.{Summary}
use Rattle.centre_store.specs.Given.{IsGiven}

-- it ends at a moment
pub given_moment : (base : Summary) → IsGiven base → IsMoment base.last
given_moment base is = is.besides.last

-- the numbers of its incidents rise
pub given_ascends : (base : Summary) → IsGiven base → Ascends 0 base.incidents base.opened
given_ascends base is = is.besides.numbers
