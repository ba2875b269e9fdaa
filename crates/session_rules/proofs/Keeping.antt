-- What no call of a hall, and no session over it, changes.
use Rattle.std.proofs.Common.{refl, ◌∙◌, arith}
use Rattle.centre_core.specs.Halls.{HallSeen, IsKept}

-- nothing was called
pub kept_self : (hall : HallSeen) → hall.ready → IsKept hall hall
kept_self hall ready = record { ready = ready; text = refl; caller = refl; fixed = refl; count = omega arith; told = omega arith }

-- calls behind calls
pub kept_more : {hall mid last : HallSeen} → IsKept hall mid → IsKept mid last → IsKept hall last
kept_more {hall} {mid} {last} first next = record {
  ready = next.ready;
  text = next.text ∙ first.text;
  caller = next.caller ∙ first.caller;
  fixed = next.fixed ∙ first.fixed;
  count = let a = first.count in let b = next.count in omega arith;
  told = let a = first.told in let b = next.told in omega arith;
}
