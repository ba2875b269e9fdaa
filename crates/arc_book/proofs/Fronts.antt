-- The front of an area, which was read whole, and at least a byte more.
use Rattle.std.proofs.Common.{◌≡◌, ◌<◌, ℕ, List, [], ◌∷◌, ◌++◌, length, take, drop, get_or, Option, Some, None, refl, sym, ap, ◌∙◌, arith, length-append, take-append-drop}
use Rattle.std.specs.Prelude.{IfSome}
use Rattle.std.specs.Io.KnownBytes.{prepend_known}
use Rattle.std.proofs.lemmas.List.{drop_more, drop_all, take-append-le}
use Rattle.disk_journal.specs.Faults.{IsShown}
use Rattle.disk_journal.specs.Records.{head_of, IsVersion}
use Rattle.disk_journal.specs.declared.fault.OpenFault.{OpenFault}
use Rattle.arc_book.specs.Tapes.{IsReadTo}
use Rattle.arc_book.proofs.Tapes.{some_is, never}

pub long_front : (all left : Option (List ℕ)) (body unread : List ℕ) → all ≡ prepend_known body (prepend_known unread left) → length body ≡ 17 → 0 < length unread
    → IfSome all (λ bytes. 17 < length bytes)
long_front None left body unread is long more = tt
long_front (Some bytes) None body unread is long more = absurd (never bytes is)
long_front (Some bytes) (Some l) body unread is long more =
    omega (arith, long, more, ap length (some_is bytes (body ++ (unread ++ l)) is), length-append body (unread ++ l), length-append unread l)

-- a front that is no journal's
pub front_refused : (all left : Option (List ℕ)) (body unread front : List ℕ) (fault : OpenFault) → all ≡ prepend_known body (prepend_known unread left) → length body ≡ 17
    → 0 < length unread → front ≡ take 16 body → ((bytes : List ℕ) → 17 < length bytes → take 16 bytes ≡ front → IsShown fault bytes) → IfSome all (IsShown fault)
front_refused None left body unread front fault is long more front_is shown = tt
front_refused (Some bytes) None body unread front fault is long more front_is shown = absurd (never bytes is)
front_refused (Some bytes) (Some l) body unread front fault is long more front_is shown =
    shown bytes (long_front (Some bytes) (Some l) body unread is long more)
    (ap (take 16) (some_is bytes (body ++ (unread ++ l)) is) ∙ take-append-le 16 body (unread ++ l) (omega (arith, long)) ∙ sym front_is)

-- a journal's front, and the first gate
pub front_read : (version : ℕ) (all rest : Option (List ℕ)) (body front : List ℕ) (gate d : ℕ) → IsVersion version → all ≡ prepend_known body rest → length body ≡ 17 → front ≡ take 16 body → front ≡ head_of version
    → gate ≡ get_or body 16 d → IfSome all (λ bytes. 17 < length bytes) → IsReadTo version all [] gate 16 rest
front_read version all rest body front gate d known is long front_is head_is gate_is far =
    let last : drop 16 body ≡ gate ∷ [] =
    drop_more body 16 d (omega (arith, long)) ∙ ap (λ l. get_or body 16 d ∷ l) (drop_all 17 body (omega (arith, long))) ∙ ap (λ g. g ∷ []) (sym gate_is) in
    let whole : body ≡ head_of version ++ gate ∷ [] =
    sym (take-append-drop 16 body) ∙ ap (λ l. l ++ drop 16 body) (sym front_is ∙ head_is) ∙ ap (λ l. head_of version ++ l) last in
    record {
      known = known;
      sizes = tt;
      at = refl;
      long = far;
      is = is ∙ ap (λ l. prepend_known l rest) whole;
    }
