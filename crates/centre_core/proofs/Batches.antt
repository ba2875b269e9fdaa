-- What stays a batch.
use Rattle.std.proofs.Common.{◌≡◌, ◌<◌, ◌+◌, ℕ, List, [], ◌∷◌, ◌++◌, Bool, true, false, length, sym, subst, arith, length-append}
use Rattle.std.specs.Prelude.{if◌then◌else◌}
use Rattle.std.proofs.lemmas.List.Elements.{All-append, All-nil}
use Rattle.centre_core.specs.declared.batch.Submission.{Submission}
use Rattle.centre_core.specs.Batches.{MayBeSubmitted, IsBatch}

pub batch_none : IsBatch []
batch_none = record { few = omega arith; each = All-nil MayBeSubmitted }

-- with one more, or as it was where there was no memory
pub batch_pushed : (t : Bool) (calls after : List Submission) (call : Submission) → IsBatch calls → MayBeSubmitted call → length calls < 64
    → after ≡ (if t then calls ++ call ∷ [] else calls) → IsBatch after
batch_pushed true calls after call batch may few is = subst IsBatch (sym is) (record {
  few = omega (arith, few, length-append calls (call ∷ []));
  each = All-append MayBeSubmitted calls (call ∷ []) batch.each (λ k d at. let first : k ≡ 0 = omega arith in rw first may);
})
batch_pushed false calls after call batch may few is = subst IsBatch (sym is) batch
