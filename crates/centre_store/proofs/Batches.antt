-- What stays a batch.
use Rattle.std.proofs.Common.{ℕ, List, drop, arith}
use Rattle.std.proofs.lemmas.List.{length-drop}
use Rattle.std.proofs.lemmas.List.Elements.{All-drop}
use Rattle.centre_store.specs.Calls.{Submission}
use Rattle.centre_store.specs.Groups.{MayBeSubmitted, IsBatch}

pub batch_rest : (n : ℕ) (calls : List Submission) → IsBatch calls → IsBatch (drop n calls)
batch_rest n calls batch = record { few = omega (arith, batch.few, length-drop n calls); each = All-drop MayBeSubmitted n calls batch.each }
