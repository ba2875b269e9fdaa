-- The bytes of stamps.
use Rattle.std.proofs.Common.{◌≡◌, ℕ, true, slice_index_or, refl, arith}
use Rattle.std.specs.List.{list_all}
use Rattle.std.proofs.lemmas.Bool.{ne_eqb}
use Rattle.std.proofs.lemmas.List.Sums.{list_all-from_AllPass}
use Rattle.aes_chain.specs.Laws.{AreBytes}
use Rattle.civil_time.specs.Stamp.{stamp, IsMoment}
use Rattle.civil_time.specs.Laws.{IsStampByte}
use Rattle.civil_time.proofs.StampLemmas.{stamp-plain}
use Rattle.dc09_frame.specs.Frames.{is_clean}

pub stamp_bytes : (t : ℕ) → IsMoment t → AreBytes (stamp t)
stamp_bytes t moment = λ k d lt. let plain = stamp-plain t moment k d lt in omega (arith, plain.0)

byte_clean : (b : ℕ) → IsStampByte b → is_clean b ≡ true
byte_clean b plain = rw (ne_eqb b 10 (λ is. omega (arith, plain.0)), ne_eqb b 13 (λ is. omega (arith, plain.0))) refl

-- a stamp has neither a line feed nor a carriage return, as the NAK reply asks
pub stamp_clean : (t : ℕ) → IsMoment t → list_all is_clean (stamp t) ≡ true
stamp_clean t moment = list_all-from_AllPass is_clean (stamp t) (λ k d lt. byte_clean (slice_index_or (stamp t) k d) (stamp-plain t moment k d lt))
