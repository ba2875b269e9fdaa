-- What lines say, by their letters.
use Rattle.std.proofs.Common.{◌≡◌, ℕ, ◌<◌, ◌^◌, List, ◌∷◌, ◌++◌, true, false, eqb, refl, sym, ap, subst, ◌∙◌, arith}
use Rattle.std.specs.Prelude.{decimal, codes, None}
use Rattle.std.proofs.lemmas.Bool.{eq-eqb}
use Rattle.std.proofs.lemmas.Fmt.{decimal_injective}
use Rattle.arc_data.specs.declared.event.Token.{Token}
use Rattle.arc_data.specs.declared.event.Token.TheVariants.{SiaDcs, AdmCid}
use Rattle.panel_rules.specs.Panels.{Happening, Queue, Step, Hear, token_bytes}
use Rattle.arc_panel.specs.Lines.{Says}
use Rattle.arc_panel.specs.Reading.{IsReadAs}

-- what begins with one byte does not begin with another
pub other_letter : (b c : ℕ) (s t : List ℕ) → eqb b c ≡ false → b ∷ s ≡ c ∷ t → ⊥
other_letter b c s t apart same =
    let alike : b ≡ c = cc in
    let equal : eqb b c ≡ true = eq-eqb b c alike in
    absurd (let bad = sym apart ∙ equal in cc)

tail_is : (b c : ℕ) (s t : List ℕ) → b ∷ s ≡ c ∷ t → s ≡ t
tail_is b c s t same = cc

behind : (b : ℕ) (s t : List ℕ) → b ∷ 32 ∷ s ≡ b ∷ 32 ∷ t → s ≡ t
behind b s t same = tail_is 32 32 s t (tail_is b b (32 ∷ s) (32 ∷ t) same)

behind_token : (a b c d e f g : ℕ) (s t : List ℕ) → a ∷ b ∷ c ∷ d ∷ e ∷ f ∷ g ∷ 32 ∷ s ≡ a ∷ b ∷ c ∷ d ∷ e ∷ f ∷ g ∷ 32 ∷ t → s ≡ t
behind_token a b c d e f g s t same = cc

same_data : (token other : Token) (s t : List ℕ) → token_bytes token ++ 32 ∷ s ≡ token_bytes other ++ 32 ∷ t → Queue token s ≡ Queue other t
same_data SiaDcs SiaDcs s t same = ap (Queue SiaDcs) (behind_token 83 73 65 45 68 67 83 s t same)
same_data AdmCid AdmCid s t same = ap (Queue AdmCid) (behind_token 65 68 77 45 67 73 68 s t same)
same_data SiaDcs AdmCid s t same = absurd (other_letter 83 65 _ _ refl same)
same_data AdmCid SiaDcs s t same = absurd (other_letter 65 83 _ _ refl same)

pub one_meaning : (line : List ℕ) (x other : Happening) → Says line x → Says line other → x ≡ other
one_meaning line (Step m) (Step n) one two = ap Step (decimal_injective m n (omega (arith, one.ranges)) (omega (arith, two.ranges)) (behind 84 _ _ (sym one.spelled ∙ two.spelled)))
one_meaning line (Step m) (Queue token t) one two = absurd (other_letter 84 69 _ _ refl (sym one.spelled ∙ two.spelled))
one_meaning line (Step m) (Hear t) one two = absurd (other_letter 84 82 _ _ refl (sym one.spelled ∙ two.spelled))
one_meaning line (Queue token s) (Queue other t) one two = same_data token other s t (behind 69 _ _ (sym one.spelled ∙ two.spelled))
one_meaning line (Queue token s) (Step n) one two = absurd (other_letter 69 84 _ _ refl (sym one.spelled ∙ two.spelled))
one_meaning line (Queue token s) (Hear t) one two = absurd (other_letter 69 82 _ _ refl (sym one.spelled ∙ two.spelled))
one_meaning line (Hear s) (Hear t) one two = ap Hear (behind 82 s t (sym one.spelled ∙ two.spelled))
one_meaning line (Hear s) (Step n) one two = absurd (other_letter 82 84 _ _ refl (sym one.spelled ∙ two.spelled))
one_meaning line (Hear s) (Queue token t) one two = absurd (other_letter 82 69 _ _ refl (sym one.spelled ∙ two.spelled))

-- a moment out of its range
pub no_step : (rest : List ℕ) (m : ℕ) → rest ≡ decimal m → m < 2 ^ 64 → (m < 253_402_300_800 → ⊥) → IsReadAs (codes "T " ++ rest) None
no_step rest m is small late (Step n) says =
    let same : rest ≡ decimal n = behind 84 _ _ says.spelled in
    let number : n ≡ m = decimal_injective n m (omega (arith, says.ranges)) small (sym same ∙ is) in
    late (subst (λ k. k < 253_402_300_800) number says.ranges)
no_step rest m is small late (Queue token t) says = absurd (other_letter 84 69 _ _ refl says.spelled)
no_step rest m is small late (Hear t) says = absurd (other_letter 84 82 _ _ refl says.spelled)
