-- Lines up to a `quit`.
use Rattle.std.proofs.Common.{◌≡◌, ◌∷◌, ◌++◌, ℕ, List, [], Bool, true, false, ◌||◌, cond, refl, sym, ◌∙◌, ap, append-nil}
use Rattle.std.proofs.lemmas.Bool.{or_parts}
use Rattle.std.proofs.lemmas.List.Folds.{list_any-append}
use Rattle.desk_session.specs.Events.{is_quit, quits, up_to_quit}

quit_step : (line : List ℕ) (lines ys : List (List ℕ)) (t : Bool) → is_quit line ≡ t → quits (line ∷ lines) ≡ false → (quits lines ≡ false → up_to_quit (lines ++ ys) ≡ lines ++ up_to_quit ys)
    → up_to_quit (line ∷ lines ++ ys) ≡ line ∷ lines ++ up_to_quit ys
quit_step line lines ys true is none before = absurd (let clash = sym is ∙ (or_parts (is_quit line) (quits lines) none).0 in cc)
quit_step line lines ys false is none before = rw is (ap (λ l. line ∷ l) (before (or_parts (is_quit line) (quits lines) none).1))

-- where none of the first lines is a quit, all of them come before the others
pub up_more : (xs ys : List (List ℕ)) → quits xs ≡ false → up_to_quit (xs ++ ys) ≡ xs ++ up_to_quit ys
up_more [] ys none = refl
up_more (x ∷ xs) ys none = quit_step x xs ys (is_quit x) refl none (up_more xs ys)

pub up_all : (xs : List (List ℕ)) → quits xs ≡ false → up_to_quit xs ≡ xs
up_all xs none = ap up_to_quit (sym (append-nil xs)) ∙ up_more xs [] none ∙ append-nil xs

one_step : (line : List ℕ) (t : Bool) → cond t (line ∷ []) (line ∷ []) ≡ line ∷ []
one_step line true = refl
one_step line false = refl

up_one : (line : List ℕ) → up_to_quit (line ∷ []) ≡ line ∷ []
up_one line = one_step line (is_quit line)

-- one line more
pub up_next : (xs : List (List ℕ)) (line : List ℕ) → quits xs ≡ false → up_to_quit (xs ++ line ∷ []) ≡ up_to_quit xs ++ line ∷ []
up_next xs line none = up_more xs (line ∷ []) none ∙ ap (λ l. xs ++ l) (up_one line) ∙ ap (λ l. l ++ line ∷ []) (sym (up_all xs none))

-- whatever follows only adds lines, and none behind a quit
pub record IsWider (xs ys : List (List ℕ)) : Type 0 where
  pub more : List (List ℕ)
  pub is : up_to_quit (xs ++ ys) ≡ up_to_quit xs ++ more
  pub none : quits xs ≡ true → more ≡ []

wider_step : (x : List ℕ) (xs ys : List (List ℕ)) (t : Bool) → is_quit x ≡ t → IsWider xs ys → IsWider (x ∷ xs) ys
wider_step x xs ys true is w = record { more = []; is = rw is refl; none = λ q. refl }
wider_step x xs ys false is w = record {
  more = w.more;
  is = rw is (ap (λ l. x ∷ l) w.is);
  none = λ q. w.none (sym (ap (λ b. b || quits xs) is) ∙ q);
}

pub wider : (xs ys : List (List ℕ)) → IsWider xs ys
wider [] ys = record { more = up_to_quit ys; is = refl; none = λ q. absurd cc }
wider (x ∷ xs) ys = wider_step x xs ys (is_quit x) refl (wider xs ys)

pub quits_next : (xs : List (List ℕ)) (line : List ℕ) (t : Bool) → quits xs ≡ false → is_quit line ≡ t → quits (xs ++ line ∷ []) ≡ t
quits_next xs line t none is = list_any-append is_quit xs (line ∷ []) ∙ ap (λ b. b || quits (line ∷ [])) none ∙ ap (λ b. b || false) is ∙ or_false t
  where
    or_false : (b : Bool) → (b || false) ≡ b
    or_false true = refl
    or_false false = refl

-- a quit among the first is one among all
pub quits_more : (xs ys : List (List ℕ)) → quits xs ≡ true → quits (xs ++ ys) ≡ true
quits_more xs ys q = list_any-append is_quit xs ys ∙ ap (λ b. b || quits ys) q
