-- The first of statuses that stand in several lists.
use Rattle.std.proofs.Common.{◌≡◌, ◌<◌, ◌+◌, ℕ, List, [], ◌∷◌, ◌++◌, length, drop, slice_index_or, Option, Some, None, Ok, refl, sym, ap, ◌∙◌}
use Rattle.std.proofs.lemmas.List.{at_drop_more, append_assoc}
use Rattle.std.specs.List.{flat_map}
use Rattle.std.specs.Option.{option_or, unwrap_or, option_to_list}
use Rattle.arc_serving.specs.Seen.{CameSeen}
use Rattle.arc_serving.specs.declared.working.Worked.{Worked}
use Rattle.centre_core.specs.declared.hall.Stop.{Stop}
use Rattle.arc_server.specs.Servings.{front_of, first_of, stop_in, stops_in, met_by, full_in, worn_in, door_faults_in, where_so, was_refused}
use Rattle.arc_server.specs.declared.status.Status.{Status}
use Rattle.arc_server.specs.declared.status.Status.TheVariants.{Done, Memory as NoMemory}

-- of two
pub front_both : (xs ys : List Status) → front_of (xs ++ ys) ≡ option_or (front_of xs) (front_of ys)
front_both [] ys = refl
front_both (x ∷ xs) ys = refl

flat_append : {A B : Type 0} (f : A → List B) (xs ys : List A) → flat_map f (xs ++ ys) ≡ flat_map f xs ++ flat_map f ys
flat_append f [] ys = refl
flat_append f (x ∷ xs) ys = ap (λ l. f x ++ l) (flat_append f xs ys) ∙ sym (append_assoc (f x) (flat_map f xs) (flat_map f ys))

flat_flat : {A B C : Type 0} (g : B → List C) (f : A → List B) (xs : List A) → flat_map g (flat_map f xs) ≡ flat_map (λ x. flat_map g (f x)) xs
flat_flat g f [] = refl
flat_flat g f (x ∷ xs) = flat_append g (f x) (flat_map f xs) ∙ ap (λ l. flat_map g (f x) ++ l) (flat_flat g f xs)

-- of what is left of a list
pub front_next : {A : Type 0} (f : A → List Status) (xs : List A) (i : ℕ) (d : A) → i < length xs
    → front_of (flat_map f (drop i xs)) ≡ option_or (front_of (f (slice_index_or xs i d))) (front_of (flat_map f (drop (i + 1) xs)))
front_next f xs i d lt =
    at_drop_more (λ l. front_of (flat_map f l)) xs i d lt ∙ front_both (f (slice_index_or xs i d)) (flat_map f (drop (i + 1) xs))

or_both : {A : Type 0} (x y z : Option A) → option_or x (option_or y z) ≡ option_or (option_or x y) z
or_both None y z = refl
or_both (Some a) y z = refl

-- of all stops
pub front_of_stops : (f : Stop → List Status) (came : CameSeen)
    → front_of (flat_map f (stops_in came))
    ≡ option_or (option_or (front_of (flat_map (λ (w : Worked). flat_map f (stop_in w.end)) came.lines)) (front_of (flat_map (λ (w : Worked). flat_map f (stop_in w.end)) came.desks)))
    (front_of (flat_map f (option_to_list came.ticked.stop)))
front_of_stops f came =
    let of : Worked → List Stop = λ w. stop_in w.end in
    let lines = flat_map of came.lines in
    let desks = flat_map of came.desks in
    let ticker = option_to_list came.ticked.stop in
    ap front_of (flat_append f lines (desks ++ ticker) ∙ ap (λ l. flat_map f lines ++ l) (flat_append f desks ticker))
    ∙ front_both (flat_map f lines) (flat_map f desks ++ flat_map f ticker)
    ∙ ap (λ o. option_or (front_of (flat_map f lines)) o) (front_both (flat_map f desks) (flat_map f ticker))
    ∙ or_both (front_of (flat_map f lines)) (front_of (flat_map f desks)) (front_of (flat_map f ticker))
    ∙ ap (λ l. option_or (option_or (front_of l) (front_of (flat_map f desks))) (front_of (flat_map f ticker))) (flat_flat f of came.lines)
    ∙ ap (λ l. option_or (option_or (front_of (flat_map (λ w. flat_map f (of w)) came.lines)) (front_of l)) (front_of (flat_map f ticker))) (flat_flat f of came.desks)

first_front : (xs : List Status) → first_of xs ≡ unwrap_or (front_of xs) Done
first_front [] = refl
first_front (x ∷ xs) = refl

front_three : (a b c : List Status) → front_of (a ++ (b ++ c)) ≡ option_or (option_or (front_of a) (front_of b)) (front_of c)
front_three [] [] c = refl
front_three [] (x ∷ b) c = refl
front_three (x ∷ a) b c = refl

front_five : (a b c d e : List Status) → front_of (a ++ (b ++ (c ++ (d ++ e))))
    ≡ option_or (option_or (option_or (option_or (front_of a) (front_of b)) (front_of c)) (front_of d)) (front_of e)
front_five [] [] c d e = front_three c d e
front_five [] (x ∷ b) c d e = refl
front_five (x ∷ a) b c d e = refl

-- of all that callers met
pub first_met : (came : CameSeen) (unwritten : List Status) → first_of (met_by (Ok came) unwritten)
    ≡ unwrap_or (option_or (option_or (option_or (option_or (front_of (flat_map full_in (stops_in came))) (front_of (flat_map worn_in (stops_in came))))
    (front_of (door_faults_in came))) (front_of unwritten)) (front_of (where_so (was_refused came) NoMemory))) Done
first_met came unwritten =
    first_front (met_by (Ok came) unwritten)
    ∙ ap (λ o. unwrap_or o Done) (front_five (flat_map full_in (stops_in came)) (flat_map worn_in (stops_in came)) (door_faults_in came) unwritten (where_so (was_refused came) NoMemory))
