-- The first place of what is beyond level two, and a pair in which nothing is.
use Rattle.std.proofs.Common.{◌≡◌, ℕ, zero, suc, ◌+◌, ◌<◌, ◌≤◌, List, [], ◌∷◌, ◌++◌, map, length, get_or, take, drop, refl, subst, sym, ap, ◌∙◌, arith, add-one, append_assoc}
use Rattle.std.specs.List.{flat_map}
use Rattle.plus_model.specs.Terms.{Problem}
use Rattle.plus_tree.specs.declared.trees.Schema.{Schema}
use Rattle.plus_tree.specs.declared.trees.Domain.{Domain}
use Rattle.plus_tree.specs.declared.trees.Init.{Init}
use Rattle.plus_tree.specs.declared.trees.Init.TheVariants.{Holds, Absent, Value, At, AtNot}
use Rattle.plus_tree.specs.declared.trees.Problem as tree
use Rattle.plus_types.specs.Faults.{Context, problem_context}
use Rattle.plus_expansion.specs.Expansion.{timed_by, by_time, timed_meant, instances_of, process_meant, event_meant, expanded}
use Rattle.plus_numeric.specs.declared.level.Place.{Place}
use Rattle.plus_numeric.specs.Level.{schema_place, literal_places, beyond_level_two}

pub first_place : (xs : List Schema) (x : Schema) → 1 ≤ length xs → x ≡ get_or xs 0 x → (more : List Place) × (map schema_place xs ≡ schema_place x ∷ more)
first_place [] x l e = absurd (omega arith)
first_place (y ∷ ys) x l e = (map schema_place ys, ap (λ z. schema_place z ∷ map schema_place ys) (sym e))

-- the first with a place
pub literal_first : (xs : List Init) (x : Init) (place : Place) (i : ℕ) → flat_map literal_places (take i xs) ≡ [] → i < length xs → x ≡ get_or xs i x → literal_places x ≡ place ∷ [] → (more : List Place) × (flat_map literal_places xs ≡ place ∷ more)
literal_first [] x place i e l g n = absurd (omega arith)
literal_first (y ∷ ys) x place zero e l g n = (flat_map literal_places ys, ap (λ z. literal_places z ++ flat_map literal_places ys) (sym g) ∙ ap (λ ps. ps ++ flat_map literal_places ys) n)
literal_first (y ∷ ys) x place (suc i) e l g n =
    let here : literal_places y ≡ [] = left_nil (literal_places y) (flat_map literal_places (take i ys)) e in
    let more = literal_first ys x place i (ap (λ ps. ps ++ flat_map literal_places (take i ys)) (sym here) ∙ e) (omega arith) g n in
    (more.0, ap (λ ps. ps ++ flat_map literal_places ys) here ∙ more.1)
  where
    left_nil : (xs bs : List Place) → xs ++ bs ≡ [] → xs ≡ []
    left_nil [] bs h = refl
    left_nil (a ∷ xs) bs h = cc h

-- ---- nothing is beyond level two

nil_left : {A : Type 0} (xs bs : List A) → xs ++ bs ≡ [] → xs ≡ []
nil_left [] bs h = refl
nil_left (a ∷ xs) bs h = cc h

nil_right : {A : Type 0} (xs bs : List A) → xs ++ bs ≡ [] → bs ≡ []
nil_right [] bs h = h
nil_right (a ∷ xs) bs h = cc h

pub nil_map : {A B : Type 0} (f : A → B) (xs : List A) → map f xs ≡ [] → xs ≡ []
nil_map f [] h = refl
nil_map f (x ∷ xs) h = cc h

none_timed : (c : Context) (x : Init) → literal_places x ≡ [] → timed_by c x ≡ []
none_timed c (Holds u) h = refl
none_timed c (Absent u s) h = refl
none_timed c (Value u n s) h = refl
none_timed c (At t u s) h = cc h
none_timed c (AtNot t u s) h = cc h

no_timed : (c : Context) (xs : List Init) → flat_map literal_places xs ≡ [] → flat_map (timed_by c) xs ≡ []
no_timed c [] h = refl
no_timed c (x ∷ xs) h =
    ap (λ ts. ts ++ flat_map (timed_by c) xs) (none_timed c x (nil_left (literal_places x) (flat_map literal_places xs) h))
    ∙ no_timed c xs (nil_right (literal_places x) (flat_map literal_places xs) h)

module _ (d : Domain) (p : tree.Problem) (h : beyond_level_two d p ≡ []) where
  behind : map schema_place d.events ++ flat_map literal_places p.init ≡ []
  behind = nil_right (map schema_place d.processes) (map schema_place d.events ++ flat_map literal_places p.init) h

  pub no_processes : (expanded d p).processes ≡ []
  no_processes =
      ap (instances_of (problem_context d p) (process_meant (problem_context d p)))
      (nil_map schema_place d.processes (nil_left (map schema_place d.processes) (map schema_place d.events ++ flat_map literal_places p.init) h))

  pub no_events : (expanded d p).events ≡ []
  no_events =
      ap (instances_of (problem_context d p) (event_meant (problem_context d p)))
      (nil_map schema_place d.events (nil_left (map schema_place d.events) (flat_map literal_places p.init) behind))

  pub no_literals : (expanded d p).timed ≡ []
  no_literals = ap by_time (no_timed (problem_context d p) p.init (nil_right (map schema_place d.events) (flat_map literal_places p.init) behind))

-- ---- the first of three lists

pub first_of_all : (xs ys zs : List Place) (place : Place) → (more : List Place) × (xs ≡ place ∷ more) → (more : List Place) × (xs ++ (ys ++ zs) ≡ place ∷ more)
first_of_all xs ys zs place h = (h.0 ++ (ys ++ zs), ap (λ ps. ps ++ (ys ++ zs)) h.1)

pub first_of_later : (xs ys zs : List Place) (place : Place) → xs ≡ [] → (more : List Place) × (ys ≡ place ∷ more) → (more : List Place) × (xs ++ (ys ++ zs) ≡ place ∷ more)
first_of_later xs ys zs place n h = (h.0 ++ zs, ap (λ ps. ps ++ (ys ++ zs)) n ∙ ap (λ ps. ps ++ zs) h.1)
