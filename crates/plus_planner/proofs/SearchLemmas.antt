-- From the answers of the search over any tree to those of a search on a grid.
use Rattle.std.proofs.Common.{◌≡◌, ◌≢◌, inl, inr, ℕ, zero, suc, ◌<◌, ◌≤◌, List, [], ◌∷◌, ◌++◌, length, refl, ap, sym, subst, arith}
use Rattle.std.specs.Prelude.{false, true}
use Rattle.plus_fraction.specs.Fraction.{Fraction}
use Rattle.plus_search.specs.Tree.{Tree, IsTree, below, IsPlan, Throughout, Uncut, IsBeyond, GoesOn, IsTried}
use Rattle.plus_search.specs.Lists.{Number, MoreThan}
use Rattle.plus_planner.specs.Grid.{Task, GridPlan}
use Rattle.plus_planner.specs.Places.{no_cut, uncut}
use Rattle.plus_planner.specs.Searches.{CountsBeyond, MayBeTried}
use Rattle.plus_planner.proofs.Growing.{grid_is_tree}

-- ---- numbers of lists

number_map : {X : Type 0} (P Q : X → Type 0) (n : ℕ) → ((x : X) → P x → Q x) → ((x : X) → Q x → P x) → Number P n → Number Q n
number_map P Q n f g h = record {
  all = h.all;
  differ = h.differ;
  members = λ x. ((λ i. f x ((h.members x).0 i)), (λ q. (h.members x).1 (g x q)));
  size = h.size;
}

more_map : {X : Type 0} (P Q : X → Type 0) (n : ℕ) → ((x : X) → P x → Q x) → MoreThan P n → MoreThan Q n
more_map P Q n f h = (h.0, h.1, record { some = h.2.some; differ = h.2.differ; members = λ x i. f x (h.2.members x i); size = h.2.size })

-- ---- the tree without a cut

no_yes : {A : Type 0} → false ≡ true → A
no_yes e = cc e

pub uncut_is_tree : (fits : Fraction → Type 0) (task : Task) → IsTree (uncut fits task)
uncut_is_tree fits task = grid_is_tree fits task no_cut (λ s m e ds es a b p. no_yes e)

-- the cut of a tree says nothing
abbrev NeverBarren : Tree → Type 0
NeverBarren T = (ds : List ℕ) (k : ℕ) → T.Barren ds k → ⊥

never : (fits : Fraction → Type 0) (task : Task) → NeverBarren (uncut fits task)
never fits task ds k b = no_yes b.2

short_of : (Q : Tree → ℕ → Type 0) (T : Tree) (k : ℕ) (ds : List ℕ) → Throughout Q T k ds → length ds ≤ k
short_of Q T k [] h = omega arith
short_of Q T zero (d ∷ ds) h = absurd h
short_of Q T (suc k) (d ∷ ds) h = (let l = short_of Q (below T d) k ds h.2 in omega arith)

throughout_all : (T : Tree) (k : ℕ) (ds : List ℕ) → NeverBarren T → ((ps qs : List ℕ) (d : ℕ) → ds ≡ ps ++ d ∷ qs → d < T.width) → length ds ≤ k → Throughout Uncut T k ds
throughout_all T k [] n w l = tt
throughout_all T zero (d ∷ ds) n w l = absurd (omega arith)
throughout_all T (suc k) (d ∷ ds) n w l =
    (n [] (suc k), w [] ds d refl, throughout_all (below T d) k ds (λ es m. n (d ∷ es) m) (λ ps qs e f. w (d ∷ ps) qs e (ap (λ z. d ∷ z) f)) (omega arith))

goes_at : (T : Tree) (k : ℕ) (ds : List ℕ) → Throughout GoesOn T k ds → (ps qs : List ℕ) → qs ≢ [] → ds ≡ ps ++ qs → T.Alive ps × (T.Reached ps → ⊥)
goes_at T k [] h [] qs n e = absurd (n (sym e))
goes_at T k [] h (p ∷ ps) qs n e = cc e
goes_at T zero (d ∷ ds) h ps qs n e = absurd h
goes_at T (suc k) (d ∷ ds) h [] qs n e = (h.0.alive, h.0.missed)
goes_at T (suc k) (d ∷ ds) h (p ∷ ps) qs n e =
    let same : d ≡ p = cc e in
    let rest : ds ≡ ps ++ qs = cc e in
    let r = goes_at (below T d) k ds h.2 ps qs n rest in
    subst (λ x. T.Alive (x ∷ ps) × (T.Reached (x ∷ ps) → ⊥)) same r

within_at : (Q : Tree → ℕ → Type 0) (T : Tree) (k : ℕ) (ds : List ℕ) → Throughout Q T k ds → (ps qs : List ℕ) (d : ℕ) → ds ≡ ps ++ d ∷ qs → d < T.width
within_at Q T k [] h [] qs d e = cc e
within_at Q T k [] h (p ∷ ps) qs d e = cc e
within_at Q T zero (x ∷ ds) h ps qs d e = absurd h
within_at Q T (suc k) (x ∷ ds) h [] qs d e = (let same : x ≡ d = cc e in subst (λ z. z < T.width) same h.1)
within_at Q T (suc k) (x ∷ ds) h (p ∷ ps) qs d e = (let rest : ds ≡ ps ++ d ∷ qs = cc e in within_at Q (below T x) k ds h.2 ps qs d rest)

module _ (fits : Fraction → Type 0) (task : Task) (k : ℕ) where
  pub plan_is : (ds : List ℕ) → IsPlan (uncut fits task) k ds → GridPlan fits task k ds
  plan_is ds p = record { short = p.short; alive = p.alive; goal = p.reached }

  is_plan : (ds : List ℕ) → GridPlan fits task k ds → IsPlan (uncut fits task) k ds
  is_plan ds p = record { short = p.short; alive = p.alive; reached = p.goal }

  pub no_plan : ((ds : List ℕ) → IsPlan (uncut fits task) k ds → ⊥) → (ds : List ℕ) → GridPlan fits task k ds → ⊥
  no_plan h ds p = h ds (is_plan ds p)

  beyond_is : (ds : List ℕ) → IsBeyond (uncut fits task) k ds → CountsBeyond fits task k ds
  beyond_is ds b = record { short = short_of Uncut (uncut fits task) k ds b.0; beyond = b.1 }

  is_beyond : (ds : List ℕ) → CountsBeyond fits task k ds → IsBeyond (uncut fits task) k ds
  is_beyond ds c = (
    throughout_all (uncut fits task) k ds (never fits task) (elim c.beyond [ inl b ↦ b.within | inr a ↦ a.0.within ]) c.short,
    c.beyond,
  )

  pub beyond_number : (n : ℕ) → Number (IsBeyond (uncut fits task) k) n → Number (CountsBeyond fits task k) n
  beyond_number n h = number_map (IsBeyond (uncut fits task) k) (CountsBeyond fits task k) n beyond_is is_beyond h

  tried_is : (ds : List ℕ) → IsTried (uncut fits task) k ds → MayBeTried fits task k ds
  tried_is [] t = absurd t
  tried_is (d ∷ ds) t = record {
    some = λ e. (let f = e in cc);
    short = short_of GoesOn (uncut fits task) k (d ∷ ds) t;
    within = within_at GoesOn (uncut fits task) k (d ∷ ds) t;
    goes = goes_at (uncut fits task) k (d ∷ ds) t;
  }

  pub more_tried : (n : ℕ) → MoreThan (IsTried (uncut fits task) k) n → MoreThan (MayBeTried fits task k) n
  more_tried n h = more_map (IsTried (uncut fits task) k) (MayBeTried fits task k) n tried_is h
