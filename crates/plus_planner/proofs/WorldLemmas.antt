-- What a walk over a ground problem tells the search.
use Rattle.std.proofs.Common.{◌≡◌, ℕ, suc, ◌<◌, true, false, List, [], ◌∷◌, ◌++◌, length, take, refl, ap, sym, subst, ◌∙◌, append_assoc, arith}
use Rattle.std.specs.Prelude.{◌↔◌, Option, Some, None, IsSome, Result, Ok, Err, IfOk, OnOk}
use Rattle.plus_fraction.specs.Fraction.{Fraction}
use Rattle.plus_model.specs.Terms.{State}
use Rattle.plus_search.specs.declared.spaces.Fate.{Fate}
use Rattle.plus_search.specs.Told.{FateIs, path_after}
use Rattle.plus_state.specs.Fits.{StateFits}
use Rattle.plus_timeline.specs.Timeline.{TimelineView}
use Rattle.plus_search.specs.declared.spaces.Fate.TheVariants.{Alive}
use Rattle.plus_planner.specs.declared.places.Taken.{Taken}
use Rattle.plus_planner.specs.declared.places.Tried.{Tried}
use Rattle.plus_planner.specs.Grid.{Task, EndsIn}
use Rattle.plus_planner.specs.Places.{StandsAt, StandFrom, path_of, now_in, StandsBehind, uncut, no_cut, Walks}
use Rattle.plus_planner.specs.Tried.{AllReturn, IsFoundAt, Returns, Keeps}
use Rattle.plus_planner.specs.Worlds.{Stands}
use Rattle.plus_planner.proofs.PlaceLemmas.{map-snoc, now_stands, pop_stands, taken_again}
use Rattle.plus_planner.proofs.TriedLemmas.{return_at, return_others, return_after, return_back, whole_path}

-- ---- what a step tells

module _ {Q E : Type 0} (fits : Fraction → Type 0) (task : Task) (start start' : TimelineView) (taken taken' : List (Taken Q)) (d : ℕ) where
  pub walk_told : (r : Result Fate E) → IfOk r (Walks fits task start start' taken taken' d) → IfOk r (λ fate. FateIs (uncut fits task) (path_of taken ++ d ∷ []) fate)
  walk_told (Err e) h = tt
  walk_told (Ok fate) h = h.told

  pub walk_path : (r : Result Fate E) → IfOk r (Walks fits task start start' taken taken' d) → IfOk r (λ fate. path_of taken' ≡ path_after fate (path_of taken) d)
  walk_path (Err e) h = tt
  walk_path (Ok fate) h = h.path

  pub walk_stands : (tried tried' : List (Tried Q)) → Stands fits task start taken tried → (r : Result Fate E) → IfOk r (Walks fits task start start' taken taken' d) → OnOk r (tried' ≡ tried) → OnOk r (Stands fits task start' taken' tried')
  walk_stands tried tried' s (Err e) h k = tt
  walk_stands tried tried' s (Ok fate) h k =
      record {
        behind = h.stands;
        returns = subst (AllReturn fits task (path_of taken')) (sym k)
            (subst (λ ds. AllReturn fits task ds tried) (sym h.path) (return_after fits task (path_of taken) d fate tried s.returns));
        tree = s.tree;
      }

-- ---- what a decision tells that is taken again

module _ {Q : Type 0} (fits : Fraction → Type 0) (task : Task) (start start' : TimelineView) (taken taken' : List (Taken Q)) (tried tried' : List (Tried Q)) (s : Stands fits task start taken tried) (e : start' ≡ start) where
  pub again_walks : (i d : ℕ) → d < suc (length task.actions) → IsFoundAt (length taken) d tried i → Returns i taken tried taken' tried' → Walks fits task start start' taken taken' d Alive
  again_walks i d w f r =
      let x = f.tried.taken in
      let same : r.tried ≡ f.tried = (let k : Some r.tried ≡ Some f.tried = sym r.stands ∙ f.stands in cc k) in
      let stands : StandsAt fits task (path_of taken ++ x.decision ∷ []) x.timeline =
      subst (λ ds. StandsAt fits task (ds ++ x.decision ∷ []) x.timeline) (ap (λ n. take n (path_of taken)) f.before ∙ whole_path taken)
      (return_at fits task (path_of taken) tried i f.tried s.returns f.stands).stands in
      subst (λ z. Walks fits task start z taken taken' d Alive) (sym e)
      (subst (λ z. Walks fits task start start taken z d Alive) (sym (r.taken_is ∙ ap (λ (t : Tried Q). taken ++ t.taken ∷ []) same))
      (subst (λ n. Walks fits task start start taken (taken ++ x ∷ []) n Alive) f.decision
      (taken_again fits task start taken s.behind x (subst (λ n. n < suc (length task.actions)) (sym f.decision) w) stands)))

  pub again_stands : (i d : ℕ) → d < suc (length task.actions) → IsFoundAt (length taken) d tried i → Returns i taken tried taken' tried' → Stands fits task start' taken' tried'
  again_stands i d w f r =
      let k = again_walks i d w f r in
      record {
        behind = k.stands;
        returns = subst (λ ds. AllReturn fits task ds tried') (sym k.path)
            (return_after fits task (path_of taken) d Alive tried'
            (subst (AllReturn fits task (path_of taken)) (sym r.others) (return_others fits task (path_of taken) i tried s.returns)));
        tree = s.tree;
      }

-- ---- the state where a walk stands

module _ {Q : Type 0} (fits : Fraction → Type 0) (task : Task) (start : TimelineView) (taken : List (Taken Q)) (b : StandsBehind fits task start taken) where
  pub ends_in : (s : State) → s ≡ (now_in start taken).now.state → EndsIn fits task (path_of taken) s
  ends_in s e = (let t = now_stands fits task start taken b in record { history = t.history; plays = t.plays; state = e ∙ ap (λ v. v.state) t.now })

  pub state_fits : (t : TimelineView) (s : State) → t ≡ now_in start taken → StateFits t.atoms t.fluents s → StateFits task.problem.atoms task.problem.fluents s
  state_fits t s e f =
      let k = (now_stands fits task start taken b).can.knows in
      record { atoms_fit = f.atoms_fit ∙ ap (λ v. v.atoms) e ∙ k.atoms; fluents_fit = f.fluents_fit ∙ ap (λ v. v.fluents) e ∙ k.fluents }

  pub never_yes : (k : ℕ) → ((s : State) × EndsIn fits task (path_of taken) s × (no_cut s k ≡ true)) → ⊥
  never_yes k h = (let e = h.2 in no e)
    where
      no : false ≡ true → ⊥
      no e = cc e

-- ---- one decision less

pub always : {A E P : Type 0} (r : Result A E) → P → OnOk r P
always (Ok x) h = h
always (Err e) h = tt

pub then : {A E P R : Type 0} (r : Result A E) → (P → R) → OnOk r P → OnOk r R
then (Ok x) f h = f h
then (Err e) f h = tt

last_is : {A : Type 0} (xs ys : List A) (x y : A) → xs ++ x ∷ [] ≡ ys ++ y ∷ [] → xs ≡ ys
last_is [] [] x y e = refl
last_is [] (b ∷ ys) x y e = absurd (nothing ys y (let f : [] ≡ ys ++ y ∷ [] = cc e in f))
  where
    nothing : {A : Type 0} (ys : List A) (y : A) → [] ≡ ys ++ y ∷ [] → ⊥
    nothing [] y e = cc e
    nothing (z ∷ ys) y e = cc e
last_is (a ∷ xs) [] x y e = absurd (nothing xs x (let f : xs ++ x ∷ [] ≡ [] = cc e in f))
  where
    nothing : {A : Type 0} (xs : List A) (x : A) → xs ++ x ∷ [] ≡ [] → ⊥
    nothing [] x e = cc e
    nothing (z ∷ xs) x e = cc e
last_is (a ∷ xs) (b ∷ ys) x y e =
    let same : a ≡ b = cc e in
    let rest : xs ++ x ∷ [] ≡ ys ++ y ∷ [] = cc e in
    ap (λ z. z ∷ xs) same ∙ ap (λ z. b ∷ z) (last_is xs ys x y rest)

module _ {Q : Type 0} (old new : List (Taken Q)) (x : Taken Q) (e : old ≡ new ++ x ∷ []) where
  pub path_back : (ds : List ℕ) (d : ℕ) → path_of old ≡ ds ++ d ∷ [] → path_of new ≡ ds
  path_back ds d f = last_is (path_of new) ds x.decision d (sym (ap path_of e ∙ map-snoc (λ (y : Taken Q). y.decision) new x) ∙ f)

  pub stands_back : (fits : Fraction → Type 0) (task : Task) (start : TimelineView) (tried tried' : List (Tried Q)) → Stands fits task start old tried → Keeps (length new) x tried tried' → Stands fits task start new tried'
  stands_back fits task start tried tried' s k =
      let b = s.behind in
      let p : path_of old ≡ path_of new ++ x.decision ∷ [] = ap path_of e ∙ map-snoc (λ (y : Taken Q). y.decision) new x in
      record {
        behind = record {
          can = b.can;
          first = b.first;
          each = pop_stands fits task [] new x (subst (StandFrom fits task []) e b.each);
          alive = record {
            each = λ ps qs f. b.alive.each ps (qs ++ x.decision ∷ []) (p ∙ ap (λ z. z ++ x.decision ∷ []) f ∙ joined ps qs (x.decision ∷ []));
            within = λ ps qs d f. b.alive.within ps (qs ++ x.decision ∷ []) d (p ∙ ap (λ z. z ++ x.decision ∷ []) f ∙ joined ps (d ∷ qs) (x.decision ∷ []));
          };
        };
        returns = return_back fits task new x tried tried' (b.each new [] x e) (subst (λ ds. AllReturn fits task ds tried) p s.returns) k;
        tree = s.tree;
      }
    where
      joined : (xs ys zs : List ℕ) → (xs ++ ys) ++ zs ≡ xs ++ (ys ++ zs)
      joined xs ys zs = append_assoc xs ys zs

-- where something was decided, something is taken back
pub nothing_popped : {Q : Type 0} (old : List (Taken Q)) (r : Option (Taken Q)) → r ≡ None → (IsSome r ↔ (0 < length old)) → (path_of old ≡ [] → ⊥) → ⊥
nothing_popped [] r e v n = n refl
nothing_popped {Q} (x ∷ xs) None e v n = none (v.1 (more (length xs)))
  where
    more : (n : ℕ) → 0 < suc n
    more n = omega arith

    none : IsSome {T = Taken Q} None → ⊥
    none h = (let k : false ≡ true = h in cc k)
nothing_popped (x ∷ xs) (Some y) e v n = cc e
