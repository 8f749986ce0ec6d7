-- What is told of a history, as it grows by a part.
use Rattle.std.proofs.Common.{◌≡◌, ℕ, suc, List, [], ◌∷◌, ◌++◌, refl, ap, sym, subst, ◌∙◌, append_assoc}
use Rattle.plus_model.specs.Terms.{Problem}
use Rattle.plus_model.specs.Plan.{Plan}
use Rattle.plus_model.specs.History.{Part, Enter, view_after}
use Rattle.plus_model.specs.Trajectory.{Prefix, first_view, view_of}
use Rattle.plus_model.proofs.Paths.{view_from-append}
use Rattle.plus_number.specs.declared.frac.Frac64.{Frac64}
use Rattle.plus_number.specs.Frac.{fraction_of, IsFrac64}
use Rattle.plus_state.specs.Tested as tested
use Rattle.plus_crossing.specs.Asked.{cond_stop_of}
use Rattle.plus_crossing.specs.declared.node.CondStop.{CondStop}
use Rattle.plus_constraints.specs.Constraint.{Constraint}
use Rattle.plus_timeline.proofs.Played.{tail_is}
use Rattle.plus_watch.specs.Asked.{Passes, AllPass, rules_ask}
use Rattle.plus_watcher.specs.Told.{behind, LengthsFit, AreWatched, IsLimited}

-- ---- lists

-- in front of a part of a history with one more stands that history, or less
data Split (h g : List Part) (x y : Part) : Type 0 where
  at_end : g ≡ h → y ≡ x → Split h g x y
  inside : (rest : List Part) → h ≡ g ++ y ∷ rest → Split h g x y

some_stand : (g rest : List Part) (y : Part) → g ++ y ∷ rest ≡ [] → ⊥
some_stand [] rest y e = cc e
some_stand (z ∷ g) rest y e = cc e

pub front_is : (x y : Part) (xs ys : List Part) → x ∷ xs ≡ y ∷ ys → x ≡ y
front_is x y xs ys e = cc e

split : (h g rest : List Part) (x y : Part) → h ++ x ∷ [] ≡ g ++ y ∷ rest → Split h g x y
split [] [] rest x y e = at_end refl (sym (front_is x y [] rest e))
split [] (z ∷ g) rest x y e = absurd (some_stand g rest y (sym (tail_is x z [] (g ++ y ∷ rest) e)))
split (z ∷ h) [] rest x y e = inside h (ap (λ w. w ∷ h) (front_is z y (h ++ x ∷ []) rest e))
split (z ∷ h) (w ∷ g) rest x y e =
    let head : z ≡ w = front_is z w (h ++ x ∷ []) (g ++ y ∷ rest) e in
    elim (split h g rest x y (tail_is z w (h ++ x ∷ []) (g ++ y ∷ rest) e)) [
      | at_end i j ↦ at_end (ap (λ v. v ∷ g) (sym head) ∙ ap (λ t. z ∷ t) i) j
      | inside r i ↦ inside r (ap (λ t. z ∷ t) i ∙ ap (λ v. v ∷ (g ++ y ∷ r)) head)
    ]

-- ---- the view

pub behind_is : (P : Problem) (L : Plan) (h : List Part) → Prefix P L h → behind P h ≡ view_of P h
behind_is P L h p = subst (λ g. behind P g ≡ view_of P g) (sym p.begins) refl

pub behind_more : (P : Problem) (h : List Part) (part : Part) → behind P (h ++ part ∷ []) ≡ view_after (behind P h) part
behind_more P h part = view_from-append (first_view P) h part

-- ---- what is told

module _ (P : Problem) (h : List Part) (part : Part) where
  pub lengths_less : LengthsFit P (h ++ part ∷ []) → LengthsFit P h
  lengths_less f = λ before more t arrival s running e r.
      f before (more ++ part ∷ []) t arrival s running (ap (λ xs. xs ++ part ∷ []) e ∙ append_assoc before (Enter t arrival s ∷ more) (part ∷ [])) r

  module _ (cs : List Constraint) where
    pub watched_more : AreWatched P cs h → AllPass IsFrac64 (rules_ask P 1 cs h part) → AreWatched P cs (h ++ part ∷ [])
    watched_more w a = λ before more x e. elim (split h before more part x e) [
      | at_end i j ↦ subst (λ g. AllPass IsFrac64 (rules_ask P 1 cs g x)) (sym i) (subst (λ y. AllPass IsFrac64 (rules_ask P 1 cs h y)) (sym j) a)
      | inside r i ↦ w before r x i
    ]

    pub limited_more : (index : ℕ) (stop : CondStop Frac64) → IsLimited P cs h index stop → IsLimited P cs (h ++ part ∷ []) index stop
    limited_more index stop l = record {
      before = l.before;
      part = l.part;
      more = l.more ++ part ∷ [];
      is = ap (λ xs. xs ++ part ∷ []) l.is ∙ append_assoc l.before (l.part ∷ l.more) (part ∷ []);
      passed = l.passed;
      first = l.first;
    }

    -- a limit that comes at the part itself
    pub limited_here : (index : ℕ) (stop : CondStop Frac64) → AreWatched P cs h → tested.FirstFailing (Passes IsFrac64) (rules_ask P 1 cs h part) (suc index, cond_stop_of fraction_of stop) → IsLimited P cs (h ++ part ∷ []) index stop
    limited_here index stop w f = record { before = h; part = part; more = []; is = refl; passed = w; first = f }

-- none is asked before the first part
pub watched_none : (P : Problem) (cs : List Constraint) → AreWatched P cs []
watched_none P cs = λ before more part e. absurd (some_stand before more part (sym e))
