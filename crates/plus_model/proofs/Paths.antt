-- Two histories of one plan run along one path, and a trajectory has nothing after it.
use Rattle.std.proofs.Common.{◌≡◌, List, [], ◌∷◌, ◌++◌, refl, ap, ap₂, sym, subst, ◌∙◌, inl, inr}
use Rattle.std.specs.Prelude.{Option, Some, None}
use Rattle.plus_fraction.specs.Fraction.{◌<ℚ◌}
use Rattle.plus_fraction.proofs.FractionOrder.{<ℚ_irrefl}
use Rattle.plus_model.specs.Terms.{Problem}
use Rattle.plus_model.specs.Plan.{Plan}
use Rattle.plus_model.specs.History.{Part, Enter, Round, Act, Run, View, view_after, view_from}
use Rattle.plus_model.specs.Trajectory.{IsEndOrNone, NextBy, Next, HasBegun, Follow, first_part, first_view, view_of, IsWorked}
use Rattle.plus_model.specs.Laws.{OnePath, OneTrajectory, PrefixBegins, PrefixGrows}
use Rattle.plus_model.proofs.Steps.{one_next}

-- the lists are the same, or one goes on where the other ends
pub data Meets (P : Problem) (L : Plan) (v : View) (xs ys : List Part) : Type 0 where
  same : xs ≡ ys → Meets P L v xs ys
  shorter : (p : Part) (ps : List Part) → ys ≡ xs ++ p ∷ ps → Next P L (view_from v xs) p → Meets P L v xs ys
  longer : (p : Part) (ps : List Part) → xs ≡ ys ++ p ∷ ps → Next P L (view_from v ys) p → Meets P L v xs ys

pub meet : (P : Problem) (L : Plan) (v : View) (xs ys : List Part) → Follow P L v xs → Follow P L v ys → Meets P L v xs ys
meet P L v [] [] f g = same refl
meet P L v [] (y ∷ ys) f g = shorter y ys refl g.1
meet P L v (x ∷ xs) [] f g = longer x xs refl f.1
meet P L v (x ∷ xs) (y ∷ ys) f g =
    let e : x ≡ y = one_next P L v x y f.1 g.1 in
    elim (meet P L (view_after v x) xs ys f.2 (subst (λ z. Follow P L (view_after v z) ys) (sym e) g.2)) [
      | same s ↦ same (ap₂ (λ h t. h ∷ t) e s)
      | shorter p ps s n ↦ shorter p ps (ap₂ (λ h t. h ∷ t) (sym e) s) n
      | longer p ps s n ↦ longer p ps (ap₂ (λ h t. h ∷ t) e s) (subst (λ z. Next P L (view_from (view_after v z) ys) p) e n)
    ]

-- where all is worked, nothing comes next
nothing_by : (P : Problem) (L : Plan) (v : View) → IsWorked P L v → (o : Option (List _)) → o ≡ None → (p : Part) → NextBy P L v o p → ⊥
nothing_by P L v w (Some R) e p n = cc
nothing_by P L v w None e (Enter t a s) n = n
nothing_by P L v w None e (Round E s) n = n.some (n.all ∙ w.still)
nothing_by P L v w None e (Act i s) n = subst IsEndOrNone n.due w.acted
nothing_by P L v w None e (Run R) n = <ℚ_irrefl v.time (subst (λ t. v.time <ℚ t) w.over n.later)

pub nothing_after : (P : Problem) (L : Plan) (v : View) → IsWorked P L v → (p : Part) → Next P L v p → ⊥
nothing_after P L v w p n = nothing_by P L v w v.running w.moment p n

append_nil : (xs : List Part) → xs ++ [] ≡ xs
append_nil [] = refl
append_nil (x ∷ xs) = ap (λ t. x ∷ t) (append_nil xs)

-- the view of a prefix is that of its parts after the first
pub view_is : (P : Problem) (h rest : List Part) → h ≡ first_part P ∷ rest → view_of P h ≡ view_from (first_view P) rest
view_is P h rest e = ap (view_of P) e

pub one_path : OnePath
one_path P L h h' a b = elim (meet P L (first_view P) a.rest b.rest a.follow b.follow) [
  | same s ↦ inl (record { rest = []; is = b.begins ∙ ap (λ t. first_part P ∷ t) (sym s ∙ sym (append_nil a.rest)) ∙ ap (λ t. t ++ []) (sym a.begins) })
  | shorter p ps s n ↦ inl (record { rest = p ∷ ps; is = b.begins ∙ ap (λ t. first_part P ∷ t) s ∙ ap (λ t. t ++ p ∷ ps) (sym a.begins) })
  | longer p ps s n ↦ inr (record { rest = p ∷ ps; is = a.begins ∙ ap (λ t. first_part P ∷ t) s ∙ ap (λ t. t ++ p ∷ ps) (sym b.begins) })
]

pub one_trajectory : OneTrajectory
one_trajectory P L h h' a b =
    let v = first_view P in
    let x = a.prefix in
    let y = b.prefix in
    elim (meet P L v x.rest y.rest x.follow y.follow) [
      | same s ↦ x.begins ∙ ap (λ t. first_part P ∷ t) s ∙ sym y.begins
      | shorter p ps s n ↦ absurd (nothing_after P L _ (subst (IsWorked P L) (view_is P h x.rest x.begins) a.worked) p n)
      | longer p ps s n ↦ absurd (nothing_after P L _ (subst (IsWorked P L) (view_is P h' y.rest y.begins) b.worked) p n)
    ]

-- one more part, as a loop adds it
pub view_from-append : (v : View) (xs : List Part) (p : Part) → view_from v (xs ++ p ∷ []) ≡ view_after (view_from v xs) p
view_from-append v [] p = refl
view_from-append v (x ∷ xs) p = view_from-append (view_after v x) xs p

pub Follow-append : (P : Problem) (L : Plan) (v : View) (xs : List Part) (p : Part) → HasBegun L → Follow P L v xs → Next P L (view_from v xs) p → Follow P L v (xs ++ p ∷ [])
Follow-append P L v [] p b f n = (b, n, tt)
Follow-append P L v (x ∷ xs) p b f n = (f.0, f.1, Follow-append P L (view_after v x) xs p b f.2 n)

pub prefix_begins : PrefixBegins
prefix_begins P L o = record { ordered = o; rest = []; begins = refl; follow = tt }

pub prefix_grows : PrefixGrows
prefix_grows P L h p b a n = (
  record {
    ordered = a.ordered;
    rest = a.rest ++ p ∷ [];
    begins = ap (λ t. t ++ p ∷ []) a.begins;
    follow = Follow-append P L (first_view P) a.rest p b a.follow (subst (λ v. Next P L v p) (view_is P h a.rest a.begins) n);
  },
  ap (λ t. view_of P (t ++ p ∷ [])) a.begins ∙ view_from-append (first_view P) a.rest p ∙ ap (λ v. view_after v p) (sym (view_is P h a.rest a.begins)),
)
