-- Effects that come to the same in each state, whatever their order; actions that do, and problems whose plans are the same.
use Rattle.std.proofs.Common.{◌≡◌, ℕ, suc, Bool, true, false, not, ◌&&◌, ◌||◌, List, [], ◌∷◌, ◌++◌, map, refl, ap, ap₂, sym, subst, ◌∙◌, append_assoc}
use Rattle.std.specs.Prelude.{Option, Ok}
use Rattle.std.specs.List.{flat_map}
use Rattle.plus_fraction.specs.Fraction.{Fraction}
use Rattle.plus_model.specs.Terms.{Action, Condition, Effect, State}
use Rattle.plus_model.specs.Value.{holds}
use Rattle.plus_model.specs.Joint.{joint, new_value, value_before, with_atoms}
use Rattle.plus_model.specs.Plan.{Called, Instance}
use Rattle.plus_steps.specs.Stepped.{Does}
use Rattle.plus_steps.specs.Numeric.{NumericPlan}
use Rattle.plus_steps.proofs.Tally.{both_written, gained, lost, wrote, fine, atoms_by, values_by, joint_there, joint_fine, gained-append, lost-append, wrote-append, fine-append, written_comm}

pub record Same (es fs : List Effect) : Type 0 where
  pub fine_is : (t : State) → fine es t ≡ fine fs t
  pub gained_is : (a : ℕ) (t : State) → gained a es t ≡ gained a fs t
  pub lost_is : (a : ℕ) (t : State) → lost a es t ≡ lost a fs t
  pub wrote_is : (f : ℕ) (t : State) → wrote f es t ≡ wrote f fs t

pub same_refl : (es : List Effect) → Same es es
same_refl es = record { fine_is = λ t. refl; gained_is = λ a t. refl; lost_is = λ a t. refl; wrote_is = λ f t. refl }

pub same_equal : (es fs : List Effect) → es ≡ fs → Same es fs
same_equal es fs e = subst (λ xs. Same es xs) e (same_refl es)

pub same_sym : (es fs : List Effect) → Same es fs → Same fs es
same_sym es fs h = record { fine_is = λ t. sym (h.fine_is t); gained_is = λ a t. sym (h.gained_is a t); lost_is = λ a t. sym (h.lost_is a t); wrote_is = λ f t. sym (h.wrote_is f t) }

pub same_trans : (es fs gs : List Effect) → Same es fs → Same fs gs → Same es gs
same_trans es fs gs h k = record {
  fine_is = λ t. h.fine_is t ∙ k.fine_is t;
  gained_is = λ a t. h.gained_is a t ∙ k.gained_is a t;
  lost_is = λ a t. h.lost_is a t ∙ k.lost_is a t;
  wrote_is = λ f t. h.wrote_is f t ∙ k.wrote_is f t;
}

pub same_append : (es es' fs fs' : List Effect) → Same es es' → Same fs fs' → Same (es ++ fs) (es' ++ fs')
same_append es es' fs fs' h k = record {
  fine_is = λ t. fine-append t es fs ∙ ap₂ (λ x y. x && y) (h.fine_is t) (k.fine_is t) ∙ sym (fine-append t es' fs');
  gained_is = λ a t. gained-append t a es fs ∙ ap₂ (λ x y. x || y) (h.gained_is a t) (k.gained_is a t) ∙ sym (gained-append t a es' fs');
  lost_is = λ a t. lost-append t a es fs ∙ ap₂ (λ x y. x || y) (h.lost_is a t) (k.lost_is a t) ∙ sym (lost-append t a es' fs');
  wrote_is = λ f t. wrote-append t f es fs ∙ ap₂ both_written (h.wrote_is f t) (k.wrote_is f t) ∙ sym (wrote-append t f es' fs');
}

and_comm : (x y : Bool) → x && y ≡ y && x
and_comm true true = refl
and_comm true false = refl
and_comm false true = refl
and_comm false false = refl

or_comm : (x y : Bool) → x || y ≡ y || x
or_comm true true = refl
or_comm true false = refl
or_comm false true = refl
or_comm false false = refl

-- the order of effects does not matter
pub same_swap : (es fs : List Effect) → Same (es ++ fs) (fs ++ es)
same_swap es fs = record {
  fine_is = λ t. fine-append t es fs ∙ and_comm (fine es t) (fine fs t) ∙ sym (fine-append t fs es);
  gained_is = λ a t. gained-append t a es fs ∙ or_comm (gained a es t) (gained a fs t) ∙ sym (gained-append t a fs es);
  lost_is = λ a t. lost-append t a es fs ∙ or_comm (lost a es t) (lost a fs t) ∙ sym (lost-append t a fs es);
  wrote_is = λ f t. wrote-append t f es fs ∙ written_comm (wrote f es t) (wrote f fs t) ∙ sym (wrote-append t f fs es);
}

-- four lists, the inner two the other way round
pub same_middle : (a b c d : List Effect) → Same ((a ++ b) ++ (c ++ d)) ((a ++ c) ++ (b ++ d))
same_middle a b c d =
    same_trans _ _ _ (same_equal _ _ (append_assoc a b (c ++ d)))
    (same_trans _ _ _ (same_append a a _ _ (same_refl a)
    (same_trans _ _ _ (same_equal _ _ (sym (append_assoc b c d)))
    (same_trans _ _ _ (same_append _ _ d d (same_swap b c) (same_refl d)) (same_equal _ _ (append_assoc c b d)))))
    (same_equal _ _ (sym (append_assoc a c (b ++ d)))))

module _ {X : Type 0} where
  pub flat_both : (f g : X → List Effect) (xs : List X) → Same (flat_map (λ x. f x ++ g x) xs) (flat_map f xs ++ flat_map g xs)
  flat_both f g [] = same_refl []
  flat_both f g (x ∷ xs) =
      same_trans _ _ _ (same_append (f x ++ g x) (f x ++ g x) _ _ (same_refl (f x ++ g x)) (flat_both f g xs))
      (same_middle (f x) (g x) (flat_map f xs) (flat_map g xs))

  abbrev pub nothing : X → List Effect
  nothing x = []

  pub flat_none : (xs : List X) → flat_map nothing xs ≡ []
  flat_none [] = refl
  flat_none (x ∷ xs) = flat_none xs

-- for each x each y, or for each y each x
pub flat_swap : {X Y : Type 0} (h : X → Y → List Effect) (xs : List X) (ys : List Y) → Same (flat_map (λ x. flat_map (h x) ys) xs) (flat_map (λ y. flat_map (λ x. h x y) xs) ys)
flat_swap h [] ys = same_equal _ _ (sym (flat_none ys))
flat_swap h (x ∷ xs) ys =
    same_trans _ _ _ (same_append _ _ _ _ (same_refl (flat_map (h x) ys)) (flat_swap h xs ys))
    (same_sym _ _ (flat_both (h x) (λ y. flat_map (λ x. h x y) xs) ys))

-- ---- the same joint effect
same_atoms : (es fs : List Effect) → Same es fs → (t : State) (k : ℕ) (bs : List Bool) → atoms_by k es t bs ≡ atoms_by k fs t bs
same_atoms es fs h t k [] = refl
same_atoms es fs h t k (b ∷ bs) = ap₂ (λ x r. x ∷ r) (ap₂ (λ (x y : Bool). x || (b && not y)) (h.gained_is k t) (h.lost_is k t)) (same_atoms es fs h t (suc k) bs)

same_values : (es fs : List Effect) → Same es fs → (t : State) (k : ℕ) (vs : List (Option Fraction)) → values_by k es t vs ≡ values_by k fs t vs
same_values es fs h t k [] = refl
same_values es fs h t k (v ∷ vs) = ap₂ value_before (ap (λ w. new_value k w v) (h.wrote_is k t)) (same_values es fs h t (suc k) vs)

pub same_joint : (es fs : List Effect) → Same es fs → (t u : State) → joint es t ≡ Ok u → joint fs t ≡ Ok u
same_joint es fs h t u j =
    let f : fine es t ≡ true = joint_fine es t u j in
    joint_there fs t (sym (h.fine_is t) ∙ f)
    ∙ ap₂ with_atoms (sym (same_atoms es fs h t 0 t.atoms)) (sym (same_values es fs h t 0 t.fluents))
    ∙ sym (joint_there es t f) ∙ j

pub record SameAction (a b : Action) : Type 0 where
  pub condition : (t : State) → holds a.condition t ≡ holds b.condition t
  pub effects : Same a.effects b.effects

pub same_does : (a b : Action) → SameAction a b → (t u : State) → Does a t u → Does b t u
same_does a b h t u d = record { may = sym (h.condition t) ∙ d.may; effect = same_joint a.effects b.effects h.effects t u d.effect }

-- where each call of one problem is a like call of another, plans of the one are plans of the other
pub record Instead (called : Called) (a : Action) : Type 0 where
  pub action : Action
  pub is : called ≡ Instance action
  pub same : SameAction a action

pub same_plan : {C D : Type 0} (meant : C → Called) (other : D → Called) (f : C → D) → ((c : C) (a : Action) → meant c ≡ Instance a → Instead (other (f c)) a)
    → (goal aim : Condition) → ((t : State) → holds goal t ≡ holds aim t) → (cs : List C) (t : State) → NumericPlan meant goal t cs → NumericPlan other aim t (map f cs)
same_plan meant other f like goal aim g [] t h = sym (g t) ∙ h
same_plan meant other f like goal aim g (c ∷ cs) t h =
    let l = like c h.1.action h.1.called in
    (h.0, record { action = l.action; called = l.is; does = same_does h.1.action l.action l.same t h.0 h.1.does }, same_plan meant other f like goal aim g cs h.0 h.2)
