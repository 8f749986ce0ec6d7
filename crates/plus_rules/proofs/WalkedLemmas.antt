-- The faults of constraints, one after the other.
use Rattle.std.proofs.Common.{◌≡◌, ℕ, ◌<◌, ◌≤◌, ◌+◌, List, [], ◌++◌, length, drop, get_or, refl, ap, ap₂, sym, subst, ◌∙◌}
use Rattle.std.proofs.lemmas.List.{drop_all}
use Rattle.std.specs.List.{flat_map}
use Rattle.plus_fraction.specs.Fraction.{Fraction}
use Rattle.plus_tree.specs.declared.trees.Constraint.{Constraint}
use Rattle.plus_tree.specs.declared.trees.Domain.{Domain}
use Rattle.plus_tree.specs.declared.trees.Problem.{Problem}
use Rattle.plus_types.specs.declared.faults.TypeFault.{TypeFault}
use Rattle.plus_types.specs.declared.faults.TypeFault.TheVariants.{At, Memory}
use Rattle.plus_types.specs.Types.{Binding}
use Rattle.plus_types.specs.Faults.{Context, cond_faults, IsFirstFault}
use Rattle.plus_types.proofs.WalkLemmas.{walk_err}
use Rattle.plus_numbering.proofs.Steps.{rest-from}
use Rattle.plus_rules.specs.Written.{faults_of}
use Rattle.plus_rules.specs.Refusals.{RefusesConstraints, fault_of}

abbrev pub faults_in : Context → List Constraint → List TypeFault
faults_in k cs = flat_map (λ (c : Constraint). cond_faults k [] c.cond) cs

module _ (k known : Context) (vars : List Binding) (known_is : known ≡ k) (none : vars ≡ []) (cs : List Constraint) (i : ℕ) (c : Constraint) (whole : List TypeFault)
    (h : i < length cs) (m : c ≡ get_or cs i c) (walked : whole ≡ faults_in k (drop i cs)) where
  -- the faults of one more, in the words of the walk
  same : cond_faults known vars c.cond ≡ cond_faults k [] c.cond
  same = ap₂ (λ (x : Context) (ys : List Binding). cond_faults x ys c.cond) known_is none

  -- it has none
  pub none_yet : cond_faults known vars c.cond ≡ [] → whole ≡ faults_in k (drop (i + 1) cs)
  none_yet e = walked ∙ ap (faults_in k) (rest-from cs i c h m) ∙ ap (λ (fs : List TypeFault). fs ++ faults_in k (drop (i + 1) cs)) (sym same ∙ e)

  -- it has one, and those before it have none
  pub first_fault : (f : TypeFault) → IsFirstFault (cond_faults known vars c.cond) f → IsFirstFault whole f
  first_fault f u =
      walk_err whole (faults_in k) (λ (x : Constraint). cond_faults k [] x.cond) (λ (x : Constraint) xs. faults_in k xs) (λ x xs. refl) cs i c f h m walked
      (subst (λ (fs : List TypeFault). IsFirstFault fs f) same u)

-- all are walked
pub no_fault : (k : Context) (cs : List Constraint) (i : ℕ) (whole : List TypeFault) → length cs ≤ i → whole ≡ faults_in k (drop i cs) → whole ≡ []
no_fault k cs i whole h w = w ∙ ap (faults_in k) (drop_all i cs h)

-- the first fault is why constraints are refused
pub refused_typing : (fits : Fraction → Type 0) (d : Domain) (p : Problem) (cs : List Constraint) (f : TypeFault) → IsFirstFault (faults_of d p cs) f → RefusesConstraints fits d p cs (fault_of f)
refused_typing fits d p cs (At wrong file span) h = (file, h)
refused_typing fits d p cs Memory h = tt
