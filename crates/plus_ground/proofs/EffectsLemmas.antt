-- Ground effects, member by member.
use Rattle.std.proofs.Common.{◌≡◌, ℕ, zero, suc, ◌<◌, ◌≤◌, ◌+◌, List, [], ◌∷◌, ◌++◌, ◌∙◌, ap, refl, sym, subst, length, take, get_or, All, arith}
use Rattle.std.proofs.lemmas.List.{take_all}
use Rattle.std.specs.List.{flat_map}
use Rattle.plus_fraction.specs.Fraction.{Fraction}
use Rattle.plus_literal.specs.Value.{LiteralFits}
use Rattle.plus_tree.specs.declared.terms.TypedName.{TypedName}
use Rattle.plus_tree.specs.declared.terms.Literal.{Literal}
use Rattle.plus_tokens.specs.declared.span.Span.{Span}
use Rattle.plus_tree.specs.Effect as tree
use Rattle.plus_tree.specs.Effect.{effects_of, effect_size, effects_size, e_all, e_forall}
use Rattle.plus_model.specs.Terms.{Effect}
use Rattle.plus_types.specs.Faults.{Context}
use Rattle.plus_expansion.specs.Environments.{Environment, environments}
use Rattle.plus_expansion.specs.Literals.{effect_literals, effects_literals}
use Rattle.plus_expansion.specs.Expansion.{effects_meant, all_effects_meant}
use Rattle.plus_ground.proofs.ExpressionsLemmas.{all_left, all_right}

-- all members are added
pub given_end :
    {X A : Type 0} (f : X → List A) (start items : List A) (xs : List X) (i : ℕ) → length xs ≤ i → items ≡ start ++ flat_map f (take i xs) → items ≡ start ++ flat_map f xs
given_end f start items xs i h e = e ∙ ap (λ ys. start ++ flat_map f ys) (take_all i xs h)

-- the writes of members are those of each
pub effects_flat : (c : Context) (env : Environment) (es : List tree.Effect) → all_effects_meant c env (effects_of es) ≡ flat_map (effects_meant c env) es
effects_flat c env [] = refl
effects_flat c env (e ∷ es) = ap (λ ws. effects_meant c env e ++ ws) (effects_flat c env es)

-- what is added for an `and`, and for a `forall`
pub all_added :
    (c : Context) (env : Environment) (effect : tree.Effect) (es : List tree.Effect) (s : Span) (i : ℕ) (start items : List Effect)
    → effect ≡ e_all (effects_of es) s → length es ≤ i → items ≡ start ++ flat_map (effects_meant c env) (take i es) → items ≡ start ++ effects_meant c env effect
all_added c env effect es s i start items w h e =
    given_end (effects_meant c env) start items es i h e ∙ ap (λ ws. start ++ ws) (sym (effects_flat c env es)) ∙ ap (λ x. start ++ effects_meant c env x) (sym w)

pub forall_added :
    (c : Context) (env : Environment) (effect : tree.Effect) (vs : List TypedName) (body : tree.Effect) (s : Span) (es : List Environment) (i : ℕ) (start items : List Effect)
    → effect ≡ e_forall vs body s → length es ≤ i → es ≡ environments c vs env → items ≡ start ++ flat_map (λ e. effects_meant c e body) (take i es)
    → items ≡ start ++ effects_meant c env effect
forall_added c env effect vs body s es i start items w h k e =
    given_end (λ e. effects_meant c e body) start items es i h e ∙ ap (λ ys. start ++ flat_map (λ e. effects_meant c e body) ys) k ∙ ap (λ x. start ++ effects_meant c env x) (sym w)

-- the literals of a member fit
pub member_fits :
    (fits : Fraction → Type 0) (es : List tree.Effect) (i : ℕ) (e : tree.Effect) → i < length es → e ≡ get_or es i e → All (LiteralFits fits) (effects_literals (effects_of es))
    → All (LiteralFits fits) (effect_literals e)
member_fits fits [] i e h m a = absurd (omega arith)
member_fits fits (x ∷ xs) zero e h m a =
    subst (λ y. All (LiteralFits fits) (effect_literals y)) (sym m) (all_left (LiteralFits fits) (effect_literals x) (effects_literals (effects_of xs)) a)
member_fits fits (x ∷ xs) (suc i) e h m a =
    member_fits fits xs i e (omega arith) m (all_right (LiteralFits fits) (effect_literals x) (effects_literals (effects_of xs)) a)

-- those of one of several things fit
pub part_fits :
    {X : Type 0} (fits : Fraction → Type 0) (f : X → List Literal) (xs : List X) (i : ℕ) (x : X) → i < length xs → x ≡ get_or xs i x → All (LiteralFits fits) (flat_map f xs)
    → All (LiteralFits fits) (f x)
part_fits fits f [] i e h m a = absurd (omega arith)
part_fits fits f (x ∷ xs) zero e h m a = subst (λ y. All (LiteralFits fits) (f y)) (sym m) (all_left (LiteralFits fits) (f x) (flat_map f xs) a)
part_fits fits f (x ∷ xs) (suc i) e h m a = part_fits fits f xs i e (omega arith) m (all_right (LiteralFits fits) (f x) (flat_map f xs) a)

-- a member is smaller than the whole
pub member_smaller : (es : List tree.Effect) (i : ℕ) (e : tree.Effect) → i < length es → e ≡ get_or es i e → effect_size e < effects_size (effects_of es)
member_smaller [] i e h m = absurd (omega arith)
member_smaller (x ∷ xs) zero e h m = let k : effect_size e ≡ effect_size x = ap effect_size m in omega arith
member_smaller (x ∷ xs) (suc i) e h m = let k = member_smaller xs i e (omega arith) m in omega arith
