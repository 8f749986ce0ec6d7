-- Ground rates, member by member.
use Rattle.std.proofs.Common.{◌≡◌, ℕ, ◌≤◌, List, [], ◌∷◌, ◌++◌, ◌∙◌, ap, refl, sym, length, take, pos, get_or, cond, false, arith}
use Rattle.std.specs.List.{flat_map}
use Rattle.plus_fraction.specs.Fraction.{whole}
use Rattle.plus_tokens.specs.declared.span.Span.{Span}
use Rattle.plus_tree.specs.Expr.{Expr, exprs_of}
use Rattle.plus_tree.specs.Effect as tree
use Rattle.plus_tree.specs.Effect.{effects_of, e_all, e_forall}
use Rattle.plus_model.specs.Terms as model
use Rattle.plus_model.specs.Terms.{Rate}
use Rattle.plus_types.specs.Faults.{Context, is_clock}
use Rattle.plus_expansion.specs.Environments.{Environment}
use Rattle.plus_expansion.specs.Expansion.{expression_meant, factor_meant, rates_meant, all_rates_meant}
use Rattle.plus_ground.proofs.EffectsLemmas.{given_end}

-- of other than two factors none is taken
pub not_two : (c : Context) (env : Environment) (es : List Expr) → (length es ≡ 2 → ⊥) → factor_meant c env (exprs_of es) ≡ model.Number (whole (pos 0))
not_two c env [] h = refl
not_two c env (e ∷ []) h = refl
not_two c env (e ∷ f ∷ []) h = absurd (h refl)
not_two c env (e ∷ f ∷ g ∷ es) h = refl

-- the rates of members are those of each
pub rates_flat : (c : Context) (env : Environment) (es : List tree.Effect) → all_rates_meant c env (effects_of es) ≡ flat_map (rates_meant c env) es
rates_flat c env [] = refl
rates_flat c env (e ∷ es) = ap (λ ws. rates_meant c env e ++ ws) (rates_flat c env es)

-- what is added for an `and`
pub all_added :
    (c : Context) (env : Environment) (effect : tree.Effect) (es : List tree.Effect) (s : Span) (i : ℕ) (start items : List Rate)
    → effect ≡ e_all (effects_of es) s → length es ≤ i → items ≡ start ++ flat_map (rates_meant c env) (take i es) → items ≡ start ++ rates_meant c env effect
all_added c env effect es s i start items w h e =
    given_end (rates_meant c env) start items es i h e ∙ ap (λ ws. start ++ ws) (sym (rates_flat c env es)) ∙ ap (λ x. start ++ rates_meant c env x) (sym w)

-- of two factors of which the first is not `#t`, the first is taken
pub first_taken : (c : Context) (env : Environment) (es : List Expr) (f : Expr) → length es ≡ 2 → f ≡ get_or es 0 f → is_clock f ≡ false → expression_meant c env f ≡ factor_meant c env (exprs_of es)
first_taken c env [] f h m q = absurd (omega arith)
first_taken c env (e ∷ []) f h m q = absurd (omega arith)
first_taken c env (e ∷ g ∷ []) f h m q =
    let k : is_clock e ≡ false = sym (ap is_clock m) ∙ q in
    ap (expression_meant c env) m ∙ sym (ap (λ b. expression_meant c env (cond b g e)) k)
first_taken c env (e ∷ g ∷ x ∷ es) f h m q = absurd (omega arith)

-- what stands at the front is one
pub one_front : (es : List Expr) (e f : Expr) → length es ≡ 2 → e ≡ get_or es 0 e → f ≡ get_or es 0 f → e ≡ f
one_front [] e f h m n = absurd (omega arith)
one_front (x ∷ xs) e f h m n = m ∙ sym n
