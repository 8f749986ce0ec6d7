-- Ground expressions, operand by operand.
use Rattle.std.proofs.Common.{◌≡◌, ℕ, zero, suc, ◌<◌, ◌≤◌, arith, subst, ◌+◌, List, [], ◌∷◌, ◌++◌, ◌∙◌, ap, refl, sym, length, take, get_or, Some, Option, All, add-one}
use Rattle.std.proofs.Math.Seq.{take-suc}
use Rattle.std.proofs.lemmas.List.{take_all}
use Rattle.plus_fraction.specs.Fraction.{Fraction}
use Rattle.plus_literal.specs.Value.{LiteralFits}
use Rattle.plus_model.specs.Terms.{Expression}
use Rattle.plus_tree.specs.Expr.{Expr, exprs_of, expr_size, exprs_size}
use Rattle.plus_types.specs.Faults.{Context}
use Rattle.plus_expansion.specs.Environments.{Environment}
use Rattle.plus_expansion.specs.Literals.{expression_literals, expressions_literals}
use Rattle.plus_expansion.specs.Expansion.{grouped, chained, expression_meant, expressions_meant}
use Rattle.plus_ground.specs.Chains.{link, total, total_or_zero}

grouped_more : (op : Expression → Expression → Expression) (e : Expression) (es : List Expression) (f : Expression) → grouped op e (es ++ f ∷ []) ≡ op (grouped op e es) f
grouped_more op e [] f = refl
grouped_more op e (x ∷ xs) f = grouped_more op (op e x) xs f

-- one operand more
total_more : (op : Expression → Expression → Expression) (es : List Expression) (f : Expression) → total op (es ++ f ∷ []) ≡ Some (link op (total op es) f)
total_more op [] f = refl
total_more op (e ∷ es) f = ap Some (grouped_more op e es f)

meant_next : (c : Context) (env : Environment) (es fs : List Expr) → expressions_meant c env (exprs_of (es ++ fs)) ≡ expressions_meant c env (exprs_of es) ++ expressions_meant c env (exprs_of fs)
meant_next c env [] fs = refl
meant_next c env (e ∷ es) fs = ap (λ xs. expression_meant c env e ∷ xs) (meant_next c env es fs)

-- the total of the first operands, and one operand more
pub total_after :
    (op : Expression → Expression → Expression) (c : Context) (env : Environment) (es : List Expr) (i : ℕ) (e : Expr) (before after : Option Expression) (next linked : Expression)
    → i < length es → e ≡ get_or es i e
    → before ≡ total op (expressions_meant c env (exprs_of (take i es))) → next ≡ expression_meant c env e
    → linked ≡ link op before next → after ≡ Some linked
    → after ≡ total op (expressions_meant c env (exprs_of (take (i + 1) es)))
total_after op c env es i e before after next linked h m b n l a =
    let first : take (i + 1) es ≡ take i es ++ e ∷ [] = rw add-one (take-suc es i e h ∙ ap (λ y. take i es ++ y ∷ []) (sym m)) in
    let more = ap (λ xs. expressions_meant c env (exprs_of xs)) first ∙ meant_next c env (take i es) (e ∷ []) in
    a ∙ ap Some (l ∙ ap (λ t. link op t next) b ∙ ap (link op (total op (expressions_meant c env (exprs_of (take i es))))) n)
    ∙ sym (total_more op (expressions_meant c env (exprs_of (take i es))) (expression_meant c env e)) ∙ ap (total op) (sym more)

total_chained : (op : Expression → Expression → Expression) (es : List Expression) → total_or_zero (total op es) ≡ chained op es
total_chained op [] = refl
total_chained op (e ∷ es) = refl

-- the total of all operands
pub total_end :
    (op : Expression → Expression → Expression) (c : Context) (env : Environment) (es : List Expr) (i : ℕ) (t : Option Expression)
    → length es ≤ i → t ≡ total op (expressions_meant c env (exprs_of (take i es)))
    → total_or_zero t ≡ chained op (expressions_meant c env (exprs_of es))
total_end op c env es i t h e =
    ap total_or_zero (e ∙ ap (λ xs. total op (expressions_meant c env (exprs_of xs))) (take_all i es h)) ∙ total_chained op (expressions_meant c env (exprs_of es))

pub all_first : {A : Type 0} (P : A → Type 0) (x : A) (xs : List A) → All P (x ∷ xs) → P x
all_first P x xs a = a 0 x (omega arith)

pub all_rest : {A : Type 0} (P : A → Type 0) (x : A) (xs : List A) → All P (x ∷ xs) → All P xs
all_rest P x xs a = λ k d h. a (suc k) d (omega arith)

pub all_more : {A : Type 0} (P : A → Type 0) (x : A) (xs : List A) → P x → All P xs → (k : ℕ) (d : A) → k < length (x ∷ xs) → P (get_or (x ∷ xs) k d)
all_more P x xs p a zero d h = p
all_more P x xs p a (suc k) d h = a k d (omega arith)

-- a fact of all members of two lists
pub all_left : {A : Type 0} (P : A → Type 0) (xs ys : List A) → All P (xs ++ ys) → All P xs
all_left P [] ys a = λ k d h. absurd (omega arith)
all_left P (x ∷ xs) ys a = all_more P x xs (all_first P x (xs ++ ys) a) (all_left P xs ys (all_rest P x (xs ++ ys) a))

pub all_right : {A : Type 0} (P : A → Type 0) (xs ys : List A) → All P (xs ++ ys) → All P ys
all_right P [] ys a = a
all_right P (x ∷ xs) ys a = all_right P xs ys (all_rest P x (xs ++ ys) a)

-- the literals of a member fit
pub member_fits :
    (fits : Fraction → Type 0) (es : List Expr) (i : ℕ) (e : Expr) → i < length es → e ≡ get_or es i e → All (LiteralFits fits) (expressions_literals (exprs_of es))
    → All (LiteralFits fits) (expression_literals e)
member_fits fits [] i e h m a = absurd (omega arith)
member_fits fits (x ∷ xs) zero e h m a =
    subst (λ y. All (LiteralFits fits) (expression_literals y)) (sym m) (all_left (LiteralFits fits) (expression_literals x) (expressions_literals (exprs_of xs)) a)
member_fits fits (x ∷ xs) (suc i) e h m a =
    member_fits fits xs i e (omega arith) m (all_right (LiteralFits fits) (expression_literals x) (expressions_literals (exprs_of xs)) a)

-- a member is smaller than the whole
pub member_smaller : (es : List Expr) (i : ℕ) (e : Expr) → i < length es → e ≡ get_or es i e → expr_size e < exprs_size (exprs_of es)
member_smaller [] i e h m = absurd (omega arith)
member_smaller (x ∷ xs) zero e h m = let k : expr_size e ≡ expr_size x = ap expr_size m in omega arith
member_smaller (x ∷ xs) (suc i) e h m = let k = member_smaller xs i e (omega arith) m in omega arith

pub ruleset chaining = (total_after, total_end, all_left, all_right)
