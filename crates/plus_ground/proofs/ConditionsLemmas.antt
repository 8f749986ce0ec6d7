-- Ground conditions, member by member.
use Rattle.std.proofs.Common.{◌≡◌, ℕ, zero, suc, ◌<◌, ◌≤◌, ◌+◌, Bool, true, false, not, List, [], ◌∷◌, ◌++◌, ◌∙◌, ap, refl, sym, subst, length, map, take, get_or, All, Vec, Global, arith, add-one}
use Rattle.std.proofs.Math.Seq.{take-suc}
use Rattle.std.proofs.lemmas.List.{map-append, take_all}
use Rattle.plus_fraction.specs.Fraction.{Fraction}
use Rattle.plus_literal.specs.Value.{LiteralFits}
use Rattle.plus_model.specs.Terms.{Always, Condition}
use Rattle.plus_state.specs.declared.term.Cond.{Cond}
use Rattle.plus_state.specs.declared.term.Cond.TheVariants.{All as every, Any}
use Rattle.plus_state.specs.View.{condition_of}
use Rattle.plus_state.specs.Tests.{joined}
use Rattle.plus_state.proofs.TestsLemmas.{all_view, any_view}
use Rattle.plus_tree.specs.Cond as tree
use Rattle.plus_tree.specs.Cond.{conds_of, cond_size, conds_size, c_all, c_any, c_forall, c_exists}
use Rattle.plus_tokens.specs.declared.span.Span.{Span}
use Rattle.plus_tree.specs.declared.terms.TypedName.{TypedName}
use Rattle.plus_model.specs.Value.{signed}
use Rattle.plus_types.specs.Faults.{Context}
use Rattle.plus_expansion.specs.Environments.{Environment, environments}
use Rattle.plus_expansion.specs.Literals.{condition_literals, conditions_literals}
use Rattle.plus_expansion.specs.Expansion.{condition_meant, conditions_meant}
use Rattle.plus_ground.specs.Chains.{asks_all}
use Rattle.plus_ground.proofs.ExpressionsLemmas.{all_left, all_right}

-- an `All` is its members joined by "and", an `Any` by "or"
pub all_joined : {Q : Type 0} (v : Q → Fraction) (members : Vec (Cond Q) Global) → condition_of v (every members) ≡ joined true (map (condition_of v) members.items)
all_joined v members = sym (all_view v (every members) members members.items refl refl)

pub any_joined : {Q : Type 0} (v : Q → Fraction) (members : Vec (Cond Q) Global) → condition_of v (Any members) ≡ joined false (map (condition_of v) members.items)
any_joined v members = sym (any_view v (Any members) members members.items refl refl)

pub ruleset viewing = (all_joined, any_joined)

-- a condition without members always holds
pub no_members : {Q : Type 0} (v : Q → Fraction) (members : Vec (Cond Q) Global) → members.items ≡ [] → condition_of v (every members) ≡ Always
no_members v members e = all_joined v members ∙ ap (λ cs. joined true (map (condition_of v) cs)) e

-- the meanings of members are those of each
pub meanings_map : (c : Context) (env : Environment) (positive : Bool) (fs : List tree.Cond) → conditions_meant c env positive (conds_of fs) ≡ map (condition_meant c env positive) fs
meanings_map c env positive [] = refl
meanings_map c env positive (f ∷ fs) = ap (λ ms. condition_meant c env positive f ∷ ms) (meanings_map c env positive fs)

-- the forms of all members, joined
pub joined_members :
    (c : Context) (env : Environment) (positive all : Bool) (fs : List tree.Cond) (i : ℕ) (forms : List Condition)
    → length fs ≤ i → forms ≡ map (condition_meant c env positive) (take i fs) → joined all forms ≡ joined all (conditions_meant c env positive (conds_of fs))
joined_members c env positive all fs i forms h e =
    ap (joined all) (e ∙ ap (map (condition_meant c env positive)) (take_all i fs h) ∙ sym (meanings_map c env positive fs))

-- the forms for all choices, joined
pub joined_choices :
    {A : Type 0} (f : A → Condition) (all : Bool) (es fs : List A) (i : ℕ) (forms : List Condition)
    → length es ≤ i → es ≡ fs → forms ≡ map f (take i es) → joined all forms ≡ joined all (map f fs)
joined_choices f all es fs i forms h w e = ap (joined all) (e ∙ ap (map f) (take_all i es h ∙ w))

signed_true : (positive : Bool) → signed positive true ≡ positive
signed_true true = refl
signed_true false = refl

signed_false : (positive : Bool) → signed positive false ≡ not positive
signed_false true = refl
signed_false false = refl

-- what is answered for an `and` and for an `or`
pub all_returned :
    (c : Context) (env : Environment) (positive : Bool) (cond : tree.Cond) (all asks : Bool) (fs : List tree.Cond) (s : Span) (i : ℕ) (forms : List Condition) (result : Condition)
    → cond ≡ c_all (conds_of fs) s → all ≡ signed positive asks → asks ≡ asks_all cond → length fs ≤ i → forms ≡ map (condition_meant c env positive) (take i fs)
    → result ≡ joined all forms → result ≡ condition_meant c env positive cond
all_returned c env positive cond all asks fs s i forms result w a k h e r =
    r ∙ joined_members c env positive all fs i forms h e
    ∙ ap (λ b. joined b (conditions_meant c env positive (conds_of fs))) (a ∙ ap (signed positive) (k ∙ ap asks_all w) ∙ signed_true positive)
    ∙ sym (ap (condition_meant c env positive) w)

pub any_returned :
    (c : Context) (env : Environment) (positive : Bool) (cond : tree.Cond) (all asks : Bool) (fs : List tree.Cond) (s : Span) (i : ℕ) (forms : List Condition) (result : Condition)
    → cond ≡ c_any (conds_of fs) s → all ≡ signed positive asks → asks ≡ asks_all cond → length fs ≤ i → forms ≡ map (condition_meant c env positive) (take i fs)
    → result ≡ joined all forms → result ≡ condition_meant c env positive cond
any_returned c env positive cond all asks fs s i forms result w a k h e r =
    r ∙ joined_members c env positive all fs i forms h e
    ∙ ap (λ b. joined b (conditions_meant c env positive (conds_of fs))) (a ∙ ap (signed positive) (k ∙ ap asks_all w) ∙ signed_false positive)
    ∙ sym (ap (condition_meant c env positive) w)

-- and for a `forall` and an `exists`
pub forall_returned :
    (c : Context) (env : Environment) (positive : Bool) (cond : tree.Cond) (all asks : Bool) (vs : List TypedName) (f : tree.Cond) (s : Span) (es : List Environment) (i : ℕ)
    (forms : List Condition) (result : Condition)
    → cond ≡ c_forall vs f s → all ≡ signed positive asks → asks ≡ asks_all cond → length es ≤ i → es ≡ environments c vs env
    → forms ≡ map (λ e. condition_meant c e positive f) (take i es)
    → result ≡ joined all forms → result ≡ condition_meant c env positive cond
forall_returned c env positive cond all asks vs f s es i forms result w a k h l e r =
    r ∙ joined_choices (λ e. condition_meant c e positive f) all es (environments c vs env) i forms h l e
    ∙ ap (λ b. joined b (map (λ e. condition_meant c e positive f) (environments c vs env))) (a ∙ ap (signed positive) (k ∙ ap asks_all w) ∙ signed_true positive)
    ∙ sym (ap (condition_meant c env positive) w)

pub exists_returned :
    (c : Context) (env : Environment) (positive : Bool) (cond : tree.Cond) (all asks : Bool) (vs : List TypedName) (f : tree.Cond) (s : Span) (es : List Environment) (i : ℕ)
    (forms : List Condition) (result : Condition)
    → cond ≡ c_exists vs f s → all ≡ signed positive asks → asks ≡ asks_all cond → length es ≤ i → es ≡ environments c vs env
    → forms ≡ map (λ e. condition_meant c e positive f) (take i es)
    → result ≡ joined all forms → result ≡ condition_meant c env positive cond
exists_returned c env positive cond all asks vs f s es i forms result w a k h l e r =
    r ∙ joined_choices (λ e. condition_meant c e positive f) all es (environments c vs env) i forms h l e
    ∙ ap (λ b. joined b (map (λ e. condition_meant c e positive f) (environments c vs env))) (a ∙ ap (signed positive) (k ∙ ap asks_all w) ∙ signed_false positive)
    ∙ sym (ap (condition_meant c env positive) w)

-- one more form is made for one more choice
pub mapped_more :
    {A B X : Type 0} (v : A → B) (f : X → B) (before after : List A) (new : A) (xs : List X) (i : ℕ) (x : X)
    → i < length xs → x ≡ get_or xs i x
    → map v before ≡ map f (take i xs) → after ≡ before ++ new ∷ [] → v new ≡ f x
    → map v after ≡ map f (take (i + 1) xs)
mapped_more v f before after new xs i x h m b a n =
    let next : take (i + 1) xs ≡ take i xs ++ x ∷ [] = rw add-one (take-suc xs i x h ∙ ap (λ y. take i xs ++ y ∷ []) (sym m)) in
    ap (map v) a ∙ map-append v before (new ∷ []) ∙ ap (λ ys. ys ++ v new ∷ []) b
    ∙ ap (λ y. map f (take i xs) ++ y ∷ []) n ∙ sym (map-append f (take i xs) (x ∷ [])) ∙ ap (map f) (sym next)

-- the literals of a member fit
pub member_fits :
    (fits : Fraction → Type 0) (fs : List tree.Cond) (i : ℕ) (f : tree.Cond) → i < length fs → f ≡ get_or fs i f → All (LiteralFits fits) (conditions_literals (conds_of fs))
    → All (LiteralFits fits) (condition_literals f)
member_fits fits [] i f h m a = absurd (omega arith)
member_fits fits (x ∷ xs) zero f h m a =
    subst (λ y. All (LiteralFits fits) (condition_literals y)) (sym m) (all_left (LiteralFits fits) (condition_literals x) (conditions_literals (conds_of xs)) a)
member_fits fits (x ∷ xs) (suc i) f h m a =
    member_fits fits xs i f (omega arith) m (all_right (LiteralFits fits) (condition_literals x) (conditions_literals (conds_of xs)) a)

-- a member is smaller than the whole
pub member_smaller : (fs : List tree.Cond) (i : ℕ) (f : tree.Cond) → i < length fs → f ≡ get_or fs i f → cond_size f < conds_size (conds_of fs)
member_smaller [] i f h m = absurd (omega arith)
member_smaller (x ∷ xs) zero f h m = let k : cond_size f ≡ cond_size x = ap cond_size m in omega arith
member_smaller (x ∷ xs) (suc i) f h m = let k = member_smaller xs i f (omega arith) m in omega arith

pub ruleset meaning = (meanings_map)
