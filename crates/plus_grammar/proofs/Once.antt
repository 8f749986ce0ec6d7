-- A place that is filled once at most, and the list of what fills it.
use Rattle.std.proofs.Common.{◌≡◌, ◌≤◌, Bool, true, false, cond, List, [], ◌∷◌, ◌++◌, length, refl, ap, sym, subst, ◌∙◌, Option, Some, None, arith}
use Rattle.std.specs.Prelude.{is_some, unwrap_or, option_to_list, option_and_then}
use Rattle.std.proofs.lemmas.Bool.{cond-false}
use Rattle.plus_grammar.specs.Counts.{IsOneOr}

none_list : {X : Type 0} (o : Option X) → is_some o ≡ false → option_to_list o ≡ []
none_list None e = refl
none_list (Some x) e = absurd cc

was_none : {X : Type 0} (o r : Option X) (x : X) (xs : List X) → option_to_list o ++ (x ∷ xs) ≡ option_to_list r → is_some o ≡ false
was_none None r x xs e = refl
was_none (Some a) None x xs e = absurd cc
was_none (Some a) (Some b) x xs e = absurd cc

-- what fills a place that was free
pub fills : {X : Type 0} (o r : Option X) (x : X) (xs : List X) → is_some o ≡ false → (x ∷ xs) ≡ option_to_list r → option_to_list o ++ (x ∷ xs) ≡ option_to_list r
fills o r x xs n e = ap (λ l. l ++ (x ∷ xs)) (none_list o n) ∙ e

pub filled : {X : Type 0} (o r : Option X) (x : X) (xs : List X) → option_to_list o ++ (x ∷ xs) ≡ option_to_list r → (x ∷ xs) ≡ option_to_list r
filled o r x xs e = sym (ap (λ l. l ++ (x ∷ xs)) (none_list o (was_none o r x xs e))) ∙ e

-- the test of a place that must have been free
pub free : {S X : Type 0} (o r : Option X) (x : X) (xs : List X) (made : S) (f : S → Option S) → option_to_list o ++ (x ∷ xs) ≡ option_to_list r
    → option_and_then f (cond (is_some o) None (Some made)) ≡ f made
free o r x xs made f e = ap (option_and_then f) (cond-false (is_some o) None (Some made) (was_none o r x xs e))

pub same_option : {X : Type 0} (o r : Option X) → option_to_list o ++ [] ≡ option_to_list r → o ≡ r
same_option None None e = refl
same_option None (Some b) e = absurd cc
same_option (Some a) None e = absurd cc
same_option (Some a) (Some b) e = cc

-- ---- a place and a count

pub one_to : {X : Type 0} (default : X) (xs : List X) (r : Option X) → xs ≡ option_to_list r → IsOneOr default xs (unwrap_or r default)
one_to {X = X} default xs r e = subst (λ ys. IsOneOr default ys (unwrap_or r default)) (sym e) (by r)
  where
    by : (o : Option X) → IsOneOr default (option_to_list o) (unwrap_or o default)
    by None = (omega arith, refl)
    by (Some x) = (omega arith, refl)

pub one_from : {X : Type 0} (default : X) (xs : List X) (x : X) → IsOneOr default xs x → (r : Option X) × (xs ≡ option_to_list r) × (x ≡ unwrap_or r default)
one_from default [] x h = (None, refl, h.1)
one_from default (y ∷ []) x h = (Some y, refl, h.1)
one_from default (y ∷ z ∷ ys) x h = absurd (let few = h.0 in omega (arith, few))

-- ---- a mark

abbrev pub marks : {X : Type 0} → X → Bool → List X
marks x true = x ∷ []
marks x false = []

was_free : {X : Type 0} (x : X) (b c : Bool) (xs : List X) → marks x b ++ (x ∷ xs) ≡ marks x c → b ≡ false
was_free x false c xs e = refl
was_free x true false xs e = absurd cc
was_free x true true xs e = absurd cc

pub marked : {X : Type 0} (x : X) (b c : Bool) (xs : List X) → b ≡ false → (x ∷ xs) ≡ marks x c → marks x b ++ (x ∷ xs) ≡ marks x c
marked x b c xs n e = ap (λ a. marks x a ++ (x ∷ xs)) n ∙ e

pub was_marked : {X : Type 0} (x : X) (b c : Bool) (xs : List X) → marks x b ++ (x ∷ xs) ≡ marks x c → (x ∷ xs) ≡ marks x c
was_marked x b c xs e = sym (ap (λ a. marks x a ++ (x ∷ xs)) (was_free x b c xs e)) ∙ e

pub unmarked : {S X : Type 0} (x : X) (b c : Bool) (xs : List X) (made : S) (f : S → Option S) → marks x b ++ (x ∷ xs) ≡ marks x c
    → option_and_then f (cond b None (Some made)) ≡ f made
unmarked x b c xs made f e = ap (option_and_then f) (cond-false b None (Some made) (was_free x b c xs e))

pub same_mark : {X : Type 0} (x : X) (b c : Bool) → marks x b ++ [] ≡ marks x c → b ≡ c
same_mark x false false e = refl
same_mark x false true e = absurd cc
same_mark x true false e = absurd cc
same_mark x true true e = refl

pub mark_to : {X : Type 0} (x : X) (xs : List X) (b : Bool) → xs ≡ marks x b → length xs ≤ 1
mark_to {X = X} x xs b e = subst (λ ys. length ys ≤ 1) (sym e) (by b)
  where
    by : (c : Bool) → length (marks x c) ≤ 1
    by false = omega arith
    by true = omega arith
