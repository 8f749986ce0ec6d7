-- The initial state, member by member of `:init`.
use Rattle.std.proofs.Common.{◌≡◌, ℕ, zero, suc, ◌+◌, ◌<◌, ◌≤◌, Bool, true, false, cond, List, [], ◌∷◌, ◌++◌, ◌∙◌, ap, ap₂, refl, sym, length, take, get_or, nat_eq, nat_lt, slice_set, slice_get, ◌||◌, arith, add-one, replicate, Option, Some, None, unwrap_or}
use Rattle.std.proofs.Math.Seq.{take-suc}
use Rattle.std.proofs.lemmas.Bool.Decides.{nat_tests}
use Rattle.std.proofs.lemmas.List.{append-nil, take_all}
use Rattle.std.proofs.lemmas.Grind.{flat_map-append}
use Rattle.std.specs.List.{list_any, flat_map}
use Rattle.plus_fraction.specs.Fraction.{Fraction}
use Rattle.plus_model.specs.Terms.{State}
use Rattle.plus_model.specs.Value.{fluent_of}
use Rattle.plus_tokens.specs.declared.span.Span.{Span}
use Rattle.plus_tree.specs.declared.terms.Literal.{Literal}
use Rattle.plus_tree.specs.declared.terms.Use.{Use}
use Rattle.plus_tree.specs.declared.trees.Init.{Init}
use Rattle.plus_tree.specs.declared.trees.Init.TheVariants.{Holds, Absent, Value, At, AtNot}
use Rattle.plus_types.specs.Faults.{Context}
use Rattle.plus_literal.specs.Value.{literal_value}
use Rattle.plus_expansion.specs.Numbers.{ground_names}
use Rattle.plus_expansion.specs.Environments.{atom_number, fluent_number}
use Rattle.plus_expansion.specs.Expansion.{truths_from, values_from, value_given, held_by, given_by, initial_state}
use Rattle.plus_ground.specs.Entered.{with_atom, with_first, with_value, entered}

-- ---- what a list holds at each place from k on

from : {A : Type 0} → (ℕ → A) → ℕ → ℕ → List A
from f k zero = []
from f k (suc n) = f k ∷ from f (suc k) n

truths_as : (held : List ℕ) (k n : ℕ) → truths_from held k n ≡ from (λ j. list_any (nat_eq j) held) k n
unfolding from
truths_as held k zero = refl
truths_as held k (suc n) = ap (λ bs. list_any (nat_eq k) held ∷ bs) (truths_as held (suc k) n)

values_as : (given : List (ℕ × Fraction)) (k n : ℕ) → values_from given k n ≡ from (λ j. value_given j given) k n
unfolding from
values_as given k zero = refl
values_as given k (suc n) = ap (λ bs. value_given k given ∷ bs) (values_as given (suc k) n)

from_same : {A : Type 0} (f g : ℕ → A) (k n : ℕ) → ((j : ℕ) → k ≤ j → j < k + n → f j ≡ g j) → from f k n ≡ from g k n
unfolding from
from_same f g k zero h = refl
from_same f g k (suc n) h = ap₂ (λ x xs. x ∷ xs) (h k (omega arith) (omega arith)) (from_same f g (suc k) n (λ j a b. h j (omega arith) (omega arith)))

from_set : {A : Type 0} (f g : ℕ → A) (k n a : ℕ) (y : A) → a < n → y ≡ g (k + a) → ((j : ℕ) → (j ≡ k + a → ⊥) → f j ≡ g j) → slice_set (from f k n) a y ≡ from g k n
unfolding from
from_set f g k zero a y h e w = absurd (omega arith)
from_set f g k (suc n) zero y h e w =
    let z : k + 0 ≡ k = omega arith in
    ap₂ (λ x xs. x ∷ xs) (e ∙ ap g z) (from_same f g (suc k) n (λ j a b. w j (λ q. omega arith)))
from_set f g k (suc n) (suc a) y h e w =
    let z : k + suc a ≡ suc k + a = omega arith in
    ap₂ (λ x xs. x ∷ xs) (w k (λ q. omega arith)) (from_set f g (suc k) n a y (omega arith) (e ∙ ap g z) (λ j q. w j (λ r. q (r ∙ z))))

from_get : {A : Type 0} (f : ℕ → A) (k n a : ℕ) → a < n → slice_get (from f k n) a ≡ Some (f (k + a))
unfolding from
from_get f k zero a h = absurd (omega arith)
from_get f k (suc n) zero h = let z : k ≡ k + 0 = omega arith in ap (λ j. Some (f j)) z
from_get f k (suc n) (suc a) h = let z : suc k + a ≡ k + suc a = omega arith in from_get f (suc k) n a (omega arith) ∙ ap (λ j. Some (f j)) z

from_length : {A : Type 0} (f : ℕ → A) (k n : ℕ) → length (from f k n) ≡ n
unfolding from
from_length f k zero = refl
from_length f k (suc n) = ap suc (from_length f (suc k) n)

-- ---- one atom or one value more

unlike : (j n : ℕ) → (j ≡ n → ⊥) → nat_eq j n ≡ false
unlike j n h = grind (arith, nat_tests)

alike : (n : ℕ) → nat_eq n n ≡ true
alike n = grind (arith, nat_tests)

any_other : (j n : ℕ) (held : List ℕ) → nat_eq j n ≡ false → list_any (nat_eq j) held ≡ list_any (nat_eq j) (held ++ n ∷ [])
any_other j n [] e = rw e refl
any_other j n (h ∷ hs) e = ap (λ b. nat_eq j h || b) (any_other j n hs e)

or_true : (b : Bool) → true ≡ (b || true)
or_true true = refl
or_true false = refl

any_new : (n : ℕ) (held : List ℕ) → true ≡ list_any (nat_eq n) (held ++ n ∷ [])
any_new n [] = rw alike refl
any_new n (h ∷ hs) = or_true (nat_eq n h) ∙ ap (λ b. nat_eq n h || b) (any_new n hs)

given_other : (j n : ℕ) (x : Fraction) (gs : List (ℕ × Fraction)) → nat_eq j n ≡ false → value_given j gs ≡ value_given j (gs ++ (n, x) ∷ [])
given_other j n x [] e = rw e refl
given_other j n x (g ∷ gs) e = ap (λ o. cond (nat_eq j g.0) (Some g.1) o) (given_other j n x gs e)

given_new : (n : ℕ) (x : Fraction) (gs : List (ℕ × Fraction)) → value_given n gs ≡ None → Some x ≡ value_given n (gs ++ (n, x) ∷ [])
given_new n x [] e = rw alike refl
given_new n x (g ∷ gs) e = by (nat_eq n g.0) e (given_new n x gs)
  where
    by : (b : Bool) → cond b (Some g.1) (value_given n gs) ≡ None → (value_given n gs ≡ None → Some x ≡ value_given n (gs ++ (n, x) ∷ [])) → Some x ≡ cond b (Some g.1) (value_given n (gs ++ (n, x) ∷ []))
    by true q more = cc
    by false q more = more q

given_old : (n : ℕ) (x y : Fraction) (gs : List (ℕ × Fraction)) → value_given n gs ≡ Some y → value_given n gs ≡ value_given n (gs ++ (n, x) ∷ [])
given_old n x y [] e = cc
given_old n x y (g ∷ gs) e = by (nat_eq n g.0) e (given_old n x y gs)
  where
    by : (b : Bool) → cond b (Some g.1) (value_given n gs) ≡ Some y → (value_given n gs ≡ Some y → value_given n gs ≡ value_given n (gs ++ (n, x) ∷ []))
        → cond b (Some g.1) (value_given n gs) ≡ cond b (Some g.1) (value_given n (gs ++ (n, x) ∷ []))
    by true q more = refl
    by false q more = more q

-- ---- a member more

abbrev state : List Bool → List (Option Fraction) → State
state truths values = record { atoms = truths; fluents = values }

atom_more : (held : List ℕ) (most n : ℕ) (values : List (Option Fraction)) → with_atom n (state (truths_from held 0 most) values) ≡ state (truths_from (held ++ n ∷ []) 0 most) values
atom_more held most n values = by (nat_lt n (length (truths_from held 0 most))) refl
  where
    len : length (truths_from held 0 most) ≡ most
    len = ap length (truths_as held 0 most) ∙ from_length (λ j. list_any (nat_eq j) held) 0 most

    by :
        (b : Bool) → nat_lt n (length (truths_from held 0 most)) ≡ b
        → cond b (state (slice_set (truths_from held 0 most) n true) values) (state (truths_from held 0 most) values) ≡ state (truths_from (held ++ n ∷ []) 0 most) values
    by true q =
        let h : n < length (truths_from held 0 most) = grind (arith, nat_tests) in
        let k : n < most = omega (arith, len) in
        let f = λ (j : ℕ). list_any (nat_eq j) held in
        let g = λ (j : ℕ). list_any (nat_eq j) (held ++ n ∷ []) in
        ap (λ bs. state bs values) (ap (λ bs. slice_set bs n true) (truths_as held 0 most)
        ∙ from_set f g 0 most n true k (any_new n held ∙ ap g (sym (plus n))) (λ j r. any_other j n held (unlike j n (λ s. r (s ∙ sym (plus n)))))
        ∙ sym (truths_as (held ++ n ∷ []) 0 most))
      where
        plus : (n : ℕ) → 0 + n ≡ n
        plus n = omega arith
    by false q =
        let h : length (truths_from held 0 most) ≤ n = grind (arith, nat_tests) in
        let k : most ≤ n = omega (arith, len) in
        ap (λ bs. state bs values) (truths_as held 0 most
        ∙ from_same (λ j. list_any (nat_eq j) held) (λ j. list_any (nat_eq j) (held ++ n ∷ [])) 0 most (λ j a b. any_other j n held (unlike j n (λ s. omega arith)))
        ∙ sym (truths_as (held ++ n ∷ []) 0 most))

value_more :
    (given : List (ℕ × Fraction)) (most n : ℕ) (x : Fraction) (truths : List Bool)
    → with_value n x (state truths (values_from given 0 most)) ≡ state truths (values_from (given ++ (n, x) ∷ []) 0 most)
value_more given most n x truths = by (nat_lt n (length (values_from given 0 most))) refl
  where
    len : length (values_from given 0 most) ≡ most
    len = ap length (values_as given 0 most) ∙ from_length (λ j. value_given j given) 0 most

    plus : 0 + n ≡ n
    plus = omega arith

    held : n < most → fluent_of (state truths (values_from given 0 most)) n ≡ value_given n given
    held h =
        ap (λ vs. unwrap_or (slice_get vs n) None) (values_as given 0 most) ∙ ap (λ o. unwrap_or o None) (from_get (λ j. value_given j given) 0 most n h) ∙ ap (λ j. value_given j given) plus

    first : n < most → (o : Option Fraction) → value_given n given ≡ o → with_first n x (state truths (values_from given 0 most)) o ≡ state truths (values_from (given ++ (n, x) ∷ []) 0 most)
    first h None e =
        let f = λ (j : ℕ). value_given j given in
        let g = λ (j : ℕ). value_given j (given ++ (n, x) ∷ []) in
        ap (state truths) (ap (λ vs. slice_set vs n (Some x)) (values_as given 0 most)
        ∙ from_set f g 0 most n (Some x) h (given_new n x given e ∙ ap g (sym plus)) (λ j r. given_other j n x given (unlike j n (λ s. r (s ∙ sym plus))))
        ∙ sym (values_as (given ++ (n, x) ∷ []) 0 most))
    first h (Some y) e =
        ap (state truths) (values_as given 0 most
        ∙ from_same (λ j. value_given j given) (λ j. value_given j (given ++ (n, x) ∷ [])) 0 most (λ j a b. same j (nat_eq j n) refl)
        ∙ sym (values_as (given ++ (n, x) ∷ []) 0 most))
      where
        same : (j : ℕ) (b : Bool) → nat_eq j n ≡ b → value_given j given ≡ value_given j (given ++ (n, x) ∷ [])
        same j true q = let s : j ≡ n = grind (arith, nat_tests) in rw s (given_old n x y given e)
        same j false q = given_other j n x given q

    by :
        (b : Bool) → nat_lt n (length (values_from given 0 most)) ≡ b
        → cond b (with_first n x (state truths (values_from given 0 most)) (fluent_of (state truths (values_from given 0 most)) n)) (state truths (values_from given 0 most))
        ≡ state truths (values_from (given ++ (n, x) ∷ []) 0 most)
    by true q =
        let h : n < length (values_from given 0 most) = grind (arith, nat_tests) in
        let k : n < most = omega (arith, len) in
        first k (fluent_of (state truths (values_from given 0 most)) n) (sym (held k))
    by false q =
        let h : length (values_from given 0 most) ≤ n = grind (arith, nat_tests) in
        let k : most ≤ n = omega (arith, len) in
        ap (state truths) (values_as given 0 most
        ∙ from_same (λ j. value_given j given) (λ j. value_given j (given ++ (n, x) ∷ [])) 0 most (λ j a b. given_other j n x given (unlike j n (λ s. omega arith)))
        ∙ sym (values_as (given ++ (n, x) ∷ []) 0 most))

flat_push : {X A : Type 0} (f : X → List A) (xs : List X) (x : X) → flat_map f (xs ++ x ∷ []) ≡ flat_map f xs ++ f x
flat_push f xs x = flat_map-append f xs (x ∷ []) ∙ ap (λ ys. flat_map f xs ++ ys) (append-nil (f x))

-- the state of members by the atoms that they hold and the values that they give
abbrev state_of : Context → List ℕ → List (ℕ × Fraction) → State
state_of c held given = state (truths_from held 0 (length (ground_names c c.predicates))) (values_from given 0 (length (ground_names c c.functions)))

entered_more : (c : Context) (held : List ℕ) (given : List (ℕ × Fraction)) (x : Init) → entered c x (state_of c held given) ≡ state_of c (held ++ held_by c x) (given ++ given_by c x)
entered_more c held given (Holds u) =
    atom_more held (length (ground_names c c.predicates)) (atom_number c [] u) (values_from given 0 (length (ground_names c c.functions)))
    ∙ ap (state_of c (held ++ atom_number c [] u ∷ [])) (sym (append-nil given))
entered_more c held given (Value u n s) =
    value_more given (length (ground_names c c.functions)) (fluent_number c [] u) (literal_value n) (truths_from held 0 (length (ground_names c c.predicates)))
    ∙ ap (λ hs. state_of c hs (given ++ (fluent_number c [] u, literal_value n) ∷ [])) (sym (append-nil held))
entered_more c held given (Absent u s) = ap₂ (state_of c) (sym (append-nil held)) (sym (append-nil given))
entered_more c held given (At t u s) = ap₂ (state_of c) (sym (append-nil held)) (sym (append-nil given))
entered_more c held given (AtNot t u s) = ap₂ (state_of c) (sym (append-nil held)) (sym (append-nil given))

-- one more member of `:init` is entered
pub initial_more :
    (c : Context) (inits : List Init) (i : ℕ) (x : Init) (s t : State)
    → i < length inits → x ≡ get_or inits i x → s ≡ initial_state c (take i inits) → t ≡ entered c x s
    → t ≡ initial_state c (take (i + 1) inits)
initial_more c inits i x s t h m w n =
    let next : take (i + 1) inits ≡ take i inits ++ x ∷ [] = rw add-one (take-suc inits i x h ∙ ap (λ y. take i inits ++ y ∷ []) (sym m)) in
    n ∙ ap (entered c x) w ∙ entered_more c (flat_map (held_by c) (take i inits)) (flat_map (given_by c) (take i inits)) x
    ∙ sym (ap₂ (state_of c) (ap (flat_map (held_by c)) next ∙ flat_push (held_by c) (take i inits) x) (ap (flat_map (given_by c)) next ∙ flat_push (given_by c) (take i inits) x))

no_truths : (k n : ℕ) → replicate n false ≡ truths_from [] k n
no_truths k zero = refl
no_truths k (suc n) = ap (λ bs. false ∷ bs) (no_truths (suc k) n)

no_values : (k n : ℕ) → replicate n None ≡ values_from [] k n
no_values k zero = refl
no_values k (suc n) = ap (λ vs. None ∷ vs) (no_values (suc k) n)

-- before the first member no atom is true and no fluent has a value
pub initial_start :
    (c : Context) (inits : List Init) (atoms fluents : ℕ) (s : State)
    → s ≡ record { atoms = replicate atoms false; fluents = replicate fluents None }
    → atoms ≡ length (ground_names c c.predicates) → fluents ≡ length (ground_names c c.functions) → s ≡ initial_state c (take 0 inits)
initial_start c inits atoms fluents s e a f =
    e ∙ ap₂ state (ap (λ n. replicate n false) a ∙ no_truths 0 (length (ground_names c c.predicates)))
    (ap (λ n. replicate n None) f ∙ no_values 0 (length (ground_names c c.functions)))

-- what a member of `:init` does, by its kind
pub holds_entered :
    (c : Context) (env : List (List ℕ × ℕ)) (member : Init) (u : Use) (n : ℕ) (s t : State)
    → member ≡ Holds u → env ≡ [] → n ≡ atom_number c env u → t ≡ with_atom n s → t ≡ entered c member s
holds_entered c env member u n s t m e k w =
    w ∙ ap (λ j. with_atom j s) (k ∙ ap (λ v. atom_number c v u) e) ∙ ap (λ x. entered c x s) (sym m)

pub value_entered :
    (c : Context) (env : List (List ℕ × ℕ)) (member : Init) (u : Use) (l : Literal) (span : Span) (n : ℕ) (s t : State)
    → member ≡ Value u l span → env ≡ [] → n ≡ fluent_number c env u → t ≡ with_value n (literal_value l) s → t ≡ entered c member s
value_entered c env member u l span n s t m e k w =
    w ∙ ap (λ j. with_value j (literal_value l) s) (k ∙ ap (λ v. fluent_number c v u) e) ∙ ap (λ x. entered c x s) (sym m)
