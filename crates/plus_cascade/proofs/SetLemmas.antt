-- The set of the events that have fired, and the list of them.
use Rattle.std.proofs.Common.{◌≡◌, ℕ, ◌<◌, ◌+◌, zero, suc, Bool, true, false, ◌||◌, List, [], ◌∷◌, ◌++◌, length, get_or, set, replicate, cond, refl, ap, ap₂, sym, subst, ◌∙◌, arith}
use Rattle.std.proofs.lemmas.List.{length-set, get_or-set_same, get_or-set_other}
use Rattle.std.proofs.lemmas.Bool.{eqb-true, eqb-false}
use Rattle.std.proofs.lemmas.Option.{unwrap_or-slice_get}
use Rattle.std.specs.Prelude.{Option, Some, find, nat_eq, if◌then◌else◌}
use Rattle.std.proofs.lemmas.List.Elements.{All-nil, All-cons, All-head, All-tail}
use Rattle.std.specs.List.{All}
use Rattle.plus_model.specs.Terms.{Event, State, Problem}
use Rattle.plus_model.specs.Value.{holds}
use Rattle.plus_model.specs.Firing.{numbers_of, firing, is_in, first_shared}
use Rattle.plus_cascade.specs.Fired.{has_fired, first_repeated, with_fired, IsSetOf}
use Rattle.plus_cascade.specs.Laws.{EmptyAtFirst, RoundsGoOn}

none_fired : (n e : ℕ) → has_fired (replicate n false) e ≡ false
none_fired zero e = refl
none_fired (suc n) zero = refl
none_fired (suc n) (suc e) = none_fired n e

pub empty_at_first : EmptyAtFirst
empty_at_first n = record { same = none_fired n }

-- numbers below n
abbrev Below : ℕ → List ℕ → Type 0
Below n [] = Unit {0}
Below n (e ∷ es) = (e < n) × Below n es

below_choose : (n k : ℕ) (b : Bool) (es : List ℕ) → k < n → Below n es → Below n (if b then k ∷ es else es)
below_choose n k true es h r = (h, r)
below_choose n k false es h r = r

numbers_below : (s : State) (k n : ℕ) (es : List Event) → k + length es ≡ n → Below n (numbers_of (λ (e : Event). holds e.condition s) k es)
numbers_below s k n [] h = tt
numbers_below s k n (e ∷ es) h = below_choose n k (holds e.condition s) _ (omega arith) (numbers_below s (suc k) n es (omega arith))

or_true : (x : Bool) → x || true ≡ true
or_true true = refl
or_true false = refl

or_nil : (x : Bool) → x || false ≡ x
or_nil true = refl
or_nil false = refl

fired_by : (fired : List Bool) (e k : ℕ) (b : Bool) → e < length fired → nat_eq k e ≡ b → get_or (set fired e true) k false ≡ get_or fired k false || b
fired_by fired e k true h q =
    let same : k ≡ e = eqb-true k e q in
    subst (λ (n : ℕ). get_or (set fired e true) n false ≡ true) (sym same) (get_or-set_same fired e true false h) ∙ sym (or_true (get_or fired k false))
fired_by fired e k false h q = get_or-set_other fired e k true false (eqb-false k e q) ∙ sym (or_nil (get_or fired k false))

fired_here : (fired : List Bool) (e k : ℕ) → e < length fired → has_fired (set fired e true) k ≡ has_fired fired k || nat_eq k e
fired_here fired e k h =
    unwrap_or-slice_get (set fired e true) k false ∙ fired_by fired e k (nat_eq k e) h refl ∙ ap (λ (b : Bool). b || nat_eq k e) (sym (unwrap_or-slice_get fired k false))

or_assoc : (x y z : Bool) → (x || y) || z ≡ x || (y || z)
or_assoc true y z = refl
or_assoc false y z = refl

fired_more : (fired : List Bool) (es : List ℕ) (k : ℕ) → Below (length fired) es → has_fired (with_fired fired es) k ≡ has_fired fired k || is_in es k
fired_more fired [] k h = sym (or_nil (has_fired fired k))
fired_more fired (e ∷ es) k h =
    fired_more (set fired e true) es k (rw length-set h.1) ∙ ap (λ (b : Bool). b || is_in es k) (fired_here fired e k h.0) ∙ or_assoc (has_fired fired k) (nat_eq k e) (is_in es k)

from_all : (n : ℕ) (es : List ℕ) → All (λ e. e < n) es → Below n es
from_all n [] h = tt
from_all n (e ∷ es) h = (All-head (λ e. e < n) e es h, from_all n es (All-tail (λ e. e < n) e es h))

pub in_append : (xs ys : List ℕ) (k : ℕ) → is_in (xs ++ ys) k ≡ is_in xs k || is_in ys k
in_append [] ys k = refl
in_append (x ∷ xs) ys k = ap (λ (b : Bool). nat_eq k x || b) (in_append xs ys k) ∙ sym (or_assoc (nat_eq k x) (is_in xs k) (is_in ys k))

pub find_same : (f g : ℕ → Bool) (xs : List ℕ) → ((k : ℕ) → f k ≡ g k) → find f xs ≡ find g xs
find_same f g [] h = refl
find_same f g (x ∷ xs) h = ap₂ (λ (b : Bool) (o : Option ℕ). cond b (Some x) o) (h x) (find_same f g xs h)

firing_below : (P : Problem) (s : State) (n : ℕ) → length P.events ≡ n → Below n (firing P s)
unfolding firing
firing_below P s n h = numbers_below s 0 n P.events (let e : 0 + length P.events ≡ length P.events = omega arith in e ∙ h)

all_below : (n : ℕ) (es : List ℕ) → Below n es → All (λ e. e < n) es
all_below n [] h = All-nil (λ e. e < n)
all_below n (e ∷ es) h = All-cons (λ e. e < n) e es h.0 (all_below n es h.1)

pub firing_all : (P : Problem) (s : State) (n : ℕ) (es : List ℕ) → length P.events ≡ n → es ≡ firing P s → All (λ e. e < n) es
firing_all P s n es h e = subst (λ (xs : List ℕ). All (λ e. e < n) xs) (sym e) (all_below n (firing P s) (firing_below P s n h))

-- the set with these events too is that of the list with them
grown : (fired : List Bool) (before es : List ℕ) → Below (length fired) es → IsSetOf fired before → IsSetOf (with_fired fired es) (before ++ es)
grown fired before es h same = record {
  same = λ k. fired_more fired es k h ∙ ap (λ (b : Bool). b || is_in es k) (same.same k) ∙ sym (in_append before es k);
}

pub set_grows : (fired set : List Bool) (es : List ℕ) → All (λ e. e < length fired) es → set ≡ with_fired fired es → (before : List ℕ) → IsSetOf fired before → IsSetOf set (before ++ es)
set_grows fired set es h e before same = subst (λ (x : List Bool). IsSetOf x (before ++ es)) (sym e) (grown fired before es (from_all _ es h) same)

pub rounds_go_on : RoundsGoOn
unfolding first_shared first_repeated
rounds_go_on P fired before s events after n same f = (
  record {
    all = f.all;
    some = f.some;
    fresh = sym (find_same (has_fired fired) (is_in before) events same.same) ∙ f.fresh;
    effect = f.effect;
  },
  grown fired before events (subst (Below (length fired)) (sym f.all) (firing_below P s (length fired) (sym n))) same,
)
