-- The members of a settled running set, and how many rates it has.
use Rattle.std.proofs.Common.{◌≡◌, ℕ, ◌<◌, zero, suc, Bool, true, false, List, [], ◌∷◌, length, replicate, refl, ap, sym, subst, ◌∙◌, arith}
use Rattle.std.proofs.lemmas.List.Elements.{All-nil, All-cons}
use Rattle.std.specs.Prelude.{Option, Some, None, IsSomeAnd, Result, Ok, Err, All, slice_get, pos}
use Rattle.plus_fraction.specs.Fraction.{Fraction, whole}
use Rattle.plus_model.specs.Terms.{Rate, Process, State, Problem}
use Rattle.plus_model.specs.Value.{value, fluent_of}
use Rattle.plus_model.specs.Firing.{is_in}
use Rattle.plus_model.specs.Running.{JustAfter, GoesOn, Settled, add_at, rated, then_rates, add_rates, rates_at, sum_rates, rates}
use Rattle.plus_model.proofs.Members.{in_first, in_later}
use Rattle.plus_settle.specs.Members.{AreMembers}
use Rattle.plus_timeline.specs.Timeline.{TimelineView}
use Rattle.plus_timeline.specs.Serving.{Serves}

-- ---- rates

added_size : (k : ℕ) (x : Fraction) (ys : List Fraction) → length (add_at k x ys) ≡ length ys
added_size k x [] = refl
added_size zero x (y ∷ ys) = refl
added_size (suc k) x (y ∷ ys) = ap suc (added_size k x ys)

abbrev sums_of : Result (List Fraction) ℕ → List Fraction → List Fraction
sums_of (Err f) sums = sums
sums_of (Ok new) sums = new

rated_size : (f : ℕ) (up : Bool) (x v : Option Fraction) (sums : List Fraction) → length (sums_of (rated f up x v sums) sums) ≡ length sums
rated_size f up None v sums = refl
rated_size f up (Some x) None sums = refl
rated_size f true (Some x) (Some v) sums = added_size f x sums
rated_size f false (Some x) (Some v) sums = added_size f _ sums

is_ok : (r : Result (List Fraction) ℕ) (sums out : List Fraction) → r ≡ Ok out → length (sums_of r sums) ≡ length sums → length out ≡ length sums
is_ok r sums out e h = ap (λ (q : Result (List Fraction) ℕ). length (sums_of q sums)) (sym e) ∙ h

then_size : (n : ℕ) (r : Result (List Fraction) ℕ) (more : List Fraction → Result (List Fraction) ℕ) (out : List Fraction) → ((x : List Fraction) → r ≡ Ok x → length x ≡ n) → ((x o : List Fraction) → length x ≡ n → more x ≡ Ok o → length o ≡ n) → then_rates r more ≡ Ok out → length out ≡ n
then_size n (Err f) more out a b e = cc
then_size n (Ok x) more out a b e = b x out (a x refl) e

all_size : (rs : List Rate) (s : State) (sums out : List Fraction) → add_rates rs s sums ≡ Ok out → length out ≡ length sums
all_size [] s sums out e = is_ok (Ok sums) sums out e refl
all_size (r ∷ rs) s sums out e =
    then_size (length sums) (rated r.fluent r.up (value r.amount s) (fluent_of s r.fluent) sums) (add_rates rs s) out
    (λ x q. is_ok _ sums x q (rated_size r.fluent r.up (value r.amount s) (fluent_of s r.fluent) sums))
    (λ x o h q. all_size rs s x o q ∙ h) e

sum_size : (P : Problem) (ps : List ℕ) (s : State) (sums out : List Fraction) → sum_rates P ps s sums ≡ Ok out → length out ≡ length sums
sum_size P [] s sums out e = is_ok (Ok sums) sums out e refl
sum_size P (p ∷ ps) s sums out e =
    then_size (length sums) (add_rates (rates_at (slice_get P.processes p)) s sums) (sum_rates P ps s) out
    (λ x q. all_size (rates_at (slice_get P.processes p)) s sums x q)
    (λ x o h q. sum_size P ps s x o q ∙ h) e

zeros_size : (n : ℕ) (x : Fraction) → length (replicate n x) ≡ n
zeros_size zero x = refl
zeros_size (suc n) x = ap suc (zeros_size n x)

pub rates_size : (P : Problem) (s : State) (members : List ℕ) (rs : List Fraction) → rates P s members ≡ Ok rs → length rs ≡ length s.fluents
unfolding rates
rates_size P s members rs e = sum_size P members s (replicate (length s.fluents) (whole (pos 0))) rs e ∙ zeros_size (length s.fluents) (whole (pos 0))

-- ---- members

-- a member that has a property stands in the list
pub inside_list : {A : Type 0} (xs : List A) (k : ℕ) (Q : A → Type 0) → IsSomeAnd (slice_get xs k) Q → k < length xs
inside_list [] k Q h = elim h [ ]
inside_list (x ∷ xs) zero Q h = omega arith
inside_list (x ∷ xs) (suc k) Q h = let i = inside_list xs k Q h in omega arith

all_inside : (n : ℕ) (xs : List ℕ) → ((k : ℕ) → is_in xs k ≡ true → k < n) → All (λ p. p < n) xs
all_inside n [] h = All-nil (λ p. p < n)
all_inside n (x ∷ xs) h = All-cons (λ p. p < n) x xs (h x (in_first x xs)) (all_inside n xs (λ k e. h k (in_later k x xs e)))

pub members_are : (P : Problem) (s : State) (rs : List Fraction) (members : List ℕ) → GoesOn P s rs members → AreMembers (length P.processes) members
members_are P s rs members g = record {
  inside = all_inside (length P.processes) members (λ k e. inside_list P.processes k (λ (p : Process). JustAfter s rs p.condition) ((g.members k).0 e));
  rising = g.rising;
}

-- along a running set, by the view of the fields
pub settled_as : (P : Problem) {v old : TimelineView} → v ≡ old → Serves P old → old.now.running ≡ Some old.running → Settled P v.now.state v.running v.rates
settled_as P p s r = subst (λ (w : TimelineView). Settled P w.now.state w.running w.rates) (sym p) (s.runs _ r)
