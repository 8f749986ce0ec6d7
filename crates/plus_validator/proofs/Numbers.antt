-- The numbers of events, processes and fluents that a step or a breach names are places in their lists.
use Rattle.std.proofs.Common.{◌≡◌, ℕ, zero, suc, ◌<◌, ◌≤◌, Bool, true, false, List, [], ◌∷◌, ◌++◌, map, subst, ◌⊎◌, inl, inr, pos, arith}
use Rattle.std.specs.Prelude.{Option, Some, None, Result, Ok, Err, IfErr, All, length, replicate, slice_get, find, if◌then◌else◌}
use Rattle.std.proofs.lemmas.Bool.{cases_lt}
use Rattle.std.proofs.lemmas.List.Elements.{All-nil, All-cons, All-head, All-tail, All-append}
use Rattle.plus_fraction.specs.Fraction.{Fraction, whole}
use Rattle.plus_model.specs.Terms.{Expression, Number, Fluent, Sum, Difference, Product, Quotient, Effect, Event, Process, Rate, State, Problem}
use Rattle.plus_model.specs.Value.{value, fluent_of}
use Rattle.plus_model.specs.Firing.{firing, is_in, first_shared, effects_at, effects_of}
use Rattle.plus_model.specs.Running.{rated, then_rates, add_rates, rates_at, sum_rates, rates, RunsAfter, GoesOn, names, names_of_rates, named_pairs, first_coupled}
use Rattle.plus_model.specs.Breach.{Differs, HoldsAfter}
use Rattle.plus_settle.proofs.MembersLemmas.{all_in}
use Rattle.plus_timeline.proofs.Members.{inside_list, members_are}
use Rattle.plus_timeline.proofs.Unfired.{firing_below}
use Rattle.plus_state.specs.Fits.{IsIn, AllEffectsFit, RateFits, EventFits, ProcessFits, ProblemFits}

pub runs_below : (P : Problem) (s : State) (rs : List Fraction) (p : ℕ) → RunsAfter P s rs p → p < length P.processes
runs_below P s rs p h = inside_list P.processes p _ h

pub set_below : (P : Problem) (s : State) (rs : List Fraction) (R : List ℕ) → GoesOn P s rs R → All (λ p. p < length P.processes) R
set_below P s rs R g = (members_are P s rs R g).inside

-- what is found in a list has what all members have
found_by : {A : Type 0} (Q : A → Type 0) (b : Bool) (x : A) (o : Option A) (y : A) → Q x → (o ≡ Some y → Q y) → (if b then Some x else o) ≡ Some y → Q y
found_by Q true x o y h f e = (let d : x ≡ y = cc e in subst Q d h)
found_by Q false x o y h f e = f e

found_in : {A : Type 0} (test : A → Bool) (Q : A → Type 0) (xs : List A) (y : A) → find test xs ≡ Some y → All Q xs → Q y
found_in test Q [] y e a = absurd (cc e)
found_in test Q (x ∷ xs) y e a = found_by Q (test x) x (find test xs) y (All-head Q x xs a) (λ d. found_in test Q xs y d (All-tail Q x xs a)) e

-- ---- events

pub repeats_below : (P : Problem) (s : State) (fired : List ℕ) (e : ℕ) → first_shared (firing P s) fired ≡ Some e → e < length P.events
unfolding first_shared
repeats_below P s fired e h = found_in (is_in fired) (λ k. k < length P.events) (firing P s) e h (firing_below P s)

pub after_below : (P : Problem) (s : State) (rs : List Fraction) (e : ℕ) → HoldsAfter P s rs e → e < length P.events
after_below P s rs e h = inside_list P.events e _ h

effects_in : (n m : ℕ) (es : List Event) (k : ℕ) → All (EventFits n m) es → AllEffectsFit n m (effects_at (slice_get es k))
effects_in n m [] k a = tt
effects_in n m (e ∷ es) zero a = (All-head (EventFits n m) e es a).effects
effects_in n m (e ∷ es) (suc k) a = effects_in n m es k (All-tail (EventFits n m) e es a)

effects_both : (n m : ℕ) (es fs : List Effect) → AllEffectsFit n m es → AllEffectsFit n m fs → AllEffectsFit n m (es ++ fs)
effects_both n m [] fs a b = b
effects_both n m (e ∷ es) fs a b = (a.0, effects_both n m es fs a.1 b)

-- the effects of events are those of the problem
pub round_fits : (P : Problem) (es : List ℕ) → ProblemFits P → AllEffectsFit P.atoms P.fluents (effects_of P es)
unfolding effects_of
round_fits P [] f = tt
round_fits P (e ∷ es) f = effects_both P.atoms P.fluents (effects_at (slice_get P.events e)) (effects_of P es) (effects_in P.atoms P.fluents P.events e f.events) (round_fits P es f)

-- ---- processes

differs_by : (P : Problem) (s : State) (rs : List Fraction) (R : List ℕ) (p : ℕ) → All (λ k. k < length P.processes) R → Differs P s R rs p → (p < length P.processes) ⊎ (length P.processes ≤ p) → p < length P.processes
differs_by P s rs R p a d (inl h) = h
differs_by P s rs R p a d (inr h) = absurd (d (
  λ i. absurd (let l = all_in (length P.processes) R p a i in omega arith),
  λ r. absurd (let l = runs_below P s rs p r in omega arith),
))

-- a process that runs and is no member, or the other way round
pub differs_below : (P : Problem) (s : State) (rs : List Fraction) (R : List ℕ) (p : ℕ) → All (λ k. k < length P.processes) R → Differs P s R rs p → p < length P.processes
differs_below P s rs R p a d = differs_by P s rs R p a d (cases_lt p (length P.processes))

-- ---- fluents

names_in : (n : ℕ) (e : Expression) → IsIn n e → All (λ f. f < n) (names e)
names_in n (Number x) h = All-nil (λ f. f < n)
names_in n (Fluent f) h = All-cons (λ g. g < n) f [] h (All-nil (λ g. g < n))
names_in n (Sum a b) h = All-append (λ f. f < n) (names a) (names b) (names_in n a h.0) (names_in n b h.1)
names_in n (Difference a b) h = All-append (λ f. f < n) (names a) (names b) (names_in n a h.0) (names_in n b h.1)
names_in n (Product a b) h = All-append (λ f. f < n) (names a) (names b) (names_in n a h.0) (names_in n b h.1)
names_in n (Quotient a b) h = All-append (λ f. f < n) (names a) (names b) (names_in n a h.0) (names_in n b h.1)

named_in : (n : ℕ) (rs : List Rate) → All (RateFits n) rs → All (λ f. f < n) (names_of_rates rs)
named_in n [] a = All-nil (λ f. f < n)
named_in n (r ∷ rs) a =
    All-append (λ f. f < n) (names r.amount) (names_of_rates rs) (names_in n r.amount (All-head (RateFits n) r rs a).1) (named_in n rs (All-tail (RateFits n) r rs a))

rates_in : (n m : ℕ) (ps : List Process) (k : ℕ) → All (ProcessFits n m) ps → All (RateFits m) (rates_at (slice_get ps k))
rates_in n m [] k a = All-nil (RateFits m)
rates_in n m (p ∷ ps) zero a = (All-head (ProcessFits n m) p ps a).rates
rates_in n m (p ∷ ps) (suc k) a = rates_in n m ps k (All-tail (ProcessFits n m) p ps a)

-- a process and a fluent of the problem
abbrev PairIn : Problem → ℕ × ℕ → Type 0
PairIn P c = (c.0 < length P.processes) × (c.1 < P.fluents)

pairs_of : (P : Problem) (p : ℕ) (fs : List ℕ) → p < length P.processes → All (λ f. f < P.fluents) fs → All (PairIn P) (map (λ f. (p, f)) fs)
pairs_of P p [] h a = All-nil (PairIn P)
pairs_of P p (f ∷ fs) h a = All-cons (PairIn P) (p, f) (map (λ f. (p, f)) fs) (h, All-head (λ f. f < P.fluents) f fs a) (pairs_of P p fs h (All-tail (λ f. f < P.fluents) f fs a))

pairs_in : (P : Problem) (R : List ℕ) → ProblemFits P → All (λ p. p < length P.processes) R → All (PairIn P) (named_pairs P R)
pairs_in P [] f a = All-nil (PairIn P)
pairs_in P (p ∷ R) f a =
    All-append (PairIn P) (map (λ g. (p, g)) (names_of_rates (rates_at (slice_get P.processes p)))) (named_pairs P R)
    (pairs_of P p _ (All-head (λ p. p < length P.processes) p R a) (named_in P.fluents _ (rates_in P.atoms P.fluents P.processes p f.processes)))
    (pairs_in P R f (All-tail (λ p. p < length P.processes) p R a))

-- the first member with a rate that reads a moving fluent, and that fluent
pub coupled_below : (P : Problem) (R : List ℕ) (rs : List Fraction) (p f : ℕ) → ProblemFits P → All (λ k. k < length P.processes) R → first_coupled P R rs ≡ Some (p, f) → (p < length P.processes) × (f < P.fluents)
unfolding first_coupled
coupled_below P R rs p f fits a h = found_in _ (PairIn P) (named_pairs P R) (p, f) h (pairs_in P R fits a)

rated_fault : (m f : ℕ) (up : Bool) (o v : Option Fraction) (sums : List Fraction) → f < m → IfErr (rated f up o v sums) (λ g. g < m)
rated_fault m f up None v sums h = h
rated_fault m f up (Some x) None sums h = h
rated_fault m f true (Some x) (Some v) sums h = tt
rated_fault m f false (Some x) (Some v) sums h = tt

then_fault : (m : ℕ) (r : Result (List Fraction) ℕ) (more : List Fraction → Result (List Fraction) ℕ) → IfErr r (λ g. g < m) → ((sums : List Fraction) → IfErr (more sums) (λ g. g < m)) → IfErr (then_rates r more) (λ g. g < m)
then_fault m (Err f) more h k = h
then_fault m (Ok sums) more h k = k sums

add_fault : (m : ℕ) (rs : List Rate) (s : State) (sums : List Fraction) → All (RateFits m) rs → IfErr (add_rates rs s sums) (λ g. g < m)
add_fault m [] s sums a = tt
add_fault m (r ∷ rs) s sums a =
    then_fault m (rated r.fluent r.up (value r.amount s) (fluent_of s r.fluent) sums) (add_rates rs s)
    (rated_fault m r.fluent r.up (value r.amount s) (fluent_of s r.fluent) sums (All-head (RateFits m) r rs a).0) (λ more. add_fault m rs s more (All-tail (RateFits m) r rs a))

sum_fault : (P : Problem) (R : List ℕ) (s : State) (sums : List Fraction) → ProblemFits P → IfErr (sum_rates P R s sums) (λ g. g < P.fluents)
sum_fault P [] s sums f = tt
sum_fault P (p ∷ R) s sums f =
    then_fault P.fluents (add_rates (rates_at (slice_get P.processes p)) s sums) (sum_rates P R s)
    (add_fault P.fluents _ s sums (rates_in P.atoms P.fluents P.processes p f.processes)) (λ more. sum_fault P R s more f)

-- the fluent for which there are no rates
pub rates_below : (P : Problem) (s : State) (R : List ℕ) (f : ℕ) → ProblemFits P → rates P s R ≡ Err f → f < P.fluents
unfolding rates
rates_below P s R f fits e = subst (λ (r : Result (List Fraction) ℕ). IfErr r (λ g. g < P.fluents)) e (sum_fault P R s (replicate (length s.fluents) (whole (pos 0))) fits)
