-- With each round fewer events are left that have not fired.
use Rattle.std.proofs.Common.{◌≡◌, ◌≢◌, ℕ, zero, suc, ◌+◌, ◌<◌, ◌≤◌, Bool, true, false, ◌||◌, List, [], ◌∷◌, ◌++◌, refl, ap, sym, subst, ◌∙◌, inl, inr, ◌⊎◌, arith}
use Rattle.std.proofs.lemmas.Bool.{cases_lt}
use Rattle.std.proofs.lemmas.List.Elements.{All-head, All-nil, All-cons}
use Rattle.std.specs.Prelude.{Option, Some, None, All, length, find, if◌then◌else◌}
use Rattle.plus_model.specs.Terms.{Event, State, Problem}
use Rattle.plus_model.specs.Value.{holds}
use Rattle.plus_model.specs.Firing.{firing, numbers_of, first_shared, is_in, IsRound}
use Rattle.plus_model.proofs.Members.{in_first}
use Rattle.plus_timeline.specs.StepsLeft.{unfired}
use Rattle.plus_cascade.proofs.SetLemmas.{in_append as in_both}

-- the numbers of members that pass a test are below how many members there are
choose : (n k : ℕ) (b : Bool) (es : List ℕ) → k < n → All (λ e. e < n) es → All (λ e. e < n) (if b then k ∷ es else es)
choose n k true es h r = All-cons (λ e. e < n) k es h r
choose n k false es h r = r

numbers_below : {A : Type 0} (test : A → Bool) (k n : ℕ) (xs : List A) → k + length xs ≡ n → All (λ e. e < n) (numbers_of test k xs)
numbers_below test k n [] h = All-nil (λ e. e < n)
numbers_below test k n (x ∷ xs) h = choose n k (test x) (numbers_of test (suc k) xs) (omega arith) (numbers_below test (suc k) n xs (omega arith))

pub firing_below : (P : Problem) (s : State) → All (λ e. e < length P.events) (firing P s)
unfolding firing
firing_below P s = numbers_below (λ (e : Event). holds e.condition s) 0 (length P.events) P.events (omega arith)

abbrev one_unless : Bool → ℕ
one_unless b = if b then 0 else 1

one_at_most : (b : Bool) → one_unless b ≤ 1
one_at_most true = omega arith
one_at_most false = omega arith

one_grows : (a b : Bool) → one_unless (a || b) ≤ one_unless a
one_grows true b = omega arith
one_grows false true = omega arith
one_grows false false = omega arith

pub unfired_within : (n : ℕ) (fired : List ℕ) → unfired n fired ≤ n
unfired_within zero fired = omega arith
unfired_within (suc n) fired = (let a = one_at_most (is_in fired n) in let b = unfired_within n fired in omega arith)

one_after : (xs ys : List ℕ) (k : ℕ) → one_unless (is_in (xs ++ ys) k) ≤ one_unless (is_in xs k)
one_after xs ys k = subst (λ (b : Bool). one_unless b ≤ one_unless (is_in xs k)) (sym (in_both xs ys k)) (one_grows (is_in xs k) (is_in ys k))

unfired_grows : (n : ℕ) (xs ys : List ℕ) → unfired n (xs ++ ys) ≤ unfired n xs
unfired_grows zero xs ys = omega arith
unfired_grows (suc n) xs ys = (let a = one_after xs ys n in let b = unfired_grows n xs ys in omega arith)

one_fewer : (xs ys : List ℕ) (e : ℕ) → is_in xs e ≡ false → is_in ys e ≡ true → one_unless (is_in (xs ++ ys) e) < one_unless (is_in xs e)
one_fewer xs ys e a b =
    let c : is_in (xs ++ ys) e ≡ true = in_both xs ys e ∙ ap (λ (x : Bool). x || is_in ys e) a ∙ b in
    let d : one_unless (is_in (xs ++ ys) e) ≡ 0 = ap one_unless c in
    let f : one_unless (is_in xs e) ≡ 1 = ap one_unless a in
    omega arith

unfired_by : (n : ℕ) (xs ys : List ℕ) (e : ℕ) → e < suc n → is_in xs e ≡ false → is_in ys e ≡ true → (e < n → unfired n (xs ++ ys) < unfired n xs) → (e < n) ⊎ (n ≤ e) → unfired (suc n) (xs ++ ys) < unfired (suc n) xs
unfired_by n xs ys e h a b f (inl l) = (let p = one_after xs ys n in let q = f l in omega arith)
unfired_by n xs ys e h a b f (inr l) =
    let same : e ≡ n = omega arith in
    let p = subst (λ (k : ℕ). one_unless (is_in (xs ++ ys) k) < one_unless (is_in xs k)) same (one_fewer xs ys e a b) in
    let q = unfired_grows n xs ys in
    omega arith

-- one is among the new ones and not among the old
unfired_less : (n : ℕ) (xs ys : List ℕ) (e : ℕ) → e < n → is_in xs e ≡ false → is_in ys e ≡ true → unfired n (xs ++ ys) < unfired n xs
unfired_less zero xs ys e h a b = absurd (omega arith)
unfired_less (suc n) xs ys e h a b = unfired_by n xs ys e h a b (λ l. unfired_less n xs ys e l a b) (cases_lt e n)

not_found : (b : Bool) (x : ℕ) (o : Option ℕ) → (if b then Some x else o) ≡ None → b ≡ false
not_found true x o e = absurd (cc e)
not_found false x o e = refl

fresh_less : (n : ℕ) (fired events : List ℕ) → events ≢ [] → first_shared events fired ≡ None → All (λ e. e < n) events → unfired n (fired ++ events) < unfired n fired
unfolding first_shared
fresh_less n fired [] some fresh a = absurd (some refl)
fresh_less n fired (e ∷ es) some fresh a =
    unfired_less n fired (e ∷ es) e (All-head (λ k. k < n) e es a) (not_found (is_in fired e) e (find (is_in fired) es) fresh) (in_first e es)

pub round_less : (P : Problem) (fired : List ℕ) (s : State) (events : List ℕ) (after : State) → IsRound P fired s events after → unfired (length P.events) (fired ++ events) < unfired (length P.events) fired
round_less P fired s events after r =
    fresh_less (length P.events) fired events r.some r.fresh (subst (All (λ e. e < length P.events)) (sym r.all) (firing_below P s))
