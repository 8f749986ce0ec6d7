-- Each test of a plan without time, and each of a translation, passes or fails.
use Rattle.std.proofs.Common.{◌≡◌, ◌⊎◌, ℕ, zero, suc, ◌≤◌, ◌<◌, ◌^◌, Bool, true, false, List, [], ◌∷◌, refl, ap, subst, sym, inl, inr, arith, unsigned_abs, All}
use Rattle.std.proofs.lemmas.List.Elements.{All-nil, All-cons}
use Rattle.plus_fraction.specs.Fraction.{Fraction}
use Rattle.plus_fraction.proofs.Compared.{equal_or}
use Rattle.plus_number.specs.Frac.{IsFrac64}
use Rattle.plus_tokens.specs.declared.span.Span.{Span}
use Rattle.plus_tree.specs.declared.terms.Literal.{Literal}
use Rattle.plus_literal.specs.Value.{literal_value, LiteralFits}
use Rattle.plus_state.specs.Asked.{result_of, NodeFits}
use Rattle.plus_state.specs.Node.{Node}
use Rattle.plus_state.specs.Tested.{AllPass, FirstFailing}
use Rattle.plus_steps.specs.Stepped.{time_of_step}
use Rattle.plus_stepped.specs.Grid.{OnGrid}
use Rattle.plus_stepped.specs.Tests as stepped
use Rattle.plus_stepped.specs.Tests.{StepTest, asks, precondition, fails, repeats, goal}
use Rattle.plus_numeric.specs.Tests.{Test, beyond, count, literal, no_line, too_long, unknown_action, wrong_arguments, in_line, at_end, Passes}
use Rattle.plus_translate.specs.Grid.{StandsOnGrid, IsFirstOff}
use Rattle.laws_answers.proofs.PairOrRefused.{at_most_or}

-- it holds, or it does not
abbrev pub IsClosed : Type 0 → Type 0
IsClosed A = A ⊎ (A → ⊥)

-- ---- numbers

value_or : (q : Fraction) → IsClosed (IsFrac64 q)
value_or q = elim (at_most_or (unsigned_abs q.top) 9223372036854775807) [
  | inr l ↦ inr (λ h. let k = h.0 in omega (arith, k, l))
  | inl a ↦ elim (at_most_or q.bottom 9223372036854775807) [
    | inr l ↦ inr (λ h. let k = h.1 in omega (arith, k, l))
    | inl b ↦ inl (a, b)
  ]
]

literal_or : (l : Literal) → IsClosed (LiteralFits IsFrac64 l)
literal_or l = elim (at_most_or l.places 9) [
  | inr m ↦ inr (λ h. let k = h.places in omega (arith, k, m))
  | inl a ↦ elim (value_or (literal_value l)) [
    | inl v ↦ inl (record { places = a; value = v })
    | inr n ↦ inr (λ h. n h.value)
  ]
]

node_or : (n : Node) → IsClosed (NodeFits IsFrac64 n)
unfolding NodeFits
node_or n = value_or (result_of n.sign n.left n.right)

-- ---- tests

step_or : (t : StepTest) → IsClosed (stepped.Passes IsFrac64 t)
unfolding stepped.Passes
step_or (asks n) = node_or n
step_or precondition = inr (λ x. x)
step_or (fails f) = inr (λ x. x)
step_or (repeats e) = inr (λ x. x)
step_or goal = inr (λ x. x)

count_or : (n m : ℕ) → IsClosed (n ≤ m)
count_or n m = elim (at_most_or n m) [ inl h ↦ inl h | inr l ↦ inr (λ h. omega (arith, h, l)) ]

test_or : (t : Test) → IsClosed (Passes t)
unfolding Passes
test_or (beyond place) = inr (λ x. x)
test_or (count c) = count_or c.number c.most
test_or (literal file l) = literal_or l
test_or (no_line fault) = inr (λ x. x)
test_or too_long = inr (λ x. x)
test_or (unknown_action n name) = inr (λ x. x)
test_or (wrong_arguments n name) = inr (λ x. x)
test_or (in_line n label t) = step_or t
test_or (at_end t) = step_or t

-- all pass, or one is the first that fails
pub tests_or : (ts : List Test) → AllPass Passes ts ⊎ ((t : Test) × FirstFailing Passes ts t)
unfolding AllPass FirstFailing
tests_or [] = inl tt
tests_or (t ∷ ts) = elim (test_or t) [
  | inr n ↦ inr (t, inl (n, refl))
  | inl h ↦ elim (tests_or ts) [ inl a ↦ inl (h, a) | inr f ↦ inr (f.0, inr (h, f.1)) ]
]

-- ---- the grid of a translation

-- two numbers are equal, or not
number_or : (k m : ℕ) → IsClosed (k ≡ m)
number_or zero zero = inl refl
number_or zero (suc m) = inr (λ e. omega (arith, e))
number_or (suc k) zero = inr (λ e. omega (arith, e))
number_or (suc k) (suc m) = elim (number_or k m) [ inl e ↦ inl (ap suc e) | inr n ↦ inr (λ e. n (omega (arith, e))) ]

smaller : (k m : ℕ) → k < suc m → (k ≡ m → ⊥) → k < m
smaller zero zero l o = absurd (o refl)
smaller zero (suc m) l o = omega arith
smaller (suc k) zero l o = absurd (omega (arith, l))
smaller (suc k) (suc m) l o = (let r = smaller k m (omega (arith, l)) (λ e. o (ap suc e)) in omega (arith, r))

-- one of the first numbers, or none
module _ (P : ℕ → Type 0) (closed : (k : ℕ) → IsClosed (P k)) where
  abbrev Below : ℕ → Type 0
  Below n = (k : ℕ) × (k < n) × P k

  not_below : (n k : ℕ) → k < suc n → P k → (P n → ⊥) → (Below n → ⊥) → IsClosed (k ≡ n) → ⊥
  not_below n k l h never none (inl e) = never (subst P e h)
  not_below n k l h never none (inr o) = none (k, smaller k n l o, h)

  below_or : (n : ℕ) → IsClosed (Below n)
  below_or zero = inr (λ h. let l = h.1 in absurd (omega (arith, l)))
  below_or (suc n) = elim (closed n) [
    | inl h ↦ inl (n, omega arith, h)
    | inr never ↦ elim (below_or n) [
      | inl h ↦ inl (h.0, (let l = h.1 in omega (arith, l)), h.2)
      | inr none ↦ inr (λ h. not_below n h.0 h.1 h.2 never none (number_or h.0 n))
    ]
  ]

steps_or : (q time : Fraction) (n : ℕ) → n ≡ 2 ^ 63 → IsClosed (OnGrid q time)
steps_or q time n e = elim (below_or (λ k. time ≡ time_of_step q k) (λ k. equal_or time (time_of_step q k)) n) [
  | inl h ↦ inl (record { steps = h.0; few = subst (λ m. h.0 < m) e h.1; at = h.2 })
  | inr none ↦ inr (λ g. none (g.steps, subst (λ m. g.steps < m) (sym e) g.few, g.at))
]

sign_or : (b : Bool) → IsClosed (b ≡ false)
sign_or false = inl refl
sign_or true = inr (λ e. cc e)

stands_or : (q : Fraction) (t : Literal) → IsClosed (StandsOnGrid q t)
stands_or q t = elim (sign_or t.negative) [
  | inr n ↦ inr (λ h. n h.from_zero)
  | inl a ↦ elim (count_or t.places 9) [
    | inr n ↦ inr (λ h. n h.places)
    | inl b ↦ elim (steps_or q (literal_value t) (2 ^ 63) refl) [
      | inr n ↦ inr (λ h. n h.grid)
      | inl g ↦ inl (record { from_zero = a; places = b; grid = g })
    ]
  ]
]

-- all times stand on the grid, or one is the first that does not
pub times_or : (q : Fraction) (ts : List Literal) → All (StandsOnGrid q) ts ⊎ ((place : Span) × IsFirstOff q ts place)
times_or q [] = inl (All-nil (StandsOnGrid q))
times_or q (t ∷ ts) = elim (stands_or q t) [
  | inr n ↦ inr (t.span, record { before = []; time = t; after = ts; split = refl; pass = All-nil (StandsOnGrid q); fails = n; place_is = refl })
  | inl h ↦ elim (times_or q ts) [
    | inl a ↦ inl (All-cons (StandsOnGrid q) t ts h a)
    | inr f ↦ (let o = f.1 in inr (
      f.0,
      record {
        before = t ∷ o.before;
        time = o.time;
        after = o.after;
        split = ap (λ xs. t ∷ xs) o.split;
        pass = All-cons (StandsOnGrid q) t o.before h o.pass;
        fails = o.fails;
        place_is = o.place_is;
      },
    ))
  ]
]
