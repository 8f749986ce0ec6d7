-- Counts and literals as tests.
use Rattle.std.proofs.Common.{◌≡◌, ◌<◌, ◌≤◌, Bool, true, false, List, [], ◌∷◌, ◌++◌, map, refl, subst, sym, arith, ◌⊎◌, inl, inr, if◌then◌else◌}
use Rattle.std.specs.Prelude.{Option, Some, None, All, nat_lt}
use Rattle.std.proofs.lemmas.Grind.{common_steps}
use Rattle.std.proofs.lemmas.List.Elements.{All-head, All-tail}
use Rattle.plus_state.proofs.Testing.{pass_none, pass_one, pass_append, fail_here, fail_right, none_fails}
use Rattle.plus_state.specs.Tested as tested
use Rattle.plus_expansion.specs.Unfit.{IsFirstUnfit}
use Rattle.plus_expansion.specs.Counts.{Counted, first_over}
use Rattle.plus_numeric.specs.Tests.{Test, count, Passes, AllPass, FirstFailing}

-- ---- counts

count_passes : (c : Counted) → c.number ≤ c.most → Passes (count c)
unfolding Passes
count_passes c h = h

pub count_fails : (c : Counted) → c.most < c.number → Passes (count c) → ⊥
unfolding Passes
count_fails c h p = absurd (omega arith)

over_case :
    (x c : Counted) (xs : List Counted) (b : Bool) → nat_lt x.most x.number ≡ b → (if b then Some x else first_over xs) ≡ Some c
    → (first_over xs ≡ Some c → FirstFailing (map count xs) (count c)) → FirstFailing (count x ∷ map count xs) (count c)
over_case x c xs true n e more =
    let same : x ≡ c = cc e in
    let large : x.most < x.number = grind (arith, common_steps) in
    subst (λ (y : Counted). FirstFailing (count x ∷ map count xs) (count y)) same (fail_here Passes (count x) (map count xs) (count_fails x large))
over_case x c xs false n e more =
    let small : x.number ≤ x.most = grind (arith, common_steps) in
    fail_right Passes (count x ∷ []) (map count xs) (count c) (pass_one Passes (count x) (count_passes x small)) (more e)

pub counts_over : (xs : List Counted) (c : Counted) → first_over xs ≡ Some c → FirstFailing (map count xs) (count c)
counts_over [] c e = let n : None ≡ Some c = e in cc n
counts_over (x ∷ xs) c e = over_case x c xs (nat_lt x.most x.number) refl e (counts_over xs c)

within_case :
    (x : Counted) (xs : List Counted) (b : Bool) → nat_lt x.most x.number ≡ b → (if b then Some x else first_over xs) ≡ None
    → (first_over xs ≡ None → AllPass (map count xs)) → AllPass (count x ∷ map count xs)
within_case x xs true n e more = let s : Some x ≡ None = e in cc s
within_case x xs false n e more =
    let small : x.number ≤ x.most = grind (arith, common_steps) in
    pass_append Passes (count x ∷ []) (map count xs) (pass_one Passes (count x) (count_passes x small)) (more e)

pub counts_within : (xs : List Counted) → first_over xs ≡ None → AllPass (map count xs)
counts_within [] e = pass_none Passes
counts_within (x ∷ xs) e = within_case x xs (nat_lt x.most x.number) refl e (counts_within xs)

pub one_within : (c : Counted) → c.number ≤ c.most → AllPass (count c ∷ [])
one_within c h = pass_one Passes (count c) (count_passes c h)

-- ---- tests of the members of a list, each of which passes exactly where the member is so

module _ {X : Type 0} (f : X → Test) (P : X → Type 0) (there : (x : X) → P x → Passes (f x)) (back : (x : X) → Passes (f x) → P x) where
  pub members_pass : (xs : List X) → All P xs → AllPass (map f xs)
  members_pass [] a = pass_none Passes
  members_pass (x ∷ xs) a =
      pass_append Passes (f x ∷ []) (map f xs) (pass_one Passes (f x) (there x (All-head P x xs a))) (members_pass xs (All-tail P x xs a))

  first_at : (front behind : List X) (x : X) → All P front → (P x → ⊥) → FirstFailing (map f (front ++ x ∷ behind)) (f x)
  first_at [] behind x a n = fail_here Passes (f x) (map f behind) (λ p. n (back x p))
  first_at (y ∷ front) behind x a n =
      fail_right Passes (f y ∷ []) (map f (front ++ x ∷ behind)) (f x) (pass_one Passes (f y) (there y (All-head P y front a)))
      (first_at front behind x (All-tail P y front a) n)

  pub member_fails : (xs : List X) (x : X) → IsFirstUnfit P xs x → FirstFailing (map f xs) (f x)
  member_fails xs x u =
      subst (λ (ys : List X). FirstFailing (map f ys) (f x)) (sym u.split) (first_at u.front u.back x u.pass u.fails)

-- the first that fails is one of them
one_of : {X : Type 0} (f : X → Test) (x : X) (xs : List X) (t : Test) → FirstFailing (map f (x ∷ xs)) t → (t ≡ f x) ⊎ FirstFailing (map f xs) t
unfolding tested.FirstFailing
one_of f x xs t h = elim h [ inl a ↦ inl a.1 | inr b ↦ inr b.1 ]

pub member_of : {X : Type 0} (f : X → Test) (xs : List X) (t : Test) → FirstFailing (map f xs) t → (x : X) × (t ≡ f x)
member_of f [] t h = absurd (none_fails Passes t h)
member_of f (x ∷ xs) t h = elim (one_of f x xs t h) [ inl e ↦ (x, e) | inr more ↦ member_of f xs t more ]
