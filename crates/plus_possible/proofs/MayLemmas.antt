-- Whether a condition may hold, member by member; and by marks as by what adds an atom.
use Rattle.std.proofs.Common.{◌≡◌, ℕ, suc, ◌<◌, Bool, true, false, not, cond, ◌&&◌, ◌||◌, List, [], ◌∷◌, map, filter, replicate, refl, ap, ap₂, sym, ◌∙◌}
use Rattle.std.specs.Prelude.{Vec, Some, slice_get}
use Rattle.std.specs.declared.alloc.Global.{Global}
use Rattle.plus_fraction.specs.Fraction.{Fraction}
use Rattle.plus_model.specs.Terms.{Condition, Always, Never, Both, Either, Atom, Compare, Action, Problem}
use Rattle.plus_model.specs.Value.{atom_of}
use Rattle.plus_state.specs.declared.term.AtomId.{AtomId}
use Rattle.plus_state.specs.declared.term.Cond.{Cond}
use Rattle.plus_state.specs.declared.term.Cond as conds
use Rattle.plus_state.specs.Fits.{Fits}
use Rattle.plus_state.specs.Tests.{pair, joined, join}
use Rattle.plus_state.specs.View.{condition_of}
use Rattle.plus_state.proofs.TestsLemmas.{all_view, any_view}
use Rattle.plus_never.specs.Adds.{something_adds}
use Rattle.plus_cut.specs.Marks.{Marks}
use Rattle.plus_cut.proofs.MarkLemmas.{marks_from_none}
use Rattle.plus_possible.specs.Possible.{may_be_true, may_hold, possible, possible_actions, may_by, AllFit}

-- ---- the members of a condition

module _ (may : ℕ → Bool) where
  may_pair : (all : Bool) (c d : Condition) → may_hold may (pair all c d) ≡ join all (may_hold may c) (may_hold may d)
  may_pair true c d = refl
  may_pair false c d = refl

  joins_on : (all b : Bool) → join all all b ≡ b
  joins_on true b = refl
  joins_on false b = refl

  joins_off : (all b : Bool) → join all (not all) b ≡ not all
  joins_off true b = refl
  joins_off false b = refl

  may_none : (all : Bool) → may_hold may (joined all []) ≡ all
  may_none true = refl
  may_none false = refl

  module _ (all : Bool) (left rest whole : List Condition) (c : Condition) (is : left ≡ c ∷ rest) (so_far : may_hold may (joined all left) ≡ may_hold may (joined all whole)) where
    first_of : join all (may_hold may c) (may_hold may (joined all rest)) ≡ may_hold may (joined all whole)
    first_of = sym (may_pair all c (joined all rest)) ∙ ap (λ (cs : List Condition). may_hold may (joined all cs)) (sym is) ∙ so_far

    -- a member that does not decide
    pub member_on : may_hold may c ≡ all → may_hold may (joined all rest) ≡ may_hold may (joined all whole)
    member_on e = sym (ap (λ (b : Bool). join all b (may_hold may (joined all rest))) e ∙ joins_on all (may_hold may (joined all rest))) ∙ first_of

    -- a member that does
    pub member_off : may_hold may c ≡ not all → not all ≡ may_hold may (joined all whole)
    member_off e = sym (ap (λ (b : Bool). join all b (may_hold may (joined all rest))) e ∙ joins_off all (may_hold may (joined all rest))) ∙ first_of

  pub members_end : (all : Bool) (left whole : List Condition) → left ≡ [] → may_hold may (joined all left) ≡ may_hold may (joined all whole) → all ≡ may_hold may (joined all whole)
  members_end all left whole is so_far = sym (ap (λ (cs : List Condition). may_hold may (joined all cs)) is ∙ may_none all) ∙ so_far

  module _ {Q : Type 0} (v : Q → Fraction) (cond : Cond Q) where
    pub of_all : (members : Vec (Cond Q) Global) (xs : List (Cond Q)) (b : Bool) → cond ≡ conds.All members → xs ≡ members.items → b ≡ may_hold may (joined true (map (condition_of v) xs)) → b ≡ may_hold may (condition_of v cond)
    of_all members xs b e k h = h ∙ ap (may_hold may) (all_view v cond members xs e k)

    pub of_any : (members : Vec (Cond Q) Global) (xs : List (Cond Q)) (b : Bool) → cond ≡ conds.Any members → xs ≡ members.items → b ≡ may_hold may (joined false (map (condition_of v) xs)) → b ≡ may_hold may (condition_of v cond)
    of_any members xs b e k h = h ∙ ap (may_hold may) (any_view v cond members xs e k)

    pub of_atom : (a : AtomId) (positive b : Bool) → cond ≡ conds.Atom a positive → b ≡ (not positive || may a.0) → b ≡ may_hold may (condition_of v cond)
    of_atom a positive b e h = h ∙ ap (λ c. may_hold may (condition_of v c)) (sym e)

    pub of_compare : (test : _) (left right : _) (positive : Bool) → cond ≡ conds.Compare test left right positive → true ≡ may_hold may (condition_of v cond)
    of_compare test left right positive e = ap (λ c. may_hold may (condition_of v c)) (sym e)

-- ---- by marks

may_agree : (may other : ℕ → Bool) (n m : ℕ) → ((a : ℕ) → a < n → may a ≡ other a) → (c : Condition) → Fits n m c → may_hold may c ≡ may_hold other c
may_agree may other n m same Always f = refl
may_agree may other n m same Never f = refl
may_agree may other n m same (Both c d) f = ap₂ (λ (x y : Bool). x && y) (may_agree may other n m same c f.0) (may_agree may other n m same d f.1)
may_agree may other n m same (Either c d) f = ap₂ (λ (x y : Bool). x || y) (may_agree may other n m same c f.0) (may_agree may other n m same d f.1)
may_agree may other n m same (Atom a positive) f = ap (λ (b : Bool). not positive || b) (same a f)
may_agree may other n m same (Compare test left right positive) f = refl

keeps_same : (p q : Action → Bool) (xs : List Action) → ((k : ℕ) (x : Action) → slice_get xs k ≡ Some x → p x ≡ q x) → filter p xs ≡ filter q xs
keeps_same p q [] same = refl
keeps_same p q (x ∷ xs) same =
    ap₂ (λ (b : Bool) (ys : List Action). cond b (x ∷ ys) ys) (same 0 x refl) (keeps_same p q xs (λ k y e. same (suc k) y e))

-- the actions that are kept by marks of what is added are those that may be done
pub kept_are_possible :
    (P : Problem) (actions kept : List Action) (marks : List Bool) → AllFit P actions → Marks (replicate P.atoms false) marks (λ a. something_adds a P actions)
    → kept ≡ filter (λ x. may_hold (may_by marks P.initial) x.condition) actions → kept ≡ possible_actions P actions
kept_are_possible P actions kept marks fit m e =
    e ∙ keeps_same (λ x. may_hold (may_by marks P.initial) x.condition) (possible P actions) actions
    (λ k x i. may_agree (may_by marks P.initial) (may_be_true P actions) P.atoms P.fluents
    (λ a h. ap (λ (b : Bool). atom_of P.initial a || b) (marks_from_none P.atoms marks (λ n. something_adds n P actions) m a h)) x.condition (fit k x i).0)

-- what is kept of a list, by what its members stand for
pub map_kept : {A B : Type 0} (f : A → B) (p : B → Bool) (xs : List A) → map f (filter (λ x. p (f x)) xs) ≡ filter p (map f xs)
map_kept f p [] = refl
map_kept {A} {B} f p (x ∷ xs) = go (p (f x)) (map_kept f p xs)
  where
    go : (b : Bool) → map f (filter (λ y. p (f y)) xs) ≡ filter p (map f xs) → map f (cond b (x ∷ filter (λ y. p (f y)) xs) (filter (λ y. p (f y)) xs)) ≡ cond b (f x ∷ filter p (map f xs)) (filter p (map f xs))
    go true e = ap (λ (ys : List B). f x ∷ ys) e
    go false e = e
