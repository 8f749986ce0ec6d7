-- The first member that does not hold, as the members are gone through.
use Rattle.std.proofs.Common.{◌≡◌, ℕ, Bool, true, false, not, List, [], ◌∷◌, refl, ap, sym, subst, ◌∙◌, cond, lit<}
use Rattle.std.specs.Prelude.{Some, None, Contains, if◌then◌else◌, Result, Ok, Err, IfOk, IfErr}
use Rattle.std.specs.List.{find}
use Rattle.std.specs.Option.{option_or}
use Rattle.std.proofs.lemmas.List.Folds.{find-append}
use Rattle.std.proofs.lemmas.List.Elements.{Contains-append_left, Contains-append_right}
use Rattle.plus_fraction.specs.Fraction.{Fraction}
use Rattle.plus_model.specs.Terms.{Condition, Always, Never, Both, Either, Atom, Compare, State}
use Rattle.plus_model.specs.Value.{holds}
use Rattle.plus_state.specs.Fits.{Fits}
use Rattle.plus_state.specs.Node.{Node}
use Rattle.plus_state.specs.Asked.{FirstUnfit}
use Rattle.plus_state.specs.Tests.{tests_of, joined}
use Rattle.plus_replay.specs.Member.{members, first_failing, IsUntold}

pub if_ok : {A E : Type 0} (r : Result A E) (P Q : A → Type 0) → ((x : A) → P x → Q x) → IfOk r P → IfOk r Q
if_ok (Ok x) P Q f h = f x h
if_ok (Err e) P Q f h = h

pub if_err : {A E : Type 0} (r : Result A E) (P Q : E → Type 0) → ((e : E) → P e → Q e) → IfErr r P → IfErr r Q
if_err (Ok x) P Q f h = h
if_err (Err e) P Q f h = f e h

-- ---- a condition that is no `and`

abbrev pub IsLeaf : Condition → Type 0
IsLeaf (Both c d) = ⊥
IsLeaf _ = Unit {0}

leaf_members : (k : Condition) → IsLeaf k → members k ≡ k ∷ []
leaf_members Always h = refl
leaf_members Never h = refl
leaf_members (Both c d) h = absurd h
leaf_members (Either c d) h = refl
leaf_members (Atom a positive) h = refl
leaf_members (Compare test left right positive) h = refl

-- the members of an `or` are none of its own
pub any_leaf : (ks : List Condition) → IsLeaf (joined false ks)
any_leaf [] = tt
any_leaf (k ∷ ks) = tt

chosen : (b : Bool) (k : Condition) → (if b then None else Some k) ≡ cond (not b) (Some k) None
chosen true k = refl
chosen false k = refl

pub leaf_first : (k : Condition) (s : State) → IsLeaf k → (if holds k s then None else Some k) ≡ first_failing k s
leaf_first k s h = chosen (holds k s) k ∙ sym (ap (find (λ m. not (holds m s))) (leaf_members k h))

pub leaf_untold : (fits : Fraction → Type 0) (k : Condition) (s : State) (w : Node) → IsLeaf k → FirstUnfit fits (tests_of k s) w → IsUntold fits k s w
leaf_untold fits k s w h u = record {
  member = k;
  among = subst (λ (ks : List Condition). Contains ks k) (sym (leaf_members k h)) (0, lit< tt, refl);
  asks = u;
}

-- ---- the members that are left

-- what is found among those that are left is what is found of the whole
pub record Left (fits : Fraction → Type 0) (atoms fluents : ℕ) (s : State) (whole left : Condition) : Type 0 where
  pub fit : Fits atoms fluents left
  pub first : first_failing whole s ≡ first_failing left s
  pub untold : (w : Node) → IsUntold fits left s w → IsUntold fits whole s w

both_first : (s : State) (m rest : Condition) → first_failing (Both m rest) s ≡ option_or (first_failing m s) (first_failing rest s)
both_first s m rest = find-append (λ k. not (holds k s)) (members m) (members rest)

module _ (fits : Fraction → Type 0) (atoms fluents : ℕ) (s : State) where
  pub left_start : (whole left : Condition) → left ≡ whole → Fits atoms fluents whole → Left fits atoms fluents s whole left
  left_start whole left e h = subst (Left fits atoms fluents s whole) (sym e) (record { fit = h; first = refl; untold = λ w u. u })

  module _ (whole m rest : Condition) (l : Left fits atoms fluents s whole (Both m rest)) where
    pub left_next : None ≡ first_failing m s → Left fits atoms fluents s whole rest
    left_next e = record {
      fit = l.fit.1;
      first = l.first ∙ both_first s m rest ∙ ap (λ o. option_or o (first_failing rest s)) (sym e);
      untold = λ w u. l.untold w (record { member = u.member; among = Contains-append_right (members m) (members rest) u.member u.among; asks = u.asks });
    }

    pub left_found : (k : Condition) → Some k ≡ first_failing m s → Some k ≡ first_failing whole s
    left_found k e = ap (λ o. option_or o (first_failing rest s)) e ∙ sym (l.first ∙ both_first s m rest)

    pub left_untold : (w : Node) → IsUntold fits m s w → IsUntold fits whole s w
    left_untold w u = l.untold w (record { member = u.member; among = Contains-append_left (members m) (members rest) u.member u.among; asks = u.asks })
