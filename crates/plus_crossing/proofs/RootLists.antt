-- The roots of a condition, member by member.
use Rattle.std.proofs.Common.{◌≡◌, Bool, true, false, not, List, [], ◌∷◌, ◌++◌, refl, ap, ap₂, sym, ◌∙◌, append_assoc, if◌then◌else◌}
use Rattle.std.proofs.lemmas.List.{append-nil}
use Rattle.std.specs.Prelude.{Option, Some, None, option_map, MatchOption}
use Rattle.plus_fraction.specs.Fraction.{Fraction, ◌-ℚ◌, ◌/ℚ◌}
use Rattle.plus_model.specs.Terms.{Condition, Always, Never, Both, Either, Atom, Compare, State}
use Rattle.plus_model.specs.Piece.{Piece, Missing, Straight}
use Rattle.plus_state.specs.Stops.{as_list}
use Rattle.plus_state.specs.Tests.{decided, pair, unit, joined}
use Rattle.plus_state.proofs.TestsLemmas.{decided_compare}
use Rattle.plus_crossing.specs.Roots.{IsRoot, meets_later}
use Rattle.plus_crossing.specs.declared.listing.RootsStop.{RootsStop}
use Rattle.plus_crossing.specs.declared.listing.RootsStop.TheVariants.{Condition as OfCondition, Memory}
use Rattle.plus_crossing.specs.Asked.{Ask, FirstFailing}
use Rattle.plus_crossing.specs.Listed.{roots_on, open_roots, live_roots, RootsStops}
use Rattle.plus_crossing.proofs.Meeting.{root_is, later_is, one_root}
use Rattle.plus_crossing.proofs.NextRoot.{cross_fail, cross_missing, cross_right_fail, cross_right_missing, cross_pass, cross_root_fail}
use Rattle.plus_state.proofs.Testing.{pass_none}
use Rattle.plus_crossing.proofs.Joins.{numbered_pass}
use Rattle.plus_crossing.proofs.Walking.{pair_some, decided_pass, at_comparison}

-- ---- one comparison
pub list_left : (p q : Piece) → Missing ≡ p → [] ≡ roots_on p q
list_left p q e = ap (λ (p : Piece). roots_on p q) e

pub list_right : (p q : Piece) (v m : Fraction) → Straight v m ≡ p → Missing ≡ q → [] ≡ roots_on p q
list_right p q v m e f = ap₂ roots_on e f

abbrev one_if : Bool → Fraction → List Fraction
one_if b x = if b then x ∷ [] else []

none_if : (v m w n : Fraction) (b : Bool) → meets_later v m w n ≡ b → ((x : Fraction) → IsRoot v m w n x → ⊥) → [] ≡ one_if b ((w -ℚ v) /ℚ (m -ℚ n))
none_if v m w n true e h = absurd (h _ (root_is v m w n e))
none_if v m w n false e h = refl

some_if : (v m w n r : Fraction) → IsRoot v m w n r → r ∷ [] ≡ roots_on (Straight v m) (Straight w n)
some_if v m w n r h =
    let l = later_is v m w n r h in
    ap (λ (x : Fraction). x ∷ []) (one_root v m w n r _ h (root_is v m w n l)) ∙ sym (ap (λ (b : Bool). one_if b ((w -ℚ v) /ℚ (m -ℚ n))) l)

lines_list : {Q : Type 0} (value : Q → Fraction) (o : Option Q) (v m w n : Fraction) → MatchOption o ((x : Fraction) → IsRoot v m w n x → ⊥) (λ x. IsRoot v m w n (value x)) → as_list (option_map value o) ≡ roots_on (Straight v m) (Straight w n)
lines_list value None v m w n h = none_if v m w n (meets_later v m w n) refl h
lines_list value (Some r) v m w n h = some_if v m w n (value r) h

pub list_lines : {Q : Type 0} (value : Q → Fraction) (o : Option Q) (p q : Piece) (v m w n : Fraction) → MatchOption o ((x : Fraction) → IsRoot v m w n x → ⊥) (λ x. IsRoot v m w n (value x)) → Straight v m ≡ p → Straight w n ≡ q → as_list (option_map value o) ≡ roots_on p q
list_lines value o p q v m w n h e f = lines_list value o v m w n h ∙ ap₂ roots_on e f

pub ruleset sides = (cross_fail, cross_missing, cross_right_fail, cross_right_missing, cross_pass, cross_root_fail, list_left, list_right)

-- ---- a condition
module _ (rs : List Fraction) (s : State) where
  decided_roots : (c : Condition) (b : Bool) → Some b ≡ decided c s → live_roots c s rs ≡ []
  decided_roots Always b e = refl
  decided_roots Never b e = refl
  decided_roots (Both c d) b e = ap (λ (o : Option Bool). open_roots o (live_roots c s rs) (live_roots d s rs)) (sym e)
  decided_roots (Either c d) b e = ap (λ (o : Option Bool). open_roots o (live_roots c s rs) (live_roots d s rs)) (sym e)
  decided_roots (Atom a positive) b e = refl
  decided_roots (Compare t l r positive) b e = let n = decided_compare t l r positive s in cc

  roots_open : (all : Bool) (c d : Condition) → live_roots (pair all c d) s rs ≡ open_roots (decided (pair all c d) s) (live_roots c s rs) (live_roots d s rs)
  roots_open true c d = refl
  roots_open false c d = refl

  split : (all : Bool) (c d : Condition) (o : Option Bool) → o ≡ decided (pair all c d) s → (Some (not all) ≡ decided (pair all c d) s → ⊥) → open_roots o (live_roots c s rs) (live_roots d s rs) ≡ live_roots c s rs ++ live_roots d s rs
  split all c d None e h = refl
  split all c d (Some b) e h =
      let p = pair_some (λ l k. []) s all c d b e h in
      sym (ap₂ (◌++◌) (decided_roots c all p.0) (decided_roots d all p.1))

  roots_pair : (all : Bool) (c d : Condition) → (Some (not all) ≡ decided (pair all c d) s → ⊥) → live_roots (pair all c d) s rs ≡ live_roots c s rs ++ live_roots d s rs
  roots_pair all c d h = roots_open all c d ∙ split all c d (decided (pair all c d) s) refl h

  roots_unit : (all : Bool) → live_roots (unit all) s rs ≡ []
  roots_unit true = refl
  roots_unit false = refl

  -- those that are listed, and those that are left
  pub record Rooting (all : Bool) (found start : List Fraction) (rest whole : List Condition) : Type 0 where
    pub so_far : found ++ live_roots (joined all rest) s rs ≡ start ++ live_roots (joined all whole) s rs

  pub rooting_start : (all : Bool) (start : List Fraction) (whole : List Condition) → Rooting all start start whole whole
  rooting_start all start whole = record { so_far = refl }

  pub rooting_next : (all : Bool) (found new start : List Fraction) (c : Condition) (rest whole : List Condition) → Rooting all found start (c ∷ rest) whole → (Some (not all) ≡ decided (joined all (c ∷ rest)) s → ⊥) → new ≡ found ++ live_roots c s rs → Rooting all new start rest whole
  rooting_next all found new start c rest whole h o e = record {
    so_far = ap (λ (xs : List Fraction). xs ++ live_roots (joined all rest) s rs) e ∙ append_assoc found (live_roots c s rs) (live_roots (joined all rest) s rs)
        ∙ ap (λ (xs : List Fraction). found ++ xs) (sym (roots_pair all c (joined all rest) o)) ∙ h.so_far;
  }

  pub rooting_end : (all : Bool) (found start : List Fraction) (whole : List Condition) → Rooting all found start [] whole → found ≡ start ++ live_roots (joined all whole) s rs
  rooting_end all found start whole h = sym (append-nil found) ∙ ap (λ (xs : List Fraction). found ++ xs) (sym (roots_unit all)) ∙ h.so_far

  pub decided_listed : (c : Condition) (b : Bool) (old : List Fraction) → Some b ≡ decided c s → old ≡ old ++ live_roots c s rs
  decided_listed c b old e = sym (append-nil old) ∙ ap (λ (xs : List Fraction). old ++ xs) (sym (decided_roots c b e))

pub none_listed : (old : List Fraction) → old ≡ old ++ []
none_listed old = sym (append-nil old)

pub one_listed : (old new xs ys : List Fraction) → new ≡ old ++ xs → xs ≡ ys → new ≡ old ++ ys
one_listed old new xs ys e d = e ∙ ap (λ (l : List Fraction). old ++ l) d

pub ruleset listing = (pass_none, decided_pass, numbered_pass, at_comparison, decided_listed, none_listed, one_listed)

-- the stop of a part is that of the whole
pub stops_of : {Q : Type 0} (v : Q → Fraction) (fits : Fraction → Type 0) (xs ys : List Ask) (stop : RootsStop Q) → ((m : Ask) → FirstFailing fits xs m → FirstFailing fits ys m) → RootsStops v fits xs stop → RootsStops v fits ys stop
stops_of v fits xs ys (OfCondition w) f u = f _ u
stops_of v fits xs ys Memory f u = tt
