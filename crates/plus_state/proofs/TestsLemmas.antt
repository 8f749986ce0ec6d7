-- What a condition asks, and what atoms decide of it, by its members.
use Rattle.std.proofs.Common.{◌≡◌, ℕ, ◌<◌, ◌≤◌, ◌+◌, suc, Bool, true, false, not, List, [], ◌∷◌, ◌++◌, length, map, drop, get_or, refl, ap, sym, subst, ◌∙◌, add-one, drop-cons}
use Rattle.std.proofs.lemmas.List.{append-nil, drop_all}
use Rattle.std.specs.Prelude.{Option, Some, None, if◌then◌else◌}
use Rattle.plus_fraction.specs.Fraction.{Fraction}
use Rattle.plus_model.specs.Terms.{Condition, Always, Never, Both, Either, Atom, Compare, State, Test, Expression}
use Rattle.plus_model.specs.Value.{value, signed, stand, atom_of, holds}
use Rattle.plus_model.specs.Live.{live, live_both, live_either}
use Rattle.plus_model.proofs.Alive.{live_holds}
use mathlib.Core.Former.{Count}
use Rattle.std.specs.Prelude.{Vec}
use Rattle.std.specs.declared.alloc.Global.{Global}
use Rattle.plus_state.specs.declared.term.Cond.{Cond, All, All', Any, Any', Row_of-Cond, end_of-Cond, more_of-Cond, items-the_row-Cond, items_hidden-the_row-Cond-0}
use Rattle.plus_state.specs.declared.term.Cond as conds
use Rattle.plus_state.specs.declared.term.AtomId.{AtomId}
use Rattle.plus_state.specs.View.{condition_of, all_in, any_in}
use Rattle.plus_state.specs.Fits.{Fits}
use Rattle.plus_state.specs.Node.{Node}
use Rattle.plus_state.specs.Asked.{nodes, sides, NodeFits, AllFit, FirstUnfit}
use Rattle.plus_state.specs.Tests.{asked, tests_of, verdict, decided, pair, unit, joined, join, join_decided}
use Rattle.plus_state.proofs.Testing.{pass_none, pass_append, fail_left, fail_right}

verdict_both : (c d : Condition) → verdict (live_both c d) ≡ join_decided true (verdict c) (verdict d)
verdict_both Never d = refl
verdict_both c Never = refl
verdict_both Always d = refl
verdict_both c Always = refl
verdict_both c d = refl

verdict_either : (c d : Condition) → verdict (live_either c d) ≡ join_decided false (verdict c) (verdict d)
verdict_either Always d = refl
verdict_either c Always = refl
verdict_either Never d = refl
verdict_either c Never = refl
verdict_either c d = refl

-- a pair is decided by its two members
pub decided_pair : (all : Bool) (c d : Condition) (s : State) → decided (pair all c d) s ≡ join_decided all (decided c s) (decided d s)
unfolding decided
decided_pair true c d s = verdict_both (live c s) (live d s)
decided_pair false c d s = verdict_either (live c s) (live d s)

verdict_atom : (b : Bool) → Some b ≡ verdict (if b then Always else Never)
verdict_atom true = refl
verdict_atom false = refl

pub decided_atom : (a : ℕ) (positive : Bool) (s : State) → Some (signed positive (atom_of s a)) ≡ decided (Atom a positive) s
unfolding decided
decided_atom a positive s = verdict_atom (signed positive (atom_of s a))

pub decided_compare : (test : Test) (left right : Expression) (positive : Bool) (s : State) → None ≡ decided (Compare test left right positive) s
unfolding decided
decided_compare test left right positive s = refl

pub decided_unit : (all : Bool) (s : State) → decided (unit all) s ≡ Some all
unfolding decided
decided_unit true s = refl
decided_unit false s = refl

-- what is decided asks nothing and has that truth
asked_verdict : (c : Condition) (b : Bool) (s : State) → Some b ≡ verdict c → asked c s ≡ []
asked_verdict Always b s e = refl
asked_verdict Never b s e = refl
asked_verdict (Both c d) b s e = cc
asked_verdict (Either c d) b s e = cc
asked_verdict (Atom a positive) b s e = refl
asked_verdict (Compare test left right positive) b s e = cc

holds_verdict : (c : Condition) (b : Bool) (s : State) → Some b ≡ verdict c → b ≡ holds c s
holds_verdict Always b s e = cc
holds_verdict Never b s e = cc
holds_verdict (Both c d) b s e = cc
holds_verdict (Either c d) b s e = cc
holds_verdict (Atom a positive) b s e = cc
holds_verdict (Compare test left right positive) b s e = cc

pub decided_asks : (fits : Fraction → Type 0) (c : Condition) (b : Bool) (s : State) → Some b ≡ decided c s → AllFit fits (tests_of c s)
unfolding decided tests_of
decided_asks fits c b s e = subst (AllFit fits) (sym (asked_verdict (live c s) b s e)) (pass_none (NodeFits fits))

pub decided_holds : (c : Condition) (b : Bool) (s : State) → Some b ≡ decided c s → b ≡ holds c s
unfolding decided
decided_holds c b s e = holds_verdict (live c s) b s e ∙ live_holds c s s refl

-- an atom asks nothing, a comparison asks its sides
asked_choice : (b : Bool) (s : State) → [] ≡ asked (if b then Always else Never) s
asked_choice true s = refl
asked_choice false s = refl

pub atom_asks : (fits : Fraction → Type 0) (a : ℕ) (positive : Bool) (s : State) → AllFit fits (tests_of (Atom a positive) s)
unfolding tests_of
atom_asks fits a positive s = subst (AllFit fits) (asked_choice (signed positive (atom_of s a)) s) (pass_none (NodeFits fits))

module _ (fits : Fraction → Type 0) (test : Test) (left right : Expression) (positive : Bool) (s : State) where
  pub compare_fit : AllFit fits (sides (nodes left s) (value left s) (nodes right s)) → AllFit fits (tests_of (Compare test left right positive) s)
  unfolding tests_of
  compare_fit h = h

  pub compare_unfit : (m : Node) → FirstUnfit fits (sides (nodes left s) (value left s) (nodes right s)) m → FirstUnfit fits (tests_of (Compare test left right positive) s) m
  unfolding tests_of
  compare_unfit m h = h

  pub compare_holds : (b : Bool) → b ≡ stand test (value left s) (value right s) → signed positive b ≡ holds (Compare test left right positive) s
  compare_holds b e = ap (signed positive) e

-- a pair that its members do not decide the absorbing way asks what they ask
asked_both : (c d : Condition) (s : State) → (Some false ≡ verdict (live_both c d) → ⊥) → asked (live_both c d) s ≡ asked c s ++ asked d s
asked_both Never d s h = absurd (h refl)
asked_both c Never s h = absurd (h refl)
asked_both Always d s h = refl
asked_both c Always s h = sym (append-nil (asked c s))
asked_both c d s h = refl

asked_either : (c d : Condition) (s : State) → (Some true ≡ verdict (live_either c d) → ⊥) → asked (live_either c d) s ≡ asked c s ++ asked d s
asked_either Always d s h = absurd (h refl)
asked_either c Always s h = absurd (h refl)
asked_either Never d s h = refl
asked_either c Never s h = sym (append-nil (asked c s))
asked_either c d s h = refl

pub tests_pair : (all : Bool) (c d : Condition) (s : State) → (Some (not all) ≡ decided (pair all c d) s → ⊥) → tests_of (pair all c d) s ≡ tests_of c s ++ tests_of d s
unfolding tests_of decided
tests_pair true c d s h = asked_both (live c s) (live d s) s h
tests_pair false c d s h = asked_either (live c s) (live d s) s h

-- joins
join_unit : (all : Bool) (x : Bool) → join all all x ≡ x
join_unit true x = refl
join_unit false x = refl

join_end : (all : Bool) (x : Bool) (s : State) → join all x (holds (unit all) s) ≡ x
join_end true true s = refl
join_end true false s = refl
join_end false true s = refl
join_end false false s = refl

join_assoc : (all : Bool) (x y z : Bool) → join all (join all x y) z ≡ join all x (join all y z)
join_assoc true true y z = refl
join_assoc true false y z = refl
join_assoc false true y z = refl
join_assoc false false y z = refl

holds_pair : (all : Bool) (c d : Condition) (s : State) → holds (pair all c d) s ≡ join all (holds c s) (holds d s)
holds_pair true c d s = refl
holds_pair false c d s = refl

decided_first : (all : Bool) (y : Option Bool) → join_decided all (Some all) y ≡ y
decided_first true y = refl
decided_first false y = refl

decided_last : (all : Bool) (x : Option Bool) → join_decided all x (Some all) ≡ x
decided_last true None = refl
decided_last true (Some true) = refl
decided_last true (Some false) = refl
decided_last false None = refl
decided_last false (Some true) = refl
decided_last false (Some false) = refl

decided_absorbs : (all : Bool) (x : Option Bool) → join_decided all x (Some (not all)) ≡ Some (not all)
decided_absorbs true None = refl
decided_absorbs true (Some true) = refl
decided_absorbs true (Some false) = refl
decided_absorbs false None = refl
decided_absorbs false (Some true) = refl
decided_absorbs false (Some false) = refl

decided_assoc : (all : Bool) (x y z : Option Bool) → join_decided all (join_decided all x y) z ≡ join_decided all x (join_decided all y z)
decided_assoc true (Some true) y z = refl
decided_assoc true (Some false) y z = refl
decided_assoc false (Some true) y z = refl
decided_assoc false (Some false) y z = refl
decided_assoc true None None None = refl
decided_assoc true None None (Some true) = refl
decided_assoc true None None (Some false) = refl
decided_assoc true None (Some true) z = refl
decided_assoc true None (Some false) z = refl
decided_assoc false None None None = refl
decided_assoc false None None (Some true) = refl
decided_assoc false None None (Some false) = refl
decided_assoc false None (Some true) z = refl
decided_assoc false None (Some false) z = refl

pub fits_head : (all : Bool) (a f : ℕ) (c d : Condition) → Fits a f (pair all c d) → Fits a f c
fits_head true a f c d h = h.0
fits_head false a f c d h = h.0

pub fits_tail : (all : Bool) (a f : ℕ) (c d : Condition) → Fits a f (pair all c d) → Fits a f d
fits_tail true a f c d h = h.1
fits_tail false a f c d h = h.1

-- how far the members of a condition are looked at
pub record Deciding (all : Bool) (known : Option Bool) (rest whole : List Condition) (s : State) : Type 0 where
  pub fit : Fits (length s.atoms) (length s.fluents) (joined all rest)
  pub so_far : join_decided all known (decided (joined all rest) s) ≡ decided (joined all whole) s

pub deciding_start : (all : Bool) (whole : List Condition) (s : State) → Fits (length s.atoms) (length s.fluents) (joined all whole) → Deciding all (Some all) whole whole s
deciding_start all whole s h = record { fit = h; so_far = decided_first all _ }

pub deciding_next : (all : Bool) (known k : Option Bool) (c : Condition) (rest whole : List Condition) (s : State) → Deciding all known (c ∷ rest) whole s → k ≡ decided c s → Deciding all (join_decided all known k) rest whole s
deciding_next all known k c rest whole s h e = record {
  fit = fits_tail all _ _ c (joined all rest) h.fit;
  so_far = decided_assoc all known k _ ∙ ap (λ o. join_decided all known (join_decided all o (decided (joined all rest) s))) e ∙ ap (join_decided all known) (sym (decided_pair all c (joined all rest) s)) ∙ h.so_far;
}

-- a member that decides
decides_here : (all : Bool) (o : Option Bool) → join_decided all (Some (not all)) o ≡ Some (not all)
decides_here true o = refl
decides_here false o = refl

decides_behind : (all : Bool) (known : Option Bool) → join_decided all known (Some (not all)) ≡ Some (not all)
decides_behind true (Some true) = refl
decides_behind true (Some false) = refl
decides_behind true None = refl
decides_behind false (Some true) = refl
decides_behind false (Some false) = refl
decides_behind false None = refl

pub deciding_stop : (all : Bool) (known k : Option Bool) (c : Condition) (rest whole : List Condition) (s : State) → Deciding all known (c ∷ rest) whole s → k ≡ decided c s → k ≡ Some (not all) → k ≡ decided (joined all whole) s
deciding_stop all known k c rest whole s h e d =
    let here : Some (not all) ≡ decided c s = sym d ∙ e in
    d ∙ sym (decides_behind all known) ∙ ap (join_decided all known) (sym (decides_here all _) ∙ ap (λ o. join_decided all o (decided (joined all rest) s)) here ∙ sym (decided_pair all c (joined all rest) s)) ∙ h.so_far

neutral : (all : Bool) (known : Option Bool) → join_decided all known (Some all) ≡ known
neutral true (Some true) = refl
neutral true (Some false) = refl
neutral true None = refl
neutral false (Some true) = refl
neutral false (Some false) = refl
neutral false None = refl

-- a member that changes nothing
pub deciding_same : (all : Bool) (known : Option Bool) (c : Condition) (rest whole : List Condition) (s : State) → Deciding all known (c ∷ rest) whole s → Some all ≡ decided c s → Deciding all known rest whole s
deciding_same all known c rest whole s h e =
    subst (λ k. Deciding all k rest whole s) (neutral all known) (deciding_next all known (Some all) c rest whole s h e)

pub member_atom : {Q : Type 0} (v : Q → Fraction) (cond : Cond Q) (a : AtomId) (positive b : Bool) (s : State) → cond ≡ conds.Atom a positive → b ≡ signed positive (atom_of s a.0) → Some b ≡ decided (condition_of v cond) s
member_atom v cond a positive b s e h =
    ap Some h ∙ decided_atom a.0 positive s ∙ ap (λ c. decided (condition_of v c) s) (sym e)

pub member_compare : {Q : Type 0} (v : Q → Fraction) (cond : Cond Q) (test : _) (left right : _) (positive : Bool) (s : State) → cond ≡ conds.Compare test left right positive → None ≡ decided (condition_of v cond) s
member_compare v cond test left right positive s e =
    decided_compare _ _ _ positive s ∙ ap (λ c. decided (condition_of v c) s) (sym e)

pub deciding_end : (all : Bool) (known : Option Bool) (whole : List Condition) (s : State) → Deciding all known [] whole s → known ≡ decided (joined all whole) s
deciding_end all known whole s h = sym (decided_last all known) ∙ ap (join_decided all known) (sym (decided_unit all s)) ∙ h.so_far

pub record Going (fits : Fraction → Type 0) (all truth : Bool) (rest whole : List Condition) (s : State) : Type 0 where
  pub inside : Fits (length s.atoms) (length s.fluents) (joined all rest)
  pub undecided : Some (not all) ≡ decided (joined all rest) s → ⊥
  pub so_far : join all truth (holds (joined all rest) s) ≡ holds (joined all whole) s
  pub fit : AllFit fits (tests_of (joined all rest) s) → AllFit fits (tests_of (joined all whole) s)
  pub unfit : (m : Node) → FirstUnfit fits (tests_of (joined all rest) s) m → FirstUnfit fits (tests_of (joined all whole) s) m

pub going_start : (fits : Fraction → Type 0) (all : Bool) (whole : List Condition) (s : State) → Fits (length s.atoms) (length s.fluents) (joined all whole) → None ≡ decided (joined all whole) s → Going fits all all whole whole s
going_start fits all whole s h n = record { inside = h; undecided = λ e. cc; so_far = join_unit all _; fit = λ a. a; unfit = λ m u. u }

pub going_next : (fits : Fraction → Type 0) (all truth b : Bool) (c : Condition) (rest whole : List Condition) (s : State) → Going fits all truth (c ∷ rest) whole s → AllFit fits (tests_of c s) → b ≡ holds c s → Going fits all (join all truth b) rest whole s
going_next fits all truth b c rest whole s h a e =
    let t = tests_pair all c (joined all rest) s h.undecided in record {
      inside = fits_tail all _ _ c (joined all rest) h.inside;
      undecided = λ k. h.undecided (sym (decided_absorbs all (decided c s)) ∙ ap (join_decided all (decided c s)) k ∙ sym (decided_pair all c (joined all rest) s));
      so_far = join_assoc all truth b _ ∙ ap (λ o. join all truth (join all o (holds (joined all rest) s))) e ∙ ap (join all truth) (sym (holds_pair all c (joined all rest) s)) ∙ h.so_far;
      fit = λ r. h.fit (subst (AllFit fits) (sym t) (pass_append (NodeFits fits) _ _ a r));
      unfit = λ m u. h.unfit m (subst (λ ns. FirstUnfit fits ns m) (sym t) (fail_right (NodeFits fits) _ _ m a u));
    }

pub going_err : (fits : Fraction → Type 0) (all truth : Bool) (c : Condition) (rest whole : List Condition) (s : State) (m : Node) → Going fits all truth (c ∷ rest) whole s → FirstUnfit fits (tests_of c s) m → FirstUnfit fits (tests_of (joined all whole) s) m
going_err fits all truth c rest whole s m h u =
    h.unfit m (subst (λ ns. FirstUnfit fits ns m) (sym (tests_pair all c (joined all rest) s h.undecided)) (fail_left (NodeFits fits) _ _ m u))

unit_asks : (fits : Fraction → Type 0) (all : Bool) (s : State) → AllFit fits (tests_of (unit all) s)
unfolding tests_of
unit_asks fits true s = pass_none (NodeFits fits)
unit_asks fits false s = pass_none (NodeFits fits)

pub going_end : (fits : Fraction → Type 0) (all truth : Bool) (whole : List Condition) (s : State) → Going fits all truth [] whole s → AllFit fits (tests_of (joined all whole) s) × (truth ≡ holds (joined all whole) s)
going_end fits all truth whole s h = (h.fit (unit_asks fits all s), sym (join_end all truth s) ∙ h.so_far)

pub next_member : {A B : Type 0} (f : A → B) (xs : List A) (i : ℕ) (x : A) → i < length xs → x ≡ get_or xs i x → map f (drop i xs) ≡ f x ∷ map f (drop (i + 1) xs)
next_member f xs i x h e = ap (map f) (drop-cons xs i x h) ∙ rw add-one (ap (λ y. f y ∷ map f (drop (suc i) xs)) (sym e))

pub no_member : {A B : Type 0} (f : A → B) (xs : List A) (i : ℕ) → length xs ≤ i → map f (drop i xs) ≡ []
no_member f xs i h = ap (map f) (drop_all i xs h)

-- a condition with members is its members in pairs
abbrev row_of : {Q : Type 0} → Cond Q → (n : Count) × Row_of-Cond Q n
row_of (All' _ row) = (_, row)
row_of (Any' _ row) = (_, row)
row_of _ = (_, end_of-Cond)

all_row : {Q : Type 0} (v : Q → Fraction) (n : _) (row : Row_of-Cond Q n) → all_in v row ≡ joined true (map (condition_of v) (items-the_row-Cond Q n row))
all_row {Q = Q} v n end_of-Cond = refl
all_row {Q = Q} v n (more_of-Cond c rest) = ap (Both (condition_of v c)) (all_row v _ rest)

any_row : {Q : Type 0} (v : Q → Fraction) (n : _) (row : Row_of-Cond Q n) → any_in v row ≡ joined false (map (condition_of v) (items-the_row-Cond Q n row))
any_row {Q = Q} v n end_of-Cond = refl
any_row {Q = Q} v n (more_of-Cond c rest) = ap (Either (condition_of v c)) (any_row v _ rest)

pub all_view : {Q : Type 0} (v : Q → Fraction) (cond : Cond Q) (members : Vec (Cond Q) Global) (xs : List (Cond Q)) → cond ≡ All members → xs ≡ members.items → joined true (map (condition_of v) xs) ≡ condition_of v cond
all_view {Q = Q} v cond members xs e k =
    let row = row_of (All members) in
    ap (λ ys. joined true (map (condition_of v) ys)) (k ∙ sym (items_hidden-the_row-Cond-0 Q members)) ∙ sym (all_row v row.0 row.1) ∙ ap (condition_of v) (sym e)

pub any_view : {Q : Type 0} (v : Q → Fraction) (cond : Cond Q) (members : Vec (Cond Q) Global) (xs : List (Cond Q)) → cond ≡ Any members → xs ≡ members.items → joined false (map (condition_of v) xs) ≡ condition_of v cond
any_view {Q = Q} v cond members xs e k =
    let row = row_of (Any members) in
    ap (λ ys. joined false (map (condition_of v) ys)) (k ∙ sym (items_hidden-the_row-Cond-0 Q members)) ∙ sym (any_row v row.0 row.1) ∙ ap (condition_of v) (sym e)

module _ {Q : Type 0} (v : Q → Fraction) (cond : Cond Q) (members : Vec (Cond Q) Global) (xs : List (Cond Q)) where
  pub fits_all : (a f : ℕ) → cond ≡ All members → xs ≡ members.items → Fits a f (condition_of v cond) → Fits a f (joined true (map (condition_of v) xs))
  fits_all a f e k h = subst (Fits a f) (sym (all_view v cond members xs e k)) h

  pub fits_any : (a f : ℕ) → cond ≡ Any members → xs ≡ members.items → Fits a f (condition_of v cond) → Fits a f (joined false (map (condition_of v) xs))
  fits_any a f e k h = subst (Fits a f) (sym (any_view v cond members xs e k)) h

  pub decided_all : (s : State) (o : Option Bool) → cond ≡ All members → xs ≡ members.items → o ≡ decided (joined true (map (condition_of v) xs)) s → o ≡ decided (condition_of v cond) s
  decided_all s o e k h = h ∙ ap (λ c. decided c s) (all_view v cond members xs e k)

  pub decided_any : (s : State) (o : Option Bool) → cond ≡ Any members → xs ≡ members.items → o ≡ decided (joined false (map (condition_of v) xs)) s → o ≡ decided (condition_of v cond) s
  decided_any s o e k h = h ∙ ap (λ c. decided c s) (any_view v cond members xs e k)

  pub undecided_all : (s : State) (o : Option Bool) → cond ≡ All members → xs ≡ members.items → o ≡ decided (condition_of v cond) s → o ≡ decided (joined true (map (condition_of v) xs)) s
  undecided_all s o e k h = h ∙ ap (λ c. decided c s) (sym (all_view v cond members xs e k))

  pub undecided_any : (s : State) (o : Option Bool) → cond ≡ Any members → xs ≡ members.items → o ≡ decided (condition_of v cond) s → o ≡ decided (joined false (map (condition_of v) xs)) s
  undecided_any s o e k h = h ∙ ap (λ c. decided c s) (sym (any_view v cond members xs e k))

pub ruleset deciding = (decided_atom, decided_compare, fits_all, fits_any, decided_all, decided_any)

pub ruleset holding = (decided_asks, decided_holds, atom_asks, compare_fit, compare_unfit, compare_holds, fits_all, fits_any, undecided_all, undecided_any)
