-- What becomes of a prefix when one more line is read.
use Rattle.std.proofs.Common.{◌≡◌, ℕ, zero, suc, ◌≤◌, arith, List, [], ◌∷◌, ◌++◌, refl, sym, subst}
use Rattle.std.specs.Prelude.{Option, Some, None, slice_get, length}
use Rattle.plus_model.specs.Terms.{Problem}
use Rattle.plus_model.specs.Plan.{Line, ActLine, EndLine, Plan}
use Rattle.plus_model.specs.History.{Part, Enter, Round, Act, Run, View, view_after, view_from}
use Rattle.plus_model.specs.Trajectory.{NextBy, Follow, first_view, view_of}
use Rattle.plus_model.specs.Laws.{OrderGrows, NextIsRead}
use Rattle.plus_model.proofs.Paths.{view_is}

pub order_grows : OrderGrows
order_grows [] t call line o h = (h, tt)
order_grows (EndLine u ∷ []) t call line o h = o
order_grows (EndLine u ∷ y ∷ ys) t call line o h = o
order_grows (ActLine u c ∷ []) t call line o h = (o.0, order_grows [] t call line o.1 h)
order_grows (ActLine u c ∷ y ∷ ys) t call line o h = (o.0, order_grows (y ∷ ys) t call line o.1 h)

one_more : (xs : List Line) (k : ℕ) (x : Line) → slice_get xs k ≡ Some x → suc k ≤ length xs
one_more [] k x e = cc
one_more (y ∷ xs) zero x e = omega arith
one_more (y ∷ xs) (suc k) x e = let h = one_more xs k x e in omega arith

-- no more lines are acted than were read
acted_by : (P : Problem) (L : Plan) (v : View) (p : Part) (o : Option (List ℕ)) → NextBy P L v o p → v.acted ≤ length L.lines → (view_after v p).acted ≤ length L.lines
acted_by P L v (Enter t a s) o n h = h
acted_by P L v (Round E s) o n h = h
acted_by P L v (Act i s) None n h = one_more L.lines v.acted _ n.due
acted_by P L v (Act i s) (Some R) n h = elim n [ ]
acted_by P L v (Run R) o n h = h

acted_within : (P : Problem) (L : Plan) (v : View) (ps : List Part) → Follow P L v ps → v.acted ≤ length L.lines → (view_from v ps).acted ≤ length L.lines
acted_within P L v [] f h = h
acted_within P L v (p ∷ ps) f h = acted_within P L (view_after v p) ps f.2 (acted_by P L v p v.running f.1 h)

next_read : (xs : List Line) (k : ℕ) (line : Line) (more : List Line) → k ≤ length xs → slice_get xs k ≡ None → slice_get (xs ++ line ∷ more) k ≡ Some line
next_read [] zero line more h e = refl
next_read [] (suc k) line more h e = absurd (omega arith)
next_read (x ∷ xs) zero line more h e = cc
next_read (x ∷ xs) (suc k) line more h e = next_read xs k line more (omega arith) e

pub next_is_read : NextIsRead
next_is_read P L L' h line more a e l =
    let w = subst (λ v. v.acted ≤ length L.lines) (sym (view_is P h a.rest a.begins)) (acted_within P L (first_view P) a.rest a.follow (omega arith)) in
    subst (λ ls. slice_get ls (view_of P h).acted ≡ Some line) (sym l) (next_read L.lines (view_of P h).acted line more w e)
