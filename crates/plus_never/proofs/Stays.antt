-- What is false and never added stays false along a history.
use Rattle.std.proofs.Common.{◌≡◌, ℕ, zero, suc, false, List, [], ◌∷◌, ◌++◌, refl, ap, sym, subst, ◌∙◌}
use Rattle.std.specs.Prelude.{Option, Some, None, slice_get}
use Rattle.plus_model.specs.Terms.{Problem}
use Rattle.plus_model.specs.Value.{atom_of}
use Rattle.plus_model.specs.Plan.{Called, Instance, Line, ActLine, EndLine, Plan}
use Rattle.plus_model.specs.History.{Part, Enter, Round, Act, Run, View, view_after, view_from}
use Rattle.plus_model.specs.Trajectory.{NextBy, Follow, first_part, first_view}
use Rattle.plus_model.proofs.Paths.{view_is}
use Rattle.plus_never.specs.Adds.{event_adds, literal_sets, call_adds, line_adds}
use Rattle.plus_never.specs.Laws.{IsNeverAdded, StaysFalse}
use Rattle.plus_never.proofs.Atoms.{or_left, or_right, joint_adds, round_adds, literals_add, moved_atom}

line_at : (a : ℕ) (ls : List Line) (k : ℕ) (t : _) (call : Called) → line_adds a ls ≡ false → slice_get ls k ≡ Some (ActLine t call) → call_adds a call ≡ false
line_at a [] k t call n e = absurd (none e)
  where
    none : {x : Line} → None ≡ Some x → ⊥
    none e = cc
line_at a (ActLine u c ∷ ls) zero t call n e = subst (λ x. call_adds a x ≡ false) (same e) (or_left (call_adds a c) (line_adds a ls) n)
  where
    same : Some (ActLine u c) ≡ Some (ActLine t call) → c ≡ call
    same e = cc
line_at a (EndLine u ∷ ls) zero t call n e = absurd (differ e)
  where
    differ : Some (EndLine u) ≡ Some (ActLine t call) → ⊥
    differ e = cc
line_at a (ActLine u c ∷ ls) (suc k) t call n e = line_at a ls k t call (or_right (call_adds a c) (line_adds a ls) n) e
line_at a (EndLine u ∷ ls) (suc k) t call n e = line_at a ls k t call n e

pub one_part : (P : Problem) (L : Plan) (a : ℕ) (v : View) (o : Option (List ℕ)) (p : Part) → IsNeverAdded P L a → NextBy P L v o p → atom_of v.state a ≡ false → atom_of (view_after v p).state a ≡ false
one_part P L a v None (Enter t x s) n m f = absurd m
one_part P L a v None (Round E s) n m f =
    joint_adds a _ v.state s (round_adds a P E (or_left (event_adds a P.events) (literal_sets a P.timed) n.world)) m.effect f
one_part P L a v None (Act i s) n m f =
    joint_adds a m.action.effects v.state s (line_at a L.lines v.acted v.time (Instance m.action) n.lines m.due) m.acts.effect f
one_part P L a v None (Run R) n m f = f
one_part P L a v (Some R) (Enter t x s) n m f =
    subst (λ z. atom_of z a ≡ false) (sym m.after_is)
    (literals_add a P t x (or_right (event_adds a P.events) (literal_sets a P.timed) n.world)
    (subst (λ z. atom_of z a ≡ false) (sym m.arrival_is) (moved_atom a v.state m.rate _ f)))
one_part P L a v (Some R) (Round E s) n m f = absurd m
one_part P L a v (Some R) (Act i s) n m f = absurd m
one_part P L a v (Some R) (Run S) n m f = absurd m

pub all_parts : (P : Problem) (L : Plan) (a : ℕ) (v : View) (ps : List Part) → IsNeverAdded P L a → Follow P L v ps → atom_of v.state a ≡ false → atom_of (view_from v ps).state a ≡ false
all_parts P L a v [] n m f = f
all_parts P L a v (p ∷ ps) n m f = all_parts P L a (view_after v p) ps n m.2 (one_part P L a v v.running p n m.1 f)

follow_rest : (P : Problem) (L : Plan) (v : View) (xs ys : List Part) → Follow P L v (xs ++ ys) → Follow P L (view_from v xs) ys
follow_rest P L v [] ys m = m
follow_rest P L v (x ∷ xs) ys m = follow_rest P L (view_after v x) xs ys m.2

view_append : (v : View) (xs ys : List Part) → view_from v (xs ++ ys) ≡ view_from (view_from v xs) ys
view_append v [] ys = refl
view_append v (x ∷ xs) ys = view_append (view_after v x) xs ys

pub stays_false : StaysFalse
stays_false P L h more a n x y f =
    let e : h ++ more ≡ first_part P ∷ (x.rest ++ more) = ap (λ t. t ++ more) x.begins in
    let g : y.rest ≡ x.rest ++ more = tails (sym y.begins ∙ e) in
    let v = view_from (first_view P) x.rest in
    subst (λ z. atom_of z.state a ≡ false) (sym (view_is P (h ++ more) (x.rest ++ more) e ∙ view_append (first_view P) x.rest more))
    (all_parts P L a v more n (follow_rest P L (first_view P) x.rest more (subst (Follow P L (first_view P)) g y.follow))
    (subst (λ z. atom_of z.state a ≡ false) (view_is P h x.rest x.begins) f))
  where
    tails : {p q : Part} {ps qs : List Part} → p ∷ ps ≡ q ∷ qs → ps ≡ qs
    tails e = cc
