-- A plan in order stays inside the limits where it does at the end of its text.
use Rattle.std.proofs.Common.{◌≡◌, ℕ, Bool, true, false, List, [], ◌∷◌, ◌++◌, refl, sym, subst}
use Rattle.std.specs.Prelude.{All}
use Rattle.std.proofs.lemmas.List.Elements.{All-head, All-tail}
use Rattle.plus_model.specs.Terms.{Problem}
use Rattle.plus_model.specs.Plan.{IsInOrder}
use Rattle.plus_model.specs.History.{Part}
use Rattle.plus_model.specs.Trajectory.{Follow, Prefix, first_part, first_view}
use Rattle.plus_model.proofs.Paths.{prefix_begins}
use Rattle.plus_model.proofs.Later.{prefix_goes_on}
use Rattle.plus_plan.specs.declared.forms.Line.{Line}
use Rattle.plus_validator.specs.Plans.{Pair, lines_meant, plan_of, HasValue}
use Rattle.plus_validator.specs.Asking.{instances_of}
use Rattle.plus_validator.specs.Tame.{StaysInside}
use Rattle.plus_validator.specs.Laws.{InOrderIsTame}
use Rattle.plus_validator.proofs.CalledTests.{instances_agree}
use Rattle.plus_validator.proofs.Longer.{fails_longer}
use Rattle.plus_validator.proofs.TextStops.{goes_on, begun_more}

-- a member has what all have
pub one_of : {A : Type 0} (Q : A → Type 0) (front back : List A) (x : A) → All Q (front ++ x ∷ back) → Q x
one_of Q [] back x a = All-head Q x back a
one_of Q (y ∷ front) back x a = one_of Q front back x (All-tail Q y (front ++ x ∷ back) a)

module _ (d : Pair) (P : Problem) (most : ℕ) (front back : List Line) (closed : Bool) (o : IsInOrder (lines_meant d (front ++ back))) where
  -- a prefix of the first lines is one of all
  prefix_by : (h rest : List Part) → h ≡ first_part P ∷ rest → Follow P (plan_of d front false) (first_view P) rest → Prefix P (plan_of d front false) h → Prefix P (plan_of d (front ++ back) closed) h
  prefix_by h [] e f p = subst (Prefix P (plan_of d (front ++ back) closed)) (sym e) (prefix_begins P (plan_of d (front ++ back) closed) o)
  prefix_by h (x ∷ rest) e f p =
      prefix_goes_on P (plan_of d front false) (plan_of d (front ++ back) closed) h p (goes_on d front back false closed) o (begun_more d front back closed f.0)

  pub inside_front : StaysInside P (plan_of d (front ++ back) closed) most (instances_of d (front ++ back)) → StaysInside P (plan_of d front false) most (instances_of d front)
  inside_front k h t p f l =
      k h t (prefix_by h p.rest p.begins p.follow p)
      (fails_longer P (plan_of d front false) (plan_of d (front ++ back) closed) most (instances_of d front) (instances_of d (front ++ back)) h t (goes_on d front back false closed) (instances_agree d front back) refl p f) l

pub in_order_is_tame : InOrderIsTame
in_order_is_tame d P most lines o a k = record {
  at_end = k;
  on_way = λ front back e. inside_front d P most front back true
      (subst (λ (ls : List Line). IsInOrder (lines_meant d ls)) e o)
      (subst (λ (ls : List Line). StaysInside P (plan_of d ls true) most (instances_of d ls)) e k);
  times = λ front line back h e b p w. one_of HasValue front back line (subst (All HasValue) e a);
}
