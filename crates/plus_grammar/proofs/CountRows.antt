-- The worked rows of keys and sections.
use Rattle.std.proofs.Common.{◌≤◌, [], ◌∷◌, length, refl, arith}
use Rattle.plus_grammar.specs.Rows.{CountRows}

two_many : {X : Type 0} (x y : X) → length (x ∷ y ∷ []) ≤ 1 → ⊥
two_many x y h = omega (arith, h)

pub count_rows : CountRows
count_rows = record {
  no_key = record { parameters = (omega arith, refl); condition = (omega arith, refl); effect = (omega arith, refl) };
  any_order = λ vs c s h. record { parameters = h.parameters; condition = h.condition; effect = h.effect };
  key_twice = λ vs s h. two_many vs vs h.parameters.0;
  section_twice = λ d h. let few = h.types.0 in omega (arith, few);
  two_actions = λ a b d h. h.actions;
  no_goal = λ x p h. let e = h.goal in cc;
  two_metrics = λ x c p h. let m = h.metric in omega (arith, m);
}
