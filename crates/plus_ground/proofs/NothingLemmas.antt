-- What adds nothing to an expansion.
use Rattle.std.proofs.Common.{◌≡◌, Bool, true, false, cond, List, [], ◌∷◌, ◌++◌, ◌∙◌, ap, refl, sym, length, map, nat_eq, arith}
use Rattle.std.proofs.lemmas.List.{append-nil}
use Rattle.std.proofs.lemmas.Bool.Decides.{nat_tests}
use Rattle.std.specs.List.{flat_map}
use Rattle.plus_tree.specs.declared.terms.TypedName.{TypedName}
use Rattle.plus_tokens.specs.declared.span.Span.{Span}
use Rattle.plus_tree.specs.Effect as tree
use Rattle.plus_tree.specs.Effect.{Effects, e_all, e_forall, e_when, e_leaf, no_effects, more_effects}
use Rattle.plus_model.specs.Terms.{Effect, Rate}
use Rattle.plus_types.specs.Faults.{Context}
use Rattle.plus_expansion.specs.Objects.{members_of}
use Rattle.plus_expansion.specs.Environments.{Environment, environments}
use Rattle.plus_expansion.specs.Expansion.{condition_meant, leaf_meant, effects_meant, all_effects_meant, rates_meant, all_rates_meant}
use Rattle.plus_ground.specs.Nothing.{writes_nothing, write_nothing, have_objects}

flat_none : {X A : Type 0} (f : X → List A) (xs : List X) → ((x : X) → f x ≡ []) → flat_map f xs ≡ []
flat_none f [] h = refl
flat_none f (x ∷ xs) h = ap (λ ys. ys ++ flat_map f xs) (h x) ∙ flat_none f xs h

no_item : {A : Type 0} (xs : List A) → nat_eq (length xs) 0 ≡ true → xs ≡ []
no_item [] h = refl
no_item (x ∷ xs) h = let k : length (x ∷ xs) ≡ 0 = grind (arith, nat_tests) in absurd (omega arith)

first_true : (a b : Bool) → cond a b false ≡ true → a ≡ true
first_true true b h = refl
first_true false b h = cc

second_true : (a b : Bool) → cond a b false ≡ true → b ≡ true
second_true true b h = h
second_true false b h = cc

-- an effect in which no write stands has none for any objects
mutual
  no_write : (c : Context) (env : Environment) (e : tree.Effect) → writes_nothing e ≡ true → effects_meant c env e ≡ []
  no_write c env (e_all es s) h = no_writes c env es h
  no_write c env (e_forall vs e s) h = flat_none (λ inner. effects_meant c inner e) (environments c vs env) (λ inner. no_write c inner e h)
  no_write c env (e_when f ls s) h = ap (map (leaf_meant c env (condition_meant c env true f))) (no_item ls h)
  no_write c env (e_leaf l s) h = cc

  no_writes : (c : Context) (env : Environment) (es : Effects) → write_nothing es ≡ true → all_effects_meant c env es ≡ []
  no_writes c env no_effects h = refl
  no_writes c env (more_effects e es) h =
      ap (λ ws. ws ++ all_effects_meant c env es) (no_write c env e (first_true (writes_nothing e) (write_nothing es) h))
      ∙ no_writes c env es (second_true (writes_nothing e) (write_nothing es) h)

mutual
  no_rate : (c : Context) (env : Environment) (e : tree.Effect) → writes_nothing e ≡ true → rates_meant c env e ≡ []
  no_rate c env (e_all es s) h = no_rates c env es h
  no_rate c env (e_forall vs e s) h = flat_none (λ inner. rates_meant c inner e) (environments c vs env) (λ inner. no_rate c inner e h)
  no_rate c env (e_when f ls s) h = refl
  no_rate c env (e_leaf l s) h = cc

  no_rates : (c : Context) (env : Environment) (es : Effects) → write_nothing es ≡ true → all_rates_meant c env es ≡ []
  no_rates c env no_effects h = refl
  no_rates c env (more_effects e es) h =
      ap (λ ws. ws ++ all_rates_meant c env es) (no_rate c env e (first_true (writes_nothing e) (write_nothing es) h))
      ∙ no_rates c env es (second_true (writes_nothing e) (write_nothing es) h)

-- a `forall` over what writes nothing adds nothing
pub forall_nothing :
    (c : Context) (env : Environment) (effect : tree.Effect) (vs : List TypedName) (body : tree.Effect) (s : Span) (start : List Effect)
    → effect ≡ e_forall vs body s → writes_nothing body ≡ true → start ≡ start ++ effects_meant c env effect
forall_nothing c env effect vs body s start w h =
    sym (append-nil start) ∙ ap (λ ws. start ++ ws) (sym (ap (effects_meant c env) w ∙ no_write c env (e_forall vs body s) h))

pub forall_no_rate :
    (c : Context) (env : Environment) (effect : tree.Effect) (vs : List TypedName) (body : tree.Effect) (s : Span) (start : List Rate)
    → effect ≡ e_forall vs body s → writes_nothing body ≡ true → start ≡ start ++ rates_meant c env effect
forall_no_rate c env effect vs body s start w h =
    sym (append-nil start) ∙ ap (λ ws. start ++ ws) (sym (ap (rates_meant c env) w ∙ no_rate c env (e_forall vs body s) h))

-- where the first variable has no object, or those after it have no choice, there is none
one_empty :
    (c : Context) (v : TypedName) (vs : List TypedName) (env : Environment) (none : Bool)
    → none ≡ nat_eq (length (members_of c v.kind.name)) 0 → cond none false (have_objects c vs) ≡ false
    → ((inner : Environment) → have_objects c vs ≡ false → environments c vs inner ≡ []) → environments c (v ∷ vs) env ≡ []
one_empty c v vs env true n h rest =
    ap (flat_map (λ o. environments c vs (env ++ (v.name.name, o) ∷ []))) (no_item (members_of c v.kind.name) (sym n))
one_empty c v vs env false n h rest =
    flat_none (λ o. environments c vs (env ++ (v.name.name, o) ∷ [])) (members_of c v.kind.name) (λ o. rest (env ++ (v.name.name, o) ∷ []) h)

-- where a variable has no object there is no choice
pub no_environment : (c : Context) (vs : List TypedName) (env : Environment) → have_objects c vs ≡ false → environments c vs env ≡ []
no_environment c [] env h = cc
no_environment c (v ∷ vs) env h =
    one_empty c v vs env (nat_eq (length (members_of c v.kind.name)) 0) refl h (λ inner k. no_environment c vs inner k)

-- then nothing is made
pub none_made :
    {A : Type 0} (f : Environment → A) (c : Context) (vars params : List TypedName) (start : List A)
    → vars ≡ params → have_objects c vars ≡ false → start ≡ start ++ map f (environments c params [])
none_made f c vars params start e h =
    sym (append-nil start) ∙ ap (λ es. start ++ map f es) (sym (ap (λ vs. environments c vs []) (sym e) ∙ no_environment c vars [] h))
