-- How the looks grow with a history.
use Rattle.std.proofs.Common.{◌≡◌, List, [], ◌∷◌, ◌++◌, refl, ap, sym, ◌∙◌, append_assoc}
use Rattle.std.proofs.lemmas.List.{append-nil}
use Rattle.std.specs.Prelude.{Option, Some, None}
use Rattle.plus_model.specs.Terms.{Problem}
use Rattle.plus_model.specs.History.{Part, View, view_after, view_from}
use Rattle.plus_model.specs.Trajectory.{first_view}
use Rattle.plus_crossing.specs.Asked.{Ask}
use Rattle.plus_constraints.specs.Constraint.{Constraint}
use Rattle.plus_constraints.specs.Place.{Place, or_else}
use Rattle.plus_watch.specs.Looks.{Look, first_found, if_sought, looks_ask, part_looks, parts_looks, history_looks}
use Rattle.plus_watch.specs.Asked.{rule_asks}
use Rattle.plus_watch.specs.Laws.{LooksGrow}
use Rattle.plus_watch.proofs.Histories.{found_append}

looks_append : (P : Problem) (c : Constraint) (v : View) (xs ys : List Part) → parts_looks P c v (xs ++ ys) ≡ parts_looks P c v xs ++ parts_looks P c (view_from v xs) ys
looks_append P c v [] ys = refl
looks_append P c v (x ∷ xs) ys = ap (λ ls. part_looks P c v x ++ ls) (looks_append P c (view_after v x) xs ys) ∙ sym (append_assoc (part_looks P c v x) (parts_looks P c (view_after v x) xs) (parts_looks P c (view_from (view_after v x) xs) ys))

one_more : (P : Problem) (c : Constraint) (h : List Part) (next : Part) → history_looks P c (h ++ next ∷ []) ≡ history_looks P c h ++ part_looks P c (view_from (first_view P) h) next
one_more P c h next = looks_append P c (first_view P) h (next ∷ []) ∙ ap (λ ls. history_looks P c h ++ ls) (append-nil (part_looks P c (view_from (first_view P) h) next))

sought_append : (o p : Option Place) (xs ys : List Ask) → if_sought o (xs ++ if_sought p ys) ≡ if_sought o xs ++ if_sought (or_else o p) ys
sought_append None p xs ys = refl
sought_append (Some x) p xs ys = refl

pub asks_append : (xs ys : List Look) → looks_ask (xs ++ ys) ≡ looks_ask xs ++ if_sought (first_found xs) (looks_ask ys)
asks_append [] ys = refl
asks_append (x ∷ xs) ys =
    ap (λ ts. x.asked ++ if_sought x.finds ts) (asks_append xs ys)
    ∙ ap (λ ts. x.asked ++ ts) (sought_append x.finds (first_found xs) (looks_ask xs) (looks_ask ys))
    ∙ sym (append_assoc x.asked (if_sought x.finds (looks_ask xs)) (if_sought (or_else x.finds (first_found xs)) (looks_ask ys)))

pub looks_grow : LooksGrow
unfolding rule_asks
looks_grow = record {
  part = one_more;
  asked = λ P c h next. ap looks_ask (one_more P c h next) ∙ asks_append (history_looks P c h) (part_looks P c (view_from (first_view P) h) next);
  stays = λ P c h more p e. ap first_found (looks_append P c (first_view P) h more) ∙ found_append (history_looks P c h) (parts_looks P c (view_from (first_view P) h) more) ∙ ap (λ o. or_else o (first_found (parts_looks P c (view_from (first_view P) h) more))) e;
}
