use Rattle.std.proofs.Common.{◌≡◌, ℕ, Bool, true, false, List, [], ◌∷◌, ◌++◌, refl, sym, ap, subst, ◌∙◌, append-nil}
use Rattle.plus_drawing.specs.declared.markup.Tag.{Tag}
use Rattle.plus_drawing.proofs.Writing.{Holds, begun}
use Rattle.plus_drawing.proofs.markup.Markup.new.Goals as goal

pub invariant_of-result : goal.invariant_of-result
invariant_of-result c =
    record {
      written = subst (λ (o : List Tag). Holds true o c.new.result.items) (sym c.new-2.ensures.items)
          (subst (λ (b : List ℕ). Holds true [] b) (sym c.new.ensures.items) (begun true));
    }
