use Rattle.std.proofs.Common.{◌≡◌, ℕ, Bool, true, false, List, [], ◌∷◌, ◌++◌, refl, sym, ap, subst, ◌∙◌, append-nil}
use Rattle.plus_drawing.specs.declared.markup.Tag.{Tag}
use Rattle.plus_drawing.proofs.Writing.{Holds, closing_written}
use Rattle.plus_drawing.proofs.markup.Markup.close.Goals as goal

pub invariant_of-self : goal.invariant_of-self
invariant_of-self c =
    record { written = subst (λ (o : List Tag). Holds c.args.self.now.is_whole o c.args.self.now.bytes.items) (c.in_default.ensures.items ∙ append-nil _) c.args.self.now.written }

pub invariant_of-self-else-not-appends : goal.invariant_of-self-else-not-appends
invariant_of-self-else-not-appends c =
    let e : c.appends.new.bytes.items ≡ c.args.self.now.bytes.items ++ c.deref.result.now = c.appends.ensures c.if-not-appends.false in
    record {
      written = closing_written _ _ _ _ c.pop.new.self.items c.in-Some.tag c.in-Some.ensures.items
          (e ∙ ap (λ (t : List ℕ). c.args.self.now.bytes.items ++ t) (c.deref.ensures.value ∙ c.in-Ok.ensures)) c.args.self.now.written;
    }
