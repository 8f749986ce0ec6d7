use Rattle.std.proofs.Common.{◌≡◌, ℕ, Bool, true, false, List, [], ◌∷◌, ◌++◌, refl, sym, ap, subst, ◌∙◌, append-nil}
use Rattle.plus_drawing.proofs.Writing.{lone_written}
use Rattle.plus_drawing.proofs.markup.Markup.lone.Goals as goal

pub invariant_of-self-else-not-appends : goal.invariant_of-self-else-not-appends
invariant_of-self-else-not-appends c =
    let e : c.appends.new.bytes.items ≡ c.args.self.now.bytes.items ++ c.deref.result.now = c.appends.ensures c.if-not-appends.false in
    record { written = lone_written _ _ _ _ c.args.tag c.in-Ok.ensures.0 (e ∙ ap (λ (t : List ℕ). c.args.self.now.bytes.items ++ t) (c.deref.ensures.value ∙ c.in-Ok.ensures.1)) c.args.self.now.written }
