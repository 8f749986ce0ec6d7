use Rattle.std.proofs.Common.{◌≡◌, ℕ, Bool, true, false, List, [], ◌∷◌, ◌++◌, refl, sym, ap, subst, ◌∙◌, append-nil, length, arith}
use Rattle.std.proofs.lemmas.Bool.{eqb-true}
use Rattle.std.proofs.lemmas.List.{nil_from_length}
use Rattle.plus_drawing.specs.declared.markup.Tag.{Tag}
use Rattle.plus_drawing.proofs.Writing.{Holds, finished}
use Rattle.plus_drawing.proofs.markup.Markup.finish.Goals as goal

pub returns-then-is_empty : goal.returns-then-is_empty
returns-then-is_empty c =
    let n = eqb-true _ _ (sym c.is_empty.ensures ∙ c.if-is_empty.true) in
    let m : length c.open.self.opened.items ≡ 0 = omega (arith, n, c.open.self.opened.ok.0) in
    finished c.open.self.opened.items c.open.self.bytes.items (nil_from_length _ m)
    (subst (λ (w : Bool). Holds w c.open.self.opened.items c.open.self.bytes.items) c.if-self.true c.open.self.written)
