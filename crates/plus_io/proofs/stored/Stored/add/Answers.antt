use Rattle.std.proofs.Common.{◌∙◌, ap, sym, drop}
use Rattle.plus_io.specs.Stored.{Texts, place_of}
use Rattle.plus_io.proofs.StoredLemmas.{inside-push, same_text, with_named-new}
use Rattle.plus_io.proofs.stored.Stored.add.Goals as goal

pub invariant_of-self-2 : goal.invariant_of-self-2
invariant_of-self-2 c =
    let h = inside-push _ _ _ _ _ c.in_ok-put_at.ensures.texts c.self.invariant.1 c.self.invariant.2 in
    (c.self.invariant.0, h.0, h.1)

pub returns-clause-ok : goal.returns-clause-ok
returns-clause-ok c =
    rw (← c.self.view_is) (with_named-new _ _ _ _ _
    (ap (λ (t : Texts). place_of t.names c.args.name.now) c.self.view_is ∙ sym c.place_of.ensures.place ∙ c.in_default.is)
    c.in_ok-put_at.ensures.names c.in_ok-put_at.ensures.texts
    (ap (drop c.self.inside.at) (same_text _ _ _ _ c.in_ok-put_at.ensures.texts c.self.invariant.1)))
