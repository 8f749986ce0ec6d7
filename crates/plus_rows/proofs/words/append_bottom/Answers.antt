use Rattle.std.proofs.Common.{◌≡◌, List, ℕ, ◌++◌, subst, sym, append-nil}
use Rattle.std.specs.Prelude.{OnOk}
use Rattle.plus_report.proofs.TextLemmas.{bottom_text-one, bottom_text-other}
use Rattle.plus_rows.proofs.words.append_bottom.Goals as goal

pub returns-then-bottom-eq1 : goal.returns-then-bottom-eq1
returns-then-bottom-eq1 c =
    subst (λ (t : List ℕ). c.args.into.now.items ≡ c.args.into.now.items ++ t) (bottom_text-one _ c.if-bottom-eq1.true) (sym (append-nil _))

pub returns : goal.returns
returns c =
    subst (λ (t : List ℕ). OnOk c.append_over.result (c.append_over.new.into.items ≡ c.args.into.now.items ++ t)) (bottom_text-other _ c.if-bottom-eq1.false) c.append_over.ensures
