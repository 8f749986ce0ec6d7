-- A form inside a form.
use Rattle.std.proofs.Common.{◌≡◌, ℕ, zero, suc, ◌-◌, ◌<◌, List, ap, arith}
use Rattle.plus_tokens.specs.declared.span.Span.{Span}
use Rattle.plus_tokens.specs.Items.{Item}
use Rattle.plus_parser.specs.Phrases.Grammar.{expr_at, expr_body}

pub expr_at-inside : (room : ℕ) (front : Span) (items : List Item) → 0 < room → expr_at room front items ≡ expr_body (room - 1) (expr_at (room - 1)) front items
unfolding expr_at
expr_at-inside zero front items lt = absurd (omega arith)
expr_at-inside (suc room) front items lt =
    let same : room ≡ suc room - 1 = omega arith in ap (λ r. expr_body r (expr_at r) front items) same
