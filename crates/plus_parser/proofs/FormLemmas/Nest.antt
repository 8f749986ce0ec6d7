-- A form inside a form.
use Rattle.std.proofs.Common.{◌≡◌, ℕ, zero, suc, ◌-◌, ◌<◌, List, ap, arith}
use Rattle.plus_tokens.specs.declared.span.Span.{Span}
use Rattle.plus_tokens.specs.Items.{Item}
use Rattle.plus_parser.specs.Forms.ReadingForms.{cond_at, cond_body, effect_at, effect_body}

pub cond_at-inside : (room : ℕ) (front : Span) (items : List Item) → 0 < room → cond_at room front items ≡ cond_body (room - 1) (cond_at (room - 1)) front items
unfolding cond_at
cond_at-inside zero front items lt = absurd (omega arith)
cond_at-inside (suc room) front items lt =
    let same : room ≡ suc room - 1 = omega arith in ap (λ r. cond_body r (cond_at r) front items) same

pub effect_at-inside : (room : ℕ) (front : Span) (items : List Item) → 0 < room → effect_at room front items ≡ effect_body (room - 1) (effect_at (room - 1)) front items
unfolding effect_at
effect_at-inside zero front items lt = absurd (omega arith)
effect_at-inside (suc room) front items lt =
    let same : room ≡ suc room - 1 = omega arith in ap (λ r. effect_body r (effect_at r) front items) same
