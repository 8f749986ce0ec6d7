use Rattle.std.proofs.Common.{◌≡◌, ◌∙◌, ap, arith, length, subst, List, ℕ}
use Rattle.plus_parser.specs.SpellsConstraints.{ConstraintTokens, SpellsConstraintsWithin}
use Rattle.plus_places.specs.Place.{Refuses}
use Rattle.plus_report.specs.declared.refusals.Text.TheVariants as texts
use Rattle.plus_reply.specs.Pair.Pair.{text_refusal}
use Rattle.plus_watch_command.proofs.Reading.{constraints_refused, constraints_read}
use Rattle.plus_watch_command.proofs.constraints.constraints_under.Goals as goal

pub returns-clause-not_read : goal.returns-clause-not_read
returns-clause-not_read g c =
    constraints_refused _ _ _ c.in_ok-text.text.items c.in-Err.fault _ c.in_ok-text.ensures.read
    (subst (λ (t : List ℕ). Refuses ConstraintTokens 64 t c.in-Err.fault) c.deref.ensures.value c.in-Err.ensures.placed)
    (let n : c.len.result ≡ length c.in_ok-text.text.items = omega (arith, ap length c.deref.ensures.value, c.deref.ensures.len, c.len.ensures) in
    c.refuse_text.ensures ∙ ap (λ n. text_refusal texts.Constraints n c.in-Err.fault) n)

pub returns-in-Ok-clause-read : goal.returns-in-Ok-clause-read
returns-in-Ok-clause-read g c =
    constraints_read _ c.in_ok-text.text.items c.in-Ok.rules.items c.in_ok-text.ensures.read
    (subst (λ (t : List ℕ). SpellsConstraintsWithin 64 t c.in-Ok.rules.items) c.deref.ensures.value c.in-Ok.ensures.found)
