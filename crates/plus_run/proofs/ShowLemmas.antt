-- What `show` shows, put together from what its calls answer.
use Rattle.std.proofs.Common.{ℕ, ◌≤◌, List, length, Option, Some, None, refl}
use Rattle.std.specs.Prelude.{IfSome}
use Rattle.plus_report.specs.declared.refusals.Early.{Early}
use Rattle.plus_report.specs.Refusals.{early_text}
use Rattle.plus_report.specs.declared.status.Status.TheVariants as s
use Rattle.plus_reply.specs.Statuses.{early_status}
use Rattle.plus_run.specs.Shown.{Shows, a_tree, no_tree}

module _ {T : Type 0} (Spells : List ℕ → T → Type 0) (canon : T → List ℕ) (Refused : List ℕ → Early → Type 0) where
  -- a text that is shown
  pub shown :
      (bytes : Option (List ℕ)) (tree : T) → IfSome bytes (λ text. Spells text tree × (length text ≤ 1048576))
      → IfSome bytes (λ text. Shows Spells canon Refused text s.Valid (canon tree))
  shown None tree h = tt
  shown (Some text) tree h = a_tree tree h refl refl

  -- or refused
  pub not_shown :
      (bytes : Option (List ℕ)) (e : Early) → IfSome bytes (λ text. Refused text e)
      → IfSome bytes (λ text. Shows Spells canon Refused text (early_status e) (early_text e))
  not_shown None e h = tt
  not_shown (Some text) e h = no_tree e h refl refl
