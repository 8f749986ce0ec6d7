-- What `numeric` shows, put together from what its calls answer.
use Rattle.std.proofs.Common.{◌≡◌, ℕ, ◌≤◌, List, [], Option, Some, None, subst, sym, ◌∙◌, refl, false, IsTrue}
use Rattle.std.specs.Prelude.{IfSome}
use Rattle.plus_tree.specs.declared.trees.Domain.{Domain}
use Rattle.plus_tree.specs.declared.trees.Problem.{Problem}
use Rattle.plus_tree.specs.declared.trees.Call.{Call}
use Rattle.plus_types.specs.Faults.{is_well_typed}
use Rattle.plus_report.specs.declared.refusals.Early.{Early}
use Rattle.plus_report.specs.Refusals.{early_text}
use Rattle.plus_numeric.specs.declared.answer.Kind.{Kind}
use Rattle.plus_numeric.specs.declared.source.Source.TheVariants.{Given}
use Rattle.plus_numeric.specs.Answers.{IsAccepted, IsRefused}
use Rattle.plus_numeric.specs.Verdicts.{kind_status}
use Rattle.plus_report.specs.declared.status.Status.{Status}
use Rattle.plus_report.specs.declared.status.Status.TheVariants as s
use Rattle.plus_reply.specs.Pair.Pair.{PairRefused, SpellsWellTyped}
use Rattle.plus_reply.specs.Pair.Reads.{ReadsPair}
use Rattle.plus_reply.specs.Statuses.{early_status}
use Rattle.plus_reply.proofs.PairLemmas.SpelledLemmas.{well_spelled}
use Rattle.plus_run.specs.Command.{Numeric}
use Rattle.plus_run.specs.Headline.{IsAnswer}
use Rattle.plus_run.specs.Numeric.{valid_line, PlaysUntimed, no_pair, accepted, refused}

-- where the shelf tells the three texts, what is shown of the pair read and the plan is shown of them
on_three :
    (domain problem plan : Option (List ℕ)) (d : Domain) (p : Problem) (P : List ℕ → List ℕ → List ℕ → Type 0) → ReadsPair domain problem d p
    → IsTrue (is_well_typed d p) → ((ds ps ls : List ℕ) → SpellsWellTyped ds ps d p → plan ≡ Some ls → P ds ps ls)
    → IfSome domain (λ ds. IfSome problem (λ ps. IfSome plan (λ ls. P ds ps ls)))
on_three None problem plan d p P r w f = tt
on_three (Some ds) None plan d p P r w f = tt
on_three (Some ds) (Some ps) None d p P r w f = tt
on_three (Some ds) (Some ps) (Some ls) d p P r w f = f ds ps ls (well_spelled ds ps d p r w) refl

told : (P : List ℕ → Type 0) (later plan : Option (List ℕ)) (ls : List ℕ) → later ≡ plan → plan ≡ Some ls → IfSome later P → P ls
told P later plan ls e f h = subst (λ o. IfSome o P) (e ∙ f) h

-- ---- a plan of a well-typed pair

no_calls : (d : Domain) (p : Problem) (text : List ℕ) (calls : List Call) → IsAccepted d p text false calls → IsAccepted d p text false []
no_calls d p text calls h = subst (IsAccepted d p text false) h.calls_are h

module _ (domain problem plan later : Option (List ℕ)) (d : Domain) (p : Problem) (same : later ≡ plan) (reads : ReadsPair domain problem d p) (typed : IsTrue (is_well_typed d p)) where
  -- its lines are a plan
  pub plan_plays :
      (calls : List Call) → IfSome later (λ text. IsAccepted d p text false calls)
      → IfSome domain (λ ds. IfSome problem (λ ps. IfSome plan (λ ls. PlaysUntimed ds ps ls s.Valid valid_line)))
  plan_plays calls h =
      on_three domain problem plan d p (λ ds ps ls. PlaysUntimed ds ps ls s.Valid valid_line) reads typed
      (λ ds ps ls t e. accepted d p t (no_calls d p ls calls (told (λ text. IsAccepted d p text false calls) later plan ls same e h)) refl refl)

  -- or refused
  pub refusal_plays :
      (kind : Kind) (line : List ℕ) → IfSome later (λ text. IsRefused Given d p text kind line)
      → IfSome domain (λ ds. IfSome problem (λ ps. IfSome plan (λ ls. PlaysUntimed ds ps ls (kind_status kind) line)))
  refusal_plays kind line h =
      on_three domain problem plan d p (λ ds ps ls. PlaysUntimed ds ps ls (kind_status kind) line) reads typed
      (λ ds ps ls t e. refused d p kind t (told (λ text. IsRefused Given d p text kind line) later plan ls same e h) refl)

-- ---- no pair

pub pair_plays :
    (domain problem plan : Option (List ℕ)) (e : Early) → IfSome domain (λ ds. IfSome problem (λ ps. PairRefused ds ps e))
    → IfSome domain (λ ds. IfSome problem (λ ps. IfSome plan (λ ls. PlaysUntimed ds ps ls (early_status e) (early_text e))))
pair_plays None problem plan e h = tt
pair_plays (Some ds) None plan e h = tt
pair_plays (Some ds) (Some ps) None e h = tt
pair_plays (Some ds) (Some ps) (Some ls) e h = no_pair e h refl refl

-- ---- from the shelf behind the pair to the shelf before it

pub from_before :
    (bytes later : List ℕ → Option (List ℕ)) (domain problem plan : List ℕ) (d : Domain) (p : Problem) (old new : Option (List ℕ)) (a between b c e : ℕ) (r : Status)
    → later ≡ bytes → ReadsPair (bytes domain) (bytes problem) d p → a ≤ between
    → ((m : ℕ) → ReadsPair (later domain) (later problem) d p → m ≤ between → IsAnswer (Some (Numeric domain problem plan)) later old new m b c e r)
    → IsAnswer (Some (Numeric domain problem plan)) bytes old new a b c e r
from_before bytes later domain problem plan d p old new a between b c e r same reads rose answers =
    subst (λ (f : List ℕ → Option (List ℕ)). IsAnswer (Some (Numeric domain problem plan)) f old new a b c e r) same
    (answers a (subst (λ (f : List ℕ → Option (List ℕ)). ReadsPair (f domain) (f problem) d p) (sym same) reads) rose)
