-- A plan without time has one answer over the same texts.
use Rattle.std.proofs.Common.{ℕ, List, [], subst, sym, ◌∙◌, ap, false}
use Rattle.plus_tree.specs.declared.trees.Domain.{Domain}
use Rattle.plus_tree.specs.declared.trees.Problem.{Problem}
use Rattle.plus_report.specs.Refusals.{early_text}
use Rattle.plus_numeric.specs.declared.answer.Kind.{Kind}
use Rattle.plus_numeric.specs.declared.source.Source.TheVariants.{Given}
use Rattle.plus_numeric.specs.Answers.{IsAccepted, IsRefused}
use Rattle.plus_numeric.specs.Verdicts.{kind_status}
use Rattle.plus_numeric.proofs.Excluding.{one_refusal, not_both}
use Rattle.plus_reply.specs.Pair.Pair.{SpellsWellTyped}
use Rattle.plus_reply.specs.Statuses.{early_status}
use Rattle.plus_reply.specs.Reply.{HasOneReply}
use Rattle.plus_reply.proofs.PairLemmas.OnePair.{pair_once, pair_refused_once, pair_or_not}
use Rattle.plus_run.specs.Numeric.{PlaysUntimed, no_pair, accepted, refused}

module _ (ds ps ls : List ℕ) where
  -- the refusal of another pair of the same texts
  refused_as : (d d' : Domain) (p p' : Problem) (kind : Kind) (w : List ℕ) → SpellsWellTyped ds ps d p → SpellsWellTyped ds ps d' p' → IsRefused Given d p ls kind w → IsRefused Given d' p' ls kind w
  refused_as d d' p p' kind w a b h =
      let one = pair_once ds ps d d' p p' a.spelled b.spelled in
      subst (λ q. IsRefused Given d' q ls kind w) one.1 (subst (λ e. IsRefused Given e p ls kind w) one.0 h)

  apart : (d d' : Domain) (p p' : Problem) (kind : Kind) (w : List ℕ) → SpellsWellTyped ds ps d p → SpellsWellTyped ds ps d' p' → IsAccepted d p ls false [] → IsRefused Given d' p' ls kind w → ⊥
  apart d d' p p' kind w a b h g = not_both Given d p ls false [] kind w h (refused_as d' d p' p kind w b a g)

  pub plays_once : HasOneReply (PlaysUntimed ds ps ls)
  plays_once x y w v (no_pair e h i k) (no_pair f g j l) =
      let one = pair_refused_once ds ps e f h g in
      (i ∙ ap early_status one ∙ sym j, k ∙ ap early_text one ∙ sym l)
  plays_once x y w v (no_pair e h i k) (accepted d p t a j l) = absurd (pair_or_not ds ps e d p h t)
  plays_once x y w v (no_pair e h i k) (refused d p kind t g j) = absurd (pair_or_not ds ps e d p h t)
  plays_once x y w v (accepted d p t a j l) (no_pair e h i k) = absurd (pair_or_not ds ps e d p h t)
  plays_once x y w v (accepted d p t a i k) (accepted d' p' t' b j l) = (i ∙ sym j, k ∙ sym l)
  plays_once x y w v (accepted d p t a i k) (refused d' p' kind t' g j) = absurd (apart d d' p p' kind v t t' a g)
  plays_once x y w v (refused d p kind t g j) (no_pair e h i k) = absurd (pair_or_not ds ps e d p h t)
  plays_once x y w v (refused d p kind t g j) (accepted d' p' t' a i k) = absurd (apart d' d p' p kind w t' t a g)
  plays_once x y w v (refused d p kind t h i) (refused d' p' kind' t' g j) =
      let one = one_refusal Given d' p' ls kind kind' w v (refused_as d d' p p' kind w t t' h) g in
      (i ∙ ap kind_status one.0 ∙ sym j, one.1)
