-- What a reply shows, put together from what its calls answer.
use Rattle.std.proofs.Common.{◌≡◌, ℕ, List, Option, subst, sym, refl, IsTrue}
use Rattle.std.specs.Prelude.{IfSome, IfOk, IfErr, Result, Ok, Err}
use Rattle.plus_io.specs.Faults.{Rose}
use Rattle.plus_tree.specs.declared.trees.Domain.{Domain}
use Rattle.plus_tree.specs.declared.trees.Problem.{Problem}
use Rattle.plus_types.specs.Faults.{is_well_typed}
use Rattle.plus_report.specs.declared.refusals.Early.{Early}
use Rattle.plus_report.specs.declared.refusals.Early.TheVariants as es
use Rattle.plus_report.specs.Refusals.{early_text}
use Rattle.plus_report.specs.declared.status.Status.{Status}
use Rattle.plus_reply.specs.declared.reply.Reply.{Reply}
use Rattle.plus_reply.specs.declared.reply.Fault.{Fault}
use Rattle.plus_reply.specs.declared.pair.pair.Refusal.{Refusal}
use Rattle.plus_reply.specs.declared.pair.pair.Refusal.TheVariants as refusals
use Rattle.plus_reply.specs.Pair.Pair.{PairRefused, SpellsWellTyped}
use Rattle.plus_reply.specs.Pair.Reads.{ReadsPair, NoPair}
use Rattle.plus_reply.specs.Statuses.{early_status}
use Rattle.plus_reply.proofs.PairLemmas.SpelledLemmas.{on_pair, told}
use Rattle.plus_reply.specs.Reply.{IsPlain, HasCause, TellsRefusal}

-- ---- a refusal as a reply

pub early_plain : (e : Early) → IsPlain (early_status e)
early_plain (es.BadText text start finish word) = tt
early_plain (es.BadLine line start finish) = tt
early_plain (es.TooLong text) = tt
early_plain (es.Depth text at) = tt
early_plain es.DepthOut = tt
early_plain (es.LineTooLong line) = tt
early_plain (es.Literal text start finish) = tt
early_plain (es.TooMany kind most) = tt

pub refusal_plain : (refusal : Refusal) (r : Result Reply Fault) → TellsRefusal refusal r → IfOk r (λ x. IsPlain x.status)
refusal_plain (refusals.Early e) (Ok x) h = subst IsPlain (sym h.0) (early_plain e)
refusal_plain (refusals.Early e) (Err f) h = tt
refusal_plain refusals.ReadFault r h = subst (λ x. IfOk x (λ y. IsPlain y.status)) (sym h) tt
refusal_plain refusals.NoMemory r h = subst (λ x. IfOk x (λ y. IsPlain y.status)) (sym h) tt

-- the shelf failed only where the refusal says so
pub refusal_cause : (refusal : Refusal) (a b : ℕ) (r : Result Reply Fault) → (refusal ≡ refusals.ReadFault → Rose a b) → TellsRefusal refusal r → IfErr r (HasCause a b)
refusal_cause (refusals.Early e) a b (Ok x) f h = tt
refusal_cause (refusals.Early e) a b (Err x) f h = subst (HasCause a b) (sym h) tt
refusal_cause refusals.ReadFault a b r f h = subst (λ x. IfErr x (HasCause a b)) (sym h) (f refl)
refusal_cause refusals.NoMemory a b r f h = subst (λ x. IfErr x (HasCause a b)) (sym h) tt

pub pair_cause : (domain problem : Option (List ℕ)) (a b : ℕ) (refusal : Refusal) → NoPair domain problem a b refusal → refusal ≡ refusals.ReadFault → Rose a b
pair_cause domain problem a b (refusals.Early e) h i = cc i
pair_cause domain problem a b refusals.ReadFault h i = h
pair_cause domain problem a b refusals.NoMemory h i = cc i

-- what is replied where two texts are no pair
pub no_pair_told :
    (domain problem : Option (List ℕ)) (a b : ℕ) (refusal : Refusal) (r : Result Reply Fault) (P : List ℕ → List ℕ → Status → List ℕ → Type 0)
    → ((ds ps : List ℕ) (e : Early) (status : Status) (written : List ℕ) → PairRefused ds ps e → status ≡ early_status e → written ≡ early_text e → P ds ps status written)
    → NoPair domain problem a b refusal → TellsRefusal refusal r
    → IfOk r (λ x. IfSome domain (λ ds. IfSome problem (λ ps. P ds ps x.status x.text.items)))
no_pair_told domain problem a b (refusals.Early e) (Ok x) P f h t =
    told domain problem e (λ ds ps. P ds ps x.status x.text.items) h (λ ds ps k. f ds ps e x.status x.text.items k t.0 t.1)
no_pair_told domain problem a b (refusals.Early e) (Err x) P f h t = tt
no_pair_told domain problem a b refusals.ReadFault r P f h t =
    subst (λ x. IfOk x (λ y. IfSome domain (λ ds. IfSome problem (λ ps. P ds ps y.status y.text.items)))) (sym t) tt
no_pair_told domain problem a b refusals.NoMemory r P f h t =
    subst (λ x. IfOk x (λ y. IfSome domain (λ ds. IfSome problem (λ ps. P ds ps y.status y.text.items)))) (sym t) tt

-- and where the pair that they spell is refused
pub refusal_told :
    (domain problem : Option (List ℕ)) (d : Domain) (p : Problem) (refusal : Refusal) (r : Result Reply Fault) (P : List ℕ → List ℕ → Status → List ℕ → Type 0)
    → ((ds ps : List ℕ) (e : Early) (status : Status) (written : List ℕ) → SpellsWellTyped ds ps d p → refusal ≡ refusals.Early e → status ≡ early_status e → written ≡ early_text e → P ds ps status written)
    → ReadsPair domain problem d p → IsTrue (is_well_typed d p) → TellsRefusal refusal r
    → IfOk r (λ x. IfSome domain (λ ds. IfSome problem (λ ps. P ds ps x.status x.text.items)))
refusal_told domain problem d p (refusals.Early e) (Ok x) P f rd w t =
    on_pair domain problem d p (λ ds ps. P ds ps x.status x.text.items) rd w (λ ds ps k. f ds ps e x.status x.text.items k refl t.0 t.1)
refusal_told domain problem d p (refusals.Early e) (Err x) P f rd w t = tt
refusal_told domain problem d p refusals.ReadFault r P f rd w t =
    subst (λ x. IfOk x (λ y. IfSome domain (λ ds. IfSome problem (λ ps. P ds ps y.status y.text.items)))) (sym t) tt
refusal_told domain problem d p refusals.NoMemory r P f rd w t =
    subst (λ x. IfOk x (λ y. IfSome domain (λ ds. IfSome problem (λ ps. P ds ps y.status y.text.items)))) (sym t) tt
