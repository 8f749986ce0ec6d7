-- What was taken where an answer was cut short begins what a whole answer over the same files has written.
use Rattle.std.proofs.Common.{◌≡◌, ◌⊎◌, ℕ, List, [], ◌++◌, Option, Some, None, refl, ap, sym, ◌∙◌, inl, inr, append-nil, append_assoc, take, drop, take-append-drop}
use Rattle.std.specs.Prelude.{IfSome, IsSome}
use Rattle.std.specs.Io.KnownBytes.{append_known}
use Rattle.plus_io.specs.Files.{IsPrefix}
use Rattle.plus_io.specs.Taken.{Took, TookPart}
use Rattle.plus_tree.specs.declared.trees.Domain.{Domain}
use Rattle.plus_tree.specs.declared.trees.Problem.{Problem}
use Rattle.plus_number.specs.Frac.{IsFrac64}
use Rattle.plus_expansion.specs.Counting.{IsGroundable}
use Rattle.plus_report.specs.declared.status.Status.{Status}
use Rattle.plus_report.specs.declared.status.Status.TheVariants as s
use Rattle.plus_validator.specs.declared.judge.Outcome.{Outcome}
use Rattle.plus_validator.specs.Leaving.{TellsOnWay, TookSoFar, BreaksOffSoFar}
use Rattle.plus_validator.specs.Validates.{IsUngrounded, IsWhole}
use Rattle.plus_validator.proofs.Excluding.{not_groundable}
use Rattle.plus_reply.specs.Pair.Pair.{SpellsWellTyped}
use Rattle.plus_reply.specs.Reply.{Replied, RepliedInPart, HasOneReply}
use Rattle.plus_reply.proofs.PairLemmas.OnePair.{pair_or_not}
use Rattle.plus_translate_command.proofs.OneReply.{same_pair}
use Rattle.plus_run.specs.Checks.{Checks, OnPlan}
use Rattle.plus_run.specs.Command.{Command, Check, ShowDomain, ShowProblem, Numeric, Trial, Translate, Lift, Plan, Trim, files_of}
use Rattle.plus_run.specs.Headline.{Answers, OnWay, IsAnswer}
use Rattle.plus_run.specs.Laws.{AreTold}
use Rattle.plus_run.proofs.OneAnswer.{Checked, by_pair, by_ground, by_plan, checked, settled_reply}
use Rattle.plus_run.proofs.OneCommand.{answers_once}
use Rattle.laws_answers.specs.Beginnings.{IsCutShort, IsBeginning, Beginnings}
use Rattle.laws_answers.proofs.Told.{told_on_way_begins}

-- ---- what was taken of a text

nothing_more : (known : Option (List ℕ)) → append_known known [] ≡ known
nothing_more None = refl
nothing_more (Some xs) = ap Some (append-nil xs)

module _ (old new whole : Option (List ℕ)) (written : List ℕ) (all : Took old whole written) where
  none_out : new ≡ old → IsBeginning old new whole
  none_out e = record { out = []; more = written; took = e ∙ sym (nothing_more old); goes_on = all }

  front_out : (out report : List ℕ) → Took old new out → IsPrefix out report → IsPrefix report written → IsBeginning old new whole
  front_out out report took a b = record {
    out = out;
    more = a.0 ++ b.0;
    took = took;
    goes_on = all ∙ ap (append_known old) (b.1 ∙ ap (λ z. z ++ b.0) a.1 ∙ append_assoc out a.0 b.0);
  }

  part_out : (report : List ℕ) → TookPart old new report → IsPrefix report written → IsBeginning old new whole
  part_out report part b =
      front_out (take part.0 report) report part.2 (drop part.0 report, sym (take-append-drop part.0 report)) b

itself : (text other : List ℕ) → other ≡ text → IsPrefix text other
itself text other e = ([], e ∙ sym (append-nil text))

-- ---- a check that was on its way

module _ (n : ℕ) (ds ps ls : List ℕ) (front : List ℕ) (y : Status) (written : List ℕ) where
  -- over one pair
  ground_apart : (d d' : Domain) (p p' : Problem) (line : List ℕ) → SpellsWellTyped ds ps d p → SpellsWellTyped ds ps d' p' → IsUngrounded d p line → IsGroundable IsFrac64 d' p' → ⊥
  ground_apart d d' p p' line t t' u g =
      not_groundable d p line u.fault u.refused u.tells (same_pair ds ps (λ a b. IsGroundable IsFrac64 a b) d' d p' p t' t g)

  way_front : (d d' : Domain) (p p' : Problem) (o : Outcome) → SpellsWellTyped ds ps d p → SpellsWellTyped ds ps d' p' → TellsOnWay d p n ls front → IsWhole d' p' n ls o written → IsPrefix front written
  way_front d d' p p' o t t' a w =
      told_on_way_begins d p n ls front written o a (same_pair ds ps (λ x z. IsWhole x z n ls o written) d' d p' p t' t w)

  front_of : (d : Domain) (p : Problem) → SpellsWellTyped ds ps d p → TellsOnWay d p n ls front → Checked n ds ps ls y written → IsPrefix front written
  front_of d p t a (by_pair f g j k) = absurd (pair_or_not ds ps f d p g t)
  front_of d p t a (by_ground d' p' t' j v) = absurd (ground_apart d' d p' p written t' t v a.groundable)
  front_of d p t a (by_plan d' p' o t' j w) = way_front d d' p p' o t t' a w

module _ (n : ℕ) (ds ps ls : List ℕ) (old new whole : Option (List ℕ)) (y : Status) (written : List ℕ) (took : Took old whole written) (reply : Checks n ds ps (Some ls) y written) where
  front : (d : Domain) (p : Problem) (report : List ℕ) → SpellsWellTyped ds ps d p → TellsOnWay d p n ls report → IsPrefix report written
  front d p report t a = front_of n ds ps ls report y written d p t a (checked n ds ps ls y written reply)

  broken_begins : OnPlan ds ps (Some ls) (λ d p plan. BreaksOffSoFar d p n plan old new) → IsBeginning old new whole
  broken_begins h =
      let b : BreaksOffSoFar h.d h.p n ls old new = h.holds in
      part_out old new whole written took b.report b.part (front h.d h.p b.report h.pair b.told)

  stopped_begins : OnPlan ds ps (Some ls) (λ d p plan. TookSoFar d p n plan old new) → IsBeginning old new whole
  stopped_begins h =
      let b : TookSoFar h.d h.p n ls old new = h.holds in
      front_out old new whole written took b.out b.report b.took b.begins (front h.d h.p b.report h.pair b.told)

-- where the shelf tells the three files
check_begins :
    (n : ℕ) (d p l old new whole : Option (List ℕ)) (y : Status) (written : List ℕ) → IsSome d → IsSome p → IsSome l → Took old whole written
    → IfSome d (λ ds. IfSome p (λ ps. Checks n ds ps l y written))
    → IfSome d (λ ds. IfSome p (λ ps. OnPlan ds ps l (λ a b plan. BreaksOffSoFar a b n plan old new)))
    ⊎ IfSome d (λ ds. IfSome p (λ ps. OnPlan ds ps l (λ a b plan. TookSoFar a b n plan old new)))
    → IsBeginning old new whole
check_begins n None p l old new whole y written i j k t r c = cc i
check_begins n (Some ds) None l old new whole y written i j k t r c = cc j
check_begins n (Some ds) (Some ps) None old new whole y written i j k t r c = cc k
check_begins n (Some ds) (Some ps) (Some ls) old new whole y written i j k t r (inl c) = broken_begins n ds ps ls old new whole y written t r c
check_begins n (Some ds) (Some ps) (Some ls) old new whole y written i j k t r (inr c) = stopped_begins n ds ps ls old new whole y written t r c

-- ---- an answer that was cut short

-- of a check alone something is told on its way
abbrev IsOnWay : Option Command → (List ℕ → Option (List ℕ)) → Option (List ℕ) → Option (List ℕ) → Type 0
IsOnWay command bytes old new =
    OnWay command bytes (λ most d p plan. BreaksOffSoFar d p most plan old new) ⊎ OnWay command bytes (λ most d p plan. TookSoFar d p most plan old new)

neither : {A : Type 0} → ⊥ ⊎ ⊥ → A
neither (inl h) = absurd h
neither (inr h) = absurd h

way_begins :
    (command : Option Command) (bytes : List ℕ → Option (List ℕ)) (old new whole : Option (List ℕ)) (y : Status) → AreTold bytes (files_of command)
    → Replied (Answers command bytes) old whole y → IsOnWay command bytes old new → IsBeginning old new whole
way_begins None bytes old new whole y t r h = neither h
way_begins (Some (Check d p l n)) bytes old new whole y t r h =
    check_begins n (bytes d) (bytes p) (bytes l) old new whole y r.written t.0 t.1.0 t.1.1.0 r.took r.reply h
way_begins (Some (ShowDomain f)) bytes old new whole y t r h = neither h
way_begins (Some (ShowProblem f)) bytes old new whole y t r h = neither h
way_begins (Some (Numeric d p l)) bytes old new whole y t r h = neither h
way_begins (Some (Trial n)) bytes old new whole y t r h = neither h
way_begins (Some (Translate file q d p)) bytes old new whole y t r h = neither h
way_begins (Some (Lift q d p l)) bytes old new whole y t r h = neither h
way_begins (Some (Plan q k n cut d p)) bytes old new whole y t r h = neither h
way_begins (Some (Trim d p l)) bytes old new whole y t r h = neither h

-- what is out is a part of a reply, or nothing, or what was told on the way
data Cut (command : Option Command) (bytes : List ℕ → Option (List ℕ)) (old new : Option (List ℕ)) : Type 0 where
  in_reply : RepliedInPart (Answers command bytes) old new → Cut command bytes old new
  nothing : new ≡ old → Cut command bytes old new
  on_way : IsOnWay command bytes old new → Cut command bytes old new

cut : (command : Option Command) (bytes : List ℕ → Option (List ℕ)) (old new : Option (List ℕ)) (a b c d : ℕ) (x : Status) → IsAnswer command bytes old new a b c d x → IsCutShort x → Cut command bytes old new
cut command bytes old new a b c d s.WriteFault h g = elim ((h.write_fault refl).1) [ inl r ↦ in_reply r | inr w ↦ on_way (inl w) ]
cut command bytes old new a b c d s.NoMemory h g = elim (h.no_memory refl) [ inl e ↦ nothing e | inr w ↦ on_way (inr w) ]
cut command bytes old new a b c d s.Valid h g = absurd g
cut command bytes old new a b c d s.Invalid h g = absurd g
cut command bytes old new a b c d s.Beyond h g = absurd g
cut command bytes old new a b c d s.BadText h g = absurd g
cut command bytes old new a b c d s.Usage h g = absurd g
cut command bytes old new a b c d s.ReadFault h g = absurd g

reply_begins : (Q : Status → List ℕ → Type 0) (old new whole : Option (List ℕ)) (y : Status) → HasOneReply Q → Replied Q old whole y → RepliedInPart Q old new → IsBeginning old new whole
reply_begins Q old new whole y once k b =
    part_out old new whole k.written k.took b.written b.part (itself b.written k.written ((once y b.status k.written b.written k.reply b.reply).1))

pub beginnings : Beginnings
beginnings command bytes old new whole a b c d a' b' c' d' x y t h g k i w =
    let r = settled_reply command bytes old whole a' b' c' d' y t k i in
    elim (cut command bytes old new a b c d x h g) [
      | in_reply b ↦ reply_begins (Answers command bytes) old new whole y (answers_once command bytes t w) r b
      | nothing e ↦ none_out old new whole r.written r.took e
      | on_way v ↦ way_begins command bytes old new whole y t r v
    ]
