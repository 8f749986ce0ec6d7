-- What each status shows follows from what the command answers.
use Rattle.std.proofs.Common.{◌≡◌, ◌⊎◌, ℕ, List, Option, Some, None, subst, sym, refl, inl, inr}
use Rattle.std.specs.Prelude.{IfSome}
use Rattle.plus_io.specs.Taken.{Took, TookPart}
use Rattle.plus_grammar.specs.Texts.{IsDomainText, IsProblemText}
use Rattle.plus_printer.specs.Canon.{domain_text, problem_text}
use Rattle.plus_tree.specs.declared.trees.Domain.{Domain}
use Rattle.plus_tree.specs.declared.trees.Problem.{Problem}
use Rattle.plus_report.specs.declared.refusals.Early.{Early}
use Rattle.plus_report.specs.declared.status.Status.{Status}
use Rattle.plus_report.specs.declared.status.Status.TheVariants as s
use Rattle.plus_validator.specs.declared.judge.Outcome.{Outcome}
use Rattle.plus_validator.specs.declared.judge.Outcome.TheVariants as outcomes
use Rattle.plus_validator.specs.Outcomes.{status_of}
use Rattle.plus_validator.specs.Accepted.{IsAccepted}
use Rattle.plus_validator.specs.Validates.{IsRefusal, IsRefusedIn, IsWhole, Refuses, BreaksOff}
use Rattle.plus_validator.specs.Leaving.{TookLines, TookSoFar, BreaksOffSoFar}
use Rattle.plus_reply.specs.Pair.Pair.{depth_limit, DomainRefused, ProblemRefused}
use Rattle.plus_reply.specs.Reply.{Replied, RepliedInPart}
use Rattle.plus_translate_command.specs.Translate.{Translates}
use Rattle.plus_lift.specs.Command.Lift.{Lifts}
use Rattle.plus_plan_command.specs.Plan.{Plans}
use Rattle.plus_trim_command.specs.Trim.{Trims}
use Rattle.plus_run.specs.Command.{Command, Check, ShowDomain, ShowProblem, Numeric, Trial, Translate, Lift, Plan, Trim}
use Rattle.plus_run.specs.Checks.{Checks, OnPlan}
use Rattle.plus_run.specs.Checks as checks
use Rattle.plus_run.specs.Numeric.{PlaysUntimed}
use Rattle.plus_run.specs.Numeric as plays
use Rattle.plus_run.specs.Shown.{Shows, a_tree, no_tree}
use Rattle.plus_run.specs.Headline.{Answers, OnWay, IsSettled}
use Rattle.laws_answers.specs.ByStatus.{IsValidRun, IsRefusedRun, for_pair, for_ground, for_plan, IsBrokenRun, in_pair, in_ground, in_report, in_plan, IsUnreadRun, at_once, in_lines, IsStoppedRun, nothing, so_far, RunsValid, RunsRefused, RunsBroken, RunsUnread, RunsStopped, OnRefusal, RunsNumeric, RefusesNumeric, BreaksNumeric, in_valid, in_refusal, IsShown, IsNotShown, IsShownInPart, of_text, of_line, ByStatus}
use Rattle.laws_answers.specs.ByStatus as shown
use Rattle.laws_found.proofs.CheckedLemmas.Written.{not_valid}
use Rattle.laws_answers.proofs.LiftedLemmas.{kind_not_valid}

refusal_valid : (o : Outcome) → IsRefusal o → s.Valid ≡ status_of o → ⊥
refusal_valid outcomes.Invalid r i = cc i
refusal_valid outcomes.Beyond r i = cc i
refusal_valid outcomes.BadText r i = cc i
refusal_valid outcomes.Valid r i = absurd r
refusal_valid outcomes.ReadFault r i = absurd r
refusal_valid outcomes.WriteFault r i = absurd r
refusal_valid outcomes.NoMemory r i = absurd r

-- a status of a refusal
abbrev IsLess : Status → Type 0
IsLess s.Invalid = Unit {0}
IsLess s.Beyond = Unit {0}
IsLess s.BadText = Unit {0}
IsLess _ = ⊥

not_less : {A : Type 0} (x : Status) → IsLess x → x ≡ s.Valid → A
not_less x l i = absurd (subst IsLess i l)

alone : {A : Type 0} → A ⊎ ⊥ → A
alone (inl a) = a
alone (inr b) = absurd b

-- ---- two files, and three
one : (l : Option (List ℕ)) (P Q : List ℕ → Type 0) → ((ls : List ℕ) → P ls → Q ls) → IfSome l P → IfSome l Q
one None P Q f h = tt
one (Some ls) P Q f h = f ls h

two : (d p : Option (List ℕ)) (P Q : List ℕ → List ℕ → Type 0) → ((ds ps : List ℕ) → P ds ps → Q ds ps) → IfSome d (λ ds. IfSome p (λ ps. P ds ps)) → IfSome d (λ ds. IfSome p (λ ps. Q ds ps))
two d p P Q f h = one d (λ ds. IfSome p (λ ps. P ds ps)) (λ ds. IfSome p (λ ps. Q ds ps)) (λ ds k. one p (P ds) (Q ds) (f ds) k) h

three : (d p l : Option (List ℕ)) (P Q : List ℕ → List ℕ → List ℕ → Type 0) → ((ds ps ls : List ℕ) → P ds ps ls → Q ds ps ls) → IfSome d (λ ds. IfSome p (λ ps. IfSome l (λ ls. P ds ps ls))) → IfSome d (λ ds. IfSome p (λ ps. IfSome l (λ ls. Q ds ps ls)))
three d p l P Q f h = two d p (λ ds ps. IfSome l (λ ls. P ds ps ls)) (λ ds ps. IfSome l (λ ls. Q ds ps ls)) (λ ds ps k. one l (P ds ps) (Q ds ps) (f ds ps) k) h

less_settled : (x : Status) → IsLess x → IsSettled x
less_settled s.Invalid l = tt
less_settled s.Beyond l = tt
less_settled s.BadText l = tt
less_settled s.Valid l = absurd l
less_settled s.Usage l = absurd l
less_settled s.ReadFault l = absurd l
less_settled s.WriteFault l = absurd l
less_settled s.NoMemory l = absurd l

refused_at : (x : Status) (P : Type 0) → (IsLess x → P) → OnRefusal x P
refused_at s.Valid P f = tt
refused_at s.Invalid P f = f tt
refused_at s.Beyond P f = f tt
refused_at s.BadText P f = f tt
refused_at s.Usage P f = tt
refused_at s.ReadFault P f = tt
refused_at s.WriteFault P f = tt
refused_at s.NoMemory P f = tt

-- ---- a check

whole_by : (n : ℕ) (d : Domain) (p : Problem) (ls w : List ℕ) (o : Outcome) → IsRefusal o → IsRefusedIn d p n ls o w → IsWhole d p n ls o w
whole_by n d p ls w outcomes.Invalid r h = h
whole_by n d p ls w outcomes.Beyond r h = h
whole_by n d p ls w outcomes.BadText r h = h
whole_by n d p ls w outcomes.Valid r h = absurd r
whole_by n d p ls w outcomes.ReadFault r h = absurd r
whole_by n d p ls w outcomes.WriteFault r h = absurd r
whole_by n d p ls w outcomes.NoMemory r h = absurd r

module _ (n : ℕ) (ds ps : List ℕ) (old new : Option (List ℕ)) where
  check_valid : (l : Option (List ℕ)) (w : List ℕ) → Took old new w → Checks n ds ps l s.Valid w → IfSome l (λ ls. IsValidRun n ds ps ls old new)
  check_valid l w t (checks.no_pair e h i k) = absurd (not_valid e i)
  check_valid l w t (checks.no_ground d p u i g) = cc i
  check_valid l w t (checks.accepted d p u i h) =
      one l (λ ls. IsAccepted d p n ls w) (λ ls. IsValidRun n ds ps ls old new) (λ ls k. record { d = d; p = p; pair = u; accepted = record { bytes = w; took = t; accepted = k } }) h
  check_valid l w t (checks.refused d p o u r i h) = absurd (refusal_valid o r i)

  check_untold : (l : Option (List ℕ)) → OnPlan ds ps l (λ d p plan. ⊥) → IfSome l (λ ls. IsValidRun n ds ps ls old new)
  check_untold l h = one l (λ ls. ⊥) (λ ls. IsValidRun n ds ps ls old new) (λ ls k. absurd k) h.holds

  check_refused : (l : Option (List ℕ)) (x : Status) (w : List ℕ) → IsLess x → Took old new w → Checks n ds ps l x w → IsRefusedRun n ds ps l old new x
  check_refused l x w m t (checks.no_pair e h i k) = for_pair e h i (subst (Took old new) k t)
  check_refused l x w m t (checks.no_ground d p u i g) = for_ground d p u i (record { line = w; ungrounded = g; took = t })
  check_refused l x w m t (checks.accepted d p u i h) = not_less x m i
  check_refused l x w m t (checks.refused d p o u r i h) =
      for_plan d p o u i (one l (λ ls. IsRefusedIn d p n ls o w) (λ ls. Refuses d p n ls o old new) (λ ls k. record { bytes = w; took = t; refused = k }) h)

  refused_untold_as : (l : Option (List ℕ)) (x : Status) (o : Outcome) → x ≡ status_of o → OnPlan ds ps l (λ d p plan. ⊥) → IsRefusedRun n ds ps l old new x
  refused_untold_as l x o i h = for_plan h.d h.p o h.pair i (one l (λ ls. ⊥) (λ ls. Refuses h.d h.p n ls o old new) (λ ls k. absurd k) h.holds)

  refused_untold : (l : Option (List ℕ)) (x : Status) → IsLess x → OnPlan ds ps l (λ d p plan. ⊥) → IsRefusedRun n ds ps l old new x
  refused_untold l s.Invalid k h = refused_untold_as l s.Invalid outcomes.Invalid refl h
  refused_untold l s.Beyond k h = refused_untold_as l s.Beyond outcomes.Beyond refl h
  refused_untold l s.BadText k h = refused_untold_as l s.BadText outcomes.BadText refl h
  refused_untold l s.Valid k h = absurd k
  refused_untold l s.Usage k h = absurd k
  refused_untold l s.ReadFault k h = absurd k
  refused_untold l s.WriteFault k h = absurd k
  refused_untold l s.NoMemory k h = absurd k

  check_broken : (l : Option (List ℕ)) (x : Status) (w : List ℕ) → TookPart old new w → Checks n ds ps l x w → IsBrokenRun n ds ps l old new
  check_broken l x w t (checks.no_pair e h i k) = in_pair e h (subst (TookPart old new) k t)
  check_broken l x w t (checks.no_ground d p u i g) = in_ground d p u (record { line = w; ungrounded = g; part = t })
  check_broken l x w t (checks.accepted d p u i h) =
      in_plan d p u (one l (λ ls. IsAccepted d p n ls w) (λ ls. BreaksOff d p n ls old new) (λ ls k. record { outcome = outcomes.Valid; bytes = w; whole = k; part = t }) h)
  check_broken l x w t (checks.refused d p o u r i h) =
      in_plan d p u (one l (λ ls. IsRefusedIn d p n ls o w) (λ ls. BreaksOff d p n ls old new) (λ ls k. record { outcome = o; bytes = w; whole = whole_by n d p ls w o r k; part = t }) h)

  way_broken : (l : Option (List ℕ)) → OnPlan ds ps l (λ d p plan. BreaksOffSoFar d p n plan old new) → IsBrokenRun n ds ps l old new
  way_broken l h = in_report h.d h.p h.pair h.holds

  way_unread : (l : Option (List ℕ)) → OnPlan ds ps l (λ d p plan. TookLines d p n plan old new) → IsUnreadRun n ds ps l old new
  way_unread l h = in_lines h.d h.p h.pair h.holds

  way_stopped : (l : Option (List ℕ)) → OnPlan ds ps l (λ d p plan. TookSoFar d p n plan old new) → IsStoppedRun n ds ps l old new
  way_stopped l h = so_far h.d h.p h.pair h.holds

-- what holds of any two texts is so where they are told
any : (d p : Option (List ℕ)) (Q : List ℕ → List ℕ → Type 0) → ((ds ps : List ℕ) → Q ds ps) → IfSome d (λ ds. IfSome p (λ ps. Q ds ps))
any None p Q f = tt
any (Some ds) None Q f = tt
any (Some ds) (Some ps) Q f = f ds ps

-- ---- `show` and `numeric`

module _ {T : Type 0} (Spells : List ℕ → T → Type 0) (canon : T → List ℕ) (Refused : List ℕ → Early → Type 0) (text : List ℕ) (old new : Option (List ℕ)) where
  show_valid : (w : List ℕ) → Took old new w → Shows Spells canon Refused text s.Valid w → IsShown Spells canon text old new
  show_valid w t (a_tree a h i k) = record { tree = a; spelled = h; took = subst (Took old new) k t }
  show_valid w t (no_tree e h i k) = absurd (not_valid e i)

  show_refused : (x : Status) (w : List ℕ) → IsLess x → Took old new w → Shows Spells canon Refused text x w → IsNotShown Refused text old new x
  show_refused x w l t (a_tree a h i k) = not_less x l i
  show_refused x w l t (no_tree e h i k) = record { early = e; cause = h; status_is = i; took = subst (Took old new) k t }

  show_broken : (x : Status) (w : List ℕ) → TookPart old new w → Shows Spells canon Refused text x w → IsShownInPart Spells canon Refused text old new
  show_broken x w t (a_tree a h i k) = of_text a h (subst (TookPart old new) k t)
  show_broken x w t (no_tree e h i k) = of_line e h (subst (TookPart old new) k t)

module _ (ds ps ls : List ℕ) (old new : Option (List ℕ)) where
  numeric_valid : (w : List ℕ) → Took old new w → PlaysUntimed ds ps ls s.Valid w → RunsNumeric ds ps ls old new
  numeric_valid w t (plays.no_pair e h i k) = absurd (not_valid e i)
  numeric_valid w t (plays.accepted d p u a i k) = record { is = record { d = d; p = p; pair = u; accepted = a }; took = subst (Took old new) k t }
  numeric_valid w t (plays.refused d p kind u h i) = absurd (kind_not_valid kind i)

  numeric_refused : (x : Status) (w : List ℕ) → IsLess x → Took old new w → PlaysUntimed ds ps ls x w → RefusesNumeric ds ps ls old new x
  numeric_refused x w l t (plays.no_pair e h i k) = record { line = w; is = shown.no_pair e h i k; took = t }
  numeric_refused x w l t (plays.accepted d p u a i k) = not_less x l i
  numeric_refused x w l t (plays.refused d p kind u h i) = record { line = w; is = shown.no_plan d p kind u h i; took = t }

  numeric_broken : (x : Status) (w : List ℕ) → TookPart old new w → PlaysUntimed ds ps ls x w → BreaksNumeric ds ps ls old new
  numeric_broken x w t (plays.no_pair e h i k) = in_refusal x w (shown.no_pair e h i k) t
  numeric_broken x w t (plays.accepted d p u a i k) = in_valid (record { d = d; p = p; pair = u; accepted = a }) (subst (TookPart old new) k t)
  numeric_broken x w t (plays.refused d p kind u h i) = in_refusal x w (shown.no_plan d p kind u h i) t

-- ---- all commands

module _ (bytes : List ℕ → Option (List ℕ)) (old new : Option (List ℕ)) where
  valid_of : (command : Option Command) → Replied (Answers command bytes) old new s.Valid ⊎ OnWay command bytes (λ most d p plan. ⊥) → RunsValid command bytes old new
  valid_of None (inl r) = let i = r.reply.0 in cc i
  valid_of None (inr h) = absurd h
  valid_of (Some (Check d p l n)) (inl r) =
      two (bytes d) (bytes p) (λ ds ps. Checks n ds ps (bytes l) s.Valid r.written) (λ ds ps. IfSome (bytes l) (λ ls. IsValidRun n ds ps ls old new))
      (λ ds ps k. check_valid n ds ps old new (bytes l) r.written r.took k) r.reply
  valid_of (Some (Check d p l n)) (inr h) =
      two (bytes d) (bytes p) (λ ds ps. OnPlan ds ps (bytes l) (λ d p plan. ⊥)) (λ ds ps. IfSome (bytes l) (λ ls. IsValidRun n ds ps ls old new))
      (λ ds ps k. check_untold n ds ps old new (bytes l) k) h
  valid_of (Some (ShowDomain f)) r = let k = alone r in
      one (bytes f) (λ text. Shows (IsDomainText depth_limit) domain_text DomainRefused text s.Valid k.written) (λ text. IsShown (IsDomainText depth_limit) domain_text text old new)
      (λ text m. show_valid (IsDomainText depth_limit) domain_text DomainRefused text old new k.written k.took m) k.reply
  valid_of (Some (ShowProblem f)) r = let k = alone r in
      one (bytes f) (λ text. Shows (IsProblemText depth_limit) problem_text ProblemRefused text s.Valid k.written) (λ text. IsShown (IsProblemText depth_limit) problem_text text old new)
      (λ text m. show_valid (IsProblemText depth_limit) problem_text ProblemRefused text old new k.written k.took m) k.reply
  valid_of (Some (Numeric d p l)) r = let k = alone r in
      three (bytes d) (bytes p) (bytes l) (λ ds ps ls. PlaysUntimed ds ps ls s.Valid k.written) (λ ds ps ls. RunsNumeric ds ps ls old new)
      (λ ds ps ls m. numeric_valid ds ps ls old new k.written k.took m) k.reply
  valid_of (Some (Trial n)) r = let k = alone r in record { written = k.written; reply = k.reply; took = k.took }
  valid_of (Some (Translate file q d p)) r = let k = alone r in
      two (bytes d) (bytes p) (λ ds ps. Translates file q ds ps s.Valid k.written) (λ ds ps. Replied (Translates file q ds ps) old new s.Valid)
      (λ ds ps m. record { written = k.written; reply = m; took = k.took }) k.reply
  valid_of (Some (Lift q d p l)) r = let k = alone r in
      three (bytes d) (bytes p) (bytes l) (λ ds ps ls. Lifts q ds ps ls s.Valid k.written) (λ ds ps ls. Replied (Lifts q ds ps ls) old new s.Valid)
      (λ ds ps ls m. record { written = k.written; reply = m; took = k.took }) k.reply
  valid_of (Some (Plan q j n cut d p)) r = let k = alone r in
      two (bytes d) (bytes p) (λ ds ps. Plans q j n cut ds ps s.Valid k.written) (λ ds ps. Replied (Plans q j n cut ds ps) old new s.Valid)
      (λ ds ps m. record { written = k.written; reply = m; took = k.took }) k.reply
  valid_of (Some (Trim d p l)) r = let k = alone r in
      three (bytes d) (bytes p) (bytes l) (λ ds ps ls. Trims ds ps ls s.Valid k.written) (λ ds ps ls. Replied (Trims ds ps ls) old new s.Valid)
      (λ ds ps ls m. record { written = k.written; reply = m; took = k.took }) k.reply

  refused_of : (command : Option Command) (x : Status) → IsLess x → Replied (Answers command bytes) old new x ⊎ OnWay command bytes (λ most d p plan. ⊥) → RunsRefused command bytes old new x
  refused_of None x l (inl r) = absurd (subst IsLess r.reply.0 l)
  refused_of None x l (inr h) = absurd h
  refused_of (Some (Check d p y n)) x l (inl r) =
      two (bytes d) (bytes p) (λ ds ps. Checks n ds ps (bytes y) x r.written) (λ ds ps. IsRefusedRun n ds ps (bytes y) old new x)
      (λ ds ps k. check_refused n ds ps old new (bytes y) x r.written l r.took k) r.reply
  refused_of (Some (Check d p y n)) x l (inr h) =
      two (bytes d) (bytes p) (λ ds ps. OnPlan ds ps (bytes y) (λ d p plan. ⊥)) (λ ds ps. IsRefusedRun n ds ps (bytes y) old new x)
      (λ ds ps k. refused_untold n ds ps old new (bytes y) x l k) h
  refused_of (Some (ShowDomain f)) x l r = let k = alone r in
      one (bytes f) (λ text. Shows (IsDomainText depth_limit) domain_text DomainRefused text x k.written) (λ text. IsNotShown DomainRefused text old new x)
      (λ text m. show_refused (IsDomainText depth_limit) domain_text DomainRefused text old new x k.written l k.took m) k.reply
  refused_of (Some (ShowProblem f)) x l r = let k = alone r in
      one (bytes f) (λ text. Shows (IsProblemText depth_limit) problem_text ProblemRefused text x k.written) (λ text. IsNotShown ProblemRefused text old new x)
      (λ text m. show_refused (IsProblemText depth_limit) problem_text ProblemRefused text old new x k.written l k.took m) k.reply
  refused_of (Some (Numeric d p y)) x l r = let k = alone r in
      three (bytes d) (bytes p) (bytes y) (λ ds ps ls. PlaysUntimed ds ps ls x k.written) (λ ds ps ls. RefusesNumeric ds ps ls old new x)
      (λ ds ps ls m. numeric_refused ds ps ls old new x k.written l k.took m) k.reply
  refused_of (Some (Trial n)) x l r = let k = alone r in record { written = k.written; reply = k.reply; took = k.took }
  refused_of (Some (Translate file q d p)) x l r = let k = alone r in
      two (bytes d) (bytes p) (λ ds ps. Translates file q ds ps x k.written) (λ ds ps. Replied (Translates file q ds ps) old new x)
      (λ ds ps m. record { written = k.written; reply = m; took = k.took }) k.reply
  refused_of (Some (Lift q d p y)) x l r = let k = alone r in
      three (bytes d) (bytes p) (bytes y) (λ ds ps ls. Lifts q ds ps ls x k.written) (λ ds ps ls. Replied (Lifts q ds ps ls) old new x)
      (λ ds ps ls m. record { written = k.written; reply = m; took = k.took }) k.reply
  refused_of (Some (Plan q j n cut d p)) x l r = let k = alone r in
      two (bytes d) (bytes p) (λ ds ps. Plans q j n cut ds ps x k.written) (λ ds ps. Replied (Plans q j n cut ds ps) old new x)
      (λ ds ps m. record { written = k.written; reply = m; took = k.took }) k.reply
  refused_of (Some (Trim d p y)) x l r = let k = alone r in
      three (bytes d) (bytes p) (bytes y) (λ ds ps ls. Trims ds ps ls x k.written) (λ ds ps ls. Replied (Trims ds ps ls) old new x)
      (λ ds ps ls m. record { written = k.written; reply = m; took = k.took }) k.reply

  broken_of : (command : Option Command) → RepliedInPart (Answers command bytes) old new ⊎ OnWay command bytes (λ most d p plan. BreaksOffSoFar d p most plan old new) → RunsBroken command bytes old new
  broken_of None (inl r) = subst (TookPart old new) r.reply.1 r.part
  broken_of None (inr h) = absurd h
  broken_of (Some (Check d p y n)) (inl r) =
      two (bytes d) (bytes p) (λ ds ps. Checks n ds ps (bytes y) r.status r.written) (λ ds ps. IsBrokenRun n ds ps (bytes y) old new)
      (λ ds ps k. check_broken n ds ps old new (bytes y) r.status r.written r.part k) r.reply
  broken_of (Some (Check d p y n)) (inr h) =
      two (bytes d) (bytes p) (λ ds ps. OnPlan ds ps (bytes y) (λ d p plan. BreaksOffSoFar d p n plan old new)) (λ ds ps. IsBrokenRun n ds ps (bytes y) old new)
      (λ ds ps k. way_broken n ds ps old new (bytes y) k) h
  broken_of (Some (ShowDomain f)) r = let k = alone r in
      one (bytes f) (λ text. Shows (IsDomainText depth_limit) domain_text DomainRefused text k.status k.written) (λ text. IsShownInPart (IsDomainText depth_limit) domain_text DomainRefused text old new)
      (λ text m. show_broken (IsDomainText depth_limit) domain_text DomainRefused text old new k.status k.written k.part m) k.reply
  broken_of (Some (ShowProblem f)) r = let k = alone r in
      one (bytes f) (λ text. Shows (IsProblemText depth_limit) problem_text ProblemRefused text k.status k.written) (λ text. IsShownInPart (IsProblemText depth_limit) problem_text ProblemRefused text old new)
      (λ text m. show_broken (IsProblemText depth_limit) problem_text ProblemRefused text old new k.status k.written k.part m) k.reply
  broken_of (Some (Numeric d p y)) r = let k = alone r in
      three (bytes d) (bytes p) (bytes y) (λ ds ps ls. PlaysUntimed ds ps ls k.status k.written) (λ ds ps ls. BreaksNumeric ds ps ls old new)
      (λ ds ps ls m. numeric_broken ds ps ls old new k.status k.written k.part m) k.reply
  broken_of (Some (Trial n)) r = let k = alone r in record { status = k.status; written = k.written; reply = k.reply; part = k.part }
  broken_of (Some (Translate file q d p)) r = let k = alone r in
      two (bytes d) (bytes p) (λ ds ps. Translates file q ds ps k.status k.written) (λ ds ps. RepliedInPart (Translates file q ds ps) old new)
      (λ ds ps m. record { status = k.status; written = k.written; reply = m; part = k.part }) k.reply
  broken_of (Some (Lift q d p y)) r = let k = alone r in
      three (bytes d) (bytes p) (bytes y) (λ ds ps ls. Lifts q ds ps ls k.status k.written) (λ ds ps ls. RepliedInPart (Lifts q ds ps ls) old new)
      (λ ds ps ls m. record { status = k.status; written = k.written; reply = m; part = k.part }) k.reply
  broken_of (Some (Plan q j n cut d p)) r = let k = alone r in
      two (bytes d) (bytes p) (λ ds ps. Plans q j n cut ds ps k.status k.written) (λ ds ps. RepliedInPart (Plans q j n cut ds ps) old new)
      (λ ds ps m. record { status = k.status; written = k.written; reply = m; part = k.part }) k.reply
  broken_of (Some (Trim d p y)) r = let k = alone r in
      three (bytes d) (bytes p) (bytes y) (λ ds ps ls. Trims ds ps ls k.status k.written) (λ ds ps ls. RepliedInPart (Trims ds ps ls) old new)
      (λ ds ps ls m. record { status = k.status; written = k.written; reply = m; part = k.part }) k.reply

  unread_of : (command : Option Command) → (new ≡ old) ⊎ OnWay command bytes (λ most d p plan. TookLines d p most plan old new) → RunsUnread command bytes old new
  unread_of None r = alone r
  unread_of (Some (Check d p y n)) (inl e) = any (bytes d) (bytes p) (λ ds ps. IsUnreadRun n ds ps (bytes y) old new) (λ ds ps. at_once e)
  unread_of (Some (Check d p y n)) (inr h) =
      two (bytes d) (bytes p) (λ ds ps. OnPlan ds ps (bytes y) (λ d p plan. TookLines d p n plan old new)) (λ ds ps. IsUnreadRun n ds ps (bytes y) old new)
      (λ ds ps k. way_unread n ds ps old new (bytes y) k) h
  unread_of (Some (ShowDomain f)) r = alone r
  unread_of (Some (ShowProblem f)) r = alone r
  unread_of (Some (Numeric d p y)) r = alone r
  unread_of (Some (Trial n)) r = alone r
  unread_of (Some (Translate file q d p)) r = alone r
  unread_of (Some (Lift q d p y)) r = alone r
  unread_of (Some (Plan q j n cut d p)) r = alone r
  unread_of (Some (Trim d p y)) r = alone r

  stopped_of : (command : Option Command) → (new ≡ old) ⊎ OnWay command bytes (λ most d p plan. TookSoFar d p most plan old new) → RunsStopped command bytes old new
  stopped_of None r = alone r
  stopped_of (Some (Check d p y n)) (inl e) = any (bytes d) (bytes p) (λ ds ps. IsStoppedRun n ds ps (bytes y) old new) (λ ds ps. nothing e)
  stopped_of (Some (Check d p y n)) (inr h) =
      two (bytes d) (bytes p) (λ ds ps. OnPlan ds ps (bytes y) (λ d p plan. TookSoFar d p n plan old new)) (λ ds ps. IsStoppedRun n ds ps (bytes y) old new)
      (λ ds ps k. way_stopped n ds ps old new (bytes y) k) h
  stopped_of (Some (ShowDomain f)) r = alone r
  stopped_of (Some (ShowProblem f)) r = alone r
  stopped_of (Some (Numeric d p y)) r = alone r
  stopped_of (Some (Trial n)) r = alone r
  stopped_of (Some (Translate file q d p)) r = alone r
  stopped_of (Some (Lift q d p y)) r = alone r
  stopped_of (Some (Plan q j n cut d p)) r = alone r
  stopped_of (Some (Trim d p y)) r = alone r

pub by_status : ByStatus
by_status command bytes old new a b c d x h = record {
  valid = λ v.
      valid_of bytes old new command
      (subst (λ y. Replied (Answers command bytes) old new y ⊎ OnWay command bytes (λ most d p plan. ⊥)) v (h.replied (subst IsSettled (sym v) tt)));
  refused = refused_at x (RunsRefused command bytes old new x) (λ l. refused_of bytes old new command x l (h.replied (less_settled x l)));
  usage = h.usage;
  no_command = h.no_command;
  read_fault = λ v. (let k = h.read_fault v in (k.0, unread_of bytes old new command k.1));
  write_fault = λ v. (let k = h.write_fault v in (k.0, broken_of bytes old new command k.1));
  no_memory = λ v. stopped_of bytes old new command (h.no_memory v);
}
