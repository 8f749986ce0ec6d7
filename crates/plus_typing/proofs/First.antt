-- The first fault is that of the first rule that is not met.
use Rattle.std.proofs.Common.{◌≡◌, Bool, true, false, not, cond, List, [], ◌∷◌, map, filter, refl, ap, sym, ◌∙◌, Option, Some, None}
use Rattle.std.specs.Prelude.{slice_get, IsTrue}
use Rattle.std.proofs.lemmas.List.Elements.{All-nil, All-cons}
use Rattle.plus_tokens.specs.declared.span.Span.{Span}
use Rattle.plus_tree.specs.declared.trees.Domain.{Domain}
use Rattle.plus_tree.specs.declared.trees.Problem.{Problem}
use Rattle.plus_types.specs.declared.faults.File.{File}
use Rattle.plus_types.specs.declared.faults.Wrong.{Wrong}
use Rattle.plus_types.specs.declared.faults.TypeFault.{TypeFault}
use Rattle.plus_types.specs.declared.faults.TypeFault.TheVariants.{At, Memory}
use Rattle.plus_types.specs.Faults.{type_faults, IsFirstFault}
use Rattle.plus_typing.specs.Asked.{Asked, ask, broken, rules_asked}
use Rattle.plus_typing.specs.Laws.{IsFirstUnmet}
use Rattle.plus_typing.proofs.Told.{first_broken}

-- a fault is made of its parts
fault_of : (d : TypeFault) → Option TypeFault → TypeFault
fault_of d None = d
fault_of d (Some f) = f

fault_word : Wrong → TypeFault → Wrong
fault_word w Memory = w
fault_word w (At wrong file span) = wrong

fault_file : File → TypeFault → File
fault_file f Memory = f
fault_file f (At wrong file span) = file

fault_span : Span → TypeFault → Span
fault_span s Memory = s
fault_span s (At wrong file span) = span

same_rule : (b : Bool) (w v : Wrong) (f g : File) (s t : Span) → b ≡ false → Some (At w f s) ≡ Some (At v g t) → ask b w f s ≡ ask false v g t
unfolding fault_of fault_word fault_file fault_span
same_rule b w v f g s t e h =
    let k : At w f s ≡ At v g t = ap (fault_of (At w f s)) h in
    λ i. record { met = e i; wrong = ap (fault_word w) k i; file = ap (fault_file f) k i; span = ap (fault_span s) k i }

first_unmet : (qs : List Asked) (w : Wrong) (f : File) (s : Span) → slice_get (broken qs) 0 ≡ Some (At w f s) → IsFirstUnmet qs w f s
first_unmet [] w f s e = absurd cc
first_unmet (q ∷ qs) w f s e = by q.met refl e (first_unmet qs w f s)
  where
    by : (b : Bool) → q.met ≡ b
        → slice_get (map (λ (r : Asked). At r.wrong r.file r.span) (cond (not b) (q ∷ filter (λ (r : Asked). not r.met) qs) (filter (λ (r : Asked). not r.met) qs))) 0 ≡ Some (At w f s)
        → (slice_get (broken qs) 0 ≡ Some (At w f s) → IsFirstUnmet qs w f s) → IsFirstUnmet (q ∷ qs) w f s
    by true m h more =
        let r = more h in
        record {
          before = q ∷ r.before;
          after = r.after;
          whole = ap (λ xs. q ∷ xs) r.whole;
          met = All-cons (λ (a : Asked). IsTrue a.met) q r.before m r.met;
        }
    by false m h more = record {
      before = [];
      after = qs;
      whole = ap (λ a. a ∷ qs) (same_rule q.met q.wrong w q.file f q.span s m h);
      met = All-nil (λ (a : Asked). IsTrue a.met);
    }

pub first_fault_is_first_unmet : (d : Domain) (p : Problem) (w : Wrong) (f : File) (s : Span) → IsFirstFault (type_faults d p) (At w f s) → IsFirstUnmet (rules_asked d p) w f s
first_fault_is_first_unmet d p w f s h = first_unmet (rules_asked d p) w f s (ap (λ fs. slice_get fs 0) (sym (first_broken d p)) ∙ h)
