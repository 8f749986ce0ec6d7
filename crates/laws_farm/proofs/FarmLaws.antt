-- The laws of a farm.
use Rattle.std.proofs.Common.{◌≡◌, ◌⊎◌, ℕ, ◌≤◌, Bool, true, false, ◌&&◌, nat_le, List, length, Option, Some, None, inl, inr, refl, sym, ◌∙◌, subst, leb-true, if◌then◌else◌}
use Rattle.std.specs.Char.{is_ascii_digit}
use Rattle.std.specs.List.{list_all}
use Rattle.std.specs.Str.Parse.{digits_value}
use Rattle.std.proofs.lemmas.Bool.{and_parts}
use Rattle.plus_grammar.proofs.Texts.{domain_texts, problem_texts}
use Rattle.plus_report.specs.declared.status.Status.{Status}
use Rattle.plus_words.specs.Numbers.{is_number, tanks_of}
use Rattle.plus_reply.specs.Reply.{Replied, RepliedInPart}
use Rattle.plus_reply.proofs.PairLemmas.OnePair.{pair_or_not}
use Rattle.plus_reply.proofs.PairLemmas.SpelledLemmas.{well_spelled}
use Rattle.plus_trial.specs.Trial.{farm_domain, farm_problem, IsTrial, is_judged, no_pair}
use Rattle.laws_translation.proofs.SameLemmas.SameLaws.{spans_mean_nothing}
use Rattle.laws_farm.specs.Farms.{FarmsArePairs, IsWorked, TrialsAreWorked, CutTrialsAreWorked}
use Rattle.laws_farm.proofs.Trees.{domain_tree, problem_tree, counted}
use Rattle.laws_farm.proofs.DomainReads.{domain_spelled, domain_short}
use Rattle.laws_farm.proofs.Lengths.{problem_short}
use Rattle.laws_farm.proofs.ProblemReads.{problem_spelled}
use Rattle.laws_farm.proofs.Typed.{farm_typed}

pub farms_are_pairs : FarmsArePairs
farms_are_pairs n some few =
    let x = domain_spelled in
    let y = problem_spelled n some few in
    let same = spans_mean_nothing domain_tree x.d (problem_tree n (counted 1 n)) y.0 x.same y.2 in (
      x.d,
      y.0,
      well_spelled farm_domain (farm_problem n) x.d y.0 (record {
        domain_within = domain_short;
        problem_within = problem_short n few;
        domain_spelled = (domain_texts 64 farm_domain x.d).0 x.spelled;
        problem_spelled = (problem_texts 64 (farm_problem n) y.0).0 y.1;
      }) (sym same.typed ∙ farm_typed n few),
    )

-- ---- how many tanks a word names

number_within : (digits least most : ℕ) (word : List ℕ) (k : ℕ) (b : Bool) → is_number digits least most word ≡ b → (if b then Some (digits_value 10 word) else None) ≡ Some k → (least ≤ k) × (k ≤ most)
number_within digits least most word k false is e = cc e
number_within digits least most word k true is e =
    let v : ℕ = digits_value 10 word in
    let same : digits_value 10 word ≡ k = cc e in
    let all = and_parts (list_all is_ascii_digit word && (nat_le 1 (length word) && nat_le (length word) digits)) (nat_le least v && nat_le v most) is in
    let two = and_parts (nat_le least v) (nat_le v most) all.1 in
    subst (λ (m : ℕ). (least ≤ m) × (m ≤ most)) same (leb-true least v two.0, leb-true v most two.1)

tanks_within : (word : List ℕ) (n : ℕ) → tanks_of word ≡ Some n → (1 ≤ n) × (n ≤ 1000)
tanks_within word n e = number_within 4 1 1000 word n (is_number 4 1 1000 word) refl e

-- ---- a trial

worked : (n : ℕ) (status : Status) (line : List ℕ) → 1 ≤ n → n ≤ 1000 → IsTrial n status line → IsWorked n status line
worked n status line some few (is_judged d p j pair judges status_is line_is) = record {
  d = d;
  p = p;
  judged = j;
  pair = pair;
  judges = judges;
  status_is = status_is;
  line_is = line_is;
}
worked n status line some few (no_pair e refused status_is line_is) =
    let x = farms_are_pairs n some few in absurd (pair_or_not farm_domain (farm_problem n) e x.0 x.1 refused x.2)

whole_reply : (n : ℕ) (old new : Option (List ℕ)) (status : Status) → 1 ≤ n → n ≤ 1000 → Replied (IsTrial n) old new status ⊎ ⊥ → Replied (IsWorked n) old new status
whole_reply n old new status some few (inl r) = record { written = r.written; reply = worked n status r.written some few r.reply; took = r.took }
whole_reply n old new status some few (inr none) = absurd none

part_reply : (n : ℕ) (old new : Option (List ℕ)) → 1 ≤ n → n ≤ 1000 → RepliedInPart (IsTrial n) old new ⊎ ⊥ → RepliedInPart (IsWorked n) old new
part_reply n old new some few (inl r) = record { status = r.status; written = r.written; reply = worked n r.status r.written some few r.reply; part = r.part }
part_reply n old new some few (inr none) = absurd none

pub trials_are_worked : TrialsAreWorked
trials_are_worked word n bytes old new a b c d status named answers settled =
    let within = tanks_within word n named in whole_reply n old new status within.0 within.1 (answers.replied settled)

pub cut_trials_are_worked : CutTrialsAreWorked
cut_trials_are_worked word n bytes old new a b c d named answers =
    let within = tanks_within word n named in part_reply n old new within.0 within.1 (answers.write_fault refl).1
