-- Laws of the answers with a cut.
use Rattle.std.proofs.Common.{◌≡◌, false, true, subst}
use Rattle.plus_fraction.specs.Fraction.{Fraction}
use Rattle.plus_search.proofs.Counting.{number_same, some_same}
use Rattle.plus_planner.specs.declared.searching.Answer.TheVariants.{Plan, NoPlan, Spent}
use Rattle.plus_planner.specs.Places.{no_cut}
use Rattle.plus_planner.specs.Searches.{CountsBeyond, MayBeTried}
use Rattle.plus_planner.proofs.NumberOnce.{number_once}
use Rattle.plus_cut.specs.Answers.{CountsUncut, TriedUncut, CutAnswers}
use Rattle.plus_cut.specs.Laws.{CutIsNone, NoneOnceByCut, PlanOrNoneByCut}

no_yes : false ≡ true → ⊥
no_yes e = cc e

pub no_cut_is_none : {Q : Type 0} (v : Q → Fraction) (fits : Fraction → Type 0) → CutIsNone v fits
no_cut_is_none v fits task k tries (Plan plan) = ((λ h. h), (λ h. h))
no_cut_is_none v fits task k tries (NoPlan n) = (
  (λ h. record { none = h.none; number = number_same (CountsUncut fits task no_cut k) (CountsBeyond fits task k) n h.number (λ ds c. c.counts) (λ ds c. record { counts = c; uncut = λ ps qs s some e ends says. no_yes says }) }),
  (λ h. record { none = h.none; number = number_same (CountsBeyond fits task k) (CountsUncut fits task no_cut k) n h.number (λ ds c. record { counts = c; uncut = λ ps qs s some e ends says. no_yes says }) (λ ds c. c.counts) }),
)
no_cut_is_none v fits task k tries (Spent n) = (
  (λ h. (h.0, (h.1.0, h.1.1, some_same (TriedUncut fits task no_cut k) (MayBeTried fits task k) h.1.0 h.1.2 (λ ds c. c.tried)))),
  (λ h. (h.0, (h.1.0, h.1.1, some_same (MayBeTried fits task k) (TriedUncut fits task no_cut k) h.1.0 h.1.2 (λ ds c. record { tried = c; uncut = λ ps qs s some e ends says. no_yes says })))),
)

pub none_once_by_cut : (fits : Fraction → Type 0) → NoneOnceByCut fits
none_once_by_cut fits task cut k n m a b = number_once (CountsUncut fits task cut k) n m a.number b.number

pub plan_or_none_by_cut : {Q : Type 0} (v : Q → Fraction) (fits : Fraction → Type 0) → PlanOrNoneByCut v fits
plan_or_none_by_cut v fits task cut cut' k tries tries' n plan answer a e b = (subst (CutAnswers v fits task cut' k tries') e b).none a.decisions a.is
