-- Which count passes its limit first.
use Rattle.std.proofs.Common.{◌≡◌, ℕ, ◌<◌, ◌≤◌, ap, sym, ◌∙◌, length, cond, nat_lt, Option, Some, None, ⊎_elim}
use Rattle.std.proofs.lemmas.Bool.{cases_lt}
use Rattle.plus_types.specs.Faults.{Context}
use Rattle.plus_expansion.specs.Numbers.{ground_names}
use Rattle.plus_expansion.specs.declared.counts.Count.{Count}
use Rattle.plus_expansion.specs.declared.counts.Count.TheVariants.{Atoms, Fluents}
use Rattle.plus_numbering.specs.declared.faults.GroundFault.{GroundFault}
use Rattle.plus_numbering.specs.declared.faults.GroundFault.TheVariants.{TooMany, Literal, Memory}
use Rattle.plus_expansion.specs.Counts.{Counted, first_over, name_counts}
use Rattle.plus_numbering.specs.Refusals.{RefusesCount, IsOver}
use Rattle.plus_numbering.proofs.RankLemmas.{lt-true, lt-false}

pub not-over : (m n : ℕ) (c : Counted) (rest : Option Counted) → n ≤ m → cond (nat_lt m n) (Some c) rest ≡ rest
not-over m n c rest h = ap (λ b. cond b (Some c) rest) (lt-false m n h)

pub over : (m n : ℕ) (c : Counted) (rest : Option Counted) → m < n → cond (nat_lt m n) (Some c) rest ≡ Some c
over m n c rest h = ap (λ b. cond b (Some c) rest) (lt-true m n h)

pub refuses-atoms : (c : Context) (e : GroundFault) → length c.objects ≤ 10000 → IsOver Atoms 200000 (length (ground_names c c.predicates)) e → RefusesCount (name_counts c) e
refuses-atoms c Memory h o = tt
refuses-atoms c (Literal file span) h o = absurd o
refuses-atoms c (TooMany k m) h o =
    let n = length (ground_names c c.predicates) in (
      n,
      not-over 10000 (length c.objects) _ _ h ∙ over 200000 n _ _ o.2
          ∙ ap (λ (x : Count). Some (record { kind = x; most = 200000; number = n })) (sym o.0) ∙ ap (λ (x : ℕ). Some (record { kind = k; most = x; number = n })) (sym o.1),
    )

pub refuses-fluents :
    (c : Context) (e : GroundFault) → length c.objects ≤ 10000 → length (ground_names c c.predicates) ≤ 200000 → IsOver Fluents 50000 (length (ground_names c c.functions)) e
    → RefusesCount (name_counts c) e
refuses-fluents c Memory h a o = tt
refuses-fluents c (Literal file span) h a o = absurd o
refuses-fluents c (TooMany k m) h a o =
    let n = length (ground_names c c.functions) in (
      n,
      not-over 10000 (length c.objects) _ _ h ∙ not-over 200000 (length (ground_names c c.predicates)) _ _ a ∙ over 50000 n _ _ o.2
          ∙ ap (λ (x : Count). Some (record { kind = x; most = 50000; number = n })) (sym o.0) ∙ ap (λ (x : ℕ). Some (record { kind = k; most = x; number = n })) (sym o.1),
    )

-- none is over
pub low-first : (m n : ℕ) (c : Counted) (rest : Option Counted) → cond (nat_lt m n) (Some c) rest ≡ None → (n ≤ m) × (rest ≡ None)
low-first m n c rest e = ⊎_elim high low (cases_lt m n)
  where
    high : m < n → (n ≤ m) × (rest ≡ None)
    high h = let q : Some c ≡ None = sym (over m n c rest h) ∙ e in cc

    low : n ≤ m → (n ≤ m) × (rest ≡ None)
    low h = (h, sym (not-over m n c rest h) ∙ e)

pub few-atoms : (c : Context) → first_over (name_counts c) ≡ None → length (ground_names c c.predicates) ≤ 200000
few-atoms c e = (low-first 200000 (length (ground_names c c.predicates)) _ _ (low-first 10000 (length c.objects) _ _ e).1).0

pub few-fluents : (c : Context) → first_over (name_counts c) ≡ None → length (ground_names c c.functions) ≤ 50000
few-fluents c e =
    (low-first 50000 (length (ground_names c c.functions)) _ _ (low-first 200000 (length (ground_names c c.predicates)) _ _ (low-first 10000 (length c.objects) _ _ e).1).1).0
