-- The processes that hold, and those that may hold after a step.
use Rattle.std.proofs.Common.{◌≡◌, ℕ, zero, suc, ◌+◌, ◌<◌, true, false, List, [], ◌∷◌, length, get_or, ap, sym, subst, ◌∙◌, inl, inr, arith}
use Rattle.std.proofs.lemmas.List.{length-map}
use Rattle.std.specs.Prelude.{Option, Some, None, slice_get, All, ◌↔◌, IfSome}
use Rattle.plus_fraction.specs.Fraction.{Fraction}
use Rattle.plus_model.specs.Terms.{Condition, Process, State, Problem}
use Rattle.plus_model.specs.Value.{holds}
use Rattle.plus_model.specs.Firing.{numbers_of, is_in}
use Rattle.plus_model.specs.Running.{IsRising, holding}
use Rattle.plus_model.proofs.Members.{in_first, in_later, in_cases}
use Rattle.plus_state.specs.Asked.{AllFit}
use Rattle.plus_state.specs.Changes.{Changes, LeadsTo}
use Rattle.plus_state.specs.Numbers.{process_numbers}
use Rattle.plus_state.specs.declared.term.ProcessId.{ProcessId}
use Rattle.plus_state.specs.Walk.{process_conditions}
use Rattle.plus_state.specs.Looked.{AreKnown}
use Rattle.plus_state.proofs.LookingLemmas.{numbers_by}
use Rattle.plus_reads.specs.Tables.{AreBelow, atoms_changed, fluents_changed}
use Rattle.plus_reads.specs.Quiet.{OthersQuiet}
use Rattle.plus_reads.specs.Indexing.{Indexes}
use Rattle.plus_reads.specs.declared.index.Index.{Index}
use Rattle.plus_reads.specs.declared.readers.Readers.{Readers}
use Rattle.plus_reads.proofs.Sets.{false_unless}
use Rattle.plus_reads.proofs.Unchanged.{quiet_stays}
use Rattle.plus_reads.proofs.Waking.{Gathers, wakes}
use Rattle.plus_settle.specs.Settles.{condition_nodes}
use Rattle.plus_settle.proofs.ChoicesLemmas.{holding_members}
use Rattle.plus_indexed.specs.Woken.{AddsReaders}
use Rattle.plus_indexed.specs.Knows.{MayHold}
use Rattle.plus_settle.proofs.ShortLemmas.{collected}
use Rattle.plus_indexed.proofs.Quieting.{asked_one}

-- each member of a list is in it
in_at : (xs : List ℕ) (i d : ℕ) → i < length xs → is_in xs (get_or xs i d) ≡ true
in_at [] i d h = absurd (omega arith)
in_at (x ∷ xs) zero d h = in_first x xs
in_at (x ∷ xs) (suc i) d h = in_later (get_or xs i d) x xs (in_at xs i d (omega arith))

at_in : (T : ℕ → Type 0) (xs : List ℕ) (k : ℕ) → All T xs → is_in xs k ≡ true → T k
at_in T [] k a h = cc
at_in T (x ∷ xs) k a h = elim (in_cases k x xs h) [
  | inl e ↦ subst T (sym e) (a 0 x (omega arith))
  | inr i ↦ at_in T xs k (λ j d l. a (suc j) d (omega arith)) i
]

holds_where : (P : Problem) (s : State) (k : ℕ) (c : Condition) → slice_get (process_conditions P) k ≡ Some c → is_in (holding P s) k ≡ holds c s
holds_where P s k c g =
    let n : k ≡ 0 + k = omega arith in
    ap (λ (ns : List ℕ). is_in ns k) (sym (numbers_by (λ (p : Process). p.condition) s 0 P.processes))
    ∙ ap (is_in (numbers_of (λ (x : Condition). holds x s) 0 (process_conditions P))) n ∙ collected (λ (x : Condition). holds x s) 0 (process_conditions P) k c g

-- where what all ask passes, only those may hold that do
pub those_hold : (fits : Fraction → Type 0) (P : Problem) (s : State) (present : List ℕ) → AllFit fits (condition_nodes P.processes s) → present ≡ holding P s → MayHold fits P s present
those_hold fits P s present a e = record {
  inside = (holding_members P s (length (process_conditions P)) present (sym (length-map P.processes (λ (p : Process). p.condition))) e).inside;
  quiet = record {
    pass = λ k c g n. asked_one fits (process_conditions P) s k c g a;
    silent = λ k c g n. sym (holds_where P s k c g) ∙ ap (λ (ns : List ℕ). is_in ns k) (sym e) ∙ n;
  };
}

-- the same in order
module _ (fits : Fraction → Type 0) (P : Problem) (s : State) (waiting listed : List ℕ) (m : MayHold fits P s waiting) (same : (k : ℕ) → is_in listed k ≡ true ↔ is_in waiting k ≡ true) where
  unlisted : (k : ℕ) → is_in listed k ≡ false → is_in waiting k ≡ false
  unlisted k n = false_unless (is_in waiting k) (is_in listed k) ((same k).1) n

  pub in_order_known : IsRising 0 listed → AreKnown fits (process_conditions P) s listed
  in_order_known r = record {
    members = record {
      inside = λ i d l. at_in (λ k. k < length (process_conditions P)) waiting (get_or listed i d) m.inside ((same (get_or listed i d)).0 (in_at listed i d l));
      rising = r;
    };
    pass = λ k c g n. m.quiet.pass k c g (unlisted k n);
    silent = λ k c g n. m.quiet.silent k c g (unlisted k n);
  }

-- after changes the readers of what is changed may hold too
pub may_hold_after : (fits : Fraction → Type 0) (P : Problem) (i : Index) (s t : State) (c : Changes) (before after : List ℕ) → Indexes P i → LeadsTo s c t → AddsReaders i.processes c before after → MayHold fits P s before → MayHold fits P t after
may_hold_after fits P i s t c before after x l w q = record {
  inside = w.inside (length (process_conditions P)) x.processes_below q.inside;
  quiet = subst (λ (z : State). OthersQuiet fits (process_conditions P) z after) (sym l.is)
      (quiet_stays fits (process_conditions P) i.processes s c before after x.processes w.wakes q.quiet);
}

-- ---- how readers are added
below_all : (t : Readers) (before mid all : List ℕ) (xs fs : List ℕ) → Gathers t.atoms xs before mid → Gathers t.fluents fs mid all → (n : ℕ) → AreBelow n t → All (λ k. k < n) before → (k : ℕ) → is_in all k ≡ true → k < n
below_all t before mid all xs fs p q n b inside k h = elim (q.only k h) [
  | inl l ↦ elim (p.only k l) [ inl i ↦ at_in (λ j. j < n) before k inside i | inr w ↦ b.by_atoms w.0 k w.1 ]
  | inr w ↦ b.by_fluents w.0 k w.1
]

pub adds : (t : Readers) (c : Changes) (before mid all : List ℕ) → Gathers t.atoms (atoms_changed c) before mid → Gathers t.fluents (fluents_changed c) mid all → AddsReaders t c before all
adds t c before mid all p q = record {
  wakes = wakes t c before mid all all p q (λ k h. h) (λ k h. h);
  inside = λ n b i j d l. below_all t before mid all (atoms_changed c) (fluents_changed c) p q n b i (get_or all j d) (in_at all j d l);
}

-- the same members in another order
pub adds_as : (t : Readers) (c : Changes) (before all after : List ℕ) → AddsReaders t c before all → ((k : ℕ) → is_in after k ≡ true ↔ is_in all k ≡ true) → AddsReaders t c before after
adds_as t c before all after a same = record {
  wakes = record {
    kept = λ k h. (same k).1 (a.wakes.kept k h);
    by_atoms = λ x k i h. (same k).1 (a.wakes.by_atoms x k i h);
    by_fluents = λ x k i h. (same k).1 (a.wakes.by_fluents x k i h);
  };
  inside = λ n b i j d l. at_in (λ k. k < n) all (get_or after j d) (a.inside n b i) ((same (get_or after j d)).0 (in_at after j d l));
}

-- those that hold are kept, where there is memory for them
pub kept_present : (fits : Fraction → Type 0) (P : Problem) (s : State) (o : Option (List ℕ)) (xs ys : List ProcessId) → IfSome o (λ w. w ≡ process_numbers xs) → xs ≡ ys → MayHold fits P s (process_numbers ys) → (w : List ℕ) → o ≡ Some w → MayHold fits P s w
kept_present fits P s None xs ys h e m w f = cc
kept_present fits P s (Some v) xs ys h e m w f =
    let q : v ≡ w = cc in
    subst (MayHold fits P s) (ap process_numbers (sym e) ∙ sym h ∙ q) m
