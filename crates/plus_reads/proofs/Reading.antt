-- Tables of readers that are filled member by member.
use Rattle.std.proofs.Common.{◌≡◌, ℕ, zero, suc, ◌+◌, ◌<◌, true, List, [], ◌∷◌, ◌++◌, length, replicate, ap, sym, subst, ◌∙◌, inl, inr, arith}
use Rattle.std.proofs.lemmas.Bool.{cases_eq}
use Rattle.std.proofs.lemmas.List.{length-replicate}
use Rattle.std.proofs.lemmas.List.Elements.{All-nil, All-cons, All-append}
use Rattle.std.specs.Prelude.{Some, slice_get, All}
use Rattle.plus_model.specs.Terms.{Expression, Number, Fluent, Sum, Difference, Product, Quotient, Condition, Always, Never, Both, Either, Atom, Compare}
use Rattle.plus_model.specs.Running.{names}
use Rattle.plus_model.specs.Firing.{is_in}
use Rattle.plus_state.specs.Fits.{IsIn, Fits}
use Rattle.plus_reads.specs.Reads.{atoms_read, fluents_read}
use Rattle.plus_reads.specs.Tables.{readers_at, IsListed, Covers, AreBelow}
use Rattle.plus_reads.specs.Listing.{AddsReader}
use Rattle.plus_reads.specs.declared.readers.Readers.{Readers}

-- what fits names ids that there are
names_in : (n : ℕ) (e : Expression) → IsIn n e → All (λ k. k < n) (names e)
names_in n (Number x) h = All-nil (λ k. k < n)
names_in n (Fluent f) h = All-cons (λ k. k < n) f [] h (All-nil (λ k. k < n))
names_in n (Sum a b) h = All-append (λ k. k < n) (names a) (names b) (names_in n a h.0) (names_in n b h.1)
names_in n (Difference a b) h = All-append (λ k. k < n) (names a) (names b) (names_in n a h.0) (names_in n b h.1)
names_in n (Product a b) h = All-append (λ k. k < n) (names a) (names b) (names_in n a h.0) (names_in n b h.1)
names_in n (Quotient a b) h = All-append (λ k. k < n) (names a) (names b) (names_in n a h.0) (names_in n b h.1)

pub fluents_in : (atoms n : ℕ) (c : Condition) → Fits atoms n c → All (λ k. k < n) (fluents_read c)
fluents_in atoms n Always h = All-nil (λ k. k < n)
fluents_in atoms n Never h = All-nil (λ k. k < n)
fluents_in atoms n (Both c d) h = All-append (λ k. k < n) (fluents_read c) (fluents_read d) (fluents_in atoms n c h.0) (fluents_in atoms n d h.1)
fluents_in atoms n (Either c d) h = All-append (λ k. k < n) (fluents_read c) (fluents_read d) (fluents_in atoms n c h.0) (fluents_in atoms n d h.1)
fluents_in atoms n (Atom a positive) h = All-nil (λ k. k < n)
fluents_in atoms n (Compare test l r positive) h = All-append (λ k. k < n) (names l) (names r) (names_in n l h.0) (names_in n r h.1)

pub atoms_in : (n fluents : ℕ) (c : Condition) → Fits n fluents c → All (λ k. k < n) (atoms_read c)
atoms_in n fluents Always h = All-nil (λ k. k < n)
atoms_in n fluents Never h = All-nil (λ k. k < n)
atoms_in n fluents (Both c d) h = All-append (λ k. k < n) (atoms_read c) (atoms_read d) (atoms_in n fluents c h.0) (atoms_in n fluents d h.1)
atoms_in n fluents (Either c d) h = All-append (λ k. k < n) (atoms_read c) (atoms_read d) (atoms_in n fluents c h.0) (atoms_in n fluents d h.1)
atoms_in n fluents (Atom a positive) h = All-cons (λ k. k < n) a [] h (All-nil (λ k. k < n))
atoms_in n fluents (Compare test l r positive) h = All-nil (λ k. k < n)

-- so many members are listed, and no others
pub record Lists (n : ℕ) (cs : List Condition) (atoms fluents : List (List ℕ)) (atom_count fluent_count : ℕ) : Type 0 where
  pub atoms_size : length atoms ≡ atom_count
  pub fluents_size : length fluents ≡ fluent_count
  pub covers : (k : ℕ) (c : Condition) → k < n → slice_get cs k ≡ Some c → IsListed atoms fluents k c
  pub atoms_below : (a k : ℕ) → is_in (readers_at atoms a) k ≡ true → k < n
  pub fluents_below : (f k : ℕ) → is_in (readers_at fluents f) k ≡ true → k < n

same_some : (P : Condition → Type 0) (c d : Condition) → Some c ≡ Some d → P c → P d
same_some P c d e p = let k : c ≡ d = cc in subst P k p

module _ (n : ℕ) (cs : List Condition) (c : Condition) (atoms fluents more_atoms more_fluents : List (List ℕ)) (atom_count fluent_count : ℕ) (l : Lists n cs atoms fluents atom_count fluent_count) (e : slice_get cs n ≡ Some c)
    (p : AddsReader atoms more_atoms (atoms_read c) n) (q : AddsReader fluents more_fluents (fluents_read c) n) where
  here : (d : Condition) → slice_get cs n ≡ Some d → IsListed more_atoms more_fluents n d
  here d f = same_some (IsListed more_atoms more_fluents n) c d (sym e ∙ f) (record { by_atoms = p.added; by_fluents = q.added })

  before : (k : ℕ) (d : Condition) → k < n → slice_get cs k ≡ Some d → IsListed more_atoms more_fluents k d
  before k d h f = let i = l.covers k d h f in record { by_atoms = λ a r. p.kept a k (i.by_atoms a r); by_fluents = λ g r. q.kept g k (i.by_fluents g r) }

  covers_next : (k : ℕ) (d : Condition) → k < n + 1 → slice_get cs k ≡ Some d → IsListed more_atoms more_fluents k d
  covers_next k d h f = elim (cases_eq k n) [
    | inl s ↦ subst (λ j. IsListed more_atoms more_fluents j d) (sym s) (here d (subst (λ j. slice_get cs j ≡ Some d) s f))
    | inr s ↦ before k d (omega (arith, s)) f
  ]

  pub lists_next : Lists (n + 1) cs more_atoms more_fluents atom_count fluent_count
  lists_next = record {
    atoms_size = p.size ∙ l.atoms_size;
    fluents_size = q.size ∙ l.fluents_size;
    covers = covers_next;
    atoms_below = λ a k h. elim (p.only a k h) [ inl i ↦ (let b = l.atoms_below a k i in omega arith) | inr s ↦ omega (arith, s) ];
    fluents_below = λ f k h. elim (q.only f k h) [ inl i ↦ (let b = l.fluents_below f k i in omega arith) | inr s ↦ omega (arith, s) ];
  }

inside : (cs : List Condition) (k : ℕ) (c : Condition) → slice_get cs k ≡ Some c → k < length cs
inside [] k c e = cc
inside (d ∷ cs) zero c e = omega arith
inside (d ∷ cs) (suc k) c e = let h = inside cs k c e in omega arith

pub lists_all : (cs : List Condition) (n : ℕ) (t : Readers) (atoms fluents : List (List ℕ)) (atom_count fluent_count : ℕ) → n ≡ length cs → t.atoms ≡ atoms → t.fluents ≡ fluents → Lists n cs atoms fluents atom_count fluent_count → Covers cs t × AreBelow (length cs) t
lists_all cs n t atoms fluents atom_count fluent_count e a f m =
    let l : Lists n cs t.atoms t.fluents atom_count fluent_count =
    subst (λ (rows : List (List ℕ)). Lists n cs rows t.fluents atom_count fluent_count) (sym a)
    (subst (λ (rows : List (List ℕ)). Lists n cs atoms rows atom_count fluent_count) (sym f) m) in (
      λ k c g. l.covers k c (subst (λ m. k < m) (sym e) (inside cs k c g)) g,
      subst (λ m. AreBelow m t) e (record { by_atoms = l.atoms_below; by_fluents = l.fluents_below }),
    )

pub at_place : {A : Type 0} (P : A → Type 0) (xs : List A) (k : ℕ) (x : A) → All P xs → slice_get xs k ≡ Some x → P x
at_place P [] k x a e = cc
at_place P (y ∷ xs) zero x a e = let h : y ≡ x = cc in subst P h (a 0 y (omega arith))
at_place P (y ∷ xs) (suc k) x a e = at_place P xs k x (λ j d l. a (suc j) d (omega arith)) e

-- names that were added to none
pub named_anew : (items cleared reads keys : List ℕ) → keys ≡ items → items ≡ cleared ++ reads → cleared ≡ [] → keys ≡ reads
named_anew items cleared reads keys k e c = k ∙ e ∙ ap (λ (xs : List ℕ). xs ++ reads) c
