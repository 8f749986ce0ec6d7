-- Texts that are put one after the other.
use Rattle.std.proofs.Common.{◌≡◌, ℕ, ◌<◌, ◌≤◌, List, [], ◌++◌, length, Option, None, Some, Result, Ok, Err, refl, sym, ap, subst, ◌∙◌, append_assoc, append-nil, length-append, length-drop, take, drop, take-append-drop, arith}
use lib.Seq.{take-append_seam}
use Rattle.std.specs.Prelude.{IsErr, OnOk, OnErr}
use Rattle.std.specs.Io.KnownBytes.{append_known}
use Rattle.plus_io.specs.Faults.{Rose}
use Rattle.plus_io.specs.Taken.{Took, TookPart}
use Rattle.plus_report.specs.Puts.{Moves, Stops, Puts}
use Rattle.plus_report.specs.Wrote.{Wrote}

pub Took-then : (o p q : Option (List ℕ)) (a b : List ℕ) → Took o p a → Took p q b
    → Took o q (a ++ b)
Took-then o p q a b e d = d ∙ ap (λ x. append_known x b) e ∙ joined o
  where
    joined : (o : Option (List ℕ)) → append_known (append_known o a) b ≡ append_known o (a ++ b)
    joined None = refl
    joined (Some x) = ap Some (append_assoc x a b)

Moves-then : {o p q : Option (List ℕ)} {v w u a b : List ℕ} → Moves o p v w a → Moves p q w u b
    → Moves o q v u (a ++ b)
Moves-then {o = o} {p = p} {q = q} {v = v} {w = w} {u = u} {a = a} {b = b} m n = record {
  front = m.front ++ n.front;
  took = Took-then o p q m.front n.front m.took n.took;
  left = sym (append_assoc v a b) ∙ ap (λ x. x ++ b) m.left ∙ append_assoc m.front w b ∙ ap (λ x. m.front ++ x) n.left ∙ sym (append_assoc m.front n.front u);
}

Moves-stop : {o p q : Option (List ℕ)} {v w a b : List ℕ} → Moves o p v w a → Stops p q w b
    → Stops o q v (a ++ b)
Moves-stop {o = o} {p = p} {q = q} {v = v} {w = w} {a = a} {b = b} m n = record {
  front = m.front ++ n.front;
  took = Took-then o p q m.front n.front m.took n.took;
  back = n.back;
  some = n.some;
  left = sym (append_assoc v a b) ∙ ap (λ x. x ++ b) m.left ∙ append_assoc m.front w b ∙ ap (λ x. m.front ++ x) n.left ∙ sym (append_assoc m.front n.front n.back);
}

Stops-before : {o p : Option (List ℕ)} {v a : List ℕ} (b : List ℕ) → Stops o p v a
    → Stops o p v (a ++ b)
Stops-before {v = v} {a = a} b n = record {
  front = n.front;
  took = n.took;
  back = n.back ++ b;
  some = omega (arith, n.some, length-append n.back b);
  left = sym (append_assoc v a b) ∙ ap (λ x. x ++ b) n.left ∙ append_assoc n.front n.back b;
}

pub part_of : (o p : Option (List ℕ)) (a front back : List ℕ) → Took o p front → 0 < length back
    → a ≡ front ++ back → TookPart o p a
part_of o p a front back t l e = (length front, omega (arith, l, ap length e, length-append front back), t ∙ ap (append_known o) (sym (ap (take (length front)) e ∙ take-append_seam front back)))

pub Rose-then : (a b c : ℕ) → a ≤ b → Rose b c → Rose a c
Rose-then a b c h r = omega arith

module _ {O T E F : Type 0} {taken : O → Option (List ℕ)} {faults : O → ℕ} where
  -- one text and then another
  pub both : {x y z : O} {v w u a b : List ℕ} {t : T} {r : Result T F}
      → Puts {T = T} {E = E} taken faults x y v w a (Ok t) → Puts taken faults y z w u b r
      → Puts taken faults x z v u (a ++ b) r
  both {r = Ok s} p q = record { no_fall = omega (arith, p.no_fall, q.no_fall); outcome = Moves-then p.outcome q.outcome }
  both {r = Err e} p q = record {
    no_fall = omega (arith, p.no_fall, q.no_fall);
    outcome = (Rose-then _ _ _ p.no_fall q.outcome.0, Moves-stop p.outcome q.outcome.1);
  }

  -- a fault, handed on
  pub stop : {x y : O} {v w a : List ℕ} {e : E} {r : Result T F}
      → Puts {T = T} {E = E} taken faults x y v w a (Err e) → IsErr r
      → Puts taken faults x y v w a r
  stop {r = Ok s} p h = cc
  stop {r = Err d} p h = record { no_fall = p.no_fall; outcome = p.outcome }

module _ {O T E : Type 0} {taken : O → Option (List ℕ)} {faults : O → ℕ} where
  -- a fault while the sink takes what waits
  pub stuck : {x y : O} {w w' b : List ℕ} {r : Result T E} → faults x ≤ faults y
      → Rose (faults x) (faults y) → TookPart (taken x) (taken y) w → IsErr r
      → Puts taken faults x y w w' b r
  stuck {r = Ok s} n c p h = cc
  stuck {w = w} {b = b} {r = Err d} n c p h = record {
    no_fall = n;
    outcome = (
      c,
      record {
        front = take p.0 w;
        took = p.2;
        back = drop p.0 w ++ b;
        some = omega (arith, p.1, length-append (drop p.0 w) b, length-drop p.0 w);
        left = ap (λ l. l ++ b) (sym (take-append-drop p.0 w)) ∙ append_assoc (take p.0 w) (drop p.0 w) b;
      },
    );
  }

  -- a text that the sink takes at once, where nothing waits
  pub direct : {x y : O} {w b : List ℕ} {r : Result T E} → w ≡ []
      → OnOk r (Took (taken x) (taken y) b) → OnErr r (Rose (faults x) (faults y))
      → OnErr r (TookPart (taken x) (taken y) b) → faults x ≤ faults y
      → Puts taken faults x y w w b r
  direct {w = w} {b = b} {r = Ok s} e t c p n = record { no_fall = n; outcome = record { front = b; took = t; left = ap (λ l. l ++ b) e ∙ sym (append-nil b) ∙ ap (λ l. b ++ l) (sym e) } }
  direct {w = w} {b = b} {r = Err d} e t c p n = record {
    no_fall = n;
    outcome = (
      c,
      record {
        front = take p.0 b;
        took = p.2;
        back = drop p.0 b;
        some = omega (arith, p.1, length-drop p.0 b);
        left = ap (λ l. l ++ b) e ∙ sym (take-append-drop p.0 b);
      },
    );
  }

  -- a fault in the first of two texts
  pub early : {x y : O} {v w a : List ℕ} {r : Result T E} (b : List ℕ)
      → Puts taken faults x y v w a r → IsErr r → Puts taken faults x y v w (a ++ b) r
  early {r = Ok s} b p h = cc
  early {r = Err d} b p h = record { no_fall = p.no_fall; outcome = (p.outcome.0, Stops-before b p.outcome.1) }

  -- the same text in other words
  pub worded : {x y : O} {v w a b : List ℕ} {r : Result T E} → Puts taken faults x y v w a r → a ≡ b
      → Puts taken faults x y v w b r
  worded {x = x} {y = y} {v = v} {w = w} {r = r} p e = subst (λ l. Puts taken faults x y v w l r) e p

  -- nothing is put
  pub nothing : {x : O} {v : List ℕ} (t : T) → Puts {T = T} {E = E} taken faults x x v v [] (Ok t)
  nothing {x = x} {v = v} t = record { no_fall = omega arith; outcome = record { front = []; took = kept (taken x); left = append-nil v } }
    where
      kept : (o : Option (List ℕ)) → o ≡ append_known o []
      kept None = refl
      kept (Some l) = ap Some (sym (append-nil l))

  -- all is put and then taken
  pub wrote : {x y z : O} {v w u a : List ℕ} {t : T} {r : Result T E} → v ≡ []
      → Puts {T = T} {E = E} taken faults x y v w a (Ok t) → Puts taken faults y z w u [] r
      → OnOk r (u ≡ []) → Wrote taken faults x z a r
  wrote {a = a} {r = Ok s} e p q l =
      let m = Moves-then p.outcome q.outcome in
      record {
        no_fall = omega (arith, p.no_fall, q.no_fall);
        outcome = m.took ∙ ap (append_known _) (sym (append-nil m.front) ∙ ap (λ l. m.front ++ l) (sym l) ∙ sym m.left ∙ ap (λ l. l ++ (a ++ [])) e ∙ append-nil a);
      }
  wrote {x = x} {z = z} {a = a} {r = Err d} e p q l =
      record { no_fall = omega (arith, p.no_fall, q.no_fall); outcome = (Rose-then _ _ _ p.no_fall q.outcome.0, part e (Moves-stop p.outcome q.outcome.1)) }
    where
      part : {v : List ℕ} → v ≡ [] → Stops (taken x) (taken z) v (a ++ [])
          → TookPart (taken x) (taken z) a
      part e s = part_of (taken x) (taken z) a s.front s.back s.took s.some (sym (append-nil a) ∙ ap (λ l. l ++ (a ++ [])) (sym e) ∙ s.left)

  -- a fault before all is put
  pub cut : {x y : O} {v w a : List ℕ} {e : E} {r : Result T E} → v ≡ []
      → Puts {T = T} {E = E} taken faults x y v w a (Err e) → IsErr r → Wrote taken faults x y a r
  cut {r = Ok s} e p h = cc
  cut {x = x} {y = y} {a = a} {r = Err d} e p h =
      let s = p.outcome.1 in
      record { no_fall = p.no_fall; outcome = (p.outcome.0, part_of (taken x) (taken y) a s.front s.back s.took s.some (ap (λ l. l ++ a) (sym e) ∙ s.left)) }
