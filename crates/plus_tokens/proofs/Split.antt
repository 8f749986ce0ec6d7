-- Every text is a gap and what stands behind it, and a run and what stops it.
use Rattle.std.proofs.Common.{◌≡◌, ◌⊎◌, ℕ, suc, ◌+◌, Bool, true, false, not, List, [], ◌∷◌, ◌++◌, length, refl, sym, ◌∙◌, ap, subst, inl, inr, append_assoc, length-append, arith}
use Rattle.std.specs.Prelude.{◌==◌}
use Rattle.std.specs.List.{list_all, concat}
use Rattle.std.proofs.lemmas.Bool.{and_from, and_parts, eqb-true}
use Rattle.std.proofs.lemmas.List.{append-nil}
use Rattle.plus_tokens.specs.Bytes.{is_blank, gap_len}
use Rattle.plus_tokens.specs.Spelling.{Each, begins, is_no_lf, IsBlank, IsComment, IsGap, IsGapToEnd}
use Rattle.plus_tokens.proofs.Runs.{space_len, spaces_len}

-- as many bytes as pass, and the rest
pub record Run (p : ℕ → Bool) (text : List ℕ) : Type 0 where
  pub run : List ℕ
  pub rest : List ℕ
  pub parts : text ≡ run ++ rest
  pub all : Each p run
  pub stop : begins p rest ≡ false

pub run_of : (p : ℕ → Bool) (text : List ℕ) → Run p text
run_of p [] = record { run = []; rest = []; parts = refl; all = refl; stop = refl }
run_of p (b ∷ bs) = at (p b) refl (run_of p bs) where
  at : (t : Bool) → p b ≡ t → Run p bs → Run p (b ∷ bs)
  at false e r = record { run = []; rest = b ∷ bs; parts = refl; all = refl; stop = e }
  at true e r = record { run = b ∷ r.run; rest = r.rest; parts = ap (λ l. b ∷ l) r.parts; all = and_from (p b) (list_all p r.run) e r.all; stop = r.stop }

-- what a gap stops at: a byte that is neither a blank nor a `;`
pub record Stops (rest : List ℕ) : Type 0 where
  pub first : ℕ
  pub others : List ℕ
  pub spelled : rest ≡ first ∷ others
  pub no_blank : is_blank first ≡ false
  pub no_comment : (first == 59) ≡ false

-- a text has a gap and then such a byte, or it is all a gap
pub data Gapped (text : List ℕ) : Type 0 where
  stopped : (gap rest : List ℕ) → IsGap gap → text ≡ gap ++ rest → Stops rest → Gapped text
  all_gap : IsGapToEnd text → gap_len false text ≡ length text → Gapped text

-- inside a comment: its LF comes and then such a text, or it never comes
data Commented (text : List ℕ) : Type 0 where
  closed : (inside more : List ℕ) → Each is_no_lf inside → text ≡ inside ++ 10 ∷ more → Gapped more → Commented text
  open_ended : Each is_no_lf text → gap_len true text ≡ length text → Commented text

gap_nil : IsGap []
gap_nil = ([], tt, refl)

gap_cons : (piece gap : List ℕ) → IsBlank piece ⊎ IsComment piece → IsGap gap → IsGap (piece ++ gap)
gap_cons piece gap space is = (piece ∷ is.0, (space, is.1), ap (λ l. piece ++ l) is.2)

-- a blank or a comment before such a text
before : (piece text : List ℕ) → IsBlank piece ⊎ IsComment piece → gap_len false (piece ++ text) ≡ length piece + gap_len false text → Gapped text → Gapped (piece ++ text)
before piece text space len (stopped gap rest is parts stops) =
    stopped (piece ++ gap) rest (gap_cons piece gap space is) (ap (λ l. piece ++ l) parts ∙ sym (append_assoc piece gap rest)) stops
before piece text space len (all_gap (inl is) all) =
    all_gap (inl (gap_cons piece text space is)) (omega (arith, len, all, length-append piece text))
before piece text space len (all_gap (inr cut) all) =
    all_gap (inr (piece ++ cut.0, cut.1, gap_cons piece cut.0 space cut.2, cut.3, ap (λ l. piece ++ l) cut.4 ∙ sym (append_assoc piece cut.0 (59 ∷ cut.1))))
    (omega (arith, len, all, length-append piece text))

abbrev outcome : Bool → List ℕ → Type 0
outcome false text = Gapped text
outcome true text = Commented text

-- a byte outside of comments, where what is behind it is known from outside and from inside a comment
outside : (b : ℕ) (bs : List ℕ) → Gapped bs → Commented bs → Gapped (b ∷ bs)
outside b bs f t = at (b == 59) refl t where
  blank : (s : Bool) → (b == 59) ≡ false → is_blank b ≡ s → Gapped (b ∷ bs)
  blank true other e = before (b ∷ []) bs (inl (b, e, refl)) (space_len (b ∷ []) bs (inl (b, e, refl))) f
  blank false other e = stopped [] (b ∷ bs) gap_nil refl (record { first = b; others = bs; spelled = refl; no_blank = e; no_comment = other })

  at : (s : Bool) → (b == 59) ≡ s → Commented bs → Gapped (b ∷ bs)
  at false e _ = blank (is_blank b) e refl
  at true e (closed inside more all parts g) =
      let piece = 59 ∷ (inside ++ 10 ∷ []) in
      let comment : IsComment piece = (inside, all, refl) in
      let same : piece ++ more ≡ b ∷ bs =
      ap (λ l. 59 ∷ l) (append_assoc inside (10 ∷ []) more) ∙ ap (λ l. 59 ∷ l) (sym parts) ∙ ap (λ c. c ∷ bs) (sym (eqb-true b 59 e)) in
      subst Gapped same (before piece more (inr comment) (space_len piece more (inr comment)) g)
  at true e (open_ended all len) = all_gap (inr ([], bs, gap_nil, all, ap (λ c. c ∷ bs) (eqb-true b 59 e))) (rw e (ap suc len))

-- a byte inside a comment
within : (b : ℕ) (bs : List ℕ) → Gapped bs → Commented bs → Commented (b ∷ bs)
within b bs f t = at (b == 10) refl t where
  at : (s : Bool) → (b == 10) ≡ s → Commented bs → Commented (b ∷ bs)
  at true e _ = closed [] bs refl (ap (λ c. c ∷ bs) (eqb-true b 10 e)) f
  at false e (closed inside more all parts g) = closed (b ∷ inside) more (and_from (is_no_lf b) (list_all is_no_lf inside) (ap not e) all) (ap (λ l. b ∷ l) parts) g
  at false e (open_ended all len) = open_ended (and_from (is_no_lf b) (list_all is_no_lf bs) (ap not e) all) (rw e (ap suc len))

scan : (inside : Bool) (text : List ℕ) → outcome inside text
scan false [] = all_gap (inl gap_nil) refl
scan true [] = open_ended refl refl
scan false (b ∷ bs) = outside b bs (scan false bs) (scan true bs)
scan true (b ∷ bs) = within b bs (scan false bs) (scan true bs)

pub gapped : (text : List ℕ) → Gapped text
gapped text = scan false text

-- the inside of a comment that never ends
cut_len : (inside : List ℕ) → Each is_no_lf inside → gap_len true inside ≡ length inside
cut_len [] all = refl
cut_len (b ∷ bs) all = let h = and_parts (is_no_lf b) (list_all is_no_lf bs) all in rw h.0 (ap suc (cut_len bs h.1))

-- a gap to the end is passed over whole
pub gap_all : (text : List ℕ) → IsGapToEnd text → gap_len false text ≡ length text
gap_all text (inl is) = rw is.2 (ap (gap_len false) (sym (append-nil (concat is.0))) ∙ spaces_len is.0 [] is.1 ∙ omega arith)
gap_all text (inr cut) =
    rw (cut.4, cut.2.2)
    (spaces_len cut.2.0 (59 ∷ cut.1) cut.2.1 ∙ omega (arith, cut_len cut.1 cut.3, length-append (concat cut.2.0) (59 ∷ cut.1)))
