-- Where reading stops: what it took begins a line, and no line goes on with the token that it refused.
use Rattle.std.proofs.Common.{◌≡◌, List, [], ◌∷◌, ◌++◌, Result, Ok, Err, refl, sym, ap, ◌∙◌, subst, inl, inr, ⊎_elim}
use Rattle.std.specs.Prelude.{◌⊎◌}
use Rattle.plus_tokens.specs.declared.span.Span.{Span}
use Rattle.plus_tokens.specs.declared.token.LexFault.{LexFault}
use Rattle.plus_plan.specs.declared.reader.Refusal.{Refusal}
use Rattle.plus_plan.specs.declared.reader.Refusal.TheVariants as refusals
use Rattle.plus_tokens.specs.Items.{Piece, Item, tok, bad}
use Rattle.plus_plan.specs.Reading.{◌>>=◌, Read, byte_place, next_of}
use Rattle.plus_plan.proofs.Found.{toks, toks-append, bind_ok, rest_is, value_is, after_next}

abbrev pub refused : {B : Type 0} → Refusal → Result B Refusal
refused e = Err e

abbrev pub said : {B : Type 0} → B → Result B Refusal
said x = Ok x

pub err_same : {B : Type 0} (d e : Refusal) → refused {B = B} d ≡ refused e → d ≡ e
err_same d e h = cc

-- ---- stopping

-- why reading stopped behind these tokens: the line ends, bytes spell no token, or no reading goes on with this token
abbrev pub Cause : {A : Type 0} → (List Item → Result A Refusal) → List Piece → List Item → Refusal → Type 0
Cause read before items refusals.AtEnd = items ≡ toks before []
Cause read before items (refusals.At s) =
    ((f : LexFault) × (rest : List Item) × (items ≡ toks before (bad f ∷ rest)) × (s ≡ byte_place f))
    ⊎ ((p : Piece) × (rest : List Item) × (items ≡ toks before (tok p ∷ rest)) × (p.span ≡ s)
    × ((later : List Item) → (e : Refusal) × (read (toks before (tok p ∷ later)) ≡ Err e)))
Cause read before items refusals.Memory = ⊥

-- a reader that leaves what it does not take
pub record Stopped {A : Type 0} (read : List Item → Read A) (items : List Item) (e : Refusal) : Type 0 where
  pub before : List Piece
  pub more : List Piece
  pub value : A
  -- the tokens before can be completed
  pub completes : (later : List Item) → read (toks before (toks more later)) ≡ Ok (value, later)
  pub cause : Cause read before items e

-- what was taken is taken again, whatever follows
pub record Taken {A : Type 0} (read : List Item → Read A) (items : List Item) (x : A) (rest : List Item) : Type 0 where
  pub taken : List Piece
  pub whole : items ≡ toks taken rest
  pub again : (later : List Item) → read (toks taken later) ≡ Ok (x, later)

-- something can be read
pub record Fresh {A : Type 0} (read : List Item → Read A) : Type 0 where
  pub pieces : List Piece
  pub value : A
  pub reads : (later : List Item) → read (toks pieces later) ≡ Ok (value, later)

pub record Reads {A : Type 0} (read : List Item → Read A) : Type 0 where
  pub fresh : Fresh read
  pub takes : (items : List Item) (x : A) (rest : List Item) → read items ≡ Ok (x, rest) → Taken read items x rest
  pub stops : (items : List Item) (e : Refusal) → read items ≡ Err e → Stopped read items e

-- a reader that reads to the end
pub record StoppedEnd {A : Type 0} (read : List Item → Result A Refusal) (items : List Item) (e : Refusal) : Type 0 where
  pub before : List Piece
  pub more : List Piece
  pub value : A
  pub completes : read (toks before (toks more [])) ≡ Ok value
  pub cause : Cause read before items e

pub record FreshEnd {A : Type 0} (read : List Item → Result A Refusal) : Type 0 where
  pub pieces : List Piece
  pub value : A
  pub reads : read (toks pieces []) ≡ Ok value

pub record Ends {A : Type 0} (read : List Item → Result A Refusal) : Type 0 where
  pub fresh : FreshEnd read
  pub stops : (items : List Item) (e : Refusal) → read items ≡ Err e → StoppedEnd read items e

-- ---- one reader after another

abbrev pub behind : {A B : Type 0} → (List Item → Read A) → (A → List Item → Result B Refusal) → List Item → Result B Refusal
behind first then items = first items >>= λ x. then x.0 x.1

-- the first goes on to the second
goes_on : {A B : Type 0} (first : List Item → Read A) (then : A → List Item → Result B Refusal) (items rest : List Item) (x : A) → first items ≡ Ok (x, rest) → behind first then items ≡ then x rest
goes_on {A} first then items rest x e = ap (λ (r : Read A). r >>= λ x. then x.0 x.1) e

err_is : {A : Type 0} (first : List Item → Read A) (items : List Item) (e : Refusal) → first items ≡ Err e → {B : Type 0} (then : A → List Item → Result B Refusal) → behind first then items ≡ Err e
err_is {A} first items e h then = ap (λ (r : Read A). r >>= λ x. then x.0 x.1) h

-- the first stopped, and so did the whole
first_cause : {A B : Type 0} (first : List Item → Read A) (then : A → List Item → Result B Refusal) (before : List Piece) (items : List Item) (e : Refusal) → Cause first before items e → Cause (behind first then) before items e
first_cause first then before items refusals.AtEnd c = c
first_cause first then before items (refusals.At s) c =
    ⊎_elim (λ b. inl b) (λ t. inr (t.0, t.1, t.2, t.3, λ later. let h = t.4 later in (h.0, err_is first (toks before (tok t.0 ∷ later)) h.0 h.1 then))) c
first_cause first then before items refusals.Memory c = c

-- the first took its tokens, and the second stopped
second_cause : {A B : Type 0} (first : List Item → Read A) (then : A → List Item → Result B Refusal) (items rest : List Item) (x : A) (t : Taken first items x rest) (before : List Piece) (e : Refusal) → Cause (then x) before rest e → Cause (behind first then) (t.taken ++ before) items e
second_cause first then items rest x t before refusals.AtEnd c = t.whole ∙ ap (toks t.taken) c ∙ sym (toks-append t.taken before [])
second_cause first then items rest x t before (refusals.At s) c =
    ⊎_elim
    (λ b. inl (b.0, b.1, t.whole ∙ ap (toks t.taken) b.2 ∙ sym (toks-append t.taken before (bad b.0 ∷ b.1)), b.3))
    (λ p. inr (
      p.0,
      p.1,
      t.whole ∙ ap (toks t.taken) p.2 ∙ sym (toks-append t.taken before (tok p.0 ∷ p.1)),
      p.3,
      λ later.
          let h = p.4 later in
          (h.0, ap (behind first then) (toks-append t.taken before (tok p.0 ∷ later)) ∙ goes_on first then (toks t.taken (toks before (tok p.0 ∷ later))) (toks before (tok p.0 ∷ later)) x (t.again (toks before (tok p.0 ∷ later))) ∙ h.1),
    )) c
second_cause first then items rest x t before refusals.Memory c = c

-- what the first answered, where the whole is refused
which : {A B : Type 0} (first : List Item → Read A) (then : A → List Item → Result B Refusal) (items : List Item) (e : Refusal) → behind first then items ≡ Err e → (first items ≡ Err e) ⊎ ((x : A) × (rest : List Item) × (first items ≡ Ok (x, rest)) × (then x rest ≡ Err e))
which {A} {B} first then items e h = at_answer (first items) refl h
  where
    at_answer : (r : Read A) → first items ≡ r → (r >>= λ x. then x.0 x.1) ≡ Err e → (first items ≡ Err e) ⊎ ((x : A) × (rest : List Item) × (first items ≡ Ok (x, rest)) × (then x rest ≡ Err e))
    at_answer (Ok x) is h = inr (x.0, x.1, is, h)
    at_answer (Err d) is h = inl (is ∙ (ap Err (err_same {B = B} d e h)))

-- nothing is taken
pub pure : {A : Type 0} (x : A) → Reads (λ (items : List Item). Ok (x, items))
pure {A} x =
    record {
      fresh = record { pieces = []; value = x; reads = λ later. refl };
      takes = λ items y rest h. record {
        taken = [];
        whole = rest_is x y items rest h;
        again = λ later. ap (λ (z : A). Ok (z, later)) (value_is x y items rest h);
      };
      stops = λ items e h. absurd cc;
    }

pub bind : {A B : Type 0} (first : List Item → Read A) (then : A → List Item → Read B) → Reads first → ((x : A) → Reads (then x)) → Reads (behind first then)
bind {A} {B} first then a b =
    record {
      fresh =
          let f = a.fresh in
          let g = (b f.value).fresh in
          record {
            pieces = f.pieces ++ g.pieces;
            value = g.value;
            reads = λ later. ap (behind first then) (toks-append f.pieces g.pieces later) ∙ goes_on first then (toks f.pieces (toks g.pieces later)) (toks g.pieces later) f.value (f.reads (toks g.pieces later)) ∙ g.reads later;
          };
      takes = λ items y rest h.
          let x = bind_ok (first items) (λ x. then x.0 x.1) (y, rest) h in
          let t = a.takes items x.0.0 x.0.1 x.1 in
          let u = (b x.0.0).takes x.0.1 y rest x.2 in
          record {
            taken = t.taken ++ u.taken;
            whole = t.whole ∙ ap (toks t.taken) u.whole ∙ sym (toks-append t.taken u.taken rest);
            again = λ later. ap (behind first then) (toks-append t.taken u.taken later) ∙ goes_on first then (toks t.taken (toks u.taken later)) (toks u.taken later) x.0.0 (t.again (toks u.taken later)) ∙ u.again later;
          };
      stops = λ items e h. ⊎_elim (first_stops items e) (λ s. second_stops items e s.0 s.1 s.2 s.3) (which first then items e h);
    }
  where
    first_stops : (items : List Item) (e : Refusal) → first items ≡ Err e → Stopped (behind first then) items e
    first_stops items e h =
        let s = a.stops items e h in
        let g = (b s.value).fresh in
        record {
          before = s.before;
          more = s.more ++ g.pieces;
          value = g.value;
          completes = λ later. ap (λ (is : List Item). behind first then (toks s.before is)) (toks-append s.more g.pieces later) ∙ goes_on first then (toks s.before (toks s.more (toks g.pieces later))) (toks g.pieces later) s.value (s.completes (toks g.pieces later)) ∙ g.reads later;
          cause = first_cause first then s.before items e s.cause;
        }

    second_stops : (items : List Item) (e : Refusal) (x : A) (rest : List Item) → first items ≡ Ok (x, rest) → then x rest ≡ Err e → Stopped (behind first then) items e
    second_stops items e x rest h k =
        let t = a.takes items x rest h in
        let s = (b x).stops rest e k in
        record {
          before = t.taken ++ s.before;
          more = s.more;
          value = s.value;
          completes = λ later. ap (behind first then) (toks-append t.taken s.before (toks s.more later)) ∙ goes_on first then (toks t.taken (toks s.before (toks s.more later))) (toks s.before (toks s.more later)) x (t.again (toks s.before (toks s.more later))) ∙ s.completes later;
          cause = second_cause first then items rest x t s.before e s.cause;
        }

pub bind_end : {A B : Type 0} (first : List Item → Read A) (then : A → List Item → Result B Refusal) → Reads first → ((x : A) → Ends (then x)) → Ends (behind first then)
bind_end {A} {B} first then a b =
    record {
      fresh =
          let f = a.fresh in
          let g = (b f.value).fresh in
          record {
            pieces = f.pieces ++ g.pieces;
            value = g.value;
            reads = ap (behind first then) (toks-append f.pieces g.pieces []) ∙ goes_on first then (toks f.pieces (toks g.pieces [])) (toks g.pieces []) f.value (f.reads (toks g.pieces [])) ∙ g.reads;
          };
      stops = λ items e h. ⊎_elim (first_stops items e) (λ s. second_stops items e s.0 s.1 s.2 s.3) (which first then items e h);
    }
  where
    first_stops : (items : List Item) (e : Refusal) → first items ≡ Err e → StoppedEnd (behind first then) items e
    first_stops items e h =
        let s = a.stops items e h in
        let g = (b s.value).fresh in
        record {
          before = s.before;
          more = s.more ++ g.pieces;
          value = g.value;
          completes = ap (λ (is : List Item). behind first then (toks s.before is)) (toks-append s.more g.pieces []) ∙ goes_on first then (toks s.before (toks s.more (toks g.pieces []))) (toks g.pieces []) s.value (s.completes (toks g.pieces [])) ∙ g.reads;
          cause = first_cause first then s.before items e s.cause;
        }

    second_stops : (items : List Item) (e : Refusal) (x : A) (rest : List Item) → first items ≡ Ok (x, rest) → then x rest ≡ Err e → StoppedEnd (behind first then) items e
    second_stops items e x rest h k =
        let t = a.takes items x rest h in
        let s = (b x).stops rest e k in
        record {
          before = t.taken ++ s.before;
          more = s.more;
          value = s.value;
          completes = ap (behind first then) (toks-append t.taken s.before (toks s.more [])) ∙ goes_on first then (toks t.taken (toks s.before (toks s.more []))) (toks s.before (toks s.more [])) x (t.again (toks s.before (toks s.more []))) ∙ s.completes;
          cause = second_cause first then items rest x t s.before e s.cause;
        }

-- ---- one token, and what it leads to

-- behind this token, what follows stopped
front_cause : {B : Type 0} (read then : List Item → Result B Refusal) (p : Piece) → ((later : List Item) → read (tok p ∷ later) ≡ then later) → (before : List Piece) (rest : List Item) (e : Refusal) → Cause then before rest e → Cause read (p ∷ before) (tok p ∷ rest) e
front_cause read then p same before rest refusals.AtEnd c = ap (λ (is : List Item). tok p ∷ is) c
front_cause read then p same before rest (refusals.At s) c =
    ⊎_elim (λ b. inl (b.0, b.1, ap (λ (is : List Item). tok p ∷ is) b.2, b.3))
    (λ t. inr (t.0, t.1, ap (λ (is : List Item). tok p ∷ is) t.2, t.3, λ later. let h = t.4 later in (h.0, same (toks before (tok t.0 ∷ later)) ∙ h.1))) c
front_cause read then p same before rest refusals.Memory c = c

-- a token that is refused at its place
abbrev pub Refuses : {B : Type 0} → Piece → (List Item → Result B Refusal) → Type 0
Refuses p then = (later : List Item) → then later ≡ Err (refusals.At p.span)

-- each token leads to something that reads, or is refused; and this one leads to something
pub token : {B : Type 0} (then : Piece → List Item → Read B) (q : Piece) → Reads (then q) → ((p : Piece) → Reads (then p) ⊎ Refuses p (then p)) → Reads (behind next_of then)
token {B} then q good each =
    record {
      fresh = record { pieces = q ∷ good.fresh.pieces; value = good.fresh.value; reads = good.fresh.reads };
      takes = λ items y rest h.
          let a = after_next items then (y, rest) h in
          ⊎_elim (λ r. took items a.0 a.1 y rest a.2 (r.takes a.1 y rest a.3)) (λ no. absurd (clash (sym a.3 ∙ no a.1))) (each a.0);
      stops = λ items e h. stopped items e h;
    }
  where
    clash : {y : B} {rest : List Item} {s : Span} → said (y, rest) ≡ refused {B = B × List Item} (refusals.At s) → ⊥
    clash e = cc

    took : (items : List Item) (p : Piece) (r : List Item) (y : B) (rest : List Item) → items ≡ tok p ∷ r → Taken (then p) r y rest → Taken (behind next_of then) items y rest
    took items p r y rest is t = record { taken = p ∷ t.taken; whole = is ∙ ap (λ (is : List Item). tok p ∷ is) t.whole; again = t.again }

    -- nothing was taken
    at_once : (items : List Item) (e : Refusal) → Cause (behind next_of then) [] items e → Stopped (behind next_of then) items e
    at_once items e c = record { before = []; more = q ∷ good.fresh.pieces; value = good.fresh.value; completes = good.fresh.reads; cause = c }

    stopped : (items : List Item) (e : Refusal) → behind next_of then items ≡ Err e → Stopped (behind next_of then) items e
    stopped [] e h = subst (Stopped (behind next_of then) []) (err_same {B = B × List Item} refusals.AtEnd e h) (at_once [] refusals.AtEnd refl)
    stopped (bad f ∷ rest) e h = subst (Stopped (behind next_of then) (bad f ∷ rest)) (err_same {B = B × List Item} (refusals.At (byte_place f)) e h) (at_once (bad f ∷ rest) (refusals.At (byte_place f)) (inl (f, rest, refl, refl)))
    stopped (tok p ∷ rest) e h =
        ⊎_elim
        (λ r.
        let s = r.stops rest e h in
        record { before = p ∷ s.before; more = s.more; value = s.value; completes = s.completes; cause = front_cause (behind next_of then) (then p) p (λ later. refl) s.before rest e s.cause })
        (λ no. subst (Stopped (behind next_of then) (tok p ∷ rest)) (err_same {B = B × List Item} (refusals.At p.span) e (sym (no rest) ∙ h)) (at_once (tok p ∷ rest) (refusals.At p.span) (inr (p, rest, refl, refl, λ later. (refusals.At p.span, no later)))))
        (each p)

pub token_end : {B : Type 0} (then : Piece → List Item → Result B Refusal) (q : Piece) → Ends (then q) → ((p : Piece) → Ends (then p) ⊎ Refuses p (then p)) → Ends (behind next_of then)
token_end {B} then q good each =
    record {
      fresh = record { pieces = q ∷ good.fresh.pieces; value = good.fresh.value; reads = good.fresh.reads };
      stops = λ items e h. stopped items e h;
    }
  where
    at_once : (items : List Item) (e : Refusal) → Cause (behind next_of then) [] items e → StoppedEnd (behind next_of then) items e
    at_once items e c = record { before = []; more = q ∷ good.fresh.pieces; value = good.fresh.value; completes = good.fresh.reads; cause = c }

    stopped : (items : List Item) (e : Refusal) → behind next_of then items ≡ Err e → StoppedEnd (behind next_of then) items e
    stopped [] e h = subst (StoppedEnd (behind next_of then) []) (err_same {B = B} refusals.AtEnd e h) (at_once [] refusals.AtEnd refl)
    stopped (bad f ∷ rest) e h = subst (StoppedEnd (behind next_of then) (bad f ∷ rest)) (err_same {B = B} (refusals.At (byte_place f)) e h) (at_once (bad f ∷ rest) (refusals.At (byte_place f)) (inl (f, rest, refl, refl)))
    stopped (tok p ∷ rest) e h =
        ⊎_elim
        (λ r.
        let s = r.stops rest e h in
        record { before = p ∷ s.before; more = s.more; value = s.value; completes = s.completes; cause = front_cause (behind next_of then) (then p) p (λ later. refl) s.before rest e s.cause })
        (λ no. subst (StoppedEnd (behind next_of then) (tok p ∷ rest)) (err_same {B = B} (refusals.At p.span) e (sym (no rest) ∙ h)) (at_once (tok p ∷ rest) (refusals.At p.span) (inr (p, rest, refl, refl, λ later. (refusals.At p.span, no later)))))
        (each p)

-- a token that may be wanting
pub maybe_end : {B : Type 0} (read : List Item → Result B Refusal) (none : B) (then : Piece → List Item → Result B Refusal)
    → read [] ≡ Ok none → ((f : LexFault) (rest : List Item) → read (bad f ∷ rest) ≡ Err (refusals.At (byte_place f))) → ((p : Piece) (rest : List Item) → read (tok p ∷ rest) ≡ then p rest)
    → ((p : Piece) → Ends (then p) ⊎ Refuses p (then p)) → Ends read
maybe_end {B} read none then at_end at_bad at_tok each =
    record {
      fresh = record { pieces = []; value = none; reads = at_end };
      stops = λ items e h. stopped items e h;
    }
  where
    clash : (x : B) (e : Refusal) → said x ≡ refused {B = B} e → ⊥
    clash x e h = cc

    at_once : (items : List Item) (e : Refusal) → Cause read [] items e → StoppedEnd read items e
    at_once items e c = record { before = []; more = []; value = none; completes = at_end; cause = c }

    stopped : (items : List Item) (e : Refusal) → read items ≡ Err e → StoppedEnd read items e
    stopped [] e h = absurd (clash none e (sym at_end ∙ h))
    stopped (bad f ∷ rest) e h = subst (StoppedEnd read (bad f ∷ rest)) (err_same {B = B} (refusals.At (byte_place f)) e (sym (at_bad f rest) ∙ h)) (at_once (bad f ∷ rest) (refusals.At (byte_place f)) (inl (f, rest, refl, refl)))
    stopped (tok p ∷ rest) e h =
        ⊎_elim
        (λ r.
        let s = r.stops rest e (sym (at_tok p rest) ∙ h) in
        record { before = p ∷ s.before; more = s.more; value = s.value; completes = at_tok p (toks s.before (toks s.more [])) ∙ s.completes; cause = front_cause read (then p) p (at_tok p) s.before rest e s.cause })
        (λ no. subst (StoppedEnd read (tok p ∷ rest)) (err_same {B = B} (refusals.At p.span) e (sym (no rest) ∙ sym (at_tok p rest) ∙ h)) (at_once (tok p ∷ rest) (refusals.At p.span) (inr (p, rest, refl, refl, λ later. (refusals.At p.span, at_tok p later ∙ no later)))))
        (each p)

-- another value in place of the one that is read
pub map_end : {A B : Type 0} (read : List Item → Result A Refusal) (f : A → B) → Ends read → Ends (λ (items : List Item). read items >>= λ x. Ok (f x))
map_end {A} {B} read f a =
    record {
      fresh = record { pieces = a.fresh.pieces; value = f a.fresh.value; reads = ap mapped a.fresh.reads };
      stops = λ items e h.
          let s = a.stops items e (of_mapped (read items) e h) in
          record { before = s.before; more = s.more; value = f s.value; completes = ap mapped s.completes; cause = mapped_cause s.before items e s.cause };
    }
  where
    mapped : Result A Refusal → Result B Refusal
    mapped r = r >>= λ x. Ok (f x)

    of_mapped : (r : Result A Refusal) (e : Refusal) → mapped r ≡ Err e → r ≡ Err e
    of_mapped (Ok x) e h = absurd cc
    of_mapped (Err d) e h = ap Err (err_same {B = B} d e h)

    mapped_cause : (before : List Piece) (items : List Item) (e : Refusal) → Cause read before items e → Cause (λ (items : List Item). mapped (read items)) before items e
    mapped_cause before items refusals.AtEnd c = c
    mapped_cause before items (refusals.At s) c = ⊎_elim (λ b. inl b) (λ t. inr (t.0, t.1, t.2, t.3, λ later. let h = t.4 later in (h.0, ap mapped h.1))) c
    mapped_cause before items refusals.Memory c = c
