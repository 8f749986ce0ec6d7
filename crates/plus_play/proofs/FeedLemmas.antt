-- A plan that is played as its text comes.
use Rattle.std.proofs.Common.{◌≡◌, ℕ, ◌+◌, ◌<◌, ◌≤◌, Bool, true, false, List, [], ◌∷◌, ◌++◌, length, refl, subst, sym, ap, ◌∙◌, arith, append_assoc, append-nil, length-append, inl, inr, ◌⊎◌}
use Rattle.std.specs.Prelude.{Result, Ok, Err, Option, None, Some, slice_range, OnOk, IfErr}
use Rattle.std.specs.Io.KnownBytes.{append_known}
use Rattle.std.proofs.lemmas.Grind.{common_steps}
use Rattle.plus_plan.specs.declared.forms.Line.{Line}
use Rattle.plus_plan.specs.declared.forms.PlanForm.{PlanForm}
use Rattle.plus_plan.specs.declared.faults.PlanFault.{PlanFault}
use Rattle.plus_plan.specs.declared.faults.PlanFault.TheVariants as faults
use Rattle.plus_plan.specs.Lines.{read_line}
use Rattle.plus_plan.specs.Cut.{line_from, line_end}
use Rattle.plus_plan.specs.Place.{IsFault}
use Rattle.plus_plan.specs.Answers.{RefusedAs}
use Rattle.plus_plan.specs.Spells.{line_limit}
use Rattle.plus_plan.specs.Pending.{Pending}
use Rattle.plus_plan.specs.Pieces.{AtLine, MayFollow, lines_with, IsIdle, IsNext, IsRefusedNext, fed, at_end as closing, without_line}
use Rattle.plus_plan.specs.Given.{HasGiven}
use Rattle.plus_plan.proofs.Cuttings.{given_fed, given_closed, given_line, given_all, goes_on_with}
use Rattle.plus_io.specs.Limits.{text_limit}
use Rattle.plus_io.specs.Taken.{Took}
use Rattle.plus_io.proofs.Pieces.{append_known-append}
use Rattle.plus_play.specs.Cut.{text_lines}
use Rattle.plus_play.specs.Rules.{Rules, TellsMore, on_line, no_line, at_end, Goes, Finishes, StopsAt, BeginsWith, GoesOver, Stands}
use Rattle.plus_play.specs.Feeding.{IsFed, IsReadOf, HaltsOn, Feeds, HaltsFeeding, EndsFeeding, HaltsEnding}
use Rattle.plus_play.proofs.Fronts.{Begins, next_whole, next_ended, long_whole, begins_with, cut_off}

-- a line that is due ends where a line ends, unless the text has ended
text_at_line : (form : PlanForm) (text : List ℕ) (lines : List Line) (r : Pending) → HasGiven form text lines r → r.closed ≡ false → AtLine r.rest → AtLine text
text_at_line form text lines r g o (inl e) =
    subst AtLine (sym (g.is ∙ ap (λ z. g.given ++ z) e ∙ append-nil g.given)) (g.at_line o)
text_at_line form text lines r g o (inr (front, e)) =
    inr (g.given ++ front, g.is ∙ ap (λ z. g.given ++ z) e ∙ sym (append_assoc g.given front (10 ∷ [])))

may_follow : (r : Pending) (more : List ℕ) → r.closed ≡ false → MayFollow r more
may_follow r more o c = absurd (let e : true ≡ false = sym c ∙ o in cc e)

by_end : (b : Bool) → (b ≡ true) ⊎ (b ≡ false)
by_end true = inl refl
by_end false = inr refl

-- what is next begins what is left of the bytes, whatever they are
next_begins :
    (form : PlanForm) (text : List ℕ) (lines : List Line) (r : Pending) (line : Line) → HasGiven form text lines r → IsNext r line
    → (bytes : List ℕ) → IsReadOf bytes text r.closed → Begins form (text_lines form bytes) lines (Ok line)
next_begins form text lines r line g n bytes b = elim (by_end r.closed) [
  | inl c ↦ next_ended form text lines r (Ok line) g (goes_on_with form text lines r g) (λ more m. (_, n.first more m)) bytes (b.is ∙ ap (λ z. text ++ z) (b.all c)) b.within
  | inr o ↦ next_whole form text lines r (Ok line) g (goes_on_with form text lines r g) (λ more m. (_, n.first more m)) bytes b.behind b.is b.within
      (text_at_line form text lines r g o (n.ends o)) (λ more. may_follow r more o)
]

-- a line that is longer than a line may be
too_long_is : (form : PlanForm) (n : ℕ) (bytes : List ℕ) (e : PlanFault) → line_limit < length bytes → IsFault form n bytes e → (e ≡ faults.LineTooLong n) ⊎ (e ≡ faults.Memory)
too_long_is form n bytes (faults.NotLine m start last) h w = absurd (let k : length bytes ≤ line_limit = w.1 in omega arith)
too_long_is form n bytes (faults.LineTooLong m) h w = inl (ap faults.LineTooLong w.0)
too_long_is form n bytes faults.Memory h w = inr refl

whole_line : (rest : List ℕ) → line_end rest 0 ≡ length rest → line_from rest 0 ≡ rest
whole_line rest e = ap (slice_range rest 0) e ∙ take_all_of rest
  where
    take_all_of : (xs : List ℕ) → slice_range xs 0 (length xs) ≡ xs
    take_all_of xs = grind (arith, common_steps)

-- a refusal is no want of memory
abbrev IsFaulty : PlanFault → Type 0
IsFaulty (faults.NotLine n start last) = Unit {0}
IsFaulty (faults.LineTooLong n) = Unit {0}
IsFaulty faults.Memory = ⊥

faulty_read : (e : PlanFault) (read : Result Line PlanFault) → IsFaulty e → RefusedAs e read → read ≡ Err e
faulty_read (faults.NotLine n start last) read f r = r
faulty_read (faults.LineTooLong n) read f r = r
faulty_read faults.Memory read f r = absurd f

refused_begins :
    (form : PlanForm) (text : List ℕ) (lines : List Line) (r : Pending) (e : PlanFault) → HasGiven form text lines r → IsFaulty e → IsRefusedNext r e
    → (bytes : List ℕ) → IsReadOf bytes text r.closed → Begins form (text_lines form bytes) lines (Err e)
refused_begins form text lines r e g f n bytes b =
    let first : (more : List ℕ) → MayFollow r more → (behind : List (Result Line PlanFault)) × (lines_with r more ≡ Err e ∷ behind) =
    λ more m. ((n.first more m).0, (n.first more m).1 ∙ ap (λ x. x ∷ (n.first more m).0) (faulty_read e (read_line r.form r.number (line_from r.rest 0)) f n.read)) in
    elim (by_end r.closed) [
      | inl c ↦ next_ended form text lines r (Err e) g (goes_on_with form text lines r g) first bytes (b.is ∙ ap (λ z. text ++ z) (b.all c)) b.within
      | inr o ↦ elim (n.ends o) [
        | inl at ↦ next_whole form text lines r (Err e) g (goes_on_with form text lines r g) first bytes b.behind b.is b.within (text_at_line form text lines r g o at) (λ more. may_follow r more o)
        | inr long ↦ (let same : e ≡ faults.LineTooLong (length lines + 1) = is_long long in
            subst (λ (x : PlanFault). Begins form (text_lines form bytes) lines (Err x)) (sym same)
            (long_whole form text lines r g o long.0 (goes_on_with form text lines r g) (subst (λ (x : PlanFault). (more : List ℕ) → MayFollow r more → (behind : List (Result Line PlanFault)) × (lines_with r more ≡ Err x ∷ behind)) same first) bytes b.behind b.is b.within long.1))
      ]
    ]
  where
    is_long : (line_end r.rest 0 ≡ length r.rest) × (line_limit < length r.rest) → e ≡ faults.LineTooLong (length lines + 1)
    is_long long =
        let many : line_limit < length (line_from r.rest 0) = subst (λ (xs : List ℕ). line_limit < length xs) (sym (whole_line r.rest long.0)) long.1 in
        elim (too_long_is form r.number (line_from r.rest 0) e many (subst (λ form. IsFault form r.number (line_from r.rest 0) e) g.form_is n.why)) [
          | inl is ↦ is ∙ ap faults.LineTooLong g.number_is
          | inr m ↦ absurd (subst IsFaulty m f)
        ]

-- memory is wanting where a line is due
memory_begins : (form : PlanForm) (text : List ℕ) (lines : List Line) (r : Pending) (e : PlanFault) → HasGiven form text lines r → IsRefusedNext r e → (bytes : List ℕ) → IsReadOf bytes text r.closed → BeginsWith form bytes lines
memory_begins form text lines r e g n bytes b =
    let next = read_line r.form r.number (line_from r.rest 0) in
    elim (by_end r.closed) [
      | inl c ↦ some_next next (next_ended form text lines r next g (goes_on_with form text lines r g) n.first bytes (b.is ∙ ap (λ z. text ++ z) (b.all c)) b.within)
      | inr o ↦ elim (n.ends o) [
        | inl at ↦ some_next next (next_whole form text lines r next g (goes_on_with form text lines r g) n.first bytes b.behind b.is b.within (text_at_line form text lines r g o at) (λ more. may_follow r more o))
        | inr long ↦ begins_with form text lines r g o long.0 (goes_on_with form text lines r g) bytes b.behind b.is b.within
      ]
    ]
  where
    some_next : (next : Result Line PlanFault) → Begins form (text_lines form bytes) lines next → BeginsWith form bytes lines
    some_next next (behind, is) = (next ∷ behind, is)

-- ---- what is told

took_none : (old : Option (List ℕ)) → Took old old []
took_none None = refl
took_none (Some bytes) = ap Some (sym (append-nil bytes))

module _ {S O T : Type 0} (R : Rules S O T) where
  -- nothing more
  pub tells_none : (x : O) → TellsMore R x x
  tells_none x = ([], took_none (R.told x))

  -- and then more
  pub tells_both : (x y z : O) → TellsMore R x y → TellsMore R y z → TellsMore R x z
  tells_both x y z (a, e) (b, f) = (a ++ b, f ∙ ap (λ t. append_known t b) e ∙ append_known-append (R.told x) a b)

-- ---- one line of the text

module _ {S O T : Type 0} (R : Rules S O T) where
  -- one is played
  pub fed_line : (r s : Pending) (a b : S) (x y : O) (line : Line) → IsNext r line → s ≡ without_line r → Goes R (line ∷ []) a x b y → Feeds R [] r a x s b y
  fed_line r s a b x y line n e g = record {
    fed = λ form text first start h w.
        let short : length text ≤ text_limit = subst (λ (t : List ℕ). length t ≤ text_limit) (append-nil text) w in
        let few : length text < 4294967294 = omega arith in
        let given = given_line form text h.lines r line h.given few n in
        record {
          lines = h.lines ++ line ∷ [];
          given = subst (λ (q : Pending). HasGiven form (text ++ []) (h.lines ++ line ∷ []) q) (sym e) (subst (λ t. HasGiven form t (h.lines ++ line ∷ []) (without_line r)) (sym (append-nil text)) given);
          no_fault = ap (λ (q : Pending). q.fault) e ∙ h.no_fault;
          played = g first start h.lines h.played;
        };
  }

  -- one stops it
  pub halts_line : (r : Pending) (a b : S) (x y : O) (line : Line) (stop : T) → IsNext r line → StopsAt R (on_line line) a x b y stop → HaltsFeeding R [] r a x b y stop
  halts_line r a b x y line stop n g = record {
    halts = λ form text first start h w. record {
      lines = h.lines;
      why = on_line line;
      stops = g first start h.lines h.played;
      stands = λ bytes u. next_begins form text h.lines r line h.given n bytes (subst (λ t. IsReadOf bytes t r.closed) (append-nil text) u);
    };
  }

  -- one is none
  bad_stands : (form : PlanForm) (text : List ℕ) (lines : List Line) (r : Pending) (e : PlanFault) → HasGiven form text lines r → IsRefusedNext r e → (bytes : List ℕ) → IsReadOf bytes text r.closed → Stands form bytes lines (no_line e)
  bad_stands form text lines r (faults.NotLine n start last) g f bytes b = refused_begins form text lines r (faults.NotLine n start last) g tt f bytes b
  bad_stands form text lines r (faults.LineTooLong n) g f bytes b = refused_begins form text lines r (faults.LineTooLong n) g tt f bytes b
  bad_stands form text lines r faults.Memory g f bytes b = memory_begins form text lines r faults.Memory g f bytes b

  pub halts_fault : (r : Pending) (a : S) (x : O) (e : PlanFault) (stop : T) → (r.fault ≡ None → IsRefusedNext r e) → StopsAt R (no_line e) a x a x stop → HaltsFeeding R [] r a x a x stop
  halts_fault r a x e stop n g = record {
    halts = λ form text first start h w. record {
      lines = h.lines;
      why = no_line e;
      stops = g first start h.lines h.played;
      stands = λ bytes u. bad_stands form text h.lines r e h.given (n h.no_fault) bytes (subst (λ t. IsReadOf bytes t r.closed) (append-nil text) u);
    };
  }

  -- ---- pieces

  -- a piece is taken
  pub fed_taken : (r s : Pending) (a : S) (x : O) (piece : List ℕ) → r.closed ≡ false → s ≡ fed r piece → Feeds R piece r a x s a x
  fed_taken r s a x piece o e = record {
    fed = λ form text first start h w. record {
      lines = h.lines;
      given = subst (λ (q : Pending). HasGiven form (text ++ piece) h.lines q) (sym e) (given_fed form text piece h.lines r h.given o);
      no_fault = ap (λ (q : Pending). q.fault) e ∙ h.no_fault;
      played = h.played;
    };
  }

  shorter : (text a b : List ℕ) → length (text ++ (a ++ b)) ≤ text_limit → length (text ++ a) ≤ text_limit
  shorter text a b w = omega (arith, length-append text (a ++ b), length-append a b, length-append text a)

  -- one piece and then another
  pub feeds_then : (p q : List ℕ) (r s t : Pending) (a b c : S) (x y z : O) → Feeds R p r a x s b y → Feeds R q s b y t c z → Feeds R (p ++ q) r a x t c z
  feeds_then p q r s t a b c x y z f g = record {
    fed = λ form text first start h w.
        subst (λ u. IsFed R form u first start t c z) (append_assoc text p q)
        (g.fed form (text ++ p) first start (f.fed form text first start h (shorter text p q w)) (subst (λ (u : List ℕ). length u ≤ text_limit) (sym (append_assoc text p q)) w));
  }

  pub halts_then : (p q : List ℕ) (r s : Pending) (a b c : S) (x y z : O) (stop : T) → Feeds R p r a x s b y → s.closed ≡ r.closed → HaltsFeeding R q s b y c z stop → HaltsFeeding R (p ++ q) r a x c z stop
  halts_then p q r s a b c x y z stop f e g = record {
    halts = λ form text first start h w.
        let later = g.halts form (text ++ p) first start (f.fed form text first start h (shorter text p q w)) (subst (λ (u : List ℕ). length u ≤ text_limit) (sym (append_assoc text p q)) w) in
        subst (λ u. HaltsOn R form u r.closed first start c z stop) (append_assoc text p q)
        (subst (λ k. HaltsOn R form ((text ++ p) ++ q) k first start c z stop) e later);
  }

  -- what stops in a front of a piece stops in the piece
  pub halts_sooner : (front behind : List ℕ) (r : Pending) (a b : S) (x y : O) (stop : T) → r.closed ≡ false → HaltsFeeding R front r a x b y stop → HaltsFeeding R (front ++ behind) r a x b y stop
  halts_sooner front behind r a b x y stop o g = record {
    halts = λ form text first start h w.
        let on = g.halts form text first start h (shorter text front behind w) in
        record {
          lines = on.lines;
          why = on.why;
          stops = on.stops;
          stands = λ bytes u. on.stands bytes (record {
            behind = behind ++ u.behind;
            is = u.is ∙ ap (λ t. t ++ u.behind) (sym (append_assoc text front behind)) ∙ append_assoc (text ++ front) behind u.behind;
            within = shorter text front behind w;
            all = λ c. absurd (let e : true ≡ false = sym c ∙ o in cc e);
          });
        };
  }

  -- one more piece of a piece
  pub taken_fed : (p part whole : List ℕ) (r s t u : Pending) (a b c : S) (x y z : O) → Feeds R p r a x s b y → s.closed ≡ false → t ≡ fed s part → whole ≡ p ++ part → Feeds R [] t b y u c z → Feeds R whole r a x u c z
  taken_fed p part whole r s t u a b c x y z f o e is g =
      subst (λ (w : List ℕ). Feeds R w r a x u c z) (ap (λ v. p ++ v) (append-nil part) ∙ sym is)
      (feeds_then p (part ++ []) r s u a b c x y z f (feeds_then part [] s t u b b c y y z (fed_taken s t b y part o e) g))

  pub taken_halts : (p part behind whole : List ℕ) (r s t : Pending) (a b c : S) (x y z : O) (stop : T) → Feeds R p r a x s b y → r.closed ≡ false → s.closed ≡ false → t ≡ fed s part → whole ≡ (p ++ part) ++ behind
      → HaltsFeeding R [] t b y c z stop → HaltsFeeding R whole r a x c z stop
  taken_halts p part behind whole r s t a b c x y z stop f k o e is g =
      subst (λ (w : List ℕ). HaltsFeeding R w r a x c z stop) (sym is)
      (halts_sooner (p ++ part) behind r a c x z stop k
      (subst (λ (w : List ℕ). HaltsFeeding R w r a x c z stop) (ap (λ v. p ++ v) (append-nil part))
      (halts_then p (part ++ []) r s a b c x y z stop f (o ∙ sym k)
      (halts_then part [] s t b b c y y z stop (fed_taken s t b y part o e) (ap (λ (q : Pending). q.closed) e) g))))

  -- ---- the end of the text

  pub fed_closed : (r s : Pending) (a : S) (x : O) → r.closed ≡ false → s ≡ closing r → Feeds R [] r a x s a x
  fed_closed r s a x o e = record {
    fed = λ form text first start h w. record {
      lines = h.lines;
      given = subst (λ (q : Pending). HasGiven form (text ++ []) h.lines q) (sym e) (subst (λ t. HasGiven form t h.lines (closing r)) (sym (append-nil text)) (given_closed form text h.lines r h.given o));
      no_fault = ap (λ (q : Pending). q.fault) e ∙ h.no_fault;
      played = h.played;
    };
  }

  both_fed : (r s t : Pending) (a b c : S) (x y z : O) → Feeds R [] r a x s b y → Feeds R [] s b y t c z → (form : PlanForm) (text : List ℕ) (first : S) (start : O) → IsFed R form text first start r a x → length text ≤ text_limit → IsFed R form text first start t c z
  both_fed r s t a b c x y z f g form text first start h w =
      subst (λ (u : List ℕ). IsFed R form u first start t c z) (append-nil text)
      ((feeds_then [] [] r s t a b c x y z f g).fed form text first start h (subst (λ (u : List ℕ). length u ≤ text_limit) (sym (append-nil text)) w))

  -- the text has ended
  pub ends_so : (r s t : Pending) (a b c : S) (x y z : O) → Feeds R [] r a x s a x → Feeds R [] s a x t b y → t.closed ≡ true → IsIdle t → Finishes R b y c z → EndsFeeding R r a x c z
  ends_so r s t a b c x y z f g k i n = record {
    ends = λ form text first start h w.
        let all = both_fed r s t a a b x x y f g form text first start h w in
        record { lines = all.lines; ended = n first start all.lines all.played; all = record { within = w; read = given_all form text all.lines t all.given k i } };
  }

  pub ends_halts : (r s t : Pending) (a b c : S) (x y z : O) (stop : T) → Feeds R [] r a x s a x → Feeds R [] s a x t b y → t.closed ≡ true → IsIdle t → StopsAt R at_end b y c z stop → HaltsEnding R r a x c z stop
  ends_halts r s t a b c x y z stop f g k i n = record {
    halts = λ form text first start h w.
        let all = both_fed r s t a a b x x y f g form text first start h w in
        record { lines = all.lines; why = at_end; stops = n first start all.lines all.played; stands = record { within = w; read = given_all form text all.lines t all.given k i } };
  }

  pub line_at_end : (r s : Pending) (a c : S) (x z : O) (stop : T) → Feeds R [] r a x s a x → HaltsFeeding R [] s a x c z stop → HaltsEnding R r a x c z stop
  line_at_end r s a c x z stop f g = record {
    halts = λ form text first start h w.
        let w' : length (text ++ []) ≤ text_limit = subst (λ (t : List ℕ). length t ≤ text_limit) (sym (append-nil text)) w in
        let w'' : length ((text ++ []) ++ []) ≤ text_limit = subst (λ (t : List ℕ). length t ≤ text_limit) (sym (append-nil (text ++ []))) w' in
        let e : (text ++ []) ++ [] ≡ text = append-nil (text ++ []) ∙ append-nil text in
        let on = g.halts form (text ++ []) first start (f.fed form text first start h w') w'' in
        record {
          lines = on.lines;
          why = on.why;
          stops = on.stops;
          stands = on.stands text (record { behind = []; is = sym e ∙ sym (append-nil ((text ++ []) ++ [])); within = w''; all = λ c. refl });
        };
  }

-- the text goes on behind its limit
pub goes_over : (form : PlanForm) (text behind bytes : List ℕ) (lines : List Line) (r : Pending) → HasGiven form text lines r → r.closed ≡ false → IsIdle r
    → length text ≡ text_limit → 0 < length behind → bytes ≡ text ++ behind → GoesOver form bytes lines
goes_over form text behind bytes lines r g o i full some is = record {
  over = subst (λ (b : List ℕ). text_limit < length b) (sym is) (omega (arith, length-append text behind));
  read = cut_off form text lines r g o i.no_lf bytes behind is full some i.short;
}

-- ---- what calls tell

pub on_one : {T E A B : Type 0} (r : Result T E) → (A → B) → OnOk r A → OnOk r B
on_one (Ok x) f a = f a
on_one (Err e) f a = tt

pub err_map : {T E : Type 0} (r : Result T E) (P Q : E → Type 0) → ((e : E) → P e → Q e) → IfErr r P → IfErr r Q
err_map (Ok x) P Q f h = tt
err_map (Err e) P Q f h = f e h
