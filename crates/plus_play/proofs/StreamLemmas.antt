-- A plan that is read from a shelf, and one in memory.
use Rattle.std.proofs.Common.{◌≡◌, ℕ, ◌+◌, ◌<◌, ◌≤◌, true, false, List, [], ◌++◌, length, take, drop, Option, Some, None, refl, subst, sym, ap, ◌∙◌, arith, append_assoc, length-append, length-drop}
use Rattle.std.proofs.lemmas.List.{length-take-le, take-append-drop, take-take}
use Rattle.std.specs.Prelude.{IfSome}
use Rattle.std.specs.Io.KnownBytes.{IsAtEnd}
use Rattle.plus_io.specs.Files.{Takes, TakesAtMost}
use Rattle.plus_io.specs.Limits.{text_limit, piece_size}
use Rattle.plus_io.proofs.Pieces.{Takes-nil, Takes-append, Takes-whole, at_most_one_over}
use Rattle.plus_plan.specs.declared.forms.PlanForm.{PlanForm}
use Rattle.plus_plan.specs.Pending.{Pending}
use Rattle.plus_plan.specs.Pieces.{fresh, IsIdle}
use Rattle.plus_plan.specs.Given.{HasGiven}
use Rattle.plus_plan.proofs.Cuttings.{given_none, goes_on_with}
use Rattle.plus_play.specs.Rules.{Rules, too_long, handing, Hands, StopsAt, BeginsWith, AreAll, Stands, GoesOver, IsPlayed, IsHalted}
use Rattle.plus_play.specs.Feeding.{IsFed, Feeds, HaltsFeeding, EndsFeeding, HaltsEnding, HasCome}
use Rattle.plus_play.proofs.Fronts.{begins_with}
use Rattle.plus_play.proofs.FeedLemmas.{goes_over}

-- no piece is longer than what it was read into
pub piece_few : (count : ℕ) (piece : List ℕ) → count ≤ length piece → length piece ≤ piece_size → length (take count piece) ≤ piece_size
piece_few count piece f l = (let e = length-take-le count piece f in omega arith)

-- ---- nothing has come

fresh_is_idle : (form : PlanForm) → IsIdle (fresh form)
fresh_is_idle form = record { no_fault = refl; no_lf = refl; not_last = λ c. refl; short = omega arith }

pub fresh_idle : (form : PlanForm) (r : Pending) → r ≡ fresh form → IsIdle r
fresh_idle form r e = subst IsIdle (sym e) (fresh_is_idle form)

pub fresh_open : (form : PlanForm) (r : Pending) → r ≡ fresh form → r.closed ≡ false
fresh_open form r e = ap (λ (x : Pending). x.closed) e

pub fresh_so : (form : PlanForm) (r : Pending) → r ≡ fresh form → r ≡ fresh r.form
fresh_so form r e = e ∙ ap fresh (sym (ap (λ (x : Pending). x.form) e))

module _ {S O T : Type 0} (R : Rules S O T) (form : PlanForm) where
  pub fresh_fed : (r : Pending) (a : S) (x : O) → r ≡ fresh form → R.Played a x [] a x → IsFed R form [] a x r a x
  fresh_fed r a x e p = record {
    lines = [];
    given = subst (HasGiven form [] []) (sym e) (given_none form);
    no_fault = ap (λ (q : Pending). q.fault) e;
    played = p;
  }

  pub fresh_come : (bytes rest : Option (List ℕ)) (r : Pending) (a : S) (x : O) → r ≡ fresh form → R.Played a x [] a x → rest ≡ bytes → HasCome R form bytes rest 0 a x r a x
  fresh_come bytes rest r a x e p k = record {
    text = [];
    front = subst (λ q. Takes bytes q []) (sym k) (Takes-nil bytes);
    size = refl;
    fed = fresh_fed r a x e p;
  }

  -- ---- what is told is handed on

  pub handed_on : (bytes rest : Option (List ℕ)) (total : ℕ) (first a b : S) (start x y : O) (r : Pending) → HasCome R form bytes rest total first start r a x → Hands R a x b y → HasCome R form bytes rest total first start r b y
  handed_on bytes rest total first a b start x y r h g = record {
    text = h.text;
    front = h.front;
    size = h.size;
    fed = record { lines = h.fed.lines; given = h.fed.given; no_fault = h.fed.no_fault; played = g first start h.fed.lines h.fed.played };
  }

  -- where bytes are told, so many of which were taken, it holds of them
  of_bytes : (bytes left : Option (List ℕ)) (front : List ℕ) (P : List ℕ → Type 0) → Takes bytes left front → ((behind : List ℕ) → P (front ++ behind)) → IfSome bytes P
  of_bytes bytes None front P e h = subst (λ b. IfSome b P) (sym e) tt
  of_bytes bytes (Some behind) front P e h = subst (λ b. IfSome b P) (sym e) (h behind)

  pub halts_handing : (bytes rest : Option (List ℕ)) (total : ℕ) (first a b : S) (start x y : O) (r : Pending) (stop : T) → HasCome R form bytes rest total first start r a x → total ≤ text_limit → r.closed ≡ false → IsIdle r
      → StopsAt R handing a x b y stop → IsHalted R form bytes first start b y stop
  halts_handing bytes rest total first a b start x y r stop h room o i g =
      let within : length h.text ≤ text_limit = subst (λ n. n ≤ text_limit) (sym h.size) room in
      record {
        lines = h.fed.lines;
        why = handing;
        stops = g first start h.fed.lines h.fed.played;
        stands = of_bytes bytes rest h.text (λ text. BeginsWith form text h.fed.lines) h.front
            (λ behind. begins_with form h.text h.fed.lines r h.fed.given o i.no_lf (goes_on_with form h.text h.fed.lines r h.fed.given) (h.text ++ behind) behind refl within);
      }

  -- the rest did not change
  pub still_come : (bytes rest left : Option (List ℕ)) (total : ℕ) (first a : S) (start x : O) (r : Pending) → left ≡ rest → HasCome R form bytes rest total first start r a x → HasCome R form bytes left total first start r a x
  still_come bytes rest left total first a start x r e h = record { text = h.text; front = subst (λ q. Takes bytes q h.text) (sym e) h.front; size = h.size; fed = h.fed }

  -- ---- more comes

  module _ (bytes rest left : Option (List ℕ)) (total count : ℕ) (first : S) (start : O) (r : Pending) (a : S) (x : O) (piece : List ℕ) (come : HasCome R form bytes rest total first start r a x)
      (next : Takes rest left (take count piece)) (fits : count ≤ length piece) where
    pub most_read : total + count ≤ text_limit + 1 → TakesAtMost (text_limit + 1) bytes left
    most_read m = at_most_one_over bytes rest left come.text piece count text_limit come.front next fits (subst (λ n. n + count ≤ text_limit + 1) (sym come.size) m)

    -- a front of the piece is played
    module _ (within : ℕ) (part : List ℕ) (part_is : part ≡ take within piece) (w : within ≤ count) (room : total + within ≤ text_limit) where
      part_size : length part ≡ within
      part_size = ap length part_is ∙ length-take-le within piece (omega arith)

      text_size : length (come.text ++ part) ≡ total + within
      text_size = length-append come.text part ∙ ap (λ n. n + length part) come.size ∙ ap (λ n. total + n) part_size

      text_within : length (come.text ++ part) ≤ text_limit
      text_within = let e = text_size in omega arith

      front_is : take count piece ≡ part ++ drop within (take count piece)
      front_is = sym (take-append-drop within (take count piece)) ∙ ap (λ z. z ++ drop within (take count piece)) (take-take within count piece w ∙ sym part_is)

      bytes_are : (behind : List ℕ) → (come.text ++ take count piece) ++ behind ≡ (come.text ++ part) ++ (drop within (take count piece) ++ behind)
      bytes_are behind =
          ap (λ z. (come.text ++ z) ++ behind) front_is
          ∙ ap (λ z. z ++ behind) (sym (append_assoc come.text part (drop within (take count piece))))
          ∙ append_assoc (come.text ++ part) (drop within (take count piece)) behind

      taken : Takes bytes left (come.text ++ take count piece)
      taken = Takes-append bytes rest left come.text (take count piece) come.front next

      -- a stop in it
      pub halts_more : (b : S) (y : O) (stop : T) → r.closed ≡ false → HaltsFeeding R part r a x b y stop → IsHalted R form bytes first start b y stop
      halts_more b y stop o h =
          let on = h.halts form come.text first start come.fed text_within in
          record {
            lines = on.lines;
            why = on.why;
            stops = on.stops;
            stands = of_bytes bytes left (come.text ++ take count piece) (λ text. Stands form text on.lines on.why) taken
                (λ behind. on.stands ((come.text ++ take count piece) ++ behind)
                (record { behind = drop within (take count piece) ++ behind; is = bytes_are behind; within = text_within; all = λ c. absurd (let q : true ≡ false = sym c ∙ o in cc q) }));
          }

      -- the text is too long
      pub halts_long : (s : Pending) (b : S) (y : O) (stop : T) → Feeds R part r a x s b y → s.closed ≡ false → IsIdle s → StopsAt R too_long b y b y stop → within < count → total + within ≡ text_limit
          → IsHalted R form bytes first start b y stop
      halts_long s b y stop f o i g more full =
          let h = f.fed form come.text first start come.fed text_within in
          record {
            lines = h.lines;
            why = too_long;
            stops = g first start h.lines h.played;
            stands = of_bytes bytes left (come.text ++ take count piece) (λ text. GoesOver form text h.lines) taken
                (λ behind.
                let some : 0 < length (drop within (take count piece) ++ behind) =
                omega (arith, length-append (drop within (take count piece)) behind, length-drop within (take count piece), length-take-le count piece fits) in
                goes_over form (come.text ++ part) (drop within (take count piece) ++ behind) ((come.text ++ take count piece) ++ behind) h.lines s h.given o i (text_size ∙ full) some (bytes_are behind));
          }

      -- all of the piece is played
      pub has_more : (s : Pending) (b : S) (y : O) → Feeds R part r a x s b y → within ≡ count → HasCome R form bytes left (total + count) first start s b y
      has_more s b y f e = record {
        text = come.text ++ part;
        front = subst (λ z. Takes bytes left (come.text ++ z)) (ap (λ n. take n piece) (sym e) ∙ sym part_is) taken;
        size = text_size ∙ ap (λ n. total + n) e;
        fed = f.fed form come.text first start come.fed text_within;
      }

  -- ---- all has come

  module _ (bytes rest : Option (List ℕ)) (total : ℕ) (first : S) (start : O) (r : Pending) (a : S) (x : O) (come : HasCome R form bytes rest total first start r a x) (end : IsAtEnd rest) (room : total ≤ text_limit) where
    whole : (P : List ℕ → Type 0) → P come.text → IfSome bytes P
    whole P h = at bytes (Takes-whole bytes rest come.text come.front end)
      where
        at : (b : Option (List ℕ)) → IfSome b (λ text. come.text ≡ text) → IfSome b P
        at None e = tt
        at (Some text) e = subst P e h

    size_so : length come.text ≤ text_limit
    size_so = subst (λ n. n ≤ text_limit) (sym come.size) room

    pub plays_all : (b : S) (y : O) → EndsFeeding R r a x b y → IsPlayed R form bytes first start b y
    plays_all b y h =
        let p = h.ends form come.text first start come.fed size_so in
        record { lines = p.lines; ended = p.ended; all = whole (λ text. AreAll form text p.lines) p.all }

    pub halts_ended : (b : S) (y : O) (stop : T) → HaltsEnding R r a x b y stop → IsHalted R form bytes first start b y stop
    halts_ended b y stop h =
        let s = h.halts form come.text first start come.fed size_so in
        record { lines = s.lines; why = s.why; stops = s.stops; stands = whole (λ text. Stands form text s.lines s.why) s.stands }

  -- ---- a text in memory

  module _ (bytes part behind : List ℕ) (is : bytes ≡ part ++ behind) (within : length part ≤ text_limit) (r : Pending) (a : S) (x : O) (begun : IsFed R form [] a x r a x) where
    pub bytes_halt : (b : S) (y : O) (stop : T) → r.closed ≡ false → HaltsFeeding R part r a x b y stop → IsHalted R form (Some bytes) a x b y stop
    bytes_halt b y stop o h =
        let on = h.halts form [] a x begun within in
        record {
          lines = on.lines;
          why = on.why;
          stops = on.stops;
          stands = on.stands bytes (record { behind = behind; is = is; within = within; all = λ c. absurd (let q : true ≡ false = sym c ∙ o in cc q) });
        }

    pub bytes_long : (s : Pending) (b : S) (y : O) (stop : T) → Feeds R part r a x s b y → s.closed ≡ false → IsIdle s → length part ≡ text_limit → 0 < length behind → StopsAt R too_long b y b y stop → IsHalted R form (Some bytes) a x b y stop
    bytes_long s b y stop f o i full some g =
        let h = f.fed form [] a x begun within in
        record { lines = h.lines; why = too_long; stops = g a x h.lines h.played; stands = goes_over form part behind bytes h.lines s h.given o i full some is }

    pub bytes_end : (s : Pending) (b c : S) (y z : O) → Feeds R part r a x s b y → bytes ≡ part → EndsFeeding R s b y c z → IsPlayed R form (Some bytes) a x c z
    bytes_end s b c y z f e g = subst (λ t. IsPlayed R form (Some t) a x c z) (sym e) (g.ends form part a x (f.fed form [] a x begun within) within)

    pub bytes_end_halt : (s : Pending) (b c : S) (y z : O) (stop : T) → Feeds R part r a x s b y → bytes ≡ part → HaltsEnding R s b y c z stop → IsHalted R form (Some bytes) a x c z stop
    bytes_end_halt s b c y z stop f e g = subst (λ t. IsHalted R form (Some t) a x c z stop) (sym e) (g.halts form part a x (f.fed form [] a x begun within) within)
