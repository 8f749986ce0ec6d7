use Rattle.std.proofs.Common.{arith, inr, refl, ◌≡◌, ◌≤◌, ◌++◌, length, take, ◌∙◌, ap, length-append, Ok}
use Rattle.std.proofs.lemmas.List.{length-take-le, length-take}
use Rattle.plus_io.specs.Picks.{with_pick, taken}
use Rattle.plus_io.proofs.Pieces.{OnErr-always, empty_prefix, too_long, cut_prefix, at_most_one_over, once_over, told_more, Takes-append, kept_prefix, KeepsFiles-trans}
use Rattle.plus_io.proofs.shelf.read_all.Goals as goal

pub returns-in_err-pick-clause-prefix : goal.returns-in_err-pick-clause-prefix
returns-in_err-pick-clause-prefix g c = OnErr-always _ (empty_prefix _ _ (omega arith))

pub returns-in_err-extend_from_slice-clause-taken : goal.returns-in_err-extend_from_slice-clause-taken
returns-in_err-extend_from_slice-clause-taken g c =
    let fits : c.in_ok-count.count ≤ length c.read.new.into = c.in_ok-count.ensures.fits in
    inr (at_most_one_over _ _ _ _ _ _ _ c.loop-count.invariant.front c.in_ok-count.ensures.piece fits (omega (arith, simp length-take at c.read.auto.into, c.min.ensures)))

pub returns-in_err-extend_from_slice-clause-prefix : goal.returns-in_err-extend_from_slice-clause-prefix
returns-in_err-extend_from_slice-clause-prefix g c =
    kept_prefix _ _ _ _ _ c.loop-count.invariant.front c.in_err-extend_from_slice.ensures.items

pub returns-in_err-extend_from_slice-2-clause-prefix : goal.returns-in_err-extend_from_slice-2-clause-prefix
returns-in_err-extend_from_slice-2-clause-prefix g c =
    kept_prefix _ _ _ _ _ c.loop-count.invariant.front c.in_err-extend_from_slice-2.ensures.items

pub returns-then-count-room-clause-too_long : goal.returns-then-count-room-clause-too_long
returns-then-count-room-clause-too_long g c _ =
    let fits : c.in_ok-count.count ≤ length c.read.new.into = c.in_ok-count.ensures.fits in
    let e = c.in_ok-extend_from_slice.ensures.items in
    rw e (too_long _ _ _ _ _ _ _ _ c.loop-count.invariant.front c.in_ok-count.ensures.piece (omega arith) (omega arith) fits)

pub returns-then-count-room-clause-prefix : goal.returns-then-count-room-clause-prefix
returns-then-count-room-clause-prefix g c = cut_prefix _ _ _ (returns-then-count-room-clause-too_long g c refl)

pub returns-then-count-room-clause-taken : goal.returns-then-count-room-clause-taken
returns-then-count-room-clause-taken g c =
    let fits : c.in_ok-count.count ≤ length c.read.new.into = c.in_ok-count.ensures.fits in
    inr (at_most_one_over _ _ _ _ _ _ _ c.loop-count.invariant.front c.in_ok-count.ensures.piece fits (omega (arith, simp length-take at c.read.auto.into, c.min.ensures)))

pub returns-in_err-extend_from_slice-2-clause-taken : goal.returns-in_err-extend_from_slice-2-clause-taken
returns-in_err-extend_from_slice-2-clause-taken g c =
    let fits : c.in_ok-count.count ≤ length c.read.new.into = c.in_ok-count.ensures.fits in
    inr (at_most_one_over _ _ _ _ _ _ _ c.loop-count.invariant.front c.in_ok-count.ensures.piece fits (omega (arith, simp length-take at c.read.auto.into, c.min.ensures)))

pub returns-in_err-extend_from_slice-clause-reads : goal.returns-in_err-extend_from_slice-clause-reads
returns-in_err-extend_from_slice-clause-reads g c =
    let fits : c.in_ok-count.count ≤ length c.read.new.into = c.in_ok-count.ensures.fits in
    taken
    (once_over _ _ _ _ _ _ _ c.loop-count.invariant.told c.in_ok-count.ensures.told (omega (arith, c.in_ok-count.ensures.fits, simp length-take at c.read.auto.into, c.min.ensures)))
    (at_most_one_over _ _ _ _ _ _ _ c.loop-count.invariant.front c.in_ok-count.ensures.piece fits (omega (arith, simp length-take at c.read.auto.into, c.min.ensures)))

pub returns-then-count-room-clause-reads : goal.returns-then-count-room-clause-reads
returns-then-count-room-clause-reads g c =
    let fits : c.in_ok-count.count ≤ length c.read.new.into = c.in_ok-count.ensures.fits in
    taken
    (once_over _ _ _ _ _ _ _ c.loop-count.invariant.told c.in_ok-count.ensures.told (omega (arith, c.in_ok-count.ensures.fits, simp length-take at c.read.auto.into, c.min.ensures)))
    (at_most_one_over _ _ _ _ _ _ _ c.loop-count.invariant.front c.in_ok-count.ensures.piece fits (omega (arith, simp length-take at c.read.auto.into, c.min.ensures)))

pub returns-in_err-extend_from_slice-2-clause-reads : goal.returns-in_err-extend_from_slice-2-clause-reads
returns-in_err-extend_from_slice-2-clause-reads g c =
    let fits : c.in_ok-count.count ≤ length c.read.new.into = c.in_ok-count.ensures.fits in
    taken
    (once_over _ _ _ _ _ _ _ c.loop-count.invariant.told c.in_ok-count.ensures.told (omega (arith, c.in_ok-count.ensures.fits, simp length-take at c.read.auto.into, c.min.ensures)))
    (at_most_one_over _ _ _ _ _ _ _ c.loop-count.invariant.front c.in_ok-count.ensures.piece fits (omega (arith, simp length-take at c.read.auto.into, c.min.ensures)))

pub loop-count-preserved : goal.loop-count-preserved
loop-count-preserved g c =
    let fits : c.in_ok-count.count ≤ length c.read.new.into = c.in_ok-count.ensures.fits in
    let grown : c.extend_from_slice-in-loop-count.new.self.items ≡ c.loop-count.into.items ++ take c.in_ok-count.count c.read.new.into = c.in_ok-extend_from_slice-2.ensures.items in
    record {
      within = omega (arith, ap length grown, length-append c.loop-count.into.items (take c.in_ok-count.count c.read.new.into), length-take-le c.in_ok-count.count c.read.new.into fits);
      picked = λ listed. c.read.ensures.picked ∙ c.loop-count.invariant.picked listed;
      front = rw grown (Takes-append _ _ _ _ _ c.loop-count.invariant.front c.in_ok-count.ensures.piece);
      told = told_more _ _ _ _ _ _ c.loop-count.invariant.told c.in_ok-count.ensures.told ∙ ap (λ n. with_pick c.args.name.now n (g.S.Shelf.picks c.args.shelf.now)) (omega (arith, ap length grown, length-append c.loop-count.into.items (take c.in_ok-count.count c.read.new.into), length-take-le c.in_ok-count.count c.read.new.into fits));
      outside = λ out. absurd (c.if-count-eq0.false (let e : c.read.result ≡ Ok 0 = (c.read.ensures.nothing (c.loop-count.invariant.outside out).1).0 in let f : c.read.result ≡ Ok c.in_ok-count.count = c.in_ok-count.was in cc));
      keeps = KeepsFiles-trans _ _ _ c.loop-count.invariant.keeps c.read.ensures.keeps;
    }
