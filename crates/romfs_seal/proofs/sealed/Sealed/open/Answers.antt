use Rattle.std.proofs.Common.{◌≡◌, ◌∙◌, ap, subst, sym, inr, false, IsTrue, ◌<◌, ◌^◌, arith, rules}
use Rattle.devices.specs.Tree.{AreBytes, HasLevels}
use Rattle.devices.specs.File.{blocks_of}
use Rattle.devices.specs.Seal.{lowest_place, MayBeKept, IsTop}
use Rattle.romfs_seal.proofs.Whole.{kept_other, kept_long}
use Rattle.romfs_seal.proofs.sealed.Sealed.open.Goals as goal

pub returns-then-not-branch-clause-err : goal.returns-then-not-branch-clause-err
returns-then-not-branch-clause-err g c =
    let s = g.F.NamedFiles.seal c.args.files in
    let levels = c.level_count-levels.result in
    let kept = c.in_ok-kept.kept.items in
    let has : HasLevels s.algorithm (blocks_of s.size) levels =
    subst (λ a. HasLevels a (blocks_of s.size) levels) c.algorithm-algorithm.ensures
    (subst (λ k. HasLevels c.algorithm-algorithm.result (blocks_of k) levels) c.size-size.ensures c.level_count-levels.ensures.has) in
    let no : c.in_ok-is_top.field-0 ≡ false = search rules in
    inr (kept_other s (g.met.F.NamedFiles.sized c.args.files) levels kept has c.in_ok-kept.ensures.ok
    (λ is. c.in_ok-is_top.ensures.not no (subst (IsTop s levels) (sym c.deref.ensures.value) is)))

pub invariant_of-result : goal.invariant_of-result
invariant_of-result g c =
    let s = g.F.NamedFiles.seal c.args.files in
    let sized = g.met.F.NamedFiles.sized c.args.files in
    let levels = c.level_count-levels.result in
    let kept = c.in_ok-kept.kept.items in
    let has : HasLevels s.algorithm (blocks_of s.size) levels =
    subst (λ a. HasLevels a (blocks_of s.size) levels) c.algorithm-algorithm.ensures
    (subst (λ k. HasLevels c.algorithm-algorithm.result (blocks_of k) levels) c.size-size.ensures c.level_count-levels.ensures.has) in
    let may : MayBeKept s levels kept = c.in_ok-kept.ensures.ok in
    let is : IsTrue c.in_ok-is_top.field-0 = search rules in
    let top : IsTop s levels kept = subst (IsTop s levels) c.deref.ensures.value (c.in_ok-is_top.ensures.is is) in
    let told = c.size-size.ensures in
    let below : c.size-size.result < 2 ^ 63 = search rules in
    record {
      opened = record {
        small = omega (arith, below, told);
        sized = sized;
        has_levels = has;
        place = c.lowest_place-lowest.ensures.place
            ∙ ap (λ k. lowest_place c.algorithm-algorithm.result levels (blocks_of k)) c.size-size.ensures
            ∙ ap (λ a. lowest_place a levels (blocks_of s.size)) c.algorithm-algorithm.ensures;
        near = c.lowest_place-lowest.ensures.near;
        long = kept_long s sized levels kept may;
        bytes = subst AreBytes c.deref.ensures.value c.is_top.ensures.bytes;
        described = top;
        right = λ xs u. u.top levels kept has may top;
      };
    }
