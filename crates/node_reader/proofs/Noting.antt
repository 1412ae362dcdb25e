-- Keys that are noted directory by directory, in the order of their numbers.
use Rattle.std.proofs.Common.{◌≡◌, ◌∙◌, sym, refl, subst, ℕ, zero, suc, ◌+◌, ◌≤◌, inl, inr, List, Bool, Option, Some, None, All, arith, length}
use Rattle.std.specs.Prelude.{slice_get, slice_range}
use Rattle.std.specs.Option.{option_and_then}
use Rattle.std.proofs.lemmas.Bool.{cases_lt}
use Rattle.std.proofs.lemmas.Option.{slice_get_within}
use Rattle.layer_names.specs.Noted.{IsNoted, Keeps}
use Rattle.node_reader.specs.declared.node.Node.{Node}
use Rattle.node_reader.specs.declared.directory.Directory.{Directory}
use Rattle.node_reader.specs.Directories.{HeldDirectories}
use Rattle.node_reader.specs.Held.{kept_of, directory_held, AreNotedUpTo}

-- a directory that is held has a number within those of the nodes
pub number_within : (held : List Node) (directories : HeldDirectories) (n : ℕ) (d : Directory)
    → directory_held held directories n ≡ Some d → n ≤ length held
number_within held directories zero d e = omega arith
number_within held directories (suc k) d e = go (slice_get held k) refl e
  where
    go : (o : Option Node) → slice_get held k ≡ o → option_and_then (kept_of directories) o ≡ Some d → suc k ≤ length held
    go None f g = absurd (cc)
    go (Some node) f g = let l = slice_get_within held k node f in omega arith

module _ (held : List Node) (directories : HeldDirectories) where
  -- no directory has the number 0
  pub none_noted : (filter : List Bool) → AreNotedUpTo held directories filter 0
  none_noted filter = record {
    each = λ n d l e. absurd (let z : n ≡ 0 = omega arith in let f : directory_held held directories 0 ≡ Some d =
        subst (λ (m : ℕ). directory_held held directories m ≡ Some d) z e in cc);
  }

  -- the keys of one directory more are noted
  pub one_more : (old new : List Bool) (at : ℕ) (d : Directory) → AreNotedUpTo held directories old at → Keeps old new
      → directory_held held directories (at + 1) ≡ Some d
      → All (IsNoted new (at + 1)) (slice_range directories.keys d.rows_start d.rows_end)
      → AreNotedUpTo held directories new (at + 1)
  one_more old new at d noted keeps is now = record { each = go }
    where
      go : (n : ℕ) (e : Directory) → n ≤ at + 1 → directory_held held directories n ≡ Some e
          → All (IsNoted new n) (slice_range directories.keys e.rows_start e.rows_end)
      go n e l f = elim (cases_lt n (at + 1)) [
        | inl b ↦ λ k x m. keeps.each n _ (noted.each n e (omega arith) f k x m)
        | inr b ↦
            let z : n ≡ at + 1 = omega arith in
            let same : Some d ≡ Some e = sym is ∙ subst (λ (m : ℕ). directory_held held directories m ≡ Some e) z f in
            let it : d ≡ e = cc in
            subst (λ (m : ℕ). All (IsNoted new m) (slice_range directories.keys e.rows_start e.rows_end)) (sym z)
            (subst (λ (x : Directory). All (IsNoted new (at + 1)) (slice_range directories.keys x.rows_start x.rows_end)) it now)
      ]

  -- what is no directory has no keys
  pub no_more : (filter : List Bool) (at : ℕ) → AreNotedUpTo held directories filter at
      → directory_held held directories (at + 1) ≡ None → AreNotedUpTo held directories filter (at + 1)
  no_more filter at noted is = record {
    each = λ n e l f. elim (cases_lt n (at + 1)) [
      | inl b ↦ noted.each n e (omega arith) f
      | inr b ↦ absurd (
          let z : n ≡ at + 1 = omega arith in
          let same : None ≡ Some e = sym is ∙ subst (λ (m : ℕ). directory_held held directories m ≡ Some e) z f in cc)
    ];
  }
