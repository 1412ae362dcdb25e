-- What was gathered from a sound image looks like its accessible bytes (looks_alike): its paths lead to the same headers, hard links there
-- to the same ends, and symbolic links have the same targets.
use Rattle.std.proofs.Common.{◌≡◌, ◌∙◌, sym, ap, subst, ℕ, ◌≤◌, inl, inr, List, Bool, length, take, drop, Some, arith}
use Rattle.std.specs.Prelude.{IsSome}
use Rattle.romfs_format.specs.declared.head.Head.{Head}
use Rattle.romfs_format.specs.declared.head.Kind.TheVariants.{SymLink}
use Rattle.romfs_format.specs.declared.limits.TheConstants.{MAX_TARGET_SIZE}
use Rattle.romfs_format.specs.declared.rule.Profile.{Profile}
use Rattle.romfs_format.specs.Fields.{word, image, kind, size, name, data_at}
use Rattle.romfs_format.specs.Chains.{Has}
use Rattle.romfs_format.specs.Heads.{head_of}
use Rattle.romfs_format.specs.Links.{IsFinal}
use Rattle.romfs_format.specs.Rules.{IsSound}
use Rattle.romfs_format.proofs.Faults.{full_size, profile_sound}
use Rattle.romfs_format.proofs.Targets.{short_target, named_target}
use Rattle.romfs_kept.specs.Footprint.{Agrees, IsClosed, is_same, reach}
use Rattle.romfs_kept.specs.Gathered.{IsGatheredOf, IsGatheredWithTrailerOf}
use Rattle.romfs_kept.proofs.Likeness.{same_path, same_end, same_target}
use Rattle.romfs_kept.proofs.Volumes.{image_a, image_b, agrees}
use Rattle.romfs_kept.proofs.WithTrailer.{image_is}
use Rattle.stack_model.specs.Stack.{Path}
use Rattle.serve_core.specs.Kept.{WasGatheredFor}

-- a symbolic link to which a path leads, after hard links, has a name that is ended and a target that is not too long
abbrev pub HasShortTargets : List ℕ → Type 0
HasShortTargets a = (path : Path) (h end : ℕ) → Has a path h → IsFinal a h end → kind a end ≡ SymLink
    → IsSome (name a end) × (size a end ≤ MAX_TARGET_SIZE)

-- paths of both lead to the same headers, and hard links there to the same ends, which have the same fields; and targets are the same,
-- which are short
pub record LooksSame (a xs : List ℕ) : Type 0 where
  pub long : length a ≡ length xs
  pub paths : (path : Path) (h : ℕ) → (Has a path h → Has xs path h × (head_of a h ≡ head_of xs h)) × (Has xs path h → Has a path h)
  pub ends : (path : Path) (h end : ℕ) → Has a path h
      → (IsFinal a h end → IsFinal xs h end × (head_of a end ≡ head_of xs end) × (name a end ≡ name xs end))
      × (IsFinal xs h end → IsFinal a h end)
  pub targets : (path : Path) (h end : ℕ) (n : List ℕ) → Has a path h → IsFinal a h end → kind a end ≡ SymLink
      → size a end ≤ MAX_TARGET_SIZE → name a end ≡ Some n
      → take (size a end) (drop (data_at end n) a) ≡ take (size a end) (drop (data_at end n) xs)
  pub short : HasShortTargets a

pub looks_back : (a xs : List ℕ) → LooksSame a xs → LooksSame xs a
looks_back a xs s = record {
  long = sym s.long;
  paths = λ path h. (
    (λ y. (let x = (s.paths path h).1 y in (x, sym ((s.paths path h).0 x).1))),
    (λ x. ((s.paths path h).0 x).0),
  );
  ends = λ path h end y.
      let e = s.ends path h end ((s.paths path h).1 y) in (
        (λ f. (let g = e.1 f in let t = e.0 g in (g, sym t.1, sym t.2))),
        (λ g. (e.0 g).0),
      );
  targets = λ path h end n y f k l e.
      let x = (s.paths path h).1 y in
      let g = (s.ends path h end x).1 f in
      let t = (s.ends path h end x).0 g in
      let z : size a end ≡ size xs end = ap (λ (d : Head). d.size) t.1 in
      let q = s.targets path h end n x g (ap (λ (d : Head). d.kind) t.1 ∙ k) (let m = l in omega arith) (t.2 ∙ e) in
      subst (λ m. take m (drop (data_at end n) xs) ≡ take m (drop (data_at end n) a)) z (sym q);
  short = λ path h end y f k.
      let x = (s.paths path h).1 y in
      let g = (s.ends path h end x).1 f in
      let t = (s.ends path h end x).0 g in
      let z : size a end ≡ size xs end = ap (λ (d : Head). d.size) t.1 in
      let o = s.short path h end x g (ap (λ (d : Head). d.kind) t.1 ∙ k) in
      let l = o.1 in
      (subst (λ n. IsSome n) t.2 o.0, (let m : size xs end ≤ MAX_TARGET_SIZE = omega arith in m));
}

looks_of : (kept headers : ℕ → Bool) (a xs : List ℕ) → Agrees kept a xs → IsClosed kept headers a → HasShortTargets a → LooksSame a xs
looks_of kept headers a xs g c short = record {
  long = g.long;
  paths = same_path kept headers a xs g c;
  ends = same_end kept headers a xs g c;
  targets = same_target kept headers a xs g c;
  short = short;
}

-- what was gathered from an image that has its full size
module _ (b : List ℕ) (low : 16 ≤ word b 8) (high : word b 8 ≤ length b) (short : HasShortTargets (image b)) where
  gathered_looks : (a : List ℕ) → IsGatheredOf b a → LooksSame (image b) (image a)
  gathered_looks a g =
      let s : LooksSame (take (length a) b) a = looks_of (is_same (take (length a) b) a) g.headers (take (length a) b) a
      (agrees b a g low high) g.closed (subst (λ xs. HasShortTargets xs) (image_b b a g low high) short) in
      subst (λ xs. LooksSame xs (image a)) (sym (image_b b a g low high))
      (subst (λ xs. LooksSame (take (length a) b) xs) (sym (image_a b a g low high)) s)

  with_trailer_looks : (a : List ℕ) → IsGatheredWithTrailerOf b a → LooksSame (image b) (image a)
  with_trailer_looks a g = subst (λ xs. LooksSame (image b) xs) (sym (image_is b a g)) (gathered_looks (take (reach b) a) g.front)

pub looks_alike : (profile : Profile) (b a : List ℕ) → WasGatheredFor profile b a → IsSound profile b → LooksSame (image b) (image a)
looks_alike profile b a g s = elim g [
  | inl t ↦ with_trailer_looks b full.0 full.1 shorts a t
  | inr t ↦ gathered_looks b full.0 full.1 shorts a t.1
]
  where
    full : (16 ≤ word b 8) × (word b 8 ≤ length b)
    full = full_size profile b s

    shorts : HasShortTargets (image b)
    shorts path h end x f k =
        let usual = profile_sound profile b s in (named_target b usual path h end x f k, short_target b usual path h end x f k)
