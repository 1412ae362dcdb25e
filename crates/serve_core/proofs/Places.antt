-- The place of an entry has the same fields in both lists of layers (place_same): its kind, mode, size, device and where its data begin;
-- and a symbolic link has the same target.
use Rattle.std.proofs.Common.{◌≡◌, ◌∙◌, sym, ap, subst, ℕ, ◌+◌, ◌≤◌, List, [], ◌∷◌, length, take, drop, Option, Some, None, refl}
use Rattle.std.specs.Prelude.{slice_index_or, IsSome}
use Rattle.std.proofs.lemmas.List.Sums.{sum_by-cons}
use Rattle.std.specs.Option.{option_map_or}
use Rattle.std.proofs.lemmas.Option.{get_or_from_slice_get}
use Rattle.romfs_format.specs.declared.head.Head.{Head}
use Rattle.romfs_format.specs.declared.head.Kind.TheVariants.{SymLink}
use Rattle.romfs_format.specs.declared.limits.TheConstants.{MAX_TARGET_SIZE}
use Rattle.romfs_format.specs.Fields.{kind, exec, size, spec, name, data_at}
use Rattle.romfs_format.specs.Heads.{head_of}
use Rattle.romfs_format.specs.Links.{IsFinal}
use Rattle.stack_model.specs.Numbers.{Place}
use Rattle.stack_model.specs.Attributes.{layer_of, kind_at, mode, mode_of, size_at, size_of, rdev, rdev_of, data_start, data_of, blocks_all, blocks_of}
use Rattle.serve_core.proofs.Layers.{LookSame, IsPair}

-- what is said of a place is the same
pub record IsSamePlace (xs ys : List (List ℕ)) (p : Place) : Type 0 where
  pub kinds : kind_at xs p ≡ kind_at ys p
  pub modes : mode xs p ≡ mode ys p
  pub sizes : size_at xs p ≡ size_at ys p
  pub devices : rdev xs p ≡ rdev ys p
  pub starts : data_start xs p ≡ data_start ys p
  pub longs : length (layer_of xs p) ≡ length (layer_of ys p)
  pub targets : kind_at xs p ≡ SymLink → data_of xs p ≡ data_of ys p

module _ (xs ys : List (List ℕ)) (i h : ℕ) (q : IsPair xs ys i h) where
  abbrev a : List ℕ
  a = q.a

  abbrev b : List ℕ
  b = q.b

  layer_a : slice_index_or xs i [] ≡ a
  layer_a = get_or_from_slice_get xs i a [] q.a_is

  layer_b : slice_index_or ys i [] ≡ b
  layer_b = get_or_from_slice_get ys i b [] q.b_is

  ends : IsFinal b q.first h × (head_of a h ≡ head_of b h) × (name a h ≡ name b h)
  ends = (q.same.ends q.path q.first h q.has).0 q.final

  abbrev bytes_of : List ℕ → Option (List ℕ) → List ℕ
  bytes_of c o = take (size a h) (drop (option_map_or (data_at h) o 0) c)

  target_same : (o : Option (List ℕ)) → name a h ≡ o → kind a h ≡ SymLink → size a h ≤ MAX_TARGET_SIZE → IsSome (name a h)
      → bytes_of a o ≡ bytes_of b o
  target_same (Some n) e k l m = q.same.targets q.path q.first h n q.has q.final k l e
  target_same None e k l m = absurd (let z : IsSome {T = List ℕ} None = subst (λ o. IsSome o) e m in cc)

  pub place_same : IsSamePlace xs ys (i, h)
  unfolding data_of
  place_same =
      let e = ends.1 in
      let k : kind a h ≡ kind b h = ap (λ (d : Head). d.kind) e in
      let x : exec a h ≡ exec b h = ap (λ (d : Head). d.exec) e in
      let z : size a h ≡ size b h = ap (λ (d : Head). d.size) e in
      let d : spec a h ≡ spec b h = ap (λ (d : Head). d.spec) e in
      let t : option_map_or (data_at h) (name a h) 0 ≡ option_map_or (data_at h) (name b h) 0 =
      ap (λ o. option_map_or (data_at h) o 0) ends.2 in
      let l = q.same.long in
      record {
        kinds = ap (λ c. kind c h) layer_a ∙ k ∙ sym (ap (λ c. kind c h) layer_b);
        modes = ap (λ c. mode_of (kind c h) (exec c h)) layer_a ∙ ap (λ m. mode_of m (exec a h)) k ∙ ap (λ m. mode_of (kind b h) m) x
            ∙ sym (ap (λ c. mode_of (kind c h) (exec c h)) layer_b);
        sizes = ap (λ c. size_of (kind c h) (size c h)) layer_a ∙ ap (λ m. size_of m (size a h)) k ∙ ap (λ m. size_of (kind b h) m) z
            ∙ sym (ap (λ c. size_of (kind c h) (size c h)) layer_b);
        devices = ap (λ c. rdev_of (kind c h) (spec c h)) layer_a ∙ ap (λ m. rdev_of m (spec a h)) k ∙ ap (λ m. rdev_of (kind b h) m) d
            ∙ sym (ap (λ c. rdev_of (kind c h) (spec c h)) layer_b);
        starts = ap (λ c. option_map_or (data_at h) (name c h) 0) layer_a ∙ t
            ∙ sym (ap (λ c. option_map_or (data_at h) (name c h) 0) layer_b);
        longs = ap length layer_a ∙ l ∙ sym (ap length layer_b);
        targets = λ is.
            let ka : kind a h ≡ SymLink = sym (ap (λ c. kind c h) layer_a) ∙ is in
            let lo : IsSome (name a h) × (size a h ≤ MAX_TARGET_SIZE) = q.same.short q.path q.first h q.has q.final ka in
            let na : size_of (kind a h) (size a h) ≡ size a h = ap (λ m. size_of m (size a h)) ka in
            let nb : size_of (kind b h) (size b h) ≡ size a h = ap (λ m. size_of m (size b h)) (sym k ∙ ka) ∙ sym z in
            ap (λ c. take (size_of (kind c h) (size c h)) (drop (option_map_or (data_at h) (name c h) 0) c)) layer_a
            ∙ ap (λ n. take n (drop (option_map_or (data_at h) (name a h) 0) a)) na
            ∙ target_same (name a h) refl ka lo.1 lo.0
            ∙ ap (λ m. take (size a h) (drop m b)) t
            ∙ ap (λ n. take n (drop (option_map_or (data_at h) (name b h) 0) b)) (sym nb)
            ∙ sym (ap (λ c. take (size_of (kind c h) (size c h)) (drop (option_map_or (data_at h) (name c h) 0) c)) layer_b);
      }

-- both take as many blocks
pub blocks_same : (xs ys : List (List ℕ)) → LookSame xs ys → blocks_all xs ≡ blocks_all ys
blocks_same [] [] s = refl
blocks_same (x ∷ xs) (y ∷ ys) s =
    let f : List ℕ → ℕ = λ c. blocks_of (length c) in
    sum_by-cons f x xs ∙ ap (λ n. blocks_of n + blocks_all xs) s.0.long ∙ ap (λ n. f y + n) (blocks_same xs ys s.1)
    ∙ sym (sum_by-cons f y ys)
blocks_same [] (y ∷ ys) s = absurd s
blocks_same (x ∷ xs) [] s = absurd s
