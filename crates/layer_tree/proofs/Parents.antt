-- Each prefix of a shown path is shown, as a directory. The main lemma is in_directory: a run that shows a path shows something above it
-- (gap), and that is not a file (clash).
use Rattle.std.proofs.Common.{◌≡◌, ◌≢◌, ◌∙◌, sym, ap, subst, ℕ, zero, suc, ◌⊎◌, inl, inr, List, [], ◌∷◌, ◌++◌, refl, append_assoc, Option, Some, None, IsSomeAnd}
use Rattle.std.specs.Prelude.{slice_get}
use Rattle.std.specs.List.{AllByRecursion}
use Rattle.romfs_format.specs.declared.head.Kind.{Kind}
use Rattle.romfs_format.specs.declared.head.Kind.TheVariants.{HardLink, Directory, Regular, SymLink, Block, Character, Socket, Fifo}
use Rattle.romfs_format.specs.Fields.{root, kind}
use Rattle.romfs_format.specs.Chains.{Has}
use Rattle.romfs_reader.specs.Images.{IsImage}
use Rattle.romfs_reader.proofs.Keeps.{root_directory}
use Rattle.romfs_reader.proofs.Paths.{one_header}
use Rattle.stack_model.specs.Stack.{Path, IsPlain, IsIn, HasDirectory, Cuts, IsFree, IsTop}
use Rattle.layer_paths.specs.declared.entries.Entry.{Entry}
use Rattle.layer_paths.specs.Trees.{TreeRows, entry_at, IsEntryOf, IsTreeOf}
use Rattle.layer_paths.proofs.Listed.{kind_read}
use Rattle.layer_tree.proofs.Layered.{final_directory, last_member, opened_directory}

-- all layers are sound images
abbrev pub AreImages : List (List ℕ) → Type 0
AreImages layers = AllByRecursion IsImage layers

-- the path without its last name is that of a directory of the layer
above_has : (a : List ℕ) → IsImage a → (q : Path) (n : List ℕ) → IsIn a (q ++ n ∷ []) → HasDirectory a q
above_has a i q n (c, l) = let r = last_member a (root a) q n c l in (r.0, r.1, opened_directory a i r.2.opened)

-- no path is empty that does not lead to the root; else it has a last name
last_name : (q : Path) → (q ≡ []) ⊎ ((p : Path) × (y : List ℕ) × (q ≡ p ++ y ∷ []))
last_name [] = inl refl
last_name (m ∷ q) = elim (last_name q) [ inl e ↦ inr ([], m, ap (λ r. m ∷ r) e) | inr (p, y, e) ↦ inr (m ∷ p, y, ap (λ r. m ∷ r) e) ]

-- a path that is not a directory cuts what would be below it
other_cuts : (a : List ℕ) → IsImage a → (q : Path) (n : List ℕ) (g : ℕ) → IsPlain (q ++ n ∷ []) → Has a q g → kind a g ≢ Directory
    → Cuts a (q ++ n ∷ [])
other_cuts a i q n g p has other = elim (last_name q) [
  | inl e ↦ absurd (let f : root a ≡ g = subst (λ r. Has a r g) e has in other (subst (λ h. kind a h ≡ Directory) f (root_directory a i)))
  | inr (r, y, e) ↦ (
      let in_a : Has a (r ++ y ∷ []) g = subst (λ s. Has a s g) e has in (
        p,
        (
          r,
          y,
          n ∷ [],
          ap (λ s. s ++ n ∷ []) e ∙ append_assoc r (y ∷ []) (n ∷ []),
          (above_has a i r y (g, in_a), inr (inr (g, in_a, other))),
        ),
      ))
]

-- what is cut is cut with one more name, too
longer_cut : (a : List ℕ) (q : Path) (n : List ℕ) → IsPlain (q ++ n ∷ []) → Cuts a q → Cuts a (q ++ n ∷ [])
longer_cut a q n p (pq, (r, y, rest, e, c)) = (p, (r, y, rest ++ n ∷ [], ap (λ s. s ++ n ∷ []) e ∙ append_assoc r (y ∷ rest) (n ∷ []), c))

plain_above : (q : Path) (n : List ℕ) → IsPlain (q ++ n ∷ []) → IsPlain q
plain_above [] n p = tt
plain_above (m ∷ q) n p = (p.0, plain_above q n p.1)

-- a run does not show a path below one that it shows as something other than a directory
clash : (layers : List (List ℕ)) → AreImages layers → (q : Path) (n : List ℕ) (i h j g : ℕ) (a : List ℕ)
    → IsPlain (q ++ n ∷ []) → IsTop layers (q ++ n ∷ []) i h → IsTop layers q j g
    → slice_get layers j ≡ Some a → kind a g ≢ Directory → ⊥
clash [] im q n i h j g a p t u s k = t
clash (b ∷ above) im q n zero h zero g a p t u s k =
    let f : b ≡ a = cc in
    let d = above_has b im.0 q n (h, t.0) in
    k (subst (λ x. kind x g ≡ Directory) f (subst (λ x. kind b x ≡ Directory) (one_header b im.0 q (root b) d.0 g d.1 u.0) d.2))
clash (b ∷ above) im q n zero h (suc j) g a p t u s k = free_clash above im.1 j t.1 u s
  where
    free_clash : (run : List (List ℕ)) → AreImages run → (j : ℕ) → IsFree run (q ++ n ∷ []) → IsTop run q j g → slice_get run j ≡ Some a → ⊥
    free_clash [] im j f u s = u
    free_clash (c ∷ run) im zero f u s = f.0.1 (other_cuts c im.0 q n g p u.0 (let z : c ≡ a = cc in
        subst (λ x. kind x g ≢ Directory) (sym z) k))
    free_clash (c ∷ run) im (suc j) f u s = free_clash run im.1 j f.1 u s
clash (b ∷ above) im q n (suc i) h zero g a p t u s k = has_clash above im.1 i t u.1
  where
    has_clash : (run : List (List ℕ)) → AreImages run → (i : ℕ) → IsTop run (q ++ n ∷ []) i h → IsFree run q → ⊥
    has_clash [] im i t f = t
    has_clash (c ∷ run) im zero t f = let d = above_has c im.0 q n (h, t.0) in f.0.0 (d.0, d.1)
    has_clash (c ∷ run) im (suc i) t f = has_clash run im.1 i t f.1
clash (b ∷ above) im q n (suc i) h (suc j) g a p t u s k = clash above im.1 q n i h j g a p t u s k

-- a run that shows a path, and shows nothing one name above it, is none
gap : (layers : List (List ℕ)) → AreImages layers → (q : Path) (n : List ℕ) (i h : ℕ) → IsPlain (q ++ n ∷ [])
    → IsTop layers (q ++ n ∷ []) i h → ((j g : ℕ) → ¬ IsTop layers q j g) → ⊥
gap [] im q n i h p t none = t
gap (a ∷ above) im q n zero h p t none = let d = above_has a im.0 q n (h, t.0) in
    none zero d.0 (d.1, free above im.1 (λ j g u. none (suc j) g u) t.1)
  where
    free : (run : List (List ℕ)) → AreImages run → ((j g : ℕ) → ¬ IsTop run q j g) → IsFree run (q ++ n ∷ []) → IsFree run q
    free [] im none f = tt
    free (c ∷ run) im none f =
        let up = free run im.1 (λ j g u. none (suc j) g u) f.1 in
        ((λ x. none zero x.0 (x.1, up), λ x. f.0.1 (longer_cut c q n p x)), up)
gap (a ∷ above) im q n (suc i) h p t none = gap above im.1 q n i h p t (λ j g u. none (suc j) g u)

-- a kind is a directory's, or is not
pub is_directory_or_not : (k : Kind) → (k ≡ Directory) ⊎ (k ≢ Directory)
is_directory_or_not Directory = inl refl
is_directory_or_not HardLink = inr (λ e. cc)
is_directory_or_not Regular = inr (λ e. cc)
is_directory_or_not SymLink = inr (λ e. cc)
is_directory_or_not Block = inr (λ e. cc)
is_directory_or_not Character = inr (λ e. cc)
is_directory_or_not Socket = inr (λ e. cc)
is_directory_or_not Fifo = inr (λ e. cc)

module _ (first : ℕ) (layers : List (List ℕ)) (im : AreImages layers) (t : TreeRows)
    (is : IsTreeOf first layers t) (q : Path) (n : List ℕ) (e : Entry)
    (below : entry_at t (q ++ n ∷ []) ≡ Some e) where
  by_above : (o : Option Entry) → entry_at t q ≡ o → IsSomeAnd o (λ d. d.kind ≡ Directory)
  by_above None f =
      let w = is.only (q ++ n ∷ []) e below in
      absurd (gap layers im q n w.0 w.1 w.2.0 w.2.1 (λ j g u. subst
      (λ o. IsSomeAnd o (λ x. IsEntryOf first layers j g x)) f
      (is.shown q j g (plain_above q n w.2.0, u))))
  by_above (Some d) f =
      let w = is.only (q ++ n ∷ []) e below in
      let u = is.only q d f in
      elim (is_directory_or_not d.kind) [
        | inl k ↦ k
        | inr k ↦ absurd (clash layers im q n w.0 w.1 u.0 u.1 u.3.end.0 w.2.0 w.2.1 u.2.1 u.3.end.1
            (λ x. k (kind_read u.3.end.0 d u.3.end.3 ∙ final_directory u.3.end.0 u.1 d.place.header u.3.end.2 x)))
      ]

  -- one name above an entry of a tree there is a directory
  pub in_directory : IsSomeAnd (entry_at t q) (λ d. d.kind ≡ Directory)
  in_directory = by_above (entry_at t q) refl
