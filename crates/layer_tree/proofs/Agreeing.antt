-- Two trees of one run have the same entries and cut the same. A tree shows and cuts exactly what its run does, and a header has one entry
-- in a run (one_entry): so both have the same at each path.
use Rattle.std.proofs.Common.{◌≡◌, ◌∙◌, sym, ap, subst, ℕ, List, refl, Option, Some, None, Bool, true, false}
use Rattle.romfs_format.specs.Heads.{head_of}
use Rattle.romfs_format.specs.Links.{IsFinal}
use Rattle.stack_model.specs.Stack.{Path}
use Rattle.layer_paths.specs.declared.entries.Entry.{Entry}
use Rattle.layer_paths.specs.Trees.{TreeRows, entry_at, entry_of, cuts_at, IsEntryOf, IsTreeOf}
use Rattle.layer_tree.proofs.Joining.{some_and}
use Rattle.layer_paths.proofs.Listed.{one_end}

-- a header has one entry in a run
one_entry : (first : ℕ) (layers : List (List ℕ)) (i h : ℕ) (e f : Entry) → IsEntryOf first layers i h e → IsEntryOf first layers i h f
    → e ≡ f
one_entry first layers i h e f w x =
    let z : Some w.end.0 ≡ Some x.end.0 = sym w.end.1 ∙ x.end.1 in
    let b : w.end.0 ≡ x.end.0 = cc in
    let header : e.place.header ≡ f.place.header = one_end x.end.0 h _ _ (subst (λ a. IsFinal a h e.place.header) b w.end.2) x.end.2 in
    let layer : e.place.layer ≡ f.place.layer = w.layer ∙ sym x.layer in
    w.end.3 ∙ ap (λ l. entry_of l (head_of w.end.0 e.place.header)) layer
    ∙ ap (λ a. entry_of f.place.layer (head_of a e.place.header)) b
    ∙ ap (λ p. entry_of f.place.layer (head_of x.end.0 p)) header ∙ sym x.end.3

module _ (first : ℕ) (layers : List (List ℕ)) (s t : TreeRows) (is : IsTreeOf first layers s) (it : IsTreeOf first layers t) where
  by_entry : (path : Path) (o p : Option Entry) → entry_at s path ≡ o → entry_at t path ≡ p → o ≡ p
  by_entry path None None e f = refl
  by_entry path (Some x) p e f =
      let w = is.only path x e in
      let y = some_and (IsEntryOf first layers w.0 w.1) (entry_at t path) (it.shown path w.0 w.1 w.2) in
      ap Some (one_entry first layers w.0 w.1 x y.0 w.3 y.2) ∙ sym y.1 ∙ f
  by_entry path None (Some x) e f =
      let w = it.only path x f in
      let y = some_and (IsEntryOf first layers w.0 w.1) (entry_at s path) (is.shown path w.0 w.1 w.2) in
      absurd (let z = y.1 in cc)

  -- two trees of one run show the same entry at each path, or both none
  pub same_entries : (path : Path) → entry_at s path ≡ entry_at t path
  same_entries path = by_entry path (entry_at s path) (entry_at t path) refl refl

  by_cut : (path : Path) (a b : Bool) → cuts_at s path ≡ a → cuts_at t path ≡ b → a ≡ b
  by_cut path true true e f = refl
  by_cut path false false e f = refl
  by_cut path true false e f = absurd (let z = (it.cuts path).1 ((is.cuts path).0 e) in cc)
  by_cut path false true e f = absurd (let z = (is.cuts path).1 ((it.cuts path).0 f) in cc)

  -- two trees of one run cut the same paths
  pub same_cuts : (path : Path) → cuts_at s path ≡ cuts_at t path
  same_cuts path = by_cut path (cuts_at s path) (cuts_at t path) refl refl
